-- The effects of a step have the form of frames, and are those of its turn.
use Rattle.std.proofs.Common.{◌≡◌, refl, ℕ, true, false, List, [], ◌∷◌, length, ◌<◌, subst, arith}
use Rattle.std.proofs.lemmas.Bool.{false≢true}
use Rattle.std.specs.List.{AllByRecursion}
use Rattle.vp_model.specs.Types.{Sent, Reply, Effects}
use Rattle.vp_model.specs.Words.{has, keys}
use Rattle.vp_model.specs.Catalogue.{Catalogue, sites_of}
use Rattle.vp_model.specs.Site.{Stepped}
use Rattle.vp_catalog.specs.Document.{IsCatalogueSoFar, IsCatalogue}
use Rattle.vp_laws.specs.Shapes.{IsSent, IsReply, AreShaped}
use Rattle.vp_laws.specs.ShapeLaws.{GivenAreFrames, message_frame, reply_frame}
use Rattle.vp_wire.specs.Grammar.{IsFrame}
use Rattle.vp_runs.specs.Turns.{step_turn}
use Rattle.vp_node.specs.Taking.{AreFrames, Does}

module _ (catalogue : Catalogue) (id : ℕ) (frames : GivenAreFrames) (is : IsCatalogue catalogue) (listed : has (sites_of catalogue) id ≡ true) where
  messages_are_frames : (messages : List Sent) → AllByRecursion (IsSent id) messages → AllByRecursion (λ (sent : Sent). IsFrame (message_frame sent)) messages
  messages_are_frames [] all = tt
  messages_are_frames (sent ∷ messages) all = (frames.sent catalogue id sent is listed all.0, messages_are_frames messages all.1)

  replies_are_frames : (replies : List Reply) → AllByRecursion IsReply replies → AllByRecursion (λ (reply : Reply). IsFrame (reply_frame id reply)) replies
  replies_are_frames [] all = tt
  replies_are_frames (reply ∷ replies) all = (frames.reply catalogue id reply is listed all.0, replies_are_frames replies all.1)

  pub are_frames : (e : Effects) → AreShaped id e → AreFrames id e
  are_frames e shaped = record { messages_are = messages_are_frames e.messages shaped.messages_are; replies_are = replies_are_frames e.replies shaped.replies_are }

-- what a step sends and commits is its turn
pub does : (catalogue : Catalogue) (id : ℕ) (o : Stepped) → Does catalogue id (step_turn catalogue id o) o.site (record { effects = o.effects; stop = false })
does catalogue id o = record { site_is = refl; records_are = refl; datagrams_are = refl; commits_are = refl; stop_is = refl }

-- a catalogue that has some site has one
pub is_catalogue : (catalogue : Catalogue) (id : ℕ) → IsCatalogueSoFar catalogue → has (sites_of catalogue) id ≡ true → IsCatalogue catalogue
is_catalogue catalogue id so_far listed = record { some = by catalogue.sites refl; so_far = so_far }
  where
    by : (sites : List (ℕ × ℕ)) → catalogue.sites ≡ sites → 0 < length catalogue.sites
    by [] e = absurd (false≢true (subst (λ sites. has (keys sites) id ≡ true) e listed))
    by (s ∷ sites) e = rw e (omega arith)
