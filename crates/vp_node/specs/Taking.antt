-- What a site does with what comes.
use Rattle.std.specs.Prelude.{◌≡◌, ℕ}
use Rattle.std.specs.List.{AllByRecursion}
use Rattle.vp_model.specs.Types.{Input, Sent, Reply, Effects}
use Rattle.vp_model.specs.Catalogue.{Catalogue}
use Rattle.vp_model.specs.Site.{SiteState}
use Rattle.vp_model.specs.Step.{step}
use Rattle.vp_laws.specs.ShapeLaws.{message_frame, reply_frame}
use Rattle.vp_wire.specs.Grammar.{IsFrame}
use Rattle.vp_runs.specs.declared.arrival.Arrival.{Arrival}
use Rattle.vp_runs.specs.declared.arrival.Arrival.TheVariants.{Gives}
use Rattle.vp_runs.specs.Turns.{Turn, datagrams_of}
use Rattle.vp_node.specs.declared.turned.TurnEffects.{TurnEffects}

-- Whatever this site has to send of these effects, messages and replies, is well formed, so that it can be encoded as a frame.
pub record AreFrames (id : ℕ) (effects : Effects) : Type 0 where
  pub messages_are : AllByRecursion (λ (sent : Sent). IsFrame (message_frame sent)) effects.messages
  pub replies_are : AllByRecursion (λ (reply : Reply). IsFrame (reply_frame id reply)) effects.replies

-- The site with this number has done the turn, and these are its effects: what they have to send are the turn's datagrams.
pub record Does (catalogue : Catalogue) (id : ℕ) (turn : Turn) (site : SiteState) (turn_effects : TurnEffects) : Type 0 where
  pub site_is : site ≡ turn.site
  pub records_are : turn_effects.effects.records ≡ turn.batch
  pub datagrams_are : datagrams_of catalogue id turn_effects.effects ≡ turn.datagrams
  pub commits_are : turn_effects.effects.commits ≡ turn.commits
  pub stop_is : turn_effects.stop ≡ turn.stop

-- If an input came, the site did its step, with these effects.
abbrev pub IsStepOf : Catalogue → SiteState → Arrival → SiteState → Effects → Type 0
IsStepOf catalogue site what after effects = (given : Input) → what ≡ Gives given → record { site = after; effects = effects } ≡ step catalogue site given
