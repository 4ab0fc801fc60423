-- A doubt whose commit comes has the changes of the transaction's entry, so it changes no record twice.
use Rattle.std.proofs.Common.{◌≡◌, subst, ℕ, true, List}
use Rattle.vp_model.specs.Types.{Change, Input, Message}
use Rattle.vp_model.specs.Types.message
use Rattle.vp_model.specs.Words.{keys}
use Rattle.vp_model.specs.Catalogue.{Catalogue}
use Rattle.vp_model.specs.Durable.{DurableState}
use Rattle.vp_model.specs.Site.{SiteState}
use Rattle.vp_model.specs.Step.{durable_of}
use Rattle.vp_laws.proofs.Lists.Members.{Has}
use Rattle.vp_laws.proofs.Lists.Pairs.{Differ}
use Rattle.vp_laws.proofs.Moves.LocalViews.{letter}
use Rattle.vp_laws.proofs.Moves.Table.{Comes}
use Rattle.vp_laws.proofs.Worlds.Scenes.{Scene, kept_at}
use Rattle.vp_laws.proofs.Table.Copies.{OnceEach, held_differ}
use Rattle.vp_laws.proofs.Invariant.Endings.{InvEndings}
use Rattle.vp_laws.proofs.Invariant.Shares.{InvShares}

pub once_each : (catalogue : Catalogue) (w : Scene) (s : ℕ) (x : SiteState) (given : Input) → durable_of x ≡ kept_at w s → InvEndings w → InvShares catalogue w → ((from : ℕ) (m : Message) → Comes given from m → Has w.sent (letter from s m)) → OnceEach x given
once_each catalogue w s x given kept ends shares came from d comes h =
    let e = (ends.told (letter from s (message.Outcome d.txn true)) (came from _ comes)).1 in
    let q = shares.doubts s d (subst (λ (k : DurableState). Has k.doubts d) kept h) in
    let says = shares.entry e.0 e.1 q.0.0 s d.view q.0.1 q.0.2 d.writes (rw e.2 q.0.3) in
    subst (λ (ws : List (ℕ × Change)). Differ (keys ws)) says.1 (held_differ catalogue s e.0)
