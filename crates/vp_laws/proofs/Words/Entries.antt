-- The laws of entries and doubts in the words of the contracts.
use Rattle.std.proofs.Common.{inl, inr, ◌≡◌, ◌≢◌, ◌∙◌, sym, subst, ℕ, true, false, List, [], ◌∷◌, refl, arith}
use Rattle.std.specs.Prelude.{Option, Some, None}
use Rattle.std.proofs.lemmas.Bool.Decides.{nat_tests}
use Rattle.std.proofs.lemmas.List.Kept.{AllPairs-cons}
use Rattle.std.proofs.lemmas.List.Elements.{All-from_recursion}
use Rattle.vp_model.specs.Types.{Change, ViewId, View, TxnId, Commit, Doubt}
use Rattle.vp_model.specs.Types.message
use Rattle.vp_model.specs.Words.{same_txn}
use Rattle.vp_model.specs.World.{Place, Schedule, run_of, journal_of, place_of}
use Rattle.vp_model.specs.Catalogue.{Table, accessible_by}
use Rattle.vp_model.specs.Headline.{IsOnce}
use Rattle.vp_model.specs.OneCopy.{order}
use Rattle.vp_laws.specs.Catalogues.{IsWhole}
use Rattle.vp_laws.specs.Entries.{doubts_in, VotesLeaveDoubts, record_in, table_in_force, EntriesAreAccessible, TablesAreAccessible}
use Rattle.vp_laws.proofs.Lists.Members.{has_of, contains, all_of}
use Rattle.vp_laws.proofs.Worlds.Scenes.{scene_of, kept_in}
use Rattle.vp_laws.proofs.Invariant.Closed.{InForce}
use Rattle.vp_laws.proofs.Journal.TableContents.{table_same}
use Rattle.vp_laws.proofs.Journal.UpTo.{under}
use Rattle.vp_laws.proofs.Invariant.Ops.{op_used}
use Rattle.vp_laws.proofs.Worlds.Events.{in_last}
use Rattle.vp_laws.proofs.Invariant.Invariant.{Invariant}
use Rattle.vp_laws.proofs.Invariant.Known.{Known}
use Rattle.vp_laws.proofs.Order.Invariant.{invariant_last}
use Rattle.vp_laws.proofs.Keeping.Known.{known_last}
use Rattle.vp_laws.proofs.Journal.Places.{Once}

differ : (a b : TxnId) → b ≢ a → same_txn a b ≡ false
differ a b n = grind (arith, nat_tests, n)

once_pairs : (journal : List Commit) → Once journal → IsOnce journal
once_pairs [] h = λ i j d l k. absurd (omega arith)
once_pairs (c ∷ journal) h =
    AllPairs-cons (λ (a : Commit) (b : Commit). same_txn a.txn b.txn ≡ false) c journal
    (All-from_recursion (λ (b : Commit). same_txn c.txn b.txn ≡ false) journal (all_of (λ (b : Commit). same_txn c.txn b.txn ≡ false) journal (λ b k. differ c.txn b.txn (h.0 b k)))) (once_pairs journal h.1)

pub committed_once : (s : Schedule) → IsOnce (journal_of s)
committed_once s = once_pairs (journal_of s) (in_last s.catalogue (Known s.catalogue) (known_last s.catalogue) s.events).ends.once

doubts_same : (o : Option Place) → doubts_in o ≡ (kept_in o).doubts
doubts_same None = refl
doubts_same (Some p) = refl

pub doubted : (s : Schedule) → VotesLeaveDoubts s.catalogue (run_of s).world
doubted s from to txn x t sent up live same some =
    let w = (run_of s).world in
    let known = in_last s.catalogue (Known s.catalogue) (known_last s.catalogue) s.events in
    let d = known.shares.says _ (has_of w.sent (record { from = from; to = to; message = message.Vote txn }) sent) x t up (has_of x.live t live) same some in
    let q = known.shares.doubts from d.0 d.1 in
    let p = known.votes.prepared _ q.0.3 x t (rw d.2 up) (has_of x.live t live) (same ∙ sym d.2) in
    let is = doubt_is d.0 txn t.view _ d.2 p.in_view p.has_written in
    contains _ _ (rw (doubts_same (place_of from w.places), ← is) d.1)
  where
    doubt_is : (d : Doubt) (txn : TxnId) (view : ViewId) (writes : List (ℕ × Change)) → d.txn ≡ txn → view ≡ d.view → writes ≡ d.writes → d ≡ (record { txn = txn; view = view; writes = writes })
    doubt_is d txn view writes a b c = rw (← a, b, c) refl

pub entered : (s : Schedule) → IsWhole s.catalogue → EntriesAreAccessible s.catalogue (run_of s).world
entered s whole e h =
    let w = (run_of s).world in
    let inv = in_last s.catalogue (Invariant s.catalogue) (invariant_last s.catalogue whole) s.events in
    let there = has_of w.journal e h in
    let q = inv.known.led.entry e there in (
      q.0,
      contains w.agreed q.0 q.1,
      q.2,
      contains q.0.members e.txn.site q.3,
      (λ operation k. in_force (record_in operation) q.0 (inv.refresh.entry e q.0 (record_in operation) there (q.1, q.2) (inl (op_used e.ops operation (has_of e.ops operation k)))).usable),
      (λ rec k. in_force rec q.0 (inv.refresh.entry e q.0 rec there (q.1, q.2) (inr (has_of _ rec k))).usable),
    )
  where
    in_force : (rec : ℕ) (v : View) → InForce s.catalogue (scene_of (run_of s).world) rec v → accessible_by (table_in_force s.catalogue (run_of s).world.journal rec v.id) v.members ≡ true
    in_force rec v a = subst (λ (t : Table). accessible_by t v.members ≡ true) (sym (table_same s.catalogue rec (under v.id (order (run_of s).world.journal)))) a

pub weighed : (s : Schedule) → IsWhole s.catalogue → TablesAreAccessible s.catalogue (run_of s).world
weighed s whole e rec table h gave =
    let w = (run_of s).world in
    let inv = in_last s.catalogue (Invariant s.catalogue) (invariant_last s.catalogue whole) s.events in
    let there = has_of w.journal e h in
    let q = inv.known.led.entry e there in
    let may = inv.refresh.weighed e q.0 rec table there (q.1, q.2) gave in
    (q.0, contains w.agreed q.0 q.1, q.2, may.holders, may.enough)
