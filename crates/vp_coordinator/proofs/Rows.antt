-- A row that puts the transaction in its place, or ends it, does the same whatever was there before.
use Rattle.std.proofs.Common.{◌≡◌, ℕ, true, false, if◌then◌else◌, List, Some, refl, ap}
use Rattle.vp_model.specs.Types.{Live, Pending, Ending}
use Rattle.vp_model.specs.Words.{is_empty}
use Rattle.vp_model.specs.Catalogue.{Catalogue}
use Rattle.vp_model.specs.Site.{Lent, with_reply}
use Rattle.vp_model.specs.Transactions.{Deed, with_done, deed_answer, entry_of, last_changes, finish, close, keep_writes, decided, decide, complete, wait_for}
use Rattle.vp_model.specs.Calls.{handling}
use Rattle.vp_coordinator.specs.InPlace.{in_place}
use Rattle.vp_transactions.proofs.Hands.{put_live_again, drop_live_again}

module _ (t : Live) (p : Pending) (l : Lent) where
  pub complete_in_place : (deed : Deed) → complete t p deed (in_place t l) ≡ complete t p deed l
  unfolding complete
  complete_in_place deed =
      let a = deed_answer t.txn p.number deed in
      ap (λ live. record { coordinator = record l.coordinator { live = live }; here = l.here; effects = with_reply a p.port l.effects }) (put_live_again t (with_done deed a t) l.coordinator.live refl)

  pub close_in_place : (id : ℕ) (why : Ending) → close id (handling t p) why (in_place t l) ≡ close id (handling t p) why l
  unfolding close finish
  close_in_place id why = rw (drop_live_again t l.coordinator.live) refl

  pub decide_in_place : (catalogue : Catalogue) (id : ℕ) → decide catalogue id (handling t p) (in_place t l) ≡ decide catalogue id (handling t p) l
  unfolding decide keep_writes decided finish
  decide_in_place catalogue id =
      elim (is_empty (last_changes (entry_of t))) as (λ b. decided id (handling t p) (if b then in_place t l else keep_writes catalogue id (handling t p) (in_place t l)) ≡ decided id (handling t p) (if b then l else keep_writes catalogue id (handling t p) l))
      [ true ↦ rw (drop_live_again t l.coordinator.live) refl | false ↦ rw (drop_live_again t l.coordinator.live) refl ]

-- the same where the pending call is the transaction's own
module _ (t : Live) (l : Lent) where
  pub close_own : (id : ℕ) (why : Ending) → close id t why (in_place t l) ≡ close id t why l
  unfolding close finish
  close_own id why = rw (drop_live_again t l.coordinator.live) refl

  pub decide_own : (catalogue : Catalogue) (id : ℕ) → decide catalogue id t (in_place t l) ≡ decide catalogue id t l
  unfolding decide keep_writes decided finish
  decide_own catalogue id =
      elim (is_empty (last_changes (entry_of t))) as (λ b. decided id t (if b then in_place t l else keep_writes catalogue id t (in_place t l)) ≡ decided id t (if b then l else keep_writes catalogue id t l))
      [ true ↦ rw (drop_live_again t l.coordinator.live) refl | false ↦ rw (drop_live_again t l.coordinator.live) refl ]

pub wait_in_place : (t : Live) (p : Pending) (sites : List ℕ) (l : Lent) → wait_for t p sites (in_place t l) ≡ wait_for t p sites l
wait_in_place t p sites l =
    ap (λ live. record { coordinator = record l.coordinator { live = live }; here = l.here; effects = l.effects }) (put_live_again t (record t { pending = Some (record p { missing = sites }) }) l.coordinator.live refl)

pub ruleset in_places = (complete_in_place, close_in_place, decide_in_place)
