-- The call that waits for an answer is found first, and then what it is to do.
use Rattle.std.proofs.Common.{◌≡◌, ◌==◌, ℕ, true, false, if◌then◌else◌, List, Option, Some, None, option_map, refl, filter, not}
use Rattle.std.specs.Option.{option_map_or}
use Rattle.vp_model.specs.Types.{TxnId, Call, Obstacle, Pending, Live, Ending}
use Rattle.vp_model.specs.Types.call
use Rattle.vp_model.specs.Types.obstacle
use Rattle.vp_model.specs.Words.{for_some, has, is_empty}
use Rattle.vp_model.specs.Catalogue.{Catalogue, find_record}
use Rattle.vp_model.specs.Site.{Lent}
use Rattle.vp_base.specs.declared.site.Ending.TheVariants.{LockHeld, Inaccessible}
use Rattle.vp_model.specs.Transactions.{live_of, close, decide, complete}
use Rattle.vp_model.specs.Calls.{answer_read, change_asked}
use Rattle.vp_model.specs.Answers.{record_name, with_missing, count_in, read_answered, on_read_answer, write_answered, on_write_answer, refused_by, on_refuse, voted, on_vote}
use Rattle.vp_transactions.specs.declared.handled.Handled.{Handled}
use Rattle.vp_transactions.specs.Waiting.{with_call, pending_for, waiting_call}
use Rattle.vp_coordinator.specs.Answered.{wanted_read, wanted_change, is_commit, refused_end, refusal, refusal_at}

module _ (from : ℕ) (f : Live → Pending → Lent → Lent) (l : Lent) where
  if_waiting : (t : Live) (q : Option Pending) → for_some q (λ p l. if has p.missing from then f t p l else l) l ≡ for_some (option_map (with_call t) (option_map_or (λ p. if has p.missing from then Some p else None) q None)) (λ (h : Handled). f h.live h.pending) l
  if_waiting t None = refl
  if_waiting t (Some p) =
      elim (has p.missing from) as (λ b. (if b then f t p l else l) ≡ for_some (option_map (with_call t) (if b then Some p else None)) (λ (h : Handled). f h.live h.pending) l)
      [ true ↦ refl | false ↦ refl ]

  pub taken_up : (txn : TxnId) → with_missing txn from f l ≡ for_some (waiting_call txn from l.live) (λ (h : Handled). f h.live h.pending) l
  unfolding with_missing
  taken_up txn =
      elim (live_of txn l.live) as (λ found. for_some found (λ t. for_some t.pending (λ p l. if has p.missing from then f t p l else l)) l ≡ for_some (option_map_or (λ t. option_map (with_call t) (pending_for from t)) found None) (λ (h : Handled). f h.live h.pending) l)
      [ None ↦ refl | Some t ↦ if_waiting t t.pending ]

module _ (catalogue : Catalogue) (from number : ℕ) (t : Live) (p : Pending) (l : Lent) where
  pub read_wanted : (value : Option (List ℕ)) (words : Call) → read_answered catalogue from number value t p words l ≡ for_some (wanted_read catalogue number p words) (λ rec. count_in from t p (answer_read t p rec value)) l
  read_wanted value (call.Read txn n name) =
      elim (p.number == number) as (λ b. (if b then for_some (find_record catalogue name) (λ rec. count_in from t p (answer_read t p rec value)) l else l) ≡ for_some (if b then find_record catalogue name else None) (λ rec. count_in from t p (answer_read t p rec value)) l)
      [ true ↦ refl | false ↦ refl ]
  read_wanted value (call.Write txn n name v) = refl
  read_wanted value (call.Delete txn n name) = refl
  read_wanted value (call.Weigh txn n name table) = refl
  read_wanted value (call.Commit txn n) = refl
  read_wanted value (call.Abort txn n) = refl
  read_wanted value call.Begin = refl
  read_wanted value call.Regroup = refl

  pub change_wanted : write_answered catalogue from number t p l ≡ for_some (wanted_change catalogue number p) (λ deed. count_in from t p (complete t p deed)) l
  change_wanted =
      elim (p.number == number) as (λ b. (if b then for_some (change_asked catalogue p.call) (λ deed. count_in from t p (complete t p deed)) l else l) ≡ for_some (if b then change_asked catalogue p.call else None) (λ deed. count_in from t p (complete t p deed)) l)
      [ true ↦ refl | false ↦ refl ]

module _ (catalogue : Catalogue) (from : ℕ) (txn : TxnId) (number : ℕ) (l : Lent) where
  pub read_waits : (value : Option (List ℕ)) → on_read_answer catalogue from txn number value l ≡ for_some (waiting_call txn from l.live) (λ (h : Handled). read_answered catalogue from number value h.live h.pending h.pending.call) l
  unfolding on_read_answer
  read_waits value = taken_up from (λ t p. read_answered catalogue from number value t p p.call) l txn

  pub write_waits : on_write_answer catalogue from txn number l ≡ for_some (waiting_call txn from l.live) (λ (h : Handled). write_answered catalogue from number h.live h.pending) l
  unfolding on_write_answer
  write_waits = taken_up from (write_answered catalogue from number) l txn

pub vote_counts : (catalogue : Catalogue) (id from : ℕ) (t : Live) (p : Pending) (words : Call) (l : Lent) → voted catalogue id from t p words l ≡ (if is_commit words then count_in from t p (decide catalogue id t) l else l)
vote_counts catalogue id from t p (call.Read txn n name) l = refl
vote_counts catalogue id from t p (call.Write txn n name value) l = refl
vote_counts catalogue id from t p (call.Delete txn n name) l = refl
vote_counts catalogue id from t p (call.Weigh txn n name table) l = refl
vote_counts catalogue id from t p (call.Commit txn n) l = refl
vote_counts catalogue id from t p (call.Abort txn n) l = refl
vote_counts catalogue id from t p call.Begin l = refl
vote_counts catalogue id from t p call.Regroup l = refl

pub vote_waits : (catalogue : Catalogue) (id from : ℕ) (txn : TxnId) (l : Lent) → on_vote catalogue id from txn l ≡ for_some (waiting_call txn from l.live) (λ (h : Handled). voted catalogue id from h.live h.pending h.pending.call) l
unfolding on_vote
vote_waits catalogue id from txn l = taken_up from (λ t p. voted catalogue id from t p p.call) l txn

pub ruleset questions = (read_wanted, change_wanted, vote_counts)

module _ (id from : ℕ) (t : Live) (l : Lent) where
  named_ends : (why : List ℕ → Ending) (name : Option (List ℕ)) → for_some name (λ name. close id t (why name)) l ≡ for_some (option_map why name) (close id t) l
  named_ends why None = refl
  named_ends why (Some name) = refl

  refused_ends : (why : Obstacle) (words : Call) → refused_by id why words from t l ≡ for_some (refused_end from why t.view words) (close id t) l
  refused_ends (obstacle.Held holder) words = named_ends (λ name. LockHeld name from holder) (record_name words)
  refused_ends (obstacle.OtherView now) words = refl
  refused_ends (obstacle.Barred inside total) words = named_ends (λ name. Inaccessible name inside total) (record_name words)

  pub refusal_ends : (number : ℕ) (why : Obstacle) (p : Pending) → (if p.number == number then refused_by id why p.call from t l else l) ≡ for_some (refusal from number why t.view p) (close id t) l
  refusal_ends number why p =
      elim (p.number == number) as (λ b. (if b then refused_by id why p.call from t l else l) ≡ for_some (if b then refused_end from why t.view p.call else None) (close id t) l)
      [ true ↦ refused_ends why p.call | false ↦ refl ]

ended_so : (id from number : ℕ) (why : Obstacle) (l : Lent) (txn : TxnId) → for_some (waiting_call txn from l.live) (λ (h : Handled) l. if h.pending.number == number then refused_by id why h.pending.call from h.live l else l) l ≡ for_some (waiting_call txn from l.live) (λ (h : Handled). refusal_at id from number why h.live h.pending) l
ended_so id from number why l txn =
    elim (waiting_call txn from l.live) as (λ found. for_some found (λ (h : Handled) l. if h.pending.number == number then refused_by id why h.pending.call from h.live l else l) l ≡ for_some found (λ (h : Handled). refusal_at id from number why h.live h.pending) l)
    [ None ↦ refl | Some h ↦ refusal_ends id from h.live l number why h.pending ]

pub refuse_waits : (id from number : ℕ) (txn : TxnId) (why : Obstacle) (l : Lent) → on_refuse id from txn number why l ≡ for_some (waiting_call txn from l.live) (λ (h : Handled). refusal_at id from number why h.live h.pending) l
unfolding on_refuse
refuse_waits id from number txn why l =
    rw (← ended_so id from number why l txn) (taken_up from (λ t p l. if p.number == number then refused_by id why p.call from t l else l) l txn)

pub ruleset awaited = (read_waits, write_waits, vote_waits, refuse_waits)

-- no site is missing any more
pub counted_all : (from : ℕ) (t : Live) (p : Pending) (done : Lent → Lent) (l : Lent) → is_empty (filter (λ q. not (q == from)) p.missing) ≡ true → count_in from t p done l ≡ done l
counted_all from t p done l e = rw e refl
