-- Live and finished transactions after the coordinator's moves.
use Rattle.std.proofs.Common.{◌≡◌, ◌≤◌, ◌<◌, ◌∙◌, ap, sym, subst, ℕ, suc, ◌+◌, ◌*◌, ◌^◌, true, false, List, [], ◌∷◌, ◌++◌, refl, arith, length}
use Rattle.std.specs.Prelude.{sum_by, Option, Some, None, IfSome, filter, option_map, option_to_list, is_some, ◌==◌, nat_lt}
use Rattle.std.specs.List.{AllByRecursion}
use Rattle.std.proofs.lemmas.List.{length-append}
use Rattle.std.proofs.lemmas.List.Sums.{sum_by-cons, fold-append}
use Rattle.std.proofs.lemmas.Bool.Decides.{nat_tests}
use Rattle.vp_base.specs.Identifiers.{IsView, IsTxn}
use Rattle.vp_base.specs.Calls.{IsNumbered, IsCall}
use Rattle.vp_bytes.specs.Fields.{IsSite, IsRecord, IsSites, IsRecs, IsAscending, IsCallNumber}
use Rattle.vp_model.specs.Types.{ViewId, TxnId, Answer, Call, Pending, Live, Ending}
use Rattle.vp_base.specs.declared.site.Ending.TheVariants.{Committed, Aborted, LockHeld, ViewChanged, TimedOut, Inaccessible}
use Rattle.vp_model.specs.Types.call
use Rattle.vp_model.specs.Types.op
use Rattle.vp_model.specs.Words.{same_txn, put_at, put_number, for_each}
use Rattle.vp_model.specs.Catalogue.{Catalogue, Table}
use Rattle.vp_model.specs.Site.{CoordinatorState}
use Rattle.vp_model.specs.Transactions.{Deed, with_op, last_writes, with_deed, with_operation, with_table, with_done, deed_answer, put_live, answer_of, answers_after, with_finished}
use Rattle.vp_model.specs.Calls.{change_asked, content_size, size_of, is_too_large, begun, with_begun, handling, records_read_at}
use Rattle.vp_model.specs.Step.{marked_call, mark, with_marks, least_of, least_missing, is_marked_call}
use Rattle.vp_laws.specs.Shapes.{IsAnswer, IsOp, IsGiven, IsPending, operates, asked, IsLive, IsEnding, IsFinished, IsCoordinator}
use Rattle.vp_contents.specs.Contents.{IsContent}
use Rattle.vp_base.specs.Tables.{IsTable}
use Rattle.vp_contents.specs.declared.version.Version.TheVariants as versions
use Rattle.vp_laws.proofs.Lists.Keeps.{by_test}
use Rattle.vp_laws.proofs.Lists.Items.{all_put, all_and_one, all_append, all_change, all_without, all_most, all_map, all_filter}
use Rattle.vp_laws.proofs.Shapes.Numbers.{ascending_put, length_put, length_filter}

-- ---- the size of what was written

abbrev Content : Type 0
Content = ℕ × Option (List ℕ)

abbrev size : List Content → ℕ
size ws = sum_by (λ (w : Content). content_size w.1) ws

-- what is put makes it larger by no more than its own size
pub put_size : (rec : ℕ) (content : Option (List ℕ)) (ws : List Content) → size (put_at rec content ws) ≤ size ws + content_size content
put_size rec content [] = let one = sum_by-cons (λ (w : Content). content_size w.1) (rec, content) [] in omega (arith, one)
put_size rec content (w ∷ ws) =
    let rest = put_size rec content ws in
    let one = sum_by-cons (λ (w : Content). content_size w.1) w ws in
    let last = sum_by-cons (λ (w : Content). content_size w.1) w (put_at rec content ws) in
    let first = sum_by-cons (λ (w : Content). content_size w.1) (rec, content) ws in
    let both = sum_by-cons (λ (w : Content). content_size w.1) (rec, content) (w ∷ ws) in
    by_test (λ (zs : List Content). size zs ≤ size (w ∷ ws) + content_size content) (rec == w.0) ((rec, content) ∷ ws) _ (λ e. omega (arith, one, first))
    (λ e. by_test (λ (zs : List Content). size zs ≤ size (w ∷ ws) + content_size content) (nat_lt rec w.0) ((rec, content) ∷ w ∷ ws) (w ∷ put_at rec content ws) (λ f. omega (arith, one, both)) (λ f. omega (arith, rest, one, last)))

-- what is done within the limit leaves it so
done_size : (t : Live) (deed : Deed) → size_of t ≤ 15360 → is_too_large t deed ≡ false → size_of (with_deed deed t) ≤ 15360
done_size t (Deed.operates (op.Read rec value)) size fits =
    subst (λ (ws : List Content). sum_by (λ (w : Content). content_size w.1) ws + 50 * length t.tables ≤ 15360) (sym (fold-append with_op [] t.ops (op.Read rec value ∷ []))) size
done_size t (Deed.operates (op.Write rec None)) size fits =
    let less = put_size rec None (last_writes t.ops) in
    subst (λ (ws : List Content). sum_by (λ (w : Content). content_size w.1) ws + 50 * length t.tables ≤ 15360) (sym (fold-append with_op [] t.ops (op.Write rec None ∷ []))) (omega (arith, size, less))
done_size t (Deed.operates (op.Write rec (Some value))) size fits = within _ fits
  where
    within : (n : ℕ) → nat_lt 15360 n ≡ false → n ≤ 15360
    within n e = grind (arith, nat_tests, e)
done_size t (Deed.weighs rec table) size fits = within _ fits
  where
    within : (n : ℕ) → nat_lt 15360 n ≡ false → n ≤ 15360
    within n e = grind (arith, nat_tests, e)

-- ---- in the coordinator's state

pub puts_live : (catalogue : Catalogue) (t : Live) (c : CoordinatorState) → IsLive catalogue t → IsCoordinator catalogue c → IsCoordinator catalogue (put_live t c)
puts_live catalogue t c i h = record { seq_fits = h.seq_fits; live_are = all_change (IsLive catalogue) (λ u. same_txn u.txn t.txn) t c.live i h.live_are; finished_are = h.finished_are; decisions_are = h.decisions_are }

begun_is : (catalogue : Catalogue) (txn : TxnId) (view : ViewId) → IsTxn txn → IsView view → IsLive catalogue (begun txn view)
begun_is catalogue txn view t v = record { txn_is = t; view_is = v; ops_are = tt; tables_are = tt; done_few = omega arith; few = omega arith; remote_are = tt; remote_few = omega arith; parts_are = (omega arith, omega arith, tt); answers_are = tt; pending_is = tt; size_fits = omega arith; asked_fits = λ p deed e a. cc }

pub begins_one : (catalogue : Catalogue) (txn : TxnId) (view : ViewId) (c : CoordinatorState) → IsTxn txn → IsView view → c.seq + 1 < 2 ^ 32 → IsCoordinator catalogue c → IsCoordinator catalogue (with_begun (begun txn view) c)
begins_one catalogue txn view c t v s h = record { seq_fits = s; live_are = all_and_one (IsLive catalogue) c.live (begun txn view) h.live_are (begun_is catalogue txn view t v); finished_are = h.finished_are; decisions_are = h.decisions_are }

-- ---- marks

some_is : (a b : Pending) → Some a ≡ Some b → a ≡ b
some_is a b e = cc

marked_is : (o : Option Pending) → IfSome o IsPending → IfSome (marked_call o) IsPending
marked_is None i = tt
marked_is (Some p) i = record { number_is = i.number_is; port_fits = i.port_fits; words_are = i.words_are; missing_are = i.missing_are }

marked_asked : (o : Option Pending) → asked (marked_call o) ≡ asked o
marked_asked None = refl
marked_asked (Some p) = refl

mark_is : (catalogue : Catalogue) (t : Live) → IsLive catalogue t → IsLive catalogue (mark t)
mark_is catalogue t i = let same = marked_asked t.pending in record { txn_is = i.txn_is; view_is = i.view_is; ops_are = i.ops_are; tables_are = i.tables_are; done_few = i.done_few; few = rw same i.few; remote_are = i.remote_are; remote_few = rw same i.remote_few; parts_are = i.parts_are; answers_are = i.answers_are; pending_is = marked_is t.pending i.pending_is; size_fits = i.size_fits; asked_fits = λ p deed e a. marked_fits t.pending refl p deed e a }
  where
    marked_fits : (o : Option Pending) → t.pending ≡ o → (p : Pending) (deed : Deed) → marked_call o ≡ Some p → change_asked catalogue p.call ≡ Some deed → is_too_large t deed ≡ false
    marked_fits None q p deed e a = cc
    marked_fits (Some was) q p deed e a = i.asked_fits was deed q (ap (λ (p : Pending). change_asked catalogue p.call) (some_is _ p e) ∙ a)

pub marks_are : (catalogue : Catalogue) (c : CoordinatorState) → IsCoordinator catalogue c → IsCoordinator catalogue (with_marks c)
marks_are catalogue c h = record { seq_fits = h.seq_fits; live_are = all_map (IsLive catalogue) (IsLive catalogue) mark (mark_is catalogue) c.live h.live_are; finished_are = h.finished_are; decisions_are = h.decisions_are }

-- ---- an operation is done

pub asked_few : (o : Option Pending) → asked o ≤ 1
asked_few None = omega arith
asked_few (Some p) = go p.call
  where
    go : (words : Call) → operates words ≤ 1
    go (call.Read txn number name) = omega arith
    go (call.Write txn number name value) = omega arith
    go (call.Commit txn number) = omega arith
    go (call.Abort txn number) = omega arith
    go (call.Delete txn number name) = omega arith
    go (call.Weigh txn number name table) = omega arith
    go call.Begin = omega arith
    go call.Regroup = omega arith

pub idle_asked : (o : Option Pending) → is_some o ≡ false → asked o ≡ 0
idle_asked None e = refl
idle_asked (Some p) e = cc

-- what was done can be said
abbrev pub IsDeed : Deed → Type 0
IsDeed (Deed.operates (op.Read rec value)) = IsContent versions.Second value
IsDeed (Deed.operates (op.Write rec value)) = IsRecord rec × IsContent versions.Second value
IsDeed (Deed.weighs rec table) = IsRecord rec × IsTable table

pub deed_said : (txn : TxnId) (number : ℕ) (deed : Deed) → IsNumbered txn number → IsDeed deed → IsAnswer (deed_answer txn number deed)
deed_said txn number (Deed.operates (op.Read rec None)) n i = (tt, n)
deed_said txn number (Deed.operates (op.Read rec (Some value))) n i = (n, i)
deed_said txn number (Deed.operates (op.Write rec None)) n i = (tt, n)
deed_said txn number (Deed.operates (op.Write rec (Some value))) n i = n
deed_said txn number (Deed.weighs rec table) n i = (tt, n)

pub done_is : (catalogue : Catalogue) (t : Live) (deed : Deed) (words : Answer) → IsLive catalogue t → length t.answers + 1 ≤ 64 → IsDeed deed → is_too_large t deed ≡ false → IsAnswer words → IsLive catalogue (with_done deed words t)
done_is catalogue t deed words i room d fits said =
    let answers = length-append t.answers (words ∷ []) in
    let one = asked_few t.pending in
    let remote = i.remote_few in
    record {
      txn_is = i.txn_is;
      view_is = i.view_is;
      ops_are = ops_now deed d;
      tables_are = tables_now deed d;
      done_few = done_now deed;
      few = omega (arith, answers, room);
      remote_are = i.remote_are;
      remote_few = omega (arith, answers, one, remote);
      parts_are = i.parts_are;
      answers_are = all_and_one IsAnswer t.answers words i.answers_are said;
      pending_is = tt;
      size_fits = done_size t deed i.size_fits fits;
      asked_fits = λ p other e a. cc;
    }
  where
    ops_now : (deed : Deed) → IsDeed deed → AllByRecursion IsOp (with_operation deed t.ops)
    ops_now (Deed.operates (op.Read rec value)) d = all_and_one IsOp t.ops (op.Read rec value) i.ops_are tt
    ops_now (Deed.operates (op.Write rec value)) d = all_and_one IsOp t.ops (op.Write rec value) i.ops_are d
    ops_now (Deed.weighs rec table) d = i.ops_are

    tables_now : (deed : Deed) → IsDeed deed → AllByRecursion IsGiven (with_table deed t.tables)
    tables_now (Deed.operates operation) d = i.tables_are
    tables_now (Deed.weighs rec table) d = all_put IsGiven (λ (a : ℕ × Table) (b : ℕ × Table). a.0 == b.0) (λ (a : ℕ × Table) (b : ℕ × Table). nat_lt a.0 b.0) (rec, table) t.tables d i.tables_are

    done_now : (deed : Deed) → length (with_operation deed t.ops) + length (with_table deed t.tables) ≤ length (t.answers ++ words ∷ [])
    done_now (Deed.operates operation) =
        let ops = length-append t.ops (operation ∷ []) in
        let answers = length-append t.answers (words ∷ []) in
        let done = i.done_few in
        omega (arith, ops, answers, done)
    done_now (Deed.weighs rec table) =
        let tables : length (put_at rec table t.tables) ≤ suc (length t.tables) = length_put (λ (a : ℕ × Table) (b : ℕ × Table). a.0 == b.0) (λ (a : ℕ × Table) (b : ℕ × Table). nat_lt a.0 b.0) (rec, table) t.tables in
        let answers = length-append t.answers (words ∷ []) in
        let done = i.done_few in
        omega (arith, tables, answers, done)

-- ---- a call waits

pub waiting_is : (catalogue : Catalogue) (t : Live) (p : Pending) (remote : List (ℕ × ℕ)) (parts sites : List ℕ) → IsLive catalogue t → length t.answers + operates p.call ≤ 64 → AllByRecursion (λ (r : ℕ × ℕ). IsRecord r.1) remote → length remote ≤ length t.answers + operates p.call → IsSites 0 parts → IsCallNumber p.number → p.port < 2 ^ 16 → IsCall p.call → IsSites 1 sites → ((deed : Deed) → change_asked catalogue p.call ≡ Some deed → is_too_large t deed ≡ false)
    → IsLive catalogue (record t { remote = remote; parts = parts; pending = Some (record p { missing = sites }) })
waiting_is catalogue t p remote parts sites i room r few q n port words s fits = record {
  txn_is = i.txn_is;
  view_is = i.view_is;
  ops_are = i.ops_are;
  tables_are = i.tables_are;
  done_few = i.done_few;
  few = room;
  remote_are = r;
  remote_few = few;
  parts_are = q;
  answers_are = i.answers_are;
  pending_is = record { number_is = n; port_fits = port; words_are = words; missing_are = s };
  size_fits = i.size_fits;
  asked_fits = λ other deed e a. fits deed (ap (λ (p : Pending). change_asked catalogue p.call) (some_is (record p { missing = sites }) other e) ∙ a);
}

-- ---- a transaction that ends

pub record IsOver (t : Live) : Type 0 where
  pub txn_is : IsTxn t.txn
  pub view_is : IsView t.view
  pub ops_are : AllByRecursion IsOp t.ops
  pub tables_are : AllByRecursion IsGiven t.tables
  pub done_few : length t.ops + length t.tables ≤ 64
  pub size_fits : size_of t ≤ 15360
  pub parts_are : IsSites 0 t.parts
  pub answers_are : AllByRecursion IsAnswer t.answers
  pub pending_is : IfSome t.pending (λ p. (p.port < 2 ^ 16) × IsCallNumber p.number)

over_pending : (o : Option Pending) → IfSome o IsPending → IfSome o (λ p. (p.port < 2 ^ 16) × IsCallNumber p.number)
over_pending None i = tt
over_pending (Some p) i = (i.port_fits, i.number_is)

pub live_over : (catalogue : Catalogue) (t : Live) → IsLive catalogue t → IsOver t
live_over catalogue t i = let few = i.few in let done = i.done_few in record { txn_is = i.txn_is; view_is = i.view_is; ops_are = i.ops_are; tables_are = i.tables_are; done_few = omega (arith, few, done); size_fits = i.size_fits; parts_are = i.parts_are; answers_are = i.answers_are; pending_is = over_pending t.pending i.pending_is }

pub handled_over : (catalogue : Catalogue) (t : Live) (p : Pending) → IsLive catalogue t → p.port < 2 ^ 16 → IsCallNumber p.number → IsOver (handling t p)
handled_over catalogue t p i port n = let few = i.few in let done = i.done_few in record { txn_is = i.txn_is; view_is = i.view_is; ops_are = i.ops_are; tables_are = i.tables_are; done_few = omega (arith, few, done); size_fits = i.size_fits; parts_are = i.parts_are; answers_are = i.answers_are; pending_is = (port, n) }

pub end_said : (txn : TxnId) (number : ℕ) (why : Ending) → IsTxn txn → IsCallNumber number → IsEnding why → IsAnswer (answer_of txn number why)
end_said txn number Committed t n e = record { txn_is = t; some = n.0; fits = n.1 }
end_said txn number Aborted t n e = record { txn_is = t; some = n.0; fits = n.1 }
end_said txn number (LockHeld name at owner) t n e = (record { txn_is = t; some = n.0; fits = n.1 }, e.0, e.1, e.2)
end_said txn number (ViewChanged at held now) t n e = (record { txn_is = t; some = n.0; fits = n.1 }, e.0, e.1, e.2)
end_said txn number (TimedOut at) t n e = (record { txn_is = t; some = n.0; fits = n.1 }, e)
end_said txn number (Inaccessible name inside total) t n e = (record { txn_is = t; some = n.0; fits = n.1 }, e.0, e.1, e.2)

last_said : (txn : TxnId) (why : Ending) (o : Option Pending) → IsTxn txn → IsEnding why → IfSome o (λ p. (p.port < 2 ^ 16) × IsCallNumber p.number) → AllByRecursion IsAnswer (option_to_list (option_map (λ p. answer_of txn p.number why) o))
last_said txn why None t e i = tt
last_said txn why (Some p) t e i = (end_said txn p.number why t i.1 e, tt)

pub finishes : (catalogue : Catalogue) (t : Live) (why : Ending) (c : CoordinatorState) → IsOver t → IsEnding why → IsCoordinator catalogue c → IsCoordinator catalogue (with_finished t why c)
finishes catalogue t why c i e h =
    let said = all_append IsAnswer t.answers (option_to_list (option_map (λ p. answer_of t.txn p.number why) t.pending)) i.answers_are (last_said t.txn why t.pending i.txn_is e i.pending_is) in
    record { seq_fits = h.seq_fits; live_are = all_without (IsLive catalogue) (λ u. same_txn u.txn t.txn) c.live h.live_are; finished_are = all_most IsFinished 1024 _ (all_and_one IsFinished c.finished (record { txn = t.txn; answers = answers_after t why; ending = why }) h.finished_are (i.txn_is, said, e)); decisions_are = h.decisions_are }

-- a call that waits names a site
pub missing_is : (o : Option Pending) → IfSome o IsPending → is_marked_call o ≡ true → IsSite (least_missing o)
missing_is None i e = cc
missing_is (Some p) i e = least_is p.missing i.missing_are
  where
    least_is : (sites : List ℕ) → IsSites 1 sites → IsSite (least_of sites)
    least_is [] h = absurd (omega (arith, h.0))
    least_is (n ∷ sites) h = (h.2.0, h.2.1)

-- ---- the records that a part is asked to vote on

recs_from : (asked : List (ℕ × ℕ)) (recs : List ℕ) → AllByRecursion (λ (r : ℕ × ℕ). IsRecord r.1) asked → IsAscending 0 255 recs → IsAscending 0 255 (for_each asked (λ (a : ℕ × ℕ) (recs : List ℕ). put_number a.1 recs) recs)
recs_from [] recs i h = h
recs_from (a ∷ asked) recs i h = let fits = i.0 in recs_from asked (put_number a.1 recs) i.1 (ascending_put 0 255 a.1 recs (omega arith) (omega (arith, fits)) h)

recs_length : (asked : List (ℕ × ℕ)) (recs : List ℕ) → length (for_each asked (λ (a : ℕ × ℕ) (recs : List ℕ). put_number a.1 recs) recs) ≤ length asked + length recs
recs_length [] recs = omega arith
recs_length (a ∷ asked) recs = let rest = recs_length asked (put_number a.1 recs) in let one : length (put_number a.1 recs) ≤ suc (length recs) = length_put (λ (m : ℕ) (n : ℕ). m == n) (λ (m : ℕ) (n : ℕ). nat_lt m n) a.1 recs in omega (arith, rest, one)

pub recs_are : (q : ℕ) (remote : List (ℕ × ℕ)) → AllByRecursion (λ (r : ℕ × ℕ). IsRecord r.1) remote → length remote ≤ 64 → IsRecs (records_read_at q remote)
recs_are q remote i few =
    let chosen = filter (λ (asked : ℕ × ℕ). asked.0 == q) remote in
    let many = recs_length chosen [] in
    let less = length_filter (λ (asked : ℕ × ℕ). asked.0 == q) remote in
    (omega (arith, few, many, less), recs_from chosen [] (all_filter (λ (r : ℕ × ℕ). IsRecord r.1) _ remote i) tt)
