-- The moves of the coordinator keep a site well formed.
use Rattle.std.proofs.Common.{◌≡◌, ◌≤◌, ◌<◌, ◌∙◌, sym, subst, ℕ, ◌+◌, ◌-◌, ◌^◌, Bool, true, false, cond, List, [], ◌∷◌, ◌++◌, refl, arith, length}
use Rattle.std.specs.Prelude.{Option, Some, None, IfSome, option_map, not, is_some, ◌==◌, nat_le}
use Rattle.std.specs.List.{AllByRecursion, list_any}
use Rattle.std.proofs.lemmas.Bool.Decides.{nat_tests}
use Rattle.std.proofs.lemmas.List.{length-append}
use Rattle.vp_base.specs.Words.{IsName, IsValue}
use Rattle.vp_base.specs.Tables.{IsTable}
use Rattle.vp_contents.specs.Contents.{IsContent}
use Rattle.vp_contents.specs.declared.version.Version.TheVariants as versions
use Rattle.vp_base.specs.Identifiers.{IsView, IsTxn}
use Rattle.vp_base.specs.Calls.{IsNumbered, IsCall}
use Rattle.vp_bytes.specs.Fields.{IsSite, IsRecord, IsCallNumber}
use Rattle.vp_catalog.specs.Document.{IsCatalogue}
use Rattle.vp_model.specs.Types.{TxnId, View, Answer, Call, Input, Effects, Lock, Pending, Live, Ending, Finished, Decision}
use Rattle.vp_base.specs.declared.site.Ending.TheVariants.{Committed}
use Rattle.vp_model.specs.Types.answer
use Rattle.vp_model.specs.Types.call
use Rattle.vp_model.specs.Types.log_record
use Rattle.vp_model.specs.Types.input
use Rattle.vp_model.specs.Types.message
use Rattle.vp_model.specs.Types.obstacle
use Rattle.vp_model.specs.Types.op
use Rattle.vp_model.specs.Types.owner
use Rattle.vp_model.specs.Words.{first_some, has, value_at, is_empty, put_number, for_each}
use Rattle.vp_model.specs.Catalogue.{Catalogue, Table, holders, find_record, inside, total, weight_inside, weight_total, accessible_by}
use Rattle.vp_model.specs.Durable.{with_writes}
use Rattle.vp_model.specs.Locks.{with_lock, without_owner}
use Rattle.vp_model.specs.Site.{CoordinatorState, SiteState, Lent, Stepped, begin_step, lent, put_back, lent_force, lent_reply, lent_coordinator}
use Rattle.vp_model.specs.Transactions.{Deed, with_done, deed_answer, last_changes, entry_of, writes_held, with_pending_reply, with_finished, finish, close, writing_parts, with_kept, keep_writes, decided, decide, complete, put_live, wait_for, answer_of}
use Rattle.vp_model.specs.Refresh.{members_in, other_holders}
use Rattle.vp_model.specs.Calls.{change_asked, is_too_large, short_by, short_of_holders, short, begun, with_begun, start_txn, handling, take_lock, read_at, write_at, prepare_for, prepare_parts}
use Rattle.vp_model.specs.Answers.{with_acknowledged}
use Rattle.vp_model.specs.Step.{with_marks, mark_calls, resend_one}
use Rattle.vp_laws.specs.Votes.{is_commit}
use Rattle.vp_laws.proofs.Lists.Members.{Has}
use Rattle.vp_laws.proofs.Moves.Frames.{decide-cases}
use Rattle.vp_laws.proofs.Moves.Table.{Comes, next_name, record_of, IsNext, Reads, Changes, Tries, remaining, Completes, Decides, Says, Closes, Names, IsCallOf, lent_at, Back}
use Rattle.vp_laws.specs.Shapes.{IsAnswer, IsInput, IsPending, operates, asked, IsLive, IsEnding, IsFinished, IsCoordinator, IsLock, IsShaped, AreShaped}
use Rattle.vp_laws.proofs.Lists.Items.{all_at, all_and_one, all_filter}
use Rattle.vp_laws.proofs.Shapes.Numbers.{each_site, put_sites, put_all_sites, sites_of_ascending, some_sites, ascending_filter, written_is, changes_are}
use Rattle.vp_laws.proofs.Shapes.Sizes.{writes_length}
use Rattle.vp_laws.proofs.Shapes.Doubts.{with_decisions, fewer_decisions}
use Rattle.vp_laws.proofs.Shapes.Catalogue.{others_ascend, found_is, total_fits, table_fits, part_fits}
use Rattle.vp_laws.proofs.Shapes.Moves.{Forms, gives_entry, gives_commit, gives_reply, gives_message, gives_each, with_gives, with_locks, with_copies, with_coordinator, some_at, with_lock_is, conflict_is, bar_is, writes_are, copy_is}
use Rattle.vp_laws.proofs.Shapes.Views.{came_is, called_is, id_is, starts}
use Rattle.vp_laws.proofs.Shapes.Live.{puts_live, begins_one, marks_are, idle_asked, IsDeed, deed_said, done_is, waiting_is, IsOver, live_over, handled_over, end_said, finishes, missing_is, recs_are}

module _ (catalogue : Catalogue) (k : IsCatalogue catalogue) (x : SiteState) (sx : IsShaped catalogue x) (given : Input) (came : IsInput given) where
  abbrev F : Stepped → Type 0
  F = Forms catalogue x

  abbrev K : Lent → Type 0
  K = Back x F

  begins : K (lent_at x)
  begins = starts catalogue k x sx given came

  own_id : IsSite x.id
  own_id = id_is catalogue k x sx given came

  own_live : (t : Live) → Has x.live t → IsLive catalogue t
  own_live t h = all_at (IsLive catalogue) x.live sx.coordinator_is.live_are t h

  own_finished : (f : Finished) → Has x.finished f → IsFinished f
  own_finished f h = all_at IsFinished x.finished sx.coordinator_is.finished_are f h

  -- ---- single changes

  now_coordinator : (f : CoordinatorState → CoordinatorState) (l : Lent) → K l → IsCoordinator catalogue (f l.coordinator) → K (lent_coordinator f l)
  now_coordinator f l p c = with_coordinator catalogue x (put_back (begin_step x) l) p (f l.coordinator) c

  now_gives : (e : Effects) (l : Lent) → K l → AreShaped x.id e → K (record l { effects = e })
  now_gives e l p a = with_gives catalogue x (put_back (begin_step x) l) p e a

  now_locks : (f : List Lock → List Lock) (l : Lent) → K l → AllByRecursion IsLock (f l.here.locks) → K (record l { here = record l.here { locks = f l.here.locks } })
  now_locks f l p a = with_locks catalogue x (put_back (begin_step x) l) p f a

  replies : (words : Answer) (port : ℕ) (l : Lent) → K l → port < 2 ^ 16 → IsAnswer words → K (lent_reply words port l)
  replies words port l p fits i = now_gives _ l p (gives_reply x.id l.effects p.gives words port fits i)

  -- ---- begin

  pub starts_txn : (port : ℕ) (view : View) → x.held ≡ Some view → given ≡ input.Call port call.Begin → (x.seq == 2 ^ 32 - 1) ≡ false → K (start_txn (next_name x) port view.id (lent_at x))
  unfolding start_txn
  starts_txn port view e c s =
      let v : IsView view.id = some_at (λ (view : View). IsView view.id) x.held view sx.views_are.held_is e in
      let bound : x.seq < 2 ^ 32 = sx.coordinator_is.seq_fits in
      let room : x.seq + 1 < 2 ^ 32 = grind (arith, nat_tests, s, bound) in
      let t : IsTxn (next_name x) = record { site_some = own_id.0; site_fits = own_id.1; life_some = sx.lived; life_fits = sx.life_fits; seq_some = omega arith; seq_fits = room } in
      let a = now_coordinator (with_begun (begun (next_name x) view.id)) (lent_at x) begins (begins_one catalogue (next_name x) view.id x.coordinator t v room sx.coordinator_is) in
      replies (answer.Begun (next_name x) view.id) port _ a (called_is given port call.Begin came c).0 (t, v)

  -- ---- what a call is told

  next_numbered : (t : Live) (number : ℕ) → Has x.live t → number ≡ length t.answers + 1 → IsNumbered t.txn number
  next_numbered t number h e =
      let i = own_live t h in
      let few = i.few in
      record { txn_is = i.txn_is; some = omega (arith, e); fits = omega (arith, e, few) }

  call_of : (words : Call) (txn : TxnId) (number : ℕ) → IsCallOf words txn number → IsCall words → IsNumbered txn number
  call_of _ txn number (IsCallOf.reads _ _ name) i = i.0
  call_of _ txn number (IsCallOf.writes _ _ name value) i = i.0
  call_of _ txn number (IsCallOf.deletes _ _ name) i = i.0
  call_of _ txn number (IsCallOf.weighs _ _ name table) i = i.0
  call_of _ txn number (IsCallOf.commits _ _) i = i
  call_of _ txn number (IsCallOf.aborts _ _) i = i

  read_call : (words : Call) (txn : TxnId) (number : ℕ) (name : List ℕ) → IsCall words → words ≡ call.Read txn number name → IsNumbered txn number × IsName name name
  read_call words txn number name i e = rw e at i

  write_call : (words : Call) (txn : TxnId) (number : ℕ) (name value : List ℕ) → IsCall words → words ≡ call.Write txn number name value → IsNumbered txn number × IsName name name × IsValue value value
  write_call words txn number name value i e = rw e at i

  delete_call : (words : Call) (txn : TxnId) (number : ℕ) (name : List ℕ) → IsCall words → words ≡ call.Delete txn number name → IsNumbered txn number × IsName name name
  delete_call words txn number name i e = rw e at i

  weigh_call : (words : Call) (txn : TxnId) (number : ℕ) (name : List ℕ) (table : Table) → IsCall words → words ≡ call.Weigh txn number name table → IsNumbered txn number × IsName name name × IsTable table
  weigh_call words txn number name table i e = rw e at i

  named_is : (words : Call) (name : List ℕ) → Names words name → IsCall words → IsName name name
  named_is words name (Names.reads txn number e) i = (read_call words txn number name i e).1
  named_is words name (Names.writes txn number value e) i = (write_call words txn number name value i e).1
  named_is words name (Names.deletes txn number e) i = (delete_call words txn number name i e).1
  named_is words name (Names.weighs txn number table e) i = (weigh_call words txn number name table i e).1

  -- the weights of a record that may not be used
  short_fits : (words : Call) (rec : ℕ) (deed : Deed) (weights : ℕ × ℕ) → IsCall words → Tries words rec deed → short catalogue x.held x.bars rec deed ≡ Some weights → (weights.0 < 2 ^ 32) × (weights.1 < 2 ^ 32)
  short_fits words rec deed weights i tries e = go deed tries (short_by deed (members_in x.held)) refl e
    where
      of_sums : (b : Bool) (a n : ℕ) (weights : ℕ × ℕ) → a < 2 ^ 32 → n < 2 ^ 32 → cond b None (Some (a, n)) ≡ Some weights → (weights.0 < 2 ^ 32) × (weights.1 < 2 ^ 32)
      of_sums true a n weights p q e = cc
      of_sums false a n weights p q e = let is : (a, n) ≡ weights = cc in subst (λ (k : ℕ × ℕ). (k.0 < 2 ^ 32) × (k.1 < 2 ^ 32)) is (p, q)

      -- the bar here, or the lack of a holder
      here : (o : Option (ℕ × ℕ)) → value_at rec x.bars ≡ o → first_some o (short_of_holders catalogue rec (members_in x.held)) ≡ Some weights → (weights.0 < 2 ^ 32) × (weights.1 < 2 ^ 32)
      here None q e = of_sums (list_any (has (members_in x.held)) (holders catalogue rec)) 0 (total catalogue rec) weights (omega arith) (total_fits catalogue k rec) e
      here (Some bar) q e =
          let is : bar ≡ weights = cc in
          subst (λ (k : ℕ × ℕ). (k.0 < 2 ^ 32) × (k.1 < 2 ^ 32)) is (bar_is rec bar x.here.bars sx.bars_are q)

      go : (d : Deed) → Tries words rec d → (o : Option (ℕ × ℕ)) → short_by d (members_in x.held) ≡ o → first_some o (first_some (value_at rec x.bars) (short_of_holders catalogue rec (members_in x.held))) ≡ Some weights → (weights.0 < 2 ^ 32) × (weights.1 < 2 ^ 32)
      go d from None q e = here (value_at rec x.bars) refl e
      go _ (Tries.weighs txn number name table w) (Some own) q e =
          let is = (weigh_call words txn number name table i w).2 in
          of_sums (accessible_by table (members_in x.held)) (weight_inside (members_in x.held) table) (weight_total table) weights (part_fits catalogue k table (members_in x.held) is) (table_fits catalogue k table is) (q ∙ e)
      go _ (Tries.reads txn number name w) (Some own) q e = cc
      go _ (Tries.writes txn number name value w) (Some own) q e = cc
      go _ (Tries.deletes txn number name w) (Some own) q e = cc

  said_is : (port : ℕ) (words : Answer) → Says catalogue x given port words → (port < 2 ^ 16) × IsAnswer words
  said_is port _ (Says.views_spent c) = let a = sx.views_are.promise_is.number_fits in let b = sx.views_are.seen_fits in ((called_is given port _ came c).0, omega (arith, a, b))
  said_is port _ (Says.no_view c) = ((called_is given port _ came c).0, sx.views_are.promise_is)
  said_is port _ (Says.full c) = ((called_is given port _ came c).0, tt)
  said_is port _ (Says.spent c) = ((called_is given port _ came c).0, omega arith)
  said_is port _ (Says.no_record t words number c h e) = ((called_is given port words came c).0, next_numbered t number h e)
  said_is port _ (Says.many t words number c h e) = ((called_is given port words came c).0, next_numbered t number h e)
  said_is port _ (Says.busy t words number c h e) = ((called_is given port words came c).0, next_numbered t number h e)
  said_is port _ (Says.skipped t words c h) = ((called_is given port words came c).0, next_numbered t (length t.answers + 1) h refl)
  said_is port _ (Says.bad_table t words number c h e) = ((called_is given port words came c).0, (tt, next_numbered t number h e))
  said_is port _ (Says.inaccessible t words number name rec deed weights c h e m f tries s) =
      let q = called_is given port words came c in
      let w = short_fits words rec deed weights q.1 tries s in
      (q.0, (next_numbered t number h e, named_is words name m q.1, w.0, w.1))
  said_is port _ (Says.again t words said c h g) = ((called_is given port words came c).0, all_at IsAnswer t.answers (own_live t h).answers_are said g)
  said_is port _ (Says.again_ended f words said c h g) = ((called_is given port words came c).0, all_at IsAnswer f.answers (own_finished f h).1 said g)
  said_is port _ (Says.over f words txn number c o h) = let q = called_is given port words came c in let n = call_of words txn number o q.1 in let i = own_finished f h in (q.0, end_said f.txn number f.ending i.0 (n.some, n.fits) i.2)
  said_is port _ (Says.unknown words txn number c o) = let q = called_is given port words came c in (q.0, (call_of words txn number o q.1).txn_is)

  pub says : (words : Answer) (port : ℕ) → Says catalogue x given port words → K (lent_reply words port (lent_at x))
  says words port y = let q = said_is port words y in replies words port (lent_at x) begins q.0 q.1

  pub takes_lock : (t : Live) (rec : ℕ) (exclusive : Bool) → Has x.live t → K (take_lock t.txn rec exclusive (lent_at x))
  unfolding take_lock
  takes_lock t rec exclusive h = now_locks (with_lock rec exclusive (owner.Txn t.txn)) (lent_at x) begins (with_lock_is rec exclusive (owner.Txn t.txn) x.here.locks (own_live t h).txn_is sx.locks_are)

  -- ---- a call is done

  record Does (t : Live) (p : Pending) (deed : Deed) : Type 0 where
    port_fits : p.port < 2 ^ 16
    room : length t.answers + 1 ≤ 64
    deed_is : IsDeed deed
    fits : is_too_large t deed ≡ false
    numbered : IsNumbered t.txn p.number

  next_call : (t : Live) (p : Pending) → IsNext given t p → (p.port < 2 ^ 16) × IsCall p.call
  next_call t p n = called_is given p.port p.call came n.comes

  pending_at : (t : Live) (p : Pending) → Has x.live t → t.pending ≡ Some p → IsPending p
  pending_at t p h e = some_at IsPending t.pending p (own_live t h).pending_is e

  pending_numbered : (t : Live) (p : Pending) → Has x.live t → t.pending ≡ Some p → IsNumbered t.txn p.number
  pending_numbered t p h e = let n = (pending_at t p h e).number_is in record { txn_is = (own_live t h).txn_is; some = n.0; fits = n.1 }

  new_room : (t : Live) → nat_le 64 (length t.answers) ≡ false → length t.answers + 1 ≤ 64
  new_room t e = grind (arith, nat_tests, e)

  reads_one : (p : Pending) (rec : ℕ) → Reads catalogue p rec → operates p.call ≡ 1
  reads_one p rec r = rw r.words refl

  asks_one : (deed : Deed) (words : Call) → change_asked catalogue words ≡ Some deed → operates words ≡ 1
  asks_one deed (call.Write txn number name value) a = refl
  asks_one deed (call.Delete txn number name) a = refl
  asks_one deed (call.Weigh txn number name table) a = refl
  asks_one deed (call.Read txn number name) a = cc
  asks_one deed (call.Commit txn number) a = cc
  asks_one deed (call.Abort txn number) a = cc
  asks_one deed call.Begin a = cc
  asks_one deed call.Regroup a = cc

  changes_one : (p : Pending) (rec : ℕ) (deed : Deed) → Changes catalogue p rec deed → operates p.call ≡ 1
  changes_one p rec deed w = asks_one deed p.call w.asked

  old_room : (t : Live) (p : Pending) → Has x.live t → t.pending ≡ Some p → operates p.call ≡ 1 → length t.answers + 1 ≤ 64
  old_room t p h e one = let few = (own_live t h).few in let same : asked t.pending ≡ 1 = rw e one in omega (arith, few, same)

  of_record : (P : Deed → Type 0) (name : List ℕ) (f : ℕ → Deed) (deed : Deed) → ((rec : ℕ) → IsRecord rec → P (f rec)) → option_map f (find_record catalogue name) ≡ Some deed → P deed
  of_record P name f deed made a = go (find_record catalogue name) refl a
    where
      go : (o : Option ℕ) → find_record catalogue name ≡ o → option_map f o ≡ Some deed → P deed
      go None q e = cc
      go (Some rec) q e = let is : f rec ≡ deed = cc in subst P is (made rec (found_is catalogue k name rec q))

  asked_deed : (deed : Deed) (words : Call) → IsCall words → change_asked catalogue words ≡ Some deed → IsDeed deed
  asked_deed deed (call.Write txn number name value) i a = of_record IsDeed name (λ rec. Deed.operates (op.Write rec (Some value))) deed (λ rec r. (r, i.2)) a
  asked_deed deed (call.Delete txn number name) i a = of_record IsDeed name (λ rec. Deed.operates (op.Write rec None)) deed (λ rec r. (r, tt)) a
  asked_deed deed (call.Weigh txn number name table) i a = of_record IsDeed name (λ rec. Deed.weighs rec table) deed (λ rec r. (r, i.2)) a
  asked_deed deed (call.Read txn number name) i a = cc
  asked_deed deed (call.Commit txn number) i a = cc
  asked_deed deed (call.Abort txn number) i a = cc
  asked_deed deed call.Begin i a = cc
  asked_deed deed call.Regroup i a = cc

  abbrev OnRecord : Deed → Type 0
  OnRecord deed = IsRecord (record_of deed)

  asked_record : (deed : Deed) (words : Call) → change_asked catalogue words ≡ Some deed → OnRecord deed
  asked_record deed (call.Write txn number name value) a = of_record OnRecord name (λ rec. Deed.operates (op.Write rec (Some value))) deed (λ rec r. r) a
  asked_record deed (call.Delete txn number name) a = of_record OnRecord name (λ rec. Deed.operates (op.Write rec None)) deed (λ rec r. r) a
  asked_record deed (call.Weigh txn number name table) a = of_record OnRecord name (λ rec. Deed.weighs rec table) deed (λ rec r. r) a
  asked_record deed (call.Read txn number name) a = cc
  asked_record deed (call.Commit txn number) a = cc
  asked_record deed (call.Abort txn number) a = cc
  asked_record deed call.Begin a = cc
  asked_record deed call.Regroup a = cc

  value_came : (from : ℕ) (txn : TxnId) (number : ℕ) (value : Option (List ℕ)) → Comes given from (message.ReadAnswer txn number value) → IsContent versions.Second value
  value_came from txn number value c = (came_is given from (message.ReadAnswer txn number value) came c).1.1

  reads_along : (deed : Deed) (rec : ℕ) (value : Option (List ℕ)) → deed ≡ Deed.operates (op.Read rec value) → IsContent versions.Second value → IsDeed deed
  reads_along deed rec value e i = subst IsDeed (sym e) i

  read_fits : (t : Live) (deed : Deed) (rec : ℕ) (value : Option (List ℕ)) → deed ≡ Deed.operates (op.Read rec value) → is_too_large t deed ≡ false
  read_fits t deed rec value e = rw e refl

  does_is : (t : Live) (p : Pending) (deed : Deed) (l : Lent) → Has x.live t → Completes catalogue x given t p deed l → (is_some t.pending ≡ false → nat_le 64 (length t.answers) ≡ false) → Does t p deed
  does_is t p deed l h (Completes.own_write rec value next r a e d m) few =
      record { port_fits = (next_call t p next).0; room = new_room t (few next.idle); deed_is = reads_along deed rec value d (written_is t.ops rec value (own_live t h).ops_are e).1; fits = read_fits t deed rec value d; numbered = next_numbered t p.number h next.number }
  does_is t p deed l h (Completes.own_copy rec stored next r a v e c d m) few =
      record { port_fits = (next_call t p next).0; room = new_room t (few next.idle); deed_is = reads_along deed rec stored.value d (copy_is x.here.copies rec stored sx.copies_are.stored e).0; fits = read_fits t deed rec stored.value d; numbered = next_numbered t p.number h next.number }
  does_is t p deed l h (Completes.change_again rec before next w a v m) few =
      record { port_fits = (next_call t p next).0; room = new_room t (few next.idle); deed_is = asked_deed deed p.call (next_call t p next).1 w.asked; fits = a.fits; numbered = next_numbered t p.number h next.number }
  does_is t p deed l h (Completes.change_alone rec next w a v n m) few =
      record { port_fits = (next_call t p next).0; room = new_room t (few next.idle); deed_is = asked_deed deed p.call (next_call t p next).1 w.asked; fits = a.fits; numbered = next_numbered t p.number h next.number }
  does_is t p deed l h (Completes.read_answered from rec value c last r d m) few =
      record { port_fits = (pending_at t p h last.pending).port_fits; room = old_room t p h last.pending (reads_one p rec r); deed_is = reads_along deed rec value d (value_came from t.txn p.number value c); fits = read_fits t deed rec value d; numbered = pending_numbered t p h last.pending }
  does_is t p deed l h (Completes.change_answered from rec c last w m) few =
      record { port_fits = (pending_at t p h last.pending).port_fits; room = old_room t p h last.pending (changes_one p rec deed w); deed_is = asked_deed deed p.call (pending_at t p h last.pending).words_are w.asked; fits = (own_live t h).asked_fits p deed last.pending w.asked; numbered = pending_numbered t p h last.pending }

  pub completes : (t : Live) (p : Pending) (deed : Deed) (l : Lent) → Has x.live t → Completes catalogue x given t p deed l → (is_some t.pending ≡ false → nat_le 64 (length t.answers) ≡ false) → K l → K (complete t p deed l)
  unfolding complete
  completes t p deed l h c few q =
      let d = does_is t p deed l h c few in
      let said = deed_said t.txn p.number deed d.numbered d.deed_is in
      let words = deed_answer t.txn p.number deed in
      let a = replies words p.port l q d.port_fits said in
      let now = with_done deed words t in
      now_coordinator (put_live now) _ a (puts_live catalogue now l.coordinator (done_is catalogue t deed words (own_live t h) d.room d.deed_is d.fits said) a.site_is.coordinator_is)

  -- ---- a call waits for other sites

  next_few : (t : Live) (p : Pending) → Has x.live t → IsNext given t p → length t.remote ≤ length t.answers
  next_few t p h n = let few = (own_live t h).remote_few in let none = idle_asked t.pending n.idle in omega (arith, few, none)

  request_is : (t : Live) (p : Pending) → Has x.live t → IsNext given t p → IsTxn t.txn × IsView t.view × IsCallNumber p.number
  request_is t p h n = let i = own_live t h in let q = next_numbered t p.number h n.number in (i.txn_is, i.view_is, (q.some, q.fits))

  pub reads_at : (t : Live) (p : Pending) (rec q : ℕ) → Has x.live t → IsNext given t p → Reads catalogue p rec → Has (other_holders catalogue x rec) q → nat_le 64 (length t.answers) ≡ false → K (read_at x.id t p rec q (lent_at x))
  unfolding read_at
  reads_at t p rec q h n r o few =
      let i = own_live t h in
      let s : IsSite q = all_at IsSite (other_holders catalogue x rec) (each_site (other_holders catalogue x rec) (others_ascend catalogue k x.id x.held rec)) q o in
      let one = reads_one p rec r in
      let room = new_room t few in
      let less = next_few t p h n in
      let longer = length-append t.remote ((q, rec) ∷ []) in
      let found = found_is catalogue k r.name rec r.found in
      let came_call = next_call t p n in
      let ask = request_is t p h n in
      let parts = sites_of_ascending (put_number q t.parts) (put_sites q t.parts s i.parts_are.2) in
      let now = waiting_is catalogue t p (t.remote ++ (q, rec) ∷ []) (put_number q t.parts) (q ∷ []) i (omega (arith, one, room)) (all_and_one (λ (r : ℕ × ℕ). IsRecord r.1) t.remote (q, rec) i.remote_are found) (omega (arith, one, less, longer)) parts ask.2 came_call.0 came_call.1 (some_sites (q ∷ []) refl (s.0, s.1, tt)) (λ deed e. let z : change_asked catalogue p.call ≡ None = rw r.words refl in cc) in
      let a = now_coordinator (put_live (record t { remote = t.remote ++ (q, rec) ∷ []; parts = put_number q t.parts; pending = Some (record p { missing = q ∷ [] }) })) (lent_at x) begins (puts_live catalogue _ x.coordinator now sx.coordinator_is) in
      now_gives _ _ a (gives_message x.id _ a.gives x.id (message.ReadRequest t.txn t.view p.number rec) q refl s (ask, found) tt)

  pub writes_at : (t : Live) (p : Pending) (rec : ℕ) (deed : Deed) (l : Lent) → Has x.live t → IsNext given t p → Changes catalogue p rec deed → is_too_large t deed ≡ false → is_empty (other_holders catalogue x rec) ≡ false → nat_le 64 (length t.answers) ≡ false → K l → K (write_at x.id t p rec (other_holders catalogue x rec) l)
  unfolding write_at
  writes_at t p rec deed l h n w fits e few q =
      let i = own_live t h in
      let sites = other_holders catalogue x rec in
      let up = others_ascend catalogue k x.id x.held rec in
      let s = each_site sites up in
      let one = changes_one p rec deed w in
      let found : IsRecord rec = subst IsRecord w.on (asked_record deed p.call w.asked) in
      let room = new_room t few in
      let less = next_few t p h n in
      let came_call = next_call t p n in
      let ask = request_is t p h n in
      let parts = sites_of_ascending (for_each sites put_number t.parts) (put_all_sites sites t.parts s i.parts_are.2) in
      let now = waiting_is catalogue t p t.remote (for_each sites put_number t.parts) sites i (omega (arith, one, room)) i.remote_are (omega (arith, one, less)) parts ask.2 came_call.0 came_call.1 (some_sites sites e up) (λ other a. let same : deed ≡ other = (let z = w.asked in cc) in subst (λ (d : Deed). is_too_large t d ≡ false) same fits) in
      let a = now_coordinator (put_live (record t { parts = for_each sites put_number t.parts; pending = Some (record p { missing = sites }) })) l q (puts_live catalogue _ l.coordinator now q.site_is.coordinator_is) in
      now_gives _ _ a (gives_each x.id _ a.gives x.id (λ q. message.WriteRequest t.txn t.view p.number rec) sites refl s (λ q. (ask, found)) (λ q. tt))

  commits_none : (words : Call) → is_commit words ≡ true → operates words ≡ 0
  commits_none (call.Read txn number name) e = cc
  commits_none (call.Write txn number name value) e = cc
  commits_none (call.Delete txn number name) e = cc
  commits_none (call.Weigh txn number name table) e = cc
  commits_none (call.Commit txn number) e = refl
  commits_none (call.Abort txn number) e = refl
  commits_none call.Begin e = refl
  commits_none call.Regroup e = refl

  commits_change_none : (words : Call) → is_commit words ≡ true → (deed : Deed) → change_asked catalogue words ≡ Some deed → ⊥
  commits_change_none (call.Read txn number name) e deed a = cc
  commits_change_none (call.Write txn number name value) e deed a = cc
  commits_change_none (call.Delete txn number name) e deed a = cc
  commits_change_none (call.Weigh txn number name table) e deed a = cc
  commits_change_none (call.Commit txn number) e deed a = cc
  commits_change_none (call.Abort txn number) e deed a = cc
  commits_change_none call.Begin e deed a = cc
  commits_change_none call.Regroup e deed a = cc

  pub prepares : (t : Live) (p : Pending) → Has x.live t → IsNext given t p → is_commit p.call ≡ true → is_empty t.parts ≡ false → K (prepare_parts catalogue x.id t p (lent_at x))
  unfolding prepare_parts
  prepares t p h n c e =
      let i = own_live t h in
      let zero_more = commits_none p.call c in
      let few = i.few in
      let less = next_few t p h n in
      let came_call = next_call t p n in
      let ask = request_is t p h n in
      let now = waiting_is catalogue t p t.remote t.parts t.parts i (omega (arith, few, zero_more)) i.remote_are (omega (arith, zero_more, less)) i.parts_are ask.2 came_call.0 came_call.1 (some_sites t.parts e i.parts_are.2) (λ deed a. absurd (commits_change_none p.call c deed a)) in
      let a = now_coordinator (put_live (record t { pending = Some (record p { missing = t.parts }) })) (lent_at x) begins (puts_live catalogue _ x.coordinator now sx.coordinator_is) in
      let short : length t.remote ≤ 64 = omega (arith, few, less) in
      let done = i.done_few in
      let small : length t.ops + length t.tables ≤ 64 = omega (arith, few, done) in
      now_gives _ _ a (gives_each x.id _ a.gives x.id (prepare_for catalogue t p) t.parts refl (each_site t.parts i.parts_are.2) (λ q. (ask, recs_are q t.remote i.remote_are short, changes_are (entry_of t) i.ops_are i.tables_are (λ w. has (holders catalogue w.0) q) small)) (λ q. writes_length t (λ w. has (holders catalogue w.0) q) i.ops_are i.tables_are (changes_are (entry_of t) i.ops_are i.tables_are (λ w. has (holders catalogue w.0) q) small).0 i.size_fits))

  same_asked : (o : Option Pending) (p : Pending) → o ≡ Some p → asked o ≡ operates p.call
  same_asked o p e = rw e refl

  pub still_waits : (t : Live) (p : Pending) (from : ℕ) → Has x.live t → t.pending ≡ Some p → is_empty (remaining from p) ≡ false → K (wait_for t p (remaining from p) (lent_at x))
  still_waits t p from h e more =
      let i = own_live t h in
      let was = pending_at t p h e in
      let same = same_asked t.pending p e in
      let few = i.few in
      let less = i.remote_few in
      let now = waiting_is catalogue t p t.remote t.parts (remaining from p) i (omega (arith, same, few)) i.remote_are (omega (arith, same, less)) i.parts_are was.number_is was.port_fits was.words_are (some_sites (remaining from p) more (ascending_filter 1 16 _ p.missing was.missing_are.2)) (λ deed a. i.asked_fits p deed e a) in
      now_coordinator (put_live (record t { pending = Some (record p { missing = remaining from p }) })) (lent_at x) begins (puts_live catalogue _ x.coordinator now sx.coordinator_is)

  -- ---- a transaction ends

  last_reply : (txn : TxnId) (why : Ending) (o : Option Pending) (e : Effects) → IsTxn txn → IsEnding why → IfSome o (λ p. (p.port < 2 ^ 16) × IsCallNumber p.number) → AreShaped x.id e → AreShaped x.id (with_pending_reply txn why o e)
  last_reply txn why None e t w i a = a
  last_reply txn why (Some p) e t w i a = gives_reply x.id e a (answer_of txn p.number why) p.port i.0 (end_said txn p.number why t i.1 w)

  ends : (t : Live) (why : Ending) (l : Lent) → IsOver t → IsEnding why → K l → K (finish t why l)
  unfolding finish
  ends t why l i e p =
      let a = now_gives _ l p (last_reply t.txn why t.pending l.effects i.txn_is e i.pending_is p.gives) in
      now_coordinator (with_finished t why) _ a (finishes catalogue t why l.coordinator i e p.site_is.coordinator_is)

  closes_one : (t : Live) (why : Ending) (l : Lent) → IsOver t → IsEnding why → K l → K (close x.id t why l)
  unfolding close
  closes_one t why l i e p =
      let a = now_gives _ l p (gives_each x.id l.effects p.gives x.id (λ q. message.Outcome t.txn false) t.parts refl (each_site t.parts i.parts_are.2) (λ q. i.txn_is) (λ q. tt)) in
      let b = now_locks (without_owner (owner.Txn t.txn)) _ a (all_filter IsLock _ l.here.locks p.site_is.locks_are) in
      ends t why _ i e b

  decides_one : (t : Live) (l : Lent) → IsOver t → K l → K (decided x.id t l)
  unfolding decided
  decides_one t l i p =
      let a = now_gives _ l p (gives_commit x.id l.effects p.gives (entry_of t)) in
      let b = now_gives _ _ a (gives_each x.id _ a.gives x.id (λ q. message.Outcome t.txn true) t.parts refl (each_site t.parts i.parts_are.2) (λ q. i.txn_is) (λ q. tt)) in
      let c = now_locks (without_owner (owner.Txn t.txn)) _ b (all_filter IsLock _ l.here.locks p.site_is.locks_are) in
      ends t Committed _ i tt c

  keeps_writes : (t : Live) → IsOver t → K (keep_writes catalogue x.id t (lent_at x))
  unfolding keep_writes
  keeps_writes t i =
      let writes = writes_held catalogue x.id (last_changes (entry_of t)) in
      let waiting = writing_parts catalogue t in
      let w = changes_are (entry_of t) i.ops_are i.tables_are (λ w. has (holders catalogue w.0) x.id) i.done_few in
      let up = ascending_filter 1 16 (λ q. not (is_empty (writes_held catalogue q (last_changes (entry_of t))))) t.parts i.parts_are.2 in
      let a = now_gives _ (lent_at x) begins (gives_entry x.id _ begins.gives (log_record.Commit t.txn t.view writes waiting) (i.txn_is, i.view_is, w, sites_of_ascending waiting up)) in
      let b : K (record (lent_force (log_record.Commit t.txn t.view writes waiting) (lent_at x)) { here = record x.here { copies = with_writes t.view writes x.here.copies } }) = with_copies catalogue x (put_back (begin_step x) (lent_force (log_record.Commit t.txn t.view writes waiting) (lent_at x))) a (with_writes t.view writes) (writes_are catalogue x.id 0 t.view writes x.here.copies i.view_is w.1 sx.copies_are) in
      let s = sx.coordinator_is in
      now_coordinator (with_kept t.txn waiting) _ b (record { seq_fits = s.seq_fits; live_are = s.live_are; finished_are = s.finished_are; decisions_are = with_decisions t.txn waiting x.decisions i.txn_is up s.decisions_are })

  over_along : (t u : Live) → t ≡ u → IsOver u → IsOver t
  over_along t u e i = rw e i

  next_over : (t was : Live) (p : Pending) → Has x.live was → IsNext given was p → t ≡ handling was p → IsOver t
  next_over t was p h n e = let q = next_numbered was p.number h n.number in over_along t (handling was p) e (handled_over catalogue was p (own_live was h) (next_call was p n).0 (q.some, q.fits))

  decides_over : (t : Live) → Decides catalogue x given t → IsOver t
  decides_over t (Decides.alone was p h n c e s) = next_over t was p h n s
  decides_over t (Decides.voted p from h last c m) = live_over catalogue t (own_live t h)

  pub decides : (t : Live) → Decides catalogue x given t → K (decide catalogue x.id t (lent_at x))
  decides t d = let i = decides_over t d in decide-cases K catalogue x.id t (lent_at x) (λ e. decides_one t (lent_at x) i begins) (λ e. decides_one t _ i (keeps_writes t i))

  closes_over : (t : Live) (why : Ending) → Closes x given t why → IsOver t × IsEnding why
  closes_over t _ (Closes.aborted was p h n e) = (next_over t was p h n e, tt)
  closes_over t _ (Closes.held_here was p name rec exclusive holder h n e m f) = (next_over t was p h n e, (named_is p.call name m (next_call was p n).1, own_id, conflict_is rec exclusive was.txn x.here.locks holder sx.locks_are f))
  closes_over t _ (Closes.held_there p txn number from name holder h e m c) = let q = came_is given from (message.Refuse txn number (obstacle.Held holder)) came c in (live_over catalogue t (own_live t h), (named_is p.call name m (pending_at t p h e).words_are, q.0, q.1.1))
  closes_over t _ (Closes.other_view txn number from now h c) = let q = came_is given from (message.Refuse txn number (obstacle.OtherView now)) came c in let i = own_live t h in (live_over catalogue t i, (q.0, i.view_is, q.1.1))
  closes_over t _ (Closes.barred_there p txn number from name inside total h e m c) = let q = came_is given from (message.Refuse txn number (obstacle.Barred inside total)) came c in (live_over catalogue t (own_live t h), (named_is p.call name m (pending_at t p h e).words_are, q.1.1.1, q.1.1.2))
  closes_over t _ (Closes.left h) = let i = own_live t h in (live_over catalogue t i, (own_id, i.view_is, tt))
  closes_over t _ (Closes.timed_out h e) = let i = own_live t h in (live_over catalogue t i, missing_is t.pending i.pending_is e)

  pub closes : (t : Live) (why : Ending) (l : Lent) → Closes x given t why → K l → K (close x.id t why l)
  closes t why l y p = let q = closes_over t why y in closes_one t why l q.0 q.1 p

  -- ---- the rest

  pub marks : (l : Lent) → K l → K (mark_calls l)
  unfolding mark_calls
  marks l p = now_coordinator with_marks l p (marks_are catalogue l.coordinator p.site_is.coordinator_is)

  pub acknowledges : (from : ℕ) (txn : TxnId) → Comes given from (message.Ack txn) → K (lent_coordinator (with_acknowledged txn from) (lent_force (log_record.Acked txn from) (lent_at x)))
  acknowledges from txn c =
      let m = came_is given from (message.Ack txn) came c in
      let s = sx.coordinator_is in
      let a = now_gives _ (lent_at x) begins (gives_entry x.id _ begins.gives (log_record.Acked txn from) (m.1, m.0)) in
      now_coordinator (with_acknowledged txn from) _ a (record { seq_fits = s.seq_fits; live_are = s.live_are; finished_are = s.finished_are; decisions_are = fewer_decisions txn from x.decisions s.decisions_are })

  pub resends : (d : Decision) (o : Stepped) → Has o.site.decisions d → F o → F (put_back o (resend_one o.site.id d (lent o)))
  unfolding resend_one
  resends d o h p =
      let i = all_at _ o.site.decisions p.site_is.coordinator_is.decisions_are.each d h in
      with_gives catalogue x o p _ (gives_each x.id o.effects p.gives o.site.id (λ q. message.Outcome d.txn true) d.waiting p.same (each_site d.waiting i.1.2) (λ q. i.0) (λ q. tt))
