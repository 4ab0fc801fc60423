-- A read, a write, a delete or a weigh is done: at once, or when the holders that are asked have answered.
use Rattle.std.proofs.Common.{◌≡◌, ◌≢◌, ◌⊎◌, ◌∙◌, ap, sym, subst, ℕ, ◌+◌, ◌*◌, ◌<◌, ◌≤◌, Bool, true, false, cond, List, [], ◌∷◌, ◌++◌, length, refl, arith, ⊎_elim, inl, inr, length-append}
use Rattle.std.specs.Prelude.{Option, Some, None, ◌==◌, ◌&&◌, not, nat_eq, nat_lt, nat_le, option_map, sum_by}
use Rattle.std.specs.List.{list_any}
use Rattle.std.proofs.lemmas.Bool.{eqb-true}
use Rattle.std.proofs.lemmas.Bool.Decides.{nat_tests}
use Rattle.std.proofs.lemmas.List.Sums.{fold-append}
use Rattle.vp_model.specs.Types.{ViewId, View, Stored, Change, Call, Message, Pending, Live}
use Rattle.vp_model.specs.Types.call
use Rattle.vp_model.specs.Types.input
use Rattle.vp_model.specs.Types.message
use Rattle.vp_model.specs.Types.op
use Rattle.vp_model.specs.Words.{first, for_each, has, is_empty, put_number, put_at, value_at}
use Rattle.vp_model.specs.Catalogue.{Catalogue, Table, find_record, holders, has_holders, accessible_by}
use Rattle.vp_model.specs.Locks.{conflict}
use Rattle.vp_model.specs.Site.{Bars, SiteState, Lent, begin_step, put_back}
use Rattle.vp_model.specs.Transactions.{Deed, with_operation, with_table, with_op, last_writes, last_changes, entry_of, with_deed, complete}
use Rattle.vp_model.specs.Refresh.{members_in, other_holders_in}
use Rattle.vp_model.specs.Messages.{holds_view, grant}
use Rattle.vp_model.specs.Calls.{content_size, size_of, is_too_large, handled, change_asked, answer_read, read, read_at, change, write_at, change_elsewhere, take_lock}
use Rattle.vp_model.specs.Step.{step}
use Rattle.vp_model.specs.World.{WorldState}
use Rattle.vp_laws.proofs.Lists.Members.{Has, has_none, has_one, has_one_is, has_first, has_more, has_cons, has_test, has_from_test, any_of, filter_has, filter_keeps, both_true}
use Rattle.vp_laws.proofs.Lists.Changes.{put_new}
use Rattle.vp_laws.proofs.Lists.Views.{put_keeps, put_only}
use Rattle.vp_laws.proofs.Lists.Numbers.{differs, not_same}
use Rattle.vp_laws.proofs.Moves.LocalViews.{letter}
use Rattle.vp_laws.proofs.Moves.Table.{lent_at}
use Rattle.vp_laws.proofs.Journal.Changed.{alters, changed_by}
use Rattle.vp_laws.proofs.Moves.Calls.{waiting, done}
use Rattle.vp_laws.proofs.Shapes.Live.{put_size}
use Rattle.vp_laws.proofs.Worlds.Scenes.{scene_of}
use Rattle.vp_laws.proofs.Invariant.Held.{has_copy}
use Rattle.vp_laws.proofs.Invariant.Known.{Known}
use Rattle.vp_progress.specs.Going.{is_regroup}
use Rattle.vp_progress.specs.Clients.{Wish, name_in, bytes_in, Fulfils, MayGive}
use Rattle.vp_progress.proofs.Calm.{serves_since}
use Rattle.vp_progress.proofs.Can.{Can, can_now}
use Rattle.vp_progress.proofs.Started.{Past}
use Rattle.vp_progress.proofs.Acts.{Did, Since, sends_since}
use Rattle.vp_progress.proofs.Current.{holds_it}
use Rattle.vp_progress.proofs.Serving.Rows.{read_own, read_copy, read_there, change_again, change_copy, change_there, change_alone, change_asks, reads, writes, deletes, weighs}
use Rattle.vp_progress.proofs.Serving.Answers.{reads_answered, changes_answered}
use Rattle.vp_progress.proofs.Serving.Parts.{grants_read, grants_write}
use Rattle.vp_progress.proofs.Serving.Sites.{Rest, LeadsOn, leads_first, rests_free, Gives, grants_on}
use Rattle.vp_progress.proofs.Serving.Leading.{completes, locks_on, asks_read, asks_writes}
use Rattle.vp_progress.proofs.Serving.Worlds.{TakesAt, IsUnused, Serving, Exchanged, calls, led_in, own_moves, exchanges}
use Rattle.vp_progress.proofs.Serving.Waiting.{still_left, Asked, Counted, counts, exchanged, waits_all}

-- ---- parts that are put among others

each_only : (sites parts : List ℕ) (k : ℕ) → Has (for_each sites put_number parts) k → Has parts k ⊎ Has sites k
each_only [] parts k h = inl h
each_only (s ∷ sites) parts k h =
    ⊎_elim (λ old. ⊎_elim (λ was. inl was) (λ (one : s ≡ k). inr (rw one (has_first k sites))) (put_only s parts k old)) (λ more. inr (has_more s sites k more)) (each_only sites (put_number s parts) k h)

each_keeps : (sites parts : List ℕ) (k : ℕ) → Has parts k → Has (for_each sites put_number parts) k
each_keeps [] parts k h = h
each_keeps (s ∷ sites) parts k h = each_keeps sites (put_number s parts) k (put_keeps s parts k h)

put_there : (s : ℕ) (parts : List ℕ) → Has (put_number s parts) s
put_there s parts = put_new nat_eq nat_lt s parts

each_there : (sites parts : List ℕ) (k : ℕ) → Has sites k → Has (for_each sites put_number parts) k
each_there [] parts k h = absurd (has_none k h)
each_there (s ∷ sites) parts k h =
    ⊎_elim (λ (one : s ≡ k). each_keeps sites (put_number s parts) k (rw one (put_there k parts))) (λ more. each_there sites (put_number s parts) k more) (has_cons s sites k h)

-- ---- the other holders of a record in the view

pub other_holder : (catalogue : Catalogue) (id rec k : ℕ) (v : View) (held : Option View) → held ≡ Some v → Has (other_holders_in catalogue id held rec) k → Has v.members k × (k ≢ id) × Has (holders catalogue rec) k
other_holder catalogue id rec k v held e h =
    let f = filter_has (λ (q : ℕ). has (members_in held) q && not (q == id)) (holders catalogue rec) k h in
    let b = both_true (has (members_in held) k) (not (k == id)) f.1 in
    (has_from_test v.members k (rw e at b.0), differs k id b.1, f.0)

pub is_other : (catalogue : Catalogue) (id rec k : ℕ) (v : View) (held : Option View) → held ≡ Some v → Has v.members k → k ≢ id → Has (holders catalogue rec) k → Has (other_holders_in catalogue id held rec) k
is_other catalogue id rec k v held e member other holder =
    filter_keeps (λ (q : ℕ). has (members_in held) q && not (q == id)) (holders catalogue rec) k holder (rw (e, has_test v.members k member, not_same k id other) refl)

first_of : (xs : List ℕ) (k : ℕ) → Has xs k → (j : ℕ) × (first xs ≡ Some j) × Has xs j
first_of [] k h = absurd (has_none k h)
first_of (x ∷ xs) k h = (x, refl, has_first x xs)

few_calls : (n : ℕ) → n < 64 → nat_le 64 n ≡ false
few_calls n h = grind (arith, nat_tests, h)

-- ---- the size of a transaction

-- the bytes that a deed writes
abbrev bytes_written : Deed → ℕ
bytes_written (Deed.operates (op.Read rec content)) = 0
bytes_written (Deed.operates (op.Write rec content)) = content_size content
bytes_written (Deed.weighs rec table) = 50

longer : (rec : ℕ) (table : Table) (ts : List (ℕ × Table)) → length (put_at rec table ts) ≤ length ts + 1
longer rec table [] = omega arith
longer rec table (t ∷ ts) = go (rec == t.0) (nat_lt rec t.0) (longer rec table ts)
  where
    go : (a b : Bool) → length (put_at rec table ts) ≤ length ts + 1 → length (cond a ((rec, table) ∷ ts) (cond b ((rec, table) ∷ t ∷ ts) (t ∷ put_at rec table ts))) ≤ length (t ∷ ts) + 1
    go true b h = omega arith
    go false true h = omega arith
    go false false h = omega (arith, h)

-- a deed makes the transaction larger by no more than it writes
deed_size : (t : Live) (deed : Deed) → size_of (with_deed deed t) ≤ size_of t + bytes_written deed
deed_size t (Deed.operates (op.Read rec content)) = subst (λ (ws : List (ℕ × Option (List ℕ))). sum_by (λ (w : ℕ × Option (List ℕ)). content_size w.1) ws + 50 * length t.tables ≤ size_of t + 0) (sym (fold-append with_op [] t.ops (op.Read rec content ∷ []))) (omega arith)
deed_size t (Deed.operates (op.Write rec content)) =
    let more = put_size rec content (last_writes t.ops) in
    subst (λ (ws : List (ℕ × Option (List ℕ))). sum_by (λ (w : ℕ × Option (List ℕ)). content_size w.1) ws + 50 * length t.tables ≤ size_of t + content_size content) (sym (fold-append with_op [] t.ops (op.Write rec content ∷ []))) (omega (arith, more))
deed_size t (Deed.weighs rec table) = let more = longer rec table t.tables in omega (arith, more)

-- what fulfils a wish writes no more than was asked
fulfils_size : (catalogue : Catalogue) (wish : Wish) (deed : Deed) → Fulfils catalogue wish deed → bytes_written deed ≤ bytes_in wish
fulfils_size catalogue (Wish.read name) (Deed.operates (op.Read rec content)) h = omega arith
fulfils_size catalogue (Wish.write name value) (Deed.operates (op.Write rec content)) h = rw h.1 (omega arith)
fulfils_size catalogue (Wish.delete name) (Deed.operates (op.Write rec content)) h = rw h.1 (omega arith)
fulfils_size catalogue (Wish.weigh name table) (Deed.weighs rec given) h = omega arith
fulfils_size catalogue (Wish.read name) (Deed.operates (op.Write rec content)) h = absurd h
fulfils_size catalogue (Wish.write name value) (Deed.operates (op.Read rec content)) h = absurd h
fulfils_size catalogue (Wish.delete name) (Deed.operates (op.Read rec content)) h = absurd h
fulfils_size catalogue (Wish.weigh name table) (Deed.operates (op.Read rec content)) h = absurd h
fulfils_size catalogue (Wish.weigh name table) (Deed.operates (op.Write rec content)) h = absurd h
fulfils_size catalogue (Wish.read name) (Deed.weighs rec table) h = absurd h
fulfils_size catalogue (Wish.write name value) (Deed.weighs rec table) h = absurd h
fulfils_size catalogue (Wish.delete name) (Deed.weighs rec table) h = absurd h

pub done_size : (catalogue : Catalogue) (t : Live) (wish : Wish) (deed : Deed) → Fulfils catalogue wish deed → size_of (with_deed deed t) ≤ size_of t + bytes_in wish
done_size catalogue t wish deed h = let a = deed_size t deed in let b = fulfils_size catalogue wish deed h in omega (arith, a, b)

not_too_large : (t : Live) (rec : ℕ) (value : List ℕ) → size_of t + length value ≤ 15360 → is_too_large t (Deed.operates (op.Write rec (Some value))) ≡ false
not_too_large t rec value h = let a = deed_size t (Deed.operates (op.Write rec (Some value))) in grind (arith, nat_tests, h, a)

not_too_many : (t : Live) (rec : ℕ) (table : Table) → size_of t + 50 ≤ 15360 → is_too_large t (Deed.weighs rec table) ≡ false
not_too_many t rec table h = let a = deed_size t (Deed.weighs rec table) in grind (arith, nat_tests, h, a)

module _ (catalogue : Catalogue) (ns : List ℕ) (v : View) (q : ℕ) (lead : Has ns q) (rest : ℕ → Rest) (among : (k : ℕ) → Has v.members k → Has ns k) (past : Past) where
  abbrev pub Goes : Live → List ℕ → WorldState → Type 0
  Goes t missing w = Serving catalogue ns v q rest among past t missing w

  abbrev pub Free : ℕ → Type 0
  Free rec = IsUnused catalogue ns v q rest among rec

  abbrev Reaches : WorldState → (WorldState → Type 0) → Type 0
  Reaches w Q = Can catalogue (serves_since past.told q ns) w Q

  -- the wish is fulfilled by one deed more
  pub record Done (t : Live) (wish : Wish) (w : WorldState) : Type 0 where
    pub deed : Deed
    pub fulfils : Fulfils catalogue wish deed
    pub now : Live
    pub goes : Goes now [] w
    pub idle : now.pending ≡ None
    pub ops : now.ops ≡ with_operation deed t.ops
    pub answers : length now.answers ≡ length t.answers + 1
    pub size : size_of now ≤ size_of t + bytes_in wish
    pub tables : now.tables ≡ with_table deed t.tables
    pub named : now.txn ≡ t.txn

  -- it writes nothing, or a free record
  abbrev WritesFree : Deed → Type 0
  WritesFree (Deed.operates (op.Read rec content)) = Unit {0}
  WritesFree (Deed.operates (op.Write rec content)) = Free rec
  WritesFree (Deed.weighs rec table) = Free rec

  altered_free : (deed : Deed) (rec : ℕ) → WritesFree deed → alters deed rec ≡ true → Free rec
  altered_free (Deed.operates (op.Read other content)) rec new h = cc
  altered_free (Deed.operates (op.Write other content)) rec new h = subst Free (eqb-true other rec h) new
  altered_free (Deed.weighs other table) rec new h = subst Free (eqb-true other rec h) new

  -- the deed is done, where no part is missing
  finishes : (t : Live) (missing : List ℕ) (w new : WorldState) (f : Goes t missing w) (p : Pending) (deed : Deed) (l : Lent) → ((k : ℕ) → Has t.parts k → TakesAt t.txn k w) → WritesFree deed → LeadsOn (rest q) t l → Known catalogue (scene_of new) → Did w new q f.at (put_back (begin_step f.at) (complete t p deed l)) → Goes (done t p deed) [] new
  finishes t missing w new f p deed l all free g known d =
      own_moves catalogue ns v q rest among past t (done t p deed) missing [] w new f (complete t p deed l) known d (completes (rest q) t l g p deed) refl
      (λ rec h. ⊎_elim (λ old. f.free rec old) (λ one. altered_free deed rec free one.0) (changed_by t p deed rec h))
      (λ k h. h) (λ k h. inr (all k h))

  -- with no part missing, each has come
  all_there : (t : Live) (w : WorldState) → Goes t [] w → (k : ℕ) → Has t.parts k → TakesAt t.txn k w
  all_there t w f k part =
      let i = (led_in catalogue ns v q rest among past t [] w f).1 k part in
      let o = f.others k i.0 i.1 in
      ⊎_elim (λ none. absurd (has_none k none)) (λ there. (o.at, o.up, there)) (o.part part)

  -- a lock that the transaction asks for at another holder is granted
  module _ (rec : ℕ) (free : Free rec) (t : Live) (missing : List ℕ) (w : WorldState) (f : Goes t missing w) (k : ℕ) (here : Has ns k) (n : k ≢ q) (holder : Has (holders catalogue rec) k) (part : Has t.parts k) (number : ℕ) where
    abbrev lender : SiteState
    lender = (f.others k here n).at

    copy_there : (stored : Stored) × (value_at rec lender.copies ≡ Some stored)
    copy_there = let o = f.others k here n in has_copy catalogue (scene_of w) k o.at o.up (f.known.views.site k o.at o.up).kept f.known.held rec holder

    open_there : value_at rec lender.bars ≡ None
    open_there = ap (λ (bars : Bars). value_at rec bars) (f.others k here n).lends.bars ∙ free.unbarred k here

    holds_there : holds_view lender t.view ≡ true
    holds_there = subst (λ (i : ViewId). holds_view lender i ≡ true) (sym (led_in catalogue ns v q rest among past t missing w f).0) (holds_it lender v (f.others k here n).lends.held)

    free_there : (exclusive : Bool) → conflict rec exclusive t.txn lender.locks ≡ None
    free_there exclusive = rests_free (rest k) rec exclusive t.txn lender.locks (f.others k here n).lends.locks (λ l h. free.unlocked k l here h)

    abbrev Gets : Message → Type 0
    Gets answer = Can catalogue (serves_since past.told q ns) w (Exchanged catalogue ns v q rest among past t missing k answer w)

    granted_there : (exclusive : Bool) (words answer : Message) → Since past.told w (letter q k words) → step catalogue lender (input.Message q words) ≡ grant t.txn t.view rec exclusive answer q (begin_step lender) → Gets answer
    granted_there exclusive words answer sent row =
        let lends = (f.others k here n).lends in
        exchanges catalogue ns v q rest among past lead t missing w k here n f part words answer sent (subst (Gives v (rest k) t.txn lender lends q answer) (sym row) (grants_on v (rest k) t.txn lender lends t.view rec exclusive answer q))

    reads_there : Since past.told w (letter q k (message.ReadRequest t.txn t.view number rec)) → Gets (message.ReadAnswer t.txn number copy_there.0.value)
    reads_there sent = granted_there false _ _ sent (grants_read catalogue lender q t.txn t.view number rec copy_there.0 holds_there (f.others k here n).lends.new copy_there.1 open_there (free_there false))

    writes_there : Since past.told w (letter q k (message.WriteRequest t.txn t.view number rec)) → Gets (message.WriteAnswer t.txn number)
    writes_there sent = granted_there true _ _ sent (grants_write catalogue lender q t.txn t.view number rec copy_there.0 holds_there (f.others k here n).lends.new copy_there.1 open_there (free_there true))

  module _ (t : Live) (w : WorldState) (f : Goes t [] w) (idle : t.pending ≡ None) (few : length t.answers < 64) (name : List ℕ) (rec : ℕ) (found : find_record catalogue name ≡ Some rec) (free : Free rec) where
    abbrev x : SiteState
    x = f.at

    abbrev number : ℕ
    number = length t.answers + 1

    mine : LeadsOn (rest q) t (lent_at x)
    mine = leads_first v (rest q) t x f.leads

    open_here : value_at rec x.bars ≡ None
    open_here = ap (λ (bars : Bars). value_at rec bars) f.leads.bars ∙ free.unbarred q lead

    held_here : list_any (has (members_in x.held)) (holders catalogue rec) ≡ true
    held_here = let h = free.holder in subst (λ (held : Option View). list_any (has (members_in held)) (holders catalogue rec) ≡ true) (sym f.leads.held) (any_of (has v.members) (holders catalogue rec) h.0 h.1 (has_test v.members h.0 h.2))

    unlocked : (exclusive : Bool) → conflict rec exclusive t.txn x.locks ≡ None
    unlocked exclusive = rests_free (rest q) rec exclusive t.txn x.locks f.leads.locks (λ l h. free.unlocked q l lead h)

    id_is : x.id ≡ q
    id_is = (f.known.views.site q x f.up).id

    -- another holder of the record in the view
    other_site : (k : ℕ) → Has (other_holders_in catalogue x.id x.held rec) k → Has ns k × (k ≢ q) × Has (holders catalogue rec) k
    other_site k h = let o = other_holder catalogue x.id rec k v x.held f.leads.held h in (among k o.0, (λ same. o.1 (same ∙ sym id_is)), o.2)

    -- the step that the call takes, where it is done at once
    at_once : (p : Pending) (deed : Deed) (wish : Wish) (l : Lent) (new : WorldState) → Fulfils catalogue wish deed → WritesFree deed → LeadsOn (rest q) t l → Known catalogue (scene_of new) → Did w new q x (put_back (begin_step x) (complete t p deed l)) → Reaches new (Done t wish)
    at_once p deed wish l new fulfils writes g known d = can_now catalogue (serves_since past.told q ns) _ new (record {
      deed = deed;
      fulfils = fulfils;
      now = done t p deed;
      goes = finishes t [] w new f p deed l (all_there t w f) writes g known d;
      idle = refl;
      ops = refl;
      answers = length-append t.answers _;
      size = done_size catalogue t wish deed fulfils;
      tables = refl;
      named = refl;
    })

    -- ---- a read

    module _ (k : ℕ) (other : Has (other_holders_in catalogue x.id x.held rec) k) where
      abbrev read_call : Pending
      read_call = handled 0 number (call.Read t.txn number name)

      abbrev reader : Live
      reader = record t { remote = t.remote ++ (k, rec) ∷ []; parts = put_number k t.parts }

      abbrev read_ask : ℕ → Message
      read_ask j = message.ReadRequest t.txn t.view number rec

      read_one : (missing : List ℕ) (j : ℕ) (u : WorldState) → Has (k ∷ []) j → Has missing j → Goes (waiting reader read_call missing) missing u → Asked catalogue ns v q lead rest among past reader read_call read_ask (Done t (Wish.read name)) (λ sites. sites) (λ sites j h. h) still_left missing u → Reaches u (Counted catalogue ns v q lead rest among past reader read_call read_ask (Done t (Wish.read name)) (λ sites. sites) (λ sites j h. h) still_left missing j u)
      read_one missing j u one waits g asked =
          let is : k ≡ j = has_one_is k j one in
          let o = other_site j (subst (Has (other_holders_in catalogue x.id x.held rec)) is other) in
          let now = waiting reader read_call missing in
          let c = copy_there rec free now missing u g j o.0 o.1 o.2 (subst (λ (j : ℕ). Has (put_number k t.parts) j) is (put_there k t.parts)) number in
          exchanged catalogue ns v q lead rest among past reader read_call read_ask (Done t (Wish.read name)) (λ sites. sites) (λ sites j h. h) still_left missing j u (message.ReadAnswer t.txn number c.0.value)
          (reads_there rec free now missing u g j o.0 o.1 o.2 (subst (λ (j : ℕ). Has (put_number k t.parts) j) is (put_there k t.parts)) number (asked j waits))
          λ mid e. counts catalogue ns v q lead rest among past reader read_call read_ask (Done t (Wish.read name)) (λ sites. sites) (λ sites j h. h) still_left missing j mid e.serving o.0 waits e.takes (message.ReadAnswer t.txn number c.0.value) e.answered
          (answer_read now (record read_call { missing = missing }) rec c.0.value)
          (reads_answered catalogue j now (record read_call { missing = missing }) refl (has_test missing j waits) e.serving.at t.txn number name c.0.value rec e.serving.leads.live refl found)
          λ all new known d. can_now catalogue (serves_since past.told q ns) _ new (record {
            deed = Deed.operates (op.Read rec c.0.value);
            fulfils = found;
            now = done now (record read_call { missing = missing }) (Deed.operates (op.Read rec c.0.value));
            goes = finishes now missing mid new e.serving (record read_call { missing = missing }) (Deed.operates (op.Read rec c.0.value)) (lent_at e.serving.at) all tt (leads_first v (rest q) now e.serving.at e.serving.leads) known d;
            idle = refl;
            ops = refl;
            answers = length-append t.answers _;
            size = done_size catalogue t (Wish.read name) (Deed.operates (op.Read rec c.0.value)) found;
            tables = refl;
            named = refl;
          })

      read_asked : (new : WorldState) → Known catalogue (scene_of new) → Did w new q x (put_back (begin_step x) (read_at x.id t read_call rec k (lent_at x))) → Reaches new (Done t (Wish.read name))
      read_asked new known d =
          let a = asks_read (rest q) t (lent_at x) mine x.id read_call rec k in
          waits_all catalogue ns v q lead rest among past reader read_call read_ask (Done t (Wish.read name)) (λ sites. sites) (λ sites j h. h) still_left (k ∷ []) read_one 1 (k ∷ []) new (λ j h. h) (omega arith) refl
          (own_moves catalogue ns v q rest among past t (waiting reader read_call (k ∷ [])) [] (k ∷ []) w new f _ known d a.0 refl f.free (λ j h. put_keeps k t.parts j h)
          (λ j h. ⊎_elim (λ old. inr (all_there t w f j old)) (λ (one : k ≡ j). inl (rw one (has_one j))) (put_only k t.parts j h)))
          (λ j h. sends_since past.told f.stand.grown d _ (subst (λ (i : ℕ). Has (read_at x.id t read_call rec k (lent_at x)).effects.messages (letter i j (read_ask j))) id_is (subst (λ (j : ℕ). Has (read_at x.id t read_call rec k (lent_at x)).effects.messages (letter x.id j (read_ask k))) (has_one_is k j h) a.1)))

    read_done : Reaches w (Done t (Wish.read name))
    read_done =
        calls catalogue ns v q rest among past.told (Done t (Wish.read name)) w f.known x f.up (call.Read t.txn number name) refl
        λ new known d. go new known d (value_at rec (last_writes t.ops)) refl (value_at rec x.copies) refl
      where
        p : Pending
        p = handled 0 number (call.Read t.txn number name)

        row : step catalogue x (input.Call 0 (call.Read t.txn number name)) ≡ put_back (begin_step x) (read catalogue x.id x.held t p name rec (lent_at x))
        row = reads catalogue x t number f.leads.live refl idle name rec found (few_calls (length t.answers) few) open_here held_here

        asks : (new : WorldState) → Known catalogue (scene_of new) → Did w new q x (step catalogue x (input.Call 0 (call.Read t.txn number name))) → value_at rec (last_writes t.ops) ≡ None → value_at rec x.copies ≡ None → Reaches new (Done t (Wish.read name))
        asks new known d e c =
            let h = free.holder in
            let away : h.0 ≢ q = (λ (same : h.0 ≡ q). let copy = has_copy catalogue (scene_of w) q x f.up (f.known.views.site q x f.up).kept f.known.held rec (subst (Has (holders catalogue rec)) same h.1) in let z = sym c ∙ copy.1 in cc) in
            let k = first_of (other_holders_in catalogue x.id x.held rec) h.0 (is_other catalogue x.id rec h.0 v x.held f.leads.held h.2 (λ same. away (same ∙ id_is)) h.1) in
            read_asked k.0 k.2 new known (subst (Did w new q x) (row ∙ ap (put_back (begin_step x)) (read_there catalogue x.id x.held t (lent_at x) p name rec k.0 e c k.1)) d)

        go : (new : WorldState) → Known catalogue (scene_of new) → Did w new q x (step catalogue x (input.Call 0 (call.Read t.txn number name))) → (o : Option (Option (List ℕ))) → value_at rec (last_writes t.ops) ≡ o → (c : Option Stored) → value_at rec x.copies ≡ c → Reaches new (Done t (Wish.read name))
        go new known d (Some value) e c r = at_once p (Deed.operates (op.Read rec value)) (Wish.read name) (lent_at x) new found tt mine known (subst (Did w new q x) (row ∙ ap (put_back (begin_step x)) (read_own catalogue x.id x.held t (lent_at x) p name rec value e)) d)
        go new known d None e (Some stored) r = at_once p (Deed.operates (op.Read rec stored.value)) (Wish.read name) (take_lock t.txn rec false (lent_at x)) new found tt (locks_on (rest q) t (lent_at x) mine rec false) known (subst (Did w new q x) (row ∙ ap (put_back (begin_step x)) (read_copy catalogue x.id x.held t (lent_at x) p name rec stored e r (unlocked false))) d)
        go new known d None e None r = asks new known d e r

    -- ---- a write, a delete or a weigh

    module _ (deed : Deed) (unused : WritesFree deed) (words : Call) (wish : Wish) (fulfilled : Fulfils catalogue wish deed) (asked : change_asked catalogue words ≡ Some deed) where
      abbrev change_call : Pending
      change_call = handled 0 number words

      abbrev sites : List ℕ
      sites = other_holders_in catalogue x.id x.held rec

      abbrev writer : Live
      writer = record t { parts = for_each sites put_number t.parts }

      abbrev write_ask : ℕ → Message
      write_ask j = message.WriteRequest t.txn t.view number rec

      abbrev Changed : WorldState → Type 0
      Changed u = Done t wish u

      change_one : (missing : List ℕ) (j : ℕ) (u : WorldState) → Has sites j → Has missing j → Goes (waiting writer change_call missing) missing u → Asked catalogue ns v q lead rest among past writer change_call write_ask Changed (λ sites. sites) (λ sites j h. h) still_left missing u → Reaches u (Counted catalogue ns v q lead rest among past writer change_call write_ask Changed (λ sites. sites) (λ sites j h. h) still_left missing j u)
      change_one missing j u one waits g sent =
          let o = other_site j one in
          let now = waiting writer change_call missing in
          exchanged catalogue ns v q lead rest among past writer change_call write_ask Changed (λ sites. sites) (λ sites j h. h) still_left missing j u (message.WriteAnswer t.txn number)
          (writes_there rec free now missing u g j o.0 o.1 o.2 (each_there sites t.parts j one) number (sent j waits))
          λ mid e. counts catalogue ns v q lead rest among past writer change_call write_ask Changed (λ sites. sites) (λ sites j h. h) still_left missing j mid e.serving o.0 waits e.takes (message.WriteAnswer t.txn number) e.answered
          (complete now (record change_call { missing = missing }) deed)
          (changes_answered catalogue j now (record change_call { missing = missing }) refl (has_test missing j waits) e.serving.at deed e.serving.leads.live asked)
          λ all new known d. can_now catalogue (serves_since past.told q ns) _ new (record {
            deed = deed;
            fulfils = fulfilled;
            now = done now (record change_call { missing = missing }) deed;
            goes = finishes now missing mid new e.serving (record change_call { missing = missing }) deed (lent_at e.serving.at) all unused (leads_first v (rest q) now e.serving.at e.serving.leads) known d;
            idle = refl;
            ops = refl;
            answers = length-append t.answers _;
            size = done_size catalogue t wish deed fulfilled;
            tables = refl;
            named = refl;
          })

      change_sent : (l : Lent) → LeadsOn (rest q) t l → (new : WorldState) → Known catalogue (scene_of new) → is_empty sites ≡ false → Did w new q x (put_back (begin_step x) (write_at x.id t change_call rec sites l)) → Reaches new Changed
      change_sent l leads new known some d =
          let a = asks_writes (rest q) t l leads x.id change_call rec sites in
          waits_all catalogue ns v q lead rest among past writer change_call write_ask Changed (λ sites. sites) (λ sites j h. h) still_left sites change_one (length sites) sites new (λ j h. h) (omega arith) some
          (own_moves catalogue ns v q rest among past t (waiting writer change_call sites) [] sites w new f _ known d a.0 refl f.free (λ j h. each_keeps sites t.parts j h)
          (λ j h. ⊎_elim (λ old. inr (all_there t w f j old)) (λ more. inl more) (each_only sites t.parts j h)))
          (λ j h. sends_since past.told f.stand.grown d _ (subst (λ (i : ℕ). Has (write_at x.id t change_call rec sites l).effects.messages (letter i j (write_ask j))) id_is (a.1 j h)))

      change_on : (l : Lent) → LeadsOn (rest q) t l → (new : WorldState) → Known catalogue (scene_of new) → Did w new q x (put_back (begin_step x) (change_elsewhere catalogue x.id x.held t change_call rec deed l)) → Reaches new Changed
      change_on l leads new known d = go (is_empty sites) refl
        where
          go : (b : Bool) → is_empty sites ≡ b → Reaches new Changed
          go true e = at_once change_call deed wish l new fulfilled unused leads known (subst (Did w new q x) (ap (put_back (begin_step x)) (change_alone catalogue x.id x.held t l change_call rec deed e)) d)
          go false e = change_sent l leads new known e (subst (Did w new q x) (ap (put_back (begin_step x)) (change_asks catalogue x.id x.held t l change_call rec deed e)) d)

      change_done : (asks : ℕ → Deed) → asks rec ≡ deed → is_regroup words ≡ false → step catalogue x (input.Call 0 words) ≡ put_back (begin_step x) (change catalogue x.id x.held t change_call name asks rec (lent_at x)) → Reaches w Changed
      change_done asks same other row =
          calls catalogue ns v q rest among past.told Changed w f.known x f.up words other
          λ new known d. go new known d (value_at rec (last_changes (entry_of t))) refl (value_at rec x.copies) refl
        where
          on : {l m : Lent} (new : WorldState) → Did w new q x (step catalogue x (input.Call 0 words)) → change catalogue x.id x.held t change_call name asks rec (lent_at x) ≡ l → l ≡ m → Did w new q x (put_back (begin_step x) m)
          on new d e n = subst (Did w new q x) (row ∙ ap (put_back (begin_step x)) (e ∙ n)) d

          elsewhere : (l : Lent) → change_elsewhere catalogue x.id x.held t change_call rec (asks rec) l ≡ change_elsewhere catalogue x.id x.held t change_call rec deed l
          elsewhere l = ap (λ (deed : Deed). change_elsewhere catalogue x.id x.held t change_call rec deed l) same

          go : (new : WorldState) → Known catalogue (scene_of new) → Did w new q x (step catalogue x (input.Call 0 words)) → (o : Option Change) → value_at rec (last_changes (entry_of t)) ≡ o → (c : Option Stored) → value_at rec x.copies ≡ c → Reaches new Changed
          go new known d (Some before) e c r = at_once change_call deed wish (lent_at x) new fulfilled unused mine known (on new d (change_again catalogue x.id x.held t (lent_at x) change_call name asks rec before e) (ap (λ (deed : Deed). complete t change_call deed (lent_at x)) same))
          go new known d None e (Some stored) r = change_on (take_lock t.txn rec true (lent_at x)) (locks_on (rest q) t (lent_at x) mine rec true) new known (on new d (change_copy catalogue x.id x.held t (lent_at x) change_call name asks rec stored e r (unlocked true)) (elsewhere (take_lock t.txn rec true (lent_at x))))
          go new known d None e None r = change_on (lent_at x) mine new known (on new d (change_there catalogue x.id x.held t (lent_at x) change_call name asks rec e r) (elsewhere (lent_at x)))

    -- the record is found
    asked_of : (make : ℕ → Deed) → option_map make (find_record catalogue name) ≡ Some (make rec)
    asked_of make = rw found refl

    write_done : (value : List ℕ) → size_of t + length value ≤ 15360 → Reaches w (Done t (Wish.write name value))
    write_done value small =
        change_done (Deed.operates (op.Write rec (Some value))) free (call.Write t.txn number name value) (Wish.write name value) (found, refl) (asked_of (λ rec. Deed.operates (op.Write rec (Some value))))
        (λ rec. Deed.operates (op.Write rec (Some value))) refl refl (writes catalogue x t number f.leads.live refl idle name value rec found (few_calls (length t.answers) few) (not_too_large t rec value small) open_here held_here)

    delete_done : Reaches w (Done t (Wish.delete name))
    delete_done =
        change_done (Deed.operates (op.Write rec None)) free (call.Delete t.txn number name) (Wish.delete name) (found, refl) (asked_of (λ rec. Deed.operates (op.Write rec None)))
        (λ rec. Deed.operates (op.Write rec None)) refl refl (deletes catalogue x t number f.leads.live refl idle name rec found (few_calls (length t.answers) few) open_here held_here)

    weigh_done : (table : Table) → size_of t + 50 ≤ 15360 → has_holders catalogue rec table ≡ true → accessible_by table v.members ≡ true → Reaches w (Done t (Wish.weigh name table))
    weigh_done table small fits enough =
        change_done (Deed.weighs rec table) free (call.Weigh t.txn number name table) (Wish.weigh name table) (found, refl) (asked_of (λ rec. Deed.weighs rec table))
        (λ rec. Deed.weighs rec table) refl refl (weighs catalogue x t number f.leads.live refl idle name table rec found (few_calls (length t.answers) few) (not_too_many t rec table small) fits (subst (λ (held : Option View). accessible_by table (members_in held) ≡ true) (sym f.leads.held) enough) open_here held_here)

  -- a wish of a free record is fulfilled
  pub fulfils_one : (t : Live) (w : WorldState) → Goes t [] w → t.pending ≡ None → length t.answers < 64 → (wish : Wish) → size_of t + bytes_in wish ≤ 15360 → (rec : ℕ) → find_record catalogue (name_in wish) ≡ Some rec → Free rec → MayGive catalogue v.members wish → Reaches w (Done t wish)
  fulfils_one t w f idle few (Wish.read name) small rec found free may = read_done t w f idle few name rec found free
  fulfils_one t w f idle few (Wish.write name value) small rec found free may = write_done t w f idle few name rec found free value small
  fulfils_one t w f idle few (Wish.delete name) small rec found free may = delete_done t w f idle few name rec found free
  fulfils_one t w f idle few (Wish.weigh name table) small rec found free may = weigh_done t w f idle few name rec found free table small (may.0 rec found) may.1
