-- What one more line adds to the tables that the lines tell of a transaction.
use Rattle.std.proofs.Common.{◌≡◌, ◌∙◌, ap, sym, subst, ℕ, ◌+◌, ◌≤◌, ◌<◌, Bool, true, false, cond, List, [], ◌∷◌, ◌++◌, map, refl, arith, ⊎_elim}
use Rattle.std.specs.Prelude.{⊤, Option, Some, None, is_some, nat_eq, nat_lt, option_and_then, option_map, filter_map, flat_map}
use Rattle.std.specs.List.{AllByRecursion, cons_option}
use Rattle.std.proofs.lemmas.Bool.Decides.{nat_tests}
use Rattle.std.proofs.lemmas.List.Elements.{filter_map-append}
use Rattle.std.proofs.lemmas.List.Sums.{fold-append}
use Rattle.vp_model.specs.Types.{TxnId, Op, Answer, Call, Reply, Input, Pending, Live, Line}
use Rattle.vp_model.specs.Types.call
use Rattle.vp_model.specs.Types.op
use Rattle.vp_model.specs.Words.{for_each, put_number, put_at}
use Rattle.vp_model.specs.Catalogue.{Catalogue, Table, find_record}
use Rattle.vp_model.specs.Site.{SiteState, Lent}
use Rattle.vp_model.specs.Transactions.{Deed, deed_answer}
use Rattle.vp_model.specs.Calls.{change_asked}
use Rattle.vp_model.specs.Told.{answers_in, weighed, table_asked, taken_call, weighed_in, told_tables}
use Rattle.vp_text.proofs.Items.{all_push, all_each}
use Rattle.vp_laws.proofs.Table.ToldLines.{flat_last, taken_kept}
use Rattle.vp_laws.proofs.Lists.Members.{Has, has_none, has_first, has_more, has_cons}
use Rattle.vp_laws.proofs.Lists.Items.{all_at}
use Rattle.vp_laws.proofs.Lists.Views.{put_keeps}
use Rattle.vp_laws.proofs.Moves.Table.{Completes}

-- numbers, each above the one before it
abbrev pub Rises : List ℕ → Type 0
Rises [] = ⊤
Rises (n ∷ ns) = AllByRecursion (λ (m : ℕ). n < m) ns × Rises ns

-- one that is there stays alone
put_old : (n : ℕ) (ns : List ℕ) → Rises ns → Has ns n → put_number n ns ≡ ns
put_old n [] r h = absurd (has_none n h)
put_old n (m ∷ ns) r h = ⊎_elim first (λ more. later (all_at (λ (k : ℕ). m < k) ns r.0 n more) (put_old n ns r.1 more)) (has_cons m ns n h)
  where
    first : m ≡ n → put_number n (m ∷ ns) ≡ m ∷ ns
    first same = let t : nat_eq n m ≡ true = grind (arith, nat_tests, same) in rw t (ap (λ (k : ℕ). k ∷ ns) (sym same))

    later : m < n → put_number n ns ≡ ns → put_number n (m ∷ ns) ≡ m ∷ ns
    later less rest =
        let a : nat_eq n m ≡ false = grind (arith, nat_tests, less) in
        let b : nat_lt n m ≡ false = grind (arith, nat_tests, less) in
        rw (a, b) (ap (λ (l : List ℕ). m ∷ l) rest)

-- one above all others comes last
put_new : (last : ℕ) (ns : List ℕ) → AllByRecursion (λ (n : ℕ). n ≤ last) ns → put_number (last + 1) ns ≡ ns ++ (last + 1) ∷ []
put_new last [] h = refl
put_new last (m ∷ ns) h =
    let low = h.0 in
    let a : nat_eq (last + 1) m ≡ false = grind (arith, nat_tests, low) in
    let b : nat_lt (last + 1) m ≡ false = grind (arith, nat_tests, low) in
    rw (a, b) (ap (λ (l : List ℕ). m ∷ l) (put_new last ns h.1))

put_above : (m n : ℕ) (ns : List ℕ) → m < n → AllByRecursion (λ (k : ℕ). m < k) ns → AllByRecursion (λ (k : ℕ). m < k) (put_number n ns)
put_above m n [] less h = (less, tt)
put_above m n (k ∷ ns) less h = go (nat_eq n k) (nat_lt n k) (put_above m n ns less h.1)
  where
    go : (same before : Bool) → AllByRecursion (λ (k : ℕ). m < k) (put_number n ns) → AllByRecursion (λ (k : ℕ). m < k) (cond same (n ∷ ns) (cond before (n ∷ k ∷ ns) (k ∷ put_number n ns)))
    go true before rest = (less, h.1)
    go false true rest = (less, h)
    go false false rest = (h.0, rest)

put_rises : (n : ℕ) (ns : List ℕ) → Rises ns → Rises (put_number n ns)
put_rises n [] r = (tt, tt)
put_rises n (m ∷ ns) r = go (nat_eq n m) (nat_lt n m) refl refl (put_rises n ns r.1)
  where
    go : (same before : Bool) → nat_eq n m ≡ same → nat_lt n m ≡ before → Rises (put_number n ns) → Rises (cond same (n ∷ ns) (cond before (n ∷ m ∷ ns) (m ∷ put_number n ns)))
    go true before e f rest = let is : n ≡ m = grind (arith, nat_tests, e) in (all_each (λ (k : ℕ). m < k) (λ (k : ℕ). n < k) (λ k h. omega (arith, is, h)) ns r.0, r.1)
    go false true e f rest = let less : n < m = grind (arith, nat_tests, f) in ((less, all_each (λ (k : ℕ). m < k) (λ (k : ℕ). n < k) (λ k h. omega (arith, less, h)) ns r.0), r)
    go false false e f rest = let more : m < n = grind (arith, nat_tests, e, f) in (put_above m n ns more r.0, rest)

all_rise : (ns before : List ℕ) → Rises before → Rises (for_each ns put_number before)
all_rise [] before r = r
all_rise (n ∷ ns) before r = all_rise ns (put_number n before) (put_rises n before r)

one_more : (last n : ℕ) → n ≤ last → n ≤ last + 1
one_more last n h = omega arith

abbrev pub gathered : TxnId → List Answer → List ℕ → List ℕ
gathered u answers before = for_each (filter_map (weighed u) answers) put_number before

pub numbers-last : (lines : List Line) (l : Line) (u : TxnId) → weighed_in (lines ++ l ∷ []) u ≡ gathered u (answers_in l) (weighed_in lines u)
numbers-last lines l u =
    ap (λ z. for_each (filter_map (weighed u) z) put_number []) (flat_last answers_in lines l)
    ∙ ap (λ z. for_each z put_number []) (filter_map-append (weighed u) (flat_map answers_in lines) (answers_in l))
    ∙ fold-append (λ b item. put_number item b) [] (filter_map (weighed u) (flat_map answers_in lines)) (filter_map (weighed u) (answers_in l))

-- they ascend
pub numbers_rise : (lines : List Line) (u : TxnId) → Rises (weighed_in lines u)
numbers_rise lines u = all_rise (filter_map (weighed u) (flat_map answers_in lines)) [] tt

-- a line with no answer
pub numbers-silent : (lines : List Line) (l : Line) (u : TxnId) → answers_in l ≡ [] → weighed_in (lines ++ l ∷ []) u ≡ weighed_in lines u
numbers-silent lines l u e = numbers-last lines l u ∙ ap (λ (z : List Answer). gathered u z (weighed_in lines u)) e

-- answers that came before add none
pub gathered_same : (u : TxnId) (rs : List Reply) (before : List ℕ) → Rises before → ((r : Reply) → Has rs r → (n : ℕ) → weighed u r.answer ≡ Some n → Has before n) → gathered u (map (λ (r : Reply). r.answer) rs) before ≡ before
gathered_same u [] before rises h = refl
gathered_same u (r ∷ rs) before rises h = go (weighed u r.answer) refl (gathered_same u rs before rises (λ q k. h q (has_more r rs q k)))
  where
    go : (o : Option ℕ) → weighed u r.answer ≡ o → gathered u (map (λ (r : Reply). r.answer) rs) before ≡ before → for_each (cons_option o (filter_map (weighed u) (map (λ (r : Reply). r.answer) rs))) put_number before ≡ before
    go None e rest = rest
    go (Some n) e rest = ap (λ (b : List ℕ). for_each (filter_map (weighed u) (map (λ (r : Reply). r.answer) rs)) put_number b) (put_old n before rises (h r (has_first r rs) n e)) ∙ rest

-- the table that a number gives, with the call that took it
unfoldable pub gives_table : Catalogue → List Line → TxnId → ℕ → Option (ℕ × Table)
gives_table catalogue lines u number = option_and_then (table_asked catalogue) (taken_call lines u number)

abbrev put_table : ℕ × Table → List (ℕ × Table) → List (ℕ × Table)
put_table t tables = put_at t.0 t.1 tables

-- the lines tell of the transaction just these tables, under numbers up to the last
pub record TellsTables (catalogue : Catalogue) (lines : List Line) (u : TxnId) (last : ℕ) (tables : List (ℕ × Table)) : Type 0 where
  pub taken : AllByRecursion (λ (n : ℕ). is_some (taken_call lines u n) ≡ true) (weighed_in lines u)
  pub below : AllByRecursion (λ (n : ℕ). n ≤ last) (weighed_in lines u)
  pub tells : told_tables catalogue lines u ≡ tables

pub no_tables : (catalogue : Catalogue) (lines : List Line) (u : TxnId) → weighed_in lines u ≡ [] → TellsTables catalogue lines u 0 []
no_tables catalogue lines u e = record { taken = rw e tt; below = rw e tt; tells = rw e refl }

pub tables_wider : (catalogue : Catalogue) (lines : List Line) (u : TxnId) (last : ℕ) (tables : List (ℕ × Table)) → TellsTables catalogue lines u last tables → TellsTables catalogue lines u (last + 1) tables
tables_wider catalogue lines u last tables h = record {
  taken = h.taken;
  below = all_each (λ (n : ℕ). n ≤ last) (λ (n : ℕ). n ≤ last + 1) (λ n k. one_more last n k) (weighed_in lines u) h.below;
  tells = h.tells;
}

module _ (catalogue : Catalogue) (lines : List Line) (l : Line) (u : TxnId) where
  abbrev more : List Line
  more = lines ++ l ∷ []

  all_taken : (ns : List ℕ) → AllByRecursion (λ (n : ℕ). is_some (taken_call lines u n) ≡ true) ns → AllByRecursion (λ (n : ℕ). is_some (taken_call more u n) ≡ true) ns
  all_taken [] h = tt
  all_taken (n ∷ ns) h = (rw (taken_kept lines l u n h.0) h.0, all_taken ns h.1)

  same_tables : (ns : List ℕ) → AllByRecursion (λ (n : ℕ). is_some (taken_call lines u n) ≡ true) ns → filter_map (gives_table catalogue more u) ns ≡ filter_map (gives_table catalogue lines u) ns
  unfolding gives_table
  same_tables [] h = refl
  same_tables (n ∷ ns) h = rw (taken_kept lines l u n h.0, same_tables ns h.1) refl

  -- the line adds none
  pub tables_on : (last : ℕ) (tables : List (ℕ × Table)) → TellsTables catalogue lines u last tables → weighed_in more u ≡ weighed_in lines u → TellsTables catalogue more u last tables
  unfolding gives_table
  tables_on last tables h e = record {
    taken = rw e (all_taken (weighed_in lines u) h.taken);
    below = rw e h.below;
    tells =
        ap (λ (ns : List ℕ). for_each (filter_map (gives_table catalogue more u) ns) put_table []) e
        ∙ ap (λ (ts : List (ℕ × Table)). for_each ts put_table []) (same_tables (weighed_in lines u) h.taken)
        ∙ h.tells;
  }

  one_table : (n rec : ℕ) (table : Table) → gives_table catalogue more u n ≡ Some (rec, table) → filter_map (gives_table catalogue more u) (n ∷ []) ≡ (rec, table) ∷ []
  one_table n rec table e = rw e refl

  -- the line adds one, under the next number, which a call has taken by then
  pub tables_next : (last : ℕ) (tables : List (ℕ × Table)) (words : Call) (rec : ℕ) (table : Table) → TellsTables catalogue lines u last tables → weighed_in more u ≡ put_number (last + 1) (weighed_in lines u) → taken_call more u (last + 1) ≡ Some words → table_asked catalogue words ≡ Some (rec, table) → TellsTables catalogue more u (last + 1) (put_at rec table tables)
  unfolding gives_table
  tables_next last tables words rec table h e took asked =
      let now : weighed_in more u ≡ weighed_in lines u ++ (last + 1) ∷ [] = e ∙ put_new last (weighed_in lines u) h.below in
      let gives : gives_table catalogue more u (last + 1) ≡ Some (rec, table) = ap (option_and_then (table_asked catalogue)) took ∙ asked in
      record {
        taken = rw now (all_push (λ (n : ℕ). is_some (taken_call more u n) ≡ true) (weighed_in lines u) (last + 1) (all_taken (weighed_in lines u) h.taken) (rw took refl));
        below = rw now (all_push (λ (n : ℕ). n ≤ last + 1) (weighed_in lines u) (last + 1) (all_each (λ (n : ℕ). n ≤ last) (λ (n : ℕ). n ≤ last + 1) (λ n k. one_more last n k) (weighed_in lines u) h.below) (omega arith));
        tells =
            ap (λ (ns : List ℕ). for_each (filter_map (gives_table catalogue more u) ns) put_table []) now
            ∙ ap (λ (ts : List (ℕ × Table)). for_each ts put_table [])
            (filter_map-append (gives_table catalogue more u) (weighed_in lines u) ((last + 1) ∷ [])
            ∙ ap (λ (ts : List (ℕ × Table)). ts ++ filter_map (gives_table catalogue more u) ((last + 1) ∷ [])) (same_tables (weighed_in lines u) h.taken)
            ∙ ap (λ (ts : List (ℕ × Table)). filter_map (gives_table catalogue lines u) (weighed_in lines u) ++ ts) (one_table (last + 1) rec table gives))
            ∙ fold-append (λ b item. put_table item b) [] (filter_map (gives_table catalogue lines u) (weighed_in lines u)) ((rec, table) ∷ [])
            ∙ ap (put_at rec table) h.tells;
      }

-- the answer gives no number that was not given
abbrev pub IsWeighed : List Line → Answer → Type 0
IsWeighed lines a = (u : TxnId) (n : ℕ) → weighed u a ≡ Some n → Has (weighed_in lines u) n

all_keep : (ns before : List ℕ) (n : ℕ) → Has before n → Has (for_each ns put_number before) n
all_keep [] before n h = h
all_keep (m ∷ ns) before n h = all_keep ns (put_number m before) n (put_keeps m before n h)

pub weighed_lasts : (lines : List Line) (l : Line) (a : Answer) → IsWeighed lines a → IsWeighed (lines ++ l ∷ []) a
weighed_lasts lines l a h u n e = subst (λ (ns : List ℕ). Has ns n) (sym (numbers-last lines l u)) (all_keep (filter_map (weighed u) (answers_in l)) (weighed_in lines u) n (h u n e))

-- what a weigh asks for is the table that is told
pub asked_table : (catalogue : Catalogue) (words : Call) (rec : ℕ) (table : Table) → change_asked catalogue words ≡ Some (Deed.weighs rec table) → table_asked catalogue words ≡ Some (rec, table)
asked_table catalogue (call.Weigh txn number name given) rec table e = go (find_record catalogue name) e
  where
    go : (o : Option ℕ) → option_map (λ r. Deed.weighs r given) o ≡ Some (Deed.weighs rec table) → ◌≡◌ {A = Option (ℕ × Table)} (option_map (λ r. (r, given)) o) (Some (rec, table))
    go None q = cc
    go (Some r) q = let a : r ≡ rec = cc in let b : given ≡ table = cc in rw (a, b) refl
asked_table catalogue (call.Write txn number name value) rec table e = go (find_record catalogue name) e
  where
    go : (o : Option ℕ) → option_map (λ r. Deed.operates (op.Write r (Some value))) o ≡ Some (Deed.weighs rec table) → ◌≡◌ {A = Option (ℕ × Table)} None (Some (rec, table))
    go None q = cc
    go (Some r) q = cc
asked_table catalogue (call.Delete txn number name) rec table e = go (find_record catalogue name) e
  where
    go : (o : Option ℕ) → option_map (λ r. Deed.operates (op.Write r None)) o ≡ Some (Deed.weighs rec table) → ◌≡◌ {A = Option (ℕ × Table)} None (Some (rec, table))
    go None q = cc
    go (Some r) q = cc
asked_table catalogue (call.Read txn number name) rec table e = cc
asked_table catalogue (call.Commit txn number) rec table e = cc
asked_table catalogue (call.Abort txn number) rec table e = cc
asked_table catalogue call.Begin rec table e = cc
asked_table catalogue call.Regroup rec table e = cc

pub weigh_asked : (catalogue : Catalogue) (x : SiteState) (given : Input) (t : Live) (p : Pending) (rec : ℕ) (table : Table) (l : Lent) → Completes catalogue x given t p (Deed.weighs rec table) l → table_asked catalogue p.call ≡ Some (rec, table)
weigh_asked catalogue x given t p rec table l (Completes.own_write r value next reads a v e g) = cc
weigh_asked catalogue x given t p rec table l (Completes.own_copy r stored next reads a v c free e g) = cc
weigh_asked catalogue x given t p rec table l (Completes.change_again r before next c a v g) = asked_table catalogue p.call rec table c.asked
weigh_asked catalogue x given t p rec table l (Completes.change_alone r next c a v none g) = asked_table catalogue p.call rec table c.asked
weigh_asked catalogue x given t p rec table l (Completes.read_answered from r value came last reads e g) = cc
weigh_asked catalogue x given t p rec table l (Completes.change_answered from r came last c g) = asked_table catalogue p.call rec table c.asked

-- an operation is no weigh
pub no_weigh : (u : TxnId) (number : ℕ) (operation : Op) → filter_map (weighed u) (deed_answer u number (Deed.operates operation) ∷ []) ≡ []
no_weigh u number (op.Read rec None) = refl
no_weigh u number (op.Read rec (Some value)) = refl
no_weigh u number (op.Write rec None) = refl
no_weigh u number (op.Write rec (Some value)) = refl
