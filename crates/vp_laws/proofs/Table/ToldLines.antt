-- What one more line adds to what the lines report of a transaction.
use Rattle.std.proofs.Common.{◌≡◌, ℕ, ◌∙◌, ap, sym, Bool, true, false, cond, List, [], ◌∷◌, ◌++◌, map, refl, append_assoc}
use Rattle.std.specs.Prelude.{Option, Some, None, is_some, ◌==◌, filter_map, flat_map, option_and_then, find}
use Rattle.std.specs.List.{AllByRecursion}
use Rattle.std.proofs.lemmas.List.Elements.{filter_map-append}
use Rattle.std.proofs.lemmas.List.Sums.{fold-append}
use Rattle.std.proofs.lemmas.List.{append-nil}
use Rattle.vp_model.specs.Types.{TxnId, Op, Answer, Line, Call}
use Rattle.vp_model.specs.Words.{for_each, value_at, put_at}
use Rattle.vp_model.specs.Catalogue.{Catalogue}
use Rattle.vp_model.specs.Told.{answers_in, reported, put_first, reports, takes, taken_call, call_in, told_by, told}
use Rattle.vp_model.specs.World.{Moment}
use Rattle.vp_laws.proofs.Journal.Play.{value_put}

-- a number, with the content that was read or none for a change
abbrev pub Report : Type 0
Report = ℕ × Option (Option (List ℕ))

-- the reports with those of these answers
abbrev pub collected : TxnId → List Answer → List Report → List Report
collected u answers before = for_each (filter_map (reported u) answers) put_first before

pub flat_last : {X Y : Type 0} (f : X → List Y) (xs : List X) (x : X) → flat_map f (xs ++ x ∷ []) ≡ flat_map f xs ++ f x
flat_last f [] x = append-nil (f x)
flat_last f (y ∷ xs) x = ap (λ z. f y ++ z) (flat_last f xs x) ∙ sym (append_assoc (f y) (flat_map f xs) (f x))

pub reports-last : (lines : List Line) (l : Line) (u : TxnId) → reports (lines ++ l ∷ []) u ≡ collected u (answers_in l) (reports lines u)
reports-last lines l u =
    ap (λ z. for_each (filter_map (reported u) z) put_first []) (flat_last answers_in lines l)
    ∙ ap (λ z. for_each z put_first []) (filter_map-append (reported u) (flat_map answers_in lines) (answers_in l))
    ∙ fold-append (λ b item. put_first item b) [] (filter_map (reported u) (flat_map answers_in lines)) (filter_map (reported u) (answers_in l))

-- the answer reports nothing that was not reported
abbrev pub IsReported : List Line → Answer → Type 0
IsReported lines a = (u : TxnId) (r : Report) → reported u a ≡ Some r → is_some (value_at r.0 (reports lines u)) ≡ true

-- a line with no answer
pub reports-silent : (lines : List Line) (l : Line) (u : TxnId) → answers_in l ≡ [] → reports (lines ++ l ∷ []) u ≡ reports lines u
reports-silent lines l u e = reports-last lines l u ∙ ap (λ z. collected u z (reports lines u)) e

-- what is reported stays
put_keeps : (k : ℕ) (r : Report) (before : List Report) → is_some (value_at k before) ≡ true → is_some (value_at k (put_first r before)) ≡ true
put_keeps k r before h = go (is_some (value_at r.0 before))
  where
    at_key : (b : Bool) → is_some (cond b (Some r.1) (value_at k before)) ≡ true
    at_key true = refl
    at_key false = h

    go : (b : Bool) → is_some (value_at k (cond b before (put_at r.0 r.1 before))) ≡ true
    go true = h
    go false = rw (value_put k r.0 r.1 before) (at_key (r.0 == k))

all_keep : (k : ℕ) (rs before : List Report) → is_some (value_at k before) ≡ true → is_some (value_at k (for_each rs put_first before)) ≡ true
all_keep k [] before h = h
all_keep k (r ∷ rs) before h = all_keep k rs (put_first r before) (put_keeps k r before h)

pub reported_lasts : (lines : List Line) (l : Line) (a : Answer) → IsReported lines a → IsReported (lines ++ l ∷ []) a
reported_lasts lines l a h u r e = rw (reports-last lines l u) (all_keep r.0 (filter_map (reported u) (answers_in l)) (reports lines u) (h u r e))

-- the first call that takes a number
pub find_kept : {X : Type 0} (test : X → Bool) (xs ys : List X) (x : X) → find test xs ≡ Some x → find test (xs ++ ys) ≡ Some x
find_kept test [] ys x e = cc
find_kept test (y ∷ xs) ys x e = go (test y) e (λ q. find_kept test xs ys x q)
  where
    go : (b : Bool) → cond b (Some y) (find test xs) ≡ Some x → (find test xs ≡ Some x → find test (xs ++ ys) ≡ Some x) → cond b (Some y) (find test (xs ++ ys)) ≡ Some x
    go true q i = q
    go false q i = i q

pub find_last : {X : Type 0} (test : X → Bool) (xs : List X) (x : X) → find test xs ≡ None → find test (xs ++ x ∷ []) ≡ cond (test x) (Some x) None
find_last test [] x e = refl
find_last test (y ∷ xs) x e = go (test y) e (λ q. find_last test xs x q)
  where
    go : (b : Bool) → cond b (Some y) (find test xs) ≡ None → (find test xs ≡ None → find test (xs ++ x ∷ []) ≡ cond (test x) (Some x) None) → cond b (Some y) (find test (xs ++ x ∷ [])) ≡ cond (test x) (Some x) None
    go true q i = cc
    go false q i = i q

-- a number that was taken stays so
pub taken_on : (lines : List Line) (l : Line) (u : TxnId) (k : ℕ) (words : Call) → taken_call lines u k ≡ Some words → taken_call (lines ++ l ∷ []) u k ≡ Some words
taken_on lines l u k words h = go (find (takes u k) lines) refl h
  where
    go : (o : Option Line) → find (takes u k) lines ≡ o → option_and_then (λ (line : Line). call_in line.event) o ≡ Some words → taken_call (lines ++ l ∷ []) u k ≡ Some words
    go None e q = cc
    go (Some x) e q = ap (option_and_then (λ (line : Line). call_in line.event)) (find_kept (takes u k) lines (l ∷ []) x e) ∙ q

pub taken_kept : (lines : List Line) (l : Line) (u : TxnId) (k : ℕ) → is_some (taken_call lines u k) ≡ true → taken_call (lines ++ l ∷ []) u k ≡ taken_call lines u k
taken_kept lines l u k h = go (taken_call lines u k) refl h
  where
    go : (o : Option Call) → taken_call lines u k ≡ o → is_some o ≡ true → taken_call (lines ++ l ∷ []) u k ≡ taken_call lines u k
    go None e q = cc
    go (Some words) e q = taken_on lines l u k words e ∙ sym e

-- the lines tell of the transaction just these operations
pub record Tells (catalogue : Catalogue) (lines : List Line) (u : TxnId) (ops : List Op) : Type 0 where
  -- each number that was reported was taken by a call
  pub taken : AllByRecursion (λ (p : Report). is_some (taken_call lines u p.0) ≡ true) (reports lines u)
  -- they are told
  pub tells : told catalogue lines u ≡ ops

-- the lines are silent of the transaction
pub record IsUnheard (lines : List Line) (u : TxnId) : Type 0 where
  -- nothing is reported of it
  pub unreported : reports lines u ≡ []
  -- no call of it was taken
  pub untaken : (k : ℕ) → find (takes u k) lines ≡ None

-- the operation that a report says, with the call that took its number
unfoldable pub tell : Catalogue → List Line → TxnId → Report → Option Op
tell catalogue lines u report = option_and_then (told_by catalogue report.1) (taken_call lines u report.0)

module _ (catalogue : Catalogue) (lines : List Line) (l : Line) (u : TxnId) where
  pub all_taken : (rs : List Report) → AllByRecursion (λ (p : Report). is_some (taken_call lines u p.0) ≡ true) rs → AllByRecursion (λ (p : Report). is_some (taken_call (lines ++ l ∷ []) u p.0) ≡ true) rs
  all_taken [] h = tt
  all_taken (r ∷ rs) h = (rw (taken_kept lines l u r.0 h.0) h.0, all_taken rs h.1)

  pub told_same : (rs : List Report) → AllByRecursion (λ (p : Report). is_some (taken_call lines u p.0) ≡ true) rs → filter_map (tell catalogue (lines ++ l ∷ []) u) rs ≡ filter_map (tell catalogue lines u) rs
  unfolding tell
  told_same [] h = refl
  told_same (r ∷ rs) h = rw (taken_kept lines l u r.0 h.0, told_same rs h.1) refl

  pub tells_on : (ops : List Op) → Tells catalogue lines u ops → reports (lines ++ l ∷ []) u ≡ reports lines u → Tells catalogue (lines ++ l ∷ []) u ops
  unfolding tell
  tells_on ops h e = record {
    taken = rw e (all_taken (reports lines u) h.taken);
    tells = ap (filter_map (tell catalogue (lines ++ l ∷ []) u)) e ∙ told_same (reports lines u) h.taken ∙ h.tells;
  }

  pub unheard_on : IsUnheard lines u → reports (lines ++ l ∷ []) u ≡ reports lines u → ((k : ℕ) → takes u k l ≡ false) → IsUnheard (lines ++ l ∷ []) u
  unheard_on h e n = record {
    unreported = e ∙ h.unreported;
    untaken = λ k. find_last (takes u k) lines l (h.untaken k) ∙ rw (n k) refl;
  }

-- the lines of the moments
abbrev pub lines_in : List Moment → List Line
lines_in moments = map (λ (m : Moment). m.line) moments

pub lines_last : (moments : List Moment) (m : Moment) → lines_in (moments ++ m ∷ []) ≡ lines_in moments ++ m.line ∷ []
lines_last [] m = refl
lines_last (x ∷ moments) m = ap (λ z. x.line ∷ z) (lines_last moments m)
