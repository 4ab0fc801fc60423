-- The place of a log among those that are kept by name.
use Rattle.std.proofs.Common.{◌≡◌, ◌∙◌, ⊎_elim, ℕ, zero, suc, ◌+◌, ◌<◌, List, [], ◌∷◌, ◌++◌, length, get_or, set, Bool, true, false, cond, refl, sym, ap, subst, arith, lt-ltb, eq-eqb, not, ◌≤◌, nat_lt, Option, Some, None, Decides, find}
use Rattle.std.specs.List.{position, position_or_len}
use Rattle.std.specs.Option.{option_map_or}
use Rattle.std.specs.Str.{bytes_eq}
use Rattle.std.proofs.lemmas.List.{set-get_or, length-set, length_push, get_or-set_same}
use Rattle.std.proofs.lemmas.List.Folds.{find-set, position_or_len-set, position_or_len_push}
use Rattle.std.proofs.lemmas.List.Quantifiers.{position-Some}
use Rattle.std.proofs.lemmas.List.Sums.{prefix_len-le-length}
use borrow.Author.Tests.{ltb-false}
use Rattle.std.proofs.lemmas.Slice.Eq.{bytes_eq-Decides}
use Rattle.vp_outside.specs.Disk.{Halves}
use Rattle.vp_disks.specs.Changes.{asked_of, is_same_log, changes_of, content_of}
use Rattle.vp_disks.specs.NamedLogs.{is_named, halves_of, StandsAt, Keeps}
use Rattle.vp_disks.specs.declared.changes.Change.{Change}
use Rattle.vp_disks.specs.declared.log_bytes.NamedLog.{NamedLog}
use Rattle.vp_disks.proofs.LogRecords.{changes_of-same, changes_of-not_same, same_or_other}

module _ {X : Type 0} (p : X → Bool) where
  place_from : (b : Bool) (n i : ℕ) → cond b (Some n) None ≡ Some i → n ≡ i
  place_from true n i e = cc
  place_from false n i e = absurd cc

  place_is : (xs : List X) (i : ℕ) → position p xs ≡ Some i → position_or_len p xs ≡ i
  place_is xs i e = place_from (nat_lt (position_or_len p xs) (length xs)) (position_or_len p xs) i e

  place_of_len : (xs : List X) (i : ℕ) → position_or_len p xs ≡ i → i < length xs → position p xs ≡ Some i
  place_of_len xs i e lt =
      let there : nat_lt (position_or_len p xs) (length xs) ≡ true = lt-ltb (position_or_len p xs) (length xs) (subst (λ n. n < length xs) (sym e) lt) in
      ap (λ b. cond b (Some (position_or_len p xs)) None) there ∙ ap (λ n. Some n) e

  -- the item at the place that is found is the item that is found
  pub find-at : (xs : List X) (i : ℕ) (x : X) → position p xs ≡ Some i → x ≡ get_or xs i x → find p xs ≡ Some x
  find-at xs i x e read =
      let passes = position-Some p xs i x e in
      ap (find p) (sym (set-get_or xs i x) ∙ ap (set xs i) (sym read))
      ∙ find-set p xs i x (sym (place_is xs i e)) passes.0 (ap p read ∙ passes.1)

  -- an item is replaced, and neither the old nor the new one is sought
  pub find-set_other : (xs : List X) (i : ℕ) (y d : X) → p y ≡ false → p (get_or xs i d) ≡ false → find p (set xs i y) ≡ find p xs
  find-set_other [] i y d after before = refl
  find-set_other (x ∷ xs) zero y d after before = ap (λ b. cond b (Some y) (find p xs)) after ∙ sym (ap (λ b. cond b (Some x) (find p xs)) before)
  find-set_other (x ∷ xs) (suc i) y d after before = ap (λ r. cond (p x) (Some x) r) (find-set_other xs i y d after before)

  pub position-set : (xs : List X) (i : ℕ) (y d : X) → position p xs ≡ Some i → p y ≡ p (get_or xs i d) → position p (set xs i y) ≡ Some i
  position-set xs i y d e same = place_of_len (set xs i y) i (position_or_len-set p xs i y d same ∙ place_is xs i e) (let lt = (position-Some p xs i d e).0 in omega (arith, length-set xs i y))

  beyond : (b : Bool) (n : ℕ) → cond b (Some n) None ≡ None → b ≡ false
  beyond true n e = absurd cc
  beyond false n e = refl

  -- where nothing is found, an item that is sought is found at the end once it is appended
  pub position-push : (xs : List X) (y : X) → position p xs ≡ None → p y ≡ true → position p (xs ++ y ∷ []) ≡ Some (length xs)
  position-push xs y none passes =
      let n = position_or_len p xs in
      let past : nat_lt n (length xs) ≡ false = beyond (nat_lt n (length xs)) n none in
      let most : n ≤ length xs = prefix_len-le-length (λ x. not (p x)) xs in
      let least : length xs ≤ n = ltb-false n (length xs) past in
      let end : n ≡ length xs = omega arith in
      let last : position_or_len p (xs ++ y ∷ []) ≡ length xs =
      position_or_len_push p xs y ∙ ap (λ b. cond b (length xs + cond (p y) 0 1) n) (eq-eqb n (length xs) end)
      ∙ ap (λ b. length xs + cond b 0 1) passes ∙ omega arith in
      place_of_len (xs ++ y ∷ []) (length xs) last (omega (arith, length_push xs y))

  pub find-push : {R : Type 0} (F : Option X → R) (xs : List X) (y : X) → F (Some y) ≡ F None → F (find p (xs ++ y ∷ [])) ≡ F (find p xs)
  find-push F [] y e = by (p y)
    where
      by : (b : Bool) → F (cond b (Some y) None) ≡ F None
      by true = e
      by false = refl
  find-push F (x ∷ xs) y e = by (p x) (find-push F xs y e)
    where
      by : (b : Bool) → F (find p (xs ++ y ∷ [])) ≡ F (find p xs) → F (cond b (Some x) (find p (xs ++ y ∷ []))) ≡ F (cond b (Some x) (find p xs))
      by true rest = refl
      by false rest = rest

-- ---- logs

pub bytes_differ : (x y : List ℕ) → (x ≡ y → ⊥) → bytes_eq x y ≡ false
bytes_differ x y differ = by (bytes_eq x y) (bytes_eq-Decides x y)
  where
    by : (b : Bool) → Decides b (x ≡ y) → b ≡ false
    by true d = absurd (differ (d.0 refl))
    by false d = refl

-- the halves of a log that is found, or of one that doesn't exist
abbrev found : Option NamedLog → Halves
found log = option_map_or (λ (kept : NamedLog). kept.log) log ([], [])

-- appending an empty log changes nothing
pub halves_of-push : (log : Option (List ℕ)) (unnamed : Halves) (named : List NamedLog) (empty : NamedLog) → empty.log ≡ ([], []) → halves_of log unnamed (named ++ empty ∷ []) ≡ halves_of log unnamed named
halves_of-push None unnamed named empty is = refl
halves_of-push (Some name) unnamed named empty is = find-push (is_named name) found named empty is

module _ (unnamed : Halves) (named : List NamedLog) (i : ℕ) where
  -- the log of that name is the one at its place
  halves_of-at : (log : Option (List ℕ)) (at : NamedLog) → StandsAt log named (Some i) → at ≡ get_or named i at → halves_of log unnamed named ≡ at.log
  halves_of-at None at stands read = absurd cc
  halves_of-at (Some name) at stands read = ap found (find-at (is_named name) named i at stands.0 read)

  within : (log : Option (List ℕ)) (at : NamedLog) → StandsAt log named (Some i) → i < length named
  within None at stands = absurd cc
  within (Some name) at stands = (position-Some (is_named name) named i at stands.0).0

  module _ (at y : NamedLog) (read : at ≡ get_or named i at) (same_name : y.name ≡ at.name) where
    passes : (name : List ℕ) → is_named name y ≡ is_named name (get_or named i at)
    passes name = ap (λ n. bytes_eq n name) (same_name ∙ ap (λ (log : NamedLog). log.name) read)

    StandsAt-set : (log : Option (List ℕ)) → StandsAt log named (Some i) → StandsAt log (set named i y) (Some i)
    StandsAt-set None stands = absurd cc
    StandsAt-set (Some name) stands = (position-set (is_named name) named i y at stands.0 (passes name), refl)

    -- a write to one log changes no other
    halves_of-set_other : (log asked : Option (List ℕ)) → StandsAt asked named (Some i) → is_same_log log asked ≡ false → halves_of log unnamed (set named i y) ≡ halves_of log unnamed named
    halves_of-set_other log None stands other = absurd cc
    halves_of-set_other None (Some name) stands other = refl
    halves_of-set_other (Some other) (Some name) stands differ =
        let there = position-Some (is_named name) named i at stands.0 in
        let is_name : y.name ≡ name = (bytes_eq-Decides y.name name).0 (passes name ∙ there.1) in
        let apart : is_named other y ≡ false = bytes_differ y.name other (λ (e : y.name ≡ other). let same = (bytes_eq-Decides other name).1 (sym e ∙ is_name) in absurd cc) in
        ap found (find-set_other (is_named other) named i y at apart (sym (passes other) ∙ apart))

-- ---- the record of changes

-- what is at the place of the attached log is its content
pub Keeps-at : (unnamed : Halves) (named : List NamedLog) (place : Option ℕ) (changes : List Change) → Keeps unnamed named place changes
    → (i : ℕ) (at : NamedLog) → place ≡ Some i → at ≡ get_or named i at → at.log ≡ content_of (changes_of (asked_of changes) changes)
Keeps-at unnamed named place changes keeps i at there read =
    sym (halves_of-at unnamed named i (asked_of changes) at (subst (StandsAt (asked_of changes) named) there keeps.attached) read) ∙ keeps.contents (asked_of changes)

-- the attached log is changed at its place
pub Keeps-changed : (unnamed : Halves) (named : List NamedLog) (place : Option ℕ) (changes : List Change) → Keeps unnamed named place changes
    → (i : ℕ) (at y : NamedLog) → place ≡ Some i → at ≡ get_or named i at → y.name ≡ at.name
    → (change : Change) (f : Halves → Halves) → y.log ≡ f at.log → asked_of (change ∷ changes) ≡ asked_of changes
    → ((earlier : List Change) → content_of (change ∷ earlier) ≡ f (content_of earlier))
    → (later : List Change) → later ≡ change ∷ changes → Keeps unnamed (set named i y) place later
Keeps-changed unnamed named place changes keeps i at y there read same_name change f changed asks content later is =
    let asked = asked_of changes in
    let stands : StandsAt asked named (Some i) = subst (StandsAt asked named) there keeps.attached in
    let stands' : StandsAt asked (set named i y) (Some i) = StandsAt-set unnamed named i at y read same_name asked stands in
    let here : y.log ≡ content_of (change ∷ changes_of asked changes) =
    changed ∙ ap f (Keeps-at unnamed named place changes keeps i at there read) ∙ sym (content (changes_of asked changes)) in
    let read' : y ≡ get_or (set named i y) i y = sym (get_or-set_same named i y y (within unnamed named i asked at stands)) in
    subst (Keeps unnamed (set named i y) place) (sym is) (record {
      contents = λ log. ⊎_elim
          (λ (same : log ≡ asked). ap (λ l. halves_of l unnamed (set named i y)) same
          ∙ halves_of-at unnamed (set named i y) i asked y stands' read'
          ∙ here
          ∙ ap (λ l. content_of (change ∷ changes_of l changes)) (sym same)
          ∙ ap content_of (sym (changes_of-same log change changes same)))
          (λ (other : is_same_log log asked ≡ false). halves_of-set_other unnamed named i at y read same_name log asked stands other
          ∙ keeps.contents log
          ∙ ap content_of (sym (changes_of-not_same log change changes other)))
          (same_or_other log asked);
      attached = subst (λ p. StandsAt (asked_of (change ∷ changes)) (set named i y) p) (sym there) (subst (λ l. StandsAt l (set named i y) (Some i)) (sym asks) stands');
    })

halves_of-unnamed : (log : Option (List ℕ)) (unnamed : Halves) (named : List NamedLog) → StandsAt log named None → halves_of log unnamed named ≡ unnamed
halves_of-unnamed None unnamed named stands = refl
halves_of-unnamed (Some name) unnamed named stands = absurd (let no : false ≡ true = stands.1 in cc)

halves_of-not_unnamed : (log asked : Option (List ℕ)) (old new : Halves) (named : List NamedLog) → StandsAt asked named None → is_same_log log asked ≡ false → halves_of log new named ≡ halves_of log old named
halves_of-not_unnamed log (Some name) old new named stands other = absurd (let no : false ≡ true = stands.1 in cc)
halves_of-not_unnamed None None old new named stands other = absurd cc
halves_of-not_unnamed (Some name) None old new named stands other = refl

-- the attached log is changed, and it has no name
pub Keeps-changed_unnamed : (unnamed new : Halves) (named : List NamedLog) (place : Option ℕ) (changes : List Change) → Keeps unnamed named place changes
    → place ≡ None → (change : Change) (f : Halves → Halves) → new ≡ f unnamed → asked_of (change ∷ changes) ≡ asked_of changes
    → ((earlier : List Change) → content_of (change ∷ earlier) ≡ f (content_of earlier))
    → (later : List Change) → later ≡ change ∷ changes → Keeps new named place later
Keeps-changed_unnamed unnamed new named place changes keeps there change f changed asks content later is =
    let asked = asked_of changes in
    let stands : StandsAt asked named None = subst (StandsAt asked named) there keeps.attached in
    let here : new ≡ content_of (change ∷ changes_of asked changes) =
    changed ∙ ap f (sym (halves_of-unnamed asked unnamed named stands) ∙ keeps.contents asked) ∙ sym (content (changes_of asked changes)) in
    subst (Keeps new named place) (sym is) (record {
      contents = λ log. ⊎_elim
          (λ (same : log ≡ asked). ap (λ l. halves_of l new named) same
          ∙ halves_of-unnamed asked new named stands
          ∙ here
          ∙ ap (λ l. content_of (change ∷ changes_of l changes)) (sym same)
          ∙ ap content_of (sym (changes_of-same log change changes same)))
          (λ (other : is_same_log log asked ≡ false). halves_of-not_unnamed log asked unnamed new named stands other
          ∙ keeps.contents log
          ∙ ap content_of (sym (changes_of-not_same log change changes other)))
          (same_or_other log asked);
      attached = subst (λ p. StandsAt (asked_of (change ∷ changes)) named p) (sym there) (subst (λ l. StandsAt l named None) (sym asks) stands);
    })
