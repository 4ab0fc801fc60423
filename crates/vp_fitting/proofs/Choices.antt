-- Which site takes the next turn, and how many turns are left.
use Rattle.std.proofs.Common.{◌≡◌, ◌≢◌, subst, ℕ, ◌+◌, ◌≤◌, Bool, true, false, cond, List, ◌∷◌, [], length, refl, arith, ⊎_elim}
use Rattle.std.specs.Prelude.{Some, None}
use Rattle.vp_laws.proofs.Lists.Members.{Has, has_none, has_cons, has_first, has_more}
use Rattle.vp_laws.proofs.Lists.Numbers.{eq_self, eq_not}
use Rattle.vp_laws.proofs.Lists.Views.{same_site}
use Rattle.vp_fitting.specs.Asked.{Due}
use Rattle.vp_fitting.specs.Merged.{Track, Choice, choose_due, first_of, with_track, turns_left}

abbrev choice_of : ℕ → Due → List Due → Choice
choice_of s d dues = record { site = s; due = d; rest = dues }

module _ (passes : ℕ → Due → Bool) (left : ℕ → Track) where
  -- the site has this turn as its next one, which passes
  pub record IsChosen (sites : List ℕ) (c : Choice) : Type 0 where
    pub listed : Has sites c.site
    pub dues : (left c.site).dues ≡ c.due ∷ c.rest
    pub passed : passes c.site c.due ≡ true

  pub chosen_is : (sites : List ℕ) (c : Choice) → first_of passes sites left ≡ Some c → IsChosen sites c
  chosen_is [] c e = absurd cc
  chosen_is (s ∷ sites) c e = go (left s).dues refl e (chosen_is sites c)
    where
      more : IsChosen sites c → IsChosen (s ∷ sites) c
      more r = record { listed = has_more s sites c.site r.listed; dues = r.dues; passed = r.passed }

      by : (d : Due) (dues : List Due) (b : Bool) → passes s d ≡ b → (left s).dues ≡ d ∷ dues → cond b (Some (choice_of s d dues)) (first_of passes sites left) ≡ Some c
          → (first_of passes sites left ≡ Some c → IsChosen sites c) → IsChosen (s ∷ sites) c
      by d dues true p q f rest =
          let same : choice_of s d dues ≡ c = cc in
          subst (IsChosen (s ∷ sites)) same (record { listed = has_first s sites; dues = q; passed = p })
      by d dues false p q f rest = more (rest f)

      go : (dues : List Due) → (left s).dues ≡ dues → choose_due passes s dues (first_of passes sites left) ≡ Some c → (first_of passes sites left ≡ Some c → IsChosen sites c) → IsChosen (s ∷ sites) c
      go [] q f rest = more (rest f)
      go (d ∷ dues) q f rest = by d dues (passes s d) refl q f rest

  -- a site of the list has no turn left, or its next one doesn't pass
  pub data Stays (site : ℕ) : Type 0 where
    none : (left site).dues ≡ [] → Stays site
    waits : (d : Due) (dues : List Due) → (left site).dues ≡ d ∷ dues → passes site d ≡ false → Stays site

  pub none_chosen : (sites : List ℕ) → first_of passes sites left ≡ None → (site : ℕ) → Has sites site → Stays site
  none_chosen [] e site h = absurd (has_none site h)
  none_chosen (s ∷ sites) e site h = go (left s).dues refl e (none_chosen sites)
    where
      split : Stays s → (first_of passes sites left ≡ None → (site : ℕ) → Has sites site → Stays site) → first_of passes sites left ≡ None → Stays site
      split here rest f = ⊎_elim (λ (same : s ≡ site). subst Stays same here) (λ (more : Has sites site). rest f site more) (has_cons s sites site h)

      by : (d : Due) (dues : List Due) (b : Bool) → passes s d ≡ b → (left s).dues ≡ d ∷ dues → cond b (Some (choice_of s d dues)) (first_of passes sites left) ≡ None
          → (first_of passes sites left ≡ None → (site : ℕ) → Has sites site → Stays site) → Stays site
      by d dues true p q f rest = absurd cc
      by d dues false p q f rest = split (Stays.waits d dues q p) rest f

      go : (dues : List Due) → (left s).dues ≡ dues → choose_due passes s dues (first_of passes sites left) ≡ None → (first_of passes sites left ≡ None → (site : ℕ) → Has sites site → Stays site) → Stays site
      go [] q f rest = split (Stays.none q) rest f
      go (d ∷ dues) q f rest = by d dues (passes s d) refl q f rest

-- ---- how many

no_length : {X : Type 0} (xs : List X) → length xs ≤ 0 → xs ≡ []
no_length [] h = refl
no_length (x ∷ xs) h = absurd (omega (arith, h))

-- where no turn is left, no site has one
pub none_left : (passes : ℕ → Due → Bool) (sites : List ℕ) (left : ℕ → Track) → turns_left sites left ≤ 0 → first_of passes sites left ≡ None
none_left passes [] left h = refl
none_left passes (s ∷ sites) left h =
    let here : (left s).dues ≡ [] = no_length (left s).dues (omega (arith, h)) in
    let rest : first_of passes sites left ≡ None = none_left passes sites left (omega (arith, h)) in
    rw here rest

-- with a turn taken from a site of the list, fewer are left
module _ (site : ℕ) (track : Track) (left : ℕ → Track) (d : Due) (is : (left site).dues ≡ d ∷ track.dues) where
  here_less : (id : ℕ) → id ≡ site → length (with_track site track left id).dues + 1 ≤ length (left id).dues
  here_less id same = rw (same, eq_self site, is) (omega arith)

  no_more : (id : ℕ) → length (with_track site track left id).dues ≤ length (left id).dues
  no_more id = ⊎_elim
      (λ (same : id ≡ site). let h = here_less id same in omega (arith, h))
      (λ (n : id ≢ site). rw (eq_not id site n) (omega arith))
      (same_site id site)

  at_most_left : (sites : List ℕ) → turns_left sites (with_track site track left) ≤ turns_left sites left
  at_most_left [] = omega arith
  at_most_left (s ∷ sites) = let rest = at_most_left sites in let here = no_more s in omega (arith, rest, here)

  pub fewer_left : (sites : List ℕ) → Has sites site → turns_left sites (with_track site track left) + 1 ≤ turns_left sites left
  fewer_left [] h = absurd (has_none site h)
  fewer_left (s ∷ sites) h = ⊎_elim
      (λ (same : s ≡ site). let here = here_less s same in let rest = at_most_left sites in omega (arith, rest, here))
      (λ (more : Has sites site). let rest = fewer_left sites more in let here = no_more s in omega (arith, rest, here))
      (has_cons s sites site h)
