-- The newest copy: where dates are equal, the own one, and else that of the lowest site.
use Rattle.std.proofs.Common.{◌≡◌, ◌<◌, ◌≤◌, ℕ, suc, Bool, true, false, if◌then◌else◌, List, [], ◌∷◌, refl, sym, ap, ◌∙◌, arith}
use Rattle.std.proofs.lemmas.Bool.{false≢true}
use Rattle.std.proofs.lemmas.Bool.Decides.{nat_tests}
use Rattle.std.proofs.lemmas.List.Elements.{All-cons}
use Rattle.std.specs.List.{All}
use Rattle.vp_model.specs.Types.{ViewId, Stored}
use Rattle.vp_model.specs.Words.{same_view, view_before}
use Rattle.vp_model.specs.Refresh.{newest}
use Rattle.vp_refresh.specs.Newest.{Ascends, IsLeastAnswer, IsNewest}
use Rattle.vp_refresh.proofs.Ascending.{head_ascends, tail_ascends}

module _ (x y z : ViewId) where
  not_before_self : view_before x x ≡ false
  not_before_self = grind (arith, nat_tests)

  same_self : same_view x x ≡ true
  same_self = grind (arith, nat_tests)

  not_before_older : view_before x y ≡ true → view_before z y ≡ false → view_before z x ≡ false
  not_before_older h g = grind (arith, nat_tests, h, g)

  not_same_older : view_before x y ≡ true → view_before z y ≡ false → same_view x z ≡ false
  not_same_older h g = grind (arith, nat_tests, h, g)

  not_before_both : view_before x y ≡ false → view_before z x ≡ false → view_before z y ≡ false
  not_before_both h g = grind (arith, nat_tests, h, g)

  not_same_both : view_before x y ≡ false → view_before z x ≡ false → same_view x z ≡ false → same_view y z ≡ false
  not_same_both h g e = grind (arith, nat_tests, h, g, e)

module _ (a : ℕ × Stored) (answers : List (ℕ × Stored)) (copy : Stored) where
  is_first : All (λ (b : ℕ × Stored). a.0 < b.0) answers → copy ≡ a.1 → IsLeastAnswer (a ∷ answers) copy
  is_first above e = record {
    site = a.0;
    answered = (0, omega arith, ap (λ s. (a.0, s)) (sym e));
    least = All-cons (λ (b : ℕ × Stored). same_view b.1.date copy.date ≡ true → a.0 ≤ b.0) a answers (λ same. omega arith) (λ k d l same. let u = above k d l in omega (arith, u));
  }

  is_later : same_view a.1.date copy.date ≡ false → IsLeastAnswer answers copy → IsLeastAnswer (a ∷ answers) copy
  is_later e r = record {
    site = r.site;
    answered = (suc r.answered.0, omega (arith, r.answered.1), r.answered.2);
    least = All-cons (λ (b : ℕ × Stored). same_view b.1.date copy.date ≡ true → r.site ≤ b.0) a answers (λ same. absurd (false≢true (sym e ∙ same))) r.least;
  }

module _ (own : Stored) (a : ℕ × Stored) (answers : List (ℕ × Stored)) (copy : Stored) where
  over_own : view_before own.date a.1.date ≡ true → All (λ (b : ℕ × Stored). a.0 < b.0) answers → IsNewest a.1 answers copy → IsNewest own (a ∷ answers) copy
  over_own h above i = record {
    own_is_older = not_before_older own.date a.1.date copy.date h i.own_is_older;
    none_is_newer = All-cons (λ (b : ℕ × Stored). view_before copy.date b.1.date ≡ false) a answers i.own_is_older i.none_is_newer;
    own_on_a_tie = λ e. absurd (false≢true (sym (not_same_older own.date a.1.date copy.date h i.own_is_older) ∙ e));
    else_an_answer = λ e. among (same_view a.1.date copy.date) refl;
  }
    where
      among : (b : Bool) → same_view a.1.date copy.date ≡ b → IsLeastAnswer (a ∷ answers) copy
      among true e = is_first a answers copy above (i.own_on_a_tie e)
      among false e = is_later a answers copy e (i.else_an_answer e)

  under_own : view_before own.date a.1.date ≡ false → IsNewest own answers copy → IsNewest own (a ∷ answers) copy
  under_own h i = record {
    own_is_older = i.own_is_older;
    none_is_newer = All-cons (λ (b : ℕ × Stored). view_before copy.date b.1.date ≡ false) a answers (not_before_both own.date a.1.date copy.date h i.own_is_older) i.none_is_newer;
    own_on_a_tie = i.own_on_a_tie;
    else_an_answer = λ e. is_later a answers copy (not_same_both own.date a.1.date copy.date h i.own_is_older e) (i.else_an_answer e);
  }

pub newest_is : (own : Stored) (answers : List (ℕ × Stored)) → Ascends answers → IsNewest own answers (newest own answers)
newest_is own [] h = record {
  own_is_older = not_before_self own.date own.date own.date;
  none_is_newer = λ k d l. absurd (omega (arith, l));
  own_on_a_tie = λ e. refl;
  else_an_answer = λ e. absurd (false≢true (sym e ∙ same_self own.date own.date own.date));
}
newest_is own (a ∷ answers) h = choose (λ best. newest_is best answers (tail_ascends a answers h)) (view_before own.date a.1.date) refl
  where
    choose : ((best : Stored) → IsNewest best answers (newest best answers)) → (b : Bool) → view_before own.date a.1.date ≡ b → IsNewest own (a ∷ answers) (newest (if b then a.1 else own) answers)
    choose rest true e = over_own own a answers _ e (head_ascends a answers h) (rest a.1)
    choose rest false e = under_own own a answers _ e (rest own)
