-- The newest of some copies is one of them, and none of them is newer.
use Rattle.std.proofs.Common.{◌≡◌, ap, sym, subst, ℕ, Bool, true, false, cond, List, [], ◌∷◌, refl, ⊎_elim}
use Rattle.std.specs.Prelude.{Some}
use Rattle.vp_model.specs.Types.{Stored}
use Rattle.vp_model.specs.Words.{view_before}
use Rattle.vp_model.specs.Refresh.{newest}
use Rattle.vp_laws.proofs.Lists.Members.{Has, has_first, has_more, has_one, has_one_is, has_cons}
use Rattle.vp_laws.proofs.Lists.Views.{AtMost, AtMost-same, AtMost-trans, Precedes-at_most, from_before}
use Rattle.vp_laws.proofs.Journal.UpTo.{up_to_from}
use Rattle.vp_audit.specs.Audited.{newest_of}

pub record IsTop (copies : List (ℕ × Stored)) (newest : Stored) : Type 0 where
  pub site : ℕ
  pub there : Has copies (site, newest)
  pub top : (c : ℕ × Stored) → Has copies c → AtMost c.1.date newest.date

-- a copy that is older than another is left out
module _ (b c : ℕ × Stored) (copies : List (ℕ × Stored)) (n : Stored) where
  over : AtMost b.1.date c.1.date → IsTop (c ∷ copies) n → IsTop (b ∷ c ∷ copies) n
  over h t = record {
    site = t.site;
    there = has_more b (c ∷ copies) (t.site, n) t.there;
    top = λ x x_there. ⊎_elim
        (λ (one : b ≡ x). subst (λ (x : ℕ × Stored). AtMost x.1.date n.date) one (AtMost-trans b.1.date c.1.date n.date h (t.top c (has_first c copies))))
        (λ more. t.top x more)
        (has_cons b (c ∷ copies) x x_there);
  }

  under : AtMost c.1.date b.1.date → IsTop (b ∷ copies) n → IsTop (b ∷ c ∷ copies) n
  under h t = record {
    site = t.site;
    there = ⊎_elim
        (λ (one : b ≡ (t.site, n)). subst (Has (b ∷ c ∷ copies)) one (has_first b (c ∷ copies)))
        (λ more. has_more b (c ∷ copies) (t.site, n) (has_more c copies (t.site, n) more))
        (has_cons b copies (t.site, n) t.there);
    top = λ x x_there. ⊎_elim
        (λ (one : b ≡ x). subst (λ (x : ℕ × Stored). AtMost x.1.date n.date) one (t.top b (has_first b copies)))
        (λ later. ⊎_elim
        (λ (one : c ≡ x). subst (λ (x : ℕ × Stored). AtMost x.1.date n.date) one (AtMost-trans c.1.date b.1.date n.date h (t.top b (has_first b copies))))
        (λ more. t.top x (has_more b copies x more))
        (has_cons c copies x later))
        (has_cons b (c ∷ copies) x x_there);
  }

newest_top : (b : ℕ × Stored) (copies : List (ℕ × Stored)) → IsTop (b ∷ copies) (newest b.1 copies)
newest_top b [] = record { site = b.0; there = has_one b; top = λ d h. AtMost-same d.1.date b.1.date (ap (λ (d : ℕ × Stored). d.1.date) (sym (has_one_is b d h))) }
newest_top b (c ∷ copies) = by (view_before b.1.date c.1.date) refl (newest_top c copies) (newest_top b copies)
  where
    by : (t : Bool) → view_before b.1.date c.1.date ≡ t → IsTop (c ∷ copies) (newest c.1 copies) → IsTop (b ∷ copies) (newest b.1 copies) → IsTop (b ∷ c ∷ copies) (newest (cond t c.1 b.1) copies)
    by true e later first = over b c copies (newest c.1 copies) (Precedes-at_most b.1.date c.1.date (from_before b.1.date c.1.date e)) later
    by false e later first = under b c copies (newest b.1 copies) (up_to_from b.1.date c.1.date e) first

pub newest_there : (c : ℕ × Stored) (copies : List (ℕ × Stored)) → (n : Stored) × (newest_of (c ∷ copies) ≡ Some n) × IsTop (c ∷ copies) n
newest_there c copies = (newest c.1 copies, refl, newest_top c copies)
