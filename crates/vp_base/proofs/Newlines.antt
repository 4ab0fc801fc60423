-- The texts of names, values, views and transactions have no newlines.
use Rattle.std.proofs.Common.{◌≡◌, ℕ, List, ◌∷◌, ◌++◌, true, sym, ap, subst, ◌∙◌, arith}
use Rattle.std.specs.Fmt.{decimal}
use Rattle.std.proofs.lemmas.Bool.{false≢true}
use Rattle.vp_text.specs.Classes.{has}
use Rattle.vp_text.specs.Documents.{HasNoNewline}
use Rattle.vp_text.specs.declared.class.Class.TheVariants as classes
use Rattle.vp_text.proofs.Items.{all_each}
use Rattle.vp_text.proofs.Newlines.{both, decimal_clean}
use Rattle.vp_base.specs.declared.ids.ViewId.{ViewId}
use Rattle.vp_base.specs.declared.ids.TxnId.{TxnId}
use Rattle.vp_base.specs.Words.{IsName, IsValue}
use Rattle.vp_base.specs.Identifiers.{IsTxnText, IsViewText}

pub name_clean : (w : List ℕ) → IsName w w → HasNoNewline w
name_clean w h = all_each (λ c. has classes.Name c ≡ true) (λ c. c ≡ 10 → ⊥) (λ c e same. false≢true (sym (ap (has classes.Name) same) ∙ e)) w h.each

pub value_clean : (w : List ℕ) → IsValue w w → HasNoNewline w
value_clean w h = all_each (λ c. has classes.Value c ≡ true) (λ c. c ≡ 10 → ⊥) (λ c e same. false≢true (sym (ap (has classes.Value) same) ∙ e)) w h.each

pub view_clean : (v : ViewId) (t : List ℕ) → IsViewText v t → HasNoNewline t
view_clean v t h = subst HasNoNewline (sym h.is) (both (decimal v.number) (64 ∷ decimal v.site) (decimal_clean v.number h.allowed.number_fits) (λ e. omega arith, decimal_clean v.site (omega (arith, h.allowed.site_fits))))

pub txn_clean : (v : TxnId) (t : List ℕ) → IsTxnText v t → HasNoNewline t
txn_clean v t h =
    let a = h.allowed in
    subst HasNoNewline (sym h.is) (both (decimal v.site) (46 ∷ (decimal v.life ++ 46 ∷ decimal v.seq)) (decimal_clean v.site (omega (arith, a.site_fits)))
    (λ e. omega arith, both (decimal v.life) (46 ∷ decimal v.seq) (decimal_clean v.life (omega (arith, a.life_fits))) (λ e. omega arith, decimal_clean v.seq (omega (arith, a.seq_fits)))))
