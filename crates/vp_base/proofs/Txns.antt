-- Transactions are read exactly, and go on only with digits.
use Rattle.std.proofs.Common.{ℕ, ◌-◌, ◌^◌, List, [], ◌∷◌, ◌++◌, refl, sym, subst, arith}
use Rattle.std.specs.Fmt.{decimal}
use Rattle.vp_text.specs.Tokens.{IsLiteral, IsNumber}
use Rattle.vp_text.specs.Reading.{is_digit}
use Rattle.vp_text.proofs.Exact.{Exact, Then, Made, made_exact, exact_as}
use Rattle.vp_text.proofs.Numbers.{number_exact}
use Rattle.vp_text.proofs.Fields.{literal_then, number_then, literal_outside}
use Rattle.vp_text.proofs.Choices.{GoesOn, goes_as, then_goes, literal_goes, made_goes, number_goes, number_one, follows_from}
use Rattle.vp_base.specs.declared.ids.TxnId.{TxnId}
use Rattle.vp_base.specs.Identifiers.{IsTxnText}
use Rattle.vp_base.specs.Reading.{txn_of, txn_at}

abbrev TxnParts : TxnId → List ℕ → Type 0
TxnParts = Then (IsNumber 1 16) (λ site. Then (IsLiteral (46 ∷ [])) (λ _. Then (IsNumber 1 (2 ^ 32 - 1)) (λ life. Then (IsLiteral (46 ∷ [])) (λ _. Made (IsNumber 1 (2 ^ 32 - 1)) (txn_of site life)))))

txn_to : (v : TxnId) (t : List ℕ) → TxnParts v t → IsTxnText v t
txn_to v t h =
    let site = h.before in
    let life = h.after.after.before in
    let seq = h.after.after.after.after in
    subst (λ (v : TxnId). IsTxnText v t) (sym seq.is) (record {
      is = rw (h.parts, site.is, h.after.parts, h.after.before, h.after.after.parts, life.is, h.after.after.after.parts, h.after.after.after.before, seq.spelled.is) refl;
      allowed = record { site_some = site.above; site_fits = site.below; life_some = life.above; life_fits = omega (arith, life.below); seq_some = seq.spelled.above; seq_fits = omega (arith, seq.spelled.below) };
    })

txn_from : (v : TxnId) (t : List ℕ) → IsTxnText v t → TxnParts v t
txn_from v t h =
    let a = h.allowed in
    record {
      first = v.site;
      front = decimal v.site;
      back = 46 ∷ (decimal v.life ++ 46 ∷ decimal v.seq);
      before = record { is = refl; above = a.site_some; below = a.site_fits };
      after = record {
        first = tt;
        front = 46 ∷ [];
        back = decimal v.life ++ 46 ∷ decimal v.seq;
        before = refl;
        parts = refl;
        after = record {
          first = v.life;
          front = decimal v.life;
          back = 46 ∷ decimal v.seq;
          before = record { is = refl; above = a.life_some; below = omega (arith, a.life_fits) };
          parts = refl;
          after = record {
            first = tt;
            front = 46 ∷ [];
            back = decimal v.seq;
            before = refl;
            parts = refl;
            after = record { from = v.seq; spelled = record { is = refl; above = a.seq_some; below = omega (arith, a.seq_fits) }; is = refl };
          };
        };
      };
      parts = h.is;
    }

pub txn_exact : Exact IsTxnText txn_at
unfolding txn_at
txn_exact = exact_as txn_to txn_from (number_then 1 16 (omega arith) (omega arith) (λ site. literal_outside is_digit (46 ∷ []) refl)
    (λ site. literal_then (46 ∷ []) (number_then 1 (2 ^ 32 - 1) (omega arith) (omega arith) (λ life. literal_outside is_digit (46 ∷ []) refl)
    (λ life. literal_then (46 ∷ []) (made_exact (txn_of site life) (number_exact 1 (2 ^ 32 - 1) (omega arith) (omega arith)))))))

pub txn_goes : GoesOn is_digit IsTxnText
txn_goes =
    goes_as is_digit txn_from (then_goes is_digit (number_one 1 16 (omega arith) (omega arith))
    (follows_from is_digit (number_goes 1 16 (omega arith)) (λ site. literal_outside is_digit (46 ∷ []) refl))
    (λ site. literal_goes is_digit (46 ∷ []) (then_goes is_digit (number_one 1 (2 ^ 32 - 1) (omega arith) (omega arith))
    (follows_from is_digit (number_goes 1 (2 ^ 32 - 1) (omega arith)) (λ life. literal_outside is_digit (46 ∷ []) refl))
    (λ life. literal_goes is_digit (46 ∷ []) (made_goes is_digit (number_goes 1 (2 ^ 32 - 1) (omega arith)))))))
