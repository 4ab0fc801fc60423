-- Fifteen values of 1,024 bytes are not too much; one byte more is, and a delete is not.
use Rattle.std.proofs.Common.{◌≡◌, refl, ℕ, zero, suc, true, false, List, [], ◌∷◌, map}
use Rattle.std.specs.Prelude.{Some, None}
use Rattle.vp_model.specs.Types.{Op, Live}
use Rattle.vp_model.specs.Types.op
use Rattle.vp_model.specs.Transactions.{Deed}
use Rattle.vp_model.specs.Calls.{begun, is_too_large}
use Rattle.vp_model.specs.Generated.{numbers_below}
use Rattle.vp_model.specs.Worked.{txn, view}

abbrev bytes : ℕ → List ℕ
bytes zero = []
bytes (suc n) = 65 ∷ bytes n

abbrev wide : ℕ → Op
wide rec = op.Write rec (Some (bytes 1024))

abbrev full : Live
full = record (begun (txn 1 1 1) (view 0 0)) { ops = map wide (numbers_below 15) }

pub fits : is_too_large (record full { ops = map wide (numbers_below 14) }) (Deed.operates (wide 14)) ≡ false
fits = refl

pub one_more : is_too_large full (Deed.operates (op.Write 15 (Some (65 ∷ [])))) ≡ true
one_more = refl

pub again : is_too_large full (Deed.operates (op.Write 3 (Some (65 ∷ [])))) ≡ false
again = refl

pub deleted : is_too_large full (Deed.operates (op.Write 15 None)) ≡ false
deleted = refl

pub table : is_too_large full (Deed.weighs 15 ((1, 1) ∷ [])) ≡ true
table = refl
