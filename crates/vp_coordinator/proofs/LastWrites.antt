-- The last content of a record is that of the last write to it.
use Rattle.std.proofs.Common.{◌≡◌, ◌∙◌, ℕ, Bool, true, false, cond, List, [], ◌∷◌, ◌++◌, reverse, Option, Some, None, refl, sym, ap, arith, if◌then◌else◌}
use Rattle.std.specs.Prelude.{◌==◌, find, option_and_then}
use Rattle.std.proofs.lemmas.Bool.Decides.{nat_tests}
use Rattle.std.proofs.lemmas.List.{reverse-append, reverse-reverse}
use Rattle.std.proofs.lemmas.List.Sums.{fold-append}
use Rattle.vp_model.specs.Types.{Op}
use Rattle.vp_model.specs.Types.op
use Rattle.vp_model.specs.Words.{put_at, value_at}
use Rattle.vp_model.specs.Transactions.{with_op, last_writes}
use Rattle.vp_coordinator.specs.Records.{writes}

module _ {V : Type 0} (rec n : ℕ) (v : V) where
  pub put_first : (pairs : List (ℕ × V)) → value_at rec (put_at n v pairs) ≡ (if n == rec then Some v else value_at rec pairs)
  put_first [] = grind (arith, nat_tests)
  put_first (p ∷ pairs) = let rest = put_first pairs in grind (arith, nat_tests, rest)

-- what the operation wrote
abbrev pub written : Op → Option (Option (List ℕ))
written (op.Read rec value) = None
written (op.Write rec value) = Some value

module _ (rec : ℕ) where
  with_more : (op : Op) (pairs : List (ℕ × Option (List ℕ))) → value_at rec (with_op pairs op) ≡ (if writes rec op then written op else value_at rec pairs)
  with_more (op.Read other value) pairs = refl
  with_more (op.Write other value) pairs = put_first rec other value pairs

  last_of : (backwards : List Op) → value_at rec (last_writes (reverse backwards)) ≡ option_and_then written (find (writes rec) backwards)
  last_of [] = refl
  last_of (op ∷ before) =
      ap (λ ops. value_at rec (last_writes ops)) (reverse-append (op ∷ []) before)
      ∙ ap (value_at rec) (fold-append with_op [] (reverse before) (op ∷ []))
      ∙ with_more op (last_writes (reverse before))
      ∙ chosen (writes rec op) (last_of before)
    where
      chosen : (b : Bool) → value_at rec (last_writes (reverse before)) ≡ option_and_then written (find (writes rec) before) → cond b (written op) (value_at rec (last_writes (reverse before))) ≡ option_and_then written (cond b (Some op) (find (writes rec) before))
      chosen true rest = refl
      chosen false rest = rest

  pub last_write_is : (ops : List Op) → option_and_then written (find (writes rec) (reverse ops)) ≡ value_at rec (last_writes ops)
  last_write_is ops = sym (last_of (reverse ops)) ∙ ap (λ ops. value_at rec (last_writes ops)) (reverse-reverse ops)

  pub write_found : (ops : List Op) (operation : Op) (other : ℕ) (value : Option (List ℕ)) → Some operation ≡ find (writes rec) (reverse ops) → operation ≡ op.Write other value → Some value ≡ value_at rec (last_writes ops)
  write_found ops operation other value found is = sym (ap written is) ∙ ap (option_and_then written) found ∙ last_write_is ops

  pub read_found : (ops : List Op) (operation : Op) (other : ℕ) (value : Option (List ℕ)) → Some operation ≡ find (writes rec) (reverse ops) → operation ≡ op.Read other value → None ≡ value_at rec (last_writes ops)
  read_found ops operation other value found is = sym (ap written is) ∙ ap (option_and_then written) found ∙ last_write_is ops

  pub none_found : (ops : List Op) → None ≡ find (writes rec) (reverse ops) → None ≡ value_at rec (last_writes ops)
  none_found ops found = ap (option_and_then written) found ∙ last_write_is ops

pub written_next : (ops : List Op) (operation : Op) → last_writes (ops ++ operation ∷ []) ≡ with_op (last_writes ops) operation
written_next ops operation = fold-append with_op [] ops (operation ∷ [])
