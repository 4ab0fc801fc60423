-- Comparing frame by frame.
use Rattle.std.proofs.Common.{◌≡◌, ◌∙◌, ap, Bool, true, false, ℕ, ◌==◌, length, arith, List, [], ◌∷◌, ◌++◌, refl, append_assoc}
use Rattle.std.specs.Prelude.{◌&&◌}
use Rattle.std.proofs.lemmas.Bool.Decides.{nat_tests}
use Rattle.std.specs.Str.{bytes_eq}
use Rattle.vp_fitting.specs.Merged.{tells}
use Rattle.vp_outside.specs.declared.datagram.Datagram.{Datagram}
use Rattle.vp_merge.specs.Telling.{agrees, bytes_of}
use Rattle.vp_merge.specs.declared.comparison.Comparison.{Comparison}

and_assoc : (a b c : Bool) → a && (b && c) ≡ (a && b) && c
and_assoc true b c = refl
and_assoc false b c = refl

-- a recorded datagram beside a frame
pub compared : (alike short : Bool) (out : List ℕ) (outs : List (List ℕ)) (frame : List ℕ) (made : List (List ℕ)) → alike && tells short (out ∷ outs) (frame ∷ made) ≡ (alike && bytes_eq out frame) && tells short outs made
compared alike short out outs frame made = and_assoc alike (bytes_eq out frame) (tells short outs made)

-- a frame of which nothing is recorded
pub unrecorded : (alike short : Bool) (frame : List ℕ) (made : List (List ℕ)) → alike && tells short [] (frame ∷ made) ≡ (alike && short) && tells short [] made
unrecorded true true frame made = refl
unrecorded true false frame made = refl
unrecorded false short frame made = refl

-- one frame more
pub agrees_more : (c d e : Comparison) (xs : List (List ℕ)) (frame : List ℕ) → ((made : List (List ℕ)) → agrees c (xs ++ made) ≡ agrees d made) → ((made : List (List ℕ)) → agrees d (frame ∷ made) ≡ agrees e made)
    → (made : List (List ℕ)) → agrees c ((xs ++ frame ∷ []) ++ made) ≡ agrees e made
agrees_more c d e xs frame so_far now made = ap (agrees c) (append_assoc xs (frame ∷ []) made) ∙ so_far (frame ∷ made) ∙ now made

-- where no frame is left
pub ends : (short : Bool) (outs : List Datagram) → (length outs == 0) ≡ tells short (bytes_of outs) []
ends true [] = refl
ends false [] = refl
ends short (out ∷ outs) = grind (arith, nat_tests)

-- all frames of a step
pub agrees_both : (c d e : Comparison) (xs ys : List (List ℕ)) → ((made : List (List ℕ)) → agrees c (xs ++ made) ≡ agrees d made) → ((made : List (List ℕ)) → agrees d (ys ++ made) ≡ agrees e made)
    → (made : List (List ℕ)) → agrees c ((xs ++ ys) ++ made) ≡ agrees e made
agrees_both c d e xs ys a b made = ap (agrees c) (append_assoc xs ys made) ∙ a (ys ++ made) ∙ b made
