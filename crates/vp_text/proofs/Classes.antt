-- Names and values are read exactly.
use Rattle.std.proofs.Common.{◌≡◌, ℕ, List, Ok, refl, sym, subst, arith}
use Rattle.vp_text.specs.Tokens.{IsWord}
use Rattle.vp_text.specs.Reading.{word_at}
use Rattle.vp_text.specs.Classes.{has, most}
use Rattle.vp_text.specs.declared.class.Class.{Class}
use Rattle.vp_text.specs.declared.class.Class.TheVariants as classes
use Rattle.vp_text.proofs.Exact.{Exact}
use Rattle.vp_text.proofs.Words.{word_exact}

pub class_exact : (class : Class) → Exact (IsWord (has class) (most class)) (word_at (has class) (most class))
class_exact classes.Name = word_exact (has classes.Name) 16 97 refl (omega arith)
class_exact classes.Value = word_exact (has classes.Value) 1024 97 refl (omega arith)

pub read_word : (class : Class) (bytes w rest : List ℕ) → word_at (has class) (most class) bytes ≡ Ok (w, rest) → IsWord (has class) (most class) w w
read_word class bytes w rest h =
    let p = (class_exact class).ok bytes w rest h in
    subst (λ (x : List ℕ). IsWord (has class) (most class) w x) (sym p.spelled.is) p.spelled
