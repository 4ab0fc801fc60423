-- Obstacles are read exactly: why a request is refused, as bytes.
use Rattle.std.proofs.Common.{◌≡◌, ℕ, zero, suc, ◌≤◌, ◌<◌, ◌^◌, ◌==◌, Bool, true, false, cond, List, [], ◌∷◌, ◌++◌, Ok, refl, sym, ap, subst, ◌∙◌, arith}
use Rattle.vp_text.specs.Reading.{◌>>=◌}
use Rattle.vp_text.proofs.Exact.{Exact, Then, Made, made_exact, exact_as, one_value}
use Rattle.vp_base.specs.declared.message.Obstacle.{Obstacle}
use Rattle.vp_base.specs.declared.message.Obstacle.TheVariants as obstacle
use Rattle.vp_bytes.specs.Fields.{Spelled, number_bytes, IsMaybeViewBytes, IsOwnerBytes}
use Rattle.vp_wire.specs.Grammar.{obstacle_bytes, IsObstacle}
use Rattle.vp_bytes.specs.Reading.{within, owner_at, maybe_view_at, u32_at}
use Rattle.vp_wire.specs.Messages.{last_mark, obstacle_at}
use Rattle.vp_contents.specs.declared.version.Version.{Version}
use Rattle.vp_contents.specs.declared.version.Version.TheVariants as versions
use Rattle.vp_contents.specs.Versions.{IsSecond}
use Rattle.vp_bytes.proofs.Free.{IsFree, IsByteOf, free_as, byte_free, byte_one, free_then, then_free, made_free}
use Rattle.vp_bytes.proofs.Identifiers.{within_exact, within_from, within_to}
use Rattle.vp_bytes.proofs.Marked.{owner_exact, owner_free, maybe_view_exact, maybe_view_free}
use Rattle.vp_bytes.proofs.Pairs.{pair_bytes, PairAllowed, then_field, pair_free}
use Rattle.vp_bytes.proofs.Singles.{view_free, number4_exact, number4_free}

abbrev pub IsObstacleBytes : Version → Obstacle → List ℕ → Type 0
IsObstacleBytes version = Spelled obstacle_bytes (IsObstacle version)

-- the weights of a bar
abbrev Weights : ℕ × ℕ → List ℕ → Type 0
Weights = Spelled (pair_bytes (λ (number : ℕ). number_bytes 4 number) (λ (number : ℕ). number_bytes 4 number)) (PairAllowed (λ (number : ℕ). number < 2 ^ 32) (λ (number : ℕ). number < 2 ^ 32))

-- what follows the mark, by whether that is 1, and whether it is 2
abbrev Following : Bool → Bool → Obstacle → List ℕ → Type 0
Following true view = Made IsOwnerBytes (λ who. obstacle.Held who)
Following false true = Made IsMaybeViewBytes (λ now. obstacle.OtherView now)
Following false false = Made Weights (λ w. obstacle.Barred w.0 w.1)

after_exact : (held view : Bool) → Exact (Following held view) (λ bytes. cond held (owner_at bytes >>= λ x. Ok (obstacle.Held x.0, x.1)) (cond view (maybe_view_at bytes >>= λ x. Ok (obstacle.OtherView x.0, x.1)) (u32_at bytes >>= λ inside. u32_at inside.1 >>= λ total. Ok (obstacle.Barred inside.0 total.0, total.1))))
after_exact true view = made_exact (λ who. obstacle.Held who) owner_exact
after_exact false true = made_exact (λ now. obstacle.OtherView now) maybe_view_exact
after_exact false false = then_field (λ inside total. obstacle.Barred inside total) number4_free number4_exact (λ inside. made_exact (λ total. obstacle.Barred inside total) number4_exact)

-- only the second version has a third mark
third : (version : Version) → 3 ≤ last_mark version → IsSecond version
third versions.First le = absurd (omega (arith, le))
third versions.Second le = tt

marks_short : (version : Version) → last_mark version ≤ 3
marks_short versions.First = omega arith
marks_short versions.Second = omega arith

third_within : (version : Version) → IsSecond version → within 1 (last_mark version) 3 ≡ true
third_within versions.First h = absurd h
third_within versions.Second h = refl

marks_enough : (version : Version) → 2 ≤ last_mark version
marks_enough versions.First = omega arith
marks_enough versions.Second = omega arith

module _ (version : Version) where
  obstacle_after : (mark : ℕ) → 1 ≤ mark → mark ≤ last_mark version → (o : Obstacle) (t back : List ℕ) → t ≡ mark ∷ back → Following (mark == 1) (mark == 2) o back → IsObstacleBytes version o t
  obstacle_after zero some le o t back e h = absurd (omega (arith, some))
  obstacle_after (suc zero) some le o t back e h = subst (λ (o : Obstacle). IsObstacleBytes version o t) (sym h.is) (record { is = e ∙ ap (λ (b : List ℕ). 1 ∷ b) h.spelled.is; allowed = h.spelled.allowed })
  obstacle_after (suc (suc zero)) some le o t back e h = subst (λ (o : Obstacle). IsObstacleBytes version o t) (sym h.is) (record { is = e ∙ ap (λ (b : List ℕ). 2 ∷ b) h.spelled.is; allowed = h.spelled.allowed })
  obstacle_after (suc (suc (suc zero))) some le o t back e h =
      subst (λ (o : Obstacle). IsObstacleBytes version o t) (sym h.is) (record { is = e ∙ ap (λ (b : List ℕ). 3 ∷ b) h.spelled.is; allowed = (third version le, h.spelled.allowed.0, h.spelled.allowed.1) })
  obstacle_after (suc (suc (suc (suc k)))) some le o t back e h = absurd (omega (arith, le, marks_short version))

  abbrev ObstacleParts : Obstacle → List ℕ → Type 0
  ObstacleParts = Then (IsByteOf (within 1 (last_mark version))) (λ mark. Following (mark == 1) (mark == 2))

  obstacle_to : (o : Obstacle) (t : List ℕ) → ObstacleParts o t → IsObstacleBytes version o t
  obstacle_to o t h =
      let range = within_to 1 (last_mark version) h.first h.before.admitted in
      obstacle_after h.first range.0 range.1 o t h.back (h.parts ∙ ap (λ (f : List ℕ). f ++ h.back) h.before.is) h.after

  obstacle_from : (o : Obstacle) (t : List ℕ) → IsObstacleBytes version o t → ObstacleParts o t
  obstacle_from (obstacle.Held who) t h = record { first = 1; front = 1 ∷ []; back = _; before = record { is = refl; admitted = within_from 1 (last_mark version) 1 (omega arith) (omega (arith, marks_enough version)) }; after = record { from = who; spelled = record { is = refl; allowed = h.allowed }; is = refl }; parts = h.is }
  obstacle_from (obstacle.OtherView now) t h = record { first = 2; front = 2 ∷ []; back = _; before = record { is = refl; admitted = within_from 1 (last_mark version) 2 (omega arith) (marks_enough version) }; after = record { from = now; spelled = record { is = refl; allowed = h.allowed }; is = refl }; parts = h.is }
  obstacle_from (obstacle.Barred inside total) t h = record {
    first = 3;
    front = 3 ∷ [];
    back = number_bytes 4 inside ++ number_bytes 4 total;
    before = record { is = refl; admitted = third_within version h.allowed.0 };
    after = record { from = (inside, total); spelled = record { is = refl; allowed = (h.allowed.1, h.allowed.2) }; is = refl };
    parts = h.is;
  }

  pub obstacle_exact : Exact (IsObstacleBytes version) (obstacle_at version)
  unfolding obstacle_at
  obstacle_exact = exact_as obstacle_to obstacle_from (free_then byte_free (within_exact 1 (last_mark version) (omega (arith, marks_enough version))) (λ mark. after_exact (mark == 1) (mark == 2)))

  obstacle_after_free : (held view : Bool) → IsFree (Following held view)
  obstacle_after_free true view = made_free owner_free
  obstacle_after_free false true = made_free (maybe_view_free view_free)
  obstacle_after_free false false = made_free (pair_free (one_value number4_exact) number4_free number4_free)

  pub obstacle_free : IsFree (IsObstacleBytes version)
  obstacle_free = free_as obstacle_from (then_free {M = λ mark. Following (mark == 1) (mark == 2)} byte_one byte_free (λ mark. obstacle_after_free (mark == 1) (mark == 2)))
