-- Contents are read exactly, in each version.
use Rattle.std.proofs.Common.{List, ℕ, Option, Some, None, refl, sym, subst}
use Rattle.vp_text.proofs.Exact.{Exact, Made, made_exact, exact_as}
use Rattle.vp_bytes.specs.Fields.{Spelled}
use Rattle.vp_bytes.proofs.Free.{IsFree, made_free, free_as}
use Rattle.vp_contents.specs.Values.{value_bytes, IsValueIn, IsValueBytes, value_at}
use Rattle.vp_contents.specs.Contents.{IsContentBytes, content_at}
use Rattle.vp_contents.specs.declared.version.Version.{Version}
use Rattle.vp_contents.specs.declared.version.Version.TheVariants as versions
use Rattle.vp_contents.proofs.ValuesExact.{value_exact, value_free}
use Rattle.vp_contents.proofs.Maybe.{maybe_bytes, IsMaybe, maybe_exact, maybe_free}

-- ---- in the first version: a value

abbrev First : Option (List ℕ) → List ℕ → Type 0
First = Made (IsValueBytes versions.First) (λ value. Some value)

first_to : (o : Option (List ℕ)) (t : List ℕ) → First o t → IsContentBytes versions.First o t
first_to o t h = subst (λ (o : Option (List ℕ)). IsContentBytes versions.First o t) (sym h.is) (record { is = h.spelled.is; allowed = h.spelled.allowed })

first_from : (o : Option (List ℕ)) (t : List ℕ) → IsContentBytes versions.First o t → First o t
first_from None t h = absurd h.allowed
first_from (Some value) t h = record { from = value; spelled = record { is = h.is; allowed = h.allowed }; is = refl }

-- ---- in the second: a value or none

abbrev Second : Option (List ℕ) → List ℕ → Type 0
Second = Spelled (maybe_bytes (value_bytes versions.Second) (IsValueIn versions.Second) (value_at versions.Second)) (IsMaybe (value_bytes versions.Second) (IsValueIn versions.Second) (value_at versions.Second))

second_to : (o : Option (List ℕ)) (t : List ℕ) → Second o t → IsContentBytes versions.Second o t
second_to None t h = record { is = h.is; allowed = h.allowed }
second_to (Some value) t h = record { is = h.is; allowed = h.allowed }

second_from : (o : Option (List ℕ)) (t : List ℕ) → IsContentBytes versions.Second o t → Second o t
second_from None t h = record { is = h.is; allowed = h.allowed }
second_from (Some value) t h = record { is = h.is; allowed = h.allowed }

pub content_exact : (version : Version) → Exact (IsContentBytes version) (content_at version)
unfolding content_at
content_exact versions.First = exact_as first_to first_from (made_exact (λ value. Some value) (value_exact versions.First))
content_exact versions.Second = exact_as second_to second_from (maybe_exact (value_bytes versions.Second) (IsValueIn versions.Second) (value_at versions.Second) (value_exact versions.Second))

pub content_free : (version : Version) → IsFree (IsContentBytes version)
content_free versions.First = free_as first_from (made_free (value_free versions.First))
content_free versions.Second = free_as second_from (maybe_free (value_bytes versions.Second) (IsValueIn versions.Second) (value_at versions.Second) (value_free versions.Second))
