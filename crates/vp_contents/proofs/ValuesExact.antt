-- Values are read exactly, in each version.
use Rattle.std.proofs.Common.{ℕ, List, length, refl, ap, arith}
use Rattle.vp_text.specs.Classes.{most}
use Rattle.vp_text.specs.declared.class.Class.TheVariants as classes
use Rattle.vp_text.proofs.Exact.{Exact, Then, exact_as, one_value}
use Rattle.vp_bytes.proofs.Free.{IsFree, even_free, free_then, then_free, free_as}
use Rattle.vp_bytes.proofs.Identifiers.{within_exact, within_from, within_to}
use Rattle.vp_bytes.proofs.Items.{WordRun, word_to, word_from, word_run_exact, word_run_free}
use Rattle.vp_bytes.proofs.NumbersWithin.{number_within_exact, number_within_free}
use Rattle.vp_contents.specs.Values.{length_bytes, IsLengthBytes, IsValueBytes, length_at, value_at}
use Rattle.vp_contents.specs.declared.version.Version.{Version}
use Rattle.vp_contents.specs.declared.version.Version.TheVariants as versions

length_exact : (version : Version) → Exact (IsLengthBytes version) (length_at version)
unfolding length_at
length_exact versions.First =
    exact_as (λ n t h. record { is = h.is; allowed = within_to 1 64 n h.admitted }) (λ n t h. record { is = h.is; admitted = within_from 1 64 n h.allowed.0 h.allowed.1 }) (within_exact 1 64 (omega arith))
length_exact versions.Second = number_within_exact 2 1 (most classes.Value) (omega arith) (omega arith) (omega arith)

length_free : (version : Version) → IsFree (IsLengthBytes version)
length_free versions.First = even_free {L = IsLengthBytes versions.First} 1 (λ n t h. ap length h.is)
length_free versions.Second = number_within_free 2 1 (most classes.Value) (omega arith)

abbrev Parts : Version → List ℕ → List ℕ → Type 0
Parts version = Then (IsLengthBytes version) (λ n. WordRun classes.Value n 1)

value_to : (version : Version) (w t : List ℕ) → Parts version w t → IsValueBytes version w t
value_to version w t h =
    let k = word_to classes.Value h.first 1 w h.back h.after in
    record {
      is = rw (h.parts, h.before.is, k.0, ← k.1) refl;
      allowed = record { is = refl; some = omega (arith, h.before.allowed.0, k.1); short = omega (arith, h.before.allowed.1, k.1); each = k.2 };
    }

value_from : (version : Version) (w t : List ℕ) → IsValueBytes version w t → Parts version w t
value_from version w t h = record {
  first = length w;
  front = length_bytes version (length w);
  back = w;
  before = record { is = refl; allowed = (h.allowed.some, h.allowed.short) };
  after = word_from classes.Value (length w) 1 w refl h.allowed.each;
  parts = h.is;
}

pub value_exact : (version : Version) → Exact (IsValueBytes version) (value_at version)
unfolding value_at
value_exact version = exact_as (value_to version) (value_from version) (free_then (length_free version) (length_exact version) (λ n. word_run_exact classes.Value n))

pub value_free : (version : Version) → IsFree (IsValueBytes version)
value_free version = free_as (value_from version) (then_free {M = λ n. WordRun classes.Value n 1} (one_value (length_exact version)) (length_free version) (λ n. word_run_free classes.Value n))
