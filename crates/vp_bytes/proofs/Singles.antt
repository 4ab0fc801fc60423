-- Single fields are read exactly: sites, records, numbers and outcomes, as the bytes of allowed values.
use Rattle.std.proofs.Common.{◌≡◌, ℕ, zero, suc, ◌≤◌, ◌<◌, ◌^◌, ◌==◌, Bool, true, false, List, [], ◌∷◌, ◌++◌, length, refl, sym, ap, subst, ◌∙◌, arith}
use Rattle.byteorder.specs.Endian.{big_bytes}
use Rattle.vp_text.proofs.Exact.{Exact, Made, made_exact, exact_as}
use Rattle.vp_base.specs.declared.ids.ViewId.{ViewId}
use Rattle.vp_base.specs.declared.ids.TxnId.{TxnId}
use Rattle.vp_bytes.specs.Fields.{Spelled, number_bytes, view_bytes, txn_bytes, outcome_byte, IsSite, IsRecord, IsCallNumber, IsViewBytes, IsNumberedBytes, IsRequestBytes}
use Rattle.vp_bytes.specs.Reading.{byte_at, within, u32_at, u64_at, some_u32_at, request_at, outcome_at}
use Rattle.vp_bytes.proofs.Free.{IsFree, IsByteOf, even_free, free_as}
use Rattle.vp_bytes.proofs.NumberBytes.{IsNumberBytes, number_free}
use Rattle.vp_bytes.proofs.Identifiers.{number_spelled, u64_exact, u32_exact, some_u32_exact, within_exact, within_from, within_to, view_exact, txn_exact, txn_free}
use Rattle.vp_bytes.proofs.Pairs.{then_field}

abbrev pub IsSiteByte : ℕ → List ℕ → Type 0
IsSiteByte = Spelled (λ site. site ∷ []) IsSite

abbrev pub IsRecByte : ℕ → List ℕ → Type 0
IsRecByte = Spelled (λ rec. rec ∷ []) IsRecord

abbrev pub IsNumber4 : ℕ → List ℕ → Type 0
IsNumber4 = Spelled (λ number. number_bytes 4 number) (λ number. number < 2 ^ 32)

abbrev pub IsNumber8 : ℕ → List ℕ → Type 0
IsNumber8 = Spelled (λ number. number_bytes 8 number) (λ number. number < 2 ^ 64)

abbrev pub IsOutcomeByte : Bool → List ℕ → Type 0
IsOutcomeByte = Spelled (λ commit. outcome_byte commit ∷ []) (λ _. Unit {0})

pub site_exact : Exact IsSiteByte (byte_at (within 1 16))
site_exact = exact_as (λ c t h. record { is = h.is; allowed = within_to 1 16 c h.admitted }) (λ c t h. record { is = h.is; admitted = within_from 1 16 c h.allowed.0 h.allowed.1 }) (within_exact 1 16 (omega arith))

pub site_free : IsFree IsSiteByte
site_free = even_free {L = IsSiteByte} 1 (λ c t h. ap length h.is)

rec_to : (c : ℕ) (t : List ℕ) → IsByteOf (within 0 255) c t → IsRecByte c t
rec_to c t h = let range = within_to 0 255 c h.admitted in record { is = h.is; allowed = omega (arith, range.1) }

rec_from : (c : ℕ) (t : List ℕ) → IsRecByte c t → IsByteOf (within 0 255) c t
rec_from c t h = record { is = h.is; admitted = within_from 0 255 c (omega arith) (omega (arith, h.allowed)) }

pub rec_exact : Exact IsRecByte (byte_at (within 0 255))
rec_exact = exact_as rec_to rec_from (within_exact 0 255 (omega arith))

pub rec_free : IsFree IsRecByte
rec_free = even_free {L = IsRecByte} 1 (λ c t h. ap length h.is)

number4_from : (c : ℕ) (t : List ℕ) → IsNumber4 c t → IsNumberBytes false 4 c t
number4_from c t h = record { is = h.is ∙ number_spelled 4 c; fits = h.allowed; above = λ s. absurd cc }

pub number4_exact : Exact IsNumber4 u32_at
number4_exact = exact_as (λ c t h. record { is = h.is ∙ sym (number_spelled 4 c); allowed = h.fits }) number4_from u32_exact

pub number4_free : IsFree IsNumber4
number4_free = free_as number4_from (number_free false 4)

pub number8_exact : Exact IsNumber8 u64_at
number8_exact = exact_as (λ c t h. record { is = h.is ∙ sym (number_spelled 8 c); allowed = h.fits }) (λ c t h. record { is = h.is ∙ number_spelled 8 c; fits = h.allowed; above = λ s. absurd cc }) u64_exact

view_spelled : (v : ViewId) → view_bytes v ≡ big_bytes 8 v.number ++ v.site ∷ []
unfolding view_bytes number_bytes
view_spelled v = refl

pub view_free : IsFree IsViewBytes
view_free = even_free {L = IsViewBytes} 9 (λ v t h. ap length (h.is ∙ view_spelled v))

numbered_spelled : (txn : TxnId) (number : ℕ) → txn_bytes txn ++ number_bytes 4 number ≡ txn.site ∷ ((big_bytes 4 txn.life ++ big_bytes 4 txn.seq) ++ big_bytes 4 number)
unfolding txn_bytes number_bytes
numbered_spelled txn number = refl

pub numbered_free : IsFree IsNumberedBytes
numbered_free = even_free {L = IsNumberedBytes} 13 (λ v t h. ap length (h.is ∙ numbered_spelled v.0 v.1))

-- ---- requests for a lock or a vote

request_spelled : (txn : TxnId) (view : ViewId) (number : ℕ) → txn_bytes txn ++ (view_bytes view ++ number_bytes 4 number) ≡ (txn.site ∷ (big_bytes 4 txn.life ++ big_bytes 4 txn.seq)) ++ ((big_bytes 8 view.number ++ view.site ∷ []) ++ big_bytes 4 number)
unfolding txn_bytes view_bytes number_bytes
request_spelled txn view number = refl

pub request_free : IsFree IsRequestBytes
request_free = even_free {L = IsRequestBytes} 22 (λ v t h. ap length (h.is ∙ request_spelled v.0 v.1 v.2))

abbrev IsNumberField : ℕ → List ℕ → Type 0
IsNumberField = Spelled (λ number. number_bytes 4 number) IsCallNumber

number_field : Exact IsNumberField some_u32_at
number_field = exact_as (λ c t h. record { is = h.is ∙ sym (number_spelled 4 c); allowed = (h.above refl, h.fits) }) (λ c t h. record { is = h.is ∙ number_spelled 4 c; fits = h.allowed.1; above = λ s. h.allowed.0 }) some_u32_exact

pub request_exact : Exact IsRequestBytes request_at
unfolding request_at
request_exact =
    exact_as
    (λ v t h. subst (λ (v : TxnId × ViewId × ℕ). IsRequestBytes v t) (sym h.is) (record { is = h.spelled.is; allowed = (h.spelled.allowed.0, h.spelled.allowed.1.0, h.spelled.allowed.1.1) }))
    (λ v t h. record { from = (v.0, (v.1, v.2)); spelled = record { is = h.is; allowed = (h.allowed.0, (h.allowed.1, h.allowed.2)) }; is = refl })
    (then_field (λ txn rest. (txn, rest.0, rest.1)) txn_free txn_exact (λ txn. then_field (λ view number. (txn, view, number)) view_free view_exact (λ view. made_exact (λ number. (txn, view, number)) number_field)))

-- ---- an outcome

outcome_to : (flag : ℕ) → flag ≤ 1 → (b : Bool) (t : List ℕ) → t ≡ flag ∷ [] → b ≡ (flag == 1) → IsOutcomeByte b t
outcome_to zero le b t e h = subst (λ (b : Bool). IsOutcomeByte b t) (sym h) (record { is = e; allowed = tt })
outcome_to (suc zero) le b t e h = subst (λ (b : Bool). IsOutcomeByte b t) (sym h) (record { is = e; allowed = tt })
outcome_to (suc (suc k)) le b t e h = absurd (omega (arith, le))

outcome_from : (b : Bool) (t : List ℕ) → IsOutcomeByte b t → Made (IsByteOf (within 0 1)) (λ flag. flag == 1) b t
outcome_from true t h = record { from = 1; spelled = record { is = h.is; admitted = refl }; is = refl }
outcome_from false t h = record { from = 0; spelled = record { is = h.is; admitted = refl }; is = refl }

pub outcome_exact : Exact IsOutcomeByte outcome_at
unfolding outcome_at
outcome_exact = exact_as (λ b t h. outcome_to h.from (within_to 0 1 h.from h.spelled.admitted).1 b t h.spelled.is h.is) outcome_from (made_exact (λ flag. flag == 1) (within_exact 0 1 (omega arith)))

pub outcome_free : IsFree IsOutcomeByte
outcome_free = even_free {L = IsOutcomeByte} 1 (λ b t h. ap length h.is)

pub number8_free : IsFree IsNumber8
number8_free = even_free {L = IsNumber8} 8 (λ x t h. ap length (h.is ∙ number_spelled 8 x))
