-- Numbers and transactions in a range, byte by byte: a byte is at fault as soon as none in the range begins so.
use Rattle.std.specs.Prelude.{◌≡◌, ℕ, zero, suc, ◌+◌, ◌*◌, ◌-◌, ◌/◌, ◌%◌, ◌^◌, ◌≤◌, List, Bool, false, ◌&&◌, ◌==◌, if◌then◌else◌, Option, Some, None, Result, Ok}
use Rattle.vp_text.specs.Reading.{◌>>=◌}
use Rattle.vp_base.specs.Identifiers.{IsTxn}
use Rattle.vp_base.specs.Order.{txn_before}
use Rattle.vp_base.specs.Reading.{txn_of}
use Rattle.vp_base.specs.declared.ids.TxnId.{TxnId}
use Rattle.vp_bytes.specs.Fields.{Spelled, number_bytes, txn_bytes}
use Rattle.vp_bytes.specs.Reading.{byte_at, is_byte, within}

-- ---- numbers

-- the text is a number from low to high in a given count of bytes
abbrev pub IsNumberWithin : ℕ → ℕ → ℕ → ℕ → List ℕ → Type 0
IsNumberWithin count low high = Spelled (number_bytes count) (λ number. (low ≤ number) × (number ≤ high))

-- A byte with which a number from low to high can go on, where n more bytes follow.
abbrev pub range_fits : ℕ → ℕ → ℕ → ℕ → ℕ → Bool
range_fits low high n front c = is_byte c && within (low / 256 ^ n) (high / 256 ^ n) (front * 256 + c)

-- the number of n bytes after those that made the front, from low to high
abbrev pub digits_within_at : ℕ → ℕ → ℕ → ℕ → List ℕ → Result (ℕ × List ℕ) ℕ
digits_within_at low high zero front bytes = Ok (front, bytes)
digits_within_at low high (suc n) front bytes = byte_at (range_fits low high n front) bytes >>= λ c. digits_within_at low high n (front * 256 + c.0) c.1

-- a number from low to high in a given count of bytes
unfoldable pub number_within_at : ℕ → ℕ → ℕ → List ℕ → Result (ℕ × List ℕ) ℕ
number_within_at count low high bytes = digits_within_at low high count 0 bytes

-- ---- transactions

-- Both are transactions, and high isn't before low.
pub record IsTxnRange (low high : TxnId) : Type 0 where
  pub low_is : IsTxn low
  pub high_is : IsTxn high
  pub order : txn_before high low ≡ false

-- a transaction from low to high
abbrev pub IsTxnBetween : TxnId → TxnId → TxnId → Type 0
IsTxnBetween low high txn = IsTxn txn × (txn_before txn low ≡ false) × (txn_before high txn ≡ false)

-- the text is a transaction from low to high
abbrev pub IsTxnBetweenBytes : TxnId → TxnId → TxnId → List ℕ → Type 0
IsTxnBetweenBytes low high = Spelled txn_bytes (IsTxnBetween low high)

-- the greatest life of a site, and the greatest place in a life
abbrev pub most_u32 : ℕ
most_u32 = 2 ^ 32 - 1

abbrev pub least_life : TxnId → ℕ → ℕ
least_life low site = if site == low.site then low.life else 1

abbrev pub most_life : TxnId → ℕ → ℕ
most_life high site = if site == high.site then high.life else most_u32

abbrev pub least_seq : TxnId → ℕ → ℕ → ℕ
least_seq low site life = if (site == low.site) && (life == low.life) then low.seq else 1

abbrev pub most_seq : TxnId → ℕ → ℕ → ℕ
most_seq high site life = if (site == high.site) && (life == high.life) then high.seq else most_u32

-- a transaction from low to high
unfoldable pub txn_between_at : TxnId → TxnId → List ℕ → Result (TxnId × List ℕ) ℕ
txn_between_at low high bytes = do
  site ← byte_at (within low.site high.site) bytes
  life ← number_within_at 4 (least_life low site.0) (most_life high site.0) site.1
  seq ← number_within_at 4 (least_seq low site.0 life.0) (most_seq high site.0 life.0) life.1
  Ok (txn_of site.0 life.0 seq.0, seq.1)

-- ---- the rank of a transaction among all

-- how many transactions come before it
unfoldable pub rank : TxnId → ℕ
rank txn = ((txn.site - 1) * most_u32 + (txn.life - 1)) * most_u32 + (txn.seq - 1)

-- the transaction before which n others come
unfoldable pub txn_of_rank : ℕ → TxnId
txn_of_rank n = txn_of (n / most_u32 / most_u32 + 1) (n / most_u32 % most_u32 + 1) (n % most_u32 + 1)

-- how many transactions come before the last one
abbrev pub last_rank : ℕ
last_rank = 16 * most_u32 * most_u32 - 1

-- the least rank above the last transaction, if there is one
abbrev pub next_rank : Option TxnId → ℕ
next_rank None = 0
next_rank (Some txn) = suc (rank txn)

-- a transaction that has this rank or more and leaves room for n others above it
abbrev pub ascending_txn_at : ℕ → ℕ → List ℕ → Result (TxnId × List ℕ) ℕ
ascending_txn_at n least bytes = txn_between_at (txn_of_rank least) (txn_of_rank (last_rank - n)) bytes
