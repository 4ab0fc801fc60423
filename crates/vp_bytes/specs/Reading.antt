-- Reading bytes from left to right.
use Rattle.std.specs.Prelude.{ℕ, zero, suc, ◌+◌, ◌*◌, ◌-◌, List, [], ◌∷◌, length, Bool, ◌&&◌, ◌||◌, not, true, false, Option, Some, None, Result, Ok, Err, nat_lt, nat_le, cond, ◌==◌, if◌then◌else◌}
use Rattle.vp_text.specs.Reading.{◌>>=◌}
use Rattle.vp_text.specs.Classes.{has, most}
use Rattle.vp_text.specs.declared.class.Class.{Class}
use Rattle.vp_text.specs.declared.class.Class.TheVariants.{Name}
use Rattle.vp_base.specs.Reading.{least_site, most_site, view_of, txn_of}
use Rattle.vp_base.specs.declared.ids.ViewId.{ViewId}
use Rattle.vp_base.specs.declared.ids.TxnId.{TxnId}
use Rattle.vp_base.specs.declared.entry.Owner.{Owner}
use Rattle.vp_base.specs.declared.entry.Owner.TheVariants as owner

abbrev pub is_byte : ℕ → Bool
is_byte c = nat_lt c 256

-- a byte that the test allows
abbrev pub byte_at : (ℕ → Bool) → List ℕ → Result (ℕ × List ℕ) ℕ
byte_at has [] = Err 0
byte_at has (c ∷ cs) = if has c then Ok (c, cs) else Err (length (c ∷ cs))

-- A byte with which a number can go on, where n more bytes follow. Where `some` is true, the number is not 0.
abbrev pub digit_fits : Bool → ℕ → ℕ → ℕ → Bool
digit_fits some n front c = is_byte c && (not some || (nat_lt 0 n || nat_lt 0 (front * 256 + c)))

-- the number of n bytes after those that made the front
abbrev pub digits_at : Bool → ℕ → ℕ → List ℕ → Result (ℕ × List ℕ) ℕ
digits_at some zero front bytes = Ok (front, bytes)
digits_at some (suc n) front bytes = byte_at (digit_fits some n front) bytes >>= λ c. digits_at some n (front * 256 + c.0) c.1

-- a byte from least to most
abbrev pub within : ℕ → ℕ → ℕ → Bool
within least most c = nat_le least c && nat_le c most

-- a number of 64 bits
unfoldable pub u64_at : List ℕ → Result (ℕ × List ℕ) ℕ
u64_at bytes = digits_at false 8 0 bytes

-- a number of 32 bits
unfoldable pub u32_at : List ℕ → Result (ℕ × List ℕ) ℕ
u32_at bytes = digits_at false 4 0 bytes

-- a view
unfoldable pub view_at : List ℕ → Result (ViewId × List ℕ) ℕ
view_at bytes = do
  number ← u64_at bytes
  site ← byte_at (within (least_site number.0) (most_site number.0)) number.1
  Ok (view_of number.0 site.0, site.1)

-- a number of 32 bits that isn't 0
unfoldable pub some_u32_at : List ℕ → Result (ℕ × List ℕ) ℕ
some_u32_at bytes = digits_at true 4 0 bytes

-- a transaction
unfoldable pub txn_at : List ℕ → Result (TxnId × List ℕ) ℕ
txn_at bytes = do
  site ← byte_at (within 1 16) bytes
  life ← some_u32_at site.1
  seq ← some_u32_at life.1
  Ok (txn_of site.0 life.0 seq.0, seq.1)

-- the transaction and the number of a call
unfoldable pub numbered_at : List ℕ → Result ((TxnId × ℕ) × List ℕ) ℕ
numbered_at bytes = do
  txn ← txn_at bytes
  number ← some_u32_at txn.1
  Ok ((txn.0, number.0), number.1)

-- a view, or 0 for none
unfoldable pub maybe_view_at : List ℕ → Result (Option ViewId × List ℕ) ℕ
maybe_view_at bytes = do
  flag ← byte_at (within 0 1) bytes
  cond (flag.0 == 0) (Ok (None, flag.1)) (view_at flag.1 >>= λ v. Ok (Some v.0, v.1))

-- a transaction, or 0 for a refresh
unfoldable pub owner_at : List ℕ → Result (Owner × List ℕ) ℕ
owner_at bytes = do
  flag ← byte_at (within 0 1) bytes
  cond (flag.0 == 0) (Ok (owner.Refresh, flag.1)) (txn_at flag.1 >>= λ t. Ok (owner.Txn t.0, t.1))

-- As many items as said: each is read with the count of those after it and the least value that its key may have, which is one more
-- than the key before it.
unfoldable pub run_at : {X : Type 0} → (X → ℕ) → (ℕ → ℕ → List ℕ → Result (X × List ℕ) ℕ) → ℕ → ℕ → List ℕ → Result (List X × List ℕ) ℕ
run_at key item zero least bytes = Ok ([], bytes)
run_at key item (suc n) least bytes = item n least bytes >>= λ x. run_at key item n (suc (key x.0)) x.1 >>= λ xs. Ok (x.0 ∷ xs.0, xs.1)

-- a count from few to many, and as many items
unfoldable pub counted_at : {X : Type 0} → (X → ℕ) → (ℕ → ℕ → List ℕ → Result (X × List ℕ) ℕ) → ℕ → ℕ → ℕ → List ℕ → Result (List X × List ℕ) ℕ
counted_at key item few many least bytes = byte_at (within few many) bytes >>= λ n. run_at key item n.0 least n.1

-- a number from least on that leaves room for n others above it, up to most
abbrev pub ascending_at : ℕ → ℕ → ℕ → List ℕ → Result (ℕ × List ℕ) ℕ
ascending_at most n least bytes = byte_at (within least (most - n)) bytes

-- a given count of bytes of the class
abbrev pub word_run_at : Class → ℕ → List ℕ → Result (List ℕ × List ℕ) ℕ
word_run_at class n bytes = run_at (λ _. 0) (λ _ _ bytes. byte_at (has class) bytes) n 1 bytes

-- a word of the class
abbrev pub word_at : Class → List ℕ → Result (List ℕ × List ℕ) ℕ
word_at class bytes = counted_at (λ _. 0) (λ _ _ bytes. byte_at (has class) bytes) 1 (most class) 1 bytes

unfoldable pub name_at : List ℕ → Result (List ℕ × List ℕ) ℕ
name_at bytes = word_at Name bytes

-- few to 16 sites, ascending
unfoldable pub sites_at : ℕ → List ℕ → Result (List ℕ × List ℕ) ℕ
sites_at few bytes = counted_at (λ c. c) (ascending_at 16) few 16 1 bytes

-- up to 64 records, ascending
unfoldable pub recs_at : List ℕ → Result (List ℕ × List ℕ) ℕ
recs_at bytes = counted_at (λ c. c) (ascending_at 255) 0 64 0 bytes

-- what each request for a lock or a vote begins with
unfoldable pub request_at : List ℕ → Result ((TxnId × ViewId × ℕ) × List ℕ) ℕ
request_at bytes = do
  txn ← txn_at bytes
  view ← view_at txn.1
  number ← some_u32_at view.1
  Ok ((txn.0, view.0, number.0), number.1)

-- 1 for commit, 0 for abort
unfoldable pub outcome_at : List ℕ → Result (Bool × List ℕ) ℕ
outcome_at bytes = byte_at (within 0 1) bytes >>= λ flag. Ok (flag.0 == 1, flag.1)
