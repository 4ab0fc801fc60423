-- Fields of frames and of log records: the bytes of each one. Numbers have their highest byte first.
use Rattle.std.specs.Prelude.{◌≡◌, ℕ, suc, ◌≤◌, ◌<◌, ◌^◌, List, [], ◌∷◌, ◌++◌, length, Bool, true, false, Option, Some, None}
use Rattle.byteorder.specs.Endian.{big_bytes}
use Rattle.vp_base.specs.Words.{IsName}
use Rattle.vp_base.specs.Identifiers.{IsView, IsTxn}
use Rattle.vp_base.specs.Calls.{IsNumbered}
use Rattle.vp_base.specs.declared.ids.ViewId.{ViewId}
use Rattle.vp_base.specs.declared.ids.TxnId.{TxnId}
use Rattle.vp_base.specs.declared.entry.Owner.{Owner}
use Rattle.vp_base.specs.declared.entry.Owner.TheVariants as owner

-- ---- the bytes of fields

-- a number in a given count of bytes
unfoldable pub number_bytes : ℕ → ℕ → List ℕ
number_bytes count number = big_bytes count number

unfoldable pub view_bytes : ViewId → List ℕ
view_bytes view = number_bytes 8 view.number ++ view.site ∷ []

abbrev pub maybe_view_bytes : Option ViewId → List ℕ
maybe_view_bytes None = 0 ∷ []
maybe_view_bytes (Some view) = 1 ∷ view_bytes view

unfoldable pub txn_bytes : TxnId → List ℕ
txn_bytes txn = txn.site ∷ (number_bytes 4 txn.life ++ number_bytes 4 txn.seq)

abbrev pub owner_bytes : Owner → List ℕ
owner_bytes owner.Refresh = 0 ∷ []
owner_bytes (owner.Txn txn) = 1 ∷ txn_bytes txn

-- bytes after their count: of a name, sites, records
abbrev pub counted_bytes : List ℕ → List ℕ
counted_bytes items = length items ∷ items

-- the transaction and the number of a call
abbrev pub numbered_bytes : TxnId → ℕ → List ℕ
numbered_bytes txn number = txn_bytes txn ++ number_bytes 4 number

-- what each request for a lock or a vote begins with
abbrev pub request_bytes : TxnId → ViewId → ℕ → List ℕ
request_bytes txn view number = txn_bytes txn ++ (view_bytes view ++ number_bytes 4 number)

abbrev pub outcome_byte : Bool → ℕ
outcome_byte true = 1
outcome_byte false = 0

-- ---- which values fields have

abbrev pub IsSite : ℕ → Type 0
IsSite site = (1 ≤ site) × (site ≤ 16)

-- the number of a call is 1 or more
abbrev pub IsCallNumber : ℕ → Type 0
IsCallNumber number = (1 ≤ number) × (number < 2 ^ 32)

abbrev pub IsRecord : ℕ → Type 0
IsRecord rec = rec < 256

abbrev pub IsMaybeView : Option ViewId → Type 0
IsMaybeView None = Unit {0}
IsMaybeView (Some view) = IsView view

abbrev pub IsOwner : Owner → Type 0
IsOwner owner.Refresh = Unit {0}
IsOwner (owner.Txn txn) = IsTxn txn

-- numbers from `least` to `most`, each above the one before it
abbrev pub IsAscending : ℕ → ℕ → List ℕ → Type 0
IsAscending least most [] = Unit {0}
IsAscending least most (x ∷ xs) = (least ≤ x) × (x ≤ most) × IsAscending (suc x) most xs

-- few to 16 sites, ascending
abbrev pub IsSites : ℕ → List ℕ → Type 0
IsSites few sites = (few ≤ length sites) × (length sites ≤ 16) × IsAscending 1 16 sites

-- up to 64 records, ascending
abbrev pub IsRecs : List ℕ → Type 0
IsRecs recs = (length recs ≤ 64) × IsAscending 0 255 recs

abbrev pub IsRequest : TxnId → ViewId → ℕ → Type 0
IsRequest txn view number = IsTxn txn × IsView view × IsCallNumber number

-- The text is the bytes of the value, which is an allowed one.
pub record Spelled {A : Type 0} (bytes : A → List ℕ) (Allowed : A → Type 0) (value : A) (text : List ℕ) : Type 0 where
  pub is : text ≡ bytes value
  pub allowed : Allowed value

-- ---- fields, for their readers

abbrev pub IsViewBytes : ViewId → List ℕ → Type 0
IsViewBytes = Spelled view_bytes IsView

abbrev pub IsTxnBytes : TxnId → List ℕ → Type 0
IsTxnBytes = Spelled txn_bytes IsTxn

abbrev pub IsNumberedBytes : TxnId × ℕ → List ℕ → Type 0
IsNumberedBytes = Spelled (λ call. numbered_bytes call.0 call.1) (λ call. IsNumbered call.0 call.1)

abbrev pub IsRequestBytes : TxnId × ViewId × ℕ → List ℕ → Type 0
IsRequestBytes = Spelled (λ asked. request_bytes asked.0 asked.1 asked.2) (λ asked. IsRequest asked.0 asked.1 asked.2)

abbrev pub IsMaybeViewBytes : Option ViewId → List ℕ → Type 0
IsMaybeViewBytes = Spelled maybe_view_bytes IsMaybeView

abbrev pub IsOwnerBytes : Owner → List ℕ → Type 0
IsOwnerBytes = Spelled owner_bytes IsOwner

abbrev pub IsNameBytes : List ℕ → List ℕ → Type 0
IsNameBytes = Spelled counted_bytes (λ name. IsName name name)

abbrev pub IsSitesBytes : ℕ → List ℕ → List ℕ → Type 0
IsSitesBytes few = Spelled counted_bytes (IsSites few)

abbrev pub IsRecsBytes : List ℕ → List ℕ → Type 0
IsRecsBytes = Spelled counted_bytes IsRecs
