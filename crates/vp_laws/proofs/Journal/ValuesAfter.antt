-- The value of a record after the entries of a view and all lower ones, and how an added entry changes it.
use Rattle.std.proofs.Common.{◌≡◌, ◌≢◌, ◌∙◌, ap, subst, true, false, List, [], ◌∷◌, ◌++◌, refl, arith, ℕ}
use Rattle.std.specs.Prelude.{Option, Some, None, option_map, slice_get, filter, not}
use Rattle.std.specs.Option.{option_map_or}
use Rattle.std.proofs.lemmas.Bool.Decides.{nat_tests}
use Rattle.std.proofs.lemmas.List.{append-nil}
use Rattle.std.proofs.lemmas.List.Elements.{filter-append}
use Rattle.vp_model.specs.Types.{Change, Stored, ViewId, TxnId, Commit}
use Rattle.vp_model.specs.Words.{same_txn, value_at, keys}
use Rattle.vp_model.specs.Catalogue.{Catalogue, Table, start_values}
use Rattle.vp_model.specs.Durable.{with_put, with_new_table}
use Rattle.vp_model.specs.Transactions.{last_changes}
use Rattle.vp_laws.proofs.Lists.Members.{Has}
use Rattle.vp_laws.proofs.Lists.Changes.{mapped_has}
use Rattle.vp_laws.proofs.Lists.Views.{AtMost, Precedes}
use Rattle.vp_laws.proofs.Journal.UpTo.{filter_all}
use Rattle.vp_laws.proofs.Journal.Acts.{IsQuiet, after, after_upto, after_own, after_between, after_more, after_added}
use Rattle.vp_laws.proofs.Lists.Pairs.{value_key}

-- the entry wrote the record
abbrev pub Wrote : Commit → ℕ → Type 0
Wrote e rec = Has (keys (last_changes e)) rec

-- a copy without its date: a value or none, and the table of its own or none for the catalogue's
pub record Content : Type 0 where
  pub value : Option (List ℕ)
  pub table : Option Table

abbrev pub content_of : Stored → Content
content_of c = record { value = c.value; table = c.table }

abbrev pub started : Option (List ℕ) → Content
started value = record { value = value; table = None }

-- what a change makes of it
abbrev pub made : Change → Content → Content
made change c = record { value = with_put change.put c.value; table = with_new_table change.table c.table }

abbrev pub overwritten : List (ℕ × Change) → ℕ → Content → Content
overwritten writes rec before = option_map_or (λ change. made change before) (value_at rec writes) before

-- what an entry does to the content of a record
abbrev pub writes_over : ℕ → Commit → Content → Content
writes_over rec e before = overwritten (last_changes e) rec before

-- the content of the record after these entries, and after those of views up to one
abbrev pub value_in : ℕ → Content → List Commit → Content
value_in rec start es = after (writes_over rec) start es

abbrev pub value_up_to : ℕ → Content → List Commit → ViewId → Content
value_up_to rec start journal view = after_upto (writes_over rec) start journal view

-- the content of a record of the catalogue after the entries of views up to this one
abbrev pub value_after : Catalogue → List Commit → ViewId → ℕ → Option Content
value_after catalogue journal view rec = option_map (λ start. value_up_to rec (started start) journal view) (slice_get (start_values catalogue) rec)

-- the value of that content
abbrev pub read_after : Catalogue → List Commit → ViewId → ℕ → Option (Option (List ℕ))
read_after catalogue journal date rec = option_map (λ (c : Content). c.value) (value_after catalogue journal date rec)

-- the journal without the entry of a transaction
abbrev pub without_entry : TxnId → List Commit → List Commit
without_entry txn journal = filter (λ e. not (same_txn e.txn txn)) journal

-- values

-- an entry that has not written the record leaves its value
pub unwritten_value : (e : Commit) (rec : ℕ) → (Wrote e rec → ⊥) → value_at rec (last_changes e) ≡ None
unwritten_value e rec n = go (value_at rec (last_changes e)) refl
  where
    go : (o : Option Change) → value_at rec (last_changes e) ≡ o → o ≡ None
    go None q = refl
    go (Some v) q = let k = value_key rec (last_changes e) v q in absurd (n (subst (Has _) k.2 (mapped_has (λ (p : ℕ × Change). p.0) (last_changes e) k.0 k.1)))

pub leaves_value : (e : Commit) (rec : ℕ) → (Wrote e rec → ⊥) → IsQuiet (writes_over rec) e
leaves_value e rec n start = let z = unwritten_value e rec n in rw z refl

-- one that has changes it
pub takes_value : (e : Commit) (rec : ℕ) (change : Change) (before : Content) → value_at rec (last_changes e) ≡ Some change → writes_over rec e before ≡ made change before
takes_value e rec change before w = ap (λ (o : Option Change). option_map_or (λ change. made change before) o before) w

-- where no entry between two views wrote the record, its value after both is the same
pub value_between : (rec : ℕ) (start : Content) (journal : List Commit) (c d : ViewId) → AtMost c d → ((f : Commit) → Has journal f → Precedes c f.view → AtMost f.view d → Wrote f rec → ⊥) → value_up_to rec start journal d ≡ value_up_to rec start journal c
value_between rec start journal c d h none = after_between (writes_over rec) start journal c d h (λ f q a b. leaves_value f rec (none f q a b))

-- an entry is added: of a view above, or one that has not written the record
pub value_more : (rec : ℕ) (start : Content) (journal : List Commit) (e : Commit) (d : ViewId) → (Wrote e rec → AtMost e.view d → ⊥) → value_up_to rec start (journal ++ e ∷ []) d ≡ value_up_to rec start journal d
value_more rec start journal e d none = after_more (writes_over rec) start journal e d (λ le. leaves_value e rec (λ wrote. none wrote le))

-- or one that has, where no entry above it has
pub value_written : (rec : ℕ) (start : Content) (journal : List Commit) (e : Commit) (d : ViewId) (change : Change) → AtMost e.view d → value_at rec (last_changes e) ≡ Some change → ((f : Commit) → Has journal f → Precedes e.view f.view → AtMost f.view d → Wrote f rec → ⊥) → value_up_to rec start (journal ++ e ∷ []) d ≡ made change (value_up_to rec start journal d)
value_written rec start journal e d change h w none =
    after_added (writes_over rec) start journal e d h (λ f q a b. leaves_value f rec (none f q a b)) ∙ takes_value e rec change _ w

-- an entry that is anywhere in the journal: no later entry of its view wrote the record
pub value_of_last : (rec : ℕ) (start : Content) (front back : List Commit) (e : Commit) (change : Change) → value_at rec (last_changes e) ≡ Some change → ((f : Commit) → Has back f → f.view ≡ e.view → Wrote f rec → ⊥) → value_up_to rec start (front ++ e ∷ back) e.view ≡ made change (value_up_to rec start (front ++ back) e.view)
value_of_last rec start front back e change w none =
    after_own (writes_over rec) start front back e (λ f q is. leaves_value f rec (none f q is)) ∙ takes_value e rec change _ w

-- a journal without the entry of a transaction

pub without_more : (txn : TxnId) (journal : List Commit) (e : Commit) → e.txn ≢ txn → without_entry txn (journal ++ e ∷ []) ≡ without_entry txn journal ++ e ∷ []
without_more txn journal e n = filter-append (λ (e : Commit). not (same_txn e.txn txn)) journal (e ∷ []) ∙ (let t : same_txn e.txn txn ≡ false = grind (arith, nat_tests, n) in ap (λ (l : List Commit). without_entry txn journal ++ l) (rw t refl))

pub without_same : (txn : TxnId) (journal : List Commit) (e : Commit) → e.txn ≡ txn → without_entry txn (journal ++ e ∷ []) ≡ without_entry txn journal
without_same txn journal e is = filter-append (λ (e : Commit). not (same_txn e.txn txn)) journal (e ∷ []) ∙ (let t : same_txn e.txn txn ≡ true = grind (arith, nat_tests, is) in ap (λ (l : List Commit). without_entry txn journal ++ l) (rw t refl)) ∙ append-nil (without_entry txn journal)

pub without_none : (txn : TxnId) (journal : List Commit) → ((f : Commit) → Has journal f → f.txn ≢ txn) → without_entry txn journal ≡ journal
without_none txn journal h = filter_all (λ (e : Commit). not (same_txn e.txn txn)) journal (λ f q. differs f.txn (h f q))
  where
    differs : (t : TxnId) → t ≢ txn → not (same_txn t txn) ≡ true
    differs t n = let z : same_txn t txn ≡ false = grind (arith, nat_tests, n) in rw z refl
