-- What a well-formed site gives to others: a checkpoint of its durable part, its start record, its first durable part and its
-- frames.
use Rattle.std.proofs.Common.{◌≡◌, ◌<◌, ap, ℕ, suc, ◌+◌, ◌^◌, Bool, true, List, [], ◌∷◌, refl, arith, length}
use Rattle.std.specs.Prelude.{Some, None, AllPairs}
use Rattle.std.specs.List.{AllByRecursion, enumerate_from}
use Rattle.std.proofs.lemmas.List.Elements.{All-from_recursion}
use Rattle.std.proofs.lemmas.List.Kept.{AllPairs-cons}
use Rattle.vp_base.specs.Identifiers.{IsView}
use Rattle.vp_bytes.specs.Fields.{IsSite, IsAscending}
use Rattle.vp_contents.specs.Copies.{IsCopy as IsCopyIn}
use Rattle.vp_contents.specs.declared.version.Version.TheVariants as versions
use Rattle.vp_bytes.specs.Decisions.{IsDecision}
use Rattle.vp_records.specs.Records.{IsLogRecord, CanBeSaved}
use Rattle.vp_wire.specs.Grammar.{IsFrame}
use Rattle.vp_catalog.specs.Document.{IsCatalogue}
use Rattle.vp_catalog.specs.Entries.{IsRecord as IsEntry}
use Rattle.vp_model.specs.Types.{Stored, Sent, Reply}
use Rattle.vp_model.specs.Words.{has, keys, opening}
use Rattle.vp_model.specs.Catalogue.{Catalogue, RecordEntry, sites_of, start_copies}
use Rattle.vp_model.specs.Durable.{DurableState, empty_durable}
use Rattle.vp_model.specs.Step.{start_record}
use Rattle.vp_laws.specs.Shapes.{IsStored, IsDoubt, IsDurable, IsSent, IsReply, doubt_before, decision_before, Ascends}
use Rattle.vp_laws.proofs.Lists.Items.{all_map, all_filter}
use Rattle.vp_laws.specs.ShapeLaws.{message_frame, reply_frame}
use Rattle.vp_laws.proofs.Shapes.Numbers.{ascending_length}
use Rattle.vp_laws.proofs.Shapes.Catalogue.{start_ascends, listed_is}

pairs_of : {X : Type 0} (before : X → X → Bool) (xs : List X) → Ascends before xs → AllPairs (λ a b. before a b ≡ true) xs
pairs_of before [] h = λ i j d lt within. absurd (omega (arith, within))
pairs_of before (x ∷ xs) h = AllPairs-cons (λ a b. before a b ≡ true) x xs (All-from_recursion (λ b. before x b ≡ true) xs h.0) (pairs_of before xs h.1)

abbrev Pair : Type 0
Pair = ℕ × Stored

abbrev IsCopy : Pair → Type 0
IsCopy copy = IsCopyIn versions.Second copy

keys_above : (n low : ℕ) (copies : List Pair) → n < low → IsAscending low 255 (keys copies) → AllByRecursion (λ (b : Pair). n < b.0) copies
keys_above n low [] lt h = tt
keys_above n low (c ∷ copies) lt h = (omega (arith, lt, h.0), keys_above n (suc c.0) copies (omega (arith, lt, h.0)) h.2)

copies_pairs : (low : ℕ) (copies : List Pair) → IsAscending low 255 (keys copies) → AllPairs (λ (a : Pair) (b : Pair). a.0 < b.0) copies
copies_pairs low [] h = λ i j d lt within. absurd (omega (arith, within))
copies_pairs low (c ∷ copies) h = AllPairs-cons (λ (a : Pair) (b : Pair). a.0 < b.0) c copies (All-from_recursion (λ (b : Pair). c.0 < b.0) copies (keys_above c.0 (suc c.0) copies (omega arith) h.2)) (copies_pairs (suc c.0) copies h.2)

each_copy : (low : ℕ) (copies : List Pair) → IsAscending low 255 (keys copies) → AllByRecursion (λ (c : Pair). IsStored c.1) copies → AllByRecursion IsCopy copies
each_copy low [] h s = tt
each_copy low (c ∷ copies) h s = let most = h.1 in ((omega (arith, most), s.0), each_copy (suc c.0) copies h.2 s.1)

keys_length : (copies : List Pair) → length (keys copies) ≡ length copies
keys_length [] = refl
keys_length (c ∷ copies) = ap suc (keys_length copies)

-- a checkpoint of the durable part can be appended: a list in memory is shorter than 2 ^ 64
pub checkpoint_is : (catalogue : Catalogue) (id : ℕ) (d : DurableState) → IsCatalogue catalogue → IsDurable catalogue id d → CanBeSaved d
checkpoint_is catalogue id d k h =
    let up : IsAscending 0 255 (keys d.copies) = rw h.copies_are.held (start_ascends catalogue k id) in
    let many = ascending_length 0 255 (keys d.copies) (omega arith) up in
    let same = keys_length d.copies in
    record {
      life = h.life;
      promise = h.promise;
      copies = (omega (arith, many, same), All-from_recursion IsCopy d.copies (each_copy 0 d.copies up h.copies_are.stored), copies_pairs 0 d.copies up);
      doubts = λ few. (few, All-from_recursion IsDoubt d.doubts h.doubts_are.each, pairs_of doubt_before d.doubts h.doubts_are.ascend);
      decisions = λ few. (few, All-from_recursion IsDecision d.decisions h.decisions_are.each, pairs_of decision_before d.decisions h.decisions_are.ascend);
    }

-- so can the record of a start
pub start_is : (d : DurableState) → d.life + 1 < 2 ^ 32 → IsLogRecord (start_record d)
start_is d left = left

-- ---- the durable part before the first life

abbrev copy_of : ℕ × RecordEntry → Pair
copy_of placed = (placed.0, record { value = Some placed.1.start; table = None; date = opening })

opening_is : IsView opening
opening_is = record { number_fits = omega arith; site_fits = omega arith; opening = λ q. refl; made = λ q. absurd (omega (arith, q)) }

entries_from : (sites : List ℕ) (place : ℕ) (records : List RecordEntry) → AllByRecursion (IsEntry sites) records → AllByRecursion (λ (placed : ℕ × RecordEntry). IsEntry sites placed.1) (enumerate_from place records)
entries_from sites place [] h = tt
entries_from sites place (r ∷ records) h = (h.0, entries_from sites (place + 1) records h.1)

pub fresh_is_durable : (catalogue : Catalogue) (id : ℕ) → IsCatalogue catalogue → IsDurable catalogue id (empty_durable (start_copies catalogue id))
fresh_is_durable catalogue id k = record {
  promise = opening_is;
  life = omega arith;
  copies_are = record {
    held = refl;
    stored = all_map (λ (placed : ℕ × RecordEntry). IsEntry (sites_of catalogue) placed.1) (λ (c : Pair). IsStored c.1) copy_of (λ placed i. (i.start_is, tt, opening_is)) _ (all_filter (λ (placed : ℕ × RecordEntry). IsEntry (sites_of catalogue) placed.1) (λ (placed : ℕ × RecordEntry). has (keys placed.1.weights) id) (enumerate_from 0 catalogue.records) (entries_from (sites_of catalogue) 0 catalogue.records k.so_far.records_are));
  };
  doubts_are = record { each = tt; ascend = tt };
  decisions_are = record { each = tt; ascend = tt };
}

-- ---- frames

pub sent_is_frame : (catalogue : Catalogue) (id : ℕ) (sent : Sent) → IsCatalogue catalogue → has (sites_of catalogue) id ≡ true → IsSent id sent → IsFrame (message_frame sent)
sent_is_frame catalogue id sent k listed i = let s : IsSite sent.from = rw i.0 (listed_is catalogue k id listed) in (omega arith, omega arith, (s, i.1, i.2))

pub reply_is_frame : (catalogue : Catalogue) (id : ℕ) (reply : Reply) → IsCatalogue catalogue → has (sites_of catalogue) id ≡ true → IsReply reply → IsFrame (reply_frame id reply)
reply_is_frame catalogue id reply k listed i = (omega arith, omega arith, (listed_is catalogue k id listed, refl, i.1))
