-- The length of a batch and then the batch, as a list of bytes.
use Rattle.std.proofs.Common.{◌≡◌, ℕ, ◌+◌, ◌-◌, ◌<◌, ◌≤◌, ◌^◌, List, get_or, [], ◌∷◌, ◌++◌, length, take, drop, sym, ◌∙◌, ap, arith, append_assoc, length-append, refl}
use Rattle.std.proofs.lemmas.List.{take_at, drop_at, take-append-drop, drop-drop, drop_more, length-drop, length-take-le}
use Rattle.byteorder.specs.Endian.{big_number, big_bytes}
use Rattle.byteorder.specs.Numbers.{big_number-reads_back, length-bytes_high_first}
use Rattle.vp_base.specs.declared.entry.LogRecord.{LogRecord}
use Rattle.vp_records.specs.Batches.{batch_bytes, IsBatch}
use Rattle.vp_stable.specs.Log.{CanStand, sized_batch, StandsFirst}

pub length-measured : (batch : List LogRecord) → length (sized_batch batch) ≡ 8 + length (batch_bytes batch)
unfolding sized_batch
length-measured batch =
    let n = length (batch_bytes batch) in
    omega (arith, length-append (big_bytes 8 n) (batch_bytes batch), length-bytes_high_first 8 n)

-- the length is read
pub read_length : (batch : List LogRecord) (rest : List ℕ) → CanStand batch → big_number 8 (sized_batch batch ++ rest) ≡ length (batch_bytes batch)
unfolding sized_batch
read_length batch rest can =
    let n = length (batch_bytes batch) in
    ap (λ (l : List ℕ). big_number 8 l) (append_assoc (big_bytes 8 n) (batch_bytes batch) rest) ∙ big_number-reads_back 8 n (batch_bytes batch ++ rest) can.fits

-- the batch follows it
pub drop_length : (batch : List LogRecord) (rest : List ℕ) → drop 8 (sized_batch batch ++ rest) ≡ batch_bytes batch ++ rest
unfolding sized_batch
drop_length batch rest =
    let n = length (batch_bytes batch) in
    ap (λ (l : List ℕ). drop 8 l) (append_assoc (big_bytes 8 n) (batch_bytes batch) rest) ∙ drop_at (big_bytes 8 n) (batch_bytes batch ++ rest) 8 (length-bytes_high_first 8 n)

-- two batches before the same bytes have the same bytes
pub measured_same : (x y : List LogRecord) (r s : List ℕ) → CanStand x → CanStand y → sized_batch x ++ r ≡ sized_batch y ++ s → (batch_bytes x ≡ batch_bytes y) × (r ≡ s)
measured_same x y r s x_can y_can e =
    let n : length (batch_bytes x) ≡ length (batch_bytes y) = sym (read_length x r x_can) ∙ ap (λ (l : List ℕ). big_number 8 l) e ∙ read_length y s y_can in
    let d : batch_bytes x ++ r ≡ batch_bytes y ++ s = sym (drop_length x r) ∙ ap (λ (l : List ℕ). drop 8 l) e ∙ drop_length y s in (
      sym (take_at (batch_bytes x) r (length (batch_bytes x)) refl) ∙ ap (λ (l : List ℕ). take (length (batch_bytes x)) l) d ∙ take_at (batch_bytes y) s (length (batch_bytes x)) (sym n),
      sym (drop_at (batch_bytes x) r (length (batch_bytes x)) refl) ∙ ap (λ (l : List ℕ). drop (length (batch_bytes x)) l) d ∙ drop_at (batch_bytes y) s (length (batch_bytes x)) (sym n),
    )

-- ---- a batch at the front of bytes

-- how long the first batch is
pub stands_within : (batch : List LogRecord) (next : ℕ) (bytes : List ℕ) → StandsFirst batch next bytes → (8 ≤ next) × (next < length bytes) × (big_number 8 bytes ≡ next - 8)
stands_within batch next bytes stands =
    let all = length-append (sized_batch batch) (stands.gate ∷ stands.rest) in
    let size = length-measured batch in
    let read : big_number 8 bytes ≡ length (batch_bytes batch) = ap (λ (l : List ℕ). big_number 8 l) stands.is ∙ read_length batch (stands.gate ∷ stands.rest) stands.can in (
      omega (arith, stands.at, size),
      omega (arith, stands.at, all, ap length stands.is),
      read ∙ omega (arith, stands.at, size),
    )

-- and its bytes are between the length and the gate
pub stands_records : (batch : List LogRecord) (next : ℕ) (bytes : List ℕ) → StandsFirst batch next bytes → take (next - 8) (drop 8 bytes) ≡ batch_bytes batch
stands_records batch next bytes stands =
    let size = length-measured batch in
    ap (λ (l : List ℕ). take (next - 8) (drop 8 l)) stands.is ∙ ap (λ (l : List ℕ). take (next - 8) l) (drop_length batch (stands.gate ∷ stands.rest))
    ∙ take_at (batch_bytes batch) (stands.gate ∷ stands.rest) (next - 8) (omega (arith, stands.at, size))

-- a batch between a length and a gate is first
pub made_first : (batch : List LogRecord) (next : ℕ) (bytes : List ℕ) → 8 ≤ next → next < length bytes → next < 2 ^ 64 → take 8 bytes ≡ big_bytes 8 (next - 8)
    → take (next - 8) (drop 8 bytes) ≡ batch_bytes batch → IsBatch batch → StandsFirst batch next bytes
unfolding sized_batch
made_first batch next bytes least within small number records allowed =
    let left = length-drop 8 bytes in
    let size : length (batch_bytes batch) ≡ next - 8 = ap length (sym records) ∙ length-take-le (next - 8) (drop 8 bytes) (omega (arith, least, within, left)) in
    let there = length-drop next bytes in
    let rest : drop next bytes ≡ get_or bytes next 0 ∷ drop (next + 1) bytes = drop_more bytes next 0 within in
    let on : next ≡ 8 + (next - 8) = omega (arith, least) in
    let back : drop (next - 8) (drop 8 bytes) ≡ get_or bytes next 0 ∷ drop (next + 1) bytes = drop-drop (next - 8) 8 bytes ∙ ap (λ (k : ℕ). drop k bytes) (sym on) ∙ rest in
    let following : drop 8 bytes ≡ batch_bytes batch ++ get_or bytes next 0 ∷ drop (next + 1) bytes =
    sym (take-append-drop (next - 8) (drop 8 bytes)) ∙ ap (λ (l : List ℕ). l ++ drop (next - 8) (drop 8 bytes)) records ∙ ap (λ (l : List ℕ). batch_bytes batch ++ l) back in
    record {
      gate = get_or bytes next 0;
      rest = drop (next + 1) bytes;
      is = sym (take-append-drop 8 bytes) ∙ ap (λ (l : List ℕ). l ++ drop 8 bytes) (number ∙ ap (λ (n : ℕ). big_bytes 8 n) (sym size))
          ∙ ap (λ (l : List ℕ). big_bytes 8 (length (batch_bytes batch)) ++ l) following
          ∙ sym (append_assoc (big_bytes 8 (length (batch_bytes batch))) (batch_bytes batch) (get_or bytes next 0 ∷ drop (next + 1) bytes));
      at = on ∙ ap (λ (n : ℕ). 8 + n) (sym size) ∙ sym (length-measured batch);
      can = record { records = allowed; fits = omega (arith, size, small) };
    }

-- the first batch ends where its length says
pub same_place : (batch : List LogRecord) (place next : ℕ) (bytes : List ℕ) → 8 ≤ next → next < 2 ^ 64 → take 8 bytes ≡ big_bytes 8 (next - 8) → StandsFirst batch place bytes → place ≡ next
same_place batch place next bytes least small number stands =
    let within = stands_within batch place bytes stands in
    let n = next - 8 in
    let read : big_number 8 (big_bytes 8 n ++ drop 8 bytes) ≡ n = big_number-reads_back 8 n (drop 8 bytes) (omega (arith, small)) in
    let split : bytes ≡ big_bytes 8 n ++ drop 8 bytes = sym (take-append-drop 8 bytes) ∙ ap (λ (l : List ℕ). l ++ drop 8 bytes) number in
    let reads : big_number 8 bytes ≡ n = ap (λ (l : List ℕ). big_number 8 l) split ∙ read in
    let both : place - 8 ≡ n = sym within.2 ∙ reads in
    omega (arith, both, least, within.0)

-- ---- a batch that is written after its length

-- the length is written over 8 bytes that were kept free before the batch, and a closed gate follows
pub piece_made : (batch : List LogRecord) (front out buf written items : List ℕ) (n len : ℕ) → length front ≡ 8 → out ≡ front ++ batch_bytes batch → buf ≡ out → length buf ≡ len → n ≡ len
    → written ≡ big_bytes 8 (n - 8) ++ drop 8 buf → items ≡ take len (written ++ drop (length written) out) ++ 0 ∷ [] → items ≡ sized_batch batch ++ 0 ∷ []
unfolding sized_batch
piece_made batch front out buf written items n len free out_is buf_is size count written_is items_is =
    let whole : buf ≡ front ++ batch_bytes batch = buf_is ∙ out_is in
    let tail : drop 8 buf ≡ batch_bytes batch = ap (λ (l : List ℕ). drop 8 l) whole ∙ drop_at front (batch_bytes batch) 8 free in
    let long = length-append front (batch_bytes batch) in
    let measure : n - 8 ≡ length (batch_bytes batch) = omega (arith, free, long, ap length whole, size, count) in
    let made : written ≡ sized_batch batch = written_is ∙ ap (λ (l : List ℕ). big_bytes 8 (n - 8) ++ l) tail ∙ ap (λ (k : ℕ). big_bytes 8 k ++ batch_bytes batch) measure in
    let filled : length written ≡ len = omega (arith, ap length made, length-measured batch, free, long, ap length whole, size) in
    items_is ∙ ap (λ (l : List ℕ). l ++ 0 ∷ []) (take_at written (drop (length written) out) len filled ∙ made)
