-- Letters whose bytes are side by side.
use Rattle.std.proofs.Common.{◌≡◌, ◌≤◌, ◌∙◌, ap, sym, subst, arith, refl, ℕ, ◌+◌, ◌-◌, ◌<◌, zero, suc, false, List, [], ◌∷◌, ◌++◌, append_assoc, length, take, drop, get_or, map}
use Rattle.std.specs.Prelude.{◌==◌, Option, Some, None, slice_get, flat_map}
use Rattle.std.specs.Option.{option_map_or}
use Rattle.std.specs.List.{AllByRecursion}
use Rattle.std.proofs.lemmas.Grind.{flat_map-append}
use Rattle.std.proofs.Math.Seq.{drop-append_seam}
use Rattle.std.proofs.lemmas.List.{append-nil, map-append, take-append-le, take_all, take_more, length-append}
use Rattle.std.proofs.lemmas.Option.{slice_get_read}
use Rattle.bytes.proofs.Ranges.{drop-take_less}
use Rattle.vp_model.specs.Types.{Sent}
use Rattle.vp_model.specs.Words.{value_at}
use Rattle.vp_model.specs.Catalogue.{Catalogue}
use Rattle.vp_laws.specs.ShapeLaws.{message_frame}
use Rattle.vp_outside.specs.declared.datagram.Datagram.{Datagram}
use Rattle.vp_wire.specs.Grammar.{IsFrame, frame_bytes}
use Rattle.vp_runs.specs.Turns.{datagram_to, message_datagram}
use Rattle.vp_cluster.specs.Letter.{Letter}
use Rattle.vp_cluster.specs.declared.sent_letters.LetterSpan.{LetterSpan}
use Rattle.vp_cluster.specs.Letters.{in_order, sent_from, start_in, letters_in, AreInOrder}

-- none begins after the end
start_within : (end : ℕ) (fs : List LetterSpan) → AreInOrder end fs → start_in end fs ≤ end
start_within end [] h = omega arith
start_within end (f ∷ fs) h =
    let rest = start_within end fs h.1 in
    let here = h.0 in
    omega (arith, rest, here)

-- one more letter begins where the others end
start_joins : (m n : ℕ) (fs : List LetterSpan) (from to : ℕ) → start_in m (fs ++ record { from = from; to = to; start = n } ∷ []) ≡ start_in n fs
start_joins m n [] from to = refl
start_joins m n (f ∷ fs) from to = refl

pub order_joins : (m n : ℕ) (fs : List LetterSpan) (from to : ℕ) → n ≤ m → AreInOrder n fs → AreInOrder m (fs ++ record { from = from; to = to; start = n } ∷ [])
order_joins m n [] from to le h = (le, tt)
order_joins m n (f ∷ fs) from to le h = (rw (start_joins m n fs from to) h.0, order_joins m n fs from to le h.1)

pub letter_joins : (bytes : List ℕ) (fs : List LetterSpan) (from : ℕ) (d : Datagram) → AreInOrder (length bytes) fs
    → letters_in (bytes ++ d.bytes) (fs ++ record { from = from; to = d.port; start = length bytes } ∷ []) ≡ letters_in bytes fs ++ sent_from from d ∷ []
letter_joins bytes [] from d h = rw (take_all (length (bytes ++ d.bytes)) (bytes ++ d.bytes) (omega arith), drop-append_seam bytes d.bytes) refl
letter_joins bytes (f ∷ fs) from d h =
    rw (start_joins (length (bytes ++ d.bytes)) (length bytes) fs from d.port, take-append-le (start_in (length bytes) fs) bytes d.bytes (start_within (length bytes) fs h.1), letter_joins bytes fs from d h.1) refl

-- the letter of a message follows the others
pub message_joins : (catalogue : Catalogue) (bytes : List ℕ) (fs : List LetterSpan) (from to : ℕ) (sent : Sent) → value_at sent.to catalogue.sites ≡ Some to → AreInOrder (length bytes) fs
    → letters_in (bytes ++ frame_bytes (message_frame sent)) (fs ++ record { from = from; to = to; start = length bytes } ∷ []) ≡ letters_in bytes fs ++ map (sent_from from) (message_datagram catalogue sent)
message_joins catalogue bytes fs from to sent at h =
    letter_joins bytes fs from (datagram_to to (message_frame sent)) h
    ∙ sym (ap (λ (o : Option ℕ). letters_in bytes fs ++ map (sent_from from) (option_map_or (λ port. datagram_to port (message_frame sent) ∷ []) o [])) at)

-- a message to no site has none
pub nothing_joins : (catalogue : Catalogue) (letters : List Letter) (from : ℕ) (sent : Sent) → value_at sent.to catalogue.sites ≡ None → letters ≡ letters ++ map (sent_from from) (message_datagram catalogue sent)
nothing_joins catalogue letters from sent none =
    sym (ap (λ (o : Option ℕ). letters ++ map (sent_from from) (option_map_or (λ port. datagram_to port (message_frame sent) ∷ []) o [])) none ∙ append-nil letters)

-- each of the messages has a frame
pub framed_at : (ms : List Sent) (i : ℕ) (sent : Sent) → AllByRecursion (λ sent. IsFrame (message_frame sent)) ms → i < length ms → sent ≡ get_or ms i sent → IsFrame (message_frame sent)
framed_at [] i sent h lt is = absurd (omega (arith, lt))
framed_at (m ∷ ms) zero sent h lt is = subst (λ (sent : Sent). IsFrame (message_frame sent)) (sym is) h.0
framed_at (m ∷ ms) (suc i) sent h lt is = framed_at ms i sent h.1 (omega (arith, lt)) is

-- the letters of one message more
pub one_more_sent : (catalogue : Catalogue) (from : ℕ) (old : List Letter) (ms : List Sent) (i : ℕ) (sent : Sent) (letters more : List Letter) → i < length ms → sent ≡ get_or ms i sent
    → letters ≡ old ++ map (sent_from from) (flat_map (message_datagram catalogue) (take i ms)) → more ≡ letters ++ map (sent_from from) (message_datagram catalogue sent)
    → more ≡ old ++ map (sent_from from) (flat_map (message_datagram catalogue) (take (i + 1) ms))
one_more_sent catalogue from old ms i sent letters more within is so_far e =
    let next : take (i + 1) ms ≡ take i ms ++ sent ∷ [] = take_more ms i sent within ∙ ap (λ (m : Sent). take i ms ++ m ∷ []) (sym is) in
    let datagrams : flat_map (message_datagram catalogue) (take (i + 1) ms) ≡ flat_map (message_datagram catalogue) (take i ms) ++ message_datagram catalogue sent =
    ap (flat_map (message_datagram catalogue)) next ∙ flat_map-append (message_datagram catalogue) (take i ms) (sent ∷ [])
    ∙ ap (λ (ds : List Datagram). flat_map (message_datagram catalogue) (take i ms) ++ ds) (append-nil (message_datagram catalogue sent)) in
    let letters_of : map (sent_from from) (flat_map (message_datagram catalogue) (take (i + 1) ms)) ≡ map (sent_from from) (flat_map (message_datagram catalogue) (take i ms)) ++ map (sent_from from) (message_datagram catalogue sent) =
    ap (map (sent_from from)) datagrams ∙ map-append (sent_from from) (flat_map (message_datagram catalogue) (take i ms)) (message_datagram catalogue sent) in
    e ∙ ap (λ (ls : List Letter). ls ++ map (sent_from from) (message_datagram catalogue sent)) so_far
    ∙ append_assoc old (map (sent_from from) (flat_map (message_datagram catalogue) (take i ms))) (map (sent_from from) (message_datagram catalogue sent))
    ∙ ap (λ (ls : List Letter). old ++ ls) (sym letters_of)

-- a letter ends where the next one begins
abbrev letter_then : List ℕ → LetterSpan → ℕ → Letter
letter_then bytes f end = record { from = f.from; to = f.to; bytes = drop f.start (take end bytes) }

found : (bytes : List ℕ) (fs : List LetterSpan) (i : ℕ) (f : LetterSpan) → slice_get fs i ≡ Some f
    → slice_get (letters_in bytes fs) i ≡ Some (letter_then bytes f (start_in (length bytes) (drop (suc i) fs)))
found bytes [] i f at = cc
found bytes (g ∷ fs) zero f at = let same : g ≡ f = cc in ap (λ (x : LetterSpan). Some (letter_then bytes x (start_in (length bytes) fs))) same
found bytes (g ∷ fs) (suc i) f at = found bytes fs i f at

nothing_after : (bytes : List ℕ) (fs : List LetterSpan) (i : ℕ) → length fs ≤ i → slice_get (letters_in bytes fs) i ≡ None
nothing_after bytes [] i le = refl
nothing_after bytes (f ∷ fs) zero le = absurd (omega (arith, le))
nothing_after bytes (f ∷ fs) (suc i) le = nothing_after bytes fs i (omega (arith, le))

pub none_found : (bytes : List ℕ) (fs : List LetterSpan) (k : ℕ) → (k == 0) ≡ false → length fs ≤ k - 1 → in_order k (letters_in bytes fs) ≡ None
none_found bytes fs k some le = rw (some) (nothing_after bytes fs (k - 1) le)

start_at : (end : ℕ) (fs : List LetterSpan) (i : ℕ) (f : LetterSpan) → slice_get fs i ≡ Some f → start_in end (drop i fs) ≡ f.start
start_at end [] i f at = cc
start_at end (g ∷ fs) zero f at = let same : g ≡ f = cc in rw (← same) refl
start_at end (g ∷ fs) (suc i) f at = start_at end fs i f at

-- it ends at or after its start, and not after the end of all
pub span_within : (end : ℕ) (fs : List LetterSpan) (i : ℕ) → AreInOrder end fs → i < length fs → (start_in end (drop i fs) ≤ start_in end (drop (suc i) fs)) × (start_in end (drop (suc i) fs) ≤ end)
span_within end [] i h lt = absurd (omega (arith, lt))
span_within end (g ∷ fs) zero h lt = (h.0, start_within end fs h.1)
span_within end (g ∷ fs) (suc i) h lt = span_within end fs i h.1 (omega (arith, lt))

pub more_bytes : (bytes more : List ℕ) → length bytes ≤ length (bytes ++ more)
more_bytes bytes more =
    let longer = length-append bytes more in
    omega (arith, longer)

-- if more bytes follow the last letter
pub order_longer : (m n : ℕ) (fs : List LetterSpan) → n ≤ m → AreInOrder n fs → AreInOrder m fs
order_longer m n [] le h = tt
order_longer m n (f ∷ []) le h = let here = h.0 in (omega (arith, here, le), tt)
order_longer m n (f ∷ g ∷ fs) le h = (h.0, order_longer m n (g ∷ fs) le h.1)

-- letter K, with its bytes
pub letter_found : (bytes : List ℕ) (fs : List LetterSpan) (k start end : ℕ) (f : LetterSpan) (its : List ℕ) → AreInOrder (length bytes) fs → (k == 0) ≡ false → k - 1 < length fs → f ≡ get_or fs (k - 1) f
    → start ≡ start_in (length bytes) (drop (k - 1) fs) → end ≡ start_in (length bytes) (drop (suc (k - 1)) fs) → its ≡ take (end - start) (drop start bytes)
    → Some (record { from = f.from; to = f.to; bytes = its }) ≡ in_order k (letters_in bytes fs)
letter_found bytes fs k start end f its h some lt read starts ends is =
    let at = slice_get_read fs (length fs) (k - 1) f refl lt read in
    let within = span_within (length bytes) fs (k - 1) h lt in
    let begins : start ≡ f.start = starts ∙ start_at (length bytes) fs (k - 1) f at in
    let same : its ≡ drop start (take end bytes) = is ∙ sym (drop-take_less bytes start end (rw (starts, ends) within.0)) in
    rw (some, found bytes fs (k - 1) f at, ← ends, ← begins) (ap (λ (bs : List ℕ). Some (record { from = f.from; to = f.to; bytes = bs })) same)
