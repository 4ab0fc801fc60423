-- The loop over the holders of a record line: what each turn reads, and what is still to be read.
use Rattle.std.specs.Prelude.{IfSome}
use Rattle.std.proofs.Common.{◌≡◌, ℕ, zero, suc, ◌<◌, ◌≤◌, Bool, true, false, cond, List, [], ◌∷◌, ◌++◌, length, min, ◌+◌, Option, Some, None, Result, Ok, Err, refl, sym, ap, ◌∙◌, arith}
use Rattle.std.proofs.lemmas.List.{length-append}
use Rattle.vp_text.specs.Reading.{◌>>=◌, scan, whole_reading, literal_at, number_at, either, next_at}
use Rattle.vp_text.proofs.Exact.{bind_ok, ok_value, at_err}
use Rattle.vp_text.proofs.Words.{literal_exact}
use Rattle.vp_text.proofs.Numbers.{number_exact}
use Rattle.vp_text.proofs.Repeats.{with_front, items_go, items_end}
use Rattle.vp_base.specs.Reading.{place_step, place_of, among_at}
use Rattle.vp_catalog.specs.Sites.{site_texts, site_of_place, site_at}
use Rattle.vp_catalog.specs.EntryReading.{some_above, weight_at, others_at, weights_at}

-- ---- a holder has at least one byte

ended_keeps : {A : Type 0} (o : Option A) (bytes : List ℕ) (a : A) (rest : List ℕ) → whole_reading o bytes ≡ Ok (a, rest) → length rest ≤ length bytes
ended_keeps (Some b) bytes a rest e =
    let same : bytes ≡ rest = ap (λ (x : _ × List ℕ). x.1) (ok_value (b, bytes) (a, rest) e) in
    omega (arith, ap length same)
ended_keeps None bytes a rest e = absurd (at_err (whole_reading None bytes) (a, rest) (length bytes) e refl)

scan_keeps : {S A : Type 0} (step : S → ℕ → Option S) (finish : S → Option A) (s : S) (bytes : List ℕ) (a : A) (rest : List ℕ) → scan step finish s bytes ≡ Ok (a, rest) → length rest ≤ length bytes
scan_keeps step finish s [] a rest e = ended_keeps (finish s) [] a rest e
scan_keeps {S = S} {A = A} step finish s (c ∷ cs) a rest e = go (step s c) (λ next h. scan_keeps step finish next cs a rest h) e
  where
    go : (o : Option S) → ((next : S) → scan step finish next cs ≡ Ok (a, rest) → length rest ≤ length cs)
        → ◌≡◌ {A = Result (A × List ℕ) ℕ} (elim o [ Some t ↦ scan step finish t cs | None ↦ whole_reading (finish s) (c ∷ cs) ]) (Ok (a, rest)) → length rest ≤ length (c ∷ cs)
    go (Some next) more h = omega (arith, more next h)
    go None more h = ended_keeps (finish s) (c ∷ cs) a rest h

site_keeps : (sites : List ℕ) (above : ℕ) (bytes : List ℕ) (site : ℕ) (rest : List ℕ) → site_at sites above bytes ≡ Ok (site, rest) → length rest ≤ length bytes
unfolding site_at among_at
site_keeps sites above bytes site rest e =
    let w = bind_ok (among_at (site_texts sites above) bytes) (λ place. Ok (site_of_place sites above place.0, place.1)) (site, rest) e in
    let same : w.0.1 ≡ rest = ap (λ (x : ℕ × List ℕ). x.1) (ok_value (site_of_place sites above w.0.0, w.0.1) (site, rest) w.2) in
    omega (arith, ap length same, scan_keeps (place_step (site_texts sites above)) (place_of (site_texts sites above)) [] bytes w.0.0 w.0.1 w.1)

literal_shorter : (text bytes : List ℕ) (u : Unit {0} × List ℕ) → literal_at text bytes ≡ Ok u → length text + length u.1 ≡ length bytes
literal_shorter text bytes u e =
    let p = (literal_exact text).ok bytes u.0 u.1 e in
    omega (arith, ap length p.parts, length-append p.text u.1, ap length p.spelled)

number_keeps : (bytes : List ℕ) (n : ℕ × List ℕ) → number_at 1 65535 bytes ≡ Ok n → length n.1 ≤ length bytes
number_keeps bytes n e =
    let p = (number_exact 1 65535 (omega arith) (omega arith)).ok bytes n.0 n.1 e in
    omega (arith, ap length p.parts, length-append p.text n.1)

-- what is read from the weight on, from the colon on, and from the site on
abbrev Holder : Type 0
Holder = Result ((ℕ × ℕ) × List ℕ) ℕ

abbrev from_weight : ℕ → List ℕ → Holder
from_weight site bytes = number_at 1 65535 bytes >>= λ weight. Ok ((site, weight.0), weight.1)

abbrev from_colon : ℕ → List ℕ → Holder
from_colon site bytes = literal_at (58 ∷ []) bytes >>= λ colon. from_weight site colon.1

abbrev from_site : List ℕ → ℕ → List ℕ → Holder
from_site sites above bytes = site_at sites above bytes >>= λ site. from_colon site.0 site.1

weight_shorter : (sites : List ℕ) (above : ℕ) (bytes : List ℕ) (w : ℕ × ℕ) (rest : List ℕ) → weight_at sites above bytes ≡ Ok (w, rest) → length rest < length bytes
unfolding weight_at
weight_shorter sites above bytes w rest e =
    let a = bind_ok (literal_at (32 ∷ []) bytes) (λ space. from_site sites above space.1) (w, rest) e in
    let b = bind_ok (site_at sites above a.0.1) (λ site. from_colon site.0 site.1) (w, rest) a.2 in
    let c = bind_ok (literal_at (58 ∷ []) b.0.1) (λ colon. from_weight b.0.0 colon.1) (w, rest) b.2 in
    let d = bind_ok (number_at 1 65535 c.0.1) (λ weight. Ok ((b.0.0, weight.0), weight.1)) (w, rest) c.2 in
    let same : d.0.1 ≡ rest = ap (λ (x : (ℕ × ℕ) × List ℕ). x.1) (ok_value ((b.0.0, d.0.0), d.0.1) (w, rest) d.2) in
    omega (arith, ap length same, literal_shorter (32 ∷ []) bytes a.0 a.1, site_keeps sites above a.0.1 b.0.0 b.0.1 b.1, literal_shorter (58 ∷ []) b.0.1 c.0 c.1, number_keeps c.0.1 d.0 d.1)

either_is : {A : Type 0} (p q : Result (A × List ℕ) ℕ) (x : A × List ℕ) → either p q ≡ Ok x → ((y : A × List ℕ) → p ≡ Ok y → x ≡ y → ⊥) → q ≡ Ok x
either_is (Ok y) q x e other = absurd (other y refl (sym (ok_value y x e)))
either_is (Err m) (Ok y) x e other = e
either_is (Err m) (Err n) x e other = absurd (at_err (Err (min m n)) x (min m n) e refl)

end_is_none : (bytes : List ℕ) (w : ℕ × ℕ) (rest : List ℕ) (y : Option (ℕ × ℕ) × List ℕ) → (literal_at (10 ∷ []) bytes >>= λ u. Ok (None, u.1)) ≡ Ok y → (Some w, rest) ≡ y → ⊥
end_is_none bytes w rest y e same =
    let a = bind_ok (literal_at (10 ∷ []) bytes) (λ u. Ok (None, u.1)) y e in
    let none : ◌≡◌ {A = Option (ℕ × ℕ)} None (Some w) = ap (λ (x : Option (ℕ × ℕ) × List ℕ). x.0) (ok_value (None, a.0.1) y a.2 ∙ sym same) in
    cc

abbrev Next : Type 0
Next = Result (Option (ℕ × ℕ) × List ℕ) ℕ

abbrev end : List ℕ → Next
end bytes = literal_at (10 ∷ []) bytes >>= λ u. Ok (None, u.1)

abbrev item : List ℕ → ℕ → List ℕ → Next
item sites above bytes = weight_at sites above bytes >>= λ x. Ok (Some x.0, x.1)

item_shorter : (sites : List ℕ) (above : ℕ) (bytes : List ℕ) (w : ℕ × ℕ) (rest : List ℕ) (may : Bool) → cond may (either (end bytes) (item sites above bytes)) (end bytes) ≡ Ok (Some w, rest) → length rest < length bytes
item_shorter sites above bytes w rest true h =
    let i = either_is (end bytes) (item sites above bytes) (Some w, rest) h (λ y p same. end_is_none bytes w rest y p same) in
    let a = bind_ok (weight_at sites above bytes) (λ x. Ok (Some x.0, x.1)) (Some w, rest) i in
    let same : a.0.1 ≡ rest = ap (λ (x : Option (ℕ × ℕ) × List ℕ). x.1) (ok_value (Some a.0.0, a.0.1) (Some w, rest) a.2) in
    omega (arith, ap length same, weight_shorter sites above bytes a.0.0 a.0.1 a.1)
item_shorter sites above bytes w rest false h = absurd (end_is_none bytes w rest (Some w, rest) h refl)

next_shorter : (sites : List ℕ) (above : ℕ) (bytes : List ℕ) (w : ℕ × ℕ) (rest : List ℕ) → next_at (some_above sites above) (weight_at sites above) (10 ∷ []) bytes ≡ Ok (Some w, rest) → length rest < length bytes
unfolding next_at
next_shorter sites above bytes w rest e = item_shorter sites above bytes w rest (some_above sites above) e

-- ---- the loop

pub weights_start : (sites bytes : List ℕ) (w : ℕ × ℕ) (rest : List ℕ) → weight_at sites 0 bytes ≡ Ok (w, rest) → with_front (w ∷ []) (others_at sites (suc (length rest)) w.0 rest) ≡ weights_at sites bytes
unfolding weights_at
weights_start sites bytes w rest e = rw e refl

pub weights_fail : (sites bytes : List ℕ) (left : ℕ) → weight_at sites 0 bytes ≡ Err left → weights_at sites bytes ≡ Err left
unfolding weights_at
weights_fail sites bytes left e = rw e refl

-- what is still to be read after a turn, where at most that many bytes are left
abbrev pub Left : List ℕ → List (ℕ × ℕ) → ℕ → List ℕ → Result (List (ℕ × ℕ) × List ℕ) ℕ → Type 0
Left sites front above bytes total = (n : ℕ) × (length bytes ≤ n) × (with_front front (others_at sites (suc n) above bytes) ≡ total)

weights_go : (sites : List ℕ) (front : List (ℕ × ℕ)) (above : ℕ) (bytes : List ℕ) (w : ℕ × ℕ) (rest : List ℕ) (total : Result (List (ℕ × ℕ) × List ℕ) ℕ)
    → next_at (some_above sites above) (weight_at sites above) (10 ∷ []) bytes ≡ Ok (Some w, rest) → Left sites front above bytes total → Left sites (front ++ w ∷ []) w.0 rest total
weights_go sites front above bytes w rest total h l = go l.0 l.1 l.2
  where
    go : (n : ℕ) → length bytes ≤ n → with_front front (others_at sites (suc n) above bytes) ≡ total → Left sites (front ++ w ∷ []) w.0 rest total
    go zero le so_far = absurd (omega (arith, le, next_shorter sites above bytes w rest h))
    go (suc n) le so_far = (n, omega (arith, le, next_shorter sites above bytes w rest h), items_go (some_above sites) (λ above weight. weight.0) (weight_at sites) (10 ∷ []) front (suc n) above bytes w rest total h so_far)

-- a holder that was read and is not kept yet, and what is read after it; or the end
abbrev pub Stands : List ℕ → List (ℕ × ℕ) → Option (ℕ × ℕ) → List ℕ → Result (List (ℕ × ℕ) × List ℕ) ℕ → Type 0
Stands sites front (Some w) bytes total = Left sites (front ++ w ∷ []) w.0 bytes total × (length front < w.0)
Stands sites front None bytes total = (total ≡ Ok (front, bytes)) × (length front ≤ 16)

pub stands_next : (sites : List ℕ) (front : List (ℕ × ℕ)) (above : ℕ) (bytes : List ℕ) (next : Option (ℕ × ℕ)) (rest : List ℕ) (total : Result (List (ℕ × ℕ) × List ℕ) ℕ)
    → next_at (some_above sites above) (weight_at sites above) (10 ∷ []) bytes ≡ Ok (next, rest) → IfSome next (λ w. above < w.0) → Left sites front above bytes total → length front ≤ above → above ≤ 16 → Stands sites front next rest total
stands_next sites front above bytes (Some w) rest total h higher l few most = (weights_go sites front above bytes w rest total h l, omega (arith, higher))
stands_next sites front above bytes None rest total h higher l few most = (items_end (some_above sites) (λ above weight. weight.0) (weight_at sites) (10 ∷ []) front l.0 above bytes rest total h l.2, omega arith)

-- how much is left to read, where another holder may follow
abbrev pub to_read : Option (ℕ × ℕ) → List ℕ → ℕ
to_read (Some w) bytes = suc (length bytes)
to_read None bytes = 0

pub reads_less : (sites : List ℕ) (above : ℕ) (bytes : List ℕ) (next : Option (ℕ × ℕ)) (rest : List ℕ) → next_at (some_above sites above) (weight_at sites above) (10 ∷ []) bytes ≡ Ok (next, rest) → to_read next rest < suc (length bytes)
reads_less sites above bytes (Some w) rest h = omega (arith, next_shorter sites above bytes w rest h)
reads_less sites above bytes None rest h = omega arith
