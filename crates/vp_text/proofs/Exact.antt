-- Readers that give exactly the texts of a language, with the exact place of each fault, and how they are combined.
use Rattle.std.proofs.Common.{◌≡◌, ◌≢◌, ℕ, List, [], ◌∷◌, ◌++◌, length, Result, Ok, Err, refl, sym, ap, subst, ◌∙◌, append_assoc, inl, inr, ◌⊎◌}
use Rattle.std.proofs.lemmas.List.{append-nil}
use Rattle.vp_text.specs.Meaning.{Begins}
use Rattle.vp_text.specs.Reading.{◌>>=◌}

-- Where the text goes on at all, it doesn't go on as the bytes do.
abbrev pub Apart : List ℕ → List ℕ → Type 0
Apart [] rest = Unit {0}
Apart (x ∷ r) [] = Unit {0}
Apart (x ∷ r) (c ∷ rest) = x ≢ c

-- The text goes on, but not as the bytes do.
abbrev pub Parts : List ℕ → List ℕ → Type 0
Parts [] rest = ⊥
Parts (x ∷ r) [] = Unit {0}
Parts (x ∷ r) (c ∷ rest) = x ≢ c

-- The bytes begin with a text of a, and no longer text goes on as they do.
pub record IsRead {A : Type 0} (L : A → List ℕ → Type 0) (bytes : List ℕ) (a : A) (rest : List ℕ) : Type 0 where
  pub text : List ℕ
  pub spelled : L a text
  pub parts : bytes ≡ text ++ rest
  pub ends : (b : A) (r : List ℕ) → L b (text ++ r) → Apart r rest

-- The bytes before the rest begin a text, and each text that they begin goes on, but not as the rest does.
pub record IsFault {A : Type 0} (L : A → List ℕ → Type 0) (bytes : List ℕ) (left : ℕ) : Type 0 where
  pub front : List ℕ
  pub rest : List ℕ
  pub parts : bytes ≡ front ++ rest
  pub left_is : length rest ≡ left
  pub begins : Begins L front
  pub diverges : (b : A) (r : List ℕ) → L b (front ++ r) → Parts r rest

pub record Exact {A : Type 0} (L : A → List ℕ → Type 0) (read : List ℕ → Result (A × List ℕ) ℕ) : Type 0 where
  pub ok : (bytes : List ℕ) (a : A) (rest : List ℕ) → read bytes ≡ Ok (a, rest) → IsRead L bytes a rest
  pub err : (bytes : List ℕ) (left : ℕ) → read bytes ≡ Err left → IsFault L bytes left
  pub again : (a : A) (text rest : List ℕ) → L a text → ((b : A) (r : List ℕ) → L b (text ++ r) → Apart r rest) → read (text ++ rest) ≡ Ok (a, rest)

-- ---- facts on lists

apart_from_parts : (k rest : List ℕ) (x : ℕ) (s : List ℕ) → Parts k (x ∷ s) → Apart (x ∷ s) (k ++ rest)
apart_from_parts [] rest x s h = absurd h
apart_from_parts (c ∷ k) rest x s h = λ e. h (sym e)

-- two ways to divide one list in two
abbrev pub Cut : List ℕ → List ℕ → List ℕ → List ℕ → Type 0
Cut x y u v = ((r : List ℕ) × (u ≡ x ++ r) × (y ≡ r ++ v)) ⊎ ((c : ℕ) × (r : List ℕ) × (x ≡ u ++ c ∷ r) × (v ≡ (c ∷ r) ++ y))

pub cut : (x y u v : List ℕ) → x ++ y ≡ u ++ v → Cut x y u v
cut [] y u v e = inl (u, refl, e)
cut (c ∷ x) y [] v e = inr (c, x, refl, sym e)
cut (c ∷ x) y (d ∷ u) v e =
    let head : c ≡ d = cc in
    let tail : x ++ y ≡ u ++ v = cc in
    elim (cut x y u v tail) [
      | inl h ↦ inl (h.0, rw (head, h.1) refl, h.2)
      | inr h ↦ inr (h.0, h.1, rw (head, h.2) refl, h.3)
    ]

pub bind_ok : {A B : Type 0} (r : Result A ℕ) (f : A → Result B ℕ) (y : B) → (r >>= f) ≡ Ok y → (x : A) × (r ≡ Ok x) × (f x ≡ Ok y)
bind_ok (Ok x) f y e = (x, refl, e)
bind_ok (Err d) f y e = absurd cc

pub bind_err : {A B : Type 0} (r : Result A ℕ) (f : A → Result B ℕ) (n : ℕ) → (r >>= f) ≡ Err n → (r ≡ Err n) ⊎ ((x : A) × (r ≡ Ok x) × (f x ≡ Err n))
bind_err (Ok x) f n e = inr (x, refl, e)
bind_err (Err d) f n e = inl (let same : d ≡ n = cc in ap (λ (k : ℕ). Err k) same)

abbrev pub done : {A : Type 0} → A → Result A ℕ
done x = Ok x

pub ok_value : {A : Type 0} (x y : A) → done x ≡ done y → x ≡ y
ok_value x y e = cc

pub at_err : {A : Type 0} (r : Result A ℕ) (y : A) (n : ℕ) → r ≡ Ok y → r ≡ Err n → ⊥
at_err r y n e f = cc

-- ---- what follows for the language of an exact reader

-- some text is in the language
pub inhabited : {A : Type 0} {L : A → List ℕ → Type 0} {read : List ℕ → Result (A × List ℕ) ℕ} → Exact L read → Begins L []
inhabited {L = L} {read = read} e =
    let f : (r : Result _ ℕ) → read [] ≡ r → Begins L [] = λ r. elim r as (λ s. read [] ≡ s → Begins L []) [
      | Ok x ↦ λ h. let p = e.ok [] x.0 x.1 h in record { value = x.0; more = p.text; spelled = p.spelled }
      | Err n ↦ λ h. let p = e.err [] n h in record { value = p.begins.value; more = p.front ++ p.begins.more; spelled = p.begins.spelled }
    ] in
    f (read []) refl

-- a text is the text of only one value
pub one_value : {A : Type 0} {L : A → List ℕ → Type 0} {read : List ℕ → Result (A × List ℕ) ℕ} → Exact L read → (a b : A) (text : List ℕ) → L a text → L b text → a ≡ b
one_value {L = L} {read = read} e a b text la lb =
    let none : (c : _) (r : List ℕ) → L c (text ++ r) → Apart r [] = λ c r. elim r as (λ s. L c (text ++ s) → Apart s []) [ [] ↦ λ h. tt | x ∷ s ↦ λ h. tt ] in
    let one : read (text ++ []) ≡ Ok (a, []) = e.again a text [] la none in
    let two : read (text ++ []) ≡ Ok (b, []) = e.again b text [] lb none in
    ap (λ (p : _ × List ℕ). p.0) (ok_value (a, []) (b, []) (sym one ∙ two))

abbrev pub IsOne : {A : Type 0} → (A → List ℕ → Type 0) → Type 0
IsOne {A = A} L = (a b : A) (text : List ℕ) → L a text → L b text → a ≡ b

-- the result is right for these bytes
pub record IsRight {A : Type 0} (L : A → List ℕ → Type 0) (bytes : List ℕ) (r : Result (A × List ℕ) ℕ) : Type 0 where
  pub ok : (a : A) (rest : List ℕ) → r ≡ Ok (a, rest) → IsRead L bytes a rest
  pub err : (left : ℕ) → r ≡ Err left → IsFault L bytes left
  pub again : (a : A) (text rest : List ℕ) → bytes ≡ text ++ rest → L a text → ((b : A) (r : List ℕ) → L b (text ++ r) → Apart r rest) → r ≡ Ok (a, rest)

pub right : {A : Type 0} {L : A → List ℕ → Type 0} {P : List ℕ → Result (A × List ℕ) ℕ} → Exact L P → (bytes : List ℕ) → IsRight L bytes (P bytes)
right {P = P} e bytes = record {
  ok = λ a rest h. e.ok bytes a rest h;
  err = λ left h. e.err bytes left h;
  again = λ a text rest at l ends. ap P at ∙ e.again a text rest l ends;
}

pub exact_from : {A : Type 0} {L : A → List ℕ → Type 0} {P : List ℕ → Result (A × List ℕ) ℕ} → ((bytes : List ℕ) → IsRight L bytes (P bytes)) → Exact L P
exact_from f = record {
  ok = λ bytes a rest h. (f bytes).ok a rest h;
  err = λ bytes left h. (f bytes).err left h;
  again = λ a text rest l ends. (f (text ++ rest)).again a text rest refl l ends;
}

-- ---- one text after another

-- A text of a, and after it a text of the value in the language that follows a.
pub record Then {A B : Type 0} (L : A → List ℕ → Type 0) (M : A → B → List ℕ → Type 0) (b : B) (text : List ℕ) : Type 0 where
  pub first : A
  pub front : List ℕ
  pub back : List ℕ
  pub before : L first front
  pub after : M first b back
  pub parts : text ≡ front ++ back

-- Where a text of the first goes on to a longer one, it doesn't go on as a text of the second begins.
abbrev pub Follows : {A B : Type 0} → (A → List ℕ → Type 0) → (A → B → List ℕ → Type 0) → Type 0
Follows {A = A} {B = B} L M = (a a2 : A) (text : List ℕ) (x : ℕ) (r : List ℕ) (b : B) (t : List ℕ) → L a text → L a2 (text ++ x ∷ r) → M a b t → Parts t (x ∷ r)

apart_of_parts : (r rest : List ℕ) → Parts r rest → Apart r rest
apart_of_parts [] rest h = tt
apart_of_parts (x ∷ r) [] h = tt
apart_of_parts (x ∷ r) (c ∷ rest) h = h

parts_from_apart : (x : ℕ) (s k rest : List ℕ) → Apart (x ∷ s) rest → Parts (x ∷ (s ++ k)) rest
parts_from_apart x s k [] h = tt
parts_from_apart x s k (c ∷ rest) h = h

parts_on : (s k rest : List ℕ) → Parts s rest → Parts (s ++ k) rest
parts_on [] k rest h = absurd h
parts_on (x ∷ s) k [] h = tt
parts_on (x ∷ s) k (c ∷ rest) h = h

head_again : (c : ℕ) (s t u : List ℕ) → Parts ((c ∷ s) ++ t) (c ∷ u) → ⊥
head_again c s t u h = h refl

-- the second begins where the first ended and where another text of the first goes on
on_with : (back more r rest s k : List ℕ) (x : ℕ) → Parts (back ++ more) (x ∷ s) → back ++ r ≡ (x ∷ s) ++ k → Apart (x ∷ s) (back ++ rest) → Parts r rest
on_with [] more r rest s k x p e h = rw e (parts_from_apart x s k rest h)
on_with (c ∷ back) more r rest s k x p e h = absurd (p (let head : c ≡ x = cc in head))

here_again : (c : ℕ) (s t : List ℕ) → Parts ((c ∷ s) ++ t) (c ∷ s) → ⊥
here_again c s t h = h refl

-- Where a text of the first is read, and the bytes after it begin a text of the second, whatever goes on from there is in the
-- second, or goes on otherwise than the bytes do.
after_first : {A B : Type 0} {L : A → List ℕ → Type 0} {M : A → B → List ℕ → Type 0} → IsOne L → Follows L M
    → (a : A) (front : List ℕ) → L a front → (back rest : List ℕ) → ((b : A) (r : List ℕ) → L b (front ++ r) → Apart r (back ++ rest))
    → (seen : B) (more : List ℕ) → M a seen (back ++ more) → (b : B) (r : List ℕ) → Then L M b ((front ++ back) ++ r) → M a b (back ++ r) ⊎ Parts r rest
after_first {L = L} {M = M} one follows a front la back rest ends seen more ms b r h =
    elim (cut front (back ++ r) h.front h.back (sym (append_assoc front back r) ∙ h.parts)) [
      | inl w ↦
          let f : (s : List ℕ) → h.front ≡ front ++ s → back ++ r ≡ s ++ h.back → M a b (back ++ r) ⊎ Parts r rest = λ s. elim s as (λ s. h.front ≡ front ++ s → back ++ r ≡ s ++ h.back → M a b (back ++ r) ⊎ Parts r rest) [
            | [] ↦ λ front-is back-is.
                let lf : L h.first front = subst (λ (t : List ℕ). L h.first t) (front-is ∙ append-nil front) h.before in
                let same = one h.first a front lf la in
                inl (rw back-is (subst (λ (v : _). M v b h.back) same h.after))
            | x ∷ s ↦ λ front-is back-is.
                let lf : L h.first (front ++ x ∷ s) = subst (λ (t : List ℕ). L h.first t) front-is h.before in
                inr (on_with back more r rest s h.back x (follows a h.first front x s seen (back ++ more) la lf ms) back-is (ends h.first (x ∷ s) lf))
          ] in
          f w.0 w.1 w.2
      | inr w ↦
          let la2 : L a (h.front ++ w.0 ∷ w.1) = subst (λ (t : List ℕ). L a t) w.2 la in
          let p = follows h.first a h.front w.0 w.1 b h.back h.before la2 h.after in
          absurd (here_again w.0 w.1 (back ++ r) (subst (λ (t : List ℕ). Parts t (w.0 ∷ w.1)) w.3 p))
    ]

-- what the second reads after the first read a
abbrev pub IsRightAfter : {A B : Type 0} → Result (A × List ℕ) ℕ → (A → B → List ℕ → Type 0) → (A → List ℕ → Result (B × List ℕ) ℕ) → Type 0
IsRightAfter {A = A} r M Q = (a : A) (mid : List ℕ) → r ≡ Ok (a, mid) → IsRight (M a) mid (Q a mid)

then_ok : {A B : Type 0} {L : A → List ℕ → Type 0} {M : A → B → List ℕ → Type 0} {Q : A → List ℕ → Result (B × List ℕ) ℕ} {bytes : List ℕ} {r : Result (A × List ℕ) ℕ} → IsOne L → Follows L M → IsRight L bytes r → IsRightAfter r M Q
    → (b : B) (rest : List ℕ) → (r >>= λ x. Q x.0 x.1) ≡ Ok (b, rest) → IsRead (Then L M) bytes b rest
then_ok {L = L} {M = M} {Q = Q} {r = r} one follows e f b rest h =
    let w = bind_ok r (λ x. Q x.0 x.1) (b, rest) h in
    let a = w.0.0 in
    let mid = w.0.1 in
    let p = e.ok a mid w.1 in
    let q = (f a mid w.1).ok b rest w.2 in
    record {
      text = p.text ++ q.text;
      spelled = record { first = a; front = p.text; back = q.text; before = p.spelled; after = q.spelled; parts = refl };
      parts = p.parts ∙ ap (λ (t : List ℕ). p.text ++ t) q.parts ∙ sym (append_assoc p.text q.text rest);
      ends = λ c r t.
          let ends : (b : _) (r : List ℕ) → L b (p.text ++ r) → Apart r (q.text ++ rest) = λ b r l. subst (λ (m : List ℕ). Apart r m) q.parts (p.ends b r l) in
          elim (after_first one follows a p.text p.spelled q.text rest ends b [] (subst (λ (t : List ℕ). M a b t) (sym (append-nil q.text)) q.spelled) c r t) [
            | inl m ↦ q.ends c r m
            | inr k ↦ apart_of_parts r rest k
          ];
    }

then_err : {A B : Type 0} {L : A → List ℕ → Type 0} {M : A → B → List ℕ → Type 0} {Q : A → List ℕ → Result (B × List ℕ) ℕ} {bytes : List ℕ} {r : Result (A × List ℕ) ℕ} → IsOne L → Follows L M → ((a : A) → Begins (M a) []) → IsRight L bytes r → IsRightAfter r M Q
    → (left : ℕ) → (r >>= λ x. Q x.0 x.1) ≡ Err left → IsFault (Then L M) bytes left
then_err {L = L} {M = M} {Q = Q} {r = r} one follows has e f left h =
    elim (bind_err r (λ x. Q x.0 x.1) left h) [
      | inl w ↦
          let p = e.err left w in
          let a = p.begins.value in
          let some = has a in
          record {
            front = p.front;
            rest = p.rest;
            parts = p.parts;
            left_is = p.left_is;
            begins = record {
              value = some.value;
              more = p.begins.more ++ some.more;
              spelled = record { first = a; front = p.front ++ p.begins.more; back = some.more; before = p.begins.spelled; after = some.spelled; parts = sym (append_assoc p.front p.begins.more some.more) };
            };
            diverges = λ b r t.
                elim (cut p.front r t.front t.back t.parts) [
                  | inl w ↦
                      let at : L t.first (p.front ++ w.0) = subst (λ (x : List ℕ). L t.first x) w.1 t.before in
                      subst (λ (x : List ℕ). Parts x p.rest) (sym w.2) (parts_on w.0 t.back p.rest (p.diverges t.first w.0 at))
                  | inr w ↦
                      let whole : L a (t.front ++ w.0 ∷ (w.1 ++ p.begins.more)) = subst (λ (x : List ℕ). L a x) (ap (λ (x : List ℕ). x ++ p.begins.more) w.2 ∙ append_assoc t.front (w.0 ∷ w.1) p.begins.more) p.begins.spelled in
                      let k = follows t.first a t.front w.0 (w.1 ++ p.begins.more) b t.back t.before whole t.after in
                      absurd (head_again w.0 w.1 r (w.1 ++ p.begins.more) (subst (λ (x : List ℕ). Parts x (w.0 ∷ (w.1 ++ p.begins.more))) w.3 k))
                ];
          }
      | inr w ↦
          let a = w.0.0 in
          let mid = w.0.1 in
          let p = e.ok a mid w.1 in
          let q = (f a mid w.1).err left w.2 in
          record {
            front = p.text ++ q.front;
            rest = q.rest;
            parts = p.parts ∙ ap (λ (t : List ℕ). p.text ++ t) q.parts ∙ sym (append_assoc p.text q.front q.rest);
            left_is = q.left_is;
            begins = record {
              value = q.begins.value;
              more = q.begins.more;
              spelled = record { first = a; front = p.text; back = q.front ++ q.begins.more; before = p.spelled; after = q.begins.spelled; parts = append_assoc p.text q.front q.begins.more };
            };
            diverges = λ b r t.
                let ends : (b : _) (r : List ℕ) → L b (p.text ++ r) → Apart r (q.front ++ q.rest) = λ b r l. subst (λ (m : List ℕ). Apart r m) q.parts (p.ends b r l) in
                elim (after_first one follows a p.text p.spelled q.front q.rest ends q.begins.value q.begins.more q.begins.spelled b r t) [
                  | inl m ↦ q.diverges b r m
                  | inr k ↦ k
                ];
          }
    ]

then_again : {A B : Type 0} {L : A → List ℕ → Type 0} {M : A → B → List ℕ → Type 0} {Q : A → List ℕ → Result (B × List ℕ) ℕ} {bytes : List ℕ} {r : Result (A × List ℕ) ℕ} → Follows L M → IsRight L bytes r → IsRightAfter r M Q
    → (b : B) (text rest : List ℕ) → bytes ≡ text ++ rest → Then L M b text → ((c : B) (r : List ℕ) → Then L M c (text ++ r) → Apart r rest) → (r >>= λ x. Q x.0 x.1) ≡ Ok (b, rest)
then_again {L = L} {M = M} {Q = Q} {bytes = bytes} {r = r} follows e f b text rest at t ends =
    let a = t.first in
    let stops : (c : _) (r : List ℕ) → L c (t.front ++ r) → Apart r (t.back ++ rest) = λ c r. elim r as (λ r. L c (t.front ++ r) → Apart r (t.back ++ rest)) [
      | [] ↦ λ l. tt
      | x ∷ s ↦ λ l. apart_from_parts t.back rest x s (follows a c t.front x s b t.back t.before l t.after)
    ] in
    let regroup : bytes ≡ t.front ++ (t.back ++ rest) = at ∙ ap (λ (x : List ℕ). x ++ rest) t.parts ∙ append_assoc t.front t.back rest in
    let one : r ≡ Ok (a, t.back ++ rest) = e.again a t.front (t.back ++ rest) regroup t.before stops in
    let two : Q a (t.back ++ rest) ≡ Ok (b, rest) = (f a (t.back ++ rest) one).again b t.back rest refl t.after (λ c r m. ends c r (record { first = a; front = t.front; back = t.back ++ r; before = t.before; after = m; parts = ap (λ (x : List ℕ). x ++ r) t.parts ∙ append_assoc t.front t.back r })) in
    rw (one, two) refl

pub then_right : {A B : Type 0} {L : A → List ℕ → Type 0} {M : A → B → List ℕ → Type 0} {Q : A → List ℕ → Result (B × List ℕ) ℕ} {bytes : List ℕ} {r : Result (A × List ℕ) ℕ} → IsOne L → Follows L M → ((a : A) → Begins (M a) []) → IsRight L bytes r → IsRightAfter r M Q → IsRight (Then L M) bytes (r >>= λ x. Q x.0 x.1)
then_right one follows has e f = record {
  ok = λ b rest h. then_ok one follows e f b rest h;
  err = λ left h. then_err one follows has e f left h;
  again = λ b text rest at t ends. then_again follows e f b text rest at t ends;
}

pub then_exact : {A B : Type 0} {L : A → List ℕ → Type 0} {M : A → B → List ℕ → Type 0} {P : List ℕ → Result (A × List ℕ) ℕ} {Q : A → List ℕ → Result (B × List ℕ) ℕ} → Follows L M → Exact L P → ((a : A) → Exact (M a) (Q a)) → Exact (Then L M) (λ bytes. P bytes >>= λ x. Q x.0 x.1)
then_exact follows e f = exact_from (λ bytes. then_right (one_value e) follows (λ a. inhabited (f a)) (right e bytes) (λ a mid h. right (f a) mid))

-- ---- a function of the value that was read

pub record Made {A B : Type 0} (L : A → List ℕ → Type 0) (make : A → B) (b : B) (text : List ℕ) : Type 0 where
  pub from : A
  pub spelled : L from text
  pub is : b ≡ make from

pub made_exact : {A B : Type 0} {L : A → List ℕ → Type 0} {P : List ℕ → Result (A × List ℕ) ℕ} (make : A → B) → Exact L P → Exact (Made L make) (λ bytes. P bytes >>= λ x. Ok (make x.0, x.1))
made_exact {L = L} {P = P} make e = record {
  ok = λ bytes b rest h.
      let w = bind_ok (P bytes) (λ x. Ok (make x.0, x.1)) (b, rest) h in
      let made : (make w.0.0, w.0.1) ≡ (b, rest) = ok_value (make w.0.0, w.0.1) (b, rest) w.2 in
      let p = e.ok bytes w.0.0 w.0.1 w.1 in
      let last = ap (λ (x : _ × List ℕ). x.1) made in
      record {
        text = p.text;
        spelled = record { from = w.0.0; spelled = p.spelled; is = sym (ap (λ (x : _ × List ℕ). x.0) made) };
        parts = p.parts ∙ ap (λ (t : List ℕ). p.text ++ t) last;
        ends = λ c r m. subst (λ (t : List ℕ). Apart r t) last (p.ends m.from r m.spelled);
      };
  err = λ bytes left h.
      elim (bind_err (P bytes) (λ x. Ok (make x.0, x.1)) left h) [
        | inl w ↦ let p = e.err bytes left w in
            record {
              front = p.front;
              rest = p.rest;
              parts = p.parts;
              left_is = p.left_is;
              begins = record { value = make p.begins.value; more = p.begins.more; spelled = record { from = p.begins.value; spelled = p.begins.spelled; is = refl } };
              diverges = λ b r m. p.diverges m.from r m.spelled;
            }
        | inr w ↦ absurd (let no : done (make w.0.0, w.0.1) ≡ Err left = w.2 in cc)
      ];
  again = λ b text rest m ends.
      let one : P (text ++ rest) ≡ Ok (m.from, rest) = e.again m.from text rest m.spelled (λ c r l. ends (make c) r (record { from = c; spelled = l; is = refl })) in
      rw (one, m.is) refl;
}

-- ---- the same language, defined by other words

pub exact_as : {A : Type 0} {L K : A → List ℕ → Type 0} {P : List ℕ → Result (A × List ℕ) ℕ} → ((a : A) (t : List ℕ) → L a t → K a t) → ((a : A) (t : List ℕ) → K a t → L a t) → Exact L P → Exact K P
exact_as to from e = record {
  ok = λ bytes a rest h. let p = e.ok bytes a rest h in record { text = p.text; spelled = to a p.text p.spelled; parts = p.parts; ends = λ b r k. p.ends b r (from b (p.text ++ r) k) };
  err = λ bytes left h. let p = e.err bytes left h in record {
    front = p.front;
    rest = p.rest;
    parts = p.parts;
    left_is = p.left_is;
    begins = record { value = p.begins.value; more = p.begins.more; spelled = to p.begins.value (p.front ++ p.begins.more) p.begins.spelled };
    diverges = λ b r k. p.diverges b r (from b (p.front ++ r) k);
  };
  again = λ a text rest k ends. e.again a text rest (from a text k) (λ b r l. ends b r (to b (text ++ r) l));
}
