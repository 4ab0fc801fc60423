-- The word of one of some kinds is read exactly.
use Rattle.std.proofs.Common.{◌≡◌, ◌⊎◌, ℕ, ◌≤◌, Bool, true, ◌&&◌, min, List, [], ◌∷◌, ◌++◌, length, Result, Ok, Err, refl, sym, ap, subst, ◌∙◌, arith, inl, inr}
use Rattle.std.proofs.lemmas.List.{length-append}
use Rattle.std.proofs.lemmas.Bool.{and_parts}
use Rattle.vp_text.specs.Tokens.{IsLiteral}
use Rattle.vp_text.specs.Reading.{◌>>=◌, literal_at, either, word_among}
use Rattle.vp_text.proofs.Exact.{IsRight, Exact, exact_from, exact_as, right, Made, made_exact}
use Rattle.vp_text.proofs.Words.{literal_exact}
use Rattle.vp_text.proofs.Choices.{IsClear, Opens, made_opens, clear_keys, either_exact, differ}
use Rattle.vp_text.proofs.Whole.{fault_left}

err_left : {A : Type 0} (m n : ℕ) → (let r : Result A ℕ = Err m in r ≡ Err n) → m ≡ n
err_left m n e = cc

still_first : {A : Type 0} (size : ℕ) (p q : Result (A × List ℕ) ℕ) → either (Err size) q ≡ q → either (Err size) (either p q) ≡ either p q
still_first size (Ok x) q e = refl
still_first size (Err m) (Ok y) e = refl
still_first size (Err m) (Err n) e =
    let less : min size n ≡ n = err_left (min size n) n e in
    ap (λ (k : ℕ). Err k) (omega (arith, less))

last_word : {A : Type 0} (bytes : List ℕ) (r : Result (A × List ℕ) ℕ) → ((left : ℕ) → r ≡ Err left → left ≤ length bytes) → either r (Err (length bytes)) ≡ r
last_word bytes (Ok x) le = refl
last_word bytes (Err m) le = let less = le m refl in ap (λ (k : ℕ). Err k) (omega (arith, less))

abbrev pub Among : {K : Type 0} → List K → K → Type 0
Among [] kind = ⊥
Among (k ∷ kinds) kind = (kind ≡ k) ⊎ Among kinds kind

-- the word of one of the kinds
pub record IsWordOf {K : Type 0} (word : K → List ℕ) (kinds : List K) (kind : K) (text : List ℕ) : Type 0 where
  pub is : text ≡ word kind
  pub among : Among kinds kind

module _ {K : Type 0} (word : K → List ℕ) where
  -- no fault comes before the place
  pub among_start : (kinds : List K) (bytes : List ℕ) → either (Err (length bytes)) (word_among word kinds bytes) ≡ word_among word kinds bytes
  among_start [] bytes = ap (λ (k : ℕ). Err k) (omega arith)
  among_start (kind ∷ kinds) bytes = still_first (length bytes) (literal_at (word kind) bytes >>= λ u. Ok (kind, u.1)) (word_among word kinds bytes) (among_start kinds bytes)

  -- no word of the kinds begins as the key does, nor the key as one of the words
  abbrev pub apart_from : List ℕ → List K → Bool
  apart_from key [] = true
  apart_from key (k ∷ kinds) = (differ key (word k) && differ (word k) key) && apart_from key kinds

  abbrev pub all_apart : List K → Bool
  all_apart [] = true
  all_apart (k ∷ kinds) = apart_from (word k) kinds && all_apart kinds

  abbrev Word : K → K → List ℕ → Type 0
  Word kind = Made (IsLiteral (word kind)) (λ u. kind)

  opens_word : (kind : K) → Opens (word kind) (Word kind)
  opens_word kind = made_opens (word kind)

  clear_two : (j k : K) → differ (word j) (word k) ≡ true → IsClear (Word j) (Word k)
  clear_two j k d = clear_keys (word j) (word k) d (opens_word j) (opens_word k)

  one_word : (kind k : K) (t : List ℕ) → t ≡ word kind → kind ≡ k → Word k kind t
  one_word kind k t is same = record { from = tt; spelled = is ∙ ap word same; is = same }

  clear_on : (kind : K) (kinds : List K) → apart_from (word kind) kinds ≡ true → IsClear (Word kind) (IsWordOf word kinds)
  clear_on kind [] e a b t r l m = m.among
  clear_on kind (k ∷ kinds) e a b t r l m =
      let both = and_parts (differ (word kind) (word k) && differ (word k) (word kind)) (apart_from (word kind) kinds) e in
      let two = and_parts (differ (word kind) (word k)) (differ (word k) (word kind)) both.0 in
      elim m.among [
        | inl same ↦ clear_two kind k two.0 a b t r l (one_word b k (t ++ r) m.is same)
        | inr more ↦ clear_on kind kinds both.1 a b t r l (record { is = m.is; among = more })
      ]

  clear_back : (kind : K) (kinds : List K) → apart_from (word kind) kinds ≡ true → IsClear (IsWordOf word kinds) (Word kind)
  clear_back kind [] e a b t r l m = l.among
  clear_back kind (k ∷ kinds) e a b t r l m =
      let both = and_parts (differ (word kind) (word k) && differ (word k) (word kind)) (apart_from (word kind) kinds) e in
      let two = and_parts (differ (word kind) (word k)) (differ (word k) (word kind)) both.0 in
      elim l.among [
        | inl same ↦ clear_two k kind two.1 a b t r (one_word a k t l.is same) m
        | inr more ↦ clear_back kind kinds both.1 a b t r (record { is = l.is; among = more }) m
      ]

  -- the word of a kind doesn't go on to a longer one
  pub among_end : (kinds : List K) → all_apart kinds ≡ true → (a b : K) (t : List ℕ) (x : ℕ) (r : List ℕ) → IsWordOf word kinds a t → IsWordOf word kinds b (t ++ x ∷ r) → ⊥
  among_end [] e a b t x r l m = l.among
  among_end (k ∷ kinds) e a b t x r l m =
      let both = and_parts (apart_from (word k) kinds) (all_apart kinds) e in
      elim l.among [
        | inl one ↦ elim m.among [
          | inl two ↦ omega (arith, ap length (one_word a k t l.is one).spelled, ap length (one_word b k (t ++ x ∷ r) m.is two).spelled, length-append t (x ∷ r))
          | inr more ↦ clear_on k kinds both.0 a b t (x ∷ r) (one_word a k t l.is one) (record { is = m.is; among = more })
        ]
        | inr more ↦ elim m.among [
          | inl two ↦ clear_back k kinds both.0 a b t (x ∷ r) (record { is = l.is; among = more }) (one_word b k (t ++ x ∷ r) m.is two)
          | inr yet ↦ among_end kinds both.1 a b t x r (record { is = l.is; among = more }) (record { is = m.is; among = yet })
        ]
      ]

  word_exact : (kind : K) → Exact (Word kind) (λ bytes. literal_at (word kind) bytes >>= λ u. Ok (kind, u.1))
  word_exact kind = made_exact (λ u. kind) (literal_exact (word kind))

  pub among_exact : (kind : K) (kinds : List K) → all_apart (kind ∷ kinds) ≡ true → Exact (IsWordOf word (kind ∷ kinds)) (word_among word (kind ∷ kinds))
  among_exact kind [] e =
      let w = word_exact kind in
      let alone : Exact (Word kind) (word_among word (kind ∷ [])) = exact_from (λ bytes.
      let read = literal_at (word kind) bytes >>= λ u. Ok (kind, u.1) in
      subst (IsRight (Word kind) bytes) (sym (last_word bytes read (λ left h. fault_left bytes left (w.err bytes left h)))) (right w bytes)) in
      exact_as (λ a t h. record { is = h.spelled ∙ ap word (sym h.is); among = inl h.is }) (λ a t h. elim h.among [ inl same ↦ one_word a kind t h.is same | inr more ↦ absurd more ]) alone
  among_exact kind (k ∷ kinds) e =
      let both = and_parts (apart_from (word kind) (k ∷ kinds)) (all_apart (k ∷ kinds)) e in
      exact_as (λ a t h. elim h [ inl w ↦ record { is = w.spelled ∙ ap word (sym w.is); among = inl w.is } | inr m ↦ record { is = m.is; among = inr m.among } ])
      (λ a t h. elim h.among [ inl same ↦ inl (one_word a kind t h.is same) | inr more ↦ inr (record { is = h.is; among = more }) ])
      (either_exact (clear_on kind (k ∷ kinds) both.0) (clear_back kind (k ∷ kinds) both.0) (word_exact kind) (among_exact k kinds both.1))
