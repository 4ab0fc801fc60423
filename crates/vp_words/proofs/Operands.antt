-- How `clap` reads the words after a command's name.
use Rattle.std.proofs.Common.{◌≡◌, ◌⊎◌, ℕ, Bool, true, false, ◌&&◌, List, [], ◌∷◌, Option, Some, None, refl, sym, ap, subst, ◌∙◌, arith, inl, inr, codes, option_map, chars, IsUtf8, not}
use Rattle.std.specs.Prelude.{fold, option_and_then, nat_eq, if◌then◌else◌}
use Rattle.std.specs.List.{list_all, starts_with}
use Rattle.std.specs.Str.{bytes_eq, encode_utf8_all, is_utf8}
use Rattle.std.proofs.lemmas.Bool.{and_parts, cases_eq, ne_eqb}
use Rattle.std.proofs.lemmas.Str.{IsCharBoundary-after_ascii, IsUtf8-drop, IsUtf8-from_is_utf8, encodes-chars}
use Rattle.clap.specs.Faults.{check_fault, defaults_fault, settle_fault, step_fault, turn_fault, walk_fault, flags_fault}
use Rattle.clap.specs.Lexer.{long_of, name_and_value, short_of}
use Rattle.clap.specs.Kinds.{Kinds, or_else}
use Rattle.clap.specs.Simple.{Shape}
use Rattle.clap.specs.Walk.{Held, Row, Text, Walk, arg_by_index, arg_by_long, arg_by_short, finished, Waiting, idle, positional, settled, to_positional, value, walked}
use Rattle.clap.specs.declared.error.kind.ErrorKind.{ErrorKind}
use Rattle.clap.specs.declared.error.kind.ErrorKind.TheVariants as kind

-- ---- one word, where the command has no flag

pub record HasNoFlag (s : Shape) : Type 0 where
  pub long : (name : Text) → arg_by_long s.rules name ≡ None
  pub short : (c : ℕ) → arg_by_short s.rules c ≡ None

-- the rows so far, and the values of the operand that came last
abbrev pub Kept : Type 0
Kept = List Row × Option (Text × List Text)

abbrev pub held : Kept → Held
held h = record { rows = h.0; pending = h.1; skip = 0 }

-- an operand of several words takes the next one, or none has begun
abbrev pub begun : Bool → Waiting
begun true = positional
begun false = idle

-- before a word for the operand p, where `--` has come or not
abbrev pub within : Bool → Kept → ℕ → Bool → Walk
within more h p trailing = record { held = held h; waiting = begun more; position = p; is_trailing = trailing; stopped = None }

abbrev pub at : Kept → ℕ → Bool → Walk
at h p trailing = within false h p trailing

abbrev unknown : Kinds
unknown = kind.UnknownArgument ∷ []

-- `clap` takes the word for a long flag, for short flags, or, as with `-` by itself, for an operand
pub record IsLong (word : Text) : Type 0 where
  pub dashes : bytes_eq word (45 ∷ 45 ∷ []) ≡ false
  pub begins : starts_with nat_eq word (45 ∷ []) ≡ true
  pub more : bytes_eq word (45 ∷ []) ≡ false
  pub name : Text × Option Text
  pub long : long_of word ≡ Some name

pub record IsShort (word : Text) : Type 0 where
  pub dashes : bytes_eq word (45 ∷ 45 ∷ []) ≡ false
  pub begins : starts_with nat_eq word (45 ∷ []) ≡ true
  pub more : bytes_eq word (45 ∷ []) ≡ false
  pub long : long_of word ≡ None
  pub x : ℕ
  pub xs : Text
  pub short : short_of word ≡ Some (x ∷ xs)
  pub c : ℕ
  pub cs : List ℕ
  pub spelled : chars (x ∷ xs) ≡ c ∷ cs

pub record IsPlain (word : Text) : Type 0 where
  pub dashes : bytes_eq word (45 ∷ 45 ∷ []) ≡ false
  pub long : long_of word ≡ None
  pub short : short_of word ≡ None
  pub begins : (word ≡ 45 ∷ []) ⊎ (starts_with nat_eq word (45 ∷ []) ≡ false)

pub data Look (word : Text) : Type 0 where
  dashes : word ≡ 45 ∷ 45 ∷ [] → Look word
  long : IsLong word → Look word
  short : IsShort word → Look word
  plain : IsPlain word → Look word

chars_some : (x : ℕ) (xs : Text) → IsUtf8 (x ∷ xs) → (c : ℕ) × (cs : List ℕ) × (chars (x ∷ xs) ≡ c ∷ cs)
chars_some x xs u = go (chars (x ∷ xs)) refl
  where
    go : (l : List ℕ) → chars (x ∷ xs) ≡ l → (c : ℕ) × (cs : List ℕ) × (l ≡ c ∷ cs)
    go [] e = absurd (let none : [] ≡ x ∷ xs = ap encode_utf8_all (sym e) ∙ encodes-chars (x ∷ xs) u in cc)
    go (c ∷ cs) e = (c, cs, refl)

look_on : (x : ℕ) (xs : Text) → IsUtf8 (45 ∷ x ∷ xs) → (x ≡ 45) ⊎ (x ≡ 45 → ⊥) → Look (45 ∷ x ∷ xs)
look_on x [] u (inl e) = dashes (rw e refl)
look_on x (y ∷ ys) u (inl e) = long (rw e (record { dashes = refl; begins = refl; more = refl; name = name_and_value (y ∷ ys); long = refl }))
look_on x xs u (inr n) =
    let rest = IsUtf8-drop (45 ∷ x ∷ xs) 1 u (IsCharBoundary-after_ascii (45 ∷ x ∷ xs) 0 u (omega arith) (omega arith)) in
    let some = chars_some x xs rest in
    let other = ne_eqb x 45 n in
    short (record { dashes = rw other refl; begins = refl; more = refl; long = rw other refl; x = x; xs = xs; short = rw other refl; c = some.0; cs = some.1; spelled = some.2 })

look_at : (x : ℕ) (xs : Text) → IsUtf8 (x ∷ xs) → (x ≡ 45) ⊎ (x ≡ 45 → ⊥) → Look (x ∷ xs)
look_at x [] u (inl e) = plain (rw e (record { dashes = refl; long = refl; short = refl; begins = inl refl }))
look_at x (y ∷ ys) u (inl e) = subst (λ (z : ℕ). Look (z ∷ y ∷ ys)) (sym e) (look_on y ys (subst (λ (z : ℕ). IsUtf8 (z ∷ y ∷ ys)) e u) (cases_eq y 45))
look_at x xs u (inr n) =
    let other = ne_eqb x 45 n in
    let back = ne_eqb 45 x (λ e. n (sym e)) in
    plain (record { dashes = rw other refl; long = rw other refl; short = rw other refl; begins = inr (rw back refl) })

pub look : (word : Text) → is_utf8 word ≡ true → Look word
look [] u = plain (record { dashes = refl; long = refl; short = refl; begins = inr refl })
look (x ∷ xs) u = look_at x xs (IsUtf8-from_is_utf8 (x ∷ xs) u) (cases_eq x 45)

long_turn : (s : Shape) (more : Bool) (h : Kept) (p : ℕ) (word : Text) → HasNoFlag s → IsLong word → turn_fault s [] (within more h p false) word ≡ unknown
long_turn s true h p word none w = rw (w.dashes, w.long, none.long w.name.0) refl
long_turn s false h p word none w = rw (w.dashes, w.long, none.long w.name.0) refl

short_turn : (s : Shape) (more : Bool) (h : Kept) (p : ℕ) (word : Text) → HasNoFlag s → IsShort word → turn_fault s [] (within more h p false) word ≡ unknown
unfolding flags_fault
short_turn s true h p word none w = rw (w.dashes, w.long, w.short, w.spelled, none.short w.c) refl
short_turn s false h p word none w = rw (w.dashes, w.long, w.short, w.spelled, none.short w.c) refl

pub plain_turn : (s : Shape) (more : Bool) (h : Kept) (p : ℕ) (word : Text) → IsPlain word → turn_fault s [] (within more h p false) word ≡ step_fault s p (held h) value
plain_turn s true h p word w = rw (w.dashes, w.long, w.short) refl
plain_turn s false h p word w = rw (w.dashes, w.long, w.short) refl

pub plain_walk : (s : Shape) (more : Bool) (h : Kept) (p : ℕ) (word : Text) → IsPlain word → walked s.rules [] (within more h p false) word ≡ to_positional s.rules (arg_by_index s.rules p) word (within more h p false) (held h)
unfolding walked
plain_walk s true h p word w = rw (w.dashes, w.long, w.short) refl
plain_walk s false h p word w = rw (w.dashes, w.long, w.short) refl

-- ---- the words after a name

-- the kinds of the first failure in the words, from here on
unfoldable pub level_kinds : Shape → Walk → List Text → Kinds
level_kinds s w words =
    let end = (fold (walked s.rules []) w words).held in
    or_else (walk_fault s [] w words)
    (or_else [] (or_else (settle_fault s.rules s.args_override_self end)
    (or_else (defaults_fault (settled s.rules end).rows s.rules) (check_fault s (finished s.rules end) false))))

abbrev pub outcome : Kinds → List Row → Option (List Row)
outcome [] rows = Some rows
outcome (k ∷ ks) rows = None

-- what is found in the words from here on, unless the parse fails
unfoldable pub level : Shape → Walk → List Text → Option (List Row)
level s w words = outcome (level_kinds s w words) (finished s.rules (fold (walked s.rules []) w words).held)

pub level_goes : (s : Shape) (w v : Walk) (word : Text) (rest : List Text) → turn_fault s [] w word ≡ [] → walked s.rules [] w word ≡ v → level s w (word ∷ rest) ≡ level s v rest
unfolding level level_kinds walk_fault
level_goes s w v word rest fine to =
    ap (λ (k : Kinds). outcome (or_else (or_else k (walk_fault s [] (walked s.rules [] w word) rest)) (ends (fold (walked s.rules []) (walked s.rules [] w word) rest).held)) (rows (fold (walked s.rules []) (walked s.rules [] w word) rest).held)) fine
    ∙ ap (λ (u : Walk). outcome (or_else (walk_fault s [] u rest) (ends (fold (walked s.rules []) u rest).held)) (rows (fold (walked s.rules []) u rest).held)) to
  where
    ends : Held → Kinds
    ends end = or_else [] (or_else (settle_fault s.rules s.args_override_self end) (or_else (defaults_fault (settled s.rules end).rows s.rules) (check_fault s (finished s.rules end) false)))

    rows : Held → List Row
    rows end = finished s.rules end

pub level_stops : (s : Shape) (w : Walk) (word : Text) (rest : List Text) (k : ErrorKind) (ks : Kinds) → turn_fault s [] w word ≡ k ∷ ks → level s w (word ∷ rest) ≡ None
unfolding level level_kinds walk_fault
level_stops s w word rest k ks fault = rw fault refl

-- ---- the operands as `clap` finds them, `-` by itself among them

abbrev pub is_flag : Text → Bool
is_flag word = starts_with nat_eq word (45 ∷ []) && not (bytes_eq word (45 ∷ []))

unfoldable pub seen : List Text → Option (List Text)
seen [] = Some []
seen (word ∷ words) =
    if bytes_eq word (codes "--") then Some words
    else (if is_flag word then None else option_map (λ rest. word ∷ rest) (seen words))

pub seen_flag : (word : Text) (words : List Text) → bytes_eq word (45 ∷ 45 ∷ []) ≡ false → starts_with nat_eq word (45 ∷ []) ≡ true → bytes_eq word (45 ∷ []) ≡ false → seen (word ∷ words) ≡ None
unfolding seen
seen_flag word words no_dashes begins more = rw (no_dashes, begins, more) refl

pub seen_plain : (word : Text) (words : List Text) → IsPlain word → seen (word ∷ words) ≡ option_map (λ rest. word ∷ rest) (seen words)
unfolding seen
seen_plain word words w = elim w.begins [
  | inl e ↦ rw e refl
  | inr other ↦ rw (w.dashes, other) refl
]

pub none_after : {X Y : Type 0} (o : Option X) → option_and_then {T = X} {U = Y} (λ x. None) o ≡ None
none_after None = refl
none_after (Some x) = refl

pub after_map : {X Y Z : Type 0} (f : Y → Option Z) (g : X → Y) (o : Option X) → option_and_then f (option_map g o) ≡ option_and_then (λ x. f (g x)) o
after_map f g None = refl
after_map f g (Some x) = refl

dashed : (s : Shape) (more : Bool) (h : Kept) (p : ℕ) (word : Text) (words : List Text) → word ≡ 45 ∷ 45 ∷ [] → level s (within more h p false) (word ∷ words) ≡ level s (within more h p true) words
unfolding walked
dashed s true h p word words e = level_goes s (within true h p false) (within true h p true) word words (rw e refl) (rw e refl)
dashed s false h p word words e = level_goes s (within false h p false) (within false h p true) word words (rw e refl) (rw e refl)

seen_dashes : (f : List Text → Option (List Row)) (word : Text) (words : List Text) → word ≡ 45 ∷ 45 ∷ [] → option_and_then f (seen (word ∷ words)) ≡ f words
unfolding seen
seen_dashes f word words e = rw e refl

-- Where f finds the words after `--`, it finds all words by the operands.
pub found_next : (s : Shape) (more : Bool) (h : Kept) (p : ℕ) (f : List Text → Option (List Row)) → HasNoFlag s
    → ((words : List Text) → level s (within more h p true) words ≡ f words)
    → (word : Text) (words : List Text) → is_utf8 word ≡ true
    → (IsPlain word → level s (within more h p false) (word ∷ words) ≡ option_and_then (λ rest. f (word ∷ rest)) (seen words))
    → level s (within more h p false) (word ∷ words) ≡ option_and_then f (seen (word ∷ words))
found_next s more h p f none following word words u before =
    elim (look word u) [
      | dashes e ↦ dashed s more h p word words e ∙ following words ∙ sym (seen_dashes f word words e)
      | long w ↦ level_stops s (within more h p false) word words kind.UnknownArgument [] (long_turn s more h p word none w) ∙ sym (ap (option_and_then f) (seen_flag word words w.dashes w.begins w.more))
      | short w ↦ level_stops s (within more h p false) word words kind.UnknownArgument [] (short_turn s more h p word none w) ∙ sym (ap (option_and_then f) (seen_flag word words w.dashes w.begins w.more))
      | plain w ↦ before w ∙ sym (ap (option_and_then f) (seen_plain word words w) ∙ after_map f (λ rest. word ∷ rest) (seen words))
    ]

pub found : (s : Shape) (h : Kept) (p : ℕ) (f : List Text → Option (List Row)) → HasNoFlag s
    → ((words : List Text) → level s (at h p true) words ≡ f words)
    → ((word : Text) (words : List Text) → IsPlain word → list_all is_utf8 words ≡ true → level s (at h p false) (word ∷ words) ≡ option_and_then (λ rest. f (word ∷ rest)) (seen words))
    → (words : List Text) → list_all is_utf8 words ≡ true → level s (at h p false) words ≡ option_and_then f (seen words)
unfolding level level_kinds seen walk_fault
found s h p f none following before [] u = following []
found s h p f none following before (word ∷ words) u =
    let parts = and_parts (is_utf8 word) (list_all is_utf8 words) u in
    found_next s false h p f none following word words parts.0 (λ w. before word words w parts.1)
