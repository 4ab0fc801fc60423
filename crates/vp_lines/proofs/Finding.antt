-- A line is found piece by piece.
use Rattle.std.proofs.Common.{◌≡◌, ◌∙◌, ℕ, zero, suc, ◌+◌, ◌-◌, ◌≤◌, ◌<◌, ◌==◌, min, position, Bool, true, false, List, [], ◌∷◌, ◌++◌, length, take, drop, refl, sym, ap, subst, arith, append_assoc, Ok, Err}
use Rattle.std.specs.Prelude.{Option, Some, None}
use Rattle.std.specs.Io.KnownBytes.{Consumes}
use Rattle.std.proofs.lemmas.Bool.{false≢true}
use Rattle.std.proofs.lemmas.List.{append-nil, length-append, take_all, take-append-drop, drop-drop}
use Rattle.vp_text.specs.Documents.{HasNoNewline}
use Rattle.vp_lines.proofs.Newlines.{newline_at}
use Rattle.vp_text.proofs.Items.{all_append}
use Rattle.vp_outside.specs.Causes.{Rose}
use Rattle.vp_outside.specs.Input.{SourceState, Took}
use Rattle.vp_outside.specs.declared.source.InputFault.{InputFault}
use Rattle.vp_outside.specs.declared.source.InputFault.TheVariants as faults
use Rattle.vp_outside.proofs.Pieces.{Took-more}
use Rattle.vp_lines.specs.Ahead.{Ahead, fitting, rest_found, HasLine, HasNoLine, HasRest, Finds, Passes, Fills}
use Rattle.vp_lines.specs.declared.unread.LineFound.{LineFound}
use Rattle.vp_lines.specs.declared.unread.LineFound.TheVariants as found

-- ---- the front of a list

pub take_append : (n : ℕ) (xs ys : List ℕ) → take n (xs ++ ys) ≡ take n xs ++ take (n - length xs) ys
take_append zero xs ys = let none : 0 - length xs ≡ 0 = omega arith in rw none refl
take_append (suc n) [] ys = let all : suc n - 0 ≡ suc n = omega arith in rw all refl
take_append (suc n) (x ∷ xs) ys =
    let less : suc n - suc (length xs) ≡ n - length xs = omega arith in
    rw less (ap (λ (l : List ℕ). x ∷ l) (take_append n xs ys))

pub take_none : (n : ℕ) → take {A = ℕ} n [] ≡ []
take_none zero = refl
take_none (suc n) = refl

-- a newline in a part of a piece
pub after_part : (k n : ℕ) (xs : List ℕ) → drop k (take n xs) ≡ take (n - k) (drop k xs)
after_part zero n xs = let all : n - 0 ≡ n = omega arith in rw all refl
after_part (suc k) zero xs = let none : 0 - suc k ≡ 0 = omega arith in rw none refl
after_part (suc k) (suc n) [] = sym (take_none (suc n - suc k))
after_part (suc k) (suc n) (x ∷ xs) = let less : suc n - suc k ≡ n - k = omega arith in rw less (after_part k n xs)

pub passes_line : (piece : List ℕ) (at end count : ℕ) → position (λ b. b == 10) (take (end - at) (drop at piece)) ≡ Some count →
    HasNoNewline (take count (take (end - at) (drop at piece))) × (take (end - at) (drop at piece) ≡ take count (take (end - at) (drop at piece)) ++ 10 ∷ take (end - (at + (count + 1))) (drop (at + (count + 1)) piece))
passes_line piece at end count e =
    let unread = take (end - at) (drop at piece) in
    let f = newline_at unread count e in
    let next : suc count ≡ count + 1 = omega arith in
    let less : end - at - suc count ≡ end - (at + (count + 1)) = omega arith in
    let following : drop (suc count) unread ≡ take (end - (at + (count + 1))) (drop (at + (count + 1)) piece) =
    after_part (suc count) (end - at) (drop at piece) ∙ ap (λ n. take n (drop (suc count) (drop at piece))) less
    ∙ ap (take (end - (at + (count + 1)))) (drop-drop (suc count) at piece ∙ ap (λ n. drop (at + n) piece) next) in
    (f.1, sym (take-append-drop count unread) ∙ ap (λ (l : List ℕ). take count unread ++ l) (f.2 ∙ ap (λ (l : List ℕ). 10 ∷ l) following))

-- what has no room is left out once or twice
take_front : (n : ℕ) (xs ys : List ℕ) → take n (take n xs ++ ys) ≡ take n (xs ++ ys)
take_front zero xs ys = refl
take_front (suc n) [] ys = refl
take_front (suc n) (x ∷ xs) ys = ap (λ (l : List ℕ). x ∷ l) (take_front n xs ys)

-- bytes after a line, up to a given length in all
pub kept_more : (most : ℕ) (line bytes : List ℕ) → length line ≤ most → line ++ take (min (length bytes) (most - length line)) bytes ≡ take most (line ++ bytes)
kept_more most line bytes le =
    let whole : take most line ≡ line = take_all most line le in
    sym (take_append most line bytes ∙ ap (λ (l : List ℕ). l ++ take (most - length line) bytes) whole ∙ ap (λ (l : List ℕ). line ++ l) (same (most - length line) bytes))
  where
    same : (n : ℕ) (xs : List ℕ) → take n xs ≡ take (min (length xs) n) xs
    same zero xs = let none : min (length xs) 0 ≡ 0 = omega arith in rw none refl
    same (suc n) [] = let none : min 0 (suc n) ≡ 0 = omega arith in rw none refl
    same (suc n) (x ∷ xs) = let less : min (suc (length xs)) (suc n) ≡ suc (min (length xs) n) = omega arith in rw less (ap (λ (l : List ℕ). x ∷ l) (same n xs))

-- of bytes that are taken one after the other, those within the limit
pub fitting_more : (credit : ℕ) (xs ys : List ℕ) → fitting credit (xs ++ ys) ≡ fitting credit xs ++ fitting (credit - length xs) ys
fitting_more credit xs ys =
    let less : credit - 1 - length xs ≡ credit - length xs - 1 = omega arith in
    take_append (credit - 1) xs ys ∙ ap (λ n. take (credit - 1) xs ++ take n ys) less

some_found : (most : ℕ) (xs : List ℕ) → 0 < most → rest_found (take most xs) ≡ rest_found xs
some_found zero xs some = absurd (omega (arith, some))
some_found (suc most) [] some = refl
some_found (suc most) (x ∷ xs) some = refl

-- ---- what is taken

pub took_none : (a : SourceState) → Took [] a a
took_none a = record { bytes_gone = same a.left; counted = grind (arith) }
  where
    same : (left : Option (List ℕ)) → Consumes left left []
    same None = tt
    same (Some xs) = refl

pub took_then : (xs ys : List ℕ) (a b c : SourceState) → Took xs a b → Took ys b c → Took (xs ++ ys) a c
took_then xs ys a b c h k = Took-more xs ys a b c h k.bytes_gone k.counted

took_still : (xs : List ℕ) (a b c : SourceState) → Took xs a b → Took [] b c → Took xs a c
took_still xs a b c h k = subst (λ (l : List ℕ). Took l a c) (append-nil xs) (took_then xs [] a b c h k)

module _ (most : ℕ) (old : Ahead) (source : SourceState) where
  -- These bytes were taken, and this is the line so far.
  pub record SoFar (now : Ahead) (line : List ℕ) (source' : SourceState) : Type 0 where
    pub more : List ℕ
    pub took : Took more source source'
    pub front : List ℕ
    pub plain : HasNoNewline front
    pub parts : old.unread ++ fitting old.credit more ≡ front ++ now.unread
    pub kept : line ≡ take most front
    pub left : now.credit ≡ old.credit - length more
    pub same_faults : source'.faults ≡ source.faults

  pub begun : (line : List ℕ) → line ≡ [] → SoFar old line source
  begun line none = record {
    more = [];
    took = took_none source;
    front = [];
    plain = tt;
    parts = ap (λ (l : List ℕ). old.unread ++ l) (take_none (old.credit - 1)) ∙ append-nil old.unread;
    kept = none ∙ sym (take_none most);
    left = omega arith;
    same_faults = refl;
  }

  module _ (now new : Ahead) (line line' : List ℕ) (source' : SourceState) (h : SoFar now line source') where
    kept_on : (bytes : List ℕ) → line' ≡ take most (line ++ bytes) → line' ≡ take most (h.front ++ bytes)
    kept_on bytes e = e ∙ ap (λ (l : List ℕ). take most (l ++ bytes)) h.kept ∙ take_front most h.front bytes

    found_line : (E : Type 0) → Passes {E = E} most now new line line' (Ok true) → HasLine most old new line' source source'
    found_line E p = record {
      more = h.more;
      took = h.took;
      body = h.front ++ p.0;
      plain = all_append (λ c. c ≡ 10 → ⊥) h.front p.0 h.plain p.1;
      parts = h.parts ∙ ap (λ (l : List ℕ). h.front ++ l) p.2 ∙ sym (append_assoc h.front p.0 (10 ∷ new.unread));
      kept = kept_on p.0 p.3;
      left = p.4 ∙ h.left;
      same_faults = h.same_faults;
    }

    passed_all : (E : Type 0) → Passes {E = E} most now new line line' (Ok false) → SoFar new line' source'
    passed_all E p = record {
      more = h.more;
      took = h.took;
      front = h.front ++ now.unread;
      plain = all_append (λ c. c ≡ 10 → ⊥) h.front now.unread h.plain p.0;
      parts = h.parts ∙ sym (append-nil (h.front ++ now.unread)) ∙ ap (λ (a : Ahead). (h.front ++ now.unread) ++ a.unread) (sym p.1);
      kept = kept_on now.unread p.2;
      left = ap (λ (a : Ahead). a.credit) p.1 ∙ h.left;
      same_faults = h.same_faults;
    }

    pub found_whole : (E : Type 0) (b : Bool) → b ≡ true → Passes {E = E} most now new line line' (Ok b) → HasLine most old new line' source source'
    found_whole E true e p = found_line E p
    found_whole E false e p = absurd (false≢true e)

    pub passed_rest : (E : Type 0) (b : Bool) → b ≡ false → Passes {E = E} most now new line line' (Ok b) → SoFar new line' source' × (new.unread ≡ [])
    passed_rest E true e p = absurd (false≢true (sym e))
    passed_rest E false e p = (passed_all E p, ap (λ (a : Ahead). a.unread) p.1)

  module _ (now new : Ahead) (line : List ℕ) (source' source'' : SourceState) (h : SoFar now line source') (none : now.unread ≡ []) where
    front_is : old.unread ++ fitting old.credit h.more ≡ h.front
    front_is = h.parts ∙ ap (λ (l : List ℕ). h.front ++ l) none ∙ append-nil h.front

    abbrev no_line : Took [] source' source'' → HasNoLine most old new line source source''
    no_line t = record { more = h.more; took = took_still h.more source source' source'' h.took t; plain = subst HasNoNewline (sym front_is) h.plain }

    filled : Fills now new source' source'' (Ok true) → SoFar new line source''
    filled f =
        let piece = f.0 in
        let joined : fitting old.credit (h.more ++ piece) ≡ fitting old.credit h.more ++ new.unread = fitting_more old.credit h.more piece ∙ ap (λ n. fitting old.credit h.more ++ fitting n piece) (sym h.left) ∙ ap (λ (l : List ℕ). fitting old.credit h.more ++ l) (sym f.4) in
        record {
          more = h.more ++ piece;
          took = took_then h.more piece source source' source'' h.took f.1;
          front = h.front;
          plain = h.plain;
          parts = ap (λ (l : List ℕ). old.unread ++ l) joined ∙ sym (append_assoc old.unread (fitting old.credit h.more) new.unread) ∙ ap (λ (l : List ℕ). l ++ new.unread) front_is;
          kept = h.kept;
          left = let l = h.left in let c = f.5 in omega (arith, l, c, length-append h.more piece);
          same_faults = f.6 ∙ h.same_faults;
        }

    pub filled_more : (b : Bool) → b ≡ true → Fills now new source' source'' (Ok b) → SoFar new line source''
    filled_more true e f = filled f
    filled_more false e f = absurd (false≢true e)

    ended : 0 < most → Fills now new source' source'' (Ok false) → Finds most old new line source source'' (Ok (rest_found line))
    ended some f =
        let few : length h.more < old.credit = let l = h.left in let c = f.1 in omega (arith, l, c) in
        let whole : old.unread ++ h.more ≡ h.front = ap (λ (l : List ℕ). old.unread ++ l) (sym (take_all (old.credit - 1) h.more (omega (arith, few)))) ∙ front_is in
        by (rest_found line) (record {
          none = no_line f.0;
          few = few;
          ended = f.2;
          kept = h.kept ∙ ap (take most) (sym whole);
          is = ap rest_found h.kept ∙ some_found most h.front some ∙ ap rest_found (sym whole);
          left = f.4 ∙ h.left;
          same_faults = f.3 ∙ h.same_faults;
        })
      where
        never : (xs : List ℕ) → found.Line ≡ rest_found xs → ⊥
        never [] e = let no : found.Line ≡ found.End = e in cc
        never (x ∷ xs) e = let no : found.Line ≡ found.Rest = e in cc

        by : (what : LineFound) → HasRest most old new line source source'' what → Finds most old new line source source'' (Ok what)
        by found.Line r = absurd (never _ r.is)
        by found.Rest r = r
        by found.End r = r

    pub ended_there : 0 < most → (b : Bool) → b ≡ false → Fills now new source' source'' (Ok b) → (what : LineFound) → what ≡ rest_found line → Finds most old new line source source'' (Ok what)
    ended_there some true e f what is = absurd (false≢true (sym e))
    ended_there some false e f what is = subst (λ (w : LineFound). Finds most old new line source source'' (Ok w)) (sym is) (ended some f)

    pub unfilled : (e : InputFault) → Fills now new source' source'' (Err e) → Finds most old new line source source'' (Err e)
    unfilled faults.Failed f = (no_line f.0, subst (λ n. Rose n source''.faults) h.same_faults f.1)
    unfilled faults.TooLong f = (
      no_line (subst (λ (s : SourceState). Took [] source' s) (sym f.0) (took_none source')),
      let l = h.left in let z = f.1 in omega (arith, l, z),
      ap (λ (s : SourceState). s.faults) f.0 ∙ h.same_faults,
    )
    unfilled faults.NoMemory f = absurd f
