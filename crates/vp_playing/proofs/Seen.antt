-- What is seen of some lines and then of more, and of lines that each leave one value.
use Rattle.std.proofs.Common.{◌≡◌, ◌∙◌, inl, inr, ap, sym, subst, ℕ, List, [], ◌∷◌, ◌++◌, append_assoc, append-nil}
use Rattle.std.proofs.lemmas.List.{map-append}
use Rattle.std.specs.List.{fold, flat_map}
use Rattle.vp_model.specs.Types.{Line}
use Rattle.vp_model.specs.World.{Moment}
use Rattle.vp_playing.specs.Played.{lines_in, SeesAll, SeesSome}

pub sees_append : {A S : Type 0} (sees : A → S → S → Type 0) (xs ys : List A) (old mid new : S) → SeesAll sees xs old mid → SeesAll sees ys mid new → SeesAll sees (xs ++ ys) old new
sees_append {A} {S} sees [] ys old mid new e more = subst (λ (s : S). SeesAll sees ys s new) e more
sees_append sees (x ∷ xs) ys old mid new h more = (h.0, h.1, sees_append sees xs ys h.0 mid new h.2 more)

module _ {S : Type 0} (sees : ℕ × Line → S → S → Type 0) where
  pub sees_steps : (xs ys : List Moment) (old mid new : S) → SeesAll sees (lines_in xs) old mid → SeesAll sees (lines_in ys) mid new → SeesAll sees (lines_in (xs ++ ys)) old new
  sees_steps xs ys old mid new h more =
      subst (λ (lines : List (ℕ × Line)). SeesAll sees lines old new) (sym (map-append (λ (m : Moment). (m.number, m.line)) xs ys))
      (sees_append sees (lines_in xs) (lines_in ys) old mid new h more)

module _ {S : Type 0} (sees begins : ℕ × Line → S → S → Type 0) where
  pub sees_none : (lines : List (ℕ × Line)) (old new : S) → new ≡ old → SeesSome sees begins lines old new
  sees_none [] old new e = e
  sees_none (line ∷ lines) old new e = inl e

  -- some of the first lines are some of all
  pub some_first : (xs ys : List (ℕ × Line)) (old new : S) → SeesSome sees begins xs old new → SeesSome sees begins (xs ++ ys) old new
  some_first [] ys old new e = sees_none ys old new e
  some_first (x ∷ xs) ys old new (inl e) = inl e
  some_first (x ∷ xs) ys old new (inr (inl b)) = inr (inl b)
  some_first (x ∷ xs) ys old new (inr (inr h)) = inr (inr (h.0, h.1, some_first xs ys h.0 new h.2))

  -- all of the first lines, and some of the others
  pub some_then : (xs ys : List (ℕ × Line)) (old mid new : S) → SeesAll sees xs old mid → SeesSome sees begins ys mid new → SeesSome sees begins (xs ++ ys) old new
  some_then [] ys old mid new e some = subst (λ (s : S). SeesSome sees begins ys s new) e some
  some_then (x ∷ xs) ys old mid new h some = inr (inr (h.0, h.1, some_then xs ys h.0 mid new h.2 some))

-- if each line leaves one value, some lines do too
pub sees_fold : {S : Type 0} (see : S → ℕ × Line → S) (lines : List (ℕ × Line)) (old new : S) → SeesAll (λ line before after. after ≡ see before line) lines old new → new ≡ fold see old lines
sees_fold see [] old new e = e
sees_fold see (line ∷ lines) old new h = sees_fold see lines h.0 new h.2 ∙ ap (λ s. fold see s lines) h.1

-- an observer that appends something for each line
pub sees_appended : {A : Type 0} (shows : ℕ × Line → List A) (lines : List (ℕ × Line)) (old new : List A) → SeesAll (λ line before after. after ≡ before ++ shows line) lines old new → new ≡ old ++ flat_map shows lines
sees_appended {A} shows lines old new h = sees_fold (λ before line. before ++ shows line) lines old new h ∙ appended lines old
  where
    appended : (lines : List (ℕ × Line)) (old : List A) → fold (λ (before : List A) line. before ++ shows line) old lines ≡ old ++ flat_map shows lines
    appended [] old = sym (append-nil old)
    appended (line ∷ lines) old = appended lines (old ++ shows line) ∙ append_assoc old (shows line) (flat_map shows lines)
