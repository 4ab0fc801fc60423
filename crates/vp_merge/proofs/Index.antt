-- The index of numbers after more messages.
use Rattle.std.proofs.Common.{◌≡◌, ◌∙◌, ap, sym, subst, Bool, true, false, cond, ℕ, ◌+◌, ◌<◌, ◌≤◌, suc, List, [], ◌∷◌, ◌++◌, length, Some, None, refl, arith, append-nil, append_assoc, length-append}
use Rattle.std.specs.Prelude.{Option, option_map}
use Rattle.std.specs.List.{position_from}
use Rattle.std.specs.Option.{option_or}
use Rattle.std.specs.Str.{bytes_eq}
use Rattle.vp_model.specs.Types.{Sent}
use Rattle.vp_laws.specs.ShapeLaws.{message_frame}
use Rattle.vp_wire.specs.Grammar.{frame_bytes}
use Rattle.vp_merge.specs.Numbers.{entry_of, number_of, IsIndex, HaveSame, Notes}
use Rattle.vp_merge.specs.declared.numbers.FrameNumbers.{FrameNumbers}
use Rattle.vp_merge.proofs.Entries.{turned}

module _ {X : Type 0} (test : X → Bool) where
  position-more : (xs : List X) (y : X) (i : ℕ) → position_from test i (xs ++ y ∷ []) ≡ option_or (position_from test i xs) (cond (test y) (Some (i + length xs)) None)
  position-more [] y i = let e : i ≡ i + 0 = omega arith in ap (λ n. cond (test y) (Some n) None) e
  position-more (x ∷ xs) y i = go (test x) (position-more xs y (i + 1))
    where
      go : (b : Bool) → position_from test (i + 1) (xs ++ y ∷ []) ≡ option_or (position_from test (i + 1) xs) (cond (test y) (Some (i + 1 + length xs)) None)
          → cond b (Some i) (position_from test (i + 1) (xs ++ y ∷ [])) ≡ option_or (cond b (Some i) (position_from test (i + 1) xs)) (cond (test y) (Some (i + suc (length xs))) None)
      go true rest = refl
      go false rest =
          let e : i + 1 + length xs ≡ i + suc (length xs) = omega arith in
          rest ∙ ap (λ n. option_or (position_from test (i + 1) xs) (cond (test y) (Some n) None)) e

-- the place of an item, counted from i
pub position-within : {X : Type 0} (test : X → Bool) (xs : List X) (i k : ℕ) → position_from test i xs ≡ Some k → (i ≤ k) × (k < i + length xs)
position-within test [] i k e = absurd cc
position-within {X} test (x ∷ xs) i k e = go (test x) e (position-within test xs (i + 1) k)
  where
    go : (b : Bool) → cond b (Some i) (position_from test (i + 1) xs) ≡ Some k → (position_from test (i + 1) xs ≡ Some k → (i + 1 ≤ k) × (k < i + 1 + length xs)) → (i ≤ k) × (k < i + suc (length xs))
    go true q rest = let same : i ≡ k = cc in (omega (arith, same), omega (arith, same))
    go false q rest = let r = rest q in (omega (arith, r.0), omega (arith, r.1))

number-more : (bytes : List ℕ) (all : List Sent) (s : Sent) → number_of bytes (all ++ s ∷ []) ≡ option_or (number_of bytes all) (cond (bytes_eq bytes (frame_bytes (message_frame s))) (Some (length all + 1)) None)
number-more bytes all s =
    let e : 1 + length all ≡ length all + 1 = omega arith in
    position-more (λ (sent : Sent). bytes_eq bytes (frame_bytes (message_frame sent))) all s 1
    ∙ ap (λ n. option_or (number_of bytes all) (cond (bytes_eq bytes (frame_bytes (message_frame s))) (Some n) None)) e

or_none : (o : Option ℕ) → o ≡ option_or o None
or_none None = refl
or_none (Some n) = refl

-- a message was noted
module _ (old new : FrameNumbers) (frame : List ℕ) (number : ℕ)
    (is : (bytes : List ℕ) → entry_of new bytes ≡ cond (bytes_eq frame bytes) (option_map (λ n. option_or n (Some number)) (entry_of old bytes)) (entry_of old bytes)) where
  noted_index : (all : List Sent) (s : Sent) → number ≡ length all + 1 → frame ≡ frame_bytes (message_frame s) → IsIndex old all → IsIndex new (all ++ s ∷ [])
  noted_index all s n f index bytes now e = by (entry_of old bytes) refl (bytes_eq frame bytes) refl
    where
      tested : bytes_eq bytes (frame_bytes (message_frame s)) ≡ bytes_eq frame bytes
      tested = ap (bytes_eq bytes) (sym f) ∙ turned frame bytes

      later : number_of bytes (all ++ s ∷ []) ≡ option_or (number_of bytes all) (cond (bytes_eq frame bytes) (Some number) None)
      later =
          number-more bytes all s
          ∙ ap (λ b. option_or (number_of bytes all) (cond b (Some (length all + 1)) None)) tested
          ∙ ap (λ k. option_or (number_of bytes all) (cond (bytes_eq frame bytes) (Some k) None)) (sym n)

      by : (o : Option (Option ℕ)) → entry_of old bytes ≡ o → (b : Bool) → bytes_eq frame bytes ≡ b → now ≡ number_of bytes (all ++ s ∷ [])
      by None p true q = absurd (let z = sym e ∙ is bytes ∙ rw (q, p) refl in let w : Some now ≡ None = z in cc)
      by None p false q = absurd (let z = sym e ∙ is bytes ∙ rw (q, p) refl in let w : Some now ≡ None = z in cc)
      by (Some was) p true q =
          let z : Some now ≡ Some (option_or was (Some number)) = sym e ∙ is bytes ∙ rw (q, p) refl in
          let same : now ≡ option_or was (Some number) = cc in
          same ∙ ap (λ w. option_or w (Some number)) (index bytes was p) ∙ sym (later ∙ rw q refl)
      by (Some was) p false q =
          let z : Some now ≡ Some was = sym e ∙ is bytes ∙ rw (q, p) refl in
          let same : now ≡ was = cc in
          same ∙ index bytes was p ∙ or_none (number_of bytes all) ∙ sym (later ∙ rw q refl)

pub notes_none : (first : ℕ) (n : FrameNumbers) → Notes first [] n n
notes_none first n = record { index = λ all e index. subst (IsIndex n) (sym (append-nil all)) index; same = λ bytes. refl }

-- one message more was noted
pub notes_more : (first : ℕ) (messages : List Sent) (old mid new : FrameNumbers) (s : Sent) (frame : List ℕ) (number : ℕ) → Notes first messages old mid → HaveSame mid new
    → ((bytes : List ℕ) → entry_of new bytes ≡ cond (bytes_eq frame bytes) (option_map (λ n. option_or n (Some number)) (entry_of mid bytes)) (entry_of mid bytes))
    → number ≡ first + length messages → frame ≡ frame_bytes (message_frame s) → Notes first (messages ++ s ∷ []) old new
notes_more first messages old mid new s frame number h same is n f =
    record {
      index = λ all e index.
          let count = length-append all messages in
          subst (IsIndex new) (append_assoc all messages (s ∷ [])) (noted_index mid new frame number is (all ++ messages) s (omega (arith, e, n, count)) f (h.index all e index));
      same = λ bytes. same bytes ∙ h.same bytes;
    }

-- a frame was added, before any message was sent
pub added_index : (old new : FrameNumbers) (frame : List ℕ) → ((bytes : List ℕ) → entry_of new bytes ≡ cond (bytes_eq frame bytes) (Some None) (entry_of old bytes)) → IsIndex old [] → IsIndex new []
added_index old new frame is index bytes number e = go (bytes_eq frame bytes) (sym e ∙ is bytes)
  where
    go : (b : Bool) → Some number ≡ cond b (Some None) (entry_of old bytes) → number ≡ None
    go true z = cc
    go false z = index bytes number (sym z)
