-- An ordered list after a new item was inserted at its place.
use Rattle.std.proofs.Common.{◌≡◌, ℕ, ◌<◌, ◌≤◌, Bool, true, false, List, ◌++◌, length, get_or, take, drop, refl}
use Rattle.std.proofs.Math.ListN.{set}
use Rattle.std.proofs.Math.Seq.{drop-cons}
use Rattle.std.specs.List.{insert}
use Rattle.std.proofs.lemmas.List.Edits.{insert_end}
use Rattle.std.proofs.lemmas.List.{set_split, take_all, drop_all}
use Rattle.vp_model.specs.Words.{put}

module _ {A : Type 0} (same before : A → A → Bool) (x : A) (xs : List A) (i : ℕ) (h : put same before x xs ≡ take i xs ++ put same before x (drop i xs)) where
  pub put-same : (d : A) → i < length xs → same x (get_or xs i d) ≡ true → put same before x xs ≡ set xs i x
  put-same d l s = rw (h, drop-cons xs i d, s, set_split xs i x l) refl

  pub put-before : (d : A) → i < length xs → same x (get_or xs i d) ≡ false → before x (get_or xs i d) ≡ true → put same before x xs ≡ insert xs i x
  put-before d l s b = rw (h, drop-cons xs i d, s, b) refl

  pub put-last : length xs ≤ i → put same before x xs ≡ insert xs (length xs) x
  put-last l = rw (h, drop_all i xs, take_all i xs, insert_end xs x) refl

pub ruleset placed = (put-same, put-before, put-last)
