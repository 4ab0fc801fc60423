-- What a printer leaves that appends one part after another.
use Rattle.std.proofs.Common.{◌≡◌, ℕ, true, List, [], ◌∷◌, ◌++◌, ◌+◌, ◌<◌, ◌≤◌, length, get_or, take, sym, ap, subst, ◌∙◌, append_assoc}
use Rattle.std.specs.Prelude.{⊤, Result, Ok, Err, IsErr, codes, flat_map}
use Rattle.std.specs.Fmt.{decimal}
use Rattle.std.proofs.lemmas.List.{append-nil, take_all, take_more}
use Rattle.std.proofs.lemmas.Grind.{flat_map-append}
use Rattle.vp_text.specs.Printing.{is_begun, Appends}
use Rattle.vp_model.specs.Texts.Schedule.{site_line}
use Rattle.vp_text.proofs.Printing.{all_of, begun_err, begun_none, begun_first, begun_then, begun_item}

-- after an error none of the text
pub none_of : {E : Type 0} (result : Result ⊤ E) (old text new : List ℕ) → IsErr result → new ≡ old → Appends result old text new
none_of result old text new err same = begun_err result old text new err (begun_none old text new same)

-- after an error a beginning of the first part
pub within : {E : Type 0} (result : Result ⊤ E) (old first more new : List ℕ) → IsErr result → is_begun old first new ≡ true → Appends result old (first ++ more) new
within result old first more new err begun = begun_err result old (first ++ more) new err (begun_first old first more new begun)

-- one text after another
pub joined : (old first more mid new : List ℕ) → mid ≡ old ++ first → new ≡ mid ++ more → new ≡ old ++ (first ++ more)
joined old first more mid new e whole = whole ∙ ap (λ (t : List ℕ). t ++ more) e ∙ append_assoc old first more

pub following : {E : Type 0} (result : Result ⊤ E) (old first more mid new : List ℕ) → mid ≡ old ++ first → Appends result mid more new → Appends result old (first ++ more) new
following (Ok x) old first more mid new e a =
    record { whole = joined old first more mid new e a.whole; begun = begun_then old first more new (subst (λ (t : List ℕ). is_begun t more new ≡ true) e a.begun) }
following (Err x) old first more mid new e a = record { whole = a.whole; begun = begun_then old first more new (subst (λ (t : List ℕ). is_begun t more new ≡ true) e a.begun) }

-- the texts of a list's items, one after another: one more of them, after an error a beginning of one more, and all
module _ {X : Type 0} (f : X → List ℕ) (xs : List X) (i : ℕ) where
  pub item_after : (x : X) (old mid new : List ℕ) → i < length xs → x ≡ get_or xs i x → mid ≡ old ++ flat_map f (take i xs) → new ≡ mid ++ f x → new ≡ old ++ flat_map f (take (i + 1) xs)
  item_after x old mid new lt is before e =
      let one : flat_map f (x ∷ []) ≡ f x = append-nil (f x) in
      let more : flat_map f (take (i + 1) xs) ≡ flat_map f (take i xs) ++ f x =
      ap (λ (t : List X). flat_map f t) (take_more xs i x lt ∙ ap (λ (y : X). take i xs ++ y ∷ []) (sym is)) ∙ flat_map-append f (take i xs) (x ∷ []) ∙ ap (λ (t : List ℕ). flat_map f (take i xs) ++ t) one in
      joined old (flat_map f (take i xs)) (f x) mid new before e ∙ ap (λ (t : List ℕ). old ++ t) (sym more)

  pub item_begun : {E : Type 0} (result : Result ⊤ E) (x : X) (old mid new : List ℕ) → i < length xs → x ≡ get_or xs i x → mid ≡ old ++ flat_map f (take i xs) → IsErr result → Appends result mid (f x) new → Appends result old (flat_map f xs) new
  item_begun result x old mid new lt is before err a = begun_err result old (flat_map f xs) new err (begun_item f xs i x old mid new lt is before a.begun)

  pub all_items : {E : Type 0} (old new : List ℕ) → length xs ≤ i → new ≡ old ++ flat_map f (take i xs) → Appends {E = E} (Ok tt) old (flat_map f xs) new
  all_items old new le e = all_of old (flat_map f xs) new (e ∙ ap (λ (t : List X). old ++ flat_map f t) (take_all i xs le))

-- a site's line without its newline
abbrev pub site_parts : ℕ × ℕ → List ℕ
site_parts site = codes "site " ++ (decimal site.0 ++ 32 ∷ decimal site.1)

pub line_ends : (site : ℕ × ℕ) → site_parts site ++ 10 ∷ [] ≡ site_line site
line_ends site = ap (λ (t : List ℕ). codes "site " ++ t) (append_assoc (decimal site.0) (32 ∷ decimal site.1) (10 ∷ []))

pub begun_line : {E : Type 0} (result : Result ⊤ E) (old : List ℕ) (site : ℕ × ℕ) (new : List ℕ) → IsErr result → is_begun old (site_parts site) new ≡ true → Appends result old (site_line site) new
begun_line result old site new err begun = subst (λ (t : List ℕ). Appends result old t new) (line_ends site) (within result old (site_parts site) (10 ∷ []) new err begun)
