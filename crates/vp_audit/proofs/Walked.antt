-- What is gathered part by part.
use Rattle.std.proofs.Common.{◌≡◌, ◌∙◌, sym, ℕ, ◌+◌, Bool, true, false, cond, List, [], ◌∷◌, ◌++◌, fold, refl, append_assoc, arith}
use Rattle.std.proofs.lemmas.List.{append-nil}
use Rattle.std.proofs.lemmas.List.FromFn.{map-range_with_len_more}
use Rattle.std.specs.Prelude.{Option, Some, None, filter, flat_map, map, option_to_list}
use Rattle.std.specs.List.{range_with_len}
use Rattle.vp_model.specs.Types.{Stored, Doubt}
use Rattle.vp_model.specs.Words.{keys, put, value_at}
use Rattle.vp_model.specs.Catalogue.{Catalogue}
use Rattle.vp_model.specs.Durable.{DurableState}
use Rattle.vp_model.specs.Refresh.{newest}
use Rattle.vp_audit.specs.declared.found.DoubtAt.{DoubtAt}
use Rattle.vp_audit.specs.Audited.{Parts, copies_on, finding_of, is_dated, newest_of, row_before, rows_of, same_row, settled_copy, settled_on, sites_dated, with_copy, writes_to}

-- the newest of this one and some copies
abbrev newest_with : Option Stored → List (ℕ × Stored) → Option Stored
newest_with None copies = newest_of copies
newest_with (Some best) copies = Some (newest best copies)

-- what is chosen of each site: the newest so far, or that of one more site
module _ (chosen : DurableState → Option Stored) where
  abbrev newest_next : Option Stored → ℕ × DurableState → Option Stored
  newest_next best part = with_copy best (chosen part.1)

  abbrev chosen_at : ℕ × DurableState → List (ℕ × Stored)
  chosen_at part = map (λ copy. (part.0, copy)) (option_to_list (chosen part.1))

  newest_from : (best : Option Stored) (parts : Parts) → fold newest_next best parts ≡ newest_with best (flat_map chosen_at parts)
  newest_from None [] = refl
  newest_from (Some best) [] = refl
  newest_from best (p ∷ parts) = go best (chosen p.1) (λ b. newest_from b parts)
    where
      go : (best : Option Stored) (o : Option Stored) → ((b : Option Stored) → fold newest_next b parts ≡ newest_with b (flat_map chosen_at parts)) → fold newest_next (with_copy best o) parts ≡ newest_with best (map (λ copy. (p.0, copy)) (option_to_list o) ++ flat_map chosen_at parts)
      go None None rest = rest None
      go (Some best) None rest = rest (Some best)
      go None (Some copy) rest = rest (Some copy)
      go (Some best) (Some copy) rest = rest (with_copy (Some best) (Some copy))

-- the newest so far, or the settled copy of one more site
abbrev pub newest_step : ℕ → Option Stored → ℕ × DurableState → Option Stored
newest_step rec best part = with_copy best (settled_copy rec part.1)

pub newest_walked : (rec : ℕ) (parts : Parts) → fold (newest_step rec) None parts ≡ newest_of (settled_on rec parts)
newest_walked rec parts = newest_from (settled_copy rec) None parts

-- or its copy, settled or not
abbrev pub any_step : ℕ → Option Stored → ℕ × DurableState → Option Stored
any_step rec best part = with_copy best (value_at rec part.1.copies)

pub any_walked : (rec : ℕ) (parts : Parts) → fold (any_step rec) None parts ≡ newest_of (copies_on rec parts)
any_walked rec parts = newest_from (λ d. value_at rec d.copies) None parts

-- a fold over what passes a test
fold_passing : {A B : Type 0} (test : A → Bool) (f : B → A → B) (b : B) (xs : List A) → fold (λ b x. cond (test x) (f b x) b) b xs ≡ fold f b (filter test xs)
fold_passing test f b [] = refl
fold_passing {A} {B} test f b (x ∷ xs) = go (test x) (fold_passing test f (f b x) xs) (fold_passing test f b xs)
  where
    go : (t : Bool) → fold (λ b x. cond (test x) (f b x) b) (f b x) xs ≡ fold f (f b x) (filter test xs) → fold (λ b x. cond (test x) (f b x) b) b xs ≡ fold f b (filter test xs) → fold (λ b x. cond (test x) (f b x) b) (cond t (f b x) b) xs ≡ fold f b (cond t (x ∷ filter test xs) (filter test xs))
    go true passes fails = passes
    go false passes fails = fails

abbrev with_row : ℕ → List DoubtAt → Doubt → List DoubtAt
with_row site rows u = put same_row row_before (record { txn = u.txn; view = u.view; site = site }) rows

-- one more doubt, if it writes the record
abbrev pub rows_step : ℕ → ℕ → List DoubtAt → Doubt → List DoubtAt
rows_step site rec rows u = cond (writes_to rec u) (with_row site rows u) rows

pub rows_walked : (site rec : ℕ) (rows : List DoubtAt) (doubts : List Doubt) → fold (rows_step site rec) rows doubts ≡ rows_of site (filter (writes_to rec) doubts) rows
rows_walked site rec rows doubts = fold_passing (writes_to rec) (with_row site) rows doubts

-- one more site, if its settled copy has that date
abbrev pub sites_step : Option Stored → ℕ → List ℕ → ℕ × DurableState → List ℕ
sites_step best rec sites part = cond (is_dated best (settled_copy rec part.1)) (sites ++ part.0 ∷ []) sites

sites_from : (best : Option Stored) (rec : ℕ) (sites : List ℕ) (parts : Parts) → fold (sites_step best rec) sites parts ≡ sites ++ sites_dated best rec parts
sites_from best rec sites [] = sym (append-nil sites)
sites_from best rec sites (p ∷ parts) = go (is_dated best (settled_copy rec p.1)) (sites_from best rec (sites ++ p.0 ∷ []) parts) (sites_from best rec sites parts)
  where
    go : (t : Bool) → fold (sites_step best rec) (sites ++ p.0 ∷ []) parts ≡ (sites ++ p.0 ∷ []) ++ sites_dated best rec parts → fold (sites_step best rec) sites parts ≡ sites ++ sites_dated best rec parts → fold (sites_step best rec) (cond t (sites ++ p.0 ∷ []) sites) parts ≡ sites ++ keys (cond t (p ∷ filter (λ (part : ℕ × DurableState). is_dated best (settled_copy rec part.1)) parts) (filter (λ (part : ℕ × DurableState). is_dated best (settled_copy rec part.1)) parts))
    go true passes fails = passes ∙ append_assoc sites (p.0 ∷ []) (sites_dated best rec parts)
    go false passes fails = fails

pub sites_walked : (best : Option Stored) (rec : ℕ) (parts : Parts) → fold (sites_step best rec) [] parts ≡ sites_dated best rec parts
sites_walked best rec parts = sites_from best rec [] parts

-- one more record
pub report_more : (catalogue : Catalogue) (parts : Parts) (n j : ℕ) → n ≡ j → map (finding_of catalogue parts) (range_with_len 0 (n + 1)) ≡ map (finding_of catalogue parts) (range_with_len 0 n) ++ finding_of catalogue parts j ∷ []
report_more catalogue parts n j e = map-range_with_len_more (finding_of catalogue parts) 0 n j (omega (arith, e))
