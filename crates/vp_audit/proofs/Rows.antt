-- If no doubt is listed, no site is in doubt on the record.
use Rattle.std.proofs.Common.{◌≡◌, ◌∙◌, sym, subst, ℕ, Bool, true, false, cond, List, [], ◌∷◌, refl, ⊎_elim}
use Rattle.std.specs.Prelude.{filter}
use Rattle.vp_model.specs.Types.{Doubt}
use Rattle.vp_model.specs.Words.{put, for_each}
use Rattle.vp_model.specs.Durable.{DurableState}
use Rattle.vp_laws.proofs.Lists.Members.{Has, has_none, has_cons}
use Rattle.vp_audit.specs.declared.found.DoubtAt.{DoubtAt}
use Rattle.vp_audit.specs.Audited.{Parts, row_before, rows_at, rows_of, rows_on, same_row, writes_to}

put_some : (row : DoubtAt) (rows : List DoubtAt) → put same_row row_before row rows ≡ [] → ⊥
put_some row [] e = cc
put_some row (other ∷ rows) e = go (same_row row other) (row_before row other) e
  where
    go : (a b : Bool) → cond a (row ∷ rows) (cond b (row ∷ other ∷ rows) (other ∷ put same_row row_before row rows)) ≡ [] → ⊥
    go true b q = cc
    go false true q = cc
    go false false q = cc

abbrev AreSome : List DoubtAt → Type 0
AreSome rows = rows ≡ [] → ⊥

abbrev row_of : ℕ → Doubt → DoubtAt
row_of site u = record { txn = u.txn; view = u.view; site = site }

more_some : (site : ℕ) (doubts : List Doubt) (rows : List DoubtAt) → AreSome rows → AreSome (rows_of site doubts rows)
more_some site [] rows some e = some e
more_some site (u ∷ doubts) rows some e = more_some site doubts (put same_row row_before (row_of site u) rows) (put_some (row_of site u) rows) e

some_more : (site : ℕ) (doubts : List Doubt) (rows : List DoubtAt) → rows_of site doubts rows ≡ [] → doubts ≡ []
some_more site [] rows e = refl
some_more site (u ∷ doubts) rows e = absurd (more_some site doubts (put same_row row_before (row_of site u) rows) (put_some (row_of site u) rows) e)

abbrev doubts_on : ℕ → ℕ × DurableState → List Doubt
doubts_on rec p = filter (writes_to rec) p.1.doubts

all_some : (rec : ℕ) (parts : Parts) (rows : List DoubtAt) → AreSome rows → AreSome (for_each parts (rows_at rec) rows)
all_some rec [] rows some e = some e
all_some rec (p ∷ parts) rows some e = all_some rec parts (rows_at rec p rows) (more_some p.0 (doubts_on rec p) rows some) e

none_from : (rec : ℕ) (parts : Parts) (rows : List DoubtAt) → for_each parts (rows_at rec) rows ≡ [] → (p : ℕ × DurableState) → Has parts p → doubts_on rec p ≡ []
none_from rec [] rows e p h = absurd (has_none p h)
none_from rec (q ∷ parts) rows e p h = ⊎_elim
    (λ (one : q ≡ p). subst (λ (p : ℕ × DurableState). doubts_on rec p ≡ []) one (here (doubts_on rec q) refl))
    (λ later. none_from rec parts (rows_at rec q rows) e p later)
    (has_cons q parts p h)
  where
    here : (us : List Doubt) → doubts_on rec q ≡ us → us ≡ []
    here [] is = refl
    here (u ∷ us) is = absurd (all_some rec parts (rows_at rec q rows) (λ none. let z = some_more q.0 (doubts_on rec q) rows none in let bad : u ∷ us ≡ [] = sym is ∙ z in cc) e)

pub no_rows : (rec : ℕ) (parts : Parts) → rows_on rec parts ≡ [] → (p : ℕ × DurableState) → Has parts p → filter (writes_to rec) p.1.doubts ≡ []
no_rows rec parts e p h = none_from rec parts [] e p h
