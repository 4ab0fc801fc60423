-- The value of a held record after the entries of a view and all lower ones, and when an added entry leaves it unchanged.
use Rattle.std.proofs.Common.{◌≡◌, ◌⊎◌, ◌∙◌, ap, ℕ, Bool, true, false, List, [], ◌∷◌, ◌++◌, refl, inl, inr}
use Rattle.std.specs.Prelude.{Option, Some, None, option_map, slice_get, ◌&&◌}
use Rattle.std.specs.List.{list_any}
use Rattle.std.proofs.lemmas.Option.{slice_get-map}
use Rattle.vp_model.specs.Types.{ViewId, Commit, Doubt}
use Rattle.vp_model.specs.Words.{has, keys, same_view}
use Rattle.vp_model.specs.Catalogue.{Catalogue, RecordEntry, holders, start_values}
use Rattle.vp_laws.proofs.Lists.Members.{Has, has_none, any_true, any_false, both_true, has_from_test, has_test}
use Rattle.vp_laws.proofs.Lists.Views.{AtMost, same_is, same_from}
use Rattle.vp_laws.proofs.Journal.ValuesAfter.{Content, started, Wrote, value_up_to, value_after, value_more}

-- an entry of a view above, or one that has not written the record, leaves its value
pub after_more : (catalogue : Catalogue) (journal : List Commit) (e : Commit) (date : ViewId) (rec : ℕ) → (Wrote e rec → AtMost e.view date → ⊥) → value_after catalogue (journal ++ e ∷ []) date rec ≡ value_after catalogue journal date rec
after_more catalogue journal e date rec none = go (slice_get (start_values catalogue) rec)
  where
    go : (o : Option (Option (List ℕ))) → option_map (λ start. value_up_to rec (started start) (journal ++ e ∷ []) date) o ≡ option_map (λ start. value_up_to rec (started start) journal date) o
    go None = refl
    go (Some start) = ap (λ (v : Content). Some v) (value_more rec (started start) journal e date none)

-- a record that has a holder has a value
pub after_is : (catalogue : Catalogue) (journal : List Commit) (date : ViewId) (rec q : ℕ) (value : Content) → Has (holders catalogue rec) q → ((start : Content) → value_up_to rec start journal date ≡ value) → value_after catalogue journal date rec ≡ Some value
after_is catalogue journal date rec q value h all = go (slice_get catalogue.records rec) refl
  where
    go : (o : Option RecordEntry) → slice_get catalogue.records rec ≡ o → value_after catalogue journal date rec ≡ Some value
    go None e = absurd (has_none q (rw e at h))
    go (Some entry) e =
        let is : slice_get (start_values catalogue) rec ≡ Some (Some entry.start) = slice_get-map (λ (r : RecordEntry). Some r.start) catalogue.records rec ∙ ap (option_map (λ (r : RecordEntry). Some r.start)) e in
        ap (option_map (λ start. value_up_to rec (started start) journal date)) is ∙ ap (λ (v : Content). Some v) (all (started (Some entry.start)))

-- some doubt of the view writes the record, or none does
pub doubt_or_none : (doubts : List Doubt) (rec : ℕ) (date : ViewId) → ((u : Doubt) × Has doubts u × Has (keys u.writes) rec × (u.view ≡ date)) ⊎ ((u : Doubt) → Has doubts u → Has (keys u.writes) rec → u.view ≡ date → ⊥)
doubt_or_none doubts rec date = go (list_any (λ (u : Doubt). has (keys u.writes) rec && same_view u.view date) doubts) refl
  where
    go : (b : Bool) → list_any (λ (u : Doubt). has (keys u.writes) rec && same_view u.view date) doubts ≡ b → ((u : Doubt) × Has doubts u × Has (keys u.writes) rec × (u.view ≡ date)) ⊎ ((u : Doubt) → Has doubts u → Has (keys u.writes) rec → u.view ≡ date → ⊥)
    go true e =
        let q = any_true (λ (u : Doubt). has (keys u.writes) rec && same_view u.view date) doubts e in
        let t = both_true (has (keys q.0.writes) rec) (same_view q.0.view date) q.2 in
        inl (q.0, q.1, has_from_test (keys q.0.writes) rec t.0, same_is q.0.view date t.1)
    go false e = inr (λ u h on is.
        let t = any_false (λ (u : Doubt). has (keys u.writes) rec && same_view u.view date) doubts e u h in
        not_both_tests (has (keys u.writes) rec) (same_view u.view date) t (has_test (keys u.writes) rec on) (same_from u.view date is))
      where
        not_both_tests : (a b : Bool) → (a && b) ≡ false → a ≡ true → b ≡ true → ⊥
        not_both_tests true b e f g = cc
        not_both_tests false b e f g = cc

pub after_some : (catalogue : Catalogue) (journal : List Commit) (date : ViewId) (rec q : ℕ) → Has (holders catalogue rec) q → (value : Content) × (value_after catalogue journal date rec ≡ Some value)
after_some catalogue journal date rec q h = go (slice_get catalogue.records rec) refl
  where
    go : (o : Option RecordEntry) → slice_get catalogue.records rec ≡ o → (value : Content) × (value_after catalogue journal date rec ≡ Some value)
    go None e = absurd (has_none q (rw e at h))
    go (Some entry) e =
        let is : slice_get (start_values catalogue) rec ≡ Some (Some entry.start) = slice_get-map (λ (r : RecordEntry). Some r.start) catalogue.records rec ∙ ap (option_map (λ (r : RecordEntry). Some r.start)) e in
        (value_up_to rec (started (Some entry.start)) journal date, ap (option_map (λ start. value_up_to rec (started start) journal date)) is)
