-- A record has changed where the operations wrote it or a table was given for it.
use Rattle.std.proofs.Common.{◌≡◌, ◌∙◌, ℕ, Bool, true, false, if◌then◌else◌, List, [], ◌∷◌, map, Option, Some, None, is_some, option_map, find, refl, sym, ap}
use Rattle.std.specs.Prelude.{◌==◌, ◌||◌}
use Rattle.std.proofs.Math.Bool.{or-false}
use Rattle.vp_model.specs.Types.{Change, Live}
use Rattle.vp_model.specs.Words.{for_each, put_at, value_at}
use Rattle.vp_model.specs.Catalogue.{Table}
use Rattle.vp_model.specs.Transactions.{last_writes, change_of, entry_of, last_changes}
use Rattle.vp_coordinator.proofs.LastWrites.{put_first}

some_chosen : {V : Type 0} (b : Bool) (v : V) (o : Option V) → is_some (if b then Some v else o) ≡ (is_some o || b)
some_chosen true v None = refl
some_chosen true v (Some w) = refl
some_chosen false v None = refl
some_chosen false v (Some w) = refl

-- one more table
one_more : (before b : Bool) (t : ℕ × Table) (o : Option (ℕ × Table)) → ((before || b) || is_some (option_map (λ (p : ℕ × Table). p.1) o)) ≡ (before || is_some (option_map (λ (p : ℕ × Table). p.1) (if b then Some t else o)))
one_more true b t o = refl
one_more false true t o = refl
one_more false false t o = refl

module _ (rec : ℕ) (f : ℕ → Change) where
  -- what was written keeps its place
  written_there : (contents : List (ℕ × Option (List ℕ))) → is_some (value_at rec (map (λ (w : ℕ × Option (List ℕ)). (w.0, f w.0)) contents)) ≡ is_some (value_at rec contents)
  written_there [] = refl
  written_there (w ∷ contents) =
      elim (w.0 == rec) as (λ b. is_some (option_map (λ (p : ℕ × Change). p.1) (if b then Some (w.0, f w.0) else find (λ (p : ℕ × Change). p.0 == rec) (map (λ (w : ℕ × Option (List ℕ)). (w.0, f w.0)) contents))) ≡ is_some (option_map (λ (p : ℕ × Option (List ℕ)). p.1) (if b then Some w else find (λ (p : ℕ × Option (List ℕ)). p.0 == rec) contents)))
      [ true ↦ refl | false ↦ written_there contents ]

  -- a table for another record leaves it, one for this record puts it
  put_there : (n : ℕ) (changes : List (ℕ × Change)) → is_some (value_at rec (put_at n (f n) changes)) ≡ (is_some (value_at rec changes) || (n == rec))
  put_there n changes = ap is_some (put_first rec n (f n) changes) ∙ some_chosen (n == rec) (f n) (value_at rec changes)

  given_there : (tables : List (ℕ × Table)) (changes : List (ℕ × Change)) → is_some (value_at rec (for_each tables (λ (t : ℕ × Table). put_at t.0 (f t.0)) changes)) ≡ (is_some (value_at rec changes) || is_some (value_at rec tables))
  given_there [] changes = sym (or-false (is_some (value_at rec changes)))
  given_there (t ∷ tables) changes =
      given_there tables (put_at t.0 (f t.0) changes)
      ∙ ap (λ (b : Bool). b || is_some (value_at rec tables)) (put_there t.0 changes)
      ∙ one_more (is_some (value_at rec changes)) (t.0 == rec) t (find (λ (p : ℕ × Table). p.0 == rec) tables)

changed_there : (t : Live) (rec : ℕ) → is_some (value_at rec (last_changes (entry_of t))) ≡ (is_some (value_at rec (last_writes t.ops)) || is_some (value_at rec t.tables))
changed_there t rec =
    let f : ℕ → Change = λ n. change_of n t.ops t.tables in
    given_there rec f t.tables (map (λ (w : ℕ × Option (List ℕ)). (w.0, f w.0)) (last_writes t.ops))
    ∙ ap (λ (b : Bool). b || is_some (value_at rec t.tables)) (written_there rec f (last_writes t.ops))

pub by_write : (t : Live) (rec : ℕ) → is_some (value_at rec (last_writes t.ops)) ≡ true → true ≡ is_some (value_at rec (last_changes (entry_of t)))
by_write t rec wrote = sym (changed_there t rec ∙ ap (λ (b : Bool). b || is_some (value_at rec t.tables)) wrote)

pub by_table : (t : Live) (rec : ℕ) → is_some (value_at rec (last_writes t.ops)) ≡ false → is_some (value_at rec t.tables) ≡ is_some (value_at rec (last_changes (entry_of t)))
by_table t rec none = sym (changed_there t rec ∙ ap (λ (b : Bool). b || is_some (value_at rec t.tables)) none)
