-- What the changes of an entry make of a record: its last written content, and the table that it gave.
use Rattle.std.proofs.Common.{◌≡◌, ◌⊎◌, ◌∙◌, ap, sym, ℕ, ◌<◌, Bool, true, false, cond, List, [], ◌∷◌, refl, inl, inr, map, ⊎_elim}
use Rattle.std.specs.Prelude.{Option, Some, None, ◌==◌, option_map, find}
use Rattle.std.specs.List.{AllByRecursion}
use Rattle.std.specs.Option.{option_map_or}
use Rattle.std.proofs.lemmas.Bool.{eqb-true}
use Rattle.vp_model.specs.Types.{Change, Commit}
use Rattle.vp_model.specs.Words.{first_some, for_each, keys, put_at, value_at}
use Rattle.vp_model.specs.Catalogue.{Table}
use Rattle.vp_model.specs.Durable.{with_put, with_new_table}
use Rattle.vp_model.specs.Transactions.{last_writes, last_put, change_of, last_changes}
use Rattle.vp_laws.proofs.Lists.Members.{Has}
use Rattle.vp_laws.proofs.Lists.Pairs.{Differ, pair_value}
use Rattle.vp_laws.proofs.Journal.Places.{ascending_differ}
use Rattle.vp_laws.proofs.Journal.Play.{Write, Ascending, put_ascending, last_ascending, value_put}
use Rattle.vp_laws.proofs.Journal.ValuesAfter.{Content, writes_over}

module _ (n : ℕ) (g : ℕ → Change) where
  abbrev Given : Type 0
  Given = ℕ × Table

  -- among pairs that are put, and what was there before
  put_last : (ts : List Given) (ws : List (ℕ × Change)) → (value_at n (for_each ts (λ (t : Given). put_at t.0 (g t.0)) ws) ≡ Some (g n)) ⊎ ((value_at n ts ≡ None) × (value_at n (for_each ts (λ (t : Given). put_at t.0 (g t.0)) ws) ≡ value_at n ws))
  put_last [] ws = inr (refl, refl)
  put_last (t ∷ ts) ws = ⊎_elim (λ q. inl q) (λ q. go (t.0 == n) refl q.0 (q.1 ∙ value_put n t.0 (g t.0) ws)) (put_last ts (put_at t.0 (g t.0) ws))
    where
      now : List (ℕ × Change)
      now = for_each ts (λ (t : Given). put_at t.0 (g t.0)) (put_at t.0 (g t.0) ws)

      go : (b : Bool) → (t.0 == n) ≡ b → value_at n ts ≡ None → value_at n (for_each ts (λ (t : Given). put_at t.0 (g t.0)) (put_at t.0 (g t.0) ws)) ≡ cond (t.0 == n) (Some (g t.0)) (value_at n ws) → (value_at n (for_each ts (λ (t : Given). put_at t.0 (g t.0)) (put_at t.0 (g t.0) ws)) ≡ Some (g n)) ⊎ ((value_at n (t ∷ ts) ≡ None) × (value_at n (for_each ts (λ (t : Given). put_at t.0 (g t.0)) (put_at t.0 (g t.0) ws)) ≡ value_at n ws))
      go true e none is = inl ((rw e at is) ∙ ap (λ (k : ℕ). Some (g k)) (eqb-true t.0 n e))
      go false e none is = inr (rw e none, (rw e at is))

  put_none : (ts : List Given) (ws : List (ℕ × Change)) → value_at n ts ≡ None → value_at n (for_each ts (λ (t : Given). put_at t.0 (g t.0)) ws) ≡ value_at n ws
  put_none [] ws e = refl
  put_none (t ∷ ts) ws e = go (t.0 == n) refl e (λ q. put_none ts (put_at t.0 (g t.0) ws) q)
    where
      go : (b : Bool) → (t.0 == n) ≡ b → option_map (λ (p : Given). p.1) (cond b (Some t) (find (λ (p : Given). p.0 == n) ts)) ≡ None → (value_at n ts ≡ None → value_at n (for_each ts (λ (t : Given). put_at t.0 (g t.0)) (put_at t.0 (g t.0) ws)) ≡ value_at n (put_at t.0 (g t.0) ws)) → value_at n (for_each ts (λ (t : Given). put_at t.0 (g t.0)) (put_at t.0 (g t.0) ws)) ≡ value_at n ws
      go true q e rest = cc
      go false q e rest = rest e ∙ value_put n t.0 (g t.0) ws ∙ rw q refl

  mapped_at : (ws : List Write) → value_at n (map (λ (w : Write). (w.0, g w.0)) ws) ≡ option_map (λ (v : Option (List ℕ)). g n) (value_at n ws)
  mapped_at [] = refl
  mapped_at (w ∷ ws) = go (w.0 == n) refl (mapped_at ws)
    where
      go : (b : Bool) → (w.0 == n) ≡ b → value_at n (map (λ (w : Write). (w.0, g w.0)) ws) ≡ option_map (λ (v : Option (List ℕ)). g n) (value_at n ws) → value_at n (map (λ (w : Write). (w.0, g w.0)) (w ∷ ws)) ≡ option_map (λ (v : Option (List ℕ)). g n) (value_at n (w ∷ ws))
      go true e rest = rw e (ap (λ (k : ℕ). Some (g k)) (eqb-true w.0 n e))
      go false e rest = rw e rest

-- the last change of a record is by both, where there is one
pub last_change_at : (e : Commit) (rec : ℕ) → (value_at rec (last_changes e) ≡ Some (change_of rec e.ops e.tables)) ⊎ ((value_at rec e.tables ≡ None) × (value_at rec (last_changes e) ≡ option_map (λ (v : Option (List ℕ)). change_of rec e.ops e.tables) (value_at rec (last_writes e.ops))))
last_change_at e rec = ⊎_elim (λ q. inl q) (λ q. inr (q.0, q.1 ∙ mapped_at rec (λ k. change_of k e.ops e.tables) (last_writes e.ops)))
    (put_last rec (λ k. change_of k e.ops e.tables) e.tables (map (λ (w : Write). (w.0, change_of w.0 e.ops e.tables)) (last_writes e.ops)))

-- a written content, or the one before
abbrev pub written_over : List Write → ℕ → Option (List ℕ) → Option (List ℕ)
written_over ws rec before = option_map_or (λ value. value) (value_at rec ws) before

put_value : (o : Option (Option (List ℕ))) (old : Option (List ℕ)) → with_put (last_put o) old ≡ option_map_or (λ value. value) o old
put_value None old = refl
put_value (Some None) old = refl
put_value (Some (Some v)) old = refl

-- what an entry makes of a content's value is what its operations last wrote
pub act_value : (e : Commit) (rec : ℕ) (c : Content) → (writes_over rec e c).value ≡ written_over (last_writes e.ops) rec c.value
act_value e rec c = ⊎_elim
    (λ (q : value_at rec (last_changes e) ≡ Some (change_of rec e.ops e.tables)). rw q (put_value (value_at rec (last_writes e.ops)) c.value))
    (λ q. go (value_at rec (last_writes e.ops)) refl q.1)
    (last_change_at e rec)
  where
    go : (o : Option (Option (List ℕ))) → value_at rec (last_writes e.ops) ≡ o → value_at rec (last_changes e) ≡ option_map (λ (v : Option (List ℕ)). change_of rec e.ops e.tables) (value_at rec (last_writes e.ops)) → (writes_over rec e c).value ≡ written_over (last_writes e.ops) rec c.value
    go None f is = let z : value_at rec (last_changes e) ≡ None = is ∙ rw f refl in rw (z, f) refl
    go (Some v) f is = let z : value_at rec (last_changes e) ≡ Some (change_of rec e.ops e.tables) = is ∙ rw f refl in rw z (put_value (value_at rec (last_writes e.ops)) c.value)

put_table : (o own : Option Table) → with_new_table o own ≡ first_some o own
put_table None own = refl
put_table (Some table) own = refl

-- and of its table the one that it gave
pub act_table : (e : Commit) (rec : ℕ) (c : Content) → (writes_over rec e c).table ≡ first_some (value_at rec e.tables) c.table
act_table e rec c = ⊎_elim
    (λ (q : value_at rec (last_changes e) ≡ Some (change_of rec e.ops e.tables)). rw q (put_table (value_at rec e.tables) c.table))
    (λ q. go (value_at rec (last_writes e.ops)) refl q.0 q.1)
    (last_change_at e rec)
  where
    go : (o : Option (Option (List ℕ))) → value_at rec (last_writes e.ops) ≡ o → value_at rec e.tables ≡ None → value_at rec (last_changes e) ≡ option_map (λ (v : Option (List ℕ)). change_of rec e.ops e.tables) (value_at rec (last_writes e.ops)) → (writes_over rec e c).table ≡ first_some (value_at rec e.tables) c.table
    go None f none is = let z : value_at rec (last_changes e) ≡ None = is ∙ rw f refl in rw (z, none) refl
    go (Some v) f none is = let z : value_at rec (last_changes e) ≡ Some (change_of rec e.ops e.tables) = is ∙ rw f refl in rw z (put_table (value_at rec e.tables) c.table)

-- what is not changed was not written
pub unchanged_unwritten : (e : Commit) (rec : ℕ) → value_at rec (last_changes e) ≡ None → value_at rec (last_writes e.ops) ≡ None
unchanged_unwritten e rec none = ⊎_elim (λ q. absurd (let z = sym none ∙ q in cc)) (λ q. go (value_at rec (last_writes e.ops)) refl q.1) (last_change_at e rec)
  where
    go : (o : Option (Option (List ℕ))) → value_at rec (last_writes e.ops) ≡ o → value_at rec (last_changes e) ≡ option_map (λ (v : Option (List ℕ)). change_of rec e.ops e.tables) (value_at rec (last_writes e.ops)) → value_at rec (last_writes e.ops) ≡ None
    go None f is = f
    go (Some v) f is = absurd (let z : value_at rec (last_changes e) ≡ Some (change_of rec e.ops e.tables) = is ∙ rw f refl in let y = sym none ∙ z in cc)

-- what was neither written nor given a table is not changed, and the other way
pub unchanged_if : (e : Commit) (rec : ℕ) → value_at rec e.tables ≡ None → value_at rec (last_writes e.ops) ≡ None → value_at rec (last_changes e) ≡ None
unchanged_if e rec t w =
    put_none rec (λ k. change_of k e.ops e.tables) e.tables (map (λ (w : Write). (w.0, change_of w.0 e.ops e.tables)) (last_writes e.ops)) t
    ∙ mapped_at rec (λ k. change_of k e.ops e.tables) (last_writes e.ops)
    ∙ rw w refl

pub unchanged_ungiven : (e : Commit) (rec : ℕ) → value_at rec (last_changes e) ≡ None → value_at rec e.tables ≡ None
unchanged_ungiven e rec none = ⊎_elim (λ q. absurd (let z = sym none ∙ q in cc)) (λ q. q.0) (last_change_at e rec)

-- no record is changed twice
puts_ascending : (g : ℕ → Change) (ts : List (ℕ × Table)) (ws : List (ℕ × Change)) → Ascending ws → Ascending (for_each ts (λ (t : ℕ × Table). put_at t.0 (g t.0)) ws)
puts_ascending g [] ws h = h
puts_ascending g (t ∷ ts) ws h = puts_ascending g ts (put_at t.0 (g t.0) ws) (put_ascending t.0 (g t.0) ws h)

mapped_above : (g : ℕ → Change) (n : ℕ) (ws : List Write) → AllByRecursion (λ (x : Write). n < x.0) ws → AllByRecursion (λ (x : ℕ × Change). n < x.0) (map (λ (w : Write). (w.0, g w.0)) ws)
mapped_above g n [] h = tt
mapped_above g n (w ∷ ws) h = (h.0, mapped_above g n ws h.1)

mapped_ascending : (g : ℕ → Change) (ws : List Write) → Ascending ws → Ascending (map (λ (w : Write). (w.0, g w.0)) ws)
mapped_ascending g [] h = tt
mapped_ascending g (w ∷ ws) h = (mapped_above g w.0 ws h.0, mapped_ascending g ws h.1)

pub changes_ascending : (e : Commit) → Ascending (last_changes e)
changes_ascending e =
    puts_ascending (λ k. change_of k e.ops e.tables) e.tables (map (λ (w : Write). (w.0, change_of w.0 e.ops e.tables)) (last_writes e.ops))
    (mapped_ascending (λ k. change_of k e.ops e.tables) (last_writes e.ops) (last_ascending e.ops))

-- so what is among them is the last change
pub changes_differ : (e : Commit) → Differ (keys (last_changes e))
changes_differ e = ascending_differ (last_changes e) (changes_ascending e)

pub last_change : (e : Commit) (w : ℕ × Change) → Has (last_changes e) w → value_at w.0 (last_changes e) ≡ Some w.1
last_change e w h = pair_value (last_changes e) w.0 w.1 (changes_differ e) h
