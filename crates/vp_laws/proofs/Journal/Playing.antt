-- What can be played on one copy when an entry is added to the journal: the entries in order, and what a live transaction has done.
use Rattle.std.proofs.Common.{◌≡◌, ◌∙◌, true, ap, sym, subst, ℕ, List, [], ◌∷◌, ◌++◌, refl, ⊎_elim}
use Rattle.std.specs.Prelude.{Option, Some, None, is_some, option_map, slice_get, slice_set}
use Rattle.std.specs.Option.{option_map_or}
use Rattle.std.specs.List.{AllByRecursion}
use Rattle.vp_model.specs.Types.{ViewId, Op, Commit}
use Rattle.vp_model.specs.Words.{value_at}
use Rattle.vp_model.specs.Catalogue.{Catalogue, start_values}
use Rattle.vp_model.specs.Transactions.{last_writes, last_changes}
use Rattle.vp_model.specs.OneCopy.{Values, play, serial, order, content}
use Rattle.vp_model.proofs.PlayedInParts.{serial-append}
use Rattle.vp_laws.specs.Entries.{record_in}
use Rattle.vp_laws.proofs.Journal.Play.{Write, set_all, get_set, get_other, get_all, get_all-other, play_sets, last_ascending, AgreeOn, play_agrees, and_then}
use Rattle.vp_laws.proofs.Lists.Members.{Has, has_first, has_more, has_right, all_of}
use Rattle.vp_laws.proofs.Lists.Views.{Precedes, AtMost-refl, same_site, not_before}
use Rattle.vp_laws.proofs.Journal.Order.{Split, order_has, order_more}
use Rattle.vp_laws.proofs.Journal.ValuesAfter.{Content, started, Wrote, writes_over, value_in, value_up_to, value_after, unwritten_value}
use Rattle.vp_laws.proofs.Journal.LastChanges.{written_over, act_value, unchanged_unwritten}
use Rattle.vp_laws.proofs.Journal.UpTo.{upto, test_above, upto_all, upto_none, upto_append}

-- the map after a serial run has the value of each record that the entries leave

set_none : (ws : List Write) (m : Values) (rec : ℕ) → slice_get m rec ≡ None → slice_get (set_all ws m) rec ≡ None
set_none [] m rec e = e
set_none (w ∷ ws) m rec e = set_none ws (slice_set m w.0 w.1) rec (⊎_elim
    (λ (one : w.0 ≡ rec). subst (λ (n : ℕ). slice_get (slice_set m n w.1) rec ≡ None) (sym one) (get_set m rec w.1 ∙ ap (option_map (λ (old : Option (List ℕ)). w.1)) e))
    (λ other. get_other m w.0 rec w.1 other ∙ e)
    (same_site w.0 rec))

set_value : (ws : List Write) (m : Values) (rec : ℕ) (old : Option (List ℕ)) → ((v : Option (List ℕ)) → value_at rec ws ≡ Some v → is_some (slice_get m rec) ≡ true → slice_get (set_all ws m) rec ≡ Some v) → slice_get m rec ≡ Some old → slice_get (set_all ws m) rec ≡ Some (written_over ws rec old)
set_value ws m rec old all there = go (value_at rec ws) refl
  where
    go : (w : Option (Option (List ℕ))) → value_at rec ws ≡ w → slice_get (set_all ws m) rec ≡ Some (option_map_or (λ value. value) w old)
    go None f = get_all-other rec ws m f ∙ there
    go (Some u) f = all u f (rw there refl)

serial_none : (rec : ℕ) (es : List Commit) (m n : Values) → serial m es ≡ Some n → slice_get m rec ≡ None → slice_get n rec ≡ None
serial_none rec [] m n h none = let same : m ≡ n = cc in rw (← same) none
serial_none rec (e ∷ es) m n h none =
    let t = and_then (play m e.ops) (λ (k : Values). serial k es) n h in
    serial_none rec es t.0 n t.2 (ap (λ (k : Values). slice_get k rec) (play_sets e.ops m t.0 t.1) ∙ set_none (last_writes e.ops) m rec none)

pub serial_value : (rec : ℕ) (es : List Commit) (m n : Values) (c : Content) → serial m es ≡ Some n → slice_get m rec ≡ Some c.value → slice_get n rec ≡ Some (value_in rec c es).value
serial_value rec [] m n c h there = let same : m ≡ n = cc in rw (← same) there
serial_value rec (e ∷ es) m n c h there =
    let t = and_then (play m e.ops) (λ (k : Values). serial k es) n h in
    serial_value rec es t.0 n (writes_over rec e c) t.2
    (ap (λ (k : Values). slice_get k rec) (play_sets e.ops m t.0 t.1)
    ∙ set_value (last_writes e.ops) m rec c.value (λ v w s. get_all rec v (last_writes e.ops) m (last_ascending e.ops) w s) there
    ∙ ap (λ (v : Option (List ℕ)). Some v) (sym (act_value e rec c)))

pub content_value : (catalogue : Catalogue) (journal : List Commit) (view : ViewId) (m : Values) (rec : ℕ) → content (start_values catalogue) journal view ≡ Some m → slice_get m rec ≡ option_map (λ (c : Content). c.value) (value_after catalogue journal view rec)
content_value catalogue journal view m rec h = go (slice_get (start_values catalogue) rec) refl
  where
    go : (o : Option (Option (List ℕ))) → slice_get (start_values catalogue) rec ≡ o → slice_get m rec ≡ option_map (λ (c : Content). c.value) (option_map (λ start. value_up_to rec (started start) journal view) o)
    go None e = serial_none rec (upto view (order journal)) (start_values catalogue) m h e
    go (Some start) e = serial_value rec (upto view (order journal)) (start_values catalogue) m (started start) h e

-- operations that use nothing that an entry wrote

abbrev pub WritesNone : Commit → List Op → Type 0
WritesNone e ops = (operation : Op) → Has ops operation → Wrote e (record_in operation) → ⊥

abbrev unwritten : Commit → ℕ → Type 0
unwritten e rec = value_at rec (last_changes e) ≡ None

pub agrees_behind : (e : Commit) (m n : Values) → play m e.ops ≡ Some n → AgreeOn (unwritten e) m n
agrees_behind e m n h rec none = sym (ap (λ (k : Values). slice_get k rec) (play_sets e.ops m n h) ∙ get_all-other rec (last_writes e.ops) m (unchanged_unwritten e rec none))

all_unwritten : (e : Commit) (ops : List Op) → WritesNone e ops → AllByRecursion (λ (operation : Op). unwritten e (record_in operation)) ops
all_unwritten e ops h = all_of (λ (operation : Op). unwritten e (record_in operation)) ops (λ operation q. unwritten_value e (record_in operation) (h operation q))

-- they play after it where they did before it
pub plays_behind : (e : Commit) (ops : List Op) (a b n : Values) → play a e.ops ≡ Some b → play a ops ≡ Some n → WritesNone e ops → (k : Values) × (play b ops ≡ Some k)
plays_behind e ops a b n g h none = let i = play_agrees (unwritten e) ops a b n (all_unwritten e ops none) (agrees_behind e a b g) h in (i.0, i.1)

pub serial_agrees : (e : Commit) (es : List Commit) (a b n : Values) → AgreeOn (unwritten e) a b → serial a es ≡ Some n → ((f : Commit) → Has es f → WritesNone e f.ops) → (k : Values) × (serial b es ≡ Some k)
serial_agrees e [] a b n same h none = (b, refl)
serial_agrees e (f ∷ es) a b n same h none =
    let t = and_then (play a f.ops) (λ (k : Values). serial k es) n h in
    let i = play_agrees (unwritten e) f.ops a b t.0 (all_unwritten e f.ops (none f (has_first f es))) same t.1 in
    let j = serial_agrees e es t.0 i.0 n i.2 t.2 (λ g q. none g (has_more f es g q)) in
    (j.0, rw i.1 j.1)

module _ (start : Values) (journal : List Commit) (e : Commit) where
  abbrev s : Split e (order journal) (order (journal ++ e ∷ []))
  s = order_more journal e

  -- what is up to the entry's view, before and after it is added
  pub up_to_own : upto e.view (order journal) ≡ s.before
  up_to_own = ap (upto e.view) s.was ∙ upto_append e.view s.before s.behind ∙ rw (upto_all e.view s.before s.low, upto_none e.view s.behind s.high) (append_nil_before s.before)
    where
      append_nil_before : (es : List Commit) → es ++ [] ≡ es
      append_nil_before [] = refl
      append_nil_before (x ∷ es) = ap (λ (l : List Commit). x ∷ l) (append_nil_before es)

  own_first : upto e.view (e ∷ s.behind) ≡ e ∷ []
  own_first = let t = not_before e.view e.view (AtMost-refl e.view) in rw (t, upto_none e.view s.behind s.high) refl

  up_to_own_now : upto e.view (order (journal ++ e ∷ [])) ≡ s.before ++ e ∷ []
  up_to_own_now = ap (upto e.view) s.now ∙ upto_append e.view s.before (e ∷ s.behind) ∙ rw (upto_all e.view s.before s.low, own_first) refl

  serial_next : (es fs : List Commit) (a : Values) → serial start es ≡ Some a → serial start (es ++ fs) ≡ serial a fs
  serial_next es fs a h = serial-append start es fs ∙ rw h refl

  -- the whole order plays, where the entry plays after those of views up to its own, and none above uses what it wrote
  pub entry_plays : (a b n : Values) → content start journal e.view ≡ Some a → play a e.ops ≡ Some b → serial start (order journal) ≡ Some n → ((f : Commit) → Has journal f → Precedes e.view f.view → WritesNone e f.ops) → (k : Values) × (serial start (order (journal ++ e ∷ [])) ≡ Some k)
  entry_plays a b n f g h none =
      let low : serial start s.before ≡ Some a = rw up_to_own at f in
      let rest : serial a s.behind ≡ Some n = sym (serial_next s.before s.behind a low) ∙ ap (serial start) (sym s.was) ∙ h in
      let i = serial_agrees e s.behind a b n (agrees_behind e a b g) rest (λ c q. none c (order_has journal c (subst (λ (l : List Commit). Has l c) (sym s.was) (has_right s.before s.behind c q))) (s.high c q)) in
      (i.0, ap (serial start) s.now ∙ serial_next s.before (e ∷ s.behind) a low ∙ rw g i.1)

  -- after it the copy of its view has its writes
  pub content_own : (a b : Values) → content start journal e.view ≡ Some a → play a e.ops ≡ Some b → content start (journal ++ e ∷ []) e.view ≡ Some b
  content_own a b f g =
      let low : serial start s.before ≡ Some a = rw up_to_own at f in
      ap (serial start) up_to_own_now ∙ serial_next s.before (e ∷ []) a low ∙ rw g refl

  -- a lower view sees nothing of it
  pub content_below : (d : ViewId) → Precedes d e.view → content start (journal ++ e ∷ []) d ≡ content start journal d
  content_below d p =
      let t = test_above d e.view p in
      let skip : upto d (e ∷ s.behind) ≡ upto d s.behind = rw t refl in
      ap (serial start) (ap (upto d) s.now ∙ upto_append d s.before (e ∷ s.behind) ∙ ap (λ (l : List Commit). upto d s.before ++ l) skip ∙ sym (ap (upto d) s.was ∙ upto_append d s.before s.behind))
