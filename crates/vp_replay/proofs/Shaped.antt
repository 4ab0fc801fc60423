-- The calls of the generator have numbers that fit, and the records that its transactions use are records of its catalogue.
use Rattle.std.proofs.Common.{◌≡◌, ◌∙◌, ap, sym, subst, refl, arith, ℕ, zero, suc, ◌+◌, ◌<◌, ◌≤◌, ◌^◌, ◌/◌, ◌%◌, Bool, true, false, cond, List, [], ◌∷◌, length}
use Rattle.std.specs.Prelude.{Option, Some, None, IfSome, option_and_then, nat_le, filter, slice_get, get_or, is_some, ◌==◌}
use Rattle.std.specs.List.{AllByRecursion}
use Rattle.std.specs.Option.{option_map_or}
use Rattle.std.specs.Str.{bytes_eq}
use Rattle.std.proofs.Math.Nat.{mod-lt}
use Rattle.std.proofs.lemmas.Bool.{false≢true}
use Rattle.vp_text.proofs.Items.{all_append}
use Rattle.vp_base.specs.Calls.{IsNumbered}
use Rattle.vp_base.specs.Words.{IsName, IsValue}
use Rattle.vp_base.specs.Identifiers.{IsTxn}
use Rattle.vp_model.specs.Types.{ViewId, Commit, Newest, Live, Event, Op}
use Rattle.vp_model.specs.Types.event
use Rattle.vp_model.specs.Types.call
use Rattle.vp_model.specs.Types.op
use Rattle.vp_model.specs.Words.{for_each, keys, value_at, view_before}
use Rattle.vp_model.specs.Catalogue.{Catalogue, RecordEntry, Table, accessible_by, has_holders, start_values, weights_of}
use Rattle.vp_model.specs.OneCopy.{order}
use Rattle.vp_model.specs.Site.{SiteState}
use Rattle.vp_model.specs.World.{WorldState, Run, Schedule, site_of, is_cut, run_of, journal_of}
use Rattle.vp_model.specs.Generated.{newest, newest_of, Choice, Generating, generated_catalogue, generated_call, generated_work, generated_cut, generated_event, generated_name, decimal_of, next_draw, drawn, rounds}
use Rattle.vp_onecopy.specs.Playing.{op_record, CommitsWithin}
use Rattle.vp_laws.specs.Shapes.{IsLive}
use Rattle.vp_laws.specs.ShapeLaws.{IsEvent, IsWorld}
use Rattle.vp_laws.specs.Catalogues.{IsWhole}
use Rattle.vp_laws.specs.Entries.{record_in, table_in_force}
use Rattle.vp_laws.proofs.Shapes.Worlds.{last_world}
use Rattle.vp_laws.proofs.Words.Entries.{entered, weighed}
use Rattle.vp_laws.proofs.Journal.Order.{order_has}
use Rattle.vp_laws.proofs.Lists.Members.{Has, contains, filter_has, has_first, has_more, has_of}
use Rattle.std.proofs.lemmas.Option.{slice_get_within}
use Rattle.std.proofs.lemmas.List.{length-map, get_or_default}
use Rattle.vp_cluster.proofs.Acting.{site_shaped}
use Rattle.vp_replay.proofs.GeneratedCatalogue.{generated_is, name_is, number_is_value}
use Rattle.vp_replay.proofs.Making.{after_rounds, choice_of, one_more, round_events, run_is}

-- what is known of the newest transaction of a site that is well formed
pub record IsNext (t : Newest) : Type 0 where
  pub txn_is : IsTxn t.txn
  pub some : 1 ≤ t.next
  pub few : t.next ≤ 65

live_next : (catalogue : Catalogue) (x : Live) → IsLive catalogue x → IsNext (newest_of x)
live_next catalogue x h = let few = h.few in record { txn_is = h.txn_is; some = omega arith; few = omega (arith, few) }

newest_next : (catalogue : Catalogue) (live : List Live) (t : Newest) → AllByRecursion (IsLive catalogue) live → newest live ≡ Some t → IsNext t
newest_next catalogue [] t h e = cc
newest_next catalogue (x ∷ []) t h e = let same : newest_of x ≡ t = cc in subst IsNext same (live_next catalogue x h.0)
newest_next catalogue (x ∷ y ∷ live) t h e = newest_next catalogue (y ∷ live) t h.1 e

site_next : (catalogue : Catalogue) (w : WorldState) (id : ℕ) (t : Newest) → IsWorld catalogue w → option_and_then (λ (site : SiteState). newest site.live) (site_of w id) ≡ Some t → IsNext t
site_next catalogue w id t h e = go (site_of w id) refl e
  where
    go : (o : Option SiteState) → site_of w id ≡ o → option_and_then (λ (site : SiteState). newest site.live) o ≡ Some t → IsNext t
    go None is q = cc
    go (Some x) is q = newest_next catalogue x.live t (site_shaped catalogue w id x h is).coordinator_is.live_are q

-- ---- the events have their form

drawn_below : (s n : ℕ) → 0 < n → drawn s n < n
drawn_below s n some = mod-lt (s / 65536) some

module _ (site s : ℕ) (t : Newest) (h : IsNext t) where
  numbered : IsNumbered t.txn t.next
  numbered = let few = h.few in record { txn_is = h.txn_is; some = h.some; fits = omega (arith, few) }

  abbrev reading : Choice
  reading = (event.Call site (call.Read t.txn t.next (generated_name (drawn (next_draw s) 40))), next_draw s)

  abbrev writing : Choice
  writing =
      (event.Call site (call.Write t.txn t.next (generated_name (drawn (next_draw s) 40)) (decimal_of (drawn (next_draw (next_draw s)) 1000))), next_draw (next_draw s))

  named : IsName (generated_name (drawn (next_draw s) 40)) (generated_name (drawn (next_draw s) 40))
  named = let below = drawn_below (next_draw s) 40 (omega arith) in name_is (drawn (next_draw s) 40) (omega (arith, below))

  valued : IsValue (decimal_of (drawn (next_draw (next_draw s)) 1000)) (decimal_of (drawn (next_draw (next_draw s)) 1000))
  valued = number_is_value (drawn (next_draw (next_draw s)) 1000) (drawn_below (next_draw (next_draw s)) 1000 (omega arith))

  call_is : IsEvent (generated_call site t s).0
  call_is = go (nat_le t.next 2) (nat_le t.next 4)
    where
      go : (a b : Bool) → IsEvent (cond a reading (cond b writing (event.Call site (call.Commit t.txn t.next), s))).0
      go true b = (numbered, named)
      go false true = (numbered, named, valued)
      go false false = numbered

work_is : (catalogue : Catalogue) (w : WorldState) (site s : ℕ) → IsWorld catalogue w → IsEvent (generated_work site (site_of w site) s).0
work_is catalogue w site s h = go (site_of w site) (λ t. site_next catalogue w site t h)
  where
    asked : (o : Option Newest) → ((t : Newest) → o ≡ Some t → IsNext t) → IsEvent (option_map_or (λ (t : Newest). cond t.pending (event.Flow 20, s) (generated_call site t s)) o (event.Call site call.Begin, s)).0
    asked None next = tt
    asked (Some t) next = pended t.pending (call_is site s t (next t refl))
      where
        pended : (b : Bool) → IsEvent (generated_call site t s).0 → IsEvent (cond b (event.Flow 20, s) (generated_call site t s)).0
        pended true called = tt
        pended false called = called

    go : (o : Option SiteState) → ((t : Newest) → option_and_then (λ (site : SiteState). newest site.live) o ≡ Some t → IsNext t) → IsEvent (generated_work site o s).0
    go None next = tt
    go (Some x) next = asked (newest x.live) next

cut_is : (w : WorldState) (site s : ℕ) → IsEvent (generated_cut w site s).0
cut_is w site s = go (is_cut w site ((site + drawn (next_draw s) 4) % 5 + 1))
  where
    go : (b : Bool) → IsEvent (cond b (event.Heal site ((site + drawn (next_draw s) 4) % 5 + 1)) (event.Cut site ((site + drawn (next_draw s) 4) % 5 + 1)))
    go true = tt
    go false = tt

event_is : (catalogue : Catalogue) (w : WorldState) (k site s : ℕ) → IsWorld catalogue w → IsEvent (generated_event w k site s).0
event_is catalogue w k site s h = go (nat_le k 8) (nat_le k 11) (k == 12) (k == 13) (k == 14) (work_is catalogue w site s h) (cut_is w site s) (up (is_some (site_of w site)))
  where
    fate : Bool → Event
    fate b = cond b (event.Crash site) (event.Restart site)

    up : (b : Bool) → IsEvent (cond b (event.Crash site) (event.Restart site))
    up true = tt
    up false = tt

    go : (a b c d e : Bool) → IsEvent (generated_work site (site_of w site) s).0 → IsEvent (generated_cut w site s).0 → IsEvent (cond (is_some (site_of w site)) (event.Crash site) (event.Restart site)) → IsEvent (cond a (generated_work site (site_of w site) s) (cond b (event.Flow 40, s) (cond c (event.Tick site, s) (cond d (generated_cut w site s) (cond e (cond (is_some (site_of w site)) (event.Crash site) (event.Restart site), s) (event.Call site call.Regroup, s)))))).0
    go true b c d e work cuts fates = work
    go false true c d e work cuts fates = tt
    go false false true d e work cuts fates = tt
    go false false false true e work cuts fates = cuts
    go false false false false true work cuts fates = fates
    go false false false false false work cuts fates = tt

-- after any number of rounds
abbrev AreEvents : Generating → Type 0
AreEvents g = (g.run ≡ run_of (record { catalogue = generated_catalogue; events = g.events })) × AllByRecursion IsEvent g.events

world_is : (g : Generating) → AreEvents g → IsWorld generated_catalogue g.run.world
world_is g h =
    subst (λ (r : Run). IsWorld generated_catalogue r.world) (sym h.0)
    (last_world (record { catalogue = generated_catalogue; events = g.events }) generated_is h.1)

one_more_is : (seed i : ℕ) → AllByRecursion IsEvent (after_rounds seed i).events → AllByRecursion IsEvent (after_rounds seed (i + 1)).events
one_more_is seed i h =
    let g = after_rounds seed i in
    let w = world_is g (run_is seed i, h) in
    subst (AllByRecursion IsEvent) (sym (ap (λ (g : Generating). g.events) (one_more seed i) ∙ round_events g))
    (all_append IsEvent g.events ((choice_of g).0 ∷ []) h (event_is generated_catalogue g.run.world (drawn (next_draw g.source) 16) (drawn (next_draw (next_draw g.source)) 5 + 1) (next_draw (next_draw g.source)) w, tt))

events_are : (seed i : ℕ) → AllByRecursion IsEvent (after_rounds seed i).events
unfolding rounds
events_are seed zero = tt
events_are seed (suc i) = subst (λ n. AllByRecursion IsEvent (after_rounds seed n).events) (next i) (one_more_is seed i (events_are seed i))
  where
    next : (i : ℕ) → i + 1 ≡ suc i
    next i = omega arith

-- the calls of the next round have numbers
pub numbers_fit : (seed i : ℕ) (w : WorldState) → w ≡ (after_rounds seed i).run.world → (site : ℕ) → IfSome (option_and_then (λ (site : SiteState). newest site.live) (site_of w site)) (λ t. t.next < 2 ^ 32)
numbers_fit seed i w e site = subst (λ w. IfSome (option_and_then (λ (site : SiteState). newest site.live) (site_of w site)) (λ t. t.next < 2 ^ 32)) (sym e) (go (option_and_then (λ (site : SiteState). newest site.live) (site_of (after_rounds seed i).run.world site)) (λ t. site_next generated_catalogue (after_rounds seed i).run.world site t (world_is (after_rounds seed i) (run_is seed i, events_are seed i))))
  where
    go : (o : Option Newest) → ((t : Newest) → o ≡ Some t → IsNext t) → IfSome o (λ t. t.next < 2 ^ 32)
    go None next = tt
    go (Some t) next = let few = (next t refl).few in omega (arith, few)

-- ---- the commits

-- a record that isn't one of the catalogue's has no holder, so no entry gives it a table with a weight
module _ (catalogue : Catalogue) (rec : ℕ) (none : weights_of catalogue rec ≡ []) where
  no_shares : (t : Table) → has_holders catalogue rec t ≡ true → t ≡ []
  no_shares t h = go t (rw none at h)
    where
      go : (t : Table) → bytes_eq (keys t) [] ≡ true → t ≡ []
      go [] e = refl
      go (w ∷ ws) e = absurd (false≢true e)

  no_table : (entries : List Commit) → ((e : Commit) → Has entries e → (t : Table) → value_at rec e.tables ≡ Some t → has_holders catalogue rec t ≡ true) → (t : Table) → t ≡ [] → for_each entries (λ (e : Commit) t. option_map_or (λ new. new) (value_at rec e.tables) t) t ≡ []
  no_table [] all t is = is
  no_table (e ∷ entries) all t is =
      no_table entries (λ f h. all f (has_more e entries f h)) (option_map_or (λ new. new) (value_at rec e.tables) t) (go (value_at rec e.tables) refl)
    where
      go : (o : Option Table) → value_at rec e.tables ≡ o → option_map_or (λ new. new) o t ≡ []
      go None q = is
      go (Some new) q = no_shares new (all e (has_first e entries) new q)

-- a record that is accessible by a table in force is one of the catalogue's
in_force_is : (s : Schedule) → IsWhole s.catalogue → (rec : ℕ) (view : ViewId) (members : List ℕ) → accessible_by (table_in_force s.catalogue (journal_of s) rec view) members ≡ true → rec < length s.catalogue.records
in_force_is s whole rec view members e = go (slice_get s.catalogue.records rec) refl
  where
    given : (f : Commit) → Has (filter (λ (f : Commit). view_before f.view view) (order (journal_of s))) f → (t : Table) → value_at rec f.tables ≡ Some t → has_holders s.catalogue rec t ≡ true
    given f h t gave =
        let there = order_has (journal_of s) f (filter_has (λ (f : Commit). view_before f.view view) (order (journal_of s)) f h).0 in
        (weighed s whole f rec t (contains (journal_of s) f there) gave).3

    go : (o : Option RecordEntry) → slice_get s.catalogue.records rec ≡ o → rec < length s.catalogue.records
    go (Some entry) is = slice_get_within s.catalogue.records rec entry is
    go None is =
        let none : weights_of s.catalogue rec ≡ [] = rw is refl in
        let empty = no_table s.catalogue rec none (filter (λ (f : Commit). view_before f.view view) (order (journal_of s))) given (weights_of s.catalogue rec) none in
        absurd (false≢true (rw empty at e))

same_place : (operation : Op) → op_record operation ≡ record_in operation
same_place (op.Read rec value) = refl
same_place (op.Write rec value) = refl

-- each transaction that is committed uses records of the catalogue
pub commits_within : (s : Schedule) → IsWhole s.catalogue → CommitsWithin (length (start_values s.catalogue)) (order (journal_of s))
commits_within s whole k d lt j o within =
    let list = order (journal_of s) in
    let e = get_or list k d in
    let operation = get_or e.ops j o in
    let there = contains (journal_of s) e (order_has (journal_of s) e (has_of list e (k, lt, get_or_default list k e d lt))) in
    let used = entered s whole e there in
    let view = used.0 in
    let usable = used.4 operation (j, within, get_or_default e.ops j operation o within) in
    let placed = in_force_is s whole (record_in operation) view.id view.members usable in
    rw (same_place operation, length-map s.catalogue.records (λ (entry : RecordEntry). Some entry.start)) placed
