-- In a whole world each client is served, and the world is whole after it.
use Rattle.std.proofs.Common.{◌≡◌, ⊎_elim, ◌∙◌, ap, sym, subst, ℕ, zero, suc, ◌+◌, ◌-◌, ◌^◌, ◌<◌, ◌≤◌, Bool, true, false, List, [], ◌∷◌, length, refl, arith}
use Rattle.std.specs.Prelude.{Option, Some, None, is_some, filter, slice_get, sum_by}
use Rattle.std.specs.List.{AllByRecursion, position_from}
use Rattle.std.specs.Str.{bytes_eq}
use Rattle.std.proofs.lemmas.Bool.Decides.{nat_tests}
use Rattle.std.proofs.lemmas.List.Sums.{sum_by-cons}
use Rattle.vp_catalog.specs.Entries.{IsRecord}
use Rattle.vp_catalog.specs.Document.{IsCatalogue, IsCatalogueSoFar}
use Rattle.vp_model.specs.Types.{ViewId, View, Lock, Commit, Decision}
use Rattle.vp_model.specs.Words.{has, keys, value_at}
use Rattle.vp_model.specs.Catalogue.{Catalogue, RecordEntry, Table, sites_of, find_record, holders, weights_of, weight_inside, accessible_by}
use Rattle.vp_model.specs.Durable.{DurableState}
use Rattle.vp_model.specs.Site.{SiteState}
use Rattle.vp_model.specs.Refresh.{refreshing_of}
use Rattle.vp_model.specs.Justified.{tables_below}
use Rattle.vp_model.specs.World.{WorldState, Schedule, site_of}
use Rattle.vp_laws.proofs.Lists.Members.{Has, has_none, has_first, has_test, has_from_test}
use Rattle.vp_laws.proofs.Lists.Items.{all_at}
use Rattle.vp_text.proofs.Items.{all_each}
use Rattle.vp_laws.proofs.Lists.Whole.{catalogue_whole}
use Rattle.vp_laws.proofs.Moves.Coordinator.{slice_has}
use Rattle.vp_laws.proofs.Table.Waits.{IsWaited}
use Rattle.vp_laws.proofs.Worlds.Events.{in_last}
use Rattle.vp_laws.proofs.Worlds.Sites.{With}
use Rattle.vp_laws.proofs.Worlds.Scenes.{scene_of}
use Rattle.vp_laws.proofs.Copies.Force.{shared_by}
use Rattle.vp_laws.proofs.Invariant.Entered.{AgreedAs}
use Rattle.vp_laws.proofs.Invariant.Invariant.{Invariant}
use Rattle.vp_laws.proofs.Journal.TableContents.{tables_from}
use Rattle.vp_laws.proofs.Lists.Catalogues.{whole_catalogue}
use Rattle.vp_laws.proofs.Order.Invariant.{invariant_last}
use Rattle.vp_laws.proofs.Invariant.Known.{Known}
use Rattle.vp_laws.proofs.Keeping.Known.{known_last}
use Rattle.vp_progress.specs.Going.{goes_on, serves}
use Rattle.vp_progress.specs.Whole.{IsWhole}
use Rattle.vp_progress.specs.Progress.{world_of}
use Rattle.vp_progress.specs.Clients.{Wish, name_in, FitATransaction, IsServed, MayGive}
use Rattle.vp_progress.proofs.Calm.{serves_since, since_serves, since_fresh, each_fresh}
use Rattle.vp_progress.proofs.Can.{pass_by}
use Rattle.vp_progress.proofs.Going.{world_goes_on, passing_flows_not}
use Rattle.vp_progress.proofs.Started.{past_of}
use Rattle.vp_progress.proofs.Held.{empty_from}
use Rattle.vp_progress.proofs.Certain.{members_stand}
use Rattle.vp_progress.proofs.Decided.{AllAwait, none_decided, InvDecided, decided_last}
use Rattle.vp_progress.proofs.Serving.Sites.{Rest, IsResting}
use Rattle.vp_progress.proofs.Serving.Worlds.{IsUnused}
use Rattle.vp_progress.proofs.Serving.Commits.{Committed}
use Rattle.vp_progress.proofs.Serving.Begun.{Resting, Grantable, serves_all}

-- ---- a record of the catalogue is held by one of its sites

position_within : (test : RecordEntry → Bool) (place i : ℕ) (records : List RecordEntry) → position_from test place records ≡ Some i → i < place + length records
position_within test place i [] e = cc
position_within test place i (r ∷ records) e = let rest = position_within test (place + 1) i records in grind (arith, nat_tests, rest, e)

entry_at : {X : Type 0} (xs : List X) (i : ℕ) → i < length xs → (x : X) × (slice_get xs i ≡ Some x)
entry_at [] i h = absurd (omega (arith, h))
entry_at (x ∷ xs) zero h = (x, refl)
entry_at (x ∷ xs) (suc i) h = entry_at xs i (omega (arith, h))

some_holder : (sites : List ℕ) (entry : RecordEntry) → IsRecord sites entry → (k : ℕ) × Has (keys entry.weights) k
some_holder sites entry h = go entry.weights h.held
  where
    go : (ws : List (ℕ × ℕ)) → 0 < length ws → (k : ℕ) × Has (keys ws) k
    go [] few = absurd (omega (arith, few))
    go (w ∷ ws) few = (w.0, has_first w.0 (keys ws))

found_holder : (c : Catalogue) → IsCatalogueSoFar c → (name : List ℕ) (rec : ℕ) → find_record c name ≡ Some rec → (k : ℕ) × Has (holders c rec) k × Has (sites_of c) k
found_holder c h name rec e =
    let within = position_within (λ (entry : RecordEntry). bytes_eq entry.name name) 0 rec c.records e in
    let entry = entry_at c.records rec (omega (arith, within)) in
    let k = some_holder (sites_of c) entry.0 (all_at (IsRecord (sites_of c)) c.records h.records_are entry.0 (slice_has c.records rec entry.0 entry.1)) in
    let all = catalogue_whole c h rec k.0 (rw entry.1 k.1) in
    let q = shared_by (weights_of c rec) (sites_of c) (sites_of c) all all in
    (q.0, q.1, q.2)

-- ---- more sites have no less weight

inside_grows : (a b : List ℕ) → ((k : ℕ) → Has a k → Has b k) → (ws : Table) → weight_inside a ws ≤ weight_inside b ws
inside_grows a b sub [] = omega arith
inside_grows a b sub (w ∷ ws) = go (has a w.0) refl (has b w.0) refl (inside_grows a b sub ws) (sum_by-cons (λ (w : ℕ × ℕ). w.1) w (filter (λ (w : ℕ × ℕ). has a w.0) ws)) (sum_by-cons (λ (w : ℕ × ℕ). w.1) w (filter (λ (w : ℕ × ℕ). has b w.0) ws))
  where
    go : (p : Bool) → has a w.0 ≡ p → (q : Bool) → has b w.0 ≡ q → weight_inside a ws ≤ weight_inside b ws
        → sum_by (λ (w : ℕ × ℕ). w.1) (w ∷ filter (λ (w : ℕ × ℕ). has a w.0) ws) ≡ w.1 + weight_inside a ws
        → sum_by (λ (w : ℕ × ℕ). w.1) (w ∷ filter (λ (w : ℕ × ℕ). has b w.0) ws) ≡ w.1 + weight_inside b ws
        → weight_inside a (w ∷ ws) ≤ weight_inside b (w ∷ ws)
    go true e true f rest own other = rw (e, f) (omega (arith, rest, own, other))
    go true e false f rest own other = absurd (let z = sym (has_test b w.0 (sub w.0 (has_from_test a w.0 e))) ∙ f in cc)
    go false e true f rest own other = rw (e, f) (omega (arith, rest, other))
    go false e false f rest own other = rw (e, f) rest

pub table_grows : (t : Table) (a b : List ℕ) → ((k : ℕ) → Has a k → Has b k) → accessible_by t a ≡ true → accessible_by t b ≡ true
table_grows t a b sub e = let more = inside_grows a b sub t in grind (arith, nat_tests, e, more)

-- both of each
pub all_both : {A : Type 0} (P Q : A → Type 0) (xs : List A) → AllByRecursion P xs → AllByRecursion Q xs → AllByRecursion (λ x. P x × Q x) xs
all_both P Q [] p q = tt
all_both P Q (x ∷ xs) p q = ((p.0, q.0), all_both P Q xs p.1 q.1)

-- ---- what rests at a site

abbrev pub rest_in : Option SiteState → Rest
rest_in None = record { locks = []; refresh = []; doubts = []; decisions = []; bars = [] }
rest_in (Some x) = record { locks = x.locks; refresh = x.refresh; doubts = x.doubts; decisions = x.decisions; bars = x.bars }

abbrev pub rest_of : WorldState → ℕ → Rest
rest_of w k = rest_in (site_of w k)

module _ (s : Schedule) (q : ℕ) (h : IsCatalogue s.catalogue) (whole : IsWhole s.catalogue (world_of s)) (here : has (sites_of s.catalogue) q ≡ true) where
  abbrev ns : List ℕ
  ns = sites_of s.catalogue

  abbrev w : WorldState
  w = world_of s

  among : (k : ℕ) → Has whole.view.members k → Has ns k
  among k m = has_from_test ns k (sym (whole.members k) ∙ has_test whole.view.members k m)

  members : (k : ℕ) → Has ns k → Has whole.view.members k
  members k m = has_from_test whole.view.members k (whole.members k ∙ has_test ns k m)

  -- nothing rests there but bars
  nothing : (k : ℕ) → Has ns k → rest_of w k ≡ record { locks = []; refresh = []; doubts = []; decisions = []; bars = (rest_of w k).bars }
  nothing k m =
      let x = whole.sites k (has_test ns k m) in
      ap rest_in x.1 ∙ rw (x.2.locks, x.2.refresh, x.2.doubts, x.2.decisions, x.1) refl

  resting : Resting s.catalogue ns whole.view q (has_from_test ns q here) (rest_of w) among members (past_of w) w
  resting = record {
    known = in_last s.catalogue (Known s.catalogue) (known_last s.catalogue) s.events;
    stand = record { joined = λ a b m n. whole.joined a b (has_test ns a m) (has_test ns b n); grown = omega arith };
    same = refl;
    rests = λ k m. let x = whole.sites k (has_test ns k m) in (x.0, x.1, subst (λ (r : Rest). IsResting whole.view r x.0) (sym (nothing k m)) (record { held = x.2.held; live = x.2.live; parts = x.2.parts; refresh = x.2.refresh; doubts = x.2.doubts; decisions = λ u p waits. subst (λ (ds : List Decision). IsWaited ds u p) x.2.decisions waits; bars = ap (λ (o : Option SiteState). (rest_in o).bars) (sym x.1); locks = λ l there. subst (λ (ls : List Lock). Has ls l) x.2.locks there }));
  }

  inv : Invariant s.catalogue (scene_of w)
  inv = in_last s.catalogue (Invariant s.catalogue) (invariant_last s.catalogue (whole_catalogue s.catalogue h.so_far)) s.events

  -- by each table that a record has had all sites have more than half of the weight
  table_there : (view : ViewId) (rec q : ℕ) (t : Table) → Has (holders s.catalogue rec) q → Has (tables_below s.catalogue w.journal rec view) t → accessible_by t ns ≡ true
  table_there view rec q t holder there = ⊎_elim
      (λ (own : weights_of s.catalogue rec ≡ t). subst (λ (t : Table). accessible_by t ns ≡ true) own (catalogue_whole s.catalogue h.so_far rec q holder))
      (λ (given : (e : Commit) × Has w.journal e × (value_at rec e.tables ≡ Some t)).
      let v : (v : View) × Has w.agreed v × (v.id ≡ given.0.view) × Has v.members given.0.txn.site = inv.known.led.entry given.0 given.1 in
      let agreed : AgreedAs (scene_of w) given.0.view v.0 = (v.1, v.2) in
      table_grows t v.0.members ns (members_stand s.catalogue (scene_of w) inv.known.views v.0 v.1) (inv.refresh.weighed given.0 v.0 rec t given.1 agreed given.2).enough)
      (tables_from s.catalogue rec w.journal view t there)

  -- no bar is on a record that a site holds
  none_barred : (k rec q : ℕ) (x : SiteState) → site_of w k ≡ Some x → x.held ≡ Some whole.view → Has (holders s.catalogue rec) q → value_at rec x.bars ≡ None
  none_barred k rec q x up held holder = go (value_at rec x.bars) refl
    where
      go : (o : Option (ℕ × ℕ)) → value_at rec x.bars ≡ o → value_at rec x.bars ≡ None
      go None e = e
      go (Some bar) e =
          let b = inv.bars.site k rec x whole.view bar up held e in
          let t : accessible_by b.table whole.view.members ≡ true = table_grows b.table ns whole.view.members members (table_there whole.view.id rec q b.table holder b.given) in
          absurd (let z = sym t ∙ b.short in cc)

  free : (rec : ℕ) (name : List ℕ) → find_record s.catalogue name ≡ Some rec → IsUnused s.catalogue ns whole.view q (rest_of w) among rec
  free rec name e = let f = found_holder s.catalogue h.so_far name rec e in record {
    holder = (f.0, f.1, members f.0 f.2);
    unbarred = λ k m. let x = whole.sites k (has_test ns k m) in ap (λ (o : Option SiteState). value_at rec (rest_in o).bars) x.1 ∙ none_barred k rec f.0 x.0 x.1 x.2.held f.1;
    unlocked = λ k l m there. absurd (has_none l (subst (λ (r : Rest). Has r.locks l) (nothing k m) there));
    quiet = λ k m. ap (λ (r : Rest). refreshing_of rec r.refresh) (nothing k m);
  }

  widened : (wish : Wish) → MayGive s.catalogue ns wish → MayGive s.catalogue whole.view.members wish
  widened (Wish.weigh name table) may = (may.0, table_grows table ns whole.view.members members may.1)
  widened (Wish.read name) may = tt
  widened (Wish.write name value) may = tt
  widened (Wish.delete name) may = tt

  grantable : (wish : Wish) → (is_some (find_record s.catalogue (name_in wish)) ≡ true) × MayGive s.catalogue ns wish → Grantable s.catalogue ns whole.view q (has_from_test ns q here) (rest_of w) among members (past_of w) wish
  grantable wish e = go (find_record s.catalogue (name_in wish)) refl e.0
    where
      go : (o : Option ℕ) → find_record s.catalogue (name_in wish) ≡ o → is_some o ≡ true → Grantable s.catalogue ns whole.view q (has_from_test ns q here) (rest_of w) among members (past_of w) wish
      go None f g = cc
      go (Some rec) f g = (rec, f, free rec (name_in wish) f, widened wish e.1)

  whole_after : (entry : Commit) (new : WorldState) → Committed s.catalogue ns whole.view q (has_from_test ns q here) (rest_of w) among members (past_of w) entry new → Known s.catalogue (scene_of new) → InvDecided s.catalogue (scene_of new) → IsWhole s.catalogue new
  whole_after entry new c known waits = record {
    view = whole.view;
    members = whole.members;
    joined = λ a b m n. c.stand.joined a b (has_from_test ns a m) (has_from_test ns b n);
    sites = λ k m.
        let here = has_from_test ns k m in
        let x = c.rests k here in
        let r = subst (λ (r : Rest). IsResting whole.view r x.0) (nothing k here) x.2 in
        let awaits = subst (λ (d : DurableState). AllAwait ns d.decisions) (sym (known.views.site k x.0 x.1).kept) (waits.awaits k) in
        let decisions = none_decided ns x.0.decisions awaits (λ txn p there waited. let old = r.decisions txn p waited in has_none old.0 old.1) in
        (x.0, x.1, record { held = r.held; locks = empty_from x.0.locks (λ l there. has_none l (r.locks l there)); refresh = r.refresh; live = r.live; parts = r.parts; doubts = r.doubts; decisions = decisions });
  }

  pub served : (x : SiteState) (wishes : List Wish) → site_of w q ≡ Some x → x.seq < 2 ^ 32 - 1 → FitATransaction wishes → AllByRecursion (λ wish. is_some (find_record s.catalogue (name_in wish)) ≡ true) wishes → AllByRecursion (MayGive s.catalogue ns) wishes → IsServed s ns q wishes (IsWhole s.catalogue)
  served x wishes up left fits named gives =
      let c = serves_all s.catalogue ns whole.view q (has_from_test ns q here) (rest_of w) among members (past_of w) wishes w resting x up left fits (all_each _ _ grantable wishes (all_both _ _ wishes named gives)) in
      let is = world_goes_on s c.events (passing_flows_not s.catalogue (serves_since (length w.sent) q ns) (λ w count. refl) c.events w c.passing) in
      let good = subst (λ (w : WorldState). With (Known s.catalogue) (InvDecided s.catalogue) (scene_of w)) is (in_last s.catalogue (With (Known s.catalogue) (InvDecided s.catalogue)) (decided_last s.catalogue) (goes_on s c.events).events) in
      record {
        more = c.events;
        serving = pass_by s.catalogue (serves_since (length w.sent) q ns) (serves q ns) (since_serves (length w.sent) q ns) c.events w c.passing;
        fresh = each_fresh s.catalogue (serves_since (length w.sent) q ns) (length w.sent) (since_fresh (length w.sent) q ns) c.events w c.passing;
        entry = c.so.entry;
        own = c.so.own;
        deeds = c.so.deeds;
        fulfilled = c.so.fulfilled;
        ops = c.so.ops;
        tables = c.so.tables;
        journal = ap (λ (w : WorldState). w.journal) is ∙ c.so.committed.same;
        after = subst (IsWhole s.catalogue) (sym is) (whole_after c.so.entry _ c.so.committed good.base good.more);
      }
