-- Copies and what is used of them, where the world starts and where a site goes down or starts again.
use Rattle.std.proofs.Common.{◌≡◌, ◌∙◌, ap, sym, subst, ℕ, Bool, true, false, List, [], map, refl}
use Rattle.std.specs.Prelude.{Option, Some, None, option_map, slice_get}
use Rattle.std.proofs.lemmas.Option.{slice_get-map}
use Rattle.vp_model.specs.Types.{ViewId, TxnId, View, Commit, Stored, Live, Doubt}
use Rattle.vp_model.specs.Words.{opening, value_at}
use Rattle.vp_model.specs.Catalogue.{Table, Catalogue, RecordEntry, accessible, accessible_by, holders, sites_of, start_values, start_copies, weights_of}
use Rattle.vp_model.specs.Durable.{DurableState, empty_durable, apply}
use Rattle.vp_model.specs.Site.{SiteState}
use Rattle.vp_model.specs.Step.{start, start_record}
use Rattle.vp_model.specs.World.{Place, place_of, start_place, start_world}
use Rattle.vp_laws.specs.Catalogues.{IsWhole}
use Rattle.vp_laws.proofs.Lists.Members.{Has, contains, has_none}
use Rattle.vp_laws.proofs.Lists.Views.{Precedes, not_both, opening_least}
use Rattle.vp_laws.proofs.Table.Copies.{value_pair}
use Rattle.vp_laws.proofs.Table.Leaves.{Uses}
use Rattle.vp_laws.proofs.Worlds.Scenes.{Scene, scene_of, kept_in, up-place, plain_at, kept_at}
use Rattle.vp_laws.proofs.Worlds.Sites.{start_at, Quiet, QuietIs, quiet_is, quiet_kept, started, start_kept, start_journal, start_sent, start_entered, started_idle, live_still}
use Rattle.vp_laws.proofs.Invariant.Shares.{HasRequest}
use Rattle.vp_laws.proofs.Invariant.Entered.{AgreedAs}
use Rattle.vp_laws.proofs.Invariant.Lived.{InvLived}
use Rattle.vp_laws.proofs.Keeping.Closing.{closed_quiet}
use Rattle.vp_laws.proofs.Journal.ValuesAfter.{Content, content_of, started as begun_as, value_after, without_entry}
use Rattle.vp_laws.proofs.Invariant.Copies.{FromView, DoubtOn, InvCopies}
use Rattle.vp_laws.proofs.Invariant.Refresh.{InvRefresh}
use Rattle.vp_laws.proofs.Keeping.Lived.{start_unused}
use Rattle.vp_laws.proofs.Keeping.Used.{request_on, answered_on}
use Rattle.vp_laws.proofs.Keeping.Views.{views_last}
use Rattle.vp_laws.proofs.Invariant.Closed.{Open, Closed, InForce, table_in_force}
use Rattle.vp_laws.proofs.Journal.TablesAfter.{given_by, table_below}
use Rattle.vp_laws.proofs.Keeping.Held.{held_starts}
use Rattle.vp_laws.proofs.Invariant.Held.{copy_held}
use Rattle.vp_laws.proofs.Lists.Changes.{mapped_has}
use Rattle.vp_laws.proofs.Lists.Numbers.{from_first}
use Rattle.vp_laws.proofs.Lists.StartCopies.{placed_value}

-- the world as it starts

abbrev tabled : Option (List ℕ) → Option Table → Content
tabled value table = record { value = value; table = table }

module _ (catalogue : Catalogue) where
  abbrev w : Scene
  w = scene_of (start_world catalogue)

  record StartCopy (s rec : ℕ) (c : Stored) : Type 0 where
    site : Has (sites_of catalogue) s
    copy : Has (start_copies catalogue s) (rec, c)

  start_copy : (s rec : ℕ) (c : Stored) → value_at rec (kept_at w s).copies ≡ Some c → StartCopy s rec c
  unfolding start_world apply
  start_copy s rec c h = go (place_of s (map (start_place catalogue) (sites_of catalogue))) refl h
    where
      go : (o : Option Place) → place_of s (map (start_place catalogue) (sites_of catalogue)) ≡ o → value_at rec (kept_in o).copies ≡ Some c → StartCopy s rec c
      go None e v = cc
      go (Some p) e v =
          let all = start_at catalogue s (sites_of catalogue) p e in
          let d : p.durable ≡ apply (start_record (empty_durable (start_copies catalogue s))) (empty_durable (start_copies catalogue s)) = ap (λ (p : Place). p.durable) (sym all.1) in
          record { site = all.0; copy = value_pair rec (start_copies catalogue s) c (subst (λ (k : DurableState). value_at rec k.copies ≡ Some c) d v) }

  pub no_doubt : (s : ℕ) (u : Doubt) → Has (kept_at w s).doubts u → ⊥
  no_doubt s u h = has_none u (subst (λ (us : List Doubt). Has us u) (start_kept catalogue s).doubts h)

  no_entries : (date : ViewId) (rec : ℕ) (value : Option (List ℕ)) → slice_get (start_values catalogue) rec ≡ Some value → value_after catalogue [] date rec ≡ Some (begun_as value)
  no_entries date rec value e = ap (option_map (λ (start : Option (List ℕ)). begun_as start)) e

  start_value : (s rec : ℕ) (c : Stored) → value_at rec (kept_at w s).copies ≡ Some c → value_after catalogue w.journal c.date rec ≡ Some (content_of c)
  unfolding start_world
  start_value s rec c h =
      let q = placed_value 0 catalogue.records s (rec, c) (start_copy s rec c h).copy in
      let at : rec ≡ q.0 = q.1 ∙ from_first q.0 in
      no_entries c.date rec c.value (subst (λ (i : ℕ). slice_get (start_values catalogue) i ≡ Some c.value) (sym at) (slice_get-map (λ (r : RecordEntry). Some r.start) catalogue.records q.0 ∙ ap (option_map (λ (r : RecordEntry). Some r.start)) q.3 ∙ ap (λ (v : Option (List ℕ)). Some v) q.4))
      ∙ ap (λ (x : Option Table). Some (tabled c.value x)) (sym ((start_kept catalogue s).tables (rec, c) (value_pair rec (kept_at w s).copies c h)))

  start_from : (s rec : ℕ) (c : Stored) → value_at rec (kept_at w s).copies ≡ Some c → FromView catalogue w s rec c.date
  start_from s rec c h = FromView.member (record { id = opening; members = sites_of catalogue }) ((views_last catalogue).starts.opening, sym ((start_kept catalogue s).dated (rec, c) (value_pair rec (kept_at w s).copies c h))) (start_copy s rec c h).site

  start_promise : (s : ℕ) (d : DurableState) → (start catalogue s d).promise ≡ d.promise
  unfolding start
  start_promise s d = refl

  start_view : (s : ℕ) (x : SiteState) (v : View) → plain_at w s ≡ Some x → x.held ≡ Some v → v.id ≡ opening
  start_view s x v up held = (((views_last catalogue).starts.site s x up).tidy.held v held).0 ∙ ap (λ (x : SiteState). x.promise) (sym (started catalogue s x up)) ∙ start_promise s (empty_durable (start_copies catalogue s))

  start_closed : (s rec : ℕ) (x : SiteState) (v : View) → plain_at w s ≡ Some x → x.held ≡ Some v → Closed catalogue w rec v
  start_closed s rec x v up held q holder member = record { left = λ j below. absurd (none j below); certain = λ u h on below. no_doubt q u h }
    where
      none : (j : ViewId) → Precedes j v.id → ⊥
      none j below = not_both j opening (subst (Precedes j) (start_view s x v up held) below) (opening_least j)

  no_request : (from to number rec : ℕ) (txn : TxnId) (view : ViewId) (exclusive : Bool) → HasRequest w from to txn view number rec exclusive → ⊥
  no_request from to number rec txn view false (HasRequest.to_read h) = start_sent catalogue _ h
  no_request from to number rec txn view true (HasRequest.to_write h) = start_sent catalogue _ h

  -- the view is that of all sites, in which each record that is held is accessible
  module _ (whole : IsWhole catalogue) where
    start_usable : (s rec : ℕ) (x : SiteState) (v : View) (c : Stored) → plain_at w s ≡ Some x → x.held ≡ Some v → value_at rec x.copies ≡ Some c → InForce catalogue w rec v
    start_usable s rec x v c up held copy =
        let views = (views_last catalogue).starts in
        let first : View = record { id = opening; members = sites_of catalogue } in
        let all : v ≡ first = views.unique v first ((views.site s x up).held v held) views.opening (start_view s x v up held) in
        let copied = mapped_has (λ (p : ℕ × Stored). p.0) x.copies (rec, c) (value_pair rec x.copies c copy) in
        let holder = copy_held catalogue w s x up (views.site s x up).kept (held_starts catalogue) rec copied in
        let start : table_in_force catalogue w rec v.id ≡ weights_of catalogue rec = ap (λ (es : List Commit). table_below given_by rec (weights_of catalogue rec) es v.id) (start_journal catalogue) in
        subst (λ (t : Table). accessible_by t v.members ≡ true) (sym start)
        (subst (λ (v : View). accessible catalogue rec v.members ≡ true) (sym all) (whole.opened rec s (contains (holders catalogue rec) s holder)))

    pub copies_starts : InvCopies catalogue w
    copies_starts = record {
      value = λ s rec c h none. start_value s rec c h;
      value_in_doubt = λ s rec c u h on. absurd (no_doubt s u on.0);
      last = λ s rec c u front back e f h on is named behind wrote. absurd (no_doubt s u on.0);
      above = λ s rec c e v h there wrote later agreed member. absurd (start_entered catalogue e there);
      from = start_from;
      between = λ s rec x v c e up held opened unlisted h there wrote later below. start_entered catalogue e there;
      open_copy = λ s rec x v c up held opened unlisted h. record { closed = start_closed s rec x v up held; usable = start_usable s rec x v c up held h };
    }

  pub refresh_starts : InvRefresh catalogue w
  refresh_starts = record {
    holder = λ p to rec view stored h. absurd (start_sent catalogue _ h);
    closed = λ p to rec view stored h low. absurd (start_sent catalogue _ h);
    value = λ p to rec view stored h low. absurd (start_sent catalogue _ h);
    between = λ p to rec view stored e v h there wrote later below agreed member. start_sent catalogue _ h;
    from = λ p to rec view stored h low. absurd (start_sent catalogue _ h);
    live = λ s x t up h. absurd (started_idle catalogue s x t up h);
    entry = λ e v rec h agreed did. absurd (start_entered catalogue e h);
    weighed = λ e v rec table h agreed gave. absurd (start_entered catalogue e h);
    used = λ s q rec exclusive x t v up h has agreed. absurd (started_idle catalogue s x t up h);
    uses = λ s x t rec v up h did agreed. absurd (started_idle catalogue s x t up h);
    asked = λ from to number rec txn view exclusive h. absurd (no_request from to number rec txn view exclusive h);
  }

-- a site that goes down or starts again
module _ (catalogue : Catalogue) (w new : Scene) (s : ℕ) (q : Quiet catalogue w new s) (lived : InvLived w) (copies : InvCopies catalogue w) (refresh : InvRefresh catalogue w) where
  pub copy_was : (j rec : ℕ) (c : Stored) → value_at rec (kept_at new j).copies ≡ Some c → value_at rec (kept_at w j).copies ≡ Some c
  copy_was j rec c h = subst (λ (cs : List (ℕ × Stored)). value_at rec cs ≡ Some c) (quiet_kept catalogue w new s q (λ (d : DurableState). d.copies) q.copies j) h

  pub doubts_same : (j : ℕ) → (kept_at new j).doubts ≡ (kept_at w j).doubts
  doubts_same j = quiet_kept catalogue w new s q (λ (d : DurableState). d.doubts) q.doubts j

  on_was : (j rec : ℕ) (date : ViewId) (u : Doubt) → DoubtOn new j rec date u → DoubtOn w j rec date u
  on_was j rec date u on = (subst (λ (us : List Doubt). Has us u) (doubts_same j) on.0, on.1, on.2)

  on_now : (j rec : ℕ) (date : ViewId) (u : Doubt) → DoubtOn w j rec date u → DoubtOn new j rec date u
  on_now j rec date u on = (subst (λ (us : List Doubt). Has us u) (sym (doubts_same j)) on.0, on.1, on.2)

  agreed_was : (i : ViewId) (v : View) → AgreedAs new i v → AgreedAs w i v
  agreed_was i v a = (rw q.agreed at a.0, a.1)

  force_now : (rec : ℕ) (v : View) → InForce catalogue w rec v → InForce catalogue new rec v
  force_now rec v h = subst (λ (es : List Commit). accessible_by (table_below given_by rec (weights_of catalogue rec) es v.id) v.members ≡ true) (sym q.journal) h

  open_now : (rec : ℕ) (v : View) → Open catalogue w rec v → Open catalogue new rec v
  open_now rec v h = record { closed = λ a holder member. closed_quiet catalogue w new s q lived a rec v.id (h.closed a holder member); usable = force_now rec v h.usable }

  from_now : (j rec : ℕ) (date : ViewId) → FromView catalogue w j rec date → FromView catalogue new j rec date
  from_now j rec date (FromView.member v agreed m) = FromView.member v (q.moved.agreed v agreed.0, agreed.1) m
  from_now j rec date (FromView.closed v agreed later m opened) = FromView.closed v (q.moved.agreed v agreed) later m (open_now rec v opened)

  value_same : (date : ViewId) (rec : ℕ) (value : Content) → value_after catalogue w.journal date rec ≡ Some value → value_after catalogue new.journal date rec ≡ Some value
  value_same date rec value h = subst (λ (es : List Commit). value_after catalogue es date rec ≡ Some value) (sym q.journal) h

  -- a site that holds a view is another one, as it was
  still_held : (j : ℕ) (y : SiteState) (v : View) → plain_at new j ≡ Some y → y.held ≡ Some v → plain_at w j ≡ Some y
  still_held j y v up held = go (quiet_is catalogue w new s q j y up)
    where
      go : QuietIs catalogue w s j y → plain_at w j ≡ Some y
      go (QuietIs.other n old) = old
      go (QuietIs.here z same) =
          let p = up-place (place_of s new.places) y (rw z at up) in
          absurd (start_unused catalogue s (kept_at w s) v.id (lived.lived s (q.moved.there s p.0 p.1)) (Uses.held v (ap (λ (y : SiteState). y.held) same ∙ held) refl))

  pub still_live : (j : ℕ) (y : SiteState) (t : Live) → plain_at new j ≡ Some y → Has y.live t → plain_at w j ≡ Some y
  still_live j y t up h = live_still catalogue w s j y t h (quiet_is catalogue w new s q j y up)

  pub entry_was : (e : Commit) → Has new.journal e → Has w.journal e
  entry_was e h = rw q.journal at h

  pub copies_quiet : InvCopies catalogue new
  copies_quiet = record {
    value = λ j rec c h none. value_same c.date rec (content_of c) (copies.value j rec c (copy_was j rec c h) (λ u on. none u (on_now j rec c.date u on)));
    value_in_doubt = λ j rec c u h on. subst (λ (es : List Commit). value_after catalogue (without_entry u.txn es) c.date rec ≡ Some (content_of c)) (sym q.journal) (copies.value_in_doubt j rec c u (copy_was j rec c h) (on_was j rec c.date u on));
    last = λ j rec c u front back e f h on is named behind wrote. copies.last j rec c u front back e f (copy_was j rec c h) (on_was j rec c.date u on) (sym q.journal ∙ is) named behind wrote;
    above = λ j rec c e v h there wrote later agreed member.
        let u = copies.above j rec c e v (copy_was j rec c h) (entry_was e there) wrote later (agreed_was e.view v agreed) member in
        (u.0, subst (λ (us : List Doubt). Has us u.0) (sym (doubts_same j)) u.1, u.2);
    from = λ j rec c h. from_now j rec c.date (copies.from j rec c (copy_was j rec c h));
    between = λ j rec y v c e up held opened unlisted h there wrote later below. copies.between j rec y v c e (still_held j y v up held) held opened unlisted h (entry_was e there) wrote later below;
    open_copy = λ j rec y v c up held opened unlisted h. open_now rec v (copies.open_copy j rec y v c (still_held j y v up held) held opened unlisted h);
  }

  pub refresh_quiet : InvRefresh catalogue new
  refresh_quiet = record {
    holder = λ p to rec view stored h. refresh.holder p to rec view stored (rw q.sent at h);
    closed = λ p to rec view stored h low. closed_quiet catalogue w new s q lived p rec view (refresh.closed p to rec view stored (rw q.sent at h) low);
    value = λ p to rec view stored h low. value_same stored.date rec (content_of stored) (refresh.value p to rec view stored (rw q.sent at h) low);
    between = λ p to rec view stored e v h there wrote later below agreed member. refresh.between p to rec view stored e v (rw q.sent at h) (entry_was e there) wrote later below (agreed_was e.view v agreed) member;
    from = λ p to rec view stored h low. from_now p rec stored.date (refresh.from p to rec view stored (rw q.sent at h) low);
    live = λ j y t up h. refresh.live j y t (still_live j y t up h) h;
    entry = λ e v rec h agreed did. open_now rec v (refresh.entry e v rec (entry_was e h) (agreed_was e.view v agreed) did);
    weighed = λ e v rec table h agreed gave. refresh.weighed e v rec table (entry_was e h) (agreed_was e.view v agreed) gave;
    used = λ j a rec exclusive y t v up h has agreed. open_now rec v (refresh.used j a rec exclusive y t v (still_live j y t up h) h (answered_on w new q.sent a t.txn rec exclusive has) (agreed_was t.view v agreed));
    uses = λ j y t rec v up h did agreed. open_now rec v (refresh.uses j y t rec v (still_live j y t up h) h did (agreed_was t.view v agreed));
    asked = λ from to number rec txn view exclusive h. refresh.asked from to number rec txn view exclusive (request_on w new q.sent from to txn view number rec exclusive h);
  }
