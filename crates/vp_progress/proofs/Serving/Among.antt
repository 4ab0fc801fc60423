-- Sites that are together serve their clients, as far as records are free there.
use Rattle.std.proofs.Common.{◌≡◌, ◌∙◌, ap, sym, subst, ℕ, ◌-◌, ◌^◌, ◌<◌, Bool, true, false, List, length, refl, arith}
use Rattle.std.specs.Prelude.{Some}
use Rattle.std.specs.List.{Contains, AllByRecursion, list_any}
use Rattle.vp_text.proofs.Items.{all_each}
use Rattle.vp_model.specs.Types.{Doubt, Decision, Commit}
use Rattle.vp_model.specs.Words.{has, keys, value_at}
use Rattle.vp_model.specs.Catalogue.{holders}
use Rattle.vp_model.specs.Site.{Bars, SiteState}
use Rattle.vp_model.specs.Refresh.{refreshing_of}
use Rattle.vp_model.specs.World.{WorldState, Schedule, site_of}
use Rattle.vp_laws.proofs.Lists.Members.{Has, contains, has_of, has_test, has_from_test}
use Rattle.vp_laws.proofs.Table.Waits.{IsWaited}
use Rattle.vp_laws.proofs.Worlds.Events.{in_last}
use Rattle.vp_laws.proofs.Invariant.Known.{Known}
use Rattle.vp_laws.proofs.Keeping.Known.{known_last}
use Rattle.vp_progress.specs.Going.{serves}
use Rattle.vp_progress.specs.Progress.{world_of}
use Rattle.vp_progress.specs.Clients.{Wish, FitATransaction, IsServed, MayGive}
use Rattle.vp_progress.specs.Together.{IsFree, AreTogether, StayTogether, IsGrantable}
use Rattle.vp_progress.proofs.Started.{past_of}
use Rattle.vp_progress.proofs.Calm.{serves_since, since_serves, since_fresh, each_fresh}
use Rattle.vp_progress.proofs.Can.{pass_by}
use Rattle.vp_progress.proofs.Going.{world_goes_on, passing_flows_not}
use Rattle.vp_progress.proofs.Serving.Sites.{Rest, IsResting}
use Rattle.vp_progress.proofs.Serving.Worlds.{IsUnused}
use Rattle.vp_progress.proofs.Serving.Commits.{Committed}
use Rattle.vp_progress.proofs.Serving.Begun.{Resting, Grantable, serves_all}
use Rattle.vp_progress.proofs.Serving.Served.{rest_in, rest_of, table_grows, all_both}

one_state : (k : ℕ) (x y : SiteState) (w : WorldState) → site_of w k ≡ Some x → site_of w k ≡ Some y → x ≡ y
one_state k x y w a b = let z = sym a ∙ b in grind (arith, z)

module _ (s : Schedule) (ns : List ℕ) (q : ℕ) (t : AreTogether s.catalogue ns (world_of s)) (here : has ns q ≡ true) where
  abbrev w : WorldState
  w = world_of s

  among : (k : ℕ) → Has t.view.members k → Has ns k
  among k m = has_from_test ns k (sym (t.members k) ∙ has_test t.view.members k m)

  members : (k : ℕ) → Has ns k → Has t.view.members k
  members k m = has_from_test t.view.members k (t.members k ∙ has_test ns k m)

  rests_as : (k : ℕ) (x : SiteState) → site_of w k ≡ Some x → rest_of w k ≡ record { locks = x.locks; refresh = x.refresh; doubts = x.doubts; decisions = x.decisions; bars = x.bars }
  rests_as k x up = ap rest_in up

  resting : Resting s.catalogue ns t.view q (has_from_test ns q here) (rest_of w) among members (past_of w) w
  resting = record {
    known = in_last s.catalogue (Known s.catalogue) (known_last s.catalogue) s.events;
    stand = record { joined = λ a b m n. t.joined a b (has_test ns a m) (has_test ns b n); grown = omega arith };
    same = refl;
    rests = λ k m. let x = t.idle k (has_test ns k m) in (x.0, x.1, subst (λ (r : Rest). IsResting t.view r x.0) (sym (rests_as k x.0 x.1)) (record { held = x.2.held; live = x.2.live; parts = x.2.parts; refresh = refl; doubts = refl; decisions = λ u p w. w; bars = refl; locks = λ l there. there }));
  }

  unused : (rec : ℕ) → IsFree s.catalogue ns w rec → IsUnused s.catalogue ns t.view q (rest_of w) among rec
  unused rec f = record {
    holder = let h = f.holder in (h.0, has_of (holders s.catalogue rec) h.0 h.1, members h.0 (has_from_test ns h.0 h.2));
    unbarred = λ k m. let x = t.idle k (has_test ns k m) in ap (λ (r : Rest). value_at rec r.bars) (rests_as k x.0 x.1) ∙ f.unbarred k x.0 (has_test ns k m) x.1;
    unlocked = λ k l m there.
        let x = t.idle k (has_test ns k m) in
        (t.free k rec x.0 (has_test ns k m) x.1 f).unlocked l (contains x.0.locks l (subst (λ (r : Rest). Has r.locks l) (rests_as k x.0 x.1) there));
    quiet = λ k m. let x = t.idle k (has_test ns k m) in ap (λ (r : Rest). refreshing_of rec r.refresh) (rests_as k x.0 x.1) ∙ (t.free k rec x.0 (has_test ns k m) x.1 f).refreshed;
  }

  -- each site has just the doubts and the bars that it had, and at most the locks
  module _ (entry : Commit) (new : WorldState) (c : Committed s.catalogue ns t.view q (has_from_test ns q here) (rest_of w) among members (past_of w) entry new) where
    same_doubts : (k : ℕ) (x y : SiteState) → Has ns k → site_of w k ≡ Some x → site_of new k ≡ Some y → y.doubts ≡ x.doubts
    same_doubts k x y m up now = let r = c.rests k m in ap (λ (z : SiteState). z.doubts) (one_state k y r.0 new now r.1) ∙ r.2.doubts ∙ ap (λ (r : Rest). r.doubts) (rests_as k x up)

    same_bars : (k : ℕ) (x y : SiteState) → Has ns k → site_of w k ≡ Some x → site_of new k ≡ Some y → y.bars ≡ x.bars
    same_bars k x y m up now = let r = c.rests k m in ap (λ (z : SiteState). z.bars) (one_state k y r.0 new now r.1) ∙ r.2.bars ∙ ap (λ (r : Rest). r.bars) (rests_as k x up)

    -- its decisions wait for none of these sites
    none_waited : (k : ℕ) → Has ns k → (y : SiteState) → site_of new k ≡ Some y → (d : Decision) (p : ℕ) → Contains y.decisions d → has ns p ≡ true → has d.waiting p ≡ false
    none_waited k m y now d p there near = go (has d.waiting p) refl
      where
        go : (b : Bool) → has d.waiting p ≡ b → b ≡ false
        go false e = refl
        go true e =
            let r = c.rests k m in
            let x = t.idle k (has_test ns k m) in
            let is = one_state k y r.0 new now r.1 in
            let waits : IsWaited r.0.decisions d.txn p = (d, subst (λ (z : SiteState). Has z.decisions d) is (has_of y.decisions d there), refl, has_from_test d.waiting p e) in
            let old = subst (λ (r : Rest). IsWaited r.decisions d.txn p) (rests_as k x.0 x.1) (r.2.decisions d.txn p waits) in
            absurd (let z = sym (has_test old.0.waiting p old.3) ∙ x.2.decisions old.0 p (contains x.0.decisions old.0 old.1) near in cc)

    still_free : (rec : ℕ) → IsFree s.catalogue ns w rec → IsFree s.catalogue ns new rec
    still_free rec f = record {
      holder = f.holder;
      unbarred = λ k y m now. let x = t.idle k m in ap (λ (bars : Bars). value_at rec bars) (same_bars k x.0 y (has_from_test ns k m) x.1 now) ∙ f.unbarred k x.0 m x.1;
      certain = λ k y m now. let x = t.idle k m in ap (list_any (λ (d : Doubt). has (keys d.writes) rec)) (same_doubts k x.0 y (has_from_test ns k m) x.1 now) ∙ f.certain k x.0 m x.1;
    }

    was_free : (rec : ℕ) → IsFree s.catalogue ns new rec → IsFree s.catalogue ns w rec
    was_free rec f = record {
      holder = f.holder;
      unbarred = λ k x m up. let r = c.rests k (has_from_test ns k m) in ap (λ (bars : Bars). value_at rec bars) (sym (same_bars k x r.0 (has_from_test ns k m) up r.1)) ∙ f.unbarred k r.0 m r.1;
      certain = λ k x m up. let r = c.rests k (has_from_test ns k m) in ap (list_any (λ (d : Doubt). has (keys d.writes) rec)) (sym (same_doubts k x r.0 (has_from_test ns k m) up r.1)) ∙ f.certain k r.0 m r.1;
    }

    together : AreTogether s.catalogue ns new
    together = record {
      view = t.view;
      members = t.members;
      joined = λ a b m n. c.stand.joined a b (has_from_test ns a m) (has_from_test ns b n);
      idle = λ k m.
          let r = c.rests k (has_from_test ns k m) in
          let x = t.idle k m in
          (r.0, r.1, record { held = r.2.held; live = r.2.live; parts = r.2.parts; doubts = λ d there. x.2.doubts d (subst (λ (ds : List Doubt). Contains ds d) (same_doubts k x.0 r.0 (has_from_test ns k m) x.1 r.1) there); decisions = none_waited k (has_from_test ns k m) r.0 r.1 });
      free = λ k rec y m now f.
          let r = c.rests k (has_from_test ns k m) in
          let x = t.idle k m in
          let is = one_state k y r.0 new now r.1 in
          let old = t.free k rec x.0 m x.1 (was_free rec f) in
          record {
            unlocked = λ l there. old.unlocked l (contains x.0.locks l (subst (λ (r : Rest). Has r.locks l) (rests_as k x.0 x.1) (r.2.locks l (subst (λ (z : SiteState). Has z.locks l) is (has_of y.locks l there)))));
            refreshed = ap (λ (z : SiteState). refreshing_of rec z.refresh) is ∙ ap (refreshing_of rec) (r.2.refresh ∙ ap (λ (r : Rest). r.refresh) (rests_as k x.0 x.1)) ∙ old.refreshed;
          };
    }

  widened : (wish : Wish) → MayGive s.catalogue ns wish → MayGive s.catalogue t.view.members wish
  widened (Wish.weigh name table) may = (may.0, table_grows table ns t.view.members members may.1)
  widened (Wish.read name) may = tt
  widened (Wish.write name value) may = tt
  widened (Wish.delete name) may = tt

  grantable : (wish : Wish) → IsGrantable s.catalogue ns w wish × MayGive s.catalogue ns wish → Grantable s.catalogue ns t.view q (has_from_test ns q here) (rest_of w) among members (past_of w) wish
  grantable wish g = let own = g.0 in (own.0, own.1, unused own.0 own.2, widened wish g.1)

  pub served_among : (x : SiteState) (wishes : List Wish) → site_of w q ≡ Some x → x.seq < 2 ^ 32 - 1 → FitATransaction wishes → AllByRecursion (IsGrantable s.catalogue ns w) wishes → AllByRecursion (MayGive s.catalogue ns) wishes → IsServed s ns q wishes (StayTogether s.catalogue ns w)
  served_among x wishes up left fits free gives =
      let c = serves_all s.catalogue ns t.view q (has_from_test ns q here) (rest_of w) among members (past_of w) wishes w resting x up left fits (all_each _ _ grantable wishes (all_both _ _ wishes free gives)) in
      let is = world_goes_on s c.events (passing_flows_not s.catalogue (serves_since (length w.sent) q ns) (λ w count. refl) c.events w c.passing) in
      let after : StayTogether s.catalogue ns w _ = record { together = together c.so.entry _ c.so.committed; free = still_free c.so.entry _ c.so.committed } in
      record {
        more = c.events;
        serving = pass_by s.catalogue (serves_since (length w.sent) q ns) (serves q ns) (since_serves (length w.sent) q ns) c.events w c.passing;
        fresh = each_fresh s.catalogue (serves_since (length w.sent) q ns) (length w.sent) (since_fresh (length w.sent) q ns) c.events w c.passing;
        entry = c.so.entry;
        own = c.so.own;
        deeds = c.so.deeds;
        fulfilled = c.so.fulfilled;
        ops = c.so.ops;
        tables = c.so.tables;
        journal = ap (λ (w : WorldState). w.journal) is ∙ c.so.committed.same;
        after = subst (StayTogether s.catalogue ns w) (sym is) after;
      }
