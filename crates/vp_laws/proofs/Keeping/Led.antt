-- A site's own transactions, what is asked for them and their entries are still in agreed views.
use Rattle.std.proofs.Common.{◌≡◌, ◌≢◌, ◌∙◌, ap, sym, ℕ, refl, ⊎_elim, subst}
use Rattle.std.specs.Prelude.{Some}
use Rattle.vp_model.specs.Types.{ViewId, TxnId, View, Commit, Message}
use Rattle.vp_model.specs.Types.message
use Rattle.vp_model.specs.Catalogue.{Catalogue, start_copies}
use Rattle.vp_model.specs.Durable.{DurableState, empty_durable}
use Rattle.vp_model.specs.Site.{SiteState, Stepped}
use Rattle.vp_model.specs.Step.{start}
use Rattle.vp_model.specs.World.{start_world}
use Rattle.vp_laws.proofs.Lists.Members.{Has, has_none}
use Rattle.vp_laws.proofs.Lists.Views.{same_site}
use Rattle.vp_laws.proofs.Worlds.Scenes.{Scene, scene_of, up_in, plain_at, Moved, Acted, kept_at}
use Rattle.vp_laws.proofs.Table.Led.{Led, AskedOf, MayAsk, MayEnter, Leads}
use Rattle.vp_laws.proofs.Invariant.Views.{SiteOk, InvViews}
use Rattle.vp_laws.proofs.Invariant.Led.{EntryOk, Asked, Between, InvLed}
use Rattle.vp_laws.proofs.Worlds.Sites.{Quiet, QuietIs, quiet_is, start_entered, start_sent, started}

module _ (w new : Scene) (s : ℕ) (moved : Moved w new s) where
  asked_lasts : (from to : ℕ) (m : Message) → Asked w from to m → Asked new from to m
  asked_lasts from to (message.ReadRequest txn view number rec) h = (h.0, moved.agreed h.0 h.1, h.2, h.3, h.4, h.5, h.6)
  asked_lasts from to (message.WriteRequest txn view number rec) h = (h.0, moved.agreed h.0 h.1, h.2, h.3, h.4, h.5, h.6)
  asked_lasts from to (message.Prepare txn view number reads writes) h = (h.0, moved.agreed h.0 h.1, h.2, h.3, h.4, h.5, h.6)
  asked_lasts from to m h = tt

  entry_lasts : (c : Commit) → EntryOk w c → EntryOk new c
  entry_lasts c h = (h.0, moved.agreed h.0 h.1, h.2, h.3)

module _ (catalogue : Catalogue) (w new : Scene) (s : ℕ) (x : SiteState) (o : Stepped) (was : plain_at w s ≡ Some x) (views : InvViews catalogue w) (inv : InvLed w) (l : Leads x o) (st : Acted w new s x o) where
  ok : SiteOk w s x
  ok = views.site s x was

  between : (from to : ℕ) (txn : TxnId) (view : ViewId) → AskedOf x from to txn view → Between new from to txn view
  between from to txn view (v, held, id, member, other, site, life, seq, f) =
      (v, st.moved.agreed v (ok.held v held), id, member, rw site (ok.tidy.held v held).3, (λ e. other (e ∙ site)), f ∙ sym site)

  asked_new : (from to : ℕ) (m : Message) → MayAsk x from to m → Asked new from to m
  asked_new from to (message.ReadRequest txn view number rec) h = between from to txn view h
  asked_new from to (message.WriteRequest txn view number rec) h = between from to txn view h
  asked_new from to (message.Prepare txn view number reads writes) h = between from to txn view h
  asked_new from to m h = tt

  member : (v : View) (a : ℕ) → a ≡ x.id → Has v.members x.id → Has v.members a
  member v a e h = rw e h

  entry_new : (c : Commit) → MayEnter x c → EntryOk new c
  entry_new c (u, here, txn, view, ops) =
      let led = inv.site s x was in
      let q = led.live u here in
      let own : c.txn.site ≡ x.id = ap (λ (t : TxnId). t.site) txn ∙ (led.names u here).0 in
      (q.0, st.moved.agreed q.0 (ok.held q.0 q.1), q.2 ∙ sym view, member q.0 c.txn.site own (ok.tidy.held q.0 q.1).3)

  pub led_keeps : InvLed new
  led_keeps = record {
    site = λ k y h. ⊎_elim (λ (here : k ≡ s). let z = rw here at h in let n = st.now in let same : o.site ≡ y = cc in rw (← same) l.led)
        (λ (n : k ≢ s). inv.site k y (rw (ap up_in (st.moved.others k n)) at h)) (same_site k s);
    asked = λ m h. ⊎_elim (λ old. asked_lasts w new s st.moved m.from m.to m.message (inv.asked m old)) (λ sent. asked_new m.from m.to m.message (l.sent m sent)) (st.sent m h);
    entry = λ c h. ⊎_elim (λ old. entry_lasts w new s st.moved c (inv.entry c old)) (λ more. entry_new c (l.commits c more)) (st.entered c h);
  }

start_led : (catalogue : Catalogue) (s : ℕ) (d : DurableState) → Led (start catalogue s d)
unfolding start
start_led catalogue s d = record {
  live = λ t h. absurd (has_none t h);
  names = λ t h. absurd (has_none t h);
  idle = λ n. (refl, refl, refl);
}

pub led_starts : (catalogue : Catalogue) → InvLed (scene_of (start_world catalogue))
led_starts catalogue = record {
  site = λ s x up. subst Led (started catalogue s x up) (start_led catalogue s (empty_durable (start_copies catalogue s)));
  asked = λ m h. absurd (start_sent catalogue m h);
  entry = λ c h. absurd (start_entered catalogue c h);
}

pub led_quiet : (catalogue : Catalogue) (w new : Scene) (s : ℕ) → Quiet catalogue w new s → InvLed w → InvLed new
led_quiet catalogue w new s q inv = record {
  site = λ k y up. site_at k y (quiet_is catalogue w new s q k y up);
  asked = λ m h. asked_lasts w new s q.moved m.from m.to m.message (inv.asked m (rw q.sent at h));
  entry = λ c h. entry_lasts w new s q.moved c (inv.entry c (rw q.journal at h));
}
  where
    site_at : (k : ℕ) (y : SiteState) → QuietIs catalogue w s k y → Led y
    site_at k y (QuietIs.here e same) = subst Led same (start_led catalogue s (kept_at w s))
    site_at k y (QuietIs.other n old) = inv.site k y old
