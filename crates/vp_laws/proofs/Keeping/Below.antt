-- The views of parts and doubts, and the dates of copies, are never above the promise.
use Rattle.std.proofs.Common.{◌≡◌, ◌≢◌, ◌∙◌, ap, sym, ℕ, refl, ⊎_elim, subst}
use Rattle.std.specs.Prelude.{Some}
use Rattle.vp_model.specs.Types.{ViewId, TxnId, Input}
use Rattle.vp_model.specs.Words.{opening}
use Rattle.vp_model.specs.Catalogue.{Catalogue, start_copies}
use Rattle.vp_model.specs.Durable.{DurableState, empty_durable}
use Rattle.vp_model.specs.Site.{SiteState}
use Rattle.vp_model.specs.Step.{start, step, durable_of}
use Rattle.vp_model.specs.World.{start_world}
use Rattle.vp_laws.proofs.Lists.Members.{has_none}
use Rattle.vp_laws.proofs.Lists.Views.{AtMost-same, same_site, AtMost, AtMost-along, opening_least}
use Rattle.vp_laws.proofs.Moves.Table.{Asks}
use Rattle.vp_laws.proofs.Worlds.Scenes.{Scene, scene_of, kept_in, up_in, plain_at, kept_at, acted, stepping}
use Rattle.vp_laws.proofs.Table.Views.{local-step}
use Rattle.vp_laws.proofs.Table.Below.{Below, Lies, below-step, DoubtOk}
use Rattle.vp_laws.proofs.Invariant.Led.{InvLed}
use Rattle.vp_laws.proofs.Worlds.Events.{Arrives}
use Rattle.vp_laws.proofs.Invariant.Below.{InvBelow, KeptOk}
use Rattle.vp_laws.proofs.Worlds.Sites.{Quiet, QuietIs, quiet_is, quiet_kept, start_dated, start_kept, start_sent, started}
use Rattle.vp_laws.proofs.Invariant.Views.{InvViews}

kept_along : (s : ℕ) (d e : DurableState) → e ≡ d → KeptOk s d → KeptOk s e
kept_along s d e same h = rw same h

-- a request is of another site's transaction
others : (w : Scene) (s : ℕ) (given : Input) → InvLed w → Arrives w s given → (from : ℕ) (txn : TxnId) (view : ViewId) (number : ℕ) → Asks given from txn view number → s ≢ txn.site
others w s given inv a from txn view number (Asks.reads rec c) = (inv.asked _ (rw c at a)).5
others w s given inv a from txn view number (Asks.writes rec c) = (inv.asked _ (rw c at a)).5
others w s given inv a from txn view number (Asks.prepares reads writes c) = (inv.asked _ (rw c at a)).5

pub below_acts : (catalogue : Catalogue) (w : Scene) (s : ℕ) (x : SiteState) (given : Input) → plain_at w s ≡ Some x → Arrives w s given → InvViews catalogue w → InvLed w → InvBelow w → InvBelow (acted w s x (step catalogue x given))
below_acts catalogue w s x given up a views led inv =
    let ok = views.site s x up in
    let o = step catalogue x given in
    let st = stepping catalogue w s x given up ok.kept (local-step catalogue x given ok.tidy) in
    let l : Lies x o = below-step catalogue x given ok.tidy (led.site s x up) (inv.site s x up)
    (λ from txn view number asks e. others w s given led a from txn view number asks (sym (e ∙ ok.id)))
    (λ from view rec stored c. inv.dated _ (rw c at a)) in
    record {
      site = λ k y h. ⊎_elim (λ (here : k ≡ s). let z = rw here at h in let n = st.now in let same : o.site ≡ y = cc in rw (← same) l.below)
          (λ (n : k ≢ s). inv.site k y (rw (ap up_in (st.moved.others k n)) at h)) (same_site k s);
      kept = λ k. ⊎_elim (λ (here : k ≡ s). rw here (kept_along s (durable_of o.site) _ st.kept_now (record {
        doubts = λ d h. let q = l.below.doubts d h in (q.0, (λ z. q.1 (z ∙ sym (l.id ∙ ok.id))));
        copies = l.below.copies;
      })))
          (λ (n : k ≢ s). kept_along k (kept_at w k) _ (ap kept_in (st.moved.others k n)) (inv.kept k)) (same_site k s);
      dated = λ m h. ⊎_elim (λ old. inv.dated m old) (λ sent. l.sent m sent) (st.sent m h);
    }

start_below : (catalogue : Catalogue) (s : ℕ) (d : DurableState) → KeptOk s d → Below (start catalogue s d)
unfolding start
start_below catalogue s d k = record {
  parts = λ p h. absurd (has_none p h);
  doubts = k.doubts;
  copies = k.copies;
  answers = λ r a h q. absurd (has_none r h);
}

pub below_starts : (catalogue : Catalogue) → InvBelow (scene_of (start_world catalogue))
below_starts catalogue = record {
  site = λ s x up. subst Below (started catalogue s x up) (start_below catalogue s (empty_durable (start_copies catalogue s)) (first_kept catalogue s));
  kept = λ s. record {
    doubts = λ d h. absurd (has_none d (rw (start_kept catalogue s).doubts at h));
    copies = λ c h. AtMost-along (opening_least (kept_at (scene_of (start_world catalogue)) s).promise) ((start_kept catalogue s).dated c h) refl;
  };
  dated = λ m h. absurd (start_sent catalogue m h);
}
  where
    first_kept : (catalogue : Catalogue) (s : ℕ) → KeptOk s (empty_durable (start_copies catalogue s))
    first_kept catalogue s = record {
      doubts = λ d h. absurd (has_none d h);
      copies = λ c h. AtMost-same c.1.date opening (start_dated catalogue s c h);
    }

pub below_quiet : (catalogue : Catalogue) (w new : Scene) (s : ℕ) → Quiet catalogue w new s → InvBelow w → InvBelow new
below_quiet catalogue w new s q inv = record {
  site = λ k y up. site_at k y (quiet_is catalogue w new s q k y up);
  kept = λ k. record {
    doubts = λ d h. subst (λ (i : ViewId). DoubtOk i k d) (sym (promise_on k)) ((inv.kept k).doubts d (rw (quiet_kept catalogue w new s q (λ (d : DurableState). d.doubts) q.doubts k) at h));
    copies = λ c h. subst (AtMost c.1.date) (sym (promise_on k)) ((inv.kept k).copies c (rw (quiet_kept catalogue w new s q (λ (d : DurableState). d.copies) q.copies k) at h));
  };
  dated = λ m h. inv.dated m (rw q.sent at h);
}
  where
    promise_on : (k : ℕ) → (kept_at new k).promise ≡ (kept_at w k).promise
    promise_on k = quiet_kept catalogue w new s q (λ (d : DurableState). d.promise) q.promise k

    site_at : (k : ℕ) (y : SiteState) → QuietIs catalogue w s k y → Below y
    site_at k y (QuietIs.here e same) = subst Below same (start_below catalogue s (kept_at w s) (inv.kept s))
    site_at k y (QuietIs.other n old) = inv.site k y old
