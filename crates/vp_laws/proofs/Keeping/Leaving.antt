-- A site that has left a view does not use it again.
use Rattle.std.proofs.Common.{◌≡◌, ◌∙◌, ap, sym, subst, ℕ, refl, ⊎_elim}
use Rattle.std.specs.Prelude.{Some}
use Rattle.vp_model.specs.Types.{ViewId, Input}
use Rattle.vp_model.specs.Catalogue.{Catalogue}
use Rattle.vp_model.specs.Durable.{DurableState}
use Rattle.vp_model.specs.Site.{SiteState, Stepped}
use Rattle.vp_model.specs.Step.{start}
use Rattle.vp_laws.proofs.Lists.Views.{AtMost, Precedes, AtMost-along, not_both}
use Rattle.vp_laws.proofs.Table.Leaves.{Uses, Leaves}
use Rattle.vp_laws.proofs.Worlds.Scenes.{Scene, up-place, plain_at, kept_at, promise_at, Acted}
use Rattle.vp_model.specs.World.{place_of}
use Rattle.vp_laws.proofs.Invariant.Lived.{InvLived}
use Rattle.vp_laws.proofs.Worlds.Sites.{NowIs, now_is, Quiet, QuietIs, quiet_is, quiet_kept}
use Rattle.vp_laws.proofs.Invariant.HasLeft.{HasLeft}
use Rattle.vp_laws.proofs.Keeping.Lived.{start_unused}
use Rattle.vp_laws.proofs.Keeping.Views.{above}

pub left_lasts : (catalogue : Catalogue) (w new : Scene) (s : ℕ) (x : SiteState) (given : Input) (o : Stepped) → plain_at w s ≡ Some x → x.promise ≡ promise_at w s → Leaves x given o → Acted w new s x o → (q : ℕ) (i : ViewId) → HasLeft w q i → HasLeft new q i
left_lasts catalogue w new s x given o up promise v st q i h = record {
  promised = above catalogue w new s st.moved i q h.promised;
  unused = λ y g u. go y u (now_is w new s x o st q y g);
}
  where
    go : (y : SiteState) → Uses y i → NowIs w s o.site q y → ⊥
    go y u (NowIs.other n old) = h.unused y old u
    go y u (NowIs.here e same) = ⊎_elim
        (λ was. h.unused x (rw e up) was)
        (λ (more : Precedes x.promise i). not_both x.promise i more (AtMost-along h.promised refl (promise ∙ ap (promise_at w) (sym e))))
        (v.uses i (subst (λ (y : SiteState). Uses y i) (sym same) u))

-- the site itself, where it uses only what is above its promise
pub left_here : (w new : Scene) (s : ℕ) (x : SiteState) (o : Stepped) → Acted w new s x o → (i : ViewId) → AtMost i (promise_at new s) → (Uses o.site i → ⊥) → HasLeft new s i
left_here w new s x o st i at_most none = record {
  promised = at_most;
  unused = λ y g u. none (let same : o.site ≡ y = (let n = st.now in cc) in subst (λ (y : SiteState). Uses y i) (sym same) u);
}

module _ (catalogue : Catalogue) (w new : Scene) (s : ℕ) (quiet : Quiet catalogue w new s) (lived : InvLived w) where
  promise_on : (q : ℕ) → promise_at new q ≡ promise_at w q
  promise_on q = quiet_kept catalogue w new s quiet (λ (d : DurableState). d.promise) quiet.promise q

  start_not : (y : SiteState) → plain_at new s ≡ Some y → (i : ViewId) → Uses (start catalogue s (kept_at w s)) i → ⊥
  start_not y g i u = let p = up-place (place_of s new.places) y g in start_unused catalogue s (kept_at w s) i (lived.lived s (quiet.moved.there s p.0 p.1)) u

  pub left_quiet : (q : ℕ) (i : ViewId) → HasLeft w q i → HasLeft new q i
  left_quiet q i h = record {
    promised = AtMost-along h.promised refl (promise_on q);
    unused = λ y g u. go y g u (quiet_is catalogue w new s quiet q y g);
  }
    where
      go : (y : SiteState) → plain_at new q ≡ Some y → Uses y i → QuietIs catalogue w s q y → ⊥
      go y g u (QuietIs.other n old) = h.unused y old u
      go y g u (QuietIs.here e same) = start_not y (rw e at g) i (subst (λ (y : SiteState). Uses y i) (sym same) u)

  -- a site that goes down or starts again has left each view up to its promise
  pub left_by_quiet : (i : ViewId) → AtMost i (promise_at w s) → HasLeft new s i
  left_by_quiet i h = record {
    promised = AtMost-along h refl (promise_on s);
    unused = λ y g u. start_not y g i (subst (λ (y : SiteState). Uses y i) (sym (quiet.now y g)) u);
  }
