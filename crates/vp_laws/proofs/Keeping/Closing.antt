-- A record that is closed for a view stays closed.
use Rattle.std.proofs.Common.{◌≡◌, ◌∙◌, ap, subst, ℕ, List}
use Rattle.std.specs.Prelude.{Some}
use Rattle.vp_model.specs.Types.{ViewId, View, Input, Part, Doubt}
use Rattle.vp_model.specs.Words.{keys}
use Rattle.vp_model.specs.Catalogue.{Catalogue}
use Rattle.vp_model.specs.Durable.{DurableState}
use Rattle.vp_model.specs.Site.{SiteState, Stepped}
use Rattle.vp_model.specs.Step.{durable_of}
use Rattle.vp_laws.proofs.Lists.Members.{Has}
use Rattle.vp_laws.proofs.Lists.Views.{Precedes}
use Rattle.vp_laws.proofs.Table.Below.{PartOk}
use Rattle.vp_laws.proofs.Table.Shares.{DoubtNow, Shares}
use Rattle.vp_laws.proofs.Table.Leaves.{Uses, Leaves}
use Rattle.vp_laws.proofs.Worlds.Scenes.{Scene, plain_at, kept_at, Acted}
use Rattle.vp_laws.proofs.Invariant.Lived.{InvLived}
use Rattle.vp_laws.proofs.Worlds.Sites.{KeptIs, kept_is, Quiet, quiet_kept}
use Rattle.vp_laws.proofs.Keeping.Leaving.{left_lasts, left_quiet}
use Rattle.vp_laws.proofs.Invariant.Closed.{ClosedAt, Closed}

module _ (catalogue : Catalogue) (w new : Scene) (s : ℕ) (x : SiteState) (given : Input) (o : Stepped) (up : plain_at w s ≡ Some x) (kept : durable_of x ≡ kept_at w s) (parts : (p : Part) → Has x.parts p → PartOk x p) (p : Shares x given o) (v : Leaves x given o) (st : Acted w new s x o) where
  pub closed_at_lasts : (q rec : ℕ) (i : ViewId) → ClosedAt w q rec i → ClosedAt new q rec i
  closed_at_lasts q rec i h = record {
    left = λ j b. left_lasts catalogue w new s x given o up (ap (λ (d : DurableState). d.promise) kept) v st q j (h.left j b);
    certain = λ d there on b. go d on b there (kept_is w new s x o st q);
  }
    where
      here : (d : Doubt) → Has (keys d.writes) rec → Precedes d.view i → q ≡ s → DoubtNow x given d → ⊥
      here d on b e (DoubtNow.still old) = h.certain d (rw (e, ← kept) old) on b
      here d on b e (DoubtNow.fresh from part reads writes a some is) =
          let held = parts part a.part_here in
          (h.left d.view b).unused x (rw e up) (Uses.held held.0 held.1 (held.2 ∙ ap (λ (d : Doubt). d.view) is))

      go : (d : Doubt) → Has (keys d.writes) rec → Precedes d.view i → Has (kept_at new q).doubts d → KeptIs w new s (durable_of o.site) q → ⊥
      go d on b there (KeptIs.other n same) = h.certain d (subst (λ (k : DurableState). Has k.doubts d) same there) on b
      go d on b there (KeptIs.here e same) = here d on b e (p.doubts d (subst (λ (k : DurableState). Has k.doubts d) same there))

  pub closed_lasts : (rec : ℕ) (u : View) → Closed catalogue w rec u → Closed catalogue new rec u
  closed_lasts rec u h q holder member = closed_at_lasts q rec u.id (h q holder member)

pub closed_quiet : (catalogue : Catalogue) (w new : Scene) (s : ℕ) → Quiet catalogue w new s → InvLived w → (q rec : ℕ) (i : ViewId) → ClosedAt w q rec i → ClosedAt new q rec i
closed_quiet catalogue w new s quiet lived q rec i h = record {
  left = λ j b. left_quiet catalogue w new s quiet lived q j (h.left j b);
  certain = λ d there on b. h.certain d (subst (λ (ds : List Doubt). Has ds d) (quiet_kept catalogue w new s quiet (λ (d : DurableState). d.doubts) quiet.doubts q) there) on b;
}
