-- The answers that may be given again are still those to operations, and after the end of a transaction its end.
use Rattle.std.proofs.Common.{◌≡◌, subst, ℕ}
use Rattle.std.specs.Prelude.{Some}
use Rattle.vp_model.specs.Types.{Input}
use Rattle.vp_model.specs.Catalogue.{Catalogue, start_copies}
use Rattle.vp_model.specs.Durable.{DurableState, empty_durable}
use Rattle.vp_model.specs.Site.{SiteState}
use Rattle.vp_model.specs.Step.{start, step}
use Rattle.vp_laws.proofs.Lists.Members.{has_none}
use Rattle.vp_laws.proofs.Worlds.Scenes.{Scene, plain_at, kept_at, Acted, acted, scene_of}
use Rattle.vp_laws.proofs.Table.Kept.{AnswersKept, kept-step}
use Rattle.vp_laws.proofs.Worlds.Sites.{NowIs, now_is, QuietIs, quiet_is, started, Quiet}
use Rattle.vp_laws.proofs.Invariant.Repeated.{InvRepeated}
use Rattle.vp_model.specs.World.{start_world}

none_kept : (catalogue : Catalogue) (s : ℕ) (d : DurableState) → AnswersKept (start catalogue s d).coordinator
unfolding start
none_kept catalogue s d = record { live = λ t h. absurd (has_none t h); finished = λ f h. absurd (has_none f h) }

pub repeated_starts : (catalogue : Catalogue) → InvRepeated (scene_of (start_world catalogue))
repeated_starts catalogue = record { site = λ s x h. subst (λ (x : SiteState). AnswersKept x.coordinator) (started catalogue s x h) (none_kept catalogue s (empty_durable (start_copies catalogue s))) }

pub repeated_acts : (catalogue : Catalogue) (w : Scene) (s : ℕ) (x : SiteState) (given : Input) → plain_at w s ≡ Some x → Acted w (acted w s x (step catalogue x given)) s x (step catalogue x given) → InvRepeated w → InvRepeated (acted w s x (step catalogue x given))
repeated_acts catalogue w s x given up st inv = record { site = λ k y h. kept_at_site k y (now_is w _ s x (step catalogue x given) st k y h) }
  where
    kept_at_site : (k : ℕ) (y : SiteState) → NowIs w s (step catalogue x given).site k y → AnswersKept y.coordinator
    kept_at_site k y (NowIs.other n old) = inv.site k y old
    kept_at_site k y (NowIs.here e same) = subst (λ (y : SiteState). AnswersKept y.coordinator) same (kept-step catalogue x given (inv.site s x up))

pub repeated_quiet : (catalogue : Catalogue) (w new : Scene) (s : ℕ) → Quiet catalogue w new s → InvRepeated w → InvRepeated new
repeated_quiet catalogue w new s q inv = record { site = λ k y h. kept_at_site w s inv k y (quiet_is catalogue w new s q k y h) }
  where
    kept_at_site : (w : Scene) (s : ℕ) → InvRepeated w → (k : ℕ) (y : SiteState) → QuietIs catalogue w s k y → AnswersKept y.coordinator
    kept_at_site w s inv k y (QuietIs.other n old) = inv.site k y old
    kept_at_site w s inv k y (QuietIs.here e same) = subst (λ (y : SiteState). AnswersKept y.coordinator) same (none_kept catalogue s (kept_at w s))
