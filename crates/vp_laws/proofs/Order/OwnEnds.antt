-- No transaction comes to keep any end but its own.
use Rattle.std.proofs.Common.{◌≡◌, ◌∙◌, ap, sym, subst, ℕ, false, List, [], ◌∷◌, inl, inr, ⊎_elim}
use Rattle.std.specs.Prelude.{Option, Some, None, option_map, option_to_list}
use Rattle.vp_model.specs.Types.{Input, Answer, Pending, Live, Finished}
use Rattle.vp_model.specs.Catalogue.{Catalogue, start_copies}
use Rattle.vp_model.specs.Durable.{empty_durable}
use Rattle.vp_model.specs.Transactions.{deed_answer, answer_of}
use Rattle.vp_model.specs.Site.{SiteState, Stepped}
use Rattle.vp_laws.proofs.Lists.Members.{Has, has_none, has_one_is, has_cases}
use Rattle.vp_laws.proofs.Moves.Table.{is_end}
use Rattle.vp_laws.proofs.Table.Steps.{LiveNow}
use Rattle.vp_laws.proofs.Table.Replies.{completed_words}
use Rattle.vp_laws.proofs.Table.Finished.{EndsNow}
use Rattle.vp_laws.proofs.Worlds.Scenes.{Scene, scene_of}
use Rattle.vp_laws.proofs.Worlds.Sites.{NowIs, now_is, quiet_is, started, started_idle, live_still, no_finished, Quiet, finished_still}
use Rattle.vp_laws.proofs.Keeping.Does.{Does}
use Rattle.vp_laws.proofs.Invariant.OwnEnds.{IsOwnEnd, InvOwnEnds}
use Rattle.vp_laws.proofs.Invariant.Known.{Known}
use Rattle.vp_model.specs.World.{start_world}

module _ (catalogue : Catalogue) (w new : Scene) (s : ℕ) (x : SiteState) (given : Input) (o : Stepped) (k : Known catalogue w) (n : Known catalogue new) (d : Does catalogue w new s x given o) (inv : InvOwnEnds w) where
  same_answers : (u t : Live) (a : Answer) → Has x.live u → u.answers ≡ t.answers → Has t.answers a → is_end a ≡ false
  same_answers u t a h same there = inv.live s x u a d.up h (rw same there)

  live_now : (t : Live) → LiveNow catalogue x given t → (a : Answer) → Has t.answers a → is_end a ≡ false
  live_now t (LiveNow.still h) a there = inv.live s x t a d.up h there
  live_now t (LiveNow.marked u h tick is) a there = same_answers u t a h (ap (λ (t : Live). t.answers) is) there
  live_now t (LiveNow.waits u p from h f m l c is) a there = same_answers u t a h (ap (λ (t : Live). t.answers) is) there
  live_now t (LiveNow.reads u p other q h asks is) a there = same_answers u t a h (ap (λ (t : Live). t.answers) is) there
  live_now t (LiveNow.writes u p other v h asks is) a there = same_answers u t a h (ap (λ (t : Live). t.answers) is) there
  live_now t (LiveNow.prepares u p h asks is) a there = same_answers u t a h (ap (λ (t : Live). t.answers) is) there
  live_now t (LiveNow.begins view h is) a there = absurd (has_none a (rw (← (ap (λ (t : Live). t.answers) is)) at there))
  live_now t (LiveNow.completed u p deed l h c is) a there = ⊎_elim
      (λ old. inv.live s x u a d.up h old)
      (λ new. subst (λ (a : Answer). is_end a ≡ false) (has_one_is (deed_answer u.txn p.number deed) a new) (completed_words catalogue x given d.led (k.votes.site s x d.up) u p deed l c))
      (has_cases u.answers (deed_answer u.txn p.number deed ∷ []) a (rw (← (ap (λ (t : Live). t.answers) is)) at there))

  ends_now : (f : Finished) → EndsNow x f → (a : Answer) → Has f.answers a → IsOwnEnd f a
  ends_now f e a there = ⊎_elim
      (λ old. inl (inv.live s x e.live.was a d.up e.live.live (subst (λ (answers : List Answer). Has answers a) (ap (λ (t : Live). t.answers) e.live.same) old)))
      (λ new. let q = of_pending e.handled.pending a new in inr (q.0, ap (λ (f : Finished). answer_of f.txn q.0 f.ending) (sym e.is) ∙ q.1))
      (has_cases e.handled.answers (option_to_list (option_map (λ (p : Pending). answer_of e.handled.txn p.number e.why) e.handled.pending)) a (subst (λ (answers : List Answer). Has answers a) (ap (λ (f : Finished). f.answers) (sym e.is)) there))
    where
      of_pending : (p : Option Pending) (a : Answer) → Has (option_to_list (option_map (λ (p : Pending). answer_of e.handled.txn p.number e.why) p)) a → (number : ℕ) × (answer_of e.handled.txn number e.why ≡ a)
      of_pending None a h = absurd (has_none a h)
      of_pending (Some p) a h = (p.number, has_one_is _ a h)

  pub own_ends_keep : InvOwnEnds new
  own_ends_keep = record {
    live = λ j y t a up h there. live_at j y t a h there (now_is w new s x o d.st j y up);
    finished = λ j y f a up h there. finished_at j y f a h there (now_is w new s x o d.st j y up);
  }
    where
      live_at : (j : ℕ) (y : SiteState) (t : Live) (a : Answer) → Has y.live t → Has t.answers a → NowIs w s o.site j y → is_end a ≡ false
      live_at j y t a h there (NowIs.other m old) = inv.live j y t a old h there
      live_at j y t a h there (NowIs.here z same) = live_now t (d.steps.live t (subst (λ (y : SiteState). Has y.live t) (sym same) h)) a there

      finished_at : (j : ℕ) (y : SiteState) (f : Finished) (a : Answer) → Has y.finished f → Has f.answers a → NowIs w s o.site j y → IsOwnEnd f a
      finished_at j y f a h there (NowIs.other m old) = inv.finished j y f a old h there
      finished_at j y f a h there (NowIs.here z same) = ⊎_elim
          (λ old. inv.finished s x f a d.up old there)
          (λ new. ends_now f new a there)
          (d.finished f (subst (λ (y : SiteState). Has y.finished f) (sym same) h))

pub own_ends_starts : (catalogue : Catalogue) → InvOwnEnds (scene_of (start_world catalogue))
own_ends_starts catalogue = record {
  live = λ s x t a up h there. absurd (started_idle catalogue s x t up h);
  finished = λ s x f a up h there. absurd (no_finished catalogue s (empty_durable (start_copies catalogue s)) f (subst (λ (x : SiteState). Has x.finished f) (sym (started catalogue s x up)) h));
}

pub own_ends_quiet : (catalogue : Catalogue) (w new : Scene) (s : ℕ) → Quiet catalogue w new s → InvOwnEnds w → InvOwnEnds new
own_ends_quiet catalogue w new s q inv = record {
  live = λ j y t a up h there. inv.live j y t a (live_still catalogue w s j y t h (quiet_is catalogue w new s q j y up)) h there;
  finished = λ j y f a up h there. inv.finished j y f a (finished_still catalogue w s j y f h (quiet_is catalogue w new s q j y up)) h there;
}
