-- All that is known of sites and messages holds in every world of every schedule: each part after a step or a quiet event, by all
-- parts before it.
use Rattle.vp_laws.proofs.Worlds.Events.{Arrives, Lasts, crashed, restarted}
use Rattle.vp_model.specs.Catalogue.{Catalogue}
use Rattle.vp_model.specs.Durable.{DurableState}
use Rattle.vp_laws.proofs.Lists.Members.{Has}
use Rattle.vp_model.specs.Types.{Input, Live}
use Rattle.vp_laws.proofs.Invariant.Views.{InvViews}
use Rattle.vp_laws.proofs.Invariant.Known.{Known}
use Rattle.vp_laws.proofs.Worlds.Sites.{Quiet, crash_quiet, restart_quiet}
use Rattle.vp_laws.proofs.Worlds.Scenes.{Scene, acted, plain_at, promise_at, scene_of}
use Rattle.vp_model.specs.Site.{SiteState}
use Rattle.std.specs.Prelude.{Some}
use Rattle.vp_laws.proofs.Keeping.Answers.{answers_keep, answers_quiet, answers_starts}
use Rattle.std.proofs.Common.{ap, ℕ, ◌≡◌}
use Rattle.vp_laws.proofs.Keeping.Barred.{barred_acts, barred_quiet, barred_starts}
use Rattle.vp_laws.proofs.Keeping.Below.{below_acts, below_quiet, below_starts}
use Rattle.vp_laws.proofs.Keeping.Dated.{dated_keep, dated_quiet, dated_starts}
use Rattle.vp_laws.proofs.Keeping.Does.{does}
use Rattle.vp_laws.proofs.Keeping.Endings.{endings_keep, endings_quiet, endings_starts}
use Rattle.vp_laws.proofs.Keeping.Entered.{entered_keep, entered_quiet, entered_starts}
use Rattle.vp_laws.proofs.Keeping.Guards.{guards_acts, guards_quiet, guards_starts}
use Rattle.vp_laws.proofs.Keeping.Held.{held_acts, held_quiet, held_starts}
use Rattle.vp_laws.proofs.Table.Led.{led-step}
use Rattle.vp_laws.proofs.Keeping.Led.{led_keeps, led_quiet, led_starts}
use Rattle.vp_laws.proofs.Keeping.Listed.{listed_keep, listed_quiet, listed_starts}
use Rattle.vp_laws.proofs.Table.Listed.{listing-step}
use Rattle.vp_laws.proofs.Keeping.Lived.{lived_acts, lived_quiet, lived_starts}
use Rattle.vp_laws.proofs.Keeping.Names.{names_acts, names_quiet, names_starts}
use Rattle.vp_laws.proofs.Keeping.Ops.{ops_acts, ops_quiet, ops_starts, same_held}
use Rattle.vp_laws.proofs.Keeping.Used.{owned, used_keep, used_quiet, used_starts}
use Rattle.vp_laws.proofs.Keeping.Reads.{reads_acts, reads_now, reads_quiet, reads_starts}
use Rattle.vp_laws.proofs.Keeping.Repeated.{repeated_acts, repeated_quiet, repeated_starts}
use Rattle.vp_laws.proofs.Keeping.Settled.{settled_keep, settled_quiet, settled_starts}
use Rattle.vp_laws.proofs.Keeping.Shares.{shares_keep, shares_quiet, shares_starts}
use Rattle.vp_model.specs.World.{start_world}
use Rattle.vp_model.specs.Step.{step}
use Rattle.vp_laws.proofs.Table.Steps.{steps-step}
use Rattle.vp_laws.proofs.Keeping.Views.{views_last}
use Rattle.vp_laws.proofs.Table.Votes.{votes-step}
use Rattle.vp_laws.proofs.Keeping.Votes.{votes_keep, votes_quiet, votes_starts}

pub known_starts : (catalogue : Catalogue) → Known catalogue (scene_of (start_world catalogue))
known_starts catalogue = record {
  views = (views_last catalogue).starts;
  led = led_starts catalogue;
  below = below_starts catalogue;
  names = names_starts catalogue;
  votes = votes_starts catalogue;
  ends = endings_starts catalogue;
  shares = shares_starts catalogue;
  ops = ops_starts catalogue;
  answers = answers_starts catalogue;
  entered = entered_starts catalogue;
  lived = lived_starts catalogue;
  settled = settled_starts catalogue;
  guards = guards_starts catalogue;
  used = used_starts catalogue;
  dated = dated_starts catalogue;
  reads = reads_starts catalogue;
  held = held_starts catalogue;
  listed = listed_starts catalogue;
  barred = barred_starts catalogue;
  repeated = repeated_starts catalogue;
}

pub known_acts : (catalogue : Catalogue) (w : Scene) (s : ℕ) (x : SiteState) (given : Input) → plain_at w s ≡ Some x → Arrives w s given → Known catalogue w → Known catalogue (acted w s x (step catalogue x given))
known_acts catalogue w s x given up r k =
    let o = step catalogue x given in
    let new = acted w s x o in
    let d = does catalogue w s x given up r k in
    let leads = led-step catalogue x given d.here.tidy d.led in
    let apart = k.votes.site s x up in
    let steps = steps-step catalogue x given d.led apart in
    let promise : x.promise ≡ promise_at w s = ap (λ (d : DurableState). d.promise) d.here.kept in
    let ops = λ (t : Live) (h : Has x.live t). k.ops.live s x t up h in
    let views = (views_last catalogue).acts w s x given up r k.views in
    let led = led_keeps catalogue w new s x o up k.views k.led leads d.st in
    let below = below_acts catalogue w s x given up r k.views k.led k.below in
    let votes = votes_keep catalogue w new s x given o up d.here.id r k.names k.votes leads (votes-step catalogue x given d.led apart) d.st in
    let shares = shares_keep catalogue w new s x given o up r d.here.id (ap (λ (d : DurableState). d.doubts) d.here.kept) apart (λ t h. (d.led.names t h).0) d.below.parts k.names k.votes votes k.ends k.shares d.steps d.shares d.st in
    let entered = entered_keep catalogue w new s x given o up r d.here.id promise k.views views d.led k.led d.below k.shares ops k.entered d.local d.steps d.shares d.st in
    let held = held_acts catalogue w s x given o d.here.kept d.guards d.st k.held in
    record {
      views = views;
      led = led;
      below = below;
      names = names_acts catalogue w s x given up r k.views k.led k.names;
      votes = votes;
      ends = endings_keep catalogue w new s x given o up d.here.id (ap (λ (d : DurableState). d.decisions) d.here.kept) d.led (λ j y h. (k.views.site j y h).id) k.names k.ends d.endings (leads.id, leads.life) d.st;
      shares = shares;
      ops = ops_acts catalogue w new s x given o up k.views views d.led led k.ops steps d.st;
      answers = answers_keep catalogue w new s x given o up d.here.id r k.names (λ t h. (d.led.names t h).0) k.shares ops k.answers d.steps d.st
          (λ t h. same_held catalogue w new s x given o t k.views views up d.st.now d.led (led.site s o.site d.st.now) d.st.moved.agreed h (d.steps.live t h)) steps.id;
      entered = entered;
      lived = lived_acts w s x given o d.here.kept leads.life d.st k.lived;
      settled = settled_keep catalogue w new s x given o up r d.here.id d.here.kept k.views views d.led k.led k.ends k.shares ops k.entered entered below k.settled d.waits d.endings d.steps d.shares d.leaves d.st;
      guards = guards_acts catalogue w s x given o d.guards d.st k.guards;
      used = used_keep catalogue w new s x given up r d.here.id promise k.views k.led (owned catalogue w k.views k.led) k.names k.ends k.shares k.answers k.used d.steps d.shares d.leaves d.guards d.st;
      dated = dated_keep catalogue w new s x given o up r d.here.id d.here.kept k.ends k.shares k.dated d.copies d.shares d.st;
      reads = reads_acts catalogue w s x given o (reads_now catalogue x given (λ t h. k.reads.live s x t up h)) d.steps d.guards d.st k.reads;
      held = held;
      listed = listed_keep catalogue w new s x given o up k.views views d.led k.led k.shares shares k.entered entered k.settled k.guards k.held held k.listed d.steps d.shares
          (listing-step catalogue x given d.here.tidy (λ r h. let q = (k.guards.site s x up).lower r h in (q.0, q.1)) (λ r h. k.listed.listed s x r up h)) d.st;
      barred = barred_acts w new s x o d.unlisting.base.1.1.barred d.st k.barred;
      repeated = repeated_acts catalogue w s x given up d.st k.repeated;
    }

-- a site goes down or starts again; its views are known of before
pub known_quiet : (catalogue : Catalogue) (w new : Scene) (s : ℕ) → Quiet catalogue w new s → InvViews catalogue new → Known catalogue w → Known catalogue new
known_quiet catalogue w new s q views k = record {
  views = views;
  led = led_quiet catalogue w new s q k.led;
  below = below_quiet catalogue w new s q k.below;
  names = names_quiet catalogue w new s q k.names;
  votes = votes_quiet catalogue w new s q k.votes;
  ends = endings_quiet catalogue w new s q k.ends;
  shares = shares_quiet catalogue w new s q k.shares;
  ops = ops_quiet catalogue w new s q k.ops;
  answers = answers_quiet catalogue w new s q k.answers;
  entered = entered_quiet catalogue w new s q k.entered;
  lived = lived_quiet catalogue w new s q k.lived;
  settled = settled_quiet catalogue w new s q k.lived k.views k.settled;
  guards = guards_quiet catalogue w new s q k.guards;
  used = used_quiet catalogue w new s q k.lived k.views k.led k.shares (owned catalogue w k.views k.led) k.used;
  dated = dated_quiet catalogue w new s q k.dated;
  reads = reads_quiet catalogue w new s q k.reads;
  held = held_quiet catalogue w new s q k.held;
  listed = listed_quiet catalogue w new s q k.listed;
  barred = barred_quiet catalogue w new s q k.barred;
  repeated = repeated_quiet catalogue w new s q k.repeated;
}

pub known_last : (catalogue : Catalogue) → Lasts catalogue (Known catalogue)
known_last catalogue = record {
  starts = known_starts catalogue;
  acts = known_acts catalogue;
  crashes = λ w s k. known_quiet catalogue w (crashed w s) s (crash_quiet catalogue w s) ((views_last catalogue).crashes w s k.views) k;
  restarts = λ w s place e u i k. known_quiet catalogue w (restarted catalogue w s) s (restart_quiet catalogue w s place e i) ((views_last catalogue).restarts w s place e u i k.views) k;
}
