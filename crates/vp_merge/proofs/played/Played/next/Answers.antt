use Rattle.std.proofs.Common.{sym, subst}
use Rattle.vp_world.specs.Known.{Known}
use Rattle.vp_merge.specs.Played.{IsReached}
use Rattle.vp_merge.proofs.Reached.{reached_more}
use Rattle.vp_merge.proofs.played.Played.next.Goals as goal

pub returns-clause-goes : goal.returns-clause-goes
returns-clause-goes c =
    let step = c.in_ok-step.ensures in
    let pushed = c.in_ok-push.ensures.ok in
    record {
      world = step.world;
      shown = step.shown;
      events = pushed;
      reached =
          subst (λ (w : Known). IsReached w.catalogue w.world c.push.new.self) (sym step.world)
          (subst (IsReached _ _) (sym pushed) (reached_more c.args.self.world.catalogue c.args.self.world.world c.args.self.events c.args.event c.requires.played c.requires.put step.end));
    }
