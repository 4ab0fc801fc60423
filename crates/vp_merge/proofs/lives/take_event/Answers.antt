use Rattle.std.proofs.Common.{◌∙◌, ap, sym, subst, ◌≤◌, length}
use Rattle.std.specs.Prelude.{Option, IfSome}
use Rattle.vp_model.specs.Types.{Event, Shown}
use Rattle.vp_model.specs.Catalogue.{sites_of}
use Rattle.vp_world.specs.Known.{Known}
use Rattle.vp_fitting.specs.Fitting.{frames_in}
use Rattle.vp_fitting.specs.Merged.{tells}
use Rattle.vp_merge.specs.Lives.{Takes}
use Rattle.vp_merge.specs.Played.{IsPut}
use Rattle.vp_merge.specs.Telling.{AreFrames, NotesShown, bytes_of}
use Rattle.vp_merge.proofs.Doing.{takes_some}
use Rattle.vp_merge.proofs.Reached.{event_shows}
use Rattle.vp_merge.proofs.lives.take_event.Goals as goal

pub tells-requires-2 : goal.tells-requires-2
tells-requires-2 c =
    let old = c.args.played in
    let goes = c.in_ok-step.ensures.goes in
    let put : IsPut (sites_of old.world.catalogue) c.in-Some.event = subst (λ (o : Option Event). IfSome o (IsPut (sites_of old.world.catalogue))) c.in-Some.is c.requires.put in
    let shows = event_shows old.world.catalogue old.world.world old.events c.in-Some.event c.requires.played put c.args.site c.requires.listed in
    let shown = c.shown.ensures ∙ goes.shown in
    subst (AreFrames c.args.site) (sym shown) (shows.1 (subst (λ (k : Known). length k.world.sent ≤ 2000000) goes.world goes.reached.few_sent))

pub returns : goal.returns
returns c =
    let old = c.args.played in
    let goes = c.in_ok-step.ensures.goes in
    let put : IsPut (sites_of old.world.catalogue) c.in-Some.event = subst (λ (o : Option Event). IfSome o (IsPut (sites_of old.world.catalogue))) c.in-Some.is c.requires.put in
    let shows = event_shows old.world.catalogue old.world.world old.events c.in-Some.event c.requires.played put c.args.site c.requires.listed in
    let outs = bytes_of c.args.outs.now in
    let new = c.in_ok-into_played.field-0 in
    let told = c.in_ok-told-2.told in
    subst (λ (o : Option Event). Takes c.args.site o c.args.short outs old new told c.args.numbers.now c.tells-2.new.numbers) (sym c.in-Some.is)
    (takes_some c.args.site c.in-Some.event c.args.short outs old c.in_ok-step.step new told c.args.numbers.now c.tells-2.new.numbers goes c.in_ok-into_played.ensures c.in_ok-step.ensures.end
    (c.in_ok-told-2.ensures.told ∙ ap (λ (s : Shown). tells c.args.short outs (frames_in c.args.site s)) c.shown.ensures)
    (subst (λ (s : Shown). NotesShown s c.args.numbers.now c.tells-2.new.numbers) c.shown.ensures c.in_ok-told-2.ensures.noted)
    shows.0)
