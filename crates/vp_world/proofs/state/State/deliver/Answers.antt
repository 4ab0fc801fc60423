use Rattle.std.proofs.Common.{◌≡◌, ◌≤◌, ◌∙◌, length, option_copied, Some, None, refl, sym, ap, subst}
use Rattle.vp_model.specs.Types.shown
use Rattle.vp_model.specs.Types.event
use Rattle.vp_model.specs.World.{WorldState, message_at, happens}
use Rattle.vp_mail.specs.Posted.{message_in}
use Rattle.vp_world.specs.Steps.{line_of}
use Rattle.vp_world.specs.contracts.state.State.{the_view}
use Rattle.vp_world.proofs.Moves.{at_site_gives, no_message, delivers_down, delivers_parted, delivers_lent, does_along, does_shown}
use Rattle.vp_world.proofs.state.State.deliver.Goals as goal

pub returns-in_default-clause-does : goal.returns-in_default-clause-does
returns-in_default-clause-does g c =
    let w = the_view c.self.inside in
    let few : length w.sent ≤ 2000000 = subst (λ (w : WorldState). length w.sent ≤ 2000000) (sym c.self.view_is) c.requires.few in
    let at : message_at w c.args.k ≡ None = sym c.message.ensures ∙ ap (λ r. option_copied r) c.in_default.is in
    rw (← c.self.view_is) (does_shown (happens c.args.catalog.now (event.Deliver c.args.k) w) w shown.NoMessage few (no_message c.args.catalog.now c.args.k w at))

pub returns-then-not-is_up-clause-does : goal.returns-then-not-is_up-clause-does
returns-then-not-is_up-clause-does g c =
    let w = the_view c.self.inside in
    let few : length w.sent ≤ 2000000 = subst (λ (w : WorldState). length w.sent ≤ 2000000) (sym c.self.view_is) c.requires.few in
    let at : message_at w c.args.k ≡ Some c.in-Some.sent.now = sym c.message.ensures ∙ ap (λ r. option_copied r) c.in-Some.is in
    rw (← c.self.view_is) (does_shown (happens c.args.catalog.now (event.Deliver c.args.k) w) w (shown.Down c.to-to.result) few (delivers_down c.args.catalog.now c.args.k w c.in-Some.sent.now at c.from-from.result c.to-to.result c.from-from.ensures c.to-to.ensures c.is_up.result c.is_up.ensures c.if-not-is_up.true))

pub returns-then-has-clause-does : goal.returns-then-has-clause-does
returns-then-has-clause-does g c =
    let w = the_view c.self.inside in
    let few : length w.sent ≤ 2000000 = subst (λ (w : WorldState). length w.sent ≤ 2000000) (sym c.self.view_is) c.requires.few in
    let at : message_at w c.args.k ≡ Some c.in-Some.sent.now = sym c.message.ensures ∙ ap (λ r. option_copied r) c.in-Some.is in
    rw (← c.self.view_is) (does_shown (happens c.args.catalog.now (event.Deliver c.args.k) w) w (shown.Parted c.from-from.result c.to-to.result) few (delivers_parted c.args.catalog.now c.args.k w c.in-Some.sent.now at c.from-from.result c.to-to.result c.from-from.ensures c.to-to.ensures c.is_up.result c.is_up.ensures c.has.result c.has.ensures c.if-not-is_up.false c.if-has.true))

pub returns-clause-does : goal.returns-clause-does
returns-clause-does g c =
    let w = the_view c.self.inside in
    let come : WorldState = record w { sent = c.deliver.new.self.sent; delivered = c.deliver.new.self.delivered } in
    let at : message_at w c.args.k ≡ Some c.in-Some.sent.now = sym c.message.ensures ∙ ap (λ r. option_copied r) c.in-Some.is in
    let lent : message_in c.args.k c.deliver.new.self.sent ≡ Some c.in-Some-message.sent.now = sym c.message-2.ensures ∙ ap (λ r. option_copied r) c.in-Some-message.is in
    let m = delivers_lent c.args.catalog.now c.args.k w c.in-Some.sent.now at c.from-from.result c.to-to.result c.from-from.ensures c.to-to.ensures c.is_up.result c.is_up.ensures c.has.result c.has.ensures c.if-not-is_up.false c.if-has.false c.deliver.new.self c.in_ok-deliver.ensures.delivered c.in-Some-message.sent.now lent c.message-input.result c.message-input.ensures in
    let n = at_site_gives c.args.catalog.now c.to-to.result c.message-input.result come c.in_ok-taken.taken w.places c.step.new.self refl c.in_ok-taken.ensures.taken c.in_ok-taken.ensures.places in
    rw (← c.self.view_is) (does_along (happens c.args.catalog.now (event.Deliver c.args.k) w) (line_of c.to-to.result c.in_ok-taken.taken (record come { places = c.step.new.self })) c.line_of.new.self c.line_of.result (m ∙ n) c.line_of.ensures)
