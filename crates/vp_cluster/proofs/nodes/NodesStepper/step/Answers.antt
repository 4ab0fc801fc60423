use Rattle.std.proofs.Common.{◌≡◌, ◌∙◌, ◌++◌, ap, sym, subst, List, map, flat_map}
use Rattle.std.specs.Prelude.{Some}
use Rattle.vp_model.specs.Types.{Sent}
use Rattle.vp_model.specs.Catalogue.{Catalogue}
use Rattle.vp_runs.specs.Turns.{message_datagram}
use Rattle.vp_cluster.specs.Letter.{Letter}
use Rattle.vp_cluster.specs.Letters.{letter_of, sent_from}
use Rattle.vp_cluster.specs.Nodes.{NodesValue}
use Rattle.vp_cluster.proofs.Coming.{letter_came}
use Rattle.vp_cluster.proofs.nodes.NodesStepper.step.Goals as goal

pub returns-clause-did : goal.returns-clause-did
returns-clause-did c =
    let letter = c.in-Some.letter in
    let cat = c.self.inside.hosts.catalogue in
    let turn_effects = c.in_ok-site.field-0-1 in
    let is : letter_of c.args.self.now.catalogue c.args.self.now.letters c.args.event.now ≡ Some letter =
    subst (λ (old : NodesValue). letter_of old.catalogue old.letters c.args.event.now ≡ Some letter) c.self.view_is
    (ap (λ (cat : Catalogue). letter_of cat c.self.inside.letters c.args.event.now) (sym c.catalog.ensures) ∙ sym c.in_ok-letter.ensures ∙ c.in-Some.is) in
    let put : c.put_all.new.self ≡ c.self.inside.letters ++ map (sent_from letter.to) (flat_map (message_datagram cat) turn_effects.effects.messages) =
    c.in_ok-put_all.ensures
    ∙ ap (λ (messages : List Sent). c.self.inside.letters ++ map (sent_from c.letter.inside.to) (flat_map (message_datagram c.catalog-2.result.now) messages)) c.as_slice-messages.ensures
    ∙ ap (λ (cat : Catalogue). c.self.inside.letters ++ map (sent_from c.letter.inside.to) (flat_map (message_datagram cat) turn_effects.effects.messages)) (c.catalog-2.ensures ∙ c.handle.ensures.same)
    ∙ ap (λ (letter : Letter). c.self.inside.letters ++ map (sent_from letter.to) (flat_map (message_datagram cat) turn_effects.effects.messages)) c.letter.view_is in
    record { letter = letter; letter_is = is; comes = letter_came letter c.args.site c.in_ok-site.site turn_effects cat c.self.inside.hosts.hosts c.handle.new.self.hosts c.self.inside.letters c.put_all.new.self c.args.self.now c.self.view_is c.in_ok-site.ensures.takes put; same_catalogue = c.handle.ensures.same ∙ ap (λ (old : NodesValue). old.catalogue) c.self.view_is }
