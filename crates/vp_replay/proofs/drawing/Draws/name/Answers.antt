use Rattle.std.proofs.Common.{rules, ◌≡◌, ◌∙◌, ap, subst, ℕ, List, IfOk, get_or}
use Rattle.vp_model.specs.Catalogue.{RecordEntry}
use Rattle.vp_model.specs.Generated.{next_draw, drawn, generated_name, generated_record, generated_catalogue}
use Rattle.vp_replay.proofs.GeneratedCatalogue.{made_at}
use Rattle.vp_replay.proofs.drawing.Draws.name.Goals as goal

pub returns-clause-drawn : goal.returns-clause-drawn
returns-clause-drawn c =
    let at : c.index-records-record.result ≡ get_or generated_catalogue.records c.draw-record.result c.index-records-record.result = search rules in
    let is : c.index-records-record.result ≡ generated_record c.draw-record.result = at ∙ made_at generated_record 40 c.draw-record.result c.index-records-record.result c.draw-record.ensures.below in
    let name : c.name.result.now ≡ generated_name (drawn (next_draw c.args.self.now) 40) = c.name.ensures ∙ ap (λ (entry : RecordEntry). entry.name) is ∙ ap generated_name c.draw-record.ensures.drawn in
    subst (λ (t : List ℕ). IfOk c.copy_of.result (λ copy. copy ≡ t)) name c.copy_of.ensures
