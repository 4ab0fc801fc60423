use Rattle.std.proofs.Common.{◌≡◌, ◌∙◌, List, ap, ap₂, codes}
use Rattle.std.proofs.lemmas.Result.{IfOk-weaker}
use Rattle.clap.specs.Words.{App, Text}
use Rattle.vp_words.specs.Parsed.{operand_app, with_command}
use Rattle.vp_words.proofs.Parsing.{alone_ids, client_ids, draws_ids, gateway_ids, node_ids, signal_ids}
use Rattle.vp_words.proofs.words.program.Goals as goal

onto : (name : Text) (ids : List Text) (a b : App) → a ≡ b → with_command a (operand_app name ids) ≡ with_command b (operand_app name ids)
onto name ids a b same = ap (λ (app : App). with_command app (operand_app name ids)) same

pub returns : goal.returns
returns c =
    let replay = c.in_ok-program.ensures ∙ onto (codes "replay") alone_ids _ _ c.bare.ensures in
    let check = c.in_ok-program-2.ensures ∙ onto (codes "check") alone_ids _ _ replay in
    let node = c.in_ok-program-3.ensures ∙ onto (codes "node") node_ids _ _ check in
    let client = c.in_ok-program-4.ensures ∙ onto (codes "client") client_ids _ _ node in
    let tick = c.in_ok-program-5.ensures ∙ onto (codes "tick") signal_ids _ _ client in
    let probe = c.in_ok-program-6.ensures ∙ onto (codes "probe") signal_ids _ _ tick in
    let stop = c.in_ok-program-7.ensures ∙ onto (codes "stop") signal_ids _ _ probe in
    let generate = c.in_ok-program-8.ensures ∙ onto (codes "generate") draws_ids _ _ stop in
    let soak = c.in_ok-program-9.ensures ∙ onto (codes "soak") draws_ids _ _ generate in
    let logs = c.in_ok-program-10.ensures ∙ onto (codes "logs") alone_ids _ _ soak in
    let audit = c.in_ok-program-11.ensures.shape c.in_ok-auditing.ensures.local ∙ ap₂ with_command logs c.in_ok-auditing.ensures.app in
    let gateway = c.in_ok-program-12.ensures ∙ onto (codes "gateway") gateway_ids _ _ audit in
    let merge = c.in_ok-program-13.ensures ∙ onto (codes "merge") alone_ids _ _ gateway in
    IfOk-weaker c.with_command-13.result _ _ (λ r h. h ∙ onto (codes "proc") gateway_ids _ _ merge) c.with_command-13.ensures
