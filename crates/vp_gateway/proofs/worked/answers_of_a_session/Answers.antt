use Rattle.std.proofs.Common.{◌∙◌, ℕ, List, [], ◌∷◌, ◌++◌, ap}
use Rattle.std.specs.Prelude.{codes}
use Rattle.vp_bytes.specs.Reading.{u64_at, view_at}
use Rattle.vp_model.specs.Types.answer
use Rattle.vp_model.specs.Types.call
use Rattle.vp_model.specs.Words.{opening}
use Rattle.vp_model.proofs.Computed.{computes}
use Rattle.vp_runs.specs.Asking.{answer_of}
use Rattle.vp_runs.proofs.WorkedRuns.{spells}
use Rattle.vp_gateway.specs.Lines.{bad_line, long_line}
use Rattle.vp_gateway.specs.Worked.{call_of_read, reply, txn}
use Rattle.vp_gateway.specs.declared.asked.LineRequest.TheVariants as asked
use Rattle.vp_gateway.proofs.WorkedSessions.{reads, bad_more, call_more, long_more, none_more}
use Rattle.vp_gateway.proofs.worked.answers_of_a_session.Goals as goal

pub returns-clause-answered : goal.returns-clause-answered
unfolding computes spells reads u64_at view_at answer_of
returns-clause-answered c old new said has s =
    let one = call_more 7001 1 call.Begin (reply (answer.Begun txn opening)) (reply (answer.Value txn 1 (codes "10")) ∷ []) (call_of_read ∷ asked.Bad 1 ∷ []) said old new has s in
    let two = call_more 7001 1 (call.Read txn 1 (codes "x")) (reply (answer.Value txn 1 (codes "10"))) [] (asked.Bad 1 ∷ []) one.rest one.mid new one.left_is one.session in
    let three = bad_more 7001 1 1 two.mid new two.rest 1 [] two.session in
    let none = none_more 7001 1 1 two.mid new three.0 three.2 in
    one.text_is ∙ ap (λ (l : List ℕ). codes "begun 1.1.1 0@0\n" ++ l) (two.text_is ∙ ap (λ (l : List ℕ). codes "value 1.1.1 1 10\n" ++ l) (three.1 ∙ ap (λ (l : List ℕ). bad_line 1 ++ l) none))

pub returns-clause-unanswered : goal.returns-clause-unanswered
unfolding computes spells reads answer_of
returns-clause-unanswered c old new said has s =
    let one = call_more 7001 1 (call.Commit txn 1) (reply answer.TooManyLive) [] (asked.Bad 4 ∷ []) said old new has s in
    let two = bad_more 7001 1 1 one.mid new one.rest 4 [] one.session in
    let none = none_more 7001 1 1 one.mid new two.0 two.2 in
    one.text_is ∙ ap (λ (l : List ℕ). codes "no answer\n" ++ l) (two.1 ∙ ap (λ (l : List ℕ). bad_line 4 ++ l) none)

pub returns-clause-long : goal.returns-clause-long
unfolding reads
returns-clause-long c old new said has s =
    let one = long_more 7001 1 1 old new said [] s in
    let none = none_more 7001 1 1 old new one.0 one.2 in
    one.1 ∙ ap (λ (l : List ℕ). long_line ++ l) none
