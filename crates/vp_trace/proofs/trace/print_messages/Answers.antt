use Rattle.std.proofs.Common.{◌≡◌, ◌++◌, ◌+◌, drop, refl, sym, subst, List, ℕ, true, rules, arith}
use Rattle.std.proofs.lemmas.Grind.{common_steps}
use Rattle.vp_text.specs.Printing.{is_begun}
use Rattle.vp_text.proofs.Printing.{begun_none, begun_first, begun_on, begun_whole}
use Rattle.vp_model.specs.Texts.Trace.{sent_line, sent_lines}
use Rattle.vp_trace.proofs.trace.print_messages.Goals as goal

pub loop-sent-init : goal.loop-sent-init
loop-sent-init c = record { count = search rules; rest = search rules; begun = begun_none _ _ _ refl }

pub loop-sent-preserved : goal.loop-sent-preserved
loop-sent-preserved c =
    let catalog = c.args.catalog.now in
    let before = c.loop-sent.out.items in
    let new = c.print_sent.new.out.items in
    let all = sent_lines catalog c.args.first c.args.messages.now in
    let line = sent_line catalog c.loop-sent.k c.sent-item.result in
    let left = sent_lines catalog c.loop-sent.k (drop c.loop-sent.sent-index c.args.messages.now) in
    let rest = sent_lines catalog (c.loop-sent.k + 1) (drop (c.loop-sent.sent-index + 1) c.args.messages.now) in
    let ahead : left ≡ line ++ rest = grind (arith, common_steps) in
    let whole : new ≡ before ++ line = grind (arith, common_steps) in
    record {
      count = grind (arith, common_steps);
      rest = grind (arith, common_steps);
      begun = begun_on _ all before left new c.loop-sent.invariant.rest c.loop-sent.invariant.begun (subst (λ (t : List ℕ). is_begun before t new ≡ true) (sym ahead) (begun_first before line rest new (begun_whole before line new whole)));
    }

pub returns-in_err-print_sent : goal.returns-in_err-print_sent
returns-in_err-print_sent c =
    let catalog = c.args.catalog.now in
    let before = c.loop-sent.out.items in
    let new = c.print_sent.new.out.items in
    let all = sent_lines catalog c.args.first c.args.messages.now in
    let line = sent_line catalog c.loop-sent.k c.sent-item.result in
    let left = sent_lines catalog c.loop-sent.k (drop c.loop-sent.sent-index c.args.messages.now) in
    let rest = sent_lines catalog (c.loop-sent.k + 1) (drop (c.loop-sent.sent-index + 1) c.args.messages.now) in
    let ahead : left ≡ line ++ rest = grind (arith, common_steps) in
    record {
      whole = search rules;
      begun = begun_on _ all before left new c.loop-sent.invariant.rest c.loop-sent.invariant.begun (subst (λ (t : List ℕ). is_begun before t new ≡ true) (sym ahead) (begun_first before line rest new c.print_sent.ensures.begun));
    }

pub returns : goal.returns
returns c = record {
  whole = grind (arith, common_steps);
  begun = c.loop-sent.invariant.begun;
}
