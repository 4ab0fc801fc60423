use Rattle.std.proofs.Common.{◌≡◌, sym, ap, subst, ◌∙◌, ◌++◌, append_assoc, List, ℕ, true, ⊎_elim, inl, inr, rules, arith}
use Rattle.std.proofs.lemmas.Grind.{common_steps}
use Rattle.std.proofs.lemmas.List.{append-nil}
use Rattle.vp_text.specs.Printing.{is_begun}
use Rattle.vp_text.proofs.Printing.{begun_first, begun_on, begun_whole}
use Rattle.vp_model.specs.Texts.History.{start_text, starts_text}
use Rattle.vp_onecopy.proofs.Starts.{starts_end}
use Rattle.vp_onecopy.proofs.printing.print_starts.Goals as goal

pub loop-name-preserved : goal.loop-name-preserved
loop-name-preserved c =
    let before = c.loop-name.out.items in
    let new = c.print_start.new.out.items in
    let all = starts_text c.args.names.now c.args.values.now in
    let line = start_text c.in-Some.name.now c.in-Some.value.now in
    let left = starts_text c.loop-name.name-iterator.a.rest.now c.loop-name.name-iterator.b.rest.now in
    let rest = starts_text c.next.new.self.a.rest.now c.next.new.self.b.rest.now in
    let ahead : left ≡ line ++ rest = grind (arith, common_steps) in
    let whole : new ≡ before ++ line = grind (arith, common_steps) in
    record {
      rest = ap (λ (x : List ℕ). x ++ rest) whole ∙ append_assoc before line rest ∙ ap (λ (x : List ℕ). before ++ x) (sym ahead) ∙ c.loop-name.invariant.rest;
      begun = begun_on _ all before left new c.loop-name.invariant.rest c.loop-name.invariant.begun (subst (λ (t : List ℕ). is_begun before t new ≡ true) (sym ahead) (begun_first before line rest new (begun_whole before line new whole)));
    }

pub returns-in_err-print_start : goal.returns-in_err-print_start
returns-in_err-print_start c =
    let before = c.loop-name.out.items in
    let new = c.print_start.new.out.items in
    let all = starts_text c.args.names.now c.args.values.now in
    let line = start_text c.in-Some.name.now c.in-Some.value.now in
    let left = starts_text c.loop-name.name-iterator.a.rest.now c.loop-name.name-iterator.b.rest.now in
    let rest = starts_text c.next.new.self.a.rest.now c.next.new.self.b.rest.now in
    let ahead : left ≡ line ++ rest = grind (arith, common_steps) in
    record {
      whole = search rules;
      begun = begun_on _ all before left new c.loop-name.invariant.rest c.loop-name.invariant.begun (subst (λ (t : List ℕ). is_begun before t new ≡ true) (sym ahead) (begun_first before line rest new c.print_start.ensures.begun));
    }

pub returns : goal.returns
returns c =
    let names = c.loop-name.name-iterator.a.rest.now in
    let values = c.loop-name.name-iterator.b.rest.now in
    let ended = starts_end names values (⊎_elim (λ u. inl u.1.0) (λ u. inr u.1.0) c.in-None.ensures.steps) in
    record {
      whole = sym (append-nil c.loop-name.out.items) ∙ ap (λ (x : List ℕ). c.loop-name.out.items ++ x) (sym ended) ∙ c.loop-name.invariant.rest;
      begun = c.loop-name.invariant.begun;
    }
