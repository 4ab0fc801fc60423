use Rattle.std.proofs.Common.{◌∙◌, ◌==◌, [], filter, is_some, not, sym, ap, rules}
use Rattle.std.proofs.lemmas.Fn.{filter_same}
use Rattle.std.specs.Option.{option_copied_mut, option_map_or}
use Rattle.vp_locks.proofs.Lists.{none_left, list_written, list_emptied}
use Rattle.vp_locks.proofs.places.Places.forget.Goals as goal

pub returns-else-is_empty : goal.returns-else-is_empty
returns-else-is_empty g c =
    let f = filter (λ k. not (k == c.args.place)) in
    let found = sym c.get_mut.ensures.value ∙ ap option_copied_mut c.in-Some.is in
    let held = (c.get_mut.follows.holds c.retain.new.self).3 (ap is_some found) in
    let kept = filter_same _ (λ k. not (k == c.args.place)) _ (λ x b f' k. search rules) _ _ c.retain.ensures.filtered in
    list_written g.met.K.Eq.laws c.args.self.now.lists (c.get_mut.follows.lender c.retain.new.self) c.args.key.now f c.retain.new.self held
    (kept ∙ ap f (sym (ap (λ o. option_map_or (λ list. list.items) o []) found)))

pub returns-then-is_empty : goal.returns-then-is_empty
returns-then-is_empty g c =
    let f = filter (λ k. not (k == c.args.place)) in
    let old = c.args.self.now.lists in
    let mid = c.get_mut.follows.lender c.retain.new.self in
    let found = sym c.get_mut.ensures.value ∙ ap option_copied_mut c.in-Some.is in
    let held = (c.get_mut.follows.holds c.retain.new.self).3 (ap is_some found) in
    let kept = filter_same _ (λ k. not (k == c.args.place)) _ (λ x b f' k. search rules) _ _ c.retain.ensures.filtered in
    let made = kept ∙ ap f (sym (ap (λ o. option_map_or (λ list. list.items) o []) found)) in
    let none = none_left c.retain.new.self.items c.retain.new.self.len c.retain.new.self.ok.0 (sym c.is_empty.ensures ∙ c.if-is_empty.true) in
    list_emptied g.met.K.Eq.laws old mid c.args.key.now f c.swap_remove.new.self (list_written g.met.K.Eq.laws old mid c.args.key.now f c.retain.new.self held made) (sym made ∙ none) c.swap_remove.ensures.updates
