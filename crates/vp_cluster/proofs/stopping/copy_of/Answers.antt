use Rattle.std.proofs.Common.{◌≡◌, ◌∙◌, ap}
use Rattle.vp_outside.specs.Disk.{half_of}
use Rattle.vp_cluster.specs.Hosts.{log_on}
use Rattle.vp_cluster.proofs.Appending.{halves_same}
use Rattle.vp_cluster.proofs.Changing.{answered_so}
use Rattle.vp_cluster.proofs.stopping.copy_of.Goals as goal

pub returns : goal.returns
returns c =
    let log = log_on c.args.disk.now in
    let first : c.in_ok-to_vec.field-0.items ≡ half_of 0 log = c.in_ok-to_vec.ensures.items_if_clones_equal (λ x y h. h) ∙ c.half.ensures in
    let second : c.in_ok-to_vec-2.field-0.items ≡ half_of 1 log = c.in_ok-to_vec-2.ensures.items_if_clones_equal (λ x y h. h) ∙ c.half-2.ensures in
    answered_so c.holding.result _ _ (λ copy is. ap log_on is ∙ halves_same c.in_ok-to_vec.field-0.items c.in_ok-to_vec-2.field-0.items log first second) c.holding.ensures
