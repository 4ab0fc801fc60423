use Rattle.std.proofs.Common.{◌≡◌, ◌∙◌, ap, length, arith}
use Rattle.vp_cluster.proofs.Begun.{item_listed, item_begun, begun_none, begun_all}
use Rattle.vp_cluster.proofs.hosts.begin_all.Goals as goal

pub loop-id-init : goal.loop-id-init
loop-id-init c = begun_none c.args.catalog.now c.args.catalog.now.sites c.new-hosts.result.items c.new-hosts.ensures.items

pub begin-requires : goal.begin-requires
begin-requires c = record { listed = item_listed c.args.catalog.now c.ports-id-items.result.now c.loop-id.id-index c.loop-id-item.result c.ports-id-items.ensures c.loop-id-test.true c.loop-id-item.is c.sites.ensures.so_far }

pub loop-id-preserved : goal.loop-id-preserved
loop-id-preserved c =
    item_begun c.args.catalog.now c.ports-id-items.result.now c.loop-id.id-index c.loop-id-item.result c.ports-id-items.ensures c.loop-id-test.true c.loop-id-item.is
    c.loop-id.hosts.items c.push.new.self.items c.in_ok-begin.field-0 c.loop-id.invariant c.in_ok-begin.ensures c.in_ok-push.ensures.items

pub returns : goal.returns
returns c =
    let all : c.loop-id.id-index ≡ length c.ports-id-items.result.now = omega (arith, c.loop-id-test.false, c.loop-id.auto.id-index-end) in
    begun_all c.args.catalog.now c.loop-id.id-index c.loop-id.hosts.items (all ∙ ap length c.ports-id-items.ensures) c.loop-id.invariant
