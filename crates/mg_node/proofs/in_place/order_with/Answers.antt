use Rattle.std.proofs.Common.{refl}
use Rattle.mg_node.proofs.PlaceLemmas.{key_inside, record_inside, order_by_parts}
use Rattle.mg_node.proofs.in_place.order_with.Goals as goal

pub key_at-key-requires : goal.key_at-key-requires
key_at-key-requires c = key_inside c.args.page.now c.args.at c.requires

pub record_at-here-requires : goal.record_at-here-requires
record_at-here-requires c = record_inside c.args.page.now c.key_at-key.result.now c.args.at c.requires c.key_at-key.ensures

pub returns : goal.returns
returns c = order_by_parts c.args.page.now c.key_at-key.result.now c.as_slice.result.now c.args.at
    _ _ _ _ c.args.e.now _ _ _ c.requires c.key_at-key.ensures c.record_at-here.ensures.page
    c.record_at-here.ensures.slot c.as_slice.ensures refl refl c.cmp.ensures c.record_order.ensures
    c.then.ensures
