use Rattle.std.specs.Prelude.{false}
use Rattle.mg_node.specs.NodePage.{entry_at}
use Rattle.mg_node.proofs.PlaceLemmas.{key_inside, record_inside, page_in_place, slot_in_place, order_by_parts}
use Rattle.mg_node.proofs.in_place.order_of.Goals as goal

pub key_at-key-requires : goal.key_at-key-requires
key_at-key-requires c = key_inside c.args.page.now c.args.at c.requires.here

pub key_at-other_key-requires : goal.key_at-other_key-requires
key_at-other_key-requires c = key_inside c.args.page.now c.args.other c.requires.there

pub record_at-here-requires : goal.record_at-here-requires
record_at-here-requires c = record_inside c.args.page.now c.key_at-key.result.now c.args.at c.requires.here c.key_at-key.ensures

pub record_at-there-requires : goal.record_at-there-requires
record_at-there-requires c = record_inside c.args.page.now c.key_at-other_key.result.now c.args.other c.requires.there
    c.key_at-other_key.ensures

pub returns : goal.returns
returns c = order_by_parts c.args.page.now c.key_at-key.result.now c.key_at-other_key.result.now c.args.at
    _ _ _ _ (entry_at false c.args.page.now c.args.other) _ _ _ c.requires.here c.key_at-key.ensures
    c.record_at-here.ensures.page c.record_at-here.ensures.slot c.key_at-other_key.ensures
    (page_in_place c.args.page.now c.key_at-other_key.result.now c.args.other _ c.requires.there
    c.key_at-other_key.ensures c.record_at-there.ensures.page)
    (slot_in_place c.args.page.now c.key_at-other_key.result.now c.args.other _ c.requires.there
    c.key_at-other_key.ensures c.record_at-there.ensures.slot)
    c.cmp.ensures c.record_order.ensures c.then.ensures
