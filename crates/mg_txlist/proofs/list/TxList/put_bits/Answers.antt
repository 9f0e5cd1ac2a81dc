use Rattle.std.proofs.Common.{◌∙◌, length}
use Rattle.mg_txlist.proofs.TipLemmas.{as_long, bits_set, page_below, place_below}
use Rattle.mg_txlist.proofs.list.TxList.put_bits.Goals as goal

pub places_of-places-requires : goal.places_of-places-requires
places_of-places-requires c = c.requires.list.lawful

pub index-page-requires : goal.index-page-requires
index-page-requires c = page_below c.args.self.now c.args.t c.places_of-places.result c.requires.list
    c.requires.drawn c.places_of-places.ensures c.args.self.now.pages.len c.args.self.now.pages.ok.0

pub copy_from_slice-requires : goal.copy_from_slice-requires
copy_from_slice-requires c = as_long c.args.self.now c.args.t c.places_of-places.result c.requires.list
    c.requires.drawn c.places_of-places.ensures c.index-page.result.now c.as_slice.result.now
    (length c.args.bytes.now) c.index-page.ensures c.as_slice.ensures c.requires.whole

pub set_state-requires : goal.set_state-requires
set_state-requires c = place_below c.args.self.now c.args.t c.places_of-places.result c.requires.list
    c.requires.drawn c.places_of-places.ensures c.index-page.result.now c.copy_from_slice.new.self
    c.index-page.ensures (c.copy_from_slice.ensures.after ∙ c.as_slice.ensures)

pub returns : goal.returns
returns c = bits_set c.args.self.now c.args.t c.places_of-places.result c.requires.list
    c.requires.drawn c.places_of-places.ensures c.index-page.result.now c.as_slice.result.now
    c.copy_from_slice.new.self c.set_state.new.b c.index-page.ensures c.as_slice.ensures
    c.copy_from_slice.ensures.after c.set_state.ensures
