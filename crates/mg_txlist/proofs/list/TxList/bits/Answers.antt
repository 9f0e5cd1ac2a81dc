use Rattle.mg_txlist.proofs.TipLemmas.{bits_read, page_below, place_below}
use Rattle.mg_txlist.proofs.list.TxList.bits.Goals as goal

pub places_of-places-requires : goal.places_of-places-requires
places_of-places-requires c = c.requires.list.lawful

pub index-page-requires : goal.index-page-requires
index-page-requires c = page_below c.args.self.now c.args.t c.places_of-places.result c.requires.list
    c.requires.below c.places_of-places.ensures c.args.self.now.pages.len c.args.self.now.pages.ok.0

pub state_at-requires : goal.state_at-requires
state_at-requires c = place_below c.args.self.now c.args.t c.places_of-places.result c.requires.list
    c.requires.below c.places_of-places.ensures c.index-page.result.now c.as_slice.result.now
    c.index-page.ensures c.as_slice.ensures

pub returns : goal.returns
returns c = bits_read c.args.self.now c.args.t c.places_of-places.result c.requires.list
    c.requires.below c.places_of-places.ensures c.index-page.result.now c.as_slice.result.now
    c.state_at.result c.index-page.ensures c.as_slice.ensures c.state_at.ensures
