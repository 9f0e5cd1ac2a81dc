use Rattle.mg_txlist.proofs.TipLemmas.{page_apart, page_below, page_number}
use Rattle.mg_txlist.proofs.list.TxList.page_of_bits.Goals as goal

pub places_of-requires : goal.places_of-requires
places_of-requires c = c.requires.list.lawful

pub index-requires : goal.index-requires
index-requires c = page_below c.args.self.now c.args.t c.places_of.result c.requires.list
    c.requires.drawn c.places_of.ensures c.args.self.now.pages.len c.args.self.now.pages.ok.0

pub returns-clause-page : goal.returns-clause-page
returns-clause-page c = page_number c.args.self.now c.args.t c.places_of.result c.requires.list
    c.requires.drawn c.places_of.ensures c.index.result.now c.index.ensures

pub returns-clause-apart : goal.returns-clause-apart
returns-clause-apart c = page_apart c.args.self.now c.args.t c.places_of.result c.requires.list
    c.requires.drawn c.places_of.ensures c.index.result.now c.index.ensures
