use Rattle.mg_txlist.proofs.SeekingLemmas.{four_settled}
use Rattle.mg_txlist.proofs.TipLemmas.{some_places}
use Rattle.mg_txlist.proofs.list.TxList.are_four_settled.Goals as goal

pub returns : goal.returns
returns c = four_settled c.args.self.now c.args.t c.places_of-places.result c.requires.list
    c.requires.below c.places_of-places.ensures
    (some_places c.args.self.now c.args.t c.places_of-places.result c.requires.list
    c.requires.below c.places_of-places.ensures) c.index-page.result.now c.as_slice.result.now
    c.index-page.ensures c.as_slice.ensures c.are_settled.result c.are_settled.ensures
