use Rattle.std.proofs.Common.{arith}
use Rattle.mg_node_writing.proofs.InsertLemmas.{inserted}
use Rattle.mg_node_writing.proofs.SeatLemmas.{place_behind, place_ends}
use Rattle.mg_node_writing.proofs.inserting.insert_at.Goals as goal

pub open_at-requires-clause-front : goal.open_at-requires-clause-front
open_at-requires-clause-front c =
    let behind = place_behind c.args.b.now c.args.n in
    let is = c.place-at.ensures.is in omega (arith, behind, is)

pub open_at-requires-clause-back : goal.open_at-requires-clause-back
open_at-requires-clause-back c =
    let ends = place_ends c.args.b.now c.args.n c.requires.lawful c.requires.seat.within in
    let is = c.place-at.ensures.is in omega (arith, ends, is)

pub returns-clause-inserts : goal.returns-clause-inserts
returns-clause-inserts c = (inserted c.args.b.now c.open_at.new.b c.place-at.result c.args.n
    c.args.e.now c.requires.lawful c.requires.takes c.requires.seat c.requires.apart
    c.place-at.ensures.is c.requires.room c.open_at.ensures).inserts

pub returns-clause-lawful : goal.returns-clause-lawful
returns-clause-lawful c = (inserted c.args.b.now c.open_at.new.b c.place-at.result c.args.n
    c.args.e.now c.requires.lawful c.requires.takes c.requires.seat c.requires.apart
    c.place-at.ensures.is c.requires.room c.open_at.ensures).lawful
