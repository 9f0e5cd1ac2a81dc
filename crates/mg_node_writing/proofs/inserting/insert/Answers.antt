use Rattle.mg_node_writing.proofs.SeatLemmas.{not_there, seated, taken_there, untold}
use Rattle.mg_node_writing.proofs.inserting.insert.Goals as goal

pub returns-then-stands_at-clause-when : goal.returns-then-stands_at-clause-when
returns-then-stands_at-clause-when c = λ none. absurd (none (taken_there c.args.b.now c.args.e.now
    c.seat-n.result c.requires.takes (c.stands_at.ensures.0 c.if-stands_at.true)))

pub returns-then-stands_at-clause-inserts : goal.returns-then-stands_at-clause-inserts
returns-then-stands_at-clause-inserts c = λ none. absurd (none (taken_there c.args.b.now c.args.e.now
    c.seat-n.result c.requires.takes (c.stands_at.ensures.0 c.if-stands_at.true)))

pub returns-in_err-check_room-clause-there : goal.returns-in_err-check_room-clause-there
returns-in_err-check_room-clause-there c = λ has. absurd (not_there c.args.b.now c.args.e.now
    c.seat-n.result c.requires.lawful
    (seated c.args.b.now c.args.e.now c.seat-n.result c.seat-n.ensures
    (untold c.stands_at.result c.stands_at.ensures.1 c.if-stands_at.false)) has)

pub returns-clause-there : goal.returns-clause-there
returns-clause-there c = λ has. absurd (not_there c.args.b.now c.args.e.now
    c.seat-n.result c.requires.lawful
    (seated c.args.b.now c.args.e.now c.seat-n.result c.seat-n.ensures
    (untold c.stands_at.result c.stands_at.ensures.1 c.if-stands_at.false)) has)
