use Rattle.mg_chain.proofs.Reading.{short_spelled, spelled_is}
use Rattle.mg_chain.proofs.cells.cell_of_bytes.Goals as goal

pub returns-in-Ok-clause-spelled : goal.returns-in-Ok-clause-spelled
returns-in-Ok-clause-spelled c = spelled_is c.args.bytes.now c.in-Ok.cell c.in-Ok.ensures.spelled

pub returns-in-Ok-clause-short : goal.returns-in-Ok-clause-short
returns-in-Ok-clause-short c = short_spelled c.args.bytes.now c.in-Ok.cell c.in-Ok.ensures.spelled
    c.requires
