use Rattle.mg_layout.specs.Standing.{stand_in}
use Rattle.mg_soundness.proofs.IndexLemmas.{table_indexed}
use Rattle.mg_soundness.proofs.indexed.is_table_indexed.Goals as goal

pub returns : goal.returns
returns c = table_indexed c.args.image.now (stand_in c.args.stand.now) c.args.found.now
    c.requires.settled c.are_records_indexed.result c.are_records_indexed.ensures
