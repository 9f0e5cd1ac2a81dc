use Rattle.mg_catalog.specs.KeyLaws.{named_tested, unnamed_tested}
use Rattle.mg_catalog.specs.ByKey.{row_key}
use Rattle.mg_catalog.proofs.find.is_named.Goals as goal

pub returns-in-Some : goal.returns-in-Some
returns-in-Some c = named_tested (row_key c.args.row.now) c.args.letter c.in-Some.found.now
    c.args.name.now c.eq.result c.in-Some.ensures c.eq.ensures

pub returns-in-None : goal.returns-in-None
returns-in-None c = unnamed_tested (row_key c.args.row.now) c.args.letter c.args.name.now
    c.in-None.ensures
