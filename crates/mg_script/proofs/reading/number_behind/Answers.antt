use Rattle.mg_script.proofs.ReadingLemmas.{number_named}
use Rattle.mg_script.proofs.reading.number_behind.Goals as goal

pub returns : goal.returns
returns c =
    number_named c.args.text.now c.args.word.now c.in-Some.spelled.now c.unsigned.result c.in-Some.ensures c.unsigned.ensures
