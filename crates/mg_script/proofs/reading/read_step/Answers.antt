use Rattle.mg_script.proofs.ReadingLemmas.{no_step}
use Rattle.mg_script.proofs.reading.read_step.Goals as goal

pub returns-then-most-eq0 : goal.returns-then-most-eq0
returns-then-most-eq0 c =
    no_step c.args.text.now c.in-Some.named.now c.in-Some-split_first.others.now c.in-Some-split_first.first.now
    c.in-Some-number_behind.most c.in-Some.ensures c.in-Some-split_first.ensures.cases.0 c.in-Some-number_behind.ensures
    c.then-most-eq0.either
