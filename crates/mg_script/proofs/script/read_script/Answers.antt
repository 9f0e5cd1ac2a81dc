use Rattle.mg_script.proofs.ReadingLemmas.{all_read}
use Rattle.mg_script.proofs.script.read_script.Goals as goal

pub returns : goal.returns
returns c =
    all_read c.args.script.now c.loop-rest.number c.loop-rest.rest.now c.loop-rest.lines.items
    c.loop-rest-test.ensures c.loop-rest.invariant.0
