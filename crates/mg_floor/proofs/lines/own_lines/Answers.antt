use Rattle.mg_floor.proofs.LinesLemmas.{own_on}
use Rattle.mg_floor.proofs.lines.own_lines.Goals as goal

pub loop-line-preserved : goal.loop-line-preserved
loop-line-preserved c =
    own_on c.loop-line.own.items c.put_if_own.new.own.items c.args.session.0 c.loop-line.rest.now c.in-Some.later.now _
    c.in-Some.line.now c.in-Some.ensures.cases.0 c.in_ok-put_if_own.ensures c.loop-line.invariant
