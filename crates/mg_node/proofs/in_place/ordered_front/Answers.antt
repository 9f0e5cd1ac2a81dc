use Rattle.std.proofs.Common.{◌-◌, ◌∙◌, sym, arith}
use Rattle.mg_node.proofs.OrderLemmas.{front_empty, front_goes, front_stops}
use Rattle.mg_node.proofs.in_place.ordered_front.Goals as goal

pub returns-then-count-eq0-clause-front : goal.returns-then-count-eq0-clause-front
returns-then-count-eq0-clause-front c = front_empty c.args.page.now (omega arith)

pub returns-then-not-may_begin-clause-front : goal.returns-then-not-may_begin-clause-front
returns-then-not-may_begin-clause-front c =
    let said = sym c.if-not-may_begin.true ∙ c.may_begin.ensures in
    front_stops c.args.page.now (c.count-count.result - 1) (omega arith)
    (rw c.first_at-first.ensures.is at said)

pub returns-clause-front : goal.returns-clause-front
returns-clause-front c =
    let said = sym c.if-not-may_begin.false ∙ c.may_begin.ensures in
    let goes = front_goes c.args.page.now (c.count-count.result - 1) (omega arith)
    (rw c.first_at-first.ensures.is at said) in
    let behind = rw c.first_at-first.ensures.is at c.ordered_behind.ensures.behind in
    omega (arith, goes, behind)
