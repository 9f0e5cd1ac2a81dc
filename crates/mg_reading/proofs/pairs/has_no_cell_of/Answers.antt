use Rattle.std.proofs.Common.{◌∷◌, refl}
use Rattle.mg_reading.specs.Found.{HasNoCellOf, IsApart}
use Rattle.mg_reading.proofs.PairLemmas.{emptied, none_left, one_fails, opened, rest_left}
use Rattle.mg_reading.proofs.pairs.has_no_cell_of.Goals as goal

pub loop-other-init : goal.loop-other-init
loop-other-init c = (λ all. all, λ all. all)

pub loop-other-preserved : goal.loop-other-preserved
loop-other-preserved c = rest_left (HasNoCellOf c.args.found.now c.args.others.now)
    (IsApart c.args.found.now c.in-Some.other.now)
    (HasNoCellOf c.args.found.now c.in-Some.later.now)
    (opened (HasNoCellOf c.args.found.now) (HasNoCellOf c.args.found.now c.args.others.now)
    c.loop-other.rest.now (c.in-Some.other.now ∷ c.in-Some.later.now) c.in-Some.ensures.cases.0
    c.loop-other.invariant)
    (c.if-not-is_apart.ensures.0 refl)

pub returns-then-not-is_apart : goal.returns-then-not-is_apart
returns-then-not-is_apart c = one_fails (HasNoCellOf c.args.found.now c.args.others.now)
    (IsApart c.args.found.now c.in-Some.other.now)
    (HasNoCellOf c.args.found.now c.in-Some.later.now)
    (opened (HasNoCellOf c.args.found.now) (HasNoCellOf c.args.found.now c.args.others.now)
    c.loop-other.rest.now (c.in-Some.other.now ∷ c.in-Some.later.now) c.in-Some.ensures.cases.0
    c.loop-other.invariant)
    c.if-not-is_apart.ensures.1

pub returns : goal.returns
returns c = none_left (HasNoCellOf c.args.found.now c.args.others.now)
    (emptied (HasNoCellOf c.args.found.now) (HasNoCellOf c.args.found.now c.args.others.now) c.loop-other.rest.now
    c.in_default.ensures.cases c.loop-other.invariant)
