use Rattle.std.proofs.Common.{◌∷◌, refl}
use Rattle.mg_reading.specs.Found.{HasNoKeyOf, HasOwnKey, image_facts}
use Rattle.mg_reading.proofs.PairLemmas.{emptied, none_left, one_fails, opened, rest_left}
use Rattle.mg_reading.proofs.pairs.has_no_key_of.Goals as goal

pub loop-other-init : goal.loop-other-init
loop-other-init c = (λ all. all, λ all. all)

pub loop-other-preserved : goal.loop-other-preserved
loop-other-preserved c = rest_left (HasNoKeyOf (image_facts c.args.image.now) c.args.table.now c.args.found.now c.args.others.now)
    (HasOwnKey (image_facts c.args.image.now) c.args.table.now c.args.found.now
    c.in-Some.other.now)
    (HasNoKeyOf (image_facts c.args.image.now) c.args.table.now c.args.found.now c.in-Some.later.now)
    (opened (HasNoKeyOf (image_facts c.args.image.now) c.args.table.now c.args.found.now) (HasNoKeyOf (image_facts c.args.image.now) c.args.table.now c.args.found.now c.args.others.now)
    c.loop-other.rest.now (c.in-Some.other.now ∷ c.in-Some.later.now) c.in-Some.ensures.cases.0
    c.loop-other.invariant)
    (c.if-not-has_own_key.ensures.0 refl)

pub returns-then-not-has_own_key : goal.returns-then-not-has_own_key
returns-then-not-has_own_key c = one_fails (HasNoKeyOf (image_facts c.args.image.now) c.args.table.now c.args.found.now c.args.others.now)
    (HasOwnKey (image_facts c.args.image.now) c.args.table.now c.args.found.now
    c.in-Some.other.now)
    (HasNoKeyOf (image_facts c.args.image.now) c.args.table.now c.args.found.now c.in-Some.later.now)
    (opened (HasNoKeyOf (image_facts c.args.image.now) c.args.table.now c.args.found.now) (HasNoKeyOf (image_facts c.args.image.now) c.args.table.now c.args.found.now c.args.others.now)
    c.loop-other.rest.now (c.in-Some.other.now ∷ c.in-Some.later.now) c.in-Some.ensures.cases.0
    c.loop-other.invariant)
    c.if-not-has_own_key.ensures.1

pub returns : goal.returns
returns c = none_left (HasNoKeyOf (image_facts c.args.image.now) c.args.table.now c.args.found.now c.args.others.now)
    (emptied (HasNoKeyOf (image_facts c.args.image.now) c.args.table.now c.args.found.now) (HasNoKeyOf (image_facts c.args.image.now) c.args.table.now c.args.found.now c.args.others.now) c.loop-other.rest.now
    c.in_default.ensures.cases c.loop-other.invariant)
