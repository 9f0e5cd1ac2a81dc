use Rattle.std.proofs.Common.{◌∷◌, refl}
use Rattle.mg_reading.specs.Found.{HaveKeys, HasNoKeyOf, image_facts}
use Rattle.mg_reading.proofs.PairLemmas.{emptied, none_left, one_fails, opened, rest_left}
use Rattle.mg_reading.proofs.pairs.have_keys.Goals as goal

pub loop-first-init : goal.loop-first-init
loop-first-init c = (λ all. all, λ all. all)

pub loop-first-preserved : goal.loop-first-preserved
loop-first-preserved c = rest_left (HaveKeys (image_facts c.args.image.now) c.args.table.now c.args.found.now)
    (HasNoKeyOf (image_facts c.args.image.now) c.args.table.now c.in-Some.first.now
    c.in-Some.later.now)
    (HaveKeys (image_facts c.args.image.now) c.args.table.now c.in-Some.later.now)
    (opened (HaveKeys (image_facts c.args.image.now) c.args.table.now) (HaveKeys (image_facts c.args.image.now) c.args.table.now c.args.found.now)
    c.loop-first.rest.now (c.in-Some.first.now ∷ c.in-Some.later.now) c.in-Some.ensures.cases.0
    c.loop-first.invariant)
    (c.if-not-has_no_key_of.ensures.0 refl)

pub returns-then-not-has_no_key_of : goal.returns-then-not-has_no_key_of
returns-then-not-has_no_key_of c = one_fails (HaveKeys (image_facts c.args.image.now) c.args.table.now c.args.found.now)
    (HasNoKeyOf (image_facts c.args.image.now) c.args.table.now c.in-Some.first.now
    c.in-Some.later.now)
    (HaveKeys (image_facts c.args.image.now) c.args.table.now c.in-Some.later.now)
    (opened (HaveKeys (image_facts c.args.image.now) c.args.table.now) (HaveKeys (image_facts c.args.image.now) c.args.table.now c.args.found.now)
    c.loop-first.rest.now (c.in-Some.first.now ∷ c.in-Some.later.now) c.in-Some.ensures.cases.0
    c.loop-first.invariant)
    c.if-not-has_no_key_of.ensures.1

pub returns : goal.returns
returns c = none_left (HaveKeys (image_facts c.args.image.now) c.args.table.now c.args.found.now)
    (emptied (HaveKeys (image_facts c.args.image.now) c.args.table.now) (HaveKeys (image_facts c.args.image.now) c.args.table.now c.args.found.now) c.loop-first.rest.now
    c.in_default.ensures.cases c.loop-first.invariant)
