use Rattle.std.proofs.Common.{refl, rules, ◌↔◌, IsTrue, true, false}
use Rattle.mg_image.specs.RecordRules.{Each}
use Rattle.mg_reading.specs.Found.{EachFound, image_facts}
use Rattle.mg_reading.specs.RecordParts.{IsDrawn}
use Rattle.mg_reading.proofs.PartLemmas.{none_left, tests_reading}
use Rattle.mg_reading.proofs.parts.are_drawn.Goals as goal

pub returns-then-not-are_versions_drawn : goal.returns-then-not-are_versions_drawn
returns-then-not-are_versions_drawn c =
    let known : IsTrue false ↔ EachFound (Each (IsDrawn (image_facts c.args.image.now))) c.args.found.now = search rules in
    tests_reading (Each (IsDrawn (image_facts c.args.image.now))) tt c.args.found.now c.requires false known

pub returns : goal.returns
returns c = tests_reading (Each (IsDrawn (image_facts c.args.image.now))) tt c.args.found.now c.requires true (
  λ passed. c.loop-first.invariant.1 (none_left (Each (IsDrawn (image_facts c.args.image.now))) c.loop-first.rest.now
      c.in_default.ensures.cases),
  λ each. refl,
)
