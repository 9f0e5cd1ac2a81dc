use Rattle.mg_reading.proofs.PartLemmas.{tests_keys}
use Rattle.mg_reading.proofs.parts.have_own_keys.Goals as goal

pub returns-then-has_each_one_key : goal.returns-then-has_each_one_key
returns-then-has_each_one_key c = tests_keys c.args.image.now c.args.table.now c.args.found.now
    c.requires c.have_keys.result (
      λ passed. (
        c.has_each_one_key.ensures.0 c.if-has_each_one_key.true,
        c.have_keys.ensures.0 passed,
      ),
      λ both. c.have_keys.ensures.1 both.1,
    )

pub returns-else-has_each_one_key : goal.returns-else-has_each_one_key
returns-else-has_each_one_key c = tests_keys c.args.image.now c.args.table.now c.args.found.now
    c.requires c.has_each_one_key.result (
      λ passed. absurd (let failed = c.if-has_each_one_key.false in cc),
      λ both. c.has_each_one_key.ensures.1 both.0,
    )
