use Rattle.mg_reading.specs.Found.{image_facts}
use Rattle.mg_layout.proofs.ChoiceLemmas.{no_writers, writers_more}
use Rattle.mg_layout.proofs.choices.limbo_writers.Goals as goal

pub loop-first-preserved : goal.loop-first-preserved
loop-first-preserved c = writers_more (image_facts c.args.image.now) c.loop-first.writers.items
    c.add_writer.new.writers.items c.loop-first.rest.now c.in-Some.later.now c.args.found.now
    c.in-Some.first.now c.loop-first.invariant c.in-Some.ensures.cases.0
    (rw c.deref.ensures.value at c.in_ok-add_writer.ensures.has) c.in_ok-add_writer.ensures.keeps

pub returns : goal.returns
returns c = c.loop-first.invariant c.loop-first.writers.items (λ t there. there)
    (no_writers (image_facts c.args.image.now) c.loop-first.writers.items c.loop-first.rest.now
    c.in_default.ensures.cases)
