use Rattle.mg_reading.specs.Found.{image_facts}
use Rattle.mg_layout.proofs.ChoiceLemmas.{writer_added}
use Rattle.mg_layout.proofs.HasLemmas.{has_more}
use Rattle.mg_layout.proofs.choices.add_writer.Goals as goal

pub returns-clause-has : goal.returns-clause-has
returns-clause-has c = writer_added (image_facts c.args.image.now) c.args.entries.now
    c.in-Some.field-0-1.now c.in-Some.newest.now c.args.writers.now.items c.push.new.self.items
    c.in-Some.ensures.cases.0 c.in_ok-push.ensures.items

pub returns-clause-keeps : goal.returns-clause-keeps
returns-clause-keeps c = λ t there. rw c.in_ok-push.ensures.items
    (has_more c.args.writers.now.items c.in-Some.newest.now.version.tx.0 t there)
