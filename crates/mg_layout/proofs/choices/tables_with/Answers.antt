use Rattle.std.proofs.Common.{◌∙◌}
use Rattle.mg_image.specs.Tables.{has}
use Rattle.mg_reading.specs.Found.{image_facts}
use Rattle.mg_layout.proofs.ChoiceLemmas.{bad_row}
use Rattle.mg_layout.proofs.choices.tables_with.Goals as goal

pub returns-in-Err-BadTable-clause-broken : goal.returns-in-Err-BadTable-clause-broken
returns-in-Err-BadTable-clause-broken c = bad_row c.args.image.now.size
    (image_facts c.args.image.now) c.args.found.now (has c.args.chosen.now) c.deref.result.now
    c.in-Err-BadTable.field-0-0 c.requires (c.deref.ensures.value ∙ c.in_ok-rows.ensures)
    (rw c.in-Err-BadTable.field-0-is at c.in-Err-BadTable.ensures.bad)
