use Rattle.mg_image.specs.Form.{packed_form}
use Rattle.mg_engine_step_laws.specs.writes.GoesOnLaws.{firsts_are_read, moves_are_read, pushes_are_read, replacements_are_read, taking_out_is_read}
use Rattle.mg_engine_step_laws.proofs.steps.records_are_read.Goals as goal

pub returns-clause-pushes : goal.returns-clause-pushes
returns-clause-pushes c = pushes_are_read packed_form c.one_reading.ensures.packed_rows (λ page n is. is)

pub returns-clause-firsts : goal.returns-clause-firsts
returns-clause-firsts c = firsts_are_read packed_form c.one_reading.ensures.packed_rows (λ page n is. is)

pub returns-clause-replacements : goal.returns-clause-replacements
returns-clause-replacements c = replacements_are_read packed_form c.one_reading.ensures.packed_rows
    (λ page n is. is)

pub returns-clause-moves : goal.returns-clause-moves
returns-clause-moves c = moves_are_read packed_form c.one_reading.ensures.packed_rows (λ page n is. is)

pub returns-clause-out : goal.returns-clause-out
returns-clause-out c = taking_out_is_read packed_form c.one_reading.ensures.packed_rows (λ page n is. is)
