use Rattle.mg_image.specs.Form.{packed_form}
use Rattle.mg_engine_step_laws.specs.writes.WrittenTablePagesLaws.{firsts_keep_pages, moves_keep_pages, pages_are_kept_on, pushes_keep_pages, replacements_keep_pages, taking_out_keeps_pages}
use Rattle.mg_engine_step_laws.proofs.fronts.tables_keep_pages.Goals as goal

pub returns-clause-pushes : goal.returns-clause-pushes
returns-clause-pushes c = pushes_keep_pages packed_form c.one_reading.ensures.packed_rows (λ page n is. is)

pub returns-clause-firsts : goal.returns-clause-firsts
returns-clause-firsts c = firsts_keep_pages packed_form c.one_reading.ensures.packed_rows (λ page n is. is)

pub returns-clause-moves : goal.returns-clause-moves
returns-clause-moves c = moves_keep_pages packed_form c.one_reading.ensures.packed_rows (λ page n is. is)

pub returns-clause-replacements : goal.returns-clause-replacements
returns-clause-replacements c = replacements_keep_pages packed_form c.one_reading.ensures.packed_rows (λ page n is. is)

pub returns-clause-out : goal.returns-clause-out
returns-clause-out c = taking_out_keeps_pages packed_form c.one_reading.ensures.packed_rows (λ page n is. is)

pub returns-clause-on : goal.returns-clause-on
returns-clause-on c = pages_are_kept_on
