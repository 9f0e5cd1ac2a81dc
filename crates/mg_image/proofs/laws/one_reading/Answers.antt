use Rattle.mg_image.specs.Form.{packed_coding, plain_coding}
use Rattle.mg_image.specs.ReadingLaws.{reading_once}
use Rattle.mg_image.proofs.OneRowLemmas.{packed_one, plain_one}
use Rattle.mg_image.proofs.laws.one_reading.Goals as goal

pub returns-clause-plain_rows : goal.returns-clause-plain_rows
returns-clause-plain_rows c = plain_one c.one_row.ensures

pub returns-clause-packed_rows : goal.returns-clause-packed_rows
returns-clause-packed_rows c = packed_one c.one_row.ensures c.one_plain_text.ensures

pub returns-clause-plain : goal.returns-clause-plain
returns-clause-plain c = reading_once plain_coding (plain_one c.one_row.ensures)

pub returns-clause-packed : goal.returns-clause-packed
returns-clause-packed c =
    reading_once packed_coding (packed_one c.one_row.ensures c.one_plain_text.ensures)
