use Rattle.std.proofs.Common.{◌∙◌}
use Rattle.std.specs.Prelude.{string_bytes}
use Rattle.mg_commands.specs.SpellingLaws.{rows_told}
use Rattle.mg_commands.proofs.deciding.are_rows.Goals as goal

pub returns-in-Some : goal.returns-in-Some
returns-in-Some c = rows_told (string_bytes c.args.word.now) c.in-Some.rows c.is_row_count.result
    (c.in-Some.ensures.0, c.in-Some.ensures.1 ∙ c.as_bytes.ensures.value) c.is_row_count.ensures
