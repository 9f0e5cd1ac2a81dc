use Rattle.std.proofs.Common.{◌≡◌, ◌++◌, take}
use Rattle.std.specs.List.{flat_map}
use Rattle.mg_script.specs.Transcript.{row_line}
use Rattle.mg_value.specs.Values.{KeepsFront}
use Rattle.mg_script.proofs.answer.put_row_lines.Given as goal

abbrev pub invariant-loop-row : goal.invariant-loop-row
invariant-loop-row l =
    (l.out.items ≡ l.initial.out.items ++ flat_map (row_line l.session) (take l.row-index l.rows))
    × KeepsFront l.initial.out.items l.out.items
