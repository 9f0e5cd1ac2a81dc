use Rattle.std.proofs.Common.{◌≡◌, take}
use Rattle.std.specs.Prelude.{All}
use Rattle.mg_records.specs.Writing.{FitsShape}
use Rattle.mg_exec.specs.Making.{erasures_of}
use Rattle.mg_exec.proofs.making.erasures.Given as goal

abbrev pub invariant-loop-row : goal.invariant-loop-row
invariant-loop-row l =
    (l.made.items ≡ erasures_of l.shape (take l.row-index l.rows))
    × All (FitsShape l.shape) l.made.items
