use Rattle.std.proofs.Common.{◌≡◌, map}
use Rattle.std.specs.Prelude.{All}
use Rattle.mg_model.specs.Catalog.{key_of}
use Rattle.mg_records.specs.declared.write.Write.TheVariants as writes
use Rattle.mg_records.specs.Writing.{FitsShape}
use Rattle.mg_exec.proofs.making.changes.Given as goal

abbrev pub invariant-loop-row : goal.invariant-loop-row
invariant-loop-row l =
    (l.made.items ≡ map (λ row. writes.Change (key_of l.shape row) row) l.yielded)
    × All (FitsShape l.shape) l.made.items
