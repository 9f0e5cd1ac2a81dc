use Rattle.std.proofs.Common.{◌≡◌, map, take}
use Rattle.std.specs.Prelude.{All}
use Rattle.mg_value.specs.Names.{IsName}
use Rattle.mg_statements.specs.declared.statement.Def.{Def}
use Rattle.mg_plan.specs.Shapes.{column_of}
use Rattle.mg_plan.proofs.shapes.columns_of.Given as goal

abbrev pub invariant-loop-d : goal.invariant-loop-d
invariant-loop-d l = (l.columns.items ≡ map column_of (take l.d-index l.defs))
    × All (λ (d : Def). IsName d.name) (take l.d-index l.defs)
