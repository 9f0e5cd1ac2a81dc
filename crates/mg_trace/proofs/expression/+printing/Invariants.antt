use Rattle.std.proofs.Common.{◌≡◌, false, take}
use Rattle.std.specs.List.{flat_map}
use Rattle.mg_trace.specs.Putting.{Puts}
use Rattle.mg_trace.specs.Trees.{part_text}
use Rattle.mg_trace.specs.TreeLaws.{laid, later}
use Rattle.mg_trace.proofs.expression.+printing.Given as goal

-- the first expressions are put, and one stands before the next, but for the first
abbrev pub invariant-put_all-loop-part : goal.invariant-put_all-loop-part
invariant-put_all-loop-part l =
    Puts l.initial.trace l.trace (laid l.between false (take l.part-index l.parts))
    × (l.has_before ≡ later false l.part-index)

abbrev pub invariant-put_parts-loop-part : goal.invariant-put_parts-loop-part
invariant-put_parts-loop-part l =
    Puts l.initial.trace l.trace (flat_map (part_text l.plus l.minus) (take l.part-index l.parts))
