use Rattle.std.proofs.Common.{◌≡◌, map, take}
use Rattle.mg_expr.specs.Trees.{tree_of, part_tree}
use Rattle.mg_expr.proofs.copying.+copying.Given as goal

-- the copies so far are equal to the first parts
abbrev pub invariant-copy_all-loop-part : goal.invariant-copy_all-loop-part
invariant-copy_all-loop-part l = map tree_of l.copied.items ≡ map tree_of (take l.part-index l.parts)

abbrev pub invariant-copy_parts-loop-part : goal.invariant-copy_parts-loop-part
invariant-copy_parts-loop-part l = map part_tree l.copied.items ≡ map part_tree (take l.part-index l.parts)
