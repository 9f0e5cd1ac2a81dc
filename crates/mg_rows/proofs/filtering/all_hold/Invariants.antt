use Rattle.std.proofs.Common.{◌≡◌, map, drop}
use Rattle.mg_expr.specs.Meaning.{says_of}
use Rattle.mg_expr.specs.Filters.{passes_all}
use Rattle.mg_rows.proofs.filtering.all_hold.Given as goal

-- those so far are TRUE, so those to come decide
abbrev pub invariant-loop-part : goal.invariant-loop-part
invariant-loop-part l =
    passes_all (map (λ e. says_of e l.row) (drop l.part-index l.parts)) ≡ passes_all (map (λ e. says_of e l.row) l.parts)
