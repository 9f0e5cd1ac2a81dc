-- Which rows a filter lets pass.
use Rattle.std.specs.Prelude.{◌≡◌, Bool, true, false, List, [], ◌∷◌, Option, Some, None}
use Rattle.mg_value.specs.declared.truth.Truth.{Truth}
use Rattle.mg_value.specs.declared.truth.Truth.TheVariants.{False, Unknown, True}
use Rattle.mg_value.specs.declared.value.Value.{Value}
use Rattle.mg_expr.specs.declared.expr.Expr.{Expr}
use Rattle.mg_expr.specs.Trees.{Tree, And, tree_of}
use Rattle.mg_expr.specs.Meaning.{Says, truth_in, says, says_each, is_true_of}

-- one part of a filter, then the later ones: where it isn't TRUE the row is dropped, and the later
-- ones aren't evaluated
abbrev pub and_passes : Option Truth → Option Bool → Option Bool
and_passes None later = None
and_passes (Some False) later = Some false
and_passes (Some Unknown) later = Some false
and_passes (Some True) later = later

-- the parts of a filter, from the left
abbrev pub passes_all : List Says → Option Bool
passes_all [] = Some true
passes_all (s ∷ ss) = and_passes (truth_in s) (passes_all ss)

-- whether a row passes, none where a part that is evaluated faults; the parts of an AND at the top
-- are tested one by one
abbrev pub passes : Tree → List Value → Option Bool
passes (And ts) row = passes_all (says_each ts row)
passes t row = passes_all (says t row ∷ [])

-- whether a row passes an expression as a filter, none where it faults
abbrev pub passes_of : Expr → List Value → Option Bool
passes_of e row = passes (tree_of e) row

-- an answer is that the row passes
abbrev pub is_passed : Option Bool → Bool
is_passed None = false
is_passed (Some passed) = passed

-- a row passes exactly where the filter is TRUE; only a fault behind an unknown part tells them apart
abbrev pub PassesWhereTrue : Type 0
PassesWhereTrue = (e : Expr) (row : List Value) → is_passed (passes_of e row) ≡ is_true_of e row
