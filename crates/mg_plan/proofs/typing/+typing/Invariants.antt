use Rattle.std.proofs.Common.{◌≡◌, drop}
use Rattle.std.specs.List.{list_all}
use Rattle.mg_expr.specs.Typing.{fits_truth, fits_integer, sort_of_expr}
use Rattle.mg_plan.proofs.typing.+typing.Given as goal

abbrev pub invariant-are_truths-loop-part : goal.invariant-are_truths-loop-part
invariant-are_truths-loop-part l = list_all (λ e. fits_truth (sort_of_expr e l.columns)) (drop l.part-index l.parts) ≡ list_all (λ e. fits_truth (sort_of_expr e l.columns)) l.parts

abbrev pub invariant-are_integers-loop-part : goal.invariant-are_integers-loop-part
invariant-are_integers-loop-part l = list_all (λ p. fits_integer (sort_of_expr p.value l.columns)) (drop l.part-index l.parts) ≡ list_all (λ p. fits_integer (sort_of_expr p.value l.columns)) l.parts
