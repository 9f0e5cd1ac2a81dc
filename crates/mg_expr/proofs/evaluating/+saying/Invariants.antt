use Rattle.std.proofs.Common.{◌≡◌, ◌≢◌, map, drop, Some}
use Rattle.mg_value.specs.declared.truth.Truth.TheVariants.{False, True}
use Rattle.mg_expr.specs.Meaning.{says_of, part_says, and_then, or_else, all_of, any_of, total, added, multiplied}
use Rattle.mg_expr.proofs.evaluating.+saying.Given as goal

-- AND so far is not FALSE; it and what is left make the whole
abbrev pub invariant-all-loop-part : goal.invariant-all-loop-part
invariant-all-loop-part l = (l.all ≢ False) × (
    and_then (Some l.all) (all_of (map (λ e. says_of e l.row) (drop l.part-index l.parts))) ≡ all_of (map (λ e. says_of e l.row) l.parts))

-- OR so far is not TRUE; it and what is left make the whole
abbrev pub invariant-any-loop-part : goal.invariant-any-loop-part
invariant-any-loop-part l = (l.any ≢ True) × (
    or_else (Some l.any) (any_of (map (λ e. says_of e l.row) (drop l.part-index l.parts))) ≡ any_of (map (λ e. says_of e l.row) l.parts))

-- the sum so far and what is left make the whole
abbrev pub invariant-sum-loop-part : goal.invariant-sum-loop-part
invariant-sum-loop-part l =
    total added (Some l.sum) (map (λ p. part_says p l.row) (drop l.part-index l.parts)) ≡ total added (Some l.fn.first) (map (λ p. part_says p l.row) l.parts)

-- the product so far and what is left make the whole
abbrev pub invariant-product-loop-part : goal.invariant-product-loop-part
invariant-product-loop-part l =
    total multiplied (Some l.product) (map (λ p. part_says p l.row) (drop l.part-index l.parts)) ≡ total multiplied (Some l.fn.first) (map (λ p. part_says p l.row) l.parts)
