use Rattle.std.proofs.Common.{◌≡◌, ◌++◌, ℕ, List, length}
use Rattle.std.specs.List.{flat_map}
use Rattle.mg_layout.proofs.linked.add_levels.Given as goal

abbrev pub invariant-loop-level : goal.invariant-loop-level
invariant-loop-level l = l.pages.items ++ flat_map (λ (level : List ℕ). level) l.rest
    ≡ l.initial.pages.items ++ flat_map (λ (level : List ℕ). level) l.levels

abbrev pub decreases-loop-level : goal.decreases-loop-level
decreases-loop-level l = length l.rest
