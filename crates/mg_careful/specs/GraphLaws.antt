-- Laws of graphs, for callers: only entered pages are ordered.
use Rattle.std.specs.Prelude.{◌≡◌, ℕ, true}
use Rattle.std.proofs.lemmas.Bool.{and_parts}
use Rattle.mg_careful.specs.Precedence.{Precedes}
use Rattle.mg_careful.specs.PrecedenceLaws.{precedes_first, precedes_later}
use Rattle.mg_careful.specs.Graph.{PageGraph, is_entered, is_ordered}

pub ordered_entered : (g : PageGraph) (a b : ℕ) → is_ordered g a b ≡ true
    → (is_entered g a ≡ true) × (is_entered g b ≡ true)
unfolding is_ordered
ordered_entered g a b ordered =
    let parts = and_parts (is_entered g a) _ ordered in
    (parts.0, (and_parts (is_entered g b) _ parts.1).0)

pub precedes_entered : (g : PageGraph) (a b : ℕ) → Precedes (is_ordered g) a b
    → (is_entered g a ≡ true) × (is_entered g b ≡ true)
precedes_entered g a b chain = (
  precedes_first (is_ordered g) (is_entered g) (λ x y o. (ordered_entered g x y o).0) a b chain,
  precedes_later (is_ordered g) (is_entered g) (λ x y o. (ordered_entered g x y o).1) a b chain,
)
