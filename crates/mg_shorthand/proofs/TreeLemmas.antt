-- The tree of the statement of a get, and those of its filter and its value once they are bound.
use Rattle.std.proofs.Common.{◌≡◌, ℕ, ℤ, Bool, List, [], ◌∷◌, ◌++◌, map, sym, ◌∙◌, ap}
use Rattle.std.specs.declared.alloc.Global.{Global}
use Rattle.std.specs.declared.boxed.Box.{Box}
use Rattle.mg_expr.specs.declared.expr.Expr.{Expr}
use Rattle.mg_expr.specs.declared.expr.Expr.TheVariants as variants
use Rattle.mg_expr.specs.declared.expr.Expr.TheOpen as layer
use Rattle.mg_expr.specs.declared.expr.Expr.TheFolds.{fold-roll-Expr}
use Rattle.mg_expr.specs.declared.expr.Sign.{Sign}
use Rattle.mg_expr.specs.Trees.{Tree, Column, Compare, Integer, Name, tree_of, tree_step, part_step}

tree_of_compare : (a : Box Expr Global) (s : Sign) (b : Box Expr Global)
    → tree_of (variants.Compare a s b) ≡ Compare (tree_of a.value) s (tree_of b.value)
tree_of_compare a s b = ap tree_of (sym (variants.rolls-Compare a s b))
    ∙ fold-roll-Expr Tree (Bool × Tree) tree_step part_step (layer.Compare a s b)

tree_of_integer : (z : ℤ) → tree_of (variants.Integer z) ≡ Integer z
tree_of_integer z = ap tree_of (sym (variants.rolls-Integer z))
    ∙ fold-roll-Expr Tree (Bool × Tree) tree_step part_step (layer.Integer z)

tree_of_name : (t : List ℕ) → tree_of (variants.Name t) ≡ Name t
tree_of_name t = ap tree_of (sym (variants.rolls-Name t))
    ∙ fold-roll-Expr Tree (Bool × Tree) tree_step part_step (layer.Name t)

-- a column is compared with a number
pub compared : (a b : Box Expr Global) (s : Sign) (name : List ℕ) (z : ℤ) → a.value ≡ variants.Name name
    → b.value ≡ variants.Integer z → tree_of (variants.Compare a s b) ≡ Compare (Name name) s (Integer z)
compared a b s name z column number =
    tree_of_compare a s b
    ∙ ap (λ (e : Expr). Compare (tree_of e) s (tree_of b.value)) column
    ∙ ap (λ (e : Expr). Compare (tree_of (variants.Name name)) s (tree_of e)) number
    ∙ ap (λ (t : Tree). Compare t s (tree_of (variants.Integer z))) (tree_of_name name)
    ∙ ap (λ (t : Tree). Compare (Name name) s t) (tree_of_integer z)

-- one column alone
pub alone : (xs ys : List Expr) (name : List ℕ) → ys ≡ xs ++ variants.Name name ∷ [] → xs ≡ []
    → map tree_of ys ≡ Name name ∷ []
alone xs ys name is none = ap (map tree_of) is ∙ ap (λ (zs : List Expr). map tree_of (zs ++ variants.Name name ∷ [])) none
    ∙ ap (λ (t : Tree). t ∷ []) (tree_of_name name)

-- ---- the same, bound

tree_of_column : (place : ℕ) → tree_of (variants.Column place) ≡ Column place
tree_of_column place = ap tree_of (sym (variants.rolls-Column place))
    ∙ fold-roll-Expr Tree (Bool × Tree) tree_step part_step (layer.Column place)

pub place_compared : (a b : Box Expr Global) (s : Sign) (place : ℕ) (z : ℤ) → a.value ≡ variants.Column place
    → b.value ≡ variants.Integer z → tree_of (variants.Compare a s b) ≡ Compare (Column place) s (Integer z)
place_compared a b s place z column number =
    tree_of_compare a s b
    ∙ ap (λ (e : Expr). Compare (tree_of e) s (tree_of b.value)) column
    ∙ ap (λ (e : Expr). Compare (tree_of (variants.Column place)) s (tree_of e)) number
    ∙ ap (λ (t : Tree). Compare t s (tree_of (variants.Integer z))) (tree_of_column place)
    ∙ ap (λ (t : Tree). Compare (Column place) s t) (tree_of_integer z)

pub place_alone : (xs ys : List Expr) (place : ℕ) → ys ≡ xs ++ variants.Column place ∷ [] → xs ≡ []
    → map tree_of ys ≡ Column place ∷ []
place_alone xs ys place is none = ap (map tree_of) is
    ∙ ap (λ (zs : List Expr). map tree_of (zs ++ variants.Column place ∷ [])) none
    ∙ ap (λ (t : Tree). t ∷ []) (tree_of_column place)
