-- The bare tree of an expression: its variants and what they hold, without addresses in memory.
use Rattle.std.specs.Prelude.{ℕ, ℤ, Bool, List, [], ◌∷◌}
use Rattle.mg_expr.specs.declared.expr.Sign.{Sign}
use Rattle.mg_expr.specs.declared.expr.Expr.{Expr}
use Rattle.mg_expr.specs.declared.expr.Part.{Part}
use Rattle.mg_expr.specs.declared.expr.Expr.TheOpen.{Expr-F, Part-F}
use Rattle.mg_expr.specs.declared.expr.Expr.TheOpen as layer
use Rattle.mg_expr.specs.declared.expr.Expr.TheFolds.{fold-Expr}

mutual
  -- an expression: texts and names are their bytes, and columns their places
  pub data Tree : Type 0 where
    Or : Trees → Tree
    And : Trees → Tree
    Not : Tree → Tree
    Compare : Tree → Sign → Tree → Tree
    IsNull : Tree → Tree
    IsNotNull : Tree → Tree
    Sum : Tree → Parts → Tree
    Product : Tree → Parts → Tree
    Minus : Tree → Tree
    Integer : ℤ → Tree
    Text : List ℕ → Tree
    Null : Tree
    Name : List ℕ → Tree
    Column : ℕ → Tree

  -- expressions in a row
  pub data Trees : Type 0 where
    end : Trees
    also : Tree → Trees → Trees

  -- the further parts of a sum or a product; true where a part is subtracted, or divided by
  pub data Parts : Type 0 where
    done : Parts
    part : Bool → Tree → Parts → Parts

-- the trees of a list
abbrev pub trees_of : List Tree → Trees
trees_of [] = end
trees_of (t ∷ ts) = also t (trees_of ts)

-- the parts of a list
abbrev pub parts_of : List (Bool × Tree) → Parts
parts_of [] = done
parts_of (p ∷ ps) = part p.0 p.1 (parts_of ps)

-- one variant, with the trees of the expressions that it holds in their place
abbrev pub tree_step : Expr-F Tree (Bool × Tree) → Tree
tree_step (layer.Or ts) = Or (trees_of ts.items)
tree_step (layer.And ts) = And (trees_of ts.items)
tree_step (layer.Not t) = Not t.value
tree_step (layer.Compare a sign b) = Compare a.value sign b.value
tree_step (layer.IsNull t) = IsNull t.value
tree_step (layer.IsNotNull t) = IsNotNull t.value
tree_step (layer.Sum t ps) = Sum t.value (parts_of ps.items)
tree_step (layer.Product t ps) = Product t.value (parts_of ps.items)
tree_step (layer.Minus t) = Minus t.value
tree_step (layer.Integer number) = Integer number
tree_step (layer.Text text) = Text text
tree_step layer.Null = Null
tree_step (layer.Name name) = Name name
tree_step (layer.Column place) = Column place

-- one part, with the tree of its expression in its place
abbrev pub part_step : Part-F Tree (Bool × Tree) → Bool × Tree
part_step p = (p.inverse, p.value)

-- the tree of an expression
abbrev pub tree_of : Expr → Tree
tree_of e = fold-Expr Tree (Bool × Tree) tree_step part_step e

-- the tree of a further part, with whether it is subtracted, or divided by
abbrev pub part_tree : Part → Bool × Tree
part_tree p = (p.inverse, tree_of p.value)
