-- Expressions that hold no other one: once they are bound, and their types.
use Rattle.std.proofs.Common.{◌≡◌, ℕ, ℤ, Bool, List, ap, sym, ◌∙◌, Option, Some, None}
use Rattle.mg_value.specs.declared.shape.Column.{Column}
use Rattle.mg_expr.specs.declared.expr.Expr.{Expr}
use Rattle.mg_expr.specs.declared.expr.Expr.TheVariants as variants
use Rattle.mg_expr.specs.declared.expr.Expr.TheOpen as layer
use Rattle.mg_expr.specs.declared.expr.Expr.TheFolds.{fold-roll-Expr}
use Rattle.mg_expr.specs.Trees as trees
use Rattle.mg_expr.specs.Trees.{Tree, tree_of, tree_step, part_step}
use Rattle.mg_expr.specs.Typing.{Sort, OfIntegers, OfTexts, OfNull, column_sort, sort_of, sort_of_expr}
use Rattle.mg_plan.specs.Names.{place_of}
use Rattle.mg_plan.specs.Binding.{bound, bound_expr, column_or_name}

tree_of_integer : (number : ℤ) → tree_of (variants.Integer number) ≡ trees.Integer number
tree_of_integer number =
    ap tree_of (sym (variants.rolls-Integer number))
    ∙ fold-roll-Expr Tree (Bool × Tree) tree_step part_step (layer.Integer number)

tree_of_text : (text : List ℕ) → tree_of (variants.Text text) ≡ trees.Text text
tree_of_text text =
    ap tree_of (sym (variants.rolls-Text text))
    ∙ fold-roll-Expr Tree (Bool × Tree) tree_step part_step (layer.Text text)

tree_of_name : (name : List ℕ) → tree_of (variants.Name name) ≡ trees.Name name
tree_of_name name =
    ap tree_of (sym (variants.rolls-Name name))
    ∙ fold-roll-Expr Tree (Bool × Tree) tree_step part_step (layer.Name name)

tree_of_column : (place : ℕ) → tree_of (variants.Column place) ≡ trees.Column place
tree_of_column place =
    ap tree_of (sym (variants.rolls-Column place))
    ∙ fold-roll-Expr Tree (Bool × Tree) tree_step part_step (layer.Column place)

tree_of_null : tree_of variants.Null ≡ trees.Null
tree_of_null = ap tree_of (sym variants.rolls-Null) ∙ fold-roll-Expr Tree (Bool × Tree) tree_step part_step layer.Null

module _ (columns : List Column) where
  -- ---- binding

  pub column_bound : (e : Expr) (place : ℕ) → e ≡ variants.Column place
      → tree_of (variants.Column place) ≡ bound_expr columns e
  column_bound e place is =
      tree_of_column place ∙ sym (ap (λ (t : Tree). bound t columns) (ap tree_of is ∙ tree_of_column place))

  pub null_bound : (e : Expr) → e ≡ variants.Null → tree_of variants.Null ≡ bound_expr columns e
  null_bound e is = tree_of_null ∙ sym (ap (λ (t : Tree). bound t columns) (ap tree_of is ∙ tree_of_null))

  pub text_bound : (e : Expr) (text made : List ℕ) → e ≡ variants.Text text → made ≡ text
      → tree_of (variants.Text made) ≡ bound_expr columns e
  text_bound e text made is same =
      tree_of_text made ∙ ap (λ (bytes : List ℕ). trees.Text bytes) same
      ∙ sym (ap (λ (t : Tree). bound t columns) (ap tree_of is ∙ tree_of_text text))

  pub name_bound : (e made : Expr) (name : List ℕ) → e ≡ variants.Name name
      → tree_of made ≡ column_or_name (place_of columns name) name → tree_of made ≡ bound_expr columns e
  name_bound e made name is equal =
      equal ∙ sym (ap (λ (t : Tree). bound t columns) (ap tree_of is ∙ tree_of_name name))

  -- ---- types

  pub integer_sort : (e : Expr) (number : ℤ) → e ≡ variants.Integer number → Some OfIntegers ≡ sort_of_expr e columns
  integer_sort e number is = sym (ap (λ (t : Tree). sort_of t columns) (ap tree_of is ∙ tree_of_integer number))

  pub text_sort : (e : Expr) (text : List ℕ) → e ≡ variants.Text text → Some OfTexts ≡ sort_of_expr e columns
  text_sort e text is = sym (ap (λ (t : Tree). sort_of t columns) (ap tree_of is ∙ tree_of_text text))

  pub null_sort : (e : Expr) → e ≡ variants.Null → Some OfNull ≡ sort_of_expr e columns
  null_sort e is = sym (ap (λ (t : Tree). sort_of t columns) (ap tree_of is ∙ tree_of_null))

  pub name_sort : (e : Expr) (name : List ℕ) → e ≡ variants.Name name → None ≡ sort_of_expr e columns
  name_sort e name is = sym (ap (λ (t : Tree). sort_of t columns) (ap tree_of is ∙ tree_of_name name))

  pub place_sort : (e : Expr) (place : ℕ) (given : Option Sort) → e ≡ variants.Column place
      → given ≡ column_sort columns place → given ≡ sort_of_expr e columns
  place_sort e place given is gives =
      gives ∙ sym (ap (λ (t : Tree). sort_of t columns) (ap tree_of is ∙ tree_of_column place))
