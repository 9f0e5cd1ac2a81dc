-- The trees of expressions that hold expressions in boxes, or none; and what is known of them, once they are
-- bound, and their types.
use Rattle.std.proofs.Common.{◌≡◌, ◌&&◌, Bool, true, false, List, refl, ap, sym, ◌∙◌, Option}
use Rattle.std.specs.declared.alloc.Global.{Global}
use Rattle.std.specs.declared.boxed.Box.{Box}
use Rattle.mg_value.specs.declared.shape.Column.{Column}
use Rattle.mg_expr.specs.declared.expr.Expr.{Expr}
use Rattle.mg_expr.specs.declared.expr.Expr.TheVariants as variants
use Rattle.mg_expr.specs.declared.expr.Expr.TheOpen as layer
use Rattle.mg_expr.specs.declared.expr.Expr.TheFolds.{fold-roll-Expr}
use Rattle.mg_expr.specs.declared.expr.Sign.{Sign}
use Rattle.mg_expr.specs.Trees.{Tree, Not, Compare, IsNull, IsNotNull, Minus, tree_of, tree_step, part_step}
use Rattle.mg_expr.specs.Typing.{Sort, OfTruths, OfIntegers, fits_truth, fits_integer, fits_value, are_comparable}
use Rattle.mg_expr.specs.Typing.{provided, sort_of, sort_of_expr}
use Rattle.mg_plan.specs.Binding.{is_known, bound, knows, bound_expr}

tree_of_not : (part : Box Expr Global) → tree_of (variants.Not part) ≡ Not (tree_of part.value)
tree_of_not part =
    ap tree_of (sym (variants.rolls-Not part))
    ∙ fold-roll-Expr Tree (Bool × Tree) tree_step part_step (layer.Not part)

tree_of_is_null : (part : Box Expr Global) → tree_of (variants.IsNull part) ≡ IsNull (tree_of part.value)
tree_of_is_null part =
    ap tree_of (sym (variants.rolls-IsNull part))
    ∙ fold-roll-Expr Tree (Bool × Tree) tree_step part_step (layer.IsNull part)

tree_of_is_not_null : (part : Box Expr Global) → tree_of (variants.IsNotNull part) ≡ IsNotNull (tree_of part.value)
tree_of_is_not_null part =
    ap tree_of (sym (variants.rolls-IsNotNull part))
    ∙ fold-roll-Expr Tree (Bool × Tree) tree_step part_step (layer.IsNotNull part)

tree_of_minus : (part : Box Expr Global) → tree_of (variants.Minus part) ≡ Minus (tree_of part.value)
tree_of_minus part =
    ap tree_of (sym (variants.rolls-Minus part))
    ∙ fold-roll-Expr Tree (Bool × Tree) tree_step part_step (layer.Minus part)

tree_of_compare : (a : Box Expr Global) (sign : Sign) (b : Box Expr Global)
    → tree_of (variants.Compare a sign b) ≡ Compare (tree_of a.value) sign (tree_of b.value)
tree_of_compare a sign b =
    ap tree_of (sym (variants.rolls-Compare a sign b))
    ∙ fold-roll-Expr Tree (Bool × Tree) tree_step part_step (layer.Compare a sign b)

module _ (columns : List Column) where
  -- ---- names

  pub not_knows : (e start : Expr) (part : Box Expr Global) (given : Bool) → e ≡ variants.Not part
      → start ≡ part.value → given ≡ knows columns start → given ≡ knows columns e
  not_knows e start part given is starts gives =
      gives ∙ ap (knows columns) starts
      ∙ sym (ap (λ (t : Tree). is_known t columns) (ap tree_of is ∙ tree_of_not part))

  pub is_null_knows : (e start : Expr) (part : Box Expr Global) (given : Bool) → e ≡ variants.IsNull part
      → start ≡ part.value → given ≡ knows columns start → given ≡ knows columns e
  is_null_knows e start part given is starts gives =
      gives ∙ ap (knows columns) starts
      ∙ sym (ap (λ (t : Tree). is_known t columns) (ap tree_of is ∙ tree_of_is_null part))

  pub is_not_null_knows : (e start : Expr) (part : Box Expr Global) (given : Bool) → e ≡ variants.IsNotNull part
      → start ≡ part.value → given ≡ knows columns start → given ≡ knows columns e
  is_not_null_knows e start part given is starts gives =
      gives ∙ ap (knows columns) starts
      ∙ sym (ap (λ (t : Tree). is_known t columns) (ap tree_of is ∙ tree_of_is_not_null part))

  pub minus_knows : (e start : Expr) (part : Box Expr Global) (given : Bool) → e ≡ variants.Minus part
      → start ≡ part.value → given ≡ knows columns start → given ≡ knows columns e
  minus_knows e start part given is starts gives =
      gives ∙ ap (knows columns) starts
      ∙ sym (ap (λ (t : Tree). is_known t columns) (ap tree_of is ∙ tree_of_minus part))

  both_known : (e left right : Expr) (a b : Box Expr Global) (sign : Sign) → e ≡ variants.Compare a sign b
      → left ≡ a.value → right ≡ b.value → (knows columns left && knows columns right) ≡ knows columns e
  both_known e left right a b sign is starts others =
      ap (λ (x : Expr). knows columns x && knows columns right) starts
      ∙ ap (λ (x : Expr). knows columns a.value && knows columns x) others
      ∙ sym (ap (λ (t : Tree). is_known t columns) (ap tree_of is ∙ tree_of_compare a sign b))

  pub compare_knows : (e left right : Expr) (a b : Box Expr Global) (sign : Sign) (one given : Bool)
      → e ≡ variants.Compare a sign b → left ≡ a.value → right ≡ b.value → one ≡ knows columns left
      → one ≡ true → given ≡ knows columns right → given ≡ knows columns e
  compare_knows e left right a b sign one given is starts others ones passed gives =
      gives ∙ sym (ap (λ (x : Bool). x && knows columns right) (sym ones ∙ passed))
      ∙ both_known e left right a b sign is starts others

  pub compare_fails : (e left : Expr) (a b : Box Expr Global) (sign : Sign) (one : Bool)
      → e ≡ variants.Compare a sign b → left ≡ a.value → one ≡ knows columns left → one ≡ false
      → one ≡ knows columns e
  compare_fails e left a b sign one is starts ones failed =
      failed ∙ sym (ap (λ (x : Bool). x && knows columns b.value) (sym ones ∙ failed))
      ∙ both_known e left b.value a b sign is starts refl

  -- ---- binding

  pub not_bound : (e start : Expr) (part made : Box Expr Global) → e ≡ variants.Not part → start ≡ part.value
      → tree_of made.value ≡ bound_expr columns start → tree_of (variants.Not made) ≡ bound_expr columns e
  not_bound e start part made is starts equal =
      tree_of_not made ∙ ap (λ (t : Tree). Not t) (equal ∙ ap (bound_expr columns) starts)
      ∙ sym (ap (λ (t : Tree). bound t columns) (ap tree_of is ∙ tree_of_not part))

  pub is_null_bound : (e start : Expr) (part made : Box Expr Global) → e ≡ variants.IsNull part → start ≡ part.value
      → tree_of made.value ≡ bound_expr columns start → tree_of (variants.IsNull made) ≡ bound_expr columns e
  is_null_bound e start part made is starts equal =
      tree_of_is_null made ∙ ap (λ (t : Tree). IsNull t) (equal ∙ ap (bound_expr columns) starts)
      ∙ sym (ap (λ (t : Tree). bound t columns) (ap tree_of is ∙ tree_of_is_null part))

  pub is_not_null_bound : (e start : Expr) (part made : Box Expr Global) → e ≡ variants.IsNotNull part
      → start ≡ part.value
      → tree_of made.value ≡ bound_expr columns start → tree_of (variants.IsNotNull made) ≡ bound_expr columns e
  is_not_null_bound e start part made is starts equal =
      tree_of_is_not_null made ∙ ap (λ (t : Tree). IsNotNull t) (equal ∙ ap (bound_expr columns) starts)
      ∙ sym (ap (λ (t : Tree). bound t columns) (ap tree_of is ∙ tree_of_is_not_null part))

  pub minus_bound : (e start : Expr) (part made : Box Expr Global) → e ≡ variants.Minus part → start ≡ part.value
      → tree_of made.value ≡ bound_expr columns start → tree_of (variants.Minus made) ≡ bound_expr columns e
  minus_bound e start part made is starts equal =
      tree_of_minus made ∙ ap (λ (t : Tree). Minus t) (equal ∙ ap (bound_expr columns) starts)
      ∙ sym (ap (λ (t : Tree). bound t columns) (ap tree_of is ∙ tree_of_minus part))

  pub compare_bound : (e left right : Expr) (a b first second : Box Expr Global) (sign : Sign)
      → e ≡ variants.Compare a sign b → left ≡ a.value → right ≡ b.value
      → tree_of first.value ≡ bound_expr columns left → tree_of second.value ≡ bound_expr columns right
      → tree_of (variants.Compare first sign second) ≡ bound_expr columns e
  compare_bound e left right a b first second sign is starts others equal alike =
      tree_of_compare first sign second
      ∙ ap (λ (t : Tree). Compare t sign (tree_of second.value)) (equal ∙ ap (bound_expr columns) starts)
      ∙ ap (λ (t : Tree). Compare (bound_expr columns a.value) sign t) (alike ∙ ap (bound_expr columns) others)
      ∙ sym (ap (λ (t : Tree). bound t columns) (ap tree_of is ∙ tree_of_compare a sign b))

  -- ---- types

  pub not_sort : (e start : Expr) (part : Box Expr Global) (test : Bool) (given : Option Sort)
      → e ≡ variants.Not part → start ≡ part.value → test ≡ fits_truth (sort_of_expr start columns)
      → given ≡ provided test OfTruths → given ≡ sort_of_expr e columns
  not_sort e start part test given is starts tests gives =
      gives ∙ ap (λ (b : Bool). provided b OfTruths)
      (tests ∙ ap (λ (x : Expr). fits_truth (sort_of_expr x columns)) starts)
      ∙ sym (ap (λ (t : Tree). sort_of t columns) (ap tree_of is ∙ tree_of_not part))

  pub is_null_sort : (e start : Expr) (part : Box Expr Global) (test : Bool) (given : Option Sort)
      → e ≡ variants.IsNull part → start ≡ part.value → test ≡ fits_value (sort_of_expr start columns)
      → given ≡ provided test OfTruths → given ≡ sort_of_expr e columns
  is_null_sort e start part test given is starts tests gives =
      gives ∙ ap (λ (b : Bool). provided b OfTruths)
      (tests ∙ ap (λ (x : Expr). fits_value (sort_of_expr x columns)) starts)
      ∙ sym (ap (λ (t : Tree). sort_of t columns) (ap tree_of is ∙ tree_of_is_null part))

  pub is_not_null_sort : (e start : Expr) (part : Box Expr Global) (test : Bool) (given : Option Sort)
      → e ≡ variants.IsNotNull part → start ≡ part.value → test ≡ fits_value (sort_of_expr start columns)
      → given ≡ provided test OfTruths → given ≡ sort_of_expr e columns
  is_not_null_sort e start part test given is starts tests gives =
      gives ∙ ap (λ (b : Bool). provided b OfTruths)
      (tests ∙ ap (λ (x : Expr). fits_value (sort_of_expr x columns)) starts)
      ∙ sym (ap (λ (t : Tree). sort_of t columns) (ap tree_of is ∙ tree_of_is_not_null part))

  pub minus_sort : (e start : Expr) (part : Box Expr Global) (test : Bool) (given : Option Sort)
      → e ≡ variants.Minus part → start ≡ part.value → test ≡ fits_integer (sort_of_expr start columns)
      → given ≡ provided test OfIntegers → given ≡ sort_of_expr e columns
  minus_sort e start part test given is starts tests gives =
      gives ∙ ap (λ (b : Bool). provided b OfIntegers)
      (tests ∙ ap (λ (x : Expr). fits_integer (sort_of_expr x columns)) starts)
      ∙ sym (ap (λ (t : Tree). sort_of t columns) (ap tree_of is ∙ tree_of_minus part))

  pub compare_sort : (e left right : Expr) (a b : Box Expr Global) (sign : Sign) (test : Bool) (given : Option Sort)
      → e ≡ variants.Compare a sign b → left ≡ a.value → right ≡ b.value
      → test ≡ are_comparable (sort_of_expr left columns) (sort_of_expr right columns)
      → given ≡ provided test OfTruths → given ≡ sort_of_expr e columns
  compare_sort e left right a b sign test given is starts others tests gives =
      gives ∙ ap (λ (x : Bool). provided x OfTruths)
      (tests ∙ ap (λ (x : Expr). are_comparable (sort_of_expr x columns) (sort_of_expr right columns)) starts
      ∙ ap (λ (x : Expr). are_comparable (sort_of_expr a.value columns) (sort_of_expr x columns)) others)
      ∙ sym (ap (λ (t : Tree). sort_of t columns) (ap tree_of is ∙ tree_of_compare a sign b))
