-- Expressions that hold lists, once their parts are bound; whether their names are known, and the types that they have.
use Rattle.std.proofs.Common.{◌≡◌, ◌&&◌, Bool, true, false, List, map, ap, sym, ◌∙◌, Option}
use Rattle.std.specs.List.{list_all}
use Rattle.std.specs.declared.alloc.Global.{Global}
use Rattle.std.specs.declared.boxed.Box.{Box}
use Rattle.std.specs.declared.vec.Vec.{Vec}
use Rattle.mg_value.specs.declared.shape.Column.{Column}
use Rattle.mg_expr.specs.declared.expr.Expr.{Expr}
use Rattle.mg_expr.specs.declared.expr.Expr.TheVariants as variants
use Rattle.mg_expr.specs.declared.expr.Part.{Part}
use Rattle.mg_expr.specs.Trees.{Tree, Or, And, Sum, Product, tree_of, part_tree, trees_of, parts_of}
use Rattle.mg_expr.specs.TreeLaws.{tree_of_or, tree_of_and, tree_of_sum, tree_of_product}
use Rattle.mg_expr.specs.Typing.{Sort, OfTruths, OfIntegers, fits_truth, fits_integer, provided, sort_of_expr}
use Rattle.mg_plan.specs.Binding.{bound, bound_expr, bound_part, knows, knows_part}
use Rattle.mg_plan.specs.BindingLaws.{knows_or, knows_and, knows_sum, knows_product, bound_or, bound_and, bound_sum}
use Rattle.mg_plan.specs.BindingLaws.{bound_product, sort_or, sort_and, sort_sum, sort_product}

module _ (columns : List Column) where
  pub or_bound : (e : Expr) (parts made : Vec Expr Global) (items : List Expr)
      → e ≡ variants.Or parts → items ≡ parts.items
      → map tree_of made.items ≡ map (λ t. bound t columns) (map tree_of items)
      → tree_of (variants.Or made) ≡ bound_expr columns e
  or_bound e parts made items is same equal =
      tree_of_or made
      ∙ ap (λ (ts : List Tree). Or (trees_of ts)) (equal ∙ ap (λ (es : List Expr). map (λ t. bound t columns) (map tree_of es)) same)
      ∙ sym (bound_or columns parts) ∙ sym (ap (bound_expr columns) is)

  pub and_bound : (e : Expr) (parts made : Vec Expr Global) (items : List Expr)
      → e ≡ variants.And parts → items ≡ parts.items
      → map tree_of made.items ≡ map (λ t. bound t columns) (map tree_of items)
      → tree_of (variants.And made) ≡ bound_expr columns e
  and_bound e parts made items is same equal =
      tree_of_and made
      ∙ ap (λ (ts : List Tree). And (trees_of ts)) (equal ∙ ap (λ (es : List Expr). map (λ t. bound t columns) (map tree_of es)) same)
      ∙ sym (bound_and columns parts) ∙ sym (ap (bound_expr columns) is)

  pub sum_bound : (e start : Expr) (first other : Box Expr Global) (parts made : Vec Part Global)
      (items : List Part) → e ≡ variants.Sum first parts → items ≡ parts.items → start ≡ first.value
      → tree_of other.value ≡ bound_expr columns start
      → map part_tree made.items ≡ map (bound_part columns) items
      → tree_of (variants.Sum other made) ≡ bound_expr columns e
  sum_bound e start first other parts made items is same starts begins equal =
      tree_of_sum other made
      ∙ ap (λ (t : Tree). Sum t (parts_of (map part_tree made.items))) (begins ∙ ap (bound_expr columns) starts)
      ∙ ap (λ (ps : List (Bool × Tree)). Sum (bound_expr columns first.value) (parts_of ps)) (equal ∙ ap (map (bound_part columns)) same)
      ∙ sym (bound_sum columns first parts) ∙ sym (ap (bound_expr columns) is)

  pub product_bound : (e start : Expr) (first other : Box Expr Global) (parts made : Vec Part Global)
      (items : List Part) → e ≡ variants.Product first parts → items ≡ parts.items
      → start ≡ first.value → tree_of other.value ≡ bound_expr columns start
      → map part_tree made.items ≡ map (bound_part columns) items
      → tree_of (variants.Product other made) ≡ bound_expr columns e
  product_bound e start first other parts made items is same starts begins equal =
      tree_of_product other made
      ∙ ap (λ (t : Tree). Product t (parts_of (map part_tree made.items))) (begins ∙ ap (bound_expr columns) starts)
      ∙ ap (λ (ps : List (Bool × Tree)). Product (bound_expr columns first.value) (parts_of ps)) (equal ∙ ap (map (bound_part columns)) same)
      ∙ sym (bound_product columns first parts) ∙ sym (ap (bound_expr columns) is)

  -- ---- types

  pub or_sort : (e : Expr) (parts : Vec Expr Global) (items : List Expr) (test : Bool) (given : Option Sort)
      → e ≡ variants.Or parts → items ≡ parts.items
      → test ≡ list_all (λ e. fits_truth (sort_of_expr e columns)) items
      → given ≡ provided test OfTruths → given ≡ sort_of_expr e columns
  or_sort e parts items test given is same tests gives =
      gives ∙ ap (λ (b : Bool). provided b OfTruths) (tests ∙ ap (list_all (λ e. fits_truth (sort_of_expr e columns))) same)
      ∙ sym (sort_or columns parts) ∙ sym (ap (λ (e : Expr). sort_of_expr e columns) is)

  pub and_sort : (e : Expr) (parts : Vec Expr Global) (items : List Expr) (test : Bool) (given : Option Sort)
      → e ≡ variants.And parts → items ≡ parts.items
      → test ≡ list_all (λ e. fits_truth (sort_of_expr e columns)) items
      → given ≡ provided test OfTruths → given ≡ sort_of_expr e columns
  and_sort e parts items test given is same tests gives =
      gives ∙ ap (λ (b : Bool). provided b OfTruths) (tests ∙ ap (list_all (λ e. fits_truth (sort_of_expr e columns))) same)
      ∙ sym (sort_and columns parts) ∙ sym (ap (λ (e : Expr). sort_of_expr e columns) is)

  pub sum_sort : (e start : Expr) (first : Box Expr Global) (parts : Vec Part Global) (items : List Part)
      (one others all : Bool) (given : Option Sort) → e ≡ variants.Sum first parts
      → items ≡ parts.items → start ≡ first.value → one ≡ fits_integer (sort_of_expr start columns)
      → others ≡ list_all (λ p. fits_integer (sort_of_expr p.value columns)) items
      → all ≡ (one && others) → given ≡ provided all OfIntegers → given ≡ sort_of_expr e columns
  sum_sort e start first parts items one others all given is same starts ones tests both gives =
      let one_is : one ≡ fits_integer (sort_of_expr first.value columns) =
      ones ∙ ap (λ (x : Expr). fits_integer (sort_of_expr x columns)) starts in
      let others_are : others ≡ list_all (λ p. fits_integer (sort_of_expr p.value columns)) parts.items =
      tests ∙ ap (list_all (λ p. fits_integer (sort_of_expr p.value columns))) same in
      gives ∙ ap (λ (b : Bool). provided b OfIntegers) (both ∙ (λ i. one_is i && others_are i))
      ∙ sym (sort_sum columns first parts) ∙ sym (ap (λ (e : Expr). sort_of_expr e columns) is)

  pub product_sort : (e start : Expr) (first : Box Expr Global) (parts : Vec Part Global) (items : List Part)
      (one others all : Bool) (given : Option Sort) → e ≡ variants.Product first parts
      → items ≡ parts.items → start ≡ first.value → one ≡ fits_integer (sort_of_expr start columns)
      → others ≡ list_all (λ p. fits_integer (sort_of_expr p.value columns)) items
      → all ≡ (one && others) → given ≡ provided all OfIntegers → given ≡ sort_of_expr e columns
  product_sort e start first parts items one others all given is same starts ones tests both gives =
      let one_is : one ≡ fits_integer (sort_of_expr first.value columns) =
      ones ∙ ap (λ (x : Expr). fits_integer (sort_of_expr x columns)) starts in
      let others_are : others ≡ list_all (λ p. fits_integer (sort_of_expr p.value columns)) parts.items =
      tests ∙ ap (list_all (λ p. fits_integer (sort_of_expr p.value columns))) same in
      gives ∙ ap (λ (b : Bool). provided b OfIntegers) (both ∙ (λ i. one_is i && others_are i))
      ∙ sym (sort_product columns first parts) ∙ sym (ap (λ (e : Expr). sort_of_expr e columns) is)

  -- ---- names

  pub or_knows : (e : Expr) (parts : Vec Expr Global) (items : List Expr) (given : Bool) → e ≡ variants.Or parts
      → items ≡ parts.items → given ≡ list_all (knows columns) items → given ≡ knows columns e
  or_knows e parts items given is same gives =
      gives ∙ ap (list_all (knows columns)) same ∙ sym (knows_or columns parts) ∙ sym (ap (knows columns) is)

  pub and_knows : (e : Expr) (parts : Vec Expr Global) (items : List Expr) (given : Bool) → e ≡ variants.And parts
      → items ≡ parts.items → given ≡ list_all (knows columns) items → given ≡ knows columns e
  and_knows e parts items given is same gives =
      gives ∙ ap (list_all (knows columns)) same ∙ sym (knows_and columns parts) ∙ sym (ap (knows columns) is)

  pub sum_knows : (e start : Expr) (first : Box Expr Global) (parts : Vec Part Global) (items : List Part)
      (one given : Bool) → e ≡ variants.Sum first parts → items ≡ parts.items → start ≡ first.value
      → one ≡ knows columns start → one ≡ true → given ≡ list_all (knows_part columns) items
      → given ≡ knows columns e
  sum_knows e start first parts items one given is same starts ones passed gives =
      gives ∙ ap (list_all (knows_part columns)) same
      ∙ sym (ap (λ (b : Bool). b && list_all (knows_part columns) parts.items)
      (sym (ap (knows columns) starts) ∙ sym ones ∙ passed))
      ∙ sym (knows_sum columns first parts) ∙ sym (ap (knows columns) is)

  pub sum_fails : (e start : Expr) (first : Box Expr Global) (parts : Vec Part Global) (one : Bool)
      → e ≡ variants.Sum first parts → start ≡ first.value → one ≡ knows columns start → one ≡ false
      → one ≡ knows columns e
  sum_fails e start first parts one is starts ones failed =
      failed ∙ sym (ap (λ (b : Bool). b && list_all (knows_part columns) parts.items)
      (sym (ap (knows columns) starts) ∙ sym ones ∙ failed))
      ∙ sym (knows_sum columns first parts) ∙ sym (ap (knows columns) is)

  pub product_knows : (e start : Expr) (first : Box Expr Global) (parts : Vec Part Global) (items : List Part)
      (one given : Bool) → e ≡ variants.Product first parts → items ≡ parts.items → start ≡ first.value
      → one ≡ knows columns start → one ≡ true → given ≡ list_all (knows_part columns) items
      → given ≡ knows columns e
  product_knows e start first parts items one given is same starts ones passed gives =
      gives ∙ ap (list_all (knows_part columns)) same
      ∙ sym (ap (λ (b : Bool). b && list_all (knows_part columns) parts.items)
      (sym (ap (knows columns) starts) ∙ sym ones ∙ passed))
      ∙ sym (knows_product columns first parts) ∙ sym (ap (knows columns) is)

  pub product_fails : (e start : Expr) (first : Box Expr Global) (parts : Vec Part Global) (one : Bool)
      → e ≡ variants.Product first parts → start ≡ first.value → one ≡ knows columns start → one ≡ false
      → one ≡ knows columns e
  product_fails e start first parts one is starts ones failed =
      failed ∙ sym (ap (λ (b : Bool). b && list_all (knows_part columns) parts.items)
      (sym (ap (knows columns) starts) ∙ sym ones ∙ failed))
      ∙ sym (knows_product columns first parts) ∙ sym (ap (knows columns) is)
