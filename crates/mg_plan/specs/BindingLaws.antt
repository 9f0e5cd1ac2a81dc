-- What is said of expressions that hold lists, by the members of the lists.
use Rattle.std.proofs.Common.{◌≡◌, ◌&&◌, Bool, List, [], ◌∷◌, map, refl, ap, ◌∙◌}
use Rattle.std.specs.List.{list_all}
use Rattle.std.specs.declared.alloc.Global.{Global}
use Rattle.std.specs.declared.boxed.Box.{Box}
use Rattle.std.specs.declared.vec.Vec.{Vec}
use Rattle.mg_value.specs.declared.shape.Column.{Column}
use Rattle.mg_expr.specs.declared.expr.Expr.{Expr}
use Rattle.mg_expr.specs.declared.expr.Expr.TheVariants as variants
use Rattle.mg_expr.specs.declared.expr.Part.{Part}
use Rattle.mg_expr.specs.Trees.{Tree, Trees, Parts, Or, And, Sum, Product, also, part, tree_of, part_tree, trees_of, parts_of}
use Rattle.mg_expr.specs.TreeLaws.{tree_of_or, tree_of_and, tree_of_sum, tree_of_product}
use Rattle.mg_expr.specs.Typing.{OfTruths, OfIntegers, fits_truth, fits_integer, provided, sort_of, sorts_of, part_sorts, sort_of_expr}
use Rattle.mg_plan.specs.Binding.{is_known, are_known, are_parts_known, bound, each_bound, parts_bound, knows, knows_part, bound_expr, bound_part}

-- ---- names

pub each_known : (columns : List Column) (es : List Expr)
    → are_known (trees_of (map tree_of es)) columns ≡ list_all (knows columns) es
each_known columns [] = refl
each_known columns (e ∷ es) = ap (λ (b : Bool). knows columns e && b) (each_known columns es)

pub each_part_known : (columns : List Column) (ps : List Part)
    → are_parts_known (parts_of (map part_tree ps)) columns ≡ list_all (knows_part columns) ps
each_part_known columns [] = refl
each_part_known columns (p ∷ ps) =
    ap (λ (b : Bool). knows_part columns p && b) (each_part_known columns ps)

-- ---- binding

pub all_bound : (columns : List Column) (ts : List Tree)
    → each_bound (trees_of ts) columns ≡ trees_of (map (λ t. bound t columns) ts)
all_bound columns [] = refl
all_bound columns (t ∷ ts) =
    ap (λ (rest : Trees). also (bound t columns) rest) (all_bound columns ts)

pub all_parts_bound : (columns : List Column) (ps : List Part)
    → parts_bound (parts_of (map part_tree ps)) columns ≡ parts_of (map (bound_part columns) ps)
all_parts_bound columns [] = refl
all_parts_bound columns (p ∷ ps) =
    ap (λ (rest : Parts). part p.inverse (bound_expr columns p.value) rest)
    (all_parts_bound columns ps)

-- ---- types

pub all_truths : (columns : List Column) (es : List Expr)
    → list_all fits_truth (sorts_of (trees_of (map tree_of es)) columns)
    ≡ list_all (λ e. fits_truth (sort_of_expr e columns)) es
all_truths columns [] = refl
all_truths columns (e ∷ es) =
    ap (λ (b : Bool). fits_truth (sort_of_expr e columns) && b) (all_truths columns es)

pub all_integers : (columns : List Column) (ps : List Part)
    → list_all fits_integer (part_sorts (parts_of (map part_tree ps)) columns)
    ≡ list_all (λ p. fits_integer (sort_of_expr p.value columns)) ps
all_integers columns [] = refl
all_integers columns (p ∷ ps) =
    ap (λ (b : Bool). fits_integer (sort_of_expr p.value columns) && b) (all_integers columns ps)

-- ---- the variants that hold lists

pub knows_or : (columns : List Column) (parts : Vec Expr Global)
    → knows columns (variants.Or parts) ≡ list_all (knows columns) parts.items
knows_or columns parts =
    ap (λ (t : Tree). is_known t columns) (tree_of_or parts) ∙ each_known columns parts.items

pub knows_and : (columns : List Column) (parts : Vec Expr Global)
    → knows columns (variants.And parts) ≡ list_all (knows columns) parts.items
knows_and columns parts =
    ap (λ (t : Tree). is_known t columns) (tree_of_and parts) ∙ each_known columns parts.items

pub knows_sum : (columns : List Column) (first : Box Expr Global) (parts : Vec Part Global)
    → knows columns (variants.Sum first parts)
    ≡ (knows columns first.value && list_all (knows_part columns) parts.items)
knows_sum columns first parts =
    ap (λ (t : Tree). is_known t columns) (tree_of_sum first parts)
    ∙ ap (λ (b : Bool). knows columns first.value && b) (each_part_known columns parts.items)

pub knows_product : (columns : List Column) (first : Box Expr Global) (parts : Vec Part Global)
    → knows columns (variants.Product first parts)
    ≡ (knows columns first.value && list_all (knows_part columns) parts.items)
knows_product columns first parts =
    ap (λ (t : Tree). is_known t columns) (tree_of_product first parts)
    ∙ ap (λ (b : Bool). knows columns first.value && b) (each_part_known columns parts.items)

pub bound_or : (columns : List Column) (parts : Vec Expr Global)
    → bound_expr columns (variants.Or parts)
    ≡ Or (trees_of (map (λ t. bound t columns) (map tree_of parts.items)))
bound_or columns parts =
    ap (λ (t : Tree). bound t columns) (tree_of_or parts)
    ∙ ap (λ (ts : Trees). Or ts) (all_bound columns (map tree_of parts.items))

pub bound_and : (columns : List Column) (parts : Vec Expr Global)
    → bound_expr columns (variants.And parts)
    ≡ And (trees_of (map (λ t. bound t columns) (map tree_of parts.items)))
bound_and columns parts =
    ap (λ (t : Tree). bound t columns) (tree_of_and parts)
    ∙ ap (λ (ts : Trees). And ts) (all_bound columns (map tree_of parts.items))

pub bound_sum : (columns : List Column) (first : Box Expr Global) (parts : Vec Part Global)
    → bound_expr columns (variants.Sum first parts)
    ≡ Sum (bound_expr columns first.value) (parts_of (map (bound_part columns) parts.items))
bound_sum columns first parts =
    ap (λ (t : Tree). bound t columns) (tree_of_sum first parts)
    ∙ ap (λ (ps : Parts). Sum (bound_expr columns first.value) ps)
    (all_parts_bound columns parts.items)

pub bound_product : (columns : List Column) (first : Box Expr Global) (parts : Vec Part Global)
    → bound_expr columns (variants.Product first parts)
    ≡ Product (bound_expr columns first.value) (parts_of (map (bound_part columns) parts.items))
bound_product columns first parts =
    ap (λ (t : Tree). bound t columns) (tree_of_product first parts)
    ∙ ap (λ (ps : Parts). Product (bound_expr columns first.value) ps)
    (all_parts_bound columns parts.items)

pub sort_or : (columns : List Column) (parts : Vec Expr Global)
    → sort_of_expr (variants.Or parts) columns
    ≡ provided (list_all (λ e. fits_truth (sort_of_expr e columns)) parts.items) OfTruths
sort_or columns parts =
    ap (λ (t : Tree). sort_of t columns) (tree_of_or parts)
    ∙ ap (λ (b : Bool). provided b OfTruths) (all_truths columns parts.items)

pub sort_and : (columns : List Column) (parts : Vec Expr Global)
    → sort_of_expr (variants.And parts) columns
    ≡ provided (list_all (λ e. fits_truth (sort_of_expr e columns)) parts.items) OfTruths
sort_and columns parts =
    ap (λ (t : Tree). sort_of t columns) (tree_of_and parts)
    ∙ ap (λ (b : Bool). provided b OfTruths) (all_truths columns parts.items)

pub sort_sum : (columns : List Column) (first : Box Expr Global) (parts : Vec Part Global)
    → sort_of_expr (variants.Sum first parts) columns
    ≡ provided (fits_integer (sort_of_expr first.value columns)
    && list_all (λ p. fits_integer (sort_of_expr p.value columns)) parts.items) OfIntegers
sort_sum columns first parts =
    ap (λ (t : Tree). sort_of t columns) (tree_of_sum first parts)
    ∙ ap (λ (b : Bool). provided (fits_integer (sort_of_expr first.value columns) && b) OfIntegers)
    (all_integers columns parts.items)

pub sort_product : (columns : List Column) (first : Box Expr Global) (parts : Vec Part Global)
    → sort_of_expr (variants.Product first parts) columns
    ≡ provided (fits_integer (sort_of_expr first.value columns)
    && list_all (λ p. fits_integer (sort_of_expr p.value columns)) parts.items) OfIntegers
sort_product columns first parts =
    ap (λ (t : Tree). sort_of t columns) (tree_of_product first parts)
    ∙ ap (λ (b : Bool). provided (fits_integer (sort_of_expr first.value columns) && b) OfIntegers)
    (all_integers columns parts.items)
