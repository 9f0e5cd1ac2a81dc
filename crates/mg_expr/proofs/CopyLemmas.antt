-- Copies of expressions that hold lists have the same tree.
use Rattle.std.proofs.Common.{◌≡◌, ℕ, ◌+◌, ◌<◌, Bool, List, [], ◌∷◌, ◌++◌, length, get_or, take, map, ap, sym, ◌∙◌, Result, Ok, Err}
use Rattle.std.proofs.lemmas.List.{map_more, map_push}
use Rattle.std.proofs.lemmas.Bool.{false≢true}
use Rattle.std.specs.Result.{IsErr, IfOk}
use Rattle.std.specs.declared.alloc.Global.{Global}
use Rattle.std.specs.declared.boxed.Box.{Box}
use Rattle.std.specs.declared.vec.Vec.{Vec}
use Rattle.mg_expr.specs.declared.expr.Expr.{Expr}
use Rattle.mg_expr.specs.declared.expr.Expr.TheVariants as variants
use Rattle.mg_expr.specs.declared.expr.Expr.TheOpen as layer
use Rattle.mg_expr.specs.declared.expr.Expr.TheFolds.{fold-roll-Expr}
use Rattle.mg_expr.specs.declared.expr.Part.{Part}
use Rattle.mg_expr.specs.declared.expr.Sign.{Sign}
use Rattle.mg_expr.specs.Trees.{Tree, Or, And, Not, Compare, IsNull, IsNotNull, Sum, Product, Minus, tree_of, part_tree, trees_of, parts_of, tree_step, part_step}
use Rattle.mg_expr.specs.TreeLaws.{tree_of_or, tree_of_and, tree_of_sum, tree_of_product}

pub or_copied : (e : Expr) (parts copied : Vec Expr Global) (items : List Expr) → e ≡ variants.Or parts → items ≡ parts.items → map tree_of copied.items ≡ map tree_of items → tree_of (variants.Or copied) ≡ tree_of e
or_copied e parts copied items is same equal =
    tree_of_or copied ∙ ap (λ (ts : List Tree). Or (trees_of ts)) (equal ∙ ap (map tree_of) same) ∙ sym (tree_of_or parts) ∙ sym (ap tree_of is)

pub and_copied : (e : Expr) (parts copied : Vec Expr Global) (items : List Expr) → e ≡ variants.And parts → items ≡ parts.items → map tree_of copied.items ≡ map tree_of items → tree_of (variants.And copied) ≡ tree_of e
and_copied e parts copied items is same equal =
    tree_of_and copied ∙ ap (λ (ts : List Tree). And (trees_of ts)) (equal ∙ ap (map tree_of) same) ∙ sym (tree_of_and parts) ∙ sym (ap tree_of is)

pub sum_copied : (e start : Expr) (first other : Box Expr Global) (parts copied : Vec Part Global) (items : List Part) → e ≡ variants.Sum first parts → items ≡ parts.items → start ≡ first.value → tree_of other.value ≡ tree_of start → map part_tree copied.items ≡ map part_tree items → tree_of (variants.Sum other copied) ≡ tree_of e
sum_copied e start first other parts copied items is same starts begins equal =
    tree_of_sum other copied ∙ ap (λ (t : Tree). Sum t (parts_of (map part_tree copied.items))) (begins ∙ ap tree_of starts) ∙ ap (λ (ps : List (Bool × Tree)). Sum (tree_of first.value) (parts_of ps)) (equal ∙ ap (map part_tree) same) ∙ sym (tree_of_sum first parts) ∙ sym (ap tree_of is)

pub product_copied : (e start : Expr) (first other : Box Expr Global) (parts copied : Vec Part Global) (items : List Part) → e ≡ variants.Product first parts → items ≡ parts.items → start ≡ first.value → tree_of other.value ≡ tree_of start → map part_tree copied.items ≡ map part_tree items → tree_of (variants.Product other copied) ≡ tree_of e
product_copied e start first other parts copied items is same starts begins equal =
    tree_of_product other copied ∙ ap (λ (t : Tree). Product t (parts_of (map part_tree copied.items))) (begins ∙ ap tree_of starts) ∙ ap (λ (ps : List (Bool × Tree)). Product (tree_of first.value) (parts_of ps)) (equal ∙ ap (map part_tree) same) ∙ sym (tree_of_product first parts) ∙ sym (ap tree_of is)

pub tree_of_not : (part : Box Expr Global) → tree_of (variants.Not part) ≡ Not (tree_of part.value)
tree_of_not part = ap tree_of (sym (variants.rolls-Not part)) ∙ fold-roll-Expr Tree (Bool × Tree) tree_step part_step (layer.Not part)

pub not_copied : (e start : Expr) (part copied : Box Expr Global) → e ≡ variants.Not part → start ≡ part.value → tree_of copied.value ≡ tree_of start → tree_of (variants.Not copied) ≡ tree_of e
not_copied e start part copied is same equal =
    tree_of_not copied ∙ ap Not (equal ∙ ap tree_of same) ∙ sym (tree_of_not part) ∙ sym (ap tree_of is)

pub tree_of_is_null : (part : Box Expr Global) → tree_of (variants.IsNull part) ≡ IsNull (tree_of part.value)
tree_of_is_null part = ap tree_of (sym (variants.rolls-IsNull part)) ∙ fold-roll-Expr Tree (Bool × Tree) tree_step part_step (layer.IsNull part)

pub is_null_copied : (e start : Expr) (part copied : Box Expr Global) → e ≡ variants.IsNull part → start ≡ part.value → tree_of copied.value ≡ tree_of start → tree_of (variants.IsNull copied) ≡ tree_of e
is_null_copied e start part copied is same equal =
    tree_of_is_null copied ∙ ap IsNull (equal ∙ ap tree_of same) ∙ sym (tree_of_is_null part) ∙ sym (ap tree_of is)

pub tree_of_is_not_null : (part : Box Expr Global) → tree_of (variants.IsNotNull part) ≡ IsNotNull (tree_of part.value)
tree_of_is_not_null part = ap tree_of (sym (variants.rolls-IsNotNull part)) ∙ fold-roll-Expr Tree (Bool × Tree) tree_step part_step (layer.IsNotNull part)

pub is_not_null_copied : (e start : Expr) (part copied : Box Expr Global) → e ≡ variants.IsNotNull part → start ≡ part.value → tree_of copied.value ≡ tree_of start → tree_of (variants.IsNotNull copied) ≡ tree_of e
is_not_null_copied e start part copied is same equal =
    tree_of_is_not_null copied ∙ ap IsNotNull (equal ∙ ap tree_of same) ∙ sym (tree_of_is_not_null part) ∙ sym (ap tree_of is)

pub tree_of_minus : (part : Box Expr Global) → tree_of (variants.Minus part) ≡ Minus (tree_of part.value)
tree_of_minus part = ap tree_of (sym (variants.rolls-Minus part)) ∙ fold-roll-Expr Tree (Bool × Tree) tree_step part_step (layer.Minus part)

pub minus_copied : (e start : Expr) (part copied : Box Expr Global) → e ≡ variants.Minus part → start ≡ part.value → tree_of copied.value ≡ tree_of start → tree_of (variants.Minus copied) ≡ tree_of e
minus_copied e start part copied is same equal =
    tree_of_minus copied ∙ ap Minus (equal ∙ ap tree_of same) ∙ sym (tree_of_minus part) ∙ sym (ap tree_of is)

pub tree_of_compare : (a : Box Expr Global) (sign : Sign) (b : Box Expr Global) → tree_of (variants.Compare a sign b)
    ≡ Compare (tree_of a.value) sign (tree_of b.value)
tree_of_compare a sign b = ap tree_of (sym (variants.rolls-Compare a sign b)) ∙ fold-roll-Expr Tree (Bool × Tree) tree_step part_step (layer.Compare a sign b)

pub compare_copied : (e left right : Expr) (a b first second : Box Expr Global) (sign : Sign) → e ≡ variants.Compare a sign b → left ≡ a.value → right ≡ b.value → tree_of first.value ≡ tree_of left → tree_of second.value ≡ tree_of right → tree_of (variants.Compare first sign second) ≡ tree_of e
compare_copied e left right a b first second sign is same other equal alike =
    tree_of_compare first sign second ∙ ap (λ (t : Tree). Compare t sign (tree_of second.value)) (equal ∙ ap tree_of same) ∙ ap (λ (t : Tree). Compare (tree_of a.value) sign t) (alike ∙ ap tree_of other) ∙ sym (tree_of_compare a sign b) ∙ sym (ap tree_of is)

-- an error has no copy
pub none_copied : {T E : Type 0} (P : T → Type 0) (result : Result T E) → IsErr result → IfOk result P
none_copied P (Ok x) is = absurd (false≢true is)
none_copied P (Err e) is = tt

-- one copy more
pub one_copied : {X Y : Type 0} (f : X → Y) (parts copied new : List X) (i : ℕ) (item copy : X) → i < length parts
    → item ≡ get_or parts i item → map f copied ≡ map f (take i parts) → f copy ≡ f item
    → new ≡ copied ++ copy ∷ [] → map f new ≡ map f (take (i + 1) parts)
one_copied {Y = Y} f parts copied new i item copy below is before equal put =
    ap (map f) put ∙ map_push f copied copy ∙ ap (λ (ys : List Y). ys ++ f copy ∷ []) before
    ∙ ap (λ (y : Y). map f (take i parts) ++ y ∷ []) (equal ∙ ap f is) ∙ sym (map_more f parts i item below)
