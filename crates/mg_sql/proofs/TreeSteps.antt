-- The trees of expressions that the parser makes.
use Rattle.std.proofs.Common.{◌≡◌, ℕ, ℤ, Bool, List, [], ◌∷◌, ◌++◌, map, refl, sym, ◌∙◌, ap, subst}
use Rattle.std.specs.declared.alloc.Global.{Global}
use Rattle.std.specs.declared.boxed.Box.{Box}
use Rattle.std.specs.declared.vec.Vec.{Vec}
use Rattle.mg_expr.specs.declared.expr.Expr.{Expr}
use Rattle.mg_expr.specs.declared.expr.Part.{Part, roll-Part}
use Rattle.mg_expr.specs.declared.expr.Expr.TheVariants as variants
use Rattle.mg_expr.specs.declared.expr.Expr.TheOpen as layer
use Rattle.mg_expr.specs.declared.expr.Expr.TheFolds.{fold-roll-Expr}
use Rattle.mg_expr.specs.declared.expr.Sign.{Sign}
use Rattle.mg_expr.specs.Trees.{Tree, Trees, Or, And, Not, Compare, IsNull, IsNotNull, Minus, Integer, Text, Null, Name, tree_of, part_tree, tree_step, part_step, trees_of, also, end}
use Rattle.mg_expr.specs.TreeLaws.{tree_of_or, tree_of_and}
use Rattle.mg_sql.specs.Grammar.{one_or}

pub tree_of_minus : (e : Box Expr Global) → tree_of (variants.Minus e) ≡ Minus (tree_of e.value)
tree_of_minus e = ap tree_of (sym (variants.rolls-Minus e)) ∙ fold-roll-Expr Tree (Bool × Tree) tree_step part_step (layer.Minus e)

pub tree_of_not : (e : Box Expr Global) → tree_of (variants.Not e) ≡ Not (tree_of e.value)
tree_of_not e = ap tree_of (sym (variants.rolls-Not e)) ∙ fold-roll-Expr Tree (Bool × Tree) tree_step part_step (layer.Not e)

pub tree_of_is_null : (e : Box Expr Global) → tree_of (variants.IsNull e) ≡ IsNull (tree_of e.value)
tree_of_is_null e = ap tree_of (sym (variants.rolls-IsNull e)) ∙ fold-roll-Expr Tree (Bool × Tree) tree_step part_step (layer.IsNull e)

pub tree_of_is_not_null : (e : Box Expr Global) → tree_of (variants.IsNotNull e) ≡ IsNotNull (tree_of e.value)
tree_of_is_not_null e = ap tree_of (sym (variants.rolls-IsNotNull e)) ∙ fold-roll-Expr Tree (Bool × Tree) tree_step part_step (layer.IsNotNull e)

pub tree_of_compare : (a : Box Expr Global) (s : Sign) (b : Box Expr Global) → tree_of (variants.Compare a s b) ≡ Compare (tree_of a.value) s (tree_of b.value)
tree_of_compare a s b = ap tree_of (sym (variants.rolls-Compare a s b)) ∙ fold-roll-Expr Tree (Bool × Tree) tree_step part_step (layer.Compare a s b)

pub tree_of_null : tree_of variants.Null ≡ Null
tree_of_null = ap tree_of (sym variants.rolls-Null) ∙ fold-roll-Expr Tree (Bool × Tree) tree_step part_step layer.Null

pub tree_of_integer : (z : ℤ) → tree_of (variants.Integer z) ≡ Integer z
tree_of_integer z = ap tree_of (sym (variants.rolls-Integer z)) ∙ fold-roll-Expr Tree (Bool × Tree) tree_step part_step (layer.Integer z)

pub tree_of_text : (t : List ℕ) → tree_of (variants.Text t) ≡ Text t
tree_of_text t = ap tree_of (sym (variants.rolls-Text t)) ∙ fold-roll-Expr Tree (Bool × Tree) tree_step part_step (layer.Text t)

pub tree_of_name : (t : List ℕ) → tree_of (variants.Name t) ≡ Name t
tree_of_name t = ap tree_of (sym (variants.rolls-Name t)) ∙ fold-roll-Expr Tree (Bool × Tree) tree_step part_step (layer.Name t)

pub first_part : (xs ys : List Expr) (e : Expr) → ys ≡ xs ++ e ∷ [] → xs ≡ [] → map tree_of ys ≡ tree_of e ∷ []
first_part xs ys e is empty = ap (map tree_of) is ∙ ap (λ zs. map tree_of (zs ++ e ∷ [])) empty

map_snoc : {A B : Type 0} (f : A → B) (xs : List A) (x : A) → map f (xs ++ x ∷ []) ≡ map f xs ++ f x ∷ []
map_snoc f [] x = refl
map_snoc f (y ∷ xs) x = ap (λ zs. f y ∷ zs) (map_snoc f xs x)

pub more_parts : (xs ys : List Expr) (e : Expr) (t : Tree) (ts : List Tree) → ys ≡ xs ++ e ∷ [] → map tree_of xs ≡ t ∷ ts → map tree_of ys ≡ t ∷ (ts ++ tree_of e ∷ [])
more_parts xs ys e t ts is parts = ap (map tree_of) is ∙ map_snoc tree_of xs e ∙ ap (λ zs. zs ++ tree_of e ∷ []) parts

pub more_signed : (xs ys : List Part) (inverse : Bool) (e : Expr) → ys ≡ xs ++ roll-Part (record { inverse = inverse; value = e }) ∷ [] → map part_tree ys ≡ map part_tree xs ++ (inverse, tree_of e) ∷ []
more_signed xs ys inverse e is = ap (map part_tree) is ∙ map_snoc part_tree xs (roll-Part (record { inverse = inverse; value = e }))

pub not_nil : {A : Type 0} (xs : List A) (x : A) → xs ++ x ∷ [] ≡ [] → ⊥
not_nil [] x h = absurd cc
not_nil (y ∷ xs) x h = absurd cc

several : (join : Trees → Tree) (t : Tree) (ts : List Tree) → (ts ≡ [] → ⊥) → one_or join t ts ≡ join (trees_of (t ∷ ts))
several join t [] some = absurd (some refl)
several join t (u ∷ ts) some = refl

pub and_tree : (parts : Vec Expr Global) (t : Tree) (ts : List Tree) → map tree_of parts.items ≡ t ∷ ts → (ts ≡ [] → ⊥) → one_or And t ts ≡ tree_of (variants.And parts)
and_tree parts t ts is some = several And t ts some ∙ ap (λ xs. And (trees_of xs)) (sym is) ∙ sym (tree_of_and parts)

pub or_tree : (parts : Vec Expr Global) (t : Tree) (ts : List Tree) → map tree_of parts.items ≡ t ∷ ts → (ts ≡ [] → ⊥) → one_or Or t ts ≡ tree_of (variants.Or parts)
or_tree parts t ts is some = several Or t ts some ∙ ap (λ xs. Or (trees_of xs)) (sym is) ∙ sym (tree_of_or parts)
