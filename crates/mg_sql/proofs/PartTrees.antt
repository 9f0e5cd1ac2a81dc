-- The tree of a first part and the parts behind it, if there are any.
use Rattle.std.proofs.Common.{◌≡◌, ℕ, Bool, List, [], ◌∷◌, map, length, refl, sym, ◌∙◌, ap, subst, arith, false, true}
use Rattle.std.proofs.Common.{eq-eqb}
use Rattle.std.proofs.lemmas.Bool.{eqb-true}
use Rattle.std.proofs.lemmas.List.{nil_from_length}
use Rattle.std.specs.Prelude.{◌==◌}
use Rattle.mg_expr.specs.declared.expr.Part.{Part}
use Rattle.mg_expr.specs.Trees.{Tree, Parts, part_tree, parts_of}
use Rattle.mg_sql.specs.Grammar.{one_or_parts}

-- the first part alone
pub first_alone : (join : Tree → Parts → Tree) (t : Tree) (parts : List Part) (n : ℕ)
    → n ≡ length parts → (n == 0) ≡ true → t ≡ one_or_parts join t (map part_tree parts)
first_alone join t parts n counted none =
    subst (λ (ps : List Part). t ≡ one_or_parts join t (map part_tree ps))
    (sym (nil_from_length parts (sym counted ∙ eqb-true n 0 none))) refl

some_joined : (join : Tree → Parts → Tree) (t : Tree) (parts : List Part)
    → (length parts ≡ 0 → ⊥) → join t (parts_of (map part_tree parts)) ≡ one_or_parts join t (map part_tree parts)
some_joined join t [] some = absurd (some refl)
some_joined join t (p ∷ ps) some = refl

zero_is : (n : ℕ) → (n == 0) ≡ false → n ≡ 0 → ⊥
zero_is n none zero = let h = sym none ∙ eq-eqb n 0 zero in cc

-- the first part with others behind it
pub first_joined : (join : Tree → Parts → Tree) (t u made : Tree) (parts : List Part) (n : ℕ)
    → n ≡ length parts → (n == 0) ≡ false → made ≡ join u (parts_of (map part_tree parts)) → u ≡ t
    → made ≡ one_or_parts join t (map part_tree parts)
first_joined join t u made parts n counted some is first =
    is ∙ ap (λ (x : Tree). join x (parts_of (map part_tree parts))) first
    ∙ some_joined join t parts (λ none. zero_is n some (counted ∙ none))
