-- The text of an expression by its parts.
use Rattle.std.proofs.Common.{◌≡◌, ℕ, zero, suc, ◌<◌, Bool, true, false, List, [], ◌∷◌, ◌++◌, map, refl, sym, ap, ◌∙◌, append_assoc, append-nil, arith, get_or, length, take, if◌then◌else◌}
use Rattle.std.specs.Prelude.{codes}
use Rattle.std.specs.List.{flat_map}
use Rattle.std.specs.declared.alloc.Global.{Global}
use Rattle.std.specs.declared.boxed.Box.{Box}
use Rattle.std.specs.declared.vec.Vec.{Vec}
use Rattle.mg_expr.specs.declared.expr.Expr.{Expr}
use Rattle.mg_expr.specs.declared.expr.Expr.TheVariants as variants
use Rattle.mg_expr.specs.declared.expr.Expr.TheOpen as layer
use Rattle.mg_expr.specs.declared.expr.Expr.TheFolds.{fold-roll-Expr}
use Rattle.mg_expr.specs.declared.expr.Part.{Part}
use Rattle.mg_expr.specs.declared.expr.Sign.{Sign}
use Rattle.mg_expr.specs.Trees.{Tree, tree_of, trees_of, parts_of, part_tree, tree_step, part_step}
use Rattle.mg_expr.specs.TreeLaws.{tree_of_or, tree_of_and, tree_of_sum, tree_of_product}
use Rattle.mg_trace.specs.Trees.{expr_text, exprs_text, more_text, part_text, parts_text, sign_text, tree_text}

-- each further part, one behind the other
pub parts_text_of : (plus minus : List ℕ) (ps : List Part)
    → parts_text plus minus (parts_of (map part_tree ps)) ≡ flat_map (part_text plus minus) ps
parts_text_of plus minus [] = refl
parts_text_of plus minus (p ∷ ps) =
    ap (λ (m : List ℕ). (if p.inverse then minus else plus) ++ (expr_text p.value ++ m)) (parts_text_of plus minus ps)
    ∙ sym (append_assoc (if p.inverse then minus else plus) (expr_text p.value) (flat_map (part_text plus minus) ps))

pub or_text : (e : Expr) (parts : Vec Expr Global) (items : List Expr) → e ≡ variants.Or parts → items ≡ parts.items
    → codes "(" ++ (exprs_text (codes " OR ") items ++ codes ")") ≡ expr_text e
or_text e parts items is same =
    ap (λ (es : List Expr). codes "(" ++ (exprs_text (codes " OR ") es ++ codes ")")) same
    ∙ sym (ap tree_text (tree_of_or parts)) ∙ sym (ap expr_text is)

pub and_text : (e : Expr) (parts : Vec Expr Global) (items : List Expr) → e ≡ variants.And parts → items ≡ parts.items
    → codes "(" ++ (exprs_text (codes " AND ") items ++ codes ")") ≡ expr_text e
and_text e parts items is same =
    ap (λ (es : List Expr). codes "(" ++ (exprs_text (codes " AND ") es ++ codes ")")) same
    ∙ sym (ap tree_text (tree_of_and parts)) ∙ sym (ap expr_text is)

pub sum_text : (e first : Expr) (box : Box Expr Global) (parts : Vec Part Global) (items : List Part) → e ≡ variants.Sum box parts
    → first ≡ box.value → items ≡ parts.items
    → codes "(" ++ (expr_text first ++ (flat_map (part_text (codes " + ") (codes " - ")) items ++ codes ")")) ≡ expr_text e
sum_text e first box parts items is starts same =
    ap (λ (f : Expr). codes "(" ++ (expr_text f ++ (flat_map (part_text (codes " + ") (codes " - ")) items ++ codes ")"))) starts
    ∙ ap (λ (ps : List Part). codes "(" ++ (expr_text box.value ++ (flat_map (part_text (codes " + ") (codes " - ")) ps ++ codes ")"))) same
    ∙ sym (ap (λ (m : List ℕ). codes "(" ++ (expr_text box.value ++ (m ++ codes ")"))) (parts_text_of (codes " + ") (codes " - ") parts.items))
    ∙ sym (ap tree_text (tree_of_sum box parts)) ∙ sym (ap expr_text is)

pub product_text : (e first : Expr) (box : Box Expr Global) (parts : Vec Part Global) (items : List Part) → e ≡ variants.Product box parts
    → first ≡ box.value → items ≡ parts.items
    → codes "(" ++ (expr_text first ++ (flat_map (part_text (codes " * ") (codes " / ")) items ++ codes ")")) ≡ expr_text e
product_text e first box parts items is starts same =
    ap (λ (f : Expr). codes "(" ++ (expr_text f ++ (flat_map (part_text (codes " * ") (codes " / ")) items ++ codes ")"))) starts
    ∙ ap (λ (ps : List Part). codes "(" ++ (expr_text box.value ++ (flat_map (part_text (codes " * ") (codes " / ")) ps ++ codes ")"))) same
    ∙ sym (ap (λ (m : List ℕ). codes "(" ++ (expr_text box.value ++ (m ++ codes ")"))) (parts_text_of (codes " * ") (codes " / ") parts.items))
    ∙ sym (ap tree_text (tree_of_product box parts)) ∙ sym (ap expr_text is)

pub not_text : (e part : Expr) (box : Box Expr Global) → e ≡ variants.Not box → part ≡ box.value
    → codes "(NOT " ++ (expr_text part ++ codes ")") ≡ expr_text e
not_text e part box is same =
    ap (λ (p : Expr). codes "(NOT " ++ (expr_text p ++ codes ")")) same
    ∙ sym (ap tree_text (ap tree_of (sym (variants.rolls-Not box)) ∙ fold-roll-Expr Tree (Bool × Tree) tree_step part_step (layer.Not box)))
    ∙ sym (ap expr_text is)

pub is_null_text : (e part : Expr) (box : Box Expr Global) → e ≡ variants.IsNull box → part ≡ box.value
    → codes "(" ++ (expr_text part ++ codes " IS NULL)") ≡ expr_text e
is_null_text e part box is same =
    ap (λ (p : Expr). codes "(" ++ (expr_text p ++ codes " IS NULL)")) same
    ∙ sym (ap tree_text (ap tree_of (sym (variants.rolls-IsNull box)) ∙ fold-roll-Expr Tree (Bool × Tree) tree_step part_step (layer.IsNull box)))
    ∙ sym (ap expr_text is)

pub is_not_null_text : (e part : Expr) (box : Box Expr Global) → e ≡ variants.IsNotNull box → part ≡ box.value
    → codes "(" ++ (expr_text part ++ codes " IS NOT NULL)") ≡ expr_text e
is_not_null_text e part box is same =
    ap (λ (p : Expr). codes "(" ++ (expr_text p ++ codes " IS NOT NULL)")) same
    ∙ sym (ap tree_text (ap tree_of (sym (variants.rolls-IsNotNull box)) ∙ fold-roll-Expr Tree (Bool × Tree) tree_step part_step (layer.IsNotNull box)))
    ∙ sym (ap expr_text is)

pub minus_text : (e part : Expr) (box : Box Expr Global) → e ≡ variants.Minus box → part ≡ box.value
    → codes "(- " ++ (expr_text part ++ codes ")") ≡ expr_text e
minus_text e part box is same =
    ap (λ (p : Expr). codes "(- " ++ (expr_text p ++ codes ")")) same
    ∙ sym (ap tree_text (ap tree_of (sym (variants.rolls-Minus box)) ∙ fold-roll-Expr Tree (Bool × Tree) tree_step part_step (layer.Minus box)))
    ∙ sym (ap expr_text is)

pub compare_text : (e left right : Expr) (a b : Box Expr Global) (sign : Sign) → e ≡ variants.Compare a sign b
    → left ≡ a.value → right ≡ b.value
    → codes "(" ++ (expr_text left ++ (sign_text sign ++ (expr_text right ++ codes ")"))) ≡ expr_text e
compare_text e left right a b sign is first second =
    ap (λ (l : Expr). codes "(" ++ (expr_text l ++ (sign_text sign ++ (expr_text right ++ codes ")")))) first
    ∙ ap (λ (r : Expr). codes "(" ++ (expr_text a.value ++ (sign_text sign ++ (expr_text r ++ codes ")")))) second
    ∙ sym (ap tree_text (ap tree_of (sym (variants.rolls-Compare a sign b)) ∙ fold-roll-Expr Tree (Bool × Tree) tree_step part_step (layer.Compare a sign b)))
    ∙ sym (ap expr_text is)

-- expressions with a word between neighbours, as a loop lays them: true where one stands before
abbrev pub laid : List ℕ → Bool → List Expr → List ℕ
laid between before [] = []
laid between before (e ∷ es) = (if before then between else []) ++ (expr_text e ++ laid between true es)

more_laid : (between : List ℕ) (es : List Expr) → more_text between (trees_of (map tree_of es)) ≡ laid between true es
more_laid between [] = refl
more_laid between (e ∷ es) = ap (λ (m : List ℕ). between ++ (expr_text e ++ m)) (more_laid between es)

pub exprs_laid : (between : List ℕ) (es : List Expr) → laid between false es ≡ exprs_text between es
exprs_laid between [] = refl
exprs_laid between (e ∷ es) = sym (ap (λ (m : List ℕ). expr_text e ++ m) (more_laid between es))

-- whether one stands before the expression at a place
abbrev pub later : Bool → ℕ → Bool
later before zero = before
later before (suc i) = true

later_still : (i : ℕ) → later true i ≡ true
later_still zero = refl
later_still (suc i) = refl

-- one expression more
pub laid_more : (between : List ℕ) (before : Bool) (es : List Expr) (i : ℕ) (d : Expr) → i < length es
    → laid between before (take (suc i) es)
    ≡ laid between before (take i es) ++ ((if later before i then between else []) ++ expr_text (get_or es i d))
laid_more between before [] i d below = absurd (omega (arith, below))
laid_more between before (e ∷ es) zero d below =
    ap (λ (m : List ℕ). (if before then between else []) ++ m) (append-nil (expr_text e))
laid_more between before (e ∷ es) (suc i) d below =
    let word : List ℕ = if before then between else [] in
    let one : List ℕ = (if later true i then between else []) ++ expr_text (get_or es i d) in
    ap (λ (m : List ℕ). word ++ (expr_text e ++ m)) (laid_more between true es i d (omega (arith, below)))
    ∙ ap (λ (m : List ℕ). word ++ m) (sym (append_assoc (expr_text e) (laid between true (take i es)) one))
    ∙ sym (append_assoc word (expr_text e ++ laid between true (take i es)) one)
    ∙ ap (λ (b : Bool). laid between before (e ∷ take i es) ++ ((if b then between else []) ++ expr_text (get_or es i d)))
    (later_still i)
