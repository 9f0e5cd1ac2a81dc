-- The text of an expression.
use Rattle.std.specs.Prelude.{ℕ, List, [], ◌++◌, codes, decimal, map, Option, Some, None, if◌then◌else◌}
use Rattle.std.specs.Fmt.{signed_decimal}
use Rattle.mg_expr.specs.declared.expr.Expr.{Expr}
use Rattle.mg_expr.specs.declared.expr.Part.{Part}
use Rattle.mg_expr.specs.declared.expr.Sign.{Sign}
use Rattle.mg_expr.specs.declared.expr.Sign.TheVariants as signs
use Rattle.mg_expr.specs.Trees.{Tree, Trees, Parts, tree_of, trees_of}
use Rattle.mg_expr.specs.Trees.{Or, And, Not, Compare, IsNull, IsNotNull, Sum, Product, Minus, Integer, Text, Null, Name, Column, end, also, done, part}
use Rattle.mg_value.specs.Values.{quoted}

-- how two values are compared, with a blank on either side
abbrev pub sign_text : Sign → List ℕ
sign_text signs.Equal = codes " = "
sign_text signs.Unequal = codes " <> "
sign_text signs.Less = codes " < "
sign_text signs.AtMost = codes " <= "
sign_text signs.Greater = codes " > "
sign_text signs.AtLeast = codes " >= "

-- An expression: a compound one in one pair of parentheses, its parts and words with one blank between them.
abbrev mutual
  pub tree_text : Tree → List ℕ
  tree_text (Or ts) = codes "(" ++ (all_text (codes " OR ") ts ++ codes ")")
  tree_text (And ts) = codes "(" ++ (all_text (codes " AND ") ts ++ codes ")")
  tree_text (Not t) = codes "(NOT " ++ (tree_text t ++ codes ")")
  tree_text (Compare a sign b) = codes "(" ++ (tree_text a ++ (sign_text sign ++ (tree_text b ++ codes ")")))
  tree_text (IsNull t) = codes "(" ++ (tree_text t ++ codes " IS NULL)")
  tree_text (IsNotNull t) = codes "(" ++ (tree_text t ++ codes " IS NOT NULL)")
  tree_text (Sum t ps) = codes "(" ++ (tree_text t ++ (parts_text (codes " + ") (codes " - ") ps ++ codes ")"))
  tree_text (Product t ps) = codes "(" ++ (tree_text t ++ (parts_text (codes " * ") (codes " / ") ps ++ codes ")"))
  tree_text (Minus t) = codes "(- " ++ (tree_text t ++ codes ")")
  tree_text (Integer number) = signed_decimal number
  tree_text (Text text) = quoted text
  tree_text Null = codes "NULL"
  tree_text (Name name) = name
  tree_text (Column place) = codes "#" ++ decimal place

  -- expressions with a word between neighbours
  pub all_text : List ℕ → Trees → List ℕ
  all_text between end = []
  all_text between (also t ts) = tree_text t ++ more_text between ts

  -- each behind that word
  pub more_text : List ℕ → Trees → List ℕ
  more_text between end = []
  more_text between (also t ts) = between ++ (tree_text t ++ more_text between ts)

  -- further parts, each behind its symbol: the second where it is subtracted, or divided by
  pub parts_text : List ℕ → List ℕ → Parts → List ℕ
  parts_text plus minus done = []
  parts_text plus minus (part inverse t ps) = (if inverse then minus else plus) ++ (tree_text t ++ parts_text plus minus ps)

-- the same of lists of expressions and of further parts
abbrev pub expr_text : Expr → List ℕ
expr_text e = tree_text (tree_of e)

abbrev pub exprs_text : List ℕ → List Expr → List ℕ
exprs_text between es = all_text between (trees_of (map tree_of es))

abbrev pub part_text : List ℕ → List ℕ → Part → List ℕ
part_text plus minus p = (if p.inverse then minus else plus) ++ expr_text p.value

-- a filter; one that is missing prints as all
abbrev pub filter_text : Option Expr → List ℕ
filter_text None = codes "ALL"
filter_text (Some e) = expr_text e
