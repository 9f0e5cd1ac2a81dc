-- What the functions say that read a part of a factor or of a test.
use Rattle.std.specs.Prelude.{Bool, true, false}
use Rattle.mg_expr.specs.Trees.{Tree, IsNull, IsNotNull}
use Rattle.mg_sql.specs.declared.token.Kind.{Kind}
use Rattle.mg_sql.specs.declared.token.Kind.TheVariants as kinds

-- no token that opens a level of an expression
abbrev pub IsBare : Kind → Type 0
IsBare kinds.Minus = ⊥
IsBare kinds.Open = ⊥
IsBare kind = Unit {0}

-- the test whether an expression is NULL, or, with NOT, whether it is not
abbrev pub asked_tree : Tree → Bool → Tree
asked_tree first false = IsNull first
asked_tree first true = IsNotNull first
