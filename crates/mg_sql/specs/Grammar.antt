-- The grammar: which tokens spell which tree. `Expr most n t ts us` says: ts begins with tokens that
-- spell t, and us are those behind them. n is how many levels of parentheses, NOT and minus may be
-- opened.
use Rattle.std.specs.Prelude.{◌≡◌, ℕ, suc, ◌≤◌, pos, Bool, true, false, List, [], ◌∷◌, length, Option, Some, None}
use Rattle.mg_expr.specs.declared.expr.Sign.{Sign}
use Rattle.mg_expr.specs.declared.expr.Sign.TheVariants as signs
use Rattle.mg_expr.specs.Trees.{Tree, Or, And, Not, Compare, IsNull, IsNotNull, Sum, Product, Minus, Integer, Text, Null, Name, Trees, also, Parts, part, trees_of, parts_of}
use Rattle.mg_sql.specs.declared.token.Kind.{Kind}
use Rattle.mg_sql.specs.declared.token.Kind.TheVariants as kinds
use Rattle.mg_sql.specs.Spelling.{capitals, number, quoted}
use Rattle.mg_sql.specs.Tokens.{Token, Takes}

-- how long a name and how great a number may be
pub record Limits : Type 0 where
  pub name : ℕ
  pub number : ℕ

-- one part stands for itself
abbrev pub one_or : (Trees → Tree) → Tree → List Tree → Tree
one_or join t [] = t
one_or join t (u ∷ more) = join (also t (also u (trees_of more)))

abbrev pub one_or_parts : (Tree → Parts → Tree) → Tree → List (Bool × Tree) → Tree
one_or_parts join t [] = t
one_or_parts join t (p ∷ more) = join t (part p.0 p.1 (parts_of more))

-- the signs of comparisons
abbrev pub sign_of : Kind → Option Sign
sign_of kinds.Equal = Some signs.Equal
sign_of kinds.Unequal = Some signs.Unequal
sign_of kinds.Less = Some signs.Less
sign_of kinds.AtMost = Some signs.AtMost
sign_of kinds.Greater = Some signs.Greater
sign_of kinds.AtLeast = Some signs.AtLeast
sign_of _ = None

-- the signs of sums and of products: true where what follows is subtracted, or divided by
abbrev pub adds : Kind → Option Bool
adds kinds.Plus = Some false
adds kinds.Minus = Some true
adds _ = None

abbrev pub multiplies : Kind → Option Bool
multiplies kinds.Star = Some false
multiplies kinds.Slash = Some true
multiplies _ = None

mutual
  -- expr = conj {OR conj}
  pub data Expr (most : Limits) : ℕ → Tree → List Token → List Token → Type 0 where
    expr : {n : ℕ} {t : Tree} {more : List Tree} {ts us vs : List Token}
        → Conj most n t ts us → Ors most n more us vs → Expr most n (one_or Or t more) ts vs

  -- {OR conj}
  pub data Ors (most : Limits) : ℕ → List Tree → List Token → List Token → Type 0 where
    no_or : {n : ℕ} {ts : List Token} → Ors most n [] ts ts
    or : {n : ℕ} {t : Tree} {more : List Tree} {b : List ℕ} {ts us vs ws : List Token}
        → Takes kinds.Or b ts us → Conj most n t us vs → Ors most n more vs ws → Ors most n (t ∷ more) ts ws

  -- conj = neg {AND neg}
  pub data Conj (most : Limits) : ℕ → Tree → List Token → List Token → Type 0 where
    conj : {n : ℕ} {t : Tree} {more : List Tree} {ts us vs : List Token}
        → Neg most n t ts us → Ands most n more us vs → Conj most n (one_or And t more) ts vs

  -- {AND neg}
  pub data Ands (most : Limits) : ℕ → List Tree → List Token → List Token → Type 0 where
    no_and : {n : ℕ} {ts : List Token} → Ands most n [] ts ts
    and : {n : ℕ} {t : Tree} {more : List Tree} {b : List ℕ} {ts us vs ws : List Token}
        → Takes kinds.And b ts us → Neg most n t us vs → Ands most n more vs ws → Ands most n (t ∷ more) ts ws

  -- neg = NOT neg | test
  pub data Neg (most : Limits) : ℕ → Tree → List Token → List Token → Type 0 where
    not : {n : ℕ} {t : Tree} {b : List ℕ} {ts us vs : List Token}
        → Takes kinds.Not b ts us → Neg most n t us vs → Neg most (suc n) (Not t) ts vs
    test : {n : ℕ} {t : Tree} {ts us : List Token} → Test most n t ts us → Neg most n t ts us

  -- test = sum [("=" | "<>" | "<" | "<=" | ">" | ">=") sum | IS [NOT] NULL]
  pub data Test (most : Limits) : ℕ → Tree → List Token → List Token → Type 0 where
    test_ : {n : ℕ} {a t : Tree} {ts us vs : List Token} → Sums most n a ts us → Tested most n a t us vs → Test most n t ts vs

  -- what may stand behind the sum a, and the tree t that it makes of it
  pub data Tested (most : Limits) : ℕ → Tree → Tree → List Token → List Token → Type 0 where
    alone : {n : ℕ} {a : Tree} {ts : List Token} → Tested most n a a ts ts
    compare : {n : ℕ} {a t : Tree} {k : Kind} {b : List ℕ} {sign : Sign} {ts us vs : List Token}
        → Takes k b ts us → sign_of k ≡ Some sign → Sums most n t us vs → Tested most n a (Compare a sign t) ts vs
    is_null : {n : ℕ} {a : Tree} {b c : List ℕ} {ts us vs : List Token}
        → Takes kinds.Is b ts us → Takes kinds.Null c us vs → Tested most n a (IsNull a) ts vs
    is_not_null : {n : ℕ} {a : Tree} {b c d : List ℕ} {ts us vs ws : List Token}
        → Takes kinds.Is b ts us → Takes kinds.Not c us vs → Takes kinds.Null d vs ws
        → Tested most n a (IsNotNull a) ts ws

  -- sum = term {("+" | "-") term}
  pub data Sums (most : Limits) : ℕ → Tree → List Token → List Token → Type 0 where
    sum : {n : ℕ} {t : Tree} {more : List (Bool × Tree)} {ts us vs : List Token}
        → Term most n t ts us → Adds most n more us vs → Sums most n (one_or_parts Sum t more) ts vs

  -- {("+" | "-") term}
  pub data Adds (most : Limits) : ℕ → List (Bool × Tree) → List Token → List Token → Type 0 where
    no_add : {n : ℕ} {ts : List Token} → Adds most n [] ts ts
    add : {n : ℕ} {t : Tree} {k : Kind} {inverse : Bool} {more : List (Bool × Tree)} {b : List ℕ} {ts us vs ws : List Token}
        → Takes k b ts us → adds k ≡ Some inverse → Term most n t us vs → Adds most n more vs ws
        → Adds most n ((inverse, t) ∷ more) ts ws

  -- term = factor {("*" | "/") factor}
  pub data Term (most : Limits) : ℕ → Tree → List Token → List Token → Type 0 where
    term : {n : ℕ} {t : Tree} {more : List (Bool × Tree)} {ts us vs : List Token}
        → Factor most n t ts us → Times most n more us vs → Term most n (one_or_parts Product t more) ts vs

  -- {("*" | "/") factor}
  pub data Times (most : Limits) : ℕ → List (Bool × Tree) → List Token → List Token → Type 0 where
    no_time : {n : ℕ} {ts : List Token} → Times most n [] ts ts
    time : {n : ℕ} {t : Tree} {k : Kind} {inverse : Bool} {more : List (Bool × Tree)} {b : List ℕ} {ts us vs ws : List Token}
        → Takes k b ts us → multiplies k ≡ Some inverse → Factor most n t us vs → Times most n more vs ws
        → Times most n ((inverse, t) ∷ more) ts ws

  -- factor = "-" factor | "(" expr ")" | integer | text | NULL | name
  pub data Factor (most : Limits) : ℕ → Tree → List Token → List Token → Type 0 where
    minus : {n : ℕ} {t : Tree} {b : List ℕ} {ts us vs : List Token}
        → Takes kinds.Minus b ts us → Factor most n t us vs → Factor most (suc n) (Minus t) ts vs
    parens : {n : ℕ} {t : Tree} {b c : List ℕ} {ts us vs ws : List Token}
        → Takes kinds.Open b ts us → Expr most n t us vs → Takes kinds.Close c vs ws → Factor most (suc n) t ts ws
    integer : {n : ℕ} {digits : List ℕ} {ts us : List Token}
        → Takes kinds.Integer digits ts us → number digits ≤ most.number → Factor most n (Integer (pos (number digits))) ts us
    text : {n : ℕ} {value : List ℕ} {ts us : List Token} → Takes kinds.Text (quoted value) ts us → Factor most n (Text value) ts us
    null : {n : ℕ} {b : List ℕ} {ts us : List Token} → Takes kinds.Null b ts us → Factor most n Null ts us
    name : {n : ℕ} {word : List ℕ} {ts us : List Token}
        → Takes kinds.Name word ts us → length word ≤ most.name → Factor most n (Name (capitals word)) ts us
