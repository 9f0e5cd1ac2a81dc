-- What a factor and a test say of the parts that functions of their own read.
use Rattle.std.proofs.Common.{◌≡◌, ◌≢◌, ℕ, ◌<◌, ◌≤◌, Bool, true, false, List, [], ◌∷◌, Some, Result, Ok, Err, refl, sym, ◌∙◌, ap, subst}
use Rattle.mg_expr.specs.declared.expr.Expr.{Expr}
use Rattle.mg_expr.specs.declared.expr.Sign.{Sign}
use Rattle.mg_expr.specs.Trees.{Tree, Compare, tree_of}
use Rattle.mg_statements.specs.declared.fault.SqlFault.{SqlFault}
use Rattle.mg_sql.specs.declared.token.Kind.{Kind}
use Rattle.mg_sql.specs.declared.token.Kind.TheVariants as kinds
use Rattle.mg_sql.specs.declared.parser.Parser.{Parser}
use Rattle.mg_sql.specs.Lexing.{Lexes}
use Rattle.mg_sql.specs.Grammar.{Sums, Test, sign_of}
use Rattle.mg_sql.specs.Ends.{Ends, binds}
use Rattle.mg_sql.specs.Parting.{IsBare, asked_tree}
use Rattle.mg_sql.specs.Reading.{EndsTest, Expects, Keeps, Reads, Takes_, Told, ahead}
use Rattle.mg_sql.proofs.ExprParts as parts
use Rattle.mg_sql.proofs.Refusing.{fails}
use Rattle.mg_sql.proofs.Steps.{kept_on, moved_reads, moved_refuses, one_read, syntax_told}

-- a token that opens no level

pub is_bare : (k : Kind) → (k ≡ kinds.Minus → ⊥) → (k ≡ kinds.Open → ⊥) → IsBare k
is_bare kinds.Minus a b = a refl
is_bare kinds.Open a b = b refl
is_bare _ a b = tt

pub no_minus : (k : Kind) → IsBare k → k ≡ kinds.Minus → ⊥
no_minus k bare same = subst (λ k. IsBare k) same bare

pub no_open : (k : Kind) → IsBare k → k ≡ kinds.Open → ⊥
no_open k bare same = subst (λ k. IsBare k) same bare

-- IS [NOT] NULL behind a sum

-- IS, and NOT where it stands there, are read behind a sum
abbrev pub AsksSoFar : ℕ → Tree → Parser → Parser → Bool → Type 0
AsksSoFar n t start new true = Reads parts.AskingNot n t start.text.now start.at new.at
AsksSoFar n t start new false = Reads parts.Asking n t start.text.now start.at new.at × (new.kind ≢ kinds.Not)

pub asks_so_far : (n : ℕ) (t : Tree) (start old mid new : Parser) → Keeps start old → Reads Sums n t start.text.now start.at old.at
    → old.kind ≡ kinds.Is → Keeps old mid → Lexes old.text.now old.at (ahead old ∷ []) mid.at
    → (not : Bool) → Takes_ kinds.Not mid new not → AsksSoFar n t start new not
asks_so_far n t start old mid new kept_first first is kept_is lexes true told =
    parts.asking_not_read (parts.asking_read first (moved_reads start old kept_first (one_read old mid n is lexes)))
    (moved_reads start mid (kept_on start old mid kept_first kept_is) (one_read mid new n told.0 told.1))
asks_so_far n t start old mid new kept_first first is kept_is lexes false told = (
  subst (λ q. Reads parts.Asking n t start.text.now start.at q.at) (sym told.1)
      (parts.asking_read first (moved_reads start old kept_first (one_read old mid n is lexes))),
  λ is_not. told.0 (ap (λ q. q.kind) (sym told.1) ∙ is_not),
)

-- no NULL stands behind them
pub asks_wrong : (n : ℕ) (t : Tree) (start old new : Parser) (not : Bool) → AsksSoFar n t start old not
    → (fault : SqlFault) → Expects kinds.Null old new (Err fault) → Told (asked_tree t) Test 3 n start new (Err fault)
asks_wrong n t start old new true asks fault told =
    subst (λ q. Told (asked_tree t) Test 3 n start q (Err fault)) (sym told.2)
    (syntax_told (asked_tree t) Test 3 n start old fault told.0 (parts.is_not_refuses asks told.1))
asks_wrong n t start old new false asks fault told =
    subst (λ q. Told (asked_tree t) Test 3 n start q (Err fault)) (sym told.2)
    (syntax_told (asked_tree t) Test 3 n start old fault told.0 (parts.is_refuses asks.0 told.1 asks.1))

-- a token that would go on with the test stands behind NULL
pub asked_on : (n : ℕ) (t : Tree) (start old new : Parser) (not : Bool) → AsksSoFar n t start old not → Keeps start old
    → old.kind ≡ kinds.Null → Lexes old.text.now old.at (ahead old ∷ []) new.at
    → (fault : SqlFault) → EndsTest new (Err fault) → Told (asked_tree t) Test 3 n start new (Err fault)
asked_on n t start old new true asks kept_old is lexes fault ends =
    syntax_told (asked_tree t) Test 3 n start new fault ends.0
    (parts.asked_not_refuses (parts.asked_not_read asks (moved_reads start old kept_old (one_read old new n is lexes))) ends.1)
asked_on n t start old new false asks kept_old is lexes fault ends =
    syntax_told (asked_tree t) Test 3 n start new fault ends.0
    (parts.asked_refuses (parts.asked_read asks.0 (moved_reads start old kept_old (one_read old new n is lexes))) ends.1)

pub asked_read : (n : ℕ) (t : Tree) (start old new : Parser) (not : Bool) → AsksSoFar n t start old not → Keeps start old
    → old.kind ≡ kinds.Null → Lexes old.text.now old.at (ahead old ∷ []) new.at
    → Reads Test n (asked_tree t not) start.text.now start.at new.at
asked_read n t start old new true asks kept_old is lexes =
    parts.is_not_null_read asks (moved_reads start old kept_old (one_read old new n is lexes))
asked_read n t start old new false asks kept_old is lexes =
    parts.is_null_read asks.0 (moved_reads start old kept_old (one_read old new n is lexes))

-- the sign and the second sum of a comparison

module _ (n : ℕ) (t : Tree) (sign : Sign) (start old mid new : Parser) (is : sign_of old.kind ≡ Some sign) (kept_first : Keeps start old)
    (first : Reads Sums n t start.text.now start.at old.at) (kept_sign : Keeps old mid)
    (lexes : Lexes old.text.now old.at (ahead old ∷ []) mid.at) where
  kept_mid : Keeps start mid
  kept_mid = kept_on start old mid kept_first kept_sign

  comparing : Reads parts.Comparing n (t, sign) start.text.now start.at mid.at
  comparing = parts.compare_sign is first (moved_reads start old kept_first (one_read old mid n refl lexes))

  pub second_fails : (fault : SqlFault) → Told tree_of Sums 4 n mid new (Err fault)
      → Told (λ (e : Expr). Compare t sign (tree_of e)) Test 3 n start new (Err fault)
  second_fails fault told =
      fails tree_of (λ (e : Expr). Compare t sign (tree_of e)) Sums Test 4 3 n n start mid new
      (λ always r. parts.compare_refuses comparing (moved_refuses start mid kept_mid r)) fault told

  pub second_on : (u : Tree) → Reads Sums n u mid.text.now mid.at new.at → binds new.kind < 4
      → (fault : SqlFault) → EndsTest new (Err fault) → Told (λ (e : Expr). Compare t sign (tree_of e)) Test 3 n start new (Err fault)
  second_on u read low fault ends =
      syntax_told (λ (e : Expr). Compare t sign (tree_of e)) Test 3 n start new fault ends.0
      (parts.compared_refuses (parts.compared_read comparing (moved_reads start mid kept_mid read)) low ends.1)

  pub second_read : (u : Tree) → Reads Sums n u mid.text.now mid.at new.at → Reads Test n (Compare t sign u) start.text.now start.at new.at
  second_read u read = parts.compare_read comparing (moved_reads start mid kept_mid read)
