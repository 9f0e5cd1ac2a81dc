-- What a function says that reads the next part of a statement.
use Rattle.std.specs.Prelude.{◌≡◌, ℕ, ◌≤◌, Bool, true, false, ◌&&◌, List, [], ◌∷◌, ◌++◌, Result, Ok, Err}
use Rattle.mg_statements.specs.declared.fault.SqlFault.{SqlFault}
use Rattle.mg_sql.specs.declared.token.Kind.{Kind}
use Rattle.mg_sql.specs.declared.token.Kind.TheVariants as kinds
use Rattle.mg_sql.specs.declared.parser.Parser.{Parser}
use Rattle.mg_sql.specs.declared.parts.TheConstants.{LEVELS}
use Rattle.mg_sql.specs.Tokens.{Token}
use Rattle.mg_sql.specs.Lexing.{Lexes}
use Rattle.mg_sql.specs.Grammar.{Limits}
use Rattle.mg_sql.specs.Ends.{kind_in}
use Rattle.mg_statements.specs.Plain.{Plain}
use Rattle.mg_sql.specs.Statements.{Rest, finish, word, either, name, size, expression, list, Item, expressions, totals, Spells}
use Rattle.mg_sql.specs.Reading.{the_limits, Allows, Keeps, Fails}

-- the tokens that may stand behind a list, and behind an item of one
abbrev pub behind_list : Kind → Bool
behind_list kinds.Close = true
behind_list kinds.From = true
behind_list kinds.Where = true
behind_list kinds.Order = true
behind_list kinds.Semicolon = true
behind_list kinds.End = true
behind_list _ = false

abbrev pub behind_item : Kind → Bool
behind_item kinds.Comma = true
behind_item k = behind_list k

abbrev pub all_in : (Kind → Bool) → List Kind → Bool
all_in test [] = true
all_in test (k ∷ ks) = test k && all_in test ks

-- the tokens with which an expression begins, and an item
abbrev pub expression_opens : List Kind
expression_opens = kinds.Not ∷ kinds.Minus ∷ kinds.Open ∷ kinds.Integer ∷ kinds.Text ∷ kinds.Null ∷ kinds.Name ∷ []

abbrev pub item_opens : Item → List Kind
item_opens (expressions within) = expression_opens
item_opens totals = kinds.Count ∷ kinds.Sum ∷ []
item_opens _ = kinds.Name ∷ []

-- each token with which it may begin passes the test
abbrev pub begins_in : (Kind → Bool) → Rest → Bool
begins_in test (finish s) = all_in test (kinds.Semicolon ∷ kinds.End ∷ [])
begins_in test (word k r) = test k
begins_in test (either r q) = begins_in test r && begins_in test q
begins_in test (name then_) = test kinds.Name
begins_in test (size then_) = test kinds.Integer
begins_in test (expression within then_) = all_in test expression_opens
begins_in test (list i then_) = all_in test (item_opens i)

-- it does not begin with a token of this kind
abbrev pub Never : Rest → Kind → Type 0
Never r k = (most : Limits) (n : ℕ) (s : Plain) (ts us : List Token) → Spells most n r s ts us → kind_in ts ≡ k → ⊥

-- the rest as a rule of the grammar
abbrev pub Spelled : Rest → Limits → ℕ → Plain → List Token → List Token → Type 0
Spelled r most n s ts us = Spells most n r s ts us

-- Tokens were read from one place to another: what may stand behind them, where one rest is to come,
-- is the other one.
pub record Derives (r q : Rest) (old new : Parser) : Type 0 where
  pub keeps : Keeps old new
  pub front : List Token
  pub lexes : Lexes old.text.now old.at front new.at
  pub into : (most : Limits) (n : ℕ) (s : Plain) (us vs : List Token) → Allows most the_limits
      → LEVELS ≤ n → Spells most n q s us vs → Spells most n r s (front ++ us) vs
  pub outof : (most : Limits) (n : ℕ) (s : Plain) (us vs : List Token) → kind_in us ≡ new.kind
      → Spells most n r s (front ++ us) vs → Spells most n q s us vs

-- a part was read, and what follows it is to come; or a token was refused
abbrev pub Goes : {A X : Type 0} → (A → X) → Rest → (X → Rest) → Parser → Parser → Result A SqlFault → Type 0
Goes view r then_ old new (Ok a) = Derives r (then_ (view a)) old new
Goes view r then_ old new (Err fault) = Fails (Spelled r) 6 LEVELS old new fault
