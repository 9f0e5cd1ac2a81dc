-- Tokens as the grammar sees them.
use Rattle.std.specs.Prelude.{◌≡◌, ℕ, List, ◌∷◌}
use Rattle.mg_sql.specs.declared.token.Kind.{Kind}

-- a token: its kind, and the bytes that spell it
pub record Token : Type 0 where
  pub kind : Kind
  pub bytes : List ℕ

abbrev pub token : Kind → List ℕ → Token
token kind bytes = record { kind = kind; bytes = bytes }

-- the first of the tokens is of this kind and spelled so, and the others follow
abbrev pub Takes : Kind → List ℕ → List Token → List Token → Type 0
Takes kind bytes ts us = ts ≡ token kind bytes ∷ us
