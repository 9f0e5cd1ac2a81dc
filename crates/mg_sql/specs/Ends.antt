-- Which tokens go on with an expression, and how tightly they bind.
use Rattle.std.specs.Prelude.{◌≡◌, ℕ, ◌<◌, Bool, true, false, List, [], ◌∷◌}
use Rattle.mg_sql.specs.declared.token.Kind.{Kind}
use Rattle.mg_sql.specs.declared.token.Kind.TheVariants as kinds
use Rattle.mg_sql.specs.Tokens.{Token}

-- how tightly a token binds that stands behind a part of an expression, 0 where none goes on with it
abbrev pub binds : Kind → ℕ
binds kinds.Or = 1
binds kinds.And = 2
binds kinds.Is = 3
binds kinds.Equal = 3
binds kinds.Unequal = 3
binds kinds.Less = 3
binds kinds.AtMost = 3
binds kinds.Greater = 3
binds kinds.AtLeast = 3
binds kinds.Plus = 4
binds kinds.Minus = 4
binds kinds.Star = 5
binds kinds.Slash = 5
binds _ = 0

-- how tightly the first token binds
abbrev pub front_binds : List Token → ℕ
front_binds [] = 0
front_binds (t ∷ ts) = binds t.kind

-- no token stands in front that goes on with what binds so tightly or more
abbrev pub Ends : ℕ → List Token → Type 0
Ends level ts = front_binds ts < level

-- a factor may begin with a token of this kind
abbrev pub opens : Kind → Bool
opens kinds.Minus = true
opens kinds.Open = true
opens kinds.Integer = true
opens kinds.Text = true
opens kinds.Null = true
opens kinds.Name = true
opens _ = false

abbrev pub front_opens : List Token → Bool
front_opens [] = false
front_opens (t ∷ ts) = opens t.kind

-- the kind of the first token
abbrev pub kind_in : List Token → Kind
kind_in [] = kinds.End
kind_in (t ∷ ts) = t.kind
