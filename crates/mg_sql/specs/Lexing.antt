-- The tokens of a text: from the left each is the longest, with blanks between them.
use Rattle.std.specs.Prelude.{◌≡◌, ℕ, ◌+◌, ◌-◌, ◌<◌, ◌≤◌, Bool, true, false, List, [], ◌∷◌, ◌++◌, length, take, drop, IsTrue, slice_index, nat_lt, nat_le, ◌&&◌}
use Rattle.mg_sql.specs.declared.token.Kind.{Kind}
use Rattle.mg_sql.specs.declared.token.Kind.TheVariants as kinds
use Rattle.mg_sql.specs.declared.scanning.TheConstants.{MOST_TEXT}
use Rattle.mg_sql.specs.Tokens.{Token, token}
use Rattle.mg_sql.specs.Spelling.{IsSpelled, is_blank}

-- the bytes of a text from one place to another
abbrev pub between : List ℕ → ℕ → ℕ → List ℕ
between text from to = take (to - from) (drop from text)

-- only blanks stand from one place to another
pub record AreBlank (text : List ℕ) (from to : ℕ) : Type 0 where
  pub order : from ≤ to
  pub inside : to ≤ length text
  pub each : (at : ℕ) → from ≤ at → at < to → IsTrue (is_blank (slice_index text at))

-- no token begins at a place
abbrev pub BeginsNone : List ℕ → ℕ → Type 0
BeginsNone text at = (to : ℕ) (kind : Kind) → at < to → to ≤ length text → IsSpelled kind (between text at to) → ⊥

-- no token is read at byte 65,536 of a longer text, nor behind it
abbrev pub is_past : List ℕ → ℕ → Bool
is_past text at = nat_lt MOST_TEXT (length text) && nat_le MOST_TEXT at

-- A token of this kind stands at a place, and it ends before another: the longest that can be read
-- there; the end of the text; or a byte that begins no token, as each one that is past the text's bound.
pub data Stands (text : List ℕ) (at : ℕ) : ℕ → Kind → Type 0 where
  spelled : {to : ℕ} {kind : Kind} → is_past text at ≡ false → at < to → to ≤ length text → IsSpelled kind (between text at to)
      → ((other : ℕ) (k : Kind) → to < other → other ≤ length text → IsSpelled k (between text at other) → ⊥)
      → Stands text at to kind
  ended : is_past text at ≡ false → at ≡ length text → Stands text at at kinds.End
  past : is_past text at ≡ true → Stands text at at kinds.Stray
  stray : is_past text at ≡ false → at < length text → (IsTrue (is_blank (slice_index text at)) → ⊥) → BeginsNone text at → Stands text at at kinds.Stray

-- These tokens stand one behind another: the first at one place, and behind the last and its blanks
-- comes the other place.
pub data Lexes (text : List ℕ) : ℕ → List Token → ℕ → Type 0 where
  none : {at : ℕ} → Lexes text at [] at
  one : {at behind next to : ℕ} {kind : Kind} {more : List Token}
      → Stands text at behind kind → AreBlank text behind next → Lexes text next more to
      → Lexes text at (token kind (between text at behind) ∷ more) to
