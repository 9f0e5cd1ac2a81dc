-- What the tests of single pages say.
use Rattle.std.specs.Prelude.{◌≡◌, ◌↔◌, ◌<◌, ◌≤◌, ℕ, List, [], ◌∷◌, ◌++◌, Result, Ok, nat_lt, if◌then◌else◌}
use Rattle.mg_base.specs.Checks.{Check, PassesAll, verdict}
use Rattle.mg_base.specs.declared.damage.Damaged.{Damaged}
use Rattle.mg_base.specs.declared.damage.Field.TheVariants.{State}
use Rattle.mg_base.specs.declared.numbers.PageNo.{PageNo}
use Rattle.mg_base.specs.declared.transaction.TxState.{TxState}
use Rattle.mg_base.specs.declared.transaction.TxState.TheVariants.{Active, Limbo, Dead, Committed}
use Rattle.mg_findings.specs.Findings.{HasNone, IsFirst}
use Rattle.mg_header.specs.HeaderPage.{database_checks, page_checks, the_page}
use Rattle.mg_image.specs.Sound.{IsUndrawn}
use Rattle.mg_tip.specs.TipPage.{bits_of, state_in}

-- the test of the header page: what tells a file of another kind, then its other fields
abbrev pub header_test : List ℕ → ℕ → Result (Unit {0}) Damaged
header_test b size = verdict the_page (database_checks b size ++ page_checks b)

-- the lawful bits of a number that is not drawn, active or dead, which are nearest to those of a
-- state, the lower ones of two
abbrev pub lawful_bits : TxState → ℕ
lawful_bits Active = 0
lawful_bits Limbo = 0
lawful_bits Dead = 2
lawful_bits Committed = 2

-- what the number of a state has become, where it is not drawn
abbrev pub undrawn_checks : TxState → List Check
undrawn_checks state = (State, bits_of state, lawful_bits state) ∷ []

-- the test of the number at a place of a transaction inventory page, where those from a place on
-- are not drawn
abbrev pub undrawn_test : List ℕ → PageNo → ℕ → ℕ → Result (Unit {0}) Damaged
undrawn_test b page from place =
    if nat_lt place from then Ok tt else verdict page (undrawn_checks (state_in b place))

-- the header page has no damage exactly where it is that of a database with such pages, and its
-- fields are lawful
abbrev pub HeaderLaw : Type 0
HeaderLaw = (b : List ℕ) (size : ℕ) → (header_test b size ≡ Ok tt)
    ↔ (PassesAll (database_checks b size) × PassesAll (page_checks b))

-- nothing is told of the numbers of a page exactly where each that is not drawn has become nothing
abbrev pub UndrawnLaw : Type 0
UndrawnLaw = (b : List ℕ) (page : PageNo) (from count : ℕ)
    → HasNone (IsFirst (undrawn_test b page from) count)
    ↔ ((place : ℕ) → from ≤ place → place < count → IsUndrawn (state_in b place))
