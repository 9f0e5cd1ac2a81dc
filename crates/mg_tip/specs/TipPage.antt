-- What a transaction inventory page means: a map from its places to states.
use Rattle.std.specs.Prelude.{◌≡◌, ◌≢◌, ℕ, zero, suc, ◌+◌, ◌*◌, ◌/◌, ◌%◌, ◌-◌, List, [], ◌∷◌, ◌++◌, length, take, ◌==◌, if◌then◌else◌}
use Rattle.mg_base.specs.Fields.{byte, u32_at, with_u32, new_page}
use Rattle.mg_base.specs.declared.transaction.TxState.{TxState}
use Rattle.mg_base.specs.declared.transaction.TxState.TheVariants.{Active, Limbo, Dead, Committed}
use Rattle.mg_base.specs.declared.damage.Field.TheVariants.{Link}
use Rattle.mg_tip.specs.declared.page.TheConstants.{TIP_KIND, PREV_AT, STATES_AT}
use Rattle.mg_base.specs.Checks.{Check, common_checks}

-- how many places a page of a size has: four to a byte
abbrev pub places : ℕ → ℕ
places size = 4 * (size - STATES_AT)

-- the two bits of a state
abbrev pub bits_of : TxState → ℕ
bits_of Active = 0
bits_of Limbo = 1
bits_of Dead = 2
bits_of Committed = 3

-- the state of two bits
abbrev pub state_of : ℕ → TxState
state_of zero = Active
state_of (suc zero) = Limbo
state_of (suc (suc zero)) = Dead
state_of (suc (suc (suc _))) = Committed

-- the two bits at one of the four places of a byte, the lowest first
abbrev pub two_bits : ℕ → ℕ → ℕ
two_bits b zero = b % 4
two_bits b (suc zero) = b / 4 % 4
two_bits b (suc (suc zero)) = b / 16 % 4
two_bits b (suc (suc (suc _))) = b / 64 % 4

-- the state at a place of a page
unfoldable pub state_in : List ℕ → ℕ → TxState
state_in page place = state_of (two_bits (byte page (STATES_AT + place / 4)) (place % 4))

-- the number of the transaction inventory page before this one, 0 for none
abbrev pub prev_in : List ℕ → ℕ
prev_in page = u32_at page PREV_AT

-- the state of one place is set; every other one stays, and every byte but the one of that place
pub record SetsState (old new : List ℕ) (place : ℕ) (state : TxState) : Type 0 where
  pub len : length new ≡ length old
  pub front : take STATES_AT new ≡ take STATES_AT old
  pub set : state_in new place ≡ state
  pub others : (other : ℕ) → other ≢ place → state_in new other ≡ state_in old other
  pub outside : (at : ℕ) → at ≢ STATES_AT + place / 4 → byte new at ≡ byte old at

-- the tests of the page: the common part, and in the first of the chain that no page is before it
unfoldable pub tip_checks : List ℕ → ℕ → ℕ → List Check
tip_checks b page seq =
    common_checks b page TIP_KIND 0 seq ++ (if seq == 0 then (Link, prev_in b, 0) ∷ [] else [])

-- a new page: the common part, the page before it, and zero behind
unfoldable pub new_tip_page : ℕ → ℕ → ℕ → ℕ → List ℕ
new_tip_page size page seq prev = with_u32 (new_page size page TIP_KIND 0 seq) PREV_AT prev
