-- What a page inventory page means: a set of used numbers.
use Rattle.std.specs.Prelude.{◌≡◌, ◌≢◌, ◌<◌, ◌≤◌, ◌+◌, ◌*◌, ◌/◌, ◌%◌, ◌-◌, ◌==◌, ℕ, zero, suc, Bool, true, false, List, length, take}
use Rattle.mg_base.specs.Fields.{byte, new_page}
use Rattle.mg_base.specs.Checks.{Check, common_checks}
use Rattle.mg_pip.specs.declared.page.TheConstants.{PIP_KIND, BITS_AT}

-- how many bits a page of a size has: eight to a byte
abbrev pub bits : ℕ → ℕ
bits size = 8 * (size - BITS_AT)

-- the bit at one of the eight places of a byte, the lowest first
abbrev pub bit_of : ℕ → ℕ → ℕ
bit_of b zero = b % 2
bit_of b (suc zero) = b / 2 % 2
bit_of b (suc (suc zero)) = b / 4 % 2
bit_of b (suc (suc (suc zero))) = b / 8 % 2
bit_of b (suc (suc (suc (suc zero)))) = b / 16 % 2
bit_of b (suc (suc (suc (suc (suc zero))))) = b / 32 % 2
bit_of b (suc (suc (suc (suc (suc (suc zero)))))) = b / 64 % 2
bit_of b (suc (suc (suc (suc (suc (suc (suc _))))))) = b / 128 % 2

-- the used numbers of a page
unfoldable pub used_in : List ℕ → ℕ → Bool
used_in page bit = bit_of (byte page (BITS_AT + bit / 8)) (bit % 8) == 1

-- one number comes in or goes out; every other one stays, and every byte but the one of that bit
pub record SetsUsed (old new : List ℕ) (bit : ℕ) (used : Bool) : Type 0 where
  pub len : length new ≡ length old
  pub front : take BITS_AT new ≡ take BITS_AT old
  pub set : used_in new bit ≡ used
  pub others : (other : ℕ) → other ≢ bit → used_in new other ≡ used_in old other
  pub outside : (at : ℕ) → at ≢ BITS_AT + bit / 8 → byte new at ≡ byte old at

-- each number below a bound is used
abbrev pub AllUsed : List ℕ → ℕ → Type 0
AllUsed page below = (bit : ℕ) → bit < below → used_in page bit ≡ true

-- the least number below a bound that is not used
pub record IsFirstFree (page : List ℕ) (below bit : ℕ) : Type 0 where
  pub inside : bit < below
  pub free : used_in page bit ≡ false
  pub least : AllUsed page bit

-- the first byte of bits before an end that is not all ones
pub record IsFirstOpenByte (page : List ℕ) (end at : ℕ) : Type 0 where
  pub behind : BITS_AT ≤ at
  pub inside : at < end
  pub open_ : byte page at ≢ 255
  pub full : (before : ℕ) → BITS_AT ≤ before → before < at → byte page before ≡ 255

-- the tests of the page: the common part alone
abbrev pub pip_checks : List ℕ → ℕ → ℕ → List Check
pip_checks b page seq = common_checks b page PIP_KIND 0 seq

-- a new page: the common part, and zero behind
unfoldable pub new_pip_page : ℕ → ℕ → ℕ → List ℕ
new_pip_page size page seq = new_page size page PIP_KIND 0 seq
