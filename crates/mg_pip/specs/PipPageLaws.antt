-- Laws of a page inventory page, for those who stand above it.
use Rattle.std.specs.Prelude.{◌≡◌, ◌<◌, ◌≤◌, ◌+◌, ◌/◌, ◌%◌, ◌^◌, ℕ, zero, suc, false, List, length, take}
use Rattle.std.proofs.Common.{refl, arith}
use Rattle.mg_base.specs.Fields.{byte, new_page, length-new_page}
use Rattle.mg_base.specs.Checks.{PassesAll}
use Rattle.mg_base.specs.CheckLaws.{new_page_zero, front_checks, new_passes}
use Rattle.mg_pip.specs.declared.page.TheConstants.{PIP_KIND, BITS_AT}
use Rattle.mg_pip.specs.PipPage.{bit_of, used_in, pip_checks, new_pip_page}

zero_bit : (place : ℕ) → bit_of 0 place ≡ 0
zero_bit zero = refl
zero_bit (suc zero) = refl
zero_bit (suc (suc zero)) = refl
zero_bit (suc (suc (suc zero))) = refl
zero_bit (suc (suc (suc (suc zero)))) = refl
zero_bit (suc (suc (suc (suc (suc zero))))) = refl
zero_bit (suc (suc (suc (suc (suc (suc zero)))))) = refl
zero_bit (suc (suc (suc (suc (suc (suc (suc place))))))) = refl

-- in a byte of zero no bit is set
pub zero_unused : (page : List ℕ) (bit : ℕ) → byte page (BITS_AT + bit / 8) ≡ 0
    → used_in page bit ≡ false
unfolding used_in
zero_unused page bit is_zero = rw (is_zero, zero_bit (bit % 8)) refl

-- on a new page no bit is set
pub new_page_unused : (size page seq bit : ℕ) → used_in (new_pip_page size page seq) bit ≡ false
unfolding new_pip_page
new_page_unused size page seq bit =
    zero_unused (new_page size page PIP_KIND 0 seq) bit (new_page_zero size page PIP_KIND 0 seq (16
    + bit / 8) (omega arith))

-- a new page passes its tests
pub new_page_passes : (size page seq : ℕ) → BITS_AT ≤ size → page < 2 ^ 32 → seq < 2 ^ 32
    → PassesAll (pip_checks (new_pip_page size page seq) page seq)
unfolding new_pip_page
new_page_passes size page seq fits small_page small_seq =
    new_passes size page PIP_KIND 0 seq fits small_page (omega arith) small_seq

-- two pages with one common part have the same tests
pub same_tests : (old new : List ℕ) (page seq : ℕ) → take BITS_AT new ≡ take BITS_AT old
    → pip_checks new page seq ≡ pip_checks old page seq
same_tests old new page seq same = front_checks new old page PIP_KIND 0 seq same
