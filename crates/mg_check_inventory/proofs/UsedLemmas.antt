-- Which pages are marked as used.
use Rattle.std.specs.Prelude.{◌≡◌, ◌≤◌, ◌+◌, ◌*◌, ◌/◌, ◌%◌, ℕ, zero, suc, Bool, false, List, length}
use Rattle.std.proofs.Common.{refl, sym}
use Rattle.std.proofs.lemmas.List.{get_or_past}
use Rattle.mg_base.specs.Fields.{byte}
use Rattle.mg_base.specs.Image.{Image, blank, page_at}
use Rattle.mg_image.specs.Inventory.{is_used}
use Rattle.mg_pip.specs.declared.page.TheConstants.{BITS_AT}
use Rattle.mg_pip.specs.PipPage.{bit_of, bits, used_in}

-- a byte of a blank page
blank_byte : (size at : ℕ) → byte (blank size) at ≡ 0
blank_byte zero at = refl
blank_byte (suc size) zero = refl
blank_byte (suc size) (suc at) = blank_byte size at

-- a bit of a byte that is 0
no_bit : (k : ℕ) → bit_of 0 k ≡ 0
no_bit zero = refl
no_bit (suc zero) = refl
no_bit (suc (suc zero)) = refl
no_bit (suc (suc (suc zero))) = refl
no_bit (suc (suc (suc (suc zero)))) = refl
no_bit (suc (suc (suc (suc (suc zero))))) = refl
no_bit (suc (suc (suc (suc (suc (suc zero)))))) = refl
no_bit (suc (suc (suc (suc (suc (suc (suc k))))))) = refl

-- a blank page marks nothing as used
blank_unused : (size bit : ℕ) → used_in (blank size) bit ≡ false
unfolding used_in
blank_unused size bit = rw (blank_byte size (BITS_AT + bit / 8), no_bit (bit % 8)) refl

-- the page that has the bit of a number is there,
pub used_there : (size n b : ℕ) (image : Image) (page : List ℕ) (is : Bool) → b ≡ bits size
    → page ≡ page_at size image (n / b * b + 1) → is ≡ used_in page (n % b)
    → is ≡ is_used size (page_at size image) n
unfolding is_used
used_there size n b image page is same here told = rw (sym same, sym here) told

-- or it is not
pub used_absent : (size n b : ℕ) (image : Image) → b ≡ bits size → length image ≤ n / b * b + 1
    → false ≡ is_used size (page_at size image) n
used_absent size n b image same past = used_there size n b image (blank size) false same
    (sym (get_or_past image (n / b * b + 1) (blank size) past)) (sym (blank_unused size (n % b)))
