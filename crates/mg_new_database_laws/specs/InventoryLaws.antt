-- Which pages of a new database are used, and what has become of its transactions.
use Rattle.std.proofs.Common.{◌≡◌, ◌≢◌, inl, inr, ◌<◌, ◌≤◌, ◌+◌, ◌*◌, ◌-◌, ◌/◌, ◌%◌, ℕ, zero, suc, true, List, length, refl, sym, ap, ◌∙◌, subst, arith, lit<}
use Rattle.std.proofs.Math.Nat.{div-eq_of_lt, mod-eq_of_lt, suc-mul, zero-mul}
use Rattle.std.proofs.Math.ListN.{set}
use Rattle.std.proofs.lemmas.List.{get_or-set_other, get_or-set_same, take-set-le}
use Rattle.mg_base.specs.CheckLaws.{front_checks, new_passes}
use Rattle.mg_base.specs.Checks.{PassesAll}
use Rattle.mg_base.specs.Fields.{byte, length-new_page, new_page}
use Rattle.mg_base.specs.Image.{Image, blank, page_at}
use Rattle.mg_base.specs.declared.geometry.TheConstants.{GREATEST_LIMIT}
use Rattle.mg_format.specs.Format.{IsMade}
use Rattle.mg_image.specs.Inventory.{inventory_page, is_used}
use Rattle.mg_image.specs.Sound.{HasInventory, HasRegion, IsUndrawn}
use Rattle.mg_pip.specs.PipPage.{bits, new_pip_page, pip_checks, used_in}
use Rattle.mg_pip.specs.declared.page.TheConstants.{PIP_KIND}
use Rattle.mg_tip.specs.TipPage.{new_tip_page, state_in}
use Rattle.mg_tip.specs.TipPageLaws.{length-new_tip_page, new_page_active}

-- ---- transactions

module _ (size : ℕ) (least : 1024 ≤ size) where
  abbrev tip : List ℕ
  tip = set (new_tip_page size 2 0 0) 20 3

  first_byte : byte tip 20 ≡ 3
  first_byte = get_or-set_same (new_tip_page size 2 0 0) 20 3 0
      (let long = length-new_tip_page size 2 0 0 in omega (arith, long, least))

  other_byte : (i : ℕ) → i ≢ 20 → byte tip i ≡ byte (new_tip_page size 2 0 0) i
  other_byte i not_ = get_or-set_other (new_tip_page size 2 0 0) 20 i 3 0 not_

  later_same : (place : ℕ) → 1 ≤ place / 4 → state_in tip place ≡ state_in (new_tip_page size 2 0 0) place
  unfolding state_in
  later_same place from = rw (other_byte (20 + place / 4) (λ same. omega (arith, from, same))) refl

  -- no transaction but the system's has become anything
  pub undrawn : (place : ℕ) → place ≢ 0 → IsUndrawn (state_in tip place)
  unfolding state_in
  undrawn zero some = absurd (some refl)
  undrawn (suc zero) some = rw first_byte tt
  undrawn (suc (suc zero)) some = rw first_byte tt
  undrawn (suc (suc (suc zero))) some = rw first_byte tt
  undrawn (suc (suc (suc (suc place)))) some = subst IsUndrawn
      (sym (later_same (suc (suc (suc (suc place)))) (omega arith)
      ∙ new_page_active size 2 0 0 (suc (suc (suc (suc place)))))) tt

-- ---- used pages

module _ (size : ℕ) (least : 1024 ≤ size) where
  abbrev pip : List ℕ
  pip = set (new_pip_page size 1 0) 16 127

  long_pip : length (new_pip_page size 1 0) ≡ size
  unfolding new_pip_page
  long_pip = length-new_page size 1 PIP_KIND 0 0

  bits_byte : byte pip 16 ≡ 127
  bits_byte = get_or-set_same (new_pip_page size 1 0) 16 127 0 (omega (arith, long_pip, least))

  -- the seven pages of a new database are used
  pub seven_used : (n : ℕ) → n < 7 → used_in pip n ≡ true
  unfolding used_in
  seven_used zero below = rw bits_byte refl
  seven_used (suc zero) below = rw bits_byte refl
  seven_used (suc (suc zero)) below = rw bits_byte refl
  seven_used (suc (suc (suc zero))) below = rw bits_byte refl
  seven_used (suc (suc (suc (suc zero)))) below = rw bits_byte refl
  seven_used (suc (suc (suc (suc (suc zero))))) below = rw bits_byte refl
  seven_used (suc (suc (suc (suc (suc (suc zero)))))) below = rw bits_byte refl
  seven_used (suc (suc (suc (suc (suc (suc (suc n))))))) below = absurd (omega (arith, below))

  pub new_used : (image : Image) → IsMade size image → (n : ℕ) → n < 7
      → is_used size (page_at size image) n ≡ true
  unfolding is_used
  new_used image made n below =
      let first : n / bits size ≡ 0 = div-eq_of_lt (omega (arith, below, least)) in
      let rest : n % bits size ≡ n = mod-eq_of_lt (omega (arith, below, least)) in
      let its : page_at size image (0 * bits size + 1) ≡ set (new_pip_page size 1 0) 16 127 =
      ap (λ (k : ℕ). page_at size image (k + 1)) (zero-mul (bits size)) ∙ made 1 (lit< tt) in
      rw (first, rest, its) (seven_used n below)

-- ---- regions

pub le-mul_suc : (k n : ℕ) → k ≤ suc n * k
le-mul_suc k n = let more : suc n * k ≡ n * k + k = suc-mul n k in omega (arith, more)

-- each page behind the seventh is zero
pub blank_behind : (size : ℕ) (image : Image) → IsMade size image → (n : ℕ) → 7 ≤ n → n < GREATEST_LIMIT
    → page_at size image n ≡ blank size
blank_behind size image made n from below =
    subst (λ (k : ℕ). k < GREATEST_LIMIT → page_at size image k ≡ blank size) (sym same)
    (λ within. made (suc (suc (suc (suc (suc (suc (suc (n - 7)))))))) within) below
  where
    same : n ≡ suc (suc (suc (suc (suc (suc (suc (n - 7)))))))
    same = omega (arith, from)

pip_passes : (size : ℕ) → 1024 ≤ size → PassesAll (pip_checks (set (new_pip_page size 1 0) 16 127) 1 0)
unfolding new_pip_page
pip_passes size least = subst PassesAll
    (sym (front_checks (set (new_page size 1 PIP_KIND 0 0) 16 127) (new_page size 1 PIP_KIND 0 0) 1 PIP_KIND 0 0
    (take-set-le 16 (new_page size 1 PIP_KIND 0 0) 16 127 (omega arith))))
    (new_passes size 1 PIP_KIND 0 0 (omega (arith, least)) (lit< tt) (lit< tt) (lit< tt))

-- the first region has its page, and all others have none
pub new_inventory : (size : ℕ) (image : Image) → 1024 ≤ size → IsMade size image
    → HasInventory size (page_at size image)
new_inventory size image least made zero inside =
    subst (λ (n : ℕ). HasRegion size (page_at size image) n 0) (sym first) (inr (record {
      below = lit< tt;
      used = new_used size least image made 1 (lit< tt);
      fields = subst (λ (b : List ℕ). PassesAll (pip_checks b 1 0)) (sym (made 1 (lit< tt))) (pip_passes size least);
    }))
  where
    first : inventory_page size 0 ≡ 1
    first = ap (λ (k : ℕ). k + 1) (zero-mul (bits size))
new_inventory size image least made (suc region) inside =
    inl (blank_behind size image made (inventory_page size (suc region)) far inside)
  where
    far : 7 ≤ inventory_page size (suc region)
    far = let many : bits size ≤ suc region * bits size = le-mul_suc (bits size) region in
        omega (arith, many, least)
