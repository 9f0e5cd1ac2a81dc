-- The transactions of a new database.
use Rattle.std.proofs.Common.{◌≡◌, ◌≢◌, ◌≤◌, ◌+◌, ◌*◌, ◌-◌, ◌/◌, ◌%◌, ℕ, true, List, sym, ap, ◌∙◌, subst, arith, lit<}
use Rattle.std.proofs.Math.Nat.{mod-add-div', zero-div, zero-mul}
use Rattle.mg_base.specs.Fields.{u32_at}
use Rattle.mg_base.specs.Image.{page_at}
use Rattle.mg_image.specs.Inventory.{header_of, is_used, last_sequence, next_of, tip_before, tip_page}
use Rattle.mg_image.specs.NewDatabase.{new_header_page}
use Rattle.mg_image.specs.Sound.{HasNoneUndrawn, HasTips, IsUndrawn}
use Rattle.mg_space.specs.TakingLaws.{page_sizes}
use Rattle.mg_tip.specs.TipPage.{places, state_in}
use Rattle.mg_new_database_laws.specs.HeaderLaws.{last_tip_is, next_is}
use Rattle.mg_new_database_laws.specs.InventoryLaws.{new_inventory, new_used, undrawn}
use Rattle.mg_new_database_laws.specs.Readable.{NewAreUndrawn, NewAreUsed, NewHaveInventory}
use Rattle.mg_new_database_laws.specs.ReadableLaws.{new_are_readable}

pub new_are_used : NewAreUsed
new_are_used size image n lawful made below = new_used size (page_sizes size lawful).0 image made n below

pub new_have_inventory : NewHaveInventory
new_have_inventory size image lawful made = new_inventory size image (page_sizes size lawful).0 made

pub new_are_undrawn : NewAreUndrawn
new_are_undrawn size image lawful made = record { each = its_tips; undrawn = its_undrawn }
  where
    sizes : (1024 ≤ size) × (size ≤ 16384)
    sizes = page_sizes size lawful

    header : page_at size image 0 ≡ new_header_page size
    header = made 0 (lit< tt)

    next : next_of (page_at size image) ≡ 1
    next = ap (λ (b : List ℕ). u32_at b 28) header ∙ next_is size sizes.0 sizes.1

    last : last_sequence size (page_at size image) ≡ 0
    last = ap (λ (n : ℕ). (n - 1) / places size) next ∙ zero-div (places size)

    last_tip : (header_of (page_at size image)).last_tip.0 ≡ 2
    last_tip = ap (λ (b : List ℕ). u32_at b 44) header ∙ last_tip_is size sizes.0 sizes.1

    tip_is : (s : ℕ) → s ≡ 0 → tip_page size (page_at size image) s ≡ 2
    tip_is s first = ap (tip_page size (page_at size image)) first
        ∙ (ap (λ (n : ℕ). tip_before (page_at size image) (header_of (page_at size image)).last_tip.0 (n - 0)) last
        ∙ last_tip)

    its_tips : HasTips size (page_at size image)
    its_tips sequence within = record {
      below = let is : tip_page size (page_at size image) sequence ≡ 2 = tip_is sequence (omega (arith, last, within)) in
          omega (arith, is);
      used = subst (λ (n : ℕ). is_used size (page_at size image) n ≡ true)
          (sym (tip_is sequence (omega (arith, last, within)))) (new_used size sizes.0 image made 2 (lit< tt));
      fields = (new_are_readable size image lawful made).tips sequence within;
    }

    its_undrawn : HasNoneUndrawn size (page_at size image)
    its_undrawn t from same =
        let first : t / places size ≡ 0 = same ∙ last in
        let parts : t % places size + t / places size * places size ≡ t = mod-add-div' t (places size) in
        let none : t / places size * places size ≡ 0 = ap (λ (q : ℕ). q * places size) first ∙ zero-mul (places size) in
        let some : t % places size ≢ 0 = λ zero_. omega (arith, next, from, parts, none, zero_) in
        subst (λ (b : List ℕ). IsUndrawn (state_in b (t % places size)))
        (sym (ap (page_at size image) (tip_is (t / places size) first) ∙ made 2 (lit< tt)))
        (undrawn size sizes.0 (t % places size) some)
