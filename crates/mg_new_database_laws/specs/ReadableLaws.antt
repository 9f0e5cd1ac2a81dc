-- A new database is read without finding damage.
use Rattle.std.proofs.Common.{◌≡◌, ◌≤◌, ◌-◌, ◌/◌, ℕ, List, refl, sym, ap, ◌∙◌, subst, arith, lit<}
use Rattle.std.proofs.Math.Nat.{zero-div}
use Rattle.std.proofs.Math.ListN.{set}
use Rattle.std.proofs.lemmas.List.{take-set-le}
use Rattle.mg_base.specs.Checks.{PassesAll}
use Rattle.mg_base.specs.Fields.{u32_at}
use Rattle.mg_base.specs.Image.{page_at}
use Rattle.mg_header.specs.HeaderPage.{database_checks, page_checks}
use Rattle.mg_image.specs.Inventory.{header_of, last_sequence, next_of, tip_before, tip_page}
use Rattle.mg_image.specs.NewDatabase.{new_header_page}
use Rattle.mg_space.specs.TakingLaws.{page_sizes}
use Rattle.mg_tip.specs.TipPage.{new_tip_page, places, tip_checks}
use Rattle.mg_tip.specs.TipPageLaws.{new_page_passes, same_tests}
use Rattle.mg_new_database_laws.specs.HeaderLaws.{catalog_is, database_passes, fields_pass, last_tip_is, next_is}
use Rattle.mg_new_database_laws.specs.Readable.{AreReadable, NewAreReadable}

pub new_are_readable : NewAreReadable
new_are_readable size image lawful made = readable
  where
    sizes : (1024 ≤ size) × (size ≤ 16384)
    sizes = page_sizes size lawful

    header : page_at size image 0 ≡ new_header_page size
    header = made 0 (lit< tt)

    tip : page_at size image 2 ≡ set (new_tip_page size 2 0 0) 20 3
    tip = made 2 (lit< tt)

    tip_passes : PassesAll (tip_checks (page_at size image 2) 2 0)
    tip_passes = subst (λ (b : List ℕ). PassesAll (tip_checks b 2 0)) (sym tip)
        (subst PassesAll (sym (same_tests (new_tip_page size 2 0 0) (set (new_tip_page size 2 0 0) 20 3) 2 0
        (take-set-le 20 (new_tip_page size 2 0 0) 20 3 (omega arith))))
        (new_page_passes size 2 0 0 (let least = sizes.0 in omega (arith, least)) (lit< tt) (lit< tt) (lit< tt)
        (λ first. refl)))

    next : next_of (page_at size image) ≡ 1
    next = ap (λ (b : List ℕ). u32_at b 28) header ∙ next_is size sizes.0 sizes.1

    last : last_sequence size (page_at size image) ≡ 0
    last = ap (λ (n : ℕ). (n - 1) / places size) next ∙ zero-div (places size)

    last_tip : (header_of (page_at size image)).last_tip.0 ≡ 2
    last_tip = ap (λ (b : List ℕ). u32_at b 44) header ∙ last_tip_is size sizes.0 sizes.1

    tip_is : tip_page size (page_at size image) 0 ≡ 2
    tip_is = ap (λ (n : ℕ). tip_before (page_at size image) (header_of (page_at size image)).last_tip.0 (n - 0)) last
        ∙ last_tip

    its_tips : (sequence : ℕ) → sequence ≤ last_sequence size (page_at size image)
        → PassesAll (tip_checks (page_at size image (tip_page size (page_at size image) sequence))
        (tip_page size (page_at size image) sequence) sequence)
    its_tips sequence within =
        let first : 0 ≡ sequence = omega (arith, last, within) in
        subst (λ (s : ℕ). PassesAll (tip_checks (page_at size image (tip_page size (page_at size image) s))
        (tip_page size (page_at size image) s) s)) first
        (subst (λ (n : ℕ). PassesAll (tip_checks (page_at size image n) n 0)) (sym tip_is) tip_passes)

    its_catalog : (header_of (page_at size image)).catalog.0 ≡ 3
    its_catalog = ap (λ (b : List ℕ). u32_at b 52) header ∙ catalog_is size sizes.0 sizes.1

    readable : AreReadable size (page_at size image)
    readable = record {
      database = subst (λ (b : List ℕ). PassesAll (database_checks b size)) (sym header)
          (database_passes size sizes.0 sizes.1);
      fields = subst (λ (b : List ℕ). PassesAll (page_checks b)) (sym header) (fields_pass size sizes.0 sizes.1);
      tips = its_tips;
      catalog = omega (arith, its_catalog);
    }
