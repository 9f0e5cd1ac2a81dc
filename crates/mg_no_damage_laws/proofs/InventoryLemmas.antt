-- Lawful inventory pages are read, and are lawful after a page was taken.
use Rattle.std.proofs.Common.{◌≡◌, ◌≢◌, ◌∙◌, ◌⊎◌, inl, inr, ℕ, length, Ok, Err, Result, sym, ap, subst}
use Rattle.std.proofs.lemmas.Bool.{cases_eq}
use Rattle.mg_base.specs.CheckLaws.{verdict_from_passes}
use Rattle.mg_base.specs.declared.damage.Damaged.{Damaged}
use Rattle.mg_image.specs.Inventory.{inventory_page}
use Rattle.mg_image.specs.Sound.{HasRegion}
use Rattle.mg_pip.specs.PipPage.{pip_checks}
use Rattle.mg_space.specs.Taking.{IsLawfulRegion, region_of}
use Rattle.mg_space.specs.TakingLaws.{takes_region}
use Rattle.mg_space.specs.FreePages.{TakingKeepsRegions}
use Rattle.mg_space.specs.RegionLaws.{lawful_region}
use Rattle.mg_no_damage_laws.specs.Inventory.{PagesAreTaken}

pub pages_taken : PagesAreTaken
pages_taken g pages regions it refused = at (regions refused.region refused.below)
  where
    at : IsLawfulRegion (inventory_page g.size refused.region) refused.region
        (pages (inventory_page g.size refused.region)) → ⊥
    at (inl empty) = refused.damaged.stands empty
    at (inr fields) =
        let both : ◌≡◌ {A = Result (Unit {0}) Damaged} (Ok tt) (Err it) =
        sym (verdict_from_passes (record { 0 = inventory_page g.size refused.region })
        (pip_checks (pages (inventory_page g.size refused.region)) (inventory_page g.size refused.region)
        refused.region) fields) ∙ refused.damaged.differs in absurd cc

pub regions_kept : TakingKeepsRegions
regions_kept g old new n lawful regions takes region below =
    at (cases_eq (inventory_page g.size region) (inventory_page g.size (region_of g.size n)))
  where
    at : (inventory_page g.size region ≡ inventory_page g.size (region_of g.size n))
        ⊎ (inventory_page g.size region ≢ inventory_page g.size (region_of g.size n))
        → IsLawfulRegion (inventory_page g.size region) region (new (inventory_page g.size region))
    at (inl same) = lawful_region g.size new (inventory_page g.size region) region
        (ap (λ (k : ℕ). length (new k)) same ∙ takes.len)
        (subst (λ (k : ℕ). HasRegion g.size new k region) (sym same)
        (takes_region g old new n lawful takes region same))
    at (inr other) = subst (IsLawfulRegion (inventory_page g.size region) region)
        (sym (takes.others (inventory_page g.size region) other)) (regions region below)
