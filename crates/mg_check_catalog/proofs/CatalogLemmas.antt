-- The list of the first of the four rungs that has findings, and the law of the four.
use Rattle.std.specs.Prelude.{◌≡◌, ◌↔◌, ◌⊎◌, ◌<◌, ◌≤◌, ◌+◌, ℕ, zero, suc, List, [], ◌∷◌, length}
use Rattle.std.proofs.Common.{refl, sym, ap, ◌∙◌, inl, inr, arith, subst}
use Rattle.std.proofs.lemmas.List.{get_or_past}
use Rattle.mg_base.specs.Fields.{byte, u32_at}
use Rattle.mg_base.specs.Image.{Image, blank, page_at}
use Rattle.mg_check_catalog.specs.CatalogRung.{HasRungs, IsCatalogFinding, IsRungFinding, first_of}
use Rattle.mg_check_data.specs.DataRung.{HasOne}
use Rattle.mg_check_front.specs.Front.{FrontLaw, IsFirstFinding}
use Rattle.mg_check_inventory.specs.ImagePages.{IsWholeImage}
use Rattle.mg_check_tables.specs.TableRung.{HasTable, TableLaw}
use Rattle.mg_findings.specs.declared.finding.Finding.{Finding}
use Rattle.mg_findings.specs.Findings.{Adds, Has, HasNone, IsListOf}
use Rattle.mg_findings.specs.RungLaws.{empty_is_none, list_as, list_of_next, list_of_rung, none_of_rungs}
use Rattle.mg_header.specs.declared.header.TheConstants.{CATALOG_AT}

-- ---- an absent header page names no page

blank_byte : (size at : ℕ) → byte (blank size) at ≡ 0
blank_byte zero at = refl
blank_byte (suc size) zero = refl
blank_byte (suc size) (suc at) = blank_byte size at

blank_number : (size at : ℕ) → u32_at (blank size) at ≡ 0
blank_number size at =
    rw (blank_byte size at, blank_byte size (at + 1), blank_byte size (at + 2), blank_byte size (at + 3)) refl

pub first_absent : (size : ℕ) (image : Image) → length image ≤ 0
    → 0 ≡ first_of (page_at size image)
first_absent size image past =
    sym (ap (λ (b : List ℕ). u32_at b CATALOG_AT) (get_or_past image 0 (blank size) past)
    ∙ blank_number size CATALOG_AT)

-- what was added to nothing is the list
pub list_added : (P : Finding → Type 0) (none fs gs : List Finding) → none ≡ [] → Adds none fs P
    → IsListOf (Has fs) gs → IsListOf P gs
list_added P none fs gs empty adds list = list_as P fs gs list (λ f. (
  λ has. elim ((adds f).0 has) [
    | inl before ↦ absurd (subst (λ (l : List Finding). Has l f) empty before)
    | inr is ↦ is
  ],
  λ is. (adds f).1 (inr is),
))

-- what is said of a first pointer page is said of the one that the header names
pub named_is : (size : ℕ) (image : Image) (first : ℕ) (P : ℕ → Type 0)
    → first ≡ first_of (page_at size image) → P first → P (first_of (page_at size image))
named_is size image first P is here = subst P is here

-- ---- the rungs

module _ (size : ℕ) (image : Image) where
  abbrev Front : Finding → Type 0
  Front = IsFirstFinding size image

  abbrev Catalog : Finding → Type 0
  Catalog = IsCatalogFinding size image

  -- something is found of the first three
  pub front_list : (fs : List Finding) → IsListOf Front fs → 0 < length fs
      → IsListOf (IsRungFinding size image) fs
  front_list fs list some = list_of_rung Front Catalog fs
      (λ empty. let long = ap length empty in omega (arith, long, some)) list

  never_front : (fs : List Finding) → IsListOf Front fs → 0 < length fs → HasNone Front → ⊥
  never_front fs list some none =
      let long = ap length ((empty_is_none Front fs list).1 none) in omega (arith, long, some)

  -- nothing is
  pub no_front : (fs : List Finding) → IsListOf Front fs → length fs ≤ 0 → HasNone Front
  no_front [] list none = (empty_is_none Front [] list).0 refl
  no_front (f ∷ fs) list none = absurd (omega (arith, none))

  pub catalog_list : (fs : List Finding) → HasNone Front → IsListOf Catalog fs
      → IsListOf (IsRungFinding size image) fs
  catalog_list fs none list = list_of_next Front Catalog fs none list

  pub front_cause : (HasNone Front → ⊥) → HasNone (IsRungFinding size image) → ⊥
  front_cause some none = some ((none_of_rungs Front Catalog).0 none).0

  pub catalog_cause : HasOne Catalog → HasNone (IsRungFinding size image) → ⊥
  catalog_cause one none = ((none_of_rungs Front Catalog).0 none).1 one.0 one.1

  -- ---- whether these parts are as is asked

  none_of_parts : FrontLaw → TableLaw → IsWholeImage size image
      → HasRungs size (page_at size image) → HasNone Front × HasNone Catalog
  none_of_parts front table whole has = (
    (front size image whole).1 (has.header, has.inventory, has.transactions),
    table size image whole has.header.fields 0 (first_of (page_at size image)) has.catalog,
  )

  -- where something is found they are not
  pub front_sound : FrontLaw → TableLaw → IsWholeImage size image → (HasNone Front → ⊥)
      → HasNone (IsRungFinding size image) ↔ HasRungs size (page_at size image)
  front_sound front table whole some = (
    λ none. absurd (front_cause some none),
    λ has. absurd (some (none_of_parts front table whole has).0),
  )

  pub listed_sound : FrontLaw → TableLaw → IsWholeImage size image → (fs : List Finding)
      → IsListOf Front fs → 0 < length fs
      → HasNone (IsRungFinding size image) ↔ HasRungs size (page_at size image)
  listed_sound front table whole fs list some =
      front_sound front table whole (never_front fs list some)

  -- where nothing is found of the first three, it is as the catalog's pages are
  pub catalog_sound : FrontLaw → TableLaw → IsWholeImage size image → HasNone Front
      → HasOne Catalog ⊎ HasTable size (page_at size image) (first_of (page_at size image))
      → HasNone (IsRungFinding size image) ↔ HasRungs size (page_at size image)
  catalog_sound front table whole empty decided = (
    λ none. good none decided,
    λ has. (none_of_rungs Front Catalog).1 (none_of_parts front table whole has),
  )
    where
      good : HasNone (IsRungFinding size image)
          → HasOne Catalog ⊎ HasTable size (page_at size image) (first_of (page_at size image))
          → HasRungs size (page_at size image)
      good none (inl one) = absurd (catalog_cause one none)
      good none (inr has) = let parts = (front size image whole).0 empty in record {
        header = parts.0;
        inventory = parts.1;
        transactions = parts.2;
        catalog = has;
      }
