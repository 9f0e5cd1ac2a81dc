-- A pointer page is changed: all that other pages say of an image stays.
use Rattle.std.proofs.Common.{◌≡◌, ◌≢◌, ◌⊎◌, inl, inr, ap, sym, subst, suc, ◌∙◌, refl, arith, ◌<◌, ◌≤◌, ◌/◌, ◌%◌, ℕ, Bool, true, false, List, [], ◌∷◌, length, Some}
use Rattle.std.proofs.lemmas.Bool.{cases_eq}
use Rattle.std.specs.Prelude.{if◌then◌else◌}
use Rattle.mg_base.specs.Checks.{common_checks}
use Rattle.mg_base.specs.Fields.{byte}
use Rattle.mg_base.specs.declared.geometry.TheConstants.{GREATEST_LIMIT}
use Rattle.mg_base.specs.declared.transaction.TxState.{TxState}
use Rattle.mg_image.specs.Form.{Form, Pages}
use Rattle.mg_image.specs.Indexes.{EachPage}
use Rattle.mg_image.specs.Inventory.{inventory_page, is_used, last_sequence, tip_page}
use Rattle.mg_image.specs.Reached.{linked_pages}
use Rattle.mg_image.specs.Records.{Reading}
use Rattle.mg_image.specs.Sound.{HasInventory, HasRegion, HasTablePages, IsSoundBy, IsTableData}
use Rattle.mg_image.specs.Tables.{EachFrom, EachStand, Has, Layout, Stand, has, table_at}
use Rattle.mg_image_overlay_laws.specs.pages.DataPages.{all_passes, byte_blank, kind_of}
use Rattle.mg_image_overlay_laws.specs.pages.DataSound.{KeepsTrees}
use Rattle.mg_image_overlay_laws.specs.pages.Frame.{KeepsLinked}
use Rattle.mg_image_overlay_laws.specs.pages.Growth.{wanted_still}
use Rattle.mg_image_overlay_laws.specs.pages.Kinds.{HasNoSequences}
use Rattle.mg_image_overlay_laws.specs.kept.Rest.{TreesStay}
use Rattle.mg_image_overlay_laws.specs.pages.Reach.{has_it}
use Rattle.mg_model.specs.declared.table.Table.{Table}
use Rattle.mg_pip.specs.PipPage.{bits, pip_checks, used_in}
use Rattle.mg_tip.specs.TipPage.{tip_checks}

-- One page is changed, which is a pointer page.
pub record ChangesPointer (old new : Pages) (q : ℕ) : Type 0 where
  pub others : (m : ℕ) → m ≢ q → new m ≡ old m
  pub below : q < GREATEST_LIMIT
  pub kind : byte (old q) 0 ≡ 4
  pub len : length (new q) ≡ length (old q)

-- a data page of a table is one by its kind
pub data_five : (in_primary : Bool) (size : ℕ) (pages : Pages) (stands : List Stand)
    → EachStand (HasTablePages in_primary size pages) stands → (m : ℕ) (table : Table)
    → table_at stands m ≡ Some table → byte (pages m) 0 ≡ 5
data_five in_primary size pages [] each m table is = absurd cc
data_five in_primary size pages (s ∷ stands) each m table is =
    at (has s.data_pages m) refl is (data_five in_primary size pages stands each.1 m table)
  where
    among : (owner k : ℕ) (ns : List ℕ) → EachFrom (IsTableData in_primary size pages owner) k ns
        → Has ns m → byte (pages m) 0 ≡ 5
    among owner k [] are there = absurd there
    among owner k (j ∷ js) are (inl e) = rw e (kind_of (pages j) j 5 owner k []
        (all_passes (common_checks (pages j) j 5 owner k) are.0.wanted.fields))
    among owner k (j ∷ js) are (inr more) = among owner (suc k) js are.1 more

    at : (c : Bool) → has s.data_pages m ≡ c → (if c then Some s.table else table_at stands m) ≡ Some table
        → (table_at stands m ≡ Some table → byte (pages m) 0 ≡ 5) → byte (pages m) 0 ≡ 5
    at true in_it is_ more =
        among s.table.pointer.0 0 s.data_pages each.0.data_pages (has_it s.data_pages m in_it)
    at false out is_ more = more is_

module _ (form : Form) (size : ℕ) (state : ℕ → TxState) (old new : Pages) (q : ℕ) (layout : Layout)
    (r : Reading) (none : HasNoSequences form) (trees : TreesStay form size)
    (sound : IsSoundBy form size state old layout r) (change : ChangesPointer old new q) where
  other_kind : (n kind : ℕ) → byte (old n) 0 ≡ kind → kind ≢ 4 → new n ≡ old n
  other_kind n kind is differs = change.others n
      (λ same. differs (sym is ∙ (ap (λ (m : ℕ). byte (old m) 0) same ∙ change.kind)))

  pub header_stays : new 0 ≡ old 0
  header_stays = other_kind 0 1 (kind_of (old 0) 0 1 0 0 _ sound.header.fields) (λ e. omega (arith, e))

  region_page : (region : ℕ) → inventory_page size region < GREATEST_LIMIT
      → new (inventory_page size region) ≡ old (inventory_page size region)
  region_page region below = at (sound.inventory region below)
    where
      at : HasRegion size old (inventory_page size region) region
          → new (inventory_page size region) ≡ old (inventory_page size region)
      at (inl empty) = other_kind (inventory_page size region) 0
          (ap (λ (page : List ℕ). byte page 0) empty ∙ byte_blank size) (λ e. omega (arith, e))
      at (inr wanted) = other_kind (inventory_page size region) 2
          (kind_of (old (inventory_page size region)) (inventory_page size region) 2 0 region []
          (all_passes (common_checks (old (inventory_page size region))
          (inventory_page size region) 2 0 region) wanted.fields)) (λ e. omega (arith, e))

  pub used_same : (n : ℕ) → is_used size new n ≡ is_used size old n
  unfolding is_used
  used_same n = ap (λ (page : List ℕ). used_in page (n % bits size))
      (at (cases_eq (inventory_page size (n / bits size)) q))
    where
      at : (inventory_page size (n / bits size) ≡ q) ⊎ (inventory_page size (n / bits size) ≢ q)
          → new (inventory_page size (n / bits size)) ≡ old (inventory_page size (n / bits size))
      at (inl e) = region_page (n / bits size) (subst (λ (m : ℕ). m < GREATEST_LIMIT) (sym e) change.below)
      at (inr ne) = change.others (inventory_page size (n / bits size)) ne

  pub used_on : (n : ℕ) → is_used size old n ≡ true → is_used size new n ≡ true
  used_on n is = used_same n ∙ is

  pub lengths_stay : (m : ℕ) → length (new m) ≡ length (old m)
  lengths_stay m = at (cases_eq m q)
    where
      at : (m ≡ q) ⊎ (m ≢ q) → length (new m) ≡ length (old m)
      at (inl e) = ap (λ (k : ℕ). length (new k)) e ∙ (change.len ∙ ap (λ (k : ℕ). length (old k)) (sym e))
      at (inr ne) = ap length (change.others m ne)

  pub inventory_still : HasInventory size new
  inventory_still region below = at (sound.inventory region below)
    where
      at : HasRegion size old (inventory_page size region) region
          → HasRegion size new (inventory_page size region) region
      at (inl empty) = inl (region_page region below ∙ empty)
      at (inr wanted) = inr (wanted_still size old new (inventory_page size region)
          (pip_checks (old (inventory_page size region)) (inventory_page size region) region)
          (pip_checks (new (inventory_page size region)) (inventory_page size region) region)
          (used_on (inventory_page size region))
          (ap (λ (page : List ℕ). pip_checks page (inventory_page size region) region)
          (region_page region below)) wanted)

  pub tip_stays : (sequence : ℕ) → sequence ≤ last_sequence size old
      → new (tip_page size old sequence) ≡ old (tip_page size old sequence)
  unfolding tip_checks
  tip_stays sequence below = other_kind (tip_page size old sequence) 3
      (kind_of (old (tip_page size old sequence)) (tip_page size old sequence) 3 0 sequence _
      (sound.transactions.each sequence below).fields) (λ e. omega (arith, e))

  pub trees_kept : KeepsTrees old new size layout
  trees_kept = trees state old new layout r sound used_on
      (λ m is seven. other_kind m 7 seven (λ e. omega (arith, e)))

  pub no_sequences : (ns : List ℕ) → EachPage (λ m. form.sequence_page (old m) m) ns
      → EachPage (λ m. form.sequence_page (new m) m) ns
  no_sequences [] each = tt
  no_sequences (m ∷ ms) each = absurd (none (old m) m each.0)

  -- where it is not linked, nothing that is linked changes
  pub pointer_unlinked : (Has (linked_pages size old layout) q → ⊥) → KeepsLinked form size old new layout
  pointer_unlinked off = record {
    header_page = header_stays;
    linked = λ m is. change.others m (λ e. off (subst (Has (linked_pages size old layout)) e is));
    used = used_on;
    lengths = lengths_stay;
    inventory = inventory_still;
    trees = trees_kept;
    sequences = no_sequences layout.sequences sound.sequences;
  }

-- an image as it is
pub keeps_all : (form : Form) (size : ℕ) (state : ℕ → TxState) (pages : Pages) (layout : Layout)
    (r : Reading) → TreesStay form size → IsSoundBy form size state pages layout r
    → KeepsLinked form size pages pages layout
keeps_all form size state pages layout r trees sound = record {
  header_page = refl;
  linked = λ m is. refl;
  used = λ m used. used;
  lengths = λ m. refl;
  inventory = sound.inventory;
  trees = trees state pages pages layout r sound (λ m used. used) (λ m is seven. refl);
  sequences = sound.sequences;
}
