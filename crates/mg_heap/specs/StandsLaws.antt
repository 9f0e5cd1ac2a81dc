-- Laws of the data pages of a table that stands in a layout.
use Rattle.std.specs.Prelude.{◌≡◌, ◌<◌, ◌≤◌, ◌+◌, ◌⊎◌, Bool, ℕ, suc, List, [], ◌∷◌, length}
use Rattle.std.proofs.Common.{refl, sym, ap, subst, ◌∙◌, arith, inl, inr, get_or}
use Rattle.mg_base.specs.Checks.{PassesAll, common_checks}
use Rattle.mg_image.specs.Form.{Pages}
use Rattle.mg_image.specs.Sound.{HasTablePages, IsTableData}
use Rattle.mg_image.specs.Tables.{EachFrom, Has, IsOnce, Stand}
use Rattle.mg_slots.specs.declared.page.TheConstants.{DATA_KIND}
use Rattle.mg_heap.specs.Reading.{sequence_in}

-- a data page names its place
pub names_place : (b : List ℕ) (n kind owner at : ℕ) → PassesAll (common_checks b n kind owner at)
    → sequence_in b ≡ at
unfolding common_checks
names_place b n kind owner at passes = passes.1.1.1.1.1.0

module _ (in_primary : Bool) (size : ℕ) (pages : Pages) (owner : ℕ) where
  -- a page of a list names a place from its begin on
  named_from : (at : ℕ) (ns : List ℕ) (n : ℕ) → EachFrom (IsTableData in_primary size pages owner) at ns
      → Has ns n → at ≤ sequence_in (pages n)
  named_from at [] n each has = absurd has
  named_from at (m ∷ ms) n each (inl same) =
      let named = names_place (pages m) m DATA_KIND owner at each.0.wanted.fields in
      let own : sequence_in (pages n) ≡ sequence_in (pages m) =
      ap (λ (k : ℕ). sequence_in (pages k)) same in
      omega (arith, named, own)
  named_from at (m ∷ ms) n each (inr later) =
      let further = named_from (suc at) ms n each.1 later in omega (arith, further)

  places_once : (at : ℕ) (ns : List ℕ) → EachFrom (IsTableData in_primary size pages owner) at ns
      → IsOnce ns
  places_once at [] each = tt
  places_once at (n ∷ ns) each = (
    (λ later. let further = named_from (suc at) ns n each.1 later in
        let named = names_place (pages n) n DATA_KIND owner at each.0.wanted.fields in
        omega (arith, further, named)),
    places_once (suc at) ns each.1,
  )

  -- a page of a list stands there at the place that it names, counted from the list's begin
  named_at : (at : ℕ) (ns : List ℕ) (n : ℕ) → EachFrom (IsTableData in_primary size pages owner) at ns
      → Has ns n → (place : ℕ) × (place < length ns) × (get_or ns place 0 ≡ n)
      × (at + place ≡ sequence_in (pages n))
  named_at at [] n each has = absurd has
  named_at at (m ∷ ms) n each (inl same) = (
    0,
    omega arith,
    sym same,
    (let named = names_place (pages m) m DATA_KIND owner at each.0.wanted.fields in
        let own : sequence_in (pages n) ≡ sequence_in (pages m) =
        ap (λ (k : ℕ). sequence_in (pages k)) same in
        omega (arith, named, own)),
  )
  named_at at (m ∷ ms) n each (inr later) =
      let found = named_at (suc at) ms n each.1 later in (
        suc found.0,
        (let inside = found.1 in omega (arith, inside)),
        found.2,
        (let named = found.3 in omega (arith, named)),
      )

  pub stands_at_its_place : (ns : List ℕ) (n : ℕ)
      → EachFrom (IsTableData in_primary size pages owner) 0 ns → Has ns n
      → (sequence_in (pages n) < length ns) × (get_or ns (sequence_in (pages n)) 0 ≡ n)
  stands_at_its_place ns n each has =
      let found = named_at 0 ns n each has in
      let place : found.0 ≡ sequence_in (pages n) = (let named = found.3 in omega (arith, named)) in (
        subst (λ (k : ℕ). k < length ns) place found.1,
        subst (λ (k : ℕ). get_or ns k 0 ≡ n) place found.2,
      )

-- no data page stands twice in a table, since each names its place
pub data_pages_once : (in_primary : Bool) (size : ℕ) (pages : Pages) (stand : Stand)
    → HasTablePages in_primary size pages stand → IsOnce stand.data_pages
data_pages_once in_primary size pages stand has =
    places_once in_primary size pages stand.table.pointer.0 0 stand.data_pages has.data_pages
