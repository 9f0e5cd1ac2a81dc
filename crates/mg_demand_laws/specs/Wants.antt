-- What a caller knows of the pages that a batch writes: they are wanted, as pages of their tables.
use Rattle.std.specs.Prelude.{◌≡◌, ◌≢◌, ◌<◌, ◌+◌, ◌-◌, ◌*◌, ◌/◌, ◌^◌, ℕ, true, nat_lt, slice_index, List, length, Ok, Err, Result, is_ok}
use Rattle.std.proofs.Common.{inl, refl, sym, subst, ap, ◌∙◌, arith}
use Rattle.std.proofs.lemmas.Bool.{and_parts, lt-ltb}
use Rattle.std.proofs.lemmas.Nat.{div-mul-add}
use Rattle.mg_base.specs.Checks.{PassesAll, common_checks}
use Rattle.mg_base.specs.Fields.{byte}
use Rattle.mg_base.specs.declared.geometry.Geometry.{Geometry}
use Rattle.mg_base.specs.declared.geometry.TheConstants.{GREATEST_LIMIT}
use Rattle.mg_careful.specs.declared.links.Demand.{Demand}
use Rattle.mg_careful.specs.CarefulWrite.{DemandSet, Has, IsIn, either}
use Rattle.mg_header.specs.declared.header.HeadFault.{HeadFault}
use Rattle.mg_header.specs.declared.header.Header.{Header}
use Rattle.mg_header.specs.HeaderPage.{reading}
use Rattle.mg_image.specs.Form.{Pages}
use Rattle.mg_image.specs.Inventory.{inventory_page, is_used}
use Rattle.mg_image.specs.Tables.{Has as HasPage}
use Rattle.mg_pip.specs.PipPage.{bits, pip_checks}
use Rattle.mg_pointer.specs.PointerPage.{capacity, count_in, entries_of, next_in, pointer_checks}
use Rattle.mg_slots.specs.declared.page.TheConstants.{DATA_KIND}
use Rattle.mg_base.specs.Geometry.{is_page_size}
use Rattle.mg_space.specs.Demands.{bit_demand, demand, is_header, meets_by, meets_of}
use Rattle.mg_space.specs.Taking.{IsGeometry, TakesPage, region_of}
use Rattle.mg_space.specs.TakingLaws.{page_sizes}
use Rattle.mg_space.specs.declared.links.TheConstants.{BIT, DATA, HEADER, POINTER, TRANSACTIONS}
use Rattle.mg_tip.specs.TipPage.{tip_checks}
use Rattle.mg_demand_laws.specs.KindLaws.{kind_of, pointer_kind}
use Rattle.mg_demand_laws.specs.Met.{ok_passes}
use Rattle.mg_demand_laws.specs.NumberLaws.{header_kind}
use Rattle.mg_demand_laws.specs.Wanting.{IsWanting, want_of}
use Rattle.mg_demand_laws.specs.WantingLaws.{in_one}

-- the bit of a page is wanted
abbrev pub WantsBit : ℕ → DemandSet → ℕ → Type 0
WantsBit size wanted n = IsIn wanted (want_of (inventory_page size (region_of size n)) BIT n 0)

-- A page is wanted as a data page of an owner at a place, and its bit is.
pub record WantsData (size : ℕ) (wanted : DemandSet) (n owner place : ℕ) : Type 0 where
  pub page : IsIn wanted (want_of n DATA owner place)
  pub bit : WantsBit size wanted n

-- it is, at some place of some owner
pub record IsDataOf (size : ℕ) (wanted : DemandSet) (n : ℕ) : Type 0 where
  pub owner : ℕ
  pub place : ℕ
  pub wants : WantsData size wanted n owner place

-- A page is wanted as a pointer page of an owner at a place of its chain, and its bit is.
pub record WantsPointer (size : ℕ) (wanted : DemandSet) (n owner at : ℕ) : Type 0 where
  pub page : IsIn wanted (want_of n POINTER owner at)
  pub bit : WantsBit size wanted n

-- The pages of a table are wanted: each of its data pages, and its last pointer page at its place, which
-- tells the place of the next data page, as all pointer pages before it are full.
pub record WantsTable (size : ℕ) (view : Pages) (wanted : DemandSet) (owner : ℕ)
    (pointers data_pages : List ℕ) : Type 0 where
  pub data_ : (n : ℕ) → HasPage data_pages n → IsDataOf size wanted n
  pub last : WantsPointer size wanted (slice_index pointers (length pointers - 1)) owner (length pointers - 1)
  pub placed : length data_pages ≡ (length pointers - 1) * capacity size
      + count_in (view (slice_index pointers (length pointers - 1)))
  pub small : (owner < 2 ^ 32) × (length data_pages < 2 ^ 32) × (length pointers < 2 ^ 32)

-- A pointer page as it stands in a chain: the pages that it names are below the limit of every database, and
-- where it names a next one it is full.
pub record IsOrderly (size : ℕ) (page : List ℕ) : Type 0 where
  pub next : next_in page < GREATEST_LIMIT
  pub entries : (n : ℕ) → HasPage (entries_of page) n → n < GREATEST_LIMIT
  pub full : next_in page ≢ 0 → count_in page ≡ capacity size

-- each pointer page that is wanted is
abbrev pub AreOrderly : ℕ → Pages → DemandSet → Type 0
AreOrderly size pages wanted = (n owner at : ℕ) → IsIn wanted (want_of n POINTER owner at)
    → IsOrderly size (pages n)

-- A page that is marked as used, and is neither the header page nor one of the page inventory.
pub record IsTaken (size : ℕ) (pages : Pages) (n : ℕ) : Type 0 where
  pub off_header : n ≢ 0
  pub off_inventory : (region : ℕ) → inventory_page size region ≢ n
  pub used : is_used size pages n ≡ true

-- ---- what is wanted is wanted still where more is

pub still_data : (size : ℕ) (wanted more : DemandSet) (n : ℕ) → IsDataOf size wanted n
    → IsDataOf size (either wanted more) n
still_data size wanted more n it = record {
  owner = it.owner;
  place = it.place;
  wants = record {
    page = in_one wanted more (want_of n DATA it.owner it.place) it.wants.page;
    bit = in_one wanted more (want_of (inventory_page size (region_of size n)) BIT n 0) it.wants.bit;
  };
}

-- ---- what a page is that is wanted

met_by : (size : ℕ) (page : List ℕ) (want : Demand) → length page ≡ size
    → meets_of page want ≡ true → meets_by size page want ≡ true
unfolding meets_of
met_by size page want len is = subst (λ (k : ℕ). meets_by k page want ≡ true) len
    (and_parts (is_page_size (length page)) _ is).1

module _ (size : ℕ) (pages : Pages) (wanted : DemandSet) (was : IsWanting size pages wanted) where
  pub data_passes : (n owner place : ℕ) → IsIn wanted (want_of n DATA owner place)
      → PassesAll (common_checks (pages n) n DATA_KIND owner place)
  data_passes n owner place h = ok_passes (record { 0 = n }) (common_checks (pages n) n DATA_KIND owner place)
      (met_by size (pages n) (want_of n DATA owner place) (was.whole n) (was.keeps.met (want_of n DATA owner place) h))

  pub pointer_passes : (n owner at : ℕ) → IsIn wanted (want_of n POINTER owner at)
      → PassesAll (pointer_checks (pages n) n owner at)
  pointer_passes n owner at h = ok_passes (record { 0 = n }) (pointer_checks (pages n) n owner at)
      (met_by size (pages n) (want_of n POINTER owner at) (was.whole n) (was.keeps.met (want_of n POINTER owner at) h))

  pub tip_passes : (n sequence : ℕ) → IsIn wanted (want_of n TRANSACTIONS sequence 0)
      → PassesAll (tip_checks (pages n) n sequence)
  tip_passes n sequence h = ok_passes (record { 0 = n }) (tip_checks (pages n) n sequence)
      (met_by size (pages n) (want_of n TRANSACTIONS sequence 0) (was.whole n)
      (was.keeps.met (want_of n TRANSACTIONS sequence 0) h))

  pub is_head : IsIn wanted (want_of 0 HEADER 0 0) → is_header size (pages 0) ≡ true
  is_head h = met_by size (pages 0) (want_of 0 HEADER 0 0) (was.whole 0) (was.keeps.met (want_of 0 HEADER 0 0) h)

  -- an inventory page has kind 2
  bit_kind : (at n : ℕ) → IsIn wanted (want_of at BIT n 0) → byte (pages at) 0 ≡ 2
  bit_kind at n h = kind_of (pages at) at 2 0 (n / bits size) (ok_passes (record { 0 = at })
      (pip_checks (pages at) at (n / bits size)) (and_parts _ _
      (met_by size (pages at) (want_of at BIT n 0) (was.whole at) (was.keeps.met (want_of at BIT n 0) h))).0)

  -- the header page has kind 1
  head_kind : IsIn wanted (want_of 0 HEADER 0 0) → byte (pages 0) 0 ≡ 1
  head_kind h = at (reading (pages 0) size) refl (is_head h)
    where
      at : (r : Result Header HeadFault) → reading (pages 0) size ≡ r → is_ok r ≡ true → byte (pages 0) 0 ≡ 1
      at (Ok header) is ok = header_kind size (pages 0) header is
      at (Err fault) is ok = absurd cc

  -- an inventory page is the first of its own region
  own_region : (region : ℕ) → region_of size (inventory_page size region) ≡ region
  own_region region = let sizes = page_sizes size was.lawful in let least = sizes.0 in
      div-mul-add region (bits size) 1 (omega (arith, least))

  -- so a page of another kind, whose bit is wanted, is no inventory page
  pub taken_is : (n kind : ℕ) → IsIn wanted (want_of 0 HEADER 0 0) → WantsBit size wanted n
      → byte (pages n) 0 ≡ kind → 3 < kind + 1 → (d : Demand) → IsIn wanted d → d.target ≡ n → IsTaken size pages n
  taken_is n kind head bit is high d h same = record {
    off_header = λ none. let one = head_kind head in
        let zero_ : byte (pages n) 0 ≡ byte (pages 0) 0 = ap (λ (k : ℕ). byte (pages k) 0) none in
        omega (arith, one, zero_, is, high);
    off_inventory = λ region on.
        let at_own : inventory_page size (region_of size n) ≡ n =
        ap (λ (k : ℕ). inventory_page size (region_of size k)) (sym on)
        ∙ (ap (inventory_page size) (own_region region) ∙ on) in
        let two = bit_kind (inventory_page size (region_of size n)) n bit in
        let there : byte (pages (inventory_page size (region_of size n))) 0 ≡ byte (pages n) 0 =
        ap (λ (k : ℕ). byte (pages k) 0) at_own in
        omega (arith, two, there, is, high);
    used = subst (λ (k : ℕ). is_used size pages k ≡ true) same (was.used d h);
  }

  pub data_taken : (n : ℕ) → IsIn wanted (want_of 0 HEADER 0 0) → IsDataOf size wanted n → IsTaken size pages n
  data_taken n head it = taken_is n DATA_KIND head it.wants.bit
      (kind_of (pages n) n DATA_KIND it.owner it.place (data_passes n it.owner it.place it.wants.page))
      (omega arith) (want_of n DATA it.owner it.place) it.wants.page refl

  pub pointer_taken : (n owner at : ℕ) → IsIn wanted (want_of 0 HEADER 0 0) → WantsPointer size wanted n owner at
      → IsTaken size pages n
  pointer_taken n owner at head it = taken_is n 4 head it.bit
      (pointer_kind (pages n) n owner at (pointer_passes n owner at it.page))
      (omega arith) (want_of n POINTER owner at) it.page refl

-- ---- the bit of a page that is taken

pub bit_there : (g : Geometry) (old new : Pages) (n : ℕ) → IsGeometry g → TakesPage g old new n
    → Has (bit_demand g.size n) (want_of (inventory_page g.size (region_of g.size n)) BIT n 0)
unfolding demand
bit_there g old new n lawful takes = rw (low, small) (inl refl)
  where
    low : nat_lt (inventory_page g.size (region_of g.size n)) 4294967296 ≡ true
    low = let region = takes.free.region in
        lt-ltb (inventory_page g.size (region_of g.size n)) 4294967296 (omega (arith, region))

    small : nat_lt n 4294967296 ≡ true
    small = let below = takes.free.below in
        lt-ltb n 4294967296 (omega (arith, below))
