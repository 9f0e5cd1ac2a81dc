-- The pages of a table are wanted, since its first pointer page is: each pointer page demands its data pages, and
-- the next one.
use Rattle.std.specs.Prelude.{◌≡◌, ◌≢◌, ◌⊎◌, ◌<◌, ◌≤◌, ◌+◌, ◌-◌, ◌*◌, ◌^◌, ◌++◌, ℕ, zero, suc, Bool, slice_index, List, [], ◌∷◌, length, if◌then◌else◌}
use Rattle.std.proofs.Common.{inl, inr, refl, sym, subst, ap, ◌∙◌, arith, length-append}
use Rattle.std.proofs.Math.Nat.{div-mul-le_self, suc-mul}
use Rattle.std.proofs.lemmas.Bool.{cases_eq, lt-ltb, ne_eqb}
use Rattle.std.proofs.lemmas.Nat.{mul-le}
use Rattle.mg_base.specs.Fields.{u32_at}
use Rattle.mg_base.specs.declared.geometry.TheConstants.{GREATEST_LIMIT}
use Rattle.mg_careful.specs.declared.links.Demand.{Demand}
use Rattle.mg_careful.specs.CarefulWrite.{DemandSet, Has, IsIn}
use Rattle.mg_demand_laws.specs.GrowDemands.{count_in_fits}
use Rattle.mg_heap.specs.Reach.{MayOwn}
use Rattle.mg_heap.specs.Table.{IsPointerAt, IsTable}
use Rattle.mg_heap.specs.TableLaws.{once_short}
use Rattle.mg_image.specs.Form.{Pages}
use Rattle.mg_image.specs.Inventory.{inventory_page}
use Rattle.mg_image.specs.Tables.{EachFrom, Has as HasPage, IsOnce, LinkChain, ended, entries_in, goes}
use Rattle.mg_pip.specs.PipPage.{bits}
use Rattle.mg_pointer.specs.PointerPage.{capacity, count_in, entries_of, first_entries, next_in, place_of}
use Rattle.mg_space.specs.Demands.{bit_demand, demand, entry_demand, entry_demands, linked, pointer_demands}
use Rattle.mg_space.specs.Taking.{region_of}
use Rattle.mg_space.specs.TakingLaws.{page_sizes}
use Rattle.mg_space.specs.declared.links.TheConstants.{BIT, DATA, POINTER}
use Rattle.mg_demand_laws.specs.KindLaws.{from_want, pointer_is}
use Rattle.mg_demand_laws.specs.Met.{has_back, has_front}
use Rattle.mg_demand_laws.specs.PointerLaws.{length-first}
use Rattle.mg_demand_laws.specs.Wanting.{IsWanting, want_of}
use Rattle.mg_demand_laws.specs.Wants.{AreOrderly, IsDataOf, IsOrderly, WantsPointer, WantsTable, pointer_passes}

-- the law: a table whose first pointer page is wanted, among orderly pointer pages
abbrev pub TablesAreWanted : Type 0
TablesAreWanted = (size : ℕ) (pages : Pages) (wanted : DemandSet) (owner : ℕ) (pointers data_pages : List ℕ)
    → IsWanting size pages wanted → AreOrderly size pages wanted → MayOwn owner
    → WantsPointer size wanted owner owner 0 → IsTable pages owner pointers data_pages
    → WantsTable size pages wanted owner pointers data_pages

-- ---- demands of small numbers

pub demand_there : (target what a b : ℕ) → target < 2 ^ 32 → a < 2 ^ 32 → b < 2 ^ 32
    → Has (demand target what a b) (want_of target what a b)
unfolding demand
demand_there target what a b low small few =
    rw (
      lt-ltb target 4294967296 (omega (arith, low)),
      lt-ltb a 4294967296 (omega (arith, small)),
      lt-ltb b 4294967296 (omega (arith, few)),
    ) (inl refl)

pub bit_wanted : (size n : ℕ) → n < GREATEST_LIMIT
    → Has (bit_demand size n) (want_of (inventory_page size (region_of size n)) BIT n 0)
bit_wanted size n below = demand_there (inventory_page size (region_of size n)) BIT n 0
    (let part = div-mul-le_self n (bits size) in omega (arith, part, below)) (omega (arith, below)) (omega arith)

-- ---- entries of a pointer page

pub has_page_either : (xs ys : List ℕ) (n : ℕ) → HasPage (xs ++ ys) n → HasPage xs n ⊎ HasPage ys n
has_page_either [] ys n h = inr h
has_page_either (x ∷ xs) ys n (inl same) = inl (inl same)
has_page_either (x ∷ xs) ys n (inr h) = elim (has_page_either xs ys n h) [
  | inl there ↦ inl (inr there)
  | inr there ↦ inr there
]

entry_place : (page : List ℕ) (k n : ℕ) → HasPage (first_entries page k) n
    → (j : ℕ) × (j < k) × (n ≡ u32_at page (place_of j))
entry_place page zero n h = absurd h
entry_place page (suc k) n h = elim (has_page_either (first_entries page k) (u32_at page (place_of k) ∷ []) n h) [
  | inl there ↦ let it = entry_place page k n there in (it.0, omega (arith, it.1), it.2)
  | inr here ↦ elim here [
    | inl same ↦ (k, omega arith, same)
    | inr none ↦ absurd none
  ]
]

-- what an entry demands, its page does
entry_there : (size : ℕ) (page : List ℕ) (owner at j k : ℕ) → j < k → (e : Demand)
    → Has (entry_demand size page owner at j) e → Has (entry_demands size page owner at k) e
entry_there size page owner at j zero less e h = absurd (omega (arith, less))
entry_there size page owner at j (suc k) less e h = elim (cases_eq j k) [
  | inl same ↦ has_back (entry_demands size page owner at k) _ e
      (subst (λ (i : ℕ). Has (entry_demand size page owner at i) e) same h)
  | inr other ↦ has_front (entry_demands size page owner at k) _ e
      (entry_there size page owner at j k (omega (arith, less, other)) e h)
]

pub count_is : (page : List ℕ) → length (entries_of page) ≡ count_in page
unfolding entries_of
count_is page = length-first page (count_in page)

-- ---- chains

-- a number that stands in a list stands at one of its places
pub later_place : (P : ℕ → ℕ → Type 0) (at : ℕ) (ns : List ℕ) (n : ℕ) → EachFrom P at ns → HasPage ns n
    → (k : ℕ) × (at ≤ k) × P k n
later_place P at [] n each h = absurd h
later_place P at (m ∷ ms) n each (inl same) = (at, omega arith, subst (λ (k : ℕ). P at k) (sym same) each.0)
later_place P at (m ∷ ms) n each (inr h) =
    let it = later_place P (suc at) ms n each.1 h in
    let less : suc at ≤ it.0 = it.1 in (it.0, omega (arith, less), it.2)

-- a pointer page tells its place, so none stands twice
places_once : (pages : Pages) (owner at : ℕ) (ns : List ℕ) → EachFrom (IsPointerAt pages owner) at ns → IsOnce ns
places_once pages owner at [] each = tt
places_once pages owner at (n ∷ ns) each = (
  λ again.
      let it = later_place (IsPointerAt pages owner) (suc at) ns n each.1 again in
      let less : suc at ≤ it.0 = it.1 in
      let same = pointer_is (pages n) n owner at owner it.0 each.0 it.2 in
      let place : at ≡ it.0 = same.1 in absurd (omega (arith, less, place)),
  places_once pages owner (suc at) ns each.1,
)

-- a property that each number of a list has at its place
at_index : (P : ℕ → ℕ → Type 0) (at : ℕ) (ns : List ℕ) (i : ℕ) → EachFrom P at ns → i < length ns
    → P (at + i) (slice_index ns i)
at_index P at [] i each less = absurd (omega (arith, less))
at_index P at (n ∷ ns) zero each less =
    subst (λ (k : ℕ). P k n) (let same : at ≡ at + 0 = omega arith in same) each.0
at_index P at (n ∷ ns) (suc i) each less = subst (λ (k : ℕ). P k (slice_index ns i))
    (let same : suc at + i ≡ at + suc i = omega arith in same)
    (at_index P (suc at) ns i each.1 (omega (arith, less)))

module _ (size : ℕ) (pages : Pages) (wanted : DemandSet) (owner : ℕ) (pointers data_pages : List ℕ) (was : IsWanting size pages wanted) (orderly : (n at : ℕ) → IsIn wanted (want_of n POINTER owner at) → HasPage pointers n → IsOrderly size (pages n)) (owns : MayOwn owner) where
  abbrev next : ℕ → ℕ
  next n = next_in (pages n)

  abbrev few : ℕ
  few = capacity size

  few_fits : few ≤ 4096
  few_fits = let sizes = page_sizes size was.lawful in let most = sizes.1 in omega (arith, most)

  -- what a pointer page demands is wanted
  turn : (n at : ℕ) → WantsPointer size wanted n owner at → (e : Demand)
      → Has (pointer_demands size (pages n) owner at) e → IsIn wanted e
  turn n at it e h = was.keeps.in_turn (want_of n POINTER owner at) e it.page
      (from_want size pages wanted was (pages n) (was.whole n) (want_of n POINTER owner at) (want_of n POINTER owner at)
      e refl h)

  -- the next pointer page is wanted
  next_wanted : (n at : ℕ) → WantsPointer size wanted n owner at → HasPage pointers n → next n ≢ 0 → at < GREATEST_LIMIT
      → WantsPointer size wanted (next n) owner (at + 1)
  next_wanted n at it inside some low = record {
    page = turn n at it (want_of (next n) POINTER owner (at + 1)) (behind (want_of (next n) POINTER owner (at + 1))
        (has_front (demand (next n) POINTER owner (at + 1)) (bit_demand size (next n)) _
        (demand_there (next n) POINTER owner (at + 1) (let below = fits.next in omega (arith, below))
        (let below = owns.below in omega (arith, below)) (omega (arith, low)))));
    bit = turn n at it (want_of (inventory_page size (region_of size (next n))) BIT (next n) 0)
        (behind (want_of (inventory_page size (region_of size (next n))) BIT (next n) 0)
        (has_back (demand (next n) POINTER owner (at + 1)) (bit_demand size (next n)) _
        (bit_wanted size (next n) fits.next)));
  }
    where
      fits : IsOrderly size (pages n)
      fits = orderly n at it.page inside

      behind : (e : Demand) → Has (linked size (next n) POINTER owner (at + 1)) e
          → Has (pointer_demands size (pages n) owner at) e
      behind e h = has_back (entry_demands size (pages n) owner at (count_in (pages n))) _ e
          (subst (λ (c : Bool). Has (if c then [] else linked size (next n) POINTER owner (at + 1)) e)
          (sym (ne_eqb (next n) 0 some)) h)

  count_fits : (n at : ℕ) → WantsPointer size wanted n owner at → count_in (pages n) ≤ few
  count_fits n at it = subst (λ (k : ℕ). count_in (pages n) ≤ capacity k) (was.whole n)
      (count_in_fits (pages n) n owner at (pointer_passes size pages wanted was n owner at it.page))

  place_small : (at j : ℕ) → at < GREATEST_LIMIT → j < 4096 → at * few + j < 2 ^ 32
  place_small at j low inside =
      let product : at * few ≤ 131072 * 4096 = mul-le at few 131072 4096 (omega (arith, low)) few_fits in
      omega (arith, product, inside)

  -- an entry's data page is wanted
  entry_at : (n at m j : ℕ) → WantsPointer size wanted n owner at → HasPage pointers n → at < GREATEST_LIMIT
      → HasPage (entries_of (pages n)) m → j < count_in (pages n) → m ≡ u32_at (pages n) (place_of j)
      → IsDataOf size wanted m
  entry_at n at m j it within low h inside is = record {
    owner = owner;
    place = at * few + j;
    wants = record {
      page = turn n at it (want_of m DATA owner (at * few + j)) (there (want_of m DATA owner (at * few + j))
          (has_front (demand m DATA owner (at * few + j)) (bit_demand size m) _
          (demand_there m DATA owner (at * few + j) (omega (arith, below))
          (let own = owns.below in omega (arith, own))
          (place_small at j low (let fits = count_fits n at it in let most = few_fits in omega (arith, inside, fits, most))))));
      bit = turn n at it (want_of (inventory_page size (region_of size m)) BIT m 0)
          (there (want_of (inventory_page size (region_of size m)) BIT m 0)
          (has_back (demand m DATA owner (at * few + j)) (bit_demand size m) _ (bit_wanted size m below)));
    };
  }
    where
      below : m < GREATEST_LIMIT
      below = (orderly n at it.page within).entries m h

      there : (e : Demand) → Has (linked size m DATA owner (at * few + j)) e
          → Has (pointer_demands size (pages n) owner at) e
      there e made = has_front (entry_demands size (pages n) owner at (count_in (pages n))) _ e
          (entry_there size (pages n) owner at j (count_in (pages n)) inside e
          (subst (λ (k : ℕ). Has (linked size k DATA owner (at * few + j)) e) is made))

  entry_wanted : (n at : ℕ) → WantsPointer size wanted n owner at → HasPage pointers n → at < GREATEST_LIMIT → (m : ℕ)
      → HasPage (entries_of (pages n)) m → IsDataOf size wanted m
  unfolding entries_of
  entry_wanted n at it within low m h =
      let place = entry_place (pages n) (count_in (pages n)) m h in
      entry_at n at m place.0 it within low h place.1 place.2

  -- a pointer page is wanted at its place, which is below the limit
  abbrev WantsPlace : ℕ → ℕ → Type 0
  WantsPlace at n = WantsPointer size wanted n owner at × (at < GREATEST_LIMIT)

  -- a page that was passed is below the limit, and stands before a place
  abbrev IsPassed : ℕ → ℕ → Type 0
  IsPassed at n = (n < GREATEST_LIMIT) × ((k : ℕ) × (k < at) × IsPointerAt pages owner k n)

  -- so is each pointer page of a chain: those that were passed are different ones, so there are no more of them
  -- than the limit says
  walk : (passed : List ℕ) (n : ℕ) (ns : List ℕ) → LinkChain next n ns
      → EachFrom (IsPointerAt pages owner) (length passed) ns → IsOnce passed
      → ((m : ℕ) → HasPage passed m → IsPassed (length passed) m) → ((m : ℕ) → HasPage ns m → HasPage pointers m)
      → (n ≢ 0 → WantsPointer size wanted n owner (length passed) × (n < GREATEST_LIMIT))
      → EachFrom WantsPlace (length passed) ns
  walk passed n ns ended tested once passes inside first = tt
  walk passed n ns (goes k ks some more) tested once passes inside first = (
    (it.0, low),
    walk (k ∷ passed) (next k) ks more tested.1 once_more passes_more (λ m h. inside m (inr h)) (λ further. (
      subst (λ (i : ℕ). WantsPointer size wanted (next k) owner i)
          (let same : length passed + 1 ≡ suc (length passed) = omega arith in same)
          (next_wanted k (length passed) it.0 (inside k (inl refl)) further low),
      (orderly k (length passed) it.0.page (inside k (inl refl))).next,
    )),
  )
    where
      it : WantsPointer size wanted k owner (length passed) × (k < GREATEST_LIMIT)
      it = first some

      new_one : HasPage passed k → ⊥
      new_one again =
          let before = (passes k again).1 in
          let same = pointer_is (pages k) k owner (length passed) owner before.0 tested.0 before.2 in
          let place : length passed ≡ before.0 = same.1 in
          let less : before.0 < length passed = before.1 in absurd (omega (arith, place, less))

      once_more : IsOnce (k ∷ passed)
      once_more = (new_one, once)

      below_all : (m : ℕ) → HasPage (k ∷ passed) m → m < GREATEST_LIMIT
      below_all m (inl same) = subst (λ (i : ℕ). i < GREATEST_LIMIT) (sym same) it.1
      below_all m (inr h) = (passes m h).0

      low : length passed < GREATEST_LIMIT
      low = let most = once_short (k ∷ passed) GREATEST_LIMIT once_more below_all in omega (arith, most)

      passes_more : (m : ℕ) → HasPage (k ∷ passed) m → IsPassed (suc (length passed)) m
      passes_more m (inl same) = subst (IsPassed (suc (length passed))) (sym same)
          (it.1, (length passed, omega arith, tested.0))
      passes_more m (inr h) =
          let was_ = passes m h in
          let less : was_.1.0 < length passed = was_.1.1 in (was_.0, (was_.1.0, omega (arith, less), was_.1.2))

  -- each data page is wanted, as one of the owner's
  listed_data : (at : ℕ) (ns : List ℕ) → EachFrom WantsPlace at ns → ((m : ℕ) → HasPage ns m → HasPage pointers m) → (m : ℕ)
      → HasPage (entries_in pages ns) m → IsDataOf size wanted m
  listed_data at [] each inside m h = absurd h
  listed_data at (n ∷ ns) each inside m h = elim (has_page_either (entries_of (pages n)) (entries_in pages ns) m h) [
    | inl here ↦ entry_wanted n at each.0.0 (inside n (inl refl)) each.0.1 m here
    | inr later ↦ listed_data (suc at) ns each.1 (λ k there. inside k (inr there)) m later
  ]

  leads : (n m : ℕ) (ms : List ℕ) → LinkChain next n (m ∷ ms) → n ≢ 0
  leads n m ms (goes k ks some more) = some

  -- the pages before the last one are full
  filled : (at n : ℕ) (ns : List ℕ) → LinkChain next n ns
      → EachFrom WantsPlace at ns → ((m : ℕ) → HasPage ns m → HasPage pointers m) → (i : ℕ) → suc i ≡ length ns
      → length (entries_in pages ns) ≡ i * few + count_in (pages (slice_index ns i))
  filled at n ns ended each inside i is = absurd (omega (arith, is))
  filled at n ns (goes k [] some more) each inside zero is =
      let one = count_is (pages k) in
      let all = length-append (entries_of (pages k)) [] in
      let none : 0 * few ≡ 0 = omega arith in omega (arith, one, all, none)
  filled at n ns (goes k [] some more) each inside (suc i) is = absurd (omega (arith, is))
  filled at n ns (goes k (m ∷ ms) some more) each inside zero is = absurd (omega (arith, is))
  filled at n ns (goes k (m ∷ ms) some more) each inside (suc i) is =
      let rest = filled (suc at) (next k) (m ∷ ms) more each.1 (λ x there. inside x (inr there)) i (omega (arith, is)) in
      let all = length-append (entries_of (pages k)) (entries_in pages (m ∷ ms)) in
      let one = count_is (pages k) in
      let full = (orderly k at each.0.0.page (inside k (inl refl))).full (leads (next k) m ms more) in
      let product : suc i * few ≡ i * few + few = suc-mul i few in
      omega (arith, rest, all, one, full, product)

  -- ---- a table

  module _ (root : WantsPointer size wanted owner owner 0) (table : IsTable pages owner pointers data_pages) where
    abbrev at : ℕ
    at = length pointers - 1

    some : (n : ℕ) (ns : List ℕ) → LinkChain next n ns → n ≢ 0 → 0 < length ns
    some n ns ended other = absurd (other refl)
    some n ns (goes k ks one more) other = omega arith

    has_some : 0 < length pointers
    has_some = some owner pointers table.chain owns.some

    each : EachFrom WantsPlace 0 pointers
    each = walk [] owner pointers table.chain table.tested tt (λ m none. absurd none) (λ m h. h) (λ other. (root, owns.below))

    at_last : WantsPlace at (slice_index pointers at)
    at_last = subst (λ (k : ℕ). WantsPlace k (slice_index pointers at))
        (let same : 0 + at ≡ at = omega arith in same)
        (at_index WantsPlace 0 pointers at each (let more = has_some in omega (arith, more)))

    placed : length data_pages ≡ at * few + count_in (pages (slice_index pointers at))
    placed = ap (λ (ns : List ℕ). length ns) table.entries
        ∙ filled 0 owner pointers table.chain each (λ m h. h) at (let more = has_some in omega (arith, more))

    pub table_wanted : WantsTable size pages wanted owner pointers data_pages
    table_wanted = record {
      data_ = λ m h. listed_data 0 pointers each (λ k there. there) m (subst (λ (ns : List ℕ). HasPage ns m) table.entries h);
      last = at_last.0;
      placed = placed;
      small = (
        let own = owns.below in omega (arith, own),
        (let fits = count_fits (slice_index pointers at) at at_last.0 in
            let most = few_fits in
            let is = placed in
            let low = at_last.1 in
            let product : at * few ≤ 131072 * 4096 = mul-le at few 131072 4096 (omega (arith, low)) few_fits in
            omega (arith, fits, most, is, product)),
        let low = at_last.1 in omega (arith, low),
      );
    }

pub tables_are_wanted : TablesAreWanted
tables_are_wanted size pages wanted owner pointers data_pages was orderly owns root table =
    table_wanted size pages wanted owner pointers data_pages was (λ n at h inside. orderly n owner at h) owns root table
