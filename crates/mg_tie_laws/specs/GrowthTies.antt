-- A table that gets a data page by the heap grows as the laws on overlays take it.
use Rattle.std.proofs.Common.{◌≡◌, ◌≢◌, ◌⊎◌, inl, inr, ap, sym, subst, ◌∙◌, refl, arith, ℕ, ◌+◌, ◌<◌, ◌≤◌, ◌^◌, Bool, true, false, List, [], ◌∷◌, length, Option, None}
use Rattle.std.specs.Prelude.{take}
use Rattle.std.proofs.lemmas.Bool.{cases_eq}
use Rattle.mg_base.specs.CheckLaws.{front_checks, new_passes}
use Rattle.mg_base.specs.Checks.{PassesAll, common_checks}
use Rattle.mg_base.specs.Fields.{byte, new_page, take-with_u16}
use Rattle.mg_base.specs.Image.{Image}
use Rattle.mg_base.specs.declared.fields.TheConstants.{COMMON}
use Rattle.mg_base.specs.declared.geometry.Geometry.{Geometry}
use Rattle.mg_base.specs.declared.geometry.TheConstants.{GREATEST_LIMIT}
use Rattle.mg_careful.specs.Precedence.{Orders}
use Rattle.mg_image.specs.Form.{Pages}
use Rattle.mg_image.specs.Inventory.{inventory_page, is_used}
use Rattle.mg_pointer.specs.PointerPage.{AddsEntry}
use Rattle.mg_careful.specs.declared.graph.Order.{Order}
use Rattle.mg_pool.specs.Batch.{Changed, lists}
use Rattle.mg_pool.specs.declared.pool.Pool.{Pool}
use Rattle.mg_slots.specs.DataPage.{IsDataPage, IsNewPage, cell_of}
use Rattle.mg_slots.specs.declared.page.TheConstants.{DATA_KIND, LOW_AT}
use Rattle.mg_space.specs.Taking.{IsGeometry, region_of}
use Rattle.mg_space.specs.View.{viewed}
use Rattle.mg_space.specs.ViewLaws.{viewed_else, viewed_here}
use Rattle.mg_tie_laws.specs.Occupied.{taken_are_occupied}
use Rattle.mg_tie_laws.specs.Pointers.{entry_passes}
use Rattle.mg_image_overlay_laws.specs.pages.EntryPage.{EntersPage}
use Rattle.mg_image_overlay_laws.specs.pages.ExtendEvery.{OrdersPage}
use Rattle.mg_image_overlay_laws.specs.pages.TakePart.{OccupiesPage}
use Rattle.mg_heap.specs.Growth.{ListsInLast, before, orders_to}
use Rattle.mg_image_overlay_laws.specs.tables.Growing.{Grows, enters, stays}
use Rattle.mg_tie_laws.specs.Batches.{IsWithin, has_here, has_on, has_same, lists_head, lists_later, lists_tail, viewed_same}

-- A page may be a table's last pointer page: it is used, a pointer page by its kind, and none of the page
-- inventory.
pub record MayBeLast (size : ℕ) (pages : Pages) (q : ℕ) : Type 0 where
  pub below : q < GREATEST_LIMIT
  pub used : is_used size pages q ≡ true
  pub kind : byte (pages q) 0 ≡ 4
  pub no_inventory : (region : ℕ) → inventory_page size region ≢ q

-- a new data page passes its tests
pub new_data_passes : (b : List ℕ) (size page owner place : ℕ) → IsNewPage b size page owner place
    → 16 ≤ size → page < 2 ^ 32 → owner < 2 ^ 32 → place < 2 ^ 32
    → PassesAll (common_checks b page DATA_KIND owner place)
new_data_passes b size page owner place new long small_page small_owner small_place =
    subst PassesAll (sym (front_checks b (new_page size page DATA_KIND owner place) page DATA_KIND owner
    place front)) (new_passes size page DATA_KIND owner place long small_page small_owner small_place)
  where
    front : take COMMON b ≡ take COMMON (new_page size page DATA_KIND owner place)
    front = ap (take COMMON) new.bytes
        ∙ take-with_u16 (new_page size page DATA_KIND owner place) LOW_AT size COMMON (omega arith)

module _ {D L : Type 0} (in_primary : Bool) (g : Geometry) (lawful : IsGeometry g) (store : Pool D L)
    (image : Image) (owner : ℕ) (orders : Orders) (batch : ℕ → Option (List ℕ)) (old new : Changed)
    (place pointers q n : ℕ) (pointer bytes : List ℕ)
    (lists_ : ListsInLast g store image old new owner place q n pointer bytes)
    (pointer_is : pointer ≡ viewed store image old q)
    (last : MayBeLast g.size (viewed store image old) q)
    (whole : (m : ℕ) → length (viewed store image old m) ≡ g.size) (long : 16 ≤ g.size)
    (small_owner : owner < 2 ^ 32) (small_place : place < 2 ^ 32)
    (within : IsWithin batch orders new) where
  abbrev i : ℕ
  i = inventory_page g.size (region_of g.size n)

  abbrev view : Pages
  view = viewed store image old

  abbrev mid : Pages
  mid = viewed store image lists_.made

  -- the page that is taken is neither the pointer page nor an inventory page
  apart : n ≢ q
  apart same = let both : true ≡ false = sym last.used ∙ (ap (is_used g.size view) (sym same)
      ∙ lists_.takes.free.unused) in absurd cc

  made_else : (m : ℕ) → m ≢ n → mid m ≡ viewed store image lists_.taken m
  made_else m ne = viewed_else store image lists_.taken lists_.made n bytes lists_.makes.puts m ne

  made_others : (m : ℕ) → m ≢ i → m ≢ n → mid m ≡ view m
  made_others m off_i off_n = made_else m off_n ∙ lists_.takes.others m off_i

  made_here : mid n ≡ bytes
  made_here = viewed_here store image lists_.taken lists_.made n bytes lists_.makes.puts

  made_whole : (m : ℕ) → length (mid m) ≡ g.size
  made_whole m = at (cases_eq m n) (cases_eq m i)
    where
      at : (m ≡ n) ⊎ (m ≢ n) → (m ≡ i) ⊎ (m ≢ i) → length (mid m) ≡ g.size
      at (inl e) at_i = ap (λ (k : ℕ). length (mid k)) e ∙ (ap length made_here ∙ lists_.makes.made.len)
      at (inr off_n) (inl e) = ap length (made_else m off_n)
          ∙ (ap (λ (k : ℕ). length (viewed store image lists_.taken k)) e ∙ lists_.takes.len)
      at (inr off_n) (inr off_i) = ap length (made_others m off_i off_n) ∙ whole m

  occupies : OccupiesPage g.size view mid i n
  occupies = taken_are_occupied g view (viewed store image lists_.taken) view mid n lawful lists_.takes
      (record {
        before = λ k. refl;
        after = λ k. made_else (inventory_page g.size k) (λ e. lists_.takes.free.no_inventory k e);
        others = made_others;
        whole = made_whole;
      })

  off_last : q ≢ i
  off_last same = last.no_inventory (region_of g.size n) (sym same)

  last_stays : mid q ≡ view q
  last_stays = made_others q off_last (λ e. apart (sym e))

  listed_view : viewed store image new ≡ viewed store image lists_.listed
  listed_view = viewed_same store image lists_.listed new lists_.orders.same_pages

  last_now : viewed store image new q ≡ lists_.page
  last_now = ap (λ (pages : Pages). pages q) listed_view
      ∙ viewed_here store image lists_.made lists_.listed q lists_.page lists_.puts

  adds : AddsEntry (mid q) (viewed store image new q) n
  adds = subst (λ (page : List ℕ). AddsEntry page (viewed store image new q) n)
      (pointer_is ∙ sym last_stays)
      (subst (λ (page : List ℕ). AddsEntry pointer page n) (sym last_now) lists_.adds)

  enters_page : EntersPage in_primary g.size mid (viewed store image new) owner place q n
  enters_page = record {
    change = record {
      others = λ m ne. ap (λ (pages : Pages). pages m) listed_view
          ∙ viewed_else store image lists_.made lists_.listed q lists_.page lists_.puts m ne;
      below = last.below;
      kind = ap (λ (page : List ℕ). byte page 0) last_stays ∙ last.kind;
      len = adds.len;
    };
    entry = adds;
    pointer = λ seq passes. entry_passes (mid q) (viewed store image new q) n q owner seq adds passes;
    apart = apart;
    below = occupies.below;
    bit = occupies.bit;
    made = subst (λ (page : List ℕ). PassesAll (common_checks page n DATA_KIND owner place))
        (sym made_here) (new_data_passes bytes g.size n owner place lists_.makes.made long
        (let below = occupies.below in omega (arith, below)) small_owner small_place);
    lawful = subst IsDataPage (sym made_here) lists_.makes.made.lawful;
    empty = λ slot. ap (λ (page : List ℕ). cell_of page slot) made_here ∙ lists_.makes.made.none slot;
  }

  has_bits : batch i ≢ None
  has_bits = within.pages i (has_same lists_.listed new i lists_.orders.same_pages
      (has_on lists_.made lists_.listed q lists_.page lists_.puts i
      (has_on lists_.taken lists_.made n bytes lists_.makes.puts i
      (has_here old lists_.taken i lists_.bit.bytes lists_.bit.puts))))

  has_page : batch n ≢ None
  has_page = within.pages n (has_same lists_.listed new n lists_.orders.same_pages
      (has_on lists_.made lists_.listed q lists_.page lists_.puts n
      (has_here lists_.taken lists_.made n bytes lists_.makes.puts)))

  ordered : (a c : ℕ) → lists (orders_to g.size n q) a c ≡ true → orders a c ≡ true
  ordered a c is = within.listed a c (subst (λ (os : List Order). lists os a c ≡ true)
      (sym lists_.orders.added) (lists_later lists_.listed.orders (orders_to g.size n q) a c is))

  order : OrdersPage orders batch i q n
  order = record {
    bits = ordered i q (lists_head i q (before n q ∷ []));
    page = ordered n q (lists_tail (before i q) (before n q ∷ []) n q (lists_head n q []));
    bits_in = has_bits;
  }

  pub last_grows : Grows in_primary g.size owner orders batch view
      (record { place = place; pointers = pointers; last = q }) (viewed store image new)
      (record { place = place + 1; pointers = pointers; last = q })
  last_grows = enters view mid (viewed store image new) (viewed store image new)
      (record { place = place; pointers = pointers; last = q })
      (record { place = place + 1; pointers = pointers; last = q }) i n occupies enters_page order has_page
      (stays (viewed store image new) (record { place = place + 1; pointers = pointers; last = q }))
