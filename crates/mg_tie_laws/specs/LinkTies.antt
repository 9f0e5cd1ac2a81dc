-- A table that gets a data page on a new pointer page by the heap grows as the laws on overlays take it:
-- first the pointer page, which is linked while it is empty, and then the data page. The views in between
-- are on no disk and in no pool.
use Rattle.std.proofs.Common.{◌≡◌, ◌≢◌, ◌⊎◌, inl, inr, ap, sym, subst, ◌∙◌, refl, arith, ℕ, ◌+◌, ◌<◌, ◌≤◌, ◌^◌, Bool, true, false, List, [], ◌∷◌, ◌++◌, length, Option, None}
use Rattle.std.specs.Prelude.{if◌then◌else◌, ◌==◌}
use Rattle.std.proofs.lemmas.Bool.{cases_eq, eq-eqb, ne_eqb}
use Rattle.mg_base.specs.Checks.{PassesAll, common_checks}
use Rattle.mg_base.specs.Fields.{byte}
use Rattle.mg_base.specs.Image.{Image}
use Rattle.mg_base.specs.declared.geometry.Geometry.{Geometry}
use Rattle.mg_careful.specs.Precedence.{Orders}
use Rattle.mg_careful.specs.declared.graph.Order.{Order}
use Rattle.mg_image.specs.Form.{Pages}
use Rattle.mg_image.specs.Inventory.{inventory_page, is_used}
use Rattle.mg_image_overlay_laws.specs.pages.DataPages.{kind_of}
use Rattle.mg_pointer.specs.PointerPage.{AddsEntry, SetsNext, entries_of, new_pointer_page, next_in, pointer_checks}
use Rattle.mg_pointer.specs.PointerPageLaws.{length-new_pointer_page, new_page_empty, new_page_next, new_page_passes}
use Rattle.mg_pool.specs.Batch.{Changed, lists}
use Rattle.mg_pool.specs.declared.pool.Pool.{Pool}
use Rattle.mg_slots.specs.DataPage.{IsDataPage, cell_of}
use Rattle.mg_slots.specs.declared.page.TheConstants.{DATA_KIND}
use Rattle.mg_space.specs.Taking.{IsGeometry, region_of}
use Rattle.mg_space.specs.TakingLaws.{takes_bit, takes_keeps}
use Rattle.mg_space.specs.View.{viewed}
use Rattle.mg_space.specs.ViewLaws.{viewed_else, viewed_here}
use Rattle.mg_tie_laws.specs.Occupied.{taken_are_occupied}
use Rattle.mg_tie_laws.specs.Pointers.{entry_passes, next_passes}
use Rattle.mg_image_overlay_laws.specs.pages.EntryPage.{EntersPage}
use Rattle.mg_image_overlay_laws.specs.pages.ExtendEvery.{OrdersPage}
use Rattle.mg_image_overlay_laws.specs.pages.LinkPage.{LinksPage}
use Rattle.mg_image_overlay_laws.specs.pages.TakePart.{OccupiesPage}
use Rattle.mg_heap.specs.Growth.{ListsInNew, before, orders_to}
use Rattle.mg_image_overlay_laws.specs.tables.Growing.{Grows, enters, links, stays}
use Rattle.mg_tie_laws.specs.Batches.{IsWithin, has_here, has_on, has_same, lists_head, lists_later, lists_sooner, lists_tail, viewed_same}
use Rattle.mg_tie_laws.specs.GrowthTies.{MayBeLast, new_data_passes}

-- pages with another content of one
abbrev pub with_at : Pages → ℕ → List ℕ → Pages
with_at pages k bytes m = if m == k then bytes else pages m

pub with_here : (pages : Pages) (k : ℕ) (bytes : List ℕ) → with_at pages k bytes k ≡ bytes
with_here pages k bytes = rw (eq-eqb k k refl) refl

pub with_else : (pages : Pages) (k : ℕ) (bytes : List ℕ) (m : ℕ) → m ≢ k
    → with_at pages k bytes m ≡ pages m
with_else pages k bytes m ne = rw (ne_eqb m k ne) refl

module _ {D L : Type 0} (in_primary : Bool) (g : Geometry) (lawful : IsGeometry g) (store : Pool D L)
    (image : Image) (owner : ℕ) (orders : Orders) (batch : ℕ → Option (List ℕ)) (old new : Changed)
    (place pointers q p n : ℕ) (pointer bytes : List ℕ)
    (lists_ : ListsInNew g store image old new owner place (pointers + 1) q p n pointer bytes)
    (pointer_is : pointer ≡ viewed store image old q)
    (last : MayBeLast g.size (viewed store image old) q)
    (whole : (m : ℕ) → length (viewed store image old m) ≡ g.size) (long : 24 ≤ g.size)
    (small_owner : owner < 2 ^ 32) (small_place : place < 2 ^ 32) (small : pointers + 1 < 2 ^ 32)
    (within : IsWithin batch orders new) where
  abbrev view : Pages
  view = viewed store image old

  abbrev bit_view : Pages
  bit_view = viewed store image lists_.with_bit

  abbrev bits_view : Pages
  bits_view = viewed store image lists_.taken

  abbrev final : Pages
  final = viewed store image new

  -- where the bits of the two pages stand
  abbrev i : ℕ
  i = inventory_page g.size (region_of g.size p)

  abbrev j : ℕ
  j = inventory_page g.size (region_of g.size n)

  abbrev made : List ℕ
  made = new_pointer_page g.size p owner (pointers + 1)

  -- the pointer page is taken, and linked, and then the data page is taken
  abbrev taken : Pages
  taken = with_at bit_view p made

  abbrev linked : Pages
  linked = with_at taken q lists_.link

  abbrev ready : Pages
  ready = with_at final p made

  -- ---- which pages are apart

  used_in_bits : is_used g.size bit_view q ≡ true
  used_in_bits = takes_keeps g view bit_view p lawful lists_.takes_pointer q last.used

  p_off_q : p ≢ q
  p_off_q same = let both : true ≡ false = sym last.used ∙ (ap (is_used g.size view) (sym same)
      ∙ lists_.takes_pointer.free.unused) in absurd cc

  n_off_q : n ≢ q
  n_off_q same = let both : true ≡ false = sym used_in_bits ∙ (ap (is_used g.size bit_view) (sym same)
      ∙ lists_.takes.free.unused) in absurd cc

  n_off_p : n ≢ p
  n_off_p same = let both : true ≡ false = sym (takes_bit g view bit_view p lawful lists_.takes_pointer)
      ∙ (ap (is_used g.size bit_view) (sym same) ∙ lists_.takes.free.unused) in absurd cc

  p_no_bits : (k : ℕ) → inventory_page g.size k ≢ p
  p_no_bits = lists_.takes_pointer.free.no_inventory

  n_no_bits : (k : ℕ) → inventory_page g.size k ≢ n
  n_no_bits = lists_.takes.free.no_inventory

  q_in_bits : bit_view q ≡ view q
  q_in_bits = lists_.takes_pointer.others q (λ e. last.no_inventory (region_of g.size p) (sym e))

  -- ---- the last view

  linked_view : final ≡ viewed store image lists_.linked
  linked_view = viewed_same store image lists_.linked new lists_.orders.same_pages

  at_linked : (m : ℕ) → final m ≡ viewed store image lists_.linked m
  at_linked m = ap (λ (pages : Pages). pages m) linked_view

  final_q : final q ≡ lists_.link
  final_q = at_linked q ∙ viewed_here store image lists_.begun lists_.linked q lists_.link lists_.puts_link

  final_p : final p ≡ lists_.page
  final_p = at_linked p
      ∙ (viewed_else store image lists_.begun lists_.linked q lists_.link lists_.puts_link p p_off_q
      ∙ viewed_here store image lists_.made lists_.begun p lists_.page lists_.puts)

  final_made : (m : ℕ) → m ≢ q → m ≢ p → final m ≡ viewed store image lists_.made m
  final_made m off_q off_p = at_linked m
      ∙ (viewed_else store image lists_.begun lists_.linked q lists_.link lists_.puts_link m off_q
      ∙ viewed_else store image lists_.made lists_.begun p lists_.page lists_.puts m off_p)

  final_n : final n ≡ bytes
  final_n = final_made n n_off_q n_off_p
      ∙ viewed_here store image lists_.taken lists_.made n bytes lists_.makes.puts

  final_else : (m : ℕ) → m ≢ q → m ≢ p → m ≢ n → final m ≡ bits_view m
  final_else m off_q off_p off_n = final_made m off_q off_p
      ∙ viewed_else store image lists_.taken lists_.made n bytes lists_.makes.puts m off_n

  made_len : length made ≡ g.size
  made_len = length-new_pointer_page g.size p owner (pointers + 1)

  -- ---- the pointer page is taken

  taken_whole : (m : ℕ) → length (taken m) ≡ g.size
  taken_whole m = at (cases_eq m p) (cases_eq m i)
    where
      at : (m ≡ p) ⊎ (m ≢ p) → (m ≡ i) ⊎ (m ≢ i) → length (taken m) ≡ g.size
      at (inl e) at_i = ap (λ (k : ℕ). length (taken k)) e
          ∙ (ap length (with_here bit_view p made) ∙ made_len)
      at (inr off) (inl e) = ap length (with_else bit_view p made m off)
          ∙ (ap (λ (k : ℕ). length (bit_view k)) e ∙ lists_.takes_pointer.len)
      at (inr off) (inr off_i) = ap length (with_else bit_view p made m off)
          ∙ (ap length (lists_.takes_pointer.others m off_i) ∙ whole m)

  takes_first : OccupiesPage g.size view taken i p
  takes_first = taken_are_occupied g view bit_view view taken p lawful lists_.takes_pointer (record {
    before = λ k. refl;
    after = λ k. with_else bit_view p made (inventory_page g.size k) (p_no_bits k);
    others = λ m off_i off_p. with_else bit_view p made m off_p ∙ lists_.takes_pointer.others m off_i;
    whole = taken_whole;
  })

  taken_q : taken q ≡ view q
  taken_q = with_else bit_view p made q (λ e. p_off_q (sym e)) ∙ q_in_bits

  linked_q : linked q ≡ lists_.link
  linked_q = with_here taken q lists_.link

  small_p : p < 2 ^ 32
  small_p = let below = takes_first.below in omega (arith, below)

  made_passes : PassesAll (pointer_checks made p owner (pointers + 1))
  made_passes = new_page_passes g.size p owner (pointers + 1) long small_p small_owner small

  sets : SetsNext (taken q) (linked q) p
  sets = subst (λ (page : List ℕ). SetsNext page (linked q) p) (pointer_is ∙ sym taken_q)
      (subst (λ (page : List ℕ). SetsNext pointer page p) (sym linked_q) lists_.links)

  links_page : LinksPage g.size taken linked owner pointers q p
  links_page = record {
    change = record {
      others = with_else taken q lists_.link;
      below = last.below;
      kind = ap (λ (page : List ℕ). byte page 0) taken_q ∙ last.kind;
      len = sets.len;
    };
    next_set = sets.next_set;
    entries = sets.entries;
    pointer = λ seq passes. next_passes (taken q) (linked q) p q owner seq sets passes;
    some = lists_.takes_pointer.free.no_header;
    apart = p_off_q;
    below = takes_first.below;
    bit = takes_first.bit;
    made = subst (λ (page : List ℕ). PassesAll (pointer_checks page p owner (pointers + 1)))
        (sym (with_here bit_view p made)) made_passes;
    none = ap entries_of (with_here bit_view p made)
        ∙ new_page_empty g.size p owner (pointers + 1);
    ends = ap next_in (with_here bit_view p made) ∙ new_page_next g.size p owner (pointers + 1);
  }

  -- ---- the data page is taken

  linked_bits : (k : ℕ) → linked (inventory_page g.size k) ≡ bit_view (inventory_page g.size k)
  linked_bits k = with_else taken q lists_.link (inventory_page g.size k) (last.no_inventory k)
      ∙ with_else bit_view p made (inventory_page g.size k) (p_no_bits k)

  ready_bits : (k : ℕ) → ready (inventory_page g.size k) ≡ bits_view (inventory_page g.size k)
  ready_bits k = with_else final p made (inventory_page g.size k) (p_no_bits k)
      ∙ final_else (inventory_page g.size k) (last.no_inventory k) (p_no_bits k) (n_no_bits k)

  ready_others : (m : ℕ) → m ≢ j → m ≢ n → ready m ≡ linked m
  ready_others m off_j off_n = at (cases_eq m p) (cases_eq m q)
    where
      at : (m ≡ p) ⊎ (m ≢ p) → (m ≡ q) ⊎ (m ≢ q) → ready m ≡ linked m
      at (inl e) at_q = ap ready e ∙ (with_here final p made
          ∙ (sym (with_here bit_view p made) ∙ (sym (with_else taken q lists_.link p p_off_q)
          ∙ ap linked (sym e))))
      at (inr off_p) (inl e) = ap ready e ∙ (with_else final p made q (λ e_. p_off_q (sym e_))
          ∙ (final_q ∙ (sym linked_q ∙ ap linked (sym e))))
      at (inr off_p) (inr off_q) = with_else final p made m off_p ∙ (final_else m off_q off_p off_n
          ∙ (lists_.takes.others m off_j ∙ (sym (with_else bit_view p made m off_p)
          ∙ sym (with_else taken q lists_.link m off_q))))

  linked_whole : (m : ℕ) → length (linked m) ≡ g.size
  linked_whole m = at (cases_eq m q)
    where
      at : (m ≡ q) ⊎ (m ≢ q) → length (linked m) ≡ g.size
      at (inl e) = ap (λ (k : ℕ). length (linked k)) e ∙ (sets.len ∙ taken_whole q)
      at (inr off) = ap length (with_else taken q lists_.link m off) ∙ taken_whole m

  ready_n : ready n ≡ bytes
  ready_n = with_else final p made n n_off_p ∙ final_n

  ready_whole : (m : ℕ) → length (ready m) ≡ g.size
  ready_whole m = at (cases_eq m n) (cases_eq m j)
    where
      at : (m ≡ n) ⊎ (m ≢ n) → (m ≡ j) ⊎ (m ≢ j) → length (ready m) ≡ g.size
      at (inl e) at_j = ap (λ (k : ℕ). length (ready k)) e ∙ (ap length ready_n ∙ lists_.makes.made.len)
      at (inr off) (inl e) = ap (λ (k : ℕ). length (ready k)) e
          ∙ (ap length (ready_bits (region_of g.size n)) ∙ lists_.takes.len)
      at (inr off) (inr off_j) = ap length (ready_others m off_j off) ∙ linked_whole m

  takes_second : OccupiesPage g.size linked ready j n
  takes_second = taken_are_occupied g bit_view bits_view linked ready n lawful lists_.takes (record {
    before = linked_bits;
    after = ready_bits;
    others = ready_others;
    whole = ready_whole;
  })

  ready_p : ready p ≡ made
  ready_p = with_here final p made

  adds : AddsEntry (ready p) (final p) n
  adds = subst (λ (page : List ℕ). AddsEntry page (final p) n) (sym ready_p)
      (subst (λ (page : List ℕ). AddsEntry made page n) (sym final_p) lists_.adds)

  made_kind : byte made 0 ≡ 4
  unfolding pointer_checks
  made_kind = kind_of made p 4 owner (pointers + 1) _ made_passes

  enters_page : EntersPage in_primary g.size ready final owner place p n
  enters_page = record {
    change = record {
      others = λ m ne. sym (with_else final p made m ne);
      below = takes_first.below;
      kind = ap (λ (page : List ℕ). byte page 0) ready_p ∙ made_kind;
      len = adds.len;
    };
    entry = adds;
    pointer = λ seq passes. entry_passes (ready p) (final p) n p owner seq adds passes;
    apart = n_off_p;
    below = takes_second.below;
    bit = takes_second.bit;
    made = subst (λ (page : List ℕ). PassesAll (common_checks page n DATA_KIND owner place))
        (sym ready_n) (new_data_passes bytes g.size n owner place lists_.makes.made
        (omega (arith, long)) (let below = takes_second.below in omega (arith, below)) small_owner
        small_place);
    lawful = subst IsDataPage (sym ready_n) lists_.makes.made.lawful;
    empty = λ slot. ap (λ (page : List ℕ). cell_of page slot) ready_n ∙ lists_.makes.made.none slot;
  }

  -- ---- the batch

  has_first_bits : batch i ≢ None
  has_first_bits = within.pages i (has_same lists_.linked new i lists_.orders.same_pages
      (has_on lists_.begun lists_.linked q lists_.link lists_.puts_link i
      (has_on lists_.made lists_.begun p lists_.page lists_.puts i
      (has_on lists_.taken lists_.made n bytes lists_.makes.puts i
      (has_on lists_.with_bit lists_.taken j lists_.bit.bytes lists_.bit.puts i
      (has_here old lists_.with_bit i lists_.bit_pointer.bytes lists_.bit_pointer.puts))))))

  has_second_bits : batch j ≢ None
  has_second_bits = within.pages j (has_same lists_.linked new j lists_.orders.same_pages
      (has_on lists_.begun lists_.linked q lists_.link lists_.puts_link j
      (has_on lists_.made lists_.begun p lists_.page lists_.puts j
      (has_on lists_.taken lists_.made n bytes lists_.makes.puts j
      (has_here lists_.with_bit lists_.taken j lists_.bit.bytes lists_.bit.puts)))))

  has_data : batch n ≢ None
  has_data = within.pages n (has_same lists_.linked new n lists_.orders.same_pages
      (has_on lists_.begun lists_.linked q lists_.link lists_.puts_link n
      (has_on lists_.made lists_.begun p lists_.page lists_.puts n
      (has_here lists_.taken lists_.made n bytes lists_.makes.puts))))

  has_pointer : batch p ≢ None
  has_pointer = within.pages p (has_same lists_.linked new p lists_.orders.same_pages
      (has_on lists_.begun lists_.linked q lists_.link lists_.puts_link p
      (has_here lists_.made lists_.begun p lists_.page lists_.puts)))

  ordered : (a c : ℕ) → lists (orders_to g.size n p ++ orders_to g.size p q) a c ≡ true
      → orders a c ≡ true
  ordered a c is = within.listed a c (subst (λ (os : List Order). lists os a c ≡ true)
      (sym lists_.orders.added)
      (lists_later lists_.linked.orders (orders_to g.size n p ++ orders_to g.size p q) a c is))

  first_order : OrdersPage orders batch i q p
  first_order = record {
    bits = ordered i q (lists_later (orders_to g.size n p) (orders_to g.size p q) i q
        (lists_head i q (before p q ∷ [])));
    page = ordered p q (lists_later (orders_to g.size n p) (orders_to g.size p q) p q
        (lists_tail (before i q) (before p q ∷ []) p q (lists_head p q [])));
    bits_in = has_first_bits;
  }

  second_order : OrdersPage orders batch j p n
  second_order = record {
    bits = ordered j p (lists_sooner (orders_to g.size n p) (orders_to g.size p q) j p
        (lists_head j p (before n p ∷ [])));
    page = ordered n p (lists_sooner (orders_to g.size n p) (orders_to g.size p q) n p
        (lists_tail (before j p) (before n p ∷ []) n p (lists_head n p [])));
    bits_in = has_second_bits;
  }

  pub new_grows : Grows in_primary g.size owner orders batch view
      (record { place = place; pointers = pointers; last = q }) final
      (record { place = place + 1; pointers = pointers + 1; last = p })
  new_grows = links view taken linked final (record { place = place; pointers = pointers; last = q })
      (record { place = place + 1; pointers = pointers + 1; last = p }) i p takes_first links_page
      first_order has_pointer
      (enters linked ready final final (record { place = place; pointers = pointers + 1; last = p })
      (record { place = place + 1; pointers = pointers + 1; last = p }) j n takes_second enters_page
      second_order has_data
      (stays final (record { place = place + 1; pointers = pointers + 1; last = p })))
