-- Pointer pages stay orderly (`AreOrderly`), whatever becomes of a table.
use Rattle.std.specs.Prelude.{◌≡◌, ◌≢◌, ◌<◌, ◌+◌, ◌-◌, ◌*◌, ◌++◌, ℕ, Bool, true, slice_index, List, [], ◌∷◌, length}
use Rattle.std.proofs.Common.{inl, inr, refl, sym, subst, ap, ◌∙◌, arith}
use Rattle.std.proofs.lemmas.Bool.{both_ways, cases_eq}
use Rattle.mg_base.specs.Checks.{PassesAll}
use Rattle.mg_base.specs.Fields.{byte}
use Rattle.mg_base.specs.Image.{Image}
use Rattle.mg_base.specs.declared.geometry.Geometry.{Geometry}
use Rattle.mg_base.specs.declared.geometry.TheConstants.{GREATEST_LIMIT}
use Rattle.mg_base.specs.declared.numbers.PageNo.{PageNo}
use Rattle.mg_careful.specs.Precedence.{Orders}
use Rattle.mg_careful.specs.declared.links.Demand.{Demand}
use Rattle.mg_careful.specs.CarefulWrite.{DemandSet, Has, IsIn, either, listed}
use Rattle.mg_demand_laws.specs.GrowDemands.{chain_wants, grow_wants}
use Rattle.mg_heap.specs.Growth.{HasEntryRoom, ListsInLast, ListsInNew}
use Rattle.mg_heap.specs.Room.{FindsOrGrows, GivesRoom}
use Rattle.mg_image.specs.Form.{Pages}
use Rattle.mg_image.specs.Inventory.{inventory_page, is_used}
use Rattle.mg_image.specs.Tables.{Has as HasPage}
use Rattle.mg_pointer.specs.PointerPage.{capacity, entries_of, next_in, pointer_checks}
use Rattle.mg_pointer.specs.PointerPageLaws.{new_page_empty, new_page_next}
use Rattle.mg_pool.specs.Batch.{Changed}
use Rattle.mg_pool.specs.declared.pool.Pool.{Pool}
use Rattle.mg_slots.specs.declared.page.TheConstants.{DATA_KIND}
use Rattle.mg_space.specs.Demands.{bit_demand}
use Rattle.mg_space.specs.Taking.{IsGeometry, TakesPage, region_of, taking_limit}
use Rattle.mg_space.specs.TakingLaws.{takes_keeps}
use Rattle.mg_space.specs.View.{viewed}
use Rattle.mg_space.specs.ViewLaws.{viewed_else, viewed_here}
use Rattle.mg_space.specs.declared.links.TheConstants.{BIT, DATA, POINTER}
use Rattle.mg_demand_laws.specs.KindLaws.{kind_of, pointer_kind}
use Rattle.mg_demand_laws.specs.Met.{has_either, in_listed, is_demand, of_listed}
use Rattle.mg_demand_laws.specs.TakeLaws.{take_pays}
use Rattle.mg_demand_laws.specs.Wanting.{IsWanting, Pays, want_of}
use Rattle.mg_demand_laws.specs.WantingLaws.{either_cases, in_one, in_other}
use Rattle.mg_demand_laws.specs.GrowthTies.{full_count, room_wants}
use Rattle.mg_demand_laws.specs.Lists.{viewed_same}
use Rattle.mg_demand_laws.specs.TableTies.{count_is, has_page_either}
use Rattle.mg_demand_laws.specs.Wants.{AreOrderly, IsOrderly, WantsTable, pointer_passes}

-- where less is wanted, pointer pages are orderly still
pub orderly_less : (size : ℕ) (pages : Pages) (wanted less : DemandSet) → AreOrderly size pages wanted
    → ((d : Demand) → IsIn less d → IsIn wanted d) → AreOrderly size pages less
orderly_less size pages wanted less orderly within n owner at h =
    orderly n owner at (within (want_of n POINTER owner at) h)

-- what two lists want, both do one after the other
pub in_parts : (wanted : DemandSet) (ds es : List Demand) (d : Demand) → IsIn (either wanted (listed (ds ++ es))) d
    → IsIn (either (either wanted (listed ds)) (listed es)) d
in_parts wanted ds es d h = elim (either_cases wanted (listed (ds ++ es)) d h) [
  | inl w ↦ in_one (either wanted (listed ds)) (listed es) d (in_one wanted (listed ds) d w)
  | inr m ↦ elim (has_either ds es d (of_listed (ds ++ es) d m)) [
    | inl x ↦ in_one (either wanted (listed ds)) (listed es) d (in_other wanted (listed ds) d (in_listed ds d x))
    | inr y ↦ in_other (either wanted (listed ds)) (listed es) d (in_listed es d y)
  ]
]

-- where no pointer page changes that was wanted, and none is wanted newly
pub orderly_else : (size : ℕ) (old new : Pages) (wanted more : DemandSet) → AreOrderly size old wanted
    → ((n owner at : ℕ) → IsIn wanted (want_of n POINTER owner at) → new n ≡ old n)
    → ((d : Demand) → IsIn more d → d.what ≢ POINTER) → AreOrderly size new (either wanted more)
orderly_else size old new wanted more orderly same none n owner at h =
    elim (either_cases wanted more (want_of n POINTER owner at) h) [
      | inl stood ↦ subst (IsOrderly size) (sym (same n owner at stood)) (orderly n owner at stood)
      | inr newly ↦ absurd (none (want_of n POINTER owner at) newly refl)
    ]

-- a page that is taken changes no pointer page
pub taking_else : (g : Geometry) (old new : Pages) (k : ℕ) (wanted : DemandSet) → IsGeometry g → TakesPage g old new k
    → IsWanting g.size old wanted → (orders : Orders) (settled : ℕ → Bool) (on_disk : DemandSet) (n owner at : ℕ)
    → IsIn wanted (want_of n POINTER owner at) → new n ≡ old n
taking_else g old new k wanted lawful takes was orders settled on_disk n owner at h = takes.others n (λ same.
    let now = (take_pays g old new k orders settled on_disk wanted lawful takes was).wants in
    let four = pointer_kind (new n) n owner at (pointer_passes g.size new (either wanted (listed (bit_demand g.size k))) now n
    owner at (in_one wanted (listed (bit_demand g.size k)) (want_of n POINTER owner at) h)) in
    let two = kind_of (new (inventory_page g.size (region_of g.size k))) (inventory_page g.size (region_of g.size k)) 2 0
    (region_of g.size k) takes.tests in
    let there : byte (new n) 0 ≡ byte (new (inventory_page g.size (region_of g.size k))) 0 =
    ap (λ (m : ℕ). byte (new m) 0) same in absurd (omega (arith, four, two, there)))

-- a data page is no pointer page
pub data_else : (size : ℕ) (pages : Pages) (wanted : DemandSet) → IsWanting size pages wanted → (x : ℕ)
    → byte (pages x) 0 ≡ DATA_KIND → (n owner at : ℕ) → IsIn wanted (want_of n POINTER owner at) → n ≢ x
data_else size pages wanted was x five n owner at h same =
    let four = pointer_kind (pages n) n owner at (pointer_passes size pages wanted was n owner at h) in
    let there : byte (pages n) 0 ≡ byte (pages x) 0 = ap (λ (m : ℕ). byte (pages m) 0) same in
    absurd (omega (arith, four, five, there))

bit_is_none : (size n : ℕ) (d : Demand) → Has (bit_demand size n) d → d.what ≢ POINTER
bit_is_none size n d h is =
    let nine : d.what ≡ BIT = ap (λ (x : Demand). x.what)
    (is_demand (inventory_page size (region_of size n)) BIT n 0 d h) in omega (arith, nine, is)

data_is_none : (n owner place : ℕ) (d : Demand) → d ≡ want_of n DATA owner place → d.what ≢ POINTER
data_is_none n owner place d one is =
    let five : d.what ≡ DATA = ap (λ (x : Demand). x.what) one in omega (arith, five, is)

module _ {D L : Type 0} (store : Pool D L) (image : Image) (old new : Changed) (owner need : ℕ) (n : PageNo) (gives : GivesRoom store image old new owner need n) (orders : Orders) (settled : ℕ → Bool) (on_disk wanted : DemandSet) (lawful : IsGeometry store.geometry) (was : IsWanting store.geometry.size (viewed store image old) wanted) (its : WantsTable store.geometry.size (viewed store image old) wanted owner gives.pointers gives.data_pages) (orderly : AreOrderly store.geometry.size (viewed store image old) wanted) where
  abbrev width : ℕ
  width = store.geometry.size

  abbrev view : Pages
  view = viewed store image old

  abbrev after : Pages
  after = viewed store image new

  abbrev at : ℕ
  at = length gives.pointers - 1

  abbrev q : ℕ
  q = slice_index gives.pointers at

  abbrev got : ℕ
  got = gives.it.page.0

  q_passes : PassesAll (pointer_checks (view q) q owner at)
  q_passes = pointer_passes width view wanted was q owner at its.last.page

  q_orderly : IsOrderly width (view q)
  q_orderly = orderly q owner at its.last.page

  -- a pointer page that is wanted is in use
  in_use : (m who k : ℕ) → IsIn wanted (want_of m POINTER who k) → is_used width view m ≡ true
  in_use m who k h = was.used (want_of m POINTER who k) h

  below_all : (m : ℕ) → m < taking_limit store.geometry → m < GREATEST_LIMIT
  below_all m below = omega (arith, below)

  -- ---- the last pointer page lists a new data page

  module _ (room : HasEntryRoom (view q)) (last : ListsInLast store.geometry store image old new owner (length gives.data_pages) q got (view q) gives.it.bytes) where
    listed_now : after q ≡ last.page
    listed_now = ap (λ (pages : Pages). pages q) (viewed_same store image last.listed new last.orders.same_pages)
        ∙ viewed_here store image last.made last.listed q last.page last.puts

    listed_else : (m who k : ℕ) → IsIn wanted (want_of m POINTER who k) → m ≢ q → after m ≡ view m
    listed_else m who k h other = ap (λ (pages : Pages). pages m) (viewed_same store image last.listed new last.orders.same_pages)
        ∙ (viewed_else store image last.made last.listed q last.page last.puts m other
        ∙ (viewed_else store image last.taken last.made got gives.it.bytes last.makes.puts m
        (λ same. both_ways _ last.takes.free.unused (subst (λ (i : ℕ). is_used width view i ≡ true) same (in_use m who k h)))
        ∙ taking_else store.geometry view (viewed store image last.taken) got wanted lawful last.takes was orders settled
        on_disk m who k h))

    listed_page : IsOrderly width last.page
    listed_page = record {
      next = subst (λ (i : ℕ). i < GREATEST_LIMIT) (sym last.adds.next) q_orderly.next;
      entries = λ m h. elim (has_page_either (entries_of (view q)) (got ∷ []) m
          (subst (λ (ns : List ℕ). HasPage ns m) last.adds.entries h)) [
            | inl there ↦ q_orderly.entries m there
            | inr here ↦ elim here [
              | inl is ↦ subst (λ (i : ℕ). i < GREATEST_LIMIT) (sym is) (below_all got last.takes.free.below)
              | inr none ↦ absurd none
            ]
          ];
      full = λ some.
          let all = q_orderly.full (λ zero_. some (last.adds.next ∙ zero_)) in
          let count = count_is (view q) in
          let wide : capacity (length (view q)) ≡ capacity width = ap capacity (was.whole q) in
          absurd (omega (arith, all, count, wide, room));
    }

    pub listed_orderly : AreOrderly width after (either wanted (listed (grow_wants width got owner (length gives.data_pages))))
    listed_orderly m who k h = elim (either_cases wanted (listed (grow_wants width got owner (length gives.data_pages)))
        (want_of m POINTER who k) h) [
          | inl stood ↦ elim (cases_eq m q) [
            | inl same ↦ subst (λ (i : ℕ). IsOrderly width (after i)) (sym same)
                (subst (IsOrderly width) (sym listed_now) listed_page)
            | inr other ↦ subst (IsOrderly width) (sym (listed_else m who k stood other)) (orderly m who k stood)
          ]
          | inr newly ↦ elim (has_either (bit_demand width got) _ (want_of m POINTER who k)
              (of_listed (grow_wants width got owner (length gives.data_pages)) (want_of m POINTER who k) newly)) [
                | inl bit ↦ absurd (bit_is_none width got (want_of m POINTER who k) bit refl)
                | inr one ↦ elim one [
                  | inl is ↦ absurd (data_is_none got owner (length gives.data_pages) (want_of m POINTER who k) is refl)
                  | inr none ↦ absurd none
                ]
              ]
        ]

  -- ---- a new pointer page does

  module _ (none : HasEntryRoom (view q) → ⊥) (p : ℕ) (made : ListsInNew store.geometry store image old new owner (length gives.data_pages) (at + 1) q p got (view q) gives.it.bytes) where
    bit_step : Pays width view (viewed store image made.with_bit) orders settled on_disk wanted (listed (bit_demand width p))
    bit_step = take_pays store.geometry view (viewed store image made.with_bit) p orders settled on_disk wanted lawful
        made.takes_pointer was

    q_used : is_used width view q ≡ true
    q_used = in_use q owner at its.last.page

    linked_now : after q ≡ made.link
    linked_now = ap (λ (pages : Pages). pages q) (viewed_same store image made.linked new made.orders.same_pages)
        ∙ viewed_here store image made.begun made.linked q made.link made.puts_link

    -- pages that were in use are neither of the new ones
    off_p : (m : ℕ) → is_used width view m ≡ true → m ≢ p
    off_p m used same = both_ways _ made.takes_pointer.free.unused
        (subst (λ (i : ℕ). is_used width view i ≡ true) same used)

    off_got : (m : ℕ) → is_used width view m ≡ true → m ≢ got
    off_got m used same = both_ways _ made.takes.free.unused
        (subst (λ (i : ℕ). is_used width (viewed store image made.with_bit) i ≡ true) same
        (takes_keeps store.geometry view (viewed store image made.with_bit) p lawful made.takes_pointer m used))

    begun_now : after p ≡ made.page
    begun_now = ap (λ (pages : Pages). pages p) (viewed_same store image made.linked new made.orders.same_pages)
        ∙ (viewed_else store image made.begun made.linked q made.link made.puts_link p (λ same. off_p q q_used (sym same))
        ∙ viewed_here store image made.made made.begun p made.page made.puts)

    linked_else : (m who k : ℕ) → IsIn wanted (want_of m POINTER who k) → m ≢ q → after m ≡ view m
    linked_else m who k h other = ap (λ (pages : Pages). pages m) (viewed_same store image made.linked new made.orders.same_pages)
        ∙ (viewed_else store image made.begun made.linked q made.link made.puts_link m other
        ∙ (viewed_else store image made.made made.begun p made.page made.puts m (off_p m (in_use m who k h))
        ∙ (viewed_else store image made.taken made.made got gives.it.bytes made.makes.puts m (off_got m (in_use m who k h))
        ∙ (taking_else store.geometry (viewed store image made.with_bit) (viewed store image made.taken) got
        (either wanted (listed (bit_demand width p))) lawful made.takes bit_step.wants orders settled on_disk m who k
        (in_one wanted (listed (bit_demand width p)) (want_of m POINTER who k) h)
        ∙ taking_else store.geometry view (viewed store image made.with_bit) p wanted lawful made.takes_pointer was orders
        settled on_disk m who k h))))

    linked_page : IsOrderly width made.link
    linked_page = record {
      next = subst (λ (i : ℕ). i < GREATEST_LIMIT) (sym made.links.next_set) (below_all p made.takes_pointer.free.below);
      entries = λ m h. q_orderly.entries m (subst (λ (ns : List ℕ). HasPage ns m) made.links.entries h);
      full = λ some.
          let one = count_is made.link in
          let two = count_is (view q) in
          let same : length (entries_of made.link) ≡ length (entries_of (view q)) =
          ap (λ (ns : List ℕ). length ns) made.links.entries in
          let count = full_count (view q) q owner at q_passes none in
          let wide : capacity (length (view q)) ≡ capacity width = ap capacity (was.whole q) in
          omega (arith, one, two, same, count, wide);
    }

    begun_page : IsOrderly width made.page
    begun_page = record {
      next = let is : next_in made.page ≡ 0 = made.adds.next ∙ new_page_next width p owner (at + 1) in omega (arith, is);
      entries = λ m h. elim (subst (λ (ns : List ℕ). HasPage ns m) (made.adds.entries
          ∙ ap (λ (ns : List ℕ). ns ++ got ∷ []) (new_page_empty width p owner (at + 1))) h) [
            | inl is ↦ subst (λ (i : ℕ). i < GREATEST_LIMIT) (sym is) (below_all got made.takes.free.below)
            | inr nothing ↦ absurd nothing
          ];
      full = λ some. absurd (some (made.adds.next ∙ new_page_next width p owner (at + 1)));
    }

    newly_orderly : (m who k : ℕ) → Has (chain_wants width p got owner (at + 1)) (want_of m POINTER who k)
        → IsOrderly width (after m)
    newly_orderly m who k h = elim (has_either (bit_demand width p) _ (want_of m POINTER who k) h) [
      | inl bit ↦ absurd (bit_is_none width p (want_of m POINTER who k) bit refl)
      | inr further ↦ elim (has_either (bit_demand width got) _ (want_of m POINTER who k) further) [
        | inl bit ↦ absurd (bit_is_none width got (want_of m POINTER who k) bit refl)
        | inr two ↦ elim two [
          | inl is ↦ absurd (data_is_none got owner ((at + 1) * capacity width) (want_of m POINTER who k) is refl)
          | inr one ↦ elim one [
            | inl is ↦ subst (λ (i : ℕ). IsOrderly width (after i)) (sym (ap (λ (x : Demand). x.target) is))
                (subst (IsOrderly width) (sym begun_now) begun_page)
            | inr nothing ↦ absurd nothing
          ]
        ]
      ]
    ]

    pub chained_orderly : AreOrderly width after (either wanted (listed (chain_wants width p got owner (at + 1))))
    chained_orderly m who k h = elim (either_cases wanted (listed (chain_wants width p got owner (at + 1)))
        (want_of m POINTER who k) h) [
          | inl stood ↦ elim (cases_eq m q) [
            | inl same ↦ subst (λ (i : ℕ). IsOrderly width (after i)) (sym same)
                (subst (IsOrderly width) (sym linked_now) linked_page)
            | inr other ↦ subst (IsOrderly width) (sym (linked_else m who k stood other)) (orderly m who k stood)
          ]
          | inr newly ↦ newly_orderly m who k (of_listed (chain_wants width p got owner (at + 1)) (want_of m POINTER who k) newly)
        ]

  pub room_orderly : (found : FindsOrGrows store image old new owner gives.pointers gives.data_pages need gives.it)
      → AreOrderly width after (either wanted (listed (room_wants store image old new owner need n gives found)))
  room_orderly (inl (same, first)) = orderly_else width view after wanted (listed []) orderly
      (λ m who k h. ap (λ (b : Changed). viewed store image b m) same) (λ d h. absurd (of_listed [] d h))
  room_orderly (inr (none, inl (room, last))) = listed_orderly room last
  room_orderly (inr (none, inr (full, (p, made)))) = chained_orderly full p made
