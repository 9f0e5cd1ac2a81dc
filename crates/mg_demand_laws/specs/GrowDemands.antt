-- What the growth of a table pays: a data page is taken, made, and listed by a pointer page.
use Rattle.std.specs.Prelude.{◌≡◌, ◌≢◌, ◌+◌, ◌*◌, ◌++◌, ◌≤◌, min, ℕ, true, List, [], ◌∷◌, length, Bool}
use Rattle.std.proofs.Common.{inl, inr, refl, sym, subst, ◌∙◌, arith, ap}
use Rattle.std.proofs.lemmas.Bool.{both_ways}
use Rattle.mg_base.specs.CheckLaws.{front_checks, passes-append}
use Rattle.mg_base.specs.Checks.{Check, PassesAll, common_checks}
use Rattle.mg_base.specs.Fields.{u16_at}
use Rattle.mg_base.specs.declared.geometry.Geometry.{Geometry}
use Rattle.mg_careful.specs.declared.links.Demand.{Demand}
use Rattle.mg_careful.specs.Precedence.{Orders}
use Rattle.mg_careful.specs.CarefulWrite.{DemandSet, Has, IsIn, either, listed}
use Rattle.mg_demand_laws.specs.Bearing.{IsPaid}
use Rattle.mg_image.specs.Form.{Pages}
use Rattle.mg_image.specs.Inventory.{inventory_page, is_used}
use Rattle.mg_pointer.specs.PointerPage.{AddsEntry, capacity, count_in, pointer_checks, rest_checks, entries_of, SetsNext, next_in}
use Rattle.mg_pointer.specs.declared.page.TheConstants.{POINTER_KIND}
use Rattle.mg_slots.specs.DataPage.{IsNewPage}
use Rattle.mg_slots.specs.declared.page.TheConstants.{DATA_KIND}
use Rattle.mg_space.specs.Demands.{bit_demand, demand, linked}
use Rattle.mg_space.specs.Taking.{IsGeometry, TakesPage, region_of}
use Rattle.mg_space.specs.TakingLaws.{takes_bit, takes_keeps}
use Rattle.mg_space.specs.declared.links.TheConstants.{BIT, DATA, POINTER}
use Rattle.mg_demand_laws.specs.Met.{has_either, in_listed, is_demand, of_listed}
use Rattle.mg_demand_laws.specs.PointerLaws.{entry_pays, made_data, made_pointer, next_pays}
use Rattle.mg_demand_laws.specs.Steps.{no_more}
use Rattle.mg_demand_laws.specs.TakeLaws.{bit_is_elsewhere, make_pays, take_pays, taken_is_unwanted, used_same}
use Rattle.mg_demand_laws.specs.TipLaws.{one_of}
use Rattle.mg_demand_laws.specs.Wanting.{IsWanting, Pays, want_of}
use Rattle.mg_demand_laws.specs.WantingLaws.{either_cases, in_one, in_other, two_listed}

-- The views of a table that gets a data page which its last pointer page lists: a page is taken, made,
-- and listed. The place of the data page is told by the pointer page.
pub record GrowsIn (g : Geometry) (old taken made new : Pages) (q n owner at : ℕ) : Type 0 where
  pub takes : TakesPage g old taken n
  pub made_else : (m : ℕ) → m ≢ n → made m ≡ taken m
  pub made_here : IsNewPage (made n) g.size n owner (at * capacity g.size + count_in (old q))
  pub made_passes : PassesAll (common_checks (made n) n DATA_KIND owner (at * capacity g.size + count_in (old q)))
  pub listed_else : (m : ℕ) → m ≢ q → new m ≡ made m
  pub adds : AddsEntry (old q) (new q) n
  pub passes : PassesAll (pointer_checks (old q) q owner at)
  pub off_header : q ≢ 0
  pub off_inventory : (region : ℕ) → inventory_page g.size region ≢ q
  pub used : is_used g.size old q ≡ true

-- what is newly wanted: the data page at its place, and its bit
abbrev pub grow_wants : ℕ → ℕ → ℕ → ℕ → List Demand
grow_wants size n owner place = bit_demand size n ++ want_of n DATA owner place ∷ []

-- the law: with the page, and the page with its bit, ordered before the pointer page it pays
abbrev pub GrowthPays : Type 0
GrowthPays = (g : Geometry) (old taken made new : Pages) (q n owner at : ℕ) (orders : Orders)
    (settled : ℕ → Bool) (on_disk wanted : DemandSet) → IsGeometry g → GrowsIn g old taken made new q n owner at
    → IsWanting g.size old wanted → orders n q ≡ true
    → orders (inventory_page g.size (region_of g.size n)) q ≡ true
    → Pays g.size old new orders settled on_disk wanted
    (listed (grow_wants g.size n owner (at * capacity g.size + count_in (old q))))

-- The views of a table that gets a data page which a new pointer page lists, behind its last one, which is at
-- a place of the chain: two pages are taken, the second is made the data page, the first the pointer page,
-- and the last one comes to name that.
pub record GrowsInNew (g : Geometry) (old with_bit taken made begun new : Pages) (q p n owner at : ℕ)
    : Type 0 where
  pub takes_pointer : TakesPage g old with_bit p
  pub takes : TakesPage g with_bit taken n
  pub made_else : (m : ℕ) → m ≢ n → made m ≡ taken m
  pub made_here : IsNewPage (made n) g.size n owner ((at + 1) * capacity g.size)
  pub made_passes : PassesAll (common_checks (made n) n DATA_KIND owner ((at + 1) * capacity g.size))
  pub begun_else : (m : ℕ) → m ≢ p → begun m ≡ made m
  pub begun_len : length (begun p) ≡ g.size
  pub begun_passes : PassesAll (pointer_checks (begun p) p owner (at + 1))
  pub entries : entries_of (begun p) ≡ n ∷ []
  pub last : next_in (begun p) ≡ 0
  pub linked_else : (m : ℕ) → m ≢ q → new m ≡ begun m
  pub links : SetsNext (old q) (new q) p
  pub passes : PassesAll (pointer_checks (old q) q owner at)
  pub off_header : q ≢ 0
  pub off_inventory : (region : ℕ) → inventory_page g.size region ≢ q
  pub used : is_used g.size old q ≡ true

-- what is newly wanted: both pages, and their bits
abbrev pub chain_wants : ℕ → ℕ → ℕ → ℕ → ℕ → List Demand
chain_wants size p n owner at = bit_demand size p
    ++ (bit_demand size n ++ want_of n DATA owner (at * capacity size) ∷ want_of p POINTER owner at ∷ [])

-- a page, and the inventory page with its bit, are ordered before another page
pub record IsFirst (size : ℕ) (orders : Orders) (n later : ℕ) : Type 0 where
  pub page : orders n later ≡ true
  pub bit : orders (inventory_page size (region_of size n)) later ≡ true

-- the law: the data page is ordered before the new pointer page, and that before the last one
abbrev pub ChainPays : Type 0
ChainPays = (g : Geometry) (old with_bit taken made begun new : Pages) (q p n owner at : ℕ) (orders : Orders)
    (settled : ℕ → Bool) (on_disk wanted : DemandSet) → IsGeometry g
    → GrowsInNew g old with_bit taken made begun new q p n owner at
    → IsWanting g.size old wanted → IsFirst g.size orders n p → IsFirst g.size orders p q
    → Pays g.size old new orders settled on_disk wanted (listed (chain_wants g.size p n owner (at + 1)))

passes_front : (first others : List Check) → PassesAll (first ++ others) → PassesAll first
passes_front [] others passes = tt
passes_front (check ∷ checks) others passes = (passes.0, passes_front checks others passes.1)

passes_behind : (first others : List Check) → PassesAll (first ++ others) → PassesAll others
passes_behind [] others passes = passes
passes_behind (check ∷ checks) others passes = passes_behind checks others passes.1

-- a pointer page with an entry more passes its tests
pub entry_passes : (old new : List ℕ) (entry page owner seq : ℕ) → AddsEntry old new entry
    → PassesAll (pointer_checks old page owner seq) → PassesAll (pointer_checks new page owner seq)
unfolding pointer_checks
entry_passes old new entry page owner seq adds passes =
    passes-append (common_checks new page POINTER_KIND owner seq) (rest_checks new)
    (subst PassesAll (sym (front_checks new old page POINTER_KIND owner seq adds.front))
    (passes_front (common_checks old page POINTER_KIND owner seq) (rest_checks old) passes))
    (count_fits, (unused, tt))
  where
    rest : PassesAll (rest_checks old)
    rest = passes_behind (common_checks old page POINTER_KIND owner seq) (rest_checks old) passes

    count_fits : count_in new ≡ min (count_in new) (capacity (length new))
    count_fits = let count = adds.page.count in omega (arith, count)

    unused : u16_at new 22 ≡ 0
    unused =
        let was : u16_at old 22 ≡ 0 = rest.1.0 in
        let low = adds.outside 22 (λ past. omega (arith, past)) (λ past. omega (arith, past)) in
        let high = adds.outside 23 (λ past. omega (arith, past)) (λ past. omega (arith, past)) in
        omega (arith, was, low, high)

-- a pointer page that passes its tests has no more entries than fit
pub count_in_fits : (page : List ℕ) (n owner at : ℕ) → PassesAll (pointer_checks page n owner at)
    → count_in page ≤ capacity (length page)
unfolding pointer_checks
count_in_fits page n owner at passes =
    let rest : PassesAll (rest_checks page) =
    passes_behind (common_checks page n POINTER_KIND owner at) (rest_checks page) passes in
    let fits : count_in page ≡ min (count_in page) (capacity (length page)) = rest.0 in
    omega (arith, fits)

module _ (g : Geometry) (old taken made new : Pages) (q n owner at : ℕ) (orders : Orders) (settled : ℕ → Bool) (on_disk wanted : DemandSet) (lawful : IsGeometry g) (grows : GrowsIn g old taken made new q n owner at) (was : IsWanting g.size old wanted) (page_first : orders n q ≡ true) (bit_first : orders (inventory_page g.size (region_of g.size n)) q ≡ true) where
  abbrev size : ℕ
  size = g.size

  abbrev place : ℕ
  place = at * capacity size + count_in (old q)

  abbrev more_bit : DemandSet
  more_bit = listed (bit_demand size n)

  abbrev more_data : DemandSet
  more_data = listed (want_of n DATA owner place ∷ [])

  bit_step : Pays size old taken orders settled on_disk wanted more_bit
  bit_step = take_pays g old taken n orders settled on_disk wanted lawful grows.takes was

  unwanted : (d : Demand) → IsIn (either wanted more_bit) d → d.target ≢ n
  unwanted d h = elim (either_cases wanted more_bit d h) [
    | inl x ↦ taken_is_unwanted g old taken n orders settled on_disk wanted lawful grows.takes was d x
    | inr y ↦ bit_is_elsewhere g old taken n orders settled on_disk wanted lawful grows.takes was d y
  ]

  data_step : Pays size taken made orders settled on_disk (either wanted more_bit) more_data
  data_step = make_pays size taken made n orders settled on_disk (either wanted more_bit) more_data bit_step.wants
      (made_data size taken made n owner place orders settled on_disk (either wanted more_bit) (record {
        others = grows.made_else;
        len = grows.made_here.len;
        off_inventory = grows.takes.free.no_inventory;
        used = takes_bit g old taken n lawful grows.takes;
      }) bit_step.wants unwanted grows.made_passes grows.made_here.count)

  apart : q ≢ n
  apart same = both_ways _ grows.takes.free.unused
      (subst (λ (k : ℕ). is_used size old k ≡ true) same grows.used)

  pointer_same : made q ≡ old q
  pointer_same = grows.made_else q apart
      ∙ grows.takes.others q (λ same. grows.off_inventory (region_of size n) (sym same))

  entry_paid : (e : Demand) → Has (linked size n DATA owner (at * capacity size + count_in (made q))) e
      → IsPaid orders on_disk (either (either wanted more_bit) more_data) no_more (want_of q POINTER owner at) e
  entry_paid e there = elim (has_either (demand n DATA owner place) (bit_demand size n) e
      (subst (λ (page : List ℕ). Has (linked size n DATA owner (at * capacity size + count_in page)) e)
      pointer_same there)) [
        | inl x ↦ subst (λ (y : Demand). IsPaid orders on_disk (either (either wanted more_bit) more_data) no_more (want_of q POINTER owner at) y)
            (sym (is_demand n DATA owner place e x)) (record {
              is_wanted = inl (in_other (either wanted more_bit) more_data (want_of n DATA owner place)
                  (in_listed (want_of n DATA owner place ∷ []) (want_of n DATA owner place) (inl refl)));
              is_first = inr (inl page_first);
            })
        | inr y ↦ record {
          is_wanted = inl (in_one (either wanted more_bit) more_data e (in_other wanted more_bit e
              (in_listed (bit_demand size n) e y)));
          is_first = inr (inl (subst (λ (z : Demand). orders z.target q ≡ true)
              (sym (is_demand (inventory_page size (region_of size n)) BIT n 0 e y)) bit_first));
        }
      ]

  entry_step : Pays size made new orders settled on_disk (either (either wanted more_bit) more_data) no_more
  entry_step = entry_pays size made new q n owner at orders settled on_disk (either (either wanted more_bit) more_data)
      (record {
        others = grows.listed_else;
        adds = subst (λ (page : List ℕ). AddsEntry page (new q) n) (sym pointer_same) grows.adds;
        was_passes = subst (λ (page : List ℕ). PassesAll (pointer_checks page q owner at)) (sym pointer_same) grows.passes;
        passes = entry_passes (old q) (new q) n q owner at grows.adds grows.passes;
        off_header = grows.off_header;
        off_inventory = grows.off_inventory;
      }) data_step.wants entry_paid

  pub growth_pays : Pays size old new orders settled on_disk wanted (listed (grow_wants size n owner place))
  growth_pays = two_listed size old taken new orders settled on_disk wanted (bit_demand size n)
      (want_of n DATA owner place ∷ []) bit_step
      (two_listed size taken made new orders settled on_disk (either wanted more_bit)
      (want_of n DATA owner place ∷ []) [] data_step entry_step)

-- a pointer page that names a next one passes its tests
next_passes : (old new : List ℕ) (next page owner seq : ℕ) → SetsNext old new next
    → PassesAll (pointer_checks old page owner seq) → PassesAll (pointer_checks new page owner seq)
unfolding pointer_checks
next_passes old new next page owner seq sets passes =
    passes-append (common_checks new page POINTER_KIND owner seq) (rest_checks new)
    (subst PassesAll (sym (front_checks new old page POINTER_KIND owner seq sets.front))
    (passes_front (common_checks old page POINTER_KIND owner seq) (rest_checks old) passes))
    (count_fits, (unused, tt))
  where
    rest : PassesAll (rest_checks old)
    rest = passes_behind (common_checks old page POINTER_KIND owner seq) (rest_checks old) passes

    count_fits : count_in new ≡ min (count_in new) (capacity (length new))
    count_fits = let count = sets.page.count in omega (arith, count)

    unused : u16_at new 22 ≡ 0
    unused =
        let was : u16_at old 22 ≡ 0 = rest.1.0 in
        let low = sets.outside 22 (λ past. omega (arith, past)) in
        let high = sets.outside 23 (λ past. omega (arith, past)) in
        omega (arith, was, low, high)

module _ (g : Geometry) (old with_bit taken made begun new : Pages) (q p n owner at : ℕ) (orders : Orders) (settled : ℕ → Bool) (on_disk wanted : DemandSet) (lawful : IsGeometry g) (grows : GrowsInNew g old with_bit taken made begun new q p n owner at) (was : IsWanting g.size old wanted) (data_first : IsFirst g.size orders n p) (pointer_first : IsFirst g.size orders p q) where
  abbrev width : ℕ
  width = g.size

  abbrev first_place : ℕ
  first_place = (at + 1) * capacity width

  abbrev want_p : List Demand
  want_p = bit_demand width p

  abbrev want_n : List Demand
  want_n = bit_demand width n

  abbrev want_data : List Demand
  want_data = want_of n DATA owner first_place ∷ []

  abbrev want_pointer : List Demand
  want_pointer = want_of p POINTER owner (at + 1) ∷ []

  abbrev wanted_p : DemandSet
  wanted_p = either wanted (listed want_p)

  abbrev wanted_n : DemandSet
  wanted_n = either wanted_p (listed want_n)

  abbrev wanted_data : DemandSet
  wanted_data = either wanted_n (listed want_data)

  abbrev wanted_pointer : DemandSet
  wanted_pointer = either wanted_data (listed want_pointer)

  p_step : Pays width old with_bit orders settled on_disk wanted (listed want_p)
  p_step = take_pays g old with_bit p orders settled on_disk wanted lawful grows.takes_pointer was

  n_step : Pays width with_bit taken orders settled on_disk wanted_p (listed want_n)
  n_step = take_pays g with_bit taken n orders settled on_disk wanted_p lawful grows.takes p_step.wants

  -- the page that is taken second is another one than the first, which is marked then
  two_pages : p ≢ n
  two_pages same = both_ways _ grows.takes.free.unused
      (subst (λ (k : ℕ). is_used width with_bit k ≡ true) same (takes_bit g old with_bit p lawful grows.takes_pointer))

  q_apart : q ≢ p
  q_apart same = both_ways _ grows.takes_pointer.free.unused
      (subst (λ (k : ℕ). is_used width old k ≡ true) same grows.used)

  q_used : is_used width with_bit q ≡ true
  q_used = takes_keeps g old with_bit p lawful grows.takes_pointer q grows.used

  q_other : q ≢ n
  q_other same = both_ways _ grows.takes.free.unused
      (subst (λ (k : ℕ). is_used width with_bit k ≡ true) same q_used)

  p_used : is_used width taken p ≡ true
  p_used = takes_keeps g with_bit taken n lawful grows.takes p (takes_bit g old with_bit p lawful grows.takes_pointer)

  n_unwanted : (d : Demand) → IsIn wanted_n d → d.target ≢ n
  n_unwanted d h = elim (either_cases wanted_p (listed want_n) d h) [
    | inl x ↦ taken_is_unwanted g with_bit taken n orders settled on_disk wanted_p lawful grows.takes p_step.wants d x
    | inr y ↦ bit_is_elsewhere g with_bit taken n orders settled on_disk wanted_p lawful grows.takes p_step.wants d y
  ]

  data_step_ : Pays width taken made orders settled on_disk wanted_n (listed want_data)
  data_step_ = make_pays width taken made n orders settled on_disk wanted_n (listed want_data) n_step.wants
      (made_data width taken made n owner first_place orders settled on_disk wanted_n (record {
        others = grows.made_else;
        len = grows.made_here.len;
        off_inventory = grows.takes.free.no_inventory;
        used = takes_bit g with_bit taken n lawful grows.takes;
      }) n_step.wants n_unwanted grows.made_passes grows.made_here.count)

  p_unwanted : (d : Demand) → IsIn wanted_data d → d.target ≢ p
  p_unwanted d h = elim (either_cases wanted_n (listed want_data) d h) [
    | inl x ↦ elim (either_cases wanted_p (listed want_n) d x) [
      | inl y ↦ elim (either_cases wanted (listed want_p) d y) [
        | inl z ↦ taken_is_unwanted g old with_bit p orders settled on_disk wanted lawful grows.takes_pointer was d z
        | inr z ↦ bit_is_elsewhere g old with_bit p orders settled on_disk wanted lawful grows.takes_pointer was d z
      ]
      | inr y ↦ λ same. grows.takes_pointer.free.no_inventory (region_of width n)
          (sym (ap (λ (e : Demand). e.target) (is_demand (inventory_page width (region_of width n)) BIT n 0 d
          (of_listed want_n d y))) ∙ same)
    ]
    | inr y ↦ λ same. two_pages (sym same ∙ ap (λ (e : Demand). e.target) (one_of (want_of n DATA owner first_place) d y))
  ]

  -- inventory pages are as they were taken
  made_used : is_used width made p ≡ true
  made_used = used_same width taken made n grows.made_else grows.takes.free.no_inventory p ∙ p_used

  entry_of : (e : Demand) → Has (linked width n DATA owner ((at + 1) * capacity width)) e
      → IsPaid orders on_disk wanted_data (listed want_pointer) (want_of p POINTER owner (at + 1)) e
  entry_of e there = elim (has_either (demand n DATA owner first_place) want_n e there) [
    | inl x ↦ subst (λ (y : Demand). IsPaid orders on_disk wanted_data (listed want_pointer) (want_of p POINTER owner (at + 1)) y)
        (sym (is_demand n DATA owner first_place e x)) (record {
          is_wanted = inl (in_other wanted_n (listed want_data) (want_of n DATA owner first_place)
              (in_listed want_data (want_of n DATA owner first_place) (inl refl)));
          is_first = inr (inl data_first.page);
        })
    | inr y ↦ record {
      is_wanted = inl (in_one wanted_n (listed want_data) e (in_other wanted_p (listed want_n) e (in_listed want_n e y)));
      is_first = inr (inl (subst (λ (z : Demand). orders z.target p ≡ true)
          (sym (is_demand (inventory_page width (region_of width n)) BIT n 0 e y)) data_first.bit));
    }
  ]

  pointer_step : Pays width made begun orders settled on_disk wanted_data (listed want_pointer)
  pointer_step = make_pays width made begun p orders settled on_disk wanted_data (listed want_pointer) data_step_.wants
      (made_pointer width made begun p n owner (at + 1) orders settled on_disk wanted_data (record {
        others = grows.begun_else;
        len = grows.begun_len;
        off_inventory = grows.takes_pointer.free.no_inventory;
        used = made_used;
      }) data_step_.wants p_unwanted entry_of grows.begun_passes grows.entries grows.last)

  last_same_ : begun q ≡ old q
  last_same_ = grows.begun_else q q_apart ∙ (grows.made_else q q_other
      ∙ (grows.takes.others q (λ same. grows.off_inventory (region_of width n) (sym same))
      ∙ grows.takes_pointer.others q (λ same. grows.off_inventory (region_of width p) (sym same))))

  next_of_ : (e : Demand) → Has (linked width p POINTER owner (at + 1)) e
      → IsPaid orders on_disk wanted_pointer no_more (want_of q POINTER owner at) e
  next_of_ e there = elim (has_either (demand p POINTER owner (at + 1)) want_p e there) [
    | inl x ↦ subst (λ (y : Demand). IsPaid orders on_disk wanted_pointer no_more (want_of q POINTER owner at) y)
        (sym (is_demand p POINTER owner (at + 1) e x)) (record {
          is_wanted = inl (in_other wanted_data (listed want_pointer) (want_of p POINTER owner (at + 1))
              (in_listed want_pointer (want_of p POINTER owner (at + 1)) (inl refl)));
          is_first = inr (inl pointer_first.page);
        })
    | inr y ↦ record {
      is_wanted = inl (in_one wanted_data (listed want_pointer) e (in_one wanted_n (listed want_data) e
          (in_one wanted_p (listed want_n) e (in_other wanted (listed want_p) e (in_listed want_p e y)))));
      is_first = inr (inl (subst (λ (z : Demand). orders z.target q ≡ true)
          (sym (is_demand (inventory_page width (region_of width p)) BIT p 0 e y)) pointer_first.bit));
    }
  ]

  next_step : Pays width begun new orders settled on_disk wanted_pointer no_more
  next_step = next_pays width begun new q p owner at orders settled on_disk wanted_pointer (record {
    others = grows.linked_else;
    sets = subst (λ (page : List ℕ). SetsNext page (new q) p) (sym last_same_) grows.links;
    was_passes = subst (λ (page : List ℕ). PassesAll (pointer_checks page q owner at)) (sym last_same_) grows.passes;
    passes = next_passes (old q) (new q) p q owner at grows.links grows.passes;
    off_header = grows.off_header;
    off_inventory = grows.off_inventory;
  }) pointer_step.wants next_of_

  pub chain_pays : Pays width old new orders settled on_disk wanted (listed (chain_wants width p n owner (at + 1)))
  chain_pays = two_listed width old with_bit new orders settled on_disk wanted want_p
      (want_n ++ want_of n DATA owner first_place ∷ want_of p POINTER owner (at + 1) ∷ []) p_step
      (two_listed width with_bit taken new orders settled on_disk wanted_p want_n
      (want_of n DATA owner first_place ∷ want_of p POINTER owner (at + 1) ∷ []) n_step
      (two_listed width taken made new orders settled on_disk wanted_n want_data want_pointer data_step_
      (two_listed width made begun new orders settled on_disk wanted_data want_pointer [] pointer_step next_step)))
