-- What the taking of a page pays, and the making of a page of which nothing was wanted.
use Rattle.std.specs.Prelude.{◌≡◌, ◌≢◌, ◌⊎◌, ◌<◌, ◌/◌, ◌%◌, ℕ, true, List, length, Bool}
use Rattle.std.proofs.Common.{inl, inr, refl, sym, subst, ap, ◌∙◌, arith}
use Rattle.std.specs.Prelude.{◌≤◌}
use Rattle.std.proofs.lemmas.List.{get_or-replicate, get_or_past, length-replicate}
use Rattle.std.proofs.lemmas.Bool.{both_ways, cases_lt, or_left}
use Rattle.mg_base.specs.Checks.{PassesAll}
use Rattle.mg_base.specs.Fields.{byte}
use Rattle.mg_base.specs.Image.{blank}
use Rattle.mg_base.specs.declared.geometry.Geometry.{Geometry}
use Rattle.mg_careful.specs.declared.links.Demand.{Demand}
use Rattle.mg_careful.specs.Precedence.{Orders}
use Rattle.mg_careful.specs.CarefulWrite.{DemandSet, Has, IsIn, listed}
use Rattle.mg_demand_laws.specs.Bearing.{IsPaid}
use Rattle.mg_image.specs.Form.{Pages}
use Rattle.mg_image.specs.Inventory.{inventory_page, is_used}
use Rattle.mg_pip.specs.PipPage.{bits, pip_checks, used_in}
use Rattle.mg_slots.specs.declared.page.TheConstants.{DATA_KIND}
use Rattle.mg_space.specs.Demands.{bit_demand, demands_by, demands_of, meets_of}
use Rattle.mg_space.specs.Taking.{IsGeometry, IsLawfulRegion, TakesPage, region_of}
use Rattle.mg_space.specs.TakingLaws.{takes_bit, takes_keeps, takes_own}
use Rattle.mg_space.specs.declared.links.TheConstants.{BIT, VERSION}
use Rattle.mg_demand_laws.specs.KindLaws.{bits_alone, kind_of, owner_of}
use Rattle.mg_demand_laws.specs.Met.{is_demand, met_is, of_bit, of_listed, opened}
use Rattle.mg_demand_laws.specs.Steps.{MakesPage}
use Rattle.mg_demand_laws.specs.VersionLaws.{none_may_go}
use Rattle.mg_demand_laws.specs.Wanting.{IsWanting, Pays, want_of}
use Rattle.mg_demand_laws.specs.WantingLaws.{page_pays}

-- a bit demands nothing
pub bit_demands : (size : ℕ) (pages : Pages) (wanted : DemandSet) → IsWanting size pages wanted
    → (page : List ℕ) → length page ≡ size → (d e : Demand) → d ≡ want_of d.target BIT d.a d.b
    → Has (demands_of page d) e → ⊥
bit_demands size pages wanted was page len d e is made =
    let none : Has (demands_by size page (want_of d.target BIT d.a d.b)) e =
    subst (λ (ds : List Demand). Has ds e) (opened size page (want_of d.target BIT d.a d.b) was.lawful len)
    (subst (λ (x : Demand). Has (demands_of page x) e) is made) in
    none

byte_none : (size : ℕ) → byte (blank size) 0 ≡ 0
byte_none size = on (cases_lt 0 size)
  where
    on : (0 < size) ⊎ (size ≤ 0) → byte (blank size) 0 ≡ 0
    on (inl inside) = get_or-replicate size 0 0 0 inside
    on (inr past) = get_or_past (blank size) 0 0 (omega (arith, length-replicate {A = ℕ} size 0))

-- a region's page is blank, or a page of the page inventory
low_kind : (at region : ℕ) (page : List ℕ) → IsLawfulRegion at region page → byte page 0 < 3
low_kind at region page (inl empty) =
    let zero_ : byte page 0 ≡ 0 = ap (λ (p : List ℕ). byte p 0) empty ∙ byte_none (length page) in
    omega (arith, zero_)
low_kind at region page (inr passes) =
    let two : byte page 0 ≡ 2 = kind_of page at 2 0 region passes in omega (arith, two)

-- its sequence is that of the region
same_region : (at region other : ℕ) (page : List ℕ) → IsLawfulRegion at region page
    → PassesAll (pip_checks page at other) → other ≡ region
same_region at region other page (inl empty) passes =
    let zero_ : byte page 0 ≡ 0 = ap (λ (p : List ℕ). byte p 0) empty ∙ byte_none (length page) in
    let two : byte page 0 ≡ 2 = kind_of page at 2 0 other passes in absurd (omega (arith, zero_, two))
same_region at region other page (inr is) passes = (owner_of page at 2 0 other 0 region passes is).1

-- the page that is taken is marked: its bit is wanted newly
module _ (g : Geometry) (old new : Pages) (n : ℕ) (orders : Orders) (settled : ℕ → Bool) (on_disk wanted : DemandSet) (lawful : IsGeometry g) (takes : TakesPage g old new n) (was : IsWanting g.size old wanted) where
  abbrev at : ℕ
  at = inventory_page g.size (region_of g.size n)

  abbrev more : DemandSet
  more = listed (bit_demand g.size n)

  on_page : (d : Demand) → IsIn wanted d → d.target ≡ at → (d ≡ want_of d.target BIT d.a d.b)
      × PassesAll (pip_checks (old at) at (d.a / bits g.size))
      × (used_in (old at) (d.a % bits g.size) ≡ true)
  on_page d h same =
      let alone = bits_alone g.size old wanted was d h (λ none. omega (arith, same, none))
      (subst (λ (k : ℕ). byte (old k) 0 < 3) (sym same)
      (low_kind at (region_of g.size n) (old at) takes.was)) in (
        alone.0,
        subst (λ (k : ℕ). PassesAll (pip_checks (old k) k (d.a / bits g.size))) same alone.1,
        subst (λ (k : ℕ). used_in (old k) (d.a % bits g.size) ≡ true) same alone.2,
      )

  still_there : (d : Demand) → IsIn wanted d → d.target ≡ at → meets_of (new at) d ≡ true
  still_there d h same =
      let alone = on_page d h same in
      let region_is = same_region at (region_of g.size n) (d.a / bits g.size) (old at) takes.was alone.1 in
      met_is g.size (new at) d was.lawful takes.len
      (of_bit alone.0 (subst (λ (k : ℕ). PassesAll (pip_checks (new at) k (d.a / bits g.size))) (sym same)
      (subst (λ (r : ℕ). PassesAll (pip_checks (new at) at r)) (sym region_is) takes.tests))
      (takes.bits_are (d.a % bits g.size) ∙ or_left _ _ alone.2))

  is_new : (d : Demand) → IsIn more d → d ≡ want_of at BIT n 0
  is_new d h = is_demand at BIT n 0 d (of_listed (bit_demand g.size n) d h)

  new_met : (d : Demand) → IsIn more d → meets_of (new d.target) d ≡ true
  unfolding is_used
  new_met d h = subst (λ (x : Demand). meets_of (new x.target) x ≡ true) (sym (is_new d h))
      (met_is g.size (new at) (want_of at BIT n 0) was.lawful takes.len
      (of_bit refl takes.tests (takes_bit g old new n lawful takes)))

  pub take_pays : Pays g.size old new orders settled on_disk wanted more
  take_pays = page_pays g.size old new at orders settled on_disk wanted more was (record {
    others = takes.others;
    len = takes.len;
    used = takes_keeps g old new n lawful takes;
    still = still_there;
    links = λ d e h same made. absurd (bit_demands g.size old wanted was (new at) takes.len d e
        (on_page d h same).0 made);
    leaves = λ d e h same made may apart. absurd (none_may_go g.size old wanted was settled at
        (λ five. let low = low_kind at (region_of g.size n) (old at) takes.was in omega (arith, five, low))
        d e h same made may);
    kept_data = λ d h same is. absurd (let what : d.what ≡ 9 = ap (λ (x : Demand). x.what) (on_page d h same).0 in
        omega (arith, what, is));
    met = new_met;
    new_links = λ d e h made. absurd (bit_demands g.size old wanted was (new d.target)
        (ap (λ (x : Demand). length (new x.target)) (is_new d h) ∙ takes.len) d e
        (subst (λ (x : Demand). x ≡ want_of x.target BIT x.a x.b) (sym (is_new d h)) refl) made);
    new_used = λ d h. subst (λ (x : Demand). is_used g.size new x.target ≡ true) (sym (is_new d h))
        (takes_own g old new n lawful takes);
    new_data = λ d h is. absurd (let what : d.what ≡ 9 = ap (λ (x : Demand). x.what) (is_new d h) in
        omega (arith, what, is));
  })

  -- nothing was wanted of the page, and nothing is yet
  pub taken_is_unwanted : (d : Demand) → IsIn wanted d → d.target ≢ n
  taken_is_unwanted d h same = both_ways _ takes.free.unused
      (subst (λ (m : ℕ). is_used g.size old m ≡ true) same (was.used d h))

  pub bit_is_elsewhere : (d : Demand) → IsIn more d → d.target ≢ n
  bit_is_elsewhere d h same =
      takes.free.no_inventory (region_of g.size n) (sym (ap (λ (x : Demand). x.target) (is_new d h)) ∙ same)

-- which pages are used is the same where no page of the page inventory changes
pub used_same : (size : ℕ) (old new : Pages) (b : ℕ) → ((n : ℕ) → n ≢ b → new n ≡ old n)
    → ((region : ℕ) → inventory_page size region ≢ b) → (m : ℕ) → is_used size new m ≡ is_used size old m
unfolding is_used
used_same size old new b others off m = ap (λ (page : List ℕ). used_in page (m % bits size))
    (others (inventory_page size (m / bits size)) (off (m / bits size)))

pub make_pays : (size : ℕ) (old new : Pages) (n : ℕ) (orders : Orders) (settled : ℕ → Bool) (on_disk wanted more : DemandSet)
    → IsWanting size old wanted → MakesPage size old new n orders on_disk wanted more
    → Pays size old new orders settled on_disk wanted more
make_pays size old new n orders settled on_disk wanted more was makes =
    page_pays size old new n orders settled on_disk wanted more was (record {
      others = makes.others;
      len = makes.len;
      used = λ m is. used_same size old new n makes.others makes.off_inventory m ∙ is;
      still = λ d h same. absurd (makes.unwanted d h same);
      links = λ d e h same made. absurd (makes.unwanted d h same);
      leaves = λ d e h same made may apart. absurd (makes.unwanted d h same);
      kept_data = λ d h same is. absurd (makes.unwanted d h same);
      met = λ d h. subst (λ (m : ℕ). meets_of (new m) d ≡ true) (sym (makes.aimed d h)) (makes.met d h);
      new_links = λ d e h made. makes.links d e h
          (subst (λ (m : ℕ). Has (demands_of (new m) d) e) (makes.aimed d h) made);
      new_used = λ d h. subst (λ (m : ℕ). is_used size new m ≡ true) (sym (makes.aimed d h))
          (used_same size old new n makes.others makes.off_inventory n ∙ makes.used);
      new_data = λ d h is. subst (λ (m : ℕ). byte (new m) 0 ≡ DATA_KIND) (sym (makes.aimed d h))
          (makes.on_data d h is);
    })
