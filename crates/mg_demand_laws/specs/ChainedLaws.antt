-- What cells lead to, and what keeps versions chained where no cell changes.
use Rattle.std.specs.Prelude.{◌≡◌, ◌≢◌, ◌⊎◌, ◌<◌, ◌^◌, ◌++◌, ℕ, zero, suc, Bool, true, false, List, [], ◌∷◌, length, Option, None, Some, Ok, Err, Result, is_ok, if◌then◌else◌}
use Rattle.std.proofs.Common.{inl, inr, refl, sym, subst, ap, ◌∙◌, arith}
use Rattle.std.proofs.lemmas.Bool.{and_parts, cases_eq}
use Rattle.mg_base.specs.Fields.{byte}
use Rattle.mg_base.specs.Geometry.{is_page_size}
use Rattle.mg_base.specs.Checks.{PassesAll, common_checks}
use Rattle.mg_careful.specs.declared.links.Demand.{Demand}
use Rattle.mg_careful.specs.CarefulWrite.{DemandSet, Has, IsIn, either, listed}
use Rattle.mg_demand_laws.specs.CellDemands.{anchor_to, want_by}
use Rattle.mg_header.specs.HeaderPage.{reading}
use Rattle.mg_header.specs.declared.header.HeadFault.{HeadFault}
use Rattle.mg_header.specs.declared.header.Header.{Header}
use Rattle.mg_image.specs.Form.{Pages}
use Rattle.mg_image.specs.Inventory.{inventory_page}
use Rattle.mg_image.specs.Records.{slot_cell}
use Rattle.mg_slots.specs.Changes.{SetsCell}
use Rattle.mg_slots.specs.DataPage.{cell_of, slot_count}
use Rattle.mg_slots.specs.declared.page.TheConstants.{DATA_KIND}
use Rattle.mg_space.specs.Demands.{back_demands, cell_demands, demand, demands_of, is_version_of, meets_of, slot_demands, version_demands, wanted_demands}
use Rattle.mg_space.specs.Taking.{region_of}
use Rattle.mg_space.specs.declared.links.TheConstants.{BIT, DATA, HEADER, NEXT, VERSION}
use Rattle.mg_version.specs.Cells.{IsCell, IsLink}
use Rattle.mg_version.specs.declared.cell.Cell.{Cell}
use Rattle.mg_version.specs.declared.cell.Cell.TheVariants as cells
use Rattle.mg_version.specs.declared.cell.Link.{Link}
use Rattle.mg_version.specs.declared.cell.Version.{Version}
use Rattle.mg_demand_laws.specs.CellLaws.{any_slot}
use Rattle.mg_demand_laws.specs.KindLaws.{as_want, data_alone, from_want, kind_of}
use Rattle.mg_demand_laws.specs.Met.{has_either, is_demand}
use Rattle.mg_demand_laws.specs.NumberLaws.{header_kind}
use Rattle.mg_demand_laws.specs.VersionLaws.{leads_from_data}
use Rattle.mg_demand_laws.specs.Wanting.{IsWanting, want_of}
use Rattle.mg_demand_laws.specs.WantingLaws.{either_cases, in_one}
use Rattle.mg_demand_laws.specs.TableTies.{demand_there}
use Rattle.mg_demand_laws.specs.Wants.{IsDataOf, data_passes, is_head, still_data}
use Rattle.mg_demand_laws.specs.Chained.{IsChained, LeadOnce, Leads, of_page, of_version}

-- ---- places

-- a place is another one than a second
abbrev pub IsElse : ℕ → ℕ → ℕ → ℕ → Type 0
IsElse n slot m other = n ≡ m → slot ≢ other

pub cases_place : (n slot m other : ℕ) → ((n ≡ m) × (slot ≡ other)) ⊎ IsElse n slot m other
cases_place n slot m other = elim (cases_eq n m) [
  | inl same ↦ elim (cases_eq slot other) [
    | inl here ↦ inl (same, here)
    | inr off ↦ inr (λ e. off)
  ]
  | inr off ↦ inr (λ e. absurd (off e))
]

-- the cell at a place, by another name of the place
pub at_place : (pages : Pages) (n slot m other : ℕ) → (n ≡ m) × (slot ≡ other)
    → slot_cell (cell_of (pages n) slot) ≡ slot_cell (cell_of (pages m) other)
at_place pages n slot m other same = ap (λ (k : ℕ). slot_cell (cell_of (pages k) slot)) same.0
    ∙ ap (λ (s : ℕ). slot_cell (cell_of (pages m) s)) same.1

-- where one slot has another cell, each other one keeps its own
pub else_cell : (old new : Pages) (x slot : ℕ) (cell : Option (List ℕ)) → SetsCell (old x) (new x) slot cell
    → ((n : ℕ) → n ≢ x → new n ≡ old n) → (n s : ℕ) → IsElse n s x slot → cell_of (new n) s ≡ cell_of (old n) s
else_cell old new x slot cell sets others n s off = elim (cases_eq n x) [
  | inl same ↦ ap (λ (m : ℕ). cell_of (new m) s) same ∙ (sets.others s (off same)
      ∙ ap (λ (m : ℕ). cell_of (old m) s) (sym same))
  | inr other ↦ ap (λ (page : List ℕ). cell_of page s) (others n other)
]

-- ---- what a cell leads to

module _ (size : ℕ) (wanted : DemandSet) (page : List ℕ) (n slot : ℕ) (e : Demand) where
  pub leads_none : slot_cell (cell_of page slot) ≡ None → Leads size wanted page n slot e → ⊥
  leads_none is (of_page of h) = subst (λ (c : Option Cell). Has (cell_demands c) e) is h
  leads_none is (of_version t w h) = subst (λ (c : Option Cell). Has (wanted_demands c) e) is h

  -- an anchor, or none
  pub leads_anchor : (o : Option Link) → slot_cell (cell_of page slot) ≡ anchor_to o → Leads size wanted page n slot e
      → Has (back_demands o) e
  leads_anchor None is leads = absurd (leads_none is leads)
  leads_anchor (Some link) is (of_page of h) = subst (λ (c : Option Cell). Has (cell_demands c) e) is h
  leads_anchor (Some link) is (of_version t w h) = absurd (subst (λ (c : Option Cell). Has (wanted_demands c) e) is h)

  -- a version outside its primary slot
  pub leads_version : (v : Version) → slot_cell (cell_of page slot) ≡ Some (cells.Version v) → v.primary ≡ false
      → e.what ≡ VERSION → Leads size wanted page n slot e
      → ((t : ℕ) × IsIn wanted (want_of n VERSION slot t)) × Has (back_demands v.back) e
  leads_version v is moved what (of_page of h) =
      absurd (subst (λ (c : Bool). Has (if c then version_demands v else []) e) moved
      (subst (λ (c : Option Cell). Has (cell_demands c) e) is h))
  leads_version v is moved what (of_version t w h) = elim (has_either (demand 0 NEXT v.tx.0 0) (back_demands v.back) e
      (subst (λ (c : Option Cell). Has (wanted_demands c) e) is h)) [
        | inl number ↦ let two : e.what ≡ NEXT = ap (λ (y : Demand). y.what) (is_demand 0 NEXT v.tx.0 0 e number) in
            absurd (omega (arith, two, what))
        | inr back ↦ ((t, w), back)
      ]

  pub leads_same : (other : List ℕ) → cell_of page slot ≡ cell_of other slot → Leads size wanted page n slot e
      → Leads size wanted other n slot e
  leads_same other same (of_page of h) =
      of_page of (subst (λ (c : Option (List ℕ)). Has (cell_demands (slot_cell c)) e) same h)
  leads_same other same (of_version t w h) =
      of_version t w (subst (λ (c : Option (List ℕ)). Has (wanted_demands (slot_cell c)) e) same h)

  pub leads_within : (other : DemandSet) → (IsDataOf size wanted n → IsDataOf size other n)
      → ((t : ℕ) → IsIn wanted (want_of n VERSION slot t) → IsIn other (want_of n VERSION slot t))
      → Leads size wanted page n slot e → Leads size other page n slot e
  leads_within other data_ versions (of_page of h) = of_page (data_ of) h
  leads_within other data_ versions (of_version t w h) = of_version t (versions t w) h

-- ---- what is wanted leads by its cells

pub slots_lead : (page : List ℕ) (e : Demand) (k : ℕ) → Has (slot_demands page k) e
    → (slot : ℕ) × Has (cell_demands (slot_cell (cell_of page slot))) e
slots_lead page e zero h = absurd h
slots_lead page e (suc k) h = elim (has_either (slot_demands page k) _ e h) [
  | inl there ↦ slots_lead page e k there
  | inr here ↦ (k, here)
]

-- a version that is wanted stands in its slot
version_there : (page : List ℕ) (n slot t : ℕ)
    → meets_of page (want_of n VERSION slot t) ≡ true → is_version_of t (slot_cell (cell_of page slot)) ≡ true
unfolding meets_of
version_there page n slot t met = (and_parts (is_page_size (length page)) _ met).1

module _ (size : ℕ) (pages : Pages) (wanted : DemandSet) (was : IsWanting size pages wanted) where
  pub data_kind : (n : ℕ) → IsDataOf size wanted n → byte (pages n) 0 ≡ DATA_KIND
  data_kind n of = kind_of (pages n) n DATA_KIND of.owner of.place
      (data_passes size pages wanted was n of.owner of.place of.wants.page)

  -- what a cell leads to is wanted
  pub leads_wanted : (n slot : ℕ) (e : Demand) → Leads size wanted (pages n) n slot e → IsIn wanted e
  leads_wanted n slot e (of_page of h) = was.keeps.in_turn (want_of n DATA of.owner of.place) e of.wants.page
      (from_want size pages wanted was (pages n) (was.whole n) (want_of n DATA of.owner of.place)
      (want_of n DATA of.owner of.place) e refl (any_slot (pages n) slot e h))
  leads_wanted n slot e (of_version t w h) = was.keeps.in_turn (want_of n VERSION slot t) e w
      (from_want size pages wanted was (pages n) (was.whole n) (want_of n VERSION slot t) (want_of n VERSION slot t) e
      refl h)

  -- no version is wanted of a slot that has no cell
  pub free_is_unwanted : (n slot t : ℕ) → cell_of (pages n) slot ≡ None → IsIn wanted (want_of n VERSION slot t) → ⊥
  free_is_unwanted n slot t free h =
      let none : false ≡ true = subst (λ (c : Option (List ℕ)). is_version_of t (slot_cell c) ≡ true) free
      (version_there (pages n) n slot t (was.keeps.met (want_of n VERSION slot t) h)) in absurd cc

  module _ (head : IsIn wanted (want_of 0 HEADER 0 0)) where
    off_header : (n : ℕ) → byte (pages n) 0 ≡ DATA_KIND → n ≢ 0
    off_header n five none = at (reading (pages 0) size) refl (is_head size pages wanted was head)
      where
        at : (r : Result Header HeadFault) → reading (pages 0) size ≡ r → is_ok r ≡ true → ⊥
        at (Ok header) is ok =
            let one = header_kind size (pages 0) header is in
            let there : byte (pages n) 0 ≡ byte (pages 0) 0 = ap (λ (k : ℕ). byte (pages k) 0) none in
            omega (arith, one, there, five)
        at (Err fault) is ok = absurd cc

    -- of a data page the page itself is wanted, or one of its versions
    pub on_data_page : (d : Demand) → IsIn wanted d → byte (pages d.target) 0 ≡ DATA_KIND
        → (d ≡ want_of d.target DATA d.a d.b) ⊎ (d ≡ want_of d.target VERSION d.a d.b)
    on_data_page d h five = at (data_alone size pages wanted was d h (off_header d.target five) five)
      where
        at : ((d ≡ want_of d.target DATA d.a d.b)
            × PassesAll (common_checks (pages d.target) d.target DATA_KIND d.a d.b))
            ⊎ ((d ≡ want_of d.target VERSION d.a d.b)
            × (is_version_of d.b (slot_cell (cell_of (pages d.target) d.a)) ≡ true))
            → (d ≡ want_of d.target DATA d.a d.b) ⊎ (d ≡ want_of d.target VERSION d.a d.b)
        at (inl (is, passes)) = inl is
        at (inr (is, there)) = inr is

    -- What is wanted leads to a version by one of its page's cells, also where the page changes, as a data page.
    pub leads_then : IsChained size pages wanted → (d e : Demand) → IsIn wanted d → e.what ≡ VERSION → (page : List ℕ)
        → length page ≡ size → (byte (pages d.target) 0 ≢ DATA_KIND → page ≡ pages d.target) → Has (demands_of page d) e
        → (slot : ℕ) × Leads size wanted page d.target slot e
    leads_then chained d e h what page len same made = elim (cases_eq (byte (pages d.target) 0) DATA_KIND) [
      | inl five ↦ at (on_data_page d h five)
      | inr other ↦ absurd (other (leads_from_data size pages wanted was d e h
          (subst (λ (p : List ℕ). Has (demands_of p d) e) (same other) made) what))
    ]
      where
        at : (d ≡ want_of d.target DATA d.a d.b) ⊎ (d ≡ want_of d.target VERSION d.a d.b)
            → (slot : ℕ) × Leads size wanted page d.target slot e
        at (inl is) =
            let it = slots_lead page e (slot_count page)
            (as_want size pages wanted was page len (want_of d.target DATA d.a d.b) d e is made) in
            (it.0, of_page (chained.with_bit d.target d.a d.b (subst (IsIn wanted) is h)) it.1)
        at (inr is) = (
          d.a,
          of_version d.b (subst (IsIn wanted) is h)
              (as_want size pages wanted was page len (want_of d.target VERSION d.a d.b) d e is made),
        )

    -- the newest version of a record whose page is wanted is wanted
    pub newest_wanted : IsChained size pages wanted → (n slot : ℕ) (newest : Link) → IsDataOf size wanted n
        → slot_cell (cell_of (pages n) slot) ≡ Some (cells.Anchor newest) → Leads size wanted (pages n) n slot (want_by newest)
    newest_wanted chained n slot newest of is = of_page of (subst (λ (c : Option Cell). Has (cell_demands c) (want_by newest)) (sym is)
        (demand_there newest.rec.page.0 VERSION newest.rec.slot newest.tx.0 fits.page
        (let small : newest.rec.slot < 2 ^ 16 = fits.slot in omega (arith, small)) fits.tx))
      where
        fits : IsLink newest
        fits = chained.cells_are n slot (cells.Anchor newest) of is

-- ---- where no cell changes

-- more is wanted or less, but for versions the same
pub chained_within : (size : ℕ) (pages : Pages) (more less : DemandSet) → ((d : Demand) → IsIn less d → IsIn more d)
    → ((d : Demand) → d.what ≢ VERSION → IsIn more d → IsIn less d) → IsChained size pages more
    → IsChained size pages less
chained_within size pages more less within kept chained = record {
  with_bit = λ n owner place h. data_in n (chained.with_bit n owner place (within (want_of n DATA owner place) h));
  placed = λ n slot t h. data_in n (chained.placed n slot t (within (want_of n VERSION slot t) h));
  cells_are = λ n slot cell of is. chained.cells_are n slot cell (data_out n of) is;
  once = λ n m slot other e what one two. chained.once n m slot other e what (leads_out n slot e one)
      (leads_out m other e two);
}
  where
    data_in : (n : ℕ) → IsDataOf size more n → IsDataOf size less n
    data_in n of = record {
      owner = of.owner;
      place = of.place;
      wants = record {
        page = kept (want_of n DATA of.owner of.place) (λ is. omega (arith, is)) of.wants.page;
        bit = kept (want_of (inventory_page size (region_of size n)) BIT n 0) (λ is. omega (arith, is)) of.wants.bit;
      };
    }

    data_out : (n : ℕ) → IsDataOf size less n → IsDataOf size more n
    data_out n of = record {
      owner = of.owner;
      place = of.place;
      wants = record {
        page = within (want_of n DATA of.owner of.place) of.wants.page;
        bit = within (want_of (inventory_page size (region_of size n)) BIT n 0) of.wants.bit;
      };
    }

    leads_out : (n slot : ℕ) (e : Demand) → Leads size less (pages n) n slot e → Leads size more (pages n) n slot e
    leads_out n slot e = leads_within size less (pages n) n slot e more (data_out n)
        (λ t. within (want_of n VERSION slot t))

-- a page that is newly wanted as a data page has no cell
pub record IsEmptyData (size : ℕ) (pages : Pages) (wanted : DemandSet) (n : ℕ) : Type 0 where
  pub is_data : IsDataOf size wanted n
  pub none : (slot : ℕ) → cell_of (pages n) slot ≡ None

-- no data page changes, no version is wanted newly, and a page that is wanted newly as a data page has no cell
pub chained_more : (size : ℕ) (old new : Pages) (wanted more : DemandSet) → IsChained size old wanted
    → ((n : ℕ) → IsDataOf size wanted n → new n ≡ old n) → ((d : Demand) → IsIn more d → d.what ≢ VERSION)
    → ((n owner place : ℕ) → IsIn more (want_of n DATA owner place) → IsEmptyData size new (either wanted more) n)
    → IsChained size new (either wanted more)
chained_more size old new wanted more chained same none fresh = record {
  with_bit = λ n owner place h. elim (either_cases wanted more (want_of n DATA owner place) h) [
    | inl stood ↦ still_data size wanted more n (chained.with_bit n owner place stood)
    | inr newly ↦ (fresh n owner place newly).is_data
  ];
  placed = λ n slot t h. elim (either_cases wanted more (want_of n VERSION slot t) h) [
    | inl stood ↦ still_data size wanted more n (chained.placed n slot t stood)
    | inr newly ↦ absurd (none (want_of n VERSION slot t) newly refl)
  ];
  cells_are = λ n slot cell of is. elim (data_cases n of) [
    | inl stood ↦ chained.cells_are n slot cell stood
        (subst (λ (page : List ℕ). slot_cell (cell_of page slot) ≡ Some cell) (same n stood) is)
    | inr empty ↦ let both : Some cell ≡ None = sym is ∙ ap slot_cell (empty slot) in absurd cc
  ];
  once = λ n m slot other e what one two. chained.once n m slot other e what (leads_back n slot e one)
      (leads_back m other e two);
}
  where
    data_cases : (n : ℕ) → IsDataOf size (either wanted more) n
        → IsDataOf size wanted n ⊎ ((slot : ℕ) → cell_of (new n) slot ≡ None)
    data_cases n of = elim (either_cases wanted more (want_of n DATA of.owner of.place) of.wants.page) [
      | inl stood ↦ inl (chained.with_bit n of.owner of.place stood)
      | inr newly ↦ inr (fresh n of.owner of.place newly).none
    ]

    leads_back : (n slot : ℕ) (e : Demand) → Leads size (either wanted more) (new n) n slot e
        → Leads size wanted (old n) n slot e
    leads_back n slot e (of_page of h) = elim (data_cases n of) [
      | inl stood ↦ of_page stood
          (subst (λ (page : List ℕ). Has (cell_demands (slot_cell (cell_of page slot))) e) (same n stood) h)
      | inr empty ↦ absurd (subst (λ (c : Option (List ℕ)). Has (cell_demands (slot_cell c)) e) (empty slot) h)
    ]
    leads_back n slot e (of_version t w h) = elim (either_cases wanted more (want_of n VERSION slot t) w) [
      | inl stood ↦ of_version t stood
          (subst (λ (page : List ℕ). Has (wanted_demands (slot_cell (cell_of page slot))) e)
          (same n (chained.placed n slot t stood)) h)
      | inr newly ↦ absurd (none (want_of n VERSION slot t) newly refl)
    ]

-- where nothing is wanted newly but of other kinds
pub chained_else : (size : ℕ) (old new : Pages) (wanted more : DemandSet) → IsChained size old wanted
    → ((n : ℕ) → IsDataOf size wanted n → new n ≡ old n)
    → ((d : Demand) → IsIn more d → (d.what ≢ VERSION) × (d.what ≢ DATA)) → IsChained size new (either wanted more)
chained_else size old new wanted more chained same none = chained_more size old new wanted more chained same
    (λ d h. (none d h).0) (λ n owner place h. absurd ((none (want_of n DATA owner place) h).1 refl))

-- ---- where cells change

-- Where a lead of the new pages comes from: it stood in the old ones, elsewhere than at a place that was left; or the
-- record's slot leads to what is new; or a cell leads to what is behind it.
abbrev pub ComesFrom : ℕ → Pages → DemandSet → ℕ → ℕ → ℕ → ℕ → ℕ → ℕ → (Demand → Type 0) → (Demand → Type 0) → ℕ → ℕ
    → Demand → Type 0
ComesFrom size old was rec rec_slot at at_slot left left_slot IsNew IsBack n slot e =
    (Leads size was (old n) n slot e × IsElse n slot left left_slot)
    ⊎ ((((n ≡ rec) × (slot ≡ rec_slot)) × IsNew e) ⊎ (((n ≡ at) × (slot ≡ at_slot)) × IsBack e))

-- So no two cells lead to one version, where what is new was not wanted, and the place that was left led to what is
-- behind now.
pub once_then : (size : ℕ) (old new : Pages) (was now : DemandSet) (rec rec_slot at at_slot left left_slot : ℕ)
    (IsNew IsBack : Demand → Type 0) → IsWanting size old was → LeadOnce size old was
    → ((e : Demand) → IsNew e → IsIn was e → ⊥)
    → ((e : Demand) → IsBack e → Leads size was (old left) left left_slot e)
    → ((n slot : ℕ) (e : Demand) → e.what ≡ VERSION → Leads size now (new n) n slot e
    → ComesFrom size old was rec rec_slot at at_slot left left_slot IsNew IsBack n slot e)
    → LeadOnce size new now
once_then size old new was now rec rec_slot at at_slot left left_slot IsNew IsBack wanting once fresh behind comes n m
    slot other e what one two = both (comes n slot e what one) (comes m other e what two)
  where
    both : ComesFrom size old was rec rec_slot at at_slot left left_slot IsNew IsBack n slot e
        → ComesFrom size old was rec rec_slot at at_slot left left_slot IsNew IsBack m other e
        → (n ≡ m) × (slot ≡ other)
    both (inl (x, off)) (inl (y, out)) = once n m slot other e what x y
    both (inl (x, off)) (inr (inl (q, new_))) = absurd (fresh e new_ (leads_wanted size old was wanting n slot e x))
    both (inl (x, off)) (inr (inr (q, back))) =
        let same = once n left slot left_slot e what x (behind e back) in absurd (off same.0 same.1)
    both (inr (inl (p, new_))) (inl (y, out)) = absurd (fresh e new_ (leads_wanted size old was wanting m other e y))
    both (inr (inl (p, new_))) (inr (inl (q, also))) = (p.0 ∙ sym q.0, p.1 ∙ sym q.1)
    both (inr (inl (p, new_))) (inr (inr (q, back))) =
        absurd (fresh e new_ (leads_wanted size old was wanting left left_slot e (behind e back)))
    both (inr (inr (p, back))) (inl (y, out)) =
        let same = once m left other left_slot e what y (behind e back) in absurd (out same.0 same.1)
    both (inr (inr (p, back))) (inr (inl (q, new_))) =
        absurd (fresh e new_ (leads_wanted size old was wanting left left_slot e (behind e back)))
    both (inr (inr (p, back))) (inr (inr (q, also))) = (p.0 ∙ sym q.0, p.1 ∙ sym q.1)
