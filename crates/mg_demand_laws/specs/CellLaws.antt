-- What a cell pays that is put on a data page: an anchor that leads to a version, or a version.
use Rattle.std.specs.Prelude.{◌≡◌, ◌≢◌, ◌⊎◌, ◌<◌, ◌≤◌, ℕ, zero, suc, Bool, true, false, nat_lt, List, [], ◌∷◌, length, Option, None, Some}
use Rattle.std.proofs.Common.{inl, inr, refl, sym, subst, ap, ◌∙◌, arith}
use Rattle.std.proofs.lemmas.Bool.{cases_eq, cases_lt, ltb-true}
use Rattle.mg_base.specs.CheckLaws.{byte_front, front_checks}
use Rattle.mg_base.specs.Checks.{PassesAll, common_checks}
use Rattle.mg_base.specs.Fields.{byte}
use Rattle.mg_careful.specs.declared.links.Demand.{Demand}
use Rattle.mg_careful.specs.Precedence.{Orders}
use Rattle.mg_careful.specs.CarefulWrite.{DemandSet, Has, IsIn, listed}
use Rattle.mg_demand_laws.specs.Bearing.{IsPaid}
use Rattle.mg_image.specs.Form.{Pages}
use Rattle.mg_image.specs.Inventory.{inventory_page, is_used}
use Rattle.mg_image.specs.Records.{slot_cell}
use Rattle.mg_slots.specs.Changes.{PutsCell}
use Rattle.mg_slots.specs.DataPage.{cell_of, slot_count}
use Rattle.mg_slots.specs.declared.page.TheConstants.{DATA_KIND}
use Rattle.mg_space.specs.Demands.{cell_demands, data_demands, demands_of, is_version_of, meets_of, slot_demands, wanted_demands}
use Rattle.mg_space.specs.declared.links.TheConstants.{DATA, VERSION}
use Rattle.mg_demand_laws.specs.KindLaws.{as_want, data_alone, from_want}
use Rattle.mg_demand_laws.specs.Met.{has_back, has_either, has_front, met_is, of_data, of_listed, of_version}
use Rattle.mg_demand_laws.specs.Steps.{IsVersionCell, KeepsVersion, OwesCell, SetsSlot, version_more}
use Rattle.mg_demand_laws.specs.TakeLaws.{used_same}
use Rattle.mg_demand_laws.specs.Wanting.{IsWanting, Pays, may_go, want_of}
use Rattle.mg_demand_laws.specs.WantingLaws.{page_pays}

-- a slot past the last one has no cell
pub past_none : (page : List ℕ) (slot : ℕ) → slot_count page ≤ slot → cell_of page slot ≡ None
unfolding cell_of
past_none page slot past = at (nat_lt slot (slot_count page)) refl
  where
    at : (b : Bool) → nat_lt slot (slot_count page) ≡ b → cell_of page slot ≡ None
    at true is = absurd (let less = ltb-true slot (slot_count page) is in omega (arith, less, past))
    at false is = rw is refl

-- what the cell of a slot demands, the page demands
slot_there : (page : List ℕ) (slot k : ℕ) → slot < k → (e : Demand)
    → Has (cell_demands (slot_cell (cell_of page slot))) e → Has (slot_demands page k) e
slot_there page slot zero less e h = absurd (omega (arith, less))
slot_there page slot (suc k) less e h = elim (cases_eq slot k) [
  | inl same ↦ has_back (slot_demands page k) _ e
      (subst (λ (s : ℕ). Has (cell_demands (slot_cell (cell_of page s))) e) same h)
  | inr ne ↦ has_front (slot_demands page k) _ e (slot_there page slot k (omega (arith, less, ne)) e h)
]

pub any_slot : (page : List ℕ) (slot : ℕ) (e : Demand)
    → Has (cell_demands (slot_cell (cell_of page slot))) e → Has (data_demands page) e
any_slot page slot e h = elim (cases_lt slot (slot_count page)) [
  | inl inside ↦ slot_there page slot (slot_count page) inside e h
  | inr past ↦ absurd (subst (λ (c : Option (List ℕ)). Has (cell_demands (slot_cell c)) e)
      (past_none page slot past) h)
]

-- ---- a cell is put, or a slot cleared, where no version goes

module _ (size : ℕ) (old new : Pages) (x slot : ℕ) (cell : Option (List ℕ)) (of : Option ℕ) (orders : Orders) (settled : ℕ → Bool) (on_disk wanted : DemandSet) (sets : SetsSlot size old new x slot cell) (keeps : KeepsVersion (cell_of (old x) slot) cell) (is_cell : IsVersionCell cell of) (was : IsWanting size old wanted) (owes : OwesCell x (cell_of (old x) slot) cell slot of orders settled on_disk wanted) where
  abbrev cell_more : DemandSet
  cell_more = version_more x slot of

  whole : length (new x) ≡ size
  whole = sets.sets.len ∙ was.whole x

  new_kind : byte (new x) 0 ≡ DATA_KIND
  new_kind = byte_front (new x) (old x) 16 0 sets.sets.common (omega arith) ∙ sets.data_

  abbrev IsDataWant : Demand → Type 0
  IsDataWant d = (d ≡ want_of d.target DATA d.a d.b)
      × PassesAll (common_checks (old x) x DATA_KIND d.a d.b)

  abbrev IsVersionWant : Demand → Type 0
  IsVersionWant d = (d ≡ want_of d.target VERSION d.a d.b)
      × (is_version_of d.b (slot_cell (cell_of (old x) d.a)) ≡ true)

  on_page : (d : Demand) → IsIn wanted d → d.target ≡ x → IsDataWant d ⊎ IsVersionWant d
  on_page d h same = at (data_alone size old wanted was d h (λ none. sets.off_header (sym same ∙ none))
      (ap (λ (m : ℕ). byte (old m) 0) same ∙ sets.data_))
    where
      at : ((d ≡ want_of d.target DATA d.a d.b) × PassesAll (common_checks (old d.target) d.target DATA_KIND d.a d.b))
          ⊎ ((d ≡ want_of d.target VERSION d.a d.b)
          × (is_version_of d.b (slot_cell (cell_of (old d.target) d.a)) ≡ true))
          → IsDataWant d ⊎ IsVersionWant d
      at (inl (is, passes)) = inl (is, subst (λ (m : ℕ). PassesAll (common_checks (old m) m DATA_KIND d.a d.b)) same passes)
      at (inr (is, there)) = inr (
        is,
        subst (λ (m : ℕ). is_version_of d.b (slot_cell (cell_of (old m) d.a)) ≡ true) same there,
      )

  still_version : (d : Demand) → IsVersionWant d
      → is_version_of d.b (slot_cell (cell_of (new x) d.a)) ≡ true
  still_version d it = elim (cases_eq d.a slot) [
    | inl here ↦ subst (λ (s : ℕ). is_version_of d.b (slot_cell (cell_of (new x) s)) ≡ true) (sym here)
        (subst (λ (c : Option (List ℕ)). is_version_of d.b (slot_cell c) ≡ true) (sym sets.sets.here)
        (keeps d.b (subst (λ (s : ℕ). is_version_of d.b (slot_cell (cell_of (old x) s)) ≡ true) here it.1)))
    | inr other ↦ subst (λ (c : Option (List ℕ)). is_version_of d.b (slot_cell c) ≡ true)
        (sym (sets.sets.others d.a other)) it.1
  ]

  still_met : (d : Demand) → IsIn wanted d → d.target ≡ x → meets_of (new x) d ≡ true
  still_met d h same = at (on_page d h same)
    where
      at : IsDataWant d ⊎ IsVersionWant d → meets_of (new x) d ≡ true
      at (inl it) = met_is size (new x) d was.lawful whole (of_data it.0
          (subst (λ (m : ℕ). PassesAll (common_checks (new x) m DATA_KIND d.a d.b)) (sym same)
          (subst PassesAll (sym (front_checks (new x) (old x) x DATA_KIND d.a d.b sets.sets.common)) it.1)))
      at (inr it) = met_is size (new x) d was.lawful whole (of_version it.0 (still_version d it))

  -- the slots below one
  of_slots : (d e : Demand) → d.target ≡ x → (k : ℕ) → Has (slot_demands (new x) k) e
      → Has (data_demands (old x)) e ⊎ IsPaid orders on_disk wanted cell_more d e
  of_slots d e same zero h = absurd h
  of_slots d e same (suc k) h = elim (has_either (slot_demands (new x) k) _ e h) [
    | inl there ↦ of_slots d e same k there
    | inr here ↦ elim (cases_eq k slot) [
      | inl at_slot ↦ elim (owes.led d e same (subst (λ (c : Option (List ℕ)). Has (cell_demands (slot_cell c)) e)
          (ap (cell_of (new x)) at_slot ∙ sets.sets.here) here)) [
            | inl stood ↦ inl (any_slot (old x) slot e stood)
            | inr paid ↦ inr paid
          ]
      | inr other ↦ inl (any_slot (old x) k e (subst (λ (c : Option (List ℕ)). Has (cell_demands (slot_cell c)) e)
          (sets.sets.others k other) here))
    ]
  ]

  -- what a version that is wanted of the page demands
  version_there : (page : List ℕ) → length page ≡ size → (d e : Demand) → d ≡ want_of d.target VERSION d.a d.b
      → Has (demands_of page d) e → Has (wanted_demands (slot_cell (cell_of page d.a))) e
  version_there page len d e is made =
      as_want size old wanted was page len (want_of d.target VERSION d.a d.b) d e is made

  there_version : (page : List ℕ) → length page ≡ size → (d e : Demand) → d ≡ want_of d.target VERSION d.a d.b
      → Has (wanted_demands (slot_cell (cell_of page d.a))) e → Has (demands_of page d) e
  there_version page len d e is made =
      from_want size old wanted was page len (want_of d.target VERSION d.a d.b) d e is made

  abbrev Wanted : List ℕ → ℕ → Demand → Type 0
  Wanted page s e = Has (wanted_demands (slot_cell (cell_of page s))) e

  -- in the slot itself
  here_now : (e : Demand) → Wanted (new x) slot e → Has (wanted_demands (slot_cell cell)) e
  here_now e there = subst (λ (c : Option (List ℕ)). Has (wanted_demands (slot_cell c)) e) sets.sets.here there

  now_here : (e : Demand) → Has (wanted_demands (slot_cell cell)) e → Wanted (new x) slot e
  now_here e there = subst (λ (c : Option (List ℕ)). Has (wanted_demands (slot_cell c)) e) (sym sets.sets.here) there

  version_links : (d e : Demand) → d.target ≡ x → IsVersionWant d → Wanted (new x) d.a e
      → Wanted (old x) d.a e ⊎ IsPaid orders on_disk wanted cell_more d e
  version_links d e same it there = elim (cases_eq d.a slot) [
    | inl here ↦ elim (owes.wanted_led d e same here (here_now e (subst (λ (s : ℕ). Wanted (new x) s e) here there))) [
      | inl stood ↦ inl (subst (λ (s : ℕ). Wanted (old x) s e) (sym here) stood)
      | inr paid ↦ inr paid
    ]
    | inr other ↦ inl (subst (λ (c : Option (List ℕ)). Has (wanted_demands (slot_cell c)) e)
        (sets.sets.others d.a other) there)
  ]

  still_links : (d e : Demand) → IsIn wanted d → d.target ≡ x → Has (demands_of (new x) d) e
      → Has (demands_of (old x) d) e ⊎ IsPaid orders on_disk wanted cell_more d e
  still_links d e h same made = at (on_page d h same)
    where
      at : IsDataWant d ⊎ IsVersionWant d
          → Has (demands_of (old x) d) e ⊎ IsPaid orders on_disk wanted cell_more d e
      at (inl it) = elim (of_slots d e same (slot_count (new x))
          (as_want size old wanted was (new x) whole (want_of d.target DATA d.a d.b) d e it.0 made)) [
            | inl there ↦ inl (from_want size old wanted was (old x) (was.whole x) (want_of d.target DATA d.a d.b) d e it.0 there)
            | inr pays ↦ inr pays
          ]
      at (inr it) = elim (version_links d e same it (version_there (new x) whole d e it.0 made)) [
        | inl there ↦ inl (there_version (old x) (was.whole x) d e it.0 there)
        | inr pays ↦ inr pays
      ]

  -- a link to what may be dropped stays, or the page is ordered first
  slots_leave : (e : Demand) → may_go settled e ≡ true → e.target ≢ x → (k : ℕ) → Has (slot_demands (old x) k) e
      → Has (data_demands (new x)) e ⊎ (orders x e.target ≡ true)
  slots_leave e may apart zero h = absurd h
  slots_leave e may apart (suc k) h = elim (has_either (slot_demands (old x) k) _ e h) [
    | inl there ↦ slots_leave e may apart k there
    | inr here ↦ elim (cases_eq k slot) [
      | inl at_slot ↦ elim (owes.leaves e may apart (subst (λ (s : ℕ). Has (cell_demands (slot_cell (cell_of (old x) s))) e)
          at_slot here)) [
            | inl stays ↦ inl (any_slot (new x) slot e (subst (λ (c : Option (List ℕ)). Has (cell_demands (slot_cell c)) e)
                (sym sets.sets.here) stays))
            | inr order ↦ inr order
          ]
      | inr other ↦ inl (any_slot (new x) k e (subst (λ (c : Option (List ℕ)). Has (cell_demands (slot_cell c)) e)
          (sym (sets.sets.others k other)) here))
    ]
  ]

  cell_leaves : (d e : Demand) → IsIn wanted d → d.target ≡ x → Has (demands_of (old x) d) e
      → may_go settled e ≡ true → e.target ≢ x
      → Has (demands_of (new x) d) e ⊎ (orders x e.target ≡ true)
  cell_leaves d e h same made may apart = at (on_page d h same)
    where
      of_version_ : IsVersionWant d → Wanted (old x) d.a e
          → Wanted (new x) d.a e ⊎ (orders x e.target ≡ true)
      of_version_ it there = elim (cases_eq d.a slot) [
        | inl here ↦ elim (owes.wanted_leaves e may apart (subst (λ (s : ℕ). Wanted (old x) s e) here there)) [
          | inl stays ↦ inl (subst (λ (s : ℕ). Wanted (new x) s e) (sym here) (now_here e stays))
          | inr order ↦ inr order
        ]
        | inr other ↦ inl (subst (λ (c : Option (List ℕ)). Has (wanted_demands (slot_cell c)) e)
            (sym (sets.sets.others d.a other)) there)
      ]

      at : IsDataWant d ⊎ IsVersionWant d → Has (demands_of (new x) d) e ⊎ (orders x e.target ≡ true)
      at (inl it) = elim (slots_leave e may apart (slot_count (old x))
          (as_want size old wanted was (old x) (was.whole x) (want_of d.target DATA d.a d.b) d e it.0 made)) [
            | inl there ↦ inl (from_want size old wanted was (new x) whole (want_of d.target DATA d.a d.b) d e it.0 there)
            | inr order ↦ inr order
          ]
      at (inr it) = elim (of_version_ it (version_there (old x) (was.whole x) d e it.0 made)) [
        | inl there ↦ inl (there_version (new x) whole d e it.0 there)
        | inr order ↦ inr order
      ]

  new_is : (of : Option ℕ) → IsVersionCell cell of → (d : Demand) → IsIn (version_more x slot of) d
      → (t : ℕ) × (d ≡ want_of x VERSION slot t) × (is_version_of t (slot_cell cell) ≡ true)
  new_is None is d h = absurd (of_listed [] d h)
  new_is (Some t) is d h = (t, one (of_listed (want_of x VERSION slot t ∷ []) d h), is)
    where
      one : Has (want_of x VERSION slot t ∷ []) d → d ≡ want_of x VERSION slot t
      one (inl same) = same
      one (inr none) = absurd none

  new_there : (d : Demand) → IsIn cell_more d
      → (t : ℕ) × (d ≡ want_of x VERSION slot t) × (is_version_of t (slot_cell cell) ≡ true)
  new_there d h = new_is of is_cell d h

  new_links : (d e : Demand) → IsIn cell_more d → Has (demands_of (new d.target) d) e
      → IsPaid orders on_disk wanted cell_more d e
  new_links d e h made =
      let it = new_there d h in
      let target : d.target ≡ x = ap (λ (y : Demand). y.target) it.1 in
      owes.new_led d e target h (here_now e (as_want size old wanted was (new x) whole
      (want_of x VERSION slot it.0) d e it.1 (subst (λ (m : ℕ). Has (demands_of (new m) d) e) target made)))

  pub cell_pays : Pays size old new orders settled on_disk wanted cell_more
  cell_pays = page_pays size old new x orders settled on_disk wanted cell_more was (record {
    others = sets.others;
    len = whole;
    used = λ m is. used_same size old new x sets.others sets.off_inventory m ∙ is;
    still = still_met;
    links = still_links;
    kept_data = λ d h same is. new_kind;
    leaves = cell_leaves;
    met = λ d h. let it = new_there d h in
        subst (λ (y : Demand). meets_of (new y.target) y ≡ true) (sym it.1)
        (met_is size (new x) (want_of x VERSION slot it.0) was.lawful whole (of_version refl
        (subst (λ (c : Option (List ℕ)). is_version_of it.0 (slot_cell c) ≡ true) (sym sets.sets.here) it.2)));
    new_links = new_links;
    new_used = λ d h. let it = new_there d h in
        subst (λ (y : Demand). is_used size new y.target ≡ true) (sym it.1)
        (used_same size old new x sets.others sets.off_inventory x ∙ sets.used);
    new_data = λ d h is. let it = new_there d h in
        subst (λ (y : Demand). byte (new y.target) 0 ≡ DATA_KIND) (sym it.1) new_kind;
  })
