-- Each row: what the page leads to by its bytes, and so the order is needed.
use Rattle.std.specs.Prelude.{◌≡◌, ◌<◌, ◌+◌, ◌-◌, ◌*◌, ◌/◌, ◌^◌, ◌==◌, ℕ, zero, suc, Bool, true, false, List, [], ◌∷◌, Option, if◌then◌else◌}
use Rattle.std.proofs.Common.{inl, inr, refl, sym, subst, ap, ◌∙◌, arith}
use Rattle.std.proofs.lemmas.Bool.{and_from, cases_eq, lt-ltb, ne_eqb}
use Rattle.mg_demand_laws.specs.Met.{has_back, has_front, opened}
use Rattle.mg_demand_laws.specs.Wanting.{want_of}
use Rattle.mg_careful.specs.CarefulWrite.{Cache, Has}
use Rattle.mg_careful.specs.declared.links.Demand.{Demand}
use Rattle.mg_header.specs.HeaderPage.{header_in}
use Rattle.mg_image.specs.Inventory.{inventory_page}
use Rattle.mg_image.specs.Records.{slot_cell}
use Rattle.mg_demand_laws.specs.Needed.{LeavingOrdersAreNeeded, OrdersAreNeeded}
use Rattle.mg_node.specs.NodePage.{count_in as node_count, entry_at, is_inner, level_in, place_of as node_place, right_in}
use Rattle.mg_pip.specs.PipPage.{bits}
use Rattle.mg_pointer.specs.PointerPage.{capacity, count_in, next_in}
use Rattle.mg_slots.specs.DataPage.{cell_of, slot_count}
use Rattle.mg_space.specs.Demands.{back_demands, bit_demand, cell_demands, child_demand, child_demands, demand, demands_by, demands_of, drawn_demands, entry_demand, entry_demands, is_decided, link_demand, linked, meets_of, right_demands, slot_demands, state_demands, tree_demands, wanted_demands}
use Rattle.mg_space.specs.declared.links.TheConstants.{BIT, DATA, HEADER, NEXT, NODE, POINTER, TRANSACTIONS, TREE, VERSION}
use Rattle.mg_tip.specs.TipPage.{places, prev_in, state_in}
use Rattle.mg_version.specs.Cells.{IsLink}
use Rattle.mg_version.specs.declared.cell.Cell.{Cell}
use Rattle.mg_version.specs.declared.cell.Cell.TheVariants as cells
use Rattle.mg_version.specs.declared.cell.Link.{Link}
use Rattle.mg_demand_laws.specs.OrderRows.{BackRow, BitsRow, BothComeFirst, CatalogRow, ChildRow, ComesFirst, EntryRow, FitsFields, FreedRow, IsChanged, LastTipRow, NextPointerRow, NumberRow, PrevTipRow, RightRow, SlotRow, version_of}

-- ---- lists of demands that have one

-- a demand whose numbers fit is made
made : (target what a b : ℕ) → target < 2 ^ 32 → a < 2 ^ 32 → b < 2 ^ 32
    → Has (demand target what a b) (want_of target what a b)
unfolding demand
made target what a b small one two =
    subst (λ (c : Bool). Has (if c then want_of target what a b ∷ [] else []) (want_of target what a b))
    (sym (and_from _ _ (and_from _ _ (lt-ltb target 4294967296 small) (lt-ltb a 4294967296 one))
    (lt-ltb b 4294967296 two))) (inl refl)

-- a list that is demanded where a test does not hold
where_false : (c : Bool) (ds : List Demand) (e : Demand) → c ≡ false → Has ds e → Has (if c then [] else ds) e
where_false c ds e is h = subst (λ (b : Bool). Has (if b then [] else ds) e) (sym is) h

-- a list that is demanded where it holds
where_true : (c : Bool) (ds : List Demand) (e : Demand) → c ≡ true → Has ds e → Has (if c then ds else []) e
where_true c ds e is h = subst (λ (b : Bool). Has (if b then ds else []) e) (sym is) h

-- an entry below the last one demands
entry_has : (size : ℕ) (page : List ℕ) (owner at k count : ℕ) (e : Demand) → k < count
    → Has (entry_demand size page owner at k) e → Has (entry_demands size page owner at count) e
entry_has size page owner at k zero e less h = absurd (omega (arith, less))
entry_has size page owner at k (suc c) e less h = elim (cases_eq k c) [
  | inl same ↦ has_back (entry_demands size page owner at c) _ e
      (subst (λ (j : ℕ). Has (entry_demand size page owner at j) e) same h)
  | inr other ↦ has_front (entry_demands size page owner at c) _ e
      (entry_has size page owner at k c e (omega (arith, less, other)) h)
]

child_has : (size : ℕ) (page : List ℕ) (owner k count : ℕ) (e : Demand) → k < count
    → Has (child_demand size page owner (node_place page k)) e → Has (child_demands size page owner count) e
child_has size page owner k zero e less h = absurd (omega (arith, less))
child_has size page owner k (suc c) e less h = elim (cases_eq k c) [
  | inl same ↦ has_back (child_demands size page owner c) _ e
      (subst (λ (j : ℕ). Has (child_demand size page owner (node_place page j)) e) same h)
  | inr other ↦ has_front (child_demands size page owner c) _ e
      (child_has size page owner k c e (omega (arith, less, other)) h)
]

slot_has : (page : List ℕ) (slot count : ℕ) (e : Demand) → slot < count
    → Has (cell_demands (slot_cell (cell_of page slot))) e → Has (slot_demands page count) e
slot_has page slot zero e less h = absurd (omega (arith, less))
slot_has page slot (suc c) e less h = elim (cases_eq slot c) [
  | inl same ↦ has_back (slot_demands page c) _ e
      (subst (λ (j : ℕ). Has (cell_demands (slot_cell (cell_of page j))) e) same h)
  | inr other ↦ has_front (slot_demands page c) _ e (slot_has page slot c e (omega (arith, less, other)) h)
]

state_has : (size : ℕ) (page : List ℕ) (s place count : ℕ) (e : Demand) → place < count
    → Has (state_demands size page s place) e → Has (drawn_demands size page s count) e
state_has size page s place zero e less h = absurd (omega (arith, less))
state_has size page s place (suc c) e less h = elim (cases_eq place c) [
  | inl same ↦ has_back (drawn_demands size page s c) _ e
      (subst (λ (j : ℕ). Has (state_demands size page s j) e) same h)
  | inr other ↦ has_front (drawn_demands size page s c) _ e
      (state_has size page s place c e (omega (arith, less, other)) h)
]

-- ---- the rows

module _ (ahead : OrdersAreNeeded demands_of meets_of) where
  -- what a changed page demands comes first
  first : (size : ℕ) (cache : Cache) (d e : Demand) → IsChanged size cache d.target
      → Has (demands_by size (cache.pool d.target) d) e → ComesFirst cache d e
  first size cache d e changed leads apart unmet = ahead cache d e (record {
    dirty = changed.dirty;
    leads = subst (λ (ds : List Demand). Has ds e)
        (sym (opened size (cache.pool d.target) d changed.lawful changed.len)) leads;
    apart = apart;
    unmet = unmet;
  })

  -- and a page that it demands with its bit
  both : (size : ℕ) (cache : Cache) (d : Demand) (n what a b : ℕ) → IsChanged size cache d.target
      → FitsFields size n a b
      → ((e : Demand) → Has (linked size n what a b) e → Has (demands_by size (cache.pool d.target) d) e)
      → BothComeFirst size cache d n what a b
  both size cache d n what a b changed fits leads = record {
    thing = first size cache d (want_of n what a b) changed (leads (want_of n what a b)
        (has_front (demand n what a b) (bit_demand size n) (want_of n what a b)
        (made n what a b fits.page fits.first fits.second)));
    bit = first size cache d (want_of (inventory_page size (n / bits size)) BIT n 0) changed
        (leads (want_of (inventory_page size (n / bits size)) BIT n 0)
        (has_back (demand n what a b) (bit_demand size n) (want_of (inventory_page size (n / bits size)) BIT n 0)
        (made (inventory_page size (n / bits size)) BIT n 0 fits.inventory fits.page (omega arith))));
  }

  pub last_tip_row : LastTipRow
  last_tip_row size cache n s a b changed is seq fits =
      both size cache (want_of 0 HEADER a b) n TRANSACTIONS s 0 changed fits (λ e h.
      has_front (linked size (header_in (cache.pool 0)).last_tip.0 TRANSACTIONS
      (((header_in (cache.pool 0)).next.0 - 1) / places size) 0) _ e
      (subst (λ (k : ℕ). Has (linked size (header_in (cache.pool 0)).last_tip.0 TRANSACTIONS k 0) e) (sym seq)
      (subst (λ (m : ℕ). Has (linked size m TRANSACTIONS s 0) e) (sym is) h)))

  pub catalog_row : CatalogRow
  catalog_row size cache n a b changed is fits =
      both size cache (want_of 0 HEADER a b) n POINTER n 0 changed fits (λ e h.
      has_back (linked size (header_in (cache.pool 0)).last_tip.0 TRANSACTIONS
      (((header_in (cache.pool 0)).next.0 - 1) / places size) 0) _ e
      (subst (λ (m : ℕ). Has (linked size m POINTER m 0) e) (sym is) h))

  pub prev_tip_row : PrevTipRow
  prev_tip_row size cache p s n b changed some is fits =
      both size cache (want_of p TRANSACTIONS s b) n TRANSACTIONS (s - 1) 0 changed fits (λ e h.
      has_back (drawn_demands size (cache.pool p) s (places size)) _ e
      (where_false (s == 0) (linked size (prev_in (cache.pool p)) TRANSACTIONS (s - 1) 0) e (ne_eqb s 0 some)
      (subst (λ (m : ℕ). Has (linked size m TRANSACTIONS (s - 1) 0) e) (sym is) h)))

  pub bits_row : BitsRow
  bits_row size cache p s place b changed below decided small =
      first size cache (want_of p TRANSACTIONS s b) (want_of 0 NEXT (s * places size + place) 0) changed
      (has_front (drawn_demands size (cache.pool p) s (places size)) _ (want_of 0 NEXT (s * places size + place) 0)
      (state_has size (cache.pool p) s place (places size) (want_of 0 NEXT (s * places size + place) 0) below
      (where_true (is_decided (state_in (cache.pool p) place)) (demand 0 NEXT (s * places size + place) 0)
      (want_of 0 NEXT (s * places size + place) 0) decided
      (made 0 NEXT (s * places size + place) 0 (omega arith) small (omega arith)))))

  pub entry_row : EntryRow
  entry_row size cache q owner at k n changed below is fits =
      both size cache (want_of q POINTER owner at) n DATA owner (at * capacity size + k) changed fits (λ e h.
      has_front (entry_demands size (cache.pool q) owner at (count_in (cache.pool q))) _ e
      (entry_has size (cache.pool q) owner at k (count_in (cache.pool q)) e below
      (subst (λ (m : ℕ). Has (linked size m DATA owner (at * capacity size + k)) e) (sym is) h)))

  pub next_row : NextPointerRow
  next_row size cache q owner at n changed is some fits =
      both size cache (want_of q POINTER owner at) n POINTER owner (at + 1) changed fits (λ e h.
      has_back (entry_demands size (cache.pool q) owner at (count_in (cache.pool q))) _ e
      (where_false (next_in (cache.pool q) == 0) (linked size (next_in (cache.pool q)) POINTER owner (at + 1)) e
      (ne_eqb (next_in (cache.pool q)) 0 (λ none. some (sym is ∙ none)))
      (subst (λ (m : ℕ). Has (linked size m POINTER owner (at + 1)) e) (sym is) h)))

  pub number_row : NumberRow
  number_row size cache x slot t v changed is small =
      first size cache (want_of x VERSION slot t) (want_of 0 NEXT v.tx.0 0) changed
      (subst (λ (c : Option Cell). Has (wanted_demands c) (want_of 0 NEXT v.tx.0 0)) (sym is)
      (has_front (demand 0 NEXT v.tx.0 0) (back_demands v.back) (want_of 0 NEXT v.tx.0 0)
      (made 0 NEXT v.tx.0 0 (omega arith) small (omega arith))))

  -- the version that a link leads to is demanded
  link_has : (link : Link) → IsLink link → Has (link_demand link) (version_of link)
  link_has link fits = made link.rec.page.0 VERSION link.rec.slot link.tx.0 fits.page
      (let low = fits.slot in omega (arith, low)) fits.tx

  pub back_row : BackRow
  back_row size cache x slot t v link changed is back fits =
      first size cache (want_of x VERSION slot t) (version_of link) changed
      (subst (λ (c : Option Cell). Has (wanted_demands c) (version_of link)) (sym is)
      (has_back (demand 0 NEXT v.tx.0 0) (back_demands v.back) (version_of link)
      (subst (λ (o : Option Link). Has (back_demands o) (version_of link)) (sym back) (link_has link fits))))

  pub slot_row : SlotRow
  slot_row size cache x slot owner at link changed below is fits =
      first size cache (want_of x DATA owner at) (version_of link) changed
      (slot_has (cache.pool x) slot (slot_count (cache.pool x)) (version_of link) below
      (subst (λ (c : Option Cell). Has (cell_demands c) (version_of link)) (sym is) (link_has link fits)))

  pub right_row : RightRow
  right_row size cache p owner b n changed is some fits =
      both size cache (want_of p NODE owner b) n NODE owner (level_in (cache.pool p)) changed fits (λ e h.
      has_front (right_demands size (cache.pool p) owner) _ e
      (where_false (right_in (cache.pool p) == 0)
      (linked size (right_in (cache.pool p)) NODE owner (level_in (cache.pool p))) e
      (ne_eqb (right_in (cache.pool p)) 0 (λ none. some (sym is ∙ none)))
      (subst (λ (m : ℕ). Has (linked size m NODE owner (level_in (cache.pool p))) e) (sym is) h)))

  -- the child of an entry is demanded by an inner page
  tree_has : (size : ℕ) (page : List ℕ) (owner k n : ℕ) (e : Demand) → is_inner page ≡ true → k < node_count page
      → (entry_at true page (node_place page k)).child.0 ≡ n → Has (linked size n NODE owner (level_in page - 1)) e
      → Has (tree_demands size page owner) e
  tree_has size page owner k n e inner below is h =
      where_true (is_inner page) (child_demands size page owner (node_count page)) e inner
      (child_has size page owner k (node_count page) e below
      (subst (λ (m : ℕ). Has (linked size m NODE owner (level_in page - 1)) e) (sym is) h))

  pub child_row : ChildRow
  child_row size cache p owner b k n changed inner below is fits = (
    both size cache (want_of p NODE owner b) n NODE owner (level_in (cache.pool p) - 1) changed fits (λ e h.
        has_back (right_demands size (cache.pool p) owner) _ e
        (tree_has size (cache.pool p) owner k n e inner below is h)),
    both size cache (want_of p TREE owner b) n NODE owner (level_in (cache.pool p) - 1) changed fits (λ e h.
        tree_has size (cache.pool p) owner k n e inner below is h),
  )

pub freed_row : LeavingOrdersAreNeeded demands_of meets_of → FreedRow
freed_row behind size cache x slot owner at link lawful len below is fits dirty apart gone =
    behind cache (want_of x DATA owner at) (version_of link) (record {
      dirty = dirty;
      leads = subst (λ (ds : List Demand). Has ds (version_of link))
          (sym (opened size (cache.disk x) (want_of x DATA owner at) lawful len))
          (slot_has (cache.disk x) slot (slot_count (cache.disk x)) (version_of link) below
          (subst (λ (c : Option Cell). Has (cell_demands c) (version_of link)) (sym is)
          (made link.rec.page.0 VERSION link.rec.slot link.tx.0 fits.page
          (let low = fits.slot in omega (arith, low)) fits.tx)));
      apart = apart;
      gone = gone;
    })
