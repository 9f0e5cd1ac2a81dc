-- An own version is written over in its cell, or taken out: nothing else leads to it, and the versions that are wanted
-- stay chained.
use Rattle.std.specs.Prelude.{◌≡◌, ◌≢◌, ◌⊎◌, ◌++◌, ℕ, Bool, true, false, List, [], ◌∷◌, length, Option, None, Some}
use Rattle.std.proofs.Common.{inl, inr, refl, sym, subst, ap, ◌∙◌, arith}
use Rattle.std.proofs.lemmas.Bool.{and_parts, and_from, cases_eq, not_from_false}
use Rattle.mg_base.specs.Fields.{byte}
use Rattle.mg_base.specs.Image.{Image}
use Rattle.mg_base.specs.declared.numbers.RecId.{RecId}
use Rattle.mg_base.specs.declared.numbers.TxNo.{TxNo}
use Rattle.mg_careful.specs.Precedence.{Orders}
use Rattle.mg_careful.specs.declared.links.Demand.{Demand}
use Rattle.mg_careful.specs.CarefulWrite.{DemandSet, Has, IsIn, either, listed}
use Rattle.mg_chain.specs.Writing.{PutsAt, Replaces, TakesOut, TurnsBack, leading_to}
use Rattle.mg_demand_laws.specs.Freeing.{without}
use Rattle.mg_demand_laws.specs.CellDemands.{anchor_to, want_by}
use Rattle.mg_image.specs.Form.{Pages}
use Rattle.mg_image.specs.Records.{cells_of, slot_cell}
use Rattle.mg_pool.specs.Batch.{Changed}
use Rattle.mg_pool.specs.declared.pool.Pool.{Pool}
use Rattle.mg_slots.specs.Changes.{SetsCell}
use Rattle.mg_slots.specs.DataPage.{cell_of}
use Rattle.mg_slots.specs.declared.page.TheConstants.{DATA_KIND}
use Rattle.mg_space.specs.Demands.{back_demands, demand, demands_of, wanted_demands}
use Rattle.mg_space.specs.View.{viewed}
use Rattle.mg_space.specs.declared.links.TheConstants.{HEADER, NEXT, VERSION}
use Rattle.mg_version.specs.Cells.{IsCell, IsVersion}
use Rattle.mg_version.specs.declared.cell.Cell.{Cell}
use Rattle.mg_version.specs.declared.cell.Cell.TheVariants as cells
use Rattle.mg_version.specs.declared.cell.Link.{Link}
use Rattle.mg_version.specs.declared.cell.Version.{Version}
use Rattle.mg_demand_laws.specs.FreeLaws.{version_is}
use Rattle.mg_demand_laws.specs.Met.{has_back, of_listed}
use Rattle.mg_demand_laws.specs.Steps.{version_at}
use Rattle.mg_demand_laws.specs.Wanting.{IsWanting, want_of}
use Rattle.mg_demand_laws.specs.WantingLaws.{either_cases, in_one}
use Rattle.mg_demand_laws.specs.CellTies.{spelled_is}
use Rattle.mg_demand_laws.specs.Lists.{viewed_same}
use Rattle.mg_demand_laws.specs.OwnTies.{KnowsOut, some_cell}
use Rattle.mg_demand_laws.specs.Wants.{IsDataOf}
use Rattle.mg_demand_laws.specs.Chained.{IsChained, Leads, of_page, of_version}
use Rattle.mg_demand_laws.specs.ChainedLaws.{ComesFrom, IsElse, at_place, cases_place, chained_within, data_kind, else_cell, leads_anchor, leads_none, leads_same, leads_then, leads_version, leads_wanted, leads_within, newest_wanted, once_then}
use Rattle.mg_demand_laws.specs.May.{MayTakeOut}

-- the law: a version is written over in its cell
abbrev pub OverStaysChained : (D L : Type 0) → Type 0
OverStaysChained D L = (store : Pool D L) (image : Image) (old new : Changed) (rec : RecId) (v : Version)
    (replaces : Replaces store image old new rec v) → PutsAt store image old new replaces.newest.rec replaces.bytes
    → (wanted : DemandSet) → IsChained store.geometry.size (viewed store image old) wanted
    → IsChained store.geometry.size (viewed store image new) wanted

-- the law: a version may be taken out, and then nothing else leads to it
abbrev pub OutIsKnown : (D L : Type 0) → Type 0
OutIsKnown D L = (store : Pool D L) (image : Image) (old new : Changed) (rec : RecId)
    (takes : TakesOut store image old new rec) (settled : ℕ → Bool) (on_disk wanted : DemandSet)
    → MayTakeOut store image old new rec takes settled on_disk wanted
    → IsChained store.geometry.size (viewed store image old) wanted
    → KnowsOut store image old new rec takes settled on_disk wanted

-- the law: it is taken out
abbrev pub OutStaysChained : (D L : Type 0) → Type 0
OutStaysChained D L = (store : Pool D L) (image : Image) (old new : Changed) (rec : RecId)
    (takes : TakesOut store image old new rec) (settled : ℕ → Bool) (on_disk wanted : DemandSet)
    → MayTakeOut store image old new rec takes settled on_disk wanted
    → IsChained store.geometry.size (viewed store image old) wanted
    → IsChained store.geometry.size (viewed store image new)
    (without (version_at takes.newest.rec.page.0 takes.newest.rec.slot takes.newest.tx.0) (either wanted (listed [])))

-- ---- a record's newest version

module _ (size : ℕ) (view : Pages) (wanted : DemandSet) (was : IsWanting size view wanted) (head : IsIn wanted (want_of 0 HEADER 0 0)) (chained : IsChained size view wanted) (rec : RecId) (newest : Link) (is : Version) (of : IsDataOf size wanted rec.page.0) (slot : cells_of view rec ≡ Some (cells.Anchor newest)) (meets : cells_of view newest.rec ≡ Some (cells.Version is)) where
  -- it is wanted, and so is its page
  pub newest_leads : Leads size wanted (view rec.page.0) rec.page.0 rec.slot (want_by newest)
  newest_leads = newest_wanted size view wanted was head chained rec.page.0 rec.slot newest of slot

  pub newest_in : IsIn wanted (want_by newest)
  newest_in = leads_wanted size view wanted was rec.page.0 rec.slot (want_by newest) newest_leads

  pub newest_page : IsDataOf size wanted newest.rec.page.0
  newest_page = chained.placed newest.rec.page.0 newest.rec.slot newest.tx.0 newest_in

  -- it lies in no primary slot
  pub newest_moved : is.primary ≡ false
  newest_moved = its.moved
    where
      its : IsVersion is
      its = chained.cells_are newest.rec.page.0 newest.rec.slot (cells.Version is) newest_page meets

  -- its place is another one than its record's
  pub newest_apart : IsElse newest.rec.page.0 newest.rec.slot rec.page.0 rec.slot
  newest_apart on same =
      let anchor : cells_of view newest.rec ≡ Some (cells.Anchor newest) =
      at_place view newest.rec.page.0 newest.rec.slot rec.page.0 rec.slot (on, same) ∙ slot in
      let both : Some (cells.Anchor newest) ≡ Some (cells.Version is) = sym anchor ∙ meets in absurd cc

  -- it leads to what is behind it
  pub newest_behind : (e : Demand) → Has (back_demands is.back) e
      → Leads size wanted (view newest.rec.page.0) newest.rec.page.0 newest.rec.slot e
  newest_behind e back = of_version newest.tx.0 newest_in (subst (λ (c : Option Cell). Has (wanted_demands c) e) (sym meets)
      (has_back (demand 0 NEXT is.tx.0 0) (back_demands is.back) e back))

  -- Nothing else leads to it: what leads there on pages where its record's slot leads elsewhere, leads to what is new,
  -- or to what was behind it.
  pub newest_unled : (IsNew : Demand → Type 0) → (IsNew (want_by newest) → ⊥) → (n s : ℕ)
      → (Leads size wanted (view n) n s (want_by newest) × IsElse n s rec.page.0 rec.slot)
      ⊎ (IsNew (want_by newest) ⊎ Has (back_demands is.back) (want_by newest)) → ⊥
  newest_unled IsNew fresh n s (inl (stood, off)) =
      let same = chained.once n rec.page.0 s rec.slot (want_by newest) refl stood newest_leads in off same.0 same.1
  newest_unled IsNew fresh n s (inr (inl new_)) = fresh new_
  newest_unled IsNew fresh n s (inr (inr back)) =
      let same = chained.once newest.rec.page.0 rec.page.0 newest.rec.slot rec.slot (want_by newest) refl
      (newest_behind (want_by newest) back) newest_leads in newest_apart same.0 same.1

-- ---- written over

pub over_chained : (D L : Type 0) → OverStaysChained D L
over_chained D L store image old new rec v replaces puts wanted chained = record {
  with_bit = chained.with_bit;
  placed = chained.placed;
  cells_are = cells_are;
  once = λ n m slot other e what one two. chained.once n m slot other e what (leads_back n slot e what one)
      (leads_back m other e what two);
}
  where
    here : slot_cell (cell_of (viewed store image new replaces.newest.rec.page.0) replaces.newest.rec.slot)
        ≡ Some (cells.Version (leading_to v replaces.was.back))
    here = ap slot_cell puts.puts.puts.sets.here
        ∙ ap Some (spelled_is replaces.bytes (cells.Version (leading_to v replaces.was.back)) replaces.spells)

    else_ : (n s : ℕ) → IsElse n s replaces.newest.rec.page.0 replaces.newest.rec.slot
        → cell_of (viewed store image new n) s ≡ cell_of (viewed store image old n) s
    else_ = else_cell (viewed store image old) (viewed store image new) replaces.newest.rec.page.0 replaces.newest.rec.slot
        (Some replaces.bytes) puts.puts.puts.sets puts.puts.others

    cells_are : (n s : ℕ) (cell : Cell) → IsDataOf store.geometry.size wanted n
        → slot_cell (cell_of (viewed store image new n) s) ≡ Some cell → IsCell cell
    cells_are n s cell of is = elim (cases_place n s replaces.newest.rec.page.0 replaces.newest.rec.slot) [
      | inl at ↦
          let both : Some (cells.Version (leading_to v replaces.was.back)) ≡ Some cell =
          sym (at_place (viewed store image new) n s replaces.newest.rec.page.0 replaces.newest.rec.slot at ∙ here) ∙ is in
          let same : cells.Version (leading_to v replaces.was.back) ≡ cell = cc in
          subst (λ (c : Cell). IsCell c) same replaces.spells.is_cell
      | inr off ↦ chained.cells_are n s cell of (ap slot_cell (sym (else_ n s off)) ∙ is)
    ]

    -- the version leads where it did
    leads_back : (n s : ℕ) (e : Demand) → e.what ≡ VERSION → Leads store.geometry.size wanted (viewed store image new n) n s e
        → Leads store.geometry.size wanted (viewed store image old n) n s e
    leads_back n s e what leads = elim (cases_place n s replaces.newest.rec.page.0 replaces.newest.rec.slot) [
      | inl at ↦
          let it = leads_version store.geometry.size wanted (viewed store image new n) n s e
          (leading_to v replaces.was.back)
          (at_place (viewed store image new) n s replaces.newest.rec.page.0 replaces.newest.rec.slot at ∙ here)
          replaces.spells.is_cell.moved what leads in
          of_version it.0.0 it.0.1 (subst (λ (c : Option Cell). Has (wanted_demands c) e)
          (sym (at_place (viewed store image old) n s replaces.newest.rec.page.0 replaces.newest.rec.slot at
          ∙ replaces.its.meets.cell))
          (has_back (demand 0 NEXT replaces.was.tx.0 0) (back_demands replaces.was.back) e it.1))
      | inr off ↦ leads_same store.geometry.size wanted (viewed store image new n) n s e (viewed store image old n)
          (else_ n s off) leads
    ]

-- ---- taken out

-- A record's slot has come to lead to a version, or was cleared where there is none.
pub record IsTurned (old new : Pages) (rec : RecId) (to : Option Link) : Type 0 where
  pub cell : Option (List ℕ)
  pub sets : SetsCell (old rec.page.0) (new rec.page.0) rec.slot cell
  pub others : (n : ℕ) → n ≢ rec.page.0 → new n ≡ old n
  pub leads : slot_cell cell ≡ anchor_to to
  pub lawful : (c : Cell) → slot_cell cell ≡ Some c → IsCell c

pub is_turned : {D L : Type 0} (store : Pool D L) (image : Image) (old new : Changed) (rec : RecId) (newest : Link)
    (to : Option Link) → TurnsBack store image old new rec to
    → cells_of (viewed store image old) rec ≡ Some (cells.Anchor newest)
    → IsTurned (viewed store image old) (viewed store image new) rec to
is_turned store image old new rec newest None frees slot = record {
  cell = None;
  sets = (frees.frees.used (some_cell (cell_of (viewed store image old rec.page.0) rec.slot) (cells.Anchor newest) slot)).sets;
  others = frees.frees.others;
  leads = refl;
  lawful = λ c is. absurd cc;
}
is_turned store image old new rec newest (Some link) turns slot = record {
  cell = Some turns.bytes;
  sets = turns.puts.puts.puts.sets;
  others = turns.puts.puts.others;
  leads = spelled;
  lawful = λ c is. let both : Some (cells.Anchor link) ≡ Some c = sym spelled ∙ is in
      let same : cells.Anchor link ≡ c = cc in subst (λ (x : Cell). IsCell x) same turns.spells.is_cell;
}
  where
    spelled : slot_cell (Some turns.bytes) ≡ Some (cells.Anchor link)
    spelled = ap Some (spelled_is turns.bytes (cells.Anchor link) turns.spells)

module _ {D L : Type 0} (store : Pool D L) (image : Image) (old new : Changed) (rec : RecId) (takes : TakesOut store image old new rec) (settled : ℕ → Bool) (on_disk wanted : DemandSet) (may : MayTakeOut store image old new rec takes settled on_disk wanted) (chained : IsChained store.geometry.size (viewed store image old) wanted) where
  abbrev size : ℕ
  size = store.geometry.size

  abbrev view : Pages
  view = viewed store image old

  abbrev turned : Changed
  turned = takes.taken.swings.turned

  abbrev mid : Pages
  mid = viewed store image turned

  abbrev freed : Changed
  freed = takes.taken.freed

  abbrev last : Pages
  last = viewed store image freed

  abbrev newest : Link
  newest = takes.newest

  abbrev x : ℕ
  x = newest.rec.page.0

  abbrev b : ℕ
  b = rec.page.0

  apart : IsElse x newest.rec.slot b rec.slot
  apart = newest_apart size view wanted may.wants may.header chained rec newest takes.was may.record_ takes.its.head.slot
      takes.its.meets.cell

  turn : IsTurned view mid rec takes.was.back
  turn = is_turned store image old turned rec newest takes.was.back takes.taken.swings.turns takes.its.head.slot

  -- the record's slot then
  at_rec : slot_cell (cell_of (mid b) rec.slot) ≡ anchor_to takes.was.back
  at_rec = ap slot_cell turn.sets.here ∙ turn.leads

  mid_else : (n s : ℕ) → IsElse n s b rec.slot → cell_of (mid n) s ≡ cell_of (view n) s
  mid_else = else_cell view mid b rec.slot turn.cell turn.sets turn.others

  mid_whole : (n : ℕ) → length (mid n) ≡ size
  mid_whole n = elim (cases_eq n b) [
    | inl same ↦ ap (λ (k : ℕ). length (mid k)) same ∙ (turn.sets.len ∙ may.wants.whole b)
    | inr other ↦ ap (λ (page : List ℕ). length page) (turn.others n other) ∙ may.wants.whole n
  ]

  mid_same : (n : ℕ) → byte (view n) 0 ≢ DATA_KIND → mid n ≡ view n
  mid_same n other = turn.others n (λ same. other (ap (λ (k : ℕ). byte (view k) 0) same
      ∙ data_kind size view wanted may.wants b may.record_))

  -- what a cell leads to then: what it led to, or what is behind the version
  mid_leads : (n s : ℕ) (e : Demand) → Leads size wanted (mid n) n s e
      → (Leads size wanted (view n) n s e × IsElse n s b rec.slot)
      ⊎ (((n ≡ b) × (s ≡ rec.slot)) × Has (back_demands takes.was.back) e)
  mid_leads n s e leads = elim (cases_place n s b rec.slot) [
    | inl here ↦ inr (
      here,
      leads_anchor size wanted (mid n) n s e takes.was.back
          (at_place mid n s b rec.slot here ∙ at_rec) leads,
    )
    | inr off ↦ inl (leads_same size wanted (mid n) n s e (view n) (mid_else n s off) leads, off)
  ]

  -- With the slot turned, nothing that is wanted leads to the version.
  pub out_unled : (d : Demand) → IsIn wanted d → Has (demands_of (mid d.target) d) (want_by newest) → ⊥
  out_unled d h made =
      let it = leads_then size view wanted may.wants may.header chained d (want_by newest) h refl (mid d.target)
      (mid_whole d.target) (mid_same d.target) made in
      newest_unled size view wanted may.wants may.header chained rec newest takes.was may.record_ takes.its.head.slot
      takes.its.meets.cell (λ (e : Demand). ⊥) (λ none. none) d.target it.0
      (elim (mid_leads d.target it.0 (want_by newest) it.1) [
        | inl stood ↦ inl stood
        | inr back ↦ inr (inr back.1)
      ])

  -- so all is known that the law of what is taken out wants
  pub knows_out : KnowsOut store image old new rec takes settled on_disk wanted
  knows_out = record {
    wants = may.wants;
    header = may.header;
    record_ = may.record_;
    page = newest_page size view wanted may.wants may.header chained rec newest takes.was may.record_ takes.its.head.slot
        takes.its.meets.cell;
    version = newest_in size view wanted may.wants may.header chained rec newest takes.was may.record_ takes.its.head.slot
        takes.its.meets.cell;
    moved = newest_moved size view wanted may.wants may.header chained rec newest takes.was may.record_ takes.its.head.slot
        takes.its.meets.cell;
    unsettled = may.unsettled;
    behind = may.behind;
    lasting = may.lasting;
    unled = out_unled;
  }

  -- ---- the freed cell

  still : slot_cell (cell_of (mid x) newest.rec.slot) ≡ Some (cells.Version takes.was)
  still = ap slot_cell (mid_else x newest.rec.slot apart) ∙ takes.its.meets.cell

  frees : SetsCell (mid x) (last x) newest.rec.slot None
  frees = (takes.taken.swings.frees.frees.used (some_cell (cell_of (mid x) newest.rec.slot) (cells.Version takes.was) still)).sets

  at_newest : slot_cell (cell_of (last x) newest.rec.slot) ≡ None
  at_newest = ap slot_cell frees.here

  last_else : (n s : ℕ) → IsElse n s x newest.rec.slot → cell_of (last n) s ≡ cell_of (mid n) s
  last_else = else_cell mid last x newest.rec.slot None frees takes.taken.swings.frees.frees.others

  -- what is wanted then is so much less
  abbrev pub out_dropped : Demand → Bool
  out_dropped = version_at x newest.rec.slot newest.tx.0

  last_leads : (n s : ℕ) (e : Demand) → e.what ≡ VERSION → Leads size wanted (last n) n s e
      → ComesFrom size view wanted b rec.slot b rec.slot x newest.rec.slot (λ (d : Demand). ⊥)
      (λ (d : Demand). Has (back_demands takes.was.back) d) n s e
  last_leads n s e what leads = elim (cases_place n s x newest.rec.slot) [
    | inl here ↦ absurd (leads_none size wanted (last n) n s e (at_place last n s x newest.rec.slot here ∙ at_newest) leads)
    | inr off ↦ elim (mid_leads n s e (leads_same size wanted (last n) n s e (mid n) (last_else n s off) leads)) [
      | inl stood ↦ inl (stood.0, off)
      | inr back ↦ inr (inr back)
    ]
  ]

  last_cells : (n s : ℕ) (cell : Cell) → IsDataOf size wanted n → slot_cell (cell_of (last n) s) ≡ Some cell → IsCell cell
  last_cells n s cell of is = elim (cases_place n s x newest.rec.slot) [
    | inl here ↦ let both : Some cell ≡ None = sym is ∙ (at_place last n s x newest.rec.slot here ∙ at_newest) in absurd cc
    | inr out ↦ elim (cases_place n s b rec.slot) [
      | inl here ↦ turn.lawful cell (sym (ap slot_cell turn.sets.here)
          ∙ (sym (at_place mid n s b rec.slot here) ∙ (sym (ap slot_cell (last_else n s out)) ∙ is)))
      | inr off ↦ chained.cells_are n s cell of
          (ap slot_cell (sym (mid_else n s off)) ∙ (ap slot_cell (sym (last_else n s out)) ∙ is))
    ]
  ]

  all_chained : IsChained size last wanted
  all_chained = record {
    with_bit = chained.with_bit;
    placed = chained.placed;
    cells_are = last_cells;
    once = once_then size view last wanted wanted b rec.slot b rec.slot x newest.rec.slot (λ (d : Demand). ⊥)
        (λ (d : Demand). Has (back_demands takes.was.back) d) may.wants chained.once (λ e none h. none)
        (newest_behind size view wanted may.wants may.header chained rec newest takes.was may.record_ takes.its.head.slot
        takes.its.meets.cell) last_leads;
  }

  pub out_chained : IsChained size (viewed store image new) (without out_dropped (either wanted (listed [])))
  out_chained = subst (λ (pages : Pages). IsChained size pages (without out_dropped (either wanted (listed []))))
      (sym (viewed_same store image freed new takes.taken.ordered.same_pages))
      (chained_within size last wanted (without out_dropped (either wanted (listed []))) less more all_chained)
    where
      less : (d : Demand) → IsIn (without out_dropped (either wanted (listed []))) d → IsIn wanted d
      less d h = elim (either_cases wanted (listed []) d (h.0, (and_parts (either wanted (listed []) d h.0) _ h.1).0)) [
        | inl stood ↦ stood
        | inr none ↦ absurd (of_listed [] d none)
      ]

      kept : (d : Demand) → d.what ≢ VERSION → (c : Bool) → out_dropped d ≡ c → out_dropped d ≡ false
      kept d other false is = is
      kept d other true is = absurd (other (ap (λ (y : Demand). y.what) (version_is x newest.rec.slot newest.tx.0 d is)))

      more : (d : Demand) → d.what ≢ VERSION → IsIn wanted d → IsIn (without out_dropped (either wanted (listed []))) d
      more d other h =
          let there = in_one wanted (listed []) d h in
          (there.0, and_from _ _ there.1 (not_from_false _ (kept d other (out_dropped d) refl)))

pub out_is_known : (D L : Type 0) → OutIsKnown D L
out_is_known D L store image old new rec takes settled on_disk wanted may chained =
    knows_out store image old new rec takes settled on_disk wanted may chained

pub out_stays : (D L : Type 0) → OutStaysChained D L
out_stays D L store image old new rec takes settled on_disk wanted may chained =
    out_chained store image old new rec takes settled on_disk wanted may chained
