-- The versions of a lawful record are followed.
use Rattle.std.proofs.Common.{◌≡◌, ◌∙◌, inl, inr, ◌<◌, ◌≤◌, ◌*◌, ℕ, true, false, List, [], ◌∷◌, Option, None, Some, length, refl, sym, ap, subst, arith, is_some}
use Rattle.mg_base.specs.Disk.{Meaning}
use Rattle.mg_base.specs.Image.{Image}
use Rattle.mg_base.specs.declared.damage.Damaged.{Damaged}
use Rattle.mg_base.specs.declared.geometry.TheConstants.{GREATEST_LIMIT}
use Rattle.mg_base.specs.declared.numbers.RecId.{RecId}
use Rattle.mg_base.specs.declared.numbers.TxNo.{TxNo}
use Rattle.mg_chain.specs.Chains.{newest_link}
use Rattle.mg_chain.specs.Refusals.{Follows, IsCellDamage, IsChainDamage, IsLinkDamage, IsOfOther, RefusesCellAt, RefusesVersion, comes_back, past, primary, target, too_long, version}
use Rattle.mg_heap.specs.Stands.{WalksMeetNoDamage}
use Rattle.mg_image.specs.Form.{Pages, packed_coding}
use Rattle.mg_image.specs.RecordRules.{Each, Facts, IsRecord, IsVersion, table_in}
use Rattle.mg_image.specs.Records.{Chain, Reading, cells_of, ended, goes, record_key, slot_cell}
use Rattle.mg_image.specs.Sound.{IsCellOf, IsTableData}
use Rattle.mg_image.specs.declared.entry.Entry.{Entry}
use Rattle.mg_model.specs.declared.table.Table.{Table}
use Rattle.mg_pool.specs.Batch.{Changed}
use Rattle.mg_pool.specs.declared.pool.Pool.{Pool}
use Rattle.mg_slots.specs.DataPage.{cell_of, slot_count}
use Rattle.mg_slots.specs.DataPageLaws.{used_below}
use Rattle.mg_space.specs.View.{viewed}
use Rattle.mg_space.specs.declared.fault.SpaceFault.TheVariants as faults
use Rattle.mg_space.specs.declared.links.FireLinks.{FireLinks}
use Rattle.mg_version.specs.declared.cell.Cell.{Cell}
use Rattle.mg_version.specs.declared.cell.Cell.TheVariants as cells
use Rattle.mg_version.specs.declared.cell.Link.{Link}
use Rattle.mg_no_damage_laws.specs.Sees.{SeesLawful}
use Rattle.mg_no_damage_laws.proofs.PageLemmas.{data_at, page_there}
use Rattle.mg_no_damage_laws.proofs.PlaceLemmas.{Begins, IsLed, IsRest, IsSmall, each_there, few_versions, led, never_back, opens, rest_inside}

some_bytes : (bytes : Option (List ℕ)) (cell : Cell) → slot_cell bytes ≡ Some cell → is_some bytes ≡ true
some_bytes None cell is = absurd cc
some_bytes (Some b) cell is = refl

-- no cell is refused that some cell spells
spelled : (page : ℕ) (bytes : List ℕ) (it : Damaged) → IsCellOf false bytes → IsCellDamage page bytes it → ⊥
spelled page bytes it (inl (cell, spells)) damaged = damaged.refuses.none cell spells
spelled page bytes it (inr (primary_, its)) damaged = absurd cc

module _ {D : Type 0} (m : Meaning D) (walks : WalksMeetNoDamage m) (store : Pool D FireLinks) (image : Image)
    (batch : Changed) (f : Facts) (r : Reading) (sees : SeesLawful m store image batch f r) where
  abbrev pub view : Pages
  view = viewed store image batch

  data_page : (n : ℕ) (table : Table) (of : f.table_of n ≡ Some table)
      → (k : ℕ) × IsTableData false store.geometry.size view
      (sees.lawful.data_pages n table of).stand.table.pointer.0 k n
  data_page n table of = data_at store.geometry.size view n table (sees.lawful.data_pages n table of)

  pub cell_there : (at : RecId) (table : Table) → table_in f at ≡ Some table → (it : Damaged)
      → RefusesCellAt m store batch.pages view at (faults.Damaged it) → ⊥
  cell_there at table of it (inl refused) =
      page_there m walks store image batch f r sees at.page table of it refused
  cell_there at table of it (inr (bytes, is, damaged)) =
      spelled at.page.0 bytes it ((data_page at.page.0 table of).1.cells at.slot bytes is) damaged

  -- a version of a table stands on one of its pages
  small : (table : Table) (e : Entry) (cell : Cell) → table_in f e.at ≡ Some table
      → cells_of view e.at ≡ Some cell → IsSmall e
  small table e cell of is =
      let its = (data_page e.at.page.0 table of).1 in
      let below = its.wanted.below in
      let slot : e.at.slot < slot_count (view e.at.page.0) =
      used_below (view e.at.page.0) e.at.slot
      (some_bytes (cell_of (view e.at.page.0) e.at.slot) cell is) in
      let fits = its.lawful.slots_fit in let most = its.lawful.greatest_size in
      (below, omega (arith, slot, fits, most))

  all_small : (table : Table) (link : Option Link) (es : List Entry)
      → Chain (cells_of view) link es → Each (λ e. table_in f e.at ≡ Some table) es → Each IsSmall es
  all_small table link es ended each = tt
  all_small table link es (goes l e later at cell by on) each = (
    small table e (cells.Version e.version) each.0 cell,
    all_small table e.version.back later on each.1,
  )

  module _ (rec : RecId) (table : Table) (of : table_in f rec ≡ Some table) where
    its : IsRecord packed_coding f table (r rec)
    its = sees.lawful.records.each rec table of

    chain : Chain (cells_of view) (newest_link view rec) (r rec)
    chain = sees.lawful.records.reads rec table of

    placed : (es : List Entry) → Each (IsVersion packed_coding f table (record_key table (r rec))) es
        → Each (λ e. table_in f e.at ≡ Some table) es
    placed [] each = tt
    placed (e ∷ es) each = (each.0.placed, placed es each.1)

    -- a link that is followed meets a version of the record
    follows : (n holder : ℕ) (l : Link) → Follows view rec n holder l → IsLed (cells_of view) (r rec) n l
    follows n holder l leads =
        led (cells_of view) (newest_link view rec) rec.page.0 (r rec) chain n holder l leads

    meets : (n : ℕ) (l : Link) (it : IsLed (cells_of view) (r rec) n l) → Begins (cells_of view) l it.rest
    meets n l it = opens (cells_of view) l it.rest it.chain

    behind : (n : ℕ) (l : Link) (it : IsLed (cells_of view) (r rec) n l)
        → IsRest (r rec) n ((meets n l it).first ∷ (meets n l it).later)
    behind n l it = subst (IsRest (r rec) n) (meets n l it).is it.is

    place_of : (n : ℕ) (l : Link) → IsLed (cells_of view) (r rec) n l → table_in f l.rec ≡ Some table
    place_of n l it = ap (table_in f) (sym (meets n l it).place) ∙
        each_there (λ e. table_in f e.at ≡ Some table) (r rec) n (meets n l it).first (meets n l it).later
        (placed (r rec) its.each) (behind n l it)

    link_sound : (n holder : ℕ) (l : Link) → IsLed (cells_of view) (r rec) n l → (it : Damaged)
        → IsLinkDamage view holder l it → ⊥
    link_sound n holder l is _ (past beyond) =
        let below = (data_page l.rec.page.0 table (place_of n l is)).1.wanted.below in omega (arith, below, beyond)
    link_sound n holder l is _ (target other) = subst (IsOfOther l.tx.0) (meets n l is).cell other
        (ap (λ (t : TxNo). t.0) (meets n l is).by)

    pub version_there : (n holder : ℕ) (l : Link) → Follows view rec n holder l → (it : Damaged)
        → RefusesVersion m store batch.pages view holder l (faults.Damaged it) → ⊥
    version_there n holder l leads it (inl refused) =
        cell_there l.rec table (place_of n l (follows n holder l leads)) it refused
    version_there n holder l leads it (inr damaged) =
        link_sound n holder l (follows n holder l leads) it damaged

    few : length (r rec) ≤ 4096 * GREATEST_LIMIT
    few = few_versions (r rec) its.once (all_small table (newest_link view rec) (r rec) chain
        (placed (r rec) its.each))

    pub chain_whole : (it : Damaged) → IsChainDamage m store batch.pages view rec it → ⊥
    chain_whole _ (primary it refused) = cell_there rec table of it refused
    chain_whole _ (version n holder l it leads refused) = version_there n holder l leads it refused
    chain_whole _ (comes_back n before holder earlier l first leads sooner less same) =
        let at_n = follows n holder l leads in let at_first = follows earlier before first sooner in
        never_back (r rec) earlier n (meets earlier first at_first).first (meets n l at_n).first
        (meets earlier first at_first).later (meets n l at_n).later its.once
        (behind earlier first at_first) (behind n l at_n) less
        ((meets n l at_n).place ∙ (same ∙ sym (meets earlier first at_first).place))
    chain_whole _ (too_long n holder l leads far) =
        let at_n = follows n holder l leads in
        let inside : n < length (r rec) =
        rest_inside (r rec) n (meets n l at_n).first (meets n l at_n).later (behind n l at_n) in
        let most = few in omega (arith, inside, most, far)
