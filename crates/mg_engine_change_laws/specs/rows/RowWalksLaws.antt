-- Walks go on over tables that show the same.
use Rattle.std.proofs.Common.{◌≡◌, inl, inr, ◌==◌, ◌||◌, ◌+◌, ap, refl, sym, subst, ◌∙◌, cond, ℕ, Bool, true, false, List, [], ◌∷◌, ◌++◌, Option, None, Some}
use Rattle.std.specs.Prelude.{if◌then◌else◌, nat_le}
use Rattle.mg_base.specs.Fields.{byte}
use Rattle.mg_base.specs.declared.numbers.RecId.{RecId}
use Rattle.mg_base.specs.declared.transaction.TxState.{TxState}
use Rattle.mg_chain.specs.Chains.{newest_link, takes_version}
use Rattle.mg_engine_step_laws.specs.standing.Known.{IsShown}
use Rattle.mg_engine_step_laws.specs.reads.WalkPlaces.{stands_at, stands_more}
use Rattle.mg_engine_step_laws.specs.reads.Walking.{StandsInTurn, rec_of}
use Rattle.mg_engine_change_laws.specs.rows.RowWalks.{RowWalksGoOn, ShowsOn, row_at_record}
use Rattle.mg_engine_change_laws.specs.rows.RowsLaws.{AreSilent, IsSilent, behind_more, has_behind, if_passes, page_same, pages_none, pages_same, records_both, rows_are, rows_both, rows_by, rows_filtered}
use Rattle.mg_heap.specs.Walk.{behind, is_primary}
use Rattle.mg_image.specs.Form.{Pages, packed_form}
use Rattle.mg_image.specs.Records.{Chain, Reading, cell_spelled, cells_of, ended, goes, newest_of, shown, slot_cell}
use Rattle.mg_image.specs.Sound.{IsSoundBy}
use Rattle.mg_image.specs.Tables.{Has, Layout, stands_of, table_at}
use Rattle.mg_image.specs.declared.entry.Entry.{Entry}
use Rattle.mg_image.specs.declared.entry.TheConstants.{PRIMARY_VERSION}
use Rattle.mg_model.specs.Changes.{KeyedRows}
use Rattle.mg_model.specs.Openings.{everyone}
use Rattle.mg_model.specs.declared.table.Table.{Table}
use Rattle.mg_overlay_laws.specs.Overlays.{left_state}
use Rattle.mg_seek.specs.TableRecords.{rec_at, records_in, records_on}
use Rattle.mg_seek.specs.Walks.{StandsAt, keyed, records_behind, records_from}
use Rattle.mg_slots.specs.DataPage.{cell_of}
use Rattle.mg_image_overlay_laws.specs.tables.OneTable.{its_data}
use Rattle.mg_version.specs.CellReading.{link_in, version_in}
use Rattle.mg_version.specs.declared.cell.Cell.TheVariants as cells
use Rattle.mg_version.specs.declared.cell.Link.{Link}
use Rattle.mg_version.specs.declared.cell.TheConstants.{ANCHOR, NEWEST_AT}

-- ---- what is no primary slot has no versions

primary_spelled : (bytes : List ℕ) (rec : RecId)
    → (byte bytes 0 == ANCHOR || byte bytes 0 == PRIMARY_VERSION) ≡ false
    → newest_of rec (Some (cell_spelled bytes)) ≡ None
primary_spelled bytes rec is = at (byte bytes 0 == PRIMARY_VERSION) (byte bytes 0 == ANCHOR) is
  where
    at : (p a : Bool) → (a || p) ≡ false → newest_of rec (Some (cond p
        (cells.Version (record (version_in bytes) { primary = true }))
        (cond a (cells.Anchor (link_in bytes NEWEST_AT)) (cells.Version (version_in bytes))))) ≡ None
    at true true off = absurd cc
    at true false off = absurd cc
    at false true off = absurd cc
    at false false off = refl

none_there : (view : Pages) (rec : RecId) → is_primary (cell_of (view rec.page.0) rec.slot) ≡ false
    → newest_link view rec ≡ None
none_there view rec is = at (cell_of (view rec.page.0) rec.slot) is
  where
    at : (cell : Option (List ℕ)) → is_primary cell ≡ false → newest_of rec (slot_cell cell) ≡ None
    at None off = refl
    at (Some bytes) off = primary_spelled bytes rec off

chain_none : (view : Pages) (link : Option Link) (es : List Entry) → Chain (cells_of view) link es → link ≡ None
    → es ≡ []
chain_none view link es ended none = refl
chain_none view link es (goes k d rest at cell by more) none = absurd cc

-- ---- a table of sound pages

module _ (size : ℕ) (state : ℕ → TxState) (pages : Pages) (layout : Layout) (r : Reading)
    (sound : IsSoundBy packed_form size state pages layout r) (table : Table) (shown_ : IsShown layout table)
    (counts : ℕ → Bool) where
  of_page : (n : ℕ) → Has shown_.stands.stand.data_pages n → table_at (stands_of layout) n ≡ Some shown_.its
  of_page n has = (its_data packed_form size state pages layout r sound shown_.its shown_.stands n).1 has

  silent_at : (n : ℕ) → Has shown_.stands.stand.data_pages n
      → IsSilent (row_at_record counts table r) (pages n) n
  silent_at n has k off =
      let none : r (rec_at n k) ≡ [] = chain_none pages (newest_link pages (rec_at n k)) (r (rec_at n k))
      (sound.records.reads (rec_at n k) shown_.its (of_page n has)) (none_there pages (rec_at n k) off) in
      ap (λ (es : List Entry). keyed table (shown counts es) []) none

-- ---- a walk

abbrev behind_slot : ℕ → RecId → Bool
behind_slot from rec = nat_le from rec.slot

passes_none : (b : Bool) (rows : KeyedRows) → rows ≡ [] → (if b then rows else []) ≡ []
passes_none true rows is = is
passes_none false rows is = refl

module _ (counted counts : ℕ → Bool) (table : Table) (r q : Reading) (pages later : Pages) (ns more : List ℕ)
    (silent_r : AreSilent (row_at_record counted table r) pages ns)
    (silent_q : AreSilent (row_at_record counts table q) later ns)
    (same : (p : RecId) → Has ns p.page.0 → row_at_record counts table q p ≡ row_at_record counted table r p)
    (none : (p : RecId) → Has more p.page.0 → row_at_record counts table q p ≡ []) where
  abbrev f : RecId → KeyedRows
  f = row_at_record counted table r

  abbrev g : RecId → KeyedRows
  g = row_at_record counts table q

  end_none : (xs : KeyedRows) → xs ++ [] ≡ xs
  end_none [] = refl
  end_none (x ∷ xs) = ap (λ (rows : KeyedRows). x ∷ rows) (end_none xs)

  -- some of the pages, and the new ones
  in_more : (ms : List ℕ) → ((n : ℕ) → Has ms n → Has ns n)
      → rows_by g (records_in later (ms ++ more)) ≡ rows_by f (records_in pages ms)
  in_more ms within = ap (rows_by g) (records_both later ms more)
      ∙ (rows_both g (records_in later ms) (records_in later more)
      ∙ (ap (λ (rows : KeyedRows). rows_by g (records_in later ms) ++ rows) (pages_none g later more none)
      ∙ (end_none (rows_by g (records_in later ms))
      ∙ pages_same f g pages later ms (λ n has. silent_r n (within n has)) (λ n has. silent_q n (within n has))
      (λ p has. same p (within p.page.0 has)))))

  -- the records of a page from a slot on
  from_same : (n from : ℕ) → Has ns n
      → rows_by g (records_from (later n) n from) ≡ rows_by f (records_from (pages n) n from)
  from_same n from has = rows_filtered (behind_slot from) g (records_on (later n) n)
      ∙ (page_same (if_passes (behind_slot from) f) (if_passes (behind_slot from) g) (pages n) (later n) n
      (λ k off. passes_none (behind_slot from (rec_at n k)) (f (rec_at n k)) (silent_r n has k off))
      (λ k off. passes_none (behind_slot from (rec_at n k)) (g (rec_at n k)) (silent_q n has k off))
      (λ k. ap (λ (rows : KeyedRows). if behind_slot from (rec_at n k) then rows else []) (same (rec_at n k) has))
      ∙ sym (rows_filtered (behind_slot from) f (records_on (pages n) n)))

  pub walk_same : (after : Option RecId) → StandsAt ns after
      → rows_by g (records_behind later (ns ++ more) after) ≡ rows_by f (records_behind pages ns after)
  walk_same None stands = in_more ns (λ n has. has)
  walk_same (Some x) stands =
      rows_both g (records_from (later x.page.0) x.page.0 (x.slot + 1)) (records_in later (behind (ns ++ more) x.page.0))
      ∙ (ap (λ (rows : KeyedRows). rows ++ rows_by g (records_in later (behind (ns ++ more) x.page.0)))
      (from_same x.page.0 (x.slot + 1) stands)
      ∙ (ap (λ (ms : List ℕ). rows_by f (records_from (pages x.page.0) x.page.0 (x.slot + 1))
      ++ rows_by g (records_in later ms)) (behind_more ns more x.page.0 stands)
      ∙ (ap (λ (rows : KeyedRows). rows_by f (records_from (pages x.page.0) x.page.0 (x.slot + 1)) ++ rows)
      (in_more (behind ns x.page.0) (λ n has. has_behind ns x.page.0 n has))
      ∙ sym (rows_both f (records_from (pages x.page.0) x.page.0 (x.slot + 1))
      (records_in pages (behind ns x.page.0))))))

-- ---- the whole

has_first : (ns more : List ℕ) (n : ℕ) → Has ns n → Has (ns ++ more) n
has_first [] more n has = absurd has
has_first (k ∷ ks) more n (inl is) = inl is
has_first (k ∷ ks) more n (inr later) = inr (has_first ks more n later)

pub row_walks_go_on : RowWalksGoOn
row_walks_go_on size s new pages later u table after rows shows_on come = record {
  layout = to.layout;
  reading = to.reading;
  sound = to.sound;
  shown = to.is_;
  stands = subst (λ (ms : List ℕ). StandsInTurn ms after) (sym to.same.data_pages)
      (stands_more come.shown.stands.stand.data_pages to.same.more after come.stands);
  are = come.are ∙ (rows_are (takes_version s.state s.live u) table come.reading
      (records_behind pages come.shown.stands.stand.data_pages (rec_of after))
      ∙ (sym (walk_same (takes_version s.state s.live u) (takes_version new.state new.live u) table come.reading
      to.reading pages later come.shown.stands.stand.data_pages to.same.more
      (silent_at size (left_state everyone s.state) pages come.layout come.reading come.sound table come.shown
      (takes_version s.state s.live u))
      (λ n has. silent_at size (left_state everyone new.state) later to.layout to.reading to.sound table to.is_
      (takes_version new.state new.live u) n (subst (λ (ms : List ℕ). Has ms n) (sym to.same.data_pages)
      (has_first come.shown.stands.stand.data_pages to.same.more n has)))
      to.same.rows to.same.none (rec_of after)
      (stands_at come.shown.stands.stand.data_pages after come.stands))
      ∙ (ap (λ (ms : List ℕ). rows_by (row_at_record (takes_version new.state new.live u) table to.reading)
      (records_behind later ms (rec_of after))) (sym to.same.data_pages)
      ∙ sym (rows_are (takes_version new.state new.live u) table to.reading
      (records_behind later to.is_.stands.stand.data_pages (rec_of after))))));
}
  where
    to : ShowsOn size s new later u table come.layout come.reading come.shown
    to = shows_on come.layout come.reading come.sound come.shown
