-- What is read of pages after a transaction replaces its own version in its cell, and what becomes of the bits
-- there; what is known of an own version that is the newest of its record.
use Rattle.std.proofs.Common.{◌≡◌, ◌≢◌, ◌⊎◌, inl, inr, refl, sym, ap, ◌∙◌, subst, ℕ, true, false, List, ◌∷◌, Option, None, Some}
use Rattle.mg_base.specs.declared.numbers.RecId.{RecId}
use Rattle.mg_base.specs.declared.transaction.TxState.{TxState}
use Rattle.mg_version.specs.declared.cell.Cell.{Cell}
use Rattle.mg_version.specs.declared.cell.Cell.TheVariants as cells
use Rattle.mg_version.specs.declared.cell.Link.{Link}
use Rattle.mg_version.specs.declared.cell.Version.{Version}
use Rattle.mg_model.specs.declared.table.Table.{Table}
use Rattle.mg_image.specs.declared.entry.Entry.{Entry}
use Rattle.mg_image.specs.Form.{Form, Pages}
use Rattle.mg_image.specs.ReadingLaws.{Opens, RowsAreOne, chain_opens}
use Rattle.mg_image.specs.RecordRules.{Each, IsRecord}
use Rattle.mg_image.specs.Records.{Chain, Reading, Stands, cells_of, goes, newest_of}
use Rattle.mg_image.specs.Sound.{IsSoundBy, facts_by}
use Rattle.mg_image.specs.StepLaws.{cases_place, same_place}
use Rattle.mg_image.specs.Tables.{Layout, stands_of, table_at}
use Rattle.mg_image_overlay_laws.specs.pages.Kinds.{HasNoSequences}
use Rattle.mg_image_overlay_laws.specs.records.ReplacePart.{ReplacesPage}
use Rattle.mg_image_overlay_laws.specs.tables.GrowingLaws.{grown_self}
use Rattle.mg_image_overlay_laws.specs.records.Chains.{HasItsRow, each_standing, read_beside, read_here, rows_were}
use Rattle.mg_image_overlay_laws.specs.pages.DataKept.{IsDataChanged, KeepsBits, data_more, data_self}
use Rattle.mg_image_overlay_laws.specs.tables.LayoutStays.{chain_stays, layout_stays, page_leaves}
use Rattle.mg_engine_step_laws.specs.writes.Writes.{ReadsAfter}

-- A record's slot leads to its newest version, which stands in a cell.
pub record HasOwnNewest (pages : Pages) (r : Reading) (p x : RecId) (v : Version) (l : Link)
    (d : Entry) (older : List Entry) : Type 0 where
  pub slot : cells_of pages p ≡ Some (cells.Anchor l)
  pub first : r p ≡ d ∷ older
  pub at : d.at ≡ x
  pub version : d.version ≡ v

-- a version apart from its slot is no record's newest by its own cell
pub newest_apart : (q : RecId) (v : Version) → v.primary ≡ false → newest_of q (Some (cells.Version v)) ≡ None
newest_apart q v apart = rw apart refl

module _ (form : Form) (one : RowsAreOne form.coding) (none : HasNoSequences form) (size : ℕ)
    (state : ℕ → TxState) (pool : Pages) (layout : Layout) (r : Reading)
    (sound : IsSoundBy form size state pool layout r) (p x : RecId) (table : Table) (v : Version)
    (l : Link) (d : Entry) (older : List Entry) (own : HasOwnNewest pool r p x v l d older)
    (of : table_at (stands_of layout) p.page.0 ≡ Some table) where
  opens : Opens (cells_of pool) (Some l) (d ∷ older)
  opens = chain_opens (cells_of pool) (Some l) (d ∷ older) (subst (Chain (cells_of pool) (Some l)) own.first
      (subst (λ (c : Option Cell). Chain (cells_of pool) (newest_of p c) (r p)) own.slot
      (sound.records.reads p table of)))

  pub leads_there : x ≡ l.rec
  leads_there = sym own.at ∙ opens.0

  pub by_writer : v.tx ≡ l.tx
  by_writer = ap (λ (w : Version). w.tx) (sym own.version) ∙ opens.2

  pub behind_own : Chain (cells_of pool) v.back older
  behind_own = subst (λ (w : Version). Chain (cells_of pool) w.back older) own.version opens.3

  pub own_stands : Stands (r p) x
  own_stands = subst (λ (es : List Entry). Stands es x) (sym own.first) (inl own.at)

  pub older_stands : (y : RecId) → Stands older y → Stands (r p) y
  older_stands y there = subst (λ (es : List Entry). Stands es y) (sym own.first) (inr there)

  pub older_off : Stands older x → ⊥
  older_off there = (subst (IsRecord form.coding (facts_by state pool layout) table) own.first
      (sound.records.each p table of)).once.0 (subst (Stands older) (sym own.at) there)

  pub cell_was : cells_of pool x ≡ Some (cells.Version v)
  cell_was = ap (cells_of pool) (sym own.at) ∙ (opens.1 ∙ ap (λ (w : Version). Some (cells.Version w)) own.version)

  pub slot_apart : x ≢ p
  slot_apart same =
      let both : Some (cells.Anchor l) ≡ Some (cells.Version v) =
      sym own.slot ∙ (ap (cells_of pool) (sym same) ∙ cell_was) in absurd cc

  pub rows_behind : Each (HasItsRow form.coding table) older
  rows_behind = (subst (Each (HasItsRow form.coding table)) own.first at_all).1
    where
      at_all : Each (HasItsRow form.coding table) (r p)
      at_all = rows_were form one size state pool pool layout r r sound sound p table of

  pub no_other : (q : RecId) → q ≢ p → Stands (r q) x → ⊥
  no_other q ne there = ne (sound.records.apart q p x there own_stands)

  -- ---- in its cell

  module _ (changed : Pages) (n : Entry) (at_x : n.at ≡ x)
      (replaces : ReplacesPage form.in_primary pool changed v n)
      (of_x : table_at (stands_of layout) n.at.page.0 ≡ Some table) (other : table ≢ layout.catalog.table)
      (its_row : HasItsRow form.coding table n) (c : Layout) (s : Reading)
      (second : IsSoundBy form size state changed c s) where
    replaced_data : IsDataChanged form size pool changed layout
    replaced_data = data_more form size state pool layout r sound pool changed n.at.page.0
        (data_self form size state pool layout r sound) replaces.page

    pub replace_bits : KeepsBits size pool changed
    replace_bits = replaced_data.bits

    replaced_sound : IsSoundBy form size state changed layout s
    replaced_sound = subst (λ (y : Layout). IsSoundBy form size state changed y s) (sym (layout_stays form one
        none size state pool changed layout c r s sound second replaced_data
        (page_leaves state pool changed layout n.at.page.0 table replaces.page.others of_x other))) second

    cell_else : (y : RecId) → y ≢ x → cells_of changed y ≡ cells_of pool y
    cell_else y ne = replaces.over.change.others y (λ same. ne (same ∙ at_x))

    cell_here : cells_of changed x ≡ Some (cells.Version n.version)
    cell_here = ap (cells_of changed) (sym at_x) ∙ replaces.over.change.here

    leads_still : (q : RecId) → newest_of q (cells_of changed q) ≡ newest_of q (cells_of pool q)
    leads_still q = at_place (cases_place q x)
      where
        at_place : ((q ≡ x) × (same_place q x ≡ true)) ⊎ ((q ≢ x) × (same_place q x ≡ false))
            → newest_of q (cells_of changed q) ≡ newest_of q (cells_of pool q)
        at_place (inl (same, _)) =
            let now : newest_of q (cells_of changed q) ≡ None =
            ap (λ (y : RecId). newest_of q (cells_of changed y)) same
            ∙ (ap (newest_of q) cell_here ∙ newest_apart q n.version replaces.over.apart) in
            let was : newest_of q (cells_of pool q) ≡ None =
            ap (λ (y : RecId). newest_of q (cells_of pool y)) same
            ∙ (ap (newest_of q) cell_was ∙ newest_apart q v replaces.over.was_apart) in
            now ∙ sym was
        at_place (inr (ne, _)) = ap (newest_of q) (cell_else q ne)

    pub replace_reads : ReadsAfter form size state pool changed layout r p (n ∷ older)
    replace_reads = record {
      layout = layout;
      reading = s;
      sound = replaced_sound;
      grown = grown_self layout r;
      here = read_here form one size state pool changed layout r s sound replaced_sound p table of (n ∷ older)
          (subst (λ (k : Option Link). Chain (cells_of changed) k (n ∷ older))
          (sym (leads_still p ∙ ap (newest_of p) own.slot)) (goes l n older (at_x ∙ leads_there)
          replaces.over.change.here (replaces.over.tx ∙ by_writer)
          (subst (λ (k : Option Link). Chain (cells_of changed) k older) (sym replaces.over.back)
          (chain_stays (cells_of pool) (cells_of changed) v.back older behind_own
          (each_standing (λ y. cells_of changed y ≡ cells_of pool y) older (λ y there. cell_else y
          (λ same. older_off (subst (Stands older) same there))))))))
          (its_row, rows_behind);
      others = λ q ne. read_beside form one size state pool changed layout r s sound replaced_sound q
          (leads_still q) (λ y there. cell_else y (λ same. no_other q ne (subst (Stands (r q)) same there)));
    }
