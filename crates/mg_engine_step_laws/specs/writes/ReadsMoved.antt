-- What is read of pages after a transaction's own version has moved to another cell, or was taken out, and
-- what becomes of the bits there.
use Rattle.std.proofs.Common.{◌≡◌, ◌≢◌, ◌⊎◌, inl, inr, sym, ap, ◌∙◌, subst, ℕ, true, false, List, ◌∷◌, Option, None, Some}
use Rattle.mg_base.specs.declared.numbers.RecId.{RecId}
use Rattle.mg_base.specs.declared.transaction.TxState.{TxState}
use Rattle.mg_careful.specs.Precedence.{Orders}
use Rattle.mg_version.specs.declared.cell.Cell.{Cell}
use Rattle.mg_version.specs.declared.cell.Cell.TheVariants as cells
use Rattle.mg_version.specs.declared.cell.Link.{Link}
use Rattle.mg_version.specs.declared.cell.Version.{Version}
use Rattle.mg_model.specs.declared.opening.Opening.{Opening}
use Rattle.mg_model.specs.declared.table.Table.{Table}
use Rattle.mg_model.specs.History.{Entries}
use Rattle.mg_image.specs.declared.entry.Entry.{Entry}
use Rattle.mg_image.specs.Form.{Form, Pages}
use Rattle.mg_image.specs.ReadingLaws.{RowsAreOne}
use Rattle.mg_image.specs.Records.{Chain, Reading, Stands, cells_of, goes, newest_of}
use Rattle.mg_image.specs.Sound.{IsSoundBy}
use Rattle.mg_image.specs.StepLaws.{cases_place, same_place}
use Rattle.mg_image.specs.Tables.{Layout, stands_of, table_at}
use Rattle.mg_image_overlay_laws.specs.pages.Kinds.{HasNoSequences}
use Rattle.mg_image_overlay_laws.specs.pages.Trees.{data_leaves, trees_stay}
use Rattle.mg_image_overlay_laws.specs.kept.KeptImages.{IsKept}
use Rattle.mg_image_overlay_laws.specs.records.BackPart.{TakesOutPages}
use Rattle.mg_image_overlay_laws.specs.records.MovePart.{MovesPages}
use Rattle.mg_image_overlay_laws.specs.records.TakeOut.{back_cell, back_leads}
use Rattle.mg_image_overlay_laws.specs.tables.Growing.{EndsAt, Grows, TableEnd}
use Rattle.mg_image_overlay_laws.specs.tables.GrowingLaws.{StandsTo, grown_self}
use Rattle.mg_image_overlay_laws.specs.kept.Knowing.{put_still}
use Rattle.mg_image_overlay_laws.specs.records.Chains.{HasItsRow, each_standing, read_beside, read_here}
use Rattle.mg_image_overlay_laws.specs.pages.DataKept.{IsDataChanged, KeepsBits, bits_more, data_more, data_self}
use Rattle.mg_image_overlay_laws.specs.tables.LayoutStays.{chain_stays, layout_stays, leaves_on, page_leaves}
use Rattle.mg_engine_step_laws.specs.writes.Reads.{grown_bits, grown_of, grown_to, off_anchor, stands_version}
use Rattle.mg_engine_step_laws.specs.writes.ReadsOwn.{HasOwnNewest, behind_own, cell_was, newest_apart, no_other, older_off, older_stands, own_stands, rows_behind, slot_apart}
use Rattle.mg_engine_step_laws.specs.writes.Writes.{ReadsAfter}

-- ---- a slot is turned, and then a cell is freed

-- Of two images of one layout the second has the slot of a record turned, and the cell of its newest version
-- freed.
record IsSwung (old turned new : Pages) (p x : RecId) (v : Version) (to : Option Cell) : Type 0 where
  turn : (y : RecId) → y ≢ p → cells_of turned y ≡ cells_of old y
  turned_to : cells_of turned p ≡ to
  freed : cells_of new x ≡ None
  others : (y : RecId) → y ≢ x → cells_of new y ≡ cells_of turned y

module _ (form : Form) (one : RowsAreOne form.coding) (none : HasNoSequences form) (size : ℕ)
    (state : ℕ → TxState) (old turned new : Pages) (layout : Layout) (r s : Reading)
    (sound : IsSoundBy form size state old layout r) (second : IsSoundBy form size state new layout s)
    (p x : RecId) (table : Table) (v : Version) (l : Link) (d : Entry) (older : List Entry)
    (own : HasOwnNewest old r p x v l d older) (apart : v.primary ≡ false) (to : Option Cell)
    (of : table_at (stands_of layout) p.page.0 ≡ Some table) (swung : IsSwung old turned new p x v to) where
  x_off : x ≢ p
  x_off = slot_apart form one none size state old layout r sound p x table v l d older own of

  cell_else : (y : RecId) → y ≢ p → y ≢ x → cells_of new y ≡ cells_of old y
  cell_else y off_p off_x = swung.others y off_x ∙ swung.turn y off_p

  slot_now : cells_of new p ≡ to
  slot_now = swung.others p (λ same. x_off (sym same)) ∙ swung.turned_to

  leads_still : (q : RecId) → q ≢ p → newest_of q (cells_of new q) ≡ newest_of q (cells_of old q)
  leads_still q ne = at (cases_place q x)
    where
      at : ((q ≡ x) × (same_place q x ≡ true)) ⊎ ((q ≢ x) × (same_place q x ≡ false))
          → newest_of q (cells_of new q) ≡ newest_of q (cells_of old q)
      at (inl (same, _)) =
          let now : newest_of q (cells_of new q) ≡ None =
          ap (λ (y : RecId). newest_of q (cells_of new y)) same ∙ ap (newest_of q) swung.freed in
          let was : newest_of q (cells_of old q) ≡ None =
          ap (λ (y : RecId). newest_of q (cells_of old y)) same
          ∙ (ap (newest_of q) (cell_was form one none size state old layout r sound p x table v l d older own of)
          ∙ newest_apart q v apart) in
          now ∙ sym was
      at (inr (off_x, _)) = ap (newest_of q) (cell_else q ne off_x)

  swung_others : (q : RecId) → q ≢ p → s q ≡ r q
  swung_others q ne = read_beside form one size state old new layout r s sound second q (leads_still q ne)
      (λ y there. cell_else y (off_anchor form size state old layout r sound p l own.slot q y there)
      (λ same. no_other form one none size state old layout r sound p x table v l d older own of q ne
      (subst (Stands (r q)) same there)))

  swung_behind : Chain (cells_of new) v.back older
  swung_behind = chain_stays (cells_of old) (cells_of new) v.back older
      (behind_own form one none size state old layout r sound p x table v l d older own of)
      (each_standing (λ y. cells_of new y ≡ cells_of old y) older (λ y there. cell_else y
      (off_anchor form size state old layout r sound p l own.slot p y
      (older_stands form one none size state old layout r sound p x table v l d older own of y there))
      (λ same. older_off form one none size state old layout r sound p x table v l d older own of
      (subst (Stands older) same there))))

-- ---- a version moves

module _ (form : Form) (one : RowsAreOne form.coding) (none : HasNoSequences form) (size : ℕ)
    (state : ℕ → TxState) (pool grown : Pages) (layout : Layout) (r : Reading)
    (sound : IsSoundBy form size state pool layout r) (table : Table) (orders : Orders)
    (batch : ℕ → Option (List ℕ)) (end final : TableEnd)
    (row : Grows form.in_primary size table.pointer.0 orders batch pool end grown final)
    (ends : EndsAt layout table end) (mid turned changed : Pages) (p x : RecId) (v : Version)
    (n : Entry) (l link : Link)
    (moves : MovesPages form.in_primary grown mid turned changed p x v n l link) where
  abbrev to : StandsTo form size state pool grown layout r table final
  to = grown_to form one none size state pool grown layout r sound table orders batch end final row ends

  placed_sound : IsSoundBy form size state mid to.layout r
  placed_sound = put_still form size state grown to.layout r to.sound table
      (grown_of form one none size state pool grown layout r sound table orders batch end final row ends) mid
      n.at n.version (data_leaves form size n.at.page.0 none (trees_stay form size)) moves.put_page moves.put
      moves.free moves.apart

  pub move_bits : (o : Opening) (h : Entries) → IsKept form size o h state pool pool
      → KeepsBits size pool changed
  move_bits o h kept =
      let changed_data : IsDataChanged form size grown changed to.layout =
      data_more form size state grown to.layout r to.sound turned changed x.page.0
      (data_more form size state grown to.layout r to.sound mid turned p.page.0
      (data_more form size state grown to.layout r to.sound grown mid n.at.page.0
      (data_self form size state grown to.layout r to.sound) moves.put_page) moves.slot_page)
      moves.frees.page in
      bits_more size pool grown changed (grown_bits form one none size state pool grown layout r sound table
      orders batch end final row ends o h kept) changed_data.bits

  module _ (d : Entry) (older : List Entry) (first : r p ≡ d ∷ older) (at_x : d.at ≡ x)
      (version : d.version ≡ v) (of : table_at (stands_of layout) p.page.0 ≡ Some table)
      (of_x : table_at (stands_of layout) x.page.0 ≡ Some table) (other : table ≢ layout.catalog.table)
      (its_row : HasItsRow form.coding table n) (c : Layout) (s : Reading)
      (second : IsSoundBy form size state changed c s) where
    own : HasOwnNewest mid r p x v l d older
    own = record { slot = moves.slot; first = first; at = at_x; version = version }

    of_grown : table_at (stands_of to.layout) p.page.0 ≡ Some table
    of_grown = to.grown.stays p.page.0 table of

    x_grown : table_at (stands_of to.layout) x.page.0 ≡ Some table
    x_grown = to.grown.stays x.page.0 table of_x

    other_grown : table ≢ to.layout.catalog.table
    other_grown same = other (same ∙ to.grown.catalog)

    moved_sound : IsSoundBy form size state changed to.layout s
    moved_sound = subst (λ (y : Layout). IsSoundBy form size state changed y s) (sym (layout_stays form one none
        size state mid changed to.layout c r s placed_sound second
        (data_more form size state mid to.layout r placed_sound turned changed x.page.0
        (data_more form size state mid to.layout r placed_sound mid turned p.page.0
        (data_self form size state mid to.layout r placed_sound) moves.slot_page) moves.frees.page)
        (leaves_on state mid turned changed to.layout
        (page_leaves state mid turned to.layout p.page.0 table moves.slot_page.others of_grown other_grown)
        (page_leaves state turned changed to.layout x.page.0 table moves.frees.page.others x_grown
        other_grown)))) second

    swung : IsSwung mid turned changed p x v (Some (cells.Anchor link))
    swung = record {
      turn = moves.turn.others;
      turned_to = moves.turn.here;
      freed = moves.frees.freed.here;
      others = moves.frees.freed.others;
    }

    -- the new cell is neither the slot nor the old one
    off_slot : n.at ≢ p
    off_slot same =
        let both : Some (cells.Anchor l) ≡ Some (cells.Version n.version) =
        sym moves.slot ∙ (ap (cells_of mid) (sym same) ∙ moves.put.here) in absurd cc

    off_old : n.at ≢ x
    off_old same =
        let it = stands_version form size state grown to.layout r to.sound p x
        (own_stands form one none size state mid to.layout r placed_sound p x table v l d older own of_grown) in
        let both : None ≡ Some (cells.Version it.0) =
        sym moves.free ∙ (ap (cells_of grown) same ∙ it.1) in absurd cc

    pub move_reads : ReadsAfter form size state pool changed layout r p (n ∷ older)
    move_reads = record {
      layout = to.layout;
      reading = s;
      sound = moved_sound;
      grown = to.grown;
      here = read_here form one size state mid changed to.layout r s placed_sound moved_sound p table of_grown
          (n ∷ older) (subst (λ (y : Option Cell). Chain (cells_of changed) (newest_of p y) (n ∷ older))
          (sym (slot_now form one none size state mid turned changed to.layout r s placed_sound moved_sound p x
          table v l d older own moves.frees.apart (Some (cells.Anchor link)) of_grown swung))
          (goes link n older moves.leads.0
          (cell_else form one none size state mid turned changed to.layout r s placed_sound moved_sound p x
          table v l d older own moves.frees.apart (Some (cells.Anchor link)) of_grown swung n.at off_slot off_old
          ∙ moves.put.here) moves.leads.1
          (subst (λ (k : Option Link). Chain (cells_of changed) k older) (sym moves.back)
          (swung_behind form one none size state mid turned changed to.layout r s placed_sound moved_sound p x
          table v l d older own moves.frees.apart (Some (cells.Anchor link)) of_grown swung)))) (
            its_row,
            rows_behind form one none size state mid to.layout r placed_sound p x table v l d older own
                of_grown,
          );
      others = swung_others form one none size state mid turned changed to.layout r s placed_sound moved_sound
          p x table v l d older own moves.frees.apart (Some (cells.Anchor link)) of_grown swung;
    }

-- ---- a version is taken out

module _ (form : Form) (one : RowsAreOne form.coding) (none : HasNoSequences form) (size : ℕ)
    (state : ℕ → TxState) (pool turned changed : Pages) (layout : Layout) (r : Reading)
    (sound : IsSoundBy form size state pool layout r) (p x : RecId) (table : Table) (v : Version)
    (l : Link) (takes : TakesOutPages form.in_primary pool turned changed p x v l) where
  taken_data : IsDataChanged form size pool changed layout
  taken_data = data_more form size state pool layout r sound turned changed x.page.0
      (data_more form size state pool layout r sound pool turned p.page.0
      (data_self form size state pool layout r sound) takes.slot_page) takes.frees.page

  pub back_bits : KeepsBits size pool changed
  back_bits = taken_data.bits

  module _ (d : Entry) (older : List Entry) (first : r p ≡ d ∷ older) (at_x : d.at ≡ x)
      (version : d.version ≡ v) (of : table_at (stands_of layout) p.page.0 ≡ Some table)
      (of_x : table_at (stands_of layout) x.page.0 ≡ Some table) (other : table ≢ layout.catalog.table)
      (c : Layout) (s : Reading) (second : IsSoundBy form size state changed c s) where
    own_back : HasOwnNewest pool r p x v l d older
    own_back = record { slot = takes.slot; first = first; at = at_x; version = version }

    back_sound : IsSoundBy form size state changed layout s
    back_sound = subst (λ (y : Layout). IsSoundBy form size state changed y s) (sym (layout_stays form one none
        size state pool changed layout c r s sound second taken_data
        (leaves_on state pool turned changed layout
        (page_leaves state pool turned layout p.page.0 table takes.slot_page.others of other)
        (page_leaves state turned changed layout x.page.0 table takes.frees.page.others of_x other)))) second

    swung_back : IsSwung pool turned changed p x v (back_cell v.back)
    swung_back = record {
      turn = takes.turn.others;
      turned_to = takes.turn.here;
      freed = takes.frees.freed.here;
      others = takes.frees.freed.others;
    }

    pub back_reads : ReadsAfter form size state pool changed layout r p older
    back_reads = record {
      layout = layout;
      reading = s;
      sound = back_sound;
      grown = grown_self layout r;
      here = read_here form one size state pool changed layout r s sound back_sound p table of older
          (subst (λ (k : Option Link). Chain (cells_of changed) k older)
          (sym (ap (newest_of p) (slot_now form one none size state pool turned changed layout r s sound
          back_sound p x table v l d older own_back takes.frees.apart (back_cell v.back) of swung_back)
          ∙ back_leads p v.back))
          (swung_behind form one none size state pool turned changed layout r s sound back_sound p x
          table v l d older own_back takes.frees.apart (back_cell v.back) of swung_back))
          (rows_behind form one none size state pool layout r sound p x table v l d older own_back of);
      others = swung_others form one none size state pool turned changed layout r s sound back_sound
          p x table v l d older own_back takes.frees.apart (back_cell v.back) of swung_back;
    }
