-- A version is pushed.
use Rattle.std.proofs.Common.{◌≡◌, ◌≢◌, ◌∙◌, inl, inr, ◌≤◌, ◌+◌, ◌++◌, ◌∷◌, ℕ, Bool, true, false, List, Option, None, Some, length, refl, sym, ap, subst, arith, is_some, cond}
use Rattle.mg_base.specs.Disk.{Meaning}
use Rattle.mg_base.specs.Image.{Image}
use Rattle.mg_base.specs.declared.damage.Damaged.{Damaged}
use Rattle.mg_base.specs.declared.geometry.Geometry.{Geometry}
use Rattle.mg_base.specs.declared.numbers.RecId.{RecId}
use Rattle.mg_base.specs.declared.transaction.TxState.{TxState}
use Rattle.mg_chain.specs.Refusals.{IsCellDamage}
use Rattle.mg_chain.specs.Writing.{HasHead, leading_to}
use Rattle.mg_chain.specs.WritingRefusals.{RefusesHead, RefusesPush, RefusesPushCell, push_memory, push_puts, push_turns, pushed_cell, pushed_head, pushed_memory}
use Rattle.mg_heap.specs.Reading.{owner_in}
use Rattle.mg_tie_laws.specs.CellTies.{read_apart}
use Rattle.mg_image.specs.Form.{Pages, packed_form}
use Rattle.mg_image.specs.ReadingLaws.{chain_opens}
use Rattle.mg_image.specs.Records.{Chain, Reading, cell_spelled, cells_of, newest_of, slot_cell}
use Rattle.mg_image.specs.Sound.{IsCellOf, IsSoundBy}
use Rattle.mg_image.specs.Tables.{Has, Layout}
use Rattle.mg_image.specs.declared.entry.Entry.{Entry}
use Rattle.mg_model.specs.declared.table.Table.{Table}
use Rattle.mg_tie_laws.specs.Rows.{table_of_page}
use Rattle.mg_no_damage_laws.specs.Sees.{no_batch}
use Rattle.mg_pool.specs.Dirty.{DirtyPages}
use Rattle.mg_pool.specs.Pool.{shown}
use Rattle.mg_pool.specs.declared.pool.Pool.{Pool}
use Rattle.mg_slots.specs.DataPage.{cell_of}
use Rattle.mg_slots.specs.Room.{need_of}
use Rattle.mg_space.specs.Taking.{IsGeometry}
use Rattle.mg_space.specs.TakingLaws.{page_sizes}
use Rattle.mg_space.specs.View.{Tells, viewed}
use Rattle.mg_space.specs.ViewLaws.{tells_on}
use Rattle.mg_space.specs.declared.fault.SpaceFault.TheVariants as faults
use Rattle.mg_space.specs.declared.links.FireLinks.{FireLinks}
use Rattle.mg_image_overlay_laws.specs.tables.Growing.{IsTableOf}
use Rattle.mg_image_overlay_laws.specs.tables.OneTable.{its_data}
use Rattle.mg_version.specs.Cells.{IsSpelling, back_bytes, cell_bytes}
use Rattle.mg_version.specs.declared.cell.Cell.{Cell}
use Rattle.mg_version.specs.declared.cell.Cell.TheVariants as cells
use Rattle.mg_version.specs.declared.cell.Link.{Link}
use Rattle.mg_version.specs.declared.cell.Version.{Version}
use Rattle.mg_no_damage_laws.specs.Writes.{IsRecordOf, PushesAreFilled, RoomIsFound, SeesSound, SpotsAreGiven}
use Rattle.mg_no_damage_laws.specs.Reading.{Reads, page_there, slot_turned}
use Rattle.mg_no_damage_laws.specs.RoomLaws.{other_cell, put_stands, room_found, spot_given, still_listed, version_put}
use Rattle.mg_no_damage_laws.specs.WriteStanding.{IsStanding, cells_there, owner_below, owner_there, sound_standing}

-- ---- how long a version's cell is

back_length : (back : Option Link) (body : List ℕ) → length (back_bytes back ++ body) ≤ 10 + length body
back_length None body = omega arith
back_length (Some l) body = omega arith

version_length : (v : Version) → length (cell_bytes (cells.Version v)) ≤ length v.body + 18
unfolding cell_bytes
version_length v = let more = back_length v.back v.body in omega (arith, more)

-- a version that fits a page has room on a new one
pub version_fits : (size : ℕ) (w : Version) → length w.body + 42 ≤ size → 35 ≤ size → (bytes : List ℕ)
    → IsSpelling bytes (cells.Version w) → need_of bytes + 24 ≤ size
version_fits size w short least bytes spells =
    let len : length bytes ≤ length w.body + 18 =
    subst (λ (b : List ℕ). length b ≤ length w.body + 18) (sym spells.spelled) (version_length w) in
    omega (arith, len, least, short)

-- ---- the slot of a record with versions has an anchor

pub anchored : (in_slot : Option (List ℕ)) (p : RecId) (l : Link)
    → ((bytes : List ℕ) → in_slot ≡ Some bytes → IsCellOf false bytes)
    → newest_of p (slot_cell in_slot) ≡ Some l
    → (is_some in_slot ≡ true) × ((link : Link) × (slot_cell in_slot ≡ Some (cells.Anchor link)))
anchored None p l may is = absurd cc
anchored (Some bytes) p l may is = (refl, by (cell_spelled bytes) refl is)
  where
    by : (c : Cell) → cell_spelled bytes ≡ c → newest_of p (Some c) ≡ Some l
        → (link : Link) × (Some c ≡ Some (cells.Anchor link))
    by (cells.Anchor link) same newest = (link, refl)
    by (cells.Version v) same newest =
        let apart : v.primary ≡ false = read_apart bytes v (may bytes refl) same in
        let none : None ≡ Some l = subst (λ (b : Bool).
        cond b (Some (record { rec = p; tx = v.tx })) None ≡ Some l) apart newest in absurd cc

pub opened : (h : RecId → Option Cell) (link : Option Link) (e : Entry) (es : List Entry) → Chain h link (e ∷ es)
    → (l : Link) × (link ≡ Some l)
opened h None e es chain = absurd (chain_opens h None (e ∷ es) chain)
opened h (Some l) e es chain = (l, refl)

module _ {D : Type 0} (m : Meaning D) (laws : Reads m) (image : Image) (state : ℕ → TxState) (layout : Layout)
    (r : Reading) where
  -- ---- the head of a record

  module _ (a n : Pool D FireLinks) (like : n.dirty ≡ a.dirty) (tells : Tells m n.disk image)
      (sound : IsSoundBy packed_form a.geometry.size state (viewed a image no_batch) layout r) (rec : RecId)
      (table : Table) (its : IsRecordOf layout r rec table) where
    abbrev view : Pages
    view = viewed a image no_batch

    pub of_table : IsTableOf layout table
    of_table = table_of_page layout rec.page.0 table its.of

    pub standing : IsStanding a.geometry.size view of_table.stand
    standing = sound_standing a.geometry.size state view layout r sound table of_table

    pub listed : Has of_table.stand.data_pages rec.page.0
    listed = (its_data packed_form a.geometry.size state view layout r sound table of_table rec.page.0).0 its.of

    spelled : (bytes : List ℕ) → cell_of (view rec.page.0) rec.slot ≡ Some bytes → IsCellOf false bytes
    spelled bytes is = (cells_there a.geometry.size view of_table.stand standing rec.page.0 listed).cells rec.slot
        bytes is

    pub anchor : (is_some (cell_of (view rec.page.0) rec.slot) ≡ true)
        × ((link : Link) × (cells_of view rec ≡ Some (cells.Anchor link)))
    anchor = by (opened (cells_of view) (newest_of rec (cells_of view rec)) its.newest its.older
        (subst (Chain (cells_of view) (newest_of rec (cells_of view rec))) its.are
        (sound.records.reads rec table its.of)))
      where
        by : (l : Link) × (newest_of rec (cells_of view rec) ≡ Some l)
            → (is_some (cell_of (view rec.page.0) rec.slot) ≡ true)
            × ((link : Link) × (cells_of view rec ≡ Some (cells.Anchor link)))
        by (l, is) = anchored (cell_of (view rec.page.0) rec.slot) rec l spelled is

    no_damage : (bytes : List ℕ) (it : Damaged) → IsCellOf false bytes → IsCellDamage rec.page.0 bytes it → ⊥
    no_damage bytes it (inl (cell, spells)) damaged = damaged.refuses.none cell spells
    no_damage bytes it (inr (primary, v)) damaged = absurd cc

    pub its_owner : (newest : Link) (owner : ℕ) → HasHead view rec newest owner → owner ≡ table.pointer.0
    its_owner newest owner head = head.owned.is
        ∙ (owner_there a.geometry.size view of_table.stand standing rec.page.0 listed
        ∙ ap (λ (t : Table). t.pointer.0) of_table.table_is)

    pub head_read : (it : Damaged) → RefusesHead m n no_batch.pages view rec (faults.Damaged it) → ⊥
    head_read it (inl (inl refused)) = page_there m laws a n image like tells a.geometry.size no_batch
        of_table.stand standing rec.page listed it refused
    head_read it (inl (inr (bytes, is, damaged))) = no_damage bytes it (spelled bytes is) damaged
    head_read it (inr (inl none)) = none.none anchor.1.0 anchor.1.1
    head_read it (inr (inr (inl refused))) = page_there m laws a n image like tells a.geometry.size no_batch
        of_table.stand standing rec.page listed it refused
    head_read it (inr (inr (inr damaged))) = damaged.none (record {
      some = subst (λ (k : ℕ). k ≢ 0) (sym names) standing.has.first;
      below = let below = owner_below a.geometry.size view of_table.stand standing in
          omega (arith, below, names);
    })
      where
        names : owner_in (view rec.page.0) ≡ of_table.stand.table.pointer.0
        names = owner_there a.geometry.size view of_table.stand standing rec.page.0 listed

  -- ---- the cell

  module _ (a n : Pool D FireLinks) (like : n.dirty ≡ a.dirty) (tells : Tells m n.disk image)
      (geometry : IsGeometry a.geometry)
      (sound : IsSoundBy packed_form a.geometry.size state (viewed a image no_batch) layout r) (rec : RecId)
      (table : Table) (its : IsRecordOf layout r rec table) (w : Version)
      (short : length w.body + 42 ≤ a.geometry.size) (bytes : List ℕ)
      (spells : IsSpelling bytes (cells.Version w)) where
    its_table : IsTableOf layout table
    its_table = table_of_page layout rec.page.0 table its.of

    pub fits : need_of bytes + 24 ≤ a.geometry.size
    fits = version_fits a.geometry.size w short
        (let least = (page_sizes a.geometry.size geometry.size).0 in omega (arith, least)) bytes spells

    pub cell_pushed : (it : Damaged)
        → RefusesPushCell m a n image no_batch rec table.pointer.0 bytes (faults.Damaged it) → ⊥
    cell_pushed it (push_memory is) = absurd cc
    cell_pushed it (push_puts refused) = version_put m laws a n image like tells geometry no_batch state layout r
        sound table its_table bytes (inl (cells.Version w, spells)) fits it refused
    cell_pushed it (push_turns at pointers put puts refused) = slot_turned m laws a n image like tells
        a.geometry.size put _
        (put_stands m laws a n image like tells geometry no_batch state layout r sound table its_table put bytes at
        puts.adds (inl (cells.Version w, spells))) rec
        (still_listed m laws a n image like tells geometry no_batch state layout r sound table its_table
        puts.adds.given (need_of bytes) at.page puts.adds.gives rec.page.0 its.of)
        (other_cell m laws a n image like tells geometry no_batch state layout r sound table its_table put bytes at
        puts.adds (inl (cells.Version w, spells)) rec its.of
        (anchor a n like tells sound rec table its).0) it refused

  -- ---- the whole

  pub pushed : (a n : Pool D FireLinks) → SeesSound m a n image state layout r → (rec : RecId) (table : Table)
      → IsRecordOf layout r rec table → (v : Version) → length v.body + 42 ≤ a.geometry.size → (it : Damaged)
      → RefusesPush m a n image no_batch rec v (faults.Damaged it) → ⊥
  pushed a n sees rec table its v short it (pushed_memory is) = absurd cc
  pushed a n sees rec table its v short it (pushed_head refused) = head_read a n sees.keeps.dirty
      (tells_on m a n image sees.keeps sees.tells) sees.sound rec table its it refused
  pushed a n sees rec table its v short it (pushed_cell newest owner bytes ready head spells keeps refused) =
      cell_pushed ready n (sees.keeps.dirty ∙ sym keeps.dirty) (tells_on m a n image sees.keeps sees.tells)
      (subst IsGeometry (sym keeps.geometry) sees.geometry)
      (subst (λ (g : Geometry). IsSoundBy packed_form g.size state (shown ready.dirty image) layout r)
      (sym keeps.geometry)
      (subst (λ (d : DirtyPages). IsSoundBy packed_form a.geometry.size state (shown d image) layout r)
      (sym keeps.dirty) sees.sound)) rec table its (leading_to v (Some newest))
      (subst (λ (g : Geometry). length v.body + 42 ≤ g.size) (sym keeps.geometry) short) bytes spells it
      (subst (λ (k : ℕ). RefusesPushCell m ready n image no_batch rec k bytes (faults.Damaged it))
      (its_owner a n sees.keeps.dirty (tells_on m a n image sees.keeps sees.tells) sees.sound rec table its newest
      owner head) refused)

-- ---- the laws

pub room_is_found : {D : Type 0} (m : Meaning D) → Reads m → RoomIsFound m
room_is_found m laws old new image state layout r sees table its it refused = room_found m laws old new image
    sees.keeps.dirty (tells_on m old new image sees.keeps sees.tells) sees.geometry no_batch state layout r
    sees.sound table its it refused

pub spots_are_given : {D : Type 0} (m : Meaning D) → Reads m → SpotsAreGiven m
spots_are_given m laws old new image state layout r sees table its it refused = spot_given m laws old new image
    sees.keeps.dirty (tells_on m old new image sees.keeps sees.tells) sees.geometry no_batch state layout r
    sees.sound table its it refused

pub pushes_are_filled : {D : Type 0} (m : Meaning D) → Reads m → PushesAreFilled m
pushes_are_filled m laws old new image state layout r sees rec table its v short it refused =
    pushed m laws image state layout r old new sees rec table its v short it refused
