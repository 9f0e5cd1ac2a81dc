-- The newest version of a record is taken out, or replaced.
use Rattle.std.proofs.Common.{◌≡◌, ◌∙◌, inl, inr, ◌≤◌, ◌+◌, [], ◌∷◌, ℕ, true, List, Option, None, Some, length, sym, ap, subst, is_some}
use Rattle.mg_base.specs.Disk.{Meaning}
use Rattle.mg_base.specs.Image.{Image}
use Rattle.mg_base.specs.declared.damage.Damaged.{Damaged}
use Rattle.mg_base.specs.declared.geometry.Geometry.{Geometry}
use Rattle.mg_base.specs.declared.numbers.RecId.{RecId}
use Rattle.mg_base.specs.declared.numbers.TxNo.{TxNo}
use Rattle.mg_base.specs.declared.transaction.TxState.{TxState}
use Rattle.mg_chain.specs.Chains.{starts}
use Rattle.mg_chain.specs.Refusals.{Follows, RefusesVersion}
use Rattle.mg_chain.specs.Writing.{HasNewest, PutsVersion, TurnsBack, leading_to, link_to}
use Rattle.mg_chain.specs.WritingRefusals.{RefusesBackOut, RefusesMove, RefusesNewest, RefusesOverwrite, RefusesReplace, RefusesSwing, RefusesTakeCellOut, back_newest, back_takes, move_memory, move_puts, move_swings, moved_puts, moved_reaches, out_memory, out_reaches, out_swings, over_moves, over_reads, replace_memory, replace_newest, replace_other, replace_writes, swing_frees, swing_turns}
use Rattle.mg_tie_laws.specs.Newest.{newest_found, newest_placed}
use Rattle.mg_image.specs.Form.{Pages, packed_form}
use Rattle.mg_image.specs.Records.{Reading, newest_of}
use Rattle.mg_image.specs.Sound.{IsSoundBy, facts_by}
use Rattle.mg_image.specs.Tables.{Has, Layout, Stand, stands_of, table_at}
use Rattle.mg_image.specs.declared.entry.Entry.{Entry}
use Rattle.mg_model.specs.declared.table.Table.{Table}
use Rattle.mg_no_damage_laws.specs.Records.{VersionsAreThere}
use Rattle.mg_no_damage_laws.specs.Sees.{AreLawful, SeesLawful, no_batch}
use Rattle.mg_no_damage_laws.specs.Sound.{SoundRecordsAreLawful}
use Rattle.mg_pool.specs.Batch.{Changed}
use Rattle.mg_pool.specs.Dirty.{DirtyPages}
use Rattle.mg_pool.specs.Pool.{shown}
use Rattle.mg_pool.specs.declared.pool.Pool.{Pool}
use Rattle.mg_slots.specs.DataPage.{cell_of}
use Rattle.mg_slots.specs.Room.{need_of}
use Rattle.mg_space.specs.Taking.{IsGeometry}
use Rattle.mg_space.specs.View.{KeepsStore, Tells, viewed}
use Rattle.mg_space.specs.ViewLaws.{tells_on, viewed_on}
use Rattle.mg_space.specs.declared.fault.SpaceFault.TheVariants as faults
use Rattle.mg_space.specs.declared.links.FireLinks.{FireLinks}
use Rattle.mg_image_overlay_laws.specs.tables.Growing.{IsTableOf}
use Rattle.mg_image_overlay_laws.specs.records.OwnVersion.{FindsNewest}
use Rattle.mg_image_overlay_laws.specs.tables.OneTable.{its_data}
use Rattle.mg_version.specs.Cells.{IsSpelling}
use Rattle.mg_version.specs.declared.cell.Cell.TheVariants as cells
use Rattle.mg_version.specs.declared.cell.Link.{Link}
use Rattle.mg_version.specs.declared.cell.Version.{Version}
use Rattle.mg_no_damage_laws.specs.Writes.{BackOutsAreFilled, IsRecordOf, ReplacementsAreFilled, SeesSound}
use Rattle.mg_no_damage_laws.specs.PushLaws.{anchor, fits, head_read, its_owner, listed, of_table, standing}
use Rattle.mg_no_damage_laws.specs.Reading.{Reads, page_there, place_known, slot_turned}
use Rattle.mg_no_damage_laws.specs.RoomLaws.{given_begins, other_cell, put_stands, still_listed, then_, version_put}
use Rattle.mg_no_damage_laws.specs.WriteStanding.{IsStanding, free_standing, put_standing}

module _ {D : Type 0} (m : Meaning D) (laws : Reads m) (versions : VersionsAreThere m)
    (lawful_of : SoundRecordsAreLawful) (image : Image) (state : ℕ → TxState) (layout : Layout) (r : Reading)
  where
    -- A cache over a sound image, and one that shows the same.
    record IsOver (a n : Pool D FireLinks) : Type 0 where
      like : n.dirty ≡ a.dirty
      tells : Tells m n.disk image
      geometry : IsGeometry a.geometry
      same : n.geometry ≡ a.geometry
      sound : IsSoundBy packed_form a.geometry.size state (shown a.dirty image) layout r

    over_on : (a n ready : Pool D FireLinks) → IsOver a n → KeepsStore m a ready → IsOver ready n
    over_on a n ready it keeps = record {
      like = it.like ∙ sym keeps.dirty;
      tells = it.tells;
      geometry = subst IsGeometry (sym keeps.geometry) it.geometry;
      same = it.same ∙ sym keeps.geometry;
      sound = subst (λ (g : Geometry). IsSoundBy packed_form g.size state (shown ready.dirty image) layout r)
          (sym keeps.geometry)
          (subst (λ (d : DirtyPages). IsSoundBy packed_form a.geometry.size state (shown d image) layout r)
          (sym keeps.dirty) it.sound);
    }

    -- ---- a slot is turned, and a cell freed

    module _ (a n : Pool D FireLinks) (o : IsOver a n) (b : Changed) (stand : Stand)
        (is : IsStanding a.geometry.size (viewed a image b) stand) (rec left : RecId)
        (rec_listed : Has stand.data_pages rec.page.0) (left_listed : Has stand.data_pages left.page.0) where
      turned_stands : (to : Option Link) (turned : Changed) → TurnsBack a image b turned rec to
          → IsStanding a.geometry.size (viewed a image turned) stand
      turned_stands None turned turns = free_standing a.geometry.size (viewed a image b) stand is
          (viewed a image turned) rec rec_listed turns.frees
      turned_stands (Some link) turned turns = put_standing a.geometry.size (viewed a image b) stand is
          (viewed a image turned) rec turns.bytes rec_listed turns.puts.puts
          (inl (cells.Anchor link, turns.spells))

      swung : is_some (cell_of (viewed a image b rec.page.0) rec.slot) ≡ true → (to : Option Link)
          (it : Damaged) → RefusesSwing m a n image b rec left to (faults.Damaged it) → ⊥
      swung some to it (swing_turns refused) = slot_turned m laws a n image o.like o.tells a.geometry.size b
          stand is rec rec_listed some it refused
      swung some to it (swing_frees turned turns refused) = page_there m laws a n image o.like o.tells
          a.geometry.size turned stand (turned_stands to turned turns) left.page left_listed it refused

    -- ---- a record with its newest version

    module _ (rec : RecId) (table : Table) (its : IsRecordOf layout r rec table) where
      module _ (a n : Pool D FireLinks) (o : IsOver a n) where
        abbrev view : Pages
        view = shown a.dirty image

        sees : SeesLawful m n image no_batch (facts_by state view layout) r
        sees = record {
          tells = o.tells;
          lawful = subst (λ (d : DirtyPages). AreLawful n.geometry.size (shown d image)
              (facts_by state view layout) r) (sym o.like)
              (subst (λ (g : Geometry). AreLawful g.size view (facts_by state view layout) r) (sym o.same)
              (lawful_of a.geometry.size state view layout r o.sound));
        }

        newest_read : (it : Damaged)
            → RefusesNewest m n [] view rec (faults.Damaged it) → ⊥
        newest_read it (inl refused) =
            head_read m laws image state layout r a n o.like o.tells o.sound rec table its it refused
        newest_read it (inr (link, slot, refused)) = versions n image no_batch (facts_by state view layout) r sees
            rec table its.of 0 rec.page.0 link
            (subst (λ (d : DirtyPages). Follows (shown d image) rec 0 rec.page.0 link) (sym o.like)
            (starts link (ap (newest_of rec) slot))) it
            (subst (λ (d : DirtyPages). RefusesVersion m n [] (shown d image) rec.page.0 link
            (faults.Damaged it)) (sym o.like) refused)

        abbrev its_stand : Stand
        its_stand = (of_table m laws image state layout r a n o.like o.tells o.sound rec table its).stand

        its_standing : IsStanding a.geometry.size view its_stand
        its_standing = standing m laws image state layout r a n o.like o.tells o.sound rec table its

        its_begin : its_stand.table.pointer.0 ≡ table.pointer.0
        its_begin = ap (λ (t : Table). t.pointer.0)
            (of_table m laws image state layout r a n o.like o.tells o.sound rec table its).table_is

        its_listed : Has its_stand.data_pages rec.page.0
        its_listed = listed m laws image state layout r a n o.like o.tells o.sound rec table its

        its_anchor : is_some (cell_of (view rec.page.0) rec.slot) ≡ true
        its_anchor = (anchor m laws image state layout r a n o.like o.tells o.sound rec table its).0

        newest_listed : (newest : Link) (owner : ℕ) (was : Version) → HasNewest view rec newest owner was
            → Has its_stand.data_pages newest.rec.page.0
        newest_listed newest owner was has = (its_data packed_form a.geometry.size state view layout r o.sound table
            (of_table m laws image state layout r a n o.like o.tells o.sound rec table its) newest.rec.page.0).0
            (newest_placed packed_form a.geometry.size state view layout r o.sound rec table its.of newest
            has.head.slot)

      -- ---- it is taken out

      cell_out : (a n : Pool D FireLinks) (o : IsOver a n) (newest : Link) (owner : ℕ) (was : Version)
          → HasNewest (shown a.dirty image) rec newest owner was → (it : Damaged)
          → RefusesTakeCellOut m a n image no_batch rec newest table.pointer.0 was.back (faults.Damaged it) → ⊥
      cell_out a n o newest owner was has it (out_memory is) = absurd cc
      cell_out a n o newest owner was has it (out_reaches refused) = place_known m laws a n image o.like o.tells
          a.geometry.size no_batch (its_stand a n o) (its_standing a n o) table.pointer.0 (its_begin a n o)
          rec.page (its_listed a n o) it refused
      cell_out a n o newest owner was has it (out_swings ready keeps refused) =
          swung ready n (over_on a n ready o keeps) no_batch (its_stand ready n (over_on a n ready o keeps))
          (its_standing ready n (over_on a n ready o keeps)) rec newest.rec
          (its_listed ready n (over_on a n ready o keeps))
          (newest_listed ready n (over_on a n ready o keeps) newest owner was
          (subst (λ (d : DirtyPages). HasNewest (shown d image) rec newest owner was) (sym keeps.dirty) has))
          (its_anchor ready n (over_on a n ready o keeps)) was.back it refused

      owner_is : (a n : Pool D FireLinks) (o : IsOver a n) (newest : Link) (owner : ℕ) (was : Version)
          → HasNewest (shown a.dirty image) rec newest owner was → owner ≡ table.pointer.0
      owner_is a n o newest owner was has =
          its_owner m laws image state layout r a n o.like o.tells o.sound rec table its newest owner has.head

      taken_out : (a n : Pool D FireLinks) (o : IsOver a n) (it : Damaged)
          → RefusesBackOut m a n image no_batch rec (faults.Damaged it) → ⊥
      taken_out a n o it (back_newest refused) = newest_read a n o it refused
      taken_out a n o it (back_takes newest owner was ready has keeps refused) =
          cell_out ready n (over_on a n ready o keeps) newest owner was
          (subst (λ (d : DirtyPages). HasNewest (shown d image) rec newest owner was) (sym keeps.dirty) has) it
          (subst (λ (k : ℕ). RefusesTakeCellOut m ready n image no_batch rec newest k was.back (faults.Damaged it))
          (owner_is a n o newest owner was has) refused)

      -- ---- it is replaced

      module _ (w : Version) (bytes : List ℕ) (spells : IsSpelling bytes (cells.Version w)) where
        module _ (a n : Pool D FireLinks) (o : IsOver a n) (put : Changed) (at : RecId) (pointers : List ℕ)
            (puts : PutsVersion a image no_batch put table.pointer.0 bytes at pointers) where
          abbrev its_table : IsTableOf layout table
          its_table = of_table m laws image state layout r a n o.like o.tells o.sound rec table its

          abbrev stand_put : Stand
          stand_put = (then_ m laws a n image o.like o.tells o.geometry no_batch state layout r o.sound table
              its_table puts.adds.given (need_of bytes) at.page puts.adds.gives).stand

          put_standing_so : IsStanding a.geometry.size (viewed a image put) stand_put
          put_standing_so = put_stands m laws a n image o.like o.tells o.geometry no_batch state layout r o.sound
              table its_table put bytes at puts.adds (inl (cells.Version w, spells))

          put_begins : stand_put.table.pointer.0 ≡ table.pointer.0
          put_begins = given_begins m laws a n image o.like o.tells o.geometry no_batch state layout r o.sound table
              its_table puts.adds.given (need_of bytes) at.page puts.adds.gives

          put_listed : (k : ℕ) → table_at (stands_of layout) k ≡ Some table → Has stand_put.data_pages k
          put_listed k of = still_listed m laws a n image o.like o.tells o.geometry no_batch state layout r o.sound
              table its_table puts.adds.given (need_of bytes) at.page puts.adds.gives k of

          put_cell : is_some (cell_of (viewed a image put rec.page.0) rec.slot) ≡ true
          put_cell = other_cell m laws a n image o.like o.tells o.geometry no_batch state layout r o.sound table
              its_table put bytes at puts.adds (inl (cells.Version w, spells)) rec its.of (its_anchor a n o)

        newest_of_table : (a n : Pool D FireLinks) (o : IsOver a n) (newest : Link) (owner : ℕ) (was : Version)
            → HasNewest (shown a.dirty image) rec newest owner was
            → table_at (stands_of layout) newest.rec.page.0 ≡ Some table
        newest_of_table a n o newest owner was has = newest_placed packed_form a.geometry.size state
            (shown a.dirty image) layout r o.sound rec table its.of newest has.head.slot

        moved : (a n : Pool D FireLinks) (o : IsOver a n) (newest : Link) (owner : ℕ) (was : Version)
            → HasNewest (shown a.dirty image) rec newest owner was → length w.body + 42 ≤ a.geometry.size
            → (tx : TxNo) (it : Damaged)
            → RefusesMove m a n image no_batch rec newest table.pointer.0 bytes tx (faults.Damaged it) → ⊥
        moved a n o newest owner was has short tx it (move_memory is) = absurd cc
        moved a n o newest owner was has short tx it (move_puts (moved_puts refused)) = version_put m laws a n image
            o.like o.tells o.geometry no_batch state layout r o.sound table
            (of_table m laws image state layout r a n o.like o.tells o.sound rec table its) bytes
            (inl (cells.Version w, spells))
            (fits m laws image state layout r a n o.like o.tells o.geometry o.sound rec table its w short bytes
            spells) it refused
        moved a n o newest owner was has short tx it (move_puts (moved_reaches at pointers put puts refused)) =
            place_known m laws a n image o.like o.tells a.geometry.size put (stand_put a n o put at pointers puts)
            (put_standing_so a n o put at pointers puts) table.pointer.0 (put_begins a n o put at pointers puts)
            rec.page (put_listed a n o put at pointers puts rec.page.0 its.of) it refused
        moved a n o newest owner was has short tx it (move_swings at pointers put ready puts keeps refused) =
            swung ready n (over_on a n ready o keeps) put (stand_put a n o put at pointers puts)
            (subst (λ (g : Geometry). IsStanding g.size (viewed ready image put) (stand_put a n o put at pointers puts))
            (sym keeps.geometry)
            (subst (λ (ps : Pages). IsStanding a.geometry.size ps (stand_put a n o put at pointers puts))
            (sym (viewed_on m a ready image put keeps)) (put_standing_so a n o put at pointers puts)))
            rec newest.rec (put_listed a n o put at pointers puts rec.page.0 its.of)
            (put_listed a n o put at pointers puts newest.rec.page.0 (newest_of_table a n o newest owner was has))
            (subst (λ (ps : Pages). is_some (cell_of (ps rec.page.0) rec.slot) ≡ true)
            (sym (viewed_on m a ready image put keeps)) (put_cell a n o put at pointers puts))
            (Some (link_to at tx)) it refused

        overwritten : (a n : Pool D FireLinks) (o : IsOver a n) (newest : Link) (owner : ℕ) (was : Version)
            → HasNewest (shown a.dirty image) rec newest owner was → length w.body + 42 ≤ a.geometry.size
            → (tx : TxNo) (it : Damaged)
            → RefusesOverwrite m a n image no_batch rec newest table.pointer.0 bytes tx (faults.Damaged it) → ⊥
        overwritten a n o newest owner was has short tx it (over_reads refused) = page_there m laws a n image o.like
            o.tells a.geometry.size no_batch (its_stand a n o) (its_standing a n o) newest.rec.page
            (newest_listed a n o newest owner was has) it refused
        overwritten a n o newest owner was has short tx it (over_moves ready keeps refused) =
            moved ready n (over_on a n ready o keeps) newest owner was
            (subst (λ (d : DirtyPages). HasNewest (shown d image) rec newest owner was) (sym keeps.dirty) has)
            (subst (λ (g : Geometry). length w.body + 42 ≤ g.size) (sym keeps.geometry) short) tx it refused

      replaced : (a n : Pool D FireLinks) (o : IsOver a n) (v : Version) → its.newest.version.tx ≡ v.tx
          → length v.body + 42 ≤ a.geometry.size → (it : Damaged)
          → RefusesReplace m a n image no_batch rec v (faults.Damaged it) → ⊥
      replaced a n o v own short it (replace_memory is) = absurd cc
      replaced a n o v own short it (replace_newest refused) = newest_read a n o it refused
      replaced a n o v own short it (replace_other newest owner was has ne is) = ne (by
          (newest_found packed_form a.geometry.size state (shown a.dirty image) layout r o.sound rec table its.of
          newest has.head.slot was has.meets.cell))
        where
          by : FindsNewest (facts_by state (shown a.dirty image) layout) r rec table newest.rec was → was.tx ≡ v.tx
          by found =
              let both : found.newest ∷ found.older ≡ its.newest ∷ its.older = sym found.first ∙ its.are in
              let same : found.newest ≡ its.newest = cc in
              ap (λ (x : Version). x.tx) (sym found.version) ∙ (ap (λ (e : Entry). e.version.tx) same ∙ own)
      replaced a n o v own short it (replace_writes newest owner was bytes ready has spells keeps refused) =
          overwritten (leading_to v was.back) bytes spells ready n (over_on a n ready o keeps) newest owner was
          (subst (λ (d : DirtyPages). HasNewest (shown d image) rec newest owner was) (sym keeps.dirty) has)
          (subst (λ (g : Geometry). length v.body + 42 ≤ g.size) (sym keeps.geometry) short) v.tx it
          (subst (λ (k : ℕ). RefusesOverwrite m ready n image no_batch rec newest k bytes v.tx (faults.Damaged it))
          (owner_is a n o newest owner was has) refused)

    -- ---- the laws

    over : (a n : Pool D FireLinks) → SeesSound m a n image state layout r → IsOver a n
    over a n sees_ = record {
      like = sees_.keeps.dirty;
      tells = tells_on m a n image sees_.keeps sees_.tells;
      geometry = sees_.geometry;
      same = sees_.keeps.geometry;
      sound = sees_.sound;
    }

    pub outs : (a n : Pool D FireLinks) → SeesSound m a n image state layout r → (rec : RecId) (table : Table)
        → IsRecordOf layout r rec table → (it : Damaged)
        → RefusesBackOut m a n image no_batch rec (faults.Damaged it) → ⊥
    outs a n sees_ rec table its it refused = taken_out rec table its a n (over a n sees_) it refused

    pub replacements : (a n : Pool D FireLinks) → SeesSound m a n image state layout r
        → (rec : RecId) (table : Table)
        (its : IsRecordOf layout r rec table) (v : Version) → its.newest.version.tx ≡ v.tx
        → length v.body + 42 ≤ a.geometry.size → (it : Damaged)
        → RefusesReplace m a n image no_batch rec v (faults.Damaged it) → ⊥
    replacements a n sees_ rec table its v own short it refused =
        replaced rec table its a n (over a n sees_) v own short it refused

pub back_outs : {D : Type 0} (m : Meaning D) → Reads m → VersionsAreThere m → SoundRecordsAreLawful
    → BackOutsAreFilled m
back_outs m laws versions lawful_of old new image state layout r sees rec table its it refused =
    outs m laws versions lawful_of image state layout r old new sees rec table its it refused

pub replacements_are : {D : Type 0} (m : Meaning D) → Reads m → VersionsAreThere m → SoundRecordsAreLawful
    → ReplacementsAreFilled m
replacements_are m laws versions lawful_of old new image state layout r sees rec table its v own short it
    refused = replacements m laws versions lawful_of image state layout r old new sees rec table its v own
    short it refused
