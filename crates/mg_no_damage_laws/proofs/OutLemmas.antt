-- The newest version of a record is taken out, by one who has filled a batch over which the pages are sound.
use Rattle.std.proofs.Common.{◌≡◌, ◌≢◌, ◌∙◌, inl, inr, ℕ, true, false, List, Option, None, Some, sym, ap, subst, arith, is_some, unwrap_or}
use Rattle.mg_base.specs.Disk.{Meaning}
use Rattle.mg_base.specs.Image.{Image}
use Rattle.mg_base.specs.declared.damage.Damaged.{Damaged}
use Rattle.mg_base.specs.declared.geometry.Geometry.{Geometry}
use Rattle.mg_base.specs.declared.numbers.RecId.{RecId}
use Rattle.mg_base.specs.declared.transaction.TxState.{TxState}
use Rattle.mg_chain.specs.Chains.{starts}
use Rattle.mg_chain.specs.Refusals.{Follows, IsCellDamage, RefusesVersion}
use Rattle.mg_chain.specs.Writing.{HasHead, HasNewest, TurnsBack}
use Rattle.mg_chain.specs.WritingRefusals.{RefusesBackOut, RefusesHead, RefusesNewest, RefusesSwing, RefusesTakeCellOut, back_newest, back_takes, out_memory, out_reaches, out_swings, swing_frees, swing_turns}
use Rattle.mg_tie_laws.specs.Newest.{newest_placed}
use Rattle.mg_tie_laws.specs.Rows.{table_of_page}
use Rattle.mg_heap.specs.Reach.{RefusesReach}
use Rattle.mg_heap.specs.Reading.{RefusesData, owner_in}
use Rattle.mg_image.specs.Form.{Pages, packed_form}
use Rattle.mg_image.specs.Records.{Chain, Reading, cells_of, newest_of}
use Rattle.mg_image.specs.Sound.{IsCellOf, IsSoundBy, facts_by}
use Rattle.mg_image.specs.Tables.{Has, Layout}
use Rattle.mg_model.specs.declared.table.Table.{Table}
use Rattle.mg_no_damage_laws.specs.Records.{VersionsAreThere}
use Rattle.mg_no_damage_laws.specs.Sees.{AreLawful, SeesLawful}
use Rattle.mg_no_damage_laws.specs.Sound.{SoundRecordsAreLawful}
use Rattle.mg_pool.specs.Batch.{Changed, content_in}
use Rattle.mg_pool.specs.Dirty.{DirtyPages}
use Rattle.mg_pool.specs.Pool.{shown}
use Rattle.mg_pool.specs.declared.pool.Pool.{Pool}
use Rattle.mg_slots.specs.DataPage.{cell_of}
use Rattle.mg_space.specs.View.{KeepsStore, viewed}
use Rattle.mg_space.specs.ViewLaws.{viewed_on}
use Rattle.mg_space.specs.declared.fault.SpaceFault.TheVariants as faults
use Rattle.mg_space.specs.declared.links.FireLinks.{FireLinks}
use Rattle.mg_image_overlay_laws.specs.tables.Growing.{IsTableOf}
use Rattle.mg_image_overlay_laws.specs.tables.OneTable.{its_data}
use Rattle.mg_version.specs.declared.cell.Cell.TheVariants as cells
use Rattle.mg_version.specs.declared.cell.Link.{Link}
use Rattle.mg_version.specs.declared.cell.Version.{Version}
use Rattle.mg_no_damage_laws.specs.Writes.{BackOutsGoOn, IsRecordOf, SeesSoundSo}
use Rattle.mg_no_damage_laws.specs.PushLaws.{anchored, opened}
use Rattle.mg_no_damage_laws.specs.Reading.{Reads, page_there, place_known, slot_turned}
use Rattle.mg_no_damage_laws.specs.WriteStanding.{IsStanding, cells_there, free_standing, owner_below, owner_there, put_standing, sound_standing}

module _ {D : Type 0} (m : Meaning D) (laws : Reads m) (versions : VersionsAreThere m)
    (lawful_of : SoundRecordsAreLawful) (image : Image) (b : Changed) (state : ℕ → TxState) (layout : Layout)
    (r : Reading) (rec : RecId) (table : Table) (its : IsRecordOf layout r rec table) where
  over_on : (a n ready : Pool D FireLinks) → SeesSoundSo m a n image b state layout r → KeepsStore m a ready → SeesSoundSo m ready n image b state layout r
  over_on a n ready it keeps = record {
    like = it.like ∙ sym keeps.dirty;
    tells = it.tells;
    same = it.same ∙ sym keeps.geometry;
    sound = subst (λ (g : Geometry). IsSoundBy packed_form g.size state (viewed ready image b) layout r)
        (sym keeps.geometry) (subst (λ (ps : Pages). IsSoundBy packed_form a.geometry.size state ps layout r)
        (sym (viewed_on m a ready image b keeps)) it.sound);
  }

  -- ---- the head of the record

  module _ (a n : Pool D FireLinks) (o : SeesSoundSo m a n image b state layout r) where
    views_as : viewed n image b ≡ viewed a image b
    views_as = ap (λ (d : DirtyPages). λ (k : ℕ). unwrap_or (content_in b.pages k) (shown d image k)) o.like

    of_table : IsTableOf layout table
    of_table = table_of_page layout rec.page.0 table its.of

    standing : IsStanding a.geometry.size (viewed a image b) of_table.stand
    standing = sound_standing a.geometry.size state (viewed a image b) layout r o.sound table of_table

    listed : Has of_table.stand.data_pages rec.page.0
    listed = (its_data packed_form a.geometry.size state (viewed a image b) layout r o.sound table of_table
        rec.page.0).0 its.of

    spelled : (bytes : List ℕ) → cell_of (viewed a image b rec.page.0) rec.slot ≡ Some bytes → IsCellOf false bytes
    spelled bytes is = (cells_there a.geometry.size (viewed a image b) of_table.stand standing rec.page.0
        listed).cells rec.slot bytes is

    anchor : (is_some (cell_of (viewed a image b rec.page.0) rec.slot) ≡ true)
        × ((link : Link) × (cells_of (viewed a image b) rec ≡ Some (cells.Anchor link)))
    anchor = by (opened (cells_of (viewed a image b)) (newest_of rec (cells_of (viewed a image b) rec)) its.newest
        its.older (subst (Chain (cells_of (viewed a image b)) (newest_of rec (cells_of (viewed a image b) rec)))
        its.are (o.sound.records.reads rec table its.of)))
      where
        by : (l : Link) × (newest_of rec (cells_of (viewed a image b) rec) ≡ Some l)
            → (is_some (cell_of (viewed a image b rec.page.0) rec.slot) ≡ true)
            × ((link : Link) × (cells_of (viewed a image b) rec ≡ Some (cells.Anchor link)))
        by (l, is) = anchored (cell_of (viewed a image b rec.page.0) rec.slot) rec l spelled is

    no_damage : (bytes : List ℕ) (it : Damaged) → IsCellOf false bytes → IsCellDamage rec.page.0 bytes it → ⊥
    no_damage bytes it (inl (cell, spells)) damaged = damaged.refuses.none cell spells
    no_damage bytes it (inr (primary, v)) damaged = absurd cc

    its_owner : (newest : Link) (owner : ℕ) → HasHead (viewed a image b) rec newest owner
        → owner ≡ table.pointer.0
    its_owner newest owner head = head.owned.is
        ∙ (owner_there a.geometry.size (viewed a image b) of_table.stand standing rec.page.0 listed
        ∙ ap (λ (t : Table). t.pointer.0) of_table.table_is)

    there : (it : Damaged) → RefusesData m n b.pages rec.page (viewed a image b rec.page.0) (faults.Damaged it) → ⊥
    there it refused = page_there m laws a n image o.like o.tells a.geometry.size b of_table.stand standing rec.page
        listed it refused

    head_read : (it : Damaged) → RefusesHead m n b.pages (viewed a image b) rec (faults.Damaged it) → ⊥
    head_read it (inl (inl refused)) = there it refused
    head_read it (inl (inr (bytes, is, damaged))) = no_damage bytes it (spelled bytes is) damaged
    head_read it (inr (inl none)) = none.none anchor.1.0 anchor.1.1
    head_read it (inr (inr (inl refused))) = there it refused
    head_read it (inr (inr (inr damaged))) = damaged.none (record {
      some = subst (λ (k : ℕ). k ≢ 0) (sym names) standing.has.first;
      below = let below = owner_below a.geometry.size (viewed a image b) of_table.stand standing in
          omega (arith, below, names);
    })
      where
        names : owner_in (viewed a image b rec.page.0) ≡ of_table.stand.table.pointer.0
        names = owner_there a.geometry.size (viewed a image b) of_table.stand standing rec.page.0 listed

    -- ---- its newest version

    sees_lawful : SeesLawful m n image b (facts_by state (viewed a image b) layout) r
    sees_lawful = record {
      tells = o.tells;
      lawful = subst (λ (ps : Pages). AreLawful n.geometry.size ps (facts_by state (viewed a image b) layout) r)
          (sym views_as)
          (subst (λ (g : Geometry). AreLawful g.size (viewed a image b) (facts_by state (viewed a image b) layout) r)
          (sym o.same) (lawful_of a.geometry.size state (viewed a image b) layout r o.sound));
    }

    newest_read : (it : Damaged) → RefusesNewest m n b.pages (viewed a image b) rec (faults.Damaged it) → ⊥
    newest_read it (inl refused) = head_read it refused
    newest_read it (inr (link, slot, refused)) = versions n image b (facts_by state (viewed a image b) layout) r
        sees_lawful rec table its.of 0 rec.page.0 link
        (subst (λ (ps : Pages). Follows ps rec 0 rec.page.0 link) (sym views_as) (starts link (ap (newest_of rec) slot)))
        it (subst (λ (ps : Pages). RefusesVersion m n b.pages ps rec.page.0 link (faults.Damaged it)) (sym views_as)
        refused)

    newest_listed : (newest : Link) (owner : ℕ) (was : Version) → HasNewest (viewed a image b) rec newest owner was
        → Has of_table.stand.data_pages newest.rec.page.0
    newest_listed newest owner was has = (its_data packed_form a.geometry.size state (viewed a image b) layout r
        o.sound table of_table newest.rec.page.0).0
        (newest_placed packed_form a.geometry.size state (viewed a image b) layout r o.sound rec table its.of newest
        has.head.slot)

    -- ---- its slot is turned, and the cell is freed

    turned_stands : (to : Option Link) (turned : Changed) → TurnsBack a image b turned rec to
        → IsStanding a.geometry.size (viewed a image turned) of_table.stand
    turned_stands None turned turns = free_standing a.geometry.size (viewed a image b) of_table.stand standing
        (viewed a image turned) rec listed turns.frees
    turned_stands (Some link) turned turns = put_standing a.geometry.size (viewed a image b) of_table.stand standing
        (viewed a image turned) rec turns.bytes listed turns.puts.puts (inl (cells.Anchor link, turns.spells))

    swung : (left : RecId) → Has of_table.stand.data_pages left.page.0 → (to : Option Link) (it : Damaged)
        → RefusesSwing m a n image b rec left to (faults.Damaged it) → ⊥
    swung left left_listed to it (swing_turns refused) = slot_turned m laws a n image o.like o.tells a.geometry.size b
        of_table.stand standing rec listed anchor.0 it refused
    swung left left_listed to it (swing_frees turned turns refused) = page_there m laws a n image o.like o.tells
        a.geometry.size turned of_table.stand (turned_stands to turned turns) left.page left_listed it refused

    reach_known : (it : Damaged)
        → RefusesReach m n b.pages (viewed a image b) table.pointer.0 rec.page (faults.Damaged it) → ⊥
    reach_known it refused = place_known m laws a n image o.like o.tells a.geometry.size b of_table.stand standing
        table.pointer.0 (ap (λ (t : Table). t.pointer.0) of_table.table_is) rec.page listed it refused

  newest_on : (a ready : Pool D FireLinks) → KeepsStore m a ready → (newest : Link) (owner : ℕ) (was : Version)
      → HasNewest (viewed a image b) rec newest owner was → HasNewest (viewed ready image b) rec newest owner was
  newest_on a ready keeps newest owner was has = subst (λ (ps : Pages). HasNewest ps rec newest owner was)
      (sym (viewed_on m a ready image b keeps)) has

  cell_out : (a n : Pool D FireLinks) → SeesSoundSo m a n image b state layout r → (newest : Link) (owner : ℕ) (was : Version)
      → HasNewest (viewed a image b) rec newest owner was → (it : Damaged)
      → RefusesTakeCellOut m a n image b rec newest table.pointer.0 was.back (faults.Damaged it) → ⊥
  cell_out a n o newest owner was has it (out_memory is) = absurd cc
  cell_out a n o newest owner was has it (out_reaches refused) = reach_known a n o it refused
  cell_out a n o newest owner was has it (out_swings ready keeps refused) =
      swung ready n (over_on a n ready o keeps) newest.rec
      (newest_listed ready n (over_on a n ready o keeps) newest owner was (newest_on a ready keeps newest owner was has))
      was.back it refused

  pub taken_out : (a n : Pool D FireLinks) → SeesSoundSo m a n image b state layout r → (it : Damaged)
      → RefusesBackOut m a n image b rec (faults.Damaged it) → ⊥
  taken_out a n o it (back_newest refused) = newest_read a n o it refused
  taken_out a n o it (back_takes newest owner was ready has keeps refused) =
      cell_out ready n (over_on a n ready o keeps) newest owner was (newest_on a ready keeps newest owner was has) it
      (subst (λ (k : ℕ). RefusesTakeCellOut m ready n image b rec newest k was.back (faults.Damaged it))
      (its_owner a n o newest owner has.head) refused)

pub back_outs_go_on : {D : Type 0} (m : Meaning D) → Reads m → VersionsAreThere m → SoundRecordsAreLawful
    → BackOutsGoOn m
back_outs_go_on m laws versions lawful_of old new image batch state layout r sees rec table its it refused =
    taken_out m laws versions lawful_of image batch state layout r rec table its old new sees it refused
