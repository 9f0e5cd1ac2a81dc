-- What a batch that lays a version leaves of the pages beside the record.
use Rattle.std.proofs.Common.{◌≡◌, inl, inr, refl, ◌<◌, ℕ, List, ◌∷◌, Option, Some, Bool, [], None, subst, sym, ap, ◌∙◌}
use Rattle.mg_base.specs.Disk.{Meaning}
use Rattle.mg_base.specs.Image.{Image}
use Rattle.mg_base.specs.declared.numbers.RecId.{RecId}
use Rattle.mg_base.specs.declared.transaction.TxState.{TxState}
use Rattle.mg_base.specs.declared.transaction.TxState.TheVariants.{Committed}
use Rattle.mg_chain.specs.Writing.{Moves, OverwritesOrMoves, Pushes, PutsAt, Replaces, link_to, MakesRecord, leading_to}
use Rattle.mg_tie_laws.specs.MoveTies.{moves_pages, puts as move_puts, some_grows as move_grows}
use Rattle.mg_tie_laws.specs.PlaceTies.{replaces_page}
use Rattle.mg_tie_laws.specs.PushTies.{pushes_pages, puts, some_grows, written}
use Rattle.mg_tie_laws.specs.PutTies.{PutsGiven}
use Rattle.mg_tie_laws.specs.Rows.{ForEach}
use Rattle.mg_engine_step_laws.specs.commits.ListShows.{BehindKeepsTips, TipsStayOn}
use Rattle.mg_engine_step_laws.specs.writes.GoesOn.{WritesGoOn}
use Rattle.mg_engine_step_laws.specs.writes.GoesOnLaws.{pool_is_kept}
use Rattle.mg_engine_step_laws.specs.writes.Caches.{kept_now}
use Rattle.mg_engine_step_laws.specs.writes.Knowing.{CodesRow, EntersWrite, HasEntries, MayWriteInto, WasChanged}
use Rattle.mg_engine_step_laws.specs.writes.OwnKept.{IsRewritten, found, rewritten, its_own}
use Rattle.mg_engine_step_laws.specs.writes.PushLaws.{reads}
use Rattle.mg_engine_step_laws.specs.writes.Spoken.{spoken_key, spoken_of, was_drawn}
use Rattle.mg_engine_step_laws.specs.writes.WriteKnown.{placed_each, may_be}
use Rattle.mg_image_overlay_laws.specs.tables.Growing.{IsTableOf, MayBeWritten, EndsAt}
use Rattle.mg_tie_laws.specs.RoomTies.{GrowsSome, end_of, ends_there}
use Rattle.mg_image.specs.Form.{Pages, Row, packed_coding, packed_form}
use Rattle.mg_image.specs.Inventory.{next_of}
use Rattle.mg_image.specs.ReadingLaws.{RowsAreOne}
use Rattle.mg_image.specs.Records.{record_key, cells_of, key_of, shown as shown_by_writers, writer}
use Rattle.mg_image.specs.Tables.{stands_of, table_at}
use Rattle.mg_image_overlay_laws.specs.pages.Kinds.{HasNoSequences}
use Rattle.mg_image_overlay_laws.specs.kept.KeptImages.{IsKept}
use Rattle.mg_lasting_laws.specs.Lasting.{LastsOn}
use Rattle.mg_model.specs.Changes.{Cells}
use Rattle.mg_model.specs.History.{Entries, Entry as Event}
use Rattle.mg_model.specs.Laws.{OpeningsBegin}
use Rattle.mg_model.specs.Openings.{everyone}
use Rattle.mg_model.specs.declared.opening.Opening.{Opening}
use Rattle.mg_model.specs.declared.table.Table.{Table}
use Rattle.mg_overlay_laws.specs.Overlays.{left_state}
use Rattle.mg_pool.specs.Batch.{Changed, content_in, lists}
use Rattle.mg_pool.specs.Pool.{shown}
use Rattle.mg_pool.specs.declared.pool.Pool.{Pool}
use Rattle.mg_pool_overlay_laws.specs.Needs.{Asked, Sessions}
use Rattle.mg_slots.specs.Room.{need_of}
use Rattle.mg_space.specs.View.{viewed}
use Rattle.mg_tie_laws.specs.Changed.{KeptIn, fresh, changed_fresh}
use Rattle.mg_engine_step_laws.specs.standing.Standing.{Standing, Stands}
use Rattle.mg_value.specs.declared.value.Value.{Value}
use Rattle.mg_version.specs.declared.cell.Version.{Version}
use Rattle.mg_engine_meaning_laws.specs.PlainTables.{HasPlainTables}
use Rattle.mg_tie_laws.specs.FirstPages.{MakesPages}
use Rattle.mg_tie_laws.specs.FirstTies.{pages}
use Rattle.mg_engine_step_laws.specs.writes.Writes.{IsSilentAt, ReadsAfter}
use Rattle.mg_engine_step_laws.specs.writes.FirstLaws.{reads as first_reads}
use Rattle.mg_image.specs.Sound.{facts_by}
use Rattle.mg_image_overlay_laws.specs.records.AddPart.{AddsPages}
use Rattle.mg_engine_step_laws.specs.writes.WrittenTablePages.{HasLater, KeepsPages}
use Rattle.mg_engine_step_laws.specs.writes.WrittenTablePagesLaws.{firsts_keep_pages, moves_keep_pages, pushes_keep_pages, replacements_keep_pages}
use Rattle.mg_image_overlay_laws.specs.records.OwnVersion.{FindsNewest}
use Rattle.mg_image_overlay_laws.specs.pages.DataKept.{KeepsBits}
use Rattle.mg_image_overlay_laws.specs.tables.OneLayout.{StandsOneWay}
use Rattle.mg_engine_change_laws.specs.memory.RecordChanges.{written_keeps}
use Rattle.mg_engine_change_laws.specs.rows.Laid.{LeavesPages}
use Rattle.mg_engine_change_laws.specs.rows.Plain.{WritesKeepPlain}
use Rattle.mg_engine_change_laws.specs.rows.TipLaws.{moves_keep_tips, pushes_keep_tips, replacements_keep_tips, firsts_keep_tips}
use Rattle.mg_engine_change_laws.specs.rows.Tips.{KeepsTips}
use Rattle.mg_engine_change_laws.specs.rows.WalkLaws.{others_walk_on, over_shown}

none_here : HasNoSequences packed_form
none_here page n is = is

module _ (one : RowsAreOne packed_coding) (one_way : StandsOneWay packed_form) (begins : OpeningsBegin) (on : TipsStayOn) (behind : BehindKeepsTips)
    (keep_plain : WritesKeepPlain) {D L : Type 0} (m : Meaning D) (go : WritesGoOn D L m packed_form) (o : Opening)
    (h : Entries) (e : Event) (s new : Standing) (before after : Pool D L) (i j : Image) (batch : Changed)
    (asked : Asked) (session : Sessions)
    (stands : Stands packed_form before.geometry.size o h s (Some (shown before.dirty i))) (t : ℕ)
    (name : List ℕ) (key : Value) (row : Option Cells) (rec : RecId) (v : Version) (stored : Row)
    (table : Table) (lasts : LastsOn m packed_form o h before asked session)
    (was : WasChanged m before after i j batch)
    (enters : EntersWrite o h e s new asked t name key row table)
    (may : MayWriteInto packed_form before.geometry.size s.state (shown before.dirty i) stands.shows.layout
    stands.shows.reading t table)
    (codes : CodesRow packed_coding table v stored t key row)
    (laid : HasEntries (shown before.dirty i) table rec v stored)
    (spoken : stands.shows.versions.speaker name key ≡ Some rec)
    (plain : HasPlainTables before.geometry.size s.state (shown before.dirty i)) where
  abbrev size : ℕ
  size = before.geometry.size

  abbrev pool : Pages
  pool = shown before.dirty i

  abbrev later : Pages
  later = shown after.dirty j

  abbrev state : ℕ → TxState
  state = left_state everyone s.state

  number : t < next_of pool
  number = was_drawn packed_form size o h s pool (begins o stands.opening) stands.legal stands.memory stands.shows t
      enters.active

  of : table_at (stands_of stands.shows.layout) rec.page.0 ≡ Some table
  of = spoken_of packed_form size o h s pool stands.shows name key rec table may.stands enters.named spoken

  keyed : record_key table (stands.shows.reading rec) ≡ key
  keyed = spoken_key packed_form size o h s pool stands.shows name key rec table may.stands enters.named spoken

  placed : ForEach packed_form size s.state pool
      (λ st layout r. IsTableOf layout table → table_at (stands_of layout) rec.page.0 ≡ Some table)
  placed = placed_each packed_form one size o h e s.state pool stands.shows.layout stands.shows.reading
      stands.shows.sound t name key row table v stored enters.writes enters.active number enters.named may codes rec of

  every : KeptIn packed_form size o h s.state asked session before i
  every = kept_now m packed_form o h s before after i j batch asked session stands.memory was lasts

  kept_each : (chosen : ℕ → Bool) → IsKept packed_form size o h (left_state chosen s.state) pool pool
  kept_each chosen = pool_is_kept packed_form D L size o h s.state asked session before i chosen every

  -- ---- it was pushed

  module _ (pushes : Pushes before i fresh batch rec v) (settled : s.state pushes.newest.tx.0 ≡ Committed) where
    pushed_tips : KeepsTips size pool later
    pushed_tips = pushes_keep_tips on behind packed_form one none_here size o h state pool
        (viewed before i pushes.pushes.puts.adds.given) (viewed before i pushes.pushes.put) later stands.shows.layout
        stands.shows.reading table (lists batch.orders) (content_in batch.pages)
        (end_of given.gives.pointers given.gives.data_pages) grown.final rec pushes.pushes.at
        (leading_to v (Some pushes.newest)) pushes.newest
        (link_to pushes.pushes.at v.tx) (kept_each everyone) stands.shows.sound grown.grows
        (ends_there packed_form size state pool stands.shows.layout stands.shows.reading stands.shows.sound table
        may.stands given.gives.pointers given.gives.data_pages given.gives.table)
        (pushes_pages packed_form one none_here m before after i j batch asked session o h t s.state rec v table
        was.changes pushes enters.active may.whose placed settled every)
      where
        given : PutsGiven before i fresh pushes.pushes.puts.adds.given pushes.pushes.put table.pointer.0
            (need_of pushes.bytes) pushes.pushes.at pushes.bytes pushes.pushes.pointers
        given = puts packed_form one none_here m before after i j batch asked session o h t s.state rec v table
            was.changes pushes enters.active may.whose placed settled every

        grown : GrowsSome packed_form.in_primary size table.pointer.0 (lists batch.orders) (content_in batch.pages) pool
            (end_of given.gives.pointers given.gives.data_pages) (viewed before i pushes.pushes.puts.adds.given)
        grown = some_grows packed_form one none_here m before after i j batch asked session o h t s.state rec v table
            was.changes pushes enters.active may.whose placed settled every

    pushed_fronts : (after_ : HasLater packed_form size state later stands.shows.layout stands.shows.reading)
        → KeepsPages packed_form size state later stands.shows.layout stands.shows.reading after_
    pushed_fronts after_ = pushes_keep_pages packed_form one none_here size o h state pool
        (viewed before i pushes.pushes.puts.adds.given) (viewed before i pushes.pushes.put) later stands.shows.layout
        stands.shows.reading table (lists batch.orders) (content_in batch.pages)
        (end_of given.gives.pointers given.gives.data_pages) grown.final rec pushes.pushes.at
        (leading_to v (Some pushes.newest)) pushes.newest
        (link_to pushes.pushes.at v.tx) (kept_each everyone) stands.shows.sound grown.grows
        (ends_there packed_form size state pool stands.shows.layout stands.shows.reading stands.shows.sound table
        may.stands given.gives.pointers given.gives.data_pages given.gives.table)
        (pushes_pages packed_form one none_here m before after i j batch asked session o h t s.state rec v table
        was.changes pushes enters.active may.whose placed settled every) after_
      where
        given : PutsGiven before i fresh pushes.pushes.puts.adds.given pushes.pushes.put table.pointer.0
            (need_of pushes.bytes) pushes.pushes.at pushes.bytes pushes.pushes.pointers
        given = puts packed_form one none_here m before after i j batch asked session o h t s.state rec v table
            was.changes pushes enters.active may.whose placed settled every

        grown : GrowsSome packed_form.in_primary size table.pointer.0 (lists batch.orders) (content_in batch.pages) pool
            (end_of given.gives.pointers given.gives.data_pages) (viewed before i pushes.pushes.puts.adds.given)
        grown = some_grows packed_form one none_here m before after i j batch asked session o h t s.state rec v table
            was.changes pushes enters.active may.whose placed settled every

    pushed_reads : ReadsAfter packed_form size state pool later stands.shows.layout stands.shows.reading rec
        (written pushes.pushes.at v (Some pushes.newest) stored ∷ stands.shows.reading rec)
    pushed_reads = (reads D L m packed_form one none_here begins go o h e s new before after i j batch asked session
        stands t name key row rec v stored table lasts was pushes enters may codes laid spoken settled).0

    pub pushed_leaves : LeavesPages size s t pool later table.pointer.0 key rec
    pushed_leaves = record {
      tips = pushed_tips;
      plain = keep_plain size o h s.state pool later stands.shows.layout stands.shows.reading rec
          (written pushes.pushes.at v (Some pushes.newest) stored ∷ stands.shows.reading rec) table
          stands.shows.sound pushed_reads of may.no_catalog kept_each plain;
      others = others_walk_on one size s pool later stands.shows.layout stands.shows.reading rec
          (written pushes.pushes.at v (Some pushes.newest) stored ∷ stands.shows.reading rec) stands.shows.sound
          pushed_reads (pushed_fronts (record {
            now = pushed_reads.layout;
            reading = pushed_reads.reading;
            sound = pushed_reads.sound;
            grown = pushed_reads.grown;
          })) t enters.active (over_shown (written pushes.pushes.at v (Some pushes.newest) stored)
          (stands.shows.reading rec) t codes.its);
      known = written_keeps one_way size s.state pool later stands.shows.layout stands.shows.reading
          stands.shows.sound rec (written pushes.pushes.at v (Some pushes.newest) stored ∷ stands.shows.reading rec)
          pushed_reads table key of may.no_catalog codes.keyed;
    }

  -- ---- it was replaced

  module _ (replaces : Replaces before i fresh batch rec v) where
    in_its_cell : PutsAt before i fresh batch replaces.newest.rec replaces.bytes → KeepsTips size pool later
    in_its_cell puts_at = replacements_keep_tips on behind packed_form one none_here size state pool later
        stands.shows.layout stands.shows.reading replaces.was
        (written replaces.newest.rec v replaces.was.back stored) stands.shows.sound
        (replaces_page packed_form one none_here refl m before after i j batch asked session o h t s.state rec v table
        was.changes replaces puts_at enters.active may.whose placed every stored)

    to_another : Moves before i fresh batch rec replaces.newest replaces.owner replaces.bytes v.tx replaces.was.back
        → KeepsTips size pool later
    to_another moves = moves_keep_tips on behind packed_form one none_here size o h state pool
        (viewed before i moves.puts.adds.given) (viewed before i moves.put) (viewed before i moves.swings.turned) later
        stands.shows.layout stands.shows.reading table (lists batch.orders) (content_in batch.pages)
        (end_of given.gives.pointers given.gives.data_pages) grown.final rec replaces.newest.rec replaces.was
        (written moves.at v replaces.was.back stored) replaces.newest (link_to moves.at v.tx) (kept_each everyone)
        stands.shows.sound grown.grows
        (ends_there packed_form size state pool stands.shows.layout stands.shows.reading stands.shows.sound table
        may.stands given.gives.pointers given.gives.data_pages given.gives.table)
        (moves_pages packed_form one none_here refl m before after i j batch asked session o h t s.state rec v table
        was.changes replaces moves enters.active may.whose placed every stored)
      where
        given : PutsGiven before i fresh moves.puts.adds.given moves.put table.pointer.0 (need_of replaces.bytes)
            moves.at replaces.bytes moves.pointers
        given = move_puts packed_form one none_here refl m before after i j batch asked session o h t s.state rec v
            table was.changes replaces moves enters.active may.whose placed every

        grown : GrowsSome packed_form.in_primary size table.pointer.0 (lists batch.orders) (content_in batch.pages) pool
            (end_of given.gives.pointers given.gives.data_pages) (viewed before i moves.puts.adds.given)
        grown = move_grows packed_form one none_here refl m before after i j batch asked session o h t s.state rec v
            table was.changes replaces moves enters.active may.whose placed every

    fronts_in_cell : PutsAt before i fresh batch replaces.newest.rec replaces.bytes
        → (after_ : HasLater packed_form size state later stands.shows.layout stands.shows.reading)
        → KeepsPages packed_form size state later stands.shows.layout stands.shows.reading after_
    fronts_in_cell puts_at after_ = replacements_keep_pages packed_form one none_here size state pool later
        stands.shows.layout stands.shows.reading replaces.was
        (written replaces.newest.rec v replaces.was.back stored) stands.shows.sound
        (replaces_page packed_form one none_here refl m before after i j batch asked session o h t s.state rec v table
        was.changes replaces puts_at enters.active may.whose placed every stored) after_

    fronts_in_another : Moves before i fresh batch rec replaces.newest replaces.owner replaces.bytes v.tx
        replaces.was.back
        → (after_ : HasLater packed_form size state later stands.shows.layout stands.shows.reading)
        → KeepsPages packed_form size state later stands.shows.layout stands.shows.reading after_
    fronts_in_another moves after_ = moves_keep_pages packed_form one none_here size o h state pool
        (viewed before i moves.puts.adds.given) (viewed before i moves.put) (viewed before i moves.swings.turned) later
        stands.shows.layout stands.shows.reading table (lists batch.orders) (content_in batch.pages)
        (end_of given.gives.pointers given.gives.data_pages) grown.final rec replaces.newest.rec replaces.was
        (written moves.at v replaces.was.back stored) replaces.newest (link_to moves.at v.tx) (kept_each everyone)
        stands.shows.sound grown.grows
        (ends_there packed_form size state pool stands.shows.layout stands.shows.reading stands.shows.sound table
        may.stands given.gives.pointers given.gives.data_pages given.gives.table)
        (moves_pages packed_form one none_here refl m before after i j batch asked session o h t s.state rec v table
        was.changes replaces moves enters.active may.whose placed every stored) after_
      where
        given : PutsGiven before i fresh moves.puts.adds.given moves.put table.pointer.0 (need_of replaces.bytes)
            moves.at replaces.bytes moves.pointers
        given = move_puts packed_form one none_here refl m before after i j batch asked session o h t s.state rec v
            table was.changes replaces moves enters.active may.whose placed every

        grown : GrowsSome packed_form.in_primary size table.pointer.0 (lists batch.orders) (content_in batch.pages) pool
            (end_of given.gives.pointers given.gives.data_pages) (viewed before i moves.puts.adds.given)
        grown = move_grows packed_form one none_here refl m before after i j batch asked session o h t s.state rec v
            table was.changes replaces moves enters.active may.whose placed every

    tips_by : OverwritesOrMoves before i fresh batch rec replaces.newest replaces.owner replaces.bytes v.tx
        replaces.was.back → KeepsTips size pool later
    tips_by (inl puts_at) = in_its_cell puts_at
    tips_by (inr (full, moves)) = to_another moves

    fronts_by : OverwritesOrMoves before i fresh batch rec replaces.newest replaces.owner replaces.bytes v.tx
        replaces.was.back
        → (after_ : HasLater packed_form size state later stands.shows.layout stands.shows.reading)
        → KeepsPages packed_form size state later stands.shows.layout stands.shows.reading after_
    fronts_by (inl puts_at) after_ = fronts_in_cell puts_at after_
    fronts_by (inr (full, moves)) after_ = fronts_in_another moves after_

    abbrev found_it : FindsNewest (facts_by state pool stands.shows.layout) stands.shows.reading rec table
        replaces.newest.rec replaces.was
    found_it = found D L m packed_form one none_here refl o h e s.state before after i j batch asked session
        stands.shows.layout stands.shows.reading stands.shows.sound t name key row rec v stored table was.changes
        replaces enters.writes enters.active enters.not_asked number enters.named may codes laid of keyed every

    its_new : IsRewritten packed_form size o (e ∷ h) s.state before after i j asked session stands.shows.layout
        stands.shows.reading rec v replaces.was.back stored found_it.older
    its_new = rewritten D L m packed_form one none_here refl o h e s.state before after i j batch asked session
        stands.shows.layout stands.shows.reading stands.shows.sound t name key row rec v stored table was.changes
        replaces enters.writes enters.active enters.not_asked number enters.named may codes laid of keyed every

    own_newest : writer found_it.newest ≡ t
    own_newest = its_own D L m packed_form one none_here refl o h e s.state before after i j batch asked session
        stands.shows.layout stands.shows.reading stands.shows.sound t name key row rec v stored table was.changes
        replaces enters.writes enters.active enters.not_asked number enters.named may codes laid of keyed every

    pub replaced_leaves : LeavesPages size s t pool later table.pointer.0 key rec
    replaced_leaves = record {
      tips = tips_by replaces.written;
      plain = keep_plain size o h s.state pool later stands.shows.layout stands.shows.reading rec
          (written its_new.at v replaces.was.back stored ∷ found_it.older) table stands.shows.sound its_new.reads of
          may.no_catalog kept_each plain;
      others = others_walk_on one size s pool later stands.shows.layout stands.shows.reading rec
          (written its_new.at v replaces.was.back stored ∷ found_it.older) stands.shows.sound its_new.reads
          (fronts_by replaces.written (record {
            now = its_new.reads.layout;
            reading = its_new.reads.reading;
            sound = its_new.reads.sound;
            grown = its_new.reads.grown;
          })) t enters.active (λ counts off.
          over_shown (written its_new.at v replaces.was.back stored) found_it.older t codes.its counts off
          ∙ sym (ap (shown_by_writers counts) found_it.first ∙ over_shown found_it.newest found_it.older t own_newest
          counts off));
      known = written_keeps one_way size s.state pool later stands.shows.layout stands.shows.reading
          stands.shows.sound rec (written its_new.at v replaces.was.back stored ∷ found_it.older) its_new.reads table
          key of may.no_catalog codes.keyed;
    }

-- ---- it is a record's first one

module _ (one : RowsAreOne packed_coding) (one_way : StandsOneWay packed_form) (begins : OpeningsBegin) (on : TipsStayOn) (behind : BehindKeepsTips)
    (keep_plain : WritesKeepPlain) {D L : Type 0} (m : Meaning D) (go : WritesGoOn D L m packed_form) (o : Opening)
    (h : Entries) (e : Event) (s new : Standing) (before after : Pool D L) (i j : Image) (batch : Changed)
    (asked : Asked) (session : Sessions)
    (stands : Stands packed_form before.geometry.size o h s (Some (shown before.dirty i))) (t : ℕ)
    (name : List ℕ) (key : Value) (row : Option Cells) (rec : RecId) (v : Version) (stored : Row)
    (table : Table) (lasts : LastsOn m packed_form o h before asked session)
    (was : WasChanged m before after i j batch)
    (enters : EntersWrite o h e s new asked t name key row table)
    (may : MayWriteInto packed_form before.geometry.size s.state (shown before.dirty i) stands.shows.layout
    stands.shows.reading t table)
    (codes : CodesRow packed_coding table v stored t key row)
    (laid : HasEntries (shown before.dirty i) table rec v stored)
    (silent : IsSilentAt packed_form before.geometry.size o h s (shown before.dirty i) stands.shows name key)
    (of : table_at (stands_of stands.shows.layout) rec.page.0 ≡ Some table)
    (blank : cells_of (shown before.dirty i) rec ≡ None)
    (plain : HasPlainTables before.geometry.size s.state (shown before.dirty i))
    (makes : MakesRecord before i fresh batch table.pointer.0 rec v) where
  abbrev bytes_of_page : ℕ
  bytes_of_page = before.geometry.size

  abbrev first_pool : Pages
  first_pool = shown before.dirty i

  drawn : t < next_of first_pool
  drawn = was_drawn packed_form before.geometry.size o h s first_pool (begins o stands.opening) stands.legal
      stands.memory stands.shows t enters.active

  first_every : KeptIn packed_form before.geometry.size o h s.state asked session before i
  first_every = kept_now m packed_form o h s before after i j batch asked session stands.memory was lasts

  first_each : (chosen : ℕ → Bool) → IsKept packed_form before.geometry.size o h (left_state chosen s.state)
      first_pool first_pool
  first_each chosen = pool_is_kept packed_form D L before.geometry.size o h s.state asked session before i chosen
      first_every

  first_placed : ForEach packed_form before.geometry.size s.state first_pool
      (λ st layout r. IsTableOf layout table → table_at (stands_of layout) rec.page.0 ≡ Some table)
  first_placed = placed_each packed_form one before.geometry.size o h e s.state first_pool stands.shows.layout
      stands.shows.reading stands.shows.sound t name key row table v stored enters.writes enters.active drawn
      enters.named may codes rec of

  may_now : ForEach packed_form before.geometry.size s.state first_pool (λ st layout r. IsTableOf layout table
      → MayBeWritten packed_coding (facts_by st first_pool layout) table (key_of table stored)
      (written makes.makes.at v None stored))
  may_now chosen layout r sound its = may_be packed_form one before.geometry.size o h e s.state first_pool
      stands.shows.layout stands.shows.reading stands.shows.sound t name key row table v stored enters.writes
      enters.active drawn enters.named may codes (left_state chosen s.state) layout (key_of table stored) codes.keyed
      makes.makes.at None

  made_pages : MakesPages packed_form before i fresh batch rec v table (content_in batch.pages) (lists batch.orders)
      makes
  made_pages = pages packed_form one none_here m before after i j batch asked session o h t s.state rec v stored table
      was.changes makes enters.active may.whose first_placed blank may_now first_every

  first_reading : ReadsAfter packed_form before.geometry.size (left_state everyone s.state) first_pool
      (shown after.dirty j) stands.shows.layout stands.shows.reading rec
      (written makes.makes.at v None stored ∷ [])
      × KeepsBits before.geometry.size first_pool (shown after.dirty j) × (stands.shows.reading rec ≡ [])
  first_reading = first_reads D L m packed_form one none_here begins go o h e s new before after i j batch asked session
      stands t name key row rec v stored table lasts was makes enters may codes laid silent of blank

  first_ends : EndsAt stands.shows.layout table
      (end_of makes.makes.adds.gives.pointers makes.makes.adds.gives.data_pages)
  first_ends = ends_there packed_form before.geometry.size (left_state everyone s.state) first_pool
      stands.shows.layout stands.shows.reading stands.shows.sound table may.stands makes.makes.adds.gives.pointers
      makes.makes.adds.gives.data_pages makes.makes.adds.gives.table

  first_adds : AddsPages packed_form.in_primary (viewed before i makes.makes.adds.given)
      (viewed before i makes.makes.put) (shown after.dirty j) makes.makes.at rec (leading_to v None)
      (link_to makes.makes.at v.tx)
  first_adds = subst (λ (last : Pages). AddsPages packed_form.in_primary (viewed before i makes.makes.adds.given)
      (viewed before i makes.makes.put) last makes.makes.at rec (leading_to v None)
      (link_to makes.makes.at v.tx)) (sym (changed_fresh m before after i j batch asked session was.changes).pool)
      made_pages.adds

  pub first_leaves : LeavesPages before.geometry.size s t (shown before.dirty i) (shown after.dirty j)
      table.pointer.0 key rec
  first_leaves = record {
    tips = firsts_keep_tips on behind packed_form one none_here before.geometry.size o h
        (left_state everyone s.state) first_pool (viewed before i makes.makes.adds.given)
        (viewed before i makes.makes.put) (shown after.dirty j) stands.shows.layout stands.shows.reading table
        (lists batch.orders) (content_in batch.pages)
        (end_of makes.makes.adds.gives.pointers makes.makes.adds.gives.data_pages) made_pages.final rec
        makes.makes.at (leading_to v None) (link_to makes.makes.at v.tx) (first_each everyone) stands.shows.sound
        made_pages.grows first_ends first_adds;
    plain = keep_plain before.geometry.size o h s.state first_pool (shown after.dirty j) stands.shows.layout
        stands.shows.reading rec (written makes.makes.at v None stored ∷ []) table stands.shows.sound first_reading.0
        of may.no_catalog first_each plain;
    others = others_walk_on one before.geometry.size s first_pool (shown after.dirty j) stands.shows.layout
        stands.shows.reading rec (written makes.makes.at v None stored ∷ []) stands.shows.sound first_reading.0
        (firsts_keep_pages packed_form one none_here before.geometry.size o h (left_state everyone s.state) first_pool
        (viewed before i makes.makes.adds.given) (viewed before i makes.makes.put) (shown after.dirty j)
        stands.shows.layout stands.shows.reading table (lists batch.orders) (content_in batch.pages)
        (end_of makes.makes.adds.gives.pointers makes.makes.adds.gives.data_pages) made_pages.final rec
        makes.makes.at (leading_to v None) (link_to makes.makes.at v.tx) (first_each everyone) stands.shows.sound
        made_pages.grows first_ends first_adds (record {
          now = first_reading.0.layout;
          reading = first_reading.0.reading;
          sound = first_reading.0.sound;
          grown = first_reading.0.grown;
        })) t enters.active (λ counts off. over_shown (written makes.makes.at v None stored) [] t codes.its counts off
        ∙ sym (ap (shown_by_writers counts) first_reading.2));
    known = written_keeps one_way before.geometry.size s.state first_pool (shown after.dirty j) stands.shows.layout
        stands.shows.reading stands.shows.sound rec (written makes.makes.at v None stored ∷ []) first_reading.0 table
        key of may.no_catalog codes.keyed;
  }
