-- A transaction's own version is replaced, in its cell or moved to another one: every overlay is kept, and the
-- record is read with the new version in front.
use Rattle.mg_base.specs.Disk.{Meaning}
use Rattle.mg_base.specs.Image.{Image}
use Rattle.mg_base.specs.declared.numbers.RecId.{RecId}
use Rattle.mg_base.specs.declared.numbers.TxNo.{TxNo}
use Rattle.mg_base.specs.declared.transaction.TxState.{TxState}
use Rattle.mg_base.specs.declared.transaction.TxState.TheVariants.{Active}
use Rattle.mg_chain.specs.Writing.{Moves, OverwritesOrMoves, PutsAt, Replaces, link_to}
use Rattle.mg_tie_laws.specs.MoveTies.{move_row, moves_pages, puts, some_grows}
use Rattle.mg_tie_laws.specs.Newest.{newest_found, newest_placed}
use Rattle.mg_tie_laws.specs.PlaceTies.{place_row, replaces_page}
use Rattle.mg_tie_laws.specs.PushTies.{written}
use Rattle.mg_tie_laws.specs.PutTies.{PutsGiven}
use Rattle.mg_tie_laws.specs.Rows.{ForEach}
use Rattle.mg_engine_step_laws.specs.writes.GoesOnLaws.{moves_are_read, pool_is_kept, replacements_are_read}
use Rattle.mg_engine_step_laws.specs.writes.Writes.{ReadsAfter}
use Rattle.mg_engine_step_laws.specs.writes.Knowing.{CodesRow, HasEntries, MayWriteInto}
use Rattle.mg_engine_step_laws.specs.writes.WriteKnown.{brings, may_each, placed_each, rewrites_row}
use Rattle.mg_image_overlay_laws.specs.tables.Growing.{IsTableOf, MayBeWritten}
use Rattle.mg_tie_laws.specs.RoomTies.{GrowsSome, end_of, ends_there}
use Rattle.mg_image.specs.Form.{Form, Pages, Row}
use Rattle.mg_image.specs.Inventory.{next_of}
use Rattle.mg_image.specs.ReadingLaws.{RowsAreOne}
use Rattle.mg_image.specs.Records.{Reading, record_key, writer}
use Rattle.mg_image.specs.Sound.{IsSoundBy, facts_by}
use Rattle.mg_image.specs.Tables.{Layout, stands_of, table_at}
use Rattle.mg_image.specs.declared.entry.Entry.{Entry}
use Rattle.mg_image_overlay_laws.specs.pages.Kinds.{HasNoSequences}
use Rattle.mg_image_overlay_laws.specs.transactions.CommitLaws.{LeavesOthers}
use Rattle.mg_image_overlay_laws.specs.kept.KeptImages.{IsKept}
use Rattle.mg_model.specs.Changes.{Cells}
use Rattle.mg_model.specs.History.{Entries, Entry as Event}
use Rattle.mg_model.specs.Openings.{everyone}
use Rattle.mg_model.specs.declared.opening.Opening.{Opening}
use Rattle.mg_model.specs.declared.table.Table.{Table}
use Rattle.mg_overlay_laws.specs.Overlays.{left_state}
use Rattle.mg_image_overlay_laws.specs.records.OwnVersion.{FindsNewest, RewritesRow}
use Rattle.mg_pool.specs.Batch.{Changed, content_in, lists}
use Rattle.mg_pool.specs.Pool.{shown}
use Rattle.mg_pool.specs.declared.pool.Pool.{Pool}
use Rattle.mg_pool_overlay_laws.specs.Needs.{Asked, Sessions}
use Rattle.mg_slots.specs.Room.{need_of}
use Rattle.mg_space.specs.View.{viewed}
use Rattle.mg_tie_laws.specs.Changed.{ChangesFresh, KeptIn, fresh}
use Rattle.mg_engine_step_laws.specs.standing.Writing.{WritesKey}
use Rattle.mg_image_overlay_laws.specs.pages.DataKept.{KeepsBits}
use Rattle.mg_value.specs.declared.value.Value.{Value}
use Rattle.mg_version.specs.declared.cell.Link.{Link}
use Rattle.mg_version.specs.declared.cell.Version.{Version}
use Rattle.std.proofs.Common.{Bool, List, Option, Some, ap, false, inl, inr, true, ℕ, ◌<◌, ◌∙◌, ◌∷◌, ◌≡◌}

-- It is kept for a longer history, and so the record is read, wherever the version stands.
pub record IsRewritten {D L : Type 0} (form : Form) (size : ℕ) (o : Opening) (later : Entries)
    (state : ℕ → TxState) (before after : Pool D L) (i j : Image) (asked : Asked) (session : Sessions)
    (layout : Layout) (r : Reading) (rec : RecId) (v : Version) (back : Option Link) (stored : Row)
    (older : List Entry) : Type 0 where
  pub at : RecId
  pub kept : KeptIn form size o later state asked session after j
  pub reads : ReadsAfter form size (left_state everyone state) (shown before.dirty i) (shown after.dirty j) layout
      r rec (written at v back stored ∷ older)
  pub bits : KeepsBits size (shown before.dirty i) (shown after.dirty j)

module _ (D L : Type 0) (m : Meaning D) (form : Form) (one : RowsAreOne form.coding)
    (none : HasNoSequences form) (no_primary : form.in_primary ≡ false) (o : Opening) (h : Entries) (e : Event)
    (now : ℕ → TxState) (before after : Pool D L) (i j : Image) (batch : Changed) (asked : Asked)
    (session : Sessions) (layout : Layout) (r : Reading)
    (sound : IsSoundBy form before.geometry.size (left_state everyone now) (shown before.dirty i) layout r)
    (t : ℕ) (name : List ℕ) (key : Value) (row : Option Cells) (rec : RecId) (v : Version) (stored : Row)
    (table : Table) (changes : ChangesFresh m before after i j batch)
    (replaces : Replaces before i fresh batch rec v) (entry : WritesKey o h e t name key row)
    (active : now t ≡ Active) (not_asked : asked t ≡ false) (number : t < next_of (shown before.dirty i))
    (named : table.name ≡ name)
    (may : MayWriteInto form before.geometry.size now (shown before.dirty i) layout r t table)
    (codes : CodesRow form.coding table v stored t key row)
    (laid : HasEntries (shown before.dirty i) table rec v stored)
    (of : table_at (stands_of layout) rec.page.0 ≡ Some table) (keyed : record_key table (r rec) ≡ key)
    (every : KeptIn form before.geometry.size o h now asked session before i) where
  abbrev size : ℕ
  size = before.geometry.size

  abbrev pool : Pages
  pool = shown before.dirty i

  abbrev state : ℕ → TxState
  state = left_state everyone now

  placed_now : ForEach form size now pool
      (λ st layout rs. IsTableOf layout table → table_at (stands_of layout) rec.page.0 ≡ Some table)
  placed_now = placed_each form one size o h e now pool layout r sound t name key row table v stored entry active
      number named may codes rec of

  now_ : IsKept form size o h state pool pool
  now_ = pool_is_kept form D L size o h now asked session before i everyone every

  -- the version that was there is its own
  pub found : FindsNewest (facts_by state pool layout) r rec table replaces.newest.rec replaces.was
  found = newest_found form size state pool layout r sound rec table of replaces.newest replaces.its.head.slot
      replaces.was replaces.its.meets.cell

  pub its_own : writer found.newest ≡ t
  its_own = ap (λ (w : Version). w.tx.0) found.version ∙ (ap (λ (n : TxNo). n.0) replaces.own ∙ codes.its)

  of_x : table_at (stands_of layout) replaces.newest.rec.page.0 ≡ Some table
  of_x = newest_placed form size state pool layout r sound rec table of replaces.newest replaces.its.head.slot

  later : KeptIn form size o (e ∷ h) now asked session after j
      → IsKept form size o (e ∷ h) state (shown after.dirty j) (shown after.dirty j)
  later kept = pool_is_kept form D L size o (e ∷ h) now asked session after j everyone kept

  may_at : (at : RecId) → ForEach form size now pool (λ st layout rs. IsTableOf layout table
      → MayBeWritten form.coding (facts_by st pool layout) table (record_key table (rs rec))
      (written at v replaces.was.back stored))
  may_at at = may_each form one size o h e now pool layout r sound t name key row table v stored entry active
      number named may codes rec of keyed at replaces.was.back

  knows : (at : RecId) (chosen : ℕ → Bool) → chosen t ≡ true
      → (its : IsKept form size o h (left_state chosen now) pool pool)
      → RewritesRow form size o h e (left_state chosen now) pool pool rec table
      (written at v replaces.was.back stored) its
  knows at chosen is its = rewrites_row form one size o h e now pool layout r sound t name key row table v stored
      entry active number named may codes chosen is its rec at replaces.was.back laid

  its_entry : LeavesOthers o h e t
  its_entry = brings form one size o h e now pool layout r sound t name key row table v stored entry active number
      named may codes

  -- ---- in its cell

  place_kept : PutsAt before i fresh batch replaces.newest.rec replaces.bytes
      → KeptIn form size o (e ∷ h) now asked session after j
  place_kept puts_at = place_row form one none no_primary m before after i j batch asked session o h t now rec v
      table changes replaces puts_at active may.whose placed_now every e stored codes.its not_asked
      (may_at replaces.newest.rec) its_entry (knows replaces.newest.rec)

  placed_there : PutsAt before i fresh batch replaces.newest.rec replaces.bytes
      → IsRewritten form size o (e ∷ h) now before after i j asked session layout r rec v replaces.was.back stored
      found.older
  placed_there puts_at = record {
    at = replaces.newest.rec;
    kept = place_kept puts_at;
    reads = both.0;
    bits = both.1;
  }
    where
      both : ReadsAfter form size state pool (shown after.dirty j) layout r rec
          (written replaces.newest.rec v replaces.was.back stored ∷ found.older)
          × KeepsBits size pool (shown after.dirty j)
      both = replacements_are_read form one none size state pool (shown after.dirty j) layout r table rec
          replaces.was (written replaces.newest.rec v replaces.was.back stored) found.newest found.older
          replaces.newest (later (place_kept puts_at)).layout (later (place_kept puts_at)).reading sound
          (replaces_page form one none no_primary m before after i j batch asked session o h t now rec v table
          changes replaces puts_at active may.whose placed_now every stored)
          found.first found.at found.version replaces.its.head.slot of of_x may.no_catalog
          (record { spelled = codes.spelled; storable = codes.storable }) (later (place_kept puts_at)).sound

  -- ---- in another one

  module _ (moves : Moves before i fresh batch rec replaces.newest replaces.owner replaces.bytes v.tx
      replaces.was.back) where
    moved : KeptIn form size o (e ∷ h) now asked session after j
    moved = move_row form one none no_primary m before after i j batch asked session o h t now rec v table changes
        replaces moves active may.whose placed_now every e stored codes.its not_asked (may_at moves.at) its_entry
        (knows moves.at)

    abbrev given : PutsGiven before i fresh moves.puts.adds.given moves.put table.pointer.0 (need_of replaces.bytes)
        moves.at replaces.bytes moves.pointers
    given = puts form one none no_primary m before after i j batch asked session o h t now rec v table changes
        replaces moves active may.whose placed_now every

    grown : GrowsSome form.in_primary size table.pointer.0 (lists batch.orders) (content_in batch.pages) pool
        (end_of given.gives.pointers given.gives.data_pages) (viewed before i moves.puts.adds.given)
    grown = some_grows form one none no_primary m before after i j batch asked session o h t now rec v table changes
        replaces moves active may.whose placed_now every

    both_moved : ReadsAfter form size state pool (shown after.dirty j) layout r rec
        (written moves.at v replaces.was.back stored ∷ found.older) × KeepsBits size pool (shown after.dirty j)
    both_moved = moves_are_read form one none size o h state pool (viewed before i moves.puts.adds.given)
        (viewed before i moves.put) (viewed before i moves.swings.turned) (shown after.dirty j) layout r table
        (lists batch.orders) (content_in batch.pages) (end_of given.gives.pointers given.gives.data_pages)
        grown.final rec replaces.newest.rec replaces.was (written moves.at v replaces.was.back stored) found.newest
        found.older replaces.newest (link_to moves.at v.tx) (later moved).layout (later moved).reading now_ sound
        grown.grows
        (ends_there form size state pool layout r sound table may.stands given.gives.pointers
        given.gives.data_pages given.gives.table)
        (moves_pages form one none no_primary m before after i j batch asked session o h t now rec v table changes
        replaces moves active may.whose placed_now every stored)
        found.first found.at found.version of of_x may.no_catalog
        (record { spelled = codes.spelled; storable = codes.storable }) (later moved).sound

    moved_there : IsRewritten form size o (e ∷ h) now before after i j asked session layout r rec v
        replaces.was.back stored found.older
    moved_there = record { at = moves.at; kept = moved; reads = both_moved.0; bits = both_moved.1 }

  pub rewritten : IsRewritten form size o (e ∷ h) now before after i j asked session layout r rec v
      replaces.was.back stored found.older
  rewritten = by_case replaces.written
    where
      by_case : OverwritesOrMoves before i fresh batch rec replaces.newest replaces.owner replaces.bytes v.tx
          replaces.was.back
          → IsRewritten form size o (e ∷ h) now before after i j asked session layout r rec v replaces.was.back
          stored found.older
      by_case (inl puts_at) = placed_there puts_at
      by_case (inr (full, moves)) = moved_there moves
