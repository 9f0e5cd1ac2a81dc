-- A row is written without damage.
use Rattle.std.proofs.Common.{◌≡◌, ◌∙◌, Option, ℕ, Bool, true, Some, Ok, Err, refl, ap, subst}
use Rattle.mg_engine_meaning_laws.specs.DirectoryLaws.{knows_key}
use Rattle.mg_base.specs.Disk.{Meaning}
use Rattle.mg_base.specs.declared.numbers.RecId.{RecId}
use Rattle.mg_base.specs.declared.numbers.TxNo.{TxNo}
use Rattle.mg_model.specs.History.{Entries}
use Rattle.mg_model.specs.Openings.{everyone}
use Rattle.mg_model.specs.declared.opening.Opening.{Opening}
use Rattle.mg_model.specs.declared.refusal.Refusal.{Refusal}
use Rattle.mg_model.specs.declared.table.Table.{Table}
use Rattle.mg_overlay_laws.specs.Overlays.{left_state}
use Rattle.mg_pool.specs.Pool.{shown}
use Rattle.mg_pool.specs.declared.fault.PoolFault.TheVariants as faults
use Rattle.mg_pool.specs.declared.pool.Pool.{Pool}
use Rattle.mg_records.specs.Writing.{FitsShape}
use Rattle.mg_records.specs.declared.write.Write.{Write}
use Rattle.mg_records.specs.declared.write.Write.TheVariants as write_kinds
use Rattle.mg_row_writes.specs.Laying.{FailsEntering, FailsLay, FailsThen, no_first, no_place, not_cleared, not_entered, not_pushed, not_put_in}
use Rattle.mg_row_writes.specs.Changing.{FailsFirst, FailsOver, FailsReplacing}
use Rattle.mg_row_writes.specs.Storing.{written_at}
use Rattle.mg_row_writes.specs.declared.before.Before.{Before}
use Rattle.mg_row_writes.specs.declared.before.Way.{Way}
use Rattle.mg_row_writes.specs.declared.before.Way.TheVariants as ways
use Rattle.mg_space.specs.ViewLaws.{CountsNow}
use Rattle.mg_space.specs.declared.fault.SpaceFault.{SpaceFault}
use Rattle.mg_space.specs.declared.fault.SpaceFault.TheVariants as space
use Rattle.mg_space.specs.declared.links.FireLinks.{FireLinks}
use Rattle.mg_version.specs.declared.cell.Version.{Version}
use Rattle.mg_works.specs.Works.{given_to}
use Rattle.mg_core.specs.declared.parts.Core.{Core}
use Rattle.mg_core.specs.Cores.{Continues, IsCore}
use Rattle.mg_core.specs.Putting.{FailsKept, FailsPut, key_too_long, no_before, no_lay, no_version, not_kept, not_laid, too_long}
use Rattle.mg_core.specs.Refusing.{CountsFault}
use Rattle.mg_core.specs.Writing.{FailsWrite, IsFree, Writes, at_record, at_row, at_table, no_key, not_begun, not_put, only_reads, KnowsKey}
use Rattle.mg_no_damage_laws.specs.CoreReads.{BeforesAreRead, KeysAreNamed, RecordsArePassed, RowsAreFound, ShowsTable, TablesArePassed}
use Rattle.mg_engine_change_laws.specs.memory.KeptTables.{NotedTablesAreKept, NotedWorksStay, NotesStay}
use Rattle.mg_engine_change_laws.specs.rows.Laid.{HasNoted}
use Rattle.mg_engine_change_laws.specs.rows.NotedLaws.{noted_core, noted_given, table_noted}
use Rattle.mg_engine_change_laws.specs.rows.RefusalLaws.{free_read}
use Rattle.mg_engine_change_laws.specs.rows.Refusals.{IsReady}
use Rattle.mg_engine_meaning_laws.specs.Meaning.{Places}
use Rattle.mg_engine_meaning_laws.specs.Standings.{ShowsIt, StandsFor, standing_of}
use Rattle.mg_engine_meaning_laws.specs.StepLaws.{shows_of}
use Rattle.mg_engine_step_laws.specs.standing.Known.{IsShown, seen_is_shown}
use Rattle.mg_no_damage_laws.specs.Keyed.{IsKeyed, TablesAreKeyed}
use Rattle.mg_taking_back.specs.Noting.{noted_fails, noted_memory, noted_not, with_noted}
use Rattle.mg_no_damage_laws.specs.Calls.{WritesMeetNone}
use Rattle.mg_no_damage_laws.specs.CountLaws.{count, ended, refused}
use Rattle.mg_no_damage_laws.proofs.LayLemmas.{keys_short, laid, may_store}
use Rattle.mg_no_damage_laws.specs.ShownLaws.{catalog_there, shown_table}
use Rattle.mg_no_damage_laws.specs.StageLaws.{at_befores, at_keys, at_records, at_rows, at_tables, own_there, read_stands}
use Rattle.mg_no_damage_laws.proofs.WriteParts.{WriteParts}

-- ---- a batch is refused by no absent page

entries_there : {D : Type 0} (m : Meaning D) (a b : Pool D FireLinks) (table : Table) (rec : RecId) (write : Write) (n : ℕ)
    → FailsEntering m a b table rec write (space.Pool (faults.Absent n)) → ⊥
entries_there m a b table rec (write_kinds.Insert row) n fails = own_there m fails.mid b _ _ n fails.refused
entries_there m a b table rec (write_kinds.Change key row) n fails = own_there m fails.mid b _ _ n fails.refused
entries_there m a b table rec (write_kinds.Erase key) n fails = absurd fails

then_there : {D : Type 0} (m : Meaning D) (a b : Pool D FireLinks) (table : Table) (rec : RecId) (write : Write)
    (puts : Pool D FireLinks → SpaceFault → Type 0) (n : ℕ)
    → ((e : Pool D FireLinks) → puts e (space.Pool (faults.Absent n)) → ⊥)
    → FailsThen m a b table rec write puts (space.Pool (faults.Absent n)) → ⊥
then_there m a b table rec write puts n each (not_entered fails) = entries_there m a b table rec write n fails
then_there m a b table rec write puts n each (not_put_in entered enters own) = each entered own

lay_there : {D : Type 0} (m : Meaning D) (a b : Pool D FireLinks) (table : Table) (way : Way) (write : Write) (v : Version)
    (n : ℕ) → FailsLay m a b table way write v (space.Pool (faults.Absent n)) → ⊥
lay_there m a b table ways.Make write v n (no_place own) = own_there m a b _ _ n own
lay_there m a b table ways.Make write v n (no_first at placed takes fails) = then_there m placed b table at write
    (λ e given. FailsFirst m e b table.pointer.0 at v given) n (λ e own. own_there m e b _ _ n own) fails
lay_there m a b table (ways.Push rec) write v n fails = then_there m a b table rec write
    (λ e given. FailsOver m e b rec v given) n (λ e own. own_there m e b _ _ n own) fails
lay_there m a b table (ways.PushOverDead rec) write v n (not_cleared own) = own_there m a b _ _ n own
lay_there m a b table (ways.PushOverDead rec) write v n (not_pushed cleared takes fails) =
    then_there m cleared b table rec write (λ e given. FailsOver m e b rec v given) n
    (λ e own. own_there m e b _ _ n own) fails
lay_there m a b table (ways.Replace rec) write v n fails = then_there m a b table rec write
    (λ e given. FailsReplacing m e b rec v given) n (λ e own. own_there m e b _ _ n own) fails

-- ---- the laws on what is read

-- What a write reads meets no damage.
pub record ReadParts {D : Type 0} (m : Meaning D) : Type 0 where
  pub keyed : TablesAreKeyed
  pub named : KeysAreNamed D
  pub tables : TablesArePassed m
  pub rows : RowsAreFound m
  pub records : RecordsArePassed m
  pub befores : BeforesAreRead m

-- ---- a row is not written

module _ {D P : Type 0} (m : Meaning D) (places : Places P) (parts : WriteParts m) (reads : ReadParts m)
    (old new : Core D) (t : TxNo) (table : Table) (write : Write) (core : IsCore m old)
    (given : given_to old.works t.0 table.name ≡ Some table) (noted : HasNoted old.works t.0 table)
    (fits : FitsShape table.shape write) (o : Opening) (h : Entries)
    (stands : StandsFor m old o h) (told : m.tells old.store.disk ≡ true) where
  module _ (continues : Continues old t.0) where
    abbrev shows : ShowsIt m old o h (standing_of old stands.numbers stands.tables)
    shows = shows_of m old o h stands continues.0

    there : IsShown shows.stands.shows.layout table
    there = seen_is_shown shows.stands.shows.layout table
        ((shows.stands.shows.tables t.0 continues.1).seen table.name table (stands.given t.0 table.name table given))

    tables : ShowsTable m old shows.image table
    tables = shown_table parts.records parts.stand m old o h (standing_of old stands.numbers stands.tables) shows told
        table there

    catalogs : ShowsTable m old shows.image old.catalog
    catalogs = shown_table parts.records parts.stand m old o h (standing_of old stands.numbers stands.tables) shows
        told old.catalog (catalog_there parts.records parts.stand m old o h
        (standing_of old stands.numbers stands.tables) shows told core)

    keyed : IsKeyed table.shape
    keyed = subst IsKeyed there.same.shape (reads.keyed old.store.geometry.size
        (left_state everyone (standing_of old stands.numbers stands.tables).state) (shown old.store.dirty shows.image)
        shows.stands.shows.layout shows.stands.shows.reading shows.stands.shows.sound there.its there.stands)

    known : KnowsKey old table (written_at table write) (shown old.store.dirty shows.image)
    known = knows_key m old o h stands.numbers stands.tables shows parts.dirs.walked table there parts.dirs.speakers
        (written_at table write)

  -- the version is not laid
  kept_stands : (read : Core D) (before : Before) (v : Version) (refusal : Refusal)
      → IsReady m old read t table write before v
      → FailsKept m read new t.0 table write (written_at table write) before v refusal
      → new.damage ≡ read.damage
  kept_stands read before v refusal ready (too_long never counts) = absurd (never (may_store m places parts old t table
      write core given noted fits o h read before v ready stands))
  kept_stands read before v refusal ready (key_too_long never counts) = absurd (never (keys_short m places parts old t
      table write core given noted fits o h read before v ready stands))
  kept_stands read before v refusal ready (not_kept may told_) = ap count told_.1
  kept_stands read before v refusal ready (not_laid fails) = at fails.fault fails.fails fails.counts
    where
      at : (fault : SpaceFault) → FailsLay m read.store new.store table before.way write v fault
          → CountsFault fault read.damage new.damage read.shortages new.shortages → new.damage ≡ read.damage
      at (space.Full limit) lay counts = counts.0
      at (space.Damaged it) lay counts = absurd (laid m places parts old t table write core given noted fits o
          h read before v ready stands new.store it before.way refl lay)
      at (space.Pool (faults.DiskRead n)) lay counts = counts.0
      at (space.Pool (faults.DiskWrite n)) lay counts = counts.0
      at (space.Pool (faults.Offline n)) lay counts = counts.0
      at (space.Pool (faults.Absent n)) lay counts =
          absurd (lay_there m read.store new.store table before.way write v n lay)
      at (space.Pool faults.Memory) lay counts = counts.0

  put_stands : (free : Core D) (wait : Bool) (rec : Option RecId) (refusal : Refusal) → IsFree m old free t table write wait rec
      → FailsPut m free new t table write (written_at table write) rec refusal → new.damage ≡ old.damage
  put_stands free wait rec refusal is (no_version told_) = ap count told_.1 ∙ ap count
      (free_read m parts.counts_now old core t table write free wait rec is).same
  put_stands free wait rec refusal is (no_before fails) =
      let begun = is.has_found.has_passed.has_begun.continues in
      at_befores m parts.counts_now old core t table write (shows begun).image (tables begun) (catalogs begun) (known begun)
      reads.befores free new wait rec refusal is fails
  put_stands free wait rec refusal is (no_lay read before v has fails) =
      kept_stands read before v refusal
      (record { free = free; wait = wait; rec = rec; is_free = is; has = has }) fails
      ∙ (read_stands m free read has.reads
      ∙ ap count (free_read m parts.counts_now old core t table write free wait rec is).same)

  pub failed : (refusal : Refusal) → FailsWrite m old new t table write refusal → new.damage ≡ old.damage
  failed refusal (not_begun is) = refused old new t.0 refusal is
  failed refusal (only_reads continues wait may) = ended old new t.0 wait
  failed refusal (at_table begun wait has stops) = at_tables m parts.counts_now old core t table write
      (shows has.continues).image (tables has.continues) (catalogs has.continues) (known has.continues) reads.tables begun new wait refusal
      has stops
  failed refusal (no_key passed wait has fails) =
      let begun = has.has_begun.continues in
      at_keys m parts.counts_now old core t table write (shows begun).image (tables begun) (catalogs begun) (known begun) reads.named
      (keyed begun) fits passed new wait refusal has fails
  failed refusal (at_row passed wait has some fails) =
      let begun = has.has_begun.continues in
      at_rows m parts.counts_now old core t table write (shows begun).image (tables begun) (catalogs begun) (known begun) reads.rows
      passed new wait refusal has fails
  failed refusal (at_record found wait rec has stops) =
      let begun = has.has_passed.has_begun.continues in
      at_records m parts.counts_now old core t table write (shows begun).image (tables begun) (catalogs begun) (known begun)
      reads.records found new wait rec refusal has stops
  failed refusal (not_put free wait rec is fails) = put_stands free wait rec refusal is fails

-- ---- the call

-- a row that is written
written : {D : Type 0} (m : Meaning D) (counts_now : CountsNow m) (old new : Core D) (t : TxNo) (table : Table)
    (write : Write) → IsCore m old → Writes m old new t table write → new.damage ≡ old.damage
written m counts_now old new t table write core writes = ap count writes.puts.laid.same
    ∙ (read_stands m writes.free writes.puts.read writes.puts.has.reads
    ∙ ap count (free_read m counts_now old core t table write writes.free writes.wait writes.rec writes.is_free).same)

pub writes : {D P : Type 0} (m : Meaning D) (places : Places P) → WriteParts m → ReadParts m → NotedWorksStay
    → NotedTablesAreKept → NotesStay D m → WritesMeetNone D m
writes m places parts reads works_stay kept notes_stay old new t table write (Ok x) core given fits writes_ o h
    stands told = written m parts.counts_now (with_noted t.0 table old) new t table write
    (noted_core works_stay m notes_stay old t table given core) writes_
writes m places parts reads works_stay kept notes_stay old new t table write (Err refusal) core given fits
    (noted_not is) o h stands told = refused old new t.0 refusal is
writes m places parts reads works_stay kept notes_stay old new t table write (Err refusal) core given fits
    (noted_memory continues wait is) o h stands told = ended old new t.0 wait
writes m places parts reads works_stay kept notes_stay old new t table write (Err refusal) core given fits
    (noted_fails fails) o h stands told = failed m places parts reads (with_noted t.0 table old) new t table write
    (noted_core works_stay m notes_stay old t table given core)
    (noted_given works_stay m notes_stay old t table given t.0 table.name ∙ given)
    (table_noted kept old t table given) fits o h (notes_stay old t.0 table o h given stands) told refusal
    fails
