-- A row that is written takes four pages at most, and eighteen for each index of its table: fewer than a row may take.
-- And so it is where it is refused.
use Rattle.std.proofs.Common.{◌≡◌, ◌∙◌, ◌≤◌, ◌+◌, ◌*◌, ℕ, List, Option, None, Some, Ok, Err, length, ap, subst, sym, arith}
use Rattle.mg_base.specs.Disk.{Meaning}
use Rattle.mg_base.specs.declared.numbers.TxNo.{TxNo}
use Rattle.mg_core.specs.Cores.{Continues, IsCore}
use Rattle.mg_core.specs.declared.parts.Core.{Core}
use Rattle.mg_engine_change_laws.specs.rows.BareTables.{given_bare}
use Rattle.mg_engine_change_laws.specs.memory.KeptTables.{NotedTablesAreKept, NotedWorksStay, NotesStay}
use Rattle.mg_engine_change_laws.specs.rows.NotedLaws.{noted_core, noted_given, table_noted}
use Rattle.mg_engine_meaning_laws.specs.Standings.{StandsFor}
use Rattle.mg_model.specs.History.{Entries}
use Rattle.mg_model.specs.declared.opening.Opening.{Opening}
use Rattle.mg_model.specs.declared.refusal.Refusal.{Refusal}
use Rattle.mg_model.specs.declared.table.Index.{Index}
use Rattle.mg_model.specs.declared.table.Table.{Table}
use Rattle.mg_records.specs.Room.{most_indexes, pages_of_row}
use Rattle.mg_records.specs.Writing.{FitsShape}
use Rattle.mg_records.specs.declared.write.Write.{Write}
use Rattle.mg_taking_back.specs.Noting.{FailsNoted, WritesNoted, noted_fails, noted_memory, noted_not, with_noted}
use Rattle.mg_works.specs.Works.{given_to}
use Rattle.mg_no_damage_laws.specs.CoreSpending.{TakesPages}
use Rattle.mg_no_damage_laws.specs.CoreSpendingLaws.{begun_else, else_takes, failed_takes, more_taken, stays_else, write_takes}
use Rattle.mg_no_damage_laws.specs.EntryTrees.{KnowsBatches, TreesAtStarts, stands_at_starts}
use Rattle.mg_no_damage_laws.specs.FewPagesCalls.{WritesTakeFew}
use Rattle.mg_no_damage_laws.specs.FewPagesLaws.{KnowsRoom, room_of}

-- What is known of writes: of tables that are kept, and of the batches before a version.
pub record KnowsWrites {D : Type 0} (m : Meaning D) : Type 0 where
  pub works_stay : NotedWorksStay
  pub kept : NotedTablesAreKept
  pub notes_stay : NotesStay D m
  pub batches : KnowsBatches m

-- so many indexes at most has a table that was given to a transaction; it has none
few_indexes : {D : Type 0} (m : Meaning D) (core : Core D) (o : Opening) (h : Entries) → StandsFor m core o h → (t : TxNo)
    → Continues core t.0 → (table : Table) → given_to core.works t.0 table.name ≡ Some table
    → length table.indexes ≤ most_indexes
few_indexes m core o h stands t continues table given = subst (λ (xs : List Index). length xs ≤ most_indexes)
    (sym (given_bare m core o h stands continues.0 t.0 continues.1 table given)) (omega arith)

module _ {D : Type 0} (m : Meaning D) (knows : KnowsRoom m) (writes : KnowsWrites m) (old new : Core D) (t : TxNo)
    (table : Table) (write : Write) (core : IsCore m old) (given : given_to old.works t.0 table.name ≡ Some table)
    (fits : FitsShape table.shape write) (o : Opening) (h : Entries)
    (stands : StandsFor m old o h) where
  its_core : IsCore m (with_noted t.0 table old)
  its_core = noted_core writes.works_stay m writes.notes_stay old t table given core

  its_trees : TreesAtStarts m (with_noted t.0 table old) t table write
  its_trees = stands_at_starts m writes.batches (with_noted t.0 table old) t table write o h its_core
      (noted_given writes.works_stay m writes.notes_stay old t table given t.0 table.name ∙ given)
      (table_noted writes.kept old t table given) fits (writes.notes_stay old t.0 table o h given stands)

  -- a table that is kept as written into changes no page
  from_noted : (refusal : Option Refusal) (most : ℕ) → TakesPages m (with_noted t.0 table old) new refusal most
      → TakesPages m old new refusal most
  from_noted refusal most it = record {
    spends = it.spends;
    enough = λ i shows. it.enough i (record { tells = shows.tells; regions = shows.regions; free = shows.free });
  }

  -- a table has so few indexes that a row may take as many pages
  less : Continues old t.0 → 4 + 18 * length table.indexes ≤ pages_of_row
  less continues = let few = few_indexes m old o h stands t continues table given in omega (arith, few)

  written_takes : WritesNoted m old new t table write → TakesPages m old new None pages_of_row
  written_takes it = from_noted None pages_of_row (more_taken m (with_noted t.0 table old) new None
      (4 + 18 * length table.indexes) pages_of_row (less it.is_free.has_found.has_passed.has_begun.continues) (write_takes m
      knows.holds knows.batches knows.counts_now (with_noted t.0 table old) its_core t table write knows.eighteen
      knows.there its_trees new it))

  -- it is not: the table is not kept, and nothing was read or changed; or the write is refused
  refused_takes : (refusal : Refusal) → FailsNoted m old new t table write refusal
      → TakesPages m old new (Some refusal) pages_of_row
  refused_takes refusal (noted_not refused) = else_takes m knows.holds old new refusal pages_of_row
      (begun_else m old new t.0 refusal refused)
  refused_takes refusal (noted_memory continues ended is) = else_takes m knows.holds old new refusal pages_of_row
      (stays_else m old new refusal (ap (λ (c : Core D). c.store) ended.same) (λ limit full. absurd cc))
  refused_takes refusal (noted_fails fails) = from_noted (Some refusal) pages_of_row (failed_takes m knows.holds
      knows.batches knows.counts_now (with_noted t.0 table old) its_core t table write knows.eighteen knows.there
      its_trees pages_of_row less new refusal fails)

pub writes_take_few : {D : Type 0} (m : Meaning D) → KnowsRoom m → KnowsWrites m → WritesTakeFew D m
writes_take_few m knows writes old new t table write (Ok x) core given fits it o h stands told =
    room_of m knows.holds old new core told None pages_of_row
    (written_takes m knows writes old new t table write core given fits o h stands it)
writes_take_few m knows writes old new t table write (Err refusal) core given fits fails o h stands told =
    room_of m knows.holds old new core told (Some refusal) pages_of_row
    (refused_takes m knows writes old new t table write core given fits o h stands refusal fails)
