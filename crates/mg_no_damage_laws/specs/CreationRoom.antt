-- A table is made, or is not: with c columns it takes 1 + 4 * (c + 1) pages at most, and is refused for want of pages
-- only where fewer than 5 + 4 * (c + 1) are free. Both are no more than a table may take.
use Rattle.std.proofs.Common.{◌≡◌, ◌+◌, ◌*◌, ℕ, Bool, true, List, length, Some, None, Ok, Err, sym, ap, subst, arith}
use Rattle.mg_base.specs.Disk.{Meaning}
use Rattle.mg_base.specs.declared.damage.Damaged.{Damaged}
use Rattle.mg_base.specs.declared.numbers.TxNo.{TxNo}
use Rattle.mg_core.specs.declared.parts.Core.{Core}
use Rattle.mg_core.specs.Cores.{IsCore}
use Rattle.mg_core.specs.Putting.{CountsOne}
use Rattle.mg_core.specs.Reading.{OnlyReads}
use Rattle.mg_core.specs.Writing.{HasBegun, WhyOfKey}
use Rattle.mg_engine_change_laws.specs.tables.MakingSteps.{MayHave}
use Rattle.mg_engine_change_laws.specs.memory.Notes.{HasRead}
use Rattle.mg_engine_change_laws.specs.rows.StopLaws.{ended_read, reads_on}
use Rattle.mg_engine_meaning_laws.specs.Meaning.{Places}
use Rattle.mg_engine_meaning_laws.specs.Standings.{StandsFor}
use Rattle.mg_model.specs.History.{Entries}
use Rattle.mg_model.specs.declared.opening.Opening.{Opening}
use Rattle.mg_model.specs.declared.refusal.Refusal.{Refusal}
use Rattle.mg_no_damage_laws.specs.CatalogGrowth.{CreationsGrowFew, HasGrown}
use Rattle.mg_space.specs.FreePages.{TakingKeepsRegions}
use Rattle.mg_pool.specs.declared.pool.Pool.{Pool}
use Rattle.mg_records.specs.Room.{pages_of_table}
use Rattle.mg_records.specs.declared.write.Write.TheVariants as writes
use Rattle.mg_space.specs.Taking.{IsGeometry}
use Rattle.mg_space.specs.declared.fault.SpaceFault.TheVariants as space
use Rattle.mg_space.specs.declared.links.FireLinks.{FireLinks}
use Rattle.mg_table_batch.specs.Making.{GrowsAsWanted}
use Rattle.mg_table_making.specs.Creating.{CreatesTable, FailsCreation, FailsMaking, FailsPut, MayBeMade, PutsTable, no_catalog, no_keys, not_begun, not_free, not_kept, not_made, not_put, only_reads}
use Rattle.mg_table_making.specs.Keys.{AreFreeKeys, FailsColumnKeys, FailsFree, FailsOwnKey, column_spoken, column_taken, column_unread, first_taken, free_more, free_none, keys_made, later_taken, out_of_place, own_hindered, own_seen, own_spoken, own_taken, own_unread}
use Rattle.mg_txlist.specs.TxList.{said}
use Rattle.mg_value.specs.declared.shape.Shape.{Shape}
use Rattle.mg_value.specs.declared.value.Value.{Value}
use Rattle.mg_value.specs.declared.value.Value.TheVariants.{Null}
use Rattle.mg_no_damage_laws.specs.CoreSpending.{TakesPages}
use Rattle.mg_no_damage_laws.specs.CoreSpendingLaws.{ReadsElse, after_read, counted_else, else_takes, read_first, refused_by, stays_else, stops_else, told_full, unread_else}
use Rattle.mg_no_damage_laws.specs.CreationTables.{table_fails, table_spends}
use Rattle.mg_no_damage_laws.specs.FewPagesCalls.{CreationsTakeFew}
use Rattle.mg_no_damage_laws.specs.FewPagesLaws.{KnowsRoom, room_of}
use Rattle.mg_free_page_laws.specs.SpendingLaws.{both_spend, more_spent, read_spends}

-- ---- the keys are read

module _ {D : Type 0} (m : Meaning D) (knows : KnowsRoom m) where
  -- damage is told and counted
  damaged_else : (old new : Core D) (it : Damaged) (refusal : Refusal) → CountsOne old new (space.Damaged it) refusal
      → ReadsElse m old new refusal
  damaged_else old new it refusal one = stays_else m old new refusal (ap (λ (c : Core D). c.store) one.same)
      (λ limit full. let is = one.is in absurd cc)

  -- after pages were read
  then_else : (old read new : Core D) (refusal : Refusal) → OnlyReads m old read → ReadsElse m read new refusal
      → ReadsElse m old new refusal
  then_else old read new refusal reads it = record {
    spends = both_spend m knows.holds old.store read.store new.store 0 0
        (read_spends m old.store read.store reads.keeps) it.spends;
    other = it.other;
  }

  own_else : (old new : Core D) (t : TxNo) (wait : Bool) (keys : ℕ) (key : Value) (refusal : Refusal)
      → FailsOwnKey m old new t wait keys key refusal → ReadsElse m old new refusal
  own_else old new t wait keys key refusal (own_unread fails) =
      unread_else m old new (WhyOfKey m old t old.catalog key) refusal fails
  own_else old new t wait keys key refusal (own_seen found reads some is) = record {
    spends = read_spends m old.store new.store reads.reads.keeps;
    other = λ limit full. absurd cc;
  }
  own_else old new t wait keys key refusal (own_hindered read found reads none stops) =
      then_else old read new refusal reads.reads
      (stops_else m knows.holds read new t.0 wait _ _ refusal stops)
  own_else old new t wait keys key refusal (own_spoken read passed found reads none some passes tells) =
      then_else old read new refusal reads.reads (then_else read passed new refusal passes.reads
      (damaged_else passed new (out_of_place passed.catalog.pointer.0 0 keys) refusal tells))

  columns_else : (t : TxNo) (count : ℕ) (new : Core D) (refusal : Refusal) (place : ℕ) (keys : List Value)
      (old : Core D) → FailsColumnKeys m t count new refusal place keys old → ReadsElse m old new refusal
  columns_else t count new refusal place keys old (first_taken at key more first (column_unread fails)) =
      unread_else m old new (WhyOfKey m old t old.catalog key) refusal fails
  columns_else t count new refusal place keys old
      (first_taken at key more first (column_spoken read found reads some tells)) =
      then_else old read new refusal reads.reads
      (damaged_else read new (out_of_place read.catalog.pointer.0 place count) refusal tells)
  columns_else t count new refusal place keys old (later_taken at key more first read free fails) =
      then_else old read new refusal free.reads.reads (columns_else t count new refusal (at + 1) more read fails)

  keys_else : (old new : Core D) (t : TxNo) (wait : Bool) (count : ℕ) (refusal : Refusal) (keys : List Value)
      → FailsFree m old new t wait count refusal keys → ReadsElse m old new refusal
  keys_else old new t wait count refusal keys (own_taken own more fails) =
      own_else old new t wait count own refusal fails
  keys_else old new t wait count refusal keys (column_taken own more later) =
      then_else old later.read new refusal later.free.reads.reads
      (columns_else t count new refusal 1 more later.read later.fails)

-- ---- the table is put

module _ {D P : Type 0} (m : Meaning D) (knows : KnowsRoom m) (keeps : TakingKeepsRegions)
    (few : CreationsGrowFew D P m) (places : Places P) (old new : Core D) (t : TxNo) (name : List ℕ) (shape : Shape)
    (core : IsCore m old) (may : MayHave m places old name shape) (o : Opening) (h : Entries)
    (stands : StandsFor m old o h) (told : m.tells old.store.disk ≡ true) where
  abbrev most : ℕ
  most = pages_of_table (length shape.columns)

  begun_on : (begun : Core D) (wait : Bool) → HasBegun old begun t wait → HasRead m old begun t.0
  begun_on begun wait has = ended_read m old begun t.0 core.pool has.ended

  all_on : (keys : List Value) (now free : Core D) → HasRead m old now t.0 → AreFreeKeys m t keys now free
      → HasRead m old free t.0
  all_on keys now free had (free_none c) = had
  all_on keys now free had (free_more key more first read last one rest) =
      all_on more read free (reads_on m knows.counts_now old now read t.0 had one.reads.reads) rest

  module _ (free : Core D) (made : MayBeMade m old free t name shape) where
    had : HasRead m old free t.0
    had = all_on (keys_made old.catalog.shape name shape) made.begun free
        (begun_on made.begun made.wait made.has_begun) made.are_free

    lawful : IsGeometry free.store.geometry
    lawful = subst IsGeometry (sym had.keeps.geometry) core.geometry

    grow : (count : ℕ) (grown : Pool D FireLinks)
        → GrowsAsWanted m free.catalog t.0 name shape count free.store grown
        → HasGrown m grown free.catalog t.0 name shape count
    grow count grown grows = few places old free t name shape core may made o h stands told count grown grows

    put_takes : PutsTable m free new t name shape (keys_made old.catalog.shape name shape)
        → TakesPages m old new None most
    put_takes puts = record {
      spends = more_spent m old.store new.store (0 + (1 + 4 * (length shape.columns + 1))) most (omega arith)
          (both_spend m knows.holds old.store free.store new.store 0 (1 + 4 * (length shape.columns + 1))
          (read_spends m old.store free.store had.keeps)
          (table_spends keeps m knows.holds knows.batches free.catalog t.0 name shape free.store lawful grow new.store
          puts.makes));
      enough = λ i shows limit full. absurd cc;
    }

    making_takes : (refusal : Refusal)
        → FailsMaking m free new t name shape (keys_made old.catalog.shape name shape) refusal
        → TakesPages m free new (Some refusal) most
    making_takes refusal fails =
        let it = table_fails keeps m knows.holds knows.batches free.catalog t.0 name shape free.store lawful grow
        new.store fails.fault most (omega arith) fails.fails in record {
          spends = it.0;
          enough = λ i shows limit full. let is = told_full fails.fault refusal limit fails.is (cc full) in
              it.1 lawful i shows.tells shows.regions shows.free is.0 is.1;
        }

    unput_takes : (refusal : Refusal)
        → FailsPut m free new t name shape (keys_made old.catalog.shape name shape) refusal
        → TakesPages m old new (Some refusal) most
    unput_takes refusal (no_catalog zero_ counts) = else_takes m knows.holds old new refusal most
        (read_first m knows.holds old free new t.0 refusal had (counted_else m free new refusal counts))
    unput_takes refusal (not_kept fails) = else_takes m knows.holds old new refusal most
        (read_first m knows.holds old free new t.0 refusal had
        (stays_else m free new refusal (ap (λ (c : Core D). c.store) fails.same)
        (λ limit full. let is = fails.is in absurd cc)))
    unput_takes refusal (not_made fails) = after_read m knows.holds knows.batches knows.counts_now old core t
        old.catalog (writes.Erase Null) free new (Some refusal) most (read_spends m old.store free.store had.keeps)
        (making_takes refusal fails)

  -- ---- the call

  created_takes : CreatesTable m old new t name shape → TakesPages m old new None most
  created_takes creates = put_takes creates.free creates.may creates.puts

  failed_takes : (refusal : Refusal) → FailsCreation m old new t name shape refusal
      → TakesPages m old new (Some refusal) most
  failed_takes refusal (not_begun is) = else_takes m knows.holds old new refusal most
      (stays_else m old new refusal (ap (λ (c : Core D). c.store) is.wait.same)
      (refused_by old.store.offline (said old.list t.0) refusal is.refuses))
  failed_takes refusal (only_reads continues wait only) = else_takes m knows.holds old new refusal most
      (stays_else m old new refusal (ap (λ (c : Core D). c.store) wait.same)
      (λ limit full. let is = only.is in absurd cc))
  failed_takes refusal (no_keys begun wait has fails) = else_takes m knows.holds old new refusal most
      (read_first m knows.holds old begun new t.0 refusal (begun_on begun wait has)
      (stays_else m begun new refusal (ap (λ (c : Core D). c.store) fails.1)
      (λ limit full. let is = fails.0 in absurd cc)))
  failed_takes refusal (not_free begun wait has fails) = else_takes m knows.holds old new refusal most
      (read_first m knows.holds old begun new t.0 refusal (begun_on begun wait has)
      (keys_else m knows begun new t wait (length (keys_made old.catalog.shape name shape)) refusal
      (keys_made old.catalog.shape name shape) fails))
  failed_takes refusal (not_put free made fails) = unput_takes free made refusal fails

pub creations_take_few : {D P : Type 0} (m : Meaning D) → KnowsRoom m → TakingKeepsRegions → CreationsGrowFew D P m
    → CreationsTakeFew D P m
creations_take_few m knows keeps few places old new t name shape (Ok x) core may creates o h stands told =
    room_of m knows.holds old new core told None (pages_of_table (length shape.columns))
    (created_takes m knows keeps few places old new t name shape core may o h stands told creates)
creations_take_few m knows keeps few places old new t name shape (Err refusal) core may fails o h stands told =
    room_of m knows.holds old new core told (Some refusal) (pages_of_table (length shape.columns))
    (failed_takes m knows keeps few places old new t name shape core may o h stands told refusal fails)
