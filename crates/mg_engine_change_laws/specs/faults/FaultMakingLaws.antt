-- What is told of the disk's faults as a table is made.
use Rattle.std.proofs.Common.{◌≡◌, inl, inr, ℕ, ◌+◌, Bool, false, List, Some, refl, ap, ◌∙◌}
use Rattle.mg_base.specs.Disk.{Meaning}
use Rattle.mg_base.specs.declared.numbers.TxNo.{TxNo}
use Rattle.mg_model.specs.declared.refusal.Refusal.{Refusal}
use Rattle.mg_model.specs.declared.table.Table.{Table}
use Rattle.mg_pool.specs.declared.pool.Pool.{Pool}
use Rattle.mg_batches.specs.Batches.{not_lawful}
use Rattle.mg_space.specs.declared.fault.SpaceFault.{SpaceFault}
use Rattle.mg_space.specs.declared.fault.SpaceFault.TheVariants as space
use Rattle.mg_space.specs.declared.links.FireLinks.{FireLinks}
use Rattle.mg_table_batch.specs.Making.{FailsTable, FailsTry, GrowsAsWanted, MakesTable, at_try, gets_one, has_enough, no_page, not_at_once, wants_more, most_pages}
use Rattle.mg_value.specs.declared.shape.Shape.{Shape}
use Rattle.mg_value.specs.declared.value.Value.{Value}
use Rattle.mg_core.specs.declared.parts.Core.{Core}
use Rattle.mg_core.specs.Obstacles.{IsOfRecord}
use Rattle.mg_core.specs.Writing.{WhyOfKey}
use Rattle.mg_table_making.specs.Creating.{CreatesTable, FailsCreation, FailsKeys, FailsPut, MayBeMade, no_catalog, no_keys, not_begun, not_free, not_kept, not_made, not_put, only_reads}
use Rattle.mg_table_making.specs.Keys.{AreFreeKeys, FailsColumnKey, FailsColumnKeys, FailsFree, FailsOwnKey, IsFreeKey, column_spoken, column_taken, column_unread, first_taken, free_more, free_none, keys_made, later_taken, out_of_place, own_hindered, own_seen, own_spoken, own_taken, own_unread}
use Rattle.mg_engine_change_laws.specs.faults.FaultCoreLaws.{count, counted, ended, not_read, passes_stand, refused}
use Rattle.mg_engine_change_laws.specs.faults.FaultPageLaws.{is_none, met, own_stands, own_told}
use Rattle.mg_faults.specs.Faults.{FaultCount}
use Rattle.mg_engine_change_laws.specs.faults.Told.{Stands, TellsRise, is_disks}
use Rattle.mg_engine_change_laws.specs.faults.FaultWriteLaws.{begun_stands, read_stands, record_told}

-- ---- on the pages

module _ {D : Type 0} (m : Meaning D) (k : FaultCount) (catalog : Table) (t : ℕ) (name : List ℕ) (shape : Shape) where
  grows_stand : (wanted : ℕ) (a b : Pool D FireLinks) → GrowsAsWanted m catalog t name shape wanted a b
      → Stands m k a b
  grows_stand wanted a b (has_enough store) = refl
  grows_stand wanted a b (gets_one fewer first mid last grows gets) =
      own_stands m k gets.ready b gets.grows
      ∙ (met m k mid gets.ready gets.wants.online ∙ grows_stand fewer a mid grows)

  pub makes_stand : (a b : Pool D FireLinks) → MakesTable m catalog t name shape a b → Stands m k a b
  makes_stand a b makes = own_stands m k makes.grown b makes.makes ∙ grows_stand makes.count a makes.grown makes.grows

  try_told : (a b : Pool D FireLinks) (fault : SpaceFault) → FailsTry m catalog t name shape a b fault
      → is_disks k fault ≡ false → Stands m k a b
  try_told a b fault (not_at_once fails) quiet = own_told m k a b fault fails quiet
  try_told a b fault (no_page ready wants fails) quiet =
      own_told m k ready b fault fails quiet ∙ met m k a ready wants.online

  pub making_told : (a b : Pool D FireLinks) (fault : SpaceFault) → FailsTable m catalog t name shape a b fault
      → is_disks k fault ≡ false → Stands m k a b
  making_told a b fault (at_try grown wanted grows fails) quiet =
      try_told grown b fault fails quiet ∙ grows_stand wanted a grown grows
  making_told a b fault (wants_more grows is) quiet = grows_stand most_pages a b grows

module _ {D : Type 0} (m : Meaning D) (k : FaultCount) where
  -- ---- the keys

  free_stands : (old new : Core D) (t : TxNo) (key : Value) → IsFreeKey m old new t key
      → Stands m k old.store new.store
  free_stands old new t key free = read_stands m k old new t old.catalog key free.found free.reads

  all_free : (t : TxNo) (keys : List Value) (old new : Core D) → AreFreeKeys m t keys old new
      → Stands m k old.store new.store
  all_free t keys old new (free_none core) = refl
  all_free t keys old new (free_more key more first read last free rest) =
      all_free t more read new rest ∙ free_stands old read t key free

  own_key_told : (old new : Core D) (t : TxNo) (wait : Bool) (columns : ℕ) (key : Value) (refusal : Refusal)
      → FailsOwnKey m old new t wait columns key refusal → TellsRise m k old new (Some refusal)
  own_key_told old new t wait columns key refusal (own_unread fails) quiet =
      not_read m k old new (WhyOfKey m old t old.catalog key) refusal fails quiet
  own_key_told old new t wait columns key refusal (own_seen found reads some is) quiet =
      read_stands m k old new t old.catalog key found reads
  own_key_told old new t wait columns key refusal (own_hindered read found reads none stops) quiet =
      record_told m k read new t wait found.rec refusal stops quiet
      ∙ read_stands m k old read t old.catalog key found reads
  own_key_told old new t wait columns key refusal (own_spoken read passed found reads none some passes tells) quiet =
      counted m k passed new (space.Damaged (out_of_place passed.catalog.pointer.0 0 columns)) refusal tells
      ∙ (passes_stand m k read passed t.0 wait (IsOfRecord read t found.rec) passes
      ∙ read_stands m k old read t old.catalog key found reads)

  column_told : (old new : Core D) (t : TxNo) (place columns : ℕ) (key : Value) (refusal : Refusal)
      → FailsColumnKey m old new t place columns key refusal → TellsRise m k old new (Some refusal)
  column_told old new t place columns key refusal (column_unread fails) quiet =
      not_read m k old new (WhyOfKey m old t old.catalog key) refusal fails quiet
  column_told old new t place columns key refusal (column_spoken read found reads some tells) quiet =
      counted m k read new (space.Damaged (out_of_place read.catalog.pointer.0 place columns)) refusal tells
      ∙ read_stands m k old read t old.catalog key found reads

  columns_told : (t : TxNo) (columns : ℕ) (new : Core D) (refusal : Refusal) (place : ℕ) (keys : List Value)
      (old : Core D) → FailsColumnKeys m t columns new refusal place keys old → TellsRise m k old new (Some refusal)
  columns_told t columns new refusal place keys old (first_taken at key more first fails) quiet =
      column_told old new t place columns key refusal fails quiet
  columns_told t columns new refusal place keys old (later_taken at key more first read free fails) quiet =
      columns_told t columns new refusal (place + 1) more read fails quiet ∙ free_stands old read t key free

  keys_told : (old new : Core D) (t : TxNo) (wait : Bool) (columns : ℕ) (refusal : Refusal) (keys : List Value)
      → FailsFree m old new t wait columns refusal keys → TellsRise m k old new (Some refusal)
  keys_told old new t wait columns refusal keys (own_taken own more fails) quiet =
      own_key_told old new t wait columns own refusal fails quiet
  keys_told old new t wait columns refusal keys (column_taken own more later) quiet =
      columns_told t columns new refusal 1 more later.read later.fails quiet
      ∙ free_stands old later.read t own later.free

  -- ---- the whole

  made_free : (old free : Core D) (t : TxNo) (name : List ℕ) (shape : Shape) → MayBeMade m old free t name shape
      → Stands m k old.store free.store
  made_free old free t name shape may =
      all_free t (keys_made old.catalog.shape name shape) may.begun free may.are_free
      ∙ begun_stands m k old may.begun t may.wait may.has_begun

  pub creates_stand : (old new : Core D) (t : TxNo) (name : List ℕ) (shape : Shape)
      → CreatesTable m old new t name shape → Stands m k old.store new.store
  creates_stand old new t name shape creates =
      makes_stand m k creates.free.catalog t.0 name shape creates.free.store new.store creates.puts.makes
      ∙ made_free old creates.free t name shape creates.may

  no_keys_stand : (old new : Core D) (refusal : Refusal) → FailsKeys old new refusal → Stands m k old.store new.store
  no_keys_stand old new refusal tells = ap (count m k) tells.1

  put_told : (old new : Core D) (t : TxNo) (name : List ℕ) (shape : Shape) (keys : List Value) (refusal : Refusal)
      → FailsPut m old new t name shape keys refusal → TellsRise m k old new (Some refusal)
  put_told old new t name shape keys refusal (no_catalog zero counts) quiet =
      counted m k old new (space.Damaged not_lawful) refusal counts
  put_told old new t name shape keys refusal (not_kept fails) quiet = ap (count m k) fails.same
  put_told old new t name shape keys refusal (not_made fails) quiet =
      making_told m k old.catalog t.0 name shape old.store new.store fails.fault fails.fails
      (is_none k fails.fault refusal fails.is quiet)

  pub creation_told : (old new : Core D) (t : TxNo) (name : List ℕ) (shape : Shape) (refusal : Refusal)
      → FailsCreation m old new t name shape refusal → TellsRise m k old new (Some refusal)
  creation_told old new t name shape refusal (not_begun is) quiet = refused m k old new t.0 refusal is
  creation_told old new t name shape refusal (only_reads continues wait may) quiet = ended m k old new t.0 wait
  creation_told old new t name shape refusal (no_keys begun wait has fails) quiet =
      no_keys_stand begun new refusal fails ∙ begun_stands m k old begun t wait has
  creation_told old new t name shape refusal (not_free begun wait has fails) quiet =
      keys_told begun new t wait _ refusal (keys_made old.catalog.shape name shape) fails quiet
      ∙ begun_stands m k old begun t wait has
  creation_told old new t name shape refusal (not_put free may fails) quiet =
      put_told free new t name shape (keys_made old.catalog.shape name shape) refusal fails quiet
      ∙ made_free old free t name shape may
