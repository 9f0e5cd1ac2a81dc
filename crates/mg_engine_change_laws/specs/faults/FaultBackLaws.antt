-- What is told of the disk's faults as a transaction is taken back.
use Rattle.std.proofs.Common.{◌≡◌, ℕ, Bool, true, false, List, Option, None, Some, refl, ap, ◌∙◌}
use Rattle.mg_base.specs.Disk.{Meaning}
use Rattle.mg_base.specs.declared.numbers.RecId.{RecId}
use Rattle.mg_base.specs.declared.transaction.TxState.{TxState}
use Rattle.mg_model.specs.declared.change.Point.{Point}
use Rattle.mg_model.specs.declared.refusal.Refusal.{Refusal}
use Rattle.mg_model.specs.declared.table.Table.{Table}
use Rattle.mg_pool.specs.declared.pool.Pool.{Pool}
use Rattle.mg_records.specs.TakingBack.{is_given_up}
use Rattle.mg_records.specs.declared.write.Write.{Write}
use Rattle.mg_batches.specs.Batches.{not_lawful}
use Rattle.mg_row_writes.specs.Changing.{FailsReplacing, ReplacesNewest}
use Rattle.mg_snap.specs.Live.{State}
use Rattle.mg_space.specs.declared.fault.SpaceFault.{SpaceFault}
use Rattle.mg_space.specs.declared.fault.SpaceFault.TheVariants as space
use Rattle.mg_space.specs.declared.links.FireLinks.{FireLinks}
use Rattle.mg_undo.specs.Undo.{State as Undo}
use Rattle.mg_undo.specs.Machine.{going_to}
use Rattle.mg_undo.specs.declared.changes.Change.{Change}
use Rattle.mg_undo.specs.declared.changes.Was.{Was}
use Rattle.mg_value.specs.declared.value.Value.{Value}
use Rattle.mg_core.specs.declared.parts.Core.{Core}
use Rattle.mg_taking_back.specs.Changes.{FailsChange, TakesChange, change_not_taken, change_of_none}
use Rattle.mg_taking_back.specs.Keys.{FailsKey, FailsPuttingBack, PutsBack, TakesKey, former, former_key_long, former_long, former_memory, former_not_put, former_unfit, key_not_put, key_unfit, key_unread}
use Rattle.mg_taking_back.specs.Taking.{FailsBackTo, FailsFrom, GivesUpBy, GivesUpIf, StopsTaking, TakesBackFrom, TakesBackTo, TakesChanges, back_not_begun, back_not_copied, back_stopped, not_asking, takes_none, takes_one}
use Rattle.mg_engine_change_laws.specs.faults.FaultCoreLaws.{count, counted, ended, refused}
use Rattle.mg_engine_change_laws.specs.faults.FaultPageLaws.{is_none, met, own_stands, own_told, then_stands, then_told, told}
use Rattle.mg_faults.specs.Faults.{FaultCount}
use Rattle.mg_engine_change_laws.specs.faults.Told.{Stands, TellsRise, disk_count, is_disks}

module _ {D : Type 0} (m : Meaning D) (k : FaultCount) where
  same_pool : (a b : Pool D FireLinks) → b ≡ a → Stands m k a b
  same_pool a b same = ap (λ (p : Pool D FireLinks). disk_count m k p.disk) same

  -- ---- a key

  puts_stand : (a b : Pool D FireLinks) (t : ℕ) (table : Table) (rec : RecId) (write : Option Write)
      → PutsBack m a b t table rec write → Stands m k a b
  puts_stand a b t table rec None puts = own_stands m k a b puts
  puts_stand a b t table rec (Some write) puts = then_stands m k a b table rec write
      (λ e. ReplacesNewest m e b rec puts.version) (λ e own. own_stands m k e b own) puts.enters

  puts_told : (a b : Pool D FireLinks) (t : ℕ) (table : Table) (rec : RecId) (write : Option Write)
      (fault : SpaceFault) → FailsPuttingBack m a b t table rec write fault → is_disks k fault ≡ false → Stands m k a b
  puts_told a b t table rec None fault fails quiet = own_told m k a b fault fails quiet
  puts_told a b t table rec (Some write) fault (former_unfit not is same) quiet = same_pool a b same
  puts_told a b t table rec (Some write) fault (former_memory is same) quiet = same_pool a b same
  puts_told a b t table rec (Some write) fault (former_long v stored not is same) quiet = same_pool a b same
  puts_told a b t table rec (Some write) fault (former_key_long not is same) quiet = same_pool a b same
  puts_told a b t table rec (Some write) fault (former_not_put v stored may short fails) quiet = then_told m k a b table
      rec write (λ e given. FailsReplacing m e b rec v given) fault (λ e own. own_told m k e b fault own) fails quiet

  key_stands : (a b : Pool D FireLinks) (state : ℕ → TxState) (live : State) (t : ℕ) (table : Table) (key : Value)
      (was : Was) → TakesKey m a b state live t table key was → Stands m k a b
  key_stands a b state live t table key was takes =
      puts_stand takes.ready b t table takes.rec (former key was) takes.puts ∙ met m k a takes.ready takes.online

  key_told : (a b : Pool D FireLinks) (state : ℕ → TxState) (live : State) (t : ℕ) (table : Table) (key : Value)
      (was : Was) (fault : SpaceFault) → FailsKey m a b state live t table key was fault → is_disks k fault ≡ false
      → Stands m k a b
  key_told a b state live t table key was fault (key_unfit not is same) quiet = same_pool a b same
  key_told a b state live t table key was fault (key_unread keeps reads tells why) quiet =
      told m k (Unit {0}) a b fault tells quiet
  key_told a b state live t table key was fault (key_not_put rec ready keeps online own fails) quiet =
      puts_told ready b t table rec (former key was) fault fails quiet ∙ met m k a ready online

  -- ---- key by key

  change_stands : (old new : Core D) (t : ℕ) (c : Change) → TakesChange m old new t c → Stands m k old.store new.store
  change_stands old new t c takes = key_stands old.store new.store _ old.live t takes.table c.key c.was takes.takes

  pub change_told : (old new : Core D) (t : ℕ) (c : Change) (refusal : Refusal) → FailsChange m old new t c refusal
      → TellsRise m k old new (Some refusal)
  change_told old new t c refusal (change_of_none none counts) quiet =
      counted m k old new (space.Damaged not_lawful) refusal counts
  change_told old new t c refusal (change_not_taken table fails) quiet =
      key_told old.store new.store _ old.live t table c.key c.was fails.fault fails.fails
      (is_none k fails.fault refusal fails.is quiet)

  pub changes_stand : (t : ℕ) (old new : Core D) (given : List Change) → TakesChanges m t old given new
      → Stands m k old.store new.store
  changes_stand t old new given takes_none = refl
  changes_stand t old new given (takes_one {given = rest} mid c one more) =
      changes_stand t mid new rest more ∙ change_stands old mid t c one

  stops_told : (old new : Core D) (t : ℕ) (start : Undo) (refusal : Refusal)
      → StopsTaking m old new t start refusal → TellsRise m k old new (Some refusal)
  stops_told old new t start refusal stops quiet =
      change_told stops.at new t stops.change refusal stops.fails quiet
      ∙ changes_stand t old stops.at stops.given stops.takes

  -- ---- to a point

  pub given_up : (old new : Core D) (t : ℕ) (refusal : Refusal) → GivesUpBy old new t refusal
      → Stands m k old.store new.store
  given_up old new t refusal gives = at (is_given_up refusal) gives
    where
      at : (b : Bool) → GivesUpIf b old new t → Stands m k old.store new.store
      at true rolled = ap (count m k) rolled.same
      at false same = ap (count m k) same

  from_stands : (begun new : Core D) (t : ℕ) (start : Undo) → TakesBackFrom m begun new t start
      → Stands m k begun.store new.store
  from_stands begun new t start takes = ap (count m k) takes.same
      ∙ changes_stand t (not_asking t begun) takes.taken takes.takes.given takes.takes.takes

  from_told : (begun new : Core D) (t : ℕ) (start : Undo) (refusal : Refusal) → FailsFrom m begun new t start refusal
      → TellsRise m k begun new (Some refusal)
  from_told begun new t start refusal fails quiet = given_up fails.stopped new t refusal fails.gives_up
      ∙ stops_told (not_asking t begun) fails.stopped t start refusal fails.stops quiet

  pub back_stands : (old new : Core D) (t : ℕ) (point : Point) → TakesBackTo m old new t point
      → Stands m k old.store new.store
  back_stands old new t point takes = from_stands takes.begun new t (going_to takes.undo point) takes.takes
      ∙ ended m k old takes.begun t takes.has_begun.ended

  pub back_told : (old new : Core D) (t : ℕ) (point : Point) (refusal : Refusal)
      → FailsBackTo m old new t point refusal → TellsRise m k old new (Some refusal)
  back_told old new t point refusal (back_not_begun is) quiet = refused m k old new t refusal is
  back_told old new t point refusal (back_not_copied begun continues wait is gives) quiet =
      given_up begun new t refusal gives ∙ ended m k old begun t wait
  back_told old new t point refusal (back_stopped begun undo has reaches fails) quiet =
      from_told begun new t (going_to undo point) refusal fails quiet ∙ ended m k old begun t has.ended
