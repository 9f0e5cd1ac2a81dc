-- What the store is after changes were taken back, one after another.
use Rattle.std.proofs.Common.{◌≡◌, ℕ, List, Option, None, Some, refl, ap, ◌∙◌}
use Rattle.mg_base.specs.Disk.{Meaning}
use Rattle.mg_base.specs.declared.numbers.RecId.{RecId}
use Rattle.mg_core.specs.declared.parts.Core.{Core}
use Rattle.mg_engine_change_laws.specs.rows.MadeLaws.{StoreOn, on_then, own_on, read_on, row_on}
use Rattle.mg_model.specs.declared.table.Table.{Table}
use Rattle.mg_pool.specs.Pool.{IsPool}
use Rattle.mg_pool.specs.declared.pool.Pool.{Pool}
use Rattle.mg_records.specs.declared.write.Write.{Write}
use Rattle.mg_space.specs.ViewLaws.{keeps_itself}
use Rattle.mg_space.specs.declared.links.FireLinks.{FireLinks}
use Rattle.mg_taking_back.specs.Changes.{TakesChange}
use Rattle.mg_taking_back.specs.Keys.{PutsBack, former}
use Rattle.mg_taking_back.specs.Taking.{TakesChanges, takes_none, takes_one}
use Rattle.mg_undo.specs.declared.changes.Change.{Change}

-- The store has gone on, and nothing else has changed.
pub record HasTaken {D : Type 0} (m : Meaning D) (old new : Core D) : Type 0 where
  pub on : StoreOn m old.store new.store
  pub pool : IsPool m new.store
  pub same : new ≡ record old { store = new.store }

module _ {D : Type 0} (m : Meaning D) (t : ℕ) where
  puts_on : (a b : Pool D FireLinks) (table : Table) (rec : RecId) (write : Option Write)
      → a.offline ≡ None → PutsBack m a b t table rec write → StoreOn m a b
  puts_on a b table rec None up takes = own_on m a b _ takes
  puts_on a b table rec (Some write) up puts = on_then m a puts.enters.entered b
      (row_on m a puts.enters.entered table rec write up puts.enters.enters)
      (own_on m puts.enters.entered b _ puts.enters.lays)

  puts_pool : (a b : Pool D FireLinks) (table : Table) (rec : RecId) (write : Option Write)
      → PutsBack m a b t table rec write → IsPool m b
  puts_pool a b table rec None takes = takes.changed.pool
  puts_pool a b table rec (Some write) puts = puts.enters.lays.changed.pool

  key_taken : (old new : Core D) (c : Change) → TakesChange m old new t c → HasTaken m old new
  key_taken old new c step = record {
    on = on_then m old.store step.takes.ready new.store
        (read_on m old.store step.takes.ready step.takes.keeps step.takes.online.1)
        (puts_on step.takes.ready new.store step.table step.takes.rec (former c.key c.was) step.takes.online.1
        step.takes.puts);
    pool = puts_pool step.takes.ready new.store step.table step.takes.rec (former c.key c.was) step.takes.puts;
    same = step.same;
  }

  -- so it is after all of them
  pub keys_taken : (old new : Core D) (given : List Change) → old.store.offline ≡ None → IsPool m old.store
      → TakesChanges m t old given new → HasTaken m old new
  keys_taken old new given up pool takes_none = record {
    on = read_on m old.store old.store (keeps_itself m old.store pool) up;
    pool = pool;
    same = refl;
  }
  keys_taken old new given up pool (takes_one {given = rest} mid c step more) =
      let first : HasTaken m old mid = key_taken old mid c step in
      let later : HasTaken m mid new = keys_taken mid new rest first.on.online first.pool more in record {
        on = on_then m old.store mid.store new.store first.on later.on;
        pool = later.pool;
        same = later.same ∙ ap (λ (x : Core D). record x { store = new.store }) first.same;
      }
