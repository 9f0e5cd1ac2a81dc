-- A change is taken back.
use Rattle.std.proofs.Common.{◌≡◌, ℕ, Some, Result, Ok, Err, ap, refl, subst, sym, ◌∙◌}
use Rattle.std.specs.Prelude.{MatchResult}
use Rattle.mg_base.specs.Disk.{Meaning}
use Rattle.mg_model.specs.declared.refusal.Refusal.{Refusal}
use Rattle.mg_model.specs.declared.table.Table.{Table}
use Rattle.mg_pool.specs.declared.pool.Pool.{Pool}
use Rattle.mg_batches.specs.Batches.{not_lawful}
use Rattle.mg_space.specs.declared.fault.SpaceFault.{SpaceFault}
use Rattle.mg_space.specs.declared.fault.SpaceFault.TheVariants as faults
use Rattle.mg_space.specs.declared.links.FireLinks.{FireLinks}
use Rattle.mg_txlist.specs.TxList.{said}
use Rattle.mg_undo.specs.declared.changes.Change.{Change}
use Rattle.mg_core.specs.declared.parts.Core.{Core}
use Rattle.mg_core.specs.Refusing.{CountsFault, IsRefusal, NamesLimit}
use Rattle.mg_taking_back.specs.Changes.{FailsChange, FailsPages, TakesChange, change_not_taken, change_of_none, pages_not_taken, pages_of_none, table_back}
use Rattle.mg_taking_back.specs.Keys.{FailsKey, TakesKey}

-- the pages of an engine were changed so
pub pages_come : {D : Type 0} (m : Meaning D) (old : Core D) (after : Pool D FireLinks) (t : ℕ) (c : Change)
    (table : Table) (result : Result (Unit {0}) SpaceFault)
    → table_back old.catalog old.works t c.table ≡ Some table
    → MatchResult result (λ _. TakesKey m old.store after (said old.list) old.live t table c.key c.was)
    (FailsKey m old.store after (said old.list) old.live t table c.key c.was)
    → MatchResult result (λ _. TakesChange m old (record old { store = after }) t c)
    (FailsPages m old (record old { store = after }) t c)
pages_come m old after t c table (Ok x) found given =
    record { table = table; found = found; takes = given; same = refl }
pages_come m old after t c table (Err fault) found given = pages_not_taken table found given refl

-- a fault on the pages is told
pub fault_told_of : {D : Type 0} (m : Meaning D) (old read new : Core D) (t : ℕ) (c : Change) (fault : SpaceFault)
    (refusal : Refusal) → FailsPages m old read t c fault → IsRefusal fault refusal
    → NamesLimit new.store.geometry.limit refusal
    → CountsFault fault read.damage new.damage read.shortages new.shortages
    → new ≡ record read { damage = new.damage; shortages = new.shortages } → FailsChange m old new t c refusal
fault_told_of {D} m old read new t c fault refusal (pages_of_none none is same) told names counts counted =
    change_of_none none (record {
      is = subst (λ (f : SpaceFault). IsRefusal f refusal) is told;
      counts = subst (λ (k : Core D). CountsFault (faults.Damaged not_lawful) k.damage new.damage k.shortages new.shortages) same
          (subst (λ (f : SpaceFault). CountsFault f read.damage new.damage read.shortages new.shortages) is counts);
      same = counted ∙ ap (λ (k : Core D). record k { damage = new.damage; shortages = new.shortages }) same;
    })
fault_told_of {D} m old read new t c fault refusal (pages_not_taken table found fails same) told names counts counted =
    change_not_taken table (record {
      found = found;
      fault = fault;
      fails = subst (λ (s : Pool D FireLinks). FailsKey m old.store s (said old.list) old.live t table c.key c.was fault)
          (sym stored) fails;
      is = told;
      names = names;
      counts = subst (λ (k : Core D). CountsFault fault k.damage new.damage k.shortages new.shortages) same counts;
      same = whole;
    })
  where
    stored : new.store ≡ read.store
    stored = ap (λ (k : Core D). k.store) counted

    whole : new ≡ record old { store = new.store; damage = new.damage; shortages = new.shortages }
    whole = counted ∙ (ap (λ (k : Core D). record k { damage = new.damage; shortages = new.shortages }) same
        ∙ ap (λ (s : Pool D FireLinks). record old { store = s; damage = new.damage; shortages = new.shortages })
        (sym stored))
