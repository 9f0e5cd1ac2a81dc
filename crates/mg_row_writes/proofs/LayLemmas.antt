-- The batches of a way, one after another.
use Rattle.std.proofs.Common.{◌≡◌, Result, Ok, Err, refl, subst, sym}
use Rattle.std.specs.Prelude.{MatchResult}
use Rattle.mg_base.specs.Disk.{Meaning}
use Rattle.mg_base.specs.declared.numbers.RecId.{RecId}
use Rattle.mg_model.specs.declared.table.Table.{Table}
use Rattle.mg_pool.specs.declared.pool.Pool.{Pool}
use Rattle.mg_records.specs.declared.write.Write.{Write}
use Rattle.mg_space.specs.declared.fault.SpaceFault.{SpaceFault}
use Rattle.mg_space.specs.declared.links.FireLinks.{FireLinks}
use Rattle.mg_version.specs.declared.cell.Version.{Version}
use Rattle.mg_row_writes.specs.Changing.{FailsFirst, FailsOver, FailsReplacing, MakesFirst, PushesOver, ReplacesNewest, TakesNewestOut, TakesPlace}
use Rattle.mg_row_writes.specs.Laying.{EntersFirst, EntersOver, EntersOwn, EntersRow, FailsEnterFirst, FailsEnterOver, FailsEnterOwn, FailsLay, FailsNew, FailsOverDead, LaysIn, LaysOverDead, no_first, not_pushed, not_put_in, told_of}
use Rattle.mg_row_writes.specs.declared.before.Way.{Way}
use Rattle.mg_row_writes.specs.declared.before.Way.TheVariants as ways

-- a record is made once its entries are laid
pub entered_first : {D : Type 0} (m : Meaning D) (before entered after : Pool D FireLinks) (table : Table) (at : RecId)
    (write : Write) (v : Version) (result : Result (Unit {0}) SpaceFault) → EntersRow m before entered table at write
    → MatchResult result (λ _. MakesFirst m entered after table.pointer.0 at v) (FailsFirst m entered after table.pointer.0 at v)
    → MatchResult result (λ _. EntersFirst m before after table at write v)
    (FailsEnterFirst m before after table at write v)
entered_first m before entered after table at write v (Ok x) enters lays =
    record { entered = entered; enters = enters; lays = lays }
entered_first m before entered after table at write v (Err fault) enters failed = not_put_in entered enters failed

-- a version is pushed once they are
pub entered_over : {D : Type 0} (m : Meaning D) (before entered after : Pool D FireLinks) (table : Table) (rec : RecId)
    (write : Write) (v : Version) (result : Result (Unit {0}) SpaceFault) → EntersRow m before entered table rec write
    → MatchResult result (λ _. PushesOver m entered after rec v) (FailsOver m entered after rec v)
    → MatchResult result (λ _. EntersOver m before after table rec write v)
    (FailsEnterOver m before after table rec write v)
entered_over m before entered after table rec write v (Ok x) enters lays =
    record { entered = entered; enters = enters; lays = lays }
entered_over m before entered after table rec write v (Err fault) enters failed = not_put_in entered enters failed

-- or replaced
pub entered_own : {D : Type 0} (m : Meaning D) (before entered after : Pool D FireLinks) (table : Table) (rec : RecId)
    (write : Write) (v : Version) (result : Result (Unit {0}) SpaceFault) → EntersRow m before entered table rec write
    → MatchResult result (λ _. ReplacesNewest m entered after rec v) (FailsReplacing m entered after rec v)
    → MatchResult result (λ _. EntersOwn m before after table rec write v)
    (FailsEnterOwn m before after table rec write v)
entered_own m before entered after table rec write v (Ok x) enters lays =
    record { entered = entered; enters = enters; lays = lays }
entered_own m before entered after table rec write v (Err fault) enters failed = not_put_in entered enters failed

-- the entries and a first version come to a place that was taken
pub laid_new : {D : Type 0} (m : Meaning D) (before placed after : Pool D FireLinks) (table : Table) (at : RecId)
    (write : Write) (v : Version) (result : Result (Unit {0}) SpaceFault) (told : Result RecId SpaceFault)
    → told ≡ told_of at result → TakesPlace m before placed table.pointer.0 at
    → MatchResult result (λ _. EntersFirst m placed after table at write v)
    (FailsEnterFirst m placed after table at write v)
    → MatchResult told (LaysIn m before after table ways.Make write v) (FailsNew m before after table write v)
laid_new m before placed after table at write v (Ok x) told is takes makes =
    subst (λ (r : Result RecId SpaceFault). MatchResult r (LaysIn m before after table ways.Make write v)
    (FailsNew m before after table write v)) (sym is)
    (record { lays = record { at = at; placed = placed; takes = takes; makes = makes }; at = refl })
laid_new m before placed after table at write v (Err fault) told is takes fails =
    subst (λ (r : Result RecId SpaceFault). MatchResult r (LaysIn m before after table ways.Make write v)
    (FailsNew m before after table write v)) (sym is) (no_first at placed takes fails)

-- what is done in a record is told with the record
pub told_done : {D : Type 0} (m : Meaning D) (before after : Pool D FireLinks) (table : Table) (way : Way)
    (write : Write) (v : Version) (rec : RecId) (Does : Type 0) (result : Result (Unit {0}) SpaceFault)
    (told : Result RecId SpaceFault) → told ≡ told_of rec result
    → (Does → LaysIn m before after table way write v rec)
    → MatchResult result (λ _. Does) (FailsLay m before after table way write v)
    → MatchResult told (LaysIn m before after table way write v) (FailsLay m before after table way write v)
told_done m before after table way write v rec Does (Ok x) told is lift does =
    subst (λ (r : Result RecId SpaceFault). MatchResult r (LaysIn m before after table way write v)
    (FailsLay m before after table way write v)) (sym is) (lift does)
told_done m before after table way write v rec Does (Err fault) told is lift fails =
    subst (λ (r : Result RecId SpaceFault). MatchResult r (LaysIn m before after table way write v)
    (FailsLay m before after table way write v)) (sym is) fails

-- a version is pushed once a dead one is out
pub laid_over : {D : Type 0} (m : Meaning D) (before cleared after : Pool D FireLinks) (table : Table) (rec : RecId)
    (write : Write) (v : Version) (result : Result (Unit {0}) SpaceFault) → TakesNewestOut m before cleared rec
    → MatchResult result (λ _. EntersOver m cleared after table rec write v)
    (FailsEnterOver m cleared after table rec write v)
    → MatchResult result (λ _. LaysOverDead m before after table rec write v)
    (FailsOverDead m before after table rec write v)
laid_over m before cleared after table rec write v (Ok x) takes pushes =
    record { cleared = cleared; takes = takes; pushes = pushes }
laid_over m before cleared after table rec write v (Err fault) takes fails = not_pushed cleared takes fails
