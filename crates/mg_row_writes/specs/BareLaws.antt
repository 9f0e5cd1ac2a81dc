-- What a write comes to in a table without indexes.
use Rattle.std.proofs.Common.{◌≡◌, ◌∙◌, ◌++◌, ℕ, List, [], ◌∷◌, refl, sym, subst}
use Rattle.mg_base.specs.Disk.{Meaning}
use Rattle.mg_base.specs.declared.numbers.RecId.{RecId}
use Rattle.mg_entries.specs.Entries.{FailsAll, KeysFit, LaysAll, no_index, one_more}
use Rattle.mg_image.specs.Form.{Row}
use Rattle.mg_model.specs.declared.table.Index.{Index}
use Rattle.mg_model.specs.declared.table.Table.{Table}
use Rattle.mg_pool.specs.declared.pool.Pool.{Pool}
use Rattle.mg_records.specs.declared.write.Write.{Write}
use Rattle.mg_records.specs.declared.write.Write.TheVariants as writes
use Rattle.mg_space.specs.declared.fault.SpaceFault.{SpaceFault}
use Rattle.mg_space.specs.declared.links.FireLinks.{FireLinks}
use Rattle.mg_version.specs.declared.cell.Version.{Version}
use Rattle.mg_row_writes.specs.Bare.{BareFails, BareFailsNew, BareFailsOverDead, BareLays, IsBare, bare_in, no_first_there, no_place_there, not_out, not_over}
use Rattle.mg_row_writes.specs.Changing.{FailsFirst, FailsOver, FailsReplacing, MakesFirst, PushesOver, ReplacesNewest}
use Rattle.mg_row_writes.specs.Laying.{EntersFirst, EntersOver, EntersOwn, EntersRow, FailsEntering, FailsLay, FailsNew, FailsOverDead, FailsThen, KeysMayBeLaid, Lays, laid_in, no_first, no_place, not_cleared, not_entered, not_pushed, not_put_in}
use Rattle.mg_row_writes.specs.declared.before.Way.{Way}
use Rattle.mg_row_writes.specs.declared.before.Way.TheVariants as ways

-- ---- no entry is laid

has_some : (indexes : List Index) (index : Index) (later : List Index) → indexes ++ index ∷ later ≡ [] → ⊥
has_some [] index later is = absurd cc
has_some (x ∷ xs) index later is = absurd cc

pub all_of_none : {D : Type 0} (m : Meaning D) (indexes : List Index) (p : RecId) (row : Row) (before after : Pool D FireLinks)
    → LaysAll m indexes p row before after → indexes ≡ [] → after ≡ before
all_of_none m indexes p row before after (no_index p_ row_ store) is = refl
all_of_none m indexes p row before after (one_more first index p_ row_ before_ mid after_ laid lays) is =
    absurd (has_some first index [] is)

none_fails : {D : Type 0} (m : Meaning D) (indexes : List Index) (p : RecId) (row : Row) (before after : Pool D FireLinks)
    (fault : SpaceFault) → FailsAll m indexes p row before after fault → indexes ≡ [] → ⊥
none_fails m indexes p row before after fault fails is =
    has_some fails.first fails.index fails.later (sym fails.parts ∙ is)

module _ {D : Type 0} (m : Meaning D) (table : Table) (bare : IsBare table) where
  pub bare_enters : (before after : Pool D FireLinks) (rec : RecId) (write : Write)
      → EntersRow m before after table rec write → after ≡ before
  bare_enters before after rec (writes.Insert row) enters =
      all_of_none m table.indexes rec row before after enters bare
  bare_enters before after rec (writes.Change key row) enters =
      all_of_none m table.indexes rec row before after enters bare
  bare_enters before after rec (writes.Erase key) enters = enters

  pub bare_enters_not : (before after : Pool D FireLinks) (rec : RecId) (write : Write) (fault : SpaceFault)
      → FailsEntering m before after table rec write fault → ⊥
  bare_enters_not before after rec (writes.Insert row) fault fails =
      none_fails m table.indexes rec row before after fault fails bare
  bare_enters_not before after rec (writes.Change key row) fault fails =
      none_fails m table.indexes rec row before after fault fails bare
  bare_enters_not before after rec (writes.Erase key) fault fails = fails

  bare_first : (before after : Pool D FireLinks) (at : RecId) (write : Write) (v : Version)
      → EntersFirst m before after table at write v → MakesFirst m before after table.pointer.0 at v
  bare_first before after at write v it = subst (λ (s : Pool D FireLinks). MakesFirst m s after table.pointer.0 at v)
      (bare_enters before it.entered at write it.enters) it.lays

  bare_over : (before after : Pool D FireLinks) (rec : RecId) (write : Write) (v : Version)
      → EntersOver m before after table rec write v → PushesOver m before after rec v
  bare_over before after rec write v it = subst (λ (s : Pool D FireLinks). PushesOver m s after rec v)
      (bare_enters before it.entered rec write it.enters) it.lays

  pub bare_own : (before after : Pool D FireLinks) (rec : RecId) (write : Write) (v : Version)
      → EntersOwn m before after table rec write v → ReplacesNewest m before after rec v
  bare_own before after rec write v it = subst (λ (s : Pool D FireLinks). ReplacesNewest m s after rec v)
      (bare_enters before it.entered rec write it.enters) it.lays

  -- where entries come first and fail, there were some
  pub bare_then : (before after : Pool D FireLinks) (rec : RecId) (write : Write)
      (fails : Pool D FireLinks → SpaceFault → Type 0) (fault : SpaceFault)
      → FailsThen m before after table rec write fails fault → fails before fault
  bare_then before after rec write fails fault (not_entered it) = absurd (bare_enters_not before after rec write fault it)
  bare_then before after rec write fails fault (not_put_in entered enters it) =
      subst (λ (s : Pool D FireLinks). fails s fault) (bare_enters before entered rec write enters) it

  -- ---- a version is laid

  pub bare_lays : (before after : Pool D FireLinks) (way : Way) (write : Write) (v : Version)
      → Lays m before after table way write v → BareLays m before after table.pointer.0 way v
  bare_lays before after ways.Make write v it = record {
    at = it.at;
    placed = it.placed;
    takes = it.takes;
    makes = bare_first it.placed after it.at write v it.makes;
  }
  bare_lays before after (ways.Push rec) write v it = bare_over before after rec write v it
  bare_lays before after (ways.PushOverDead rec) write v it = record {
    cleared = it.cleared;
    takes = it.takes;
    pushes = bare_over it.cleared after rec write v it.pushes;
  }
  bare_lays before after (ways.Replace rec) write v it = bare_own before after rec write v it

  -- in the same record
  pub bare_there : (before after : Pool D FireLinks) (way : Way) (write : Write) (v : Version)
      (it : Lays m before after table way write v) → laid_in m before after table way write v it
      ≡ bare_in m before after table.pointer.0 way v (bare_lays before after way write v it)
  unfolding bare_lays
  bare_there before after ways.Make write v it = refl
  bare_there before after (ways.Push rec) write v it = refl
  bare_there before after (ways.PushOverDead rec) write v it = refl
  bare_there before after (ways.Replace rec) write v it = refl

  -- or it is not

  bare_new_fails : (before after : Pool D FireLinks) (write : Write) (v : Version) (fault : SpaceFault)
      → FailsNew m before after table write v fault → BareFailsNew m before after table.pointer.0 v fault
  bare_new_fails before after write v fault (no_place it) = no_place_there it
  bare_new_fails before after write v fault (no_first at placed takes it) = no_first_there at placed takes
      (bare_then placed after at write (λ entered given. FailsFirst m entered after table.pointer.0 at v given) fault it)

  bare_over_fails : (before after : Pool D FireLinks) (rec : RecId) (write : Write) (v : Version) (fault : SpaceFault)
      → FailsOverDead m before after table rec write v fault → BareFailsOverDead m before after rec v fault
  bare_over_fails before after rec write v fault (not_cleared it) = not_out it
  bare_over_fails before after rec write v fault (not_pushed cleared takes it) = not_over cleared takes
      (bare_then cleared after rec write (λ entered given. FailsOver m entered after rec v given) fault it)

  pub bare_fails : (before after : Pool D FireLinks) (way : Way) (write : Write) (v : Version) (fault : SpaceFault)
      → FailsLay m before after table way write v fault → BareFails m before after table.pointer.0 way v fault
  bare_fails before after ways.Make write v fault it = bare_new_fails before after write v fault it
  bare_fails before after (ways.Push rec) write v fault it =
      bare_then before after rec write (λ entered given. FailsOver m entered after rec v given) fault it
  bare_fails before after (ways.PushOverDead rec) write v fault it = bare_over_fails before after rec write v fault it
  bare_fails before after (ways.Replace rec) write v fault it =
      bare_then before after rec write (λ entered given. FailsReplacing m entered after rec v given) fault it

  -- ---- no key is too long

  pub bare_keys : (size : ℕ) (write : Write) → KeysMayBeLaid size table write
  bare_keys size (writes.Insert row) = subst (λ (xs : List Index). KeysFit size row xs) (sym bare) tt
  bare_keys size (writes.Change key row) = subst (λ (xs : List Index). KeysFit size row xs) (sym bare) tt
  bare_keys size (writes.Erase key) = tt
