-- Records that were there: what keeps a directory complete.
use Rattle.std.specs.Prelude.{◌≡◌, ◌≢◌, ◌⊎◌, ℕ, List, [], ◌∷◌, Some}
use Rattle.mg_base.specs.declared.numbers.RecId.{RecId}
use Rattle.mg_directory.specs.Candidates.{ByKey, ByTable}
use Rattle.mg_image.specs.RecordRules.{Facts, table_in}
use Rattle.mg_image.specs.Records.{Reading, record_key}
use Rattle.mg_image.specs.declared.entry.Entry.{Entry}
use Rattle.mg_model.specs.declared.table.Table.{Table}

-- A record that has versions was there before: it had versions, of the same table, with the same key.
pub record WasThere (f : Facts) (r : Reading) (table : Table) (es : List Entry) (p : RecId) : Type 0 where
  pub before : Table
  pub of_table : table_in f p ≡ Some before
  pub first : before.pointer.0 ≡ table.pointer.0
  pub some : r p ≢ []
  pub keyed : record_key before (r p) ≡ record_key table es

-- each was, but for those with a property
abbrev pub ComeFrom : (RecId → Type 0) → Facts → Reading → Facts → Reading → Type 0
ComeFrom New f r g s = (p : RecId) (table : Table) → table_in g p ≡ Some table → s p ≢ []
    → WasThere f r table (s p) p ⊎ New p

abbrev pub NoNew : RecId → Type 0
NoNew p = ⊥

-- directories stay as they are, and any may be dropped
abbrev pub AreFewer : ByTable → ByTable → Type 0
AreFewer old new = (first : ℕ) (dir : ByKey) → new first ≡ Some dir → old first ≡ Some dir

-- a version is one of these
abbrev pub IsAmongEntries : List Entry → Entry → Type 0
IsAmongEntries [] x = ⊥
IsAmongEntries (e ∷ es) x = (e ≡ x) ⊎ IsAmongEntries es x

-- the first of these has the row of one of those
abbrev pub BeginsAs : List Entry → List Entry → Type 0
BeginsAs those [] = Unit {0}
BeginsAs those (e ∷ es) = (d : Entry) × IsAmongEntries those d × (e.row ≡ d.row)
