-- The records that the entries of a key name.
use Rattle.std.specs.Prelude.{◌≡◌, ℕ, List, Option, None, Some, Result, Ok, Err}
use Rattle.std.specs.declared.alloc.Global.{Global}
use Rattle.std.specs.declared.vec.Vec.{Vec}
use Rattle.mg_base.specs.declared.numbers.RecId.{RecId}
use Rattle.mg_image.specs.Form.{Pages}
use Rattle.mg_image.specs.Indexes.{Finds}
use Rattle.mg_node.specs.declared.entry.Entry.{Entry}
use Rattle.mg_seek.specs.TableRecords.{IsAmong}
use Rattle.mg_sortkey.specs.KeyBytes.{key_bytes}
use Rattle.mg_space.specs.declared.fault.SpaceFault.{SpaceFault}
use Rattle.mg_space.specs.declared.fault.SpaceFault.TheVariants.{Full, Pool as OfPool, Damaged as OfPage}
use Rattle.mg_value.specs.declared.value.Value.{Value}

-- the entry of some key bytes and a record
abbrev pub entry_of : List ℕ → RecId → Entry
entry_of key p = record { key = key; rec = p; child = record { 0 = 0 } }

-- an index has an entry with these key bytes, of this record
pub record HasItsEntry (view : Pages) (root : ℕ) (key : List ℕ) (p : RecId) : Type 0 where
  pub entry : Entry
  pub finds : Finds view entry root
  pub key_is : entry.key ≡ key
  pub rec_is : entry.rec ≡ p

-- These are the records that the entries with some key bytes name: all of them, and no others.
pub record AreNamed (view : Pages) (root : ℕ) (key : List ℕ) (found : List RecId) : Type 0 where
  pub whole : (p : RecId) → Finds view (entry_of key p) root → IsAmong found p
  pub alone : (p : RecId) → IsAmong found p → HasItsEntry view root key p

-- in a tree they are given, or the cache refuses
abbrev pub NamesRecords : Pages → ℕ → List ℕ → Result (Vec RecId Global) SpaceFault → Type 0
NamesRecords view root key (Ok found) = AreNamed view root key found.items
NamesRecords view root key (Err (Full limit)) = ⊥
NamesRecords view root key (Err (OfPage damage)) = ⊥
NamesRecords view root key (Err (OfPool fault)) = Unit {0}

abbrev pub GivesRecords : Pages → ℕ → Value → Result (Vec RecId Global) SpaceFault → Type 0
GivesRecords view root key result = NamesRecords view root (key_bytes key) result

-- the records of a key are given as candidates; or the cache refuses
abbrev pub GivesCandidates : Pages → ℕ → Value → Result (Option (Vec RecId Global)) SpaceFault → Type 0
GivesCandidates view root key (Ok None) = ⊥
GivesCandidates view root key (Ok (Some found)) = AreNamed view root (key_bytes key) found.items
GivesCandidates view root key (Err (Full limit)) = ⊥
GivesCandidates view root key (Err (OfPage damage)) = ⊥
GivesCandidates view root key (Err (OfPool fault)) = Unit {0}
