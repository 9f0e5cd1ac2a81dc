-- The indexes that are left decide.
use Rattle.std.proofs.Common.{◌≡◌, drop}
use Rattle.mg_key_entry_laws.specs.KeptEntries.{primary_in}
use Rattle.mg_lookup.proofs.candidates.index_named.Given as goal

abbrev pub invariant-loop-index : goal.invariant-loop-index
invariant-loop-index l = primary_in l.name (drop l.index-index l.indexes) ≡ primary_in l.name l.indexes
