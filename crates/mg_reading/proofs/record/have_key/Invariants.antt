use Rattle.std.proofs.Common.{length}
use Rattle.std.specs.Prelude.{◌≡◌, ◌↔◌}
use Rattle.mg_image.specs.RecordRules.{Each}
use Rattle.mg_image.specs.Records.{key_of}
use Rattle.mg_reading.proofs.record.have_key.Given as goal

abbrev pub invariant-loop-entry : goal.invariant-loop-entry
invariant-loop-entry l = Each (λ e. key_of l.table e.row ≡ key_of l.table l.row) l.entries
    ↔ Each (λ e. key_of l.table e.row ≡ key_of l.table l.row) l.rest

abbrev pub decreases-loop-entry : goal.decreases-loop-entry
decreases-loop-entry l = length l.rest
