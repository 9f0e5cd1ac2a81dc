use Rattle.std.proofs.Common.{length}
use Rattle.std.specs.Prelude.{◌≡◌, ◌↔◌}
use Rattle.mg_base.specs.declared.transaction.TxState.TheVariants.{Committed}
use Rattle.mg_image.specs.Inventory.{state_at}
use Rattle.mg_image.specs.RecordRules.{Each}
use Rattle.mg_image.specs.Records.{writer}
use Rattle.mg_reading.specs.ImageView.{pages_in}
use Rattle.mg_reading.proofs.record.are_committed.Given as goal

abbrev pub invariant-loop-entry : goal.invariant-loop-entry
invariant-loop-entry l = Each (λ e. state_at l.image.size (pages_in l.image) (writer e) ≡ Committed) l.entries
    ↔ Each (λ e. state_at l.image.size (pages_in l.image) (writer e) ≡ Committed) l.rest

abbrev pub decreases-loop-entry : goal.decreases-loop-entry
decreases-loop-entry l = length l.rest
