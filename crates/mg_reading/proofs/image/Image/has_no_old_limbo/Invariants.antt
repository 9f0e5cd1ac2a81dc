use Rattle.std.proofs.Common.{ℕ, ◌≢◌, ◌<◌}
use Rattle.mg_base.specs.declared.transaction.TxState.TheVariants.{Limbo}
use Rattle.mg_reading.specs.ImageView.{pages_in}
use Rattle.mg_image.specs.Inventory.{state_at}
use Rattle.mg_reading.proofs.image.Image.has_no_old_limbo.Given as goal

abbrev pub invariant-loop-t : goal.invariant-loop-t
invariant-loop-t l = (k : ℕ) → k < l.t → state_at l.self.size (pages_in l.self) k ≢ Limbo
