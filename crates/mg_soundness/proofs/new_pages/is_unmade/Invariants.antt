use Rattle.std.proofs.Common.{◌≡◌, ◌⊎◌, ◌<◌, ◌≤◌, ℕ}
use Rattle.mg_base.specs.Image.{blank}
use Rattle.mg_image.specs.NewDatabase.{IsNewPage}
use Rattle.mg_reading.specs.Codings.{coding_of}
use Rattle.mg_reading.specs.ImageView.{pages_in}
use Rattle.mg_soundness.proofs.new_pages.is_unmade.Given as goal

abbrev pub invariant-loop-n : goal.invariant-loop-n
invariant-loop-n l = (k : ℕ) → 1 ≤ k → k < l.n
    → (pages_in l.image k ≡ blank l.image.size)
    ⊎ IsNewPage (coding_of l.coding) l.image.size k (pages_in l.image k)
