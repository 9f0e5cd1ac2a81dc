-- A disk that loses no page.
use Rattle.std.specs.Prelude.{◌≡◌, ◌≤◌, ℕ, true, Some, length}
use Rattle.mg_base.specs.Disk.{Meaning}
use Rattle.mg_base.specs.Image.{Image}

-- Pages are added to a disk and never taken away: what a crash might have left, at any moment, has no more pages than it
-- holds.
abbrev pub NeverShrinks : {D : Type 0} → Meaning D → Type 0
NeverShrinks {D} m = (disk : D) (t : ℕ) (c image : Image) → m.tells disk ≡ true → m.left disk t c → m.held disk ≡ Some image
    → length c ≤ length image
