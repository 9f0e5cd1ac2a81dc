-- Pages that are marked as used, and that nothing reaches.
use Rattle.std.specs.Prelude.{get_or, ◌≡◌, ◌<◌, ℕ, Bool, true, false, List}
use Rattle.mg_base.specs.declared.geometry.TheConstants.{GREATEST_LIMIT}
use Rattle.mg_check_inventory.specs.ImagePages.{numbered}
use Rattle.mg_findings.specs.declared.finding.Finding.{Finding}
use Rattle.mg_findings.specs.declared.finding.Rule.TheVariants.{Orphan}
use Rattle.mg_image.specs.Form.{Pages}
use Rattle.mg_image.specs.Inventory.{is_used}

-- a page is marked as used, and is none of those that are reached
abbrev pub IsUnreached : ℕ → Pages → List Bool → ℕ → Type 0
IsUnreached size pages reached n = (is_used size pages n ≡ true) × (get_or reached n false ≡ false)

-- the finding of an orphan page
abbrev pub orphan_finding : ℕ → Finding
orphan_finding n = record {
  page = numbered n;
  slot = 0;
  what = Orphan;
  found = 0;
  wanted = 0;
}

-- a page is an orphan, and this is told of it
abbrev pub IsPageFinding : ℕ → Pages → List Bool → ℕ → Finding → Type 0
IsPageFinding size pages reached n f =
    IsUnreached size pages reached n × (f ≡ orphan_finding n)

-- such a thing is told of one of the pages below a number
abbrev pub IsOrphanBelow : ℕ → Pages → List Bool → ℕ → Finding → Type 0
IsOrphanBelow size pages reached count f =
    (n : ℕ) × (n < count) × IsPageFinding size pages reached n f

-- what is told of all orphan pages, where these pages are reached; no page from the greatest limit
-- on is part of an image
abbrev pub IsOrphanFinding : ℕ → Pages → List Bool → Finding → Type 0
IsOrphanFinding size pages reached = IsOrphanBelow size pages reached GREATEST_LIMIT
