-- The bits of pages are cleared, and nothing else changes.
use Rattle.std.specs.Prelude.{◌≡◌, ◌≢◌, ◌<◌, ◌/◌, ◌==◌, ◌||◌, ◌↔◌, ℕ, Bool, true, false, List, [], ◌∷◌, length, take, if◌then◌else◌}
use Rattle.mg_base.specs.Image.{Image, page_at}
use Rattle.mg_base.specs.declared.geometry.TheConstants.{GREATEST_LIMIT}
use Rattle.mg_findings.specs.declared.finding.Finding.{Finding}
use Rattle.mg_findings.specs.Findings.{IsListOf}
use Rattle.mg_image.specs.Inventory.{inventory_page, is_used}
use Rattle.mg_orphans.specs.Orphans.{IsOrphanFinding, IsUnreached}
use Rattle.mg_pip.specs.PipPage.{bits}
use Rattle.mg_pip.specs.declared.page.TheConstants.{BITS_AT}

-- the page inventory page that has the bit of a page
abbrev pub bit_page : ℕ → ℕ → ℕ
bit_page size n = inventory_page size (n / bits size)

-- Of an image the bits of these pages are cleared, and nothing else is changed.
pub record Releases (size : ℕ) (old new : Image) (gone : ℕ → Bool) : Type 0 where
  pub count : length new ≡ length old
  pub lengths : (n : ℕ) → length (page_at size new n) ≡ length (page_at size old n)
  -- a page changes only where it has the bit of one of them
  pub kept : (n : ℕ) → ((m : ℕ) → gone m ≡ true → n ≢ bit_page size m)
      → page_at size new n ≡ page_at size old n
  -- and then behind its common part
  pub front : (n : ℕ) → take BITS_AT (page_at size new n) ≡ take BITS_AT (page_at size old n)
  pub used : (n : ℕ) → is_used size (page_at size new) n
      ≡ (if gone n then false else is_used size (page_at size old) n)

-- whether a page is that of one of these findings
abbrev pub is_page_of : List Finding → ℕ → Bool
is_page_of [] n = false
is_page_of (f ∷ fs) n = n == f.page.0 || is_page_of fs n

-- these are the findings of all orphan pages of an image, by the pages that are reached
abbrev pub AreOrphans : ℕ → Image → List Finding → Type 0
AreOrphans size image found = (reached : List Bool)
    × IsListOf (IsOrphanFinding size (page_at size image) reached) found

-- the pages of such findings are those that are marked as used and that nothing reaches
abbrev pub OrphanLaw : Type 0
OrphanLaw = (size : ℕ) (image : Image) (reached : List Bool) (found : List Finding)
    → IsListOf (IsOrphanFinding size (page_at size image) reached) found → (n : ℕ)
    → (is_page_of found n ≡ true)
    ↔ ((n < GREATEST_LIMIT) × IsUnreached size (page_at size image) reached n)
