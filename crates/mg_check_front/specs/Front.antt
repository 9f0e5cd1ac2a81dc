-- What is found on the first three rungs of a validation.
use Rattle.std.specs.Prelude.{◌↔◌, ℕ}
use Rattle.mg_base.specs.Image.{Image, page_at}
use Rattle.mg_check_inventory.specs.ImagePages.{IsWholeImage}
use Rattle.mg_check_inventory.specs.InventoryRung.{IsInventoryFinding}
use Rattle.mg_check_inventory.specs.TransactionRung.{IsTransactionFinding}
use Rattle.mg_findings.specs.declared.finding.Finding.{Finding}
use Rattle.mg_findings.specs.Findings.{HasNone, OfFirst}
use Rattle.mg_image.specs.Sound.{HasHeader, HasInventory, HasTransactions}
use Rattle.mg_limbo_list.specs.Limbo.{IsHeaderFinding}

-- what is found of the header; behind a lawful one, of the page inventory; and behind a lawful one, of the transaction
-- inventory
abbrev pub IsFirstFinding : ℕ → Image → Finding → Type 0
IsFirstFinding size image = OfFirst (IsHeaderFinding size image)
    (OfFirst (IsInventoryFinding size (page_at size image)) (IsTransactionFinding size image))

-- nothing is found exactly where these parts are as a sound image asks it
abbrev pub FrontLaw : Type 0
FrontLaw = (size : ℕ) (image : Image) → IsWholeImage size image
    → HasNone (IsFirstFinding size image)
    ↔ (HasHeader size (page_at size image) × HasInventory size (page_at size image)
    × HasTransactions size (page_at size image))
