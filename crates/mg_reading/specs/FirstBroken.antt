-- Which rule of an image as a whole is the first that is broken.
use Rattle.std.specs.Prelude.{ℕ}
use Rattle.mg_reading.specs.declared.point.ReadFault.{ReadFault}
use Rattle.mg_reading.specs.declared.point.ReadFault.TheVariants.{Broken, Memory}
use Rattle.mg_reading.specs.declared.point.Rule.TheVariants.{Header, Transactions, Pages as RulePages, Once, Links, Drawn, Backs, Keys, Indexed}
use Rattle.mg_image.specs.Form.{Pages}
use Rattle.mg_image.specs.Sound.{HasHeader, HasInventory, HasTransactions}

-- Of the header's rule, that of transactions and that of the page inventory this one is broken, and
-- those before it are not.
abbrev pub IsFirstBroken : ℕ → Pages → ReadFault → Type 0
IsFirstBroken size pages (Broken Header) = HasHeader size pages → ⊥
IsFirstBroken size pages (Broken Transactions) =
    HasHeader size pages × (HasTransactions size pages → ⊥)
IsFirstBroken size pages (Broken RulePages) =
    HasHeader size pages × HasTransactions size pages × (HasInventory size pages → ⊥)
IsFirstBroken size pages (Broken Once) = ⊥
IsFirstBroken size pages (Broken Links) = ⊥
IsFirstBroken size pages (Broken Drawn) = ⊥
IsFirstBroken size pages (Broken Backs) = ⊥
IsFirstBroken size pages (Broken Keys) = ⊥
IsFirstBroken size pages (Broken Indexed) = ⊥
IsFirstBroken size pages Memory = ⊥
