-- The pages of a list that lie below the page limit do so still.
use Rattle.std.proofs.Common.{◌≡◌, ℕ, List, subst, sym}
use Rattle.mg_base.specs.declared.geometry.Geometry.{Geometry}
use Rattle.mg_txlist.specs.TxList.{EachBelow, TipsAreBelow}
use Rattle.mg_txlist.specs.declared.list.TipPage.{TipPage}
use Rattle.mg_txlist.specs.declared.list.TxList.{TxList}

-- where the pages are the same
pub items_same : (limit : ℕ) (old new : List TipPage) → new ≡ old → EachBelow limit old → EachBelow limit new
items_same limit old new same each = subst (λ (xs : List TipPage). EachBelow limit xs) (sym same) each

pub tips_same : (limit : ℕ) (old new : TxList) → new.pages.items ≡ old.pages.items → TipsAreBelow limit old
    → TipsAreBelow limit new
tips_same limit old new same each = items_same limit old.pages.items new.pages.items same each

-- where the geometry is the same
pub tips_by : (a b : Geometry) (list : TxList) → b ≡ a → TipsAreBelow a.limit list → TipsAreBelow b.limit list
tips_by a b list same each = subst (λ (g : Geometry). TipsAreBelow g.limit list) (sym same) each
