-- What an image tells of the transactions in limbo.
use Rattle.std.specs.Prelude.{◌≡◌, ◌⊎◌, ◌↔◌, ◌<◌, ◌≤◌, ◌+◌, ℕ, List, [], ◌∷◌, ◌++◌, get_or, length}
use Rattle.std.specs.declared.cmp.Ordering.TheVariants.{Less}
use Rattle.mg_base.specs.Image.{Image, page_at}
use Rattle.mg_base.specs.declared.numbers.TxNo.{TxNo}
use Rattle.mg_base.specs.declared.transaction.TxState.{TxState}
use Rattle.mg_base.specs.declared.transaction.TxState.TheVariants.{Active, Limbo as InLimbo, Dead, Committed}
use Rattle.mg_check_inventory.specs.TransactionRung.{IsTransactionFinding}
use Rattle.mg_check_pages.specs.PageTests.{header_test}
use Rattle.mg_findings.specs.declared.finding.Finding.{Finding}
use Rattle.mg_findings.specs.Findings.{HasNone, OfFirst, Tells, finding_cmp}
use Rattle.mg_image.specs.Form.{Pages}
use Rattle.mg_image.specs.Inventory.{header_of, last_sequence, next_of, state_at, tip_before}
use Rattle.mg_limbo_list.specs.declared.listing.Listed.{Listed}
use Rattle.mg_limbo_list.specs.declared.listing.Listed.TheVariants.{Damaged, Limbo}
use Rattle.mg_limbo_list.specs.declared.tips.Tips.{Tips}

-- These are the transaction inventory pages of an image, that of the last sequence first.
pub record IsTips (size : ℕ) (image : Image) (tips : Tips) : Type 0 where
  pub sized : tips.size ≡ size
  pub next : tips.next ≡ next_of (page_at size image)
  pub count : length tips.pages.items ≡ last_sequence size (page_at size image) + 1
  pub each : (back : ℕ) → back ≤ last_sequence size (page_at size image)
      → get_or tips.pages.items back 0
      ≡ tip_before (page_at size image) (header_of (page_at size image)).last_tip.0 back

-- The first of them, so many, and the next one.
pub record HasTipsBelow (size : ℕ) (pages : Pages) (back n : ℕ) (numbers : List ℕ) : Type 0 where
  pub count : length numbers ≡ back
  pub each : (k : ℕ) → k < back
      → get_or numbers k 0 ≡ tip_before pages (header_of pages).last_tip.0 k
  pub here : n ≡ tip_before pages (header_of pages).last_tip.0 back

-- a number is one of these transactions
abbrev pub Has : List TxNo → ℕ → Type 0
Has [] t = ⊥
Has (u ∷ us) t = (t ≡ u.0) ⊎ Has us t

-- transactions ascend from a number on, and none stands twice
abbrev pub AscendFrom : ℕ → List TxNo → Type 0
AscendFrom least [] = Unit {0}
AscendFrom least (t ∷ ts) = (least ≤ t.0) × AscendFrom (t.0 + 1) ts

-- These are the transactions in limbo below a number, ascending.
pub record IsLimboBelow (state : ℕ → TxState) (end : ℕ) (list : List TxNo) : Type 0 where
  pub ascend : AscendFrom 0 list
  pub members : (t : ℕ) → Has list t ↔ ((t < end) × (state t ≡ InLimbo))

-- These are the transactions in limbo, ascending.
pub record IsLimboList (state : ℕ → TxState) (list : List TxNo) : Type 0 where
  pub ascend : AscendFrom 0 list
  pub members : (t : ℕ) → Has list t ↔ (state t ≡ InLimbo)

-- a list with one more behind it, if it is in limbo
abbrev pub with_limbo : List TxNo → ℕ → TxState → List TxNo
with_limbo list t Active = list
with_limbo list t InLimbo = list ++ record { 0 = t } ∷ []
with_limbo list t Dead = list
with_limbo list t Committed = list

-- what is found of the header of an image
abbrev pub IsHeaderFinding : ℕ → Image → Finding → Type 0
IsHeaderFinding size image = Tells (header_test (page_at size image 0) size)

-- what is found of the header, and behind a lawful one of the transaction inventory
abbrev pub IsFrontFinding : ℕ → Image → Finding → Type 0
IsFrontFinding size image = OfFirst (IsHeaderFinding size image) (IsTransactionFinding size image)

-- The least finding of a kind.
pub record IsLeast (P : Finding → Type 0) (f : Finding) : Type 0 where
  pub is : P f
  pub least : (g : Finding) → P g → (finding_cmp f g ≡ Less) ⊎ (g ≡ f)

-- what an image tells: the least finding of these two rungs, or, where they have none, the
-- transactions in limbo
abbrev pub IsListed : ℕ → Image → Listed → Type 0
IsListed size image (Damaged f) = IsLeast (IsFrontFinding size image) f
IsListed size image (Limbo list) = HasNone (IsFrontFinding size image)
    × IsLimboList (state_at size (page_at size image)) list.items
