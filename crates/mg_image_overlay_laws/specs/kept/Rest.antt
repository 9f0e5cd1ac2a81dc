-- What a change leaves alone: index trees with what is found by them, and sequences.
use Rattle.mg_base.specs.Fields.{byte}
use Rattle.mg_base.specs.declared.transaction.TxState.{TxState}
use Rattle.mg_image.specs.Form.{Form, Pages}
use Rattle.mg_image.specs.Indexes.{EachPage}
use Rattle.mg_image.specs.Inventory.{is_used}
use Rattle.mg_image.specs.Reached.{linked_pages}
use Rattle.mg_image.specs.Records.{Reading}
use Rattle.mg_image.specs.Sound.{IsSoundBy}
use Rattle.mg_image.specs.Tables.{Has, Layout}
use Rattle.mg_image_overlay_laws.specs.pages.DataPages.{ChangesData}
use Rattle.mg_image_overlay_laws.specs.pages.DataSound.{KeepsTrees}
use Rattle.std.proofs.Common.{ap, arith, inl, inr, true, ℕ, ◌*◌, ◌/◌, ◌<◌, ◌∙◌, ◌≡◌, ◌≤◌, ◌⊎◌}
use Rattle.std.proofs.Math.Nat.{div-mul-le_self, div-zero}
use Rattle.std.proofs.lemmas.Bool.{cases_lt}
use Rattle.std.proofs.lemmas.Nat.{le-div}

-- trees stay, where their pages do and what was used is used still
abbrev pub TreesStay : Form → ℕ → Type 0
TreesStay form size = (state : ℕ → TxState) (old new : Pages) (layout : Layout) (r : Reading)
    → IsSoundBy form size state old layout r
    → ((m : ℕ) → is_used size old m ≡ true → is_used size new m ≡ true)
    → ((m : ℕ) → Has (linked_pages size old layout) m → byte (old m) 0 ≡ 7 → new m ≡ old m)
    → KeepsTrees old new size layout

-- trees and sequences lie on other pages
pub record LeavesRest (form : Form) (size : ℕ) (old new : Pages) (layout : Layout) : Type 0 where
  pub trees : KeepsTrees old new size layout
  pub sequences : EachPage (λ n. form.sequence_page (new n) n) layout.sequences

-- a changed data page leaves trees and sequences of each sound image
abbrev pub LeavesRests : Form → ℕ → ℕ → Type 0
LeavesRests form size b = (state : ℕ → TxState) (old new : Pages) (layout : Layout) (r : Reading)
    → IsSoundBy form size state old layout r → ChangesData form.in_primary old new b
    → LeavesRest form size old new layout

pub div_grows : (m n k : ℕ) → m ≤ n → m / k ≤ n / k
div_grows m n k below = by (cases_lt 0 k)
  where
    by : (0 < k) ⊎ (k ≤ 0) → m / k ≤ n / k
    by (inl some_) =
        let part : m / k * k ≤ m = div-mul-le_self m k in
        le-div (m / k) n k some_ (omega (arith, part, below))
    by (inr none) =
        let nothing_ : k ≡ 0 = omega (arith, none) in
        let left : m / k ≡ 0 = ap (λ (d : ℕ). m / d) nothing_ ∙ div-zero m in omega (arith, left)
