-- What a collection leaves of a record on the pages, and of all else.
use Rattle.std.specs.Prelude.{◌≡◌, ◌≢◌, ◌⊎◌, ℕ, Bool, false, List, [], ◌∷◌, Option, None, Some}
use Rattle.mg_base.specs.declared.numbers.RecId.{RecId}
use Rattle.mg_chain.specs.Writing.{leading_to, link_to}
use Rattle.mg_image.specs.Form.{Pages}
use Rattle.mg_image.specs.Records.{Cells, Stands, cells_of, newest_of}
use Rattle.mg_image.specs.declared.entry.Entry.{Entry}
use Rattle.mg_version.specs.declared.cell.Cell.TheVariants as cells
use Rattle.mg_version.specs.declared.cell.Link.{Link}
use Rattle.mg_collecting.specs.Remaining.{AreSomeOf, IsToldOf}

-- the link to the first of these versions
abbrev pub first_link : List Entry → Option Link
first_link [] = None
first_link (e ∷ es) = Some (link_to e.at e.version.tx)

-- each of these versions stands in its cell, leads to the next of them, and the last leads nowhere
abbrev pub AreLinked : Cells → List Entry → Type 0
AreLinked h [] = Unit {0}
AreLinked h (e ∷ es) = (h e.at ≡ Some (cells.Version (leading_to e.version (first_link es)))) × AreLinked h es

-- A record has these versions, but for where they lead, in this order: its primary slot leads to the first.
pub record HasInOrder (h : Cells) (p : RecId) (es : List Entry) : Type 0 where
  pub slot : newest_of p (h p) ≡ first_link es
  pub linked : AreLinked h es

-- a cell of one of these versions is on a page
abbrev pub IsOn : ℕ → List Entry → Type 0
IsOn n [] = ⊥
IsOn n (e ∷ es) = (e.at.page.0 ≡ n) ⊎ IsOn n es

-- Of a record's versions these are left, in their order; the cells of the others are free, and the slot where none is
-- left. No other cell has changed, and no page but those of its versions and of its slot.
pub record Leaves (old new : Pages) (p : RecId) (es left : List Entry) : Type 0 where
  pub its : HasInOrder (cells_of new) p left
  pub some : AreSomeOf left es
  pub freed : (x : RecId) → Stands es x → (Stands left x → ⊥) → cells_of new x ≡ None
  pub emptied : left ≡ [] → es ≢ [] → cells_of new p ≡ None
  pub others : (x : RecId) → x ≢ p → (Stands es x → ⊥) → cells_of new x ≡ cells_of old x
  pub pages : (n : ℕ) → n ≢ p.page.0 → (IsOn n es → ⊥) → new n ≡ old n

-- These are left, and it is told whether others are gone: where none is, nothing has changed at all.
pub record LeavesTold (old new : Pages) (p : RecId) (es left : List Entry) (gone : Bool) : Type 0 where
  pub leaves : Leaves old new p es left
  pub told : IsToldOf gone es left
  pub same : gone ≡ false → new ≡ old

-- Of a record's versions some are left, these among them.
pub record LeavesAtLeast (old new : Pages) (p : RecId) (es least : List Entry) : Type 0 where
  pub left : List Entry
  pub gone : Bool
  pub leaves : LeavesTold old new p es left gone
  pub least_left : AreSomeOf least left
