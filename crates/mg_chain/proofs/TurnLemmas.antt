-- A slot is turned, and a cell freed.
use Rattle.std.proofs.Common.{◌≡◌, ◌<◌, ◌+◌, ◌∙◌, inr, ℕ, Bool, true, false, List, Option, None, Some, length, sym, ap, subst, Result, Ok, Err}
use Rattle.std.specs.Prelude.{MatchResult, OnErr, OnOk}
use Rattle.std.specs.declared.alloc.Global.{Global}
use Rattle.std.specs.declared.vec.Vec.{Vec}
use Rattle.mg_base.specs.Disk.{Meaning}
use Rattle.mg_base.specs.Image.{Image}
use Rattle.mg_base.specs.declared.damage.Damaged.{Damaged}
use Rattle.mg_base.specs.declared.damage.Field.TheVariants.{Count}
use Rattle.mg_base.specs.declared.geometry.Geometry.{Geometry}
use Rattle.mg_base.specs.declared.numbers.RecId.{RecId}
use Rattle.mg_heap.specs.Changing.{ChangesAtMost, ChangesWhere, FreesCellAt, PlacesCell}
use Rattle.mg_heap.specs.ChangingLaws.{whole_at_most}
use Rattle.mg_heap.specs.Reach.{IsReached}
use Rattle.mg_heap.specs.Reading.{RefusesData}
use Rattle.mg_image.specs.Form.{Pages}
use Rattle.mg_pool.specs.Batch.{Changed}
use Rattle.mg_pool.specs.declared.batch.BatchPage.{BatchPage}
use Rattle.mg_pool.specs.declared.pool.Pool.{Pool}
use Rattle.mg_space.specs.View.{AreWhole, KeepsStore, viewed}
use Rattle.mg_space.specs.ViewLaws.{viewed_on}
use Rattle.mg_space.specs.declared.fault.SpaceFault.{SpaceFault}
use Rattle.mg_space.specs.declared.fault.SpaceFault.TheVariants as faults
use Rattle.mg_version.specs.Cells.{IsSpelling}
use Rattle.mg_version.specs.declared.cell.Cell.TheVariants as cells
use Rattle.mg_version.specs.declared.cell.Link.{Link}
use Rattle.mg_version.specs.declared.cell.TheConstants.{ANCHOR_LEN}
use Rattle.mg_chain.specs.Writing.{FreesAt, PutsAt, SlotIsReached, Swings, TurnsBack, TurnsTo}
use Rattle.mg_chain.specs.Refusals.{damage}
use Rattle.mg_chain.specs.WritingRefusals.{RefusesSwing, RefusesTurn, swing_frees}
use Rattle.mg_chain.proofs.HeadLemmas.{turn_data}
use Rattle.mg_chain.proofs.WritingLemmas.{frees_at_on}

-- a cell that was put where it may stand
pub puts_where : {D L : Type 0} (store : Pool D L) (image : Image) (old new : Changed) (at : RecId)
    (cell bytes : List ℕ) (placed : Bool) → placed ≡ true → cell ≡ bytes
    → ChangesWhere store.geometry.size old new at.page.0 placed
    → PlacesCell (viewed store image old) (viewed store image new) at cell placed
    → PutsAt store image old new at bytes
puts_where store image old new at cell bytes true is same changes places =
    subst (λ (b : List ℕ). PutsAt store image old new at b) same
    (record { one = changes; puts = places.0 })
puts_where store image old new at cell bytes false is same changes places = absurd cc

pub turns_where : {D L : Type 0} (store : Pool D L) (image : Image) (old new : Changed) (rec : RecId)
    (link : Link) (cell bytes : List ℕ) (placed : Bool) → placed ≡ true → cell ≡ bytes
    → IsSpelling bytes (cells.Anchor link) → ChangesWhere store.geometry.size old new rec.page.0 placed
    → PlacesCell (viewed store image old) (viewed store image new) rec cell placed
    → TurnsTo store image old new rec link
turns_where store image old new rec link cell bytes placed is same spells changes places = record {
  bytes = bytes;
  spells = spells;
  puts = puts_where store image old new rec cell bytes placed is same changes places;
}

pub no_turn : {D L : Type 0} (m : Meaning D) (store : Pool D L) (pages : List BatchPage)
    (view new : Pages) (rec : RecId) (cell bytes : List ℕ) (placed : Bool) (it : Damaged)
    → placed ≡ false → cell ≡ bytes → length bytes ≡ ANCHOR_LEN → PlacesCell view new rec cell placed
    → it ≡ damage rec.page.0 Count rec.slot (rec.slot + 1)
    → RefusesTurn m store pages view rec (faults.Damaged it)
no_turn m store pages view new rec cell bytes true it is same len places told = absurd cc
no_turn m store pages view new rec cell bytes false it is same len places told =
    inr record {
      page_is = places.0;
      bytes = cell;
      len = ap (length {A = ℕ}) same ∙ len;
      none = places.1;
      is = told;
    }

-- a slot is turned to a version, as one of two things that may be
pub back_some : {D L : Type 0} (store : Pool D L) (image : Image) (old new : Changed) (rec : RecId)
    (to : Option Link) (link : Link) (result : Result (Unit {0}) SpaceFault)
    (Q : SpaceFault → Type 0) → to ≡ Some link
    → MatchResult result (λ _. TurnsTo store image old new rec link) Q
    → MatchResult result (λ _. TurnsBack store image old new rec to) Q
back_some store image old new rec to link result Q is given =
    subst (λ (t : Option Link). MatchResult result (λ _. TurnsBack store image old new rec t) Q)
    (sym is) given

-- a slot that was freed
pub frees_as : {D L : Type 0} (store : Pool D L) (image : Image) (old new : Changed) (at : RecId)
    (result : Result (Unit {0}) SpaceFault) (Q : SpaceFault → Type 0)
    → OnOk result (ChangesAtMost store.geometry.size old new at.page.0)
    → MatchResult result (λ _. FreesCellAt (viewed store image old) (viewed store image new) at) Q
    → MatchResult result (λ _. FreesAt store image old new at) Q
frees_as store image old new at (Ok x) Q changes frees = record { at_most = changes; frees = frees }
frees_as store image old new at (Err fault) Q changes refused = refused

pub back_none : {D L : Type 0} (m : Meaning D) (store after : Pool D L) (image : Image)
    (old new : Changed) (rec : RecId) (to : Option Link) (result : Result (Unit {0}) SpaceFault)
    → to ≡ None → OnOk result (ChangesAtMost store.geometry.size old new rec.page.0)
    → MatchResult result (λ _. FreesCellAt (viewed store image old) (viewed store image new) rec)
    (RefusesData m after old.pages rec.page (viewed store image old rec.page.0))
    → MatchResult result (λ _. TurnsBack store image old new rec to)
    (RefusesTurn m after old.pages (viewed store image old) rec)
back_none m store after image old new rec to (Ok x) is changes frees =
    subst (λ (t : Option Link). TurnsBack store image old new rec t) (sym is)
    (record { at_most = changes; frees = frees })
back_none m store after image old new rec to (Err fault) is changes refused =
    turn_data m after old.pages (viewed store image old) rec fault refused

-- contents are one page long, and of pages below the limit, after a slot was freed, and after it was not
pub whole_freed : (g : Geometry) (old new : Changed) (page : ℕ) (result : Result (Unit {0}) SpaceFault)
    → AreWhole g old.pages → OnOk result (page < g.limit)
    → OnOk result (ChangesAtMost g.size old new page) → OnErr result (new ≡ old) → AreWhole g new.pages
whole_freed g old new page (Ok x) whole below changes same = whole_at_most g old new page whole below changes
whole_freed g old new page (Err fault) whole below changes same =
    subst (λ (b : Changed). AreWhole g b.pages) (sym same) whole

-- ---- the slot is turned, and then the cell freed

module _ {D L : Type 0} (m : Meaning D) (a b : Pool D L) (kept : KeepsStore m a b) (image : Image) where
  pub swings_then : (after : Pool D L) (old turned new : Changed) (rec left : RecId)
      (to : Option Link) (result : Result (Unit {0}) SpaceFault)
      → TurnsBack a image old turned rec to
      → OnOk result (ChangesAtMost b.geometry.size turned new left.page.0)
      → MatchResult result (λ _. FreesCellAt (viewed b image turned) (viewed b image new) left)
      (RefusesData m after turned.pages left.page (viewed b image turned left.page.0))
      → MatchResult result (λ _. Swings a image old new rec left to)
      (RefusesSwing m a after image old rec left to)
  swings_then after old turned new rec left to (Ok x) turns changes frees = record {
    turned = turned;
    turns = turns;
    frees = frees_at_on m a b kept image turned new left (record { at_most = changes; frees = frees });
  }
  swings_then after old turned new rec left to (Err fault) turns changes refused =
      swing_frees turned turns (subst (λ (pages : Pages).
      RefusesData m after turned.pages left.page (pages left.page.0) fault)
      (viewed_on m a b image turned kept) refused)

-- ---- the pointer pages of a slot's page

pub slot_none : (view : Pages) (owner page : ℕ) (back : Option Link) (result : Result (Vec ℕ Global) SpaceFault)
    (Q : SpaceFault → Type 0) → back ≡ None
    → MatchResult result (λ pointers. IsReached view owner page pointers.items) Q
    → MatchResult result (λ pointers. SlotIsReached view owner page back pointers.items) Q
slot_none view owner page back result Q is given = subst (λ (b : Option Link).
    MatchResult result (λ pointers. SlotIsReached view owner page b pointers.items) Q) (sym is) given
