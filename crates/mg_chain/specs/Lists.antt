-- What the writing calls do to the versions of records, in every reading of the cells: each is the
-- operation of its name on a list.
use Rattle.std.specs.Prelude.{◌≡◌, ◌≢◌, ℕ, false, List, [], ◌∷◌, Option, None, Some}
use Rattle.mg_base.specs.declared.numbers.RecId.{RecId}
use Rattle.mg_heap.specs.Changing.{FreesCellAt, PutsCellAt}
use Rattle.mg_image.specs.Form.{Pages}
use Rattle.mg_image.specs.Records.{Cells, Chain, Changes, Stands, cells_of, newest_of}
use Rattle.mg_image.specs.declared.entry.Entry.{Entry}
use Rattle.mg_version.specs.Cells.{IsSpelling}
use Rattle.mg_version.specs.declared.cell.Cell.{Cell}
use Rattle.mg_version.specs.declared.cell.Cell.TheVariants as cells
use Rattle.mg_version.specs.declared.cell.Link.{Link}
use Rattle.mg_version.specs.declared.cell.Version.{Version}
use Rattle.mg_chain.specs.Writing.{link_to}

-- the versions of a record, in some reading of the cells
abbrev pub Reads : Cells → RecId → List Entry → Type 0
Reads h p es = Chain h (newest_of p (h p)) es

-- each version of another record, in every reading, stays
abbrev pub KeepsOthers : Cells → Cells → RecId → Type 0
KeepsOthers old new p = (q : RecId) (es : List Entry) → q ≢ p → Reads old q es → Reads new q es

-- the same of each that does not read a cell
abbrev pub KeepsApart : Cells → Cells → RecId → RecId → Type 0
KeepsApart old new p x = (q : RecId) (es : List Entry) → q ≢ p → (Stands es x → ⊥) → Reads old q es
    → Reads new q es

-- a version, outside its primary slot, comes to stand in a free cell
pub record PutsEntry (old new : Cells) (e : Entry) : Type 0 where
  pub free : old e.at ≡ None
  pub put : Changes old new e.at (Some (cells.Version e.version))
  pub apart : e.version.primary ≡ false

-- a slot comes to lead to a version, or nowhere
abbrev pub slot_cell_to : Option Link → Option Cell
slot_cell_to None = None
slot_cell_to (Some link) = Some (cells.Anchor link)

-- ---- the steps, by their cells

pub record MakesList (old mid new : Cells) (p : RecId) (e : Entry) : Type 0 where
  pub puts : PutsEntry old mid e
  pub blank : mid p ≡ None
  pub turn : Changes mid new p (Some (cells.Anchor (link_to e.at e.version.tx)))
  pub back : e.version.back ≡ None

pub record PushesList (old mid new : Cells) (p : RecId) (l : Link) (e : Entry) : Type 0 where
  pub slot : old p ≡ Some (cells.Anchor l)
  pub puts : PutsEntry old mid e
  pub turn : Changes mid new p (Some (cells.Anchor (link_to e.at e.version.tx)))
  pub back : e.version.back ≡ Some l

pub record OverwritesList (old new : Cells) (p : RecId) (l : Link) (v : Version) (e : Entry) : Type 0
  where
    pub slot : old p ≡ Some (cells.Anchor l)
    pub was : old l.rec ≡ Some (cells.Version v)
    pub at : e.at ≡ l.rec
    pub put : Changes old new e.at (Some (cells.Version e.version))
    pub tx : e.version.tx ≡ l.tx
    pub back : e.version.back ≡ v.back
    pub apart : e.version.primary ≡ false
    pub was_apart : v.primary ≡ false

-- A version's cell is put, the slot is turned from the old cell to it, and the old cell is freed.
pub record MovesList (old put turned new : Cells) (p : RecId) (l : Link) (v : Version) (e : Entry)
    : Type 0 where
  pub slot : old p ≡ Some (cells.Anchor l)
  pub was : old l.rec ≡ Some (cells.Version v)
  pub was_apart : v.primary ≡ false
  pub puts : PutsEntry old put e
  pub back : e.version.back ≡ v.back
  pub turn : Changes put turned p (Some (cells.Anchor (link_to e.at e.version.tx)))
  pub freed : Changes turned new l.rec None

pub record TakesOutList (old mid new : Cells) (p : RecId) (l : Link) (v : Version) : Type 0 where
  pub slot : old p ≡ Some (cells.Anchor l)
  pub was : old l.rec ≡ Some (cells.Version v)
  pub was_apart : v.primary ≡ false
  pub turn : Changes old mid p (slot_cell_to v.back)
  pub freed : Changes mid new l.rec None

-- ---- the laws

-- a cell that is put is the one that its bytes spell
abbrev pub PutsSpelled : Type 0
PutsSpelled = (old new : Pages) (at : RecId) (bytes : List ℕ) (cell : Cell)
    → PutsCellAt old new at bytes → IsSpelling bytes cell
    → Changes (cells_of old) (cells_of new) at (Some cell)

-- a freed slot has none
abbrev pub FreesSlot : Type 0
FreesSlot = (old new : Pages) (at : RecId) → FreesCellAt old new at
    → Changes (cells_of old) (cells_of new) at None

-- a record that is made has one version, and every other record has those that it had
pub record MadeList (old new : Cells) (p : RecId) (e : Entry) : Type 0 where
  pub its : Reads new p (e ∷ [])
  pub others : KeepsOthers old new p

abbrev pub MakesLists : Type 0
MakesLists = (old mid new : Cells) (p : RecId) (e : Entry) → MakesList old mid new p e
    → MadeList old new p e

-- a version is pushed in front of those that a record has, and every other record has those that it had
pub record PushedList (old new : Cells) (p : RecId) (e : Entry) : Type 0 where
  pub its : (es : List Entry) → Reads old p es → Reads new p (e ∷ es)
  pub others : KeepsOthers old new p

abbrev pub PushesLists : Type 0
PushesLists = (old mid new : Cells) (p : RecId) (l : Link) (e : Entry)
    → PushesList old mid new p l e → PushedList old new p e

-- The newest of a record's versions is another one, where none behind it stands in its cell; and every
-- other record that does not read that cell has the versions that it had.
pub record ReplacedList (old new : Cells) (p x : RecId) (e : Entry) : Type 0 where
  pub its : (d : Entry) (es : List Entry) → (Stands es x → ⊥) → Reads old p (d ∷ es)
      → Reads new p (e ∷ es)
  pub others : KeepsApart old new p x

abbrev pub OverwritesLists : Type 0
OverwritesLists = (old new : Cells) (p : RecId) (l : Link) (v : Version) (e : Entry)
    → OverwritesList old new p l v e → ReplacedList old new p l.rec e

-- The same of a version that is moved from a cell, and no record reads that cell any more.
pub record MovedList (old new : Cells) (p x : RecId) (e : Entry) : Type 0 where
  pub replaced : ReplacedList old new p x e
  pub left : (q : RecId) (es : List Entry) → Reads new q es → Stands es x → ⊥

abbrev pub MovesLists : Type 0
MovesLists = (old put turned new : Cells) (p : RecId) (l : Link) (v : Version) (e : Entry)
    → MovesList old put turned new p l v e → MovedList old new p l.rec e

-- The newest of a record's versions is gone, where none behind it stands in its cell; and every other
-- record that does not read that cell has the versions that it had.
pub record TakenOutList (old new : Cells) (p x : RecId) : Type 0 where
  pub its : (d : Entry) (es : List Entry) → (Stands es x → ⊥) → Reads old p (d ∷ es) → Reads new p es
  pub others : KeepsApart old new p x

abbrev pub TakesOutLists : Type 0
TakesOutLists = (old mid new : Cells) (p : RecId) (l : Link) (v : Version)
    → TakesOutList old mid new p l v → TakenOutList old new p l.rec
