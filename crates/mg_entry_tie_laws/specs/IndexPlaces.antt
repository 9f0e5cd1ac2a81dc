-- Whose index it is, in the layouts of an image.
use Rattle.std.specs.Prelude.{◌≡◌, ◌≢◌, ◌⊎◌, ℕ, List, [], ◌∷◌}
use Rattle.mg_base.specs.declared.transaction.TxState.{TxState}
use Rattle.mg_model.specs.declared.table.Index.{Index}
use Rattle.mg_image.specs.Form.{Form, Pages}
use Rattle.mg_image.specs.Records.{Reading}
use Rattle.mg_image.specs.Sound.{IsSoundBy}
use Rattle.mg_image.specs.Tables.{Layout, Stand, stands_of}

-- one of these indexes has this root
abbrev pub HasRoot : List Index → ℕ → Type 0
HasRoot [] root = ⊥
HasRoot (index ∷ indexes) root = (index.root.0 ≡ root) ⊎ HasRoot indexes root

-- a table with this first page has an index with this root
abbrev pub HasIndex : List Stand → ℕ → ℕ → Type 0
HasIndex [] owner root = ⊥
HasIndex (stand ∷ stands) owner root =
    ((stand.table.pointer.0 ≡ owner) × HasRoot stand.table.indexes root) ⊎ HasIndex stands owner root

-- no table has this first page
abbrev pub HasNoTable : List Stand → ℕ → Type 0
HasNoTable [] owner = Unit {0}
HasNoTable (stand ∷ stands) owner = (stand.table.pointer.0 ≢ owner) × HasNoTable stands owner

-- The table with this first page has an index with this root in each layout by which the image is sound, or the layout
-- has no such table: whoever has made it counts as dead there.
abbrev pub IsIndexFor : Form → ℕ → (ℕ → TxState) → Pages → ℕ → ℕ → Type 0
IsIndexFor form size state pages owner root = (layout : Layout) (r : Reading)
    → IsSoundBy form size state pages layout r
    → HasIndex (stands_of layout) owner root ⊎ HasNoTable (stands_of layout) owner
