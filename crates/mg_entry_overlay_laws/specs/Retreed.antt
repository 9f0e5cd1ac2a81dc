-- A layout with other index trees: its tables stand as they did.
use Rattle.std.specs.Prelude.{◌≡◌, ℕ, true, List, [], ◌∷◌, ◌++◌, length}
use Rattle.std.specs.List.{flat_map}
use Rattle.mg_image.specs.Form.{Pages}
use Rattle.mg_image.specs.Inventory.{is_used}
use Rattle.mg_image.specs.Reached.{tips_of}
use Rattle.mg_image.specs.Sound.{HasInventory}
use Rattle.mg_image.specs.Tables.{Has, Layout, Stand, stands_of, tree_pages}

-- the levels of the trees of one table
abbrev pub Trees : Type 0
Trees = List (List (List ℕ))

-- stands with other trees, one list for each
abbrev pub retree : List Stand → List Trees → List Stand
retree [] all = []
retree (s ∷ ss) [] = record s { trees = [] } ∷ retree ss []
retree (s ∷ ss) (t ∷ ts) = record s { trees = t } ∷ retree ss ts

abbrev pub retreed : Layout → Trees → List Trees → Layout
retreed layout first more = record {
  catalog = record layout.catalog { trees = first };
  tables = retree layout.tables more;
  sequences = layout.sequences;
}

-- the pages of tables but for their indexes
abbrev pub held_pages : List Stand → List ℕ
held_pages stands = flat_map (λ s. s.pointers ++ s.data_pages) stands

-- the pages of their indexes
abbrev pub trees_pages : List Stand → List ℕ
trees_pages stands = flat_map (λ s. tree_pages s.trees) stands

-- No linked page changes but those of trees; what was used is used still.
pub record LeavesTables (size : ℕ) (old new : Pages) (layout : Layout) : Type 0 where
  pub header_page : new 0 ≡ old 0
  pub tips : (m : ℕ) → Has (tips_of size old) m → new m ≡ old m
  pub tables : (m : ℕ) → Has (held_pages (stands_of layout)) m → new m ≡ old m
  pub used : (m : ℕ) → is_used size old m ≡ true → is_used size new m ≡ true
  pub lengths : (m : ℕ) → length (new m) ≡ length (old m)
  pub inventory : HasInventory size new
