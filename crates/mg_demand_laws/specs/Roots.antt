-- The roots of an image, and the law that a sound image is linked from them.
use Rattle.std.specs.Prelude.{◌≡◌, ◌≢◌, ℕ, true, List, [], ◌∷◌, ◌++◌}
use Rattle.mg_base.specs.declared.transaction.TxState.{TxState}
use Rattle.mg_careful.specs.declared.links.Demand.{Demand}
use Rattle.mg_demand_laws.specs.Wanting.{IsWanting}
use Rattle.mg_careful.specs.CarefulWrite.{Has, IsIn, IsLinked, listed}
use Rattle.mg_demand_laws.specs.Wanted.{wanted}
use Rattle.mg_image.specs.Form.{Form, Pages}
use Rattle.mg_image.specs.Records.{Reading}
use Rattle.mg_image.specs.Sound.{IsSoundBy}
use Rattle.mg_image.specs.Tables.{Has as HasPage}
use Rattle.mg_image.specs.Tables.{EachStand, Layout, Stand, stands_of}
use Rattle.mg_model.specs.declared.table.Index.{Index}
use Rattle.mg_pointer.specs.PointerPage.{capacity, count_in, next_in}
use Rattle.mg_space.specs.Demands.{demand, demands_of, linked, meets_of}
use Rattle.mg_space.specs.declared.links.TheConstants.{HEADER, POINTER, TREE}

-- the roots of the indexes of a table
abbrev pub index_roots : ℕ → ℕ → List Index → List Demand
index_roots size owner [] = []
index_roots size owner (index ∷ indexes) =
    linked size index.root.0 TREE owner 0 ++ index_roots size owner indexes

-- the first pointer pages of tables, and the roots of their indexes
abbrev pub table_roots : ℕ → List Stand → List Demand
table_roots size [] = []
table_roots size (stand ∷ stands) =
    linked size stand.table.pointer.0 POINTER stand.table.pointer.0 0
    ++ index_roots size stand.table.pointer.0 stand.table.indexes
    ++ table_roots size stands

-- the roots of an image: its header, and those of the tables that committed or limbo catalog rows name
abbrev pub roots_of : ℕ → Layout → List Demand
roots_of size layout = demand 0 HEADER 0 0 ++ table_roots size (stands_of layout)

-- each pointer page of a table that names a next one is full: the place of a data page among those of
-- its table is then told by its pointer page alone
abbrev pub IsFilled : ℕ → Pages → Stand → Type 0
IsFilled size pages stand = (n : ℕ) → HasPage stand.pointers n → next_in (pages n) ≢ 0
    → count_in (pages n) ≡ capacity size

-- the law: a sound image is linked from its roots, whatever has become of its transactions
abbrev pub SoundIsLinked : Form → Type 0
SoundIsLinked form = (size : ℕ) (state : ℕ → TxState) (pages : Pages) (layout : Layout) (r : Reading)
    → IsSoundBy form size state pages layout r → EachStand (IsFilled size pages) (stands_of layout)
    → IsLinked demands_of meets_of pages (listed (roots_of size layout))

-- The pages of a database are wanted for what some roots lead to, and the roots are wanted.
pub record WantsFrom (size : ℕ) (pages : Pages) (roots : List Demand) : Type 0 where
  pub wants : IsWanting size pages (wanted demands_of pages roots)
  pub rooted : (d : Demand) → Has roots d → IsIn (wanted demands_of pages roots) d

-- the law of what is wanted of a sound image from its roots on
abbrev pub SoundIsWanted : Form → Type 0
SoundIsWanted form = (size : ℕ) (state : ℕ → TxState) (pages : Pages) (layout : Layout) (r : Reading)
    → IsSoundBy form size state pages layout r → EachStand (IsFilled size pages) (stands_of layout)
    → WantsFrom size pages (roots_of size layout)
