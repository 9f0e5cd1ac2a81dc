-- Where tables stand, as they are found one after another.
use Rattle.std.proofs.Common.{◌≡◌, ◌≢◌, refl, sym, ap, ◌∙◌, subst, ℕ, zero, suc, ◌<◌, false, List, [], ◌∷◌, ◌++◌, length, append_assoc, append-nil, arith, get_or}
use Rattle.mg_model.specs.declared.table.Index.{Index}
use Rattle.mg_model.specs.declared.table.Table.{Table}
use Rattle.mg_pointer.specs.PointerPage.{next_in}
use Rattle.mg_image.specs.Form.{Pages}
use Rattle.mg_image.specs.Indexes.{AreTrees, IsTree}
use Rattle.mg_image.specs.Sound.{IsTableData}
use Rattle.mg_image.specs.Tables.{EachFrom, EachStand, PointerChain, entries_in}
use Rattle.mg_reading.specs.declared.image.Image.{Image}
use Rattle.mg_reading.specs.ChainLaws.{link_once}
use Rattle.mg_reading.specs.ImageView.{pages_in}
use Rattle.mg_reading.specs.Readable.{HasPointers}
use Rattle.mg_layout.specs.declared.standing.TableStand.{TableStand}
use Rattle.mg_layout.specs.HasPages.{IsStand, tables_in}
use Rattle.mg_layout.specs.Refusals.{CanAllStand, CanStand, HasTrees}
use Rattle.mg_layout.specs.Standing.{stand_in, stands_in}

-- ---- trees

-- What the loop over the indexes of a table keeps: the trees that were read, followed by those of the
-- other indexes, are those of all.
pub record AreRead (size : ℕ) (pages : Pages) (owner : ℕ) (all rest : List Index)
    (trees : List (List (List ℕ))) : Type 0 where
  pub go_on : (more : List (List (List ℕ))) → AreTrees size pages owner rest more
      → AreTrees size pages owner all (trees ++ more)
  pub later : (whole : List (List (List ℕ))) → AreTrees size pages owner all whole
      → (more : List (List (List ℕ))) × AreTrees size pages owner rest more

pub read_none : (size : ℕ) (pages : Pages) (owner : ℕ) (all : List Index)
    (trees : List (List (List ℕ))) → trees ≡ [] → AreRead size pages owner all all trees
read_none size pages owner all trees none = rw none (record {
  go_on = λ more are. are;
  later = λ whole are. (whole, are);
})

pub read_more : (size : ℕ) (pages : Pages) (owner : ℕ) (all rest later : List Index)
    (index : Index) (trees pushed : List (List (List ℕ))) (levels : List (List ℕ))
    → AreRead size pages owner all rest trees → rest ≡ index ∷ later
    → IsTree size pages owner index.root.0 levels → pushed ≡ trees ++ levels ∷ []
    → AreRead size pages owner all later pushed
read_more size pages owner all rest later index trees pushed levels read is tree push = record {
  go_on = λ more are. rw (push, append_assoc trees (levels ∷ []) more)
      (read.go_on (levels ∷ more) (rw is (tree, are)));
  later = λ whole are. next (read.later whole are);
}
  where
    next : (more : List (List (List ℕ))) × AreTrees size pages owner rest more
        → (more : List (List (List ℕ))) × AreTrees size pages owner later more
    next (more, are) = at more (rw is at are)
      where
        at : (more : List (List (List ℕ))) → AreTrees size pages owner (index ∷ later) more
            → (more : List (List (List ℕ))) × AreTrees size pages owner later more
        at [] none = absurd none
        at (first ∷ more) both = (more, both.1)

pub read_all : (size : ℕ) (pages : Pages) (owner : ℕ) (all rest : List Index)
    (trees : List (List (List ℕ))) → AreRead size pages owner all rest trees → length rest ≡ 0
    → AreTrees size pages owner all trees
read_all size pages owner all [] trees read none = rw append-nil at (read.go_on [] tt)
read_all size pages owner all (index ∷ later) trees read none = absurd (omega arith)

-- where all indexes have trees, the next one has
pub next_tree : (image : Image) (owner : ℕ) (all rest later : List Index) (index : Index)
    (trees : List (List (List ℕ))) → AreRead image.size (pages_in image) owner all rest trees
    → rest ≡ index ∷ later → HasTrees image owner all
    → (levels : List (List ℕ)) × IsTree image.size (pages_in image) owner index.root.0 levels
next_tree image owner all rest later index trees read is (whole, are) = next (read.later whole are)
  where
    next : (more : List (List (List ℕ))) × AreTrees image.size (pages_in image) owner rest more
        → (levels : List (List ℕ)) × IsTree image.size (pages_in image) owner index.root.0 levels
    next (more, are) = at more (rw is at are)
      where
        at : (more : List (List (List ℕ)))
            → AreTrees image.size (pages_in image) owner (index ∷ later) more
            → (levels : List (List ℕ))
            × IsTree image.size (pages_in image) owner index.root.0 levels
        at [] none = absurd none
        at (first ∷ more) both = (first, both.0)

-- ---- one table

pub place_owner : (image : Image) (table : Table) → CanStand image table → table.pointer.0 ≢ 0
place_owner image table (stand, is, pages) =
    subst (λ (t : Table). t.pointer.0 ≢ 0) is pages.first

pub place_pointers : (image : Image) (table : Table) → CanStand image table
    → HasPointers image.size (pages_in image) table.pointer.0
place_pointers image table (stand, is, pages) =
    subst (λ (t : Table). HasPointers image.size (pages_in image) t.pointer.0) is
    (stand.pointers, pages.chain, pages.pointers)

-- the data pages that were read are those of the table
pub place_data : (image : Image) (table : Table) (ms ns : List ℕ)
    → PointerChain (pages_in image) table.pointer.0 ms → ns ≡ entries_in (pages_in image) ms
    → CanStand image table
    → EachFrom (IsTableData false image.size (pages_in image) table.pointer.0) 0 ns
place_data image table ms ns chain entries (stand, is, pages) =
    let also : PointerChain (pages_in image) table.pointer.0 stand.pointers =
    subst (λ (t : Table). PointerChain (pages_in image) t.pointer.0 stand.pointers) is pages.chain
    in
    let same : stand.data_pages ≡ ns = pages.entries ∙ (ap (entries_in (pages_in image))
    (link_once (λ n. next_in (pages_in image n)) table.pointer.0 stand.pointers ms also chain)
    ∙ sym entries) in
    subst (EachFrom (IsTableData false image.size (pages_in image) table.pointer.0) 0) same
    (subst (λ (t : Table). EachFrom (IsTableData false image.size (pages_in image) t.pointer.0) 0
    stand.data_pages) is pages.data_pages)

pub place_trees : (image : Image) (table : Table) → CanStand image table
    → HasTrees image table.pointer.0 table.indexes
place_trees image table (stand, is, pages) =
    subst (λ (t : Table). HasTrees image t.pointer.0 t.indexes) is (stand.trees, pages.trees)

-- ---- several tables

pub stands_push : (image : Image) (stands : List TableStand) (stand : TableStand)
    → EachStand (IsStand image) (stands_in stands) → IsStand image (stand_in stand)
    → EachStand (IsStand image) (stands_in (stands ++ stand ∷ []))
stands_push image [] stand each is = (is, tt)
stands_push image (first ∷ stands) stand each is =
    (each.0, stands_push image stands stand each.1 is)

pub tables_push : (stands : List TableStand) (stand : TableStand) (tables : List Table)
    → tables_in (stands_in stands) ≡ tables
    → tables_in (stands_in (stands ++ stand ∷ [])) ≡ tables ++ stand.table ∷ []
tables_push [] stand tables is = ap (λ (ts : List Table). ts ++ stand.table ∷ []) is
tables_push (first ∷ stands) stand tables is =
    ap (λ (ts : List Table). first.table ∷ ts)
    (tables_push stands stand (tables_in (stands_in stands)) refl)
    ∙ ap (λ (ts : List Table). ts ++ stand.table ∷ []) is

-- one of several tables stands
pub stands_at : (image : Image) (tables : List Table) (i : ℕ) (table : Table)
    → (i < length tables) × (table ≡ get_or tables i table) → CanAllStand image tables
    → CanStand image table
stands_at image [] i table at stands = absurd (omega (arith, at.0))
stands_at image (first ∷ tables) i table at ([], same, each) = absurd cc
stands_at image (first ∷ tables) zero table at (stand ∷ stands, same, each) =
    let here : stand.table ≡ first = cc in (stand, here ∙ sym at.1, each.0)
stands_at image (first ∷ tables) (suc i) table at (stand ∷ stands, same, each) =
    stands_at image tables i table (omega (arith, at.0), at.1) (stands, cc, each.1)
