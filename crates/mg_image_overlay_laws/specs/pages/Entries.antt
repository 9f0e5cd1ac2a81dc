-- What is found by the indexes of a table is found still, where pages of other kinds change.
use Rattle.std.proofs.Common.{◌≡◌, ap, sym, subst, ◌∙◌, arith, ℕ, true, List, [], ◌∷◌, ◌++◌}
use Rattle.std.specs.List.{flat_map}
use Rattle.mg_base.specs.Fields.{byte}
use Rattle.mg_base.specs.declared.numbers.RecId.{RecId}
use Rattle.mg_base.specs.declared.transaction.TxState.{TxState}
use Rattle.mg_model.specs.declared.table.Table.{Table}
use Rattle.mg_image.specs.Form.{Form, Pages, Row}
use Rattle.mg_image.specs.Indexes.{AreTrees, IsFoundIn}
use Rattle.mg_image.specs.Inventory.{is_used}
use Rattle.mg_image.specs.Reached.{linked_pages, tips_of}
use Rattle.mg_image.specs.Records.{Reading}
use Rattle.mg_image.specs.Sound.{HasTablePages, IsSoundBy}
use Rattle.mg_image.specs.Tables.{EachStand, Has, Layout, Stand, pages_of, stands_of, tree_pages}
use Rattle.mg_image_overlay_laws.specs.pages.DataPages.{ChangesData, used_kept}
use Rattle.mg_image_overlay_laws.specs.pages.Growth.{has_back, has_front}
use Rattle.mg_image_overlay_laws.specs.pages.Trees.{HasRoots, found_still, trees_seven}
use Rattle.mg_model.specs.declared.table.Index.{Index}
use Rattle.mg_image_overlay_laws.specs.pages.GrowPages.{in_mid, trees_mid}
use Rattle.mg_image_overlay_laws.specs.tables.Growing.{IsTableOf}

-- what is found by a table's indexes is found still
abbrev pub StaysFound : Table → Pages → Pages → Type 0
StaysFound table old new = (p : RecId) (row : Row) → IsFoundIn old table.indexes p row
    → IsFoundIn new table.indexes p row

roots_of : (size : ℕ) (pages : Pages) (owner : ℕ) (indexes : List Index)
    (trees : List (List (List ℕ))) → AreTrees size pages owner indexes trees → HasRoots indexes
roots_of size pages owner [] trees are = tt
roots_of size pages owner (i ∷ is) [] are = absurd are
roots_of size pages owner (i ∷ is) (levels ∷ trees) are =
    (are.0.rooted, roots_of size pages owner is trees are.1)

pub found_with : (form : Form) (size : ℕ) (state : ℕ → TxState) (old new : Pages) (layout : Layout)
    (r : Reading) (table : Table) → IsSoundBy form size state old layout r → IsTableOf layout table
    → ((m : ℕ) → is_used size old m ≡ true → is_used size new m ≡ true)
    → ((m : ℕ) → Has (linked_pages size old layout) m → byte (old m) 0 ≡ 7 → new m ≡ old m)
    → StaysFound table old new
found_with form size state old new layout r table sound its used same p row found =
    subst (λ (t : Table). IsFoundIn new t.indexes p row) its.table_is
    (found_still size old new its.stand.table.pointer.0 used its.stand.table.indexes its.stand.trees
    (roots_of size old its.stand.table.pointer.0 its.stand.table.indexes its.stand.trees has_.trees) stay
    has_.trees p row (subst (λ (t : Table). IsFoundIn old t.indexes p row) (sym its.table_is) found))
  where
    has_ : HasTablePages form.in_primary size old its.stand
    has_ = (trees_mid (HasTablePages form.in_primary size old) its.before its.after its.stand
        (subst (EachStand (HasTablePages form.in_primary size old)) its.is_ sound.tables)).1

    stay : (m : ℕ) → Has (tree_pages its.stand.trees) m → new m ≡ old m
    stay m is = same m (has_front (tips_of size old ++ flat_map pages_of (stands_of layout))
        layout.sequences m (has_back (tips_of size old) (flat_map pages_of (stands_of layout)) m
        (subst (λ (ss : List Stand). Has (flat_map pages_of ss) m) (sym its.is_)
        (in_mid its.before its.after its.stand m
        (has_back (its.stand.pointers ++ its.stand.data_pages) (tree_pages its.stand.trees) m is)))))
        (trees_seven size old new its.stand.table.pointer.0 used its.stand.table.indexes its.stand.trees
        has_.trees m is)

-- where a data page changes
pub found_beside : (form : Form) (size : ℕ) (state : ℕ → TxState) (old new : Pages) (b : ℕ)
    (layout : Layout) (r : Reading) (table : Table) → IsSoundBy form size state old layout r
    → IsTableOf layout table → ChangesData form.in_primary old new b → StaysFound table old new
found_beside form size state old new b layout r table sound its change =
    found_with form size state old new layout r table sound its
    (λ m is. used_kept form.in_primary size old new b change sound.header sound.inventory
    sound.transactions m ∙ is)
    (λ m is seven. change.others m (λ e.
    let five : byte (old m) 0 ≡ 5 = ap (λ (k : ℕ). byte (old k) 0) e ∙ change.kind in
    omega (arith, seven, five)))
