-- Laws of the indexes of a table: the rows say which they are, and there is one such list.
use Rattle.std.proofs.Common.{◌≡◌, inl, inr, ◌∙◌, ap, sym, subst, refl, ℕ, true, false, Bool, List, [], ◌∷◌, Option, None, Some}
use Rattle.std.specs.Cmp.Lexicographic.{bytes_decides, same_text}
use Rattle.mg_model.specs.declared.table.Index.{Index}
use Rattle.mg_model.specs.Changes.{Cells, same_name}
use Rattle.mg_model.specs.Catalog.{CatalogRows, index_key, said_a, said_b, said_name}
use Rattle.mg_model.specs.CatalogRules.{AreIndexes, Ascend, EachIndex, HasIndex, IsBefore, IsIndexOf, index_names}
use Rattle.mg_catalog.specs.ByKey.{by_key}
use Rattle.mg_catalog.specs.KeyLaws.{has_key}
use Rattle.mg_catalog.specs.NameLaws.{After, ascend_join, ascend_skip, ascend_split, ascending_once, from_ascends, from_whole}
use Rattle.mg_catalog.specs.Names.{HasName, all_indexes}
use Rattle.mg_catalog.specs.TableIndexes.{indexes_among, with_index}

-- ---- there is one list

pub index_named : (is : List Index) (name : List ℕ) → HasIndex is name
    → HasName (index_names is) name
index_named [] name has = absurd has
index_named (i ∷ is) name (inl here) = inl here
index_named (i ∷ is) name (inr later) = inr (index_named is name later)

pub named_index : (is : List Index) (name : List ℕ) → HasName (index_names is) name
    → HasIndex is name
named_index [] name has = absurd has
named_index (i ∷ is) name (inl here) = inl here
named_index (i ∷ is) name (inr later) = inr (named_index is name later)

index_equal : (i j : Index) → i.name ≡ j.name → i.column ≡ j.column → i.root.0 ≡ j.root.0 → i ≡ j
index_equal i j names columns roots k =
    record { name = names k; column = columns k; root = record { 0 = roots k } }

index_same : (rows : CatalogRows) (table : List ℕ) (i j : Index) → IsIndexOf rows table i
    → IsIndexOf rows table j → i.name ≡ j.name → i ≡ j
index_same rows table i j one other same = at (one_row one.row other.row
    (sym one.there ∙ (ap (λ (n : List ℕ). rows (index_key n)) same ∙ other.there)))
  where
    one_row : (a b : Cells) → Some a ≡ Some b → a ≡ b
    one_row a b e = cc

    at : one.row ≡ other.row → i ≡ j
    at is = index_equal i j same (one.column ∙ (ap said_b is ∙ sym other.column))
        (one.root ∙ (ap said_a is ∙ sym other.root))

indexes_same : (rows : CatalogRows) (table : List ℕ) (is js : List Index)
    → EachIndex (IsIndexOf rows table) is → EachIndex (IsIndexOf rows table) js
    → index_names is ≡ index_names js → is ≡ js
indexes_same rows table [] [] each other same = refl
indexes_same rows table [] (j ∷ js) each other same = absurd cc
indexes_same rows table (i ∷ is) [] each other same = absurd cc
indexes_same rows table (i ∷ is) (j ∷ js) each other same =
    at (index_same rows table i j each.0 other.0 (first i.name j.name _ _ same))
    (indexes_same rows table is js each.1 other.1 (rest i.name j.name _ _ same))
  where
    first : (a b : List ℕ) (xs ys : List (List ℕ)) → a ∷ xs ≡ b ∷ ys → a ≡ b
    first a b xs ys e = cc

    rest : (a b : List ℕ) (xs ys : List (List ℕ)) → a ∷ xs ≡ b ∷ ys → xs ≡ ys
    rest a b xs ys e = cc

    at : i ≡ j → is ≡ js → i ∷ is ≡ j ∷ js
    at here later = cc

-- an index of the table is in each list
index_there : (rows : CatalogRows) (table : List ℕ) (is js : List Index)
    → EachIndex (IsIndexOf rows table) is → AreIndexes rows table js
    → (name : List ℕ) → HasIndex is name → HasIndex js name
index_there rows table [] js each other name has = absurd has
index_there rows table (i ∷ is) js each other name (inl here) =
    let P : List ℕ → Type 0 = λ n. HasIndex js n in
    subst P here (other.whole i.name each.0.row each.0.there each.0.of_table)
index_there rows table (i ∷ is) js each other name (inr later) =
    index_there rows table is js each.1 other name later

pub indexes_once : (rows : CatalogRows) (table : List ℕ) (is js : List Index)
    → AreIndexes rows table is → AreIndexes rows table js → is ≡ js
indexes_once rows table is js one other =
    indexes_same rows table is js one.each other.each
    (ascending_once (index_names is) (index_names js) one.ascending other.ascending
    (λ name has. index_named js name
    (index_there rows table is js one.each other name (named_index is name has)))
    (λ name has. index_named is name
    (index_there rows table js is other.each one name (named_index js name has))))

-- ---- the list by names

among_each : (rows : CatalogRows) (table : List ℕ) (names : List (List ℕ))
    → EachIndex (IsIndexOf rows table) (indexes_among rows table names)
among_each rows table [] = tt
among_each rows table (name ∷ names) =
    at (rows (index_key name)) refl (among_each rows table names)
  where
    more : (row : Cells) → rows (index_key name) ≡ Some row
        → EachIndex (IsIndexOf rows table) (indexes_among rows table names)
        → (t : Bool) → same_name (said_name row) table ≡ t → EachIndex (IsIndexOf rows table)
        (with_index table name (Some row) (indexes_among rows table names))
    more row is later true e = rw e (
      record {
        row = row;
        there = is;
        of_table = same_text (said_name row) table (sym e);
        column = refl;
        root = refl;
      },
      later,
    )
    more row is later false e = rw e later

    at : (o : Option Cells) → rows (index_key name) ≡ o
        → EachIndex (IsIndexOf rows table) (indexes_among rows table names)
        → EachIndex (IsIndexOf rows table) (indexes_among rows table (name ∷ names))
    at None is later = rw is later
    at (Some row) is later =
        rw is (more row is later (same_name (said_name row) table) refl)

with_keeps : (table name : List ℕ) (o : Option Cells) (is : List Index) (other : List ℕ)
    → HasIndex is other → HasIndex (with_index table name o is) other
with_keeps table name None is other has = has
with_keeps table name (Some row) is other has = at (same_name (said_name row) table) refl
  where
    at : (t : Bool) → same_name (said_name row) table ≡ t
        → HasIndex (with_index table name (Some row) is) other
    at true e = rw e (inr has)
    at false e = rw e has

with_here : (table name : List ℕ) (row : Cells) (is : List Index) → said_name row ≡ table
    → HasIndex (with_index table name (Some row) is) name
with_here table name row is of_table =
    rw ((bytes_decides (said_name row) table).1 of_table) (inl refl)

among_whole : (rows : CatalogRows) (table : List ℕ) (names : List (List ℕ)) (name : List ℕ)
    (row : Cells) → HasName names name → rows (index_key name) ≡ Some row
    → said_name row ≡ table → HasIndex (indexes_among rows table names) name
among_whole rows table [] name row has is of_table = absurd has
among_whole rows table (first ∷ names) name row (inl here) is of_table =
    let P : List ℕ → Type 0 = λ n. HasIndex
    (with_index table n (rows (index_key n)) (indexes_among rows table names)) name in
    subst P (sym here)
    (rw is (with_here table name row (indexes_among rows table names) of_table))
among_whole rows table (first ∷ names) name row (inr later) is of_table =
    with_keeps table first (rows (index_key first)) (indexes_among rows table names) name
    (among_whole rows table names name row later is of_table)

with_after : (x table name : List ℕ) (o : Option Cells) (is : List Index) → IsBefore x name
    → After x (index_names is) → After x (index_names (with_index table name o is))
with_after x table name None is before after = after
with_after x table name (Some row) is before after = at (same_name (said_name row) table) refl
  where
    at : (t : Bool) → same_name (said_name row) table ≡ t
        → After x (index_names (with_index table name (Some row) is))
    at true e = rw e before
    at false e = rw e after

among_after : (rows : CatalogRows) (table x : List ℕ) (names : List (List ℕ))
    → Ascend (x ∷ names) → After x (index_names (indexes_among rows table names))
among_after rows table x [] ascend = tt
among_after rows table x (name ∷ names) ascend =
    with_after x table name (rows (index_key name)) (indexes_among rows table names) ascend.0
    (among_after rows table x names (ascend_skip x name names ascend.0 ascend.1))

with_ascends : (table name : List ℕ) (o : Option Cells) (is : List Index)
    → After name (index_names is) → Ascend (index_names is)
    → Ascend (index_names (with_index table name o is))
with_ascends table name None is after ascend = ascend
with_ascends table name (Some row) is after ascend = at (same_name (said_name row) table) refl
  where
    at : (t : Bool) → same_name (said_name row) table ≡ t
        → Ascend (index_names (with_index table name (Some row) is))
    at true e = rw e (ascend_join name (index_names is) after ascend)
    at false e = rw e ascend

among_ascends : (rows : CatalogRows) (table : List ℕ) (names : List (List ℕ)) → Ascend names
    → Ascend (index_names (indexes_among rows table names))
among_ascends rows table [] ascend = tt
among_ascends rows table (name ∷ names) ascend =
    with_ascends table name (rows (index_key name)) (indexes_among rows table names)
    (among_after rows table name names ascend)
    (among_ascends rows table names (ascend_split name names ascend).1)

-- those of a table among all indexes that have a row are its indexes
pub among_are : (rows : List Cells) (table : List ℕ)
    → AreIndexes (by_key rows) table (indexes_among (by_key rows) table (all_indexes rows))
among_are rows table = record {
  each = among_each (by_key rows) table (all_indexes rows);
  whole = λ name row is of_table. among_whole (by_key rows) table (all_indexes rows) name row
      (from_whole 73 rows [] name (has_key rows (index_key name) row is)) is of_table;
  ascending = among_ascends (by_key rows) table (all_indexes rows) (from_ascends 73 rows [] tt);
}
