-- The plain machine's walks by indexes: a place is how many of the rows in the range, in key order, a walk has come to.
use Rattle.std.specs.Prelude.{ℕ, ◌-◌, drop, length, None, Bool, true, false, not, [], ◌∷◌, ◌++◌}
use Rattle.std.proofs.Common.{◌≡◌, filter, cond, refl, ap, subst, ◌∙◌}
use Rattle.std.proofs.lemmas.List.Sorted.{IsPermutation-filter_both, IsPermutation-sym}
use Rattle.mg_indexed.specs.Indexing.{AllLie, AreWithin, IndexWalksAreWhole, IndexWalksFollow, Indexing, column_of, lies_within}
use Rattle.mg_model.specs.declared.table.Table.{Table}
use Rattle.mg_model.specs.Changes.{Cells, KeyedRows}
use Rattle.mg_paths.specs.declared.range.Range.{Range}
use Rattle.mg_value.specs.declared.value.Value.{Value}
use Rattle.mg_plain.specs.declared.plain.Plain.{Plain}
use Rattle.mg_plain.specs.Keeping.{Keeping}
use Rattle.mg_plain.specs.Kept.{kept}
use Rattle.mg_plain.specs.Records.{behind, means, rows_seen}
use Rattle.mg_plain.specs.RecordsLaws.{same_rows}

-- the rows of a table that a transaction sees and that lie in a range of an index, in key order
abbrev pub rows_ranged : Keeping → ℕ → Table → ℕ → Range → KeyedRows
rows_ranged k t table index range = filter (lies_within (column_of table index) range) (rows_seen k t table.name)

abbrev pub indexing_plain : Indexing Plain ℕ
indexing_plain = record {
  to_come = λ p t table index range after rows.
      rows ≡ drop (behind after) (rows_ranged (kept p) t table index range);
  still = λ p t table index range after. length (rows_ranged (kept p) t table index range) - behind after;
}

-- what a test keeps passes it, and what the other test keeps does not
all_kept : (column : ℕ) (range : Range) (rows : KeyedRows)
    → AllLie true column range (filter (lies_within column range) rows)
all_kept column range [] = tt
all_kept column range (row ∷ rows) = by (lies_within column range row) refl (all_kept column range rows)
  where
    by : (lies : Bool) → lies_within column range row ≡ lies
        → AllLie true column range (filter (lies_within column range) rows)
        → AllLie true column range (cond lies (row ∷ filter (lies_within column range) rows) (filter (lies_within column range) rows))
    by true is rest = (is, rest)
    by false is rest = rest

abbrev lies_outside : ℕ → Range → Value × Cells → Bool
lies_outside column range row = not (lies_within column range row)

all_dropped : (column : ℕ) (range : Range) (rows : KeyedRows)
    → AllLie false column range (filter (lies_outside column range) rows)
all_dropped column range [] = tt
all_dropped column range (row ∷ rows) = by (lies_within column range row) refl (all_dropped column range rows)
  where
    by : (lies : Bool) → lies_within column range row ≡ lies
        → AllLie false column range (filter (lies_outside column range) rows)
        → AllLie false column range (cond (not lies) (row ∷ filter (lies_outside column range) rows) (filter (lies_outside column range) rows))
    by true is rest = rest
    by false is rest = (is, rest)

within_all : (column : ℕ) (range : Range) (rows : KeyedRows)
    → AreWithin column range (filter (lies_within column range) rows) rows
within_all column range rows = record {
  others = filter (lies_outside column range) rows;
  whole = IsPermutation-sym rows (filter (lies_within column range) rows ++ filter (lies_outside column range) rows)
      (IsPermutation-filter_both (lies_within column range) (lies_outside column range) (λ row. refl) rows);
  within = all_kept column range rows;
  outside = all_dropped column range rows;
}

pub each_by_index : IndexWalksAreWhole means indexing_plain
each_by_index p o h t table index range s active is has = (
  rows_ranged (kept p) t table index range,
  refl,
  subst (λ (seen : KeyedRows). AreWithin (column_of table index) range (rows_ranged (kept p) t table index range) seen)
      (same_rows o h (kept p) t table.name s) (within_all (column_of table index) range (rows_seen (kept p) t table.name)),
)

pub by_index_follows : IndexWalksFollow means indexing_plain
by_index_follows old new t table goes index range after rows is =
    let same : rows_seen (kept old) t table.name ≡ rows_seen (kept new) t table.name =
    goes None (rows_seen (kept old) t table.name) refl in
    is ∙ ap (λ (seen : KeyedRows). drop (behind after) (filter (lies_within (column_of table index) range) seen)) same
