-- The rows found don't depend on the order in which they are visited.
use Rattle.std.proofs.Common.{◌≡◌, ℕ, ◌+◌, ◌<◌, arith, length, ◌||◌, Bool, true, false, List, [], ◌∷◌, ◌++◌, filter, map, cond, Option, Some, None, Ok, Err, is_none, refl, sym, ap, ◌∙◌}
use Rattle.std.specs.List.{list_any, sum_by}
use Rattle.std.proofs.lemmas.List.{append-nil, get_or-map, length-map}
use Rattle.std.proofs.lemmas.List.Sums.{sum_by-cons}
use Rattle.std.specs.List.Sorted.{IsPermutation, IsSorted}
use Rattle.std.proofs.lemmas.List.Sorted.{list_any-IsPermutation}
use Rattle.mg_value.specs.declared.value.Value.{Value}
use Rattle.mg_value.specs.declared.value.Value.TheVariants.{Null}
use Rattle.mg_expr.specs.declared.expr.Expr.{Expr}
use Rattle.mg_expr.specs.declared.fault.EvalFault.TheVariants as faults
use Rattle.mg_expr.specs.Trees.{Tree}
use Rattle.mg_expr.specs.Filters.{is_passed}
use Rattle.mg_expr.specs.FilterLaws.{passes_where_true}
use Rattle.mg_statements.specs.Plain.{tree_in}
use Rattle.mg_model.specs.Changes.{Cells, KeyedRows}
use Rattle.mg_model.specs.Answers.{passes}
use Rattle.mg_model.specs.RowLaws.{IsBelow, IsAscending}
use Rattle.mg_rows.specs.Found.{passes_filter, joined, found, found_by, found_keyed, without_keys, Keeps}
use Rattle.mg_rows.specs.Orders.{key_cmp, keyed_cmp, AreSorted, ComesBefore, Ascend}
use Rattle.mg_rows.specs.OrderLaws.{key_cmp_total}
use Rattle.mg_rows.specs.SortLaws.{HaveSame, same_from_moved, same_filtered, sorted_one}

-- ---- what is found, by what each row gives

-- it passes, and the test doesn't fault
abbrev lets : {A : Type 0} → (A → Option Bool) → A → Bool
lets passes row = is_passed (passes row)

abbrev faults_at : {A : Type 0} → (A → Option Bool) → A → Bool
faults_at passes row = is_none (passes row)

-- these rows, but where there is a fault none
abbrev but_for : {A : Type 0} → Bool → List A → Option (List A)
but_for fault rows = cond fault None (Some rows)

joined_is : {A : Type 0} (passed : Option Bool) (row : A) (fault : Bool) (rows : List A)
    → joined passed row (but_for fault rows)
    ≡ but_for (is_none passed || fault) (cond (is_passed passed) (row ∷ rows) rows)
joined_is None row fault rows = refl
joined_is (Some false) row fault rows = refl
joined_is (Some true) row true rows = refl
joined_is (Some true) row false rows = refl

found_is : {A : Type 0} (p : A → Option Bool) (rows : List A)
    → found_by p rows ≡ but_for (list_any (faults_at p) rows) (filter (lets p) rows)
found_is p [] = refl
found_is p (row ∷ rows) =
    ap (joined (p row) row) (found_is p rows)
    ∙ joined_is (p row) row (list_any (faults_at p) rows) (filter (lets p) rows)

whole : {A : Type 0} (fault : Bool) (rows kept : List A) → but_for fault rows ≡ Some kept
    → (fault ≡ false) × (rows ≡ kept)
whole true rows kept is = absurd cc
whole false rows kept is = (refl, cc)

faulted : {A : Type 0} (fault : Bool) (rows : List A) → but_for fault rows ≡ None → fault ≡ true
faulted true rows is = refl
faulted false rows is = absurd cc

-- ---- one row after another

abbrev both : {A : Type 0} → Option (List A) → Option (List A) → Option (List A)
both None more = None
both (Some rows) None = None
both (Some rows) (Some more) = Some (rows ++ more)

joined_both : {A : Type 0} (passed : Option Bool) (row : A) (rows more : Option (List A))
    → joined passed row (both rows more) ≡ both (joined passed row rows) more
joined_both None row rows more = refl
joined_both (Some false) row rows more = refl
joined_both (Some true) row None more = refl
joined_both (Some true) row (Some rows) None = refl
joined_both (Some true) row (Some rows) (Some more) = refl

found_append : {A : Type 0} (p : A → Option Bool) (rows more : List A)
    → found_by p (rows ++ more) ≡ both (found_by p rows) (found_by p more)
found_append {A = A} p [] more = at (found_by p more)
  where
    at : (o : Option (List A)) → o ≡ both (Some []) o
    at None = refl
    at (Some rows) = refl
found_append p (row ∷ rows) more =
    ap (joined (p row) row) (found_append p rows more)
    ∙ joined_both (p row) row (found_by p rows) (found_by p more)

kept_more : {A : Type 0} (passed : Option Bool) (row : A) (kept new : List A) (x : Unit {0})
    → Keeps passed row kept new (Ok x) → both (Some kept) (joined passed row (Some [])) ≡ Some new
kept_more None row kept new x keeps = absurd keeps
kept_more (Some false) row kept new x keeps = ap Some (append-nil kept ∙ sym keeps)
kept_more (Some true) row kept new x keeps = ap Some (sym keeps)

-- a row that is visited is kept, or dropped
pub found_more : {A : Type 0} (p : A → Option Bool) (visited kept new : List A) (row : A) (x : Unit {0})
    → found_by p visited ≡ Some kept → Keeps (p row) row kept new (Ok x)
    → found_by p (visited ++ row ∷ []) ≡ Some new
found_more {A = A} p visited kept new row x so_far keeps =
    found_append p visited (row ∷ [])
    ∙ ap (λ (o : Option (List A)). both o (found_by p (row ∷ []))) so_far
    ∙ kept_more (p row) row kept new x keeps

both_none : {A : Type 0} (rows : Option (List A)) → both rows None ≡ None
both_none None = refl
both_none (Some rows) = refl

-- where the test faults at a row that is visited, nothing is found, whatever comes behind it
pub found_fault : {A : Type 0} (p : A → Option Bool) (visited kept new more : List A) (row : A)
    → Keeps (p row) row kept new (Err faults.Arithmetic)
    → found_by p (visited ++ row ∷ more) ≡ None
found_fault {A = A} p visited kept new more row keeps =
    found_append p visited (row ∷ more)
    ∙ ap (λ (o : Option Bool). both (found_by p visited) (joined o row (found_by p more)))
    (fault (p row) keeps)
    ∙ both_none (found_by p visited)
  where
    fault : (passed : Option Bool) → Keeps passed row kept new (Err faults.Arithmetic) → passed ≡ None
    fault None keeps_ = refl
    fault (Some false) keeps_ = keeps_.0
    fault (Some true) keeps_ = keeps_.0

-- ---- in any order

filtered_below : (p : Value × Cells → Bool) (key : Value) (rows : KeyedRows) → IsBelow key rows
    → IsBelow key (filter p rows)
filtered_below p key [] below = tt
filtered_below p key (r ∷ rows) below = at (p r) (filtered_below p key rows below.1)
  where
    at : (passed : Bool) → IsBelow key (filter p rows)
        → IsBelow key (cond passed (r ∷ filter p rows) (filter p rows))
    at true rest = (below.0, rest)
    at false rest = rest

filtered_ascends : (p : Value × Cells → Bool) (rows : KeyedRows) → IsAscending rows
    → IsAscending (filter p rows)
filtered_ascends p [] ascends = tt
filtered_ascends p (r ∷ rows) ascends = at (p r) (filtered_ascends p rows ascends.1)
  where
    at : (passed : Bool) → IsAscending (filter p rows)
        → IsAscending (cond passed (r ∷ filter p rows) (filter p rows))
    at true rest = (filtered_below p r.0 rows ascends.0, rest)
    at false rest = rest

-- A key and its row as one list, the key first: such lists are sorted in one way alone.
abbrev listed : Value × Cells → Cells
listed r = r.0 ∷ r.1

abbrev unlisted : Cells → Value × Cells
unlisted [] = (Null, [])
unlisted (key ∷ row) = (key, row)

listed_back : (rows : KeyedRows) → map unlisted (map listed rows) ≡ rows
listed_back [] = refl
listed_back (r ∷ rows) = ap (λ (rest : KeyedRows). r ∷ rest) (listed_back rows)

listed_before : (r : Value × Cells) (rows : KeyedRows) → IsBelow r.0 rows
    → ComesBefore (key_cmp 0) (listed r) (map listed rows)
listed_before r [] below = tt
listed_before r (s ∷ rows) below = (below.0, listed_before r rows below.1)

listed_ascend : (rows : KeyedRows) → IsAscending rows → Ascend (key_cmp 0) (map listed rows)
listed_ascend [] ascends = tt
listed_ascend (r ∷ rows) ascends =
    (listed_before r rows ascends.0, listed_ascend rows ascends.1)

-- sorted rows are sorted as lists
listed_sorted : (rows : KeyedRows) → IsSorted keyed_cmp rows → IsSorted (key_cmp 0) (map listed rows)
listed_sorted rows sorted k d low high =
    let within : k + 1 < length rows = omega (arith, high, length-map rows listed) in
    rw (
      get_or-map listed rows (k + 1) (Null, []) d within,
      get_or-map listed rows k (Null, []) d (omega (arith, within)),
    ) (sorted k (Null, []) low within)

listed_same : (xs ys : KeyedRows) → HaveSame xs ys → HaveSame (map listed xs) (map listed ys)
listed_same xs ys same f =
    sum_listed f xs ∙ same (λ r. f (listed r)) ∙ sym (sum_listed f ys)
  where
    sum_listed : (f : Cells → ℕ) (rows : KeyedRows)
        → sum_by f (map listed rows) ≡ sum_by (λ r. f (listed r)) rows
    sum_listed f [] = refl
    sum_listed f (r ∷ rows) =
        sum_by-cons f (listed r) (map listed rows)
        ∙ ap (λ (n : ℕ). f (listed r) + n) (sum_listed f rows)
        ∙ sym (sum_by-cons (λ r. f (listed r)) r rows)

-- two orders of the same rows, of which one ascends strictly and the other is sorted, are the same
sorted_once : (xs ys : KeyedRows) → IsAscending xs → IsSorted keyed_cmp ys → HaveSame xs ys → xs ≡ ys
sorted_once xs ys ascends sorted same =
    sym (listed_back xs)
    ∙ ap (λ (rows : List Cells). map unlisted rows)
    (sorted_one (key_cmp 0) (key_cmp_total 0) (map listed xs) (map listed ys)
    (listed_ascend xs ascends) (listed_sorted ys sorted) (listed_same xs ys same))
    ∙ listed_back ys

-- whether the filter passes a row that has its key
abbrev passes_keyed : Option Tree → Value × Cells → Option Bool
passes_keyed f r = passes_filter f r.1

-- Rows that are visited in any order, of which those that pass are kept and then sorted by their
-- keys, are those that are found in key order.
pub found_sorted : (f : Option Tree) (visited ordered kept sorted : KeyedRows)
    → IsPermutation visited ordered → IsAscending ordered
    → found_keyed f visited ≡ Some kept → AreSorted keyed_cmp kept sorted
    → found_keyed f ordered ≡ Some sorted
found_sorted f visited ordered kept sorted moved ascends found_ order =
    let p : Value × Cells → Option Bool = passes_keyed f in
    let parts = whole (list_any (faults_at p) visited) (filter (lets p) visited) kept
    (sym (found_is p visited) ∙ found_) in
    let same : HaveSame (filter (lets p) ordered) sorted =
    λ g. sym (same_filtered (lets p) visited ordered (same_from_moved visited ordered moved) g)
    ∙ ap (sum_by g) parts.1 ∙ same_from_moved kept sorted order.same g in
    found_is p ordered
    ∙ ap (λ (fault : Bool). but_for fault (filter (lets p) ordered))
    (sym (list_any-IsPermutation (faults_at p) visited ordered moved) ∙ parts.0)
    ∙ ap Some (sorted_once (filter (lets p) ordered) sorted
    (filtered_ascends (lets p) ordered ascends) order.ascend same)

-- a fault at one of the rows is one in each order
pub found_none : (f : Option Tree) (visited ordered : KeyedRows) → IsPermutation visited ordered
    → found_keyed f visited ≡ None → found_keyed f ordered ≡ None
found_none f visited ordered moved none =
    let p : Value × Cells → Option Bool = passes_keyed f in
    found_is p ordered
    ∙ ap (λ (fault : Bool). but_for fault (filter (lets p) ordered))
    (sym (list_any-IsPermutation (faults_at p) visited ordered moved)
    ∙ faulted (list_any (faults_at p) visited) (filter (lets p) visited)
    (sym (found_is p visited) ∙ none))

joined_bare : (passed : Option Bool) (r : Value × Cells) (rows : Option KeyedRows)
    → joined passed r.1 (without_keys rows) ≡ without_keys (joined passed r rows)
joined_bare None r rows = refl
joined_bare (Some false) r rows = refl
joined_bare (Some true) r None = refl
joined_bare (Some true) r (Some rows) = refl

-- the rows that are found are the same without their keys
pub found_bare : (f : Option Tree) (rows : KeyedRows)
    → found f (map (λ r. r.1) rows) ≡ without_keys (found_keyed f rows)
found_bare f [] = refl
found_bare f (r ∷ rows) =
    ap (joined (passes_filter f r.1) r.1) (found_bare f rows)
    ∙ joined_bare (passes_filter f r.1) r (found_keyed f rows)

-- ---- as the history machine finds them

lets_passed : (e : Option Expr) (row : Cells) → lets (passes_filter (tree_in e)) row ≡ passes e row
lets_passed None row = refl
lets_passed (Some e) row = passes_where_true e row

filter_alike : (p q : Cells → Bool) → ((row : Cells) → p row ≡ q row) → (rows : List Cells)
    → filter p rows ≡ filter q rows
filter_alike p q alike [] = refl
filter_alike p q alike (row ∷ rows) =
    ap (λ (rest : List Cells). cond (p row) (row ∷ rest) rest) (filter_alike p q alike rows)
    ∙ ap (λ (b : Bool). cond b (row ∷ filter q rows) (filter q rows)) (alike row)

-- what is found is what the machine answers to a search with this filter
pub found_answered : (e : Option Expr) (rows kept : List Cells) → found (tree_in e) rows ≡ Some kept
    → filter (passes e) rows ≡ kept
found_answered e rows kept found_ =
    sym (filter_alike (lets (passes_filter (tree_in e))) (passes e) (lets_passed e) rows)
    ∙ (whole (list_any (faults_at (passes_filter (tree_in e))) rows)
    (filter (lets (passes_filter (tree_in e))) rows) kept
    (sym (found_is (passes_filter (tree_in e)) rows) ∙ found_)).1
