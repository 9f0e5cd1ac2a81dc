-- What an insertion into one index, or a removal, is to all of them.
use Rattle.std.proofs.Common.{◌≡◌, ◌≢◌, ◌⊎◌, inl, inr, ◌∙◌, refl, sym, ap, ℕ, false, List, [], ◌∷◌, ◌++◌, Some, None, map}
use Rattle.std.proofs.lemmas.Bool.{cases_eq, eq-eqb, ne_eqb}
use Rattle.mg_careful.specs.Precedence.{Orders}
use Rattle.mg_image.specs.Form.{Pages}
use Rattle.mg_image.specs.Indexes.{IsTree}
use Rattle.mg_image.specs.Inventory.{is_used}
use Rattle.mg_image.specs.Tables.{Has}
use Rattle.mg_pool.specs.Batch.{Changed, content_in, lists}
use Rattle.mg_pool.specs.declared.batch.BatchPage.{BatchPage}
use Rattle.mg_tree_overlay_laws.specs.GrowLaws.{tree_beside}
use Rattle.mg_tree_overlay_laws.specs.GrowParts.{unused_fresh}
use Rattle.mg_tree_overlay_laws.specs.PoolLaws.{pool_changed}
use Rattle.mg_tree_overlay_laws.specs.TreeSteps.{InTree, StaysUsed}
use Rattle.mg_tree_overlay_laws.specs.TreeBatches.{Add, ChangesTree, EntryChange, IsNoInventory, Remove, Stay}
use Rattle.mg_btree.specs.Changing.{HasNoInventory}
use Rattle.mg_btree.specs.TakeLaws.{no_true, row_used}
use Rattle.mg_index_overlay_laws.specs.BesideLaws.{beside_row}
use Rattle.mg_index_overlay_laws.specs.IndexTrees.{AreApart, AreIndexes, Each, IndexTree, IsIndexTree, SharesNone}
use Rattle.mg_index_overlay_laws.specs.IndexBatches.{ChangesIndexes, PutsChanges, TreeChange, changes_to, now_tree, one_changes, stays_as, was_tree}
use Rattle.mg_index_overlay_laws.specs.Laws.{ChangesAreOf, InsertionsChangeIndexes, OthersChangeBeside, RemovalsChangeIndexes}

-- ---- the pages of a batch

abbrev pub numbers : List BatchPage → List ℕ
numbers [] = []
numbers (x ∷ xs) = x.page ∷ numbers xs

-- the list has each page that the batch puts, and no other
pub put_has : (pages : List BatchPage) (n : ℕ) → (Has (numbers pages) n → ⊥) → content_in pages n ≡ None
put_has [] n none = refl
put_has (x ∷ xs) n none =
    rw (ne_eqb x.page n (λ same. none (inl (sym same)))) (put_has xs n (λ has. none (inr has)))

put_first : (x : BatchPage) (xs : List BatchPage) (n : ℕ) → x.page ≡ n
    → content_in (x ∷ xs) n ≡ Some x.bytes
put_first x xs n same = rw (eq-eqb x.page n same) refl

put_later : (x : BatchPage) (xs : List BatchPage) (n : ℕ) → x.page ≢ n
    → content_in (x ∷ xs) n ≡ content_in xs n
put_later x xs n other = rw (ne_eqb x.page n other) refl

pub has_put : (pages : List BatchPage) (n : ℕ) → Has (numbers pages) n → content_in pages n ≢ None
has_put [] n has = absurd has
has_put (x ∷ xs) n has = at (cases_eq x.page n) has (has_put xs n)
  where
    at : (x.page ≡ n) ⊎ (x.page ≢ n) → Has (numbers (x ∷ xs)) n
        → (Has (numbers xs) n → content_in xs n ≢ None) → content_in (x ∷ xs) n ≢ None
    at (inl same) has more none =
        let is : Some x.bytes ≡ None = sym (put_first x xs n same) ∙ none in cc
    at (inr other) (inl same) more none = other (sym same)
    at (inr other) (inr later) more none = more later (sym (put_later x xs n other) ∙ none)

-- ---- one index that stays

module _ (size : ℕ) (old new : Pages) (batch : Changed) (orders : Orders)
    (put : PutsChanges (content_in batch.pages) old new) (used : StaysUsed size old new) (u : IndexTree)
    (tree : IsIndexTree size old u) (stays : (n : ℕ) → InTree u.levels n → new n ≡ old n) where
  pub stays_row : ChangesTree size u.owner u.root (content_in batch.pages) orders Stay old u.levels new
      u.levels
  stays_row = beside_row size old new u.owner u.root (content_in batch.pages) orders Stay u.levels used
      stays (numbers batch.pages) (has_put batch.pages) (λ n none. put n (put_has batch.pages n none))

  pub stays_tree : IsIndexTree size new u
  stays_tree = tree_beside size old new u.owner u.root u.levels stays used tree

pub others_beside : OthersChangeBeside
others_beside size old new batch trees are put used stays = (
  (rows trees are.each stays).0,
  record { each = (rows trees are.each stays).1; apart = are.apart; no_inventory = are.no_inventory },
)
  where
    rows : (ts : List IndexTree) → Each (IsIndexTree size old) ts
        → Each (λ t. (n : ℕ) → InTree t.levels n → new n ≡ old n) ts
        → ChangesIndexes size (content_in batch.pages) (lists batch.orders) old new (map stays_as ts)
        × Each (IsIndexTree size new) ts
    rows [] each still = (tt, tt)
    rows (t ∷ ts) each still = (
      (stays_row size old new batch (lists batch.orders) put used t each.0 still.0, (rows ts each.1 still.1).0),
      (stays_tree size old new batch (lists batch.orders) put used t each.0 still.0, (rows ts each.1 still.1).1),
    )

-- ---- one index changes

-- What is known of the index that changes: its new tree, that what comes to it was not used, and that
-- no page changes but its own and those of the page inventory.
pub record ChangesOne (size : ℕ) (old new : Pages) (batch : Changed) (t : IndexTree)
    (change : EntryChange) (ends : List (List ℕ)) : Type 0 where
  pub row : ChangesTree size t.owner t.root (content_in batch.pages) (lists batch.orders) change old
      t.levels new ends
  pub tree : IsTree size new t.owner t.root ends
  pub no_inventory : HasNoInventory size ends
  pub fresh : (n : ℕ) → InTree ends n → InTree t.levels n ⊎ (is_used size old n ≡ false)
  pub others : (n : ℕ) → (InTree ends n → ⊥) → IsNoInventory size n → new n ≡ old n

module _ (size : ℕ) (old new : Pages) (batch : Changed) (t : IndexTree) (change : EntryChange)
    (ends : List (List ℕ)) (put : PutsChanges (content_in batch.pages) old new)
    (is : ChangesOne size old new batch t change ends) where
  abbrev next : IndexTree
  next = now_tree (changes_to change ends t)

  used : StaysUsed size old new
  used = row_used size t.owner t.root (content_in batch.pages) (lists batch.orders) change old new
      t.levels ends is.row

  -- an index that shared no page with it shares none
  still_apart : (u : IndexTree) → IsIndexTree size old u → SharesNone t u → SharesNone next u
  still_apart u tree apart n here there = at (is.fresh n here)
    where
      at : InTree t.levels n ⊎ (is_used size old n ≡ false) → ⊥
      at (inl placed) = apart n placed there
      at (inr free) = unused_fresh size old u.owner u.levels n tree.nodes
          (no_true (is_used size old n) free) there

  u_stays : (u : IndexTree) → IsIndexTree size old u → SharesNone t u → HasNoInventory size u.levels
      → (n : ℕ) → InTree u.levels n → new n ≡ old n
  u_stays u tree apart none n placed =
      is.others n (λ here. still_apart u tree apart n here placed) (none n placed)

  -- the indexes behind it
  record Behind (back : List IndexTree) : Type 0 where
    pub rows : ChangesIndexes size (content_in batch.pages) (lists batch.orders) old new
        (map stays_as back)
    pub each : Each (IsIndexTree size new) (map now_tree (map stays_as back))
    pub apart : Each (SharesNone next) (map now_tree (map stays_as back))
    pub no_inventory : Each (λ u. HasNoInventory size u.levels) (map now_tree (map stays_as back))

  behind : (back : List IndexTree) → Each (IsIndexTree size old) back → Each (SharesNone t) back
      → Each (λ u. HasNoInventory size u.levels) back → Behind back
  behind [] each apart none = record { rows = tt; each = tt; apart = tt; no_inventory = tt }
  behind (u ∷ us) each apart none =
      let rest = behind us each.1 apart.1 none.1 in
      let still = u_stays u each.0 apart.0 none.0 in
      record {
        rows = (stays_row size old new batch (lists batch.orders) put used u each.0 still, rest.rows);
        each = (stays_tree size old new batch (lists batch.orders) put used u each.0 still, rest.each);
        apart = (still_apart u each.0 apart.0, rest.apart);
        no_inventory = (none.0, rest.no_inventory);
      }

  same_apart : (back : List IndexTree) → AreApart back → AreApart (map now_tree (map stays_as back))
  same_apart [] apart = tt
  same_apart (u ∷ us) apart = (same_each us apart.0, same_apart us apart.1)
    where
      same_each : (vs : List IndexTree) → Each (SharesNone u) vs
          → Each (SharesNone u) (map now_tree (map stays_as vs))
      same_each [] each = tt
      same_each (v ∷ vs) each = (each.0, same_each vs each.1)

  -- all of them
  abbrev changed : List IndexTree → List IndexTree → List TreeChange
  changed front back = one_changes change ends front t back

  apart_from : (u : IndexTree) (front back : List IndexTree) → SharesNone u next
      → Each (SharesNone u) (front ++ t ∷ back) → Each (SharesNone u) (map now_tree (changed front back))
  apart_from u [] back here each = (here, rest back each.1)
    where
      rest : (vs : List IndexTree) → Each (SharesNone u) vs
          → Each (SharesNone u) (map now_tree (map stays_as vs))
      rest [] each = tt
      rest (v ∷ vs) each = (each.0, rest vs each.1)
  apart_from u (v ∷ front) back here each = (each.0, apart_from u front back here each.1)

  at_one : (P : IndexTree → Type 0) (front back : List IndexTree) → Each P (front ++ t ∷ back) → P t
  at_one P [] back each = each.0
  at_one P (v ∷ front) back each = at_one P front back each.1

  record All (front back : List IndexTree) : Type 0 where
    pub rows : ChangesIndexes size (content_in batch.pages) (lists batch.orders) old new
        (changed front back)
    pub each : Each (IsIndexTree size new) (map now_tree (changed front back))
    pub apart : AreApart (map now_tree (changed front back))
    pub no_inventory : Each (λ u. HasNoInventory size u.levels) (map now_tree (changed front back))

  all : (front back : List IndexTree) → Each (IsIndexTree size old) (front ++ t ∷ back)
      → AreApart (front ++ t ∷ back) → Each (λ u. HasNoInventory size u.levels) (front ++ t ∷ back)
      → All front back
  all [] back each apart none =
      let rest = behind back each.1 apart.0 none.1 in
      record {
        rows = (is.row, rest.rows);
        each = (is.tree, rest.each);
        apart = (rest.apart, same_apart back apart.1);
        no_inventory = (is.no_inventory, rest.no_inventory);
      }
  all (u ∷ front) back each apart none =
      let rest = all front back each.1 apart.1 none.1 in
      let off : SharesNone t u = λ n here there. at_one (SharesNone u) front back apart.0 n there here in
      let still = u_stays u each.0 off none.0 in
      record {
        rows = (stays_row size old new batch (lists batch.orders) put used u each.0 still, rest.rows);
        each = (stays_tree size old new batch (lists batch.orders) put used u each.0 still, rest.each);
        apart = (
          apart_from u front back (λ n there here. still_apart u each.0 off n here there) apart.0,
          rest.apart,
        );
        no_inventory = (none.0, rest.no_inventory);
      }

  pub one_changed : (front back : List IndexTree) → AreIndexes size old (front ++ t ∷ back)
      → ChangesIndexes size (content_in batch.pages) (lists batch.orders) old new (changed front back)
      × AreIndexes size new (map now_tree (changed front back))
  one_changed front back are =
      let it = all front back are.each are.apart are.no_inventory in
      (it.rows, record { each = it.each; apart = it.apart; no_inventory = it.no_inventory })

-- an entry is put in
pub insertions_change : InsertionsChangeIndexes
insertions_change size old new earlier batch front t back e are put puts =
    one_changed size old new batch t (Add e) puts.ends put (record {
      row = puts.row;
      tree = puts.tree;
      no_inventory = puts.no_inventory;
      fresh = puts.fresh;
      others = puts.others;
    }) front back are

-- an entry is taken out
pub removals_change : RemovalsChangeIndexes
removals_change size old new batch front t back e was are put takes =
    one_changed size old new batch t (Remove e) t.levels put (record {
      row = takes.row;
      tree = (pool_changed size t.owner t.root (content_in batch.pages) (lists batch.orders) (Remove e)
          old new t.levels t.levels takes.row (one (IsIndexTree size old) front are.each)).tree;
      no_inventory = one (λ u. HasNoInventory size u.levels) front are.no_inventory;
      fresh = λ n has. inl has;
      others = λ n out none. takes.others n out;
    }) front back are
  where
    one : (P : IndexTree → Type 0) (front : List IndexTree) → Each P (front ++ t ∷ back) → P t
    one P [] each = each.0
    one P (v ∷ vs) each = one P vs each.1

pub changes_are_of : ChangesAreOf
changes_are_of change ends [] t back = ap (λ (ts : List IndexTree). t ∷ ts) (same back)
  where
    same : (ts : List IndexTree) → map was_tree (map stays_as ts) ≡ ts
    same [] = refl
    same (u ∷ us) = ap (λ (vs : List IndexTree). u ∷ vs) (same us)
changes_are_of change ends (u ∷ front) t back =
    ap (λ (ts : List IndexTree). u ∷ ts) (changes_are_of change ends front t back)
