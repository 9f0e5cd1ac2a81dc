-- Rows of steps: two of them are one, and a row of a batch is one of a greater batch.
use Rattle.std.proofs.Common.{◌≡◌, ◌≢◌, ◌⊎◌, inl, inr, ℕ, true, List, Option, None}
use Rattle.mg_careful.specs.Precedence.{Orders}
use Rattle.mg_node.specs.declared.entry.Entry.{Entry}
use Rattle.mg_node.specs.NodePage.{entries_of}
use Rattle.mg_image.specs.Form.{Pages}
use Rattle.mg_image.specs.Indexes.{HasEntry}
use Rattle.mg_tree_overlay_laws.specs.TreeSteps.{grow_levels, split_levels}
use Rattle.mg_tree_overlay_laws.specs.TreeBatches.{ChangesTree, EntryChange, IsAdded, Stay, beside, done, grows, inventory_of, leaf, splits}

-- a batch has each page of another, and each of its orders
pub record GrowsBatch (batch more : ℕ → Option (List ℕ)) (orders further : Orders) : Type 0 where
  pub has : (n : ℕ) → batch n ≢ None → more n ≢ None
  pub ordered : (a b : ℕ) → orders a b ≡ true → further a b ≡ true

pub row_append : (size owner root : ℕ) (batch : ℕ → Option (List ℕ)) (orders : Orders)
    (change : EntryChange) (pool mid last : Pages) (levels halfway ends : List (List ℕ))
    → ChangesTree size owner root batch orders change pool levels mid halfway
    → ChangesTree size owner root batch orders change mid halfway last ends
    → ChangesTree size owner root batch orders change pool levels last ends
row_append size owner root batch orders change pool mid last levels halfway ends (done v ls) rest = rest
row_append size owner root batch orders change pool mid last levels halfway ends
    (beside v next w ls es n others used some fresh more) rest =
    beside pool next last levels ends n others used some fresh
    (row_append size owner root batch orders change next mid last levels halfway ends more rest)
row_append size owner root batch orders change pool mid last levels halfway ends
    (splits v split named w ls es l r p e is order no_l no_p below fresh more) rest =
    splits pool split named last levels ends l r p e is order no_l no_p below fresh
    (row_append size owner root batch orders change named mid last (split_levels l r levels) halfway ends
    more rest)
row_append size owner root batch orders change pool mid last levels halfway ends
    (grows v grown w ls es a b is order no_root more) rest =
    grows pool grown last levels ends a b is order no_root
    (row_append size owner root batch orders change grown mid last (grow_levels root a b levels) halfway ends
    more rest)
row_append size owner root batch orders change pool mid last levels halfway ends
    (leaf v next w ls es n is low entries some no_inventory more) rest =
    leaf pool next last levels ends n is low entries some no_inventory
    (row_append size owner root batch orders change next mid last levels halfway ends more rest)

pub row_more : (size owner root : ℕ) (batch more_pages : ℕ → Option (List ℕ)) (orders further : Orders)
    (change : EntryChange) (pool last : Pages) (levels ends : List (List ℕ))
    → GrowsBatch batch more_pages orders further
    → ChangesTree size owner root batch orders change pool levels last ends
    → ChangesTree size owner root more_pages further change pool levels last ends
row_more size owner root batch more_pages orders further change pool last levels ends wider (done v ls) =
    done pool levels
row_more size owner root batch more_pages orders further change pool last levels ends wider
    (beside v next w ls es n others used some fresh more) =
    beside pool next last levels ends n others used (wider.has n some) fresh
    (row_more size owner root batch more_pages orders further change next last levels ends wider more)
row_more size owner root batch more_pages orders further change pool last levels ends wider
    (splits v split named w ls es l r p e is order no_l no_p below fresh more) =
    splits pool split named last levels ends l r p e is (record {
      right = wider.ordered r l order.right;
      bit = wider.ordered (inventory_of size r) l order.bit;
      left = wider.ordered l p order.left;
      has_left = wider.has l order.has_left;
      has_parent = wider.has p order.has_parent;
    }) no_l no_p below fresh
    (row_more size owner root batch more_pages orders further change named last (split_levels l r levels) ends
    wider more)
row_more size owner root batch more_pages orders further change pool last levels ends wider
    (grows v grown w ls es a b is order no_root more) =
    grows pool grown last levels ends a b is (record {
      first = wider.ordered a root order.first;
      second = wider.ordered b root order.second;
      first_bit = wider.ordered (inventory_of size a) root order.first_bit;
      second_bit = wider.ordered (inventory_of size b) root order.second_bit;
      has_root = wider.has root order.has_root;
    }) no_root
    (row_more size owner root batch more_pages orders further change grown last (grow_levels root a b levels)
    ends wider more)
row_more size owner root batch more_pages orders further change pool last levels ends wider
    (leaf v next w ls es n is low entries some no_inventory more) =
    leaf pool next last levels ends n is low entries (wider.has n some) no_inventory
    (row_more size owner root batch more_pages orders further change next last levels ends wider more)

-- a row that changes no entry is one of any change
pub row_as : (size owner root : ℕ) (batch : ℕ → Option (List ℕ)) (orders : Orders) (change : EntryChange)
    (pool last : Pages) (levels ends : List (List ℕ))
    → ChangesTree size owner root batch orders Stay pool levels last ends
    → ChangesTree size owner root batch orders change pool levels last ends
row_as size owner root batch orders change pool last levels ends (done v ls) = done pool levels
row_as size owner root batch orders change pool last levels ends
    (beside v next w ls es n others used some fresh more) =
    beside pool next last levels ends n others used some fresh
    (row_as size owner root batch orders change next last levels ends more)
row_as size owner root batch orders change pool last levels ends
    (splits v split named w ls es l r p e is order no_l no_p below fresh more) =
    splits pool split named last levels ends l r p e is order no_l no_p below fresh
    (row_as size owner root batch orders change named last (split_levels l r levels) ends more)
row_as size owner root batch orders change pool last levels ends
    (grows v grown w ls es a b is order no_root more) =
    grows pool grown last levels ends a b is order no_root
    (row_as size owner root batch orders change grown last (grow_levels root a b levels) ends more)
row_as size owner root batch orders change pool last levels ends
    (leaf v next w ls es n is low entries some no_inventory more) =
    leaf pool next last levels ends n is low (record {
      keeps = λ f left has. entries.keeps f tt has;
      only = λ f has. none f (entries.only f has);
    }) some no_inventory
    (row_as size owner root batch orders change next last levels ends more)
  where
    none : (f : Entry) → HasEntry (entries_of (v n)) f ⊎ ⊥ → HasEntry (entries_of (v n)) f ⊎ IsAdded change f
    none f (inl has) = inl has
    none f (inr absurd_) = absurd absurd_
