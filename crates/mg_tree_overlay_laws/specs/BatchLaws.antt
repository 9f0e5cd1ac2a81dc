-- A batch that changes an index, laid in part on an image behind the pool: from its orders alone.
use Rattle.std.proofs.Common.{◌≡◌, ◌≢◌, ap, refl, sym, subst, ◌∙◌, ◌%◌, ℕ, Bool, true, false, List, Option, None}
use Rattle.std.specs.Prelude.{if◌then◌else◌}
use Rattle.mg_careful.specs.Precedence.{Orders}
use Rattle.mg_careful.specs.CarefulWrite.{PageSet}
use Rattle.mg_overlay_laws.specs.Overlays.{LaysBatch, laid}
use Rattle.mg_overlay_laws.specs.Views.{first_view, last_view, ordered_same, partly}
use Rattle.mg_node.specs.declared.entry.Entry.{Entry}
use Rattle.mg_pip.specs.PipPage.{bits, used_in}
use Rattle.mg_image.specs.Form.{Pages}
use Rattle.mg_image.specs.Indexes.{Finds, IsTree}
use Rattle.mg_image.specs.Inventory.{is_used}
use Rattle.mg_tree_overlay_laws.specs.TreeSteps.{Grows, InTree, Rewrites, StaysUsed, grow_levels, split_levels}
use Rattle.mg_tree_overlay_laws.specs.TreesBehind.{HasKeptTree, SplitsNamed}
use Rattle.mg_tree_overlay_laws.specs.TreeBatches.{ChangesTree, EntryChange, IsLeft, IsNoInventory, OrdersRoot, OrdersSplit, beside, done, grows, inventory_of, leaf, splits}
use Rattle.mg_tree_overlay_laws.specs.SplitParts.{LaysSplit}
use Rattle.mg_tree_overlay_laws.specs.GrowLaws.{tree_grown}
use Rattle.mg_tree_overlay_laws.specs.GrowParts.{LaysGrow, LaysInPlace}
use Rattle.mg_tree_overlay_laws.specs.KeptLaws.{beside_found, beside_kept, grow_kept, leaf_kept, split_kept}
use Rattle.mg_tree_overlay_laws.specs.PoolLaws.{beside_tree, leaf_tree, split_tree}

-- ---- bits of the page inventory

pub used_as : (size : ℕ) (old new : Pages) (n : ℕ)
    → new (inventory_of size n) ≡ old (inventory_of size n) → is_used size new n ≡ is_used size old n
unfolding is_used
used_as size old new n same = ap (λ (page : List ℕ). used_in page (n % bits size)) same

-- ---- one view of the pool, and the next one

module _ (set_ : PageSet) (image : Pages) where
  partly_same : (view next : Pages) (m : ℕ) → next m ≡ view m
      → partly set_ next image m ≡ partly set_ view image m
  partly_same view next m same = at (set_ m)
    where
      at : (b : Bool) → (if b then next m else image m) ≡ (if b then view m else image m)
      at true = same
      at false = refl

  -- a page that is none of the page inventory changes
  used_apart : (size : ℕ) (view next : Pages) (k : ℕ) → ((m : ℕ) → m ≢ k → next m ≡ view m)
      → IsNoInventory size k → StaysUsed size (partly set_ view image) (partly set_ next image)
  used_apart size view next k others no_inventory n used =
      used_as size (partly set_ view image) (partly set_ next image) n
      (partly_same view next (inventory_of size n) (others (inventory_of size n) (no_inventory n))) ∙ used

  -- any page changes, where the pool keeps its bits
  used_beside : (size : ℕ) (view next : Pages) → StaysUsed size view next
      → StaysUsed size (partly set_ view image) (partly set_ next image)
  used_beside size view next keeps n used = at (set_ (inventory_of size n)) refl
    where
      at : (b : Bool) → set_ (inventory_of size n) ≡ b → is_used size (partly set_ next image) n ≡ true
      at true i = used_as size next (partly set_ next image) n (rw i refl)
          ∙ keeps n (sym (used_as size view (partly set_ view image) n (rw i refl)) ∙ used)
      at false i =
          let same : partly set_ next image (inventory_of size n)
          ≡ partly set_ view image (inventory_of size n) = rw i refl in
          used_as size (partly set_ view image) (partly set_ next image) n same ∙ used

  -- a split, where what an order puts before a page of the set is as in the view
  lays_split : (size owner : ℕ) (batch : ℕ → Option (List ℕ)) (orders : Orders)
      (levels : List (List ℕ)) (pool split named : Pages) (l r p : ℕ) (e : Entry)
      → SplitsNamed size pool split named owner levels l r p e → OrdersSplit size batch orders l r p
      → IsNoInventory size l → IsNoInventory size p
      → ((m b : ℕ) → orders m b ≡ true → set_ b ≡ true → partly set_ pool image m ≡ pool m)
      → ((a b : ℕ) → orders a b ≡ true → batch a ≢ None → set_ b ≡ true → set_ a ≡ true)
      → LaysSplit size pool split named (partly set_ pool image) (partly set_ split image)
      (partly set_ named image) set_ l r p
  lays_split size owner batch orders levels pool split named l r p e is order no_l no_p same together = record {
    mid_others = λ m other. partly_same pool split m (is.splits.others m other);
    mid_in = λ i. rw i refl;
    mid_out = λ i. rw i refl;
    last_others = λ m other. partly_same split named m (is.rewrites.others m other);
    last_in = λ i. rw i refl;
    last_out = λ i. rw i refl;
    mid_used = used_apart size pool split l is.splits.others no_l;
    last_used = used_apart size split named p is.rewrites.others no_p;
    left = λ i. (
      rw i refl,
      same r l order.right i,
      used_as size pool (partly set_ pool image) r (same (inventory_of size r) l order.bit i)
          ∙ is.splits.right_wanted.used,
    );
    parent = λ i. (together l p order.left order.has_left i, rw i refl);
  }

  lays_growth : (size owner root : ℕ) (batch : ℕ → Option (List ℕ)) (orders : Orders)
      (pool grown : Pages) (a b : ℕ) → Grows size pool grown owner root a b
      → OrdersRoot size batch orders root a b → IsNoInventory size root
      → ((m k : ℕ) → orders m k ≡ true → set_ k ≡ true → partly set_ pool image m ≡ pool m)
      → LaysGrow size pool grown (partly set_ pool image) (partly set_ grown image) set_ root a b
  lays_growth size owner root batch orders pool grown a b is order no_root same = record {
    page = record {
      others = λ m other. partly_same pool grown m (is.others m other);
      there = λ i. rw i refl;
      out = λ i. rw i refl;
      used = used_apart size pool grown root is.others no_root;
      was = λ i. rw i refl;
    };
    first = λ i. (
      same a root order.first i,
      same b root order.second i,
      used_as size pool (partly set_ pool image) a (same (inventory_of size a) root order.first_bit i)
          ∙ is.a_wanted.used,
      used_as size pool (partly set_ pool image) b (same (inventory_of size b) root order.second_bit i)
          ∙ is.b_wanted.used,
    );
  }

  lays_leaf : (size owner n : ℕ) (pool next : Pages) → Rewrites size pool next owner n
      → IsNoInventory size n
      → LaysInPlace size pool next (partly set_ pool image) (partly set_ next image) set_ n
  lays_leaf size owner n pool next is no_inventory = record {
    others = λ m other. partly_same pool next m (is.others m other);
    there = λ i. rw i refl;
    out = λ i. rw i refl;
    used = used_apart size pool next n is.others no_inventory;
    was = λ i. rw i refl;
  }

-- ---- the row

-- what a batch leaves is in each view as at the end
apart_of : (batch : ℕ → Option (List ℕ)) (m k : ℕ) → batch m ≡ None → batch k ≢ None → m ≢ k
apart_of batch m k none some same = some (ap batch (sym same) ∙ none)

left_as_is : (size owner root : ℕ) (batch : ℕ → Option (List ℕ)) (orders : Orders)
    (change : EntryChange) (pool last : Pages) (levels ends : List (List ℕ))
    → ChangesTree size owner root batch orders change pool levels last ends
    → (m : ℕ) → batch m ≡ None → pool m ≡ last m
left_as_is size owner root batch orders change pool last levels ends (done v ls) m none = refl
left_as_is size owner root batch orders change pool last levels ends
    (beside v next w ls es n others used some fresh more) m none =
    sym (others m (apart_of batch m n none some))
    ∙ left_as_is size owner root batch orders change next last levels ends more m none
left_as_is size owner root batch orders change pool last levels ends
    (splits v split named w ls es l r p e is order no_l no_p below fresh more) m none =
    sym (is.splits.others m (apart_of batch m l none order.has_left))
    ∙ (sym (is.rewrites.others m (apart_of batch m p none order.has_parent))
    ∙ left_as_is size owner root batch orders change named last (split_levels l r levels) ends more m none)
left_as_is size owner root batch orders change pool last levels ends
    (grows v grown w ls es a b is order no_root more) m none =
    sym (is.others m (apart_of batch m root none order.has_root))
    ∙ left_as_is size owner root batch orders change grown last (grow_levels root a b levels) ends more m none
left_as_is size owner root batch orders change pool last levels ends
    (leaf v next w ls es n is low entries some no_inventory more) m none =
    sym (is.others m (apart_of batch m n none some))
    ∙ left_as_is size owner root batch orders change next last levels ends more m none

-- what an image keeps from one view of the pool to another
abbrev KeepsLeft : EntryChange → ℕ → Pages → Pages → Type 0
KeepsLeft change root image last = (f : Entry) → IsLeft change f → Finds image f root → Finds last f root

row_kept : (size owner root : ℕ) (batch : ℕ → Option (List ℕ)) (orders : Orders)
    (change : EntryChange) (set_ : PageSet) (start image pool last : Pages)
    (levels ends : List (List ℕ))
    → ChangesTree size owner root batch orders change pool levels last ends
    → LaysBatch start last batch orders set_ image → IsTree size pool owner root levels
    → HasKeptTree size owner root pool (partly set_ pool image) levels
    → HasKeptTree size owner root last (partly set_ last image) ends
    × KeepsLeft change root (partly set_ pool image) (partly set_ last image)
row_kept size owner root batch orders change set_ start image pool last levels ends (done v ls) lays tree
    kept = (kept, λ f left found. found)
row_kept size owner root batch orders change set_ start image pool last levels ends
    (beside v next w ls es n others used some fresh more) lays tree (of_image, kept) =
    let same : (m : ℕ) → InTree levels m → (next m ≡ pool m)
    × (partly set_ next image m ≡ partly set_ pool image m) = λ m has.
    let other : m ≢ n = λ is. fresh (subst (InTree levels) is has) in
    (others m other, partly_same set_ image pool next m (others m other)) in
    let stays_used = used_beside set_ image size pool next used in
    let rest = row_kept size owner root batch orders change set_ start image next last levels ends more lays
    (beside_tree size pool next owner root levels n others used fresh tree) (
      of_image,
      beside_kept size owner root pool next (partly set_ pool image) (partly set_ next image) levels of_image
          same stays_used kept,
    ) in (
      rest.0,
      λ f left found. rest.1 f left (beside_found size owner root pool (partly set_ pool image)
          (partly set_ next image) levels of_image (λ m has. (same m has).1) stays_used kept f found),
    )
row_kept size owner root batch orders change set_ start image pool last levels ends
    (splits v split named w ls es l r p e is order no_l no_p below fresh more) lays tree (of_image, kept) =
    let as_is = left_as_is size owner root batch orders change pool last levels ends
    (splits pool split named last levels ends l r p e is order no_l no_p below fresh more) in
    let laid_split = lays_split set_ image size owner batch orders levels pool split named l r p e is order
    no_l no_p (ordered_same start last batch orders set_ image pool lays as_is) lays.together in
    let step = split_kept size owner root pool split named (partly set_ pool image)
    (partly set_ split image) (partly set_ named image) levels of_image l r p e set_ is laid_split below
    fresh kept in
    let rest = row_kept size owner root batch orders change set_ start image named last
    (split_levels l r levels) ends more lays
    (split_tree size pool split named owner root levels l r p e is below fresh tree) step.0 in
    (rest.0, λ f left found. rest.1 f left (step.1 f found))
row_kept size owner root batch orders change set_ start image pool last levels ends
    (grows v grown w ls es a b is order no_root more) lays tree (of_image, kept) =
    let as_is = left_as_is size owner root batch orders change pool last levels ends
    (grows pool grown last levels ends a b is order no_root more) in
    let laid_growth = lays_growth set_ image size owner root batch orders pool grown a b is order no_root
    (ordered_same start last batch orders set_ image pool lays as_is) in
    let step = grow_kept size owner root pool grown (partly set_ pool image) (partly set_ grown image)
    levels of_image a b set_ is laid_growth tree kept in
    let rest = row_kept size owner root batch orders change set_ start image grown last
    (grow_levels root a b levels) ends more lays
    (tree_grown size pool grown owner root a b levels is tree) step.0 in
    (rest.0, λ f left found. rest.1 f left (step.1 f found))
row_kept size owner root batch orders change set_ start image pool last levels ends
    (leaf v next w ls es n is low entries some no_inventory more) lays tree (of_image, kept) =
    let step = leaf_kept size owner root pool next (partly set_ pool image) (partly set_ next image) levels
    of_image n set_ is low (lays_leaf set_ image size owner n pool next is no_inventory) kept in
    let rest = row_kept size owner root batch orders change set_ start image next last levels ends more lays
    (leaf_tree size pool next owner root n levels is low tree) (of_image, step.0) in
    (rest.0, λ f left found. rest.1 f left (step.1 f (entries.keeps f left) found))

-- what a batch owes of an index, on any one image and for any set
pub batch_kept : (size owner root : ℕ) (batch : ℕ → Option (List ℕ)) (orders : Orders)
    (change : EntryChange) (pool last : Pages) (levels ends : List (List ℕ)) (set_ : PageSet)
    (image : Pages) → ChangesTree size owner root batch orders change pool levels last ends
    → LaysBatch pool last batch orders set_ image → IsTree size pool owner root levels
    → HasKeptTree size owner root pool image levels
    → HasKeptTree size owner root last (laid batch set_ image) ends
    × KeepsLeft change root image (laid batch set_ image)
batch_kept size owner root batch orders change pool last levels ends set_ image row lays tree kept =
    let before : partly set_ pool image ≡ image = first_view pool last batch orders set_ image lays in
    let behind : partly set_ last image ≡ laid batch set_ image =
    last_view pool last batch orders set_ image lays in
    let steps = row_kept size owner root batch orders change set_ pool image pool last levels ends row lays
    tree (subst (λ (i : Pages). HasKeptTree size owner root pool i levels) (sym before) kept) in (
      subst (λ (i : Pages). HasKeptTree size owner root last i ends) behind steps.0,
      λ f left found. subst (λ (i : Pages). Finds i f root) behind (steps.1 f left
          (subst (λ (i : Pages). Finds i f root) (sym before) found)),
    )
