-- Laws of pages that change in place: they are steps of a tree.
use Rattle.std.proofs.Common.{◌≡◌, ◌≢◌, ◌⊎◌, inl, inr, ◌∙◌, ap, refl, sym, subst, ℕ, true, List, [], ◌∷◌, ◌++◌, take, drop, Option, None, length, arith}
use Rattle.std.proofs.lemmas.Bool.{ltb-true}
use Rattle.std.proofs.lemmas.List.{take-take}
use Rattle.mg_base.specs.Checks.{PassesAll}
use Rattle.mg_base.specs.CheckLaws.{front_checks}
use Rattle.mg_base.specs.Image.{Image}
use Rattle.mg_careful.specs.Precedence.{Orders}
use Rattle.mg_node.specs.declared.entry.Entry.{Entry}
use Rattle.mg_node.specs.declared.entry.TheConstants.{NODE_KIND}
use Rattle.mg_node.specs.NodePage.{AreAscending, BeginsAsInner, IsNodePage, entries_of, is_inner, level_in, low_of, node_checks}
use Rattle.mg_image.specs.Form.{Pages}
use Rattle.mg_image.specs.Indexes.{Finds, HasEntry, IsTree}
use Rattle.mg_node_writing.specs.NodeChanges.{IsEntryOf, KeepsNode, RemovesEntry}
use Rattle.mg_pool.specs.Batch.{Changed, PutsPage}
use Rattle.mg_pool.specs.declared.pool.Pool.{Pool}
use Rattle.mg_space.specs.View.{viewed}
use Rattle.mg_tree_overlay_laws.specs.TreeSteps.{InTree, Rewrites, StaysUsed}
use Rattle.mg_tree_overlay_laws.specs.TreeBatches.{ChangesEntries, ChangesTree, IsNoInventory, Remove, done, inventory_of, leaf}
use Rattle.mg_tree_overlay_laws.specs.BatchLaws.{used_as}
use Rattle.mg_tree_overlay_laws.specs.DescentLaws.{ascends, before_below, not_below_itself, removed_is_gone, tail_ascends}
use Rattle.mg_tree_overlay_laws.specs.LeafLaws.{back_has}
use Rattle.mg_btree.specs.declared.node.ReadNode.{ReadNode}
use Rattle.mg_btree.specs.Changing.{PutsWithout}

-- ---- views of a batch

pub viewed_put : {D L : Type 0} (store : Pool D L) (image : Image) (old new : Changed) (n : ℕ)
    (bytes : List ℕ) → PutsPage old new n bytes → viewed store image new n ≡ bytes
viewed_put store image old new n bytes puts = rw puts.here refl

pub viewed_other : {D L : Type 0} (store : Pool D L) (image : Image) (old new : Changed) (n m : ℕ)
    (bytes : List ℕ) → PutsPage old new n bytes → m ≢ n
    → viewed store image new m ≡ viewed store image old m
viewed_other store image old new n m bytes puts other = rw (puts.others m other) refl

-- ---- entries of a list

pub entry_parts : (es : List Entry) (e : Entry) → HasEntry es e
    → (front : List Entry) × (back : List Entry) × (es ≡ front ++ e ∷ back)
entry_parts [] e has = absurd has
entry_parts (x ∷ xs) e (inl same) = ([], xs, ap (λ (f : Entry). f ∷ xs) (sym same))
entry_parts (x ∷ xs) e (inr later) =
    let more = entry_parts xs e later in
    (x ∷ more.0, more.1, ap (λ (es : List Entry). x ∷ es) more.2)

pub is_entry : (page : List ℕ) (e : Entry) → HasEntry (entries_of page) e → IsEntryOf page e
is_entry page e has =
    let parts = entry_parts (entries_of page) e has in
    record { front = parts.0; back = parts.1; is = parts.2 }

pub entry_has : (page : List ℕ) (e : Entry) → IsEntryOf page e → HasEntry (entries_of page) e
entry_has page e is = rw is.is (back_has is.front (e ∷ is.back) e (inl refl))

-- what a list has without one entry, and what it loses
without_has : (front back : List Entry) (e f : Entry) → f ≢ e → HasEntry (front ++ e ∷ back) f
    → HasEntry (front ++ back) f
without_has [] back e f other (inl same) = absurd (other same)
without_has [] back e f other (inr later) = later
without_has (x ∷ xs) back e f other (inl same) = inl same
without_has (x ∷ xs) back e f other (inr later) = inr (without_has xs back e f other later)

with_has : (front back : List Entry) (e f : Entry) → HasEntry (front ++ back) f
    → HasEntry (front ++ e ∷ back) f
with_has [] back e f has = inr has
with_has (x ∷ xs) back e f (inl same) = inl same
with_has (x ∷ xs) back e f (inr later) = inr (with_has xs back e f later)

pub behind_ascends : (front back : List Entry) (e : Entry) → AreAscending (front ++ e ∷ back)
    → AreAscending (e ∷ back)
behind_ascends [] back e all = all
behind_ascends (x ∷ xs) back e all = behind_ascends xs back e (tail_ascends x (xs ++ e ∷ back) all)

either_has : (front back : List Entry) (e : Entry) → HasEntry (front ++ back) e
    → HasEntry front e ⊎ HasEntry back e
either_has [] back e has = inr has
either_has (x ∷ xs) back e (inl same) = inl (inl same)
either_has (x ∷ xs) back e (inr later) = at (either_has xs back e later)
  where
    at : HasEntry xs e ⊎ HasEntry back e → HasEntry (x ∷ xs) e ⊎ HasEntry back e
    at (inl has) = inl (inr has)
    at (inr has) = inr has

pub lost : (front back : List Entry) (e : Entry) → AreAscending (front ++ e ∷ back)
    → HasEntry (front ++ back) e → ⊥
lost front back e all has = at (either_has front back e has)
  where
    at : HasEntry front e ⊎ HasEntry back e → ⊥
    at (inl there) = not_below_itself e (before_below front back e e all there)
    at (inr there) = not_below_itself e (ascends e back e (behind_ascends front back e all) there)

-- ---- a leaf changes in place

pub same_fields : (old new : List ℕ) (n owner : ℕ) → KeepsNode old new
    → PassesAll (node_checks old n owner) → PassesAll (node_checks new n owner)
same_fields old new n owner keeps passes =
    let front : take 16 new ≡ take 16 old = sym (take_less new) ∙ (ap (take 16) keeps.front ∙ take_less old) in
    subst PassesAll (sym (front_checks new old n NODE_KIND owner 0 front)) passes
  where
    take_less : (b : List ℕ) → take 16 (take 18 b) ≡ take 16 b
    take_less b = take-take 16 18 b (omega arith)

-- a page that is none of the inventory changes: what was used is used
pub used_stays : (size : ℕ) (old new : Pages) (n : ℕ) → ((m : ℕ) → m ≢ n → new m ≡ old m)
    → IsNoInventory size n → StaysUsed size old new
used_stays size old new n others no_inventory m used =
    used_as size old new m (others (inventory_of size m) (no_inventory m)) ∙ used

pub leaf_rewrites : (size : ℕ) (old new : Pages) (owner n : ℕ) (bytes : List ℕ)
    → ((m : ℕ) → m ≢ n → new m ≡ old m) → new n ≡ bytes → IsNoInventory size n
    → PassesAll (node_checks (old n) n owner) → level_in (old n) ≡ 0 → IsNodePage bytes
    → KeepsNode (old n) bytes → Rewrites size old new owner n
leaf_rewrites size old new owner n bytes others is no_inventory fields low lawful keeps = record {
  others = others;
  used = used_stays size old new n others no_inventory;
  fields = rw is (same_fields (old n) bytes n owner keeps fields);
  lawful = rw is lawful;
  level = rw is keeps.level;
  right = rw is keeps.right;
  low = rw is keeps.low;
  high = rw is keeps.high;
  two = λ inner. absurd (omega (arith, low, inner));
  first = λ inner. absurd (omega (arith, low, inner));
}

-- an entry is taken out of a leaf
removed_entries : (old bytes : List ℕ) (e : Entry) → RemovesEntry old bytes e
    → ChangesEntries (Remove e) (entries_of old) (entries_of bytes)
removed_entries old bytes e is = record {
  keeps = λ f other has. rw is.is (without_has is.front is.back e f other
      (subst (λ (es : List Entry). HasEntry es f) is.was has));
  only = λ f has. inl (rw is.was (with_has is.front is.back e f
      (subst (λ (es : List Entry). HasEntry es f) is.is has)));
}

pub removed_row : (size owner root : ℕ) (batch : ℕ → Option (List ℕ)) (orders : Orders)
    (old new : Pages) (levels : List (List ℕ)) (n : ℕ) (bytes : List ℕ) (e : Entry)
    → Rewrites size old new owner n → level_in (old n) ≡ 0 → new n ≡ bytes
    → RemovesEntry (old n) bytes e → batch n ≢ None → IsNoInventory size n
    → ChangesTree size owner root batch orders (Remove e) old levels new levels
removed_row size owner root batch orders old new levels n bytes e is low put removes some no_inventory =
    leaf old new new levels levels n is low
    (subst (λ (b : List ℕ). ChangesEntries (Remove e) (entries_of (old n)) (entries_of b)) (sym put)
    (removed_entries (old n) bytes e removes)) some no_inventory (done new levels)

pub removed_gone : (size owner root : ℕ) (old new : Pages) (levels : List (List ℕ)) (n : ℕ)
    (bytes : List ℕ) (e : Entry) → IsTree size old owner root levels → InTree levels n
    → Rewrites size old new owner n → level_in (old n) ≡ 0 → new n ≡ bytes → IsNodePage (old n)
    → RemovesEntry (old n) bytes e → Finds new e root → ⊥
removed_gone size owner root old new levels n bytes e tree placed is low put lawful removes =
    removed_is_gone size owner root old new levels n e tree placed low
    (rw removes.was (back_has removes.front (e ∷ removes.back) e (inl refl))) is
    (λ has. lost removes.front removes.back e (subst AreAscending removes.was lawful.ascending)
    (subst (λ (es : List Entry). HasEntry es e) (ap entries_of put ∙ removes.is) has))

-- the leaf that is put is the one without the entry
pub puts_without : (old new : Changed) (read : ReadNode) (e : Entry) (before bytes put : List ℕ)
    → before ≡ read.bytes → IsEntryOf before e → RemovesEntry before bytes e
    → ((is_inner bytes ≡ true → BeginsAsInner (low_of bytes) (entries_of bytes)) → IsNodePage bytes)
    → level_in read.bytes ≡ 0 → put ≡ bytes → PutsPage old new read.page.0 put
    → PutsWithout old new read e
puts_without old new read e before bytes put same was removes lawful leaf_ as_put puts = record {
  was = subst (λ (b : List ℕ). IsEntryOf b e) same was;
  bytes = bytes;
  removes = subst (λ (b : List ℕ). RemovesEntry b bytes e) same removes;
  lawful = lawful (λ inner. absurd (let more = ltb-true 0 (level_in bytes) inner in
      let level : level_in bytes ≡ level_in read.bytes = removes.keeps.level ∙ ap level_in same in
      omega (arith, more, level, leaf_)));
  len = removes.keeps.size ∙ ap length same;
  puts = subst (PutsPage old new read.page.0) as_put puts;
}

take_front : (xs ys : List ℕ) → take (length xs) (xs ++ ys) ≡ xs
take_front [] ys = refl
take_front (x ∷ xs) ys = ap (λ (zs : List ℕ). x ∷ zs) (take_front xs ys)

-- a slice of a whole list that was changed is the list
pub written_back : (xs items : List ℕ) (len : ℕ) → len ≡ length xs
    → take len (xs ++ drop (length xs) items) ≡ xs
written_back xs items len same =
    ap (λ (n : ℕ). take n (xs ++ drop (length xs) items)) same ∙ take_front xs (drop (length xs) items)

-- an entry of a list stands before another one of it, is that one, or stands behind it
pub either_parts : (front back : List Entry) (e f : Entry) → HasEntry (front ++ e ∷ back) f
    → HasEntry front f ⊎ ((f ≡ e) ⊎ HasEntry back f)
either_parts [] back e f (inl same) = inr (inl same)
either_parts [] back e f (inr later) = inr (inr later)
either_parts (x ∷ xs) back e f (inl same) = inl (inl same)
either_parts (x ∷ xs) back e f (inr later) = at (either_parts xs back e f later)
  where
    at : HasEntry xs f ⊎ ((f ≡ e) ⊎ HasEntry back f) → HasEntry (x ∷ xs) f ⊎ ((f ≡ e) ⊎ HasEntry back f)
    at (inl has) = inl (inr has)
    at (inr other) = inr other
