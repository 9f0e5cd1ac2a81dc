-- Laws of the leaf that a search comes to, and of what a call does to it.
use Rattle.std.proofs.Common.{◌≡◌, ◌≢◌, inl, inr, ◌∙◌, ap, refl, sym, subst, arith, ◌+◌, ◌≤◌, ◌<◌, ℕ, Bool, true, false, List, Some, None, length, Result, Ok, Err}
use Rattle.std.specs.Prelude.{IfOk, IfSome, IsErrAnd}
use Rattle.mg_base.specs.Disk.{Meaning}
use Rattle.mg_base.specs.Image.{Image}
use Rattle.mg_node.specs.declared.entry.Entry.{Entry}
use Rattle.mg_node.specs.NodePage.{IsAtLeast, IsBelow, IsNodePage, entries_of, high_of, level_in, low_of, node_checks}
use Rattle.mg_base.specs.Checks.{PassesAll}
use Rattle.mg_image.specs.Form.{Pages}
use Rattle.mg_image.specs.Indexes.{Finds, HasEntry, IsTree}
use Rattle.mg_node_writing.specs.NodeChanges.{IsEntryOf, RemovesEntry}
use Rattle.mg_pool.specs.Batch.{Changed, content_in, lists}
use Rattle.mg_pool.specs.declared.pool.Pool.{Pool}
use Rattle.mg_space.specs.View.{AreWhole, KeepsStore, Tells, viewed}
use Rattle.mg_space.specs.ViewLaws.{tells_on, whole_on}
use Rattle.mg_base.specs.declared.geometry.Geometry.{Geometry}
use Rattle.mg_space.specs.declared.fault.SpaceFault.{SpaceFault}
use Rattle.mg_space.specs.declared.fault.SpaceFault.TheVariants.{Full, Pool as OfPool, Damaged as OfPage}
use Rattle.mg_tree_overlay_laws.specs.TreeSteps.{InTree, Rewrites}
use Rattle.mg_tree_overlay_laws.specs.TreesBehind.{Covers}
use Rattle.mg_tree_overlay_laws.specs.TreeBatches.{ChangesTree, Remove, done}
use Rattle.mg_tree_overlay_laws.specs.KeptLaws.{leaf_found}
use Rattle.mg_tree_overlay_laws.specs.SearchLaws.{leaf_has_found}
use Rattle.mg_btree.specs.declared.node.ReadNode.{ReadNode}
use Rattle.mg_btree.specs.declared.root.Root.{Root}
use Rattle.mg_btree.specs.Searching.{BeginsAt, ComesTo, IsReached}
use Rattle.mg_btree.specs.SearchLaws.{begins_root, viewed_same}
use Rattle.mg_btree.specs.Roots.{IsRootOf}
use Rattle.mg_btree.specs.Changing.{HasNoInventory, IsLeaf, PutsOrStays, PutsWithout, ReadsLeaf, Removes, TakesOut}
use Rattle.mg_btree.specs.OrderLaws.{put_few}
use Rattle.mg_btree.specs.ChangeLaws.{entry_has, is_entry, leaf_rewrites, removed_gone, removed_row, viewed_other, viewed_put}

-- a leaf that is put is one page more, at most
pub without_few : (old new : Changed) (read : ReadNode) (e : Entry) (was : Bool)
    → PutsOrStays old new read e was → length new.pages ≤ length old.pages + 1
without_few old new read e true is = put_few old new read.page.0 is.bytes is.puts
without_few old new read e false is =
    let same : length new.pages ≡ length old.pages = ap (λ (b : Changed). length b.pages) is.1 in
    omega (arith, same)

-- a page on level 0 that was reached is a leaf
pub leaf_ok : (size now owner : ℕ) (e : Entry) (result : Result ReadNode SpaceFault) → now ≡ size
    → IfOk result (IsReached now owner 0 e) → IfOk result (IsLeaf size)
leaf_ok size now owner e (Ok read) same is = record {
  len = is.len ∙ same;
  lawful = is.is.lawful;
  level = is.is.on_level;
}
leaf_ok size now owner e (Err fault) same is = tt

-- where the root was refused it is the cache that refuses
pub leaf_refused : (size : ℕ) (pages : Pages) (owner page : ℕ) (levels : List (List ℕ)) (e : Entry)
    (fault : SpaceFault) (result : Result ReadNode SpaceFault) → IsErrAnd result (λ f. f ≡ fault)
    → IsRootOf pages owner page (Err fault) → ReadsLeaf size pages owner levels e result
leaf_refused size pages owner page levels e fault (Ok read) none is = absurd none
leaf_refused size pages owner page levels e fault (Err f) same is =
    subst (λ (x : SpaceFault). ReadsLeaf size pages owner levels e (Err x)) (sym same) (by fault is)
  where
    by : (fault : SpaceFault) → IsRootOf pages owner page (Err fault)
        → ReadsLeaf size pages owner levels e (Err fault)
    by (Full limit) none = none
    by (OfPage damage) none = none
    by (OfPool f) is = tt

-- the search from the root comes to the leaf
pub leaf_seen : {D L : Type 0} (m : Meaning D) (old a : Pool D L) (batch : Changed) (page : ℕ)
    (e : Entry) (top : Root) (result : Result ReadNode SpaceFault) → KeepsStore m old a
    → ((image : Image) (owner : ℕ) (levels : List (List ℕ)) → Tells m old.disk image
    → IsTree old.geometry.size (viewed old image batch) owner page levels
    → IsRootOf (viewed old image batch) owner page (Ok top))
    → IfOk result (IsReached a.geometry.size top.owner 0 e)
    → ((image : Image) (root : ℕ) (levels : List (List ℕ)) → Tells m a.disk image
    → BeginsAt a.geometry.size (viewed a image batch) top.owner root levels e top.level page
    → ComesTo (viewed a image batch) levels result)
    → (image : Image) (owner : ℕ) (levels : List (List ℕ)) → Tells m old.disk image
    → IsTree old.geometry.size (viewed old image batch) owner page levels
    → ReadsLeaf old.geometry.size (viewed old image batch) owner levels e result
leaf_seen m old a batch page e top result keeps root_is reached comes image owner levels tells tree =
    by result reached there
  where
    is : IsRootOf (viewed old image batch) owner page (Ok top)
    is = root_is image owner levels tells tree

    size_is : a.geometry.size ≡ old.geometry.size
    size_is = ap (λ g. g.size) keeps.geometry

    begins : BeginsAt old.geometry.size (viewed old image batch) top.owner page levels e top.level page
    begins = subst (λ (k : ℕ). BeginsAt old.geometry.size (viewed old image batch) top.owner page levels e k page)
        (sym is.2) (begins_root old.geometry.size (viewed old image batch) top.owner page levels e
        (subst (λ (k : ℕ). IsTree old.geometry.size (viewed old image batch) k page levels) (sym is.1) tree))

    there : ComesTo (viewed old image batch) levels result
    there = subst (λ (pages : Pages). ComesTo pages levels result) (viewed_same m old a image batch keeps)
        (comes image page levels (tells_on m old a image keeps tells)
        (subst (λ (pages : Pages). BeginsAt a.geometry.size pages top.owner page levels e top.level page)
        (sym (viewed_same m old a image batch keeps))
        (subst (λ (size : ℕ). BeginsAt size (viewed old image batch) top.owner page levels e top.level page)
        (sym size_is) begins)))

    by : (result : Result ReadNode SpaceFault) → IfOk result (IsReached a.geometry.size top.owner 0 e)
        → ComesTo (viewed old image batch) levels result
        → ReadsLeaf old.geometry.size (viewed old image batch) owner levels e result
    by (Ok read) ok on = (
      subst (λ (k : ℕ). IsReached old.geometry.size k 0 e read) is.1
          (subst (λ (size : ℕ). IsReached size top.owner 0 e read) size_is ok),
      on.0,
      on.1,
    )
    by (Err (Full limit)) ok none = none
    by (Err (OfPage damage)) ok none = none
    by (Err (OfPool fault)) ok on = tt

-- ---- an entry is taken out

pub whole_without : (g : Geometry) (old new : Changed) (read : ReadNode) (e : Entry) (was : Bool)
    → AreWhole g old.pages → length read.bytes ≡ g.size → read.page.0 < g.limit
    → PutsOrStays old new read e was → AreWhole g new.pages
whole_without g old new read e true whole len below is =
    whole_on g old new read.page.0 is.bytes whole (is.len ∙ len) below is.puts
whole_without g old new read e false whole len below is =
    subst (λ (b : Changed). AreWhole g b.pages) (sym is.1) whole

pub orders_without : (old new : Changed) (read : ReadNode) (e : Entry) (was : Bool)
    → PutsOrStays old new read e was → new.orders ≡ old.orders
orders_without old new read e true is = is.puts.same_orders
orders_without old new read e false is = ap (λ (b : Changed). b.orders) is.1

module _ {D L : Type 0} (m : Meaning D) (old a : Pool D L) (before batch : Changed) (image : Image)
    (owner root : ℕ) (levels : List (List ℕ)) (e : Entry) (read : ReadNode) (keeps : KeepsStore m old a)
    (tree : IsTree old.geometry.size (viewed old image before) owner root levels)
    (no_inventory : HasNoInventory old.geometry.size levels)
    (leaf : ReadsLeaf old.geometry.size (viewed old image before) owner levels e (Ok read))
  where
    abbrev size : ℕ
    size = old.geometry.size

    abbrev was : Pages
    was = viewed old image before

    abbrev now : Pages
    now = viewed a image batch

    abbrev n : ℕ
    n = read.page.0

    low : level_in (was n) ≡ 0
    low = ap level_in (sym leaf.1) ∙ leaf.0.is.on_level

    covers : Covers was n e
    covers = subst (λ (b : List ℕ). IfSome (low_of b) (λ fence. IsAtLeast e fence)
        × IfSome (high_of b) (λ fence. IsBelow e fence)) leaf.1 (leaf.0.from, leaf.0.below)

    has_it : Finds was e root → IsEntryOf read.bytes e
    has_it found = subst (λ (b : List ℕ). IsEntryOf b e) (sym leaf.1)
        (is_entry (was n) e (leaf_has_found size owner root was levels n e tree leaf.2 low covers found))

    finds_it : IsEntryOf read.bytes e → Finds was e root
    finds_it is = leaf_found size was owner root levels n e tree leaf.2 low
        (subst (λ (b : List ℕ). HasEntry (entries_of b) e) leaf.1 (entry_has read.bytes e is))

    pub stays_out : (IsEntryOf read.bytes e → ⊥) → batch ≡ before
        → TakesOut size was now batch owner root levels e false
    stays_out none same =
        let pages : now ≡ was = ap (viewed a image) same ∙ viewed_same m old a image before keeps in
        record {
          when = ((λ is. absurd cc), λ found. absurd (none (has_it found)));
          row = subst (λ (p : Pages). ChangesTree size owner root (content_in batch.pages)
              (lists batch.orders) (Remove e) was levels p levels) (sym pages) (done was levels);
          gone = λ found. none (has_it (subst (λ (p : Pages). Finds p e root) pages found));
          others = λ k out. ap (λ (p : Pages). p k) pages;
          alone = inl pages;
        }

    pub goes_out : PutsWithout before batch read e → TakesOut size was now batch owner root levels e true
    goes_out is = record {
      when = ((λ yes_. finds_it is.was), λ found. refl);
      row = removed_row size owner root (content_in batch.pages) (lists batch.orders) was now levels n
          is.bytes e rewrites low put removes there (no_inventory n leaf.2);
      gone = removed_gone size owner root was now levels n is.bytes e tree leaf.2 rewrites low put
          (subst IsNodePage leaf.1 leaf.0.is.lawful) removes;
      others = λ k out. others k (λ same. out (subst (InTree levels) (sym same) leaf.2));
      alone = inr (record {
        leaf = n;
        placed = leaf.2;
        rewrites = rewrites;
        low = low;
        len = ap length put ∙ (is.len ∙ leaf.0.len);
      });
    }
      where
        put : now n ≡ is.bytes
        put = viewed_put a image before batch n is.bytes is.puts

        others : (k : ℕ) → k ≢ n → now k ≡ was k
        others k other = viewed_other a image before batch n k is.bytes is.puts other
            ∙ ap (λ (p : Pages). p k) (viewed_same m old a image before keeps)

        removes : RemovesEntry (was n) is.bytes e
        removes = subst (λ (b : List ℕ). RemovesEntry b is.bytes e) leaf.1 is.removes

        rewrites : Rewrites size was now owner n
        rewrites = leaf_rewrites size was now owner n is.bytes others put (no_inventory n leaf.2)
            (subst (λ (b : List ℕ). PassesAll (node_checks b n owner)) leaf.1 leaf.0.is.fields) low is.lawful
            removes.keeps

        there : content_in batch.pages n ≢ None
        there none = let both : Some is.bytes ≡ None = sym is.puts.here ∙ none in absurd cc

    pub removes_says : (was_there : Bool) → PutsOrStays before batch read e was_there
        → Removes size was now batch owner root levels e (Ok was_there)
    removes_says true is = goes_out is
    removes_says false is = stays_out is.0 is.1
