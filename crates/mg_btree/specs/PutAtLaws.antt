-- The exits of the calls that put an entry into a tree.
use Rattle.std.proofs.Common.{◌≡◌, ◌∙◌, ap, refl, sym, subst, ℕ, List, Result, Ok, Err}
use Rattle.std.specs.Prelude.{IsErrAnd}
use Rattle.mg_base.specs.Disk.{Meaning}
use Rattle.mg_base.specs.Image.{Image}
use Rattle.mg_base.specs.declared.geometry.Geometry.{Geometry}
use Rattle.mg_base.specs.declared.numbers.PageNo.{PageNo}
use Rattle.mg_node.specs.declared.entry.Entry.{Entry}
use Rattle.mg_node.specs.NodePage.{entries_of, level_in}
use Rattle.mg_image.specs.Form.{Pages}
use Rattle.mg_image.specs.Indexes.{IsTree}
use Rattle.mg_pool.specs.Batch.{Changed}
use Rattle.mg_pool.specs.declared.fault.PoolFault.{PoolFault}
use Rattle.mg_pool.specs.declared.pool.Pool.{Pool}
use Rattle.mg_space.specs.View.{KeepsStore, Tells, viewed}
use Rattle.mg_space.specs.ViewLaws.{tells_on, viewed_on}
use Rattle.mg_space.specs.declared.fault.SpaceFault.{SpaceFault}
use Rattle.mg_space.specs.declared.fault.SpaceFault.TheVariants.{Full, Pool as OfPool, Damaged as OfPage}
use Rattle.mg_tree_overlay_laws.specs.TreeSteps.{InTree}
use Rattle.mg_btree.specs.declared.halves.PageBytes.{PageBytes}
use Rattle.mg_btree.specs.declared.inserting.Leaf.{Leaf}
use Rattle.mg_btree.specs.declared.node.ReadNode.{ReadNode}
use Rattle.mg_btree.specs.declared.root.Root.{Root}
use Rattle.mg_btree.specs.Changing.{HasNoInventory, ReadsLeaf}
use Rattle.mg_btree.specs.Halves.{HasPlace, HasRoom, IsPlaceFor, IsRoomy}
use Rattle.mg_btree.specs.Inserting.{FindsLeaf, Inserts, PutsWith}
use Rattle.mg_btree.specs.InsertingLaws.{inserts_it, inserts_nothing, inserts_refused}
use Rattle.mg_btree.specs.Roots.{IsRootOf}
use Rattle.mg_btree.specs.Rooms.{MakesRoomIn, StandsIn}
use Rattle.mg_btree.specs.Searching.{IsReached}

-- a page that was reached is a place for the entry
pub reached_place : (size owner level : ℕ) (e : Entry) (read : ReadNode) (page : PageBytes)
    → page.page ≡ read.page → page.bytes ≡ read.bytes → IsReached size owner level e read
    → IsPlaceFor size owner level e page
reached_place size owner level e read page page_is bytes_are is = place_at read.page read.bytes page
    page_is bytes_are (record {
      len = is.len;
      fields = is.is.fields;
      lawful = is.is.lawful;
      enough = is.is.enough;
      on_level = is.is.on_level;
      covers = (is.from, is.below);
    })
  where
    place_at : (n : PageNo) (b : List ℕ) (page : PageBytes) → page.page ≡ n → page.bytes ≡ b
        → IsPlaceFor size owner level e (record { page = n; bytes = b })
        → IsPlaceFor size owner level e page
    place_at n b page is_n is_b there =
        subst (λ (k : PageNo). IsPlaceFor size owner level e (record { page = k; bytes = page.bytes }))
        (sym is_n) (subst (λ (x : List ℕ). IsPlaceFor size owner level e (record { page = n; bytes = x }))
        (sym is_b) there)

-- what the search for the leaf comes to
pub leaf_finds : (size : ℕ) (pages : Pages) (owner root : ℕ) (levels : List (List ℕ)) (e : Entry)
    (top : Root) (read : ReadNode) → IsRootOf pages owner root (Ok top)
    → ReadsLeaf size pages owner levels e (Ok read)
    → FindsLeaf pages owner root levels (Ok (record { top = top; read = read }))
leaf_finds size pages owner root levels e top read is reads = (is.0, is.1, is.2, reads.1, reads.2)

pub leaf_fails : (size : ℕ) (pages : Pages) (owner root : ℕ) (levels : List (List ℕ)) (e : Entry)
    (fault : SpaceFault) (result : Result Leaf SpaceFault) → IsErrAnd result (λ f. f ≡ fault)
    → ReadsLeaf size pages owner levels e (Err fault) → FindsLeaf pages owner root levels result
leaf_fails size pages owner root levels e fault (Ok leaf) none reads = absurd none
leaf_fails size pages owner root levels e fault (Err f) same reads =
    subst (λ (x : SpaceFault). FindsLeaf pages owner root levels (Err x)) (sym same) (by fault reads)
  where
    by : (fault : SpaceFault) → ReadsLeaf size pages owner levels e (Err fault)
        → FindsLeaf pages owner root levels (Err fault)
    by (Full limit) none = none
    by (OfPage damage) none = none
    by (OfPool f) is = tt

pub root_fails : (pages : Pages) (owner root : ℕ) (levels : List (List ℕ)) (fault : SpaceFault)
    (result : Result Leaf SpaceFault) → IsErrAnd result (λ f. f ≡ fault)
    → IsRootOf pages owner root (Err fault) → FindsLeaf pages owner root levels result
root_fails pages owner root levels fault (Ok leaf) none is = absurd none
root_fails pages owner root levels fault (Err f) same is =
    subst (λ (x : SpaceFault). FindsLeaf pages owner root levels (Err x)) (sym same) (by fault is)
  where
    by : (fault : SpaceFault) → IsRootOf pages owner root (Err fault)
        → FindsLeaf pages owner root levels (Err fault)
    by (Full limit) none = none
    by (OfPage damage) none = none
    by (OfPool f) is = tt

module _ {D L : Type 0} (m : Meaning D) (store : Pool D L) (image : Image) (start : Changed)
    (owner root : ℕ) (levels : List (List ℕ)) (leaf : Leaf) (full : PageBytes) (e : Entry)
    (page_is : full.page ≡ leaf.read.page) (bytes_are : full.bytes ≡ leaf.read.bytes)
    (tells : Tells m store.disk image)
    (tree : IsTree store.geometry.size (viewed store image start) owner root levels)
    (no_inventory : HasNoInventory store.geometry.size levels)
    (finds : FindsLeaf (viewed store image start) owner root levels (Ok leaf))
    (reached : IsReached store.geometry.size leaf.top.owner 0 e leaf.read)
    (none : e.child.0 ≡ 0)
  where
    leaf_stands : StandsIn store.geometry.size (viewed store image start) owner root levels full
    leaf_stands = record {
      tree = tree;
      no_inventory = no_inventory;
      bytes = bytes_are ∙ (finds.3 ∙ ap (λ n. viewed store image start n.0) (sym page_is));
      placed = subst (λ n. InTree levels n.0) (sym page_is) finds.4;
    }

    leaf_place : IsPlaceFor store.geometry.size owner 0 e full
    leaf_place = subst (λ (k : ℕ). IsPlaceFor store.geometry.size k 0 e full) finds.1
        (reached_place store.geometry.size leaf.top.owner 0 e leaf.read full page_is bytes_are reached)

    pub put_there : HasPlace (entries_of full.bytes) e
        → Inserts store.geometry (viewed store image start) (viewed store image start) start start owner
        root levels e (Ok tt)
    put_there has = inserts_nothing store.geometry owner root levels (viewed store image start) full e
        leaf_stands leaf_place none start has

    module _ (second : Changed) (given : Result PageBytes SpaceFault)
        (in_place : HasRoom full.bytes e → (given ≡ Ok full) × (second ≡ start))
        (no_place : HasPlace (entries_of full.bytes) e → ⊥)
        (makes : (image : Image) (levels : List (List ℕ)) → Tells m store.disk image
        → leaf.top.level ≡ level_in (viewed store image start leaf.top.page.0)
        → StandsIn store.geometry.size (viewed store image start) leaf.top.owner leaf.top.page.0 levels full
        → MakesRoomIn store.geometry (viewed store image start) (viewed store image second) start second
        leaf.top.owner leaf.top.page.0 levels 0 e given) where
      made : MakesRoomIn store.geometry (viewed store image start) (viewed store image second) start second
          owner root levels 0 e given
      made = subst (λ (k : ℕ). MakesRoomIn store.geometry (viewed store image start)
          (viewed store image second) start second k root levels 0 e given) finds.1
          (subst (λ (k : ℕ). MakesRoomIn store.geometry (viewed store image start)
          (viewed store image second) start second leaf.top.owner k levels 0 e given) finds.0
          (makes image levels tells
          (finds.2 ∙ ap (λ (k : ℕ). level_in (viewed store image start k)) (sym finds.0))
          (subst (λ (k : ℕ). StandsIn store.geometry.size (viewed store image start) k leaf.top.page.0
          levels full) (sym finds.1) (subst (λ (k : ℕ). StandsIn store.geometry.size
          (viewed store image start) owner k levels full) (sym finds.0) leaf_stands))))

      no_room : (fault : SpaceFault) → given ≡ Err fault → HasRoom full.bytes e → ⊥
      no_room fault is room =
          let both : Ok full ≡ Err fault = sym (in_place room).0 ∙ is in absurd cc

      pub put_refused : (new : Pages) (last : Changed) (fault : SpaceFault)
          (result : Result (Unit {0}) SpaceFault) → given ≡ Err fault → IsErrAnd result (λ f. f ≡ fault)
          → Inserts store.geometry (viewed store image start) new start last owner root levels e result
      put_refused new last fault result is same = inserts_refused store.geometry owner root levels
          (viewed store image start) full e leaf_stands leaf_place none new start last fault result no_place
          (no_room fault is) (subst (MakesRoomIn store.geometry (viewed store image start)
          (viewed store image second) start second owner root levels 0 e) is made) same

      pub put_it : (page : PageBytes) (last : Changed) → given ≡ Ok page
          → IsRoomy store.geometry.size leaf.top.owner 0 e page → PutsWith second last page e
          → Inserts store.geometry (viewed store image start) (viewed store image last) start last owner
          root levels e (Ok tt)
      put_it page last is roomy puts = inserts_it store.geometry owner root levels (viewed store image start)
          full e leaf_stands leaf_place none store image start second last page refl no_place
          (subst (λ (k : ℕ). IsRoomy store.geometry.size k 0 e page) finds.1 roomy)
          (subst (MakesRoomIn store.geometry (viewed store image start) (viewed store image second) start
          second owner root levels 0 e) is made)
          (λ room. let kept = in_place room in
          (one page full (sym is ∙ kept.0), kept.1)) puts
        where
          one : (a b : PageBytes) → ◌≡◌ {A = Result PageBytes SpaceFault} (Ok a) (Ok b) → a ≡ b
          one a b same = cc

-- the cache ran out of memory, or was refused
pub pool_refused : (g : Geometry) (was new : Pages) (start last : Changed) (owner root : ℕ)
    (levels : List (List ℕ)) (e : Entry) (fault : PoolFault) (result : Result (Unit {0}) SpaceFault)
    → IsErrAnd result (λ f. f ≡ OfPool fault)
    → Inserts g was new start last owner root levels e result
pool_refused g was new start last owner root levels e fault (Ok x) none = absurd none
pool_refused g was new start last owner root levels e fault (Err f) same = rw same tt

-- the leaf was not found
pub find_refused : (g : Geometry) (was new : Pages) (start last : Changed) (owner root : ℕ)
    (levels : List (List ℕ)) (e : Entry) (fault : SpaceFault) (result : Result (Unit {0}) SpaceFault)
    → FindsLeaf was owner root levels (Err fault) → IsErrAnd result (λ f. f ≡ fault)
    → Inserts g was new start last owner root levels e result
find_refused g was new start last owner root levels e fault (Ok x) finds none = absurd none
find_refused g was new start last owner root levels e fault (Err f) finds same =
    subst (λ (x : SpaceFault). Inserts g was new start last owner root levels e (Err x)) (sym same)
    (by fault finds)
  where
    by : (fault : SpaceFault) → FindsLeaf was owner root levels (Err fault)
        → Inserts g was new start last owner root levels e (Err fault)
    by (Full limit) none = absurd none
    by (OfPage damage) none = absurd none
    by (OfPool f) is = tt

-- what the second call says, in the words of the first one's cache
module _ {D L : Type 0} (m : Meaning D) (old a b : Pool D L) (image : Image) (first : KeepsStore m old a)
    (second : KeepsStore m a b) where
  pub inserts_on : (start last : Changed) (owner root : ℕ) (levels : List (List ℕ)) (e : Entry)
      (result : Result (Unit {0}) SpaceFault)
      → Inserts a.geometry (viewed a image start) (viewed a image last) start last owner root levels e
      result
      → Inserts old.geometry (viewed old image start) (viewed b image last) start last owner root levels e
      result
  inserts_on start last owner root levels e result is =
      subst (λ (g : Geometry). Inserts g (viewed old image start) (viewed b image last) start last owner
      root levels e result) first.geometry
      (subst (λ (pages : Pages). Inserts a.geometry pages (viewed b image last) start last owner root
      levels e result) (viewed_on m old a image start first)
      (subst (λ (pages : Pages). Inserts a.geometry (viewed a image start) pages start last owner root
      levels e result) (sym (viewed_on m a b image last second)) is))

  pub insert_all : (start last : Changed) (owner root : ℕ) (levels : List (List ℕ)) (leaf : Leaf)
      (e : Entry) (result : Result (Unit {0}) SpaceFault) → Tells m old.disk image
      → IsTree old.geometry.size (viewed old image start) owner root levels
      → HasNoInventory old.geometry.size levels
      → FindsLeaf (viewed old image start) owner root levels (Ok leaf)
      → ((image : Image) (owner root : ℕ) (levels : List (List ℕ)) → Tells m a.disk image
      → IsTree a.geometry.size (viewed a image start) owner root levels
      → HasNoInventory a.geometry.size levels
      → FindsLeaf (viewed a image start) owner root levels (Ok leaf)
      → Inserts a.geometry (viewed a image start) (viewed a image last) start last owner root levels e
      result)
      → Inserts old.geometry (viewed old image start) (viewed b image last) start last owner root levels e
      result
  insert_all start last owner root levels leaf e result tells tree no_inventory finds inserts =
      inserts_on start last owner root levels e result
      (inserts image owner root levels (tells_on m old a image first tells)
      (subst (λ (g : Geometry). IsTree g.size (viewed a image start) owner root levels) (sym first.geometry)
      (subst (λ (pages : Pages). IsTree old.geometry.size pages owner root levels)
      (sym (viewed_on m old a image start first)) tree))
      (subst (λ (g : Geometry). HasNoInventory g.size levels) (sym first.geometry) no_inventory)
      (subst (λ (pages : Pages). FindsLeaf pages owner root levels (Ok leaf))
      (sym (viewed_on m old a image start first)) finds))
