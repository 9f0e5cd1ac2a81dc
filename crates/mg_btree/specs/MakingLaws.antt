-- The exits of the call that makes room.
use Rattle.std.proofs.Common.{◌≡◌, ◌≢◌, ◌⊎◌, inl, inr, ◌∙◌, ap, refl, sym, subst, ◌<◌, ◌+◌, ◌++◌, ◌-◌, ℕ, suc, List, None, Result, Ok, Err, arith}
use Rattle.std.specs.Prelude.{IsErrAnd}
use Rattle.std.specs.declared.cmp.Ordering.{Ordering}
use Rattle.std.specs.declared.cmp.Ordering.TheVariants.{Less, Equal, Greater}
use Rattle.mg_base.specs.Disk.{Meaning}
use Rattle.mg_base.specs.Image.{Image}
use Rattle.mg_base.specs.declared.geometry.Geometry.{Geometry}
use Rattle.mg_node.specs.declared.entry.Entry.{Entry}
use Rattle.mg_node.specs.NodePage.{entry_cmp, level_in}
use Rattle.mg_image.specs.Form.{Pages}
use Rattle.mg_pool.specs.Batch.{Changed, content_in, lists}
use Rattle.mg_pool.specs.declared.batch.BatchPage.{BatchPage}
use Rattle.mg_pool.specs.declared.pool.Pool.{Pool}
use Rattle.mg_space.specs.Taking.{IsGeometry, RefusesTake, TakesPage}
use Rattle.mg_space.specs.View.{KeepsStore, Tells, viewed}
use Rattle.mg_space.specs.ViewLaws.{tells_on, viewed_on}
use Rattle.mg_space.specs.declared.fault.SpaceFault.{SpaceFault}
use Rattle.mg_space.specs.declared.fault.SpaceFault.TheVariants.{Full, Pool as OfPool, Damaged as OfPage}
use Rattle.mg_tree_overlay_laws.specs.TreeSteps.{InTree}
use Rattle.mg_tree_overlay_laws.specs.TreeBatches.{OrdersSplit, inventory_of}
use Rattle.mg_tree_overlay_laws.specs.GrowParts.{root_in}
use Rattle.mg_btree.specs.declared.halves.Halves.{Halves}
use Rattle.mg_btree.specs.declared.halves.PageBytes.{PageBytes}
use Rattle.mg_btree.specs.declared.making.Split.{Split}
use Rattle.mg_btree.specs.Halves.{AreHalves, HasRoom, IsHalfFor, IsPlaceFor, IsRoomy, RefusesName}
use Rattle.mg_btree.specs.Making.{IsSplit, SplitsIn, SplitsPage, TakesAbove}
use Rattle.mg_btree.specs.OrderLaws.{added_after, first_there, second_there, split_ordered, third_there, three_few, three_laid, three_orders}
use Rattle.mg_btree.specs.Ordering.{Widens, split_orders}
use Rattle.mg_btree.specs.RefusalLaws.{err_room, refuses_now, room_refused, room_up}
use Rattle.mg_btree.specs.RoomLaws.{place_is_free, split_makes}
use Rattle.mg_btree.specs.Rooms.{MakesRoom, MakesRoomIn, StandsIn, TakesAlone}
use Rattle.mg_btree.specs.SplitRows.{with_page}
use Rattle.mg_btree.specs.TakeLaws.{taken_same, taken_tree}

-- a half for an entry is one of the two
pub either_half : (halves : Halves) (e : Entry) (half : PageBytes) → IsHalfFor halves e half
    → (half ≡ halves.left) ⊎ (half ≡ halves.right)
either_half halves e half is = at (entry_cmp e halves.fence) refl
  where
    at : (o : Ordering) → entry_cmp e halves.fence ≡ o → (half ≡ halves.left) ⊎ (half ≡ halves.right)
    at Less same = inl (is.lower same)
    at Equal same = inr (is.upper (λ less. let both : Less ≡ Equal = sym less ∙ same in cc))
    at Greater same = inr (is.upper (λ less. let both : Less ≡ Greater = sym less ∙ same in cc))

-- the pages are the same to one who reads by a cache that has been read
module _ {D L : Type 0} (m : Meaning D) (old a : Pool D L) (image : Image) (keeps : KeepsStore m old a) where
  pub stands_on : (batch : Changed) (owner root : ℕ) (levels : List (List ℕ)) (page : PageBytes)
      → StandsIn old.geometry.size (viewed old image batch) owner root levels page
      → StandsIn a.geometry.size (viewed a image batch) owner root levels page
  stands_on batch owner root levels page is =
      subst (λ (g : Geometry). StandsIn g.size (viewed a image batch) owner root levels page)
      (sym keeps.geometry)
      (subst (λ (pages : Pages). StandsIn old.geometry.size pages owner root levels page)
      (sym (viewed_on m old a image batch keeps)) is)

  pub makes_on : (first second : Changed) (owner root : ℕ) (levels : List (List ℕ)) (level : ℕ)
      (e : Entry) (result : Result PageBytes SpaceFault)
      → MakesRoomIn a.geometry (viewed a image first) (viewed a image second) first second owner root
      levels level e result
      → MakesRoomIn old.geometry (viewed old image first) (viewed old image second) first second owner
      root levels level e result
  makes_on first second owner root levels level e result is =
      subst (λ (g : Geometry). MakesRoomIn g (viewed old image first) (viewed old image second) first second
      owner root levels level e result) keeps.geometry
      (subst (λ (pages : Pages). MakesRoomIn a.geometry pages (viewed old image second) first second owner
      root levels level e result) (viewed_on m old a image first keeps)
      (subst (λ (pages : Pages). MakesRoomIn a.geometry (viewed a image first) pages first second owner
      root levels level e result) (viewed_on m old a image second keeps) is))

-- the page above got no room
pub above_refused : (g : Geometry) (was mid new last : Pages) (start first second third : Changed)
    (owner root level n : ℕ) (levels : List (List ℕ)) (e f : Entry) (fault : SpaceFault)
    (result : Result PageBytes SpaceFault) → TakesPage g was mid n → mid root ≡ was root
    → level < level_in (was root)
    → MakesRoomIn g mid new first second owner root levels (suc level) f (Err fault)
    → IsErrAnd result (λ given. given ≡ fault)
    → MakesRoomIn g was last start third owner root levels level e result
above_refused g was mid new last start first second third owner root level n levels e f fault result takes
    same lower refused is = err_room g was last start third owner root levels level e fault result is
    (room_up g was mid root level n fault takes same lower refused)

module _ {D L : Type 0} (m : Meaning D) (old a : Pool D L) (image : Image) (keeps : KeepsStore m old a)
    (lawful : IsGeometry old.geometry) (start first second : Changed) (owner root level top : ℕ)
    (levels : List (List ℕ)) (full : PageBytes) (e : Entry) (split : Split) (above : PageBytes)
    (result : Result PageBytes SpaceFault)
    (page_is : above.page ≡ split.above.page) (bytes_are : above.bytes ≡ split.above.bytes)
    (tells : Tells m old.disk image) (lower : level < top)
    (top_is : top ≡ level_in (viewed old image start root))
    (stands : StandsIn old.geometry.size (viewed old image start) owner root levels full)
    (takes : TakesAbove old.geometry (viewed old image start) (viewed old image first) first levels
    (Ok split))
    (makes : (image : Image) (levels : List (List ℕ)) → Tells m a.disk image
    → top ≡ level_in (viewed a image first root)
    → StandsIn a.geometry.size (viewed a image first) owner root levels above
    → MakesRoomIn a.geometry (viewed a image first) (viewed a image second) first second owner root levels
    (level + 1) split.halves.fence result)
  where
    abbrev was : Pages
    was = viewed old image start

    abbrev mid : Pages
    mid = viewed old image first

    placed : InTree levels root
    placed = root_in old.geometry.size was owner root levels stands.tree.rooted stands.tree

    pub mid_root : viewed old image first root ≡ viewed old image start root
    mid_root = taken_same old.geometry lawful owner root levels stands.no_inventory was mid
        split.halves.right.page.0 takes.0.takes stands.tree root (stands.no_inventory root placed)

    above_stands : StandsIn old.geometry.size (viewed old image first) owner root levels above
    above_stands = record {
      tree = taken_tree old.geometry lawful owner root levels stands.no_inventory was mid
          split.halves.right.page.0 takes.0.takes stands.tree;
      no_inventory = stands.no_inventory;
      bytes = bytes_are ∙ (takes.1 ∙ ap (λ n. mid n.0) (sym page_is));
      placed = subst (λ n. InTree levels n.0) (sym page_is) takes.2;
    }

    -- the page above got room, or not
    pub above_made : MakesRoomIn old.geometry (viewed old image first) (viewed old image second) first
        second owner root levels (suc level) split.halves.fence result
    above_made = makes_on m old a image keeps first second owner root levels (suc level)
        split.halves.fence result
        (subst (λ (k : ℕ). MakesRoomIn a.geometry (viewed a image first) (viewed a image second) first
        second owner root levels k split.halves.fence result) (omega arith)
        (makes image levels (tells_on m old a image keeps tells)
        (top_is ∙ ap level_in (sym mid_root ∙ ap (λ (pages : Pages). pages root)
        (sym (viewed_on m old a image first keeps))))
        (stands_on m old a image keeps first owner root levels above above_stands)))

    -- so this page gets none
    pub rec_refused : (last : Changed) (new : Pages) (fault : SpaceFault)
        (out : Result PageBytes SpaceFault) → result ≡ Err fault → IsErrAnd out (λ f. f ≡ fault)
        → MakesRoomIn old.geometry (viewed old image start) new start last owner root levels level e out
    rec_refused last new fault out is same = above_refused old.geometry (viewed old image start)
        (viewed old image first) (viewed old image second) new start first second last owner root level
        split.halves.right.page.0 levels e split.halves.fence fault out takes.0.takes mid_root
        (subst (λ (k : ℕ). level < k) top_is lower)
        (subst (MakesRoomIn old.geometry (viewed old image first) (viewed old image second) first second
        owner root levels (suc level) split.halves.fence) is above_made) same

-- a page was not taken, or the page above was not read
pub take_refused : (g : Geometry) (was last : Pages) (start third : Changed) (owner root level : ℕ)
    (levels : List (List ℕ)) (e : Entry) (fault : SpaceFault) (result : Result PageBytes SpaceFault)
    → RefusesTake g was fault → IsErrAnd result (λ f. f ≡ fault)
    → MakesRoomIn g was last start third owner root levels level e result
take_refused g was last start third owner root level levels e fault result refused is =
    err_room g was last start third owner root levels level e fault result is
    (room_refused g was root level fault
    (refuses_now g was (suc (level_in (was root)) - level) fault refused))

-- orders alone change no page
pub viewed_same_pages : {D L : Type 0} (store : Pool D L) (image : Image) (old new : Changed)
    → new.pages ≡ old.pages → viewed store image new ≡ viewed store image old
viewed_same_pages store image old new same = rw same refl

-- the page (viewed old image start) split
module _ {D L : Type 0} (old : Pool D L) (image : Image) (lawful : IsGeometry old.geometry)
    (start first second last : Changed) (owner root level top : ℕ) (levels : List (List ℕ))
    (full above : PageBytes) (split : Split) (e : Entry)
    (place : IsPlaceFor old.geometry.size owner level e full) (lower : level < top)
    (top_is : top ≡ level_in (viewed old image start root))
    (stands : StandsIn old.geometry.size (viewed old image start) owner root levels full)
    (is_split : IsSplit old.geometry.size owner level full split)
    (takes : TakesAbove old.geometry (viewed old image start) (viewed old image first) first levels
    (Ok split))
    (roomy : IsRoomy old.geometry.size owner (suc level) split.halves.fence above)
    (made : MakesRoom old.geometry (viewed old image first) (viewed old image second) first second
    owner root levels (suc level) split.halves.fence above)
    (taken_alone : TakesAlone 1 start first) (no_room : HasRoom full.bytes e → ⊥)
    (between : Widens old.geometry.size first second) (widens : Widens old.geometry.size second last)
  where
    abbrev late : Pages
    late = viewed old image second

    below : level < level_in (viewed old image start root)
    below = subst (λ (k : ℕ). level < k) top_is lower

    halves_are : AreHalves full.bytes full.page.0 split.halves.right.page.0 split.halves
    halves_are = subst (λ (k : ℕ). AreHalves full.bytes full.page.0 k split.halves)
        (sym is_split.halves.right_own) is_split.halves

    done_ : (half : PageBytes)
        → SplitsPage old.geometry.size second last split.halves above e half
        → MakesRoom old.geometry (viewed old image start) (viewed old image last) start last owner root
        levels level e half
    done_ half is = split_makes old.geometry lawful owner root level levels (viewed old image start)
        (viewed old image first) late first second full e
        split.halves above stands place below takes.0.takes halves_are roomy made is.named is.names
        (viewed old image last)
        ((viewed_same_pages old image is.puts.put last is.puts.orders.same_pages)
        ∙ (three_laid second is.puts.put split.halves.right.page.0 split.halves.left.page.0 above.page.0
        split.halves.right.bytes split.halves.left.bytes is.named is.puts.puts old image
        ∙ ap (λ (k : ℕ). with_page (with_page (with_page late split.halves.right.page.0
        split.halves.right.bytes) k split.halves.left.bytes) above.page.0 is.named) halves_are.left_own))
        start last taken_alone
        (three_few second is.puts.put split.halves.right.page.0 split.halves.left.page.0 above.page.0
        split.halves.right.bytes split.halves.left.bytes is.named is.puts.puts last is.puts.orders.same_pages)
        (subst (λ (k : ℕ). last.orders ≡ second.orders ++ split_orders old.geometry.size
        split.halves.names.items k split.halves.right.page.0 above.page.0) halves_are.left_own
        (added_after second second is.puts.put last (split_orders old.geometry.size
        split.halves.names.items split.halves.left.page.0 split.halves.right.page.0 above.page.0) refl
        (three_orders second is.puts.put split.halves.right.page.0 split.halves.left.page.0 above.page.0
        split.halves.right.bytes split.halves.left.bytes is.named is.puts.puts) is.puts.orders.added))
        no_room widens (widens.has (inventory_of old.geometry.size split.halves.right.page.0)
        (between.has (inventory_of old.geometry.size split.halves.right.page.0) takes.0.put))
        (subst (λ (pages : List BatchPage). content_in pages split.halves.right.page.0 ≢ None)
        (sym is.puts.orders.same_pages) (first_there second is.puts.put split.halves.right.page.0
        split.halves.left.page.0 above.page.0 split.halves.right.bytes split.halves.left.bytes is.named
        is.puts.puts))
        (subst (λ (k : ℕ). OrdersSplit old.geometry.size (content_in last.pages) (lists last.orders) k
        split.halves.right.page.0 above.page.0) halves_are.left_own
        (split_ordered old.geometry.size is.puts.put last split.halves.names.items
        split.halves.left.page.0 split.halves.right.page.0 above.page.0 is.puts.orders
        (second_there second is.puts.put split.halves.right.page.0 split.halves.left.page.0 above.page.0
        split.halves.right.bytes split.halves.left.bytes is.named is.puts.puts)
        (third_there second is.puts.put split.halves.right.page.0 split.halves.left.page.0 above.page.0
        split.halves.right.bytes split.halves.left.bytes is.named is.puts.puts)))
        half (either_half split.halves e half is.is_half)

    pub split_put : (result : Result PageBytes SpaceFault)
        → SplitsIn old.geometry.size second last split.halves above e result
        → MakesRoomIn old.geometry (viewed old image start) (viewed old image last) start last owner root
        levels level e result
    split_put (Ok half) is = done_ half is
    split_put (Err (Full limit)) none = absurd none
    split_put (Err (OfPage damage)) has = absurd (place_is_free old.geometry lawful owner root level levels
        (viewed old image start) (viewed old image first) late first second full e split.halves above stands
        place below takes.0.takes halves_are roomy made has.0)
    split_put (Err (OfPool fault)) is = tt

-- the page above does not take the right half
pub named_err : (size : ℕ) (old new : Changed) (halves : Halves) (above : PageBytes) (e : Entry)
    (fault : SpaceFault) (result : Result PageBytes SpaceFault) → IsErrAnd result (λ f. f ≡ fault)
    → RefusesName above.page above.bytes halves.fence fault → SplitsIn size old new halves above e result
named_err size old new halves above e fault (Ok half) none refused = absurd none
named_err size old new halves above e fault (Err f) same refused =
    subst (RefusesName above.page above.bytes halves.fence) (sym same) refused
