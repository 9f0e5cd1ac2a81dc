-- The exits of the call that splits a root.
use Rattle.std.proofs.Common.{◌≡◌, ◌≢◌, inr, ◌∙◌, ◌++◌, ◌<◌, refl, sym, subst, ℕ, List, None, Result, Ok, Err, arith}
use Rattle.std.specs.Prelude.{IsErrAnd}
use Rattle.mg_base.specs.Image.{Image}
use Rattle.mg_base.specs.declared.damage.Damaged.{Damaged}
use Rattle.mg_base.specs.declared.geometry.Geometry.{Geometry}
use Rattle.mg_node.specs.declared.entry.Entry.{Entry}
use Rattle.mg_node.specs.NodePage.{level_in}
use Rattle.mg_image.specs.Form.{Pages}
use Rattle.mg_pool.specs.Batch.{Changed, content_in, lists}
use Rattle.mg_pool.specs.declared.batch.BatchPage.{BatchPage}
use Rattle.mg_pool.specs.declared.pool.Pool.{Pool}
use Rattle.mg_space.specs.Taking.{IsGeometry}
use Rattle.mg_space.specs.View.{viewed}
use Rattle.mg_space.specs.declared.fault.SpaceFault.{SpaceFault}
use Rattle.mg_space.specs.declared.fault.SpaceFault.TheVariants.{Damaged as OfPage}
use Rattle.mg_tree_overlay_laws.specs.TreeBatches.{OrdersRoot, inventory_of}
use Rattle.mg_btree.specs.declared.growing.TwoPages.{TwoPages}
use Rattle.mg_btree.specs.declared.halves.PageBytes.{PageBytes}
use Rattle.mg_btree.specs.Growing.{TakesTwo}
use Rattle.mg_btree.specs.GrowingLaws.{grow_makes, root_is}
use Rattle.mg_btree.specs.Halves.{HasRoom, IsPlaceFor}
use Rattle.mg_btree.specs.Making.{SplitsRoot}
use Rattle.mg_btree.specs.MakingLaws.{either_half, viewed_same_pages}
use Rattle.mg_btree.specs.OrderLaws.{added_after, first_there, root_ordered, second_there, third_there, three_few, three_laid, three_orders}
use Rattle.mg_btree.specs.Ordering.{Widens, root_orders}
use Rattle.mg_btree.specs.RefusalLaws.{err_room, room_refused}
use Rattle.mg_btree.specs.Rooms.{MakesRoom, MakesRoomIn, RefusesAfter, StandsIn, TakesAlone, too_high}
use Rattle.mg_btree.specs.SplitRows.{with_page}

-- the root stands on the highest level
pub high_refused : (g : Geometry) (was last : Pages) (before batch : Changed) (owner root level : ℕ)
    (levels : List (List ℕ)) (e : Entry) (damage : Damaged) (result : Result PageBytes SpaceFault)
    → level ≡ level_in (was root) → level ≡ 65535 → damage ≡ too_high root
    → result ≡ Err (OfPage damage)
    → MakesRoomIn g was last before batch owner root levels level e result
high_refused g was last before batch owner root level levels e damage result top high named is =
    rw is (inr (sym top ∙ high, named))

-- one of two pages was not taken
pub two_refused : (g : Geometry) (was last : Pages) (before batch : Changed) (owner root level : ℕ)
    (levels : List (List ℕ)) (e : Entry) (fault : SpaceFault) (result : Result PageBytes SpaceFault)
    → level ≡ level_in (was root) → RefusesAfter g was 1 fault → IsErrAnd result (λ f. f ≡ fault)
    → MakesRoomIn g was last before batch owner root levels level e result
two_refused g was last before batch owner root level levels e fault result top refused is =
    err_room g was last before batch owner root levels level e fault result is
    (room_refused g was root level fault
    (subst (λ (k : ℕ). RefusesAfter g was k fault) (omega (arith, top)) refused))

same_three : (late : Pages) (a x b y c z : ℕ) (of_a of_b of_c : List ℕ) → a ≡ x → b ≡ y → c ≡ z
    → with_page (with_page (with_page late a of_a) b of_b) c of_c
    ≡ with_page (with_page (with_page late x of_a) y of_b) z of_c
same_three late a x b y c z of_a of_b of_c is_x is_y is_z = rw (is_x, is_y, is_z) refl

-- the root was split
pub root_put : {D L : Type 0} (old : Pool D L) (image : Image) → IsGeometry old.geometry
    → (start first last : Changed) (owner root level : ℕ) (levels : List (List ℕ)) (full : PageBytes)
    (two : TwoPages) (e : Entry) (half : PageBytes)
    → StandsIn old.geometry.size (viewed old image start) owner root levels full
    → IsPlaceFor old.geometry.size owner level e full → level ≡ level_in (viewed old image start root)
    → level < 65535
    → TakesTwo old.geometry (viewed old image start) (viewed old image first) first (Ok two)
    → TakesAlone 2 start first → (HasRoom full.bytes e → ⊥) → Widens old.geometry.size first last
    → SplitsRoot old.geometry.size first last owner level full two e half
    → MakesRoom old.geometry (viewed old image start) (viewed old image last) start last owner root
    levels level e half
root_put old image lawful start first last owner root level levels full two e half stands place top
    below_highest takes kept no_room widens is =
    grow_makes old.geometry lawful owner root level two.first.0 two.second.0 levels (viewed old image start)
    takes.0 (viewed old image first) full e is.growth stands place top below_highest takes.1.takes
    takes.2.takes is.is (viewed old image last)
    (viewed_same_pages old image is.puts.put last is.puts.orders.same_pages
    ∙ (three_laid first is.puts.put is.growth.halves.left.page.0 is.growth.halves.right.page.0
    is.growth.root.page.0 is.growth.halves.left.bytes is.growth.halves.right.bytes is.growth.root.bytes
    is.puts.puts old image
    ∙ same_three (viewed old image first) is.growth.halves.left.page.0 two.first.0
    is.growth.halves.right.page.0 two.second.0 is.growth.root.page.0 root is.growth.halves.left.bytes
    is.growth.halves.right.bytes is.growth.root.bytes is.is.halves.left_own is.is.halves.right_own own))
    start last
    (let two_few = kept.few in
    let put_few = three_few first is.puts.put is.growth.halves.left.page.0
    is.growth.halves.right.page.0 is.growth.root.page.0 is.growth.halves.left.bytes
    is.growth.halves.right.bytes is.growth.root.bytes is.puts.puts last is.puts.orders.same_pages in
    omega (arith, two_few, put_few))
    (subst (λ (n : ℕ). last.orders ≡ start.orders ++ root_orders old.geometry.size
    is.growth.names.items is.growth.halves.names.items n two.first.0 two.second.0) own
    (subst (λ (n : ℕ). last.orders ≡ start.orders ++ root_orders old.geometry.size is.growth.names.items
    is.growth.halves.names.items is.growth.root.page.0 n two.second.0) is.is.halves.left_own
    (subst (λ (n : ℕ). last.orders ≡ start.orders ++ root_orders old.geometry.size is.growth.names.items
    is.growth.halves.names.items is.growth.root.page.0 is.growth.halves.left.page.0 n)
    is.is.halves.right_own (added_after start first is.puts.put last
    (root_orders old.geometry.size is.growth.names.items is.growth.halves.names.items
    is.growth.root.page.0 is.growth.halves.left.page.0 is.growth.halves.right.page.0) kept.orders
    (three_orders first is.puts.put is.growth.halves.left.page.0 is.growth.halves.right.page.0
    is.growth.root.page.0 is.growth.halves.left.bytes is.growth.halves.right.bytes is.growth.root.bytes
    is.puts.puts) is.puts.orders.added))))
    no_room
    (widens.has (inventory_of old.geometry.size two.first.0) takes.1.put)
    (widens.has (inventory_of old.geometry.size two.second.0) takes.2.put)
    (there two.first.0 is.growth.halves.left.page.0 is.is.halves.left_own
    (first_there first is.puts.put is.growth.halves.left.page.0 is.growth.halves.right.page.0
    is.growth.root.page.0 is.growth.halves.left.bytes is.growth.halves.right.bytes is.growth.root.bytes
    is.puts.puts))
    (there two.second.0 is.growth.halves.right.page.0 is.is.halves.right_own
    (second_there first is.puts.put is.growth.halves.left.page.0 is.growth.halves.right.page.0
    is.growth.root.page.0 is.growth.halves.left.bytes is.growth.halves.right.bytes is.growth.root.bytes
    is.puts.puts))
    (subst (λ (k : ℕ). OrdersRoot old.geometry.size (content_in last.pages) (lists last.orders) root k
    two.second.0) is.is.halves.left_own
    (subst (λ (k : ℕ). OrdersRoot old.geometry.size (content_in last.pages) (lists last.orders) root
    is.growth.halves.left.page.0 k) is.is.halves.right_own
    (subst (λ (k : ℕ). OrdersRoot old.geometry.size (content_in last.pages) (lists last.orders) k
    is.growth.halves.left.page.0 is.growth.halves.right.page.0) own
    (root_ordered old.geometry.size is.puts.put last is.growth.names.items is.growth.halves.names.items
    is.growth.root.page.0 is.growth.halves.left.page.0 is.growth.halves.right.page.0 is.puts.orders
    (third_there first is.puts.put is.growth.halves.left.page.0 is.growth.halves.right.page.0
    is.growth.root.page.0 is.growth.halves.left.bytes is.growth.halves.right.bytes is.growth.root.bytes
    is.puts.puts)))))
    half (either_half is.growth.halves e half is.is_half)
  where
    own : is.growth.root.page.0 ≡ root
    own = is.is.own ∙ root_is old.geometry lawful owner root level two.first.0 two.second.0 levels
        (viewed old image start) takes.0 (viewed old image first) full e is.growth stands place top
        below_highest takes.1.takes takes.2.takes is.is

    there : (n m : ℕ) → m ≡ n → content_in is.puts.put.pages m ≢ None → content_in last.pages n ≢ None
    there n m same some = subst (λ (k : ℕ). content_in last.pages k ≢ None) same
        (subst (λ (pages : List BatchPage). content_in pages m ≢ None) (sym is.puts.orders.same_pages) some)
