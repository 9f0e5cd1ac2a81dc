-- The root splits: the tree goes through a row of steps, and has a level more.
use Rattle.std.proofs.Common.{◌≡◌, ◌≢◌, ◌⊎◌, inl, inr, ◌∙◌, ap, refl, sym, subst, ◌<◌, ◌≤◌, ◌+◌, length, ℕ, true, false, List, [], ◌∷◌, ◌++◌, None, arith}
use Rattle.std.specs.Prelude.{IfSome}
use Rattle.mg_base.specs.Checks.{PassesAll}
use Rattle.mg_base.specs.declared.geometry.Geometry.{Geometry}
use Rattle.mg_base.specs.declared.numbers.PageNo.{PageNo}
use Rattle.mg_careful.specs.declared.graph.Order.{Order}
use Rattle.mg_node.specs.declared.entry.Entry.{Entry}
use Rattle.mg_node.specs.NodePage.{IsAtLeast, IsBelow, has_high, high_of, level_in, low_of, node_checks}
use Rattle.mg_image.specs.Form.{Pages}
use Rattle.mg_image.specs.Indexes.{IsTree}
use Rattle.mg_image.specs.Inventory.{is_used}
use Rattle.mg_node_writing.specs.NewNodes.{CopiesNode}
use Rattle.mg_pool.specs.Batch.{Changed, content_in, lists}
use Rattle.mg_space.specs.Taking.{IsGeometry, TakesPage}
use Rattle.mg_tree_overlay_laws.specs.TreeSteps.{InTree, grow_levels}
use Rattle.mg_tree_overlay_laws.specs.TreesBehind.{Covers}
use Rattle.mg_tree_overlay_laws.specs.TreeBatches.{ChangesTree, IsNoInventory, OrdersRoot, Stay, inventory_of}
use Rattle.mg_tree_overlay_laws.specs.GrowLaws.{chains_of}
use Rattle.mg_tree_overlay_laws.specs.GrowParts.{grow_wider, root_in}
use Rattle.mg_tree_overlay_laws.specs.PoolLaws.{pool_changed}
use Rattle.mg_tree_overlay_laws.specs.TreeHeightLaws.{root_level}
use Rattle.mg_btree.specs.PageCountLaws.{grow_count}
use Rattle.mg_btree.specs.declared.growing.Growth.{Growth}
use Rattle.mg_btree.specs.declared.halves.PageBytes.{PageBytes}
use Rattle.mg_btree.specs.Changing.{HasNoInventory}
use Rattle.mg_btree.specs.Growing.{IsGrowth}
use Rattle.mg_btree.specs.Halves.{HasRoom, IsPlaceFor, names_in}
use Rattle.mg_btree.specs.EachOrderLaws.{each_root}
use Rattle.mg_btree.specs.Ordering.{EachOrder, root_orders}
use Rattle.mg_btree.specs.RowOrders.{row_orders}
use Rattle.mg_btree.specs.RowOrderLaws.{RoomRow}
use Rattle.mg_btree.specs.ParentLaws.{one_in_tree}
use Rattle.mg_btree.specs.Rooms.{MakesRoom, StandsIn}
use Rattle.mg_btree.specs.SearchLaws.{in_node}
use Rattle.mg_btree.specs.SplitRows.{GrowsUnder, grows_row, with_here, with_other, with_page}
use Rattle.mg_btree.specs.SplitSteps.{IsGrownRoot}
use Rattle.mg_btree.specs.TakeLaws.{no_true, row_used, taken_below, taken_fresh, taken_here, taken_none, taken_room, taken_same, taken_tree, taken_used, unused_before}

-- a root has no fences, so it covers each entry
pub root_covers : (size : ℕ) (pages : Pages) (owner root : ℕ) (levels : List (List ℕ)) (e : Entry)
    → IsTree size pages owner root levels → Covers pages root e
root_covers size pages owner root levels e tree =
    let node = (in_node size pages owner levels root tree.nodes
    (root_in size pages owner root levels tree.rooted tree)).1 in
    let bare : has_high (pages root) ≡ false = node.high ∙ rw tree.root_right refl in
    (rw tree.root_low tt, rw bare tt)

-- and is the only page of its level
pub top_is_root : (size : ℕ) (pages : Pages) (owner root : ℕ) (levels : List (List ℕ)) (e : Entry) (n : ℕ)
    → IsTree size pages owner root levels → InTree levels n → level_in (pages n) ≡ level_in (pages root)
    → Covers pages n e → n ≡ root
top_is_root size pages owner root levels e n tree placed level covers =
    one_in_tree size pages owner e levels n root (chains_of pages root levels tree.levels_from) tree.nodes
    placed (root_in size pages owner root levels tree.rooted tree) level covers
    (root_covers size pages owner root levels e tree)

pub grown_back : (root a b : ℕ) (levels : List (List ℕ)) (n : ℕ) → InTree (grow_levels root a b levels) n
    → (n ≡ root) ⊎ ((n ≡ a) ⊎ ((n ≡ b) ⊎ InTree levels n))
grown_back root a b [] n has = absurd has
grown_back root a b (top ∷ below) n (inl (inl same)) = inl same
grown_back root a b (top ∷ below) n (inl (inr none)) = absurd none
grown_back root a b (top ∷ below) n (inr (inl (inr (inr none)))) = absurd none
grown_back root a b (top ∷ below) n (inr (inl (inl same))) = inr (inl same)
grown_back root a b (top ∷ below) n (inr (inl (inr (inl same)))) = inr (inr (inl same))
grown_back root a b (top ∷ below) n (inr (inr later)) = inr (inr (inr (inr later)))

pub grown_there : (root a b : ℕ) (levels : List (List ℕ)) (n : ℕ) → InTree levels n
    → InTree (grow_levels root a b levels) a × InTree (grow_levels root a b levels) b
grown_there root a b [] n has = absurd has
grown_there root a b (top ∷ below) n has = (inr (inl (inl refl)), inr (inl (inr (inl refl))))

module _ (g : Geometry) (lawful : IsGeometry g) (owner root level a b : ℕ) (levels : List (List ℕ))
    (old mid late : Pages) (full : PageBytes) (e : Entry) (growth : Growth)
    (stands : StandsIn g.size old owner root levels full)
    (place : IsPlaceFor g.size owner level e full)
    (top : level ≡ level_in (old root)) (below_highest : level < 65535)
    (takes_a : TakesPage g old mid a) (takes_b : TakesPage g mid late b)
    (is : IsGrowth owner full.page.0 level a b full.bytes growth)
  where
    pub root_is : full.page.0 ≡ root
    root_is = top_is_root g.size old owner root levels e full.page.0 stands.tree stands.placed
        (ap level_in (sym stands.bytes) ∙ (place.on_level ∙ top))
        (subst (λ (p : List ℕ). IfSome (low_of p) (λ f. IsAtLeast e f)
        × IfSome (high_of p) (λ f. IsBelow e f)) stands.bytes place.covers)

    old_root : old root ≡ full.bytes
    old_root = ap old (sym root_is) ∙ sym stands.bytes

    placed : InTree levels root
    placed = root_in g.size old owner root levels stands.tree.rooted stands.tree

    none_root : IsNoInventory g.size root
    none_root = stands.no_inventory root placed

    mid_tree : IsTree g.size mid owner root levels
    mid_tree = taken_tree g lawful owner root levels stands.no_inventory old mid a takes_a stands.tree

    late_tree : IsTree g.size late owner root levels
    late_tree = taken_tree g lawful owner root levels stands.no_inventory mid late b takes_b mid_tree

    late_same : (m : ℕ) → InTree levels m → late m ≡ old m
    late_same m has = taken_same g lawful owner root levels stands.no_inventory mid late b takes_b mid_tree m
        (stands.no_inventory m has)
        ∙ taken_same g lawful owner root levels stands.no_inventory old mid a takes_a stands.tree m
        (stands.no_inventory m has)

    late_root : late root ≡ full.bytes
    late_root = late_same root placed ∙ old_root

    fresh_a : InTree levels a → ⊥
    fresh_a = taken_fresh g lawful owner root levels stands.no_inventory old mid a takes_a stands.tree

    fresh_b : InTree levels b → ⊥
    fresh_b = taken_fresh g lawful owner root levels stands.no_inventory mid late b takes_b mid_tree

    used_a : is_used g.size mid a ≡ true
    used_a = taken_here g lawful owner root levels stands.no_inventory old mid a takes_a stands.tree

    apart_ab : a ≢ b
    apart_ab same = no_true (is_used g.size mid b) takes_b.free.unused
        (subst (λ (k : ℕ). is_used g.size mid k ≡ true) same used_a)

    apart_a : a ≢ root
    apart_a same = fresh_a (subst (InTree levels) (sym same) placed)

    apart_b : b ≢ root
    apart_b same = fresh_b (subst (InTree levels) (sym same) placed)

    node_fields : PassesAll (node_checks (late root) root owner)
    node_fields = (in_node g.size late owner levels root late_tree.nodes placed).1.wanted.fields

    grown_is : IsGrownRoot owner root (level_in (late root)) a b is.halves.pair.splits.given growth.root.bytes
    grown_is = subst (λ (k : ℕ). IsGrownRoot owner root k a b is.halves.pair.splits.given growth.root.bytes)
        (top ∙ ap level_in (sym (late_same root placed)))
        (subst (λ (k : ℕ). IsGrownRoot owner k level a b is.halves.pair.splits.given growth.root.bytes)
        root_is is.grown)

    grows_under : GrowsUnder g.size late owner root levels a b is.copy growth.halves.left.bytes
        growth.halves.right.bytes growth.root.bytes
    grows_under = record {
      tree = late_tree;
      fresh = (fresh_a, fresh_b);
      apart = apart_ab;
      some = (takes_a.free.no_header, takes_b.free.no_header);
      limit = (
        taken_below g lawful owner root levels stands.no_inventory old mid a takes_a stands.tree,
        taken_below g lawful owner root levels stands.no_inventory mid late b takes_b mid_tree,
      );
      used = (
        taken_used g lawful owner root levels stands.no_inventory mid late b takes_b mid_tree a used_a,
        taken_here g lawful owner root levels stands.no_inventory mid late b takes_b mid_tree,
      );
      no_inventory = (
        none_root,
        taken_none g lawful owner root levels stands.no_inventory old mid a takes_a stands.tree,
        taken_none g lawful owner root levels stands.no_inventory mid late b takes_b mid_tree,
      );
      fields = node_fields;
      copies = subst (λ (p : List ℕ). CopiesNode p is.copy a) (sym late_root) is.copies;
      halves = is.halves.pair.splits;
      lawful = (is.halves.pair.left_lawful, is.halves.pair.right_lawful);
      two = (is.halves.pair.left_two, is.halves.pair.right_two);
      len = (
        is.halves.pair.splits.left_size ∙ (is.copies.size ∙ place.len),
        is.halves.pair.splits.right_size ∙ (is.copies.size ∙ place.len),
        is.len ∙ place.len,
      );
      below_highest = subst (λ (k : ℕ). k < 65535) (top ∙ ap level_in (sym (late_same root placed))) below_highest;
      new_root = grown_is;
    }

    module _ (new : Pages)
        (laid : new ≡ with_page (with_page (with_page late a growth.halves.left.bytes) b
        growth.halves.right.bytes) root growth.root.bytes)
        (before batch : Changed) (few : length batch.pages ≤ length before.pages + 5)
        (adds : batch.orders ≡ before.orders ++ root_orders g.size growth.names.items
        growth.halves.names.items root a b) (no_room : HasRoom full.bytes e → ⊥)
        (bit_a : content_in batch.pages (inventory_of g.size a) ≢ None)
        (bit_b : content_in batch.pages (inventory_of g.size b) ≢ None)
        (put_a : content_in batch.pages a ≢ None) (put_b : content_in batch.pages b ≢ None)
        (order : OrdersRoot g.size (content_in batch.pages) (lists batch.orders) root a b) where
      abbrev ends : List (List ℕ)
      ends = grow_levels root a b levels

      abbrev own_orders : List Order
      own_orders = root_orders g.size (names_in growth.halves.left.bytes)
          (names_in growth.halves.right.bytes) root a b

      placed_two : InTree ends a × InTree ends b
      placed_two = grown_there root a b levels root placed

      steps : RoomRow g owner root (content_in batch.pages) (lists batch.orders) Stay old levels
          new ends e e own_orders [] ends
      steps = taken_room g lawful owner root levels stands.no_inventory old mid a takes_a stands.tree
          (content_in batch.pages) (lists batch.orders) Stay new ends e e own_orders [] ends bit_a placed_two.0
          (taken_room g lawful owner root levels stands.no_inventory mid late b takes_b mid_tree
          (content_in batch.pages) (lists batch.orders) Stay new ends e e own_orders (a ∷ []) ends bit_b
          placed_two.1 (subst (λ (pages : Pages). RoomRow g owner root (content_in batch.pages)
          (lists batch.orders) Stay late levels pages ends e e own_orders (b ∷ a ∷ []) ends) (sym laid)
          (grows_row g owner root (content_in batch.pages) (lists batch.orders) Stay late levels a b
          is.copy growth.halves.left.bytes growth.halves.right.bytes growth.root.bytes e (b ∷ a ∷ []) ends
          grows_under order put_a put_b (inr (inl refl)) (inl refl) (λ room. no_room (subst (λ (p : List ℕ). HasRoom p e) late_root room)))))

      abbrev row : ChangesTree g.size owner root (content_in batch.pages) (lists batch.orders) Stay old
          levels new ends
      row = steps.row

      all_orders : batch.orders ≡ before.orders ++ row_orders g.size owner root (content_in batch.pages)
          (lists batch.orders) Stay old new levels ends row
      all_orders = adds ∙ ap (λ (os : List Order). before.orders ++ os)
          (ap (λ (ns : List PageNo). root_orders g.size ns growth.halves.names.items root a b) is.names
          ∙ (ap (λ (ns : List PageNo). root_orders g.size (names_in growth.halves.left.bytes) ns root a b)
          is.halves.names ∙ sym steps.adds))

      held : EachOrder (λ x y. content_in batch.pages y ≢ None) (row_orders g.size owner root
          (content_in batch.pages) (lists batch.orders) Stay old new levels ends row)
      held = subst (EachOrder (λ x y. content_in batch.pages y ≢ None)) (sym steps.adds)
          (each_root (λ x y. content_in batch.pages y ≢ None) g.size (names_in growth.halves.left.bytes)
          (names_in growth.halves.right.bytes) root a b (λ m. put_b) (λ n has. put_b) (λ m. put_a)
          (λ n has. put_a) (λ m. order.has_root) order.has_root order.has_root)

      new_a : new a ≡ growth.halves.left.bytes
      new_a = ap (λ (pages : Pages). pages a) laid
          ∙ (with_other (with_page (with_page late a growth.halves.left.bytes) b growth.halves.right.bytes)
          root growth.root.bytes a apart_a
          ∙ (with_other (with_page late a growth.halves.left.bytes) b growth.halves.right.bytes a apart_ab
          ∙ with_here late a growth.halves.left.bytes))

      new_b : new b ≡ growth.halves.right.bytes
      new_b = ap (λ (pages : Pages). pages b) laid
          ∙ (with_other (with_page (with_page late a growth.halves.left.bytes) b growth.halves.right.bytes)
          root growth.root.bytes b apart_b
          ∙ with_here (with_page late a growth.halves.left.bytes) b growth.halves.right.bytes)

      stays : (n : ℕ) → InTree levels n → level_in (old n) < level → new n ≡ old n
      stays n has low = ap (λ (pages : Pages). pages n) laid
          ∙ (with_other (with_page (with_page late a growth.halves.left.bytes) b growth.halves.right.bytes)
          root growth.root.bytes n (λ same. let at : level_in (old n) ≡ level_in (old root) =
          ap (λ (k : ℕ). level_in (old k)) same in omega (arith, at, top, low))
          ∙ (with_other (with_page late a growth.halves.left.bytes) b growth.halves.right.bytes n
          (λ same. fresh_b (subst (InTree levels) same has))
          ∙ (with_other late a growth.halves.left.bytes n (λ same. fresh_a (subst (InTree levels) same has))
          ∙ late_same n has)))

      fresh : (n : ℕ) → InTree ends n → InTree levels n ⊎ (is_used g.size old n ≡ false)
      fresh n has = at (grown_back root a b levels n has)
        where
          at : (n ≡ root) ⊎ ((n ≡ a) ⊎ ((n ≡ b) ⊎ InTree levels n))
              → InTree levels n ⊎ (is_used g.size old n ≡ false)
          at (inl same) = inl (subst (InTree levels) (sym same) placed)
          at (inr (inl same)) = inr (subst (λ (k : ℕ). is_used g.size old k ≡ false) (sym same)
              takes_a.free.unused)
          at (inr (inr (inl same))) = inr (unused_before g.size old mid n
              (taken_used g lawful owner root levels stands.no_inventory old mid a takes_a stands.tree)
              (subst (λ (k : ℕ). is_used g.size mid k ≡ false) (sym same) takes_b.free.unused))
          at (inr (inr (inr there))) = inl there

      others : (n : ℕ) → (InTree ends n → ⊥) → IsNoInventory g.size n → new n ≡ old n
      others n out none =
          let there = grown_there root a b levels root placed in
          let in_ends = grow_wider g.size old owner root a b levels root stands.tree placed in
          ap (λ (pages : Pages). pages n) laid
          ∙ (with_other (with_page (with_page late a growth.halves.left.bytes) b growth.halves.right.bytes)
          root growth.root.bytes n (λ same. out (subst (InTree ends) (sym same) in_ends))
          ∙ (with_other (with_page late a growth.halves.left.bytes) b growth.halves.right.bytes n
          (λ same. out (subst (InTree ends) (sym same) there.1))
          ∙ (with_other late a growth.halves.left.bytes n
          (λ same. out (subst (InTree ends) (sym same) there.0))
          ∙ (taken_same g lawful owner root levels stands.no_inventory mid late b takes_b mid_tree n none
          ∙ taken_same g lawful owner root levels stands.no_inventory old mid a takes_a stands.tree n none))))

      no_inventory : HasNoInventory g.size ends
      no_inventory n has = at (grown_back root a b levels n has)
        where
          at : (n ≡ root) ⊎ ((n ≡ a) ⊎ ((n ≡ b) ⊎ InTree levels n)) → IsNoInventory g.size n
          at (inl same) = subst (IsNoInventory g.size) (sym same) none_root
          at (inr (inl same)) = subst (IsNoInventory g.size) (sym same)
              (taken_none g lawful owner root levels stands.no_inventory old mid a takes_a stands.tree)
          at (inr (inr (inl same))) = subst (IsNoInventory g.size) (sym same)
              (taken_none g lawful owner root levels stands.no_inventory mid late b takes_b mid_tree)
          at (inr (inr (inr there))) = stands.no_inventory n there

      half_is : (half : PageBytes) → (half ≡ growth.halves.left) ⊎ (half ≡ growth.halves.right)
          → (half.bytes ≡ new half.page.0) × InTree ends half.page.0
      half_is half (inl same) = subst (λ (h : PageBytes). (h.bytes ≡ new h.page.0) × InTree ends h.page.0)
          (sym same) (
            sym (ap new is.halves.left_own ∙ new_a),
            subst (InTree ends) (sym is.halves.left_own) (grown_there root a b levels root placed).0,
          )
      half_is half (inr same) = subst (λ (h : PageBytes). (h.bytes ≡ new h.page.0) × InTree ends h.page.0)
          (sym same) (
            sym (ap new is.halves.right_own ∙ new_b),
            subst (InTree ends) (sym is.halves.right_own) (grown_there root a b levels root placed).1,
          )

      pub grow_makes : (half : PageBytes) → (half ≡ growth.halves.left) ⊎ (half ≡ growth.halves.right)
          → MakesRoom g old new before batch owner root levels level e half
      grow_makes half which = record {
        ends = ends;
        row = row;
        adds = all_orders;
        held = held;
        full = steps.full;
        takes = steps.takes;
        stands = record {
          tree = (pool_changed g.size owner root (content_in batch.pages) (lists batch.orders) Stay old new
              levels ends row stands.tree).tree;
          no_inventory = no_inventory;
          bytes = (half_is half which).0;
          placed = (half_is half which).1;
        };
        wider = λ n has. grow_wider g.size old owner root a b levels n stands.tree has;
        used = row_used g.size owner root (content_in batch.pages) (lists batch.orders) Stay old new levels
            ends row;
        fresh = fresh;
        others = others;
        few = omega (arith, few);
        more_pages =
            let two = grow_count root a b levels (root_level old root levels stands.tree.rooted stands.tree.levels_from) in
            omega (arith, two);
        stays = stays;
      }
