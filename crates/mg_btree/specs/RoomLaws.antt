-- Room is made on a page by a split under the page above: the tree goes through a row of steps.
use Rattle.std.proofs.Common.{◌≡◌, ◌≢◌, ◌⊎◌, inl, inr, ◌∙◌, ap, refl, sym, subst, ◌<◌, ◌≤◌, ◌+◌, ◌*◌, ◌-◌, length, ℕ, suc, true, false, List, [], ◌∷◌, ◌++◌, Some, None, arith}
use Rattle.std.specs.Prelude.{IfSome}
use Rattle.mg_base.specs.Checks.{PassesAll}
use Rattle.mg_base.specs.declared.geometry.Geometry.{Geometry}
use Rattle.mg_base.specs.declared.numbers.PageNo.{PageNo}
use Rattle.mg_careful.specs.declared.graph.Order.{Order}
use Rattle.mg_node.specs.declared.entry.Entry.{Entry}
use Rattle.mg_node.specs.NodePage.{AreAscending, IsAtLeast, IsBelow, entries_of, high_of, level_in, low_of, node_checks}
use Rattle.mg_image.specs.Form.{Pages}
use Rattle.mg_image.specs.Indexes.{HasEntry, as_fence}
use Rattle.mg_image.specs.Inventory.{is_used}
use Rattle.mg_node_writing.specs.ChangePromises.{InsertsBehindFirst}
use Rattle.mg_node_writing.specs.NodeChanges.{KeepsNode}
use Rattle.mg_node_writing.specs.Splits.{SplitsNode}
use Rattle.mg_pool.specs.Batch.{Changed, content_in, lists}
use Rattle.mg_space.specs.Taking.{IsGeometry, TakesPage}
use Rattle.mg_tree_overlay_laws.specs.TreeSteps.{InTree, split_levels}
use Rattle.mg_tree_overlay_laws.specs.TreesBehind.{Covers}
use Rattle.mg_tree_overlay_laws.specs.TreeBatches.{ChangesTree, IsNoInventory, OrdersSplit, Stay, done, inventory_of}
use Rattle.mg_tree_overlay_laws.specs.GrowParts.{root_in}
use Rattle.mg_tree_overlay_laws.specs.SplitParts.{tree_back, tree_right, tree_wider}
use Rattle.mg_tree_overlay_laws.specs.DescentLaws.{ascends, covers_own, last_has}
use Rattle.mg_tree_overlay_laws.specs.PoolLaws.{pool_changed}
use Rattle.mg_tree_overlay_laws.specs.TreeOnceLaws.{tree_once}
use Rattle.mg_tree_overlay_laws.specs.TreePages.{all_of}
use Rattle.mg_btree.specs.PageCountLaws.{split_count}
use Rattle.mg_btree.specs.declared.halves.Halves.{Halves}
use Rattle.mg_btree.specs.declared.halves.PageBytes.{PageBytes}
use Rattle.mg_btree.specs.Changing.{HasNoInventory}
use Rattle.mg_btree.specs.Halves.{AreHalves, HasPlace, HasRoom, IsPlaceFor, IsRoomy, NamesMore, names_in}
use Rattle.mg_btree.specs.EachOrderLaws.{each_append, each_more, each_none, each_split}
use Rattle.mg_btree.specs.Ordering.{EachOrder, Widens, split_orders}
use Rattle.mg_btree.specs.ParentLaws.{none_of_place}
use Rattle.mg_btree.specs.Rooms.{MakesRoom, StandsIn, TakesAlone}
use Rattle.mg_btree.specs.RowOrders.{row_next, row_orders}
use Rattle.mg_btree.specs.RowOrderLaws.{RoomRow, append_room, ended, joined, takes_more}
use Rattle.mg_btree.specs.RowTakings.{TakesItsPages}
use Rattle.mg_btree.specs.SearchLaws.{in_node}
use Rattle.mg_btree.specs.SplitRows.{SplitsUnder, splits_row, with_here, with_other, with_page}
use Rattle.mg_btree.specs.TakeLaws.{no_true, row_used, taken_below, taken_fresh, taken_here, taken_none, taken_room, taken_same, taken_used, unused_before}

-- a page that has room already
pub makes_nothing : (g : Geometry) (old : Pages) (batch : Changed) (owner root : ℕ)
    (levels : List (List ℕ)) (level : ℕ) (e : Entry) (page : PageBytes)
    → StandsIn g.size old owner root levels page
    → MakesRoom g old old batch batch owner root levels level e page
makes_nothing g old batch owner root levels level e page stands = record {
  ends = levels;
  row = done old levels;
  adds = sym (ended batch.orders);
  held = each_none (λ a b. content_in batch.pages b ≢ None);
  full = tt;
  takes = tt;
  stands = stands;
  wider = λ n placed. placed;
  used = λ m is. is;
  fresh = λ n placed. inl placed;
  others = λ n out none. refl;
  few = omega arith;
  more_pages = omega arith;
  stays = λ n placed low. refl;
}

-- what an entry lies between, one with its key and record does
pub covers_as : (pages : Pages) (n : ℕ) (e f : Entry) → as_fence e ≡ as_fence f → Covers pages n f
    → Covers pages n e
covers_as pages n e f same covers = subst (λ (x : Entry). Covers pages n x) (sym same) covers

-- the fence of a right half is the first entry that it was given
pub fence_by : (old left right : List ℕ) (at : ℕ) (fence : Entry) → low_of right ≡ Some (as_fence fence)
    → (splits : SplitsNode old left right at) → as_fence fence ≡ as_fence splits.given
fence_by old left right at fence low splits =
    let both : Some (as_fence fence) ≡ Some (as_fence splits.given) = sym low ∙ splits.fence in cc

module _ (g : Geometry) (lawful : IsGeometry g) (owner root level : ℕ) (levels : List (List ℕ))
    (old mid late : Pages) (first_batch mid_batch : Changed) (full : PageBytes) (e : Entry) (halves : Halves)
    (above : PageBytes)
    (stands : StandsIn g.size old owner root levels full)
    (place : IsPlaceFor g.size owner level e full)
    (lower : level < level_in (old root))
    (takes : TakesPage g old mid halves.right.page.0)
    (is : AreHalves full.bytes full.page.0 halves.right.page.0 halves)
    (roomy : IsRoomy g.size owner (suc level) halves.fence above)
    (made : MakesRoom g mid late first_batch mid_batch owner root levels (suc level) halves.fence above)
  where
    abbrev l : ℕ
    l = full.page.0

    abbrev r : ℕ
    r = halves.right.page.0

    abbrev p : ℕ
    p = above.page.0

    abbrev s : SplitsNode full.bytes halves.left.bytes halves.right.bytes halves.right.page.0
    s = is.pair.splits

    old_l : old full.page.0 ≡ full.bytes
    old_l = sym stands.bytes

    old_level : level_in (old full.page.0) ≡ level
    old_level = ap level_in old_l ∙ place.on_level

    none_l : IsNoInventory g.size full.page.0
    none_l = stands.no_inventory full.page.0 stands.placed

    mid_same : (m : ℕ) → InTree levels m → mid m ≡ old m
    mid_same m placed = taken_same g lawful owner root levels stands.no_inventory old mid
        halves.right.page.0 takes stands.tree m (stands.no_inventory m placed)

    late_l : late full.page.0 ≡ full.bytes
    late_l =
        let low : level_in (mid full.page.0) ≡ level = ap level_in (mid_same full.page.0 stands.placed) ∙ old_level in
        made.stays full.page.0 stands.placed (omega (arith, low))
        ∙ (mid_same full.page.0 stands.placed ∙ old_l)

    late_p : late above.page.0 ≡ above.bytes
    late_p = sym made.stands.bytes

    placed_l : InTree made.ends full.page.0
    placed_l = made.wider full.page.0 stands.placed

    level_p : level_in (late above.page.0) ≡ suc (level_in (late full.page.0))
    level_p = ap level_in late_p ∙ (roomy.place.on_level ∙ ap suc (sym (ap level_in late_l ∙ place.on_level)))

    root_apart : root ≢ full.page.0
    root_apart same =
        let up : level_in (old root) ≡ level_in (old full.page.0) = ap (λ (k : ℕ). level_in (old k)) same in
        omega (arith, up, old_level, lower)

    fresh_r : InTree levels halves.right.page.0 → ⊥
    fresh_r = taken_fresh g lawful owner root levels stands.no_inventory old mid halves.right.page.0 takes
        stands.tree

    used_r : is_used g.size mid halves.right.page.0 ≡ true
    used_r = taken_here g lawful owner root levels stands.no_inventory old mid halves.right.page.0 takes
        stands.tree

    fresh_late : InTree made.ends halves.right.page.0 → ⊥
    fresh_late has = at (made.fresh halves.right.page.0 has)
      where
        at : InTree levels halves.right.page.0 ⊎ (is_used g.size mid halves.right.page.0 ≡ false) → ⊥
        at (inl placed) = fresh_r placed
        at (inr unused) = no_true (is_used g.size mid halves.right.page.0) unused used_r

    fence_is : as_fence halves.fence ≡ as_fence s.given
    fence_is = fence_by full.bytes halves.left.bytes halves.right.bytes halves.right.page.0 halves.fence
        is.fence is.pair.splits

    has_given : HasEntry (entries_of (late full.page.0)) s.given
    has_given = subst (λ (es : List Entry). HasEntry es s.given) (sym (ap entries_of late_l ∙ s.was))
        (last_has (s.first ∷ s.kept) s.rest s.given)

    has_first : HasEntry (entries_of (late full.page.0)) s.first
    has_first = subst (λ (es : List Entry). HasEntry es s.first) (sym (ap entries_of late_l ∙ s.was)) (inl refl)

    own : (f : Entry) → HasEntry (entries_of (late full.page.0)) f → Covers late full.page.0 f
    own f has =
        let node = in_node g.size late owner made.ends full.page.0 made.stands.tree.nodes placed_l in
        covers_own g.size late owner (level_in (late full.page.0)) node.0 full.page.0 f node.1 has

    covers_l : Covers late full.page.0 halves.fence
    covers_l = covers_as late full.page.0 halves.fence s.given fence_is (own s.given has_given)

    covers_p : Covers late above.page.0 halves.fence
    covers_p = subst (λ (b : List ℕ). IfSome (low_of b) (λ f. IsAtLeast halves.fence f)
        × IfSome (high_of b) (λ f. IsBelow halves.fence f)) made.stands.bytes roomy.place.covers

    first_below : IsBelow s.first halves.fence
    first_below = subst (λ (x : Entry). IsBelow s.first x) (sym fence_is)
        (ascends s.first (s.kept ++ s.given ∷ s.rest) s.given
        (subst AreAscending s.was place.lawful.ascending) (last_has s.kept s.rest s.given))

    -- so the page above has no entry of that place
    pub place_is_free : HasPlace (entries_of above.bytes) halves.fence → ⊥
    place_is_free has = none_of_place g.size owner root late made.ends halves.fence s.first above.page.0
        full.page.0 made.stands.tree made.stands.placed placed_l level_p covers_p covers_l
        (own s.first has_first).0 first_below
        (subst (λ (b : List ℕ). HasPlace (entries_of b) halves.fence) made.stands.bytes has)

    halves_late : SplitsNode (late full.page.0) halves.left.bytes halves.right.bytes halves.right.page.0
    halves_late = subst (λ (b : List ℕ). SplitsNode b halves.left.bytes halves.right.bytes halves.right.page.0)
        (sym late_l) is.pair.splits

    pub splits_under : (named : List ℕ) → NamesMore above.bytes named halves.fence
        → SplitsUnder g.size late owner root made.ends full.page.0 halves.right.page.0 above.page.0
        halves.left.bytes halves.right.bytes named halves.fence halves.fence
    splits_under named names = record {
      tree = made.stands.tree;
      placed = placed_l;
      above = made.stands.placed;
      level = level_p;
      below_root = root_apart;
      fresh = fresh_late;
      some = takes.free.no_header;
      limit = taken_below g lawful owner root levels stands.no_inventory old mid halves.right.page.0 takes
          stands.tree;
      used = made.used halves.right.page.0 used_r;
      no_inventory = (
        none_l,
        taken_none g lawful owner root levels stands.no_inventory old mid halves.right.page.0 takes
            stands.tree,
        made.stands.no_inventory above.page.0 made.stands.placed,
      );
      covers = (covers_p, covers_l);
      fields = (
        subst (λ (b : List ℕ). PassesAll (node_checks b full.page.0 owner)) (sym late_l) place.fields,
        subst (λ (b : List ℕ). PassesAll (node_checks b above.page.0 owner)) (sym late_p) roomy.place.fields,
      );
      halves = halves_late;
      lawful = (is.pair.left_lawful, is.pair.right_lawful, names.lawful);
      two = (is.pair.left_two, is.pair.right_two);
      len = (
        is.pair.splits.left_size ∙ place.len,
        is.pair.splits.right_size ∙ place.len,
        names.keeps.size ∙ roomy.place.len,
      );
      keeps = subst (λ (b : List ℕ). KeepsNode b named) (sym late_p) names.keeps;
      inserts = subst (λ (b : List ℕ). InsertsBehindFirst b named halves.fence) (sym late_p) names.inserts;
      child = is.child;
      fence = fence_by (late full.page.0) halves.left.bytes halves.right.bytes halves.right.page.0
          halves.fence is.fence halves_late;
    }

    -- and after the split the tree has a page more on the level
    module _ (named : List ℕ) (names : NamesMore above.bytes named halves.fence) (new : Pages)
        (laid : new ≡ with_page (with_page (with_page late halves.right.page.0 halves.right.bytes)
        full.page.0 halves.left.bytes) above.page.0 named)
        (before batch : Changed) (taken_alone : TakesAlone 1 before first_batch)
        (put_few : length batch.pages ≤ length mid_batch.pages + 3)
        (adds : batch.orders ≡ mid_batch.orders ++ split_orders g.size halves.names.items full.page.0
        halves.right.page.0 above.page.0) (no_room : HasRoom full.bytes e → ⊥)
        (widens : Widens g.size mid_batch batch)
        (bit : content_in batch.pages (inventory_of g.size halves.right.page.0) ≢ None)
        (right_put : content_in batch.pages halves.right.page.0 ≢ None)
        (order : OrdersSplit g.size (content_in batch.pages) (lists batch.orders) full.page.0
        halves.right.page.0 above.page.0) where
      abbrev ends : List (List ℕ)
      ends = split_levels full.page.0 halves.right.page.0 made.ends

      abbrev own_orders : List Order
      own_orders = split_orders g.size (names_in halves.right.bytes) full.page.0 halves.right.page.0
          above.page.0

      abbrev made_orders : List Order
      made_orders = row_orders g.size owner root (content_in mid_batch.pages) (lists mid_batch.orders)
          Stay mid late levels made.ends made.row

      row_late : RoomRow g owner root (content_in batch.pages) (lists batch.orders) Stay late
          made.ends new ends e halves.fence own_orders (halves.right.page.0 ∷ []) ends
      row_late = subst (λ (pages : Pages). RoomRow g owner root (content_in batch.pages)
          (lists batch.orders) Stay late made.ends pages ends e halves.fence own_orders
          (halves.right.page.0 ∷ []) ends) (sym laid)
          (splits_row g owner root (content_in batch.pages) (lists batch.orders) Stay late made.ends
          full.page.0 halves.right.page.0 above.page.0 halves.left.bytes halves.right.bytes named
          halves.fence halves.fence e (halves.right.page.0 ∷ []) ends (splits_under named names) order
          right_put (inl refl) (λ room. no_room (subst (λ (b : List ℕ). HasRoom b e) late_l room)))

      -- what the levels above took, as the whole row tells it
      taken_above : TakesItsPages g owner root (content_in mid_batch.pages) (lists mid_batch.orders) Stay mid
          late levels made.ends made.row (halves.right.page.0 ∷ []) ends
      taken_above = takes_more g owner root (content_in mid_batch.pages) (lists mid_batch.orders) Stay mid late
          levels made.ends made.row [] (halves.right.page.0 ∷ []) made.ends ends (λ n none. absurd none)
          (λ n has. tree_wider full.page.0 halves.right.page.0 made.ends n has) made.takes

      steps : RoomRow g owner root (content_in batch.pages) (lists batch.orders) Stay old levels
          new ends e (row_next g.size owner root (content_in mid_batch.pages) (lists mid_batch.orders) Stay
          mid late levels made.ends made.row halves.fence) (made_orders ++ own_orders) [] ends
      steps = taken_room g lawful owner root levels stands.no_inventory old mid halves.right.page.0 takes
          stands.tree (content_in batch.pages) (lists batch.orders) Stay new ends e
          (row_next g.size owner root (content_in mid_batch.pages) (lists mid_batch.orders) Stay mid late
          levels made.ends made.row halves.fence) (made_orders ++ own_orders) [] ends bit
          (tree_right full.page.0 halves.right.page.0 made.ends placed_l)
          (append_room g owner root (content_in mid_batch.pages) (content_in batch.pages)
          (lists mid_batch.orders) (lists batch.orders) Stay mid late new levels made.ends ends e
          halves.fence own_orders (halves.right.page.0 ∷ []) ends
          (record { has = widens.has; ordered = widens.ordered }) made.row made.full taken_above row_late)

      abbrev row : ChangesTree g.size owner root (content_in batch.pages) (lists batch.orders) Stay old
          levels new ends
      row = steps.row

      -- the orders of the levels above, and then those of this split
      all_orders : batch.orders ≡ before.orders ++ row_orders g.size owner root (content_in batch.pages)
          (lists batch.orders) Stay old new levels ends row
      all_orders = adds
          ∙ (ap (λ (os : List Order). os ++ split_orders g.size halves.names.items full.page.0
          halves.right.page.0 above.page.0) (made.adds ∙ ap (λ (os : List Order). os ++ made_orders) taken_alone.orders)
          ∙ (sym (joined before.orders made_orders (split_orders g.size halves.names.items full.page.0
          halves.right.page.0 above.page.0))
          ∙ ap (λ (os : List Order). before.orders ++ os)
          (ap (λ (ns : List PageNo). made_orders ++ split_orders g.size ns full.page.0 halves.right.page.0
          above.page.0) is.names ∙ sym steps.adds)))

      held : EachOrder (λ a b. content_in batch.pages b ≢ None) (row_orders g.size owner root
          (content_in batch.pages) (lists batch.orders) Stay old new levels ends row)
      held = subst (EachOrder (λ a b. content_in batch.pages b ≢ None)) (sym steps.adds)
          (each_append (λ a b. content_in batch.pages b ≢ None) made_orders own_orders
          (each_more (λ a b. content_in mid_batch.pages b ≢ None) (λ a b. content_in batch.pages b ≢ None)
          made_orders (λ a b some. widens.has b some) made.held)
          (each_split (λ a b. content_in batch.pages b ≢ None) g.size (names_in halves.right.bytes)
          full.page.0 halves.right.page.0 above.page.0 (λ m. right_put) (λ n has. right_put) order.has_left
          order.has_left order.has_parent order.has_parent order.has_parent))

      apart_rl : halves.right.page.0 ≢ full.page.0
      apart_rl same = fresh_late (subst (InTree made.ends) (sym same) placed_l)

      apart_pr : above.page.0 ≢ halves.right.page.0
      apart_pr same = fresh_late (subst (InTree made.ends) same made.stands.placed)

      apart_pl : above.page.0 ≢ full.page.0
      apart_pl same =
          let one : level_in (late above.page.0) ≡ level_in (late full.page.0) = ap (λ (k : ℕ). level_in (late k)) same in
          let up = level_p in omega (arith, up, one)

      new_l : new full.page.0 ≡ halves.left.bytes
      new_l = ap (λ (pages : Pages). pages full.page.0) laid
          ∙ (with_other (with_page (with_page late halves.right.page.0 halves.right.bytes) full.page.0
          halves.left.bytes) above.page.0 named full.page.0 (λ same. apart_pl (sym same))
          ∙ with_here (with_page late halves.right.page.0 halves.right.bytes) full.page.0 halves.left.bytes)

      new_r : new halves.right.page.0 ≡ halves.right.bytes
      new_r = ap (λ (pages : Pages). pages halves.right.page.0) laid
          ∙ (with_other (with_page (with_page late halves.right.page.0 halves.right.bytes) full.page.0
          halves.left.bytes) above.page.0 named halves.right.page.0 (λ same. apart_pr (sym same))
          ∙ (with_other (with_page late halves.right.page.0 halves.right.bytes) full.page.0
          halves.left.bytes halves.right.page.0 apart_rl
          ∙ with_here late halves.right.page.0 halves.right.bytes))

      new_other : (n : ℕ) → n ≢ halves.right.page.0 → n ≢ full.page.0 → n ≢ above.page.0 → new n ≡ late n
      new_other n not_r not_l not_p = ap (λ (pages : Pages). pages n) laid
          ∙ (with_other (with_page (with_page late halves.right.page.0 halves.right.bytes) full.page.0
          halves.left.bytes) above.page.0 named n not_p
          ∙ (with_other (with_page late halves.right.page.0 halves.right.bytes) full.page.0
          halves.left.bytes n not_l
          ∙ with_other late halves.right.page.0 halves.right.bytes n not_r))

      stays : (n : ℕ) → InTree levels n → level_in (old n) < level → new n ≡ old n
      stays n placed low =
          let of_mid : level_in (mid n) ≡ level_in (old n) = ap level_in (mid_same n placed) in
          let of_late : late n ≡ mid n = made.stays n placed (omega (arith, low, of_mid)) in
          let same_level : level_in (late n) ≡ level_in (old n) = ap level_in of_late ∙ of_mid in
          new_other n (λ same. fresh_r (subst (InTree levels) same placed))
          (λ same. let at : level_in (late n) ≡ level_in (late full.page.0) =
          ap (λ (k : ℕ). level_in (late k)) same in
          let on : level_in (late full.page.0) ≡ level = ap level_in late_l ∙ place.on_level in
          omega (arith, at, on, same_level, low))
          (λ same. let at : level_in (late n) ≡ level_in (late above.page.0) =
          ap (λ (k : ℕ). level_in (late k)) same in
          let on : level_in (late above.page.0) ≡ suc level = ap level_in late_p ∙ roomy.place.on_level in
          omega (arith, at, on, same_level, low))
          ∙ (of_late ∙ mid_same n placed)

      fresh : (n : ℕ) → InTree ends n → InTree levels n ⊎ (is_used g.size old n ≡ false)
      fresh n has = at (tree_back full.page.0 halves.right.page.0 made.ends n has)
        where
          unused : InTree levels n ⊎ (is_used g.size mid n ≡ false)
              → InTree levels n ⊎ (is_used g.size old n ≡ false)
          unused (inl placed) = inl placed
          unused (inr free) = inr (unused_before g.size old mid n
              (taken_used g lawful owner root levels stands.no_inventory old mid halves.right.page.0 takes
              stands.tree) free)

          at : (n ≡ halves.right.page.0) ⊎ InTree made.ends n
              → InTree levels n ⊎ (is_used g.size old n ≡ false)
          at (inl same) = inr (subst (λ (k : ℕ). is_used g.size old k ≡ false) (sym same) takes.free.unused)
          at (inr placed) = unused (made.fresh n placed)

      in_ends : (n : ℕ) → InTree made.ends n → InTree ends n
      in_ends n has = tree_wider full.page.0 halves.right.page.0 made.ends n has

      others : (n : ℕ) → (InTree ends n → ⊥) → IsNoInventory g.size n → new n ≡ old n
      others n out none = new_other n
          (λ same. out (subst (InTree ends) (sym same)
          (tree_right full.page.0 halves.right.page.0 made.ends placed_l)))
          (λ same. out (subst (InTree ends) (sym same) (in_ends full.page.0 placed_l)))
          (λ same. out (subst (InTree ends) (sym same) (in_ends above.page.0 made.stands.placed)))
          ∙ (made.others n (λ has. out (in_ends n has)) none
          ∙ taken_same g lawful owner root levels stands.no_inventory old mid halves.right.page.0 takes
          stands.tree n none)

      few : length batch.pages ≤ length before.pages + (4 * (level_in (old root) - level) + 5)
      few =
          let top : level_in (mid root) ≡ level_in (old root) = ap level_in (mid_same root
          (root_in g.size old owner root levels stands.tree.rooted stands.tree)) in
          let one = taken_alone.few in
          let made_few = made.few in
          omega (arith, top, one, made_few, put_few, lower)

      more_pages : length (all_of ends) ≤ length (all_of levels) + (level_in (old root) - level + 2)
      more_pages =
          let top : level_in (mid root) ≡ level_in (old root) = ap level_in (mid_same root
          (root_in g.size old owner root levels stands.tree.rooted stands.tree)) in
          let made_more = made.more_pages in
          let one = split_count full.page.0 halves.right.page.0 made.ends
          (tree_once g.size late owner root made.ends made.stands.tree) in
          omega (arith, top, made_more, one, lower)

      no_inventory : HasNoInventory g.size ends
      no_inventory n has = at (tree_back full.page.0 halves.right.page.0 made.ends n has)
        where
          at : (n ≡ halves.right.page.0) ⊎ InTree made.ends n → IsNoInventory g.size n
          at (inl same) = subst (IsNoInventory g.size) (sym same)
              (taken_none g lawful owner root levels stands.no_inventory old mid halves.right.page.0 takes
              stands.tree)
          at (inr placed) = made.stands.no_inventory n placed

      -- the half has its bytes, and stands in the tree
      half_stands : (half : PageBytes) → (half ≡ halves.left) ⊎ (half ≡ halves.right)
          → StandsIn g.size new owner root ends half
      half_stands half which = record {
        tree = (pool_changed g.size owner root (content_in batch.pages) (lists batch.orders) Stay old new
            levels ends row stands.tree).tree;
        no_inventory = no_inventory;
        bytes = (at which).0;
        placed = (at which).1;
      }
        where
          left_is : new halves.left.page.0 ≡ halves.left.bytes
          left_is = ap new is.left_own ∙ new_l

          at : (half ≡ halves.left) ⊎ (half ≡ halves.right) → (half.bytes ≡ new half.page.0)
              × InTree ends half.page.0
          at (inl same) = subst (λ (h : PageBytes). (h.bytes ≡ new h.page.0) × InTree ends h.page.0)
              (sym same) (
                sym left_is,
                tree_wider full.page.0 halves.right.page.0 made.ends halves.left.page.0
                    (subst (InTree made.ends) (sym is.left_own) placed_l),
              )
          at (inr same) = subst (λ (h : PageBytes). (h.bytes ≡ new h.page.0) × InTree ends h.page.0)
              (sym same) (sym new_r, tree_right full.page.0 halves.right.page.0 made.ends placed_l)

      pub split_makes : (half : PageBytes) → (half ≡ halves.left) ⊎ (half ≡ halves.right)
          → MakesRoom g old new before batch owner root levels level e half
      split_makes half which = record {
        ends = ends;
        row = row;
        adds = all_orders;
        held = held;
        full = steps.full;
        takes = steps.takes;
        stands = half_stands half which;
        wider = λ n placed. tree_wider full.page.0 halves.right.page.0 made.ends n (made.wider n placed);
        used = row_used g.size owner root (content_in batch.pages) (lists batch.orders) Stay old new levels
            ends row;
        fresh = fresh;
        others = others;
        few = few;
        more_pages = more_pages;
        stays = stays;
      }
