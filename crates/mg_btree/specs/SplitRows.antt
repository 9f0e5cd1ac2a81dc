-- A split with all its pages, and the growth of a root with all its pages, as rows of steps of a tree.
use Rattle.std.proofs.Common.{◌≡◌, ◌≢◌, ◌∙◌, ap, refl, sym, subst, ◌<◌, ◌≤◌, ◌==◌, ℕ, suc, true, false, List, Option, Some, None, length, arith, eq-eqb}
use Rattle.std.specs.Prelude.{IfSome, if◌then◌else◌}
use Rattle.std.proofs.lemmas.Bool.{ne_eqb}
use Rattle.mg_base.specs.Checks.{PassesAll}
use Rattle.mg_base.specs.declared.geometry.Geometry.{Geometry}
use Rattle.mg_base.specs.declared.geometry.TheConstants.{GREATEST_LIMIT}
use Rattle.mg_careful.specs.Precedence.{Orders}
use Rattle.mg_node.specs.declared.entry.Entry.{Entry}
use Rattle.mg_node.specs.NodePage.{IsAtLeast, IsBelow, IsNodePage, count_in, has_high, high_of, level_in, low_of, node_checks, right_in}
use Rattle.mg_image.specs.Form.{Pages}
use Rattle.mg_image.specs.Indexes.{IsTree, as_fence}
use Rattle.mg_image.specs.Inventory.{is_used}
use Rattle.mg_image.specs.Tables.{Has}
use Rattle.mg_node_writing.specs.ChangePromises.{InsertsBehindFirst}
use Rattle.mg_node_writing.specs.NewNodes.{CopiesNode}
use Rattle.mg_node_writing.specs.NodeChanges.{KeepsNode}
use Rattle.mg_node_writing.specs.Splits.{SplitsNode}
use Rattle.mg_tree_overlay_laws.specs.TreeSteps.{InTree, StaysUsed, grow_levels, split_levels}
use Rattle.mg_tree_overlay_laws.specs.TreesBehind.{Covers}
use Rattle.mg_tree_overlay_laws.specs.TreeBatches.{EntryChange, IsNoInventory, OrdersRoot, OrdersSplit, done, grows, splits}
use Rattle.mg_tree_overlay_laws.specs.GrowParts.{root_in}
use Rattle.mg_tree_overlay_laws.specs.PoolLaws.{beside_tree}
use Rattle.mg_tree_overlay_laws.specs.SearchLaws.{covers_parent}
use Rattle.mg_btree.specs.ChangeLaws.{used_stays}
use Rattle.mg_btree.specs.Halves.{HasRoom, names_in}
use Rattle.mg_btree.specs.Ordering.{root_orders, split_orders}
use Rattle.mg_btree.specs.RowOrderLaws.{RoomRow, ended, fills_room}
use Rattle.mg_btree.specs.SearchLaws.{in_node}
use Rattle.mg_btree.specs.SplitSteps.{IsGrownRoot, grows_step, inner_rewrites, names_step, splits_step}

-- pages, one of which has another content
abbrev pub with_page : Pages → ℕ → List ℕ → Pages
with_page pages n bytes m = if m == n then bytes else pages m

pub with_here : (pages : Pages) (n : ℕ) (bytes : List ℕ) → with_page pages n bytes n ≡ bytes
with_here pages n bytes = rw (eq-eqb n n refl) refl

pub with_other : (pages : Pages) (n : ℕ) (bytes : List ℕ) (m : ℕ) → m ≢ n
    → with_page pages n bytes m ≡ pages m
with_other pages n bytes m other = rw (ne_eqb m n other) refl

-- an entry lies between the fences that a page's bytes say
abbrev CoversBy : List ℕ → Entry → Type 0
CoversBy bytes f = IfSome (low_of bytes) (λ fence. IsAtLeast f fence)
    × IfSome (high_of bytes) (λ fence. IsBelow f fence)

-- What a split has, before its pages are put: the page l that splits, the page r that was taken, and
-- the page p above, which has room and covers the fence between the halves.
pub record SplitsUnder (size : ℕ) (old : Pages) (owner root : ℕ) (levels : List (List ℕ))
    (l r p : ℕ) (left right named : List ℕ) (e f : Entry) : Type 0 where
  pub tree : IsTree size old owner root levels
  pub placed : InTree levels l
  pub above : InTree levels p
  pub level : level_in (old p) ≡ suc (level_in (old l))
  pub below_root : root ≢ l
  pub fresh : InTree levels r → ⊥
  pub some : r ≢ 0
  pub limit : r < GREATEST_LIMIT
  pub used : is_used size old r ≡ true
  pub no_inventory : IsNoInventory size l × IsNoInventory size r × IsNoInventory size p
  -- an entry that both pages cover
  pub covers : Covers old p f × Covers old l f
  pub fields : PassesAll (node_checks (old l) l owner) × PassesAll (node_checks (old p) p owner)
  -- the halves
  pub halves : SplitsNode (old l) left right r
  pub lawful : IsNodePage left × IsNodePage right × IsNodePage named
  pub two : (2 ≤ count_in left) × (2 ≤ count_in right)
  pub len : (length left ≡ size) × (length right ≡ size) × (length named ≡ size)
  -- the page above has the entry for the right half
  pub keeps : KeepsNode (old p) named
  pub inserts : InsertsBehindFirst (old p) named e
  pub child : e.child.0 ≡ r
  pub fence : as_fence e ≡ as_fence halves.given

-- the right half in place, then the left one, then the page above: the tree is split
pub splits_row : (g : Geometry) (owner root : ℕ) (batch : ℕ → Option (List ℕ)) (orders : Orders)
    (change : EntryChange) (old : Pages) (levels : List (List ℕ)) (l r p : ℕ)
    (left right named : List ℕ) (e f x : Entry) (taken : List ℕ) (at_end : List (List ℕ))
    → SplitsUnder g.size old owner root levels l r p left right named e f
    → OrdersSplit g.size batch orders l r p → batch r ≢ None → Has taken r → (HasRoom (old l) x → ⊥)
    → RoomRow g owner root batch orders change old levels
    (with_page (with_page (with_page old r right) l left) p named) (split_levels l r levels) x e
    (split_orders g.size (names_in right) l r p) taken at_end
splits_row g owner root batch orders change old levels l r p left right named e f x taken at_end is order some_r
    is_taken no_room = fills_room g owner root batch orders change old in_place whole levels
    (split_levels l r levels) r x e (split_orders g.size (names_in right) l r p) taken at_end
    (with_other old r right) used_r some_r is.fresh is_taken (ap length (with_here old r right) ∙ is.len.1)
    (record {
      row = splits in_place halved whole whole levels (split_levels l r levels) l r p e (record {
        splits = splits_step g.size in_place halved owner l r left right
            (subst (λ (b : List ℕ). SplitsNode b left right r) (sym old_l) is.halves) is.lawful.0 is.lawful.1
            is.two.0 is.two.1 (with_other in_place l left) (with_here in_place l left) (with_here old r right)
            is.no_inventory.0 apart_rl is.some is.limit (used_r r is.used)
            (subst (λ (b : List ℕ). PassesAll (node_checks b l owner)) (sym old_l) is.fields.0);
        rewrites = inner_rewrites g.size halved whole owner p named e (with_other halved p named)
            (with_here halved p named) is.no_inventory.2
            (subst (λ (b : List ℕ). PassesAll (node_checks b p owner)) (sym old_p) is.fields.1) is.lawful.2
            (subst (λ (b : List ℕ). KeepsNode b named) (sym old_p) is.keeps)
            (subst (λ (b : List ℕ). InsertsBehindFirst b named e) (sym old_p) is.inserts);
        names = names_step halved whole p named e
            (subst (λ (b : List ℕ). InsertsBehindFirst b named e) (sym old_p) is.inserts) (with_here halved p named)
            fence_r;
        child = is.child;
        apart = (apart_pl, apart_pr);
        parent = covers_parent g.size owner root in_place levels f p l there is.above is.placed
            (ap level_in in_p ∙ (is.level ∙ ap (λ (b : List ℕ). suc (level_in b)) (sym old_l)))
            (subst (λ (b : List ℕ). CoversBy b f) (sym in_p) is.covers.0)
            (subst (λ (b : List ℕ). CoversBy b f) (sym old_l) is.covers.1);
      }) order is.no_inventory.0 is.no_inventory.2 is.below_root is.fresh (done whole (split_levels l r levels));
      adds = ended (split_orders g.size (names_in (with_page old r right r)) l r p)
          ∙ ap (λ (b : List ℕ). split_orders g.size (names_in b) l r p) (with_here old r right);
      full = (λ room. no_room (subst (λ (b : List ℕ). HasRoom b x) old_l room), tt);
      next = refl;
      takes = (
        is_taken,
        ap length (with_here in_place l left) ∙ is.len.0,
        ap length (with_here halved p named) ∙ is.len.2,
        tt,
      );
    })
  where
    in_place : Pages
    in_place = with_page old r right

    halved : Pages
    halved = with_page (with_page old r right) l left

    whole : Pages
    whole = with_page (with_page (with_page old r right) l left) p named

    apart_rl : r ≢ l
    apart_rl same = is.fresh (subst (InTree levels) (sym same) is.placed)

    apart_pr : p ≢ r
    apart_pr same = is.fresh (subst (InTree levels) same is.above)

    apart_pl : p ≢ l
    apart_pl same = let up = is.level in
        let one : level_in (old p) ≡ level_in (old l) = ap (λ (k : ℕ). level_in (old k)) same in omega (arith, up, one)

    old_l : with_page old r right l ≡ old l
    old_l = with_other old r right l (λ same. apart_rl (sym same))

    in_p : with_page old r right p ≡ old p
    in_p = with_other old r right p apart_pr

    old_p : with_page (with_page old r right) l left p ≡ old p
    old_p = with_other (with_page old r right) l left p apart_pl ∙ in_p

    used_r : StaysUsed g.size old (with_page old r right)
    used_r = used_stays g.size old (with_page old r right) r (with_other old r right) is.no_inventory.1

    there : IsTree g.size (with_page old r right) owner root levels
    there = beside_tree g.size old (with_page old r right) owner root levels r (with_other old r right) used_r
        is.fresh is.tree

    fence_r : low_of (with_page (with_page old r right) l left e.child.0) ≡ Some (as_fence e)
    fence_r = ap (λ (k : ℕ). low_of (with_page (with_page old r right) l left k)) is.child
        ∙ (ap low_of (with_other (with_page old r right) l left r apart_rl ∙ with_here old r right)
        ∙ (is.halves.fence ∙ ap Some (sym is.fence)))

-- ---- the root splits

-- What the growth of a root has, before its pages are put: two pages a and b that were taken.
pub record GrowsUnder (size : ℕ) (old : Pages) (owner root : ℕ) (levels : List (List ℕ)) (a b : ℕ)
    (copy left right grown : List ℕ) : Type 0 where
  pub tree : IsTree size old owner root levels
  pub fresh : (InTree levels a → ⊥) × (InTree levels b → ⊥)
  pub apart : a ≢ b
  pub some : (a ≢ 0) × (b ≢ 0)
  pub limit : (a < GREATEST_LIMIT) × (b < GREATEST_LIMIT)
  pub used : (is_used size old a ≡ true) × (is_used size old b ≡ true)
  pub no_inventory : IsNoInventory size root × IsNoInventory size a × IsNoInventory size b
  pub fields : PassesAll (node_checks (old root) root owner)
  pub copies : CopiesNode (old root) copy a
  pub halves : SplitsNode copy left right b
  pub lawful : IsNodePage left × IsNodePage right
  pub two : (2 ≤ count_in left) × (2 ≤ count_in right)
  pub len : (length left ≡ size) × (length right ≡ size) × (length grown ≡ size)
  pub below_highest : level_in (old root) < 65535
  pub new_root : IsGrownRoot owner root (level_in (old root)) a b halves.given grown

-- both halves in place, then the root: the tree has a level more
pub grows_row : (g : Geometry) (owner root : ℕ) (batch : ℕ → Option (List ℕ)) (orders : Orders)
    (change : EntryChange) (old : Pages) (levels : List (List ℕ)) (a b : ℕ)
    (copy left right grown : List ℕ) (x : Entry) (taken : List ℕ) (at_end : List (List ℕ))
    → GrowsUnder g.size old owner root levels a b copy left right grown
    → OrdersRoot g.size batch orders root a b → batch a ≢ None → batch b ≢ None
    → Has taken a → Has taken b → (HasRoom (old root) x → ⊥)
    → RoomRow g owner root batch orders change old levels
    (with_page (with_page (with_page old a left) b right) root grown) (grow_levels root a b levels) x x
    (root_orders g.size (names_in left) (names_in right) root a b) taken at_end
grows_row g owner root batch orders change old levels a b copy left right grown x taken at_end is order some_a
    some_b is_a is_b no_room =
    fills_room g owner root batch orders change old first whole levels (grow_levels root a b levels) a x x
    (root_orders g.size (names_in left) (names_in right) root a b) taken at_end (with_other old a left) used_a
    some_a is.fresh.0 is_a (ap length (with_here old a left) ∙ is.len.0)
    (fills_room g owner root batch orders change first second whole levels (grow_levels root a b levels) b
    x x (root_orders g.size (names_in left) (names_in right) root a b) taken at_end (with_other first b right)
    used_b some_b is.fresh.1 is_b (ap length (with_here first b right) ∙ is.len.1) (record {
      row = grows second whole whole levels (grow_levels root a b levels) a b
          (grows_step g.size second whole owner root a b copy left right grown
          (subst (λ (p : List ℕ). CopiesNode p copy a) (sym old_root) is.copies) is.halves is.lawful.0 is.lawful.1
          is.two.0 is.two.1
          (subst (λ (p : List ℕ). IsGrownRoot owner root (level_in p) a b is.halves.given grown) (sym old_root)
          is.new_root) (with_other second root grown) (with_here second root grown)
          (with_other first b right a is.apart ∙ with_here old a left) (with_here first b right) is.no_inventory.0
          (is.tree.rooted, is.some.0, is.some.1) (apart_a, apart_b) is.limit
          (used_b a (used_a a is.used.0), used_b b (used_a b is.used.1))
          (subst (λ (p : List ℕ). PassesAll (node_checks p root owner)) (sym old_root) is.fields)
          (ap low_of old_root ∙ rw is.tree.root_low refl) (ap high_of old_root ∙ no_high)
          (ap right_in old_root ∙ is.tree.root_right))
          order is.no_inventory.0 (done whole (grow_levels root a b levels));
      adds = ended (root_orders g.size (names_in (second a)) (names_in (second b)) root a b)
          ∙ (ap (λ (p : List ℕ). root_orders g.size (names_in p) (names_in (second b)) root a b)
          (with_other first b right a is.apart ∙ with_here old a left)
          ∙ ap (λ (p : List ℕ). root_orders g.size (names_in left) (names_in p) root a b)
          (with_here first b right));
      full = (λ room. no_room (subst (λ (p : List ℕ). HasRoom p x) old_root room), tt);
      next = refl;
      takes = (
        (is_a, is.fresh.0),
        (is_b, is.fresh.1),
        subst (λ (p : List ℕ). level_in p < 65535) (sym old_root) is.below_highest,
        ap length (with_here second root grown) ∙ is.len.2,
        tt,
      );
    }))
  where
    first : Pages
    first = with_page old a left

    second : Pages
    second = with_page (with_page old a left) b right

    whole : Pages
    whole = with_page (with_page (with_page old a left) b right) root grown

    placed : InTree levels root
    placed = root_in g.size old owner root levels is.tree.rooted is.tree

    apart_a : a ≢ root
    apart_a same = is.fresh.0 (subst (InTree levels) (sym same) placed)

    apart_b : b ≢ root
    apart_b same = is.fresh.1 (subst (InTree levels) (sym same) placed)

    old_root : with_page (with_page old a left) b right root ≡ old root
    old_root = with_other (with_page old a left) b right root (λ same. apart_b (sym same))
        ∙ with_other old a left root (λ same. apart_a (sym same))

    used_a : StaysUsed g.size old (with_page old a left)
    used_a = used_stays g.size old (with_page old a left) a (with_other old a left) is.no_inventory.1

    used_b : StaysUsed g.size (with_page old a left) (with_page (with_page old a left) b right)
    used_b = used_stays g.size (with_page old a left) (with_page (with_page old a left) b right) b
        (with_other (with_page old a left) b right) is.no_inventory.2

    no_high : high_of (old root) ≡ None
    no_high =
        let node = (in_node g.size old owner levels root is.tree.nodes placed).1 in
        let bare : has_high (old root) ≡ false =
        node.high ∙ rw is.tree.root_right refl in rw bare refl
