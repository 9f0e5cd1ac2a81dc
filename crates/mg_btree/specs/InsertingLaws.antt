-- An entry is put into a tree: what it then finds, and why it may be refused.
use Rattle.std.proofs.Common.{◌≡◌, ◌≢◌, ◌⊎◌, inl, inr, ◌∙◌, ap, refl, sym, subst, ℕ, false, List, [], ◌∷◌, ◌++◌, Some, None, length, Result, Ok, Err, arith}
use Rattle.std.specs.Prelude.{IfSome, IsErrAnd}
use Rattle.std.proofs.lemmas.Bool.{le-ltb}
use Rattle.mg_base.specs.Checks.{PassesAll}
use Rattle.mg_base.specs.Image.{Image}
use Rattle.mg_base.specs.declared.geometry.Geometry.{Geometry}
use Rattle.mg_node.specs.declared.entry.Entry.{Entry}
use Rattle.mg_node.specs.NodePage.{IsAtLeast, IsBelow, SamePlace, entries_of, high_of, is_inner, level_in, low_of, node_checks}
use Rattle.mg_careful.specs.declared.graph.Order.{Order}
use Rattle.mg_image.specs.Form.{Pages}
use Rattle.mg_image.specs.Indexes.{Finds, HasEntry}
use Rattle.mg_node_writing.specs.LeafLaws.{leaf_child}
use Rattle.mg_node_writing.specs.NodeChanges.{InsertsEntry, IsEntryOf}
use Rattle.mg_pool.specs.Batch.{Changed, content_in, lists}
use Rattle.mg_pool.specs.declared.pool.Pool.{Pool}
use Rattle.mg_space.specs.View.{viewed}
use Rattle.mg_space.specs.declared.fault.SpaceFault.{SpaceFault}
use Rattle.mg_space.specs.declared.fault.SpaceFault.TheVariants.{Full, Pool as OfPool, Damaged as OfPage}
use Rattle.mg_tree_overlay_laws.specs.TreeSteps.{InTree, Rewrites}
use Rattle.mg_tree_overlay_laws.specs.TreesBehind.{Covers}
use Rattle.mg_tree_overlay_laws.specs.TreeBatches.{Add, ChangesEntries, ChangesTree, HasChanged, Stay, done, leaf}
use Rattle.mg_tree_overlay_laws.specs.GrowLaws.{chains_of}
use Rattle.mg_tree_overlay_laws.specs.KeptLaws.{leaf_found}
use Rattle.mg_tree_overlay_laws.specs.LeafLaws.{back_has}
use Rattle.mg_tree_overlay_laws.specs.PoolLaws.{pool_changed}
use Rattle.mg_tree_overlay_laws.specs.SearchLaws.{leaf_has_found}
use Rattle.mg_btree.specs.declared.halves.PageBytes.{PageBytes}
use Rattle.mg_btree.specs.ChangeLaws.{either_parts, entry_has, is_entry, leaf_rewrites, viewed_other, viewed_put}
use Rattle.mg_btree.specs.Halves.{HasPlace, HasRoom, IsPlaceFor, IsRoomy}
use Rattle.mg_btree.specs.Inserting.{Inserts, PutsAndTakes, PutsWith, RefusesInsert}
use Rattle.mg_btree.specs.OrderLaws.{put_few, widens_put, widens_sized}
use Rattle.mg_btree.specs.EachOrderLaws.{each_more, each_none}
use Rattle.mg_btree.specs.Ordering.{EachOrder, Widens}
use Rattle.mg_btree.specs.ParentLaws.{one_in_tree}
use Rattle.mg_btree.specs.Rooms.{MakesRoom, RefusesRoom, StandsIn}
use Rattle.mg_btree.specs.RowOrders.{row_next, row_orders}
use Rattle.mg_btree.specs.RowOrderLaws.{RoomRow, append_room, ended}

-- ---- an entry of a leaf, and its place

pub no_inner : (page : List ℕ) → level_in page ≡ 0 → is_inner page ≡ false
no_inner page low = le-ltb 0 (level_in page) (omega (arith, low))

pub place_of_entry : (es : List Entry) (e : Entry) → HasEntry es e → HasPlace es e
place_of_entry [] e has = absurd has
place_of_entry (f ∷ fs) e (inl same) = inl (record {
  key = ap (λ (x : Entry). x.key) same;
  rec = ap (λ (x : Entry). x.rec) same;
})
place_of_entry (f ∷ fs) e (inr later) = inr (place_of_entry fs e later)

found_place : (es : List Entry) (e : Entry) → HasPlace es e → (f : Entry) × HasEntry es f × SamePlace e f
found_place [] e none = absurd none
found_place (x ∷ xs) e (inl same) = (x, inl refl, same)
found_place (x ∷ xs) e (inr later) = let more = found_place xs e later in (more.0, inr more.1, more.2)

same_entry : (e f : Entry) → SamePlace e f → e.child.0 ≡ f.child.0 → e ≡ f
same_entry e f same child =
    ap (λ k. record { key = k; rec = e.rec; child = e.child }) same.key
    ∙ (ap (λ q. record { key = f.key; rec = q; child = e.child }) same.rec
    ∙ ap (λ (n : ℕ). record { key = f.key; rec = f.rec; child = record { 0 = n } }) child)

pub leaf_entry : (page : List ℕ) (e : Entry) → level_in page ≡ 0 → e.child.0 ≡ 0
    → HasPlace (entries_of page) e → HasEntry (entries_of page) e
leaf_entry page e low none has =
    let there = found_place (entries_of page) e has in
    subst (λ (x : Entry). HasEntry (entries_of page) x) (sym (same_entry e there.0 there.2
    (none ∙ sym (leaf_child page (no_inner page low) there.0 (is_entry page there.0 there.1))))) there.1

-- a list with an entry more has those that it had
with_more : (front back : List Entry) (e f : Entry) → HasEntry (front ++ back) f
    → HasEntry (front ++ e ∷ back) f
with_more [] back e f has = inr has
with_more (x ∷ xs) back e f (inl same) = inl same
with_more (x ∷ xs) back e f (inr later) = inr (with_more xs back e f later)

inserted : (old new : List ℕ) (e : Entry) → InsertsEntry old new e
    → ChangesEntries (Add e) (entries_of old) (entries_of new)
inserted old new e is = record {
  keeps = λ f left has. subst (λ (es : List Entry). HasEntry es f) (sym is.is)
      (with_more is.front is.back e f (subst (λ (es : List Entry). HasEntry es f) is.was has));
  only = λ f has. at f (either_parts is.front is.back e f
      (subst (λ (es : List Entry). HasEntry es f) is.is has));
}
  where
    front_in : (xs ys : List Entry) (f : Entry) → HasEntry xs f → HasEntry (xs ++ ys) f
    front_in [] ys f has = absurd has
    front_in (x ∷ xs) ys f (inl same) = inl same
    front_in (x ∷ xs) ys f (inr later) = inr (front_in xs ys f later)

    at : (f : Entry) → HasEntry is.front f ⊎ ((f ≡ e) ⊎ HasEntry is.back f)
        → HasEntry (entries_of old) f ⊎ (f ≡ e)
    at f (inl has) = inl (subst (λ (es : List Entry). HasEntry es f) (sym is.was)
        (front_in is.front is.back f has))
    at f (inr (inl same)) = inr same
    at f (inr (inr has)) = inl (subst (λ (es : List Entry). HasEntry es f) (sym is.was)
        (back_has is.front is.back f has))

-- ---- the entry is there already

module _ (g : Geometry) (owner root : ℕ) (levels : List (List ℕ)) (was : Pages) (full : PageBytes)
    (e : Entry) (stands : StandsIn g.size was owner root levels full)
    (place : IsPlaceFor g.size owner 0 e full) (none : e.child.0 ≡ 0)
  where
    low : level_in (was full.page.0) ≡ 0
    low = ap level_in (sym stands.bytes) ∙ place.on_level

    covers : Covers was full.page.0 e
    covers = subst (λ (b : List ℕ). IfSome (low_of b) (λ f. IsAtLeast e f)
        × IfSome (high_of b) (λ f. IsBelow e f)) stands.bytes place.covers

    pub found_there : HasPlace (entries_of full.bytes) e → Finds was e root
    found_there has = leaf_found g.size was owner root levels full.page.0 e stands.tree stands.placed low
        (subst (λ (b : List ℕ). HasEntry (entries_of b) e) stands.bytes
        (leaf_entry full.bytes e place.on_level none has))

    pub absent_there : (HasPlace (entries_of full.bytes) e → ⊥) → Finds was e root → ⊥
    absent_there no_place found = no_place (place_of_entry (entries_of full.bytes) e
        (subst (λ (b : List ℕ). HasEntry (entries_of b) e) (sym stands.bytes)
        (leaf_has_found g.size owner root was levels full.page.0 e stands.tree stands.placed low covers
        found)))

    -- the leaf that covers the entry is the one that was read
    one_leaf_covers : (n : ℕ) → InTree levels n → level_in (was n) ≡ 0 → Covers was n e → n ≡ full.page.0
    one_leaf_covers n placed level covers_n = one_in_tree g.size was owner e levels n full.page.0
        (chains_of was root levels stands.tree.levels_from) stands.tree.nodes placed stands.placed
        (level ∙ sym low) covers_n covers

    pub inserts_nothing : (batch : Changed) → HasPlace (entries_of full.bytes) e
        → PutsAndTakes g was was batch batch owner root levels e
    inserts_nothing batch has = record {
      puts = record {
        ends = levels;
        row = done was levels;
        adds = sym (ended batch.orders);
        held = each_none (λ a b. content_in batch.pages b ≢ None);
        full = tt;
        tree = stands.tree;
        no_inventory = stands.no_inventory;
        wider = λ n placed. placed;
        fresh = λ n placed. inl placed;
        others = λ n out none_. refl;
        few = omega arith;
        more_pages = omega arith;
        has = found_there has;
        keeps = λ f found. found;
        only = λ f found. inl found;
        once = λ found. refl;
        in_place = λ n placed level covers_n room. ((λ m other. refl), refl);
      };
      takes = tt;
    }

    -- ---- room was made, or not

    pub inserts_refused : (new : Pages) (start last : Changed) (fault : SpaceFault)
        (result : Result (Unit {0}) SpaceFault) → (HasPlace (entries_of full.bytes) e → ⊥)
        → (HasRoom full.bytes e → ⊥) → RefusesRoom g was root 0 fault
        → IsErrAnd result (λ f. f ≡ fault)
        → Inserts g was new start last owner root levels e result
    inserts_refused new start last fault (Ok done_) no_place no_room refused is = absurd is
    inserts_refused new start last fault (Err f) no_place no_room refused is =
        subst (λ (x : SpaceFault). Inserts g was new start last owner root levels e (Err x)) (sym is)
        (by fault refused)
      where
        why : (fault : SpaceFault) → RefusesRoom g was root 0 fault → RefusesInsert g was root levels e fault
        why fault refused = record {
          refused = refused;
          absent = absent_there no_place;
          no_room = λ n placed level covers_n room. no_room
              (subst (λ (b : List ℕ). HasRoom b e)
              (ap was (one_leaf_covers n placed level covers_n) ∙ sym stands.bytes) room);
        }

        by : (fault : SpaceFault) → RefusesRoom g was root 0 fault
            → Inserts g was new start last owner root levels e (Err fault)
        by (Full limit) refused = why (Full limit) refused
        by (OfPage damage) refused = why (OfPage damage) refused
        by (OfPool pool_fault) refused = tt

    module _ {D L : Type 0} (store : Pool D L) (image : Image) (start second last : Changed)
        (page : PageBytes) (viewed_was : was ≡ viewed store image start)
        (no_place : HasPlace (entries_of full.bytes) e → ⊥)
        (roomy : IsRoomy g.size owner 0 e page)
        (made : MakesRoom g was (viewed store image second) start second owner root levels 0 e page)
        (in_place : HasRoom full.bytes e → (page ≡ full) × (second ≡ start))
        (puts : PutsWith second last page e)
      where
        abbrev late : Pages
        late = viewed store image second

        abbrev new : Pages
        new = viewed store image last

        abbrev n : ℕ
        n = page.page.0

        late_n : viewed store image second page.page.0 ≡ page.bytes
        late_n = sym made.stands.bytes

        late_low : level_in (viewed store image second page.page.0) ≡ 0
        late_low = ap level_in late_n ∙ roomy.place.on_level

        new_n : viewed store image last page.page.0 ≡ puts.bytes
        new_n = viewed_put store image second last page.page.0 puts.bytes puts.puts

        others : (m : ℕ) → m ≢ page.page.0 → viewed store image last m ≡ viewed store image second m
        others m other = viewed_other store image second last page.page.0 m puts.bytes puts.puts other

        not_there : IsEntryOf page.bytes e → ⊥
        not_there is = at ((pool_changed g.size owner root (content_in second.pages) (lists second.orders)
            Stay was late levels made.ends made.row stands.tree).only e
            (leaf_found g.size late owner root made.ends page.page.0 e made.stands.tree made.stands.placed
            late_low (subst (λ (b : List ℕ). HasEntry (entries_of b) e) made.stands.bytes
            (entry_has page.bytes e is))))
          where
            at : Finds was e root ⊎ ⊥ → ⊥
            at (inl found) = absent_there no_place found
            at (inr none_) = none_

        inserts : InsertsEntry page.bytes puts.bytes e
        inserts = puts.inserts not_there

        widens : Widens g.size second last
        widens = widens_sized g.size second last (length puts.bytes) (puts.len ∙ roomy.place.len)
            (widens_put second last page.page.0 puts.bytes puts.puts)

        rewrites : Rewrites g.size late new owner page.page.0
        rewrites = leaf_rewrites g.size late new owner page.page.0 puts.bytes others new_n
            (made.stands.no_inventory page.page.0 made.stands.placed)
            (subst (λ (b : List ℕ). PassesAll (node_checks b page.page.0 owner)) made.stands.bytes
            roomy.place.fields) late_low puts.lawful
            (subst (λ (b : List ℕ). InsertsEntry b puts.bytes e) made.stands.bytes inserts).keeps

        abbrev made_orders : List Order
        made_orders = row_orders g.size owner root (content_in second.pages) (lists second.orders) Stay was
            late levels made.ends made.row

        leaf_row : RoomRow g owner root (content_in last.pages) (lists last.orders) (Add e) late
            made.ends new made.ends e e [] [] made.ends
        leaf_row = record {
          row = leaf late new new made.ends made.ends page.page.0 rewrites late_low
              (subst (λ (b : List ℕ). ChangesEntries (Add e) (entries_of (late page.page.0)) (entries_of b))
              (sym new_n) (subst (λ (b : List ℕ). ChangesEntries (Add e) (entries_of b)
              (entries_of puts.bytes)) made.stands.bytes (inserted page.bytes puts.bytes e inserts)))
              (λ none_. let both : Some puts.bytes ≡ None = sym puts.puts.here ∙ none_ in absurd cc)
              (made.stands.no_inventory page.page.0 made.stands.placed) (done new made.ends);
          adds = refl;
          full = tt;
          next = refl;
          takes = (made.stands.placed, ap length new_n ∙ (puts.len ∙ roomy.place.len), tt);
        }

        steps : RoomRow g owner root (content_in last.pages) (lists last.orders) (Add e) was levels
            new made.ends e (row_next g.size owner root (content_in second.pages) (lists second.orders) Stay
            was late levels made.ends made.row e) (made_orders ++ []) [] made.ends
        steps = append_room g owner root (content_in second.pages) (content_in last.pages)
            (lists second.orders) (lists last.orders) (Add e) was late new levels made.ends made.ends e e []
            [] made.ends (record { has = widens.has; ordered = widens.ordered }) made.row made.full made.takes leaf_row

        abbrev row : ChangesTree g.size owner root (content_in last.pages) (lists last.orders) (Add e) was
            levels new made.ends
        row = steps.row

        all_orders : last.orders ≡ start.orders ++ row_orders g.size owner root (content_in last.pages)
            (lists last.orders) (Add e) was new levels made.ends row
        all_orders = puts.puts.same_orders ∙ (made.adds
            ∙ ap (λ (os : List Order). start.orders ++ os) (sym (steps.adds ∙ ended made_orders)))

        held : EachOrder (λ a b. content_in last.pages b ≢ None) (row_orders g.size owner root
            (content_in last.pages) (lists last.orders) (Add e) was new levels made.ends row)
        held = subst (EachOrder (λ a b. content_in last.pages b ≢ None)) (sym (steps.adds ∙ ended made_orders))
            (each_more (λ a b. content_in second.pages b ≢ None) (λ a b. content_in last.pages b ≢ None)
            made_orders (λ a b some. widens.has b some) made.held)

        changed : HasChanged g.size owner root (Add e) was new made.ends
        changed = pool_changed g.size owner root (content_in last.pages) (lists last.orders) (Add e) was new
            levels made.ends row stands.tree

        has_it : Finds new e root
        has_it = leaf_found g.size new owner root made.ends page.page.0 e changed.tree made.stands.placed
            (rewrites.level ∙ late_low) (subst (λ (b : List ℕ). HasEntry (entries_of b) e) (sym new_n)
            (subst (λ (es : List Entry). HasEntry es e) (sym inserts.is)
            (back_has inserts.front (e ∷ inserts.back) e (inl refl))))

        alone : (k : ℕ) → InTree levels k → level_in (was k) ≡ 0 → Covers was k e → HasRoom (was k) e
            → ((m : ℕ) → m ≢ k → new m ≡ was m) × (last.orders ≡ start.orders)
        alone k placed level covers_k room =
            let is_k : k ≡ full.page.0 = one_leaf_covers k placed level covers_k in
            let kept = in_place (subst (λ (b : List ℕ). HasRoom b e)
            (ap was is_k ∙ sym stands.bytes) room) in
            let page_k : page.page.0 ≡ k = ap (λ (q : PageBytes). q.page.0) kept.0 ∙ sym is_k in (
              (λ m other. others m (λ same. other (same ∙ page_k))
                  ∙ (ap (λ (b : Changed). viewed store image b m) kept.1
                  ∙ ap (λ (pages : Pages). pages m) (sym viewed_was))),
              puts.puts.same_orders ∙ ap (λ (b : Changed). b.orders) kept.1,
            )

        pub inserts_it : PutsAndTakes g was new start last owner root levels e
        inserts_it = record {
          puts = record {
            ends = made.ends;
            row = row;
            adds = all_orders;
            held = held;
            full = steps.full;
            tree = changed.tree;
            no_inventory = made.stands.no_inventory;
            wider = made.wider;
            fresh = made.fresh;
            others = λ m out none_. others m (λ same. out (subst (InTree made.ends) (sym same)
                made.stands.placed)) ∙ made.others m out none_;
            few =
                let room = made.few in
                let one = put_few second last page.page.0 puts.bytes puts.puts in
                omega (arith, room, one);
            more_pages = let room = made.more_pages in omega (arith, room);
            has = has_it;
            keeps = λ f found. changed.keeps f tt found;
            only = λ f found. changed.only f found;
            once = λ found. absurd (absent_there no_place found);
            in_place = alone;
          };
          takes = steps.takes;
        }
