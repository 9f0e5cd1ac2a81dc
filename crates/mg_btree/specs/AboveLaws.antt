-- A page is taken for a half, and the page above is found.
use Rattle.std.proofs.Common.{◌≡◌, ◌∙◌, ap, refl, sym, subst, ◌≤◌, ◌/◌, ◌+◌, ℕ, true, false, List, Bool, Some, None, take, drop, length, length-take, Result, Ok, Err, arith}
use Rattle.std.specs.Prelude.{IsErrAnd}
use Rattle.mg_base.specs.Disk.{Meaning}
use Rattle.mg_base.specs.Image.{Image}
use Rattle.mg_base.specs.declared.geometry.Geometry.{Geometry}
use Rattle.mg_node.specs.declared.entry.Entry.{Entry}
use Rattle.mg_node.specs.declared.entry.TheConstants.{CONTENT_AT, KEY_AT}
use Rattle.mg_node.specs.NodePage.{IsNodePage, entry_at, has_low, key_len, level_in, low_of}
use Rattle.mg_image.specs.Form.{Pages}
use Rattle.mg_image.specs.Indexes.{as_fence}
use Rattle.mg_node_writing.specs.NodeChanges.{IsSized}
use Rattle.mg_pool.specs.Batch.{Changed}
use Rattle.mg_pool.specs.declared.pool.Pool.{Pool}
use Rattle.mg_space.specs.Taking.{IsGeometry, PutsInventory, RefusesTake, TakesPage}
use Rattle.mg_space.specs.TakingLaws.{page_sizes}
use Rattle.mg_space.specs.View.{KeepsStore, Tells, viewed}
use Rattle.mg_space.specs.ViewLaws.{tells_on, viewed_on}
use Rattle.mg_space.specs.declared.fault.SpaceFault.{SpaceFault}
use Rattle.mg_space.specs.declared.fault.SpaceFault.TheVariants.{Full, Pool as OfPool, Damaged as OfPage}
use Rattle.mg_tree_overlay_laws.specs.TreeSteps.{InTree}
use Rattle.mg_tree_overlay_laws.specs.GrowParts.{root_in}
use Rattle.mg_btree.specs.declared.halves.Halves.{Halves}
use Rattle.mg_btree.specs.declared.halves.PageBytes.{PageBytes}
use Rattle.mg_btree.specs.declared.making.Split.{Split}
use Rattle.mg_btree.specs.declared.node.ReadNode.{ReadNode}
use Rattle.mg_btree.specs.Halves.{AreHalves}
use Rattle.mg_btree.specs.Making.{TakesAbove, TakesRight}
use Rattle.mg_btree.specs.OrderLaws.{taken_put}
use Rattle.mg_btree.specs.Rooms.{StandsIn, TakesInto}
use Rattle.mg_btree.specs.Searching.{BeginsAt, ComesTo}
use Rattle.mg_btree.specs.SearchLaws.{begins_root}
use Rattle.mg_btree.specs.TakeLaws.{taken_same, taken_tree}

pub sized_by : (g : Geometry) (page : List ℕ) → IsGeometry g → length page ≡ g.size → IsSized page
sized_by g page lawful len =
    let sizes = page_sizes g.size lawful.size in
    let least = sizes.0 in
    let most = sizes.1 in
    record { least = omega (arith, len, least); most = omega (arith, len, most) }

pub halves_own : (full : PageBytes) (at : ℕ) (halves : Halves)
    → AreHalves full.bytes full.page.0 at halves
    → AreHalves full.bytes full.page.0 halves.right.page.0 halves
halves_own full at halves is = subst (λ (k : ℕ). AreHalves full.bytes full.page.0 k halves)
    (sym is.right_own) is

pub right_refused : (g : Geometry) (old new : Pages) (batch : Changed) (fault : SpaceFault)
    (result : Result Halves SpaceFault) → IsErrAnd result (λ f. f ≡ fault) → RefusesTake g old fault
    → TakesRight g old new batch result
right_refused g old new batch fault (Ok halves) none refused = absurd none
right_refused g old new batch fault (Err f) same refused =
    subst (RefusesTake g old) (sym same) refused

pub right_taken : (g : Geometry) (old new : Pages) (before batch : Changed) (full : PageBytes) (at : ℕ)
    (halves : Halves) → AreHalves full.bytes full.page.0 at halves → TakesPage g old new at
    → PutsInventory g before batch at → TakesRight g old new batch (Ok halves)
right_taken g old new before batch full at halves is takes puts =
    subst (λ (k : ℕ). TakesInto g old new batch k) (sym is.right_own)
    (record { takes = takes; put = taken_put g before batch at puts })

pub above_err : (g : Geometry) (old new : Pages) (batch : Changed) (levels : List (List ℕ))
    (fault : SpaceFault) (result : Result Split SpaceFault) → IsErrAnd result (λ f. f ≡ fault)
    → RefusesTake g old fault → TakesAbove g old new batch levels result
above_err g old new batch levels fault (Ok split) none refused = absurd none
above_err g old new batch levels fault (Err f) same refused =
    subst (RefusesTake g old) (sym same) refused

-- ---- the key of a fence is short

take_short : (n : ℕ) (xs : List ℕ) → length (take n xs) ≤ n
take_short n xs = grind (arith, length-take)

low_there : (page : List ℕ) (e : Entry) → low_of page ≡ Some e → has_low page ≡ true
low_there page e is = at (has_low page) refl
  where
    at : (b : Bool) → has_low page ≡ b → b ≡ true
    at true same = refl
    at false same = let none : None ≡ Some e = sym (rw same refl) ∙ is in absurd cc

pub fence_short : (size : ℕ) (old left right : List ℕ) (fence : Entry) → IsNodePage right
    → low_of right ≡ Some (as_fence fence) → length right ≡ size → length fence.key ≤ size / 8
fence_short size old left right fence lawful low len = lawful_short
  where
    there : has_low right ≡ true
    there = low_there right (as_fence fence) low

    key_is : (take (key_len right CONTENT_AT) (drop (CONTENT_AT + KEY_AT) right)) ≡ fence.key
    key_is =
        let some : Some (entry_at false right CONTENT_AT) ≡ Some (as_fence fence) = sym (rw there refl) ∙ low in
        let same : entry_at false right CONTENT_AT ≡ as_fence fence = cc in
        ap (λ (e : Entry). e.key) same

    lawful_short : length fence.key ≤ size / 8
    lawful_short =
        let short = take_short (key_len right CONTENT_AT) (drop (CONTENT_AT + KEY_AT) right) in
        let most = lawful.low_key there in
        let len_key : length (take (key_len right CONTENT_AT) (drop (CONTENT_AT + KEY_AT) right)) ≡ length fence.key = ap (λ (k : List ℕ). length k) key_is in
        omega (arith, short, most, len_key, len)

-- ---- the page above

module _ {D L : Type 0} (m : Meaning D) (old a : Pool D L) (image : Image) (keeps : KeepsStore m old a)
    (lawful : IsGeometry old.geometry) (start first : Changed) (owner root top level : ℕ)
    (levels : List (List ℕ)) (full : PageBytes) (halves : Halves) (result : Result ReadNode SpaceFault)
    (tells : Tells m old.disk image)
    (top_is : top ≡ level_in (viewed old image start root))
    (stands : StandsIn old.geometry.size (viewed old image start) owner root levels full)
    (takes : TakesInto old.geometry (viewed old image start) (viewed old image first) first
    halves.right.page.0)
    (comes : (image : Image) (tree_root : ℕ) (levels : List (List ℕ)) → Tells m a.disk image
    → BeginsAt a.geometry.size (viewed a image first) owner tree_root levels halves.fence top root
    → ComesTo (viewed a image first) levels result)
  where
    placed : InTree levels root
    placed = root_in old.geometry.size (viewed old image start) owner root levels stands.tree.rooted
        stands.tree

    begins : BeginsAt old.geometry.size (viewed old image first) owner root levels halves.fence top root
    begins = subst (λ (k : ℕ). BeginsAt old.geometry.size (viewed old image first) owner root levels
        halves.fence k root)
        (ap level_in (taken_same old.geometry lawful owner root levels stands.no_inventory
        (viewed old image start) (viewed old image first) halves.right.page.0 takes.takes stands.tree root
        (stands.no_inventory root placed)) ∙ sym top_is)
        (begins_root old.geometry.size (viewed old image first) owner root levels halves.fence
        (taken_tree old.geometry lawful owner root levels stands.no_inventory (viewed old image start)
        (viewed old image first) halves.right.page.0 takes.takes stands.tree))

    there : ComesTo (viewed old image first) levels result
    there = subst (λ (pages : Pages). ComesTo pages levels result) (viewed_on m old a image first keeps)
        (comes image root levels (tells_on m old a image keeps tells)
        (subst (λ (g : Geometry). BeginsAt g.size (viewed a image first) owner root levels halves.fence top
        root) (sym keeps.geometry)
        (subst (λ (pages : Pages). BeginsAt old.geometry.size pages owner root levels halves.fence top root)
        (sym (viewed_on m old a image first keeps)) begins)))

    pub above_read : (read : ReadNode) (split : Split) → result ≡ Ok read → split.halves ≡ halves
        → split.above ≡ read
        → TakesAbove old.geometry (viewed old image start) (viewed old image first) first levels (Ok split)
    above_read read split is same_halves same_above =
        let on : ComesTo (viewed old image first) levels (Ok read) =
        subst (ComesTo (viewed old image first) levels) is there in (
          subst (λ (h : Halves). TakesInto old.geometry (viewed old image start) (viewed old image first)
              first h.right.page.0) (sym same_halves) takes,
          subst (λ (r : ReadNode). r.bytes ≡ viewed old image first r.page.0) (sym same_above) on.0,
          subst (λ (r : ReadNode). InTree levels r.page.0) (sym same_above) on.1,
        )

    pub above_unread : (fault : SpaceFault) (result_ : Result Split SpaceFault) → result ≡ Err fault
        → IsErrAnd result_ (λ f. f ≡ fault)
        → TakesAbove old.geometry (viewed old image start) (viewed old image first) first levels result_
    above_unread fault result_ is same = above_err old.geometry (viewed old image start)
        (viewed old image first) first levels fault result_ same
        (by fault (subst (ComesTo (viewed old image first) levels) is there))
      where
        by : (fault : SpaceFault) → ComesTo (viewed old image first) levels (Err fault)
            → RefusesTake old.geometry (viewed old image start) fault
        by (Full limit) none = absurd none
        by (OfPage damage) none = absurd none
        by (OfPool f) is = tt
