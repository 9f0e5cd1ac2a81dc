-- The pages that an entry's way into a tree puts lie below the page limit: they were read, or taken.
use Rattle.std.proofs.Common.{◌≡◌, ◌≢◌, ◌⊎◌, inl, inr, ◌∙◌, refl, sym, subst, ◌<◌, ℕ, List, length, Result, Ok, Err}
use Rattle.std.specs.Prelude.{IfOk, OnOk}
use Rattle.std.specs.declared.cmp.Ordering.{Ordering}
use Rattle.std.specs.declared.cmp.Ordering.TheVariants.{Less, Equal, Greater}
use Rattle.std.proofs.lemmas.Bool.{cases_eq}
use Rattle.mg_base.specs.declared.geometry.Geometry.{Geometry}
use Rattle.mg_careful.specs.declared.graph.Order.{Order}
use Rattle.mg_node.specs.declared.entry.Entry.{Entry}
use Rattle.mg_node.specs.NodePage.{IsAtLeast, entry_cmp}
use Rattle.mg_pool.specs.Batch.{AreBelow, Changed, PutsPage}
use Rattle.mg_pool.specs.declared.batch.BatchPage.{BatchPage}
use Rattle.mg_space.specs.BelowLaws.{all_below, taken_below}
use Rattle.mg_space.specs.Taking.{PutsInventory}
use Rattle.mg_space.specs.View.{AreWhole}
use Rattle.mg_space.specs.ViewLaws.{whole_on}
use Rattle.mg_space.specs.declared.fault.SpaceFault.{SpaceFault}
use Rattle.mg_tree_overlay_laws.specs.TreeBatches.{inventory_of}
use Rattle.mg_btree.specs.declared.growing.TwoPages.{TwoPages}
use Rattle.mg_btree.specs.declared.halves.Halves.{Halves}
use Rattle.mg_btree.specs.declared.halves.PageBytes.{PageBytes}
use Rattle.mg_btree.specs.Halves.{IsHalfFor}
use Rattle.mg_btree.specs.Inserting.{PutsWith}
use Rattle.mg_btree.specs.Making.{SplitsIn, SplitsRoot}
use Rattle.mg_btree.specs.Ordering.{AddsOrders, PutsThree, Widens}

-- ---- batches

-- with the inventory page of a page that was taken
pub taken_whole : (g : Geometry) (old new : Changed) (n : ℕ) → AreWhole g old.pages
    → PutsInventory g old new n → AreWhole g new.pages
taken_whole g old new n whole puts = whole_on g old new (inventory_of g.size n) puts.bytes whole puts.len
    (taken_below g (inventory_of g.size n) puts.region) puts.puts

-- with a page more that lies below the limit
pub put_below : (limit : ℕ) (old new : Changed) (n : ℕ) (bytes : List ℕ) → AreBelow limit old.pages
    → n < limit → PutsPage old new n bytes → AreBelow limit new.pages
put_below limit old new n bytes below low puts page content is = at (cases_eq page n)
  where
    at : (page ≡ n) ⊎ (page ≢ n) → page < limit
    at (inl same) = subst (λ (k : ℕ). k < limit) (sym same) low
    at (inr other) = below page content (sym (puts.others page other) ∙ is)

three_below : (limit : ℕ) (old new : Changed) (a b c : ℕ) (of_a of_b of_c : List ℕ)
    → AreBelow limit old.pages → a < limit → b < limit → c < limit
    → PutsThree old new a b c of_a of_b of_c → AreBelow limit new.pages
three_below limit old new a b c of_a of_b of_c below low_a low_b low_c puts =
    put_below limit puts.second new c of_c
    (put_below limit puts.first puts.second b of_b
    (put_below limit old puts.first a of_a below low_a puts.puts_a) low_b puts.puts_b) low_c puts.puts_c

added_below : (limit : ℕ) (old new : Changed) (orders : List Order) → AddsOrders old new orders
    → AreBelow limit old.pages → AreBelow limit new.pages
added_below limit old new orders adds below =
    subst (λ (pages : List BatchPage). AreBelow limit pages) (sym adds.same_pages) below

-- contents of one page's length, on pages below the limit
both : (g : Geometry) (old new : Changed) → AreWhole g old.pages → Widens g.size old new
    → AreBelow g.limit new.pages → AreWhole g new.pages
both g old new whole widens below page bytes is = (
  widens.whole (λ n content has. (whole n content has).0) page bytes is,
  below page bytes is,
)

-- ---- pages that split

half_below : (limit : ℕ) (halves : Halves) (e : Entry) (half : PageBytes) → IsHalfFor halves e half
    → halves.left.page.0 < limit → halves.right.page.0 < limit → half.page.0 < limit
half_below limit halves e half which left right = by (entry_cmp e halves.fence) refl
  where
    is_right : IsAtLeast e halves.fence → half.page.0 < limit
    is_right up = subst (λ (p : PageBytes). p.page.0 < limit) (sym (which.upper up)) right

    by : (o : Ordering) → entry_cmp e halves.fence ≡ o → half.page.0 < limit
    by Less same = subst (λ (p : PageBytes). p.page.0 < limit) (sym (which.lower same)) left
    by Equal same = is_right (λ less. let one : Less ≡ Equal = sym less ∙ same in cc)
    by Greater same = is_right (λ less. let one : Less ≡ Greater = sym less ∙ same in cc)

module _ (g : Geometry) (old new : Changed) (halves : Halves) (above : PageBytes) (e : Entry)
    (left : halves.left.page.0 < g.limit) (right : halves.right.page.0 < g.limit)
    (up : above.page.0 < g.limit) where
  pub split_whole : (result : Result PageBytes SpaceFault) → AreWhole g old.pages
      → Widens g.size old new → SplitsIn g.size old new halves above e result
      → OnOk result (AreWhole g new.pages)
  split_whole (Ok half) whole widens is = both g old new whole widens
      (added_below g.limit is.puts.put new _ is.puts.orders
      (three_below g.limit old is.puts.put halves.right.page.0 halves.left.page.0 above.page.0
      halves.right.bytes halves.left.bytes is.named (all_below g old.pages whole) right left up is.puts.puts))
  split_whole (Err fault) whole widens is = tt

  pub split_half : (result : Result PageBytes SpaceFault) → SplitsIn g.size old new halves above e result
      → IfOk result (λ half. half.page.0 < g.limit)
  split_half (Ok half) is = half_below g.limit halves e half is.is_half left right
  split_half (Err fault) is = tt

module _ (g : Geometry) (old new : Changed) (owner level : ℕ) (full : PageBytes) (two : TwoPages) (e : Entry)
    (half : PageBytes) (own : full.page.0 < g.limit) (first : two.first.0 < g.limit)
    (second : two.second.0 < g.limit) (is : SplitsRoot g.size old new owner level full two e half) where
  left_low : is.growth.halves.left.page.0 < g.limit
  left_low = subst (λ (k : ℕ). k < g.limit) (sym is.is.halves.left_own) first

  right_low : is.growth.halves.right.page.0 < g.limit
  right_low = subst (λ (k : ℕ). k < g.limit) (sym is.is.halves.right_own) second

  pub root_whole : AreWhole g old.pages → Widens g.size old new → AreWhole g new.pages
  root_whole whole widens = both g old new whole widens
      (added_below g.limit is.puts.put new _ is.puts.orders
      (three_below g.limit old is.puts.put is.growth.halves.left.page.0 is.growth.halves.right.page.0
      is.growth.root.page.0 is.growth.halves.left.bytes is.growth.halves.right.bytes is.growth.root.bytes
      (all_below g old.pages whole) left_low right_low
      (subst (λ (k : ℕ). k < g.limit) (sym is.is.own) own) is.puts.puts))

  pub root_half : half.page.0 < g.limit
  root_half = half_below g.limit is.growth.halves e half is.is_half left_low right_low

-- a leaf with an entry more
pub with_whole : (g : Geometry) (old new : Changed) (page : PageBytes) (e : Entry) → AreWhole g old.pages
    → length page.bytes ≡ g.size → page.page.0 < g.limit → PutsWith old new page e → AreWhole g new.pages
with_whole g old new page e whole len below puts =
    whole_on g old new page.page.0 puts.bytes whole (puts.len ∙ len) below puts.puts
