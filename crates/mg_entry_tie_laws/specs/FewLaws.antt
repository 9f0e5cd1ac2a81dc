-- How many pages an insertion takes: those that its tree has more, and no others.
use Rattle.std.proofs.Common.{◌≡◌, ◌⊎◌, inl, inr, ◌∙◌, ap, refl, sym, subst, arith, ◌≤◌, ◌+◌, ℕ, true, false, List, [], ◌∷◌, ◌++◌, length}
use Rattle.mg_base.specs.declared.geometry.Geometry.{Geometry}
use Rattle.mg_node.specs.NodePage.{level_in}
use Rattle.mg_pool.specs.Batch.{content_in, lists}
use Rattle.mg_image.specs.Form.{Pages}
use Rattle.mg_image.specs.Indexes.{EachPage}
use Rattle.mg_image.specs.Inventory.{inventory_page, is_used}
use Rattle.mg_image.specs.Tables.{Has, IsOnce}
use Rattle.mg_space.specs.FreePages.{TakingKeepsRegions}
use Rattle.mg_space.specs.Taking.{IsGeometry}
use Rattle.mg_space.specs.TakingLaws.{own_region, takes_bit, takes_keeps}
use Rattle.mg_tree_overlay_laws.specs.GrowParts.{root_in}
use Rattle.mg_tree_overlay_laws.specs.TreeBatches.{Add}
use Rattle.mg_tree_overlay_laws.specs.TreeHeightLaws.{each_both, length_both, once_few, trees_are_low}
use Rattle.mg_tree_overlay_laws.specs.TreeOnceLaws.{has_either, in_levels, has_placed, once_both, tree_once}
use Rattle.mg_tree_overlay_laws.specs.TreePages.{all_of}
use Rattle.mg_tree_overlay_laws.specs.TreeSteps.{InTree, StaysUsed}
use Rattle.mg_btree.specs.TakeLaws.{no_true, unused_before}
use Rattle.mg_free_page_laws.specs.FreeLaws.{both_taken, none_taken, one_taken, same_taken, takes_more}
use Rattle.mg_free_page_laws.specs.FreePages.{TakesAtMost}
use Rattle.mg_entry_tie_laws.specs.Laws.{InsertionsTakeEighteen, InsertionsTakeFew}
use Rattle.mg_entry_tie_laws.specs.RowLaws.{ChangesPage, TakesOne, across_row, node_used}

-- These pages were taken, each once, which are pages of a tree, and no others.
pub record TakesThese (g : Geometry) (at_end : List (List ℕ)) (old new : Pages) : Type 0 where
  pub pages : List ℕ
  pub once : IsOnce pages
  pub placed : EachPage (InTree at_end) pages
  pub was : (n : ℕ) → Has pages n → is_used g.size old n ≡ false
  pub is : (n : ℕ) → Has pages n → is_used g.size new n ≡ true
  pub used : StaysUsed g.size old new
  pub takes : TakesAtMost g old new (length pages)

module _ (keeps : TakingKeepsRegions) (g : Geometry) (lawful : IsGeometry g) (at_end : List (List ℕ)) where
  takes_none : (pages : Pages) → TakesThese g at_end pages pages
  takes_none pages = record {
    pages = [];
    once = tt;
    placed = tt;
    was = λ n none. absurd none;
    is = λ n none. absurd none;
    used = λ n is. is;
    takes = same_taken g pages pages (λ n. refl);
  }

  takes_both : (a b c : Pages) → TakesThese g at_end a b → TakesThese g at_end b c → TakesThese g at_end a c
  takes_both a b c first second = record {
    pages = first.pages ++ second.pages;
    once = once_both first.pages second.pages first.once second.once
        (λ n here there. no_true (is_used g.size b n) (second.was n there) (first.is n here));
    placed = each_both (InTree at_end) first.pages second.pages first.placed second.placed;
    was = λ n has. was n (has_either first.pages second.pages n has);
    is = λ n has. is n (has_either first.pages second.pages n has);
    used = λ n used. second.used n (first.used n used);
    takes = subst (TakesAtMost g a c) (sym (length_both first.pages second.pages))
        (both_taken g a b c (length first.pages) (length second.pages) first.takes second.takes);
  }
    where
      was : (n : ℕ) → Has first.pages n ⊎ Has second.pages n → is_used g.size a n ≡ false
      was n (inl here) = first.was n here
      was n (inr there) = unused_before g.size a b n first.used (second.was n there)

      is : (n : ℕ) → Has first.pages n ⊎ Has second.pages n → is_used g.size c n ≡ true
      is n (inl here) = second.used n (first.is n here)
      is n (inr there) = second.is n there

  -- a page of the tree changes: no bit does
  change_takes : (old new : Pages) → ChangesPage g.size old new at_end → TakesThese g at_end old new
  change_takes old new is = record {
    pages = [];
    once = tt;
    placed = tt;
    was = λ n none. absurd none;
    is = λ n none. absurd none;
    used = is.used;
    takes = none_taken g old new (λ region below. is.others (inventory_page g.size region)
        (λ same. is.no_inventory (inventory_page g.size region)
        (ap (inventory_page g.size) (own_region g.size region lawful.size) ∙ same)));
  }

  one_takes : (old new : Pages) → TakesOne g old new at_end → TakesThese g at_end old new
  one_takes old new is = record {
    pages = is.takes.page ∷ [];
    once = ((λ none. none), tt);
    placed = (is.takes.placed, tt);
    was = λ n has. was n has;
    is = λ n has. now n has;
    used = takes_keeps g old new is.takes.page lawful is.takes.takes;
    takes = one_taken keeps g old new is.takes.page lawful is.takes.takes;
  }
    where
      was : (n : ℕ) → Has (is.takes.page ∷ []) n → is_used g.size old n ≡ false
      was n (inl same) = subst (λ (m : ℕ). is_used g.size old m ≡ false) (sym same) is.takes.takes.free.unused
      was n (inr none) = absurd none

      now : (n : ℕ) → Has (is.takes.page ∷ []) n → is_used g.size new n ≡ true
      now n (inl same) = subst (λ (m : ℕ). is_used g.size new m ≡ true) (sym same)
          (takes_bit g old new is.takes.page lawful is.takes.takes)
      now n (inr none) = absurd none

each_in : (levels : List (List ℕ)) (ns : List ℕ) → EachPage (InTree levels) ns → EachPage (Has (all_of levels)) ns
each_in levels [] each = tt
each_in levels (n ∷ ns) each = (in_levels levels n each.0, each_in levels ns each.1)

each_wide : (levels ends : List (List ℕ)) → ((n : ℕ) → InTree levels n → InTree ends n) → (ns : List ℕ)
    → ((n : ℕ) → Has ns n → Has (all_of levels) n) → EachPage (Has (all_of ends)) ns
each_wide levels ends wider [] within = tt
each_wide levels ends wider (n ∷ ns) within = (
  in_levels ends n (wider n (has_placed levels n (within n (inl refl)))),
  each_wide levels ends wider ns (λ m has. within m (inr has)),
)

pub insertions_take_few : TakingKeepsRegions → InsertionsTakeFew
insertions_take_few keeps g old new earlier batch owner root levels e lawful tree is =
    takes_more g old new (length these.pages) (level_in (old root) + 2) few these.takes
  where
    these : TakesThese g is.puts.ends old new
    these = across_row g is.puts.ends (TakesThese g is.puts.ends) (takes_none keeps g lawful is.puts.ends)
        (takes_both keeps g lawful is.puts.ends) (change_takes keeps g lawful is.puts.ends)
        (one_takes keeps g lawful is.puts.ends) owner root (content_in batch.pages) (lists batch.orders) (Add e)
        (is.puts.wider root (root_in g.size old owner root levels tree.rooted tree)) old new levels is.puts.ends
        is.puts.row [] is.takes is.puts.wider (λ n none. absurd none)

    -- they are none of those that the tree had
    few : length these.pages ≤ level_in (old root) + 2
    few =
        let all_ = once_few (these.pages ++ all_of levels) (all_of is.puts.ends)
        (once_both these.pages (all_of levels) these.once (tree_once g.size old owner root levels tree)
        (λ n here there. no_true (is_used g.size old n) (these.was n here)
        (node_used g.size old owner levels n tree.nodes (has_placed levels n there))))
        (each_both (Has (all_of is.puts.ends)) these.pages (all_of levels) (each_in is.puts.ends these.pages these.placed)
        (each_wide levels is.puts.ends is.puts.wider (all_of levels) (λ n has. has))) in
        let long = length_both these.pages (all_of levels) in
        let more = is.puts.more_pages in omega (arith, all_, long, more)

pub insertions_take_eighteen : TakingKeepsRegions → InsertionsTakeEighteen
insertions_take_eighteen keeps g old new earlier batch owner root levels e lawful tree is =
    let low = (trees_are_low g.size old owner root levels tree).1 in
    takes_more g old new (level_in (old root) + 2) 18 (omega (arith, low))
    (insertions_take_few keeps g old new earlier batch owner root levels e lawful tree is)
