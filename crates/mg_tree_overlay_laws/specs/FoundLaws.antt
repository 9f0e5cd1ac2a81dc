-- In a tree whose pages have their low fence below their high one, what a leaf has is found from
-- the root.
use Rattle.std.proofs.Common.{◌≡◌, ◌≢◌, ◌⊎◌, inl, inr, ◌∙◌, refl, sym, subst, ◌==◌, ℕ, suc, Bool, true, false, not, List, [], ◌∷◌, Option, Some, None, length, arith, eq-eqb}
use Rattle.std.specs.Prelude.{IfSome, if◌then◌else◌}
use Rattle.std.proofs.lemmas.Bool.{ne_eqb}
use Rattle.std.specs.declared.cmp.Ordering.TheVariants.{Less}
use Rattle.mg_node.specs.declared.entry.Entry.{Entry}
use Rattle.mg_node.specs.NodePage.{AreBetween, IsAtLeast, IsBelow, entries_of, entry_at, entry_cmp, has_high, high_at, high_of, level_in, low_of, right_in}
use Rattle.mg_image.specs.Form.{Pages}
use Rattle.mg_image.specs.Indexes.{AreNodes, EachPage, Finds, HasChildren, HasEntry, IsNode, IsTree, LevelChain, Levels, above, as_fence, down, first_level, here, lowest, right}
use Rattle.mg_image.specs.Tables.{Has, ended, goes}
use Rattle.mg_node.specs.EntryOrderLaws.{entry_cmp_total}
use Rattle.mg_tree_overlay_laws.specs.EntryLaws.{between_has, child_among, is_less, last_exists}
use Rattle.mg_tree_overlay_laws.specs.GrowLaws.{AreChains, chains_of}
use Rattle.mg_tree_overlay_laws.specs.StepLaws.{each_has, entries_some, first_in}
use Rattle.mg_tree_overlay_laws.specs.TreesBehind.{InLeaves, IsFrom, OnPages}

-- an entry lies from a fence on, where there is one
abbrev From : Entry → Option Entry → Type 0
From e low = IfSome low (λ fence. IsAtLeast e fence)

abbrev UpTo : Entry → Option Entry → Type 0
UpTo e high = IfSome high (λ fence. IsBelow e fence)

from_trans : (e : Entry) (low high : Option Entry) → IfSome low (λ a. IfSome high (λ b. IsBelow a b))
    → (b : Entry) → high ≡ Some b → IsAtLeast e b → From e low
from_trans e None high range b is past = tt
from_trans e (Some a) high range b is past = λ less. past
    (entry_cmp_total.trans e a b less (subst (λ (x : Option Entry). IfSome x (λ c. IsBelow a c)) is range))

pub from_between : (low high : Option Entry) (es : List Entry) (e : Entry) → AreBetween low high es → HasEntry es e
    → From e low
from_between low high [] e all has = absurd has
from_between low high (f ∷ fs) e all (inl same) = rw same all.0
from_between low high (f ∷ fs) e all (inr later) = from_between low high fs e all.2 later

-- a page with a right neighbour has a high fence
high_there : (page : List ℕ) → has_high page ≡ true → (b : Entry) × (high_of page ≡ Some b)
high_there page has = (entry_at false page (high_at page), rw has refl)

pub high_left : (page : List ℕ) (b : Entry) → high_of page ≡ Some b → has_high page ≡ true
high_left page b is = at (has_high page) is
  where
    at : (x : Bool) → (if x then Some (entry_at false page (high_at page)) else None) ≡ Some b → x ≡ true
    at true is = refl
    at false is = absurd cc

pub neighbour : (k : ℕ) → true ≡ not (k == 0) → k ≢ 0
neighbour k is zero_ = absurd (let e = rw (eq-eqb k 0 zero_) at is in cc)

module _ (size : ℕ) (pages : Pages) (owner : ℕ) (e : Entry) where
  -- where the right neighbour's fence is behind an entry, the page's high fence is
  pub past_high : (level : ℕ) (below : List ℕ) (n : ℕ) → IsNode size pages owner level below n
      → right_in (pages n) ≢ 0 → IsFrom pages e (right_in (pages n))
      → (b : Entry) × (high_of (pages n) ≡ Some b) × IsAtLeast e b
  past_high level below n node some from =
      let high = high_there (pages n) (node.high ∙ rw (ne_eqb (right_in (pages n)) 0 some) refl) in
      (high.0, high.1, subst (From e) (node.fence some ∙ high.1) from)

  -- fences go up along a level
  pub from_first : (level : ℕ) (below : List ℕ) (first : ℕ) (ns : List ℕ) (m : ℕ) → LevelChain pages first ns
      → EachPage (IsNode size pages owner level below) ns → Has ns m
      → IsFrom pages e m → IsFrom pages e first
  from_first level below first ns m ended nodes has from = absurd has
  from_first level below first ns m (goes n ms some more) nodes (inl same) from =
      subst (IsFrom pages e) same from
  from_first level below first ns m (goes n ms some more) nodes (inr later) from =
      let past = past_high level below n nodes.0 (right_some (right_in (pages n)) ms more later)
      (from_first level below (right_in (pages n)) ms m more nodes.1 later from) in
      from_trans e (low_of (pages n)) (high_of (pages n)) nodes.0.apart past.0 past.1 past.2
    where
      right_some : (k : ℕ) (ms : List ℕ) → LevelChain pages k ms → Has ms m → k ≢ 0
      right_some k ms ended has = absurd has
      right_some k ms (goes j js other rest) has = other

  on_has : (ns : List ℕ) → OnPages pages ns e → (m : ℕ) × Has ns m × HasEntry (entries_of (pages m)) e
  on_has [] on = absurd on
  on_has (n ∷ ns) (inl has) = (n, inl refl, has)
  on_has (n ∷ ns) (inr later) = let more = on_has ns later in (more.0, inr more.1, more.2)

  from_on : (level : ℕ) (below : List ℕ) (first : ℕ) (ns : List ℕ) → LevelChain pages first ns
      → EachPage (IsNode size pages owner level below) ns → OnPages pages ns e
      → IsFrom pages e first
  from_on level below first ns chain nodes on =
      let there = on_has ns on in
      let node = each_has (IsNode size pages owner level below) ns there.0 there.1 nodes in
      from_first level below first ns there.0 chain nodes there.1
      (from_between (low_of (pages there.0)) (high_of (pages there.0)) (entries_of (pages there.0)) e
      node.lawful.between there.2)

  on_some : (k : ℕ) (ns : List ℕ) → LevelChain pages k ns → OnPages pages ns e → k ≢ 0
  on_some k ns ended on = absurd on
  on_some k ns (goes j js other rest) on = other

  -- along the leaves
  leaf_walk : (below : List ℕ) (first : ℕ) (ns : List ℕ) → LevelChain pages first ns
      → EachPage (IsNode size pages owner 0 below) ns → OnPages pages ns e
      → Finds pages e first
  leaf_walk below first ns ended nodes on = absurd on
  leaf_walk below first ns (goes n ms some more) nodes (inl has) = here n nodes.0.on_level has
  leaf_walk below first ns (goes n ms some more) nodes (inr later) =
      let past = past_high 0 below n nodes.0 (on_some (right_in (pages n)) ms more later)
      (from_on 0 below (right_in (pages n)) ms more nodes.1 later) in
      right n past.0 past.1 past.2 (leaf_walk below (right_in (pages n)) ms more nodes.1 later)

  leaf_from : (below : List ℕ) (first : ℕ) (ns : List ℕ) (m : ℕ) → LevelChain pages first ns
      → EachPage (IsNode size pages owner 0 below) ns → Has ns m
      → IsFrom pages e m → OnPages pages ns e → Finds pages e m
  leaf_from below first ns m ended nodes has from on = absurd has
  leaf_from below first ns m (goes n ms some more) nodes (inl same) from on =
      subst (Finds pages e) (sym same) (leaf_walk below n (n ∷ ms) (goes n ms some more) nodes on)
  leaf_from below first ns m (goes n ms some more) nodes (inr later) from (inr on) =
      leaf_from below (right_in (pages n)) ms m more nodes.1 later from on
  leaf_from below first ns m (goes n ms some more) nodes (inr later) from (inl has) =
      let past = past_high 0 below n nodes.0 (right_some (right_in (pages n)) ms more later)
      (from_first 0 below (right_in (pages n)) ms m more nodes.1 later from) in
      absurd (past.2 (subst (UpTo e) past.1 (between_has (low_of (pages n)) (high_of (pages n)) (entries_of (pages n)) e
      nodes.0.lawful.between has)))
    where
      right_some : (k : ℕ) (ms : List ℕ) → LevelChain pages k ms → Has ms m → k ≢ 0
      right_some k ms ended has = absurd has
      right_some k ms (goes j js other rest) has = other

  -- down from a page, or on to the right
  walk : (level : ℕ) (next : List ℕ) (first : ℕ) (ns : List ℕ) → LevelChain pages first ns
      → EachPage (IsNode size pages owner (suc level) next) ns → first ≢ 0 → IsFrom pages e first
      → ((c : ℕ) → Has next c → IsFrom pages e c → Finds pages e c) → Finds pages e first
  walk level next first ns ended nodes some from lower = absurd (some refl)
  walk level next first ns (goes n ms other more) nodes some from lower =
      at (high_of (pages n)) refl (λ next_some next_from.
      walk level next (right_in (pages n)) ms more nodes.1 next_some next_from lower)
    where
      node : IsNode size pages owner (suc level) next n
      node = nodes.0

      inner : level_in (pages n) ≢ 0
      inner = let on_level = node.on_level in omega arith

      child_from : (last : Entry) → IsAtLeast e last → (low_of (pages last.child.0) ≡ Some (as_fence last))
          ⊎ (low_of (pages last.child.0) ≡ low_of (pages n)) → IsFrom pages e last.child.0
      child_from last up (inl low) = subst (From e) (sym low) up
      child_from last up (inr low) = subst (From e) (sym low) from

      goes_down : UpTo e (high_of (pages n)) → Finds pages e n
      goes_down before =
          let found = last_exists (pages n) e node.lawful inner
          (entries_some size pages owner (suc level) next n (omega arith) node) from in
          let child = child_among pages next (low_of (pages n)) found.1.before found.1.after found.0
          (subst (HasChildren pages next (low_of (pages n))) found.1.parts (node.children (omega arith))) in
          down n found.0 inner before found.1
          (lower found.0.child.0 child.0 (child_from found.0 found.1.up_to child.1))

      which : (b : Entry) → high_of (pages n) ≡ Some b → (entry_cmp e b ≡ Less) ⊎ (entry_cmp e b ≢ Less)
          → (right_in (pages n) ≢ 0 → IsFrom pages e (right_in (pages n)) → Finds pages e (right_in (pages n)))
          → Finds pages e n
      which b is (inl less) on = goes_down (rw is less)
      which b is (inr past) on =
          let right_some : right_in (pages n) ≢ 0 =
          neighbour (right_in (pages n)) (sym (high_left (pages n) b is) ∙ node.high) in
          right n b is past (on right_some (subst (From e) (sym (node.fence right_some ∙ is)) past))

      at : (high : Option Entry) → high_of (pages n) ≡ high
          → (right_in (pages n) ≢ 0 → IsFrom pages e (right_in (pages n)) → Finds pages e (right_in (pages n)))
          → Finds pages e n
      at None is on = goes_down (rw is tt)
      at (Some b) is on = which b is (is_less (entry_cmp e b)) on

  walk_from : (level : ℕ) (next : List ℕ) (first : ℕ) (ns : List ℕ) (m : ℕ) → LevelChain pages first ns
      → EachPage (IsNode size pages owner (suc level) next) ns → Has ns m → IsFrom pages e m
      → ((c : ℕ) → Has next c → IsFrom pages e c → Finds pages e c) → Finds pages e m
  walk_from level next first ns m ended nodes has from lower = absurd has
  walk_from level next first ns m (goes n ms some more) nodes (inl same) from lower =
      subst (Finds pages e) (sym same) (walk level next n (n ∷ ms) (goes n ms some more) nodes some
      (subst (IsFrom pages e) same from) lower)
  walk_from level next first ns m (goes n ms some more) nodes (inr later) from lower =
      walk_from level next (right_in (pages n)) ms m more nodes.1 later from lower

  -- from each page whose low fence is not behind the entry
  levels_find : (levels : List (List ℕ)) (m : ℕ) → AreChains pages levels → AreNodes size pages owner levels
      → InLeaves pages levels e → Has (first_level levels) m → IsFrom pages e m
      → Finds pages e m
  levels_find [] m chains nodes on has from = absurd has
  levels_find (level ∷ []) m chains nodes on has from =
      leaf_from [] chains.0.0 level m chains.0.1 nodes.0 has from on
  levels_find (level ∷ next ∷ below) m chains nodes on has from =
      walk_from (length below) next chains.0.0 level m chains.0.1 nodes.0 has from
      (λ c placed lower. levels_find (next ∷ below) c chains.1 nodes.1 on placed lower)

-- what a leaf of a tree has is found from its root
pub leaves_found : (size : ℕ) (pages : Pages) (owner root : ℕ) (levels : List (List ℕ)) (e : Entry)
    → IsTree size pages owner root levels
    → InLeaves pages levels e → Finds pages e root
leaves_found size pages owner root levels e tree on =
    levels_find size pages owner e levels root (chains_of pages root levels tree.levels_from) tree.nodes on
    (top_has root levels tree.rooted tree.levels_from) (rw tree.root_low tt)
  where
    top_has : (n : ℕ) (levels : List (List ℕ)) → n ≢ 0 → Levels pages n levels → Has (first_level levels) n
    top_has n levels some (lowest m level chain) = first_in (λ k. right_in (pages k)) m level chain some
    top_has n levels some (above m level next lower chain more) =
        first_in (λ k. right_in (pages k)) m level chain some

-- ---- and what is found from the root a leaf has

module _ (size : ℕ) (pages : Pages) (owner : ℕ) (e : Entry) where
  put_on : (ns : List ℕ) (m : ℕ) → Has ns m → HasEntry (entries_of (pages m)) e → OnPages pages ns e
  put_on [] m has there = absurd has
  put_on (n ∷ ns) m (inl same) there = inl (subst (λ (k : ℕ). HasEntry (entries_of (pages k)) e) same there)
  put_on (n ∷ ns) m (inr later) there = inr (put_on ns m later there)

  pub right_on : (first : ℕ) (ns : List ℕ) (m : ℕ) → LevelChain pages first ns → Has ns m → right_in (pages m) ≢ 0
      → Has ns (right_in (pages m))
  right_on first ns m ended has some = absurd has
  right_on first ns m (goes n ms other more) (inl same) some =
      subst (λ (k : ℕ). Has (n ∷ ms) (right_in (pages k))) (sym same)
      (inr (first_in (λ k. right_in (pages k)) (right_in (pages n)) ms more
      (subst (λ (k : ℕ). right_in (pages k) ≢ 0) same some)))
  right_on first ns m (goes n ms other more) (inr later) some =
      inr (right_on (right_in (pages n)) ms m more later some)

  leaf_has : (levels : List (List ℕ)) (m : ℕ) → AreChains pages levels → AreNodes size pages owner levels
      → Has (first_level levels) m → Finds pages e m → InLeaves pages levels e
  leaf_has [] m chains nodes has finds = absurd has
  leaf_has (level ∷ []) m chains nodes has (here n leaf there) = put_on level n has there
  leaf_has (level ∷ next ∷ below) m chains nodes has (here n leaf there) =
      let node = each_has (IsNode size pages owner (suc (length below)) next) level n has nodes.0 in
      let on_level = node.on_level in absurd (omega arith)
  leaf_has (level ∷ below) m chains nodes has (right n fence is past finds) =
      leaf_has (level ∷ below) (right_in (pages n)) chains nodes
      (right_on chains.0.0 level n chains.0.1 has
      (let node = each_has (IsNode size pages owner (length below) (first_level below)) level n has nodes.0 in
      neighbour (right_in (pages n)) (sym (high_left (pages n) fence is) ∙ node.high))) finds
  leaf_has (level ∷ []) m chains nodes has (down n last inner before up finds) =
      let node = each_has (IsNode size pages owner 0 []) level n has nodes.0 in absurd (inner node.on_level)
  leaf_has (level ∷ next ∷ below) m chains nodes has (down n last inner before up finds) =
      let node = each_has (IsNode size pages owner (suc (length below)) next) level n has nodes.0 in
      let child = child_among pages next (low_of (pages n)) up.before up.after last
      (subst (HasChildren pages next (low_of (pages n))) up.parts (node.children (omega arith))) in
      leaf_has (next ∷ below) last.child.0 chains.1 nodes.1 child.0 finds

pub found_in_leaves : (size : ℕ) (pages : Pages) (owner root : ℕ) (levels : List (List ℕ)) (e : Entry)
    → IsTree size pages owner root levels → Finds pages e root → InLeaves pages levels e
found_in_leaves size pages owner root levels e tree finds =
    leaf_has size pages owner e levels root (chains_of pages root levels tree.levels_from) tree.nodes
    (top_has root levels tree.rooted tree.levels_from) finds
  where
    top_has : (n : ℕ) (levels : List (List ℕ)) → n ≢ 0 → Levels pages n levels → Has (first_level levels) n
    top_has n levels some (lowest m level chain) = first_in (λ k. right_in (pages k)) m level chain some
    top_has n levels some (above m level next lower chain more) =
        first_in (λ k. right_in (pages k)) m level chain some
