-- A page is the parent of each page of the level below with which it covers an entry; and a leaf that
-- covers an entry has it, where the tree has it.
use Rattle.std.proofs.Common.{◌≡◌, ◌≢◌, ◌⊎◌, inl, inr, ◌∙◌, refl, sym, subst, ℕ, suc, List, [], ◌∷◌, Option, Some, None, length, arith}
use Rattle.std.specs.Prelude.{IfSome}
use Rattle.std.specs.declared.cmp.Ordering.TheVariants.{Less}
use Rattle.mg_node.specs.declared.entry.Entry.{Entry}
use Rattle.mg_node.specs.NodePage.{IsAtLeast, entries_of, entry_cmp, high_of, level_in, low_of, right_in}
use Rattle.mg_image.specs.Form.{Pages}
use Rattle.mg_image.specs.Indexes.{AreNodes, EachPage, Finds, HasChildren, HasEntry, IsLastUpTo, IsNode, IsTree, LevelChain, as_fence, first_level}
use Rattle.mg_image.specs.Tables.{Has, ended, goes}
use Rattle.mg_tree_overlay_laws.specs.TreeSteps.{InTree}
use Rattle.mg_tree_overlay_laws.specs.TreesBehind.{Covers, GoesRight, IsFrom, IsParent, leaves, over, stays}
use Rattle.mg_tree_overlay_laws.specs.EntryLaws.{child_among, is_less, last_exists}
use Rattle.mg_tree_overlay_laws.specs.StepLaws.{each_has, entries_some}
use Rattle.mg_tree_overlay_laws.specs.GrowLaws.{AreChains, chains_of}
use Rattle.mg_tree_overlay_laws.specs.FoundLaws.{found_in_leaves, high_left, neighbour}
use Rattle.mg_tree_overlay_laws.specs.SplitParts.{level_less}
use Rattle.mg_tree_overlay_laws.specs.KeptLaws.{on_leaves}
use Rattle.mg_tree_overlay_laws.specs.DescentLaws.{covers_own, on_one, one_page, parent_of_descent}
use Rattle.mg_tree_overlay_laws.specs.PlaceLaws.{parents_cover}

-- a way to the right that begins with a step more
right_first : (pages : Pages) (e : Entry) (n m : ℕ) (fence : Entry) → high_of (pages n) ≡ Some fence
    → IsAtLeast e fence → GoesRight pages e (right_in (pages n)) m → GoesRight pages e n m
right_first pages e n m fence high past stays = over n fence stays high past
right_first pages e n m fence high past (over k other way high_k past_k) =
    over k other (right_first pages e n k fence high past way) high_k past_k

-- the page that covers an entry, to the right of one that the entry does not come before
abbrev pub Reaches : Pages → List ℕ → Entry → ℕ → Type 0
Reaches pages ns e c = (m : ℕ) × Has ns m × GoesRight pages e c m × Covers pages m e

module _ (size : ℕ) (pages : Pages) (owner : ℕ) (e : Entry) where
  reaches : (level : ℕ) (below : List ℕ) (c : ℕ) (ns : List ℕ) → LevelChain pages c ns
      → EachPage (IsNode size pages owner level below) ns → c ≢ 0 → IsFrom pages e c
      → Reaches pages ns e c
  reaches level below c ns ended nodes some from = absurd (some refl)
  reaches level below c ns (goes n ms other more) nodes some from =
      at (high_of (pages n)) refl (λ next_some next_from.
      reaches level below (right_in (pages n)) ms more nodes.1 next_some next_from)
    where
      node : IsNode size pages owner level below n
      node = nodes.0

      which : (b : Entry) → high_of (pages n) ≡ Some b → (entry_cmp e b ≡ Less) ⊎ (entry_cmp e b ≢ Less)
          → (right_in (pages n) ≢ 0 → IsFrom pages e (right_in (pages n))
          → Reaches pages ms e (right_in (pages n))) → Reaches pages (n ∷ ms) e n
      which b is (inl less) on = (n, inl refl, stays, (from, rw is less))
      which b is (inr past) on =
          let right_some : right_in (pages n) ≢ 0 =
          neighbour (right_in (pages n)) (sym (high_left (pages n) b is) ∙ node.high) in
          let more = on right_some (subst (λ (low : Option Entry). IfSome low (λ fence. IsAtLeast e fence))
          (sym (node.fence right_some ∙ is)) past) in
          (more.0, inr more.1, right_first pages e n more.0 b is past more.2, more.3)

      at : (high : Option Entry) → high_of (pages n) ≡ high
          → (right_in (pages n) ≢ 0 → IsFrom pages e (right_in (pages n))
          → Reaches pages ms e (right_in (pages n))) → Reaches pages (n ∷ ms) e n
      at None is on = (n, inl refl, stays, (from, rw is tt))
      at (Some b) is on = which b is (is_less (entry_cmp e b)) on

  reaches_from : (level : ℕ) (below : List ℕ) (first : ℕ) (ns : List ℕ) (c : ℕ)
      → LevelChain pages first ns → EachPage (IsNode size pages owner level below) ns → Has ns c
      → IsFrom pages e c → Reaches pages ns e c
  reaches_from level below first ns c ended nodes has from = absurd has
  reaches_from level below first ns c (goes n ms some more) nodes (inl same) from =
      subst (Reaches pages (n ∷ ms) e) (sym same) (reaches level below n (n ∷ ms) (goes n ms some more) nodes
      some (subst (IsFrom pages e) same from))
  reaches_from level below first ns c (goes n ms some more) nodes (inr later) from =
      let there = reaches_from level below (right_in (pages n)) ms c more nodes.1 later from in
      (there.0, inr there.1, there.2, there.3)

  -- a search goes from a page to each page of the level below with which it covers the entry
  pub descends : (level : ℕ) (next : List ℕ) (lower : List ℕ) (ns : List ℕ) (second p n : ℕ)
      → EachPage (IsNode size pages owner (suc level) next) ns
      → LevelChain pages second next → EachPage (IsNode size pages owner level lower) next → Has ns p
      → Has next n → Covers pages p e → Covers pages n e
      → (last : Entry) × IsLastUpTo (entries_of (pages p)) e last × GoesRight pages e last.child.0 n
  descends level next lower ns second p n nodes chain_next nodes_next has_p has_n of_p of_n =
      let node = each_has (IsNode size pages owner (suc level) next) ns p has_p nodes in
      let inner : level_in (pages p) ≢ 0 = let on_level = node.on_level in omega arith in
      let found = last_exists (pages p) e node.lawful inner
      (entries_some size pages owner (suc level) next p (omega arith) node) of_p.0 in
      let child = child_among pages next (low_of (pages p)) found.1.before found.1.after found.0
      (subst (HasChildren pages next (low_of (pages p))) found.1.parts (node.children (omega arith))) in
      let there = reaches_from level lower second next found.0.child.0 chain_next nodes_next child.0
      (child_from found.0 found.1.up_to child.1) in
      let same = one_page size pages owner level lower e second next there.0 n chain_next nodes_next there.1
      has_n there.3 of_n in
      (found.0, found.1, subst (GoesRight pages e found.0.child.0) same there.2)
    where
      child_from : (last : Entry) → IsAtLeast e last → (low_of (pages last.child.0) ≡ Some (as_fence last))
          ⊎ (low_of (pages last.child.0) ≡ low_of (pages p)) → IsFrom pages e last.child.0
      child_from last up (inl low) = subst (λ (x : Option Entry). IfSome x (λ b. IsAtLeast e b)) (sym low) up
      child_from last up (inr low) =
          subst (λ (x : Option Entry). IfSome x (λ b. IsAtLeast e b)) (sym low) of_p.0

  descends_in : (levels : List (List ℕ)) (p n : ℕ) → AreChains pages levels
      → AreNodes size pages owner levels → InTree levels p → InTree levels n
      → level_in (pages p) ≡ suc (level_in (pages n)) → Covers pages p e → Covers pages n e
      → (last : Entry) × IsLastUpTo (entries_of (pages p)) e last × GoesRight pages e last.child.0 n
  descends_in [] p n chains nodes has_p has_n up of_p of_n = absurd has_p
  descends_in (level ∷ below) p n chains nodes (inr later) (inr deeper) up of_p of_n =
      descends_in below p n chains.1 nodes.1 later deeper up of_p of_n
  descends_in (level ∷ below) p n chains nodes (inr later) (inl has) up of_p of_n =
      let node = each_has (IsNode size pages owner (length below) (first_level below)) level n has nodes.0 in
      let on_level = node.on_level in
      let less = level_less size pages owner below p nodes.1 later in absurd (omega arith)
  descends_in (level ∷ below) p n chains nodes (inl has) (inl too) up of_p of_n =
      let node = each_has (IsNode size pages owner (length below) (first_level below)) level n too nodes.0 in
      let on_level = node.on_level in
      let other = each_has (IsNode size pages owner (length below) (first_level below)) level p has nodes.0 in
      let other_level = other.on_level in absurd (omega arith)
  descends_in (level ∷ []) p n chains nodes (inl has) (inr deeper) up of_p of_n = absurd deeper
  descends_in (level ∷ next ∷ rest) p n chains nodes (inl has) (inr (inl there)) up of_p of_n =
      descends (length rest) next (first_level rest) level chains.1.0.0 p n nodes.0 chains.1.0.1 nodes.1.0 has
      there of_p of_n
  descends_in (level ∷ next ∷ rest) p n chains nodes (inl has) (inr (inr deeper)) up of_p of_n =
      let other = each_has (IsNode size pages owner (suc (length rest)) next) level p has nodes.0 in
      let other_level = other.on_level in
      let less = level_less size pages owner rest n nodes.1.1 deeper in absurd (omega arith)

-- a page is the parent of each page of the level below with which it covers an entry
pub covers_parent : (size owner root : ℕ) (pages : Pages) (levels : List (List ℕ)) (e : Entry) (p n : ℕ)
    → IsTree size pages owner root levels → InTree levels p → InTree levels n
    → level_in (pages p) ≡ suc (level_in (pages n)) → Covers pages p e → Covers pages n e
    → IsParent pages levels p n
covers_parent size owner root pages levels e p n tree has_p has_n up of_p of_n =
    let way = descends_in size pages owner e levels p n (chains_of pages root levels tree.levels_from)
    tree.nodes has_p has_n up of_p of_n in
    parent_of_descent size owner root pages levels e p n way.0 tree has_p (omega (arith, up)) of_p way.1 way.2

-- and covers all that the lower page covers
pub covers_below : (size owner root : ℕ) (pages : Pages) (levels : List (List ℕ)) (e f : Entry) (p n : ℕ)
    → IsTree size pages owner root levels → InTree levels p → InTree levels n
    → level_in (pages p) ≡ suc (level_in (pages n)) → Covers pages p e → Covers pages n e
    → Covers pages n f → Covers pages p f
covers_below size owner root pages levels e f p n tree has_p has_n up of_p of_n wanted =
    let way = descends_in size pages owner e levels p n (chains_of pages root levels tree.levels_from)
    tree.nodes has_p has_n up of_p of_n in
    parents_cover size owner root pages levels e f p n way.0 tree has_p (omega (arith, up)) of_p way.1 way.2
    wanted

-- ---- the leaf that covers an entry

one_covering : (size : ℕ) (pages : Pages) (owner : ℕ) (levels : List (List ℕ)) (n m : ℕ) (e : Entry)
    → AreChains pages levels → AreNodes size pages owner levels → Has (leaves levels) n
    → Has (leaves levels) m → Covers pages n e → HasEntry (entries_of (pages m)) e → m ≡ n
one_covering size pages owner [] n m e chains nodes has other of_n there = absurd has
one_covering size pages owner (level ∷ []) n m e chains nodes has other of_n there =
    let of_m = each_has (IsNode size pages owner 0 []) level m other nodes.0 in
    one_page size pages owner 0 [] e chains.0.0 level m n chains.0.1 nodes.0 other has
    (covers_own size pages owner 0 [] m e of_m there) of_n
one_covering size pages owner (level ∷ next ∷ below) n m e chains nodes has other of_n there =
    one_covering size pages owner (next ∷ below) n m e chains.1 nodes.1 has other of_n there

-- it has the entry, where the entry is found
pub leaf_has_found : (size owner root : ℕ) (pages : Pages) (levels : List (List ℕ)) (n : ℕ) (e : Entry)
    → IsTree size pages owner root levels → InTree levels n → level_in (pages n) ≡ 0
    → Covers pages n e → Finds pages e root → HasEntry (entries_of (pages n)) e
leaf_has_found size owner root pages levels n e tree placed leaf of_n found =
    let there = on_one pages e (leaves levels) (found_in_leaves size pages owner root levels e tree found) in
    let same = one_covering size pages owner levels n there.0 e
    (chains_of pages root levels tree.levels_from) tree.nodes
    (on_leaves size pages owner levels n tree.nodes placed leaf) there.1 of_n there.2 in
    subst (λ (k : ℕ). HasEntry (entries_of (pages k)) e) same there.2
