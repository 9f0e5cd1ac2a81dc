-- The levels of a tree, one from the other.
use Rattle.std.proofs.Common.{◌≡◌, ◌≢◌, inl, inr, ◌∙◌, ap, refl, sym, subst, ◌<◌, ◌-◌, ℕ, suc, false, List, [], ◌∷◌, Option, length, arith}
use Rattle.mg_node.specs.declared.entry.Entry.{Entry}
use Rattle.mg_node.specs.NodePage.{IsNodePage, entries_of, has_low, low_of, right_in}
use Rattle.mg_image.specs.Form.{Pages}
use Rattle.mg_image.specs.Indexes.{AreNodes, EachPage, HasChildren, IsNode, IsTree, LevelChain, Levels, above, first_child, first_level, lowest}
use Rattle.mg_image.specs.Tables.{Has, ended, goes}
use Rattle.mg_reading.specs.ChainLaws.{link_once}
use Rattle.mg_trees.specs.Trees.{AreLawful, AreLevelsFrom, HasLevelFrom, HasLevelsFrom, IsBounded, IsLevelFrom, IsLevelPage}
use Rattle.mg_trees.specs.TreeLaws.{first_has, levels_open}
use Rattle.mg_trees.proofs.PageLemmas.{length-entries_of}

each_as : (P Q : ℕ → Type 0) → ((n : ℕ) → P n → Q n) → (ns : List ℕ) → EachPage P ns
    → EachPage Q ns
each_as P Q gives [] each = tt
each_as P Q gives (n ∷ ns) each = (gives n each.0, each_as P Q gives ns each.1)

-- one of these pages has a property of all
pub each_has : (P : ℕ → Type 0) (ns : List ℕ) (n : ℕ) → Has ns n → EachPage P ns → P n
each_has P [] n has each = absurd has
each_has P (m ∷ ms) n (inl same) each = rw same each.0
each_has P (m ∷ ms) n (inr later) each = each_has P ms n later each.1

-- the pages of a level are lawful
pub lawful_level : (size : ℕ) (pages : Pages) (owner level first : ℕ) (ns : List ℕ)
    → IsLevelFrom size pages owner level first ns → AreLawful pages ns
lawful_level size pages owner level first ns is =
    each_as (IsLevelPage size pages owner level) (λ n. IsNodePage (pages n)) (λ n page. page.lawful) ns
    is.each

-- the right neighbour of each page of a level is a lawful page
pub bounded_level : (size : ℕ) (pages : Pages) (owner level first : ℕ) (ns : List ℕ)
    → IsLevelFrom size pages owner level first ns → EachPage (IsBounded size pages owner level) ns
bounded_level size pages owner level first ns is = at first ns is.chain is.each
  where
    at : (first : ℕ) (ns : List ℕ) → LevelChain pages first ns
        → EachPage (IsLevelPage size pages owner level) ns
        → EachPage (IsBounded size pages owner level) ns
    at first ns ended each = tt
    at first ns (goes n ms some more) each = (
      record {
        page = each.0;
        neighbour = λ right. (first_has (IsLevelPage size pages owner level) (λ k. right_in (pages k))
            (right_in (pages n)) ms more each.1 right).lawful;
      },
      at (right_in (pages n)) ms more each.1,
    )

level_page : (size : ℕ) (pages : Pages) (owner level : ℕ) (below : List ℕ) (n : ℕ)
    → IsNode size pages owner level below n → IsLevelPage size pages owner level n
level_page size pages owner level below n is = record {
  wanted = is.wanted;
  lawful = is.lawful;
  on_level = is.on_level;
}

-- What there is of levels from a page on: its own level, and levels below it.
record Parts (size : ℕ) (pages : Pages) (owner level first : ℕ) : Type 0 where
  ns : List ℕ
  below : List (List ℕ)
  chain : LevelChain pages first ns
  nodes : EachPage (IsNode size pages owner level (first_level below)) ns
  lower : AreNodes size pages owner below
  count : length below ≡ level
  more : 0 < length below → Levels pages (first_child (entries_of (pages first))) below

parts_of : (size : ℕ) (pages : Pages) (owner level first : ℕ)
    → HasLevelsFrom size pages owner level first → Parts size pages owner level first
parts_of size pages owner level first has =
    let opens = levels_open pages first has.0 has.1.levels_from in
    let nodes = subst (AreNodes size pages owner) opens.is has.1.nodes in
    let lengths : suc (length opens.below) ≡ suc level = sym (ap length opens.is) ∙ has.1.count in
    let count : length opens.below ≡ level = omega arith in record {
      ns = opens.level;
      below = opens.below;
      chain = opens.chain;
      nodes = subst (λ (k : ℕ). EachPage (IsNode size pages owner k (first_level opens.below))
          opens.level) count nodes.0;
      lower = nodes.1;
      count = count;
      more = opens.more;
    }

-- the level of a page is one of those from it on
pub level_of_levels : (size : ℕ) (pages : Pages) (owner level first : ℕ)
    → HasLevelsFrom size pages owner level first → HasLevelFrom size pages owner level first
level_of_levels size pages owner level first has =
    let parts = parts_of size pages owner level first has in (
      parts.ns,
      record {
        chain = parts.chain;
        each = each_as (IsNode size pages owner level (first_level parts.below))
            (IsLevelPage size pages owner level)
            (level_page size pages owner level (first_level parts.below)) parts.ns parts.nodes;
      },
    )

-- levels below, where they are read from a first child on
pub levels_below : (size : ℕ) (pages : Pages) (owner level first : ℕ) → level ≢ 0
    → HasLevelsFrom size pages owner level first
    → HasLevelsFrom size pages owner (level - 1) (first_child (entries_of (pages first)))
levels_below size pages owner level first some has =
    let parts = parts_of size pages owner level first has in
    let count = parts.count in (
      parts.below,
      record {
        levels_from = parts.more (omega arith);
        nodes = parts.lower;
        count = omega arith;
      },
    )

-- the pages of a level are of an index, above the level that is read below it
pub nodes_above : (size : ℕ) (pages : Pages) (owner level first : ℕ) (ns below : List ℕ)
    → level ≢ 0 → LevelChain pages first ns
    → LevelChain pages (first_child (entries_of (pages first))) below
    → HasLevelsFrom size pages owner level first
    → EachPage (IsNode size pages owner level below) ns
nodes_above size pages owner level first ns below some chain lower has =
    let parts = parts_of size pages owner level first has in
    let count = parts.count in
    let opens = levels_open pages (first_child (entries_of (pages first))) parts.below
    (parts.more (omega arith)) in
    let same : ns ≡ parts.ns =
    link_once (λ k. right_in (pages k)) first ns parts.ns chain parts.chain in
    let same_below : opens.level ≡ below = link_once (λ k. right_in (pages k))
    (first_child (entries_of (pages first))) opens.level below opens.chain lower in
    rw same (subst (λ (x : List ℕ). EachPage (IsNode size pages owner level x) parts.ns)
    (ap first_level opens.is ∙ same_below) parts.nodes)

-- the pages of the lowest level are of an index
pub nodes_lowest : (size : ℕ) (pages : Pages) (owner level first : ℕ) (ns : List ℕ) → level ≡ 0
    → LevelChain pages first ns → HasLevelsFrom size pages owner level first
    → EachPage (IsNode size pages owner level []) ns
nodes_lowest size pages owner level first ns zero_ chain has =
    let parts = parts_of size pages owner level first has in
    let same : ns ≡ parts.ns =
    link_once (λ k. right_in (pages k)) first ns parts.ns chain parts.chain in
    rw same (at parts.ns parts.below (parts.count ∙ zero_) parts.nodes)
  where
    at : (ms : List ℕ) (below : List (List ℕ)) → length below ≡ 0
        → EachPage (IsNode size pages owner level (first_level below)) ms
        → EachPage (IsNode size pages owner level []) ms
    at ms [] count nodes = nodes
    at ms (l ∷ ls) count nodes = absurd (omega arith)

has_child : (pages : Pages) (below : List ℕ) (low : Option Entry) (es : List Entry) → 0 < length es
    → HasChildren pages below low es → Has below (first_child es)
has_child pages below low [] some has = absurd (omega arith)
has_child pages below low (e ∷ es) some has = has.0

-- the first child of an inner page is not page 0
pub child_there : (size : ℕ) (pages : Pages) (owner level first : ℕ) → first ≢ 0 → level ≢ 0
    → first_child (entries_of (pages first)) ≡ 0 → HasLevelsFrom size pages owner level first → ⊥
child_there size pages owner level first some inner none has =
    let parts = parts_of size pages owner level first has in
    let count = parts.count in
    let opens = levels_open pages (first_child (entries_of (pages first))) parts.below
    (parts.more (omega arith)) in
    let node = first_has (IsNode size pages owner level (first_level parts.below))
    (λ k. right_in (pages k)) first parts.ns parts.chain parts.nodes some in
    let two = node.two (omega arith) in let entries = length-entries_of (pages first) in
    let child = has_child pages (first_level parts.below) (low_of (pages first))
    (entries_of (pages first)) (omega arith) (node.children (omega arith)) in
    let empty : opens.level ≡ [] = link_once (λ k. right_in (pages k))
    (first_child (entries_of (pages first))) opens.level [] opens.chain (rw none ended) in
    subst (λ (x : List ℕ). Has x (first_child (entries_of (pages first))))
    (ap first_level opens.is ∙ empty) child

-- a lowest level alone
pub levels_lowest : (size : ℕ) (pages : Pages) (owner level first : ℕ) (ns : List ℕ)
    (levels : List (List ℕ)) → level ≡ 0 → LevelChain pages first ns
    → EachPage (IsNode size pages owner level []) ns → levels ≡ ns ∷ []
    → AreLevelsFrom size pages owner level first levels
levels_lowest size pages owner level first ns levels zero_ chain nodes levels_is =
    rw (levels_is, zero_) (record {
      levels_from = lowest first ns chain;
      nodes = (rw zero_ at nodes, tt);
      count = refl;
    })

-- a level above others
pub levels_more : (size : ℕ) (pages : Pages) (owner level first : ℕ) (ns below : List ℕ)
    (lower levels : List (List ℕ)) → level ≢ 0 → LevelChain pages first ns
    → LevelChain pages (first_child (entries_of (pages first))) below
    → EachPage (IsNode size pages owner level below) ns
    → AreLevelsFrom size pages owner (level - 1) (first_child (entries_of (pages first))) lower
    → levels ≡ ns ∷ lower → AreLevelsFrom size pages owner level first levels
levels_more size pages owner level first ns below lower levels some chain next nodes are levels_is =
    let opens = levels_open pages (first_child (entries_of (pages first))) lower are.levels_from in
    let same : below ≡ opens.level = link_once (λ k. right_in (pages k))
    (first_child (entries_of (pages first))) below opens.level next opens.chain in
    let count : length lower ≡ level = let c = are.count in omega arith in
    rw levels_is (record {
      levels_from = rw opens.is (above first ns opens.level opens.below chain
          (subst (Levels pages (first_child (entries_of (pages first)))) opens.is are.levels_from));
      nodes = (
        rw (count, opens.is, sym same) nodes,
        are.nodes,
      );
      count = omega (arith, count);
    })

-- levels from a root on that stands alone are a tree
pub tree_of_levels : (size : ℕ) (pages : Pages) (owner level root : ℕ) (levels : List (List ℕ))
    → root ≢ 0 → has_low (pages root) ≡ false → right_in (pages root) ≡ 0
    → AreLevelsFrom size pages owner level root levels → IsTree size pages owner root levels
tree_of_levels size pages owner level root levels some low right are = record {
  rooted = some;
  levels_from = are.levels_from;
  nodes = are.nodes;
  root_low = low;
  root_right = right;
}
