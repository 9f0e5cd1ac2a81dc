-- The search for an entry: along a level, in a leaf, and down.
use Rattle.std.proofs.Common.{◌≡◌, ◌≢◌, ◌⊎◌, inl, inr, ◌∙◌, ◌↔◌, ap, refl, sym, subst, ℕ, suc, Bool, true, false, List, [], ◌∷◌, ◌++◌, Option, Some, None, IsTrue, ◌==◌, length, arith, eq-eqb}
use Rattle.std.specs.Prelude.{IfOk, IfSome, Result, Ok, Err, if◌then◌else◌, not}
use Rattle.std.proofs.lemmas.Bool.{cases_eq, ne_eqb}
use Rattle.mg_base.specs.declared.memory.Memory.{Memory}
use Rattle.mg_node.specs.declared.entry.Entry.{Entry}
use Rattle.mg_node.specs.declared.node.Node.{Node}
use Rattle.mg_node.specs.NodePage.{IsAtLeast, IsBelow, IsNodePage, entries_of, entry_at, has_high, has_low, high_at, high_of, level_in, low_of, right_in}
use Rattle.mg_node.specs.NodeReading.{IsNodeOf}
use Rattle.mg_image.specs.Form.{Pages}
use Rattle.mg_image.specs.Indexes.{AreNodes, EachPage, Finds, HasChildren, HasEntry, IsLastUpTo, IsNode, LevelChain, Levels, above, as_fence, down, first_level, here, lowest, right}
use Rattle.mg_image.specs.Tables.{Has, LinkChain, ended, goes}
use Rattle.mg_reading.specs.ChainLaws.{page_opens}
use Rattle.mg_trees.specs.Searches.{AreChained, IsAlong, IsFrom, IsPageFor, IsSearched, IsTreeOf, first_page, last_child, pages_from}
use Rattle.mg_trees.proofs.EntryLemmas.{between_has, child_among, last_child_is, last_exists}
use Rattle.mg_trees.proofs.PageLemmas.{length-entries_of}
use Rattle.mg_trees.specs.TreeLaws.{levels_open}
use Rattle.mg_trees.proofs.TreeLemmas.{each_has}

-- an entry lies below a fence, if there is one
abbrev IsUpTo : Entry → Option Entry → Type 0
IsUpTo e high = IfSome high (λ fence. IsBelow e fence)

right_only : (pages : Pages) (e : Entry) (n : ℕ) (fence : Entry) → IsNodePage (pages n)
    → high_of (pages n) ≡ Some fence → IsAtLeast e fence → Finds pages e n
    → Finds pages e (right_in (pages n))
right_only pages e n fence lawful high past (here m leaf has) = absurd (past (subst (IsUpTo e) high
    (between_has (low_of (pages m)) (high_of (pages m)) (entries_of (pages m)) e lawful.between
    has)))
right_only pages e n fence lawful high past (right m other is behind finds) = finds
right_only pages e n fence lawful high past (down m last inner before up finds) =
    absurd (past (subst (IsUpTo e) high before))

leaf_only : (pages : Pages) (e : Entry) (n : ℕ) → level_in (pages n) ≡ 0
    → IsUpTo e (high_of (pages n)) → Finds pages e n → HasEntry (entries_of (pages n)) e
leaf_only pages e n leaf before (here m is has) = has
leaf_only pages e n leaf before (right m fence high past finds) =
    absurd (past (subst (IsUpTo e) high before))
leaf_only pages e n leaf before (down m last inner under up finds) = absurd (inner leaf)

down_only : (pages : Pages) (e : Entry) (n : ℕ) → level_in (pages n) ≢ 0
    → IsUpTo e (high_of (pages n)) → Finds pages e n
    → Finds pages e (last_child e 0 (entries_of (pages n)))
down_only pages e n inner before (here m leaf has) = absurd (inner leaf)
down_only pages e n inner before (right m fence high past finds) =
    absurd (past (subst (IsUpTo e) high before))
down_only pages e n inner before (down m last is under up finds) =
    rw (last_child_is (entries_of (pages m)) e last up 0) finds

-- What the loop along a level keeps.
pub record IsOnWay (pages : Pages) (e : Entry) (ns rest : List ℕ) : Type 0 where
  pub along : IsAlong pages e rest
  pub same : Finds pages e (first_page ns) ↔ Finds pages e (first_page rest)
  pub among : (m : ℕ) → Has rest m → Has ns m

pub way_begins : (pages : Pages) (e : Entry) (ns : List ℕ) → IsAlong pages e ns
    → IsOnWay pages e ns ns
way_begins pages e ns along = record {
  along = along;
  same = (λ finds. finds, λ finds. finds);
  among = λ m has. has;
}

-- the way does not end before the entry's page
pub way_open : (pages : Pages) (e : Entry) (ns rest : List ℕ) → IsOnWay pages e ns rest
    → rest ≡ [] → ⊥
way_open pages e ns rest way empty = way.along.some (ap first_page empty)

-- the page is that on which the entry lies
pub way_here : (pages : Pages) (e : Entry) (ns later : List ℕ) (n : ℕ) (node : Node)
    → IsOnWay pages e ns (n ∷ later) → IsNodeOf (pages n) node → IsUpTo e node.high
    → IsPageFor pages e ns node
way_here pages e ns later n node way says before = record {
  page = n;
  node_of = says;
  placed = way.among n (inl refl);
  reached = way.along.reached;
  before = subst (IsUpTo e) says.high before;
  same = way.same;
}

fence_tells : (page : List ℕ) (fence : Entry) → high_of page ≡ Some fence → has_high page ≡ true
fence_tells page fence is = at (has_high page) is
  where
    at : (b : Bool) → (if b then Some (entry_at false page (high_at page)) else None) ≡ Some fence
        → b ≡ true
    at true is = refl
    at false is = absurd cc

right_some : (right_page : ℕ) → true ≡ not (right_page == 0) → right_page ≢ 0
right_some right_page is zero_ = absurd (let e = rw (eq-eqb right_page 0 zero_) at is in cc)

-- the way goes on to the right
pub way_more : (pages : Pages) (e : Entry) (ns later : List ℕ) (n : ℕ) (node : Node)
    → IsOnWay pages e ns (n ∷ later) → IsNodeOf (pages n) node → (IsUpTo e node.high → ⊥)
    → IsOnWay pages e ns later
way_more pages e ns later n node way says past =
    at (high_of (pages n)) refl (λ before. past (subst (IsUpTo e) (sym says.high) before))
  where
    is : IsNode way.along.size pages way.along.owner way.along.level way.along.below n
    is = way.along.nodes.0

    on : (fence : Entry) → high_of (pages n) ≡ Some fence → IsAtLeast e fence
        → IsOnWay pages e ns later
    on fence high beyond =
        let some : right_in (pages n) ≢ 0 =
        right_some (right_in (pages n)) (sym (fence_tells (pages n) fence high) ∙ is.high) in
        next some (page_opens (λ k. right_in (pages k)) n (n ∷ later) way.along.chain)
      where
        next : right_in (pages n) ≢ 0 → ((n ≡ 0) × (n ∷ later ≡ []))
            ⊎ ((ms : List ℕ) × (n ∷ later ≡ n ∷ ms)
            × LinkChain (λ k. right_in (pages k)) (right_in (pages n)) ms)
            → IsOnWay pages e ns later
        next some (inl (zero_, empty)) = absurd cc
        next some (inr (ms, opens, chain)) =
            let rest : later ≡ ms = cc in
            let first : first_page later ≡ right_in (pages n) =
            begins (right_in (pages n)) ms some chain rest in
            record {
              along = record {
                size = way.along.size;
                owner = way.along.owner;
                level = way.along.level;
                below = way.along.below;
                some = rw first some;
                chain = rw (first, rest) chain;
                nodes = way.along.nodes.1;
                reached = rw first (subst (λ (x : Option Entry). IfSome x (λ f. IsAtLeast e f))
                    (sym (is.fence some ∙ high)) beyond);
              };
              same = rw first (
                λ finds. right_only pages e n fence is.lawful high beyond (way.same.0 finds),
                λ finds. way.same.1 (right n fence high beyond finds),
              );
              among = λ m has. way.among m (inr has);
            }
          where
            begins : (k : ℕ) (ms : List ℕ) → k ≢ 0 → LinkChain (λ j. right_in (pages j)) k ms
                → later ≡ ms → first_page later ≡ k
            begins k ms some ended rest = absurd (some refl)
            begins k ms some (goes j js other more) rest = ap first_page rest

    at : (high : Option Entry) → high_of (pages n) ≡ high → (IsUpTo e (high_of (pages n)) → ⊥)
        → IsOnWay pages e ns later
    at None high past = absurd (past (subst (IsUpTo e) (sym high) tt))
    at (Some fence) high past =
        on fence high (λ less. past (subst (IsUpTo e) (sym high) less))

-- pages that are searched lie along a level
pub along_of : (size : ℕ) (pages : Pages) (e : Entry) (ns : List ℕ) (below : List (List ℕ))
    → IsSearched size pages e ns below → IsAlong pages e ns
along_of size pages e ns below is = record {
  size = size;
  owner = is.owner;
  level = length below;
  below = first_level below;
  some = is.some;
  chain = is.chain;
  nodes = is.nodes;
  reached = is.reached;
}

-- in a leaf an entry is found where it is among those of its page
pub leaf_found : (size : ℕ) (pages : Pages) (e : Entry) (ns : List ℕ) (below : List (List ℕ))
    (node : Node) (found : Bool) → IsSearched size pages e ns below → below ≡ []
    → IsPageFor pages e ns node → IsTrue found ↔ HasEntry node.entries.items e
    → IsTrue found ↔ Finds pages e (first_page ns)
leaf_found size pages e ns below node found is empty there same =
    let one = each_has (IsNode size pages is.owner (length below) (first_level below)) ns
    there.page there.placed is.nodes in
    let leaf : level_in (pages there.page) ≡ 0 = one.on_level ∙ ap length empty in (
      λ passed. there.same.1 (here there.page leaf
          (subst (λ (es : List Entry). HasEntry es e) there.node_of.entries (same.0 passed))),
      λ finds. same.1 (subst (λ (es : List Entry). HasEntry es e) (sym there.node_of.entries)
          (leaf_only pages e there.page leaf there.before (there.same.0 finds))),
    )

-- The child to go down by.
pub record IsDown (pages : Pages) (e : Entry) (ns next : List ℕ) (child : ℕ) : Type 0 where
  pub has : Has next child
  pub reached : IsFrom pages e child
  pub same : Finds pages e (first_page ns) ↔ Finds pages e child

-- it is that of the last entry up to the one that is looked for
down_by : (size : ℕ) (pages : Pages) (e : Entry) (ns next : List ℕ) (owner level : ℕ)
    (node : Node) (child : ℕ) (there : IsPageFor pages e ns node) (last : Entry) → level ≢ 0
    → IsNode size pages owner level next there.page
    → IsLastUpTo (entries_of (pages there.page)) e last
    → child ≡ last_child e 0 node.entries.items → IsDown pages e ns next child
down_by size pages e ns next owner level node child there last some one up child_is =
    let level_is = one.on_level in
    let inner : level_in (pages there.page) ≢ 0 = omega arith in
    let found : last_child e 0 (entries_of (pages there.page)) ≡ last.child.0 =
    last_child_is (entries_of (pages there.page)) e last up 0 in
    let child_last : child ≡ last.child.0 =
    child_is ∙ (ap (last_child e 0) there.node_of.entries ∙ found) in
    let children : HasChildren pages next (low_of (pages there.page)) (up.before ++ last ∷ up.after) =
    subst (HasChildren pages next (low_of (pages there.page))) up.parts
    (one.children (omega arith)) in
    let among = child_among pages next (low_of (pages there.page)) up.before up.after last children in
    record {
      has = rw child_last among.0;
      reached = rw child_last (reached among.1);
      same = rw child_last (
        λ finds. subst (Finds pages e) found
            (down_only pages e there.page inner there.before (there.same.0 finds)),
        λ finds. there.same.1 (down there.page last inner there.before up finds),
      );
    }
  where
    reached : (low_of (pages last.child.0) ≡ Some (as_fence last))
        ⊎ (low_of (pages last.child.0) ≡ low_of (pages there.page)) → IsFrom pages e last.child.0
    reached (inl low) = subst (λ (x : Option Entry). IfSome x (λ f. IsAtLeast e f)) (sym low) up.up_to
    reached (inr low) =
        subst (λ (x : Option Entry). IfSome x (λ f. IsAtLeast e f)) (sym low) there.reached

pub down_of : (size : ℕ) (pages : Pages) (e : Entry) (ns next : List ℕ)
    (lower : List (List ℕ)) (node : Node) (child : ℕ) → IsSearched size pages e ns (next ∷ lower)
    → IsPageFor pages e ns node → child ≡ last_child e 0 node.entries.items
    → IsDown pages e ns next child
down_of size pages e ns next lower node child is there child_is =
    let one = each_has (IsNode size pages is.owner (suc (length lower)) next) ns there.page
    there.placed is.nodes in
    let level = one.on_level in
    let inner : level_in (pages there.page) ≢ 0 = omega arith in
    let two = one.two (omega arith) in
    let count = length-entries_of (pages there.page) in
    let last = last_exists (pages there.page) e one.lawful inner (omega arith) there.reached in
    down_by size pages e ns next is.owner (suc (length lower)) node child there last.0 (omega arith)
    one last.1 child_is

from_first : (n : ℕ) (ns : List ℕ) → Has ns n → first_page (pages_from n ns) ≡ n
from_first n [] has = absurd has
from_first n (m ∷ ms) has = at (cases_eq m n) has (λ later. from_first n ms later)
  where
    at : (m ≡ n) ⊎ (m ≢ n) → (n ≡ m) ⊎ Has ms n → (Has ms n → first_page (pages_from n ms) ≡ n)
        → first_page (pages_from n (m ∷ ms)) ≡ n
    at (inl same) which later = rw (eq-eqb m n same) same
    at (inr other) (inl same) later = absurd (other (sym same))
    at (inr other) (inr has) later = rw (ne_eqb m n other) (later has)

from_chain : (next : ℕ → ℕ) (first : ℕ) (ns : List ℕ) (n : ℕ) → LinkChain next first ns
    → Has ns n → LinkChain next n (pages_from n ns)
from_chain next first ns n ended has = absurd has
from_chain next first ns n (goes k ks some more) has =
    at (cases_eq k n) has (λ later. from_chain next (next k) ks n more later)
  where
    at : (k ≡ n) ⊎ (k ≢ n) → (n ≡ k) ⊎ Has ks n → (Has ks n → LinkChain next n (pages_from n ks))
        → LinkChain next n (pages_from n (k ∷ ks))
    at (inl same) which later = rw (eq-eqb k n same)
        (subst (λ (x : ℕ). LinkChain next x (k ∷ ks)) same (goes k ks some more))
    at (inr other) (inl same) later = absurd (other (sym same))
    at (inr other) (inr has) later = rw (ne_eqb k n other) (later has)

from_each : (P : ℕ → Type 0) (ns : List ℕ) (n : ℕ) → EachPage P ns → EachPage P (pages_from n ns)
from_each P [] n each = tt
from_each P (m ∷ ms) n each = at (cases_eq m n) (from_each P ms n each.1)
  where
    at : (m ≡ n) ⊎ (m ≢ n) → EachPage P (pages_from n ms) → EachPage P (pages_from n (m ∷ ms))
    at (inl same) later = rw (eq-eqb m n same) each
    at (inr other) later = rw (ne_eqb m n other) later

has_some : (next : ℕ → ℕ) (first : ℕ) (ns : List ℕ) (n : ℕ) → LinkChain next first ns → Has ns n
    → n ≢ 0
has_some next first ns n ended has = absurd has
has_some next first ns n (goes k ks some more) (inl same) = λ zero_. some (sym same ∙ zero_)
has_some next first ns n (goes k ks some more) (inr later) = has_some next (next k) ks n more later

-- the search goes on one level below
pub searched_below : (size : ℕ) (pages : Pages) (e : Entry) (ns next : List ℕ)
    (lower : List (List ℕ)) (child : ℕ) → IsSearched size pages e ns (next ∷ lower)
    → IsDown pages e ns next child → IsSearched size pages e (pages_from child next) lower
searched_below size pages e ns next lower child is goes_down =
    let first : first_page (pages_from child next) ≡ child = from_first child next goes_down.has in
    record {
      owner = is.owner;
      some = rw first (has_some (λ k. right_in (pages k)) is.chained.0.0 next child is.chained.0.1
          goes_down.has);
      chain = rw first (from_chain (λ k. right_in (pages k)) is.chained.0.0 next child
          is.chained.0.1 goes_down.has);
      nodes = from_each (IsNode size pages is.owner (length lower) (first_level lower)) next child
          is.lower.0;
      lower = is.lower.1;
      chained = is.chained.1;
      reached = rw first goes_down.reached;
    }

-- and finds there what is found from above
pub found_below : (size : ℕ) (pages : Pages) (e : Entry) (ns next : List ℕ) (child : ℕ)
    (found : Bool) → IsDown pages e ns next child
    → IsTrue found ↔ Finds pages e (first_page (pages_from child next))
    → IsTrue found ↔ Finds pages e (first_page ns)
found_below size pages e ns next child found goes_down same =
    let first : first_page (pages_from child next) ≡ child = from_first child next goes_down.has in (
      λ passed. goes_down.same.1 (subst (Finds pages e) first (same.0 passed)),
      λ finds. same.1 (subst (Finds pages e) (sym first) (goes_down.same.0 finds)),
    )

chained_of : (pages : Pages) (n : ℕ) (levels : List (List ℕ)) → Levels pages n levels
    → AreChained pages levels
chained_of pages n levels (lowest m level chain) = ((m, chain), tt)
chained_of pages n levels (above m level next below chain more) =
    ((m, chain), chained_of pages _ (next ∷ below) more)

no_low : (page : List ℕ) (e : Entry) → has_low page ≡ false
    → IfSome (low_of page) (λ fence. IsAtLeast e fence)
no_low page e is = rw is tt

-- a tree has a level
pub tree_open : (size : ℕ) (pages : Pages) (root : ℕ) (levels : List (List ℕ))
    → IsTreeOf size pages root levels → levels ≡ [] → ⊥
tree_open size pages root levels tree empty =
    let opens = levels_open pages root levels tree.1.levels_from in
    let is = opens.is in cc

-- the first level begins with the root
pub root_first : (size : ℕ) (pages : Pages) (root : ℕ) (levels : List (List ℕ)) (top : List ℕ)
    (below : List (List ℕ)) → IsTreeOf size pages root levels
    → levels ≡ top ∷ below → first_page top ≡ root
root_first size pages root levels top below tree is =
    let opens = levels_open pages root levels tree.1.levels_from in
    let some = tree.1.rooted in
    let opens_is = opens.is in
    let same : top ≡ opens.level = cc in
    at root opens.level opens.chain some same
  where
    at : (n : ℕ) (level : List ℕ) → LevelChain pages n level → n ≢ 0 → top ≡ level
        → first_page top ≡ n
    at n level ended some same = absurd (some refl)
    at n level (goes k ks other more) some same = ap first_page same

-- the search begins at the root
pub searched_root : (size : ℕ) (pages : Pages) (e : Entry) (root : ℕ)
    (levels : List (List ℕ)) (top : List ℕ) (below : List (List ℕ))
    → IsTreeOf size pages root levels → levels ≡ top ∷ below
    → IsSearched size pages e top below
searched_root size pages e root levels top below tree is =
    let first : first_page top ≡ root = root_first size pages root levels top below tree is in
    let opens = levels_open pages root levels tree.1.levels_from in
    let opens_is = opens.is in
    let same : opens.level ≡ top = cc in
    let nodes = subst (AreNodes size pages tree.0) is tree.1.nodes in
    record {
      owner = tree.0;
      some = rw first (tree.1.rooted);
      chain = rw first (subst (LevelChain pages root) same opens.chain);
      nodes = nodes.0;
      lower = nodes.1;
      chained = (subst (AreChained pages) is
          (chained_of pages root levels tree.1.levels_from)).1;
      reached = rw first (no_low (pages root) e tree.1.root_low);
    }

-- what an answer says is carried over
pub ok_more : (P Q : Bool → Type 0) → ((found : Bool) → P found → Q found)
    → (r : Result Bool Memory) → IfOk r P → IfOk r Q
ok_more P Q gives (Ok found) is = gives found is
ok_more P Q gives (Err fault) is = tt
