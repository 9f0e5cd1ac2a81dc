-- Laws of searches in a tree: where they go on, and how soon a level ends.
use Rattle.std.proofs.Common.{◌≡◌, ◌≢◌, ◌⊎◌, inl, inr, ◌∙◌, ap, refl, sym, subst, ◌≤◌, ℕ, suc, true, false, List, [], ◌∷◌, ◌++◌, Option, Some, None, length, arith}
use Rattle.std.specs.Prelude.{IfSome}
use Rattle.std.specs.List.{AllByRecursion, IsDistinct, list_any}
use Rattle.std.proofs.lemmas.Bool.{eqb-true, ltb-true, ne_eqb, or_cases}
use Rattle.std.proofs.lemmas.Map.Steps.{length-le_from_distinct_below}
use Rattle.std.proofs.Math.Dec.{eqb}
use Rattle.std.specs.declared.cmp.Ordering.{Ordering}
use Rattle.std.specs.declared.cmp.Ordering.TheVariants.{Less, Equal, Greater}
use Rattle.mg_base.specs.Disk.{Meaning}
use Rattle.mg_base.specs.Image.{Image}
use Rattle.mg_base.specs.declared.geometry.TheConstants.{GREATEST_LIMIT}
use Rattle.mg_node.specs.declared.entry.Entry.{Entry}
use Rattle.mg_node.specs.NodePage.{IsAtLeast, IsBelow, entries_of, entry_cmp, high_of, level_in, low_of, right_in}
use Rattle.mg_image.specs.Form.{Pages}
use Rattle.mg_image.specs.Indexes.{AreNodes, EachPage, HasChildren, HasEntry, IsLastUpTo, IsNode, IsTree, LevelChain, as_fence, first_level}
use Rattle.mg_image.specs.Tables.{Has, IsOnce, LinkChain, ended, goes}
use Rattle.mg_pool.specs.Batch.{Changed}
use Rattle.mg_pool.specs.declared.pool.Pool.{Pool}
use Rattle.mg_space.specs.View.{KeepsStore, viewed}
use Rattle.mg_tree_overlay_laws.specs.TreeSteps.{InTree}
use Rattle.mg_tree_overlay_laws.specs.TreesBehind.{IsFrom}
use Rattle.mg_tree_overlay_laws.specs.EntryLaws.{child_among, last_exists}
use Rattle.mg_tree_overlay_laws.specs.StepLaws.{each_has, entries_some, has_some}
use Rattle.mg_tree_overlay_laws.specs.GrowLaws.{AreChains, chains_of}
use Rattle.mg_tree_overlay_laws.specs.GrowParts.{root_in}
use Rattle.mg_tree_overlay_laws.specs.FoundLaws.{high_left, neighbour, right_on}
use Rattle.mg_btree.specs.Reading.{IsNodeOn}
use Rattle.mg_btree.specs.Searching.{BeginsAt, IsShort, by_order, child_to}

-- ---- the same pages after a call that has only read

pub viewed_same : {D L : Type 0} (m : Meaning D) (old new : Pool D L) (image : Image) (batch : Changed)
    → KeepsStore m old new → viewed new image batch ≡ viewed old image batch
viewed_same m old new image batch keeps = rw keeps.dirty refl

-- ---- a page of a tree is an index page on its level

pub in_node : (size : ℕ) (pages : Pages) (owner : ℕ) (levels : List (List ℕ)) (n : ℕ)
    → AreNodes size pages owner levels → InTree levels n
    → (below : List ℕ) × IsNode size pages owner (level_in (pages n)) below n
in_node size pages owner [] n nodes placed = absurd placed
in_node size pages owner (level ∷ below) n nodes (inl has) =
    let node = each_has (IsNode size pages owner (length below) (first_level below)) level n has nodes.0 in (
      first_level below,
      subst (λ (k : ℕ). IsNode size pages owner k (first_level below) n) (sym node.on_level) node,
    )
in_node size pages owner (level ∷ below) n nodes (inr later) = in_node size pages owner below n nodes.1 later

-- a page of a tree is one on its level
pub tree_node : (size : ℕ) (pages : Pages) (owner root : ℕ) (levels : List (List ℕ)) (level n : ℕ)
    → IsTree size pages owner root levels → InTree levels n → level_in (pages n) ≡ level
    → IsNodeOn owner level n (pages n)
tree_node size pages owner root levels level n tree placed on_level =
    let node = (in_node size pages owner levels n tree.nodes placed).1 in
    record {
      fields = node.wanted.fields;
      lawful = node.lawful;
      enough = λ inner. node.two (ltb-true 0 (level_in (pages n)) inner);
      on_level = on_level;
    }

pub begins_node : (size : ℕ) (pages : Pages) (owner root : ℕ) (levels : List (List ℕ)) (e : Entry)
    (level n : ℕ) → BeginsAt size pages owner root levels e level n → IsNodeOn owner level n (pages n)
begins_node size pages owner root levels e level n begins =
    tree_node size pages owner root levels level n begins.tree begins.placed begins.on_level

-- ---- to the right

right_in_tree : (size : ℕ) (pages : Pages) (owner : ℕ) (e : Entry) (levels : List (List ℕ)) (n : ℕ)
    → AreChains pages levels → AreNodes size pages owner levels → InTree levels n → (b : Entry)
    → high_of (pages n) ≡ Some b → IsAtLeast e b → InTree levels (right_in (pages n))
    × (level_in (pages (right_in (pages n))) ≡ level_in (pages n)) × IsFrom pages e (right_in (pages n))
right_in_tree size pages owner e [] n chains nodes placed b is past = absurd placed
right_in_tree size pages owner e (level ∷ below) n chains nodes (inr later) b is past =
    let more = right_in_tree size pages owner e below n chains.1 nodes.1 later b is past in
    (inr more.0, more.1, more.2)
right_in_tree size pages owner e (level ∷ below) n chains nodes (inl has) b is past =
    let node = each_has (IsNode size pages owner (length below) (first_level below)) level n has nodes.0 in
    let some : right_in (pages n) ≢ 0 =
    neighbour (right_in (pages n)) (sym (high_left (pages n) b is) ∙ node.high) in
    let placed = right_on size pages owner e chains.0.0 level n chains.0.1 has some in
    let other = each_has (IsNode size pages owner (length below) (first_level below)) level
    (right_in (pages n)) placed nodes.0 in (
      inl placed,
      other.on_level ∙ sym node.on_level,
      subst (λ (low : Option Entry). IfSome low (λ fence. IsAtLeast e fence))
          (sym (node.fence some ∙ is)) past,
    )

-- where an entry does not lie below the high fence of a page the search goes on to the right of it
pub begins_right : (size : ℕ) (pages : Pages) (owner root : ℕ) (levels : List (List ℕ)) (e : Entry)
    (level n : ℕ) → BeginsAt size pages owner root levels e level n
    → (IfSome (high_of (pages n)) (λ fence. IsBelow e fence) → ⊥)
    → BeginsAt size pages owner root levels e level (right_in (pages n))
begins_right size pages owner root levels e level n begins past = at (high_of (pages n)) refl past
  where
    at : (high : Option Entry) → high_of (pages n) ≡ high
        → (IfSome high (λ fence. IsBelow e fence) → ⊥)
        → BeginsAt size pages owner root levels e level (right_in (pages n))
    at None is none = absurd (none tt)
    at (Some b) is behind =
        let more = right_in_tree size pages owner e levels n
        (chains_of pages root levels begins.tree.levels_from) begins.tree.nodes begins.placed b is behind in
        record {
          tree = begins.tree;
          placed = more.0;
          on_level = more.1 ∙ begins.on_level;
          from = more.2;
        }

-- ---- a level ends

tree_some : (pages : Pages) (levels : List (List ℕ)) (n : ℕ) → AreChains pages levels → InTree levels n
    → n ≢ 0
tree_some pages [] n chains placed = absurd placed
tree_some pages (level ∷ below) n chains (inl has) =
    has_some (λ k. right_in (pages k)) chains.0.0 level n chains.0.1 has
tree_some pages (level ∷ below) n chains (inr later) = tree_some pages below n chains.1 later

pub begins_some : (size : ℕ) (pages : Pages) (owner root : ℕ) (levels : List (List ℕ)) (e : Entry)
    (level n : ℕ) → BeginsAt size pages owner root levels e level n → n ≢ 0
begins_some size pages owner root levels e level n begins =
    tree_some pages levels n (chains_of pages root levels begins.tree.levels_from) begins.placed

pub short_right : (pages : Pages) (n most : ℕ) → n ≢ 0 → IsShort pages n (suc most)
    → IsShort pages (right_in (pages n)) most
short_right pages n most some short = at n short.rest short.chain some short.few
  where
    at : (k : ℕ) (rest : List ℕ) → LevelChain pages k rest → k ≢ 0 → length rest ≤ suc most
        → IsShort pages (right_in (pages k)) most
    at k rest ended other few = absurd (other refl)
    at k rest (goes m ms there more) other few =
        record { rest = ms; chain = more; few = omega (arith, few) }

pub short_ends : (pages : Pages) (n : ℕ) → IsShort pages n 0 → n ≡ 0
short_ends pages n short = at n short.rest short.chain short.few
  where
    at : (k : ℕ) (rest : List ℕ) → LevelChain pages k rest → length rest ≤ 0 → k ≡ 0
    at k rest ended few = refl
    at k rest (goes m ms there more) few = absurd (omega (arith, few))

-- chains from one page are of one length, so a page does not come back
chain_length : (next : ℕ → ℕ) (n : ℕ) (ms ns : List ℕ) → LinkChain next n ms → LinkChain next n ns
    → length ms ≡ length ns
chain_length next n ms ns ended other = at 0 ns refl other
  where
    at : (k : ℕ) (ns : List ℕ) → k ≡ 0 → LinkChain next k ns → 0 ≡ length ns
    at k ns zero_ ended = refl
    at k ns zero_ (goes j js some more) = absurd (some zero_)
chain_length next n ms ns (goes k ks some more) other =
    at k ns refl other (λ js rest. chain_length next (next k) ks js more rest)
  where
    at : (j : ℕ) (ns : List ℕ) → j ≡ k → LinkChain next j ns
        → ((js : List ℕ) → LinkChain next (next k) js → length ks ≡ length js) → suc (length ks) ≡ length ns
    at j ns same ended as_long = absurd (some (sym same))
    at j ns same (goes i is some_ rest) as_long =
        ap suc (as_long is (subst (λ (m : ℕ). LinkChain next (next m) is) same rest))

rest_of : (next : ℕ → ℕ) (first : ℕ) (ns : List ℕ) (n : ℕ) → LinkChain next first ns → Has ns n
    → (rest : List ℕ) × LinkChain next n rest × (length rest ≤ length ns)
rest_of next first ns n ended has = absurd has
rest_of next first ns n (goes k ks some more) (inl same) = (
  k ∷ ks,
  subst (λ (m : ℕ). LinkChain next m (k ∷ ks)) (sym same) (goes k ks some more),
  omega arith,
)
rest_of next first ns n (goes k ks some more) (inr later) =
    let there = rest_of next (next k) ks n more later in
    (there.0, there.1, let less = there.2 in omega (arith, less))

pub chain_once : (next : ℕ → ℕ) (first : ℕ) (ns : List ℕ) → LinkChain next first ns → IsOnce ns
chain_once next first ns ended = tt
chain_once next first ns (goes k ks some more) = (back, chain_once next (next k) ks more)
  where
    back : Has ks k → ⊥
    back has =
        let again = rest_of next (next k) ks k more has in
        let same = chain_length next k (k ∷ ks) again.0 (goes k ks some more) again.1 in
        let less = again.2 in omega (arith, same, less)

apart : (n : ℕ) (ns : List ℕ) → (Has ns n → ⊥) → AllByRecursion (λ y. eqb n y ≡ false) ns
apart n [] none = tt
apart n (m ∷ ms) none = (ne_eqb n m (λ same. none (inl same)), apart n ms (λ has. none (inr has)))

is_distinct : (ns : List ℕ) → IsOnce ns → IsDistinct eqb ns
unfolding IsDistinct
is_distinct [] once = tt
is_distinct (n ∷ ns) once = (apart n ns once.0, is_distinct ns once.1)

any_has : (q : ℕ) (ns : List ℕ) → list_any (eqb q) ns ≡ true → Has ns q
any_has q [] is = absurd cc
any_has q (n ∷ ns) is = at (or_cases (eqb q n) (list_any (eqb q) ns) is) (any_has q ns)
  where
    at : (eqb q n ≡ true) ⊎ (list_any (eqb q) ns ≡ true) → (list_any (eqb q) ns ≡ true → Has ns q)
        → (q ≡ n) ⊎ Has ns q
    at (inl same) more = inl (eqb-true q n same)
    at (inr later) more = inr (more later)

chain_few : (size : ℕ) (pages : Pages) (owner level : ℕ) (below : List ℕ) (first : ℕ) (ns : List ℕ)
    → LevelChain pages first ns → EachPage (IsNode size pages owner level below) ns
    → length ns ≤ GREATEST_LIMIT
chain_few size pages owner level below first ns chain nodes =
    length-le_from_distinct_below ns GREATEST_LIMIT
    (is_distinct ns (chain_once (λ k. right_in (pages k)) first ns chain))
    (λ q is. (each_has (IsNode size pages owner level below) ns q (any_has q ns is) nodes).wanted.below)

short_in : (size : ℕ) (pages : Pages) (owner : ℕ) (levels : List (List ℕ)) (n : ℕ)
    → AreChains pages levels → AreNodes size pages owner levels → InTree levels n
    → IsShort pages n GREATEST_LIMIT
short_in size pages owner [] n chains nodes placed = absurd placed
short_in size pages owner (level ∷ below) n chains nodes (inl has) =
    let there = rest_of (λ k. right_in (pages k)) chains.0.0 level n chains.0.1 has in
    let few = chain_few size pages owner (length below) (first_level below) chains.0.0 level chains.0.1 nodes.0 in
    let less = there.2 in
    record { rest = there.0; chain = there.1; few = omega (arith, few, less) }
short_in size pages owner (level ∷ below) n chains nodes (inr later) =
    short_in size pages owner below n chains.1 nodes.1 later

pub begins_short : (size : ℕ) (pages : Pages) (owner root : ℕ) (levels : List (List ℕ)) (e : Entry)
    (level n : ℕ) → BeginsAt size pages owner root levels e level n → IsShort pages n GREATEST_LIMIT
begins_short size pages owner root levels e level n begins = short_in size pages owner levels n
    (chains_of pages root levels begins.tree.levels_from) begins.tree.nodes begins.placed

-- ---- down

pub stays_to : (e : Entry) (child : ℕ) (es : List Entry) → ((f : Entry) → HasEntry es f → IsBelow e f)
    → child_to e child es ≡ child
stays_to e child [] all = refl
stays_to e child (f ∷ fs) all =
    stays_to e (by_order (entry_cmp e f) child f.child.0) fs (λ g has. all g (inr has))
    ∙ ap (λ (o : Ordering). by_order o child f.child.0) (all f (inl refl))

pub taken_to : (o : Ordering) (child next : ℕ) → o ≢ Less → by_order o child next ≡ next
taken_to Less child next up = absurd (up refl)
taken_to Equal child next up = refl
taken_to Greater child next up = refl

last_to : (e : Entry) (child : ℕ) (front back : List Entry) (last : Entry) → IsAtLeast e last
    → ((f : Entry) → HasEntry back f → IsBelow e f)
    → child_to e child (front ++ last ∷ back) ≡ last.child.0
last_to e child [] back last up all =
    stays_to e (by_order (entry_cmp e last) child last.child.0) back all
    ∙ taken_to (entry_cmp e last) child last.child.0 up
last_to e child (b ∷ bs) back last up all =
    last_to e (by_order (entry_cmp e b) child b.child.0) bs back last up all

child_to_is : (es : List Entry) (e last : Entry) → IsLastUpTo es e last
    → child_to e 0 es ≡ last.child.0
child_to_is es e last up = ap (child_to e 0) up.parts
    ∙ last_to e 0 up.before up.after last up.up_to up.then_behind

child_in : (size : ℕ) (pages : Pages) (owner : ℕ) (e : Entry) (levels : List (List ℕ)) (k n : ℕ)
    → AreNodes size pages owner levels → InTree levels n → level_in (pages n) ≡ suc k
    → IsFrom pages e n → InTree levels (child_to e 0 (entries_of (pages n)))
    × (level_in (pages (child_to e 0 (entries_of (pages n)))) ≡ k)
    × IsFrom pages e (child_to e 0 (entries_of (pages n)))
child_in size pages owner e [] k n nodes placed up from = absurd placed
child_in size pages owner e (level ∷ below) k n nodes (inr later) up from =
    let more = child_in size pages owner e below k n nodes.1 later up from in (inr more.0, more.1, more.2)
child_in size pages owner e (level ∷ []) k n nodes (inl has) up from =
    let node = each_has (IsNode size pages owner 0 []) level n has nodes.0 in
    let on_level = node.on_level in absurd (omega (arith, on_level, up))
child_in size pages owner e (level ∷ next ∷ rest) k n nodes (inl has) up from =
    let node = each_has (IsNode size pages owner (suc (length rest)) next) level n has nodes.0 in
    let on_level = node.on_level in
    let found = last_exists (pages n) e node.lawful (omega (arith, up))
    (entries_some size pages owner (suc (length rest)) next n (omega arith) node) from in
    let child = child_among pages next (low_of (pages n)) found.1.before found.1.after found.0
    (subst (HasChildren pages next (low_of (pages n))) found.1.parts (node.children (omega arith))) in
    let is : child_to e 0 (entries_of (pages n)) ≡ found.0.child.0 =
    child_to_is (entries_of (pages n)) e found.0 found.1 in
    let below = each_has (IsNode size pages owner (length rest) (first_level rest)) next found.0.child.0
    child.0 nodes.1.0 in
    let on_next = below.on_level in
    rw is (inr (inl child.0), omega (arith, on_next, on_level, up), at found.0 found.1.up_to child.1)
  where
    at : (last : Entry) → IsAtLeast e last → (low_of (pages last.child.0) ≡ Some (as_fence last))
        ⊎ (low_of (pages last.child.0) ≡ low_of (pages n)) → IsFrom pages e last.child.0
    at last up_to (inl low) =
        subst (λ (x : Option Entry). IfSome x (λ b. IsAtLeast e b)) (sym low) up_to
    at last up_to (inr low) = subst (λ (x : Option Entry). IfSome x (λ b. IsAtLeast e b)) (sym low) from

-- below a page the search goes on from the child of the last entry up to the one that is looked for
pub begins_down : (size : ℕ) (pages : Pages) (owner root : ℕ) (levels : List (List ℕ)) (e : Entry)
    (level n : ℕ) → BeginsAt size pages owner root levels e (suc level) n
    → BeginsAt size pages owner root levels e level (child_to e 0 (entries_of (pages n)))
begins_down size pages owner root levels e level n begins =
    let more = child_in size pages owner e levels level n begins.tree.nodes begins.placed begins.on_level
    begins.from in
    record { tree = begins.tree; placed = more.0; on_level = more.1; from = more.2 }

-- a search begins at the root
pub begins_root : (size : ℕ) (pages : Pages) (owner root : ℕ) (levels : List (List ℕ)) (e : Entry)
    → IsTree size pages owner root levels
    → BeginsAt size pages owner root levels e (level_in (pages root)) root
begins_root size pages owner root levels e tree = record {
  tree = tree;
  placed = root_in size pages owner root levels tree.rooted tree;
  on_level = refl;
  from = rw tree.root_low tt;
}

-- the same of any page of a tree
pub tree_short : (size : ℕ) (pages : Pages) (owner root : ℕ) (levels : List (List ℕ)) (n : ℕ)
    → IsTree size pages owner root levels → InTree levels n → IsShort pages n GREATEST_LIMIT
tree_short size pages owner root levels n tree placed = short_in size pages owner levels n
    (chains_of pages root levels tree.levels_from) tree.nodes placed

pub tree_page : (size : ℕ) (pages : Pages) (owner root : ℕ) (levels : List (List ℕ)) (n : ℕ)
    → IsTree size pages owner root levels → InTree levels n → n ≢ 0
tree_page size pages owner root levels n tree placed =
    tree_some pages levels n (chains_of pages root levels tree.levels_from) placed
