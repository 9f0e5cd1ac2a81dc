-- Laws of the scan of a range along the leaves of a tree.
use Rattle.std.proofs.Common.{◌≡◌, ◌≢◌, ◌⊎◌, inl, inr, ◌∙◌, ap, refl, sym, subst, ℕ, List, [], ◌∷◌, ◌++◌, Option, Some, None, Result, Ok, Err, length}
use Rattle.std.specs.Prelude.{IfSome}
use Rattle.std.specs.Ordering.{nat_cmp, ordering_then}
use Rattle.std.specs.Cmp.Lexicographic.{slice_cmp}
use Rattle.mg_base.specs.Fields.{u32_at}
use Rattle.mg_base.specs.declared.fields.TheConstants.{OWNER_AT}
use Rattle.mg_node.specs.declared.entry.Entry.{Entry}
use Rattle.mg_node.specs.NodeReading.{IsNodeOf}
use Rattle.mg_node.specs.EntryOrderLaws.{entry_cmp_total}
use Rattle.mg_node.specs.NodePage.{AreAscending, IsAtLeast, IsBelow, entries_of, high_of, level_in, low_of, right_in}
use Rattle.mg_image.specs.Form.{Pages}
use Rattle.mg_image.specs.Indexes.{AreNodes, Finds, HasEntry, IsNode, IsTree, first_level}
use Rattle.mg_tree_overlay_laws.specs.TreeSteps.{InTree}
use Rattle.mg_tree_overlay_laws.specs.TreesBehind.{IsFrom}
use Rattle.mg_tree_overlay_laws.specs.EntryLaws.{below_at_least, between_has, number_not_less, then_not_less}
use Rattle.mg_tree_overlay_laws.specs.StepLaws.{each_has}
use Rattle.mg_tree_overlay_laws.specs.GrowLaws.{AreChains, chains_of}
use Rattle.mg_tree_overlay_laws.specs.FoundLaws.{high_left, neighbour, right_on}
use Rattle.mg_tree_overlay_laws.specs.DescentLaws.{ascends, not_below_itself}
use Rattle.mg_tree_overlay_laws.specs.KeptLaws.{leaf_found}
use Rattle.mg_tree_overlay_laws.specs.SearchLaws.{leaf_has_found}
use Rattle.mg_tree_overlay_laws.specs.LeafLaws.{back_has}
use Rattle.mg_space.specs.declared.fault.SpaceFault.{SpaceFault}
use Rattle.mg_space.specs.declared.fault.SpaceFault.TheVariants.{Full, Pool as OfPool, Damaged as OfPage}
use Rattle.mg_btree.specs.declared.node.ReadNode.{ReadNode}
use Rattle.mg_btree.specs.Reading.{IsNodeOn}
use Rattle.mg_btree.specs.Searching.{BeginsAt}
use Rattle.mg_btree.specs.SearchLaws.{begins_node, begins_right, tree_node}
use Rattle.mg_btree.specs.Changing.{ReadsLeaf}
use Rattle.mg_btree.specs.ChangeLaws.{behind_ascends, either_parts}
use Rattle.mg_btree.specs.RootLaws.{owner_is}
use Rattle.mg_btree.specs.Ranges.{GivesNext, IsFirst, IsInRange, IsPassed, ScansFrom, StartsRange, Steps, least_with, right_by}
use Rattle.mg_btree.specs.declared.range.Step.{Step}

-- ---- the scan of a list of entries

pub passed_none : (low : List ℕ) (bound : Option Entry) (all : List Entry) → IsPassed low bound all all
passed_none low bound all = record { front = []; parts = refl; none = λ f has. absurd has }

in_end : (front : List Entry) (e f : Entry) → HasEntry (front ++ e ∷ []) f → HasEntry front f ⊎ (f ≡ e)
in_end [] e f (inl same) = inr same
in_end [] e f (inr none) = absurd none
in_end (x ∷ xs) e f (inl same) = inl (inl same)
in_end (x ∷ xs) e f (inr later) = at (in_end xs e f later)
  where
    at : HasEntry xs f ⊎ (f ≡ e) → HasEntry (x ∷ xs) f ⊎ (f ≡ e)
    at (inl has) = inl (inr has)
    at (inr same) = inr same

move_end : (front : List Entry) (e : Entry) (rest : List Entry)
    → front ++ e ∷ rest ≡ (front ++ e ∷ []) ++ rest
move_end [] e rest = refl
move_end (x ∷ xs) e rest = ap (λ (es : List Entry). x ∷ es) (move_end xs e rest)

pub passed_more : (low : List ℕ) (bound : Option Entry) (all rest later : List Entry) (e : Entry)
    → IsPassed low bound all rest → rest ≡ e ∷ later → (IsInRange low bound e → ⊥)
    → IsPassed low bound all later
passed_more low bound all rest later e passed opens out = record {
  front = passed.front ++ e ∷ [];
  parts = passed.parts ∙ (ap (λ (es : List Entry). passed.front ++ es) opens ∙ move_end passed.front e later);
  none = λ f has. at f (in_end passed.front e f has);
}
  where
    at : (f : Entry) → HasEntry passed.front f ⊎ (f ≡ e) → IsInRange low bound f → ⊥
    at f (inl has) = passed.none f has
    at f (inr same) = λ within. out (subst (IsInRange low bound) same within)

pub passed_first : (low : List ℕ) (bound : Option Entry) (all rest later : List Entry) (e : Entry)
    → IsPassed low bound all rest → rest ≡ e ∷ later → IsInRange low bound e → IsFirst low bound all e
passed_first low bound all rest later e passed opens within = record {
  front = passed.front;
  back = later;
  parts = passed.parts ∙ ap (λ (es : List Entry). passed.front ++ es) opens;
  within = within;
  none_before = passed.none;
}

pub passed_all : (low : List ℕ) (bound : Option Entry) (all rest : List Entry)
    → IsPassed low bound all rest → rest ≡ [] → (f : Entry) → HasEntry all f → IsInRange low bound f → ⊥
passed_all low bound all rest passed empty f has =
    passed.none f (subst (λ (es : List Entry). HasEntry es f)
    (passed.parts ∙ (ap (λ (es : List Entry). passed.front ++ es) empty ∙ plain passed.front)) has)
  where
    plain : (es : List Entry) → es ++ [] ≡ es
    plain [] = refl
    plain (x ∷ xs) = ap (λ (ys : List Entry). x ∷ ys) (plain xs)

-- ---- where a range begins

-- what lies in a range does not come before its least entry
from_least : (low : List ℕ) (bound : Option Entry) (f : Entry) → IsInRange low bound f
    → IsAtLeast f (least_with low)
from_least low bound f within =
    then_not_less (slice_cmp nat_cmp f.key low) (ordering_then (nat_cmp f.rec.page.0 0) (nat_cmp f.rec.slot 0))
    within.0 (then_not_less (nat_cmp f.rec.page.0 0) (nat_cmp f.rec.slot 0) (number_not_less f.rec.page.0)
    (number_not_less f.rec.slot))

from_low : (fence : Option Entry) (start f : Entry) → IfSome fence (λ a. IsAtLeast start a)
    → IsAtLeast f start → IfSome fence (λ a. IsAtLeast f a)
from_low None start f reached past = tt
from_low (Some a) start f reached past = λ less. past (below_at_least f a start less reached)

behind_start : (start f : Entry) → IsBelow start f → IsAtLeast f start
behind_start start f less = λ back. not_below_itself f (entry_cmp_total.trans f start f back less)

scans : (size : ℕ) (pages : Pages) (owner root : ℕ) (levels : List (List ℕ)) (low : List ℕ)
    (bound : Option Entry) (start : Entry) (result : Result ReadNode SpaceFault)
    → IsTree size pages owner root levels
    → ((f : Entry) → IsInRange low bound f → IsAtLeast f start)
    → ReadsLeaf size pages owner levels start result
    → StartsRange size pages owner root levels low bound result
scans size pages owner root levels low bound start (Ok read) tree past leaf = record {
  tree = tree;
  bytes = leaf.1;
  says = leaf.0.says;
  placed = leaf.2;
  leaf = ap level_in (sym leaf.1) ∙ leaf.0.is.on_level;
  from = λ f found within. subst (λ (b : List ℕ). IfSome (low_of b) (λ a. IsAtLeast f a)) leaf.1
      (from_low (low_of read.bytes) start f leaf.0.from (past f within));
}
scans size pages owner root levels low bound start (Err (Full limit)) tree past none = none
scans size pages owner root levels low bound start (Err (OfPage damage)) tree past none = none
scans size pages owner root levels low bound start (Err (OfPool fault)) tree past is = tt

pub scans_from_low : (size : ℕ) (pages : Pages) (owner root : ℕ) (levels : List (List ℕ)) (low : List ℕ)
    (start : Entry) (result : Result ReadNode SpaceFault) → IsTree size pages owner root levels
    → start ≡ least_with low → ReadsLeaf size pages owner levels start result
    → StartsRange size pages owner root levels low None result
scans_from_low size pages owner root levels low start result tree is leaf =
    scans size pages owner root levels low None start result tree
    (λ f within. subst (IsAtLeast f) (sym is) (from_least low None f within)) leaf

pub scans_behind : (size : ℕ) (pages : Pages) (owner root : ℕ) (levels : List (List ℕ)) (low : List ℕ)
    (bound : Entry) (result : Result ReadNode SpaceFault) → IsTree size pages owner root levels
    → ReadsLeaf size pages owner levels bound result
    → StartsRange size pages owner root levels low (Some bound) result
scans_behind size pages owner root levels low bound result tree leaf =
    scans size pages owner root levels low (Some bound) bound result tree
    (λ f within. behind_start bound f within.1) leaf

-- ---- the last leaf, and the right neighbour

last_bare : (size : ℕ) (pages : Pages) (owner : ℕ) (levels : List (List ℕ)) (n : ℕ) (b : Entry)
    → AreNodes size pages owner levels → InTree levels n → high_of (pages n) ≡ Some b
    → right_in (pages n) ≡ 0 → ⊥
last_bare size pages owner [] n b nodes placed is last = placed
last_bare size pages owner (level ∷ below) n b nodes (inr later) is last =
    last_bare size pages owner below n b nodes.1 later is last
last_bare size pages owner (level ∷ below) n b nodes (inl has) is last =
    let node = each_has (IsNode size pages owner (length below) (first_level below)) level n has nodes.0 in
    neighbour (right_in (pages n)) (sym (high_left (pages n) b is) ∙ node.high) last

right_there : (size : ℕ) (pages : Pages) (owner : ℕ) (levels : List (List ℕ)) (n : ℕ)
    → AreChains pages levels → AreNodes size pages owner levels → InTree levels n
    → right_in (pages n) ≢ 0 → InTree levels (right_in (pages n))
    × (level_in (pages (right_in (pages n))) ≡ level_in (pages n))
right_there size pages owner [] n chains nodes placed some = absurd placed
right_there size pages owner (level ∷ below) n chains nodes (inr later) some =
    let more = right_there size pages owner below n chains.1 nodes.1 later some in (inr more.0, more.1)
right_there size pages owner (level ∷ below) n chains nodes (inl has) some =
    let node = each_has (IsNode size pages owner (length below) (first_level below)) level n has nodes.0 in
    let placed = right_on size pages owner (least_with []) chains.0.0 level n chains.0.1 has some in
    let other = each_has (IsNode size pages owner (length below) (first_level below)) level
    (right_in (pages n)) placed nodes.0 in
    (inl placed, other.on_level ∙ sym node.on_level)

-- ---- what a leaf gives

module _ (size : ℕ) (pages : Pages) (owner root : ℕ) (levels : List (List ℕ)) (low : List ℕ)
    (bound : Option Entry) (read : ReadNode)
    (scan : ScansFrom size pages owner root levels low bound read)
  where
    abbrev n : ℕ
    n = read.page.0

    entries_are : read.node.entries.items ≡ entries_of (pages n)
    entries_are = scan.says.entries ∙ ap entries_of scan.bytes

    begins : (f : Entry) → Finds pages f root → IsInRange low bound f
        → BeginsAt size pages owner root levels f 0 n
    begins f found within = record {
      tree = scan.tree;
      placed = scan.placed;
      on_level = scan.leaf;
      from = scan.from f found within;
    }

    node : (f : Entry) → IsFrom pages f n → IsNodeOn owner 0 n (pages n)
    node f from = begins_node size pages owner root levels f 0 n (record {
      tree = scan.tree;
      placed = scan.placed;
      on_level = scan.leaf;
      from = from;
    })

    -- an entry of the range that the leaf covers stands on it
    on_leaf : (f : Entry) → Finds pages f root → IsInRange low bound f
        → IfSome (high_of (pages n)) (λ b. IsBelow f b) → HasEntry read.node.entries.items f
    on_leaf f found within before = subst (λ (es : List Entry). HasEntry es f) (sym entries_are)
        (leaf_has_found size owner root pages levels n f scan.tree scan.placed scan.leaf
        (scan.from f found within, before) found)

    before_high : (f e : Entry) (high : Option Entry) → IfSome high (λ b. IsBelow e b) → IsBelow f e
        → IfSome high (λ b. IsBelow f b)
    before_high f e None before less = tt
    before_high f e (Some b) before less = entry_cmp_total.trans f e b less before

    pub gives_found : (e : Entry) → IsFirst low bound read.node.entries.items e
        → GivesNext pages root low bound (Some e)
    gives_found e first = (found_e, first.within, λ f found within less. least f found within less)
      where
        has_e : HasEntry (entries_of (pages n)) e
        has_e = subst (λ (es : List Entry). HasEntry es e) entries_are
            (rw first.parts (back_has first.front (e ∷ first.back) e (inl refl)))

        found_e : Finds pages e root
        found_e = leaf_found size pages owner root levels n e scan.tree scan.placed scan.leaf has_e

        of_n : IsNodeOn owner 0 n (pages n)
        of_n = node e (scan.from e found_e first.within)

        below_e : IfSome (high_of (pages n)) (λ b. IsBelow e b)
        below_e = between_has (low_of (pages n)) (high_of (pages n)) (entries_of (pages n)) e of_n.lawful.between has_e

        up : AreAscending (first.front ++ e ∷ first.back)
        up = subst AreAscending (sym entries_are ∙ first.parts) of_n.lawful.ascending

        least : (f : Entry) → Finds pages f root → IsInRange low bound f → IsBelow f e → ⊥
        least f found within less = at (either_parts first.front first.back e f
            (subst (λ (es : List Entry). HasEntry es f) first.parts
            (on_leaf f found within (before_high f e (high_of (pages n)) below_e less))))
          where
            at : HasEntry first.front f ⊎ ((f ≡ e) ⊎ HasEntry first.back f) → ⊥
            at (inl there) = first.none_before f there within
            at (inr (inl same)) = not_below_itself e (subst (λ (x : Entry). IsBelow x e) same less)
            at (inr (inr there)) = not_below_itself f (entry_cmp_total.trans f e f less
                (ascends e first.back f (behind_ascends first.front first.back e up) there))

    -- where the last leaf has none there is none
    pub gives_none : ((f : Entry) → HasEntry read.node.entries.items f → IsInRange low bound f → ⊥)
        → read.node.right.0 ≡ 0 → GivesNext pages root low bound None
    gives_none none last f found within = none f (on_leaf f found within no_high) within
      where
        right_zero : right_in (pages n) ≡ 0
        right_zero = ap right_in (sym scan.bytes) ∙ (sym scan.says.right ∙ last)

        no_high : IfSome (high_of (pages n)) (λ b. IsBelow f b)
        no_high = at (high_of (pages n)) refl
          where
            at : (high : Option Entry) → high_of (pages n) ≡ high → IfSome high (λ b. IsBelow f b)
            at None is = tt
            at (Some b) is = absurd (last_bare size pages owner levels n b scan.tree.nodes scan.placed is right_zero)

    -- else the scan goes on to the right
    pub goes_right : (next : ReadNode) → ((f : Entry) → HasEntry read.node.entries.items f
        → IsInRange low bound f → ⊥) → read.node.right.0 ≢ 0 → next.page.0 ≡ read.node.right.0
        → next.bytes ≡ pages next.page.0 → IsNodeOf next.bytes next.node
        → ScansFrom size pages owner root levels low bound next
    goes_right next none some page bytes says = record {
      tree = scan.tree;
      bytes = bytes;
      says = says;
      placed = subst (InTree levels) (sym right_is) there.0;
      leaf = ap (λ (k : ℕ). level_in (pages k)) right_is ∙ (there.1 ∙ scan.leaf);
      from = λ f found within. subst (IsFrom pages f) (sym right_is)
          (begins_right size pages owner root levels f 0 n (begins f found within)
          (λ before. none f (on_leaf f found within before) within)).from;
    }
      where
        right_is : next.page.0 ≡ right_in (pages n)
        right_is = page ∙ (scan.says.right ∙ ap right_in scan.bytes)

        there : InTree levels (right_in (pages n)) × (level_in (pages (right_in (pages n))) ≡ level_in (pages n))
        there = right_there size pages owner levels n (chains_of pages root levels scan.tree.levels_from)
            scan.tree.nodes scan.placed
            (λ zero_. some (scan.says.right ∙ (ap right_in scan.bytes ∙ zero_)))

    -- and the right neighbour is an index page on the level of the leaves
    pub right_is_node : read.node.right.0 ≢ 0
        → IsNodeOn owner 0 read.node.right.0 (pages read.node.right.0)
    right_is_node some =
        let is : right_in (pages n) ≡ read.node.right.0 = sym (scan.says.right ∙ ap right_in scan.bytes) in
        let there = right_there size pages owner levels n (chains_of pages root levels scan.tree.levels_from)
        scan.tree.nodes scan.placed (λ zero_. some (sym is ∙ zero_)) in
        subst (λ (k : ℕ). IsNodeOn owner 0 k (pages k)) is
        (tree_node size pages owner root levels 0 (right_in (pages n)) scan.tree there.0 (there.1 ∙ scan.leaf))

    pub owner_of_leaf : u32_at read.bytes OWNER_AT ≡ owner
    owner_of_leaf = ap (λ (b : List ℕ). u32_at b OWNER_AT) scan.bytes
        ∙ owner_is (pages n) n owner (tree_node size pages owner root levels 0 n scan.tree scan.placed scan.leaf).fields

    -- a step that comes to this leaf
    pub steps_found : (start : ReadNode) (passed : ℕ) (e : Entry) (step : Step)
        → step ≡ record { found = Some e; walk = record { leaf = read }; passed = passed }
        → IsFirst low bound read.node.entries.items e
        → read.page.0 ≡ right_by pages start.page.0 passed
        → Steps size pages owner root levels low bound start step
    steps_found start passed e step is first place = rw is (record {
      gives = gives_found e first;
      place = place;
      goes_on = record {
        tree = scan.tree;
        bytes = scan.bytes;
        says = scan.says;
        placed = scan.placed;
        leaf = scan.leaf;
        from = λ f found within. scan.from f found (within.0, above bound f within.1 first.within.1);
      };
    })
      where
        above : (b : Option Entry) (f : Entry) → IsBelow e f → IfSome b (λ a. IsBelow a e)
            → IfSome b (λ a. IsBelow a f)
        above None f less before = tt
        above (Some a) f less before = entry_cmp_total.trans a e f before less

    pub steps_none : (start : ReadNode) (passed : ℕ) (step : Step)
        → step ≡ record { found = None; walk = record { leaf = read }; passed = passed }
        → ((f : Entry) → HasEntry read.node.entries.items f → IsInRange low bound f → ⊥)
        → read.node.right.0 ≡ 0 → read.page.0 ≡ right_by pages start.page.0 passed
        → Steps size pages owner root levels low bound start step
    steps_none start passed step is none last place =
        rw is (record { gives = gives_none none last; place = place; goes_on = scan })
