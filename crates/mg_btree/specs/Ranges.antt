-- The entries of a range, and the least of them.
use Rattle.std.specs.Prelude.{◌≡◌, ◌≢◌, ℕ, zero, suc, List, [], ◌∷◌, ◌++◌, Option, Some, None, IfSome, Result, Ok, Err}
use Rattle.std.specs.Ordering.{nat_cmp}
use Rattle.std.specs.Cmp.Lexicographic.{slice_cmp}
use Rattle.std.specs.declared.cmp.Ordering.TheVariants.{Less}
use Rattle.mg_node.specs.declared.entry.Entry.{Entry}
use Rattle.mg_node.specs.NodePage.{IsBelow, level_in, right_in}
use Rattle.mg_image.specs.Form.{Pages}
use Rattle.mg_node.specs.NodeReading.{IsNodeOf}
use Rattle.mg_image.specs.Indexes.{Finds, HasEntry, IsTree}
use Rattle.mg_pool.specs.Batch.{Changed}
use Rattle.mg_tree_overlay_laws.specs.TreeSteps.{InTree}
use Rattle.mg_tree_overlay_laws.specs.TreesBehind.{IsFrom}
use Rattle.mg_btree.specs.declared.node.ReadNode.{ReadNode}
use Rattle.mg_btree.specs.declared.range.Look.{Look}
use Rattle.mg_btree.specs.declared.range.Look.TheVariants.{Ends, GoesOn}
use Rattle.mg_btree.specs.declared.range.Step.{Step}
use Rattle.mg_btree.specs.declared.range.Walk.{Walk}
use Rattle.mg_space.specs.declared.fault.SpaceFault.{SpaceFault}
use Rattle.mg_space.specs.declared.fault.SpaceFault.TheVariants.{Full, Pool as OfPool, Damaged as OfPage}

-- an entry has a key at or above a low end, and comes behind another entry, where there is one
abbrev pub IsInRange : List ℕ → Option Entry → Entry → Type 0
IsInRange low bound e = (slice_cmp nat_cmp e.key low ≢ Less) × IfSome bound (λ a. IsBelow a e)

-- the least entry with a key
abbrev pub least_with : List ℕ → Entry
least_with key = record {
  key = key;
  rec = record { page = record { 0 = 0 }; slot = 0 };
  child = record { 0 = 0 };
}

-- The first of these entries that lies in a range, and no one before it.
pub record IsFirst (low : List ℕ) (bound : Option Entry) (es : List Entry) (e : Entry) : Type 0 where
  pub front : List Entry
  pub back : List Entry
  pub parts : es ≡ front ++ e ∷ back
  pub within : IsInRange low bound e
  pub none_before : (f : Entry) → HasEntry front f → IsInRange low bound f → ⊥

abbrev pub IsFirstInRange : List ℕ → Option Entry → List Entry → Option Entry → Type 0
IsFirstInRange low bound es None = (f : Entry) → HasEntry es f → IsInRange low bound f → ⊥
IsFirstInRange low bound es (Some e) = IsFirst low bound es e

-- a leaf has that first entry, or none, and then it is the last of its level
abbrev pub FoundOn : List ℕ → Option Entry → ReadNode → Option Entry → Type 0
FoundOn low bound leaf None = IsFirstInRange low bound leaf.node.entries.items None
    × (leaf.node.right.0 ≡ 0)
FoundOn low bound leaf (Some e) = IsFirstInRange low bound leaf.node.entries.items (Some e)

-- a walk ends at a leaf behind so many others, or goes on to its right neighbour
abbrev pub LooksOn : List ℕ → Option Entry → ReadNode → ℕ → Look → Type 0
LooksOn low bound leaf passed (Ends step) = (found : Option Entry)
    × (step ≡ record { found = found; walk = record { leaf = leaf }; passed = passed })
    × FoundOn low bound leaf found
LooksOn low bound leaf passed (GoesOn next) = (next ≡ leaf.node.right) × (leaf.node.right.0 ≢ 0)
    × IsFirstInRange low bound leaf.node.entries.items None

-- the least entry of a tree in a range, or none
abbrev pub GivesNext : Pages → ℕ → List ℕ → Option Entry → Option Entry → Type 0
GivesNext pages root low bound None =
    (f : Entry) → Finds pages f root → IsInRange low bound f → ⊥
GivesNext pages root low bound (Some e) = Finds pages e root × IsInRange low bound e
    × ((f : Entry) → Finds pages f root → IsInRange low bound f → IsBelow f e → ⊥)

-- in a tree the least entry of the range is given, or the cache refuses
abbrev pub GivesRange : Pages → ℕ → List ℕ → Option Entry → Result (Option Entry) SpaceFault → Type 0
GivesRange pages root low bound (Ok found) = GivesNext pages root low bound found
GivesRange pages root low bound (Err (Full limit)) = ⊥
GivesRange pages root low bound (Err (OfPage damage)) = ⊥
GivesRange pages root low bound (Err (OfPool fault)) = Unit {0}

-- a batch that puts no page
abbrev pub no_pages : Changed
no_pages = record { pages = []; orders = [] }

-- A leaf of a tree was read, and no entry of the range stands on a leaf before it.
pub record ScansFrom (size : ℕ) (pages : Pages) (owner root : ℕ) (levels : List (List ℕ))
    (low : List ℕ) (bound : Option Entry) (read : ReadNode) : Type 0 where
  pub tree : IsTree size pages owner root levels
  pub bytes : read.bytes ≡ pages read.page.0
  pub says : IsNodeOf read.bytes read.node
  pub placed : InTree levels read.page.0
  pub leaf : level_in (pages read.page.0) ≡ 0
  pub from : (f : Entry) → Finds pages f root → IsInRange low bound f → IsFrom pages f read.page.0

-- in a tree such a leaf was read, or the cache refuses
abbrev pub StartsRange : ℕ → Pages → ℕ → ℕ → List (List ℕ) → List ℕ → Option Entry
    → Result ReadNode SpaceFault → Type 0
StartsRange size pages owner root levels low bound (Ok read) =
    ScansFrom size pages owner root levels low bound read
StartsRange size pages owner root levels low bound (Err (Full limit)) = ⊥
StartsRange size pages owner root levels low bound (Err (OfPage damage)) = ⊥
StartsRange size pages owner root levels low bound (Err (OfPool fault)) = Unit {0}

-- The entries that a scan has passed are none of the range.
pub record IsPassed (low : List ℕ) (bound : Option Entry) (all rest : List Entry) : Type 0 where
  pub front : List Entry
  pub parts : all ≡ front ++ rest
  pub none : (f : Entry) → HasEntry front f → IsInRange low bound f → ⊥

-- ---- walks

-- a walk was begun in a tree, or the cache refuses
abbrev pub StartsWalk : ℕ → Pages → ℕ → ℕ → List (List ℕ) → List ℕ → Option Entry
    → Result Walk SpaceFault → Type 0
StartsWalk size pages owner root levels low bound (Ok walk) =
    ScansFrom size pages owner root levels low bound walk.leaf
StartsWalk size pages owner root levels low bound (Err fault) =
    StartsRange size pages owner root levels low bound (Err fault)

-- so many right neighbours behind a page
abbrev pub right_by : Pages → ℕ → ℕ → ℕ
right_by pages n zero = n
right_by pages n (suc count) = right_in (pages (right_by pages n count))

-- what comes behind an entry that was found, or else behind the old bound
abbrev pub behind : Option Entry → Option Entry → Option Entry
behind bound None = bound
behind bound (Some e) = Some e

-- A walk has come to the least entry of the range, or there is none. It read right neighbours of its
-- leaf, one after another, and may go on from the last one: no entry of the range stands on a leaf
-- before it.
pub record Steps (size : ℕ) (pages : Pages) (owner root : ℕ) (levels : List (List ℕ)) (low : List ℕ)
    (bound : Option Entry) (start : ReadNode) (step : Step) : Type 0 where
  pub gives : GivesNext pages root low bound step.found
  pub place : step.walk.leaf.page.0 ≡ right_by pages start.page.0 step.passed
  pub goes_on : ScansFrom size pages owner root levels low (behind bound step.found) step.walk.leaf

-- in a tree a step is made, or the cache refuses
abbrev pub StepsOn : ℕ → Pages → ℕ → ℕ → List (List ℕ) → List ℕ → Option Entry → ReadNode
    → Result Step SpaceFault → Type 0
StepsOn size pages owner root levels low bound start (Ok step) =
    Steps size pages owner root levels low bound start step
StepsOn size pages owner root levels low bound start (Err (Full limit)) = ⊥
StepsOn size pages owner root levels low bound start (Err (OfPage damage)) = ⊥
StepsOn size pages owner root levels low bound start (Err (OfPool fault)) = Unit {0}
