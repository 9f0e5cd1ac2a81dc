-- The way along the entries of an inner page, read in their places.
use Rattle.std.specs.Prelude.{◌≡◌, ◌<◌, ◌+◌, ℕ, true, List}
use Rattle.mg_node.specs.declared.entry.Entry.{Entry}
use Rattle.mg_node.specs.NodePage.{count_in, entries_of, place_of}
use Rattle.mg_node.specs.NodeWalk.{entries_from}
use Rattle.mg_btree.specs.Searching.{child_to}

-- After so many entries the next one stands at this place, and by the entries from there on this child
-- becomes the one that is looked for.
pub record IsAlong (page : List ℕ) (e : Entry) (count at child : ℕ) : Type 0 where
  pub near : at < 131124
  pub next : at ≡ place_of page count
  pub rest : (left : ℕ) → count + left ≡ count_in page
      → child_to e child (entries_from true page at left) ≡ child_to e 0 (entries_of page)
