-- Chains of nodes: a link leads to a node or nowhere, and each node to an earlier one or nowhere.
use Rattle.std.specs.Prelude.{◌≡◌, ◌≤◌, ◌<◌, ◌+◌, ◌%◌, ◌==◌, ℕ, List, [], ◌∷◌, length, get_or, map, reverse, if◌then◌else◌}
use Rattle.mg_base.specs.declared.numbers.RecId.{RecId}
use Rattle.mg_directory.specs.Candidates.{Note, Noted, recs_with, room_of, with_its}
use Rattle.mg_directory.specs.declared.TheConstants.{MOST_NOTED}
use Rattle.mg_directory.specs.declared.node.Node.{Node}

-- the records under a hash of the chain that begins at a link; of the nodes the newest is first
abbrev pub chained : List Node → ℕ → ℕ → List RecId
chained [] hash link = []
chained (node ∷ older) hash link =
    if link == length older + 1 then with_its hash node.hash node.rec (chained older hash node.next)
    else chained older hash link

-- a step along a chain, from the node at a link
pub record Steps (nodes : List Node) (hash link : ℕ) (node : Node) : Type 0 where
  pub here : chained nodes hash link ≡ with_its hash node.hash node.rec (chained nodes hash node.next)
  pub earlier : node.next < link

-- each node leads to an earlier one or nowhere
abbrev pub LinksBack : List Node → Type 0
LinksBack [] = Unit {0}
LinksBack (node ∷ older) = (node.next ≤ length older) × LinksBack older

-- where the chain of a hash begins
abbrev pub head_of : List ℕ → ℕ → ℕ
head_of heads hash = get_or heads (hash % length heads) 0

-- a node without its link
abbrev pub note_of : Node → Note
note_of node = record { hash = node.hash; rec = node.rec }

-- what a directory has
abbrev pub noted_in : ℕ → List ℕ → List Node → Noted
noted_in first heads nodes = record {
  first = first;
  room = room_of (length heads);
  notes = map note_of (reverse nodes);
}

-- each chain begins at a node that is there, ends, and has each note of its hashes
pub record IsHashed (heads : List ℕ) (nodes : List Node) : Type 0 where
  pub some : 0 < length heads
  pub few : length heads ≤ MOST_NOTED
  pub room : length nodes ≤ room_of (length heads)
  pub begins : (place : ℕ) → get_or heads place 0 ≤ length nodes
  pub back : LinksBack (reverse nodes)
  pub all_ : (hash : ℕ) → chained (reverse nodes) hash (head_of heads hash)
      ≡ recs_with hash (map note_of (reverse nodes))
