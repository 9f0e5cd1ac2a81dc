-- Bytes and entries that are put at a place of a page.
use Rattle.std.specs.Prelude.{◌≡◌, ℕ, ◌+◌, ◌≤◌, ◌<◌, Bool, List, length, if◌then◌else◌}
use Rattle.mg_base.specs.Fields.{byte, u16_at, u32_at}
use Rattle.mg_node.specs.declared.entry.Entry.{Entry}
use Rattle.mg_node.specs.NodePage.{end_of, entry_at}
use Rattle.mg_node.specs.NodeWalk.{least_len}

-- so many bytes of one list from a place on stand in another one at a place
pub record Stands (old new : List ℕ) (from to len : ℕ) : Type 0 where
  pub bytes : (k : ℕ) → k < len → byte new (to + k) ≡ byte old (from + k)
  pub there : from + len ≤ length old
  pub here : to + len ≤ length new

-- so many bytes of a list come to stand at a place of another, and nothing else changes there
pub record Puts (source old new : List ℕ) (from to len : ℕ) : Type 0 where
  pub size : length new ≡ length old
  pub bytes : (k : ℕ) → k < len → byte new (to + k) ≡ byte source (from + k)
  pub others : (k : ℕ) → (to ≤ k → to + len ≤ k) → byte new k ≡ byte old k

-- an entry as a fence: without a child
abbrev pub as_fence : Entry → Entry
as_fence e = record { key = e.key; rec = e.rec; child = record { 0 = 0 } }

-- an entry as it stands on a page: with its child, or without
abbrev pub as_placed : Bool → Entry → Entry
as_placed with_child e = record {
  key = e.key;
  rec = e.rec;
  child = record { 0 = if with_child then e.child.0 else 0 };
}

-- how many bytes an entry takes
abbrev pub entry_len : Bool → Entry → ℕ
entry_len with_child e = least_len with_child + length e.key

-- an entry comes to stand at a place, and nothing else changes
pub record PutsEntry (with_child : Bool) (old new : List ℕ) (at : ℕ) (e : Entry) : Type 0 where
  pub size : length new ≡ length old
  pub entry : entry_at with_child new at ≡ as_placed with_child e
  pub end : end_of with_child new at ≡ at + entry_len with_child e
  pub others : (k : ℕ) → (at ≤ k → at + entry_len with_child e ≤ k) → byte new k ≡ byte old k

-- an entry comes to stand at a place but for its child, and nothing else changes
pub record WritesFront (old new : List ℕ) (at : ℕ) (e : Entry) : Type 0 where
  pub size : length new ≡ length old
  pub len : u16_at new at ≡ length e.key
  pub key : (k : ℕ) → k < length e.key → byte new (at + 2 + k) ≡ byte e.key k
  pub page : u32_at new (at + 2 + length e.key) ≡ e.rec.page.0
  pub slot : u16_at new (at + 2 + length e.key + 4) ≡ e.rec.slot
  pub others : (k : ℕ) → (at ≤ k → at + 8 + length e.key ≤ k) → byte new k ≡ byte old k
