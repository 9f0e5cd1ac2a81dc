-- Going along the entries of an index page, one behind the other, from a place on.
use Rattle.std.specs.Prelude.{ℕ, zero, suc, ◌+◌, Bool, List, [], ◌∷◌, if◌then◌else◌}
use Rattle.mg_node.specs.declared.entry.Entry.{Entry}
use Rattle.mg_node.specs.declared.entry.TheConstants.{KEY_AT, RECORD_LEN, CHILD_LEN}
use Rattle.mg_node.specs.NodePage.{end_of, entry_at}

-- so many entries from a place on
abbrev pub entries_from : Bool → List ℕ → ℕ → ℕ → List Entry
entries_from with_child page at zero = []
entries_from with_child page at (suc n) =
    entry_at with_child page at ∷ entries_from with_child page (end_of with_child page at) n

-- the place behind so many entries from a place on
abbrev pub place_from : Bool → List ℕ → ℕ → ℕ → ℕ
place_from with_child page at zero = at
place_from with_child page at (suc n) = place_from with_child page (end_of with_child page at) n

-- how many bytes an entry takes with an empty key
abbrev pub least_len : Bool → ℕ
least_len with_child = KEY_AT + RECORD_LEN + (if with_child then CHILD_LEN else 0)
