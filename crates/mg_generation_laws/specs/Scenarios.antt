-- Small histories of the table KV in which the versions of a key are computed.
use Rattle.std.specs.Prelude.{◌≡◌, pos, List, [], ◌∷◌, Some, None}
use Rattle.mg_value.specs.declared.value.Value.TheVariants.{Int}
use Rattle.mg_model.specs.declared.event.Event.{Event}
use Rattle.mg_model.specs.History.{Entries}
use Rattle.mg_model.specs.Answers.{Told, told, is_committed, can_hinder}
use Rattle.mg_model.specs.NewDatabase.{new_opening, kv_name}
use Rattle.mg_model.specs.Scenarios.{run, first, begins, row, gives, erases, commits, rolls_back, marks, undoes, saves, goes_back}
use Rattle.mg_generation_laws.specs.Generations.{Generation, generation, shown_by, first_writer, sees}
use Rattle.mg_generation_laws.specs.After.{generations_of}

-- the history of a new database with these events, and the versions of the key 1 after it
abbrev pub history : List Event → Entries
history events = run (new_opening 100 0) [] events

abbrev pub versions_after : List Event → List Generation
versions_after events = generations_of (new_opening 100 0) [] (history events) kv_name (Int (pos 1))

-- the transaction 1 inserts the value 10; 2 and 3 begin, and 2 writes it twice; the write of 3 is
-- refused until 2 rolls back
abbrev pub two_write : List Event → List Event
two_write events = first (begins ∷ begins ∷ gives 2 1 20 ∷ gives 2 1 21 ∷ gives 3 1 30 ∷ events)

-- while 2 is active its last row is in front of the committed one
abbrev pub OneInFront : Type 0
OneInFront = versions_after (two_write [])
    ≡ generation 2 (Some (row 1 21)) ∷ generation 1 (Some (row 1 10)) ∷ []

-- once it is rolled back the committed one alone is left
abbrev pub RolledBackIsGone : Type 0
RolledBackIsGone = versions_after (two_write (rolls_back 2 ∷ []))
    ≡ generation 1 (Some (row 1 10)) ∷ []

-- then 3 writes, and erases after that: it has one version
abbrev pub ErasedIsInFront : Type 0
ErasedIsInFront = versions_after (two_write (rolls_back 2 ∷ gives 3 1 30 ∷ erases 3 1 ∷ []))
    ≡ generation 3 None ∷ generation 1 (Some (row 1 10)) ∷ []

-- of them 3 sees its deletion, 4 the committed row, and 3 is the obstacle of 4
abbrev pub EachSeesItsOwn : Type 0
EachSeesItsOwn =
    (shown_by (sees now 3) versions ≡ None)
    × (shown_by (sees now 4) versions ≡ Some (row 1 10))
    × (shown_by (λ u. is_committed (now.state u)) versions ≡ Some (row 1 10))
    × (first_writer (can_hinder now 4) versions ≡ Some 3)
    × (first_writer (can_hinder now 3) versions ≡ None)
  where
    events : List Event
    events = two_write (rolls_back 2 ∷ gives 3 1 30 ∷ erases 3 1 ∷ begins ∷ [])

    versions : List Generation
    versions = versions_after events

    now : Told
    now = told (new_opening 100 0) (history events)

-- once 3 has committed, its deletion is shown to whoever begins then, and hinders 4 still
abbrev pub CommittedIsShown : Type 0
CommittedIsShown =
    (shown_by (sees now 4) versions ≡ Some (row 1 10))
    × (shown_by (sees now 5) versions ≡ None)
    × (shown_by (λ u. is_committed (now.state u)) versions ≡ None)
    × (first_writer (can_hinder now 4) versions ≡ Some 3)
    × (first_writer (can_hinder now 5) versions ≡ None)
  where
    events : List Event
    events = two_write (rolls_back 2 ∷ gives 3 1 30 ∷ erases 3 1 ∷ begins ∷ commits 3 ∷ begins ∷ [])

    versions : List Generation
    versions = versions_after events

    now : Told
    now = told (new_opening 100 0) (history events)

-- a mark that is taken back leaves the row from before it; a savepoint before the first write
-- leaves the committed row alone
abbrev pub TakenBackIsGone : Type 0
TakenBackIsGone =
    (versions_after (first (begins ∷ saves 2 ∷ gives 2 1 20 ∷ marks 2 ∷ gives 2 1 21 ∷ undoes 2
    ∷ []))
    ≡ generation 2 (Some (row 1 20)) ∷ generation 1 (Some (row 1 10)) ∷ [])
    × (versions_after (first (begins ∷ saves 2 ∷ gives 2 1 20 ∷ marks 2 ∷ gives 2 1 21 ∷ undoes 2
    ∷ goes_back 2 ∷ []))
    ≡ generation 1 (Some (row 1 10)) ∷ [])
