-- What follows of the changes of an index page, for the trees above.
use Rattle.std.specs.Prelude.{◌≡◌, ◌≢◌, ℕ, true, List, [], ◌∷◌, ◌++◌, IfSome}
use Rattle.mg_node.specs.declared.entry.Entry.{Entry}
use Rattle.mg_node.specs.NodePage.{IsAtLeast, IsBelow, IsNodePage, entries_of, is_inner, low_of}
use Rattle.mg_node_writing.specs.NodeChanges.{InsertsEntry, TakesEntry}
use Rattle.mg_node_writing.specs.Splits.{SplitsNode}

-- a page comes to have an entry more behind its first one
pub record InsertsBehindFirst (old new : List ℕ) (e : Entry) : Type 0 where
  pub first : Entry
  pub front : List Entry
  pub back : List Entry
  pub was : entries_of old ≡ first ∷ front ++ back
  pub is : entries_of new ≡ first ∷ front ++ e ∷ back

-- an inner page that has entries keeps its first one, whichever entry it comes to have
abbrev pub FirstStays : Type 0
FirstStays = (old new : List ℕ) (e : Entry) → IsNodePage old → IsNodePage new
    → is_inner old ≡ true → entries_of old ≢ [] → InsertsEntry old new e
    → InsertsBehindFirst old new e

-- an entry that a page takes is taken after a split by the page where it belongs: by the left one
-- where it comes before the fence between the two, else by the right one
abbrev pub TakenAfterSplit : Type 0
TakenAfterSplit = (old left right : List ℕ) (at : ℕ) (e : Entry) → SplitsNode old left right at
    → TakesEntry old e
    → IfSome (low_of right) (λ fence. (IsBelow e fence → TakesEntry left e)
    × (IsAtLeast e fence → TakesEntry right e))
