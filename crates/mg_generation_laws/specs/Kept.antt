-- Which versions of a key are kept, once some of them may have been collected.
use Rattle.std.specs.Prelude.{◌≡◌, ◌⊎◌, ℕ, true, List, [], ◌∷◌, ◌++◌, None}
use Rattle.mg_base.specs.declared.transaction.TxState.TheVariants.{Committed}
use Rattle.mg_value.specs.declared.value.Value.{Value}
use Rattle.mg_model.specs.declared.opening.Opening.{Opening}
use Rattle.mg_model.specs.History.{Entries}
use Rattle.mg_model.specs.Machine.{state_of}
use Rattle.mg_model.specs.Answers.{is_active, told}
use Rattle.mg_generation_laws.specs.Generations.{AreGenerations, Generation}

-- A transaction is committed, and was so when each active one took its base. One in limbo reads no
-- more, so it does not count, whatever its base was.
pub record IsSeenByAll (o : Opening) (h : Entries) (u : ℕ) : Type 0 where
  pub committed : state_of o h u ≡ Committed
  pub saw : (t : ℕ) → is_active (state_of o h t) ≡ true → (told o h).saw t u ≡ true

-- the newest of these is a deletion by a transaction whom all see
abbrev pub IsErasedForAll : Opening → Entries → List Generation → Type 0
IsErasedForAll o h [] = ⊥
IsErasedForAll o h (g ∷ gs) = IsSeenByAll o h g.writer × (g.row ≡ None)

-- one of these versions is of a committed transaction
abbrev pub HasCommitted : Opening → Entries → List Generation → Type 0
HasCommitted o h [] = ⊥
HasCommitted o h (g ∷ gs) = (state_of o h g.writer ≡ Committed) ⊎ HasCommitted o h gs

-- a transaction saw one of them committed
abbrev pub HasSeen : Opening → Entries → ℕ → List Generation → Type 0
HasSeen o h t [] = ⊥
HasSeen o h t (g ∷ gs) = ((told o h).saw t g.writer ≡ true) ⊎ HasSeen o h t gs

-- A version is covered by those that are kept in front of it: it is committed, one of them is, and whoever works and
-- saw it saw one of them. So nobody misses it.
pub record IsCovered (o : Opening) (h : Entries) (front : List Generation) (g : Generation) : Type 0 where
  pub committed : state_of o h g.writer ≡ Committed
  pub newer : HasCommitted o h front
  pub seen : (t : ℕ) → is_active (state_of o h t) ≡ true → (told o h).saw t g.writer ≡ true → HasSeen o h t front

-- The second list has those of the first that are kept, behind these in front: one that is covered may be gone, and all
-- from a deletion on that all see.
pub data IsThinned (o : Opening) (h : Entries) : List Generation → List Generation → List Generation → Type 0 where
  ends : (front : List Generation) → IsThinned o h front [] []
  keeps : (front : List Generation) (g : Generation) (all chain : List Generation)
      → IsThinned o h (g ∷ front) all chain → IsThinned o h front (g ∷ all) (g ∷ chain)
  drops : (front : List Generation) (g : Generation) (all chain : List Generation)
      → IsCovered o h front g → IsThinned o h front all chain → IsThinned o h front (g ∷ all) chain
  erases : (front : List Generation) (g : Generation) (all : List Generation)
      → IsSeenByAll o h g.writer → g.row ≡ None → IsThinned o h front (g ∷ all) []

-- The versions of a chain stand for those that a history says of a key: nobody misses what it has not.
pub record StandFor (o : Opening) (h : Entries) (table : List ℕ) (key : Value) (chain : List Generation) : Type 0 where
  pub all : List Generation
  pub are : AreGenerations o h table key all
  pub thinned : IsThinned o h [] all chain
