-- What is kept to be taken back: that the transaction has changed none of these keys before.
use Rattle.std.specs.Prelude.{◌≡◌, ℕ, zero, suc, List, [], ◌∷◌, ◌++◌, length}
use Rattle.mg_undo.specs.declared.changes.Was.TheVariants.{Untouched}
use Rattle.mg_value.specs.declared.value.Value.{Value}
use Rattle.mg_works.specs.Works.{Working, unasked, with_change, with_work, without_change, without_tables}

-- the works, where a transaction's changes of these keys of a table are kept, one after another
abbrev pub kept_each : ℕ → ℕ → List Value → List Working → List Working
kept_each t owner [] works = works
kept_each t owner (key ∷ keys) works =
    kept_each t owner keys (with_work t (with_change owner key Untouched) works)

-- the works, where the last so many are taken back
abbrev pub retracted : ℕ → ℕ → List Working → List Working
retracted t zero works = works
retracted t (suc count) works = retracted t count (with_work t without_change works)

-- a transaction has changed these keys: they are kept, its commit is no longer asked for, and the tables that were
-- given to it are no longer known
abbrev pub works_made : ℕ → ℕ → List Value → List Working → List Working
works_made t owner keys works =
    with_work t without_tables (with_work t unasked (kept_each t owner keys works))

-- Some of these keys were kept, and taken back.
pub record KeepsSome (t owner : ℕ) (keys : List Value) (old new : List Working) : Type 0 where
  pub done : List Value
  pub rest : List Value
  pub among : done ++ rest ≡ keys
  pub same : new ≡ retracted t (length done) (kept_each t owner done old)
