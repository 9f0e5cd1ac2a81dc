-- A table of the transactions that have not ended stands for a history.
use Rattle.std.specs.Prelude.{◌≡◌, ◌≢◌, ℕ, ◌<◌, ◌&&◌, Bool, true, false, [], ◌∷◌, IsSome, if◌then◌else◌}
use Rattle.mg_base.specs.declared.transaction.TxState.TheVariants.{Active, Limbo, Dead, Committed}
use Rattle.mg_model.specs.Answers.{is_committed, is_open, told}
use Rattle.mg_model.specs.History.{Entry, Entries, Effect, Begins, Looks, Makes, Gives, Marks, Saves, TakesBack, Ends, Nothing, effect_of}
use Rattle.mg_model.specs.Legal.{MayBegin, IsLegal}
use Rattle.mg_model.specs.Machine.{mode_of, next_number, opening_state, state_of}
use Rattle.mg_model.specs.declared.opening.Opening.{Opening}
use Rattle.mg_snap.specs.Live.{State, after_enter, after_leave, after_limbo, after_rebase, base_among, is_among, sees, unended_in}

-- the table stands for a history: it has the number that is drawn next; those in it are active or in
-- limbo; an active one has a base, which sees nobody that has not ended, and of those that are
-- committed exactly the ones that were so when it was taken
pub record StandsFor (o : Opening) (h : Entries) (live : State) : Type 0 where
  pub next : live.next ≡ next_number o h
  pub unended : (u : ℕ) → is_among (unended_in live) u ≡ is_open (state_of o h u)
  pub based : (t : ℕ) → state_of o h t ≡ Active → IsSome (base_among live.entered t)
  pub hides : (t u : ℕ) → sees live t u ≡ true
      → (u < next_number o h) × (is_open (state_of o h u) ≡ false)
  pub base : (t u : ℕ) → state_of o h t ≡ Active
      → (is_committed (state_of o h u) && sees live t u) ≡ (told o h).saw t u

-- what an effect does to the table; `snapshot` tells whether a transaction keeps its first base
abbrev pub live_after : Effect → (ℕ → Bool) → State → State
live_after (Begins t mode) snapshot live = after_enter live t
live_after (Looks t) snapshot live = if snapshot t then live else after_rebase live t
live_after (Makes t table row) snapshot live = live
live_after (Gives t table key row) snapshot live = live
live_after (Marks t) snapshot live = live
live_after (Saves t name) snapshot live = live
live_after (TakesBack t point) snapshot live = live
live_after (Ends t Active) snapshot live = live
live_after (Ends t Limbo) snapshot live = after_limbo live t
live_after (Ends t Dead) snapshot live = after_leave live t
live_after (Ends t Committed) snapshot live = after_leave live t
live_after Nothing snapshot live = live

-- a table without bases, of those that were in limbo, stands for a history without entries
abbrev pub LiveBegins : Type 0
LiveBegins = (o : Opening) (live : State) → live.next ≡ o.next.0
    → ((u : ℕ) → is_among (unended_in live) u ≡ is_open (opening_state o u))
    → ((t u : ℕ) → sees live t u ≡ false) → ((t : ℕ) → opening_state o t ≢ Active)
    → StandsFor o [] live

-- a table that follows the effects of a history stands for it
abbrev pub LiveFollows : Type 0
LiveFollows = (o : Opening) (h : Entries) (e : Entry) (live : State) → MayBegin o
    → IsLegal o (e ∷ h) → StandsFor o h live
    → StandsFor o (e ∷ h) (live_after (effect_of e) (λ t. (mode_of h t).snapshot) live)
