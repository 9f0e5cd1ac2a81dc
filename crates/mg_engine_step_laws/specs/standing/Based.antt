-- Who has a base among the transactions that have not ended.
use Rattle.std.specs.Prelude.{◌≡◌, ℕ, true, ◌∷◌, is_some}
use Rattle.mg_base.specs.declared.transaction.TxState.TheVariants.{Active}
use Rattle.mg_model.specs.declared.opening.Opening.{Opening}
use Rattle.mg_model.specs.History.{Entries, Entry, effect_of}
use Rattle.mg_model.specs.Legal.{IsLegal, MayBegin}
use Rattle.mg_model.specs.Machine.{mode_of, state_of}
use Rattle.mg_model.specs.Openings.{Each}
use Rattle.mg_generation_laws.specs.Kept.{IsSeenByAll}
use Rattle.mg_chain.specs.Bases.{StandsFor, live_after}
use Rattle.mg_snap.specs.Live.{Entered, State, all_see, base_sees, sees}

-- an entry that has a base is of an active transaction, and its base is the one by which that sees
abbrev pub IsBased : Opening → Entries → State → Entered → Type 0
IsBased o h live e = is_some e.base ≡ true → (state_of o h e.number ≡ Active)
    × ((by : ℕ) → base_sees e.base by ≡ sees live e.number by)

-- so is each, and whom all active ones see each base sees
abbrev pub AreBased : Opening → Entries → State → Type 0
AreBased o h live = Each (IsBased o h live) live.entered

-- whom all active ones see, the test of all bases tells
abbrev pub TestsAll : Type 0
TestsAll = (o : Opening) (h : Entries) (live : State) (u : ℕ) → StandsFor o h live → AreBased o h live
    → IsSeenByAll o h u → all_see live u ≡ true

-- a table that follows the effects of a history goes on so
abbrev pub BasedFollow : Type 0
BasedFollow = (o : Opening) (h : Entries) (e : Entry) (live : State) → MayBegin o → IsLegal o (e ∷ h)
    → StandsFor o h live → AreBased o h live
    → AreBased o (e ∷ h) (live_after (effect_of e) (λ t. (mode_of h t).snapshot) live)
