-- What is found of the versions of a record by those who have written them.
use Rattle.std.specs.Prelude.{◌≡◌, ◌<◌, ◌≤◌, ◌↔◌, ◌&&◌, ◌++◌, ℕ, Bool, true, false, not, nat_lt, List, [], ◌∷◌}
use Rattle.mg_base.specs.declared.damage.Field.TheVariants.{State}
use Rattle.mg_base.specs.declared.numbers.RecId.{RecId}
use Rattle.mg_base.specs.declared.transaction.TxState.{TxState}
use Rattle.mg_base.specs.declared.transaction.TxState.TheVariants.{Active, Limbo, Dead, Committed}
use Rattle.mg_check_states.specs.declared.states.Bounds.{Bounds}
use Rattle.mg_findings.specs.declared.finding.Finding.{Finding}
use Rattle.mg_findings.specs.declared.finding.Rule.TheVariants as what_
use Rattle.mg_image.specs.RecordRules.{Each, EachBack}
use Rattle.mg_image.specs.Records.{writer}
use Rattle.mg_image.specs.declared.entry.Entry.{Entry}
use Rattle.mg_tip.specs.TipPage.{bits_of}

-- of a version by what has become of its writer: wanted are the bits of a committed one
abbrev pub state_finding : RecId → TxState → Finding
state_finding x state = record {
  page = x.page;
  slot = x.slot;
  what = what_.Damage State;
  found = bits_of state;
  wanted = 3;
}

-- of a version of a dead transaction
abbrev pub dead_finding : RecId → Finding
dead_finding x = record { page = x.page; slot = x.slot; what = what_.Dead; found = 0; wanted = 0 }

-- a finding, unless all is well
abbrev pub unless : Bool → Finding → List Finding
unless true f = []
unless false f = f ∷ []

-- whether a writer of which this has become is interesting still
abbrev pub is_recent : Bounds → ℕ → TxState → Bool
is_recent b t Active = true
is_recent b t Limbo = not (nat_lt t b.active)
is_recent b t Dead = not (nat_lt t b.oldest)
is_recent b t Committed = true

-- whether its version may stand in a record: it was drawn, and where it is dead or in limbo it is not too old
abbrev pub may_stand : Bounds → ℕ → TxState → Bool
may_stand b t state = nat_lt t b.next && is_recent b t state

abbrev pub is_committed : TxState → Bool
is_committed Active = false
is_committed Limbo = false
is_committed Dead = false
is_committed Committed = true

abbrev pub is_dead : TxState → Bool
is_dead Active = false
is_dead Limbo = false
is_dead Dead = true
is_dead Committed = false

-- ---- versions of a record, the newest first

-- those that may not stand in it
abbrev pub drawn_of : (ℕ → TxState) → Bounds → List Entry → List Finding
drawn_of state b [] = []
drawn_of state b (e ∷ es) = unless (may_stand b (writer e) (state (writer e))) (state_finding e.at (state (writer e)))
    ++ drawn_of state b es

-- those that are not committed
abbrev pub later_backs : (ℕ → TxState) → List Entry → List Finding
later_backs state [] = []
later_backs state (e ∷ es) = unless (is_committed (state (writer e))) (state_finding e.at (state (writer e)))
    ++ later_backs state es

-- those among the back versions
abbrev pub backs_of : (ℕ → TxState) → List Entry → List Finding
backs_of state [] = []
backs_of state (e ∷ es) = later_backs state es

-- those of dead transactions
abbrev pub dead_of : (ℕ → TxState) → List Entry → List Finding
dead_of state [] = []
dead_of state (e ∷ es) = unless (not (is_dead (state (writer e)))) (dead_finding e.at) ++ dead_of state es

-- ---- laws

-- nothing is found exactly where each version's writer was drawn, and is interesting still where it is dead or in limbo
abbrev pub DrawnLaw : Type 0
DrawnLaw = (state : ℕ → TxState) (b : Bounds) (es : List Entry) → (drawn_of state b es ≡ [])
    ↔ Each (λ e. may_stand b (writer e) (state (writer e)) ≡ true) es

-- nothing is found exactly where each back version is of a committed transaction
abbrev pub BacksLaw : Type 0
BacksLaw = (state : ℕ → TxState) (es : List Entry) → (backs_of state es ≡ [])
    ↔ EachBack (λ e. state (writer e) ≡ Committed) es
