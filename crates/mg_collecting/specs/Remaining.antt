-- Which versions of a record remain where it is collected.
use Rattle.std.specs.Prelude.{◌≡◌, ◌⊎◌, ◌<◌, ℕ, Bool, true, false, List, [], ◌∷◌, length, if◌then◌else◌}
use Rattle.mg_base.specs.declared.transaction.TxState.{TxState}
use Rattle.mg_chain.specs.Views.{is_dead}
use Rattle.mg_image.specs.Records.{writer}
use Rattle.mg_image.specs.declared.entry.Entry.{Entry}
use Rattle.mg_model.specs.Answers.{is_committed}
use Rattle.mg_seek.specs.Speaking.{is_erased_for_all}
use Rattle.mg_snap.specs.Live.{State, needed}

-- the versions, of which the newest is gone where a dead transaction wrote it
abbrev pub without_dead : (ℕ → TxState) → List Entry → List Entry
without_dead state [] = []
without_dead state (e ∷ es) = if is_dead (state (writer e)) then es else e ∷ es

-- Of the versions behind a committed one, the next newer of which this transaction wrote: each committed one that some
-- base sees without seeing the next newer one. From one on that is not committed all stay; a sound image has none there.
abbrev pub needed_behind : (ℕ → TxState) → State → ℕ → List Entry → List Entry
needed_behind state live newer [] = []
needed_behind state live newer (e ∷ es) =
    if is_committed (state (writer e))
    then (if needed live newer (writer e) then e ∷ needed_behind state live (writer e) es
    else needed_behind state live (writer e) es)
    else e ∷ es

-- the newest of these versions is kept where it is committed, and what is needed behind it
abbrev pub from_committed : (ℕ → TxState) → State → List Entry → List Entry
from_committed state live [] = []
from_committed state live (e ∷ es) =
    if is_committed (state (writer e)) then e ∷ needed_behind state live (writer e) es else e ∷ es

-- The versions without those that nobody needs: a newest one that is not committed stays, and of the others the newest
-- committed one, and what is needed behind it.
abbrev pub without_unneeded : (ℕ → TxState) → State → List Entry → List Entry
without_unneeded state live [] = []
without_unneeded state live (e ∷ es) =
    if is_committed (state (writer e)) then e ∷ needed_behind state live (writer e) es
    else e ∷ from_committed state live es

-- the versions, or none where a deletion alone is left, by a committed transaction that every base sees
abbrev pub without_erased : (ℕ → TxState) → State → List Entry → List Entry
without_erased state live [] = []
without_erased state live (e ∷ []) = if is_erased_for_all state live e.version then [] else e ∷ []
without_erased state live (e ∷ d ∷ es) = e ∷ d ∷ es

-- What remains of a record's versions where it is collected, in their order: the newest one where it is active or in
-- limbo; the newest committed one; and each older one that some base needs. Nothing, where that is a deletion alone that
-- every base sees.
abbrev pub remaining : (ℕ → TxState) → State → List Entry → List Entry
remaining state live es = without_erased state live (without_unneeded state live (without_dead state es))

-- some of these versions, in the same order
abbrev pub AreSomeOf : List Entry → List Entry → Type 0
AreSomeOf [] es = Unit {0}
AreSomeOf (d ∷ ds) [] = ⊥
AreSomeOf (d ∷ ds) (e ∷ es) = ((d ≡ e) × AreSomeOf ds es) ⊎ AreSomeOf (d ∷ ds) es

-- whether some of the versions are gone
abbrev pub IsToldOf : Bool → List Entry → List Entry → Type 0
IsToldOf true es left = length left < length es
IsToldOf false es left = left ≡ es
