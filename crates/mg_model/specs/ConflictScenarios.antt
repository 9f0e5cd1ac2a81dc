-- Histories in which two transactions write one row, or would wait for each other.
use Rattle.std.specs.Prelude.{[], ◌∷◌}
use Rattle.mg_model.specs.declared.answer.Answer.TheVariants.{Fine, Tx, Rows, No}
use Rattle.mg_model.specs.declared.refusal.Refusal.TheVariants.{UpdateConflict, LockConflict, Waits, Deadlock, DuplicateKey, NoRow}
use Rattle.mg_model.specs.Answers.{number}
use Rattle.mg_model.specs.Scenarios.{AreAnswered, begins, begins_no_wait, begins_committed, row, inserts, gives, erases, reads, looks, commits, rolls_back}

-- a snapshot still reads the old row after another transaction has committed a new one, and its own
-- write of that row is an update conflict
abbrev pub OldSnapshot : Type 0
OldSnapshot = AreAnswered
    (begins ∷ begins ∷ gives 3 1 20 ∷ commits 3 ∷ reads 2 ∷ gives 2 1 30 ∷ [])
    (Tx (number 2) ∷ Tx (number 3) ∷ Fine ∷ Fine ∷ Rows (row 1 10 ∷ [])
    ∷ No (UpdateConflict (number 3)) ∷ [])

-- where the other transaction was rolled back, the write succeeds
abbrev pub RolledBack : Type 0
RolledBack = AreAnswered
    (begins ∷ begins ∷ gives 3 1 20 ∷ rolls_back 3 ∷ reads 2 ∷ gives 2 1 30 ∷ reads 2 ∷ [])
    (Tx (number 2) ∷ Tx (number 3) ∷ Fine ∷ Fine ∷ Rows (row 1 10 ∷ []) ∷ Fine
    ∷ Rows (row 1 30 ∷ []) ∷ [])

-- a transaction that doesn't wait is refused where another one that is active has the row
abbrev pub NoWait : Type 0
NoWait = AreAnswered
    (begins ∷ begins_no_wait ∷ gives 2 1 20 ∷ gives 3 1 30 ∷ reads 3 ∷ [])
    (Tx (number 2) ∷ Tx (number 3) ∷ Fine ∷ No (LockConflict (number 2)) ∷ Rows (row 1 10 ∷ [])
    ∷ [])

-- a transaction that waits meets an update conflict once the other one commits
abbrev pub WaitsInVain : Type 0
WaitsInVain = AreAnswered
    (begins ∷ begins ∷ gives 3 1 20 ∷ gives 2 1 30 ∷ commits 3 ∷ gives 2 1 30 ∷ [])
    (Tx (number 2) ∷ Tx (number 3) ∷ Fine ∷ No (Waits (number 3)) ∷ Fine
    ∷ No (UpdateConflict (number 3)) ∷ [])

-- a transaction that waits may write once the other one is rolled back
abbrev pub WaitsAndWrites : Type 0
WaitsAndWrites = AreAnswered
    (begins ∷ begins ∷ gives 3 1 20 ∷ gives 2 1 30 ∷ rolls_back 3 ∷ gives 2 1 30 ∷ [])
    (Tx (number 2) ∷ Tx (number 3) ∷ Fine ∷ No (Waits (number 3)) ∷ Fine ∷ Fine ∷ [])

-- two transactions would wait for each other: the later one is refused, and the first one writes
-- once the other is rolled back
abbrev pub TwoWait : Type 0
TwoWait = AreAnswered
    (begins ∷ inserts 2 2 20 ∷ commits 2 ∷ begins ∷ begins ∷ gives 3 1 1 ∷ gives 4 2 2 ∷ gives 3 2 3
    ∷ gives 4 1 4 ∷ rolls_back 4 ∷ gives 3 2 3 ∷ reads 3 ∷ [])
    (Tx (number 2) ∷ Fine ∷ Fine ∷ Tx (number 3) ∷ Tx (number 4) ∷ Fine ∷ Fine
    ∷ No (Waits (number 4)) ∷ No (Deadlock (number 3)) ∷ Fine ∷ Fine
    ∷ Rows (row 1 1 ∷ row 2 3 ∷ []) ∷ [])

-- under READ COMMITTED each statement reads what was committed when it began, and goes on to
abbrev pub EachStatement : Type 0
EachStatement = AreAnswered
    (begins_committed ∷ looks 2 ∷ reads 2 ∷ begins ∷ gives 3 1 20 ∷ commits 3 ∷ reads 2
    ∷ looks 2 ∷ reads 2
    ∷ [])
    (Tx (number 2) ∷ Fine ∷ Rows (row 1 10 ∷ []) ∷ Tx (number 3) ∷ Fine ∷ Fine ∷ Rows (row 1 10
    ∷ [])
    ∷ Fine ∷ Rows (row 1 20 ∷ []) ∷ [])

-- under READ COMMITTED a statement that waited keeps its base, and so meets an update conflict; the
-- next one doesn't
abbrev pub RetriedStatement : Type 0
RetriedStatement = AreAnswered
    (begins_committed ∷ looks 2 ∷ begins ∷ gives 3 1 20 ∷ gives 2 1 30 ∷ commits 3 ∷ gives 2 1 30
    ∷ looks 2 ∷ gives 2 1 30 ∷ [])
    (Tx (number 2) ∷ Fine ∷ Tx (number 3) ∷ Fine ∷ No (Waits (number 3)) ∷ Fine
    ∷ No (UpdateConflict (number 3)) ∷ Fine ∷ Fine ∷ [])

-- a key that isn't in the view can't be given another row or none; one that is can't be inserted
abbrev pub KeysOfView : Type 0
KeysOfView = AreAnswered
    (begins ∷ gives 2 5 50 ∷ inserts 2 1 11 ∷ erases 2 1 ∷ erases 2 1 ∷ inserts 2 1 11
    ∷ reads 2 ∷ [])
    (Tx (number 2) ∷ No NoRow ∷ No DuplicateKey ∷ Fine ∷ No NoRow ∷ Fine
    ∷ Rows (row 1 11 ∷ []) ∷ [])

-- a snapshot takes no new base where a statement begins
abbrev pub OneSnapshot : Type 0
OneSnapshot = AreAnswered
    (begins ∷ begins ∷ gives 3 1 20 ∷ commits 3 ∷ looks 2 ∷ reads 2 ∷ [])
    (Tx (number 2) ∷ Tx (number 3) ∷ Fine ∷ Fine ∷ Fine ∷ Rows (row 1 10 ∷ []) ∷ [])

-- two transactions insert a key that was deleted before: the second is refused while the first is
-- active, the first may insert it once, and the second is refused after the first's commit
abbrev pub DeletedKey : Type 0
DeletedKey = AreAnswered
    (begins ∷ erases 2 1 ∷ commits 2 ∷ begins ∷ begins_no_wait ∷ inserts 3 1 2 ∷ inserts 4 1 3
    ∷ inserts 3 1 4 ∷ commits 3 ∷ inserts 4 1 3 ∷ [])
    (Tx (number 2) ∷ Fine ∷ Fine ∷ Tx (number 3) ∷ Tx (number 4) ∷ Fine
    ∷ No (LockConflict (number 3))
    ∷ No DuplicateKey ∷ Fine ∷ No (UpdateConflict (number 3)) ∷ [])
