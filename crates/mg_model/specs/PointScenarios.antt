-- Histories in which a transaction takes back what it did since a mark or a savepoint.
use Rattle.std.specs.Prelude.{[], ◌∷◌}
use Rattle.mg_model.specs.declared.answer.Answer.TheVariants.{Fine, Tx, Rows}
use Rattle.mg_model.specs.Answers.{number}
use Rattle.mg_model.specs.Scenarios.{AreAnswered, begins, row, inserts, gives, reads, marks, undoes, saves, goes_back}

-- what came since a savepoint is taken back to it, once and again, since it stays
abbrev pub BackToSavepoint : Type 0
BackToSavepoint = AreAnswered
    (begins ∷ saves 2 ∷ gives 2 1 11 ∷ reads 2 ∷ goes_back 2 ∷ reads 2 ∷ inserts 2 2 20
    ∷ goes_back 2
    ∷ reads 2 ∷ [])
    (Tx (number 2) ∷ Fine ∷ Fine ∷ Rows (row 1 11 ∷ []) ∷ Fine ∷ Rows (row 1 10 ∷ []) ∷ Fine ∷ Fine
    ∷ Rows (row 1 10 ∷ []) ∷ [])

-- what came since the last mark is taken back, then what came since the one before it; without a
-- mark nothing is
abbrev pub UndoesMarks : Type 0
UndoesMarks = AreAnswered
    (begins ∷ inserts 2 2 20 ∷ marks 2 ∷ gives 2 1 11 ∷ marks 2 ∷ inserts 2 3 30 ∷ undoes 2
    ∷ reads 2
    ∷ undoes 2 ∷ reads 2 ∷ undoes 2 ∷ reads 2 ∷ [])
    (Tx (number 2) ∷ Fine ∷ Fine ∷ Fine ∷ Fine ∷ Fine ∷ Fine ∷ Rows (row 1 11 ∷ row 2 20 ∷ [])
    ∷ Fine ∷ Rows (row 1 10 ∷ row 2 20 ∷ []) ∷ Fine ∷ Rows (row 1 10 ∷ row 2 20 ∷ []) ∷ [])

-- going back to a savepoint takes back the marks since: what comes then is not undone
abbrev pub MarkIsTakenBack : Type 0
MarkIsTakenBack = AreAnswered
    (begins ∷ saves 2 ∷ marks 2 ∷ inserts 2 2 20 ∷ goes_back 2 ∷ inserts 2 3 30 ∷ undoes 2
    ∷ reads 2 ∷ [])
    (Tx (number 2) ∷ Fine ∷ Fine ∷ Fine ∷ Fine ∷ Fine ∷ Fine ∷ Rows (row 1 10 ∷ row 3 30 ∷ []) ∷ [])

-- undoing a mark takes back the savepoints since: there is none to go back to
abbrev pub SavepointIsTakenBack : Type 0
SavepointIsTakenBack = AreAnswered
    (begins ∷ marks 2 ∷ saves 2 ∷ inserts 2 2 20 ∷ undoes 2 ∷ inserts 2 3 30 ∷ goes_back 2
    ∷ reads 2 ∷ [])
    (Tx (number 2) ∷ Fine ∷ Fine ∷ Fine ∷ Fine ∷ Fine ∷ Fine ∷ Rows (row 1 10 ∷ row 3 30 ∷ []) ∷ [])
