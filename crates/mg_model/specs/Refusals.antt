-- The numbers of refusals.
use Rattle.std.specs.Prelude.{ℕ}
use Rattle.mg_model.specs.declared.refusal.Refusal.{Refusal}
use Rattle.mg_model.specs.declared.refusal.Refusal.TheVariants.{UpdateConflict, LockConflict, Waits, Deadlock, InLimbo, DuplicateKey, NoRow}
use Rattle.mg_model.specs.declared.refusal.Refusal.TheVariants.{ReadOnly, NoTransaction, NotActive, NoTable, TableExists, RowTooLong}
use Rattle.mg_model.specs.declared.refusal.Refusal.TheVariants.{DatabaseFull, TransactionLimit, DiskRead, DiskWrite, Offline}
use Rattle.mg_model.specs.declared.refusal.Refusal.TheVariants.{NotADatabase, Damaged, Memory}

-- the number of a refusal
abbrev pub refusal_number : Refusal → ℕ
refusal_number (UpdateConflict by) = 1
refusal_number (LockConflict by) = 2
refusal_number (Waits on) = 3
refusal_number (Deadlock by) = 4
refusal_number (InLimbo by) = 5
refusal_number DuplicateKey = 6
refusal_number NoRow = 7
refusal_number ReadOnly = 8
refusal_number NoTransaction = 9
refusal_number (NotActive state) = 10
refusal_number NoTable = 11
refusal_number TableExists = 12
refusal_number (RowTooLong len limit) = 13
refusal_number (DatabaseFull limit) = 14
refusal_number TransactionLimit = 15
refusal_number (DiskRead faults) = 16
refusal_number (DiskWrite faults) = 17
refusal_number (Offline faults) = 18
refusal_number (NotADatabase field found) = 19
refusal_number (Damaged page field found wanted) = 20
refusal_number Memory = 21
