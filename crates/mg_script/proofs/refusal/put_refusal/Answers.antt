use Rattle.mg_script.proofs.refusal.put_refusal.Goals as goal

pub returns-in-UpdateConflict-clause-ok : goal.returns-in-UpdateConflict-clause-ok
returns-in-UpdateConflict-clause-ok c = rw c.in-UpdateConflict.is c.put_named.ensures.ok

pub returns-in-UpdateConflict-clause-front : goal.returns-in-UpdateConflict-clause-front
returns-in-UpdateConflict-clause-front c = c.put_named.ensures.front

pub returns-in-LockConflict-clause-ok : goal.returns-in-LockConflict-clause-ok
returns-in-LockConflict-clause-ok c = rw c.in-LockConflict.is c.put_named-in-LockConflict.ensures.ok

pub returns-in-LockConflict-clause-front : goal.returns-in-LockConflict-clause-front
returns-in-LockConflict-clause-front c = c.put_named-in-LockConflict.ensures.front

pub returns-in-Waits-clause-ok : goal.returns-in-Waits-clause-ok
returns-in-Waits-clause-ok c = rw c.in-Waits.is c.put_named-in-Waits.ensures.ok

pub returns-in-Waits-clause-front : goal.returns-in-Waits-clause-front
returns-in-Waits-clause-front c = c.put_named-in-Waits.ensures.front

pub returns-in-Deadlock-clause-ok : goal.returns-in-Deadlock-clause-ok
returns-in-Deadlock-clause-ok c = rw c.in-Deadlock.is c.put_named-in-Deadlock.ensures.ok

pub returns-in-Deadlock-clause-front : goal.returns-in-Deadlock-clause-front
returns-in-Deadlock-clause-front c = c.put_named-in-Deadlock.ensures.front

pub returns-in-InLimbo-clause-ok : goal.returns-in-InLimbo-clause-ok
returns-in-InLimbo-clause-ok c = rw c.in-InLimbo.is c.put_named-in-InLimbo.ensures.ok

pub returns-in-InLimbo-clause-front : goal.returns-in-InLimbo-clause-front
returns-in-InLimbo-clause-front c = c.put_named-in-InLimbo.ensures.front

pub returns-in-DuplicateKey-clause-ok : goal.returns-in-DuplicateKey-clause-ok
returns-in-DuplicateKey-clause-ok c = rw c.in-DuplicateKey.is c.put_word.ensures.ok

pub returns-in-DuplicateKey-clause-front : goal.returns-in-DuplicateKey-clause-front
returns-in-DuplicateKey-clause-front c = c.put_word.ensures.front

pub returns-in-NoRow-clause-ok : goal.returns-in-NoRow-clause-ok
returns-in-NoRow-clause-ok c = rw c.in-NoRow.is c.put_word-in-NoRow.ensures.ok

pub returns-in-NoRow-clause-front : goal.returns-in-NoRow-clause-front
returns-in-NoRow-clause-front c = c.put_word-in-NoRow.ensures.front

pub returns-in-ReadOnly-clause-ok : goal.returns-in-ReadOnly-clause-ok
returns-in-ReadOnly-clause-ok c = rw c.in-ReadOnly.is c.put_word-in-ReadOnly.ensures.ok

pub returns-in-ReadOnly-clause-front : goal.returns-in-ReadOnly-clause-front
returns-in-ReadOnly-clause-front c = c.put_word-in-ReadOnly.ensures.front

pub returns-in-NoTransaction-clause-ok : goal.returns-in-NoTransaction-clause-ok
returns-in-NoTransaction-clause-ok c = rw c.in-NoTransaction.is c.put_word-in-NoTransaction.ensures.ok

pub returns-in-NoTransaction-clause-front : goal.returns-in-NoTransaction-clause-front
returns-in-NoTransaction-clause-front c = c.put_word-in-NoTransaction.ensures.front

pub returns-in-NotActive-clause-front : goal.returns-in-NotActive-clause-front
returns-in-NotActive-clause-front c = c.put_words.ensures.front

pub returns-in-NoTable-clause-ok : goal.returns-in-NoTable-clause-ok
returns-in-NoTable-clause-ok c = rw c.in-NoTable.is c.put_word-in-NoTable.ensures.ok

pub returns-in-NoTable-clause-front : goal.returns-in-NoTable-clause-front
returns-in-NoTable-clause-front c = c.put_word-in-NoTable.ensures.front

pub returns-in-TableExists-clause-ok : goal.returns-in-TableExists-clause-ok
returns-in-TableExists-clause-ok c = rw c.in-TableExists.is c.put_word-in-TableExists.ensures.ok

pub returns-in-TableExists-clause-front : goal.returns-in-TableExists-clause-front
returns-in-TableExists-clause-front c = c.put_word-in-TableExists.ensures.front

pub returns-in-RowTooLong-clause-ok : goal.returns-in-RowTooLong-clause-ok
returns-in-RowTooLong-clause-ok c = rw c.in-RowTooLong.is c.put_two_named.ensures.ok

pub returns-in-RowTooLong-clause-front : goal.returns-in-RowTooLong-clause-front
returns-in-RowTooLong-clause-front c = c.put_two_named.ensures.front

pub returns-in-DatabaseFull-clause-ok : goal.returns-in-DatabaseFull-clause-ok
returns-in-DatabaseFull-clause-ok c = rw c.in-DatabaseFull.is c.put_named-in-DatabaseFull.ensures.ok

pub returns-in-DatabaseFull-clause-front : goal.returns-in-DatabaseFull-clause-front
returns-in-DatabaseFull-clause-front c = c.put_named-in-DatabaseFull.ensures.front

pub returns-in-TransactionLimit-clause-ok : goal.returns-in-TransactionLimit-clause-ok
returns-in-TransactionLimit-clause-ok c = rw c.in-TransactionLimit.is c.put_word-in-TransactionLimit.ensures.ok

pub returns-in-TransactionLimit-clause-front : goal.returns-in-TransactionLimit-clause-front
returns-in-TransactionLimit-clause-front c = c.put_word-in-TransactionLimit.ensures.front

pub returns-in-DiskRead-clause-ok : goal.returns-in-DiskRead-clause-ok
returns-in-DiskRead-clause-ok c = rw c.in-DiskRead.is c.put_word-in-DiskRead.ensures.ok

pub returns-in-DiskRead-clause-front : goal.returns-in-DiskRead-clause-front
returns-in-DiskRead-clause-front c = c.put_word-in-DiskRead.ensures.front

pub returns-in-DiskWrite-clause-ok : goal.returns-in-DiskWrite-clause-ok
returns-in-DiskWrite-clause-ok c = rw c.in-DiskWrite.is c.put_word-in-DiskWrite.ensures.ok

pub returns-in-DiskWrite-clause-front : goal.returns-in-DiskWrite-clause-front
returns-in-DiskWrite-clause-front c = c.put_word-in-DiskWrite.ensures.front

pub returns-in-Offline-clause-ok : goal.returns-in-Offline-clause-ok
returns-in-Offline-clause-ok c = rw c.in-Offline.is c.put_word-in-Offline.ensures.ok

pub returns-in-Offline-clause-front : goal.returns-in-Offline-clause-front
returns-in-Offline-clause-front c = c.put_word-in-Offline.ensures.front

pub returns-in-NotADatabase-clause-ok : goal.returns-in-NotADatabase-clause-ok
returns-in-NotADatabase-clause-ok c = rw c.in-NotADatabase.is c.put_no_database.ensures.ok

pub returns-in-NotADatabase-clause-front : goal.returns-in-NotADatabase-clause-front
returns-in-NotADatabase-clause-front c = c.put_no_database.ensures.front

pub returns-in-Damaged-clause-ok : goal.returns-in-Damaged-clause-ok
returns-in-Damaged-clause-ok c = rw c.in-Damaged.is c.put_damaged.ensures.ok

pub returns-in-Damaged-clause-front : goal.returns-in-Damaged-clause-front
returns-in-Damaged-clause-front c = c.put_damaged.ensures.front

pub returns-in-Memory-clause-ok : goal.returns-in-Memory-clause-ok
returns-in-Memory-clause-ok c = rw c.in-Memory.is c.put_word-in-Memory.ensures.ok

pub returns-in-Memory-clause-front : goal.returns-in-Memory-clause-front
returns-in-Memory-clause-front c = c.put_word-in-Memory.ensures.front
