use Rattle.mg_script.proofs.refusal.put_fault.Goals as goal

pub returns-in-Engine-clause-ok : goal.returns-in-Engine-clause-ok
returns-in-Engine-clause-ok c = rw c.in-Engine.is c.put_refusal.ensures.ok

pub returns-in-Engine-clause-front : goal.returns-in-Engine-clause-front
returns-in-Engine-clause-front c = c.put_refusal.ensures.front

pub returns-in-Syntax-clause-ok : goal.returns-in-Syntax-clause-ok
returns-in-Syntax-clause-ok c = rw c.in-Syntax.is c.put_named.ensures.ok

pub returns-in-Syntax-clause-front : goal.returns-in-Syntax-clause-front
returns-in-Syntax-clause-front c = c.put_named.ensures.front

pub returns-in-NameTooLong-clause-ok : goal.returns-in-NameTooLong-clause-ok
returns-in-NameTooLong-clause-ok c = rw c.in-NameTooLong.is c.put_named-in-NameTooLong.ensures.ok

pub returns-in-NameTooLong-clause-front : goal.returns-in-NameTooLong-clause-front
returns-in-NameTooLong-clause-front c = c.put_named-in-NameTooLong.ensures.front

pub returns-in-NumberTooLarge-clause-ok : goal.returns-in-NumberTooLarge-clause-ok
returns-in-NumberTooLarge-clause-ok c = rw c.in-NumberTooLarge.is c.put_named-in-NumberTooLarge.ensures.ok

pub returns-in-NumberTooLarge-clause-front : goal.returns-in-NumberTooLarge-clause-front
returns-in-NumberTooLarge-clause-front c = c.put_named-in-NumberTooLarge.ensures.front

pub returns-in-TooDeep-clause-ok : goal.returns-in-TooDeep-clause-ok
returns-in-TooDeep-clause-ok c = rw c.in-TooDeep.is c.put_named-in-TooDeep.ensures.ok

pub returns-in-TooDeep-clause-front : goal.returns-in-TooDeep-clause-front
returns-in-TooDeep-clause-front c = c.put_named-in-TooDeep.ensures.front

pub returns-in-NoColumn-clause-ok : goal.returns-in-NoColumn-clause-ok
returns-in-NoColumn-clause-ok c = rw c.in-NoColumn.is c.put_word.ensures.ok

pub returns-in-NoColumn-clause-front : goal.returns-in-NoColumn-clause-front
returns-in-NoColumn-clause-front c = c.put_word.ensures.front

pub returns-in-TypeMismatch-clause-ok : goal.returns-in-TypeMismatch-clause-ok
returns-in-TypeMismatch-clause-ok c = rw c.in-TypeMismatch.is c.put_word-in-TypeMismatch.ensures.ok

pub returns-in-TypeMismatch-clause-front : goal.returns-in-TypeMismatch-clause-front
returns-in-TypeMismatch-clause-front c = c.put_word-in-TypeMismatch.ensures.front

pub returns-in-Arithmetic-clause-ok : goal.returns-in-Arithmetic-clause-ok
returns-in-Arithmetic-clause-ok c = rw c.in-Arithmetic.is c.put_word-in-Arithmetic.ensures.ok

pub returns-in-Arithmetic-clause-front : goal.returns-in-Arithmetic-clause-front
returns-in-Arithmetic-clause-front c = c.put_word-in-Arithmetic.ensures.front

pub returns-in-NullNotAllowed-clause-ok : goal.returns-in-NullNotAllowed-clause-ok
returns-in-NullNotAllowed-clause-ok c = rw c.in-NullNotAllowed.is c.put_word-in-NullNotAllowed.ensures.ok

pub returns-in-NullNotAllowed-clause-front : goal.returns-in-NullNotAllowed-clause-front
returns-in-NullNotAllowed-clause-front c = c.put_word-in-NullNotAllowed.ensures.front

pub returns-in-TextTooLong-clause-ok : goal.returns-in-TextTooLong-clause-ok
returns-in-TextTooLong-clause-ok c = rw c.in-TextTooLong.is c.put_two_named.ensures.ok

pub returns-in-TextTooLong-clause-front : goal.returns-in-TextTooLong-clause-front
returns-in-TextTooLong-clause-front c = c.put_two_named.ensures.front

pub returns-in-KeyChange-clause-ok : goal.returns-in-KeyChange-clause-ok
returns-in-KeyChange-clause-ok c = rw c.in-KeyChange.is c.put_word-in-KeyChange.ensures.ok

pub returns-in-KeyChange-clause-front : goal.returns-in-KeyChange-clause-front
returns-in-KeyChange-clause-front c = c.put_word-in-KeyChange.ensures.front

pub returns-in-TooMany-clause-ok : goal.returns-in-TooMany-clause-ok
returns-in-TooMany-clause-ok c = rw c.in-TooMany.is c.put_named-in-TooMany.ensures.ok

pub returns-in-TooMany-clause-front : goal.returns-in-TooMany-clause-front
returns-in-TooMany-clause-front c = c.put_named-in-TooMany.ensures.front

pub returns-in-KeyTooLong-clause-ok : goal.returns-in-KeyTooLong-clause-ok
returns-in-KeyTooLong-clause-ok c = rw c.in-KeyTooLong.is c.put_two_named-in-KeyTooLong.ensures.ok

pub returns-in-KeyTooLong-clause-front : goal.returns-in-KeyTooLong-clause-front
returns-in-KeyTooLong-clause-front c = c.put_two_named-in-KeyTooLong.ensures.front

pub returns-in-NoSavepoint-clause-ok : goal.returns-in-NoSavepoint-clause-ok
returns-in-NoSavepoint-clause-ok c = rw c.in-NoSavepoint.is c.put_word-in-NoSavepoint.ensures.ok

pub returns-in-NoSavepoint-clause-front : goal.returns-in-NoSavepoint-clause-front
returns-in-NoSavepoint-clause-front c = c.put_word-in-NoSavepoint.ensures.front

pub returns-in-Busy-clause-ok : goal.returns-in-Busy-clause-ok
returns-in-Busy-clause-ok c = rw c.in-Busy.is c.put_word-in-Busy.ensures.ok

pub returns-in-Busy-clause-front : goal.returns-in-Busy-clause-front
returns-in-Busy-clause-front c = c.put_word-in-Busy.ensures.front

pub returns-in-ColumnExists-clause-ok : goal.returns-in-ColumnExists-clause-ok
returns-in-ColumnExists-clause-ok c = rw c.in-ColumnExists.is c.put_word-in-ColumnExists.ensures.ok

pub returns-in-ColumnExists-clause-front : goal.returns-in-ColumnExists-clause-front
returns-in-ColumnExists-clause-front c = c.put_word-in-ColumnExists.ensures.front

pub returns-in-InTransaction-clause-ok : goal.returns-in-InTransaction-clause-ok
returns-in-InTransaction-clause-ok c = rw c.in-InTransaction.is c.put_word-in-InTransaction.ensures.ok

pub returns-in-InTransaction-clause-front : goal.returns-in-InTransaction-clause-front
returns-in-InTransaction-clause-front c = c.put_word-in-InTransaction.ensures.front

pub returns-in-OneKey-clause-ok : goal.returns-in-OneKey-clause-ok
returns-in-OneKey-clause-ok c = rw c.in-OneKey.is c.put_word-in-OneKey.ensures.ok

pub returns-in-OneKey-clause-front : goal.returns-in-OneKey-clause-front
returns-in-OneKey-clause-front c = c.put_word-in-OneKey.ensures.front

pub returns-in-CountMismatch-clause-ok : goal.returns-in-CountMismatch-clause-ok
returns-in-CountMismatch-clause-ok c = rw c.in-CountMismatch.is c.put_word-in-CountMismatch.ensures.ok

pub returns-in-CountMismatch-clause-front : goal.returns-in-CountMismatch-clause-front
returns-in-CountMismatch-clause-front c = c.put_word-in-CountMismatch.ensures.front

pub returns-in-NothingHeld-clause-ok : goal.returns-in-NothingHeld-clause-ok
returns-in-NothingHeld-clause-ok c = rw c.in-NothingHeld.is c.put_word-in-NothingHeld.ensures.ok

pub returns-in-NothingHeld-clause-front : goal.returns-in-NothingHeld-clause-front
returns-in-NothingHeld-clause-front c = c.put_word-in-NothingHeld.ensures.front
