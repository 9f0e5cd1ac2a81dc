-- A word with which a part of a statement ends.
use Rattle.std.proofs.Common.{Result, Ok, Err}
use Rattle.mg_statements.specs.declared.fault.SqlFault.{SqlFault}
use Rattle.mg_sql.specs.declared.token.Kind.{Kind}
use Rattle.mg_sql.specs.declared.parser.Parser.{Parser}
use Rattle.mg_sql.specs.Statements.{Rest, word}
use Rattle.mg_sql.specs.Reading.{Keeps, Expects}
use Rattle.mg_sql.specs.Going.{Goes}
use Rattle.mg_sql.proofs.Moves.{expected, word_wrong}

pub last_word : (k : Kind) (then_ : Rest) (old new : Parser) (result : Result (Unit {0}) SqlFault) → Keeps old new → Expects k old new result
    → Goes (λ nothing. nothing) (word k then_) (λ _. then_) old new result
last_word k then_ old new (Ok nothing) keeps told = expected old new keeps told
last_word k then_ old new (Err fault) keeps told = word_wrong then_ old new fault told
