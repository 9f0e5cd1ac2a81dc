use Rattle.std.proofs.Common.{◌≡◌, take, None}
use Rattle.mg_sql.specs.Spelling.{capitals}
use Rattle.mg_sql.specs.declared.scanning.TheConstants.{WORDS}
use Rattle.mg_sql.proofs.Lexemes.{found}
use Rattle.mg_sql.proofs.scanning.word_kind.Given as goal

abbrev pub invariant-loop-kind : goal.invariant-loop-kind
invariant-loop-kind l = found (capitals l.word) (take l.kind-index WORDS) ≡ None
