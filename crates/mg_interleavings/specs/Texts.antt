-- What is printed of an answer, where sessions obey their scripts at once.
use Rattle.std.specs.Prelude.{ℕ, List, ◌∷◌, ◌++◌, codes, decimal}
use Rattle.mg_base.specs.declared.numbers.TxNo.{TxNo}
use Rattle.mg_script.specs.declared.line.Session.{Session}
use Rattle.mg_script.specs.Lines.{letter}
use Rattle.mg_script.specs.Transcript.{said}
use Rattle.mg_interleavings.specs.declared.answered.Answered.{Answered}
use Rattle.mg_interleavings.specs.declared.answered.Answered.TheVariants.{LockTimeout, Replied}

-- the line of a session that has waited too long for a transaction
abbrev pub timeout_text : Session → TxNo → List ℕ
timeout_text session on = letter session ∷ (codes ": LOCK TIMEOUT ON " ++ (decimal on.0 ++ codes "\n"))

-- the answer of a session
abbrev pub said_at_once : Session → Answered → List ℕ
said_at_once session (Replied reply) = said session reply
said_at_once session (LockTimeout on) = timeout_text session on
