-- Which lines are obeyed, and which statements are read.
use Rattle.std.specs.Prelude.{◌≡◌, ◌⊎◌, ◌<◌, ◌≤◌, ◌-◌, ℕ, true, false, List, Result, Ok, Err}
use Rattle.mg_statements.specs.declared.fault.SqlFault.{SqlFault}
use Rattle.mg_statements.specs.declared.statement.Statement.{Statement}
use Rattle.mg_sql.specs.Answers.{Parses}
use Rattle.mg_statements.specs.Plain.{plain_of}
use Rattle.mg_records.specs.Meaning.{Means}
use Rattle.mg_rows.specs.declared.outcome.Outcome.TheVariants.{Fine}
use Rattle.mg_rows.specs.declared.statement_fault.StatementFault.{StatementFault}
use Rattle.mg_rows.specs.declared.statement_fault.StatementFault.TheVariants.{Busy}
use Rattle.mg_rows.specs.Faults.{of_sql}
use Rattle.mg_script.specs.declared.line.LineKind.{LineKind}
use Rattle.mg_script.specs.declared.line.LineKind.TheVariants as kinds
use Rattle.mg_script.specs.declared.line.Session.{Session}
use Rattle.mg_script.specs.declared.reply.Reply.{Reply}
use Rattle.mg_script.specs.declared.reply.Reply.TheVariants as replies
use Rattle.mg_script.specs.declared.line.TheConstants.{SESSIONS}
use Rattle.mg_script.specs.Lines.{MayBeHeld}
use Rattle.mg_transcript.specs.Lines.{RefusesText}
use Rattle.mg_pending.specs.declared.pending.Pending.{Pending}
use Rattle.mg_pending.specs.Statements.{has_statement}

-- A line that is obeyed. `@sweep` and `@prepare` are not yet.
abbrev pub IsObeyable : LineKind → Type 0
IsObeyable (kinds.Sql session text) = session.0 < SESSIONS
IsObeyable (kinds.Held session text) = (session.0 < SESSIONS) × MayBeHeld text
IsObeyable (kinds.Step session most) = (session.0 < SESSIONS) × (1 ≤ most)
IsObeyable (kinds.Go session) = session.0 < SESSIONS
IsObeyable (kinds.Write most) = Unit {0}
IsObeyable kinds.Collect = Unit {0}
IsObeyable (kinds.Sweep most) = ⊥
IsObeyable (kinds.Prepare session) = ⊥
IsObeyable (kinds.Put key value) = Unit {0}
IsObeyable (kinds.Get key) = Unit {0}
IsObeyable kinds.Silent = Unit {0}
IsObeyable kinds.Bad = Unit {0}

-- `@write n` that is answered OK has written n changed pages: fewer only where none is changed any more
abbrev pub WritesPages : {R P : Type 0} → Means R P → R → R → LineKind → Reply → Type 0
WritesPages m old new (kinds.Write most) (replies.Ok Fine) = m.unwritten new ≡ m.unwritten old - most
WritesPages m old new kind reply = Unit {0}

-- a fault of a text, as that of a statement
pub record IsTextFault (text : List ℕ) (fault : StatementFault) : Type 0 where
  pub lower : SqlFault
  pub is : fault ≡ of_sql lower
  pub refuses : RefusesText text lower

-- the text of a session that has no unfinished statement is read; else it is busy
abbrev pub IsReadFor : {Run : Type 0} → List (Pending Run) → Session → List ℕ
    → Result Statement StatementFault → Type 0
IsReadFor pending session text (Ok s) =
    (has_statement session.0 pending ≡ false) × Parses text (plain_of s)
IsReadFor pending session text (Err fault) =
    ((has_statement session.0 pending ≡ true) × (fault ≡ Busy))
    ⊎ ((has_statement session.0 pending ≡ false) × IsTextFault text fault)
