use Rattle.std.proofs.Common.{◌≡◌, drop}
use Rattle.mg_pending.specs.Statements.{has_statement}
use Rattle.mg_pending.proofs.pending.is_busy.Given as goal

-- none of the statements before the index is the session's
abbrev pub invariant-loop-statement : goal.invariant-loop-statement
invariant-loop-statement g l = has_statement l.session.0 (drop l.statement-index l.statement-items)
    ≡ has_statement l.session.0 l.pending.items
