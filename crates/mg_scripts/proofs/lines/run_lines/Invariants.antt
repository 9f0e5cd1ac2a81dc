use Rattle.std.proofs.Common.{◌≡◌, [], true, None, length}
use Rattle.std.specs.Prelude.{All}
use Rattle.mg_model.specs.declared.opening.Opening.{Opening}
use Rattle.mg_pending.specs.Standing.{AreReady, StandAt}
use Rattle.mg_sessions.specs.Accounts.{Accounts}
use Rattle.mg_scripts.specs.Runs.{CanBeObeyed}
use Rattle.mg_scripts.proofs.RunLemmas.{SoFar}
use Rattle.mg_scripts.proofs.lines.run_lines.Given as goal

-- the lines before the rest were obeyed and printed
abbrev pub invariant-loop-line : goal.invariant-loop-line
invariant-loop-line g l = record {
  ready : AreReady g.R.Records.meaning g.R.Statements.runs l.r l.sessions.transactions l.sessions.pending.items;
  size : g.R.Records.meaning.is_size l.r l.size ≡ true;
  obeyable : All CanBeObeyed l.rest;
  accounts : Accounts g.R.Records.meaning l.fn.r l.r None;
  steady : g.K.Sink.meaning.faults l.sink ≡ g.K.Sink.meaning.faults l.fn.sink;
  so_far : (o : Opening)
      → StandAt g.R.Records.meaning g.R.Statements.runs l.fn.r o [] l.fn.sessions.transactions
      l.fn.sessions.pending.items []
      → SoFar g.R.Records.meaning g.R.Statements.runs g.K.Sink.meaning l.fn.r l.r l.fn.sink l.sink o l.size l.lines
      l.rest l.sessions.transactions l.sessions.pending.items l.fine;
}

abbrev pub decreases-loop-line : goal.decreases-loop-line
decreases-loop-line g l = length l.rest
