use Rattle.std.proofs.Common.{None}
use Rattle.std.specs.Prelude.{All}
use Rattle.mg_transcript.specs.Transcript.{HasItsLetter}
use Rattle.mg_pending.specs.Standing.{AreReady}
use Rattle.mg_turns.specs.Turns.{AccountsOn, LetsGo, turns_left}
use Rattle.mg_turns.proofs.turn.release_all.Given as goal

-- those that have gone on so far
abbrev pub invariant-loop-place : goal.invariant-loop-place
invariant-loop-place g l = record {
  lets : LetsGo g.R.Records.meaning g.R.Statements.runs l.fn.r l.r l.fn.sessions.transactions
      l.fn.sessions.pending.items l.sessions.transactions l.sessions.pending.items l.fn.released.items
      l.released.items None;
  ready : AreReady g.R.Records.meaning g.R.Statements.runs l.r l.sessions.transactions l.sessions.pending.items;
  accounts : AccountsOn g.R.Records.meaning l.fn.r l.r l.fn.released.items l.released.items None;
  lettered : All HasItsLetter l.fn.released.items → All HasItsLetter l.released.items;
}

abbrev pub decreases-loop-place : goal.decreases-loop-place
decreases-loop-place g l = turns_left l.sessions.transactions l.sessions.pending.items
