use Rattle.std.proofs.Common.{◌≡◌, ◌≤◌, ◌+◌, ◌-◌, [], false}
use Rattle.std.specs.Prelude.{vec_capacity, vec_len}
use Rattle.mg_faults.specs.Faults.{tells_fault}
use Rattle.mg_pending.specs.Standing.{AreReady}
use Rattle.mg_sessions.specs.Accounts.{Accounts}
use Rattle.mg_script_ends.specs.Ends.{AreCaused, EndsSoFar, count_from, told_of}
use Rattle.mg_script_ends.proofs.ending.roll_back_all.Given as goal

-- the sessions before this one are at their end
abbrev pub invariant-loop-s : goal.invariant-loop-s
invariant-loop-s g l = record {
  ends : EndsSoFar g.R.Records.meaning g.R.Statements.runs l.fn.r l.r l.fn.transactions l.transactions
      (count_from 0 17) (count_from l.s (17 - l.s)) l.refusals.items;
  ready : AreReady g.R.Records.meaning g.R.Statements.runs l.r l.transactions [];
  room : vec_len l.refusals + (17 - l.s) ≤ vec_capacity l.refusals;
  accounts : Accounts g.R.Records.meaning l.fn.r l.r (told_of l.refusals.items);
  quiet : tells_fault (told_of l.refusals.items) ≡ false;
  caused : AreCaused g.R.Records.meaning l.fn.r l.r l.refusals.items;
}
