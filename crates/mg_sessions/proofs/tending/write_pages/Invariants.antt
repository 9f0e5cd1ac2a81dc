use Rattle.std.proofs.Common.{◌≡◌, ◌≤◌, ◌+◌, ◌-◌, ℕ, None}
use Rattle.mg_model.specs.declared.opening.Opening.{Opening}
use Rattle.mg_model.specs.History.{Entries}
use Rattle.mg_records.specs.Sessions.{SessionsStay}
use Rattle.mg_calls.specs.Frames.{Frames}
use Rattle.mg_courses.specs.Carrying.{Carries}
use Rattle.mg_sessions.proofs.tending.write_pages.Given as goal

-- so many pages were written since the start, and nothing else was done
abbrev pub invariant-loop-left : goal.invariant-loop-left
invariant-loop-left g l = record {
  within : l.left ≤ l.most;
  written : g.R.Records.meaning.unwritten l.fn.r ≡ g.R.Records.meaning.unwritten l.r + (l.most - l.left);
  stays : (o : Opening) (h : Entries) → g.R.Records.meaning.stands l.fn.r o h
      → g.R.Records.meaning.stands l.r o h × Carries g.R.Records.meaning l.fn.r l.r o h h;
  frames : (n : ℕ) → Frames g.R.Records.meaning l.fn.r l.r n None;
  sessions : SessionsStay g.R.Records.meaning l.fn.r l.r None None;
}

abbrev pub decreases-loop-left : goal.decreases-loop-left
decreases-loop-left g l = l.left
