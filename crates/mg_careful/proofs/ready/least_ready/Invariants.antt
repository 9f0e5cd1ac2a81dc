use Rattle.mg_careful.specs.Rows.{ready_page_at, IsLeast}
use Rattle.mg_careful.proofs.ready.least_ready.Given as goal

abbrev pub invariant-loop-i : goal.invariant-loop-i
invariant-loop-i l = IsLeast (ready_page_at l.pages.items l.before.items l.after.items l.goal) l.i l.least
