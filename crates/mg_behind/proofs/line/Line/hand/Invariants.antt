use Rattle.std.proofs.Common.{◌≡◌, true}
use Rattle.rtrb.specs.Ring.{sent}
use Rattle.mg_behind.proofs.line.Line.hand.Given as goal

abbrev pub invariant-loop : goal.invariant-loop
invariant-loop g l = (sent l.self.jobs ≡ sent l.initial.self.jobs) × (l.self.issued ≡ l.initial.self.issued) × (l.self.size ≡ l.initial.self.size) × (l.job ≡ l.initial.job) × (l.initial.self.failed ≡ true → l.self.failed ≡ true)
