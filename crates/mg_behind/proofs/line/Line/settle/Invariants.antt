use Rattle.std.proofs.Common.{◌≡◌, true}
use Rattle.mg_behind.proofs.line.Line.settle.Given as goal

abbrev pub invariant-loop : goal.invariant-loop
invariant-loop g l = (l.self.jobs ≡ l.initial.self.jobs) × (l.self.issued ≡ l.initial.self.issued) × (l.self.size ≡ l.initial.self.size) × (l.initial.self.failed ≡ true → l.self.failed ≡ true)
