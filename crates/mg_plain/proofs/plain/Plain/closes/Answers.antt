-- One turn on, the way that is left is one shorter.
use Rattle.std.proofs.Common.{sym, ◌∙◌}
use Rattle.mg_model.specs.Answers.{waits_on}
use Rattle.mg_plain.specs.Kept.{kept}
use Rattle.mg_plain.specs.Keeping.{told_in}
use Rattle.mg_plain.proofs.WaitLemmas.{leads_next}
use Rattle.mg_plain.proofs.plain.Plain.closes.Goals as goal

pub loop-preserved : goal.loop-preserved
loop-preserved c = (
  sym (leads_next (waits_on (told_in (kept c.args.self.now))) c.len-end.result c.loop.counter c.loop.at c.in-Some.next c.args.t c.loop-test.true c.if-at-t.false (sym c.in-Some.ensures)) ∙ c.loop.invariant.0,
  c.loop.invariant.1,
)
