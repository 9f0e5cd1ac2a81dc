use Rattle.std.proofs.Common.{None, refl}
use Rattle.mg_calls.specs.Quiet.{as_it_was}
use Rattle.mg_script.specs.declared.reply.Reply.TheVariants.{No}
use Rattle.mg_statements.specs.Plain.{plain_of}
use Rattle.mg_courses.specs.CarryLaws.{carries_quietly}
use Rattle.mg_courses.specs.Running.{fault_if_looks}
use Rattle.mg_courses.proofs.StartLemmas.{told_fault}
use Rattle.mg_courses.proofs.starting.begin.Goals as goal

pub returns-in-Ok-clause-begins : goal.returns-in-Ok-clause-begins
returns-in-Ok-clause-begins g c = λ o h stands active.
    let tested = c.in-Ok.ensures.tests o h stands active in (
      tested.0,
      carries_quietly g.R.Records.meaning g.met.R.Records.lasts c.args.r.now c.test.new.self None o h h
          c.in-Ok.ensures.quiet stands as_it_was,
      tested.1,
      tested.2,
    )

pub returns-in-Err-clause-begins : goal.returns-in-Err-clause-begins
returns-in-Err-clause-begins g c = λ o h stands active.
    let tested = c.in-Err.ensures.tests o h stands active in
    let why = told_fault (No c.in-Err.fault)
    (fault_if_looks o h c.args.t c.args.read_only c.args.size (plain_of c.args.s)) c.in-Err.fault refl tested.2 in (
      tested.0,
      carries_quietly g.R.Records.meaning g.met.R.Records.lasts c.args.r.now c.test.new.self None o h h
          c.in-Err.ensures.quiet stands as_it_was,
      tested.1,
      refl,
      why,
    )
