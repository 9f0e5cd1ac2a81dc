use Rattle.std.proofs.Common.{◌++◌, ◌∙◌, List, ap, arith, length}
use Rattle.std.specs.List.{flat_map}
use Rattle.mg_interleavings.specs.declared.answered.Answered.{Answered}
use Rattle.mg_interleavings.specs.Texts.{said_at_once}
use Rattle.mg_storm_report.specs.Report.{session_of}
use Rattle.mg_storm_report.proofs.ReportLemmas.{answers_on}
use Rattle.mg_storm_report.proofs.replies.put_answers.Goals as goal

pub put_own-requires : goal.put_own-requires
put_own-requires c =
    omega (arith, c.loop-own.invariant.1, ap length c.in-Some.ensures.cases.0, c.requires)

pub loop-own-preserved : goal.loop-own-preserved
loop-own-preserved c = (
  answers_on c.loop-own.out.items c.put_own.new.out.items c.loop-own.session c.loop-own.rest.now c.in-Some.later.now
      c.in-Some.own.now _ c.in-Some.ensures.cases.0
      (c.in_ok-put_own.ensures
      ∙ ap (λ (xs : List Answered). c.loop-own.out.items ++ flat_map (said_at_once (session_of c.loop-own.session)) xs)
      c.deref.ensures.value) c.loop-own.invariant.0,
  omega (arith, c.loop-own.invariant.1, ap length c.in-Some.ensures.cases.0),
)
