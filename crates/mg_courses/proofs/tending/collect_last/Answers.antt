use Rattle.std.proofs.Common.{ap, inl, sym, ◌∙◌}
use Rattle.std.specs.Option.{option_copied}
use Rattle.mg_courses.specs.AsideLaws.{aside_nothing}
use Rattle.mg_courses.proofs.VisitedLemmas.{none_visited}
use Rattle.mg_courses.proofs.tending.collect_last.Goals as goal

pub returns-in-None-clause-collects : goal.returns-in-None-clause-collects
returns-in-None-clause-collects g c = none_visited g.R.Records.meaning g.R.Collects.collecting c.args.r.now c.args.r.now
    c.args.run.now (inl (sym c.table.ensures ∙ ap option_copied c.in-None.is))

pub returns-in-None-clause-aside : goal.returns-in-None-clause-aside
returns-in-None-clause-aside g c = aside_nothing g.R.Records.meaning g.met.R.Records.crashes c.args.r.now
