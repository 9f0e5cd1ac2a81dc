use Rattle.std.proofs.Common.{None, Some}
use Rattle.mg_courses.specs.AsideLaws.{aside_reading}
use Rattle.mg_courses.proofs.VisitedLemmas.{one_visited, still_there, stops_visited, visited_table}
use Rattle.mg_courses.proofs.tending.collect_at.Goals as goal

pub collect_place-requires : goal.collect_place-requires
collect_place-requires g c = record {
  table = visited_table g.R.Records.meaning c.args.r.now c.args.t c.args.run.now.phase c.args.table.now c.args.place.now
      c.requires.ready.ready c.requires.its c.requires.at;
}

pub returns-in-Ok-clause-collects : goal.returns-in-Ok-clause-collects
returns-in-Ok-clause-collects g c = one_visited g.R.Records.meaning g.R.Collects.collecting c.args.r.now
    c.collect_place.new.self c.args.run.now c.args.table.now c.args.place.now c.in-Ok.field-0 c.requires.its c.requires.at
    c.in-Ok.ensures.collects

pub returns-in-Ok-clause-aside : goal.returns-in-Ok-clause-aside
returns-in-Ok-clause-aside g c = aside_reading g.R.Records.meaning c.args.r.now c.collect_place.new.self None
    c.in-Ok.ensures.reads c.in-Ok.ensures.told c.in-Ok.ensures.undamaged c.in-Ok.ensures.crash c.in-Ok.ensures.sessions

pub returns-in-Err-clause-aside : goal.returns-in-Err-clause-aside
returns-in-Err-clause-aside g c = aside_reading g.R.Records.meaning c.args.r.now c.collect_place.new.self
    (Some c.in-Err.refusal) c.in-Err.ensures.reads c.in-Err.ensures.told c.in-Err.ensures.undamaged
    c.in-Err.ensures.crash c.in-Err.ensures.sessions

pub returns-in-Ok-clause-far : goal.returns-in-Ok-clause-far
returns-in-Ok-clause-far g c = still_there g.R.Records.meaning c.args.r.now c.collect_place.new.self c.args.t
    c.args.run.now.phase c.in-Ok.ensures.far

pub returns-in-Err-clause-far : goal.returns-in-Err-clause-far
returns-in-Err-clause-far g c = still_there g.R.Records.meaning c.args.r.now c.collect_place.new.self c.args.t
    c.args.run.now.phase c.in-Err.ensures.far

pub returns-in-Err-clause-stops : goal.returns-in-Err-clause-stops
returns-in-Err-clause-stops g c = stops_visited g.R.Records.meaning c.args.r.now c.args.t c.args.run.now
    c.args.place.now c.in-Err.refusal c.requires.at c.in-Err.ensures.outside c.in-Err.ensures.unpaged
