use Rattle.std.proofs.Common.{refl}
use Rattle.mg_courses.specs.Aside.{ends_then, goes_on_then}
use Rattle.mg_courses.proofs.aside.collect_now.Goals as goal

pub returns-in-Ok : goal.returns-in-Ok
returns-in-Ok g c = goes_on_then c.args.run.now refl c.in-Ok.ensures.aside c.in-Ok.ensures.far c.in-Ok.ensures.collects

pub returns-in-Err : goal.returns-in-Err
returns-in-Err g c = ends_then c.args.run.now c.in-Err.refusal c.refused.result refl c.refused.ensures.reply
    c.refused.ensures.over c.in-Err.ensures.aside c.in-Err.ensures.stops
