use Rattle.mg_records.specs.Keeping.{refusal_in}
use Rattle.mg_courses.specs.AsideLaws.{aside_reading, outside_for}
use Rattle.mg_courses.proofs.tending.AnyTends.collect_all.Goals as goal

pub returns-clause-aside : goal.returns-clause-aside
returns-clause-aside g c = aside_reading g.R.Records.meaning c.args.self.now c.collect_all.new.self (refusal_in c.collect_all.result)
    c.collect_all.ensures.reads c.collect_all.ensures.told c.collect_all.ensures.undamaged c.collect_all.ensures.crash c.collect_all.ensures.sessions

pub returns-clause-outside : goal.returns-clause-outside
returns-clause-outside g c = outside_for g.R.Records.meaning c.args.self.now c.collect_all.result c.collect_all.ensures.outside
    c.collect_all.ensures.unpaged
