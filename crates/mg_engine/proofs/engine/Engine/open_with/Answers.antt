use Rattle.std.proofs.Common.{Ok, subst, sym}
use Rattle.mg_engine_meaning_laws.specs.Openings.{IsOpenedOver, OpensEngine}
use Rattle.mg_works.specs.Works.{AreApart}
use Rattle.mg_engine.proofs.engine.Engine.open_with.Goals as goal

pub new-requires : goal.new-requires
new-requires g c = record {
  lawful = c.in-Ok.ensures.idle.core_is;
  apart = subst AreApart (sym c.in-Ok.ensures.idle.works) tt;
}

pub returns-in-Ok : goal.returns-in-Ok
returns-in-Ok g c = subst (IsOpenedOver g.D.Disk.meaning c.args.disk c.args.limit) (sym c.new.ensures)
    (c.openings_stand.ensures c.args.disk c.args.limit (Ok c.in-Ok.core) c.in-Ok.ensures)

pub returns-in-Err : goal.returns-in-Err
returns-in-Err g c = subst (OpensEngine g.D.Disk.meaning c.args.disk c.args.limit) c.in-Err.is
    (c.openings_stand.ensures c.args.disk c.args.limit c.open.result c.open.ensures)
