use Rattle.std.proofs.Common.{refl, subst, sym}
use Rattle.std.specs.Prelude.{MatchResult}
use Rattle.mg_row_writes.specs.Laying.{EntersOver, EntersOwn, FailsLay, LaysIn, LaysOverDead}
use Rattle.mg_row_writes.specs.declared.before.Way.{Way}
use Rattle.mg_row_writes.specs.declared.before.Way.TheVariants as ways
use Rattle.mg_row_writes.proofs.LayLemmas.{told_done}
use Rattle.mg_row_writes.proofs.laying.lay.Goals as goal

pub returns-in-Make-clause-lays : goal.returns-in-Make-clause-lays
returns-in-Make-clause-lays g c = subst (λ (w : Way). MatchResult c.lay_new.result
    (LaysIn g.D.Disk.meaning c.args.store.now c.lay_new.new.store c.args.table.now w c.args.write.now c.args.v.now)
    (FailsLay g.D.Disk.meaning c.args.store.now c.lay_new.new.store c.args.table.now w c.args.write.now c.args.v.now))
    (sym c.in-Make.is) c.lay_new.ensures.lays

pub returns-in-Push-clause-lays : goal.returns-in-Push-clause-lays
returns-in-Push-clause-lays g c = subst (λ (w : Way). MatchResult c.in_record.result
    (LaysIn g.D.Disk.meaning c.args.store.now c.enter_over.new.store c.args.table.now w c.args.write.now c.args.v.now)
    (FailsLay g.D.Disk.meaning c.args.store.now c.enter_over.new.store c.args.table.now w c.args.write.now c.args.v.now))
    (sym c.in-Push.is)
    (told_done g.D.Disk.meaning c.args.store.now c.enter_over.new.store c.args.table.now
    (ways.Push c.in-Push.rec) c.args.write.now c.args.v.now c.in-Push.rec
    (EntersOver g.D.Disk.meaning c.args.store.now c.enter_over.new.store c.args.table.now c.in-Push.rec c.args.write.now
    c.args.v.now)
    c.enter_over.result c.in_record.result c.in_record.ensures
    (λ does. record { lays = does; at = refl }) c.enter_over.ensures.lays)

pub returns-in-PushOverDead-clause-lays : goal.returns-in-PushOverDead-clause-lays
returns-in-PushOverDead-clause-lays g c = subst (λ (w : Way). MatchResult c.in_record-in-PushOverDead.result
    (LaysIn g.D.Disk.meaning c.args.store.now c.lay_over_dead.new.store c.args.table.now w c.args.write.now c.args.v.now)
    (FailsLay g.D.Disk.meaning c.args.store.now c.lay_over_dead.new.store c.args.table.now w c.args.write.now c.args.v.now))
    (sym c.in-PushOverDead.is)
    (told_done g.D.Disk.meaning c.args.store.now c.lay_over_dead.new.store c.args.table.now
    (ways.PushOverDead c.in-PushOverDead.rec) c.args.write.now c.args.v.now c.in-PushOverDead.rec
    (LaysOverDead g.D.Disk.meaning c.args.store.now c.lay_over_dead.new.store c.args.table.now c.in-PushOverDead.rec c.args.write.now
    c.args.v.now)
    c.lay_over_dead.result c.in_record-in-PushOverDead.result c.in_record-in-PushOverDead.ensures
    (λ does. record { lays = does; at = refl }) c.lay_over_dead.ensures.lays)

pub returns-in-Replace-clause-lays : goal.returns-in-Replace-clause-lays
returns-in-Replace-clause-lays g c = subst (λ (w : Way). MatchResult c.in_record-in-Replace.result
    (LaysIn g.D.Disk.meaning c.args.store.now c.enter_own.new.store c.args.table.now w c.args.write.now c.args.v.now)
    (FailsLay g.D.Disk.meaning c.args.store.now c.enter_own.new.store c.args.table.now w c.args.write.now c.args.v.now))
    (sym c.in-Replace.is)
    (told_done g.D.Disk.meaning c.args.store.now c.enter_own.new.store c.args.table.now
    (ways.Replace c.in-Replace.rec) c.args.write.now c.args.v.now c.in-Replace.rec
    (EntersOwn g.D.Disk.meaning c.args.store.now c.enter_own.new.store c.args.table.now c.in-Replace.rec c.args.write.now
    c.args.v.now)
    c.enter_own.result c.in_record-in-Replace.result c.in_record-in-Replace.ensures
    (λ does. record { lays = does; at = refl }) c.enter_own.ensures.lays)
