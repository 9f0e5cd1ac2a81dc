use Rattle.std.proofs.Common.{subst, sym}
use Rattle.mg_limbo_report.specs.Report.{IsCause, IsToldOf}
use Rattle.mg_limbo_report.proofs.TellingLemmas.{list_tells}
use Rattle.mg_limbo_report.proofs.telling.tell_limbo.Goals as goal

pub returns-in-Ok-clause-told : goal.returns-in-Ok-clause-told
returns-in-Ok-clause-told g c = λ image held. list_tells
    (IsToldOf g.D.Disk.meaning c.list_disk.new.disk image)
    (IsCause g.D.Disk.meaning c.list_disk.new.disk image) g.K.Sink.meaning c.args.sink.now
    c.say_list.new.sink c.as_slice.result.now c.say_list.result c.say_list.ensures
    (subst (IsToldOf g.D.Disk.meaning c.list_disk.new.disk image) (sym c.as_slice.ensures.value)
    (c.in-Ok.ensures.says image held)) tt
