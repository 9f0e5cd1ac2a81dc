use Rattle.mg_limbo_report.specs.Report.{IsCareRefusal}
use Rattle.mg_stat_report.specs.Telling.{AreSomeFigures, IsCause, IsToldOf}
use Rattle.mg_stat_report.proofs.TellingLemmas.{figures_end, figures_tell}
use Rattle.mg_stat_report.proofs.telling.tell_stat.Goals as goal

pub returns-in-Ok-clause-printed : goal.returns-in-Ok-clause-printed
returns-in-Ok-clause-printed g c = figures_tell AreSomeFigures IsCareRefusal g.K.Sink.meaning c.args.sink.now
    c.say_figures.new.sink c.in-Ok.it c.say_figures.result c.say_figures.ensures c.in-Ok.ensures.kind tt

pub returns-in-Ok-clause-told : goal.returns-in-Ok-clause-told
returns-in-Ok-clause-told g c = λ image held. figures_tell
    (IsToldOf g.D.Disk.meaning c.look_at.new.disk image)
    (IsCause g.D.Disk.meaning c.look_at.new.disk image) g.K.Sink.meaning c.args.sink.now
    c.say_figures.new.sink c.in-Ok.it c.say_figures.result c.say_figures.ensures
    (c.in-Ok.ensures.says image held) tt

pub returns-in-Ok-clause-fault : goal.returns-in-Ok-clause-fault
returns-in-Ok-clause-fault g c = figures_end g.D.Disk.meaning c.args.disk.now c.look_at.new.disk g.K.Sink.meaning
    c.args.sink.now c.say_figures.new.sink c.in-Ok.it c.say_figures.result c.say_figures.ensures c.in-Ok.ensures.fault
