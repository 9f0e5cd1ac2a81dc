use Rattle.mg_survey.proofs.AskingLemmas.{asks_answered, asks_calm, calm_content, has_still}
use Rattle.mg_survey.proofs.disk.is_unmade_at.Goals as goal

pub returns-in_err-read-clause-has : goal.returns-in_err-read-clause-has
returns-in_err-read-clause-has g c = has_still g.D.Disk.meaning c.args.disk.now c.read.new.self c.args.size
    c.args.pages c.requires.has
    c.in_err-read.ensures.calm

pub returns-in_err-read-clause-asks : goal.returns-in_err-read-clause-asks
returns-in_err-read-clause-asks g c = asks_calm g.D.Disk.meaning c.args.disk.now c.read.new.self
    c.from_residual.result
    c.in_err-read.field-0.0 c.from_residual.ensures.0 c.in_err-read.ensures.calm c.read.ensures.no_failed_write

pub returns-in_err-read-clause-alone : goal.returns-in_err-read-clause-alone
returns-in_err-read-clause-alone g c = c.read.ensures.reads

pub returns-clause-has : goal.returns-clause-has
returns-clause-has g c = has_still g.D.Disk.meaning c.args.disk.now c.read.new.self c.args.size c.args.pages
    c.requires.has
    c.in_ok-read.ensures.calm

pub returns-clause-asks : goal.returns-clause-asks
returns-clause-asks g c = asks_answered g.D.Disk.meaning c.args.disk.now c.read.new.self c.is_unmade_page.result
    (calm_content g.D.Disk.meaning c.args.disk.now c.read.new.self c.in_ok-read.ensures.calm c.read.ensures.no_failed_write)
    c.in_ok-read.ensures.calm.keeps.steady c.read.ensures.no_failed_write

pub returns-clause-alone : goal.returns-clause-alone
returns-clause-alone g c = c.read.ensures.reads
