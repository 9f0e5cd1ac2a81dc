use Rattle.mg_base.proofs.FaultyDiskLemmas.{calm_before, calm_inside, unread_before, unread_inside}
use Rattle.mg_base.proofs.faulty_disk.FaultyDiskDisk.page_size.Goals as goal

pub returns-in_err-admit-clause-calm : goal.returns-in_err-admit-clause-calm
returns-in_err-admit-clause-calm c = calm_before c.args.self.now c.admit.new.self c.from_residual.result _ c.admit.ensures.inner c.admit.ensures.asked c.admit.ensures.never_falls c.in_err-admit.ensures.rose c.from_residual.ensures.1

pub returns-in_err-admit-clause-unread : goal.returns-in_err-admit-clause-unread
returns-in_err-admit-clause-unread c = unread_before c.args.self.now c.admit.new.self c.admit.ensures.inner c.admit.ensures.reads

pub returns-clause-calm : goal.returns-clause-calm
returns-clause-calm c = calm_inside c.args.self.now (record c.admit.new.self { inner = c.page_size.new.self }) c.admit.new.self.inner c.page_size.result c.admit.ensures.inner c.in_ok-admit.ensures.steady c.admit.ensures.asked c.page_size.ensures.calm

pub returns-clause-unread : goal.returns-clause-unread
returns-clause-unread c = unread_inside c.args.self.now (record c.admit.new.self { inner = c.page_size.new.self }) c.admit.new.self.inner c.admit.ensures.inner c.admit.ensures.reads c.page_size.ensures.unread
