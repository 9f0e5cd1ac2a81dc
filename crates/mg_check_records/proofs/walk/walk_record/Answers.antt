use Rattle.std.proofs.Common.{refl, subst}
use Rattle.mg_base.specs.Image.{page_at}
use Rattle.mg_check_records.proofs.WalkLemmas.{step_fewer, step_goes_on, step_stops, walk_begins, walk_ends, walk_marks}
use Rattle.mg_image.specs.Records.{cells_of}
use Rattle.mg_check_records.proofs.walk.walk_record.Goals as goal

pub loop-next-init : goal.loop-next-init
loop-next-init c = walk_begins (cells_of (page_at c.args.size c.args.pages.now)) c.args.table.now
    c.args.data_pages.now c.args.size c.args.marks.now c.args.p c.args.newest
    c.new-entries.result.items c.new-entries.ensures.items

pub go_on-requires-clause-marks : goal.go_on-requires-clause-marks
go_on-requires-clause-marks c = walk_marks (cells_of (page_at c.args.size c.args.pages.now))
    c.args.table.now c.args.data_pages.now c.args.size c.args.marks.now c.loop-next.marks c.args.p
    c.args.newest c.loop-next.entries.items c.loop-next.holder c.loop-next.next
    c.loop-next.invariant c.requires.marks

pub loop-next-preserved : goal.loop-next-preserved
loop-next-preserved c = step_goes_on (cells_of (page_at c.args.size c.args.pages.now))
    c.args.table.now c.args.data_pages.now c.args.size c.args.marks.now c.loop-next.marks c.args.p
    c.args.newest c.loop-next.entries.items c.loop-next.holder c.loop-next.next
    c.loop-next.invariant c.in-Some.link c.in_ok-entry.field-0 c.in-Entry.entry
    c.go_on.new.marks c.push.new.self.items c.in-Some.is c.in_ok-entry.ensures c.in-Entry.is
    c.in_ok-push.ensures.items

pub loop-next-smaller : goal.loop-next-smaller
loop-next-smaller c = step_fewer (cells_of (page_at c.args.size c.args.pages.now))
    c.args.table.now c.args.data_pages.now c.args.size c.args.marks.now c.loop-next.marks c.args.p
    c.args.newest c.loop-next.entries.items c.loop-next.holder c.loop-next.next
    c.loop-next.invariant c.in-Some.link c.in_ok-entry.field-0 c.in-Entry.entry
    c.go_on.new.marks c.in_ok-entry.ensures c.in-Entry.is

pub returns-in-Stopped-clause-walk : goal.returns-in-Stopped-clause-walk
returns-in-Stopped-clause-walk c = (step_stops (cells_of (page_at c.args.size c.args.pages.now))
    c.args.table.now c.args.data_pages.now c.args.size c.args.marks.now c.loop-next.marks c.args.p
    c.args.newest c.loop-next.entries.items c.loop-next.holder c.loop-next.next
    c.loop-next.invariant c.in-Some.link c.in_ok-entry.field-0 c.in-Stopped.finding
    c.go_on.new.marks c.in-Some.is c.in_ok-entry.ensures c.in-Stopped.is).walk

pub returns-in-Stopped-clause-met : goal.returns-in-Stopped-clause-met
returns-in-Stopped-clause-met c = (step_stops (cells_of (page_at c.args.size c.args.pages.now))
    c.args.table.now c.args.data_pages.now c.args.size c.args.marks.now c.loop-next.marks c.args.p
    c.args.newest c.loop-next.entries.items c.loop-next.holder c.loop-next.next
    c.loop-next.invariant c.in-Some.link c.in_ok-entry.field-0 c.in-Stopped.finding
    c.go_on.new.marks c.in-Some.is c.in_ok-entry.ensures c.in-Stopped.is).met

pub returns-in-Stopped-clause-len : goal.returns-in-Stopped-clause-len
returns-in-Stopped-clause-len c = (step_stops (cells_of (page_at c.args.size c.args.pages.now))
    c.args.table.now c.args.data_pages.now c.args.size c.args.marks.now c.loop-next.marks c.args.p
    c.args.newest c.loop-next.entries.items c.loop-next.holder c.loop-next.next
    c.loop-next.invariant c.in-Some.link c.in_ok-entry.field-0 c.in-Stopped.finding
    c.go_on.new.marks c.in-Some.is c.in_ok-entry.ensures c.in-Stopped.is).len

pub returns-clause-walk : goal.returns-clause-walk
returns-clause-walk c = walk_ends (cells_of (page_at c.args.size c.args.pages.now))
    c.args.table.now c.args.data_pages.now c.args.size c.args.marks.now c.loop-next.marks c.args.p
    c.args.newest c.loop-next.entries.items c.loop-next.holder c.loop-next.next
    c.loop-next.invariant c.in_default.is

pub returns-clause-met : goal.returns-clause-met
returns-clause-met c = c.loop-next.invariant.met

pub returns-clause-len : goal.returns-clause-len
returns-clause-len c = c.loop-next.invariant.len
