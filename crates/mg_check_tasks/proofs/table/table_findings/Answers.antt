use Rattle.std.proofs.Common.{length}
use Rattle.mg_base.specs.Image.{page_at}
use Rattle.mg_check_tasks.proofs.TaskLemmas.{table_decided, table_list}
use Rattle.mg_check_tasks.proofs.table.table_findings.Goals as goal

pub returns-clause-list : goal.returns-clause-list
returns-clause-list g c = table_list c.args.size (page_at c.args.size c.args.pages.now)
    (length c.args.pages.now) c.args.holder c.args.first c.in_ok-it.it.seats.items c.in_ok-it.it.test
    c.in_ok-it.ensures c.as_slice.result.now c.in_ok-found.found.items c.note.new.findings.items
    c.in_order.new.findings.items c.as_slice.ensures.value c.in_ok-found.ensures.members
    c.in_ok-note.ensures.adds c.in_order.ensures

pub returns-clause-decided : goal.returns-clause-decided
returns-clause-decided g c = table_decided c.args.size (page_at c.args.size c.args.pages.now)
    (length c.args.pages.now) c.args.holder c.args.first c.in_ok-it.it.seats.items c.in_ok-it.it.test
    c.in_ok-it.ensures c.as_slice.result.now c.as_slice.ensures.value c.in_ok-found.ensures.decided
