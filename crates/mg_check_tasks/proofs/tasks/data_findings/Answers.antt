use Rattle.std.proofs.Common.{◌∙◌, ap, flat_map, length}
use Rattle.mg_base.specs.Image.{page_at}
use Rattle.mg_check_tasks.proofs.TaskLemmas.{decided_of, members_in}
use Rattle.mg_check_tasks.proofs.tasks.data_findings.Goals as goal

pub returns-clause-members : goal.returns-clause-members
returns-clause-members g c = members_in c.args.size (page_at c.args.size c.args.pages.now)
    (length c.args.pages.now) (λ list. list.items) c.args.seats.now c.in_ok-lists.lists.items
    c.in_ok-joined.field-0.items c.in_ok-lists.ensures
    (c.in_ok-joined.ensures ∙ ap (flat_map (λ list. list.items)) c.deref.ensures.value)

pub returns-clause-decided : goal.returns-clause-decided
returns-clause-decided g c = decided_of c.args.size (page_at c.args.size c.args.pages.now)
    (length c.args.pages.now) (λ list. list.items) c.args.seats.now c.in_ok-lists.lists.items
    c.in_ok-lists.ensures
