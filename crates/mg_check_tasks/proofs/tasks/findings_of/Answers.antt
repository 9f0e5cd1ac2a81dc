use Rattle.std.proofs.Common.{length}
use Rattle.mg_base.specs.Image.{page_at}
use Rattle.mg_check_tasks.proofs.TaskLemmas.{found_of}
use Rattle.mg_check_tasks.proofs.tasks.findings_of.Goals as goal

pub returns : goal.returns
returns c = found_of c.args.size (page_at c.args.size c.args.pages.now) (length c.args.pages.now)
    c.args.seat c.new-found.result.items c.note_data.new.findings.items c.new-found.ensures.items
    c.in_ok-note_data.ensures.adds c.note_data.ensures.decided
