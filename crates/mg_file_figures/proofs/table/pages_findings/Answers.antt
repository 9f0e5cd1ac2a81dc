use Rattle.mg_file_figures.specs.Tables.{IsPagesFinding}
use Rattle.mg_file_figures.proofs.TableLemmas.{list_added}
use Rattle.mg_file_figures.proofs.table.pages_findings.Goals as goal

pub returns-clause-list : goal.returns-clause-list
returns-clause-list c = list_added (IsPagesFinding c.args.size c.args.pages.now c.args.holder c.args.table.now)
    c.new-findings.result.items c.note_table.new.findings.items c.in_order.new.findings.items
    c.new-findings.ensures.items c.in_ok-note_table.ensures.adds c.in_order.ensures
