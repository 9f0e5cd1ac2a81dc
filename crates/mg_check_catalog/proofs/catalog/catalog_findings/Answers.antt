use Rattle.std.proofs.Common.{◌⊎◌, length, refl}
use Rattle.mg_base.specs.Image.{page_at}
use Rattle.mg_check_catalog.proofs.CatalogLemmas.{list_added, named_is}
use Rattle.mg_check_catalog.specs.CatalogRung.{IsCatalogFinding}
use Rattle.mg_check_data.specs.DataRung.{HasOne}
use Rattle.mg_check_tables.specs.TableRung.{HasTable, IsTableFinding}
use Rattle.mg_findings.specs.Findings.{Adds}
use Rattle.mg_check_catalog.proofs.catalog.catalog_findings.Goals as goal

pub returns-clause-list : goal.returns-clause-list
returns-clause-list c = list_added (IsCatalogFinding c.args.size c.args.pages.now)
    c.new-findings.result.items c.note_table.new.findings.items c.in_order.new.findings.items
    c.new-findings.ensures.items
    (named_is c.args.size c.args.pages.now c.first_pointer-first.result (λ n.
    Adds c.new-findings.result.items c.note_table.new.findings.items
    (IsTableFinding c.args.size (page_at c.args.size c.args.pages.now)
    (length c.args.pages.now) 0 n)) c.first_pointer-first.ensures
    c.in_ok-note_table.ensures.adds) c.in_order.ensures

pub returns-in_err-note_table-clause-cause : goal.returns-in_err-note_table-clause-cause
returns-in_err-note_table-clause-cause c = λ failed. named_is c.args.size c.args.pages.now
    c.first_pointer-first.result (λ n. HasOne (IsTableFinding c.args.size
    (page_at c.args.size c.args.pages.now) (length c.args.pages.now) 0 n))
    c.first_pointer-first.ensures (c.in_err-note_table.ensures.cause refl)

pub returns-in_err-note_table-clause-decided : goal.returns-in_err-note_table-clause-decided
returns-in_err-note_table-clause-decided c = named_is c.args.size c.args.pages.now
    c.first_pointer-first.result (λ n. HasOne (IsTableFinding c.args.size
    (page_at c.args.size c.args.pages.now) (length c.args.pages.now) 0 n)
    ⊎ HasTable c.args.size (page_at c.args.size c.args.pages.now) n)
    c.first_pointer-first.ensures c.note_table.ensures.decided

pub returns-clause-decided : goal.returns-clause-decided
returns-clause-decided c = named_is c.args.size c.args.pages.now
    c.first_pointer-first.result (λ n. HasOne (IsTableFinding c.args.size
    (page_at c.args.size c.args.pages.now) (length c.args.pages.now) 0 n)
    ⊎ HasTable c.args.size (page_at c.args.size c.args.pages.now) n)
    c.first_pointer-first.ensures c.note_table.ensures.decided
