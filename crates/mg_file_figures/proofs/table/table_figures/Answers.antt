use Rattle.std.proofs.Common.{List, subst, sym, ℕ, ◌∙◌}
use Rattle.std.specs.Prelude.{false}
use Rattle.mg_base.specs.Image.{page_at}
use Rattle.mg_check_tables.specs.DataPageLaws.{data_pages_wanted}
use Rattle.mg_check_tables.specs.Seats.{AreDataPages}
use Rattle.mg_check_tables.specs.TableRung.{HasTable}
use Rattle.mg_file_figures.specs.Tables.{IsPagesFinding}
use Rattle.mg_file_figures.proofs.TableLemmas.{decided_other, none_listed, pages_found}
use Rattle.mg_image.specs.Sound.{IsTableData}
use Rattle.mg_image.specs.Tables.{EachFrom}
use Rattle.mg_file_figures.proofs.table.table_figures.Goals as goal

pub returns-in-Some : goal.returns-in-Some
returns-in-Some c = pages_found c.args.size c.args.pages.now c.args.holder c.args.table.now
    c.in_ok-findings.findings.items c.in-Some.finding c.in_ok-findings.ensures.list
    (c.in-Some.ensures.0, sym c.as_slice-found.ensures.value ∙ c.in-Some.ensures.1)

pub data_pages_of-requires-clause-none : goal.data_pages_of-requires-clause-none
data_pages_of-requires-clause-none c = none_listed
    (IsPagesFinding c.args.size c.args.pages.now c.args.holder c.args.table.now)
    c.in_ok-findings.findings.items c.in_ok-findings.ensures.list
    (sym c.as_slice-found.ensures.value ∙ c.in_default.ensures)

pub counted-requires-clause-none : goal.counted-requires-clause-none
counted-requires-clause-none c = none_listed
    (IsPagesFinding c.args.size c.args.pages.now c.args.holder c.args.table.now)
    c.in_ok-findings.findings.items c.in_ok-findings.ensures.list
    (sym c.as_slice-found.ensures.value ∙ c.in_default.ensures)

pub counted-requires-clause-are : goal.counted-requires-clause-are
counted-requires-clause-are c =
    subst (λ (ns : List ℕ). AreDataPages (page_at c.args.size c.args.pages.now) c.args.table.now.pointer.0 ns)
    (sym c.as_slice-placed.ensures.value) c.in_ok-data_pages.ensures

pub counted-requires-clause-tested : goal.counted-requires-clause-tested
counted-requires-clause-tested c =
    subst (λ (ns : List ℕ). EachFrom (IsTableData false c.args.size (page_at c.args.size c.args.pages.now)
    c.args.table.now.pointer.0) 0 ns) (sym c.as_slice-placed.ensures.value)
    (data_pages_wanted c.args.size (page_at c.args.size c.args.pages.now) c.args.table.now.pointer.0
    c.in_ok-data_pages.data_pages.items (decided_other
    (IsPagesFinding c.args.size c.args.pages.now c.args.holder c.args.table.now)
    (HasTable c.args.size (page_at c.args.size c.args.pages.now) c.args.table.now.pointer.0)
    (none_listed (IsPagesFinding c.args.size c.args.pages.now c.args.holder c.args.table.now)
    c.in_ok-findings.findings.items c.in_ok-findings.ensures.list
    (sym c.as_slice-found.ensures.value ∙ c.in_default.ensures)) c.pages_findings.ensures.decided)
    c.in_ok-data_pages.ensures)
