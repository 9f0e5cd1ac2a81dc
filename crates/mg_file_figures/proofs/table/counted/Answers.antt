use Rattle.std.proofs.Common.{List, ap, length, refl, sym, ◌∙◌}
use Rattle.mg_base.specs.declared.numbers.RecId.{RecId}
use Rattle.mg_file_figures.proofs.TableLemmas.{figures_told, records_found}
use Rattle.mg_file_figures.proofs.table.counted.Goals as goal

pub returns-in-Some : goal.returns-in-Some
returns-in-Some c = records_found c.args.size c.args.pages.now c.args.holder c.args.table.now
    c.args.data_pages.now c.in_ok-walk.walk.marks c.in_ok-walk.walk.found.items c.in-Some.finding
    c.requires.none c.requires.are c.in_ok-walk.ensures.walked c.in_ok-walk.ensures.marks
    (c.in-Some.ensures.0, sym c.as_slice-found.ensures.value ∙ c.in-Some.ensures.1)

pub returns : goal.returns
returns c = figures_told c.args.size c.args.pages.now c.args.holder c.args.table.now
    c.args.data_pages.now c.in_ok-walk.walk.marks c.in_ok-walk.walk.found.items
    (record {
      name = c.args.table.now.name;
      records = length c.as_slice-listed.result.now;
      versions = c.count-version_count.result;
      pages = length c.args.data_pages.now;
    }) c.requires.none c.requires.are c.in_ok-walk.ensures.walked c.in_ok-walk.ensures.marks
    (sym c.as_slice-found.ensures.value ∙ c.in_default.ensures) refl
    (ap (λ (ps : List RecId). length ps) (c.as_slice-listed.ensures.value ∙ c.in_ok-records.ensures.records))
    c.count-version_count.ensures refl
