use Rattle.std.proofs.Common.{sym, ◌∙◌}
use Rattle.mg_check_catalog.specs.CatalogRung.{IsRungFinding}
use Rattle.mg_file_figures.proofs.StatingLemmas.{header_passes, rungs_damage, rungs_stated}
use Rattle.mg_file_figures.proofs.TableLemmas.{none_listed}
use Rattle.mg_file_figures.proofs.stating.state_file.Goals as goal

pub returns-in-Some-clause-stated : goal.returns-in-Some-clause-stated
returns-in-Some-clause-stated c = rungs_stated c.args.size c.args.pages.now c.in_ok-findings.findings.items
    c.in-Some.finding c.in_ok-findings.ensures.list
    (c.in-Some.ensures.0, sym c.as_slice.ensures.value ∙ c.in-Some.ensures.1)

pub returns-in-Some-clause-damage : goal.returns-in-Some-clause-damage
returns-in-Some-clause-damage c = rungs_damage c.args.size c.args.pages.now c.in_ok-findings.findings.items
    c.in-Some.finding c.in_ok-findings.ensures.list
    (c.in-Some.ensures.0, sym c.as_slice.ensures.value ∙ c.in-Some.ensures.1)

pub state_catalog-requires-clause-none : goal.state_catalog-requires-clause-none
state_catalog-requires-clause-none c = none_listed (IsRungFinding c.args.size c.args.pages.now)
    c.in_ok-findings.findings.items c.in_ok-findings.ensures.list
    (sym c.as_slice.ensures.value ∙ c.in_default.ensures)

pub state_catalog-requires-clause-rungs : goal.state_catalog-requires-clause-rungs
state_catalog-requires-clause-rungs c = c.rung_findings.ensures.sound.0
    (none_listed (IsRungFinding c.args.size c.args.pages.now) c.in_ok-findings.findings.items
    c.in_ok-findings.ensures.list
    (sym c.as_slice.ensures.value ∙ c.in_default.ensures))

pub unreachable-requires : goal.unreachable-requires
unreachable-requires c = header_passes c.args.size c.args.pages.now c.check_header.result c.in-Err.field-0
    (none_listed (IsRungFinding c.args.size c.args.pages.now) c.in_ok-findings.findings.items
    c.in_ok-findings.ensures.list
    (sym c.as_slice.ensures.value ∙ c.in_default.ensures)) c.check_header.ensures.test c.in-Err.is
