use Rattle.std.proofs.Common.{◌∙◌, sym}
use Rattle.mg_limbo_list.proofs.HeaderLemmas.{header_listed, later_listed}
use Rattle.mg_limbo_list.proofs.listing.list_limbo.Goals as goal

pub returns-in-Err : goal.returns-in-Err
returns-in-Err c = header_listed c.args.size c.args.pages.now c.in-Err.damage c.of.result
    c.check_header.result c.in-Err.is c.check_header.ensures.test c.of.ensures

pub returns-in-Some : goal.returns-in-Some
returns-in-Some c = later_listed c.args.size c.args.pages.now c.check_header.result
    c.in-Some.finding c.in_ok-findings.findings.items c.in_default.is c.check_header.ensures.test
    c.in_ok-findings.ensures.list
    (c.in-Some.ensures.0, sym c.deref.ensures.value ∙ c.in-Some.ensures.1)
