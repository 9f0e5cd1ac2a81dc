use Rattle.std.proofs.Common.{◌∙◌, sym}
use Rattle.std.proofs.lemmas.Result.{err_from_is_err_and}
use Rattle.mg_base.specs.Checks.{common_checks}
use Rattle.mg_base.specs.CheckLaws.{verdict-append_err, verdict-append_ok}
use Rattle.mg_header.specs.HeaderPage.{marker_checks, the_page}
use Rattle.mg_header.proofs.reading.check_page.Goals as goal

pub returns-in_err-check_common : goal.returns-in_err-check_common
returns-in_err-check_common c =
    let p = err_from_is_err_and c.from_residual.result c.from_residual.ensures.1 in
    rw (p.1, p.2) (sym (verdict-append_err the_page (common_checks c.args.b.now 0 1 0 0)
    (marker_checks c.args.b.now) _ (sym (c.in_err-check_common.ensures))))

pub returns : goal.returns
returns c = c.check_markers.ensures
    ∙ sym (verdict-append_ok the_page (common_checks c.args.b.now 0 1 0 0)
    (marker_checks c.args.b.now) (sym (c.in_ok-check_common.ensures)))
