use Rattle.std.proofs.Common.{◌++◌, ◌∙◌, ap, sym, append-nil}
use Rattle.mg_storm_report.specs.Report.{bad_text}
use Rattle.mg_storm_report.proofs.ReportLemmas.{item_put}
use Rattle.mg_storm_report.proofs.replies.put_bad_lines.Goals as goal

pub loop-line-init : goal.loop-line-init
loop-line-init c = sym (append-nil c.args.out.now.items)

pub loop-line-preserved : goal.loop-line-preserved
loop-line-preserved c =
    item_put bad_text c.args.lines.now c.loop-line.line-index c.line-item.result c.args.out.now.items
    c.loop-line.out.items c.put_if_bad.new.out.items c.loop-line-test.true c.loop-line.invariant
    (c.in_ok-put_if_bad.ensures ∙ ap (λ line. c.loop-line.out.items ++ bad_text line) c.line-item.is)
