use Rattle.std.proofs.Common.{◌++◌, ◌∙◌, ap, sym, append-nil}
use Rattle.mg_interleavings.specs.Texts.{said_at_once}
use Rattle.mg_storm_report.proofs.ReportLemmas.{item_put}
use Rattle.mg_storm_report.proofs.replies.put_own.Goals as goal

pub loop-answered-init : goal.loop-answered-init
loop-answered-init c = sym (append-nil c.args.out.now.items)

pub loop-answered-preserved : goal.loop-answered-preserved
loop-answered-preserved c =
    item_put (said_at_once c.args.session) c.args.answers.now c.loop-answered.answered-index c.answered-item.result
    c.args.out.now.items c.loop-answered.out.items c.answered_text.new.out.items c.loop-answered-test.true
    c.loop-answered.invariant
    (c.in_ok-answered_text.ensures.ok
    ∙ ap (λ answered. c.loop-answered.out.items ++ said_at_once c.args.session answered) c.answered-item.is)
