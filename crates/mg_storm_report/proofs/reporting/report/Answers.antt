use Rattle.std.proofs.Common.{◌++◌, ◌∙◌, List, ℕ, ap}
use Rattle.std.proofs.lemmas.Result.{IfOk-from_err}
use Rattle.mg_trace.specs.Openings.{opening_text}
use Rattle.mg_storm_report.specs.Report.{answers_in, replies_text, report_with}
use Rattle.mg_storm_report.proofs.ReportLemmas.{three_put}
use Rattle.mg_storm_report.proofs.reporting.report.Goals as goal

pub returns-clause-told : goal.returns-clause-told
returns-clause-told c =
    three_put c.in_ok-out.out.items c.put_bytes.new.out.items c.put_replies.new.out.items
    (opening_text c.args.opening.now) c.args.trace.now.text.items
    (replies_text c.args.lines.now (answers_in c.args.answers.now)) c.in_ok-out.ensures
    (c.in_ok-put_bytes.ensures ∙ ap (λ (xs : List ℕ). c.in_ok-out.out.items ++ xs) c.deref.ensures.value)
    c.in_ok-put_replies.ensures

pub returns-clause-whole : goal.returns-clause-whole
returns-clause-whole c = λ h has whole.
    three_put c.in_ok-out.out.items c.put_bytes.new.out.items c.put_replies.new.out.items
    (opening_text c.args.opening.now) c.args.trace.now.text.items
    (replies_text c.args.lines.now (answers_in c.args.answers.now)) c.in_ok-out.ensures
    (c.in_ok-put_bytes.ensures ∙ ap (λ (xs : List ℕ). c.in_ok-out.out.items ++ xs) c.deref.ensures.value)
    c.in_ok-put_replies.ensures
    ∙ ap (λ (text : List ℕ).
    report_with c.args.opening.now text c.args.lines.now (answers_in c.args.answers.now)) (has.whole whole)

pub returns-in_err-out-clause-whole : goal.returns-in_err-out-clause-whole
returns-in_err-out-clause-whole c = λ h has whole. IfOk-from_err c.from_residual.result _ c.from_residual.ensures.0

pub returns-in_err-put_bytes-clause-whole : goal.returns-in_err-put_bytes-clause-whole
returns-in_err-put_bytes-clause-whole c = λ h has whole.
    IfOk-from_err c.from_residual-in_err-put_bytes.result _ c.from_residual-in_err-put_bytes.ensures.0

pub returns-in_err-put_replies-clause-whole : goal.returns-in_err-put_replies-clause-whole
returns-in_err-put_replies-clause-whole c = λ h has whole.
    IfOk-from_err c.from_residual-in_err-put_replies.result _ c.from_residual-in_err-put_replies.ensures.0
