use Rattle.std.proofs.Common.{◌++◌, ◌∙◌, ap, sym, append-nil}
use Rattle.mg_script.specs.Transcript.{row_line}
use Rattle.std.proofs.lemmas.Result.{IfOk-from_err}
use Rattle.mg_script.proofs.FrontLemmas.{front_same, front_twice, item_put}
use Rattle.mg_script.proofs.answer.put_row_lines.Goals as goal

pub loop-row-init : goal.loop-row-init
loop-row-init c = (sym (append-nil c.args.out.now.items), front_same c.args.out.now.items)

pub loop-row-preserved : goal.loop-row-preserved
loop-row-preserved c = (
  item_put (row_line c.args.session) c.args.rows.now c.loop-row.row-index c.row-item.result c.args.out.now.items
      c.loop-row.out.items c.put_row_line.new.out.items c.loop-row-test.true c.loop-row.invariant.0
      (c.in_ok-put_row_line.ensures.ok
      ∙ ap (λ row. c.loop-row.out.items ++ row_line c.args.session row) c.row-item.is),
  front_twice _ _ _ c.loop-row.invariant.1 c.in_ok-put_row_line.ensures.front,
)

pub returns-in_err-put_row_line-clause-ok : goal.returns-in_err-put_row_line-clause-ok
returns-in_err-put_row_line-clause-ok c = IfOk-from_err c.from_residual.result _ c.from_residual.ensures.0

pub returns-in_err-put_row_line-clause-front : goal.returns-in_err-put_row_line-clause-front
returns-in_err-put_row_line-clause-front c =
    front_twice _ _ _ c.loop-row.invariant.1 c.in_err-put_row_line.ensures.front

pub returns-clause-front : goal.returns-clause-front
returns-clause-front c = c.loop-row.invariant.1
