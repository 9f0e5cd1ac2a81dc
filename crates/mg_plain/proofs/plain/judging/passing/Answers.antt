-- A row more is among those that passed, or passed by.
use Rattle.std.proofs.Common.{◌∙◌, ap, sym, filter, map}
use Rattle.std.proofs.lemmas.List.{take_all}
use Rattle.mg_value.specs.declared.value.Value.{Value}
use Rattle.mg_model.specs.Changes.{Cells, KeyedRows}
use Rattle.mg_model.specs.Answers.{passes}
use Rattle.mg_plain.proofs.ExitLemmas.{no_answer}
use Rattle.mg_plain.proofs.LoopLemmas.{passed_more, passed_by}
use Rattle.mg_plain.proofs.plain.judging.passing.Goals.{then-branch+in_ok-copy+in_ok-push, else-branch}
use Rattle.mg_plain.proofs.plain.judging.passing.Goals as goal

pub loop-row-init : goal.loop-row-init
loop-row-init c = c.new-passing.ensures.items

pub loop-row-preserved : goal.loop-row-preserved
loop-row-preserved c =
    let row : Value × Cells → Cells = λ row. row.1 in
    elim c.if-branch.branch [
      | then-branch+in_ok-copy+in_ok-push w ↦ rw w.passing-is (passed_more (passes c.args.test.now) row c.args.rows.now
          c.loop-row.row-index c.row-item.result c.loop-row.passing.items w.push.new.self.items _ c.loop-row-test.true
          c.row-item.is c.loop-row.invariant (sym c.in_ok-passes.ensures ∙ w.if-branch.true) w.in_ok-copy.ensures
          w.in_ok-push.ensures.items)
      | else-branch w ↦ rw w.passing-is (passed_by (passes c.args.test.now) row c.args.rows.now c.loop-row.row-index
          c.row-item.result c.loop-row.passing.items c.loop-row-test.true c.row-item.is c.loop-row.invariant
          (sym c.in_ok-passes.ensures ∙ w.if-branch.false))
    ]

pub returns : goal.returns
returns c = c.loop-row.invariant ∙ ap (λ (rows : KeyedRows). filter (passes c.args.test.now) (map (λ row. row.1) rows))
    (take_all c.loop-row.row-index c.args.rows.now c.loop-row-test.false)

pub returns-in_err-passes : goal.returns-in_err-passes
returns-in_err-passes c = no_answer _ c.from_residual.result c.from_residual.ensures.0

pub returns-in_err-copy : goal.returns-in_err-copy
returns-in_err-copy c = no_answer _ c.from_residual-in_err-copy.result c.from_residual-in_err-copy.ensures.0

pub returns-in_err-push : goal.returns-in_err-push
returns-in_err-push c = no_answer _ c.from_residual-in_err-push.result c.from_residual-in_err-push.ensures.0
