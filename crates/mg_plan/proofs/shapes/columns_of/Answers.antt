use Rattle.std.proofs.Common.{subst}
use Rattle.std.specs.Prelude.{All}
use Rattle.std.proofs.lemmas.List.{take_all}
use Rattle.std.proofs.lemmas.List.Elements.{All-more, All-nil}
use Rattle.std.proofs.lemmas.Result.{IfOk-from_err}
use Rattle.mg_value.specs.Names.{IsName}
use Rattle.mg_statements.specs.declared.statement.Def.{Def}
use Rattle.mg_plan.specs.Shapes.{column_of}
use Rattle.mg_plan.proofs.StepLemmas.{mapped, mapped_all}
use Rattle.mg_plan.proofs.shapes.columns_of.Goals as goal

pub loop-d-preserved : goal.loop-d-preserved
loop-d-preserved c = (
  mapped column_of c.args.defs.now c.loop-d.d-index c.d-item.result _ _ _ c.loop-d-test.true c.d-item.is
      c.column_of.ensures.is c.loop-d.invariant.0 c.in_ok-push.ensures.items,
  All-more (λ (d : Def). IsName d.name) c.args.defs.now c.loop-d.d-index c.d-item.result c.loop-d-test.true
      c.loop-d.invariant.1 (subst (λ (d : Def). IsName d.name) c.d-item.is c.column_of.ensures.named),
)

pub loop-d-init : goal.loop-d-init
loop-d-init c = (c.new-columns.ensures.items, All-nil (λ (d : Def). IsName d.name))

pub returns-clause-are : goal.returns-clause-are
returns-clause-are c =
    mapped_all column_of c.args.defs.now c.loop-d.d-index _ c.loop-d-test.false
    c.loop-d.invariant.0

pub returns-clause-named : goal.returns-clause-named
returns-clause-named c = subst (All (λ (d : Def). IsName d.name))
    (take_all c.loop-d.d-index c.args.defs.now c.loop-d-test.false) c.loop-d.invariant.1

pub returns-in_err-push-clause-are : goal.returns-in_err-push-clause-are
returns-in_err-push-clause-are c = IfOk-from_err c.from_residual.result _ c.from_residual.ensures.0

pub returns-in_err-push-clause-named : goal.returns-in_err-push-clause-named
returns-in_err-push-clause-named c = IfOk-from_err c.from_residual.result _ c.from_residual.ensures.0
