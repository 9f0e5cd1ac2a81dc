use Rattle.std.proofs.Common.{◌&&◌}
use Rattle.mg_statements.specs.Plain.{assign_of}
use Rattle.mg_plan.specs.Names.{is_column}
use Rattle.mg_plan.specs.Binding.{is_known}
use Rattle.mg_plan.proofs.StepLemmas.{first_true, first_false, none_left}
use Rattle.mg_plan.proofs.statements.are_sets_known.Goals as goal

pub loop-set-preserved : goal.loop-set-preserved
loop-set-preserved c =
    first_true (λ set. is_column c.args.columns.now set.0 && is_known set.1 c.args.columns.now) assign_of
    c.loop-set.rest.now c.in-Some.later.now c.in-Some.set.now _ _ c.in-Some.ensures.cases.0 c.is_set_known.ensures
    c.if-not-is_set_known.false c.loop-set.invariant

pub returns-then-not-is_set_known : goal.returns-then-not-is_set_known
returns-then-not-is_set_known c =
    first_false (λ set. is_column c.args.columns.now set.0 && is_known set.1 c.args.columns.now) assign_of
    c.loop-set.rest.now c.in-Some.later.now c.in-Some.set.now _ _ c.in-Some.ensures.cases.0 c.is_set_known.ensures
    c.if-not-is_set_known.true c.loop-set.invariant

pub returns : goal.returns
returns c =
    none_left (λ set. is_column c.args.columns.now set.0 && is_known set.1 c.args.columns.now) assign_of
    c.loop-set.rest.now _ c.in_default.ensures.cases c.loop-set.invariant
