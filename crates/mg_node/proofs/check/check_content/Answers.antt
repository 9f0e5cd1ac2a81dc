use Rattle.std.proofs.Common.{[], ◌∷◌, sym, ◌∙◌}
use Rattle.mg_base.specs.CheckLaws.{passes_from_verdict}
use Rattle.mg_node.specs.NodeTests.{content_tests, order_test}
use Rattle.mg_node.specs.NodeTestLaws.{laid_out_from_tests, laid_out_tests}
use Rattle.mg_node.proofs.CheckLemmas.{goes_on, handed_on}
use Rattle.mg_node.proofs.check.check_content.Goals as goal

pub returns-in_err-check_keys : goal.returns-in_err-check_keys
unfolding content_tests
returns-in_err-check_keys c = let b = c.args.b.now in
    handed_on c.args.page (laid_out_tests b) (order_test b ∷ []) c.in_err-check_keys.field-0.0
    c.from_residual.result (sym c.check_keys.ensures ∙ c.in_err-check_keys.was)
    c.from_residual.ensures.1

pub check_order-requires-clause-laid_out : goal.check_order-requires-clause-laid_out
check_order-requires-clause-laid_out c = let b = c.args.b.now in
    let passed = laid_out_from_tests b
    (passes_from_verdict c.args.page (laid_out_tests b) (sym c.in_ok-check_keys.ensures)) in
    passed.laid_out

pub returns : goal.returns
unfolding content_tests
returns c = let b = c.args.b.now in
    goes_on c.args.page (laid_out_tests b) (order_test b ∷ []) c.check_order.result
    (sym c.in_ok-check_keys.ensures) c.check_order.ensures
