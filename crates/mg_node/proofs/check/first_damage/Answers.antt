use Rattle.std.proofs.Common.{sym, ◌∙◌}
use Rattle.mg_node.specs.NodePage.{node_checks}
use Rattle.mg_node.specs.NodeTests.{content_tests}
use Rattle.mg_node.proofs.CheckLemmas.{goes_on, handed_on}
use Rattle.mg_node.proofs.check.first_damage.Goals as goal

pub returns-in_err-check_node_common : goal.returns-in_err-check_node_common
returns-in_err-check_node_common c =
    handed_on c.args.page (node_checks c.args.b.now c.args.page.0 c.args.owner)
    (content_tests c.args.b.now) c.in_err-check_node_common.field-0.0 c.from_residual.result
    (sym c.check_node_common.ensures ∙ c.in_err-check_node_common.was) c.from_residual.ensures.1

pub returns : goal.returns
returns c =
    goes_on c.args.page (node_checks c.args.b.now c.args.page.0 c.args.owner)
    (content_tests c.args.b.now) c.check_content.result
    (sym c.in_ok-check_node_common.ensures) c.check_content.ensures
