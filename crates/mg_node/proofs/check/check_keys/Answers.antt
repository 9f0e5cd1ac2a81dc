use Rattle.std.proofs.Common.{sym, ◌∙◌}
use Rattle.mg_node.specs.declared.entry.TheConstants.{CONTENT_AT}
use Rattle.mg_node.specs.NodePage.{count_in, first_at, has_high, has_low, high_at, is_inner}
use Rattle.mg_node.specs.NodeTests.{fence_tests, field_tests, key_tests}
use Rattle.mg_node.proofs.CheckLemmas.{first_fails, fourth_decides, second_fails, third_fails}
use Rattle.mg_node.proofs.check.check_keys.Goals as goal

pub returns-in_err-check_fields : goal.returns-in_err-check_fields
returns-in_err-check_fields c = let b = c.args.b.now in
    first_fails c.args.page (field_tests b) (fence_tests (has_low b) b CONTENT_AT)
    (fence_tests (has_high b) b (high_at b)) (key_tests (is_inner b) b (first_at b) (count_in b))
    c.in_err-check_fields.field-0.0 c.from_residual.result
    (sym c.check_fields.ensures ∙ c.in_err-check_fields.was) c.from_residual.ensures.1

pub returns-in_err-check_low : goal.returns-in_err-check_low
returns-in_err-check_low c = let b = c.args.b.now in
    second_fails c.args.page (field_tests b) (fence_tests (has_low b) b CONTENT_AT)
    (fence_tests (has_high b) b (high_at b)) (key_tests (is_inner b) b (first_at b) (count_in b))
    c.in_err-check_low.field-0.0 c.from_residual-in_err-check_low.result
    (sym c.in_ok-check_fields.ensures)
    (sym c.check_low.ensures ∙ c.in_err-check_low.was) c.from_residual-in_err-check_low.ensures.1

pub returns-in_err-check_high : goal.returns-in_err-check_high
returns-in_err-check_high c = let b = c.args.b.now in
    third_fails c.args.page (field_tests b) (fence_tests (has_low b) b CONTENT_AT)
    (fence_tests (has_high b) b (high_at b)) (key_tests (is_inner b) b (first_at b) (count_in b))
    c.in_err-check_high.field-0.0 c.from_residual-in_err-check_high.result
    (sym c.in_ok-check_fields.ensures) (sym c.in_ok-check_low.ensures)
    (sym c.check_high.ensures ∙ c.in_err-check_high.was) c.from_residual-in_err-check_high.ensures.1

pub returns : goal.returns
returns c = let b = c.args.b.now in
    fourth_decides c.args.page (field_tests b) (fence_tests (has_low b) b CONTENT_AT)
    (fence_tests (has_high b) b (high_at b)) (key_tests (is_inner b) b (first_at b) (count_in b))
    c.check_entries.result (sym c.in_ok-check_fields.ensures) (sym c.in_ok-check_low.ensures)
    (sym c.in_ok-check_high.ensures) c.check_entries.ensures
