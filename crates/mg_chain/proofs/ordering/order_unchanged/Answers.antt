use Rattle.std.proofs.Common.{◌∙◌, sym}
use Rattle.mg_chain.proofs.OrderLemmas.{unchanged_in, unchanged_none, unchanged_out}
use Rattle.mg_chain.proofs.ordering.order_unchanged.Goals as goal

pub returns-in_default-clause-adds : goal.returns-in_default-clause-adds
returns-in_default-clause-adds c = unchanged_none c.args.batch.now c.args.back c.args.later.0 c.in_default.is

pub returns-then-is_changed-clause-adds : goal.returns-then-is_changed-clause-adds
returns-then-is_changed-clause-adds c = unchanged_in c.args.batch.now c.args.back c.in-Some.link
    c.args.later.0 c.in-Some.is (sym c.is_changed.ensures ∙ c.if-is_changed.true)

pub returns-clause-adds : goal.returns-clause-adds
returns-clause-adds c = unchanged_out c.args.batch.now c.order_one.new.batch c.args.back c.in-Some.link
    c.args.later.0 c.in-Some.is (sym c.is_changed.ensures ∙ c.if-is_changed.false)
    c.in_ok-order_one.ensures.adds
