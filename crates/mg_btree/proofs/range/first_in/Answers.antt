use Rattle.std.proofs.Common.{rules}
use Rattle.std.specs.Option.{option_copied}
use Rattle.mg_btree.specs.RangeLaws.{passed_more}
use Rattle.mg_btree.proofs.range.first_in.Goals as goal

pub loop-next-preserved : goal.loop-next-preserved
loop-next-preserved c = passed_more c.args.low.now (option_copied c.args.after) c.args.entries.now
    c.loop-next.rest.now c.in-Some.later.now c.in-Some.next.now c.loop-next.invariant (search rules)
    (λ within. let passed = c.is_in_range.ensures.1 within in let failed = c.if-is_in_range.false in absurd cc)
