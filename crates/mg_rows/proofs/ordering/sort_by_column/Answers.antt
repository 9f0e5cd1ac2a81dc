use Rattle.std.proofs.Common.{rules, is_lt}
use Rattle.std.proofs.lemmas.List.Sorted.{ranks_by}
use Rattle.std.proofs.lemmas.Fn.{always_returns_same}
use Rattle.mg_rows.specs.Orders.{column_cmp}
use Rattle.mg_rows.specs.OrderLaws.{column_cmp_total}
use Rattle.mg_rows.proofs.ordering.sort_by_column.Goals as goal

pub returns : goal.returns
returns c = record {
  same = c.sort_unstable_by.ensures.permutation;
  ascend = c.sort_unstable_by.ensures.sorted (λ a b. is_lt (column_cmp c.args.by c.args.key a b))
      (ranks_by (column_cmp_total c.args.by c.args.key) (λ row. row))
      (always_returns_same _ _ _ (λ a r f called. search rules));
}
