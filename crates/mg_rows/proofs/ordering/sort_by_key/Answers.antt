use Rattle.std.proofs.Common.{rules, is_lt}
use Rattle.std.proofs.lemmas.List.Sorted.{ranks_by}
use Rattle.std.proofs.lemmas.Fn.{always_returns_same}
use Rattle.mg_rows.specs.Orders.{keyed_cmp}
use Rattle.mg_rows.specs.OrderLaws.{keyed_cmp_total}
use Rattle.mg_rows.proofs.ordering.sort_by_key.Goals as goal

pub returns : goal.returns
returns c = record {
  same = c.sort_unstable_by.ensures.permutation;
  ascend = c.sort_unstable_by.ensures.sorted (λ a b. is_lt (keyed_cmp a b))
      (ranks_by keyed_cmp_total (λ row. row))
      (always_returns_same _ _ _ (λ a r f called. search rules));
}
