-- The orders of rows are total.
use Rattle.std.proofs.Common.{◌≡◌, ℕ, Bool, true, false, refl, sym, ap, ◌∙◌}
use Rattle.std.specs.Cmp.{IsTotalOrder}
use Rattle.std.specs.Ordering.{ordering_reverse}
use Rattle.std.specs.declared.cmp.Ordering.{Ordering}
use Rattle.std.specs.declared.cmp.Ordering.TheVariants.{Less, Equal, Greater}
use Rattle.std.proofs.lemmas.Cmp.{then_total, on_total}
use Rattle.mg_value.specs.Values.{value_cmp}
use Rattle.mg_value.specs.OrderLaws.{value_cmp_total}
use Rattle.mg_rows.specs.declared.ordering.OrderBy.{OrderBy}
use Rattle.mg_rows.specs.Orders.{value_at, key_cmp, keyed_cmp, directed, column_cmp}

pub key_cmp_total : (key : ℕ) → IsTotalOrder (key_cmp key)
key_cmp_total key = on_total (value_at key) value_cmp_total

pub keyed_cmp_total : IsTotalOrder keyed_cmp
keyed_cmp_total = on_total (λ r. r.0) value_cmp_total

equal_turned : (order : Ordering) → ordering_reverse order ≡ Equal → order ≡ Equal
equal_turned Less is = absurd cc
equal_turned Equal is = refl
equal_turned Greater is = absurd cc

-- an order the other way round
turned_total : {K : Type 0} (R : K → K → Ordering) → IsTotalOrder R
    → IsTotalOrder (λ a b. ordering_reverse (R a b))
turned_total R o = record {
  antisymm = λ a b. ap ordering_reverse (o.antisymm a b);
  trans = λ a b c less more.
      sym (o.antisymm c a) ∙ o.trans c b a (o.antisymm c b ∙ more) (o.antisymm b a ∙ less);
  congr = λ a b c same. ap ordering_reverse (o.congr a b c (equal_turned (R a b) same));
}

directed_total : {K : Type 0} (R : K → K → Ordering) (descending : Bool) → IsTotalOrder R
    → IsTotalOrder (λ a b. directed descending (R a b))
directed_total R false o = o
directed_total R true o = turned_total R o

pub column_cmp_total : (by : OrderBy) (key : ℕ) → IsTotalOrder (column_cmp by key)
column_cmp_total by key =
    then_total
    (directed_total (λ a b. value_cmp (value_at by.place a) (value_at by.place b)) by.descending
    (on_total (value_at by.place) value_cmp_total))
    (key_cmp_total key)
