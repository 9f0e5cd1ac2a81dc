use Rattle.std.proofs.Common.{rules, is_lt, refl}
use Rattle.std.proofs.lemmas.Cmp.{eq_by_cmp_equiv}
use Rattle.std.proofs.lemmas.Fn.{always_returns_same, dedup_same}
use Rattle.std.proofs.lemmas.List.Kept.{Contains-dedup, Contains-from_dedup, IsStrictlySortedBy-dedup}
use Rattle.std.proofs.lemmas.List.Sorted.{Contains-permutation, IsPermutation-sym, ranks_by}
use Rattle.std.specs.Ordering.{eq_by_cmp}
use Rattle.mg_findings.specs.Findings.{finding_cmp}
use Rattle.mg_findings.specs.FindingLaws.{ascend_from_sorted, contains_from_has, finding_cmp_total, has_from_contains, same_by_cmp}
use Rattle.mg_findings.proofs.ordering.in_order.Goals as goal

pub returns : goal.returns
returns c =
    let sorted = c.sort_unstable_by.ensures.sorted (λ a b. is_lt (finding_cmp a b))
    (ranks_by finding_cmp_total (λ f. f))
    (always_returns_same _ _ _ (λ a r f called. search rules)) in
    let moved = c.sort_unstable_by.ensures.permutation in
    let is = dedup_same _ (eq_by_cmp finding_cmp) _ (λ x y b f' x' y' k. search rules) _ _
    c.dedup_by.ensures.filtered in
    record {
      ascend = rw is (ascend_from_sorted _
          (IsStrictlySortedBy-dedup finding_cmp_total (λ x y. refl) _ sorted));
      members = λ f. (
        λ has. has_from_contains _ f (Contains-permutation _ _ f (IsPermutation-sym _ _ moved)
            (Contains-from_dedup _ _ f (rw is at (contains_from_has _ f has)))),
        λ has. has_from_contains _ f (rw is (Contains-dedup (eq_by_cmp_equiv finding_cmp_total)
            same_by_cmp _ f (Contains-permutation _ _ f moved (contains_from_has _ f has)))),
      );
    }
