-- Numbers that are not drawn, and what is told of them.
use Rattle.std.proofs.Common.{◌≡◌, ◌≤◌, ◌<◌, ◌⊎◌, ◌∙◌, inl, inr, refl, arith, ℕ, List, Ok, Err, nat_lt, true, false}
use Rattle.std.proofs.lemmas.Bool.{cases_lt, le-ltb, lt-ltb}
use Rattle.mg_base.specs.Checks.{verdict}
use Rattle.mg_base.specs.declared.numbers.PageNo.{PageNo}
use Rattle.mg_base.specs.declared.transaction.TxState.{TxState}
use Rattle.mg_base.specs.declared.transaction.TxState.TheVariants.{Active, Limbo, Dead, Committed}
use Rattle.mg_findings.specs.Findings.{IsFirst}
use Rattle.mg_findings.specs.RungLaws.{all_from_none, none_first}
use Rattle.mg_image.specs.Sound.{IsUndrawn}
use Rattle.mg_tip.specs.TipPage.{state_in}
use Rattle.mg_check_pages.specs.PageTests.{UndrawnLaw, undrawn_checks, undrawn_test}

-- the test of a state passes exactly where it is one of a number that is not drawn
undrawn_if_passed : (page : PageNo) (state : TxState) → verdict page (undrawn_checks state) ≡ Ok tt
    → IsUndrawn state
undrawn_if_passed page Active is = tt
undrawn_if_passed page Limbo is = absurd cc
undrawn_if_passed page Dead is = tt
undrawn_if_passed page Committed is = absurd cc

passed_if_undrawn : (page : PageNo) (state : TxState) → IsUndrawn state
    → verdict page (undrawn_checks state) ≡ Ok tt
passed_if_undrawn page Active is = refl
passed_if_undrawn page Limbo is = absurd is
passed_if_undrawn page Dead is = refl
passed_if_undrawn page Committed is = absurd is

pub undrawn_law : UndrawnLaw
undrawn_law b page from count = (
  λ none. λ place past inside. undrawn_if_passed page (state_in b place)
      (rw (le-ltb place from past) at
      (all_from_none (undrawn_test b page from) count none place inside)),
  λ all. none_first (undrawn_test b page from) count (λ place inside. elim (cases_lt place from) [
    | inl drawn ↦ rw (lt-ltb place from drawn) refl
    | inr past ↦ rw (le-ltb place from past)
        (passed_if_undrawn page (state_in b place) (all place past inside))
  ]),
)
