-- What several tests in a row answer.
use Rattle.std.specs.Prelude.{◌≡◌, ◌-◌, ◌<◌, ◌+◌, ℕ, suc, Bool, List, [], ◌∷◌, ◌++◌, Result, Ok, Err, IsErrAnd, IsOk, ◌↔◌}
use Rattle.std.proofs.Common.{refl, sym, ◌∙◌, arith}
use Rattle.mg_base.specs.Checks.{Check, PassesAll, verdict}
use Rattle.mg_base.specs.CheckLaws.{passes-append, passes_from_verdict, verdict-append_err, verdict-append_ok, verdict_from_passes}
use Rattle.mg_base.specs.declared.damage.Damaged.{Damaged}
use Rattle.mg_base.specs.declared.numbers.PageNo.{PageNo}
use Rattle.mg_node.specs.NodePage.{IsNodePage, end_of, node_checks}
use Rattle.mg_node.specs.NodeTests.{HasEnough, content_tests, key_test, key_tests, node_tests}
use Rattle.mg_node.specs.NodeTestLaws.{node_from_tests, passes-split, tests_from_node}

-- the damage that the first tests found is what all of them find
pub handed_on : (page : PageNo) (first others : List Check) (given : Damaged)
    (result : Result (Unit {0}) Damaged) → verdict page first ≡ Err given
    → IsErrAnd result (λ e. e ≡ given) → result ≡ verdict page (first ++ others)
handed_on page first others given (Ok x) found same = absurd same
handed_on page first others given (Err e) found same =
    let all : verdict page (first ++ others) ≡ Err given =
    verdict-append_err page first others given found in
    let is : e ≡ given = same in rw (all, is) refl

-- where the first tests pass, the others decide
pub goes_on : (page : PageNo) (first others : List Check) (result : Result (Unit {0}) Damaged)
    → verdict page first ≡ Ok tt → result ≡ verdict page others
    → result ≡ verdict page (first ++ others)
goes_on page first others result passed rest = rest ∙ sym (verdict-append_ok page first others passed)

-- one key more passes
pub key_passes : (page : PageNo) (w : Bool) (b : List ℕ) (at count n : ℕ) → n < count
    → verdict page (key_test b at ∷ []) ≡ Ok tt
    → verdict page (key_tests w b at (count - n))
    ≡ verdict page (key_tests w b (end_of w b at) (count - (n + 1)))
key_passes page w b at count n below passed =
    let more : count - n ≡ suc (count - (n + 1)) = omega arith in
    rw more (verdict-append_ok page (key_test b at ∷ [])
    (key_tests w b (end_of w b at) (count - (n + 1))) passed)

-- one key more is too long
pub key_fails : (page : PageNo) (w : Bool) (b : List ℕ) (at count n : ℕ) (given : Damaged)
    (result : Result (Unit {0}) Damaged) → n < count → verdict page (key_test b at ∷ []) ≡ Err given
    → IsErrAnd result (λ e. e ≡ given) → result ≡ verdict page (key_tests w b at (count - n))
key_fails page w b at count n given result below found same =
    let more : count - n ≡ suc (count - (n + 1)) = omega arith in
    rw more (handed_on page (key_test b at ∷ []) (key_tests w b (end_of w b at) (count - (n + 1)))
    given result found same)

-- Four groups of tests in a row.

pub first_fails : (page : PageNo) (one two three four : List Check) (given : Damaged)
    (result : Result (Unit {0}) Damaged) → verdict page one ≡ Err given
    → IsErrAnd result (λ e. e ≡ given) → result ≡ verdict page (one ++ two ++ three ++ four)
first_fails page one two three four given result fails same =
    handed_on page (one ++ two ++ three) four given result
    (verdict-append_err page (one ++ two) three given (verdict-append_err page one two given fails)) same

pub second_fails : (page : PageNo) (one two three four : List Check) (given : Damaged)
    (result : Result (Unit {0}) Damaged) → verdict page one ≡ Ok tt → verdict page two ≡ Err given
    → IsErrAnd result (λ e. e ≡ given) → result ≡ verdict page (one ++ two ++ three ++ four)
second_fails page one two three four given result first fails same =
    handed_on page (one ++ two ++ three) four given result
    (verdict-append_err page (one ++ two) three given (verdict-append_ok page one two first ∙ fails)) same

pub third_fails : (page : PageNo) (one two three four : List Check) (given : Damaged)
    (result : Result (Unit {0}) Damaged) → verdict page one ≡ Ok tt → verdict page two ≡ Ok tt
    → verdict page three ≡ Err given
    → IsErrAnd result (λ e. e ≡ given) → result ≡ verdict page (one ++ two ++ three ++ four)
third_fails page one two three four given result first second fails same =
    handed_on page (one ++ two ++ three) four given result
    (verdict-append_ok page (one ++ two) three (verdict-append_ok page one two first ∙ second) ∙ fails) same

pub fourth_decides : (page : PageNo) (one two three four : List Check)
    (result : Result (Unit {0}) Damaged) → verdict page one ≡ Ok tt → verdict page two ≡ Ok tt
    → verdict page three ≡ Ok tt → result ≡ verdict page four
    → result ≡ verdict page (one ++ two ++ three ++ four)
fourth_decides page one two three four result first second third rest =
    goes_on page (one ++ two ++ three) four result
    (verdict-append_ok page (one ++ two) three (verdict-append_ok page one two first ∙ second) ∙ third) rest

-- A page passes exactly where it is lawful.

ok_of : (result : Result (Unit {0}) Damaged) → IsOk result → result ≡ Ok tt
ok_of (Ok x) is = refl
ok_of (Err e) is = absurd cc

is_ok : (result : Result (Unit {0}) Damaged) → result ≡ Ok tt → IsOk result
is_ok result e = rw e refl

pub ok_exactly : (page : PageNo) (b : List ℕ) (owner : ℕ) (result : Result (Unit {0}) Damaged)
    → result ≡ verdict page (node_tests b page.0 owner)
    → IsOk result ↔ (PassesAll (node_checks b page.0 owner) × IsNodePage b × HasEnough b)
ok_exactly page b owner result e = (
  λ ok. let parts = passes-split (node_checks b page.0 owner) (content_tests b)
      (passes_from_verdict page (node_tests b page.0 owner) (sym e ∙ ok_of result ok)) in
      let lawful = node_from_tests b parts.1 in (parts.0, lawful.0, lawful.1),
  λ is. is_ok result (e ∙ verdict_from_passes page (node_tests b page.0 owner)
      (passes-append (node_checks b page.0 owner) (content_tests b) is.0
      (tests_from_node b is.1 is.2))),
)
