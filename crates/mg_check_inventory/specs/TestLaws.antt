-- Laws of tests in a row: what they tell of, and which pass.
use Rattle.std.specs.Prelude.{◌≡◌, ◌↔◌, ◌<◌, ◌≤◌, ℕ, Bool, true, false, List, [], ◌∷◌, ◌++◌, Result, Ok, Err, IsErr, IsErrAnd, OnOk}
use Rattle.std.proofs.Common.{refl, sym, ap, ◌∙◌, inl, inr, arith, subst}
use Rattle.mg_base.specs.Checks.{Check, PassesAll, verdict}
use Rattle.mg_base.specs.CheckLaws.{passes_from_verdict, verdict-append_err, verdict-append_ok, verdict_from_passes}
use Rattle.mg_base.specs.declared.damage.Damaged.{Damaged}
use Rattle.mg_base.specs.declared.numbers.PageNo.{PageNo}
use Rattle.mg_findings.specs.declared.finding.Finding.{Finding}
use Rattle.mg_findings.specs.Findings.{HasNone, OfFirst, Tells, damage_finding}
use Rattle.mg_findings.specs.RungLaws.{none_from_passed, passed_from_none}
use Rattle.mg_check_inventory.specs.ImagePages.{bit_number, numbered, presence_checks}

-- where a test tells of what is found first, that is all
pub first_found : (P Q : Finding → Type 0) (test : Result (Unit {0}) Damaged) (damage : Damaged)
    → test ≡ Err damage → ((f : Finding) → Tells test f ↔ P f) → (f : Finding)
    → Tells (Err damage) f ↔ OfFirst P Q f
first_found P Q test damage is same f = (
  λ told. inl ((same f).0 (rw is told)),
  λ found. elim found [
    | inl here ↦ rw is at ((same f).1 here)
    | inr later ↦ absurd (later.0 (damage_finding damage)
        ((same (damage_finding damage)).0 (rw is refl)))
  ],
)

-- where it tells of nothing, what is found is what is found next
pub next_found : (P Q R : Finding → Type 0) → HasNone P → ((f : Finding) → R f ↔ Q f)
    → (f : Finding) → R f ↔ OfFirst P Q f
next_found P Q R none same f = (
  λ is. inr (none, (same f).0 is),
  λ found. elim found [
    | inl here ↦ absurd (none f here)
    | inr later ↦ (same f).1 later.1
  ],
)

-- a passed test of a kind leaves nothing of the kind
pub none_where_passed : (P : Finding → Type 0) (test : Result (Unit {0}) Damaged) → test ≡ Ok tt
    → ((f : Finding) → Tells test f ↔ P f) → HasNone P
none_where_passed P test is same f found = none_from_passed test is f ((same f).1 found)

-- a test that tells of something tells of something of its kind
pub some_told : (P : Finding → Type 0) (test : Result (Unit {0}) Damaged) → IsErr test
    → ((f : Finding) → Tells test f ↔ P f) → HasNone P → ⊥
some_told P (Ok _) failed same none = absurd cc
some_told P (Err damage) failed same none =
    none (damage_finding damage) ((same (damage_finding damage)).0 refl)

-- tests that tell of nothing find what is wanted
pub passes_where_none : (page : PageNo) (checks : List Check)
    → HasNone (Tells (verdict page checks)) → PassesAll checks
passes_where_none page checks none =
    passes_from_verdict page checks (passed_from_none (verdict page checks) none)

pub none_where_passes : (page : PageNo) (checks : List Check) → PassesAll checks
    → HasNone (Tells (verdict page checks))
none_where_passes page checks passes =
    none_from_passed (verdict page checks) (verdict_from_passes page checks passes)

-- tests one after the other pass where both do
pub passes_parts : (first others : List Check) → PassesAll (first ++ others)
    → PassesAll first × PassesAll others
passes_parts [] others passes = (tt, passes)
passes_parts (check ∷ checks) others passes =
    let rest = passes_parts checks others passes.1 in ((passes.0, rest.0), rest.1)

-- the number of a bit that is set
pub bit_is_set : (bit : Bool) → bit_number bit ≡ 1 → bit ≡ true
bit_is_set true is = refl
bit_is_set false is = absurd (omega (arith, is))

pub set_is_one : (bit : Bool) → bit ≡ true → bit_number bit ≡ 1
set_is_one bit is = rw is refl

-- equal tests tell of the same
pub tells_same : (a b : Result (Unit {0}) Damaged) → a ≡ b → (f : Finding) → Tells a f ↔ Tells b f
tells_same a b is f = (
  λ told. subst (λ (t : Result (Unit {0}) Damaged). Tells t f) is told,
  λ told. subst (λ (t : Result (Unit {0}) Damaged). Tells t f) (sym is) told,
)

-- a damage that is handed on
pub handed_on : (result : Result (Unit {0}) Damaged) (damage : Damaged)
    → IsErrAnd result (λ d. d ≡ damage) → result ≡ Err damage
handed_on (Ok _) damage is = absurd is
handed_on (Err d) damage is = ap (λ (x : Damaged). Err x) is

-- where a test tells of what is found first, and its damage is handed on
pub first_handed : (P Q : Finding → Type 0) (test result : Result (Unit {0}) Damaged) (damage : Damaged)
    → test ≡ Err damage → IsErrAnd result (λ d. d ≡ damage) → ((f : Finding) → Tells test f ↔ P f)
    → (f : Finding) → Tells result f ↔ OfFirst P Q f
first_handed P Q test result damage is handed same f =
    subst (λ (t : Result (Unit {0}) Damaged). Tells t f ↔ OfFirst P Q f)
    (sym (handed_on result damage handed)) (first_found P Q test damage is same f)

-- where it tells of nothing, and the next test of what is found next
pub next_told : (P Q : Finding → Type 0) (test : Result (Unit {0}) Damaged) (R : Finding → Type 0)
    → test ≡ Ok tt → ((f : Finding) → Tells test f ↔ P f) → ((f : Finding) → R f ↔ Q f)
    → (f : Finding) → R f ↔ OfFirst P Q f
next_told P Q test R is same next = next_found P Q R (none_where_passed P test is same) next

-- tests in a row, of which the first names a damage,
pub append_handed : (n : ℕ) (b here : List ℕ) (checks : List ℕ → List Check) (others : List Check)
    (test result : Result (Unit {0}) Damaged) (damage : Damaged) → b ≡ here
    → test ≡ verdict (numbered n) (checks b) → test ≡ Err damage → result ≡ Err damage
    → result ≡ verdict (numbered n) (checks here ++ others)
append_handed n b here checks others test result damage same is told handed =
    handed ∙ sym (verdict-append_err (numbered n) (checks here) others damage
    (ap (λ (p : List ℕ). verdict (numbered n) (checks p)) (sym same) ∙ (sym is ∙ told)))

-- or none
pub append_next : (n : ℕ) (b here : List ℕ) (checks : List ℕ → List Check) (others : List Check)
    (test result : Result (Unit {0}) Damaged) → b ≡ here → test ≡ verdict (numbered n) (checks b)
    → test ≡ Ok tt → result ≡ verdict (numbered n) others
    → result ≡ verdict (numbered n) (checks here ++ others)
append_next n b here checks others test result same is passed next =
    next ∙ sym (verdict-append_ok (numbered n) (checks here) others
    (ap (λ (p : List ℕ). verdict (numbered n) (checks p)) (sym same) ∙ (sym is ∙ passed)))

-- a page that is absent
pub absent_found : (Q : Finding → Type 0) (count n : ℕ) (test : Result (Unit {0}) Damaged)
    → count ≤ n → test ≡ verdict (numbered n) (presence_checks count n) → OnOk test (n < count)
    → (f : Finding)
    → Tells test f ↔ OfFirst (Tells (verdict (numbered n) (presence_checks count n))) Q f
absent_found Q count n (Ok _) past is there = absurd (omega (arith, past, there))
absent_found Q count n (Err damage) past is there =
    first_found (Tells (verdict (numbered n) (presence_checks count n))) Q (Err damage) damage refl
    (tells_same (Err damage) (verdict (numbered n) (presence_checks count n)) is)

-- and one that is there
pub there_found : (Q : Finding → Type 0) (count n : ℕ) (test : Result (Unit {0}) Damaged)
    → n < count → ((f : Finding) → Tells test f ↔ Q f) → (f : Finding)
    → Tells test f ↔ OfFirst (Tells (verdict (numbered n) (presence_checks count n))) Q f
there_found Q count n test inside tells = next_told
    (Tells (verdict (numbered n) (presence_checks count n))) Q
    (verdict (numbered n) (presence_checks count n)) (Tells test)
    (verdict_from_passes (numbered n) (presence_checks count n) (omega (arith, inside), tt))
    (tells_same (verdict (numbered n) (presence_checks count n))
    (verdict (numbered n) (presence_checks count n)) refl) tells
