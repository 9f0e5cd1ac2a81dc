-- Laws of what tests tell, of the first of several, and of the lists of rungs.
use Rattle.std.specs.Prelude.{◌≡◌, ◌↔◌, ◌<◌, ℕ, zero, suc, List, [], ◌∷◌, ◌++◌, Result, Ok, Err}
use Rattle.std.proofs.Common.{refl, sym, ap, ◌∙◌, inl, inr, arith, subst, ◌≤◌}
use Rattle.std.proofs.lemmas.Bool.{cases_lt}
use Rattle.mg_base.specs.declared.damage.Damaged.{Damaged}
use Rattle.mg_findings.specs.declared.finding.Finding.{Finding}
use Rattle.mg_findings.specs.Findings.{Adds, Has, HasNone, IsFirst, IsListOf, OfFirst, Tells, damage_finding}
use Rattle.mg_findings.specs.FindingLaws.{has_append}

-- ---- what tests tell

-- one damage more
adds_damage : (fs : List Finding) (damage : Damaged)
    → Adds fs (fs ++ damage_finding damage ∷ []) (Tells (Err damage))
adds_damage fs damage f = (
  λ has. elim ((has_append fs (damage_finding damage ∷ []) f).0 has) [
    | inl old ↦ inl old
    | inr last ↦ elim last [ inl is ↦ inr is | inr none ↦ absurd none ]
  ],
  λ has. (has_append fs (damage_finding damage ∷ []) f).1 (elim has [
    | inl old ↦ inl old
    | inr is ↦ inr (inl is)
  ]),
)

pub adds_told : (old new : List Finding) (test : Result (Unit {0}) Damaged) (damage : Damaged)
    (f : Finding) → new ≡ old ++ f ∷ [] → f ≡ damage_finding damage → test ≡ Err damage
    → Adds old new (Tells test)
adds_told old new test damage f items is told = rw (items, is, told) (adds_damage old damage)

pub adds_none : (fs : List Finding) → Adds fs fs (Tells (Ok tt))
adds_none fs f = (λ has. inl has, λ has. elim has [ inl old ↦ old | inr none ↦ absurd none ])

-- a test that tells of nothing has passed
pub passed_from_none : (test : Result (Unit {0}) Damaged) → HasNone (Tells test) → test ≡ Ok tt
passed_from_none (Ok _) none = refl
passed_from_none (Err damage) none = absurd (none (damage_finding damage) refl)

pub none_from_passed : (test : Result (Unit {0}) Damaged) → test ≡ Ok tt → HasNone (Tells test)
none_from_passed (Ok _) is f told = told
none_from_passed (Err damage) is f told = absurd cc

-- ---- the first of several tests that tells of something

-- where the tests before one tell of nothing and this one does, it is the first
pub first_told : (tests : ℕ → Result (Unit {0}) Damaged) (count at : ℕ) (damage : Damaged)
    → at < count → ((k : ℕ) → k < at → tests k ≡ Ok tt) → tests at ≡ Err damage → (f : Finding)
    → Tells (Err damage) f ↔ IsFirst tests count f
first_told tests count at damage within before is f = (
  λ told. record { at = at; within = within; told = rw is told; before = before },
  λ first. elim (cases_lt first.at at) [
    | inl less ↦ absurd (none_from_passed (tests first.at) (before first.at less) f first.told)
    | inr some ↦ elim (cases_lt at first.at) [
      | inl more ↦ absurd (let passed = first.before at more in cc)
      | inr most ↦ subst (λ test. Tells test f)
          (ap tests (sym (same first.at at some most)) ∙ is) first.told
    ]
  ],
)
  where
    same : (k at : ℕ) → at ≤ k → k ≤ at → at ≡ k
    same k at some most = omega arith

-- where each tells of nothing, none is
pub none_first : (tests : ℕ → Result (Unit {0}) Damaged) (count : ℕ)
    → ((k : ℕ) → k < count → tests k ≡ Ok tt) → HasNone (IsFirst tests count)
none_first tests count all f first =
    none_from_passed (tests first.at) (all first.at first.within) f first.told

-- where none is the first, each tells of nothing
pub all_from_none : (tests : ℕ → Result (Unit {0}) Damaged) (count : ℕ)
    → HasNone (IsFirst tests count) → (k : ℕ) → k < count → tests k ≡ Ok tt
all_from_none tests count none k below = upto (suc k) (omega (arith, below)) k (omega arith)
  where
    equal : (k end : ℕ) → k < suc end → end ≤ k → end ≡ k
    equal k end below past = omega arith

    last : (end : ℕ) → end < count → ((k : ℕ) → k < end → tests k ≡ Ok tt) → tests end ≡ Ok tt
    last end below all = passed_from_none (tests end) (λ f told. none f (record {
      at = end;
      within = below;
      told = told;
      before = all;
    }))

    upto : (end : ℕ) → end ≤ count → (k : ℕ) → k < end → tests k ≡ Ok tt
    upto zero most k below = absurd (omega (arith, below))
    upto (suc end) most k below = elim (cases_lt k end) [
      | inl less ↦ upto end (omega (arith, most)) k less
      | inr past ↦ subst (λ (n : ℕ). tests n ≡ Ok tt) (equal k end below past)
          (last end (omega (arith, most)) (upto end (omega (arith, most))))
    ]

-- ---- lists of a kind

-- the list of these findings is that of a kind, if they are those of the kind
pub list_as : (P : Finding → Type 0) (gs fs : List Finding) → IsListOf (Has gs) fs
    → ((f : Finding) → Has gs f ↔ P f) → IsListOf P fs
list_as P gs fs list same = record {
  ascend = list.ascend;
  members = λ f. (
    λ has. (same f).0 ((list.members f).0 has),
    λ is. (list.members f).1 ((same f).1 is),
  );
}

-- a list is empty exactly where nothing of the kind is found
pub empty_is_none : (P : Finding → Type 0) (fs : List Finding) → IsListOf P fs
    → (fs ≡ []) ↔ HasNone P
empty_is_none P fs list = (
  λ is. λ f found. subst (λ (gs : List Finding). Has gs f) is ((list.members f).1 found),
  λ none. without fs (λ f has. none f ((list.members f).0 has)),
)
  where
    without : (fs : List Finding) → ((f : Finding) → Has fs f → ⊥) → fs ≡ []
    without [] none = refl
    without (f ∷ fs) none = absurd (none f (inl refl))

-- where a rung has findings, they are all
pub list_of_rung : (P Q : Finding → Type 0) (fs : List Finding) → (fs ≡ [] → ⊥)
    → IsListOf P fs → IsListOf (OfFirst P Q) fs
list_of_rung P Q fs some list = record {
  ascend = list.ascend;
  members = λ f. (
    λ has. inl ((list.members f).0 has),
    λ found. elim found [
      | inl here ↦ (list.members f).1 here
      | inr later ↦ absurd (some ((empty_is_none P fs list).1 later.0))
    ],
  );
}

-- where it has none, they are those of the next rungs
pub list_of_next : (P Q : Finding → Type 0) (fs : List Finding) → HasNone P → IsListOf Q fs
    → IsListOf (OfFirst P Q) fs
list_of_next P Q fs none list = record {
  ascend = list.ascend;
  members = λ f. (
    λ has. inr (none, (list.members f).0 has),
    λ found. elim found [
      | inl here ↦ absurd (none f here)
      | inr later ↦ (list.members f).1 later.1
    ],
  );
}

-- nothing is found of the rungs exactly where nothing is of one, nor of the next ones
pub none_of_rungs : (P Q : Finding → Type 0) → HasNone (OfFirst P Q) ↔ (HasNone P × HasNone Q)
none_of_rungs P Q = (
  λ none. let first = λ (f : Finding) (is : P f). none f (inl is) in
      (first, λ (f : Finding) (is : Q f). none f (inr (first, is))),
  λ both. λ f found. elim found [
    | inl here ↦ both.0 f here
    | inr later ↦ both.1 f later.1
  ],
)
