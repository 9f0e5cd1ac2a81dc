-- Each plain text has a packed text: the one that the writer's runs make.
use Rattle.std.proofs.Common.{◌≡◌, ℕ, zero, suc, ◌+◌, ◌-◌, ◌<◌, ◌≤◌, List, [], ◌∷◌, ◌++◌, length, drop, refl, sym, ap, subst, ◌∙◌, arith, ◌⊎◌, inl, inr, below_more}
use Rattle.std.proofs.lemmas.Bool.{cases_lt, cases_eq}
use Rattle.std.proofs.lemmas.List.{length-drop}
use Rattle.mg_base.specs.Fields.{byte}
use Rattle.mg_rle.specs.Runs.{Run, TripleAt, IsAccepted, StandsFor, plain_of_run, packed_text, plain_text}
use Rattle.mg_rle.specs.Writing.{IsFirstRun, IsFrontRepeat, IsFrontLiteral, PutsRun}
use Rattle.mg_rle.proofs.WritingLemmas.{accepted_first, puts_repeat, puts_literal, nothing_accepted}

triple_or_not : (bytes : List ℕ) (at : ℕ) → TripleAt bytes at ⊎ (TripleAt bytes at → ⊥)
triple_or_not bytes at =
    elim (cases_lt (at + 2) (length bytes)) [
      | inl lt ↦ elim (cases_eq (byte bytes (at + 1)) (byte bytes at)) [
        | inl second ↦ elim (cases_eq (byte bytes (at + 2)) (byte bytes at)) [
          | inl third ↦ inl (record { inside = lt; second = second; third = third })
          | inr not ↦ inr (λ t. not t.third)
        ]
        | inr not ↦ inr (λ t. not t.second)
      ]
      | inr le ↦ inr (λ t. let inside : at + 2 < length bytes = t.inside in omega arith)
    ]

find_repeat : (left count : ℕ) (plain : List ℕ) → count + left ≡ 128 → 0 < count → count ≤ length plain → ((at : ℕ) → at < count → byte plain at ≡ byte plain 0) → (n : ℕ) × IsFrontRepeat plain n
find_repeat zero count plain e some inside same = (count, record { some = some; inside = inside; most = omega arith; same = same; ended = λ lt more. absurd (omega arith) })
find_repeat (suc left) count plain e some inside same =
    elim (cases_lt count (length plain)) [
      | inl lt ↦ elim (cases_eq (byte plain count) (byte plain 0)) [
        | inl equal ↦ find_repeat left (count + 1) plain (omega arith) (omega arith) (omega arith) (below_more _ _ same equal)
        | inr not ↦ (count, record { some = some; inside = inside; most = omega arith; same = same; ended = λ lt' more. not })
      ]
      | inr le ↦ (count, record { some = some; inside = inside; most = omega arith; same = same; ended = λ lt' more. absurd (omega arith) })
    ]

find_literal : (left count : ℕ) (plain : List ℕ) → count + left ≡ 127 → count ≤ length plain → ((at : ℕ) → at < count → TripleAt plain at → ⊥) → (n : ℕ) × IsFrontLiteral plain n
find_literal zero count plain e inside free = (count, record { inside = inside; most = omega arith; no_triple = free; ended = λ lt more. absurd (omega arith) })
find_literal (suc left) count plain e inside free =
    elim (cases_lt count (length plain)) [
      | inl lt ↦ elim (triple_or_not plain count) [
        | inl triple ↦ (count, record { inside = inside; most = omega arith; no_triple = free; ended = λ lt' more. triple })
        | inr not ↦ find_literal left (count + 1) plain (omega arith) (omega arith) (below_more _ _ free not)
      ]
      | inr le ↦ (count, record { inside = inside; most = omega arith; no_triple = free; ended = λ lt' more. absurd (omega arith) })
    ]

first_run : (plain : List ℕ) → 0 < length plain → (new : List ℕ) × (count : ℕ) × PutsRun [] new plain count
first_run plain some =
    elim (triple_or_not plain 0) [
      | inl triple ↦ (
          let found = find_repeat 127 1 plain refl (omega arith) (omega arith) (λ at lt. ap (byte plain) (omega arith)) in
          ((256 - found.0) ∷ byte plain 0 ∷ [], found.0, puts_repeat [] ((256 - found.0) ∷ []) ((256 - found.0) ∷ byte plain 0 ∷ []) plain found.0 triple found.1 refl refl))
      | inr not ↦ (
          let found = find_literal 127 0 plain refl (omega arith) (λ at lt. absurd (omega arith)) in
          (_, found.0, puts_literal [] (found.0 ∷ []) _ plain found.0 some not found.1 refl refl))
    ]

runs_of : (most : ℕ) (plain : List ℕ) → length plain ≤ most → (runs : List Run) × IsAccepted runs × (plain_text runs ≡ plain)
runs_of zero [] le = ([], nothing_accepted, refl)
runs_of zero (x ∷ xs) le = absurd (omega arith)
runs_of (suc most) [] le = ([], nothing_accepted, refl)
runs_of (suc most) (x ∷ xs) le =
    let first = first_run (x ∷ xs) (omega arith) in
    let puts = first.2 in
    let some : 0 < first.1 = puts.some in
    let later = runs_of most (drop first.1 (x ∷ xs)) (omega (arith, length-drop first.1 (x ∷ xs))) in
    (puts.run ∷ later.0, accepted_first puts.run later.0 later.1 (subst (IsFirstRun puts.run) (sym later.2) puts.first), ap (λ (t : List ℕ). plain_of_run puts.run ++ t) later.2 ∙ sym puts.front)

pub some_packed_text : (plain : List ℕ) → (packed : List ℕ) × StandsFor packed plain
some_packed_text plain =
    let found = runs_of (length plain) plain (omega arith) in
    (packed_text found.0, record { runs = found.0; accepted = found.1; spelled = refl; means = sym found.2 })
