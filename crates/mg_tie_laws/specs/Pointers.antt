-- The tests of a pointer page: a new one passes them, one with an entry more does, and one that names
-- another next page.
use Rattle.std.proofs.Common.{◌≡◌, sym, subst, arith, ℕ, List, ◌∷◌, ◌++◌, [], length}
use Rattle.std.specs.Prelude.{min, take}
use Rattle.mg_base.specs.CheckLaws.{front_checks, passes-append}
use Rattle.mg_base.specs.Checks.{Check, PassesAll, common_checks}
use Rattle.mg_base.specs.Fields.{byte, u16_at}
use Rattle.mg_base.specs.declared.fields.TheConstants.{COMMON}
use Rattle.mg_pointer.specs.PointerPage.{AddsEntry, IsPointerPage, SetsNext, capacity, count_in, pointer_checks, rest_checks}
use Rattle.mg_pointer.specs.declared.page.TheConstants.{POINTER_KIND}

passes_front : (first others : List Check) → PassesAll (first ++ others) → PassesAll first
passes_front [] others passes = tt
passes_front (check ∷ checks) others passes = (passes.0, passes_front checks others passes.1)

passes_behind : (first others : List Check) → PassesAll (first ++ others) → PassesAll others
passes_behind [] others passes = passes
passes_behind (check ∷ checks) others passes = passes_behind checks others passes.1

-- a page with the same first bytes, whose count has room, and with the same unused bytes
pub still_passes : (old new : List ℕ) (page owner seq : ℕ) → take COMMON new ≡ take COMMON old
    → IsPointerPage new → byte new 22 ≡ byte old 22 → byte new 23 ≡ byte old 23
    → PassesAll (pointer_checks old page owner seq) → PassesAll (pointer_checks new page owner seq)
unfolding pointer_checks
still_passes old new page owner seq front lawful low high passes =
    passes-append (common_checks new page POINTER_KIND owner seq) (rest_checks new)
    (subst PassesAll (sym (front_checks new old page POINTER_KIND owner seq front))
    (passes_front (common_checks old page POINTER_KIND owner seq) (rest_checks old) passes))
    (count_fits, (unused, tt))
  where
    rest : PassesAll (rest_checks old)
    rest = passes_behind (common_checks old page POINTER_KIND owner seq) (rest_checks old) passes

    count_fits : count_in new ≡ min (count_in new) (capacity (length new))
    count_fits = let count = lawful.count in omega (arith, count)

    unused : u16_at new 22 ≡ 0
    unused = let was : u16_at old 22 ≡ 0 = rest.1.0 in omega (arith, was, low, high)

pub entry_passes : (old new : List ℕ) (entry page owner seq : ℕ) → AddsEntry old new entry
    → PassesAll (pointer_checks old page owner seq) → PassesAll (pointer_checks new page owner seq)
entry_passes old new entry page owner seq adds = still_passes old new page owner seq adds.front adds.page
    (adds.outside 22 (λ past. omega (arith, past)) (λ past. omega (arith, past)))
    (adds.outside 23 (λ past. omega (arith, past)) (λ past. omega (arith, past)))

pub next_passes : (old new : List ℕ) (next page owner seq : ℕ) → SetsNext old new next
    → PassesAll (pointer_checks old page owner seq) → PassesAll (pointer_checks new page owner seq)
next_passes old new next page owner seq sets = still_passes old new page owner seq sets.front sets.page
    (sets.outside 22 (λ past. omega (arith, past))) (sets.outside 23 (λ past. omega (arith, past)))
