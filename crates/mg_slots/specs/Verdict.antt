-- What a test of the common part of a page answers.
use Rattle.std.specs.Prelude.{ℕ, List, Result}
use Rattle.mg_base.specs.Checks.{verdict, common_checks}
use Rattle.mg_base.specs.declared.damage.Damaged.{Damaged}
use Rattle.mg_base.specs.declared.damage.Field.{Field}
use Rattle.mg_base.specs.declared.numbers.PageNo.{PageNo}

-- a page is damaged in a field
abbrev pub damage : PageNo → Field → ℕ → ℕ → Damaged
damage page field found wanted =
    record { page = page; field = field; found = found; wanted = wanted }

-- what a test of the common part answers
abbrev pub common_verdict : List ℕ → PageNo → ℕ → ℕ → ℕ → Result (Unit {0}) Damaged
common_verdict b page kind owner seq = verdict page (common_checks b page.0 kind owner seq)
