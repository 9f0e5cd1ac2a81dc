-- How a page is tested: the fields in their order, and the first of them that differs.
use Rattle.std.specs.Prelude.{◌≡◌, ℕ, List, [], ◌∷◌, Result, Ok, Err, ◌==◌, if◌then◌else◌}
use Rattle.mg_base.specs.Fields.{byte, u16_at, u32_at}
use Rattle.mg_base.specs.declared.fields.TheConstants.{KIND_AT, FLAGS_AT, ZERO_AT, OWN_AT, OWNER_AT, SEQUENCE_AT}
use Rattle.mg_base.specs.declared.numbers.PageNo.{PageNo}
use Rattle.mg_base.specs.declared.damage.Damaged.{Damaged}
use Rattle.mg_base.specs.declared.damage.Field.{Field}
use Rattle.mg_base.specs.declared.damage.Field.TheVariants.{Kind, Flags, Zero, Own, Owner, Sequence}

-- a test of a field: which one, what is found there and what is wanted
abbrev pub Check : Type 0
Check = Field × ℕ × ℕ

-- what the tests say of a page, one after another: the first difference, if there is one
abbrev pub verdict : PageNo → List Check → Result (Unit {0}) Damaged
verdict page [] = Ok tt
verdict page (check ∷ checks) = if check.1 == check.2 then verdict page checks
    else Err (record { page = page; field = check.0; found = check.1; wanted = check.2 })

-- the tests of the common part
unfoldable pub common_checks : List ℕ → ℕ → ℕ → ℕ → ℕ → List Check
common_checks b page kind owner seq =
    (Kind, byte b KIND_AT, kind)
    ∷ (Flags, byte b FLAGS_AT, 0)
    ∷ (Zero, u16_at b ZERO_AT, 0)
    ∷ (Own, u32_at b OWN_AT, page)
    ∷ (Owner, u32_at b OWNER_AT, owner)
    ∷ (Sequence, u32_at b SEQUENCE_AT, seq)
    ∷ []

-- each test finds what is wanted
abbrev pub PassesAll : List Check → Type 0
PassesAll [] = Unit {0}
PassesAll (check ∷ checks) = (check.1 ≡ check.2) × PassesAll checks
