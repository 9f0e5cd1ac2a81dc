-- Pages with the same common part are judged alike, and a new page passes.
use Rattle.std.proofs.Common.{◌≡◌, ℕ, ◌^◌, ◌<◌, ◌≤◌, List, take, ap, Ok}
use Rattle.mg_base.specs.Checks.{verdict}
use Rattle.mg_base.specs.CheckLaws.{front_checks, new_passes, verdict_from_passes}
use Rattle.mg_base.specs.Fields.{new_page}
use Rattle.mg_base.specs.declared.fields.TheConstants.{COMMON}
use Rattle.mg_base.specs.declared.numbers.PageNo.{PageNo}
use Rattle.mg_slots.specs.Verdict.{common_verdict}

-- the common part alone is judged
pub same_common : (old new : List ℕ) (page : PageNo) (kind owner seq : ℕ)
    → take COMMON new ≡ take COMMON old
    → common_verdict new page kind owner seq ≡ common_verdict old page kind owner seq
same_common old new page kind owner seq same =
    ap (λ checks. verdict page checks) (front_checks new old page.0 kind owner seq same)

-- a new page passes
pub new_page_passes : (size : ℕ) (page : PageNo) (kind owner seq : ℕ) → COMMON ≤ size
    → page.0 < 2 ^ 32 → owner < 2 ^ 32 → seq < 2 ^ 32
    → common_verdict (new_page size page.0 kind owner seq) page kind owner seq ≡ Ok tt
new_page_passes size page kind owner seq long small_page small_owner small_seq =
    verdict_from_passes page _
    (new_passes size page.0 kind owner seq long small_page small_owner small_seq)
