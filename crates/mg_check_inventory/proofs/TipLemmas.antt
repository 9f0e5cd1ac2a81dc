-- What the tests of a transaction inventory page tell, one after another.
use Rattle.std.specs.Prelude.{◌≡◌, ◌↔◌, ℕ, List, Result, length}
use Rattle.std.proofs.Common.{ap, ◌∙◌, subst}
use Rattle.mg_base.specs.Checks.{verdict}
use Rattle.mg_base.specs.declared.damage.Damaged.{Damaged}
use Rattle.mg_check_pages.specs.PageTests.{undrawn_test}
use Rattle.mg_findings.specs.declared.finding.Finding.{Finding}
use Rattle.mg_findings.specs.Findings.{IsFirst, Tells}
use Rattle.mg_image.specs.Form.{Pages}
use Rattle.mg_tip.specs.TipPage.{places, tip_checks}
use Rattle.mg_check_inventory.specs.ImagePages.{numbered}
use Rattle.mg_check_inventory.specs.TestLaws.{tells_same}

-- what the test of the numbers that are not drawn tells
pub undrawn_tells : (size n from : ℕ) (pages : Pages) (b : List ℕ) (test : Result (Unit {0}) Damaged)
    → b ≡ pages n → length (pages n) ≡ size
    → ((f : Finding) → Tells test f
    ↔ IsFirst (undrawn_test b (numbered n) from) (places (length b)) f) → (f : Finding)
    → Tells test f ↔ IsFirst (undrawn_test (pages n) (numbered n) from) (places size) f
undrawn_tells size n from pages b test same long tells f =
    subst (λ (k : ℕ). Tells test f
    ↔ IsFirst (undrawn_test (pages n) (numbered n) from) (places k) f) long
    (subst (λ (p : List ℕ). Tells test f
    ↔ IsFirst (undrawn_test p (numbered n) from) (places (length p)) f) same (tells f))

-- what the test of the fields tells
pub tip_tells : (n sequence : ℕ) (pages : Pages) (b : List ℕ) (test : Result (Unit {0}) Damaged)
    → b ≡ pages n → test ≡ verdict (numbered n) (tip_checks b n sequence) → (f : Finding)
    → Tells test f ↔ Tells (verdict (numbered n) (tip_checks (pages n) n sequence)) f
tip_tells n sequence pages b test same is = tells_same test
    (verdict (numbered n) (tip_checks (pages n) n sequence))
    (is ∙ ap (λ (p : List ℕ). verdict (numbered n) (tip_checks p n sequence)) same)
