use Rattle.std.proofs.Common.{refl}
use Rattle.mg_layout.specs.Standing.{layout_in}
use Rattle.mg_soundness.proofs.LadderLemmas.{once_first}
use Rattle.mg_soundness.proofs.check.check_pages.Goals as goal

pub returns-then-not-branch-clause-broken : goal.returns-then-not-branch-clause-broken
returns-then-not-branch-clause-broken c = once_first c.args.coding c.args.image.now
    (layout_in c.in_ok-standing.standing) (c.if-not-has_header.ensures.0 refl)
    (c.if-not-has_transactions.ensures.0 refl) c.in_ok-standing.ensures.pages
    c.in_ok-standing.ensures.only (λ once. absurd (let passed =
    c.in_ok-are_pages_once.ensures.1 once in let failed = c.if-not-branch.true in cc))
