use Rattle.std.proofs.Common.{refl, arith, rules}
use Rattle.mg_reading.proofs.CellLemmas.{has_at, none_more}
use Rattle.mg_reading.proofs.versions.has_page.Goals as goal

pub returns-then-page-n : goal.returns-then-page-n
returns-then-page-n c =
    (λ yes_. has_at c.args.pages.now c.loop-page.page-index c.args.n (omega arith) c.if-page-n.true, λ has. refl)

pub loop-page-preserved : goal.loop-page-preserved
loop-page-preserved c = none_more c.args.pages.now c.loop-page.page-index c.args.n (omega arith)
    c.loop-page.invariant (search rules)
