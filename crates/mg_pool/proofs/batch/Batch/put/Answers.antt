use Rattle.std.proofs.Common.{sym, ap, refl}
use Rattle.mg_pool.specs.Batch.{Changed}
use Rattle.mg_pool.proofs.BatchLemmas.{once-set, once-push, no_content, puts_again, puts_new, no_page}
use Rattle.mg_pool.proofs.batch.Batch.put.Goals as goal

pub invariant_of-self : goal.invariant_of-self
invariant_of-self c = once-set c.self.inside.pages.items c.in-Some.place (record { page = c.args.page.0; bytes = c.in_ok-content.content }) no_page c.self.invariant (c.in-Some.ensures.found.1 no_page)

pub returns-in-Some-clause-puts : goal.returns-in-Some-clause-puts
returns-in-Some-clause-puts c =
    rw (← c.in_ok-content.ensures) (puts_again c.self.inside.pages.items c.in-Some.place (record { page = c.args.page.0; bytes = c.in_ok-content.content }) no_page c.args.self.now _ (sym (ap (λ (b : Changed). b.pages) c.self.view_is)) refl (ap (λ (b : Changed). b.orders) c.self.view_is) c.in-Some.ensures.found.0 (c.in-Some.ensures.found.1 no_page) c.in-Some.ensures.first)

pub invariant_of-self-2 : goal.invariant_of-self-2
invariant_of-self-2 c =
    rw c.in_ok-push.ensures.items (once-push c.self.inside.pages.items (record { page = c.args.page.0; bytes = c.in_ok-content.content }) c.self.invariant (no_content c.self.inside.pages.items c.args.page.0 c.in_default.ensures.absent))

pub returns-clause-puts : goal.returns-clause-puts
returns-clause-puts c =
    rw (← c.in_ok-content.ensures) (puts_new c.self.inside.pages.items (record { page = c.args.page.0; bytes = c.in_ok-content.content }) c.args.self.now _ (sym (ap (λ (b : Changed). b.pages) c.self.view_is)) c.in_ok-push.ensures.items (ap (λ (b : Changed). b.orders) c.self.view_is) (no_content c.self.inside.pages.items c.args.page.0 c.in_default.ensures.absent))
