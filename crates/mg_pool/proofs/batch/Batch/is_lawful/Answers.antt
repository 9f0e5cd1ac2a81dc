use Rattle.std.proofs.Common.{rules, arith, ◌<◌, ◌≤◌, false, length}
use Rattle.mg_pool.specs.declared.batch.TheConstants.{BATCH_PAGES}
use Rattle.mg_pool.specs.Batch.{IsLawful}
use Rattle.mg_pool.specs.Lawful.{AreLong, HasLater}
use Rattle.mg_pool.proofs.LawfulLemmas.{lawful_from, lawful_view, long_from, not_lawful}
use Rattle.mg_pool.proofs.batch.Batch.is_lawful.Goals.{then-len-gt-BATCH_PAGES-via-then-len-gt-BATCH_PAGES, then-len-gt-BATCH_PAGES-via-else-len-gt-BATCH_PAGES+then-not-are_long}
use Rattle.mg_pool.proofs.batch.Batch.is_lawful.Goals as goal

pub returns-then-has_each_later : goal.returns-then-has_each_later
returns-then-has_each_later c =
    let few : length c.self.inside.pages.items ≤ BATCH_PAGES = (search rules) in
    let long : AreLong c.args.size c.self.inside.pages.items = (search rules) in
    let later : HasLater c.self.inside.pages.items c.self.inside.orders.items = (search rules) in
    lawful_view c.args.size _ _ c.has_no_cycle.result c.self.view_is (
      λ is. lawful_from c.args.size c.self.inside.pages.items c.self.inside.orders.items few long later (c.has_no_cycle.ensures.0 is),
      λ lawful. c.has_no_cycle.ensures.1 lawful.acyclic,
    )

pub returns-then-len-gt-BATCH_PAGES : goal.returns-then-len-gt-BATCH_PAGES
returns-then-len-gt-BATCH_PAGES c =
    lawful_view c.args.size _ _ false c.self.view_is (not_lawful (IsLawful c.args.size c.self.inside.pages.items c.self.inside.orders.items) (elim c.then-len-gt-BATCH_PAGES.branch [
      | then-len-gt-BATCH_PAGES-via-then-len-gt-BATCH_PAGES w ↦ λ lawful.
          let many : BATCH_PAGES < length c.self.inside.pages.items = (search rules) in
          omega (arith, many, lawful.few)
      | then-len-gt-BATCH_PAGES-via-else-len-gt-BATCH_PAGES+then-not-are_long w ↦ λ lawful.
          let short : AreLong c.args.size c.self.inside.pages.items → ⊥ = (search rules) in
          short (long_from c.args.size c.self.inside.pages.items c.self.inside.orders.items c.self.invariant lawful)
    ]))
