use Rattle.std.proofs.Common.{◌∙◌, ap, sym, not, length}
use Rattle.mg_pool.specs.declared.batch.BatchPage.{BatchPage}
use Rattle.mg_pool.specs.Dirty.{is_dirty}
use Rattle.mg_pool.proofs.PlaceLemmas.{counted_all, counted_more, counted_same, inside, outside}
use Rattle.mg_pool.proofs.pool.Pool.dirty_with.Goals.{then-not-is_dirty, else-not-is_dirty}
use Rattle.mg_pool.proofs.pool.Pool.dirty_with.Goals as goal

pub loop-place-preserved : goal.loop-place-preserved
loop-place-preserved g c =
    let below = inside c.loop-place.place c.len-place-end.result (length c.args.pages.now.items)
    c.loop-place-test.true (c.len-place-end.ensures ∙ c.args.pages.now.ok.0) in
    let same = ap (λ (x : BatchPage). not (is_dirty c.args.self.now.dirty x.page)) (sym c.index.ensures)
    ∙ ap not (sym c.is_dirty.ensures) in
    elim c.if-not-is_dirty.branch [
      | then-not-is_dirty w ↦ w.count-is ∙ counted_more
          (λ (x : BatchPage). not (is_dirty c.args.self.now.dirty x.page)) c.args.pages.now.items c.loop-place.place
          (length c.args.self.now.dirty.pages) c.loop-place.count c.index.result.now below c.loop-place.invariant
          (same ∙ ap not w.if-not-is_dirty.true)
      | else-not-is_dirty w ↦ w.count-is ∙ counted_same
          (λ (x : BatchPage). not (is_dirty c.args.self.now.dirty x.page)) c.args.pages.now.items c.loop-place.place
          (length c.args.self.now.dirty.pages) c.loop-place.count c.index.result.now below c.loop-place.invariant
          (same ∙ ap not w.if-not-is_dirty.false)
    ]

pub returns : goal.returns
returns g c = counted_all (λ (x : BatchPage). not (is_dirty c.args.self.now.dirty x.page))
    c.args.pages.now.items c.loop-place.place (length c.args.self.now.dirty.pages) c.loop-place.count
    (outside c.loop-place.place c.len-place-end.result _ c.loop-place-test.false
    (c.len-place-end.ensures ∙ c.args.pages.now.ok.0)) c.loop-place.invariant
