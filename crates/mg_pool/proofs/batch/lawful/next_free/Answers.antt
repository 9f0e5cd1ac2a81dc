use Rattle.std.proofs.Common.{◌≡◌, ◌∙◌, ℕ, false, length, get_or}
use Rattle.mg_pool.specs.Lawful.{page_in, IsFree}
use Rattle.mg_pool.proofs.PlaceLemmas.{inside, not_both, outside, page_read, place_all, place_more, refuted, tested}
use Rattle.mg_pool.proofs.batch.lawful.next_free.Goals.{else-not-marks-place-via-then-not-marks-place+else-is_free, else-not-marks-place-via-else-not-marks-place}
use Rattle.mg_pool.proofs.batch.lawful.next_free.Goals as goal

pub loop-place-preserved : goal.loop-place-preserved
loop-place-preserved c = place_more (λ (i : ℕ). get_or c.args.marks.now i false ≡ false
    → IsFree c.args.pages.now.items c.args.orders.now.items c.args.marks.now (page_in c.args.pages.now.items i) → ⊥)
    c.loop-place.place c.loop-place.invariant
    (elim c.else-not-marks-place.branch [
      | else-not-marks-place-via-then-not-marks-place+else-is_free w ↦ λ blank free. refuted w.is_free.result
          (λ (p : ℕ). IsFree c.args.pages.now.items c.args.orders.now.items c.args.marks.now p) _ _
          (page_read c.args.pages.now.items c.loop-place.place w.index.result.now
          (inside c.loop-place.place c.len-place-end.result _ c.loop-place-test.true
          (c.len-place-end.ensures ∙ c.args.pages.now.ok.0)) w.index.ensures)
          w.is_free.ensures w.if-is_free.false free
      | else-not-marks-place-via-else-not-marks-place w ↦ λ blank free.
          not_both _ ⊥ w.if-not-marks-place.false blank
    ])

pub returns-clause-none : goal.returns-clause-none
returns-clause-none c = place_all (λ (i : ℕ). get_or c.args.marks.now i false ≡ false
    → IsFree c.args.pages.now.items c.args.orders.now.items c.args.marks.now (page_in c.args.pages.now.items i) → ⊥)
    c.loop-place.place (length c.args.pages.now.items) c.loop-place.invariant
    (outside c.loop-place.place c.len-place-end.result _ c.loop-place-test.false
    (c.len-place-end.ensures ∙ c.args.pages.now.ok.0))

pub returns-then-is_free-clause-some : goal.returns-then-is_free-clause-some
returns-then-is_free-clause-some c =
    let below = inside c.loop-place.place c.len-place-end.result (length c.args.pages.now.items)
    c.loop-place-test.true (c.len-place-end.ensures ∙ c.args.pages.now.ok.0) in (
      below,
      c.if-not-marks-place.true,
      tested c.is_free.result
          (λ (p : ℕ). IsFree c.args.pages.now.items c.args.orders.now.items c.args.marks.now p) _ _
          (page_read c.args.pages.now.items c.loop-place.place c.index.result.now below c.index.ensures)
          c.is_free.ensures c.if-is_free.true,
    )
