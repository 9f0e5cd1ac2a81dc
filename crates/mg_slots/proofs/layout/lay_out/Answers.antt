use Rattle.std.proofs.Common.{◌≡◌, ◌+◌, ◌≤◌, arith, ap, ◌∙◌, subst, ℕ, List, Option}
use Rattle.std.specs.Option.{option_copied}
use Rattle.mg_slots.specs.DataPage.{cell_of, taken_below, taken_by}
use Rattle.mg_slots.specs.Layout.{PlacesBelow, with_cell}
use Rattle.mg_slots.specs.TakenLaws.{taken_below_mono, taken_below_more}
use Rattle.mg_slots.proofs.LaidLemmas.{laid_more, placed_front}
use Rattle.mg_slots.proofs.layout.lay_out.Goals as goal

pub place_below-low-requires-clause-after_slot : goal.place_below-low-requires-clause-after_slot
place_below-low-requires-clause-after_slot c =
    let cells = with_cell (cell_of c.args.old.now) c.args.slot (option_copied c.args.new_cell) in
    omega (
      arith,
      taken_below_more cells c.loop-at.at,
      taken_below_mono cells
          (c.loop-at.at + 1) c.args.count
          (omega arith),
      ap taken_by c.wanted-bytes.ensures,
      c.loop-at.invariant.low,
    )

pub loop-at-preserved : goal.loop-at-preserved
loop-at-preserved c =
    let cells = with_cell (cell_of c.args.old.now) c.args.slot (option_copied c.args.new_cell) in
    let more : taken_below cells (c.loop-at.at + 1) ≡ taken_below cells c.loop-at.at + taken_by
    (cells c.loop-at.at) = taken_below_more cells c.loop-at.at in
    let within : taken_below cells (c.loop-at.at + 1) ≤ taken_below cells c.args.count =
    taken_below_mono cells (c.loop-at.at + 1) c.args.count (omega arith) in
    let placed : PlacesBelow c.loop-at.b c.place_below-low.new.b c.loop-at.at c.loop-at.low
    (cells c.loop-at.at) =
    (let P : Option (List ℕ) → Type 0 = λ o. PlacesBelow c.loop-at.b c.place_below-low.new.b
    c.loop-at.at c.loop-at.low o in subst P c.wanted-bytes.ensures
    c.place_below-low.ensures.placed) in
    record {
      laid = laid_more c.loop-at.b c.place_below-low.new.b cells c.loop-at.at c.loop-at.low (omega
          (arith, c.loop-at.auto.b)) c.loop-at.invariant.low c.loop-at.invariant.laid placed;
      low = omega (
        arith,
        c.place_below-low.ensures.low,
        ap taken_by c.wanted-bytes.ensures,
        c.loop-at.invariant.low,
        c.place_below-low.auto.b,
      );
      front = λ k lt. placed_front c.loop-at.b c.place_below-low.new.b c.loop-at.at c.loop-at.low
          (cells c.loop-at.at) (omega
          (arith, c.loop-at.invariant.low, c.loop-at.auto.b)) placed k lt
          ∙ c.loop-at.invariant.front k lt;
    }
