use Rattle.std.proofs.Common.{false, ◌≡◌, ◌+◌, ◌-◌, ◌%◌, ap, ◌∙◌, arith, ℕ}
use Rattle.mg_base.specs.Fields.{u16_at}
use Rattle.mg_node.specs.NodePage.{key_len}
use Rattle.mg_node.specs.NodeTestLaws.{high_at-from}
use Rattle.mg_node.specs.NodeWalkLaws.{end_of-least}
use Rattle.mg_node_writing.proofs.SeatLemmas.{high_first}
use Rattle.mg_node_writing.proofs.SplitLemmas.{keeps_lower}
use Rattle.mg_node_writing.proofs.splitting.keep_lower.Goals as goal

pub returns : goal.returns
returns c =
    let old = c.args.left.now in
    let other = c.args.right.now in
    let long = end_of-least false other 28 in
    let low = c.end_of-fence_len.ensures.is in let high = c.high_at-high.ensures.is in
    let first = c.first_at-first.ensures.is in
    let end = c.requires.end in let room = c.requires.room in let fence = c.requires.fence in
    let from = c.requires.from in
    let inside = c.requires.lawful.inside in
    let least = c.requires.sized.least in
    let fl : c.end_of-fence_len.result - 28 ≡ 8 + key_len other 28 = omega (arith, low, long) in
    let high_from = high_at-from old in
    let fences = c.with_high-fences.type_inv in
    let low_bit : c.with_high-fences.result % 2 ≡ u16_at old 26 % 2 =
    c.with_high-fences.ensures.low ∙ ap (λ (n : ℕ). n % 2) c.get_u16.ensures in
    keeps_lower old other c.move_bytes.new.b c.copy_bytes.new.b c.put_u32.new.b c.put_u16.new.b
    c.set_end.new.b c.args.at.0 c.args.from c.args.n (c.end_of-fence_len.result - 28) c.high_at-high.result
    c.first_at-first.result (c.args.from - c.first_at-first.result) c.with_high-fences.result
    (omega arith) (omega (arith, fences)) least c.requires.sizes fl high first (omega (arith, first))
    (omega (arith, high, high_from)) (high_first old) (omega (arith, first, from))
    (omega (arith, end, inside)) (omega (arith, fl, fence)) (omega (arith, fl, high, first, room))
    low_bit c.with_high-fences.ensures.high c.move_bytes.ensures c.copy_bytes.ensures c.put_u32.ensures
    c.put_u16.ensures c.set_end.ensures
