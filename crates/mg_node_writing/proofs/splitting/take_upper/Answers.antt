use Rattle.std.proofs.Common.{false, ◌≡◌, ◌+◌, ◌-◌, ◌/◌, ap, subst, ◌∙◌, arith, ℕ, List}
use Rattle.mg_base.specs.Fields.{u16_at, with_u32}
use Rattle.mg_node.specs.NodePage.{first_at, high_at, key_len}
use Rattle.mg_node.specs.NodeTestLaws.{high_at-from}
use Rattle.mg_node.specs.NodeWalkLaws.{end_of-least}
use Rattle.mg_node_writing.specs.Splits.{TakesUpper}
use Rattle.mg_node_writing.proofs.SeatLemmas.{first_ends, high_first}
use Rattle.mg_node_writing.proofs.SplitLemmas.{takes_upper}
use Rattle.mg_node_writing.proofs.splitting.take_upper.Goals as goal

pub returns : goal.returns
returns c =
    let old = c.args.left.now in
    let long = end_of-least false old c.args.from in
    let low = c.end_of.ensures.is in let high = c.high_at-high.ensures.is in
    let first = c.first_at.ensures.is in let end = c.end.ensures in
    let from = c.requires.from in let room = c.requires.room in let fence = c.requires.fence in
    let inside = c.requires.lawful.inside in
    let least = c.requires.sized.least in
    let fl : c.end_of.result - c.args.from ≡ 8 + key_len old c.args.from = omega (arith, low, long) in
    let hl : c.first_at.result - c.high_at-high.result ≡ first_at old - high_at old =
    omega (arith, first, high) in
    let first_in = first_ends old c.requires.lawful in
    let high_from = high_at-from old in
    let count = c.count.ensures.is in
    let fences = c.with_low-fences.type_inv in
    let high_bit : c.with_low-fences.result / 2 ≡ u16_at old 26 / 2 =
    c.with_low-fences.ensures.high ∙ ap (λ (n : ℕ). n / 2) c.get_u16.ensures in
    subst (λ (n : ℕ). TakesUpper old c.set_end.new.b c.args.at.0 c.args.from (n - c.args.n)) count
    (takes_upper old c.put_u32.new.b c.put_u16.new.b c.copy_bytes.new.b c.copy_bytes-2.new.b
    c.copy_bytes-3.new.b c.set_end.new.b c.args.at.0 c.args.from (c.count.result - c.args.n)
    (c.end_of.result - c.args.from) c.high_at-high.result
    (c.first_at.result - c.high_at-high.result) (c.end.result - c.args.from)
    c.with_low-fences.result (omega arith) (omega (arith, fences)) least fl high hl
    (omega (arith, end)) (omega (arith, high, high_from)) (high_first old)
    (omega (arith, first_in, inside)) (omega (arith, fl, fence)) from inside
    (omega (arith, fl, hl, room, end)) c.with_low-fences.ensures.low high_bit
    (c.put_u32.ensures ∙ ap (λ (x : List ℕ). with_u32 x 4 c.args.at.0) c.copy_from_slice.ensures.after)
    c.put_u16.ensures c.copy_bytes.ensures c.copy_bytes-2.ensures c.copy_bytes-3.ensures
    c.set_end.ensures)
