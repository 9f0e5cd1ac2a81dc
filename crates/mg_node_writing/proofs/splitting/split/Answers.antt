use Rattle.std.proofs.Common.{◌+◌, arith}
use Rattle.mg_node.specs.NodePage.{key_len}
use Rattle.mg_node_writing.specs.MoveLaws.{len_stands}
use Rattle.mg_node_writing.proofs.SizeLemmas.{split_numbers}
use Rattle.mg_node_writing.proofs.SplitDone.{fence_short, split_done}
use Rattle.mg_node_writing.proofs.splitting.split.Goals as goal

pub take_upper-requires-clause-from : goal.take_upper-requires-clause-from
take_upper-requires-clause-from c =
    let numbers = split_numbers c.args.left.now c.half-n.result c.requires.sized.least
    c.requires.lawful c.half-n.ensures c.requires.full in
    let below = numbers.below in let is = c.place-from.ensures.is in omega (arith, below, is)

pub take_upper-requires-clause-fence : goal.take_upper-requires-clause-fence
take_upper-requires-clause-fence c =
    let numbers = split_numbers c.args.left.now c.half-n.result c.requires.sized.least
    c.requires.lawful c.half-n.ensures c.requires.full in
    (fence_short c.args.left.now c.half-n.result c.place-from.result c.requires.lawful numbers
    c.place-from.ensures.is).inside

pub take_upper-requires-clause-room : goal.take_upper-requires-clause-room
take_upper-requires-clause-room c =
    let numbers = split_numbers c.args.left.now c.half-n.result c.requires.sized.least
    c.requires.lawful c.half-n.ensures c.requires.full in
    let short = (fence_short c.args.left.now c.half-n.result c.place-from.result c.requires.lawful numbers
    c.place-from.ensures.is).short in
    let room = numbers.right_room (8 + key_len c.args.left.now c.place-from.result) short in
    let is = c.place-from.ensures.is in omega (arith, room, is)

pub keep_lower-requires-clause-from : goal.keep_lower-requires-clause-from
keep_lower-requires-clause-from c =
    let numbers = split_numbers c.args.left.now c.half-n.result c.requires.sized.least
    c.requires.lawful c.half-n.ensures c.requires.full in
    let above = numbers.above in let is = c.place-from.ensures.is in omega (arith, above, is)

pub keep_lower-requires-clause-end : goal.keep_lower-requires-clause-end
keep_lower-requires-clause-end c =
    let numbers = split_numbers c.args.left.now c.half-n.result c.requires.sized.least
    c.requires.lawful c.half-n.ensures c.requires.full in
    let below = numbers.below in let is = c.place-from.ensures.is in omega (arith, below, is)

pub keep_lower-requires-clause-fence : goal.keep_lower-requires-clause-fence
keep_lower-requires-clause-fence c =
    let upper = c.take_upper.ensures in
    let same = len_stands c.args.left.now c.take_upper.new.right c.place-from.result 28
    (8 + key_len c.args.left.now c.place-from.result) upper.low (omega arith) in
    let numbers = split_numbers c.args.left.now c.half-n.result c.requires.sized.least
    c.requires.lawful c.half-n.ensures c.requires.full in
    let short = (fence_short c.args.left.now c.half-n.result c.place-from.result c.requires.lawful numbers
    c.place-from.ensures.is).short in
    let least = c.requires.sized.least in omega (arith, same, short, least)

pub keep_lower-requires-clause-room : goal.keep_lower-requires-clause-room
keep_lower-requires-clause-room c =
    let upper = c.take_upper.ensures in
    let same = len_stands c.args.left.now c.take_upper.new.right c.place-from.result 28
    (8 + key_len c.args.left.now c.place-from.result) upper.low (omega arith) in
    let numbers = split_numbers c.args.left.now c.half-n.result c.requires.sized.least
    c.requires.lawful c.half-n.ensures c.requires.full in
    let short = (fence_short c.args.left.now c.half-n.result c.place-from.result c.requires.lawful numbers
    c.place-from.ensures.is).short in
    let room = numbers.left_room (8 + key_len c.args.left.now c.place-from.result) short in
    let is = c.place-from.ensures.is in omega (arith, room, is, same)

pub returns : goal.returns
returns c =
    let numbers = split_numbers c.args.left.now c.half-n.result c.requires.sized.least
    c.requires.lawful c.half-n.ensures c.requires.full in
    let done = split_done c.args.left.now c.keep_lower.new.left c.take_upper.new.right c.args.at.0
    c.half-n.result c.place-from.result c.requires.lawful c.half-n.ensures numbers
    c.place-from.ensures.is c.take_upper.ensures c.keep_lower.ensures in
    record {
      splits = done.splits;
      half = done.half;
      left_lawful = done.left_lawful;
      right_lawful = done.right_lawful;
      left_two = done.left_two;
      right_two = done.right_two;
      left_room = done.left_room;
      right_room = done.right_room;
    }
