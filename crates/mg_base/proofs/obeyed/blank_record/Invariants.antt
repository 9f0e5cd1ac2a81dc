use Rattle.std.proofs.Common.{◌≡◌, replicate, false}
use Rattle.mg_base.specs.Image.{blank}
use Rattle.mg_base.proofs.obeyed.blank_record.Given as goal

abbrev pub invariant-loop : goal.invariant-loop
invariant-loop l = l.obeyed.items ≡ replicate l.counter (record { page = 0; settled = false; bytes = blank l.size })
