use Rattle.std.proofs.Common.{◌≡◌, replicate}
use Rattle.mg_base.specs.Image.{blank}
use Rattle.mg_base.proofs.obeyed.blank_pages.Given as goal

abbrev pub invariant-loop : goal.invariant-loop
invariant-loop l = l.pages.items ≡ replicate l.counter (blank l.size)
