use Rattle.std.proofs.Common.{arith}
use Rattle.mg_slots.proofs.layout.rewrite_over.Goals as goal

pub whole_as_front-copy_from_slice : goal.whole_as_front-copy_from_slice
whole_as_front-copy_from_slice g c = (c.requires.fits, omega (arith, c.requires.most))

pub shared_whole_as_front-rewrite_from : goal.shared_whole_as_front-rewrite_from
shared_whole_as_front-rewrite_from g c = (c.requires.fits, omega (arith, c.requires.most))
