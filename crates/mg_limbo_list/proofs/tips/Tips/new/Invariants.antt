use Rattle.mg_base.specs.Image.{page_at}
use Rattle.mg_limbo_list.specs.Limbo.{HasTipsBelow}
use Rattle.mg_limbo_list.proofs.tips.Tips.new.Given as goal

-- so many pages, and the next one
abbrev pub invariant-loop-back : goal.invariant-loop-back
invariant-loop-back l = HasTipsBelow l.size (page_at l.size l.pages) l._back l.n l.numbers.items
