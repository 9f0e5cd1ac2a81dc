use Rattle.mg_shorthand.proofs.TreeLemmas.{place_alone}
use Rattle.mg_shorthand.proofs.reading.second.Goals as goal

pub returns : goal.returns
returns c = place_alone c.new-values.result.items c.push.new.self.items 1 c.in_ok-push.ensures.items
    c.new-values.ensures.items
