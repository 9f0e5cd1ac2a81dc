use Rattle.mg_careful.proofs.ReadLemmas.{new_kept, new_blank}
use Rattle.mg_careful.proofs.graph.Graph.new.Goals as goal

pub invariant_of-result : goal.invariant_of-result
invariant_of-result c = rw (c.in_ok-blank_places.ensures, c.in_ok-blank_rows.ensures, c.in_ok-blank_rows-2.ensures, c.in_ok-blank.ensures) (new_kept c.args.pages)

pub returns : goal.returns
returns c = rw (c.in_ok-blank_places.ensures, c.in_ok-blank_rows.ensures) (new_blank c.args.pages)
