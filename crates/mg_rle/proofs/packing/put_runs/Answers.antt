use Rattle.std.proofs.Common.{◌∙◌, sym}
use Rattle.std.proofs.lemmas.Bool.{eqb-true}
use Rattle.std.proofs.lemmas.List.{nil_from_length}
use Rattle.mg_rle.proofs.WritingLemmas.{completes_more, completes_at_end}
use Rattle.mg_rle.proofs.ReadingLemmas.{keeps_front_twice}
use Rattle.mg_rle.proofs.packing.put_runs.Goals as goal

pub loop-rest-preserved : goal.loop-rest-preserved
loop-rest-preserved c = record {
  completes = λ tail accepted means. completes_more _ _ _ _ _ _ c.in_ok-count.ensures.ok c.loop-rest.invariant.completes tail accepted (means ∙ c.split_at.ensures.back);
  front = keeps_front_twice _ _ _ c.loop-rest.invariant.front c.in_ok-count.ensures.front;
}

pub returns-clause-ok : goal.returns-clause-ok
returns-clause-ok c = completes_at_end _ _ _ _ (nil_from_length _ (eqb-true _ _ (sym c.is_empty.ensures ∙ c.loop-rest-test.false))) c.loop-rest.invariant.completes
