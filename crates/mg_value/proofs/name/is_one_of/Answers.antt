use Rattle.std.proofs.Common.{sym, ◌∙◌, [], below_more}
use Rattle.std.proofs.lemmas.Bool.{both_ways}
use Rattle.std.proofs.lemmas.List.{get_or-map}
use Rattle.mg_value.proofs.name.is_one_of.Goals as goal

pub loop-word-preserved : goal.loop-word-preserved
loop-word-preserved c =
    below_more _ _ c.loop-word.invariant (λ same.
    both_ways _ c.if-is_same.false (c.is_same.ensures.1 (sym (get_or-map (λ word. word.now) c.args.words.now c.loop-word.word-index (record { ref_ptr = (0, 0); now = [] }) c.args.bytes.now c.loop-word-test.true) ∙ same)))
