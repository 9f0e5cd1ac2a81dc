use Rattle.std.proofs.Common.{arith}
use Rattle.mg_model.specs.Answers.{catalog_of}
use Rattle.mg_plain.specs.Keeping.{told_in}
use Rattle.mg_plain.specs.Kept.{kept}
use Rattle.mg_plain.proofs.KeyLemmas.{key_small}
use Rattle.mg_plain.proofs.plain.Plain.shape.Goals as goal

pub overflow_cast-result : goal.overflow_cast-result
overflow_cast-result c =
    omega (arith, key_small (catalog_of (told_in (kept c.args.self.now)) c.args.t) c.args.name.now 0 c.count_said-count.result, c.in_ok-key_among.ensures, c.count_said-count.ensures.most)
