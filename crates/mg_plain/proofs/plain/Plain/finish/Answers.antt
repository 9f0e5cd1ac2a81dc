use Rattle.mg_plain.specs.Kept.{kept}
use Rattle.mg_plain.proofs.ObeyLemmas.{finish_done}
use Rattle.mg_plain.proofs.plain.Plain.finish.Goals as goal

pub returns : goal.returns
returns c =
    rw c.as_done.ensures
    (finish_done (kept c.args.self.now) (kept c.obey-given.new.self) c.args.event c.obey-given.result c.args.self.now.bases c.obey-given.ensures.obeys c.requires.short)
