use Rattle.mg_plain.specs.Kept.{kept}
use Rattle.mg_plain.proofs.ObeyLemmas.{fails}
use Rattle.mg_plain.proofs.plain.Plain.fail.Goals as goal

pub returns-clause-done : goal.returns-clause-done
returns-clause-done c =
    λ event its. fails (kept c.args.self.now) (kept c.note.new.self) event c.args.t.0 its c.note.ensures
