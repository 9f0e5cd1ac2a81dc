use Rattle.std.proofs.Common.{refl, ap}
use Rattle.mg_records.specs.TakingBack.{is_given_up}
use Rattle.mg_plain.specs.Kept.{kept}
use Rattle.mg_plain.specs.Keeping.{known_of}
use Rattle.mg_plain.proofs.ObeyLemmas.{back_refused, back_taken, back_done}
use Rattle.mg_plain.proofs.plain.Plain.go_back.Goals as goal

pub returns-clause-done : goal.returns-clause-done
returns-clause-done c =
    back_done (kept c.args.self.now) (kept c.note-2.new.self) c.args.t c.args.point c.args.self.now.bases c.in-Ok.ensures
    (back_taken (kept c.args.self.now) (kept c.take_back.new.self) (kept c.note-2.new.self) c.args.t c.args.point c.take_back.ensures c.note-2.ensures)

pub returns-in-Err-clause-done : goal.returns-in-Err-clause-done
returns-in-Err-clause-done c =
    back_refused (kept c.args.self.now) (kept c.note.new.self) c.args.t c.args.point (known_of (kept c.args.self.now) c.args.t.0).state _ refl c.in-Err.ensures c.note.ensures

pub returns-in-Err-clause-err : goal.returns-in-Err-clause-err
returns-in-Err-clause-err c = ap is_given_up c.in-Err.ensures.0
