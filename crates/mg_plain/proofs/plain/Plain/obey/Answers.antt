use Rattle.mg_plain.specs.Kept.{kept}
use Rattle.mg_plain.proofs.ObeyLemmas.{refused_obeys}
use Rattle.mg_plain.proofs.plain.Plain.obey.Goals as goal

pub returns-in-Err-clause-obeys : goal.returns-in-Err-clause-obeys
returns-in-Err-clause-obeys c =
    refused_obeys (kept c.args.self.now) (kept c.answer.new.self) (kept c.note.new.self) c.args.event.now c.transaction_of.result
    c.in-Err.ensures.err c.transaction_of.ensures c.note.ensures
