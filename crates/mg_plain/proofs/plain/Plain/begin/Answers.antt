-- The new base is the database as it is.
use Rattle.std.proofs.Common.{length, arith}
use Rattle.mg_plain.proofs.ViewLemmas.{within_tried}
use Rattle.mg_plain.proofs.plain.Plain.begin.Goals as goal

pub invariant_of-self-clause-bases : goal.invariant_of-self-clause-bases
invariant_of-self-clause-bases c =
    within_tried (length c.args.self.now.database.items) c.args.self.now.opened c.args.self.now.known.items c.push.new.self.items
    _ _ c.push.ensures.items (omega (arith, c.len.ensures)) c.args.self.now.bases
