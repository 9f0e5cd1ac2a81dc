use Rattle.mg_plain.proofs.OwnKeyLemmas.{own_told}
use Rattle.mg_plain.proofs.plain.keyed.PlainKeyed.row_with_key.Goals as goal

pub returns-in-Ok-row_among-clause-keyed : goal.returns-in-Ok-row_among-clause-keyed
returns-in-Ok-row_among-clause-keyed c =
    own_told c.args.self.now c.args.t.0 c.args.table.now c.in-Ok-row_among.ensures.keyed
