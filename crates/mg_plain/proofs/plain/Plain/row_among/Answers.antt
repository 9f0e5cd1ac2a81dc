use Rattle.std.proofs.Common.{sym, ◌∙◌}
use Rattle.mg_plain.specs.Keeping.{told_in}
use Rattle.mg_plain.specs.Kept.{kept}
use Rattle.mg_plain.proofs.OwnKeyLemmas.{on_ok, own_at}
use Rattle.mg_plain.proofs.plain.Plain.row_among.Goals as goal

pub returns-clause-keyed : goal.returns-clause-keyed
returns-clause-keyed c = on_ok c.row_copied.result
    (own_at c.args.place ((told_in (kept c.args.self.now)).view c.args.t) c.args.table.now c.deref.result.now
    (c.deref.ensures.value ∙ c.in_ok-rows.ensures) (sym c.stand_under.ensures ∙ c.if-not-stand_under.false))
