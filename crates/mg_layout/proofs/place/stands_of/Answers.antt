use Rattle.std.proofs.Common.{◌∙◌}
use Rattle.std.proofs.lemmas.Iterator.Adapters.{YieldsList-from_vec}
use Rattle.std.proofs.lemmas.Iterator.Consumers.{YieldsList-turn}
use Rattle.mg_layout.specs.Refusals.{CanAllStand, CanStand}
use Rattle.mg_layout.proofs.PlaceLemmas.{stands_at}
use Rattle.mg_layout.proofs.RefusalLemmas.{passed_on}
use Rattle.mg_layout.proofs.place.stands_of.Goals as goal

pub returns-in_err-stand_of-clause-broken : goal.returns-in_err-stand_of-clause-broken
returns-in_err-stand_of-clause-broken c =
    let gives = c.into_iter-table-iterator.ensures.into_iter_gives in
    let turn = YieldsList-turn (YieldsList-from_vec
    {s = c.into_iter-table-iterator.result} _ gives.0 (gives.1 ∙ c.args.tables.ok.0))
    c.loop-table.yielded c.loop-table.table-iterator c.loop-table.yielded_by c.next.result
    c.next.new.self c.in-Some.table c.in-Some.is
    c.next.ensures.steps in
    passed_on (CanStand c.args.image.now c.in-Some.table)
    (CanAllStand c.args.image.now c.args.tables.items)
    (stands_at c.args.image.now c.args.tables.items _ c.in-Some.table turn)
    c.from_residual.result c.in_err-stand_of.field-0.0 c.from_residual.ensures.1
    c.in_err-stand_of.ensures.broken
