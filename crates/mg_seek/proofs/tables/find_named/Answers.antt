use Rattle.std.proofs.Common.{◌≡◌, ◌∙◌, [], ◌∷◌, ◌++◌, length, sym, ap, subst, refl, ◌+◌, ℕ}
use Rattle.std.proofs.lemmas.Iterator.Adapters.{YieldsList-from_vec}
use Rattle.std.proofs.lemmas.Iterator.Consumers.{YieldsList-end, YieldsList-turn}
use Rattle.std.proofs.lemmas.List.{length_push}
use Rattle.mg_seek.proofs.SeenLemmas.{NoneNamed, named_here, named_more, none_named}
use Rattle.mg_seek.proofs.tables.find_named.Goals as goal

pub returns-then-has_name : goal.returns-then-has_name
returns-then-has_name c =
    let gives = c.into_iter-table-iterator.ensures.into_iter_gives in
    let turn = YieldsList-turn (YieldsList-from_vec
    {s = c.into_iter-table-iterator.result} _ gives.0 (gives.1 ∙ c.args.tables.ok.0))
    c.loop-table.yielded c.loop-table.table-iterator c.loop-table.yielded_by c.next.result
    c.next.new.self c.in-Some.table c.in-Some.is c.next.ensures.steps in
    named_here c.args.tables.items c.args.name.now (length c.loop-table.yielded) c.in-Some.table turn
    c.loop-table.invariant (c.has_name.ensures.0 c.if-has_name.true)

pub loop-table-preserved : goal.loop-table-preserved
loop-table-preserved c =
    let gives = c.into_iter-table-iterator.ensures.into_iter_gives in
    let turn = YieldsList-turn (YieldsList-from_vec
    {s = c.into_iter-table-iterator.result} _ gives.0 (gives.1 ∙ c.args.tables.ok.0))
    c.loop-table.yielded c.loop-table.table-iterator c.loop-table.yielded_by c.next.result
    c.next.new.self c.in-Some.table c.in-Some.is c.next.ensures.steps in
    subst (NoneNamed c.args.tables.items c.args.name.now)
    (sym (length_push c.loop-table.yielded c.in-Some.table))
    (named_more c.args.tables.items c.args.name.now (length c.loop-table.yielded) c.in-Some.table turn
    c.loop-table.invariant (λ same. let yes_ = c.has_name.ensures.1 same in let no_ = c.if-has_name.false in cc))

pub returns : goal.returns
returns c =
    let gives = c.into_iter-table-iterator.ensures.into_iter_gives in
    let end = YieldsList-end (YieldsList-from_vec
    {s = c.into_iter-table-iterator.result} _ gives.0 (gives.1 ∙ c.args.tables.ok.0))
    c.loop-table.yielded c.loop-table.table-iterator c.loop-table.yielded_by c.next.result
    c.next.new.self c.in-None.is c.next.ensures.steps in
    none_named c.args.tables.items c.args.name.now (length c.loop-table.yielded) end.1 c.loop-table.invariant
