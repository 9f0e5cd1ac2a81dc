use Rattle.std.proofs.Common.{sym}
use Rattle.std.specs.Prelude.{nat_eq}
use Rattle.std.specs.Cmp.Lexicographic.{pointwise}
use Rattle.std.proofs.lemmas.Bool.{not-true, not-false}
use Rattle.std.proofs.lemmas.Result.{IfOk-from_err}
use Rattle.mg_catalog.specs.ByKey.{by_key}
use Rattle.mg_catalog.specs.LawfulLaws.{index_lawful}
use Rattle.mg_catalog.proofs.IndexLemmas.{index_added, index_column, none_added, other_added}
use Rattle.mg_catalog.proofs.indexes.add_index.Goals as goal

pub returns-in_default : goal.returns-in_default
returns-in_default c = none_added c.args.indexes.now.items c.args.table.now c.args.name.now _
    c.in_default.ensures

pub returns-then-ne : goal.returns-then-ne
returns-then-ne c = other_added c.args.indexes.now.items c.args.table.now c.args.name.now
    c.name_of.result.now c.in-Some.row.now _ c.in-Some.ensures c.name_of.ensures
    (not-true (pointwise nat_eq c.name_of.result.now c.args.table.now) (sym c.if-ne.ensures))

pub index_of-requires-clause-named : goal.index_of-requires-clause-named
index_of-requires-clause-named c = (index_lawful (by_key c.args.rows.now) c.requires c.args.name.now
    c.in-Some.row.now c.in-Some.ensures).named

pub index_of-requires-clause-column : goal.index_of-requires-clause-column
index_of-requires-clause-column c = index_column (by_key c.args.rows.now) c.requires c.args.name.now
    c.in-Some.row.now c.in-Some.ensures

pub index_of-requires-clause-root : goal.index_of-requires-clause-root
index_of-requires-clause-root c = (index_lawful (by_key c.args.rows.now) c.requires c.args.name.now
    c.in-Some.row.now c.in-Some.ensures).root

pub returns : goal.returns
returns c = index_added c.args.indexes.now.items c.push.new.self.items c.args.table.now c.args.name.now
    c.name_of.result.now c.in-Some.row.now _ c.index_of.result c.in-Some.ensures c.name_of.ensures
    (not-false (pointwise nat_eq c.name_of.result.now c.args.table.now) (sym c.if-ne.ensures))
    c.index_of.ensures c.in_ok-push.ensures.items

pub returns-in_err-push : goal.returns-in_err-push
returns-in_err-push c = IfOk-from_err c.from_residual.result _ c.from_residual.ensures.0
