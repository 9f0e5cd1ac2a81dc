-- The row with the number, or none past the last one.
use Rattle.std.proofs.Common.{◌∙◌}
use Rattle.mg_plain.specs.Indexed.{rows_ranged}
use Rattle.mg_plain.specs.Kept.{kept}
use Rattle.mg_plain.proofs.ExitLemmas.{none_found, none_past, none_read, row_read}
use Rattle.mg_plain.proofs.plain.Plain.ranged_at.Goals as goal

pub returns-then-at-len-clause-found : goal.returns-then-at-len-clause-found
returns-then-at-len-clause-found c = none_past c.in_ok-rows.rows.items (rows_ranged (kept c.args.self.now) c.args.t c.args.table.now c.args.index c.args.range.now)
    c.args.at c.len.result c.in_ok-rows.ensures (c.len.ensures ∙ c.in_ok-rows.rows.ok.0) c.if-at-len.true

pub returns-in-Some-clause-found : goal.returns-in-Some-clause-found
returns-in-Some-clause-found c = row_read c.in_ok-rows.rows.items (rows_ranged (kept c.args.self.now) c.args.t c.args.table.now c.args.index c.args.range.now)
    c.deref.result.now c.args.at c.in-Some.row.now c.in_ok-keyed-in-Some.field-0 c.in_ok-rows.ensures
    c.deref.ensures.value c.in-Some.ensures.lookup.0 c.in-Some.ensures.lookup.1 c.in_ok-keyed-in-Some.ensures.is

pub returns-clause-found : goal.returns-clause-found
returns-clause-found c = none_read c.in_ok-rows.rows.items (rows_ranged (kept c.args.self.now) c.args.t c.args.table.now c.args.index c.args.range.now)
    c.deref.result.now c.args.at c.in_ok-rows.ensures c.deref.ensures.value c.in-None.ensures.lookup.0

pub returns-in_err-rows-clause-found : goal.returns-in_err-rows-clause-found
returns-in_err-rows-clause-found c = none_found (rows_ranged (kept c.args.self.now) c.args.t c.args.table.now c.args.index c.args.range.now) c.args.at
    c.from_residual.result c.from_residual.ensures.0

pub returns-in_err-keyed-in-Some-clause-found : goal.returns-in_err-keyed-in-Some-clause-found
returns-in_err-keyed-in-Some-clause-found c = none_found (rows_ranged (kept c.args.self.now) c.args.t c.args.table.now c.args.index c.args.range.now) c.args.at
    c.from_residual-in_err-keyed-in-Some.result c.from_residual-in_err-keyed-in-Some.ensures.0
