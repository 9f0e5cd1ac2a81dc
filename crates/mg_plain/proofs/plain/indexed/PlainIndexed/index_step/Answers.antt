use Rattle.std.proofs.Common.{Ok, subst, ℕ}
use Rattle.std.specs.Option.{option_copied}
use Rattle.mg_plain.specs.Indexed.{rows_ranged}
use Rattle.mg_plain.specs.Records.{FoundAt}
use Rattle.mg_plain.specs.Kept.{kept}
use Rattle.mg_plain.proofs.IndexLemmas.{lies_found, nears_ranged, visits_ranged}
use Rattle.mg_plain.proofs.plain.indexed.PlainIndexed.index_step.Goals as goal

pub returns-in-Ok-ranged_at-clause-visits : goal.returns-in-Ok-ranged_at-clause-visits
returns-in-Ok-ranged_at-clause-visits c =
    λ rows come. visits_ranged c.args.self.now c.args.t.0 c.args.table.now c.args.index c.args.range.now (option_copied c.args.after) c.in-Ok-ranged_at.found rows
    (subst (λ (n : ℕ). FoundAt (rows_ranged (kept c.args.self.now) c.args.t.0 c.args.table.now c.args.index c.args.range.now) n (Ok c.in-Ok-ranged_at.found)) c.number_behind-place.ensures c.in-Ok-ranged_at.ensures.found) come

pub returns-in-Ok-ranged_at-clause-nears : goal.returns-in-Ok-ranged_at-clause-nears
returns-in-Ok-ranged_at-clause-nears c =
    nears_ranged c.args.self.now c.args.t.0 c.args.table.now c.args.index c.args.range.now (option_copied c.args.after) c.in-Ok-ranged_at.found
    (subst (λ (n : ℕ). FoundAt (rows_ranged (kept c.args.self.now) c.args.t.0 c.args.table.now c.args.index c.args.range.now) n (Ok c.in-Ok-ranged_at.found)) c.number_behind-place.ensures c.in-Ok-ranged_at.ensures.found)

pub returns-in-Ok-ranged_at-clause-within : goal.returns-in-Ok-ranged_at-clause-within
returns-in-Ok-ranged_at-clause-within c =
    lies_found c.args.self.now c.args.t.0 c.args.table.now c.args.index c.args.range.now c.number_behind-place.result c.in-Ok-ranged_at.found c.in-Ok-ranged_at.ensures.found
