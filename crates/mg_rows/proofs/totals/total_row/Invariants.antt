use Rattle.std.proofs.Common.{◌≡◌, map, drop}
use Rattle.mg_statements.specs.Plain.{total_of}
use Rattle.mg_rows.specs.Selecting.{each_of}
use Rattle.mg_rows.specs.Totals.{total_over}
use Rattle.mg_rows.proofs.EachLemmas.{fronted}
use Rattle.mg_rows.proofs.totals.total_row.Given as goal

-- the totals so far and those to come are all
abbrev pub invariant-loop-agg : goal.invariant-loop-agg
invariant-loop-agg l =
    fronted l.out.items (each_of (total_over l.rows) (map total_of (drop l.agg-index l.aggs))) ≡ each_of (total_over l.rows) (map total_of l.aggs)
