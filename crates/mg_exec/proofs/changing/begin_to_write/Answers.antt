use Rattle.std.proofs.Common.{ℕ, ap, ◌∙◌}
use Rattle.mg_exec.specs.Changing.{turned, with_left}
use Rattle.mg_exec.proofs.ChangeLemmas.{begins_behind, turned_leaves, turned_quiet}
use Rattle.mg_exec.proofs.changing.begin_to_write.Goals as goal

pub returns-clause-begins : goal.returns-clause-begins
returns-clause-begins g c = λ o h stands. record {
  result = c.mark_and_write-wrote.result;
  left = c.mark_and_write-wrote.new.w;
  table_stays = c.mark_and_write-wrote.ensures.steps.table;
  stands_so = c.turned.ensures
      ∙ ap (λ (n : ℕ). turned (with_left c.mark_and_write-wrote.new.w n) c.mark_and_write-wrote.result)
      (c.len.ensures ∙ c.args.made.ok.0);
  writes = c.mark_and_write-wrote.ensures.writes o h stands;
}

pub returns-clause-behind : goal.returns-clause-behind
returns-clause-behind g c =
    begins_behind g.row.R-Place.Denot c.args.made.items c.mark_and_write-wrote.new.w _
    c.mark_and_write-wrote.result c.turned.result c.turned.ensures (c.len.ensures ∙ c.args.made.ok.0)
    c.mark_and_write-wrote.ensures.steps.fewer

pub returns-clause-leaves : goal.returns-clause-leaves
returns-clause-leaves g c =
    turned_leaves g.R.Records.meaning c.args.r.now c.mark_and_write-wrote.new.r c.args.t.0
    (record { table = c.args.table; left = c.args.made }) c.mark_and_write-wrote.new.w _
    c.mark_and_write-wrote.result c.turned.result c.turned.ensures c.mark_and_write-wrote.ensures.steps
    c.mark_and_write-wrote.ensures.quiet

pub returns-clause-quiet : goal.returns-clause-quiet
returns-clause-quiet g c =
    turned_quiet g.R.Records.meaning c.args.r.now c.mark_and_write-wrote.new.r c.args.t.0
    c.mark_and_write-wrote.new.w _ c.mark_and_write-wrote.result c.turned.result c.turned.ensures
    c.mark_and_write-wrote.ensures.quiet
