use Rattle.mg_program.proofs.top.tell_figures.Goals as goal

pub returns : goal.returns
returns g c = record {
  content = c.tell_stat-end.ensures.content;
  reads = c.tell_stat-end.ensures.reads;
  fault = c.tell_stat-end.ensures.fault;
  printed = c.tell_stat-end.ensures.printed;
  told = c.tell_stat-end.ensures.told;
}
