use Rattle.mg_program.proofs.top.list_limbo.Goals as goal

pub returns : goal.returns
returns g c = record {
  content = c.tell_limbo-end.ensures.content;
  reads = c.tell_limbo-end.ensures.reads;
  fault = c.tell_limbo-end.ensures.fault;
  printed = c.tell_limbo-end.ensures.printed;
  told = c.tell_limbo-end.ensures.told;
}
