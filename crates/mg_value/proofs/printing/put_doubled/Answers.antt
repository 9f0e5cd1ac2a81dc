use Rattle.mg_value.proofs.PrintingLemmas.{keeps_front_twice}
use Rattle.mg_value.proofs.printing.put_doubled.Goals as goal

pub returns-in_err-put_byte-clause-front : goal.returns-in_err-put_byte-clause-front
returns-in_err-put_byte-clause-front c = keeps_front_twice _ _ _ c.loop-byte.invariant.1 c.in_err-put_byte.ensures.front
