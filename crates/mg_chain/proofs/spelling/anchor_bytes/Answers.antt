use Rattle.mg_chain.proofs.SpellingLemmas.{anchor_len}
use Rattle.mg_chain.proofs.spelling.anchor_bytes.Goals as goal

pub returns-clause-len : goal.returns-clause-len
returns-clause-len c = anchor_len c.new-out.result.items c.write_cell.new.out.items c.args.link
    c.new-out.ensures.items c.in_ok-write_cell.ensures.written
