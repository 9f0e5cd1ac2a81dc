use Rattle.mg_chain.proofs.SpellingLemmas.{version_short}
use Rattle.mg_chain.proofs.spelling.version_bytes.Goals as goal

pub returns-clause-short : goal.returns-clause-short
returns-clause-short c = version_short c.new-out.result.items c.write_cell.new.out.items
    c.args.v.now.body _ c.new-out.ensures.items c.in_ok-copy.ensures
    c.in_ok-write_cell.ensures.written
