use Rattle.mg_limbo_list.proofs.HeaderLemmas.{header_absent}
use Rattle.mg_limbo_list.proofs.header.check_header.Goals as goal

pub returns-in-None-clause-test : goal.returns-in-None-clause-test
returns-in-None-clause-test c = header_absent c.args.size c.args.pages.now c.from.result
    c.in-None.ensures.page c.from.ensures
