use Rattle.mg_heap.proofs.TableLemmas.{lawful_ok, tested_ok}
use Rattle.mg_heap.proofs.table.check_chain_page.Goals as goal

pub returns-clause-tested : goal.returns-clause-tested
returns-clause-tested c = tested_ok c.args.page c.args.b.now c.args.owner c.args.at
    c.check_pointer.result c.check_pointer.ensures

pub returns-clause-lawful : goal.returns-clause-lawful
returns-clause-lawful c = lawful_ok c.args.page c.args.b.now c.args.owner c.args.at
    c.check_pointer.result c.requires.least c.requires.most c.check_pointer.ensures
