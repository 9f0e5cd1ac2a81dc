use Rattle.mg_heap.proofs.EntryLemmas.{all_entries, more_entries}
use Rattle.mg_heap.proofs.HandedLemmas.{no_answer_on}
use Rattle.mg_heap.proofs.table.add_entries.Goals as goal

pub loop-i-preserved : goal.loop-i-preserved
loop-i-preserved c = more_entries c.args.page.now c.args.data_pages.now.items c.loop-i.data_pages.items
    c.push.new.self.items c.loop-i.i c.get_u32.result c.loop-i.invariant c.in_ok-push.ensures.items
    c.get_u32.ensures

pub returns : goal.returns
returns c = all_entries c.args.page.now c.args.data_pages.now.items c.loop-i.data_pages.items c.loop-i.i
    c.get_u16-i-end.result c.loop-i.invariant c.loop-i.auto.i-end c.loop-i-test.false c.get_u16-i-end.ensures

pub returns-in_err-push : goal.returns-in_err-push
returns-in_err-push c = no_answer_on _ c.from_residual.result c.from_residual.ensures.0
