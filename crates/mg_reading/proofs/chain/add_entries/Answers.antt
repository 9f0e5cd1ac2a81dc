use Rattle.mg_reading.proofs.EntryLemmas.{entries_whole, entry_more}
use Rattle.mg_reading.proofs.chain.add_entries.Goals as goal

pub loop-i-preserved : goal.loop-i-preserved
loop-i-preserved c = entry_more c.args.page.now c.args.data_pages.now.items
    c.loop-i.data_pages.items c.push.new.self.items c.loop-i.i c.get_u32.result
    c.loop-i.invariant c.in_ok-push.ensures.items c.get_u32.ensures

pub returns : goal.returns
returns c = entries_whole c.args.page.now c.args.data_pages.now.items c.loop-i.data_pages.items
    c.loop-i.i c.get_u16-i-end.result c.loop-i.invariant c.loop-i.auto.i-end c.loop-i-test.false
    c.get_u16-i-end.ensures
