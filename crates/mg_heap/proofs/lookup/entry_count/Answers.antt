use Rattle.std.proofs.Common.{◌∙◌, sym}
use Rattle.mg_pointer.specs.PointerPageLaws.{length-entries_of}
use Rattle.mg_heap.proofs.lookup.entry_count.Goals as goal

pub returns-clause-is : goal.returns-clause-is
returns-clause-is c = c.from.ensures ∙ (c.get_u16.ensures ∙ sym (length-entries_of c.args.b.now))
