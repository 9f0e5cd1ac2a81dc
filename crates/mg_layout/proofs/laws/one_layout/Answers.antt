use Rattle.mg_layout.proofs.LayoutLemmas.{one_layout_of}
use Rattle.mg_layout.proofs.laws.one_layout.Goals as goal

pub returns : goal.returns
returns c = one_layout_of c.args.coding c.one_reading.ensures.plain c.one_reading.ensures.packed
