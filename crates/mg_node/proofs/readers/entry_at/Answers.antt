use Rattle.std.proofs.Common.{◌∙◌, ap, arith}
use Rattle.std.specs.Prelude.{Some}
use Rattle.mg_node.specs.declared.entry.Entry.{Entry}
use Rattle.mg_node.proofs.NodeLemmas.{entry_within, got, got_none, laid_out_of}
use Rattle.mg_node.proofs.OrderLemmas.{place_inside}
use Rattle.mg_node.proofs.readers.entry_at.Goals as goal

pub returns-then-i-count : goal.returns-then-i-count
returns-then-i-count c = got_none c.args.b.now c.args.i (omega arith)

pub read_entry-requires-clause-at : goal.read_entry-requires-clause-at
read_entry-requires-clause-at c =
    place_inside c.args.b.now c.args.i c.place-at.result (laid_out_of c.args.b.now c.requires.lawful)
    c.place-at.ensures.is (omega arith)

pub returns-in_default : goal.returns-in_default
returns-in_default c =
    let outside = rw (c.in_default.is, c.is_inner.ensures, c.place-at.ensures.is)
    at c.in_ok-placed.ensures.none in
    absurd (outside (entry_within c.args.b.now (laid_out_of c.args.b.now c.requires.lawful) c.args.i
    (omega arith)))

pub returns : goal.returns
returns c =
    let placed = rw (c.in-Some.is, c.is_inner.ensures, c.place-at.ensures.is)
    at c.in_ok-placed.ensures.some in
    ap (λ (e : Entry). Some e) placed.entry ∙ got c.args.b.now c.args.i (omega arith)
