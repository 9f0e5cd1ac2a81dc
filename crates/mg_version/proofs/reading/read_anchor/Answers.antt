use Rattle.std.proofs.Common.{arith}
use Rattle.mg_version.proofs.CellFaults.{refuses_short_anchor, refuses_long_anchor}
use Rattle.mg_version.proofs.CellSpelled.{anchor_spelled}
use Rattle.mg_version.proofs.reading.read_anchor.Goals as goal

pub returns-then-b-lt-ANCHOR_LEN : goal.returns-then-b-lt-ANCHOR_LEN
returns-then-b-lt-ANCHOR_LEN c = refuses_short_anchor c.args.b.now (λ i. omega (
  arith,
  c.type_inv.b i,
)) c.requires.kind c.if-b-lt-ANCHOR_LEN.true

pub returns-then-b-gt-ANCHOR_LEN : goal.returns-then-b-gt-ANCHOR_LEN
returns-then-b-gt-ANCHOR_LEN c = refuses_long_anchor c.args.b.now (λ i. omega (
  arith,
  c.type_inv.b i,
)) c.requires.kind c.if-b-gt-ANCHOR_LEN.true

pub returns : goal.returns
returns c = rw c.link_at.ensures (anchor_spelled c.args.b.now (λ i. omega (
  arith,
  c.type_inv.b i,
)) c.requires.kind (omega arith))
