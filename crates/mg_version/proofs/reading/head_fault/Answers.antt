use Rattle.std.proofs.Common.{◌≤◌, ◌<◌, length, arith}
use Rattle.mg_base.specs.Fields.{byte, u16_at}
use Rattle.mg_version.proofs.CellFaults.{refuses_flags, refuses_format, refuses_short_version}
use Rattle.mg_version.proofs.reading.head_fault.Goals as goal
use Rattle.mg_version.proofs.reading.head_fault.Goals.{else-b-ge-TX_AT-via-then-b-ge-TX_AT+else-get_u16-eq0, else-b-ge-TX_AT-via-else-b-ge-TX_AT}

pub returns-then-byte_at : goal.returns-then-byte_at
returns-then-byte_at c =
    let other : 4 ≤ byte c.args.b.now 1 = omega (arith, c.byte_at.ensures, c.if-byte_at.true) in
    refuses_flags c.args.b.now (λ i. omega (arith, c.type_inv.b i)) c.requires.kind other

pub returns-then-get_u16-eq0 : goal.returns-then-get_u16-eq0
returns-then-get_u16-eq0 c =
    let flags : byte c.args.b.now 1 < 4 = omega (arith, c.byte_at.ensures, c.if-byte_at.false) in
    refuses_format c.args.b.now (λ i. omega (
      arith,
      c.type_inv.b i,
    )) c.requires.kind flags (omega arith) (omega arith)

pub returns-then-b-body_at : goal.returns-then-b-body_at
returns-then-b-body_at c =
    let flags : byte c.args.b.now 1 < 4 = omega (arith, c.byte_at.ensures, c.if-byte_at.false) in
    let stored : 4 ≤ length c.args.b.now → 1 ≤ u16_at c.args.b.now 2 =
    λ long. elim c.else-b-ge-TX_AT.branch [
      | else-b-ge-TX_AT-via-then-b-ge-TX_AT+else-get_u16-eq0 w ↦ omega (arith, w.get_u16.ensures)
      | else-b-ge-TX_AT-via-else-b-ge-TX_AT w ↦ absurd (omega arith)
    ] in
    refuses_short_version c.args.b.now (λ i. omega (
      arith,
      c.type_inv.b i,
    )) c.requires.kind flags stored (omega arith)
