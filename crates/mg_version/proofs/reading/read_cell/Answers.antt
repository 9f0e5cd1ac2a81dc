use Rattle.std.proofs.Common.{arith}
use Rattle.mg_version.specs.declared.cell.Cell.TheVariants as cells
use Rattle.mg_version.proofs.CellFaults.{only_cell, refuses_kind}
use Rattle.mg_version.proofs.reading.read_cell.Goals as goal

pub returns-in_ok-read_anchor-in-1-clause-only : goal.returns-in_ok-read_anchor-in-1-clause-only
returns-in_ok-read_anchor-in-1-clause-only c =
    λ cell is. only_cell c.args.b.now
    (cells.Anchor c.in_ok-read_anchor-in-1.field-0) c.in_ok-read_anchor-in-1.ensures cell is

pub returns-in_ok-read_version-in-2-clause-only : goal.returns-in_ok-read_version-in-2-clause-only
returns-in_ok-read_version-in-2-clause-only c =
    λ cell is. only_cell c.args.b.now
    (cells.Version c.in_ok-read_version-in-2.field-0) c.in_ok-read_version-in-2.ensures cell is

pub returns-in_default-clause-refused : goal.returns-in_default-clause-refused
returns-in_default-clause-refused c = refuses_kind c.args.b.now (omega (
  arith,
  c.byte_at.ensures,
)) (omega (arith, c.byte_at.ensures))

pub returns-in_default-clause-only : goal.returns-in_default-clause-only
returns-in_default-clause-only c = λ cell is. absurd ((refuses_kind c.args.b.now (omega (
  arith,
  c.byte_at.ensures,
)) (omega (arith, c.byte_at.ensures))).none cell is)
