use Rattle.std.proofs.Common.{arith}
use Rattle.std.proofs.lemmas.Result.{err_from_is_err_and}
use Rattle.mg_version.proofs.CellSpelled.{version_spelled}
use Rattle.mg_version.specs.CellReading.{version_in}
use Rattle.mg_version.proofs.reading.version_at.Goals as goal

pub returns-in_err-rest_of : goal.returns-in_err-rest_of
returns-in_err-rest_of c =
    let p = err_from_is_err_and c.from_residual.result c.from_residual.ensures.1 in
    rw (p.1, p.2) (
      version_in c.args.b.now,
      version_spelled c.args.b.now (λ i. omega (
        arith,
        c.type_inv.b i,
      )) c.requires.kind c.requires.head,
    )

pub returns : goal.returns
returns c =
    rw (
      c.byte_at.ensures,
      c.get_u16.ensures,
      c.get_u32.ensures,
      c.back_of.ensures,
      c.in_ok-rest_of.ensures,
      c.body_at.ensures,
    )
    (version_spelled c.args.b.now (λ i. omega (
      arith,
      c.type_inv.b i,
    )) c.requires.kind c.requires.head)
