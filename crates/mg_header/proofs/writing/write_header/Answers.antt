use Rattle.std.proofs.Common.{arith}
use Rattle.mg_header.specs.HeaderPage.{WritesHeader}
use Rattle.mg_header.specs.HeaderPageLaws.{written_again}
use Rattle.mg_header.proofs.HeaderPageLemmas.{Fits, writes_header}
use Rattle.mg_header.proofs.writing.write_header.Goals as goal

pub returns : goal.returns
returns c =
    let fits : Fits c.args.h.now = record {
      minor = omega arith;
      next = omega arith;
      oit = omega arith;
      oat = omega arith;
      ost = omega arith;
      last_tip = omega arith;
      interval = omega arith;
      catalog = omega arith;
    } in
    let written : WritesHeader c.args.b.now c.put_u32-9.new.b c.args.h.now =
    rw (
      c.put_u32-9.ensures,
      c.put_u32-8.ensures,
      c.put_u32-7.ensures,
      c.put_u32-6.ensures,
      c.put_u32-5.ensures,
      c.put_u32-4.ensures,
      c.put_u32-3.ensures,
      c.put_u32-2.ensures,
      c.put_u16-2.ensures,
      c.put_u16.ensures,
      c.put_u32.ensures,
    )
    (writes_header c.args.b.now c.args.h.now fits c.requires.least c.requires.most) in
    record {
      written = written;
      read_again = λ minor markers common. written_again c.args.b.now c.put_u32-9.new.b
          c.args.h.now written minor markers common;
    }
