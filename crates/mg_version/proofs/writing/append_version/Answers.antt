use Rattle.std.proofs.Common.{sym}
use Rattle.mg_version.proofs.writing.append_version.Goals as goal

pub returns-clause-fits : goal.returns-clause-fits
returns-clause-fits c =
    let body = c.as_slice.ensures in
    record {
      moved = c.requires.0;
      stored = c.requires.1;
      format = c.head_array.ensures.format;
      tx = c.head_array.ensures.tx;
      back = c.in_ok-append_back.ensures.fits;
      body = λ i. rw (sym body) (c.append_row.ensures.fits i);
    }
