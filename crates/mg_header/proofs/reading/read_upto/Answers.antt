use Rattle.std.proofs.Common.{sym}
use Rattle.mg_header.proofs.HeaderPageLemmas.{reading_damaged, reading_foreign, reading_sound}
use Rattle.mg_header.proofs.reading.read_upto.Goals as goal

pub returns-in-Err : goal.returns-in-Err
returns-in-Err c = sym (reading_foreign c.args.b.now c.args.minor c.args.size c.in-Err.damage
    (sym c.in-Err.ensures))

pub returns-in-Err-check_page : goal.returns-in-Err-check_page
returns-in-Err-check_page c = sym
    (reading_damaged c.args.b.now c.args.minor c.args.size c.in-Err-check_page.damage
    (sym c.in_default.ensures) (sym c.in-Err-check_page.ensures))

pub returns : goal.returns
returns c = rw c.header_of.ensures (sym (reading_sound c.args.b.now c.args.minor c.args.size
    (sym c.in_default.ensures) (sym c.in_default-check_page.ensures)))
