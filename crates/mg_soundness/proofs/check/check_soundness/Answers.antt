use Rattle.mg_layout.specs.Standing.{layout_in}
use Rattle.mg_soundness.proofs.WholeLemmas.{first_of_all, one_of_coding, sound_of_all, tested_of}
use Rattle.mg_soundness.proofs.check.check_soundness.Goals as goal

pub check_records-requires-clause-tested : goal.check_records-requires-clause-tested
check_records-requires-clause-tested c = tested_of c.args.coding c.args.image.now
    (layout_in c.in_ok-standing.standing) c.in_ok-standing.ensures.standing

pub check_records-requires-clause-catalog : goal.check_records-requires-clause-catalog
check_records-requires-clause-catalog c = c.in_ok-standing.ensures.standing.pages.catalog

pub returns-clause-sound : goal.returns-clause-sound
returns-clause-sound c = sound_of_all c.args.coding (one_of_coding c.args.coding
    c.one_reading.ensures.plain c.one_reading.ensures.packed) c.args.image.now
    (layout_in c.in_ok-standing.standing) c.in_ok-standing.ensures.standing
    c.check_records.result c.check_records.ensures.met

pub returns-clause-broken : goal.returns-clause-broken
returns-clause-broken c = first_of_all c.args.coding c.args.image.now
    (layout_in c.in_ok-standing.standing) c.in_ok-standing.ensures.standing
    c.check_records.result c.check_records.ensures.broken
