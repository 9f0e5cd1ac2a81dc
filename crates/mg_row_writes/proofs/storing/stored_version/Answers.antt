use Rattle.std.proofs.Common.{subst}
use Rattle.mg_records.specs.Writing.{FitsShape}
use Rattle.mg_records.specs.declared.write.Write.{Write}
use Rattle.mg_row_writes.proofs.StoredLemmas.{erased_fits}
use Rattle.mg_row_writes.proofs.storing.stored_version.Goals as goal

pub version_of-requires-in-Erase : goal.version_of-requires-in-Erase
version_of-requires-in-Erase c = rw (c.in_ok-shape-in-Erase.ensures, c.in_ok-row-in-Erase.ensures, c.value.ensures.value)
    (erased_fits c.args.table.now.shape.key c.in-Erase.key c.args.table.now.shape.columns c.value.ensures.not_null
    (subst (λ (w : Write). FitsShape c.args.table.now.shape w) c.in-Erase.is c.requires.fits))
