use Rattle.std.proofs.Common.{rules}
use Rattle.mg_reading.specs.ImageView.{pages_in}
use Rattle.mg_reading.proofs.CellLemmas.{version_short}
use Rattle.mg_reading.proofs.versions.version_at.Goals as goal

pub returns-then-version-link-clause-short : goal.returns-then-version-link-clause-short
returns-then-version-link-clause-short c = version_short c.args.image.now.size
    (pages_in c.args.image.now) c.args.owner c.args.data_pages.now c.args.link.rec
    c.in-Version.version c.requires c.in_ok-cell.ensures.placed (search rules)
