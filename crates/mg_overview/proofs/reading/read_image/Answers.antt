use Rattle.std.proofs.Common.{◌∙◌}
use Rattle.mg_overview.proofs.ReadingLemmas.{whole_image}
use Rattle.mg_overview.proofs.reading.read_image.Goals as goal

pub returns-clause-image : goal.returns-clause-image
returns-clause-image g c = λ image held.
    let here = c.pages.ensures.calm.held ∙ (c.page_size.ensures.calm.held ∙ held) in
    whole_image g.D.Disk.meaning g.met.D.Disk.counted c.pages.new.self image
    c.in-Ok-read_pages.pages.items c.in-Ok-pages.count c.min.result here
    c.in-Ok-pages.ensures.count c.min.ensures (c.in-Ok-read_pages.ensures.image image here)
