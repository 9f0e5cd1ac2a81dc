use Rattle.std.proofs.Common.{arith}
use Rattle.mg_base.specs.Image.{page_at}
use Rattle.mg_check_records.proofs.PlaceLemmas.{none_other, none_past, place_is}
use Rattle.mg_check_records.proofs.places.place_of.Goals as goal

pub returns-then-at-data_pages : goal.returns-then-at-data_pages
returns-then-at-data_pages c = none_past c.args.size (page_at c.args.size c.args.pages.now)
    c.args.owner c.args.data_pages.now c.requires.tested c.args.n c.sequence_of-at.result
    c.sequence_of-at.ensures (omega (arith, c.if-at-data_pages.true))

pub returns-then-data_pages-at : goal.returns-then-data_pages-at
returns-then-data_pages-at c = none_other c.args.size (page_at c.args.size c.args.pages.now)
    c.args.owner c.args.data_pages.now c.requires.tested c.args.n c.sequence_of-at.result
    c.sequence_of-at.ensures c.if-data_pages-at.true

pub returns : goal.returns
returns c = place_is c.args.size (page_at c.args.size c.args.pages.now)
    c.args.owner c.args.data_pages.now c.requires.tested c.args.n c.sequence_of-at.result
    c.sequence_of-at.ensures (omega (arith, c.if-at-data_pages.false)) c.if-data_pages-at.false
