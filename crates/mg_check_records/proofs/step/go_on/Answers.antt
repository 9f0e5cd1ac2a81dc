use Rattle.mg_base.specs.Image.{page_at}
use Rattle.mg_check_records.proofs.StepLemmas.{met_inside, met_result, met_short}
use Rattle.mg_check_records.proofs.step.go_on.Goals as goal

pub take_version-requires-clause-short : goal.take_version-requires-clause-short
take_version-requires-clause-short c = met_short c.args.size c.args.pages.now
    c.args.table.now.pointer.0 c.args.data_pages.now c.args.link c.in_ok-version.field-0
    c.in-Version.version c.requires.tested c.in-Some.ensures.there c.in_ok-version.ensures
    c.in-Version.is

pub take_version-requires-clause-inside : goal.take_version-requires-clause-inside
take_version-requires-clause-inside c = met_inside c.args.size c.args.pages.now
    c.args.table.now.pointer.0 c.args.data_pages.now c.args.marks.now c.args.link
    c.in_ok-version.field-0 c.in-Version.version c.mark_of-at.result c.in-Some.place
    c.requires.image c.requires.tested c.in-Some.ensures c.in_ok-version.ensures c.in-Version.is
    c.mark_of-at.ensures c.requires.marks

pub returns : goal.returns
returns c = met_result c.args.size c.args.pages.now c.args.table.now c.args.data_pages.now
    c.args.marks.now c.take_version.new.marks c.args.holder c.args.link c.in_ok-version.field-0
    c.in-Version.version c.mark_of-at.result c.in-Some.place c.take_version.result c.requires.image
    c.requires.tested c.in-Some.ensures c.in_ok-version.ensures c.in-Version.is
    c.mark_of-at.ensures c.requires.marks c.take_version.ensures
