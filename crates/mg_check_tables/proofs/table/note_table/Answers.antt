use Rattle.std.proofs.Common.{inl, length}
use Rattle.mg_base.specs.Image.{page_at}
use Rattle.mg_check_tables.proofs.ChainLemmas.{some_adds, some_decided, some_one, zero_adds, zero_one}
use Rattle.mg_check_tables.proofs.table.note_table.Goals as goal

pub returns-then-first-eq0-clause-adds : goal.returns-then-first-eq0-clause-adds
returns-then-first-eq0-clause-adds c = zero_adds c.args.size (page_at c.args.size c.args.pages.now)
    (length c.args.pages.now) c.args.holder c.args.first c.args.findings.now.items
    c.note.new.findings.items c.check_link.result c.note.result c.if-first-eq0.true
    c.check_link.ensures.test c.note.ensures.adds

pub returns-then-first-eq0-clause-cause : goal.returns-then-first-eq0-clause-cause
returns-then-first-eq0-clause-cause c = λ failed. zero_one c.args.size
    (page_at c.args.size c.args.pages.now) (length c.args.pages.now) c.args.holder c.args.first
    c.if-first-eq0.true

pub returns-then-first-eq0-clause-decided : goal.returns-then-first-eq0-clause-decided
returns-then-first-eq0-clause-decided c = inl (zero_one c.args.size
    (page_at c.args.size c.args.pages.now) (length c.args.pages.now) c.args.holder c.args.first
    c.if-first-eq0.true)

pub returns-clause-adds : goal.returns-clause-adds
returns-clause-adds c = some_adds c.args.size (page_at c.args.size c.args.pages.now)
    (length c.args.pages.now) c.args.holder c.args.first c.args.findings.now.items
    c.note_chain.new.findings.items c.note_chain.result c.if-first-eq0.false
    c.note_chain.ensures.adds

pub returns-clause-cause : goal.returns-clause-cause
returns-clause-cause c = λ failed. some_one c.args.size (page_at c.args.size c.args.pages.now)
    (length c.args.pages.now) c.args.holder c.args.first (c.note_chain.ensures.cause failed)

pub returns-clause-decided : goal.returns-clause-decided
returns-clause-decided c = some_decided c.args.size (page_at c.args.size c.args.pages.now)
    (length c.args.pages.now) c.args.holder c.args.first c.if-first-eq0.false
    c.note_chain.ensures.decided
