use Rattle.std.proofs.Common.{◌∙◌, ap, refl, ℕ}
use Rattle.std.specs.Prelude.{Err, max}
use Rattle.mg_space.specs.ViewLaws.{content_on}
use Rattle.mg_survey.proofs.AskingLemmas.{asks_answered, asks_calm, asks_up, calm_content, calm_same, calm_up, has_pages, head_alone, sized_same, surveyed, twice_same}
use Rattle.mg_survey.specs.Survey.{new_pages}
use Rattle.mg_survey.proofs.survey.ask.Goals as goal

pub returns-clause-reads : goal.returns-clause-reads
returns-clause-reads g c = head_alone g.D.Disk.meaning c.args.disk.now c.page_size.new.self c.pages.new.self
    c.is_unmade.new.disk c.in-Ok.size c.page_size.ensures.unread c.pages.ensures.unread
    (c.pages.ensures.calm.held ∙ c.page_size.ensures.calm.held) c.is_unmade.ensures.alone

pub returns-in-Err-clause-same : goal.returns-in-Err-clause-same
returns-in-Err-clause-same g c = calm_same g.D.Disk.meaning c.args.disk.now c.page_size.new.self c.in-Err.ensures.calm

pub returns-in-Err-pages-clause-same : goal.returns-in-Err-pages-clause-same
returns-in-Err-pages-clause-same g c = twice_same g.D.Disk.meaning c.args.disk.now c.page_size.new.self
    c.pages.new.self (calm_same g.D.Disk.meaning c.args.disk.now c.page_size.new.self c.in-Ok.ensures.calm)
    (calm_same g.D.Disk.meaning c.page_size.new.self c.pages.new.self c.in-Err-pages.ensures.calm)

pub returns-in-Err-is_unmade-clause-same : goal.returns-in-Err-is_unmade-clause-same
returns-in-Err-is_unmade-clause-same g c =
    let then_ = calm_same g.D.Disk.meaning c.page_size.new.self c.pages.new.self c.in-Ok-pages.ensures.calm in
    sized_same g.D.Disk.meaning c.args.disk.now c.pages.new.self c.is_unmade.new.disk c.in-Ok.size
    (twice_same g.D.Disk.meaning c.args.disk.now c.page_size.new.self c.pages.new.self
    (calm_same g.D.Disk.meaning c.args.disk.now c.page_size.new.self c.in-Ok.ensures.calm) then_)
    (then_.size c.in-Ok.size c.in-Ok.ensures.size.0) c.is_unmade.ensures.has.sized
    c.is_unmade.ensures.asks.content

pub returns-clause-same : goal.returns-clause-same
returns-clause-same g c =
    let then_ = calm_same g.D.Disk.meaning c.page_size.new.self c.pages.new.self c.in-Ok-pages.ensures.calm in
    sized_same g.D.Disk.meaning c.args.disk.now c.pages.new.self c.is_unmade.new.disk c.in-Ok.size
    (twice_same g.D.Disk.meaning c.args.disk.now c.page_size.new.self c.pages.new.self
    (calm_same g.D.Disk.meaning c.args.disk.now c.page_size.new.self c.in-Ok.ensures.calm) then_)
    (then_.size c.in-Ok.size c.in-Ok.ensures.size.0) c.is_unmade.ensures.has.sized
    c.is_unmade.ensures.asks.content

pub returns-in-Err-clause-asks : goal.returns-in-Err-clause-asks
returns-in-Err-clause-asks g c = asks_calm g.D.Disk.meaning c.args.disk.now c.page_size.new.self (Err
    c.in-Err.fault) c.in-Err.fault refl
    c.in-Err.ensures.calm c.page_size.ensures.no_failed_write

pub returns-in-Err-pages-clause-asks : goal.returns-in-Err-pages-clause-asks
returns-in-Err-pages-clause-asks g c = calm_up g.D.Disk.meaning g.met.D.Disk.counts_now c.args.disk.now
    c.page_size.new.self
    c.pages.new.self (calm_content g.D.Disk.meaning c.args.disk.now c.page_size.new.self c.in-Ok.ensures.calm
    c.page_size.ensures.no_failed_write)
    c.in-Ok.ensures.calm.keeps.steady c.page_size.ensures.no_failed_write (Err c.in-Err-pages.fault) c.in-Err-pages.fault refl
    c.in-Err-pages.ensures.calm c.pages.ensures.no_failed_write

pub is_unmade-requires-clause-has : goal.is_unmade-requires-clause-has
is_unmade-requires-clause-has g c = has_pages g.D.Disk.meaning c.page_size.new.self c.pages.new.self
    c.in-Ok.size c.in-Ok-pages.pages
    c.in-Ok.ensures.size.0 c.in-Ok-pages.ensures.calm c.in-Ok-pages.ensures.count

pub is_unmade-requires-clause-size : goal.is_unmade-requires-clause-size
is_unmade-requires-clause-size g c = c.in-Ok.ensures.size.1

pub returns-in-Err-is_unmade-clause-asks : goal.returns-in-Err-is_unmade-clause-asks
returns-in-Err-is_unmade-clause-asks g c = asks_up g.D.Disk.meaning g.met.D.Disk.counts_now c.args.disk.now
    c.pages.new.self
    c.is_unmade.new.disk (content_on g.D.Disk.meaning g.met.D.Disk.counts_now c.args.disk.now c.page_size.new.self
    c.pages.new.self (calm_content g.D.Disk.meaning c.args.disk.now c.page_size.new.self c.in-Ok.ensures.calm
    c.page_size.ensures.no_failed_write)
    (calm_content g.D.Disk.meaning c.page_size.new.self c.pages.new.self c.in-Ok-pages.ensures.calm
    c.pages.ensures.no_failed_write))
    (c.in-Ok-pages.ensures.calm.keeps.steady ∙ c.in-Ok.ensures.calm.keeps.steady)
    (c.pages.ensures.no_failed_write ∙ c.page_size.ensures.no_failed_write) (Err
    c.in-Err-is_unmade.fault) c.in-Err-is_unmade.fault refl
    c.in-Err-is_unmade.ensures.asks

pub returns-clause-asks : goal.returns-clause-asks
returns-clause-asks g c = asks_answered g.D.Disk.meaning c.args.disk.now c.is_unmade.new.disk _
    (content_on g.D.Disk.meaning g.met.D.Disk.counts_now c.args.disk.now c.pages.new.self c.is_unmade.new.disk
    (content_on g.D.Disk.meaning g.met.D.Disk.counts_now c.args.disk.now c.page_size.new.self
    c.pages.new.self (calm_content g.D.Disk.meaning c.args.disk.now c.page_size.new.self c.in-Ok.ensures.calm
    c.page_size.ensures.no_failed_write)
    (calm_content g.D.Disk.meaning c.page_size.new.self c.pages.new.self c.in-Ok-pages.ensures.calm
    c.pages.ensures.no_failed_write))
    c.is_unmade.ensures.asks.content)
    (c.in-Ok-is_unmade.ensures.asks.steady ∙ (c.in-Ok-pages.ensures.calm.keeps.steady ∙
    c.in-Ok.ensures.calm.keeps.steady))
    (c.is_unmade.ensures.asks.none_failed ∙ (c.pages.ensures.no_failed_write ∙ c.page_size.ensures.no_failed_write))

pub returns-clause-survey : goal.returns-clause-survey
returns-clause-survey g c = surveyed g.D.Disk.meaning g.met.D.Disk.counted c.args.disk.now c.pages.new.self
    c.is_unmade.new.disk
    c.args.limit c.in-Ok.size c.in-Ok-pages.pages _ c.is_unmade.ensures.has.sized c.in-Ok.ensures.size.1
    (c.in-Ok-pages.ensures.calm.held ∙ c.in-Ok.ensures.calm.held) c.in-Ok-pages.ensures.count c.is_unmade.ensures.has.count refl
    (c.max-limit.ensures ∙ ap (λ (n : ℕ). max n new_pages) c.max.ensures)
    c.in-Ok-is_unmade.ensures.unmade
