use Rattle.std.proofs.Common.{◌∙◌, sym}
use Rattle.mg_header.specs.HeaderPage.{reading}
use Rattle.mg_reading.proofs.WantedLemmas.{header_unread, header_where_read}
use Rattle.mg_reading.proofs.image.Image.has_header.Goals as goal

pub returns-then-is_ok : goal.returns-then-is_ok
returns-then-is_ok c = header_where_read c.args.self.now.size c.args.self.now.pages.items
    c.args.self.now.blank c.open_header.result c.is_used.result c.args.self.now.kept
    (c.open_header.ensures ∙ (λ i. reading (c.page.ensures.page i) (c.size.ensures.size i)))
    (sym c.is_ok.ensures.value ∙ c.if-is_ok.true) c.is_used.ensures

pub returns-else-is_ok : goal.returns-else-is_ok
returns-else-is_ok c = (
  λ passed. absurd (let no_ = c.if-is_ok.false in cc),
  λ has. absurd (header_unread c.args.self.now.size c.args.self.now.pages.items
      c.open_header.result
      (c.open_header.ensures ∙ (λ i. reading (c.page.ensures.page i) (c.size.ensures.size i)))
      (sym c.is_ok.ensures.value ∙ c.if-is_ok.false) has),
)
