use Rattle.std.proofs.Common.{◌∙◌, ap, ℕ, List}
use Rattle.mg_base.specs.Fields.{u32_at}
use Rattle.mg_base.specs.declared.fields.TheConstants.{SEQUENCE_AT}
use Rattle.mg_reading.specs.ImageView.{pages_in}
use Rattle.mg_reading.specs.Readable.{HasSlots}
use Rattle.mg_reading.proofs.WantedLemmas.{neither, slots_at}
use Rattle.mg_reading.proofs.image.Image.is_data.Goals as goal

pub returns-then-place-at : goal.returns-then-place-at
returns-then-place-at c = neither
    (HasSlots c.args.self.now.size (pages_in c.args.self.now) c.args.owner c.args.at c.args.n)
    (λ is. c.if-place-at.true (c.get_u32-place.ensures
    ∙ (ap (λ (b : List ℕ). u32_at b SEQUENCE_AT) c.page.ensures.page
    ∙ slots_at c.args.self.now.size (pages_in c.args.self.now) c.args.owner c.args.at c.args.n
    is)))
