use Rattle.std.proofs.Common.{◌∙◌, ap, ℕ, List}
use Rattle.mg_base.specs.Fields.{u32_at}
use Rattle.mg_base.specs.declared.fields.TheConstants.{SEQUENCE_AT}
use Rattle.mg_reading.specs.ImageView.{pages_in}
use Rattle.mg_image.specs.Sound.{IsTablePointer}
use Rattle.mg_reading.proofs.WantedLemmas.{neither, pointer_at}
use Rattle.mg_reading.proofs.image.Image.is_pointer.Goals as goal

pub returns-then-place-at-clause-wanted : goal.returns-then-place-at-clause-wanted
returns-then-place-at-clause-wanted c = neither
    (IsTablePointer c.args.self.now.size (pages_in c.args.self.now) c.args.owner c.args.at c.args.n)
    (λ is. c.if-place-at.true (c.get_u32-place.ensures
    ∙ (ap (λ (b : List ℕ). u32_at b SEQUENCE_AT) c.page.ensures.page
    ∙ pointer_at c.args.self.now.size (pages_in c.args.self.now) c.args.owner c.args.at c.args.n
    is)))
