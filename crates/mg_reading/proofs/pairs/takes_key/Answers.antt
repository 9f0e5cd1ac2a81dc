use Rattle.std.proofs.Common.{inl, refl}
use Rattle.mg_image.specs.RecordRules.{IsInLimbo}
use Rattle.mg_reading.specs.Found.{ShowsRow, image_facts}
use Rattle.mg_reading.proofs.RefusalLemmas.{second_alone}
use Rattle.mg_reading.proofs.pairs.takes_key.Goals as goal

pub returns-then-shows_row : goal.returns-then-shows_row
returns-then-shows_row c = (
  λ passed. inl (c.shows_row.ensures.0 c.if-shows_row.true),
  λ takes. refl,
)

pub returns : goal.returns
returns c = second_alone (ShowsRow (image_facts c.args.image.now) c.args.entries.now)
    (IsInLimbo (image_facts c.args.image.now) c.args.entries.now) c.is_in_limbo.result
    (λ shows. absurd (let passed = c.shows_row.ensures.1 shows in
    let failed = c.if-shows_row.false in cc))
    c.is_in_limbo.ensures
