use Rattle.std.proofs.Common.{refl}
use Rattle.std.proofs.lemmas.Bool.{false≢true}
use Rattle.mg_reading.specs.Found.{image_facts}
use Rattle.mg_reading.proofs.TakenLemmas.{some_entry}
use Rattle.mg_reading.proofs.pairs.take_one_key.Goals as goal

pub returns-then-not-takes_key : goal.returns-then-not-takes_key
returns-then-not-takes_key c = (
  λ passed. absurd (false≢true passed),
  λ all. c.if-not-takes_key.ensures.1 all.0,
)

pub returns-then-not-takes_key-2 : goal.returns-then-not-takes_key-2
returns-then-not-takes_key-2 c = (
  λ passed. absurd (false≢true passed),
  λ all. c.if-not-takes_key-2.ensures.1 all.1,
)

pub share_key-requires-clause-first : goal.share_key-requires-clause-first
share_key-requires-clause-first c =
    some_entry (image_facts c.args.image.now) c.args.a.now (c.if-not-takes_key.ensures.0 refl)

pub share_key-requires-clause-second : goal.share_key-requires-clause-second
share_key-requires-clause-second c =
    some_entry (image_facts c.args.image.now) c.args.b.now (c.if-not-takes_key-2.ensures.0 refl)

pub returns : goal.returns
returns c = (
  λ same. (c.if-not-takes_key.ensures.0 refl, c.if-not-takes_key-2.ensures.0 refl, c.share_key.ensures.0 same),
  λ all. c.share_key.ensures.1 all.2,
)
