use Rattle.std.proofs.Common.{ap, List, ℕ, [], ◌∷◌, get_or}
use Rattle.mg_catalog.proofs.TextLemmas.{tail_is, text_is, too_short}
use Rattle.mg_catalog.proofs.keys.table_and_place.Goals as goal

pub returns-then-text-lt3 : goal.returns-then-text-lt3
returns-then-text-lt3 c = λ table place is. too_short c.args.text.now table place c.if-text-lt3.true is

pub returns-then-tail-ne46 : goal.returns-then-tail-ne46
returns-then-tail-ne46 c = λ table place is. c.if-tail-ne46.true (ap (λ (xs : List ℕ). get_or xs 0 0)
    (tail_is c.args.text.now c.split_at.result.0.now c.split_at.result.1.now c.if-text-lt3.false
    c.split_at.ensures.front c.split_at.ensures.back table place is))

pub returns-in_default : goal.returns-in_default
returns-in_default c = λ table place is. c.in_default.ensures place
    (ap (λ (xs : List ℕ). get_or xs 1 0 ∷ get_or xs 2 0 ∷ [])
    (tail_is c.args.text.now c.split_at.result.0.now c.split_at.result.1.now c.if-text-lt3.false
    c.split_at.ensures.front c.split_at.ensures.back table place is))

pub returns : goal.returns
returns c = text_is c.args.text.now c.split_at.result.0.now c.split_at.result.1.now c.if-text-lt3.false
    c.split_at.ensures.front c.split_at.ensures.back c.in-Some.place c.if-tail-ne46.false c.in-Some.ensures
