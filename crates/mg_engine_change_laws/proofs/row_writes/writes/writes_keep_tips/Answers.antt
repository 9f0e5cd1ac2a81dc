use Rattle.mg_image.specs.Form.{packed_form}
use Rattle.mg_engine_change_laws.specs.rows.TipLaws as laws
use Rattle.mg_engine_change_laws.proofs.row_writes.writes.writes_keep_tips.Goals as goal

pub returns-clause-growth : goal.returns-clause-growth
returns-clause-growth c = laws.growth_keeps_tips c.tips_stay.ensures.on c.tips_stay.ensures.behind packed_form
    c.one_reading.ensures.packed_rows (λ page n is. is)

pub returns-clause-pushes : goal.returns-clause-pushes
returns-clause-pushes c = laws.pushes_keep_tips c.tips_stay.ensures.on c.tips_stay.ensures.behind packed_form
    c.one_reading.ensures.packed_rows (λ page n is. is)

pub returns-clause-firsts : goal.returns-clause-firsts
returns-clause-firsts c = laws.firsts_keep_tips c.tips_stay.ensures.on c.tips_stay.ensures.behind packed_form
    c.one_reading.ensures.packed_rows (λ page n is. is)

pub returns-clause-moves : goal.returns-clause-moves
returns-clause-moves c = laws.moves_keep_tips c.tips_stay.ensures.on c.tips_stay.ensures.behind packed_form
    c.one_reading.ensures.packed_rows (λ page n is. is)

pub returns-clause-replacements : goal.returns-clause-replacements
returns-clause-replacements c = laws.replacements_keep_tips c.tips_stay.ensures.on c.tips_stay.ensures.behind packed_form
    c.one_reading.ensures.packed_rows (λ page n is. is)

pub returns-clause-out : goal.returns-clause-out
returns-clause-out c = laws.taking_out_keeps_tips c.tips_stay.ensures.on c.tips_stay.ensures.behind packed_form
    c.one_reading.ensures.packed_rows (λ page n is. is)
