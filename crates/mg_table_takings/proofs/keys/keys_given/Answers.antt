use Rattle.std.proofs.Common.{sym, ◌∙◌}
use Rattle.mg_taking_back.specs.TakingLaws.{fewer_left}
use Rattle.mg_table_takings.proofs.KeyLemmas.{all_given, leads_step}
use Rattle.mg_table_takings.proofs.keys.keys_given.Goals as goal

pub loop-change-smaller : goal.loop-change-smaller
loop-change-smaller c = fewer_left c.loop-change.left c.take_back.new.self c.in-Some.change.0 c.in-Some.change.1
    c.in-Some.change.2 (sym c.in-Some.is ∙ c.take_back.ensures.given) c.take_back.ensures.after

pub loop-change-preserved : goal.loop-change-preserved
loop-change-preserved c = leads_step c.args.number c.args.undo c.loop-change.left c.take_back.new.self
    c.loop-change.keys.items c.note_key.new.keys.items c.in-Some.change.0 c.in-Some.change.1 c.in-Some.change.2
    (sym c.in-Some.is ∙ c.take_back.ensures.given) c.take_back.ensures.after c.in_ok-note_key.ensures
    c.loop-change.invariant

pub loop-change-smaller-in_ok-note_key : goal.loop-change-smaller-in_ok-note_key
loop-change-smaller-in_ok-note_key c = fewer_left c.loop-change.left c.take_back.new.self c.in-Some.change.0 c.in-Some.change.1
    c.in-Some.change.2 (sym c.in-Some.is ∙ c.take_back.ensures.given) c.take_back.ensures.after

pub loop-change-preserved-in_ok-note_key : goal.loop-change-preserved-in_ok-note_key
loop-change-preserved-in_ok-note_key c = leads_step c.args.number c.args.undo c.loop-change.left c.take_back.new.self
    c.loop-change.keys.items c.note_key.new.keys.items c.in-Some.change.0 c.in-Some.change.1 c.in-Some.change.2
    (sym c.in-Some.is ∙ c.take_back.ensures.given) c.take_back.ensures.after c.in_ok-note_key.ensures
    c.loop-change.invariant

pub returns : goal.returns
returns c = all_given c.args.number c.args.undo c.loop-change.left c.loop-change.keys.items
    (sym c.in_default.is ∙ c.take_back.ensures.given) c.loop-change.invariant
