use Rattle.std.proofs.Common.{◌∷◌, sym, refl, ap, ◌∙◌, Some}
use Rattle.atomic_table.specs.Table.{rest}
use Rattle.mg_turn.specs.declared.rule.Deed.{Deed}
use Rattle.mg_turn.specs.declared.rule.Slot.{Slot}
use Rattle.mg_turn.proofs.steps.make.Goals as goal

pub slot_mut-held-requires : goal.slot_mut-held-requires
slot_mut-held-requires g c = let t = c.requires.held in (c.requires.table, (t.0, t.1 ∙ ap (λ l. (0, t.0) ∷ rest l) (sym t.1)))

pub returns-clause-made : goal.returns-clause-made
returns-clause-made g c =
    let t = c.requires.held in
    let none_else = ap rest t.1 in
    let held = c.slot_mut-held.result.now in
    let d : Deed g.row.V-Call.Denot g.row.V-Reply.Denot = record { call = c.of-about.result; reply = c.of.result } in
    let y : Slot g.row.V.Denot g.row.V-Call.Denot g.row.V-Reply.Denot = record { value = c.serve-reply.new.self; last = Some d } in
    (held, y, c.slot_mut-held.ensures.value ∙ ap (λ l. (0, held) ∷ l) none_else, ap (λ l. (c.args.seat.now.me.0, (0, y) ∷ l)) none_else, (d, refl, c.of-about.ensures, c.of.ensures, c.serve-reply.ensures))
