use Rattle.std.proofs.Common.{List, ◌∙◌, ap, sym}
use Rattle.mg_snap.specs.Live.{Entered, State, after_retract, is_among, unended_in}
use Rattle.mg_snap.specs.Room.{all_entered}
use Rattle.mg_snap.proofs.RoomLemmas.{entered_left, table_retracted}
use Rattle.mg_snap.proofs.live.Live.retract.Goals as goal

pub invariant_of-self : goal.invariant_of-self
invariant_of-self c = rw (c.drop_number.ensures, c.drop_entry.ensures) (table_retracted c.self.inside.next c.args.t.0 c.self.inside.numbers.items c.self.inside.entries.items c.self.invariant (λ u there. c.requires u (ap (λ (s : State). is_among (unended_in s) u) (sym c.self.view_is) ∙ there)))

pub returns : goal.returns
returns c =
    let left = ap all_entered c.drop_entry.ensures ∙ entered_left c.args.t.0 c.self.inside.entries.items in
    ap (λ (es : List Entered). record { next = c.args.t.0; entered = es }) left
    ∙ ap (λ (s : State). after_retract s c.args.t.0) c.self.view_is
