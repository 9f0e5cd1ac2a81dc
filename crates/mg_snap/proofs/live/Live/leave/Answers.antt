use Rattle.std.proofs.Common.{List, ◌∙◌, ap}
use Rattle.mg_snap.specs.Live.{Entered, State, after_leave}
use Rattle.mg_snap.specs.Room.{all_entered}
use Rattle.mg_snap.proofs.RoomLemmas.{entered_left, table_left}
use Rattle.mg_snap.proofs.live.Live.leave.Goals as goal

pub invariant_of-self : goal.invariant_of-self
invariant_of-self c = rw (c.drop_number.ensures, c.drop_entry.ensures) (table_left _ _ _ _ c.self.invariant)

pub returns : goal.returns
returns c =
    let left = ap all_entered c.drop_entry.ensures ∙ entered_left c.args.t.0 c.self.inside.entries.items in
    ap (λ (es : List Entered). record { next = c.self.inside.next; entered = es }) left
    ∙ ap (λ (s : State). after_leave s c.args.t.0) c.self.view_is
