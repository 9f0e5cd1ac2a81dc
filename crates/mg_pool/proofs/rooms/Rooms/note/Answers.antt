use Rattle.std.proofs.Common.{◌∙◌, ℕ, ap, set}
use Rattle.mg_pool.proofs.RoomsLemmas.{notes_room}
use Rattle.mg_pool.proofs.rooms.Rooms.note.Goals as goal

pub returns : goal.returns
returns c = notes_room c.args.self.now c.put.new.self c.args.page c.args.room
    (c.put.ensures ∙ ap (λ (n : ℕ). set c.args.self.now c.args.page n) c.note_of.ensures)
