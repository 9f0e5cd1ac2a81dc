use Rattle.std.proofs.Common.{◌≡◌, ◌∙◌, ℕ, ap, inl, inr, subst, sym}
use Rattle.mg_pool.specs.Pool.{shown}
use Rattle.mg_slots.specs.Room.{room_of}
use Rattle.mg_pool.proofs.RoomsLemmas.{noted_then, room_shown}
use Rattle.mg_pool.proofs.pool.Pool.note_room.Goals as goal

pub returns-clause-pool : goal.returns-clause-pool
returns-clause-pool g c =
    let pool = c.requires.pool in
    record {
      size = pool.size;
      page_size = pool.page_size;
      room = pool.room;
      few = pool.few;
      graph_room = pool.graph_room;
      tied = pool.tied;
      apart = pool.apart;
      whole = pool.whole;
      on_disk = pool.on_disk;
      counted = pool.counted;
      clean = pool.clean;
      below = pool.below;
      kept_below = pool.kept_below;
      within = pool.within;
      noted = λ told image held p n there.
          elim (noted_then c.args.self.now.rooms c.note.new.self c.args.page.0 c.args.room c.note.ensures p n there) [
            | inl before ↦ pool.noted told image held p n before
            | inr this ↦ this.1 ∙ (room_shown g.D.Disk.meaning c.args.self.now pool told image held c.args.page.0 c.args.room c.requires.room
                ∙ ap (λ (q : ℕ). room_of (shown c.args.self.now.dirty image q)) (sym this.0))
          ];
    }
