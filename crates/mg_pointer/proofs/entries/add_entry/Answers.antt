use Rattle.std.proofs.Common.{◌<◌, ◌≤◌, length, refl, arith}
use Rattle.mg_pointer.specs.PointerPage.{capacity, count_in, entries_of}
use Rattle.mg_pointer.specs.PointerPageLaws.{length-entries_of}
use Rattle.mg_pointer.proofs.PointerPageLemmas.{adds_entry}
use Rattle.mg_pointer.proofs.entries.add_entry.Goals as goal

pub returns-then-count-capacity-clause-room : goal.returns-then-count-capacity-clause-room
returns-then-count-capacity-clause-room c =
    let full : capacity (length c.args.b.now) ≤ length (entries_of c.args.b.now) =
    omega (arith, length-entries_of c.args.b.now, c.get_u16-count.ensures, c.capacity.ensures) in
    (λ is_true. absurd cc, λ room. absurd (omega arith))

pub returns-clause-room : goal.returns-clause-room
returns-clause-room c =
    let room : length (entries_of c.args.b.now) < capacity (length c.args.b.now) =
    omega (arith, length-entries_of c.args.b.now, c.get_u16-count.ensures, c.capacity.ensures) in
    (λ is_true. room, λ room. refl)

pub returns-clause-added : goal.returns-clause-added
returns-clause-added c =
    let room : count_in c.args.b.now < capacity (length c.args.b.now) =
    omega (arith, c.get_u16-count.ensures, c.capacity.ensures) in
    rw (
      c.put_u16.ensures,
      c.put_u32.ensures,
      c.get_u16-count.ensures,
    ) (adds_entry c.args.b.now c.args.p.0 c.requires room (omega arith))
