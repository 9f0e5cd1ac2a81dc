use Rattle.std.proofs.Common.{◌∙◌, ◌<◌, sym, arith}
use Rattle.mg_pointer.specs.PointerPage.{count_in}
use Rattle.mg_pointer.specs.PointerPageLaws.{entry_at, length-entries_of}
use Rattle.mg_pointer.proofs.entries.entry.Goals as goal

pub returns-then-i-get_u16 : goal.returns-then-i-get_u16
returns-then-i-get_u16 c =
    let inside : c.args.i < count_in c.args.b.now = omega (arith, c.get_u16.ensures) in (
      omega (arith, length-entries_of c.args.b.now),
      c.get_u32.ensures ∙
          sym (entry_at c.args.b.now c.args.i inside),
    )

pub returns-else-i-get_u16 : goal.returns-else-i-get_u16
returns-else-i-get_u16 c = omega (arith, length-entries_of c.args.b.now, c.get_u16.ensures)
