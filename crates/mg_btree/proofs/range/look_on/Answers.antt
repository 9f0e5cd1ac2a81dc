use Rattle.std.proofs.Common.{rules, refl, Some, None}
use Rattle.std.specs.Option.{option_copied}
use Rattle.mg_btree.specs.Ranges.{FoundOn}
use Rattle.mg_btree.proofs.range.look_on.Goals as goal

pub returns-in-Some : goal.returns-in-Some
returns-in-Some c = (
  Some c.in-Some.e,
  c.step_at.ensures,
  rw (c.in-Some.is, c.deref.ensures.value) at c.in_ok-e.ensures,
)

pub returns-then-leaf-eq0 : goal.returns-then-leaf-eq0
returns-then-leaf-eq0 c =
    let last : FoundOn c.args.low.now (option_copied c.args.after) c.args.leaf None = (
      rw (c.in_default.is, c.deref.ensures.value) at c.in_ok-e.ensures,
      (search rules),
    ) in
    (None, c.step_at-then-leaf-eq0.ensures, last)

pub returns : goal.returns
returns c = (refl, (search rules), rw (c.in_default.is, c.deref.ensures.value) at c.in_ok-e.ensures)
