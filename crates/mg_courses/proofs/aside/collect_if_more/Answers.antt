use Rattle.std.proofs.Common.{refl}
use Rattle.mg_courses.specs.declared.statements.Stepped.TheVariants.{Ended, Waits}
use Rattle.mg_courses.specs.Aside.{let_be}
use Rattle.mg_courses.proofs.aside.collect_if_more.Goals as goal

pub returns-in-More : goal.returns-in-More
returns-in-More g c = rw c.in-More.is c.collect_now.ensures

pub returns-in-Waits : goal.returns-in-Waits
returns-in-Waits g c = rw c.in-Waits.is (let_be (Waits c.in-Waits.on) refl refl)

pub returns-in-Ended : goal.returns-in-Ended
returns-in-Ended g c = rw c.in-Ended.is (let_be (Ended c.in-Ended.ending) refl refl)
