-- The way that is left decides, with the turns that are left.
use Rattle.std.proofs.Common.{◌≡◌, ◌-◌, length}
use Rattle.mg_model.specs.Answers.{leads_to, waits_on, closes}
use Rattle.mg_plain.specs.Kept.{kept}
use Rattle.mg_plain.specs.Keeping.{told_in}
use Rattle.mg_plain.proofs.plain.Plain.closes.Given as goal

abbrev pub invariant-loop : goal.invariant-loop
invariant-loop l =
    (leads_to (waits_on (told_in (kept l.self))) (l.end - l.counter) l.at l.t
    ≡ closes (told_in (kept l.self)) l.t l.u)
    × (l.end ≡ length l.self.known.items)
