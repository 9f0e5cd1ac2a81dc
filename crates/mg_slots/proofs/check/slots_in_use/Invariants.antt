use Rattle.std.proofs.Common.{◌≡◌, ◌≤◌, not}
use Rattle.mg_slots.specs.Damage.{is_free}
use Rattle.mg_slots.specs.Room.{last_end}
use Rattle.mg_slots.proofs.check.slots_in_use.Given as goal

abbrev pub invariant-loop-end : goal.invariant-loop-end
invariant-loop-end l = record {
  within : l.end ≤ l.count;
  same_end : last_end (λ slot. not (is_free l.b slot)) l.end ≡ last_end (λ slot. not
      (is_free l.b slot)) l.count;
}

abbrev pub decreases-loop-end : goal.decreases-loop-end
decreases-loop-end l = l.end
