-- No more page writes pass than may.
use Rattle.std.proofs.Common.{◌≡◌, ◌<◌, ◌≤◌, ◌+◌, ◌-◌, ℕ, ap, ◌∙◌, arith}
use Rattle.std.specs.Prelude.{min}
use Rattle.mg_base.specs.Disk.{Meaning}
use Rattle.mg_fuse.specs.Stopped.{IsNewlyStopped, StoppedDisksAreAskedForNoMore, StopsWithin, most_asked, stopped_meaning}
use Rattle.mg_fuse.specs.declared.stopped.Stopped.{Stopped}

at_most : (end most a b left : ℕ) → min (b + left) end ≡ min (a + most) end → min b end ≤ a + most
at_most end most a b left same = omega (arith, same)

pub asked_for_no_more : {D : Type 0} (m : Meaning D) (counts_to : ℕ) → StoppedDisksAreAskedForNoMore m counts_to
asked_for_no_more {D} m counts_to inner most old new newly stands = record {
  at_most = at_most counts_to most (m.asked inner) (m.asked new.inner) (new.most - new.passed) same;
  all = λ some. all_passed (new.fuse.spent some);
}
  where
    begins : most_asked m counts_to old ≡ min (m.asked inner + most) counts_to
    begins = let its_most = newly.its_most in let none = newly.none_passed in
        let counted : m.asked old.inner ≡ m.asked inner = ap m.asked newly.its_inner in
        omega (arith, its_most, none, counted)

    same : most_asked m counts_to new ≡ min (m.asked inner + most) counts_to
    same = let is : most_asked m counts_to new ≡ most_asked m counts_to old = cc in is ∙ begins

    all_passed : new.passed ≡ new.most → min (m.asked new.inner) counts_to ≡ min (m.asked inner + most) counts_to
    all_passed spent = ap (λ (n : ℕ). min n counts_to) none_left ∙ same
      where
        none_left : m.asked new.inner ≡ m.asked new.inner + (new.most - new.passed)
        none_left = omega (arith, spent)
