-- What a write rests on.
use Rattle.std.proofs.Common.{◌≡◌, ◌+◌, ℕ, Option, Some, None, ap, arith, inl, inr}
use Rattle.mg_base.specs.Disk.{Rose}

pub some_is : {A : Type 0} {x y : A} → Some x ≡ Some y → x ≡ y
some_is {A} {x} {y} e = ap (λ (o : Option A). held o) e
  where
    held : Option A → A
    held None = x
    held (Some z) = z

-- a sum has risen where one part has, and the other stands
pub rose_beside : (old new other now : ℕ) → now ≡ other → Rose old new → Rose (old + other) (new + now)
rose_beside old new other now same (inl more) = inl (omega arith)
rose_beside old new other now same (inr end) = inr (omega arith)

pub rose_past : (old new other now : ℕ) → now ≡ other → Rose old new → Rose (other + old) (now + new)
rose_past old new other now same (inl more) = inl (omega arith)
rose_past old new other now same (inr end) = inr (omega arith)
