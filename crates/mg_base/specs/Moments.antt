-- What every crash since a moment leaves, over a run of calls.
use Rattle.std.specs.Prelude.{◌≡◌, ◌⊎◌, ℕ, ◌≤◌, List, [], ◌∷◌}
use Rattle.std.proofs.Common.{arith, inl, inr}
use Rattle.mg_base.specs.Image.{Image, written}
use Rattle.mg_base.specs.Disk.{Meaning, MayLeave, Elapses}

-- a crash at any moment since old leaves an image that has P
pub record LeavesOnly {D : Type 0} (m : Meaning D) (old new : D) (P : Image → Type 0) : Type 0 where
  pub later : m.moment old ≤ m.moment new
  pub each : (c : Image) → m.left new (m.moment old) c → P c
  -- for a run that began earlier
  pub before : (t : ℕ) (c : Image) → t ≤ m.moment old → m.left new t c → m.left old t c ⊎ P c

-- one of the images from the first on, as page writes are made one after another
abbrev pub Passes : ℕ → Image → List (ℕ × List ℕ) → Image → Type 0
Passes size image [] c = c ≡ image
Passes size image (w ∷ ws) c = (c ≡ image) ⊎ Passes size (written size image w.0 w.1) ws c

-- Laws of runs.

-- nothing has been called yet
pub started : {D : Type 0} (m : Meaning D) (disk : D) (P : Image → Type 0)
    → ((c : Image) → MayLeave m disk c → P c) → LeavesOnly m disk disk P
started m disk P now = record {
  later = omega arith;
  each = now;
  before = λ t c early left. inl left;
}

-- one call more, after which a crash leaves images that have P
pub goes_on : {D : Type 0} (m : Meaning D) (old mid new : D) (P : Image → Type 0)
    → LeavesOnly m old mid P → Elapses m mid new → ((c : Image) → MayLeave m new c → P c)
    → LeavesOnly m old new P
goes_on m old mid new P run elapses now = record {
  later = let first = run.later in let second = elapses.later in omega arith;
  each = λ c left. at c (elapses.nothing_else (m.moment old) c run.later left);
  before = λ t c early left. earlier t c early (elapses.nothing_else t c (let l = run.later in omega arith) left);
}
  where
    at : (c : Image) → m.left mid (m.moment old) c ⊎ MayLeave m new c → P c
    at c (inl then_) = run.each c then_
    at c (inr after) = now c after

    earlier : (t : ℕ) (c : Image) → t ≤ m.moment old → m.left mid t c ⊎ MayLeave m new c
        → m.left old t c ⊎ P c
    earlier t c early (inl then_) = run.before t c early then_
    earlier t c early (inr after) = inr (now c after)

-- what is known of every image of a run, put in other words
pub leaves_as : {D : Type 0} (m : Meaning D) (old new : D) (P Q : Image → Type 0)
    → ((c : Image) → P c → Q c) → LeavesOnly m old new P → LeavesOnly m old new Q
leaves_as m old new P Q turn run = record {
  later = run.later;
  each = λ c left. turn c (run.each c left);
  before = λ t c early left. other t c (run.before t c early left);
}
  where
    other : (t : ℕ) (c : Image) → m.left old t c ⊎ P c → m.left old t c ⊎ Q c
    other t c (inl before) = inl before
    other t c (inr is) = inr (turn c is)

-- two runs one after another are one run
pub joined : {D : Type 0} (m : Meaning D) (old mid new : D) (P : Image → Type 0)
    → LeavesOnly m old mid P → LeavesOnly m mid new P → LeavesOnly m old new P
joined m old mid new P first second = record {
  later = let f = first.later in let s = second.later in omega arith;
  each = λ c left. at c (second.before (m.moment old) c first.later left);
  before = λ t c early left. earlier t c early (second.before t c (let f = first.later in omega arith) left);
}
  where
    at : (c : Image) → m.left mid (m.moment old) c ⊎ P c → P c
    at c (inl then_) = first.each c then_
    at c (inr is) = is

    earlier : (t : ℕ) (c : Image) → t ≤ m.moment old → m.left mid t c ⊎ P c → m.left old t c ⊎ P c
    earlier t c early (inl then_) = first.before t c early then_
    earlier t c early (inr is) = inr is
