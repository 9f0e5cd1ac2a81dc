-- What was asked of a disk over a run of calls.
use Rattle.std.specs.Prelude.{◌≡◌, ◌⊎◌, ℕ, ◌+◌, ◌≤◌, Bool, true, List, Result}
use Rattle.std.proofs.Common.{arith, refl, inl, inr, ◌∙◌}
use Rattle.mg_base.specs.Disk.{Meaning, Calm, KeepsReads, ReadsPage, Rose, Writes}

-- at most so many page writes were asked for, and as many pass in all as did
pub record AsksWrites {D : Type 0} (m : Meaning D) (old new : D) (most : ℕ) : Type 0 where
  pub asked : m.asked new ≤ m.asked old + most
  pub limit : m.most_writes new ≡ m.most_writes old

-- at most so many page reads were asked for, and of these pages alone
pub record AsksReads {D : Type 0} (m : Meaning D) (old new : D) (most : ℕ) (pages : ℕ → Bool) : Type 0 where
  pub reads : m.reads new ≤ m.reads old + most
  pub alone : (n : ℕ) → m.was_read new n ≡ true → (m.was_read old n ≡ true) ⊎ (pages n ≡ true)

-- Laws of runs.

pub no_writes : {D : Type 0} (m : Meaning D) (disk : D) → AsksWrites m disk disk 0
no_writes m disk = record { asked = omega arith; limit = refl }

pub one_write : {D T E : Type 0} (m : Meaning D) (old mid new : D) (page : ℕ) (bytes : List ℕ) (result : Result T E) (most : ℕ)
    → AsksWrites m old mid most → Writes m mid new page bytes result → AsksWrites m old new (most + 1)
one_write m old mid new page bytes result most run writes = record {
  asked = let first = run.asked in let more = writes.asked in omega arith;
  limit = writes.keeps.most_writes ∙ run.limit;
}

pub calm_write : {D T E : Type 0} (m : Meaning D) (old mid new : D) (result : Result T E) (most : ℕ)
    → AsksWrites m old mid most → Calm m mid new result → AsksWrites m old new most
calm_write m old mid new result most run calm = record {
  asked = let first = run.asked in let same = calm.asked in omega arith;
  limit = calm.keeps.most_writes ∙ run.limit;
}

pub more_writes : {D : Type 0} (m : Meaning D) (old mid new : D) (first then_ : ℕ)
    → AsksWrites m old mid first → AsksWrites m mid new then_ → AsksWrites m old new (first + then_)
more_writes m old mid new first then_ run next = record {
  asked = let a = run.asked in let b = next.asked in omega arith;
  limit = next.limit ∙ run.limit;
}

pub no_reads : {D : Type 0} (m : Meaning D) (disk : D) (pages : ℕ → Bool) → AsksReads m disk disk 0 pages
no_reads m disk pages = record { reads = omega arith; alone = λ n was. inl was }

pub one_read : {D : Type 0} (m : Meaning D) (old mid new : D) (page most : ℕ) (pages : ℕ → Bool)
    → AsksReads m old mid most pages → ReadsPage m mid new page → pages page ≡ true → AsksReads m old new (most + 1) pages
one_read m old mid new page most pages run read within = record {
  reads = let first = run.reads in let more = read.reads in omega arith;
  alone = λ n was. at n (read.alone n was);
}
  where
    at : (n : ℕ) → (m.was_read mid n ≡ true) ⊎ (n ≡ page) → (m.was_read old n ≡ true) ⊎ (pages n ≡ true)
    at n (inl before) = run.alone n before
    at n (inr here) = inr (rw here within)

pub kept_reads : {D : Type 0} (m : Meaning D) (old mid new : D) (most : ℕ) (pages : ℕ → Bool)
    → AsksReads m old mid most pages → KeepsReads m mid new → AsksReads m old new most pages
kept_reads m old mid new most pages run keeps = record {
  reads = let first = run.reads in let same = keeps.reads in omega arith;
  alone = λ n was. run.alone n (rw (keeps.was_read n) at was);
}

pub more_reads : {D : Type 0} (m : Meaning D) (old mid new : D) (first then_ : ℕ) (pages : ℕ → Bool)
    → AsksReads m old mid first pages → AsksReads m mid new then_ pages → AsksReads m old new (first + then_) pages
more_reads m old mid new first then_ pages run next = record {
  reads = let a = run.reads in let b = next.reads in omega arith;
  alone = λ n was. at n (next.alone n was);
}
  where
    at : (n : ℕ) → (m.was_read mid n ≡ true) ⊎ (pages n ≡ true) → (m.was_read old n ≡ true) ⊎ (pages n ≡ true)
    at n (inl before) = run.alone n before
    at n (inr is) = inr is
