-- What a source and a sink mean: the bytes that are left, or were taken, where they are told, and a count of faults.
use Rattle.std.specs.Prelude.{◌≡◌, ◌<◌, ◌≤◌, ℕ, Option, Some, List, [], ◌++◌, length, take, drop, Result, IfOk, OnOk, OnErr, IsErr}
use Rattle.mg_base.specs.Disk.{Rose}

pub record SourceMeaning (S : Type 0) : Type 1 where
  -- the bytes that are left
  pub left : S → Option (List ℕ)
  pub faults : S → ℕ

-- What a source does to a buffer. So many bytes came to its front; of a buffer that is not empty, none means the end.
-- A call that failed read nothing.
pub record Takes {S E : Type 0} (m : SourceMeaning S) (old new : S) (before after : List ℕ) (result : Result ℕ E) : Type 0 where
  pub within : IfOk result (λ n. n ≤ length before)
  pub front : IfOk result (λ n. (bytes : List ℕ) → m.left old ≡ Some bytes
      → (n ≤ length bytes) × (take n after ≡ take n bytes) × (m.left new ≡ Some (drop n bytes)))
  pub end : IfOk result (λ n. (bytes : List ℕ) → m.left old ≡ Some bytes → 0 < length before → n ≡ 0 → bytes ≡ [])
  pub failed : OnErr result (m.left new ≡ m.left old)
  pub never_falls : m.faults old ≤ m.faults new
  pub cause : IsErr result → Rose (m.faults old) (m.faults new)
  pub steady : OnOk result (m.faults new ≡ m.faults old)

pub record SinkMeaning (K : Type 0) : Type 1 where
  -- the bytes that were written
  pub taken : K → Option (List ℕ)
  pub faults : K → ℕ

-- What a sink does with a piece: it is written whole, or a call failed and a prefix of it was written.
pub record Puts {K T E : Type 0} (m : SinkMeaning K) (old new : K) (piece : List ℕ) (result : Result T E) : Type 0 where
  pub written : OnOk result ((bytes : List ℕ) → m.taken old ≡ Some bytes → m.taken new ≡ Some (bytes ++ piece))
  pub failed : OnErr result ((bytes : List ℕ) → m.taken old ≡ Some bytes → (n : ℕ) × (m.taken new ≡ Some (bytes ++ take n piece)))
  pub never_falls : m.faults old ≤ m.faults new
  pub cause : IsErr result → Rose (m.faults old) (m.faults new)
  pub steady : OnOk result (m.faults new ≡ m.faults old)
