-- Fields of four bytes that are written one after another.
use Rattle.std.proofs.Common.{◌≡◌, ℕ, ◌+◌, ◌^◌, ◌<◌, ◌≤◌, Bool, true, List, [], ◌∷◌, ◌++◌, length, take, refl, ◌∙◌, arith, inl, inr}
use Rattle.std.specs.Prelude.{◌||◌, ◌&&◌, nat_le}
use Rattle.std.proofs.lemmas.Bool.{and_parts, or_cases, leb-true}
use Rattle.mg_base.specs.Fields.{byte, u16_at, u32_at, with_u32, byte_apart, u32_again, u16_apart32, u32_apart, length-with_u32, take-with_u32}

-- the bytes after these writes of a number at a place
abbrev pub with_all : List ℕ → List (ℕ × ℕ) → List ℕ
with_all b [] = b
with_all b (write ∷ writes) = with_all (with_u32 b write.0 write.1) writes

-- each write leaves the field of this width at a place alone
abbrev pub leave : List (ℕ × ℕ) → ℕ → ℕ → Bool
leave [] at width = true
leave (write ∷ writes) at width = (nat_le (at + width) write.0 || nat_le
    (write.0 + 4) at) && leave writes at width

-- each write stays between two places
abbrev pub within : List (ℕ × ℕ) → ℕ → ℕ → Bool
within [] low high = true
within (write ∷ writes) low high = (nat_le low write.0 && nat_le
    (write.0 + 4) high) && within writes low high

apart : (write at width : ℕ) → (nat_le (at + width) write || nat_le (write + 4) at) ≡ true
    → write < at + width → write + 4 ≤ at
apart write at width is below = elim (or_cases (nat_le (at + width) write) (nat_le
    (write + 4) at) is) [
      | inl before ↦ absurd (let le = leb-true (at + width) write before in omega arith)
      | inr behind ↦ leb-true (write + 4) at behind
    ]

pub length-with_all : (b : List ℕ) (writes : List (ℕ × ℕ)) → length (with_all b writes) ≡ length b
length-with_all b [] = refl
length-with_all b (write ∷ writes) = length-with_all (with_u32 b write.0 write.1) writes
    ∙ length-with_u32 b write.0 write.1

-- a field that each write leaves alone
pub u32_kept : (b : List ℕ) (writes : List (ℕ × ℕ)) (at : ℕ) → leave writes at 4 ≡ true
    → u32_at (with_all b writes) at ≡ u32_at b at
u32_kept b [] at left = refl
u32_kept b (write ∷ writes) at left =
    let parts = and_parts (nat_le (at + 4) write.0 || nat_le (write.0 + 4) at)
    (leave writes at 4) left in
    u32_kept (with_u32 b write.0 write.1) writes at parts.1
    ∙ u32_apart b write.0 write.1 at (apart write.0 at 4 parts.0)

pub u16_kept : (b : List ℕ) (writes : List (ℕ × ℕ)) (at : ℕ) → leave writes at 2 ≡ true
    → u16_at (with_all b writes) at ≡ u16_at b at
u16_kept b [] at left = refl
u16_kept b (write ∷ writes) at left =
    let parts = and_parts (nat_le (at + 2) write.0 || nat_le (write.0 + 4) at)
    (leave writes at 2) left in
    u16_kept (with_u32 b write.0 write.1) writes at parts.1
    ∙ u16_apart32 b write.0 write.1 at (apart write.0 at 2 parts.0)

-- a field that is written, and then left alone
pub u32_written : (b : List ℕ) (before : List (ℕ × ℕ)) (at v : ℕ) (writes : List (ℕ × ℕ))
    → leave writes at 4 ≡ true → at + 4 ≤ length b → v < 2 ^ 32
    → u32_at (with_all b (before ++ (at, v) ∷ writes)) at ≡ v
u32_written b [] at v writes left inside small = u32_kept (with_u32 b at v) writes at left
    ∙ u32_again b at v inside small
u32_written b (write ∷ before) at v writes left inside small =
    u32_written (with_u32 b write.0 write.1) before at v writes left (omega
    (arith, length-with_u32 b write.0 write.1)) small

-- what stands before and behind all writes
pub front_kept : (b : List ℕ) (writes : List (ℕ × ℕ)) (low high n : ℕ)
    → within writes low high ≡ true → n ≤ low → take n (with_all b writes) ≡ take n b
front_kept b [] low high n inside before = refl
front_kept b (write ∷ writes) low high n inside before =
    let parts = and_parts (nat_le low write.0 && nat_le (write.0 + 4) high)
    (within writes low high) inside in
    let ends = and_parts (nat_le low write.0) (nat_le (write.0 + 4) high) parts.0 in
    let after = leb-true low write.0 ends.0 in
    front_kept (with_u32 b write.0 write.1) writes low high n parts.1 before
    ∙ take-with_u32 b write.0 write.1 n (omega arith)

pub behind_kept : (b : List ℕ) (writes : List (ℕ × ℕ)) (low high at : ℕ)
    → within writes low high ≡ true → high ≤ at → byte (with_all b writes) at ≡ byte b at
behind_kept b [] low high at inside behind = refl
behind_kept b (write ∷ writes) low high at inside behind =
    let parts = and_parts (nat_le low write.0 && nat_le (write.0 + 4) high)
    (within writes low high) inside in
    let ends = and_parts (nat_le low write.0) (nat_le (write.0 + 4) high) parts.0 in
    let before = leb-true (write.0 + 4) high ends.1 in
    behind_kept (with_u32 b write.0 write.1) writes low high at parts.1 behind
    ∙ byte_apart b write.0 write.1 at (λ below. omega arith)
