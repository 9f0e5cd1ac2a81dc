-- The fields of a page as numbers, and the laws of reading and writing them.
use Rattle.std.specs.Prelude.{◌≡◌, ℕ, ◌+◌, ◌*◌, ◌/◌, ◌%◌, ◌^◌, ◌<◌, ◌≤◌, List, length, replicate, take}
use Rattle.std.proofs.Common.{get_or, arith}
use Rattle.std.proofs.Math.ListN.{set}
use Rattle.std.proofs.lemmas.List.{get_or-set_same, get_or-set_other, length-set, take-set-le, length-replicate}

-- the byte at a place, 0 past the end
abbrev pub byte : List ℕ → ℕ → ℕ
byte b i = get_or b i 0

-- the field of two bytes at a place, the low byte first
abbrev pub u16_at : List ℕ → ℕ → ℕ
u16_at b at = byte b at + 256 * byte b (at + 1)

-- the field of four bytes at a place, the low byte first
abbrev pub u32_at : List ℕ → ℕ → ℕ
u32_at b at = byte b at + 256 * byte b (at + 1) + 65536 * byte b (at + 2) + 16777216 * byte b (at + 3)

-- the bytes with a field of two bytes set
abbrev pub with_u16 : List ℕ → ℕ → ℕ → List ℕ
with_u16 b at v = set (set b at (v % 256)) (at + 1) (v / 256)

-- the bytes with a field of four bytes set
abbrev pub with_u32 : List ℕ → ℕ → ℕ → List ℕ
with_u32 b at v = set (set (set (set b at (v % 256)) (at + 1) (v / 256 % 256)) (at + 2) (v / 65536 % 256)) (at + 3) (v / 16777216)

-- a page of a size with this common part, and zero behind it
abbrev pub new_page : ℕ → ℕ → ℕ → ℕ → ℕ → List ℕ
new_page size page kind owner seq = with_u32 (with_u32 (with_u32 (set (replicate size 0) 0 kind) 4 page) 8 owner) 12 seq

-- Laws of the fields.

pub byte_apart16 : (b : List ℕ) (at v i : ℕ) → (at ≤ i → at + 2 ≤ i) → byte (with_u16 b at v) i ≡ byte b i
byte_apart16 b at v i apart = grind (arith, get_or-set_other, length-set)

pub byte_apart : (b : List ℕ) (at v i : ℕ) → (at ≤ i → at + 4 ≤ i) → byte (with_u32 b at v) i ≡ byte b i
byte_apart b at v i apart = grind (arith, get_or-set_other, length-set)

pub u16_again : (b : List ℕ) (at v : ℕ) → at + 2 ≤ length b → v < 2 ^ 16 → u16_at (with_u16 b at v) at ≡ v
u16_again b at v fits small = grind (arith, get_or-set_same, get_or-set_other, length-set)

pub u32_again : (b : List ℕ) (at v : ℕ) → at + 4 ≤ length b → v < 2 ^ 32 → u32_at (with_u32 b at v) at ≡ v
u32_again b at v fits small = grind (arith, get_or-set_same, get_or-set_other, length-set)

pub length-with_u16 : (b : List ℕ) (at v : ℕ) → length (with_u16 b at v) ≡ length b
length-with_u16 b at v = grind (arith, length-set)

pub length-with_u32 : (b : List ℕ) (at v : ℕ) → length (with_u32 b at v) ≡ length b
length-with_u32 b at v = grind (arith, length-set)

-- a field of four bytes is set; another one, apart from it, keeps its number
pub u32_apart : (b : List ℕ) (at v other : ℕ) → (at < other + 4 → at + 4 ≤ other) → u32_at (with_u32 b at v) other ≡ u32_at b other
u32_apart b at v other apart = grind (arith, get_or-set_other, length-set)

pub u16_apart32 : (b : List ℕ) (at v other : ℕ) → (at < other + 2 → at + 4 ≤ other) → u16_at (with_u32 b at v) other ≡ u16_at b other
u16_apart32 b at v other apart = grind (arith, get_or-set_other, length-set)

pub u16_apart : (b : List ℕ) (at v other : ℕ) → (at < other + 2 → at + 2 ≤ other) → u16_at (with_u16 b at v) other ≡ u16_at b other
u16_apart b at v other apart = grind (arith, get_or-set_other, length-set)

pub u32_apart16 : (b : List ℕ) (at v other : ℕ) → (at < other + 4 → at + 2 ≤ other) → u32_at (with_u16 b at v) other ≡ u32_at b other
u32_apart16 b at v other apart = grind (arith, get_or-set_other, length-set)

-- what stands before a field stays when the field is set
pub take-with_u32 : (b : List ℕ) (at v n : ℕ) → n ≤ at → take n (with_u32 b at v) ≡ take n b
take-with_u32 b at v n le = grind (arith, take-set-le)

pub take-with_u16 : (b : List ℕ) (at v n : ℕ) → n ≤ at → take n (with_u16 b at v) ≡ take n b
take-with_u16 b at v n le = grind (arith, take-set-le)

pub length-new_page : (size page kind owner seq : ℕ) → length (new_page size page kind owner seq) ≡ size
length-new_page size page kind owner seq = grind (arith, length-set, length-replicate)
