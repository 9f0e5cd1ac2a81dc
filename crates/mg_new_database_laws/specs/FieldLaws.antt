-- Several fields of four bytes, set one after another.
use Rattle.std.proofs.Common.{◌≡◌, ◌<◌, ◌≤◌, ◌+◌, ◌||◌, ℕ, Bool, true, false, List, [], ◌∷◌, length, take, nat_lt, refl, ◌∙◌, arith}
use Rattle.std.specs.Prelude.{◌^◌, if◌then◌else◌}
use Rattle.std.proofs.lemmas.Bool.{ltb-true}
use Rattle.mg_base.specs.Fields.{byte, byte_apart, length-with_u32, take-with_u32, u16_at, u32_again, u32_at, with_u32}

-- each field with its number, the one that was set last first
abbrev pub Settings : Type 0
Settings = List (ℕ × ℕ)

abbrev pub with_all : List ℕ → Settings → List ℕ
with_all b [] = b
with_all b (f ∷ fs) = with_u32 (with_all b fs) f.0 f.1

-- whether each lies apart from the bytes from one to another
abbrev pub are_apart : Settings → ℕ → ℕ → Bool
are_apart [] first last = true
are_apart (f ∷ fs) first last =
    if nat_lt (f.0 + 3) first || nat_lt last f.0 then are_apart fs first last else false

-- these bytes stay
pub bytes_stay : (b : List ℕ) (fs : Settings) (first last i : ℕ) → are_apart fs first last ≡ true → first ≤ i
    → i ≤ last → byte (with_all b fs) i ≡ byte b i
bytes_stay b [] first last i apart from to = refl
bytes_stay b (f ∷ fs) first last i apart from to = at (nat_lt (f.0 + 3) first) refl (nat_lt last f.0) refl apart
    (λ more. bytes_stay b fs first last i more from to)
  where
    at : (p : Bool) → nat_lt (f.0 + 3) first ≡ p → (q : Bool) → nat_lt last f.0 ≡ q
        → (if p || q then are_apart fs first last else false) ≡ true
        → (are_apart fs first last ≡ true → byte (with_all b fs) i ≡ byte b i)
        → byte (with_u32 (with_all b fs) f.0 f.1) i ≡ byte b i
    at true before q other more rest =
        let less : f.0 + 3 < first = ltb-true (f.0 + 3) first before in
        byte_apart (with_all b fs) f.0 f.1 i (λ le. omega (arith, less, from)) ∙ rest more
    at false off true behind more rest =
        let less : last < f.0 = ltb-true last f.0 behind in
        byte_apart (with_all b fs) f.0 f.1 i (λ le. absurd (omega (arith, less, to, le))) ∙ rest more
    at false off false other more rest = absurd cc

pub u32_stays : (b : List ℕ) (fs : Settings) (at : ℕ) → are_apart fs at (at + 3) ≡ true
    → u32_at (with_all b fs) at ≡ u32_at b at
u32_stays b fs at apart = rw (
  bytes_stay b fs at (at + 3) at apart (omega arith) (omega arith),
  bytes_stay b fs at (at + 3) (at + 1) apart (omega arith) (omega arith),
  bytes_stay b fs at (at + 3) (at + 2) apart (omega arith) (omega arith),
  bytes_stay b fs at (at + 3) (at + 3) apart (omega arith) (omega arith),
) refl

pub u16_stays : (b : List ℕ) (fs : Settings) (at : ℕ) → are_apart fs at (at + 1) ≡ true
    → u16_at (with_all b fs) at ≡ u16_at b at
u16_stays b fs at apart = rw (
  bytes_stay b fs at (at + 1) at apart (omega arith) (omega arith),
  bytes_stay b fs at (at + 1) (at + 1) apart (omega arith) (omega arith),
) refl

pub length-with_all : (b : List ℕ) (fs : Settings) → length (with_all b fs) ≡ length b
length-with_all b [] = refl
length-with_all b (f ∷ fs) = length-with_u32 (with_all b fs) f.0 f.1 ∙ length-with_all b fs

-- a field that was set has its number, where those set later lie apart from it
pub set_field : (b : List ℕ) (later : Settings) (at v : ℕ) (earlier : Settings) → at + 4 ≤ length b → v < 2 ^ 32
    → are_apart later at (at + 3) ≡ true → u32_at (with_all (with_u32 (with_all b earlier) at v) later) at ≡ v
set_field b later at v earlier fits small apart = u32_stays (with_u32 (with_all b earlier) at v) later at apart
    ∙ u32_again (with_all b earlier) at v
    (let long : length (with_all b earlier) ≡ length b = length-with_all b earlier in omega (arith, long, fits)) small

-- whether each lies behind the common part
abbrev pub are_behind : Settings → Bool
are_behind [] = true
are_behind (f ∷ fs) = if nat_lt 15 f.0 then are_behind fs else false

pub front_stays : (b : List ℕ) (fs : Settings) → are_behind fs ≡ true → take 16 (with_all b fs) ≡ take 16 b
front_stays b [] behind = refl
front_stays b (f ∷ fs) behind = at (nat_lt 15 f.0) refl behind (λ more. front_stays b fs more)
  where
    at : (p : Bool) → nat_lt 15 f.0 ≡ p → (if p then are_behind fs else false) ≡ true
        → (are_behind fs ≡ true → take 16 (with_all b fs) ≡ take 16 b)
        → take 16 (with_u32 (with_all b fs) f.0 f.1) ≡ take 16 b
    at true past more rest =
        let less : 15 < f.0 = ltb-true 15 f.0 past in
        take-with_u32 (with_all b fs) f.0 f.1 16 (omega (arith, less)) ∙ rest more
    at false off more rest = absurd cc
