-- The pointer pages of a new database: each has one entry.
use Rattle.std.proofs.Common.{◌≡◌, ◌<◌, ◌≤◌, ◌/◌, ◌-◌, ℕ, List, [], ◌∷◌, length, refl, sym, ap, ◌∙◌, subst, arith, lit<}
use Rattle.std.specs.Prelude.{◌^◌, min, replicate}
use Rattle.std.proofs.Math.ListN.{set}
use Rattle.std.proofs.lemmas.List.{get_or-replicate, get_or-set_other}
use Rattle.mg_base.specs.CheckLaws.{front_checks, new_passes, passes-append}
use Rattle.mg_base.specs.Checks.{PassesAll, common_checks}
use Rattle.mg_base.specs.Fields.{byte, byte_apart, byte_apart16, length-new_page, length-with_u16, length-with_u32, new_page, take-with_u16, take-with_u32, u16_again, u16_apart32, u16_at, u32_again, u32_at, with_u16, with_u32}
use Rattle.mg_pointer.specs.PointerPage.{entries_of, next_in, pointer_checks, rest_checks}
use Rattle.mg_pointer.specs.declared.page.TheConstants.{POINTER_KIND}
use Rattle.mg_space.specs.TakingLaws.{page_sizes}
use Rattle.mg_new_database_laws.specs.Readable.{NewHavePointers, PointsTo}

module _ (size page entry : ℕ) (least : 1024 ≤ size) (small : page < 2 ^ 32) (small_entry : entry < 2 ^ 32) where
  abbrev fresh : List ℕ
  fresh = new_page size page POINTER_KIND page 0

  abbrev counted : List ℕ
  counted = with_u16 fresh 20 1

  abbrev b : List ℕ
  b = with_u32 counted 24 entry

  long_fresh : length fresh ≡ size
  long_fresh = length-new_page size page POINTER_KIND page 0

  long_counted : length counted ≡ size
  long_counted = length-with_u16 fresh 20 1 ∙ long_fresh

  long : length b ≡ size
  long = length-with_u32 counted 24 entry ∙ long_counted

  zero_at : (i : ℕ) → 16 ≤ i → i < size → byte fresh i ≡ 0
  zero_at i behind inside =
      let blank_ : List ℕ = replicate size 0 in
      let kinded : List ℕ = set blank_ 0 POINTER_KIND in
      let named : List ℕ = with_u32 kinded 4 page in
      let owned : List ℕ = with_u32 named 8 page in
      byte_apart owned 12 0 i (λ le. omega (arith, behind))
      ∙ (byte_apart named 8 page i (λ le. omega (arith, behind))
      ∙ (byte_apart kinded 4 page i (λ le. omega (arith, behind))
      ∙ (get_or-set_other blank_ 0 i POINTER_KIND 0 (omega (arith, behind))
      ∙ get_or-replicate size i 0 0 inside)))

  count_is : u16_at b 20 ≡ 1
  count_is = u16_apart32 counted 24 entry 20 (λ le. omega arith)
      ∙ u16_again fresh 20 1 (omega (arith, long_fresh, least)) (lit< tt)

  unused_byte : (i : ℕ) → 22 ≤ i → i < 24 → byte b i ≡ 0
  unused_byte i from to = byte_apart counted 24 entry i (λ le. omega (arith, to, le))
      ∙ (byte_apart16 fresh 20 1 i (λ le. omega (arith, from)) ∙ zero_at i (omega (arith, from)) (omega (arith, to, least)))

  unused_is : u16_at b 22 ≡ 0
  unused_is = rw (unused_byte 22 (omega arith) (omega arith), unused_byte 23 (omega arith) (omega arith)) refl

  next_byte : (i : ℕ) → 16 ≤ i → i < 20 → byte b i ≡ 0
  next_byte i from to = byte_apart counted 24 entry i (λ le. omega (arith, to, le))
      ∙ (byte_apart16 fresh 20 1 i (λ le. omega (arith, to, le)) ∙ zero_at i from (omega (arith, to, least)))

  next_is : next_in b ≡ 0
  next_is = rw (
    next_byte 16 (omega arith) (omega arith),
    next_byte 17 (omega arith) (omega arith),
    next_byte 18 (omega arith) (omega arith),
    next_byte 19 (omega arith) (omega arith),
  ) refl

  entry_is : u32_at b 24 ≡ entry
  entry_is = u32_again counted 24 entry (omega (arith, long_counted, least)) small_entry

  entries_are : entries_of b ≡ entry ∷ []
  unfolding entries_of
  entries_are = rw count_is (ap (λ (n : ℕ). n ∷ []) entry_is)

  rest_passes : PassesAll (rest_checks b)
  rest_passes = (few (u16_at b 20) (length b) count_is long, (unused_is, tt))
    where
      few : (count len : ℕ) → count ≡ 1 → len ≡ size → count ≡ min count ((len - 24) / 4)
      few count len one its = omega (arith, one, its, least)

  passes : PassesAll (pointer_checks b page page 0)
  unfolding pointer_checks
  passes = passes-append (common_checks b page POINTER_KIND page 0) (rest_checks b)
      (subst PassesAll (sym (front_checks b fresh page POINTER_KIND page 0
      (take-with_u32 counted 24 entry 16 (omega arith) ∙ take-with_u16 fresh 20 1 16 (omega arith))))
      (new_passes size page POINTER_KIND page 0 (omega (arith, least)) small small (lit< tt))) rest_passes

  pub points : PointsTo b page entry
  points = record { fields = passes; entries = entries_are; last = next_is }

pub new_have_pointers : NewHavePointers
new_have_pointers size image lawful made = (
  subst (λ (x : List ℕ). PointsTo x 3 4) (sym (made 3 (lit< tt)))
      (points size 3 4 (page_sizes size lawful).0 (lit< tt) (lit< tt)),
  subst (λ (x : List ℕ). PointsTo x 5 6) (sym (made 5 (lit< tt)))
      (points size 5 6 (page_sizes size lawful).0 (lit< tt) (lit< tt)),
)
