-- The header of a new database, field by field.
use Rattle.std.proofs.Common.{◌≡◌, ◌<◌, ◌≤◌, ℕ, List, [], ◌∷◌, length, refl, sym, ap, ◌∙◌, subst, arith, lit<}
use Rattle.std.specs.Prelude.{min, replicate}
use Rattle.std.proofs.Math.ListN.{set}
use Rattle.std.proofs.lemmas.List.{get_or-replicate, get_or-set_other}
use Rattle.mg_base.specs.CheckLaws.{front_checks, new_passes, passes-append}
use Rattle.mg_base.specs.Checks.{PassesAll, common_checks}
use Rattle.mg_base.specs.Fields.{byte, byte_apart, byte_apart16, length-new_page, length-with_u16, length-with_u32, new_page, take-with_u16, take-with_u32, u16_again, u16_at, u32_again, u32_apart16, u32_at, with_u16, with_u32}
use Rattle.mg_header.specs.HeaderPage.{AreMarkers, database_checks, file_checks, marker_checks, page_checks}
use Rattle.mg_header.specs.HeaderPageLaws.{passes_from_markers}
use Rattle.mg_header.specs.declared.header.TheConstants.{HEADER_KIND, MAGIC, MAJOR}
use Rattle.mg_image.specs.NewDatabase.{new_header_page}
use Rattle.mg_new_database_laws.specs.FieldLaws.{Settings, front_stays, set_field, u16_stays, u32_stays, with_all}

-- the page before its numbers are set
abbrev begun : ℕ → List ℕ
begun size = with_u16 (with_u32 (new_page size 0 HEADER_KIND 0 0) 16 MAGIC) 20 MAJOR

-- its numbers, the last one first
abbrev numbers : ℕ → Settings
numbers size = (52, 3) ∷ (48, 20000) ∷ (44, 2) ∷ (40, 1) ∷ (36, 1) ∷ (32, 1) ∷ (28, 1) ∷ (24, size) ∷ []

header_is : (size : ℕ) → new_header_page size ≡ with_all (begun size) (numbers size)
header_is size = refl

module _ (size : ℕ) (least : 1024 ≤ size) (most : size ≤ 16384) where
  abbrev page : List ℕ
  page = with_all (begun size) (numbers size)

  long_page : length (with_u32 (new_page size 0 HEADER_KIND 0 0) 16 MAGIC) ≡ size
  long_page = length-with_u32 (new_page size 0 HEADER_KIND 0 0) 16 MAGIC ∙ length-new_page size 0 HEADER_KIND 0 0

  long : length (begun size) ≡ size
  long = length-with_u16 (with_u32 (new_page size 0 HEADER_KIND 0 0) 16 MAGIC) 20 MAJOR ∙ long_page

  -- bytes behind the common part of a new page are zero
  zero_at : (i : ℕ) → 16 ≤ i → i < size → byte (new_page size 0 HEADER_KIND 0 0) i ≡ 0
  zero_at i behind inside =
      let blank_ : List ℕ = replicate size 0 in
      let kinded : List ℕ = set blank_ 0 HEADER_KIND in
      let named : List ℕ = with_u32 kinded 4 0 in
      let owned : List ℕ = with_u32 named 8 0 in
      byte_apart owned 12 0 i (λ le. omega (arith, behind))
      ∙ (byte_apart named 8 0 i (λ le. omega (arith, behind))
      ∙ (byte_apart kinded 4 0 i (λ le. omega (arith, behind))
      ∙ (get_or-set_other blank_ 0 i HEADER_KIND 0 (omega (arith, behind))
      ∙ get_or-replicate size i 0 0 inside)))

  magic_is : u32_at page 16 ≡ MAGIC
  magic_is = u32_stays (begun size) (numbers size) 16 refl
      ∙ (u32_apart16 (with_u32 (new_page size 0 HEADER_KIND 0 0) 16 MAGIC) 20 MAJOR 16 (omega arith)
      ∙ u32_again (new_page size 0 HEADER_KIND 0 0) 16 MAGIC
      (let its = length-new_page size 0 HEADER_KIND 0 0 in omega (arith, its, least)) (lit< tt))

  major_is : u16_at page 20 ≡ MAJOR
  major_is = u16_stays (begun size) (numbers size) 20 refl
      ∙ u16_again (with_u32 (new_page size 0 HEADER_KIND 0 0) 16 MAGIC) 20 MAJOR
      (let its = long_page in omega (arith, its, least)) (lit< tt)

  minor_byte : (i : ℕ) → 22 ≤ i → i < size → byte (begun size) i ≡ 0
  minor_byte i from inside = byte_apart16 (with_u32 (new_page size 0 HEADER_KIND 0 0) 16 MAGIC) 20 MAJOR i
      (λ le. omega (arith, from))
      ∙ (byte_apart (new_page size 0 HEADER_KIND 0 0) 16 MAGIC i (λ le. omega (arith, from))
      ∙ zero_at i (omega (arith, from)) inside)

  minor_is : u16_at page 22 ≡ 0
  minor_is = u16_stays (begun size) (numbers size) 22 refl ∙ both
    where
      both : u16_at (begun size) 22 ≡ 0
      both = rw (minor_byte 22 (omega arith) (omega (arith, least)), minor_byte 23 (omega arith) (omega (arith, least))) refl

  size_is : u32_at page 24 ≡ size
  size_is = set_field (begun size)
      ((52, 3) ∷ (48, 20000) ∷ (44, 2) ∷ (40, 1) ∷ (36, 1) ∷ (32, 1) ∷ (28, 1) ∷ []) 24 size []
      (omega (arith, long, least)) (omega (arith, most)) refl

  pub next_is : u32_at page 28 ≡ 1
  next_is = set_field (begun size) ((52, 3) ∷ (48, 20000) ∷ (44, 2) ∷ (40, 1) ∷ (36, 1) ∷ (32, 1) ∷ []) 28 1
      ((24, size) ∷ []) (omega (arith, long, least)) (lit< tt) refl

  oit_is : u32_at page 32 ≡ 1
  oit_is = set_field (begun size) ((52, 3) ∷ (48, 20000) ∷ (44, 2) ∷ (40, 1) ∷ (36, 1) ∷ []) 32 1
      ((28, 1) ∷ (24, size) ∷ []) (omega (arith, long, least)) (lit< tt) refl

  oat_is : u32_at page 36 ≡ 1
  oat_is = set_field (begun size) ((52, 3) ∷ (48, 20000) ∷ (44, 2) ∷ (40, 1) ∷ []) 36 1
      ((32, 1) ∷ (28, 1) ∷ (24, size) ∷ []) (omega (arith, long, least)) (lit< tt) refl

  ost_is : u32_at page 40 ≡ 1
  ost_is = set_field (begun size) ((52, 3) ∷ (48, 20000) ∷ (44, 2) ∷ []) 40 1
      ((36, 1) ∷ (32, 1) ∷ (28, 1) ∷ (24, size) ∷ []) (omega (arith, long, least)) (lit< tt) refl

  pub last_tip_is : u32_at page 44 ≡ 2
  last_tip_is = set_field (begun size) ((52, 3) ∷ (48, 20000) ∷ []) 44 2
      ((40, 1) ∷ (36, 1) ∷ (32, 1) ∷ (28, 1) ∷ (24, size) ∷ []) (omega (arith, long, least)) (lit< tt) refl

  pub catalog_is : u32_at page 52 ≡ 3
  catalog_is = set_field (begun size) [] 52 3
      ((48, 20000) ∷ (44, 2) ∷ (40, 1) ∷ (36, 1) ∷ (32, 1) ∷ (28, 1) ∷ (24, size) ∷ [])
      (omega (arith, long, least)) (lit< tt) refl

  pub database_passes : PassesAll (database_checks page size)
  unfolding file_checks
  database_passes = (
    magic_is,
    (major_is, (minor_is ∙ sym (ap (λ (n : ℕ). min n 0) minor_is), (size_is, tt))),
  )

  markers : AreMarkers (u32_at page 32) (u32_at page 40) (u32_at page 36) (u32_at page 28)
  markers = record {
    least = omega (arith, oit_is);
    oit_ost = omega (arith, oit_is, ost_is);
    ost_oat = omega (arith, ost_is, oat_is);
    oat_next = omega (arith, oat_is, next_is);
    greatest = omega (arith, next_is);
  }

  common_same : common_checks page 0 HEADER_KIND 0 0
      ≡ common_checks (new_page size 0 HEADER_KIND 0 0) 0 HEADER_KIND 0 0
  common_same = front_checks page (new_page size 0 HEADER_KIND 0 0) 0 HEADER_KIND 0 0
      (front_stays (begun size) (numbers size) refl
      ∙ (take-with_u16 (with_u32 (new_page size 0 HEADER_KIND 0 0) 16 MAGIC) 20 MAJOR 16 (omega arith)
      ∙ take-with_u32 (new_page size 0 HEADER_KIND 0 0) 16 MAGIC 16 (omega arith)))

  pub fields_pass : PassesAll (page_checks page)
  fields_pass = passes-append (common_checks page 0 HEADER_KIND 0 0) (marker_checks page)
      (subst PassesAll (sym common_same)
      (new_passes size 0 HEADER_KIND 0 0 (omega (arith, least)) (lit< tt) (lit< tt) (lit< tt)))
      (passes_from_markers page markers)
