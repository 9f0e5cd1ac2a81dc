-- Laws of the header page, for those who stand above it.
use Rattle.std.specs.Prelude.{◌≡◌, ◌≤◌, ℕ, List, Result, Ok, Err, length, min}
use Rattle.std.proofs.Common.{refl, sym, ap, subst, ◌∙◌, lit≤, arith}
use Rattle.mg_base.specs.Fields.{u16_at, u32_at}
use Rattle.mg_base.specs.declared.damage.Damaged.{Damaged}
use Rattle.mg_base.specs.Checks.{PassesAll, common_checks, verdict}
use Rattle.mg_base.specs.CheckLaws.{front_checks, passes-append, passes_from_verdict, verdict_from_passes}
use Rattle.mg_header.specs.declared.header.TheConstants.{HEADER_KIND, OPENED_MINOR, NEXT_AT, OIT_AT, OAT_AT, OST_AT}
use Rattle.mg_header.specs.declared.header.Header.{Header}
use Rattle.mg_header.specs.declared.header.HeadFault.{HeadFault}
use Rattle.mg_header.specs.HeaderPage.{AreMarkers, WritesHeader, database_checks, file_checks, header_in, marker_checks, nearest, page_checks, reading, reading_upto, the_page, told}

abbrev ok : Header → Result Header HeadFault
ok h = Ok h

in_range : (low high number : ℕ) → low ≤ high → number ≡ nearest low high number
    → (low ≤ number) × (number ≤ high)
in_range low high number lawful same = (omega arith, omega arith)

is_nearest : (low high number : ℕ) → low ≤ number → number ≤ high → number ≡ nearest low high number
is_nearest low high number above below = omega arith

-- numbers of transactions that pass their tests are in order
pub markers_from_passes : (b : List ℕ) → PassesAll (marker_checks b)
    → AreMarkers (u32_at b OIT_AT) (u32_at b OST_AT) (u32_at b OAT_AT) (u32_at b NEXT_AT)
unfolding marker_checks
markers_from_passes b passes = ordered (u32_at b 28) (u32_at b 32) (u32_at b 36)
    (u32_at b 40) passes.0 passes.1.0 passes.1.1.0 passes.1.1.1.0
  where
    ordered : (next oit oat ost : ℕ) → next ≡ nearest 1 1000000000 next
        → oit ≡ nearest 1 next oit → oat ≡ nearest oit next oat → ost ≡ nearest oit oat ost
        → AreMarkers oit ost oat next
    ordered next oit oat ost next_is oit_is oat_is ost_is =
        let next_in = in_range 1 1000000000 next (lit≤ tt) next_is in
        let oit_in = in_range 1 next oit next_in.0 oit_is in
        let oat_in = in_range oit next oat oit_in.1 oat_is in
        let ost_in = in_range oit oat ost oat_in.0 ost_is in
        record {
          least = oit_in.0;
          oit_ost = ost_in.0;
          ost_oat = ost_in.1;
          oat_next = oat_in.1;
          greatest = next_in.1;
        }

-- and numbers in order pass them
pub passes_from_markers : (b : List ℕ) → AreMarkers (u32_at b OIT_AT) (u32_at b OST_AT)
    (u32_at b OAT_AT) (u32_at b NEXT_AT) → PassesAll (marker_checks b)
unfolding marker_checks
passes_from_markers b are = passing (u32_at b 28) (u32_at b 32) (u32_at b 36) (u32_at b 40) are
  where
    passing : (next oit oat ost : ℕ) → AreMarkers oit ost oat next
        → (next ≡ nearest 1 1000000000 next) × ((oit ≡ nearest 1 next oit)
        × ((oat ≡ nearest oit next oat) × ((ost ≡ nearest oit oat ost) × Unit {0})))
    passing next oit oat ost are =
        let oit_oat : oit ≤ oat = omega (arith, are.oit_ost, are.ost_oat) in
        let oit_next : oit ≤ next = omega (arith, are.oat_next) in
        let some_next : 1 ≤ next = omega (arith, are.least) in (
          is_nearest 1 1000000000 next some_next are.greatest,
          (
            is_nearest 1 next oit are.least oit_next,
            (
              is_nearest oit next oat oit_oat are.oat_next,
              (is_nearest oit oat ost are.oit_ost are.ost_oat, tt),
            ),
          ),
        )

-- what is read was tested
pub reading_ok : (b : List ℕ) (size : ℕ) (h : Header) → reading b size ≡ Ok h
    → PassesAll (database_checks b size) × PassesAll (page_checks b) × (h ≡ header_in b)
unfolding reading_upto
reading_ok b size h is = of (verdict the_page (database_checks b size)) (verdict the_page
    (page_checks b)) refl refl is
  where
    of : (file page : Result (Unit {0}) Damaged) → verdict the_page
        (database_checks b size) ≡ file → verdict the_page (page_checks b) ≡ page
        → told file page (header_in b) ≡ ok h → PassesAll (database_checks b size)
        × PassesAll (page_checks b) × (h ≡ header_in b)
    of (Err damage) page file_is page_is is = absurd cc
    of (Ok u) (Err damage) file_is page_is is = absurd cc
    of (Ok u) (Ok v) file_is page_is is = (
      passes_from_verdict the_page
          (database_checks b size) file_is,
      passes_from_verdict the_page (page_checks b) page_is,
      cc,
    )

-- a page that passes its tests is read
pub reads : (b : List ℕ) (size : ℕ) → PassesAll (database_checks b size) → PassesAll (page_checks b)
    → reading b size ≡ Ok (header_in b)
unfolding reading_upto
reads b size file page = rw (
  verdict_from_passes the_page
      (database_checks b size) file,
  verdict_from_passes the_page (page_checks b) page,
) refl

-- what was written tells that the file is a database with pages of this size
pub database_written : (old new : List ℕ) (h : Header) → WritesHeader old new h
    → h.minor ≤ OPENED_MINOR → PassesAll (database_checks new (length old))
unfolding file_checks
database_written old new h writes lawful =
    let minor : u16_at new 22 ≡ h.minor = ap (λ (x : Header). x.minor) writes.header in (
      writes.magic,
      (
        writes.major,
        (
          small (u16_at new 22) h.minor minor lawful,
          (writes.page_size, tt),
        ),
      ),
    )
  where
    small : (minor wanted : ℕ) → minor ≡ wanted → wanted ≤ 0 → minor ≡ min minor 0
    small minor wanted is lawful = omega arith

-- on a page with a sound common part, what was written is read again
pub written_again : (old new : List ℕ) (h : Header) → WritesHeader old new h
    → h.minor ≤ OPENED_MINOR → AreMarkers h.oit.0 h.ost.0 h.oat.0 h.next.0
    → PassesAll (common_checks old 0 HEADER_KIND 0 0) → reading new (length old) ≡ Ok h
written_again old new h writes lawful are common =
    let ordered : AreMarkers (u32_at new OIT_AT) (u32_at new OST_AT) (u32_at new OAT_AT)
    (u32_at new NEXT_AT) =
    subst (λ (x : Header). AreMarkers x.oit.0 x.ost.0 x.oat.0 x.next.0) (sym writes.header) are in
    let same : common_checks old 0 HEADER_KIND 0 0 ≡ common_checks new 0 HEADER_KIND 0 0 =
    front_checks old new 0 HEADER_KIND 0 0 (sym writes.front) in
    let front : PassesAll (common_checks new 0 HEADER_KIND 0 0) = subst PassesAll same common in
    let page : PassesAll (page_checks new) = passes-append (common_checks new 0 HEADER_KIND 0 0)
    (marker_checks new) front (passes_from_markers new ordered) in
    reads new (length old) (database_written old new h writes lawful) page ∙ ap ok writes.header
