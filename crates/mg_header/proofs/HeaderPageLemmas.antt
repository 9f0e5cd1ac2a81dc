-- What the writes to a header page leave, and what reading it answers.
use Rattle.std.proofs.Common.{◌≡◌, ℕ, ◌+◌, ◌^◌, ◌<◌, ◌≤◌, List, [], ◌∷◌, Ok, Err, length, take, refl, ◌∙◌, lit≤, arith}
use Rattle.mg_base.specs.Fields.{byte, u16_at, u32_at, with_u16, with_u32, byte_apart, byte_apart16, u16_again, u32_again, u16_apart, u32_apart16, length-with_u16, length-with_u32, take-with_u16, take-with_u32}
use Rattle.mg_base.specs.declared.damage.Damaged.{Damaged}
use Rattle.mg_base.specs.Checks.{verdict}
use Rattle.mg_header.specs.declared.header.Header.{Header}
use Rattle.mg_header.specs.declared.header.HeadFault.TheVariants as faults
use Rattle.mg_header.specs.HeaderPage.{WritesHeader, file_checks, header_in, page_checks, reading_upto, the_page}
use Rattle.mg_header.proofs.Writes.{with_all, length-with_all, u32_kept, u16_kept, u32_written, front_kept, behind_kept}

-- the numbers of a header fit their widths
pub record Fits (h : Header) : Type 0 where
  pub minor : h.minor < 2 ^ 16
  pub next : h.next.0 < 2 ^ 32
  pub oit : h.oit.0 < 2 ^ 32
  pub oat : h.oat.0 < 2 ^ 32
  pub ost : h.ost.0 < 2 ^ 32
  pub last_tip : h.last_tip.0 < 2 ^ 32
  pub interval : h.interval < 2 ^ 32
  pub catalog : h.catalog.0 < 2 ^ 32

-- the bytes that say what the file is, but for the page size
abbrev pub named : List ℕ → ℕ → List ℕ
named b minor = with_u16 (with_u16 (with_u32 b 16 0x4244474d) 20 1) 22 minor

-- the fields of four bytes behind them
abbrev pub writes_of : ℕ → Header → List (ℕ × ℕ)
writes_of size h = (24, size) ∷ (28, h.next.0) ∷ (32, h.oit.0) ∷ (36, h.oat.0) ∷ (40, h.ost.0) ∷
    (44, h.last_tip.0) ∷ (48, h.interval) ∷ (52, h.catalog.0) ∷ []

header_from : (new : List ℕ) (h : Header) → u16_at new 22 ≡ h.minor → u32_at new 28 ≡ h.next.0
    → u32_at new 32 ≡ h.oit.0 → u32_at new 36 ≡ h.oat.0 → u32_at new 40 ≡ h.ost.0
    → u32_at new 44 ≡ h.last_tip.0 → u32_at new 48 ≡ h.interval → u32_at new 52 ≡ h.catalog.0
    → header_in new ≡ h
header_from new h minor next oit oat ost last_tip interval catalog =
    rw (minor, next, oit, oat, ost, last_tip, interval, catalog) refl

-- what the first three writes leave
pub record Named (old base : List ℕ) (minor : ℕ) : Type 0 where
  pub magic : u32_at base 16 ≡ 0x4244474d
  pub major : u16_at base 20 ≡ 1
  pub minor_set : u16_at base 22 ≡ minor
  pub len : length base ≡ length old
  pub front : take 16 base ≡ take 16 old
  pub behind : (at : ℕ) → 56 ≤ at → byte base at ≡ byte old at

names : (old : List ℕ) (minor : ℕ) → 56 ≤ length old → minor < 2 ^ 16
    → Named old (named old minor) minor
names old minor least small =
    let magic : List ℕ = with_u32 old 16 0x4244474d in
    let major : List ℕ = with_u16 magic 20 1 in
    let magic_len : length magic ≡ length old = length-with_u32 old 16 0x4244474d in
    let major_len : length major ≡ length old = length-with_u16 magic 20 1 ∙ magic_len in
    record {
      magic = u32_apart16 major 22 minor 16 (λ below. omega arith)
          ∙ (u32_apart16 magic 20 1 16 (λ below. omega arith)
          ∙ u32_again old 16 0x4244474d (omega arith) (omega arith));
      major = u16_apart major 22 minor 20 (λ below. omega arith)
          ∙ u16_again magic 20 1 (omega (arith, magic_len)) (omega arith);
      minor_set = u16_again major 22 minor (omega (arith, major_len)) small;
      len = length-with_u16 major 22 minor ∙ major_len;
      front = take-with_u16 major 22 minor 16 (omega arith)
          ∙ (take-with_u16 magic 20 1 16 (omega arith)
          ∙ take-with_u32 old 16 0x4244474d 16 (omega arith));
      behind = λ at after. byte_apart16 major 22 minor at (λ below. omega arith)
          ∙ (byte_apart16 magic 20 1 at (λ below. omega arith)
          ∙ byte_apart old 16 0x4244474d at (λ below. omega arith));
    }

-- what the other writes leave
writes_fields : (old base : List ℕ) (h : Header) → Named old base h.minor → Fits h
    → (inside : (at : ℕ) → at ≤ 52 → at + 4 ≤ length base) → length old < 2 ^ 32
    → WritesHeader old (with_all base (writes_of (length old) h)) h
writes_fields old base h is fits inside most =
    let w24 : ℕ × ℕ = (24, length old) in
    let w28 : ℕ × ℕ = (28, h.next.0) in
    let w32 : ℕ × ℕ = (32, h.oit.0) in
    let w36 : ℕ × ℕ = (36, h.oat.0) in
    let w40 : ℕ × ℕ = (40, h.ost.0) in
    let w44 : ℕ × ℕ = (44, h.last_tip.0) in
    let w48 : ℕ × ℕ = (48, h.interval) in
    let w52 : ℕ × ℕ = (52, h.catalog.0) in
    let writes : List (ℕ × ℕ) = writes_of (length old) h in
    record {
      header = header_from (with_all base writes) h
          (u16_kept base writes 22 refl ∙ is.minor_set)
          (u32_written base (w24 ∷ []) 28 h.next.0 (w32 ∷ w36 ∷ w40 ∷ w44 ∷ w48 ∷ w52 ∷ []) refl
          (inside 28 (lit≤ tt)) fits.next)
          (u32_written base (w24 ∷ w28 ∷ []) 32 h.oit.0 (w36 ∷ w40 ∷ w44 ∷ w48 ∷ w52 ∷ []) refl
          (inside 32 (lit≤ tt)) fits.oit)
          (u32_written base (w24 ∷ w28 ∷ w32 ∷ []) 36 h.oat.0 (w40 ∷ w44 ∷ w48 ∷ w52 ∷ []) refl
          (inside 36 (lit≤ tt)) fits.oat)
          (u32_written base (w24 ∷ w28 ∷ w32 ∷ w36 ∷ []) 40 h.ost.0 (w44 ∷ w48 ∷ w52 ∷ []) refl
          (inside 40 (lit≤ tt)) fits.ost)
          (u32_written base (w24 ∷ w28 ∷ w32 ∷ w36 ∷ w40 ∷ []) 44 h.last_tip.0 (w48 ∷ w52 ∷ []) refl
          (inside 44 (lit≤ tt)) fits.last_tip)
          (u32_written base (w24 ∷ w28 ∷ w32 ∷ w36 ∷ w40 ∷ w44 ∷ []) 48 h.interval (w52 ∷ []) refl
          (inside 48 (lit≤ tt)) fits.interval)
          (u32_written base (w24 ∷ w28 ∷ w32 ∷ w36 ∷ w40 ∷ w44 ∷ w48 ∷ []) 52 h.catalog.0 [] refl
          (inside 52 (lit≤ tt)) fits.catalog);
      magic = u32_kept base writes 16 refl ∙ is.magic;
      major = u16_kept base writes 20 refl ∙ is.major;
      page_size = u32_written base [] 24 (length old)
          (w28 ∷ w32 ∷ w36 ∷ w40 ∷ w44 ∷ w48 ∷ w52 ∷ []) refl (inside 24 (lit≤ tt)) most;
      len = length-with_all base writes ∙ is.len;
      front = front_kept base writes 16 56 16 refl (lit≤ tt) ∙ is.front;
      behind = λ at after. behind_kept base writes 16 56 at refl after ∙ is.behind at after;
    }

-- the eleven writes set the fields, and what tells that the file is a database
pub writes_header : (old : List ℕ) (h : Header) → Fits h → 56 ≤ length old → length old < 2 ^ 32
    → WritesHeader old (with_all (named old h.minor) (writes_of (length old) h)) h
writes_header old h fits least most =
    let is = names old h.minor least fits.minor in
    writes_fields old (named old h.minor) h is fits (λ at before. room old
    (named old h.minor) at is.len least before) most
  where
    room : (old base : List ℕ) (at : ℕ) → length base ≡ length old → 56 ≤ length old → at ≤ 52
        → at + 4 ≤ length base
    room old base at len least before = omega arith

pub reading_foreign : (b : List ℕ) (minor size : ℕ) (damage : Damaged)
    → verdict the_page (file_checks b minor size) ≡ Err damage
    → reading_upto b minor size ≡ Err (faults.NotADatabase damage.field damage.found)
unfolding reading_upto
reading_foreign b minor size damage err = rw err refl

pub reading_damaged : (b : List ℕ) (minor size : ℕ) (damage : Damaged)
    → verdict the_page (file_checks b minor size) ≡ Ok tt
    → verdict the_page (page_checks b) ≡ Err damage → reading_upto b minor size ≡ Err (faults.Damaged damage)
unfolding reading_upto
reading_damaged b minor size damage ok err = rw (ok, err) refl

pub reading_sound : (b : List ℕ) (minor size : ℕ) → verdict the_page (file_checks b minor size) ≡ Ok tt
    → verdict the_page (page_checks b) ≡ Ok tt → reading_upto b minor size ≡ Ok (header_in b)
unfolding reading_upto
reading_sound b minor size ok also = rw (ok, also) refl
