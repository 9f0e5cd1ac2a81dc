-- A page of zeros is no header.
use Rattle.std.specs.Prelude.{◌≡◌, ℕ, zero, suc, List, get_or}
use Rattle.std.proofs.Common.{◌∙◌, ap, arith, refl, sym}
use Rattle.mg_base.specs.Checks.{PassesAll}
use Rattle.mg_base.specs.Fields.{u32_at}
use Rattle.mg_base.specs.Image.{Image, blank, page_at}
use Rattle.mg_format.specs.Format.{IsUnmadeImage}
use Rattle.mg_header.specs.HeaderPage.{database_checks, file_checks}
use Rattle.mg_header.specs.declared.header.TheConstants.{MAGIC, MAGIC_AT}
use Rattle.mg_image.specs.Form.{Pages}
use Rattle.mg_image.specs.Sound.{HasHeader}

pub zeros : (size i : ℕ) → get_or (blank size) i 0 ≡ 0
zeros zero i = refl
zeros (suc size) zero = refl
zeros (suc size) (suc i) = zeros size i

no_magic : (page : List ℕ) (size : ℕ) → page ≡ blank size → u32_at page MAGIC_AT ≡ MAGIC → ⊥
no_magic page size none is =
    let at = λ (i : ℕ). ap (λ (bytes : List ℕ). get_or bytes i 0) none ∙ zeros size i in
    let a : get_or page 16 0 ≡ 0 = at 16 in
    let b : get_or page 17 0 ≡ 0 = at 17 in
    let c : get_or page 18 0 ≡ 0 = at 18 in
    let d : get_or page 19 0 ≡ 0 = at 19 in
    omega arith

-- a page that passes the tests of a database is not zero
pub no_database : (size other : ℕ) (b : List ℕ) → PassesAll (database_checks b size) → b ≡ blank other → ⊥
unfolding file_checks
no_database size other b passes none = no_magic b other none passes.0

has_magic : (size : ℕ) (pages : Pages) → HasHeader size pages → u32_at (pages 0) MAGIC_AT ≡ MAGIC
unfolding file_checks
has_magic size pages header = header.database.0

pub no_header : (size other : ℕ) (pages : Pages) → HasHeader size pages → pages 0 ≡ blank other → ⊥
no_header size other pages header none = no_magic (pages 0) other none (has_magic size pages header)

-- on an image with a header no database may be made, whatever page size that would have
pub header_is_made : (size other : ℕ) (image : Image) → HasHeader size (page_at size image)
    → page_at other image 0 ≡ page_at size image 0 → IsUnmadeImage other image → ⊥
header_is_made size other image header same unmade =
    no_magic (page_at size image 0) other (sym same ∙ unmade.header) (has_magic size (page_at size image) header)
