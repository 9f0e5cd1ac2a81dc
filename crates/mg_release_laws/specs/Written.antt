-- Orphan pages are released, and a crash comes between the page writes: what is left stays sound, and
-- opening it gives what it gave.
use Rattle.std.specs.Prelude.{◌≡◌, ◌≢◌, ◌<◌, ◌/◌, ◌%◌, ◌&&◌, ℕ, Bool, true, false, List, length, take, get_or, if◌then◌else◌}
use Rattle.std.proofs.Common.{refl, sym, ap, ◌∙◌, subst}
use Rattle.mg_base.specs.Image.{Image, page_at}
use Rattle.mg_base.specs.declared.geometry.TheConstants.{GREATEST_LIMIT}
use Rattle.mg_findings.specs.declared.finding.Finding.{Finding}
use Rattle.mg_findings.specs.Findings.{IsListOf}
use Rattle.mg_image.specs.Form.{Form, Pages}
use Rattle.mg_image.specs.Inventory.{is_used}
use Rattle.mg_image.specs.Opening.{IsOpened, Opened}
use Rattle.mg_image.specs.Reached.{IsReached}
use Rattle.mg_image.specs.Records.{Reading}
use Rattle.mg_image.specs.Sound.{IsSound}
use Rattle.mg_image.specs.Tables.{Layout}
use Rattle.mg_orphans.specs.Orphans.{IsOrphanFinding, IsUnreached}
use Rattle.mg_pip.specs.PipPage.{bits, used_in}
use Rattle.mg_pip.specs.declared.page.TheConstants.{BITS_AT}
use Rattle.mg_release.specs.Releasing.{OrphanLaw, Releases, bit_page, is_page_of}
use Rattle.mg_release_laws.specs.Released.{MayGo, OpenedStays, SoundStays}

-- Of the pages that were changed some have reached the disk: where a page was written it is the new
-- one, and else the old one.
pub record IsPartly (size : ℕ) (old new left : Image) (written : ℕ → Bool) : Type 0 where
  pub count : length left ≡ length old
  pub each : (n : ℕ) → page_at size left n
      ≡ (if written n then page_at size new n else page_at size old n)

-- each page that is reached is among those that count as reached
abbrev pub Covers : ℕ → Pages → Layout → List Bool → Type 0
Covers size pages layout reached =
    (n : ℕ) → IsReached size pages layout n → get_or reached n false ≡ true

-- The orphan pages of an image, which are told by a list of all of them, are released.
pub record ReleasesAll (size : ℕ) (old new : Image) (layout : Layout) : Type 0 where
  pub reached : List Bool
  pub covers : Covers size (page_at size old) layout reached
  pub found : List Finding
  pub list : IsListOf (IsOrphanFinding size (page_at size old) reached) found
  pub releases : Releases size old new (is_page_of found)

-- what a crash leaves between the page writes is sound,
abbrev pub LeftIsSound : Form → Type 0
LeftIsSound form = (size : ℕ) (old new left : Image) (written : ℕ → Bool) (layout : Layout)
    (r : Reading) → IsSound form size (page_at size old) layout r
    → ReleasesAll size old new layout → IsPartly size old new left written
    → IsSound form size (page_at size left) layout r

-- and opening it gives what it gave
abbrev pub LeftOpens : Form → Type 0
LeftOpens form = (size : ℕ) (old new left : Image) (written : ℕ → Bool) (opened : Opened)
    → (is : IsOpened form size (page_at size old) opened) → ReleasesAll size old new is.layout
    → IsPartly size old new left written → IsOpened form size (page_at size left) opened

-- ---- the bits of some pages are cleared

module _ (size : ℕ) (old new left : Image) (gone written : ℕ → Bool)
    (releases : Releases size old new gone) (partly : IsPartly size old new left written) where
  lengths : (n : ℕ) → length (page_at size left n) ≡ length (page_at size old n)
  lengths n = ap length (partly.each n) ∙ at (written n)
    where
      at : (c : Bool) → length (if c then page_at size new n else page_at size old n)
          ≡ length (page_at size old n)
      at true = releases.lengths n
      at false = refl

  front : (n : ℕ) → take BITS_AT (page_at size left n) ≡ take BITS_AT (page_at size old n)
  front n = ap (take BITS_AT) (partly.each n) ∙ at (written n)
    where
      at : (c : Bool) → take BITS_AT (if c then page_at size new n else page_at size old n)
          ≡ take BITS_AT (page_at size old n)
      at true = releases.front n
      at false = refl

  kept : (n : ℕ) → ((m : ℕ) → (gone m && written (bit_page size m)) ≡ true → n ≢ bit_page size m)
      → page_at size left n ≡ page_at size old n
  kept n none = partly.each n ∙ at (written n) refl
    where
      both : (a b : Bool) → a ≡ true → b ≡ true → (a && b) ≡ true
      both true true first second = refl
      both true false first second = second
      both false b first second = first

      apart : written n ≡ true → (m : ℕ) → gone m ≡ true → n ≢ bit_page size m
      apart is m goes same = none m (both (gone m) (written (bit_page size m)) goes
          (subst (λ (k : ℕ). written k ≡ true) same is)) same

      at : (c : Bool) → written n ≡ c
          → (if c then page_at size new n else page_at size old n) ≡ page_at size old n
      at true is = releases.kept n (apart is)
      at false is = refl

  used : (n : ℕ) → is_used size (page_at size left) n
      ≡ (if gone n && written (bit_page size n) then false else is_used size (page_at size old) n)
  unfolding is_used
  used n = ap (λ (b : List ℕ). used_in b (n % bits size)) (partly.each (bit_page size n))
      ∙ at (written (bit_page size n)) refl
    where
      here : (g : Bool) → gone n ≡ g
          → used_in (page_at size new (bit_page size n)) (n % bits size)
          ≡ (if g then false else used_in (page_at size old (bit_page size n)) (n % bits size))
          → used_in (page_at size new (bit_page size n)) (n % bits size)
          ≡ (if g && true then false else used_in (page_at size old (bit_page size n)) (n % bits size))
      here true is same = same
      here false is same = same

      none : (g : Bool) → used_in (page_at size old (bit_page size n)) (n % bits size)
          ≡ (if g && false then false else used_in (page_at size old (bit_page size n)) (n % bits size))
      none true = refl
      none false = refl

      at : (c : Bool) → written (bit_page size n) ≡ c
          → used_in (if c then page_at size new (bit_page size n) else page_at size old (bit_page size n))
          (n % bits size)
          ≡ (if gone n && c then false else used_in (page_at size old (bit_page size n)) (n % bits size))
      at true is = here (gone n) refl (releases.used n)
      at false is = none (gone n)

  pub part_releases : Releases size old left (λ m. gone m && written (bit_page size m))
  part_releases = record {
    count = partly.count;
    lengths = lengths;
    kept = kept;
    front = front;
    used = used;
  }

-- ---- these pages may go

both_true : (a b : Bool) → (a && b) ≡ true → (a ≡ true) × (b ≡ true)
both_true true b is = (refl, is)
both_true false b is = absurd cc

orphan_goes : OrphanLaw → (size : ℕ) (old : Image) (layout : Layout) (reached : List Bool)
    (found : List Finding) → Covers size (page_at size old) layout reached
    → IsListOf (IsOrphanFinding size (page_at size old) reached) found
    → (written : ℕ → Bool)
    → MayGo size (page_at size old) layout (λ m. is_page_of found m && written (bit_page size m))
orphan_goes law size old layout reached found covers list written n goes =
    let both = both_true (is_page_of found n) (written (bit_page size n)) goes in
    let orphan = (law size old reached found list n).0 both.0 in
    (orphan.0, orphan.1.0, λ here. absurd (let never = sym (covers n here) ∙ orphan.1.1 in cc))

pub left_sound : (form : Form) → OrphanLaw → SoundStays form → LeftIsSound form
left_sound form law stays size old new left written layout r sound all partly =
    stays size old left (λ m. is_page_of all.found m && written (bit_page size m)) layout r sound
    (orphan_goes law size old layout all.reached all.found all.covers all.list written)
    (part_releases size old new left (is_page_of all.found) written all.releases partly)

pub left_opens : (form : Form) → OrphanLaw → OpenedStays form → LeftOpens form
left_opens form law stays size old new left written opened is all partly =
    stays size old left (λ m. is_page_of all.found m && written (bit_page size m)) opened is
    (orphan_goes law size old is.layout all.reached all.found all.covers all.list written)
    (part_releases size old new left (is_page_of all.found) written all.releases partly)
