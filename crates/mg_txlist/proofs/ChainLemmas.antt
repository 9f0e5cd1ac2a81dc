-- The chain as it is read, from its last page back.
use Rattle.std.proofs.Common.{◌≡◌, ◌≢◌, ◌<◌, ◌≤◌, ◌+◌, ◌-◌, ◌++◌, ℕ, zero, suc, List, [], ◌∷◌, length, get_or, sym, ap, subst, ◌∙◌, arith, append_assoc}
use Rattle.std.proofs.Common.{Result, Ok}
use Rattle.mg_base.specs.CheckLaws.{passes_from_verdict}
use Rattle.mg_base.specs.Checks.{Check, PassesAll, common_checks, verdict}
use Rattle.mg_base.specs.declared.damage.Damaged.{Damaged}
use Rattle.mg_base.specs.declared.numbers.PageNo.{PageNo}
use Rattle.mg_header.specs.HeaderPage.{AreMarkers, marker_checks, reading}
use Rattle.mg_header.specs.HeaderPageLaws.{markers_from_passes, reading_ok}
use Rattle.mg_header.specs.declared.header.HeadFault.{HeadFault}
use Rattle.mg_header.specs.declared.header.Header.{Header}
use Rattle.mg_header.specs.declared.header.TheConstants.{HEADER_KIND}
use Rattle.mg_base.specs.Disk.{Meaning}
use Rattle.mg_base.specs.Image.{Image}
use Rattle.mg_base.specs.declared.geometry.Geometry.{Geometry}
use Rattle.mg_pool.specs.Dirty.{DirtyPages}
use Rattle.mg_pool.specs.Pool.{shown}
use Rattle.mg_pool.specs.declared.pool.Pool.{Pool}
use Rattle.mg_space.specs.Taking.{IsGeometry}
use Rattle.mg_space.specs.TakingLaws.{page_sizes}
use Rattle.mg_space.specs.View.{KeepsStore}
use Rattle.mg_image.specs.Form.{Pages}
use Rattle.mg_tip.specs.TipPage.{prev_in, tip_checks}
use Rattle.mg_tip.specs.declared.page.TheConstants.{STATES_AT}
use Rattle.mg_txlist.specs.declared.list.TipPage.{TipPage}
use Rattle.mg_txlist.specs.Chain.{AreTested, AreWholePages, IsTipOf, tip_at, tips_below}

-- one page more is read, in front of the others
pub read_more : (pages : Pages) (whole items : List TipPage) (at count k : ℕ) (page : TipPage)
    → k < count → whole ≡ tips_below pages at (count - k) ++ items
    → page.page ≡ at → page.bytes ≡ pages at
    → whole ≡ tips_below pages (prev_in page.bytes) (count - (k + 1)) ++ page ∷ items
read_more pages whole items at count k page less is number content =
    is ∙ (ap (λ (n : ℕ). tips_below pages at n ++ items) left
    ∙ (append_assoc (tips_below pages (prev_in (pages at)) (count - (k + 1))) (tip_at pages at ∷ []) items
    ∙ (ap (λ (x : TipPage). tips_below pages (prev_in (pages at)) (count - (k + 1)) ++ x ∷ items) same
    ∙ ap (λ (b : List ℕ). tips_below pages (prev_in b) (count - (k + 1)) ++ page ∷ items) (sym content))))
  where
    left : count - k ≡ suc (count - (k + 1))
    left = omega arith

    same : tip_at pages at ≡ page
    same = ap (λ (n : ℕ). record { page = n; bytes = pages at }) (sym number)
        ∙ ap (λ (b : List ℕ). record { page = page.page; bytes = b }) (sym content)

-- each page of a list is one page long
pub whole_at : (g : Geometry) (items : List TipPage) (d : TipPage) → AreWholePages g items
    → (s : ℕ) → s < length items → length (get_or items s d).bytes ≡ g.size
whole_at g [] d whole s inside = absurd (omega arith)
whole_at g (x ∷ xs) d whole zero inside = whole.0
whole_at g (x ∷ xs) d whole (suc s) inside = whole_at g xs d whole.2 s (omega arith)

-- and lies below the limit
pub below_at : (g : Geometry) (items : List TipPage) (d : TipPage) → AreWholePages g items
    → (s : ℕ) → s < length items → (get_or items s d).page < g.limit
below_at g [] d whole s inside = absurd (omega arith)
below_at g (x ∷ xs) d whole zero inside = whole.1
below_at g (x ∷ xs) d whole (suc s) inside = below_at g xs d whole.2 s (omega arith)

-- a page that was tested
pub tested_page : (at : PageNo) (sequence : ℕ) (seen bytes : List ℕ)
    (result : Result (Unit {0}) Damaged) (u : Unit {0}) → seen ≡ bytes
    → result ≡ verdict at (tip_checks seen at.0 sequence) → result ≡ Ok u
    → PassesAll (tip_checks bytes at.0 sequence)
tested_page at sequence seen bytes result u same is ok =
    passes_from_verdict at (tip_checks bytes at.0 sequence)
    (ap (λ (b : List ℕ). verdict at (tip_checks b at.0 sequence)) (sym same) ∙ (sym is ∙ ok))

-- the second of two rows of tests is passed where both are
passes_second : (first others : List Check) → PassesAll (first ++ others) → PassesAll others
passes_second [] others passes = passes
passes_second (x ∷ xs) others passes = passes_second xs others passes.1

-- what is read of a header is in order
pub head_markers : (b seen : List ℕ) (size : ℕ) (h : Header) (result : Result Header HeadFault)
    → seen ≡ b → result ≡ reading seen size → result ≡ Ok h
    → AreMarkers h.oit.0 h.ost.0 h.oat.0 h.next.0
head_markers b seen size h result same is ok =
    let parts = reading_ok seen size h (sym is ∙ ok) in
    let markers = markers_from_passes seen
    (passes_second (common_checks seen 0 HEADER_KIND 0 0) (marker_checks seen) parts.1) in
    subst (λ (x : Header). AreMarkers x.oit.0 x.ost.0 x.oat.0 x.next.0) (sym parts.2) markers

pub next_least : (oit ost oat next : ℕ) → AreMarkers oit ost oat next → 1 ≤ next
next_least oit ost oat next are =
    let a = are.least in let b = are.oit_ost in let c = are.ost_oat in let d = are.oat_next in omega arith

-- ---- one page more, in the words of the program

pub read_whole : (mid start : Geometry) (page : TipPage) (items more : List TipPage)
    (at : ℕ) → mid ≡ start → length page.bytes ≡ mid.size → page.page ≡ at → at < mid.limit
    → AreWholePages start items → more ≡ page ∷ items → AreWholePages start more
read_whole mid start page items more at same len number below whole is =
    subst (λ (xs : List TipPage). AreWholePages start xs) (sym is) (
      len ∙ ap (λ (x : Geometry). x.size) same,
      subst (λ (n : ℕ). n < start.limit) (sym number)
          (subst (λ (x : Geometry). at < x.limit) same below),
      whole,
    )

pub read_tested : (count k : ℕ) (page : TipPage) (items more : List TipPage) → k < count
    → IsTipOf (count - k - 1) page → AreTested (count - k) items → more ≡ page ∷ items
    → AreTested (count - (k + 1)) more
read_tested count k page items more less tip tested is =
    subst (λ (xs : List TipPage). AreTested (count - (k + 1)) xs) (sym is) (
      subst (λ (n : ℕ). IsTipOf n page) one tip,
      subst (λ (n : ℕ). AreTested n items) two tested,
    )
  where
    one : count - k - 1 ≡ count - (k + 1)
    one = omega arith

    two : count - k ≡ count - (k + 1) + 1
    two = omega arith

pub read_at : {D L : Type 0} (m : Meaning D) (start mid : Pool D L) (image : Image)
    → KeepsStore m start mid → (items more : List TipPage) (last at count k : ℕ) (page : TipPage)
    (seen : List ℕ) (prev : ℕ) → k < count
    → tips_below (shown start.dirty image) last count
    ≡ tips_below (shown start.dirty image) at (count - k) ++ items
    → page.page ≡ at → page.bytes ≡ shown mid.dirty image at → seen ≡ page.bytes
    → prev ≡ prev_in seen → more ≡ page ∷ items
    → tips_below (shown start.dirty image) last count
    ≡ tips_below (shown start.dirty image) prev (count - (k + 1)) ++ more
read_at m start mid image kept items more last at count k page seen prev less says number content
    same prev_is is =
    read_more (shown start.dirty image) (tips_below (shown start.dirty image) last count) items at
    count k page less says number
    (content ∙ ap (λ (d : DirtyPages). shown d image at) kept.dirty)
    ∙ (ap (λ (p : ℕ). tips_below (shown start.dirty image) p (count - (k + 1)) ++ page ∷ items)
    (sym (prev_is ∙ ap prev_in same))
    ∙ ap (λ (xs : List TipPage). tips_below (shown start.dirty image) prev (count - (k + 1)) ++ xs)
    (sym is))

-- none of the pages is the header page
pub apart_at : (from : ℕ) (items : List TipPage) (d : TipPage) → AreTested from items
    → (s : ℕ) → s < length items → (get_or items s d).page ≢ 0
apart_at from [] d tested s inside = absurd (omega arith)
apart_at from (x ∷ xs) d tested zero inside = tested.0.0
apart_at from (x ∷ xs) d tested (suc s) inside =
    apart_at (from + 1) xs d tested.1 s (omega arith)

-- ---- after the last page

pub counted : (n k count : ℕ) → n ≡ k → k ≤ count → count ≤ k → n ≡ count
counted n k count is most least = omega (arith, is, most, least)

pub all_tested : (count k : ℕ) (items : List TipPage) → count ≤ k → AreTested (count - k) items
    → AreTested 0 items
all_tested count k items past tested = subst (λ (n : ℕ). AreTested n items) none tested
  where
    none : count - k ≡ 0
    none = omega (arith, past)

pub all_read : (pages : Pages) (whole items : List TipPage) (at count k : ℕ) → count ≤ k
    → whole ≡ tips_below pages at (count - k) ++ items → items ≡ whole
all_read pages whole items at count k past is =
    sym (is ∙ ap (λ (n : ℕ). tips_below pages at n ++ items) none)
  where
    none : count - k ≡ 0
    none = omega (arith, past)

-- a page of a database is longer than what is before the states of its transactions
pub has_states : (start mid : Geometry) (bytes seen : List ℕ) → IsGeometry start → mid ≡ start
    → length bytes ≡ mid.size → seen ≡ bytes → STATES_AT ≤ length seen
has_states start mid bytes seen lawful same len is =
    let sizes = page_sizes start.size lawful.size in
    let least = sizes.0 in
    let size : mid.size ≡ start.size = ap (λ (g : Geometry). g.size) same in
    let long : length seen ≡ length bytes = ap (λ (b : List ℕ). length b) is in
    omega (arith, least, size, len, long)

-- a header that was read is that of the page that one sees
pub head_seen : (read bytes seen : List ℕ) (size g : ℕ) (answer : Result Header HeadFault) (h : Header)
    → read ≡ bytes → bytes ≡ seen → size ≡ g → answer ≡ reading read size → answer ≡ Ok h
    → reading seen g ≡ Ok h
head_seen read bytes seen size g answer h same is size_is answer_is was =
    subst (λ (n : ℕ). reading seen n ≡ Ok h) size_is
    (subst (λ (b : List ℕ). reading b size ≡ Ok h) (same ∙ is) (sym answer_is ∙ was))
