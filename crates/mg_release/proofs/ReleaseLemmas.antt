-- One bit after another is cleared.
use Rattle.std.specs.Prelude.{◌≡◌, ◌≢◌, ◌<◌, ◌≤◌, ◌⊎◌, ◌+◌, ◌*◌, ◌/◌, ◌%◌, ◌==◌, ◌||◌, ℕ, zero, suc, Bool, true, false, List, [], ◌∷◌, get_or, length, take, slice_set, if◌then◌else◌}
use Rattle.std.proofs.Common.{refl, sym, ap, ◌∙◌, inl, inr, arith, subst}
use Rattle.std.proofs.Math.Nat.{mod-add-div'}
use Rattle.std.proofs.lemmas.Bool.{cases_eq, cases_lt, eq-eqb, eqb-true, ne_eqb, or_cases, or_left, or_right}
use Rattle.std.proofs.lemmas.List.{get_or-set_other, get_or-set_same, get_or_default, get_or_past, length-set}
use Rattle.mg_base.specs.Image.{Image, blank, page_at}
use Rattle.mg_base.specs.Fields.{byte}
use Rattle.mg_base.specs.declared.geometry.TheConstants.{GREATEST_LIMIT}
use Rattle.mg_check_inventory.specs.ImagePages.{IsWholeImage}
use Rattle.mg_findings.specs.declared.finding.Finding.{Finding}
use Rattle.mg_findings.specs.Findings.{Has}
use Rattle.mg_image.specs.Inventory.{is_used}
use Rattle.mg_orphans.specs.Orphans.{IsOrphanFinding, IsUnreached, orphan_finding}
use Rattle.mg_pip.specs.PipPage.{SetsUsed, bits, used_in}
use Rattle.mg_pip.specs.PipPageLaws.{zero_unused}
use Rattle.mg_pip.specs.declared.page.TheConstants.{BITS_AT}
use Rattle.mg_release.specs.Releasing.{AreOrphans, OrphanLaw, Releases, bit_page, is_page_of}

-- ---- one bit

-- another number on the same page has another bit
bit_differs : (b m n : ℕ) → m ≢ n → m / b * b + 1 ≡ n / b * b + 1 → m % b ≢ n % b
bit_differs b m n other same bit =
    let first = mod-add-div' m b in
    let second = mod-add-div' n b in
    other (omega (arith, same, bit, first, second))

module _ (size : ℕ) (old new : Image) (n : ℕ) (page : List ℕ)
    (there : bit_page size n < length old) (is : new ≡ slice_set old (bit_page size n) page)
    (sets : SetsUsed (page_at size old (bit_page size n)) page (n % bits size) false) where
  page_here : page_at size new (bit_page size n) ≡ page
  page_here = ap (λ (image : Image). page_at size image (bit_page size n)) is
      ∙ get_or-set_same old (bit_page size n) page (blank size) there

  page_beside : (k : ℕ) → k ≢ bit_page size n → page_at size new k ≡ page_at size old k
  page_beside k other = ap (λ (image : Image). page_at size image k) is
      ∙ get_or-set_other old (bit_page size n) k page (blank size) other

  lengths : (k : ℕ) → length (page_at size new k) ≡ length (page_at size old k)
  lengths k = at (cases_eq k (bit_page size n))
    where
      at : (k ≡ bit_page size n) ⊎ (k ≢ bit_page size n)
          → length (page_at size new k) ≡ length (page_at size old k)
      at (inl same) = subst (λ (j : ℕ). length (page_at size new j) ≡ length (page_at size old j))
          (sym same) (ap length page_here ∙ sets.len)
      at (inr other) = ap length (page_beside k other)

  front : (k : ℕ) → take BITS_AT (page_at size new k) ≡ take BITS_AT (page_at size old k)
  front k = at (cases_eq k (bit_page size n))
    where
      at : (k ≡ bit_page size n) ⊎ (k ≢ bit_page size n)
          → take BITS_AT (page_at size new k) ≡ take BITS_AT (page_at size old k)
      at (inl same) = subst
          (λ (j : ℕ). take BITS_AT (page_at size new j) ≡ take BITS_AT (page_at size old j))
          (sym same) (ap (take BITS_AT) page_here ∙ sets.front)
      at (inr other) = ap (take BITS_AT) (page_beside k other)

  cleared : is_used size (page_at size new) n ≡ false
  unfolding is_used
  cleared = ap (λ (b : List ℕ). used_in b (n % bits size)) page_here ∙ sets.set

  others : (m : ℕ) → m ≢ n
      → is_used size (page_at size new) m ≡ is_used size (page_at size old) m
  unfolding is_used
  others m other = at (cases_eq (bit_page size m) (bit_page size n))
    where
      at : (bit_page size m ≡ bit_page size n) ⊎ (bit_page size m ≢ bit_page size n)
          → used_in (page_at size new (bit_page size m)) (m % bits size)
          ≡ used_in (page_at size old (bit_page size m)) (m % bits size)
      at (inl same) = subst (λ (k : ℕ). used_in (page_at size new k) (m % bits size)
          ≡ used_in (page_at size old k) (m % bits size)) (sym same)
          (ap (λ (b : List ℕ). used_in b (m % bits size)) page_here
          ∙ sets.others (m % bits size) (bit_differs (bits size) m n other same))
      at (inr apart) = ap (λ (b : List ℕ). used_in b (m % bits size))
          (page_beside (bit_page size m) apart)

  used : (m : ℕ) → is_used size (page_at size new) m
      ≡ (if m == n then false else is_used size (page_at size old) m)
  used m = at (cases_eq m n)
    where
      at : (m ≡ n) ⊎ (m ≢ n) → is_used size (page_at size new) m
          ≡ (if m == n then false else is_used size (page_at size old) m)
      at (inl same) = rw (eq-eqb m n same)
          (subst (λ (k : ℕ). is_used size (page_at size new) k ≡ false) (sym same) cleared)
      at (inr other) = rw (ne_eqb m n other) (others m other)

  pub released : Releases size old new (λ m. m == n)
  released = record {
    count = ap length is ∙ length-set old (bit_page size n) page;
    lengths = lengths;
    kept = λ k none. page_beside k (none n (eq-eqb n n refl));
    front = front;
    used = used;
  }

-- the same, where the page that is changed was read by its index
pub released_at : (size : ℕ) (old : Image) (n at many : ℕ) (page other : List ℕ)
    → at ≡ bit_page size n → many ≡ bits size → bit_page size n < length old
    → SetsUsed (get_or old at other) page (n % many) false
    → Releases size old (slice_set old at page) (λ m. m == n)
released_at size old n at many page other is count there sets =
    subst (λ (k : ℕ). Releases size old (slice_set old k page) (λ m. m == n)) (sym is)
    (released size old (slice_set old (bit_page size n) page) n page there refl here)
  where
    moved : SetsUsed (get_or old (bit_page size n) other) page (n % bits size) false
    moved = subst (λ (k : ℕ). SetsUsed (get_or old k other) page (n % bits size) false) is
        (subst (λ (b : ℕ). SetsUsed (get_or old at other) page (n % b) false) count sets)

    here : SetsUsed (page_at size old (bit_page size n)) page (n % bits size) false
    here = subst (λ (p : List ℕ). SetsUsed p page (n % bits size) false)
        (get_or_default old (bit_page size n) other (blank size) there) moved

-- the page inventory page of a page within the limit is a page of an image
pub bit_within : (size : ℕ) (image : Image) (n : ℕ) → IsWholeImage size image
    → n % bits size < bits size → n % bits size < bits (length (page_at size image (bit_page size n)))
bit_within size image n whole inside =
    subst (λ (long : ℕ). n % bits size < bits long) (sym (whole.whole (bit_page size n))) inside

-- ---- one page after another

pub releases_none : (size : ℕ) (image : Image) → Releases size image image (is_page_of [])
releases_none size image = record {
  count = refl;
  lengths = λ n. refl;
  kept = λ n none. refl;
  front = λ n. refl;
  used = λ n. refl;
}

-- what is cleared by the one or by the other
either : (p q x y z : Bool) → x ≡ (if q then false else y) → y ≡ (if p then false else z)
    → x ≡ (if p || q then false else z)
either true true x y z after before = after
either true false x y z after before = after ∙ before
either false true x y z after before = after
either false false x y z after before = after ∙ before

pub releases_more : (size : ℕ) (a b c : Image) (f : Finding) (fs : List Finding)
    → Releases size a b (λ m. m == f.page.0) → Releases size b c (is_page_of fs)
    → Releases size a c (is_page_of (f ∷ fs))
releases_more size a b c f fs one more = record {
  count = more.count ∙ one.count;
  lengths = λ n. more.lengths n ∙ one.lengths n;
  kept = λ n none. more.kept n (λ m gone. none m (or_right (m == f.page.0) (is_page_of fs m) gone))
      ∙ one.kept n (λ m gone. none m (or_left (m == f.page.0) (is_page_of fs m) gone));
  front = λ n. more.front n ∙ one.front n;
  used = λ n. either (n == f.page.0) (is_page_of fs n) (is_used size (page_at size c) n)
      (is_used size (page_at size b) n) (is_used size (page_at size a) n) (more.used n) (one.used n);
}

-- ---- the pages of findings

-- each page is within the limit, and the page with its bit is there
abbrev pub AreThere : ℕ → ℕ → List Finding → Type 0
AreThere size count [] = Unit {0}
AreThere size count (f ∷ fs) = (f.page.0 < GREATEST_LIMIT) × (bit_page size f.page.0 < count)
    × AreThere size count fs

blank_byte : (size at : ℕ) → byte (blank size) at ≡ 0
blank_byte zero at = refl
blank_byte (suc size) zero = refl
blank_byte (suc size) (suc at) = blank_byte size at

-- a page that is marked as used is marked on a page that is there
marked_there : (size : ℕ) (image : Image) (n : ℕ) → is_used size (page_at size image) n ≡ true
    → bit_page size n < length image
unfolding is_used
marked_there size image n used = at (cases_lt (bit_page size n) (length image))
  where
    at : (bit_page size n < length image) ⊎ (length image ≤ bit_page size n)
        → bit_page size n < length image
    at (inl inside) = inside
    at (inr past) = absurd (let unused = ap (λ (b : List ℕ). used_in b (n % bits size))
        (get_or_past image (bit_page size n) (blank size) past)
        ∙ zero_unused (blank size) (n % bits size) (blank_byte size (BITS_AT + n % bits size / 8)) in
        let both = sym used ∙ unused in cc)

there_each : (size : ℕ) (image : Image) (found : List Finding)
    → ((f : Finding) → Has found f
    → (f.page.0 < GREATEST_LIMIT) × (bit_page size f.page.0 < length image))
    → AreThere size (length image) found
there_each size image [] each = tt
there_each size image (f ∷ fs) each = let here = each f (inl refl) in (
  here.0,
  here.1,
  there_each size image fs (λ g has. each g (inr has)),
)

pub orphans_there : (size : ℕ) (image : Image) (found : List Finding) → AreOrphans size image found
    → AreThere size (length image) found
orphans_there size image found orphans = there_each size image found each
  where
    at : (f : Finding) → IsOrphanFinding size (page_at size image) orphans.0 f
        → (f.page.0 < GREATEST_LIMIT) × (bit_page size f.page.0 < length image)
    at f orphan = subst
        (λ (g : Finding). (g.page.0 < GREATEST_LIMIT) × (bit_page size g.page.0 < length image))
        (sym orphan.2.1) (orphan.1, marked_there size image orphan.0 orphan.2.0.0)

    each : (f : Finding) → Has found f
        → (f.page.0 < GREATEST_LIMIT) × (bit_page size f.page.0 < length image)
    each f has = at f ((orphans.1.members f).0 has)

-- How far the walk over the findings has come: what is left to be cleared completes the whole.
pub record IsReleasing (size : ℕ) (old now : Image) (found rest : List Finding) : Type 0 where
  pub whole : IsWholeImage size now
  pub there : AreThere size (length now) rest
  pub completes : (final : Image) → Releases size now final (is_page_of rest)
      → Releases size old final (is_page_of found)

pub begins : (size : ℕ) (image : Image) (found : List Finding) → IsWholeImage size image
    → AreOrphans size image found → IsReleasing size image image found found
begins size image found whole orphans = record {
  whole = whole;
  there = orphans_there size image found orphans;
  completes = λ final rest. rest;
}

pub goes_on : (size : ℕ) (old now next : Image) (found later : List Finding) (f : Finding)
    → IsReleasing size old now found (f ∷ later) → Releases size now next (λ m. m == f.page.0)
    → IsReleasing size old next found later
goes_on size old now next found later f is one = record {
  whole = record {
    lawful = is.whole.lawful;
    whole = λ n. one.lengths n ∙ is.whole.whole n;
  };
  there = subst (λ (count : ℕ). AreThere size count later) (sym one.count) is.there.2;
  completes = λ final rest. is.completes final (releases_more size now next final f later one rest);
}

pub ends : (size : ℕ) (old now : Image) (found : List Finding) → IsReleasing size old now found []
    → Releases size old now (is_page_of found)
ends size old now found is = is.completes now (releases_none size now)

-- ---- the law

of_finding : (found : List Finding) (n : ℕ) → is_page_of found n ≡ true
    → (f : Finding) × Has found f × (n ≡ f.page.0)
of_finding [] n is = absurd cc
of_finding (f ∷ fs) n is =
    at (or_cases (n == f.page.0) (is_page_of fs n) is) (λ later. of_finding fs n later)
  where
    at : ((n == f.page.0) ≡ true) ⊎ (is_page_of fs n ≡ true)
        → (is_page_of fs n ≡ true → (g : Finding) × Has fs g × (n ≡ g.page.0))
        → (g : Finding) × Has (f ∷ fs) g × (n ≡ g.page.0)
    at (inl same) more = (f, inl refl, eqb-true n f.page.0 same)
    at (inr later) more = let it = more later in (it.0, inr it.1, it.2)

has_page : (found : List Finding) (f : Finding) → Has found f → is_page_of found f.page.0 ≡ true
has_page [] f has = absurd has
has_page (g ∷ gs) f (inl same) = or_left (f.page.0 == g.page.0) (is_page_of gs f.page.0)
    (eq-eqb f.page.0 g.page.0 (ap (λ (h : Finding). h.page.0) same))
has_page (g ∷ gs) f (inr later) = or_right (f.page.0 == g.page.0) (is_page_of gs f.page.0)
    (has_page gs f later)

pub orphan_law : OrphanLaw
orphan_law size image reached found list n = (
  λ is. let of = of_finding found n is in orphan of.0 of.2 ((list.members of.0).0 of.1),
  λ orphan. has_page found (orphan_finding n)
      ((list.members (orphan_finding n)).1 (n, orphan.0, (orphan.1, refl))),
)
  where
    orphan : (f : Finding) → n ≡ f.page.0
        → IsOrphanFinding size (page_at size image) reached f
        → (n < GREATEST_LIMIT) × IsUnreached size (page_at size image) reached n
    orphan f same found_ =
        let here : n ≡ found_.0 = same ∙ ap (λ (g : Finding). g.page.0) found_.2.1 in
        subst (λ (m : ℕ). (m < GREATEST_LIMIT) × IsUnreached size (page_at size image) reached m)
        (sym here) (found_.1, found_.2.0)
