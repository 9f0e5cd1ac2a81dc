-- A disk that is asked, call by call.
use Rattle.std.proofs.Common.{◌≡◌, ◌≢◌, ◌==◌, ◌⊎◌, inl, inr, ◌<◌, ◌≤◌, ◌+◌, ℕ, zero, suc, Bool, true, Some, ap, length, subst, refl, ◌∙◌, arith, Option, None, sym}
use Rattle.std.specs.Prelude.{◌↔◌, IsErr, IsTrue, Result, Ok, Err, IfOk, min}
use Rattle.std.proofs.lemmas.Bool.{cases_lt, false≢true}
use Rattle.std.proofs.lemmas.List.{get_or_past}
use Rattle.mg_base.specs.Asking.{kept_reads, no_reads, one_read}
use Rattle.mg_base.specs.Disk.{Calm, FailsNoWrite, KeepsReads, MayLeave, Meaning, ReadsPage, Rose, Stays}
use Rattle.mg_base.specs.Geometry.{is_page_size}
use Rattle.mg_base.specs.Image.{Image, blank, page_at}
use Rattle.mg_base.specs.declared.geometry.TheConstants.{GREATEST_LIMIT}
use Rattle.mg_image.specs.Form.{Pages, packed_coding, packed_form}
use Rattle.mg_image.specs.NewDatabase.{IsNewPage}
use Rattle.mg_image.specs.Opening.{IsUnmade}
use Rattle.mg_pool.specs.Pool.{KeepsContent}
use Rattle.mg_space.specs.ViewLaws.{content_on, same_content}
use Rattle.mg_survey.specs.Survey.{AreUnmadeBehind, HasPages, HasTested, IsSurveyed, IsUnmadeAt, OnlyAsks, ReadsHead, IsSameDisk, limit_of, new_pages}
use Rattle.mg_survey.specs.declared.survey.Survey.{Survey}
use Rattle.mg_survey.specs.UnmadeLaws.{zero_is_unmade}

abbrev pub CountsNow : {D : Type 0} → Meaning D → Type 0
CountsNow {D} m = (disk : D) (t : ℕ) (c : Image) → m.tells disk ≡ true → t ≤ m.moment disk
    → MayLeave m disk c → m.left disk t c

abbrev pub Counted : {D : Type 0} → Meaning D → Type 0
Counted {D} m = (disk : D) (image : Image) (n : ℕ) → m.held disk ≡ Some image → m.count disk ≡ Some n
    → length image ≡ n

-- ---- what a disk has told of itself

stays_known : (a b : Option ℕ) (n : ℕ) → a ≡ Some n → Stays a b → b ≡ Some n
stays_known None b n is stays = absurd cc
stays_known (Some k) b n is stays = stays ∙ is

-- it stays over a call that changes nothing,
pub calm_same : {D T E : Type 0} {result : Result T E} (m : Meaning D) (old new : D) → Calm m old new result
    → IsSameDisk m old new
calm_same m old new calm = record {
  size = λ n known. stays_known (m.size old) (m.size new) n known calm.keeps.size;
  tells = calm.keeps.tells;
  most_writes = calm.keeps.most_writes;
}

-- over two of them,
pub twice_same : {D : Type 0} (m : Meaning D) (old mid new : D) → IsSameDisk m old mid → IsSameDisk m mid new
    → IsSameDisk m old new
twice_same m old mid new first then_ = record {
  size = λ n known. then_.size n (first.size n known);
  tells = then_.tells ∙ first.tells;
  most_writes = then_.most_writes ∙ first.most_writes;
}

-- and where the page size is still the same
pub sized_same : {D : Type 0} (m : Meaning D) (old mid new : D) (size : ℕ) → IsSameDisk m old mid
    → m.size mid ≡ Some size → m.size new ≡ Some size → KeepsContent m mid new → IsSameDisk m old new
sized_same m old mid new size first told sized keeps = record {
  size = λ n known. sized ∙ (sym told ∙ first.size n known);
  tells = keeps.tells ∙ first.tells;
  most_writes = keeps.most_writes ∙ first.most_writes;
}

-- ---- what was asked

module _ {D : Type 0} (m : Meaning D) where
  -- a call that changes nothing keeps the content,
  pub calm_content : {T E : Type 0} {result : Result T E} (old new : D) → Calm m old new result
      → FailsNoWrite m old new → KeepsContent m old new
  calm_content old new calm none = record {
    held = calm.held;
    tells = calm.keeps.tells;
    most_writes = calm.keeps.most_writes;
    never_falls = calm.keeps.never_falls;
    failed_writes = omega (arith, none);
    crash = calm.crash;
    time = calm.keeps.time;
    asked = calm.asked;
  }

  -- and what was told of it
  pub has_pages : {T E : Type 0} {result : Result T E} (old new : D) (size pages : ℕ) → m.size old ≡ Some size
      → Calm m old new result → m.count new ≡ Some pages → HasPages m new size pages
  has_pages old new size pages sized calm count = record {
    sized = stays_known (m.size old) (m.size new) size sized calm.keeps.size;
    count = count;
  }

  pub has_still : {T E : Type 0} {result : Result T E} (old new : D) (size pages : ℕ)
      → HasPages m old size pages → Calm m old new result → HasPages m new size pages
  has_still old new size pages has calm = has_pages old new size pages has.sized calm
      (stays_known (m.count old) (m.count new) pages has.count calm.count)

  -- calls that answered
  pub asks_answered : {T E : Type 0} (old new : D) (x : T) → KeepsContent m old new
      → m.faults new ≡ m.faults old → FailsNoWrite m old new → OnlyAsks {E = E} m old new (Ok x)
  asks_answered old new x content steady none = record {
    content = content;
    cause = λ is. absurd (false≢true is);
    steady = steady;
    none_failed = none;
  }

  -- a call that failed
  pub asks_calm : {T U E : Type 0} (old new : D) (result : Result U E) (fault : E) → IsErr result
      → Calm {T = T} m old new (Err fault) → FailsNoWrite m old new → OnlyAsks m old new result
  asks_calm old new (Ok x) fault err calm none = absurd (false≢true err)
  asks_calm old new (Err e) fault err calm none = record {
    content = calm_content old new calm none;
    cause = λ is. calm.keeps.cause refl;
    steady = tt;
    none_failed = none;
  }

  pub asks_same : {T U E : Type 0} (old new : D) (result : Result U E) (fault : E) → IsErr result
      → OnlyAsks {T = T} m old new (Err fault) → OnlyAsks m old new result
  asks_same old new (Ok x) fault err asks = absurd (false≢true err)
  asks_same old new (Err e) fault err asks = record {
    content = asks.content;
    cause = λ is. asks.cause refl;
    steady = tt;
    none_failed = asks.none_failed;
  }

  -- and one behind others that answered
  module _ (now : CountsNow m) (old mid new : D) (content : KeepsContent m old mid)
      (steady : m.faults mid ≡ m.faults old) (none : FailsNoWrite m old mid) where
    pub asks_over : {T E : Type 0} (result : Result T E) → OnlyAsks m mid new result → OnlyAsks m old new result
    asks_over (Ok x) asks = asks_answered old new x (content_on m now old mid new content asks.content)
        (asks.steady ∙ steady) (asks.none_failed ∙ none)
    asks_over (Err e) asks = record {
      content = content_on m now old mid new content asks.content;
      cause = λ is. subst (λ (n : ℕ). Rose n (m.faults new)) steady (asks.cause refl);
      steady = tt;
      none_failed = asks.none_failed ∙ none;
    }

    pub asks_up : {T U E : Type 0} (result : Result U E) (fault : E) → IsErr result
        → OnlyAsks {T = T} m mid new (Err fault) → OnlyAsks m old new result
    asks_up result fault err asks = asks_over result (asks_same mid new result fault err asks)

    pub calm_up : {T U E : Type 0} (result : Result U E) (fault : E) → IsErr result
        → Calm {T = T} m mid new (Err fault) → FailsNoWrite m mid new → OnlyAsks m old new result
    calm_up result fault err calm still = asks_over result (asks_calm mid new result fault err calm still)

  -- no page was tested yet
  pub tested_none : (disk : D) (size pages : ℕ) → HasPages m disk size pages
      → HasTested m disk disk size pages 1
  tested_none disk size pages has = record {
    has = has;
    content = same_content m disk;
    steady = refl;
    none_failed = refl;
    unmade = λ image held k some below. absurd (omega (arith, some, below));
  }

  -- what a disk has told
  pub surveyed : Counted m → (old mid new : D) (asked size pages : ℕ) (it : Survey) → m.size new ≡ Some size
      → is_page_size size ≡ true → m.held mid ≡ m.held old → m.count mid ≡ Some pages → m.count new ≡ Some pages
      → it.geometry.size ≡ size → it.geometry.limit ≡ limit_of asked pages
      → ((image : Image) → m.held mid ≡ Some image
      → IsTrue it.unmade ↔ IsUnmade packed_form size (page_at size image)) → IsSurveyed m old new asked it
  surveyed counted old mid new asked size pages it sized lawful held count told same limit unmade = record {
    sized = sized ∙ ap (λ (n : ℕ). Some n) (sym same);
    lawful = subst (λ (n : ℕ). is_page_size n ≡ true) (sym same) lawful;
    within = (pages, told, subst (λ (n : ℕ). pages ≤ n) (sym limit) (omega arith));
    room = subst (λ (n : ℕ). new_pages ≤ n) (sym limit) (omega arith);
    limit_is = λ image is. limit
        ∙ ap (limit_of asked) (sym (counted mid image pages (held ∙ is) count));
    unmade_is = λ image is. subst
        (λ (n : ℕ). IsTrue it.unmade ↔ IsUnmade packed_form n (page_at n image)) (sym same)
        (unmade image (held ∙ is));
  }

-- ---- the pages one after another

pub tested_more : {D : Type 0} (m : Meaning D) → CountsNow m → (old mid new : D) (size pages n : ℕ)
    → HasTested m old mid size pages n → HasPages m new size pages → KeepsContent m mid new
    → m.faults new ≡ m.faults mid → FailsNoWrite m mid new
    → ((image : Image) → m.held mid ≡ Some image → IsUnmadeAt size n (page_at size image n))
    → HasTested m old new size pages (n + 1)
tested_more m now old mid new size pages n so_far has content steady none here = record {
  has = has;
  content = content_on m now old mid new so_far.content content;
  steady = steady ∙ so_far.steady;
  none_failed = none ∙ so_far.none_failed;
  unmade = λ image held k some below. at image held k some below (cases_lt k n);
}
  where
    at : (image : Image) → m.held old ≡ Some image → (k : ℕ) → 1 ≤ k → k < n + 1 → (k < n) ⊎ (n ≤ k)
        → IsUnmadeAt size k (page_at size image k)
    at image held k some below (inl before) = so_far.unmade image held k some before
    at image held k some below (inr past) =
        let same : n ≡ k = omega (arith, below, past) in
        subst (λ (i : ℕ). IsUnmadeAt size i (page_at size image i)) same
        (here image (so_far.content.held ∙ held))

-- a page past the end is zero
past_end : (size : ℕ) (image : Image) (n : ℕ) → length image ≤ n → page_at size image n ≡ blank size
past_end size image n past = get_or_past image n (blank size) past

pub all_tested : {D : Type 0} (m : Meaning D) → Counted m → (old now : D) (size pages n : ℕ)
    → HasTested m old now size pages n → min pages GREATEST_LIMIT ≤ n → (image : Image)
    → m.held old ≡ Some image → AreUnmadeBehind size (page_at size image)
all_tested m counts old now size pages n so_far end image held k some below = at (cases_lt k n)
  where
    counted : length image ≡ pages
    counted = counts now image pages (so_far.content.held ∙ held) so_far.has.count

    at : (k < n) ⊎ (n ≤ k) → IsUnmadeAt size k (page_at size image k)
    at (inl inside) = so_far.unmade image held k some inside
    at (inr past) = zero_is_unmade size k (page_at size image k)
        (past_end size image k (omega (arith, counted, past, end, below)))

-- ---- the whole

module _ (size : ℕ) (pages : Pages) where
  behind : (n : ℕ) → 1 ≤ n → IsUnmadeAt size n (pages n)
      → (pages n ≡ blank size) ⊎ IsNewPage packed_coding size n (pages n)
  behind zero some is = absurd (omega (arith, some))
  behind (suc n) some is = is

  back : (n : ℕ) → 1 ≤ n → (pages n ≡ blank size) ⊎ IsNewPage packed_coding size n (pages n)
      → IsUnmadeAt size n (pages n)
  back zero some is = absurd (omega (arith, some))
  back (suc n) some is = is

  both_unmade : (rest : Bool) → IsUnmadeAt size 0 (pages 0) → (IsTrue rest ↔ AreUnmadeBehind size pages)
      → IsTrue rest ↔ IsUnmade packed_form size pages
  both_unmade rest first others = (
    λ is. record { header = first; others = λ n some below. behind n some (others.0 is n some below) },
    λ unmade. others.1 (λ n some below. back n some (unmade.others n some below)),
  )

  pub all_unmade : {E : Type 0} (result : Result Bool E) → IsUnmadeAt size 0 (pages 0)
      → IfOk result (λ is. IsTrue is ↔ AreUnmadeBehind size pages)
      → IfOk result (λ is. IsTrue is ↔ IsUnmade packed_form size pages)
  all_unmade (Ok rest) first others = both_unmade rest first others
  all_unmade (Err e) first others = tt

-- a disk without pages
pub empty_unmade : {D : Type 0} (m : Meaning D) → Counted m → (disk : D) (size pages : ℕ)
    → HasPages m disk size pages → pages ≡ 0 → (image : Image) → m.held disk ≡ Some image
    → IsTrue true ↔ IsUnmade packed_form size (page_at size image)
empty_unmade m counts disk size pages has none image held = both_unmade size (page_at size image) true
    (zero 0) (λ yes_ n some below. zero_is_unmade size n (page_at size image n) (zero n), λ all. refl)
  where
    zero : (n : ℕ) → page_at size image n ≡ blank size
    zero n = let counted = counts disk image pages held has.count in
        past_end size image n (omega (arith, counted, none))

-- ---- what is read

-- two calls read nothing, and the third page 0 alone where it is not zero
pub head_alone : {D : Type 0} (m : Meaning D) (disk sized counted new : D) (size : ℕ)
    → KeepsReads m disk sized → KeepsReads m sized counted → m.held counted ≡ m.held disk
    → ((image : Image) → m.held counted ≡ Some image → page_at size image 0 ≢ blank size
    → ReadsPage m counted new 0) → ReadsHead m disk new size
head_alone m disk sized counted new size first second held reads = λ image is other.
    one_read m disk counted new 0 0 (λ n. n == 0)
    (kept_reads m disk sized counted 0 (λ n. n == 0)
    (kept_reads m disk disk sized 0 (λ n. n == 0) (no_reads m disk (λ n. n == 0)) first) second)
    (reads image (held ∙ is) other) refl
