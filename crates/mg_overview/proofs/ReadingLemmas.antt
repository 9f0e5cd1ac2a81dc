-- A disk whose pages are read one after another.
use Rattle.std.proofs.Common.{◌≡◌, ◌∙◌, refl, sym, ap, arith, length-append, ◌<◌, ◌≤◌, ◌+◌, ℕ, zero, suc, true, List, [], ◌∷◌, ◌++◌, length, Option, Some, None}
use Rattle.std.specs.Prelude.{min, nat_lt, take, unwrap_or}
use Rattle.std.proofs.lemmas.Bool.{lt-ltb}
use Rattle.std.proofs.lemmas.List.{length-replicate, take_min, take_more}
use Rattle.mg_base.specs.Asking.{no_reads, one_read}
use Rattle.mg_base.specs.Disk.{FailsNoWrite, MayLeave, Meaning, ReadsPage, Stays}
use Rattle.mg_base.specs.Image.{Image, blank, page_at}
use Rattle.mg_base.specs.declared.geometry.TheConstants.{GREATEST_LIMIT}
use Rattle.mg_pool.specs.Pool.{KeepsContent}
use Rattle.mg_space.specs.ViewLaws.{content_on, same_content}
use Rattle.mg_overview.specs.Reading.{AreLong, HasPages, HasReadBelow, KeepsTold}

abbrev pub CountsNow : {D : Type 0} → Meaning D → Type 0
CountsNow {D} m = (disk : D) (t : ℕ) (c : Image) → m.tells disk ≡ true → t ≤ m.moment disk
    → MayLeave m disk c → m.left disk t c

abbrev pub Counted : {D : Type 0} → Meaning D → Type 0
Counted {D} m = (disk : D) (image : Image) (n : ℕ) → m.held disk ≡ Some image → m.count disk ≡ Some n
    → length image ≡ n

-- ---- what a disk has told stays told

stays_known : (a b : Option ℕ) (n : ℕ) → a ≡ Some n → Stays a b → b ≡ Some n
stays_known None b n is stays = absurd cc
stays_known (Some k) b n is stays = stays ∙ is

stays_least : (a b : Option ℕ) (count : ℕ) → count ≤ unwrap_or a 0 → Stays a b → count ≤ unwrap_or b 0
stays_least None b count some stays = omega (arith, some)
stays_least (Some k) b count some stays = rw stays some

stays_on : (a b c : Option ℕ) → Stays a b → Stays b c → Stays a c
stays_on None b c first second = tt
stays_on (Some n) b c first second = stays_known b c n first second

module _ {D : Type 0} (m : Meaning D) where
  pub told_on : (a b c : D) → KeepsTold m a b → KeepsTold m b c → KeepsTold m a c
  told_on a b c first second = record {
    sized = stays_on (m.size a) (m.size b) (m.size c) first.sized second.sized;
    counted = stays_on (m.count a) (m.count b) (m.count c) first.counted second.counted;
  }

  pub still_told : (disk : D) → KeepsTold m disk disk
  still_told disk = record { sized = same (m.size disk); counted = same (m.count disk) }
    where
      same : (o : Option ℕ) → Stays o o
      same None = tt
      same (Some n) = refl

  pub has_still : (old new : D) (size count : ℕ) → HasPages m old size count → KeepsTold m old new
      → HasPages m new size count
  has_still old new size count has told = record {
    sized = stays_known (m.size old) (m.size new) size has.sized told.sized;
    some = stays_least (m.count old) (m.count new) count has.some told.counted;
  }

-- ---- pages one after another

-- one more of this length
long_push : (size : ℕ) (pages : Image) (page : List ℕ) → AreLong size pages → length page ≡ size
    → AreLong size (pages ++ page ∷ [])
long_push size [] page long here zero = here
long_push size [] page long here (suc n) = long n
long_push size (x ∷ pages) page long here zero = long 0
long_push size (x ∷ pages) page long here (suc n) =
    long_push size pages page (λ k. long (suc k)) here n

-- so many pages are there
known_below : (o : Option ℕ) (n : ℕ) → n < unwrap_or o 0 → (k : ℕ) × (o ≡ Some k) × (n < k)
known_below None n below = absurd (omega (arith, below))
known_below (Some k) n below = (k, refl, below)

module _ {D : Type 0} (m : Meaning D) where
  pub read_none : (disk : D) (size count : ℕ) → HasPages m disk size count
      → HasReadBelow m disk disk size count 0 []
  read_none disk size count has = record {
    has = has;
    told = still_told m disk;
    content = same_content m disk;
    steady = refl;
    none_failed = refl;
    reads = no_reads m disk (λ k. nat_lt k count);
    len = refl;
    long = λ n. length-replicate {A = ℕ} size 0;
    image = λ image held. refl;
  }

  -- the next page
  pub read_more : CountsNow m → Counted m → (old now new : D) (size count n : ℕ) (pages : Image)
      → HasReadBelow m old now size count n pages → n < count → KeepsTold m now new
      → KeepsContent m now new → m.faults new ≡ m.faults now → FailsNoWrite m now new → ReadsPage m now new n
      → (page : List ℕ) → length page ≡ size
      → ((image : Image) → m.held now ≡ Some image → page ≡ page_at size image n)
      → HasReadBelow m old new size count (n + 1) (pages ++ page ∷ [])
  read_more counts counted old now new size count n pages before below told content steady none reads page
      long is = record {
        has = has_still m now new size count before.has told;
        told = told_on m old now new before.told told;
        content = content_on m counts old now new before.content content;
        steady = steady ∙ before.steady;
        none_failed = none ∙ before.none_failed;
        reads = one_read m old now new n n (λ k. nat_lt k count) before.reads reads (lt-ltb n count below);
        len = grind (arith, length-append, before.len);
        long = long_push size pages page before.long long;
        image = λ image held. next image held
            (known_below (m.count now) n (omega (arith, below, before.has.some)));
      }
    where
      next : (image : Image) → m.held old ≡ Some image
          → (k : ℕ) × (m.count now ≡ Some k) × (n < k)
          → pages ++ page ∷ [] ≡ take (n + 1) image
      next image held known =
          let here = before.content.held ∙ held in
          let all = counted now image known.0 here known.1 in
          let inside : n < length image = omega (arith, all, known.2) in
          rw (before.image image held, is image here) (sym (take_more image n (blank size) inside))

-- ---- the whole disk

module _ {D : Type 0} (m : Meaning D) where
  -- the pages of the disk
  pub whole_image : Counted m → (disk : D) (image pages : Image) (total count : ℕ)
      → m.held disk ≡ Some image → m.count disk ≡ Some total → count ≡ min total GREATEST_LIMIT
      → pages ≡ take count image → pages ≡ take GREATEST_LIMIT image
  whole_image counted disk image pages total count held told is these =
      let all = counted disk image total held told in
      these ∙ (ap (λ (n : ℕ). take n image) (least all) ∙ take_min GREATEST_LIMIT image)
    where
      least : length image ≡ total → count ≡ min GREATEST_LIMIT (length image)
      least all = omega (arith, all, is)
