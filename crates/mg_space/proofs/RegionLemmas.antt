-- The taking of a page, region by region.
use Rattle.std.proofs.Common.{◌≡◌, ◌≢◌, ◌<◌, ◌≤◌, ◌⊎◌, ◌+◌, ◌*◌, ◌-◌, ◌/◌, ◌++◌, ◌↔◌, ℕ, true, List, length, take, sym, ap, subst, ◌∙◌, arith, inl, inr, min, Option, None, Some, Result, Ok, Err, MatchResult, IsErr, IsErrAnd, IfSome}
use Rattle.std.proofs.Math.Nat.{add-mul, le-div_iff_mul-le, one-mul}
use Rattle.std.proofs.Math.Seq.{take-append_seam}
use Rattle.std.proofs.lemmas.Bool.{cases_lt}
use Rattle.mg_base.specs.Disk.{Meaning}
use Rattle.mg_base.specs.Image.{Image}
use Rattle.mg_base.specs.declared.geometry.Geometry.{Geometry}
use Rattle.mg_base.specs.declared.numbers.PageNo.{PageNo}
use Rattle.mg_image.specs.Form.{Pages}
use Rattle.mg_image.specs.Inventory.{inventory_page}
use Rattle.mg_pip.specs.PipPage.{AllUsed, IsFirstFree, SetsUsed, bits}
use Rattle.mg_pool.specs.Batch.{Changed, PutsPage}
use Rattle.mg_pool.specs.declared.pool.Pool.{Pool}
use Rattle.mg_space.specs.declared.fault.SpaceFault.{SpaceFault}
use Rattle.mg_space.specs.declared.fault.SpaceFault.TheVariants as faults
use Rattle.mg_space.specs.Taking.{IsFree, IsFull, IsGeometry, IsMarked, MarksFixed, PutsInventory, RefusesRegion, RefusesTake, TakesBit, TakesInRegion, TakesPage, region_of, taking_limit}
use Rattle.mg_space.specs.TakingLaws.{bits_some, region_is}
use Rattle.mg_space.specs.View.{AreWhole, KeepsStore, Tells, viewed}
use Rattle.mg_space.specs.ViewLaws.{tells_on, viewed_on}
use Rattle.mg_space.proofs.TakingLemmas.{none_free, of_region, puts, takes}

-- bytes that were written through a slice
pub written_back : (len : ℕ) (made rest put : List ℕ) → len ≡ length made
    → put ≡ take len (made ++ rest) → put ≡ made
written_back len made rest put same is = is
    ∙ (ap (λ (n : ℕ). take n (made ++ rest)) same ∙ take-append_seam made rest)

-- ---- in a region: by the numbers that the program has

module _ (g : Geometry) (limit region bits_ below : ℕ) (lawful : IsGeometry g)
    (limit_is : limit ≡ taking_limit g) (bits_is : bits_ ≡ bits g.size)
    (below_is : below ≡ min bits_ (limit - region * bits_)) where
  abbrev at : ℕ
  at = inventory_page g.size region

  below_to : below ≡ min (bits g.size) (taking_limit g - region * bits g.size)
  below_to = below_is ∙ (ap (λ (l : ℕ). min bits_ (l - region * bits_)) limit_is
      ∙ ap (λ (b : ℕ). min b (taking_limit g - region * b)) bits_is)

  pub none_in : (old : Pages) (page seen : List ℕ) → seen ≡ page
      → MarksFixed at region (old at) page → AllUsed seen below
      → (n : ℕ) → region_of g.size n ≡ region → IsFree g old n → ⊥
  none_in old page seen seen_is marks all = none_free g region old page lawful marks
      (subst (λ (p : List ℕ). AllUsed p (min (bits g.size) (taking_limit g - region * bits g.size)))
      seen_is (subst (λ (b : ℕ). AllUsed seen b) below_to all))

  first_to : (page seen : List ℕ) (bit : ℕ) → seen ≡ page → IsFirstFree seen below bit
      → IsFirstFree page (min (bits g.size) (taking_limit g - region * bits g.size)) bit
  first_to page seen bit seen_is first = subst (λ (p : List ℕ). IsFirstFree p
      (min (bits g.size) (taking_limit g - region * bits g.size)) bit) seen_is
      (subst (λ (b : ℕ). IsFirstFree seen b bit) below_to first)

  pub puts_in : (page seen made put : List ℕ) (bit : ℕ) (batch after : Changed) → seen ≡ page
      → put ≡ made → length page ≡ g.size → IsMarked region page → at < taking_limit g
      → TakesBit below seen made bit → PutsPage batch after (region * bits_ + 1) put
      → PutsInventory g batch after (region * bits_ + bit)
  puts_in page seen made put bit batch after seen_is put_is len marked inside takes_ puts_ =
      subst (λ (b : ℕ). PutsInventory g batch after (region * b + bit)) (sym bits_is)
      (puts g region (λ n. page) page lawful bit (first_to page seen bit seen_is takes_.first) put batch
      after marked inside
      (ap (λ (p : List ℕ). length p) put_is ∙ (takes_.sets.len
      ∙ (ap (λ (p : List ℕ). length p) seen_is ∙ len)))
      (subst (λ (b : ℕ). PutsPage batch after (region * b + 1) put) bits_is puts_))

  pub takes_in : (old new : Pages) (page seen made put : List ℕ) (bit : ℕ) → seen ≡ page
      → put ≡ made → length page ≡ g.size → MarksFixed at region (old at) page → at < taking_limit g
      → TakesBit below seen made bit → new (region * bits_ + 1) ≡ put
      → ((m : ℕ) → m ≢ region * bits_ + 1 → new m ≡ old m)
      → TakesInRegion g region old new (Some (record { 0 = region * bits_ + bit }))
  takes_in old new page seen made put bit seen_is put_is len marks inside takes_ here others =
      subst (λ (b : ℕ). TakesInRegion g region old new (Some (record { 0 = region * b + bit })))
      (sym bits_is) (
        of_region g region old page lawful bit first,
        λ before. takes g region old page lawful bit first new made marks inside len
            (subst (λ (p : List ℕ). SetsUsed p made bit true) seen_is takes_.sets)
            (subst (λ (b : ℕ). new (region * b + 1) ≡ put) bits_is here ∙ put_is)
            (subst (λ (b : ℕ). (m : ℕ) → m ≢ region * b + 1 → new m ≡ old m) bits_is others)
            before,
      )
    where
      first : IsFirstFree page (min (bits g.size) (taking_limit g - region * bits g.size)) bit
      first = first_to page seen bit seen_is takes_.first

-- ---- region after region

-- why no page is taken, where none before the region is free
refuses : (g : Geometry) (region : ℕ) (pages : Pages) (fault : SpaceFault)
    → inventory_page g.size region < taking_limit g
    → ((n : ℕ) → n < region * bits g.size → IsFree g pages n → ⊥)
    → RefusesRegion g region pages fault → RefusesTake g pages fault
refuses g region pages (faults.Full limit) below none never = absurd never
refuses g region pages (faults.Damaged damage) below none damaged = record {
  region = region;
  below = below;
  none_before = none;
  damaged = damaged;
}
refuses g region pages (faults.Pool fault) below none free = tt

module _ {D L : Type 0} (m : Meaning D) (a b : Pool D L) (image : Image)
    (batch_a batch_b : Changed) (kept : KeepsStore m a b) (same : batch_b ≡ batch_a)
    (tells : Tells m a.disk image) (region : ℕ)
    (none : (n : ℕ) → n < region * bits a.geometry.size
    → IsFree a.geometry (viewed a image batch_a) n → ⊥) where
  views : viewed b image batch_b ≡ viewed a image batch_a
  views = ap (viewed b image) same ∙ viewed_on m a b image batch_a kept

  pub refuses_on : (fault : SpaceFault)
      → inventory_page a.geometry.size region < taking_limit a.geometry
      → (Tells m b.disk image → RefusesRegion b.geometry region (viewed b image batch_b) fault)
      → RefusesTake a.geometry (viewed a image batch_a) fault
  refuses_on fault below refusal = refuses a.geometry region (viewed a image batch_a) fault below
      none (subst (λ (g : Geometry). RefusesRegion g region (viewed a image batch_a) fault)
      kept.geometry
      (subst (λ (v : Pages). RefusesRegion b.geometry region v fault) views
      (refusal (tells_on m a b image kept tells))))

  of_a : (new : Changed) (taken : Option PageNo)
      → (Tells m b.disk image → TakesInRegion b.geometry region (viewed b image batch_b)
      (viewed b image new) taken)
      → TakesInRegion a.geometry region (viewed a image batch_a) (viewed a image new) taken
  of_a new taken takes_ = subst (λ (g : Geometry). TakesInRegion g region (viewed a image batch_a)
      (viewed a image new) taken) kept.geometry
      (subst (λ (v : Pages). TakesInRegion b.geometry region v (viewed a image new) taken) views
      (subst (λ (v : Pages). TakesInRegion b.geometry region (viewed b image batch_b) v taken)
      (viewed_on m a b image new kept) (takes_ (tells_on m a b image kept tells))))

  pub takes_on : (new : Changed) (taken : Option PageNo) (page : PageNo) → taken ≡ Some page
      → (Tells m b.disk image → TakesInRegion b.geometry region (viewed b image batch_b)
      (viewed b image new) taken)
      → TakesPage a.geometry (viewed a image batch_a) (viewed a image new) page.0
  takes_on new taken page is takes_ =
      let whole : TakesInRegion a.geometry region (viewed a image batch_a) (viewed a image new)
      (Some page) = subst (λ (o : Option PageNo). TakesInRegion a.geometry region
      (viewed a image batch_a) (viewed a image new) o) is (of_a new taken takes_) in
      whole.1 none

  pub none_on : (new : Changed) (taken : Option PageNo) → taken ≡ None → IsGeometry a.geometry
      → (Tells m b.disk image → TakesInRegion b.geometry region (viewed b image batch_b)
      (viewed b image new) taken)
      → (n : ℕ) → n < (region + 1) * bits a.geometry.size
      → IsFree a.geometry (viewed a image batch_a) n → ⊥
  none_on new taken is lawful takes_ n less = of (cases_lt n (region * bits a.geometry.size))
    where
      whole : TakesInRegion a.geometry region (viewed a image batch_a) (viewed a image new) None
      whole = subst (λ (o : Option PageNo). TakesInRegion a.geometry region
          (viewed a image batch_a) (viewed a image new) o) is (of_a new taken takes_)

      split : (r k : ℕ) → (r + 1) * k ≡ r * k + k
      split r k = add-mul r 1 k ∙ ap (λ (x : ℕ). r * k + x) (one-mul k)

      of : (n < region * bits a.geometry.size) ⊎ (region * bits a.geometry.size ≤ n)
          → IsFree a.geometry (viewed a image batch_a) n → ⊥
      of (inl early) = none n early
      of (inr late) =
          let inside : n - region * bits a.geometry.size < bits a.geometry.size =
          omega (arith, split region (bits a.geometry.size)) in
          let sum : region * bits a.geometry.size + (n - region * bits a.geometry.size) ≡ n =
          omega arith in
          whole n (ap (λ (k : ℕ). region_of a.geometry.size k) (sym sum)
          ∙ region_is a.geometry.size region (n - region * bits a.geometry.size) inside)

-- a fault that is handed on
pub handed_on : {T : Type 0} (result : Result T SpaceFault) (fault : SpaceFault)
    (P : T → Type 0) (Q : SpaceFault → Type 0) → IsErr result
    → IsErrAnd result (λ given. given ≡ fault) → Q fault → MatchResult result P Q
handed_on (Ok x) fault P Q err is holds = absurd cc
handed_on (Err e) fault P Q err is holds = subst Q (sym is) holds

-- ---- from region to region the cache and the batch stay as they were

module _ (g h : Geometry) (a b : Changed) (same : h ≡ g) (batch : b ≡ a) where
  pub lawful_on : IsGeometry g → IsGeometry h
  lawful_on lawful = subst IsGeometry (sym same) lawful

  pub whole_still : AreWhole g a.pages → AreWhole h b.pages
  whole_still whole = subst (λ (x : Geometry). AreWhole x b.pages) (sym same)
      (subst (λ (x : Changed). AreWhole g x.pages) (sym batch) whole)

  pub puts_on : (new : Changed) (taken : Option PageNo) (page : PageNo) → taken ≡ Some page
      → IfSome taken (λ given. PutsInventory h b new given.0) → PutsInventory g a new page.0
  puts_on new taken page is put = subst (λ (x : Geometry). PutsInventory x a new page.0) same
      (subst (λ (x : Changed). PutsInventory h x new page.0) batch
      (subst (λ (o : Option PageNo). IfSome o (λ given. PutsInventory h b new given.0)) is put))

-- no page is free where no region has one
pub full : (g : Geometry) (region end : ℕ) (pages : Pages) → IsGeometry g → end ≤ region
    → ((r : ℕ) → r < end ↔ (inventory_page g.size r < taking_limit g))
    → ((n : ℕ) → n < region * bits g.size → IsFree g pages n → ⊥) → IsFull g pages
full g region end pages lawful past each none n free = none n (inside (cases_lt n (region * bits g.size))) free
  where
    inside : (n < region * bits g.size) ⊎ (region * bits g.size ≤ n) → n < region * bits g.size
    inside (inl less) = less
    inside (inr late) =
        let some = bits_some g.size lawful.size in
        let least : region ≤ n / bits g.size =
        (le-div_iff_mul-le {k = bits g.size} {x = region} {y = n} (omega arith)).1 late in
        let most : n / bits g.size < end = (each (n / bits g.size)).1 free.region in
        absurd (omega arith)
