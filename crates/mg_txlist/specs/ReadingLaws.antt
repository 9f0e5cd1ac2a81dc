-- Laws of pages that were looked for one after another.
use Rattle.std.specs.Prelude.{◌≡◌, ◌⊎◌, ◌+◌, ℕ, Bool, true, List, [], Some, IsSome, is_some}
use Rattle.std.proofs.Common.{inl, inr, ap, subst}
use Rattle.mg_base.specs.Asking.{AsksReads, kept_reads, more_reads, no_reads, one_read}
use Rattle.mg_base.specs.Disk.{Meaning}
use Rattle.mg_pool.specs.Batch.{content_in}
use Rattle.mg_pool.specs.Change.{or_else}
use Rattle.mg_pool.specs.Pool.{resident}
use Rattle.mg_pool.specs.Reading.{Fetches, ReadsPages}
use Rattle.mg_pool.specs.ReadingLaws.{stay_more, stay_still}
use Rattle.mg_pool.specs.declared.batch.BatchPage.{BatchPage}
use Rattle.mg_pool.specs.declared.pool.Pool.{Pool}

-- what is said of few pages is said of more
pub of_more : {D : Type 0} (m : Meaning D) (old new : D) (most : ℕ) (few many : ℕ → Bool)
    → ((n : ℕ) → few n ≡ true → many n ≡ true) → AsksReads m old new most few
    → AsksReads m old new most many
of_more m old new most few many within run = record {
  reads = run.reads;
  alone = λ n was. at n (run.alone n was);
}
  where
    at : (n : ℕ) → (m.was_read old n ≡ true) ⊎ (few n ≡ true)
        → (m.was_read old n ≡ true) ⊎ (many n ≡ true)
    at n (inl before) = inl before
    at n (inr is) = inr (within n is)

module _ {D L : Type 0} (m : Meaning D) where
  pub none_yet : (store : Pool D L) (pages : ℕ → Bool) → ReadsPages m store store 0 pages
  none_yet store pages = record { asks = no_reads m store.disk pages; stay = stay_still store }

  -- one page more is looked for
  pub one_more : (old mid new : Pool D L) (page most : ℕ) (pages : ℕ → Bool)
      → ReadsPages m old mid most pages → Fetches m mid new page → pages page ≡ true
      → ReadsPages m old new (most + 1) pages
  one_more old mid new page most pages run one within = record {
    asks = one_read m old.disk mid.disk new.disk page most pages run.asks one.once within;
    stay = stay_more old mid new run.stay one.stay;
  }

  -- one that is in memory
  pub held_more : (old mid new : Pool D L) (page most : ℕ) (pages : ℕ → Bool)
      → ReadsPages m old mid most pages → Fetches m mid new page → IsSome (resident mid page)
      → ReadsPages m old new most pages
  held_more old mid new page most pages run one held = record {
    asks = kept_reads m old.disk mid.disk new.disk most pages run.asks (one.none held);
    stay = stay_more old mid new run.stay one.stay;
  }

  -- two runs are one
  pub all_more : (old mid new : Pool D L) (first then_ : ℕ) (few pages : ℕ → Bool)
      → ReadsPages m old mid first pages → ReadsPages m mid new then_ few
      → ((n : ℕ) → few n ≡ true → pages n ≡ true) → ReadsPages m old new (first + then_) pages
  all_more old mid new first then_ few pages run next within = record {
    asks = more_reads m old.disk mid.disk new.disk first then_ pages run.asks
        (of_more m mid.disk new.disk then_ few pages within next.asks);
    stay = stay_more old mid new run.stay next.stay;
  }

  -- page 0 first, and then the others
  pub head_first : (old mid new : Pool D L) (most : ℕ) (few pages : ℕ → Bool) → Fetches m old mid 0
      → pages 0 ≡ true → ReadsPages m mid new most few
      → ((n : ℕ) → few n ≡ true → pages n ≡ true) → ReadsPages m old new (1 + most) pages
  head_first old mid new most few pages one within next widen =
      all_more old mid new 1 most few pages
      (one_more old old mid 0 0 pages (none_yet old pages) one within) next widen

-- a page that was read through a batch without pages is in memory
pub read_held : {D L : Type 0} (store : Pool D L) (batch : List BatchPage) (page : ℕ) (bytes : List ℕ)
    → batch ≡ [] → or_else (content_in batch page) (resident store page) ≡ Some bytes
    → IsSome (resident store page)
read_held store batch page bytes none is = ap is_some
    (subst (λ (pages : List BatchPage). or_else (content_in pages page) (resident store page) ≡ Some bytes)
    none is)
