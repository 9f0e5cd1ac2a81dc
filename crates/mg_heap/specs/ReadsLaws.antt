-- Laws of pages that were looked for in the order of a list.
use Rattle.std.specs.Prelude.{◌≡◌, ◌+◌, ◌==◌, ◌||◌, ◌⊎◌, ℕ, Bool, true, false, List, [], ◌∷◌, ◌++◌, length}
use Rattle.std.proofs.Common.{refl, sym, subst, arith, inl, inr, length-append}
use Rattle.std.proofs.lemmas.Bool.{eq-eqb}
use Rattle.mg_base.specs.Asking.{AsksReads, no_reads, one_read}
use Rattle.mg_base.specs.Disk.{Meaning}
use Rattle.mg_pool.specs.Reading.{Fetches}
use Rattle.mg_pool.specs.ReadingLaws.{stay_more, stay_still}
use Rattle.mg_pool.specs.declared.pool.Pool.{Pool}
use Rattle.mg_heap.specs.Reads.{ReadsListed, is_listed}

-- a page that is listed is listed still, where one stands behind the others
pub listed_before : (ns : List ℕ) (n p : ℕ) → is_listed ns p ≡ true → is_listed (ns ++ n ∷ []) p ≡ true
listed_before [] n p is = absurd cc
listed_before (m ∷ ms) n p is = at (m == p) is (λ later. listed_before ms n p later)
  where
    at : (here : Bool) → (here || is_listed ms p) ≡ true
        → (is_listed ms p ≡ true → is_listed (ms ++ n ∷ []) p ≡ true)
        → (here || is_listed (ms ++ n ∷ []) p) ≡ true
    at true is further = refl
    at false is further = further is

-- and so is that one
pub listed_last : (ns : List ℕ) (n : ℕ) → is_listed (ns ++ n ∷ []) n ≡ true
listed_last [] n = rw (eq-eqb n n refl) refl
listed_last (m ∷ ms) n = at (m == n) (listed_last ms n)
  where
    at : (here : Bool) → is_listed (ms ++ n ∷ []) n ≡ true → (here || is_listed (ms ++ n ∷ []) n) ≡ true
    at true later = refl
    at false later = later

module _ {D L : Type 0} (m : Meaning D) where
  -- no page was looked for yet
  pub none_listed : (store : Pool D L) → ReadsListed m store store []
  none_listed store = record {
    asks = no_reads m store.disk (is_listed []);
    stay = stay_still store;
  }

  -- one page more was looked for, which stands behind the others
  pub listed_more : (old mid new : Pool D L) (ns more : List ℕ) (n : ℕ) → ReadsListed m old mid ns
      → Fetches m mid new n → more ≡ ns ++ n ∷ [] → ReadsListed m old new more
  listed_more old mid new ns more n run one is = subst (ReadsListed m old new) (sym is) (record {
    asks = subst (λ (most : ℕ). AsksReads m old.disk new.disk most (is_listed (ns ++ n ∷ []))) count
        (one_read m old.disk mid.disk new.disk n (length ns) (is_listed (ns ++ n ∷ [])) wide one.once
        (listed_last ns n));
    stay = stay_more old mid new run.stay one.stay;
  })
    where
      count : length ns + 1 ≡ length (ns ++ n ∷ [])
      count = omega (arith, length-append ns (n ∷ []))

      at : (p : ℕ) → (m.was_read old.disk p ≡ true) ⊎ (is_listed ns p ≡ true)
          → (m.was_read old.disk p ≡ true) ⊎ (is_listed (ns ++ n ∷ []) p ≡ true)
      at p (inl before) = inl before
      at p (inr is) = inr (listed_before ns n p is)

      wide : AsksReads m old.disk mid.disk (length ns) (is_listed (ns ++ n ∷ []))
      wide = record {
        reads = run.asks.reads;
        alone = λ p was. at p (run.asks.alone p was);
      }
