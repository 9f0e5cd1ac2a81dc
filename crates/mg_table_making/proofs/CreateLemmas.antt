-- A table is made, by its last stages.
use Rattle.std.proofs.Common.{◌≡◌, ◌∙◌, ℕ, Bool, List, Result, Ok, Err, ap, refl, subst, sym}
use Rattle.std.specs.Prelude.{MatchResult, is_some, length}
use Rattle.mg_base.specs.Disk.{Meaning}
use Rattle.mg_base.specs.declared.numbers.TxNo.{TxNo}
use Rattle.mg_core.specs.Refusing.{CountsFault, IsRefusal, NamesLimit}
use Rattle.mg_core.specs.Writing.{HasBegun}
use Rattle.mg_core.specs.declared.parts.Core.{Core}
use Rattle.mg_model.specs.declared.refusal.Refusal.{Refusal}
use Rattle.mg_model.specs.declared.refusal.Refusal.TheVariants.{Memory}
use Rattle.mg_pool.specs.declared.pool.Pool.{Pool}
use Rattle.mg_space.specs.declared.fault.SpaceFault.{SpaceFault}
use Rattle.mg_space.specs.declared.links.FireLinks.{FireLinks}
use Rattle.mg_table_batch.specs.Making.{FailsTable, MakesTable}
use Rattle.mg_value.specs.declared.shape.Shape.{Shape}
use Rattle.mg_value.specs.declared.value.Value.{Value}
use Rattle.mg_works.specs.Works.{Working, unasked, with_work, without_tables, work_of}
use Rattle.mg_table_making.specs.Creating.{CreatesTable, FailsCreation, FailsPut, MayBeMade, PutsTable, not_free, not_kept, not_made, not_put}
use Rattle.mg_table_making.specs.Keeping.{KeepsSome, kept_each, retracted}
use Rattle.mg_table_making.specs.Keys.{AreFree, FailsFree, keys_made}
use Rattle.mg_table_making.proofs.CoreLemmas.{with_same}
use Rattle.mg_table_making.proofs.KeepLemmas.{each_same, made_same, retracted_same}

module _ {D : Type 0} (m : Meaning D) (old begun keyed : Core D) (t : TxNo) (wait : Bool) (name : List ℕ)
    (shape : Shape) (slice items : List Value) (has : HasBegun old begun t wait) (same : keyed ≡ begun)
    (keys_are : items ≡ keys_made begun.catalog.shape name shape) (slice_is : slice ≡ items) where
  keys_same : slice ≡ keys_made old.catalog.shape name shape
  keys_same = slice_is ∙ (keys_are
      ∙ ap (λ (c : Core D). keys_made c.catalog.shape name shape) has.ended.same)

  -- the keys are free
  pub made_may : (free : Core D) → AreFree m t slice keyed free → MayBeMade m old free t name shape
  made_may free are_free = record {
    begun = begun;
    wait = wait;
    has_begun = has;
    are_free = subst (λ (ks : List Value). AreFree m t ks begun free) keys_same
        (subst (λ (c : Core D). AreFree m t slice c free) same are_free);
  }

  -- they are not
  pub free_fails : (new : Core D) (refusal : Refusal) → FailsFree m keyed new t wait (length slice) refusal slice
      → FailsCreation m old new t name shape refusal
  free_fails new refusal fails = not_free begun wait has
      (subst (λ (ks : List Value). FailsFree m begun new t wait (length ks) refusal ks) keys_same
      (subst (λ (c : Core D). FailsFree m c new t wait (length slice) refusal slice) same fails))

  -- the table is put, or not
  pub created_by : (free new : Core D) (put_slice : List Value) (result : Result (Unit {0}) Refusal)
      → AreFree m t slice keyed free → put_slice ≡ slice
      → MatchResult result (λ _. PutsTable m free new t name shape put_slice)
      (FailsPut m free new t name shape put_slice)
      → MatchResult result (λ _. CreatesTable m old new t name shape) (FailsCreation m old new t name shape)
  created_by free new put_slice (Ok x) are_free is puts = record {
    free = free;
    may = made_may free are_free;
    puts = subst (λ (ks : List Value). PutsTable m free new t name shape ks) (is ∙ keys_same) puts;
  }
  created_by free new put_slice (Err refusal) are_free is fails = not_put free (made_may free are_free)
      (subst (λ (ks : List Value). FailsPut m free new t name shape ks refusal) (is ∙ keys_same) fails)

-- ---- the table is put

module _ {D : Type 0} (m : Meaning D) (old : Core D) (t : TxNo) (name : List ℕ) (shape : Shape)
    (keys : List Value) where
  -- it was not kept
  pub kept_fails : (works : List Working) → KeepsSome t.0 old.catalog.pointer.0 keys old.works works
      → FailsPut m old (record old { works = works }) t name shape keys Memory
  kept_fails works it = not_kept (record {
    is = refl;
    done = it.done;
    rest = it.rest;
    among = it.among;
    same = ap (λ (ws : List Working). record old { works = ws }) it.same;
  })

  -- it was kept, and is on the pages
  pub put_done : (store : Pool D FireLinks) (kept un forgot : List Working)
      → kept ≡ kept_each t.0 old.catalog.pointer.0 keys old.works → un ≡ with_work t.0 unasked kept
      → forgot ≡ with_work t.0 without_tables un → MakesTable m old.catalog t.0 name shape old.store store
      → PutsTable m old (record old { store = store; works = forgot }) t name shape keys
  put_done store kept un forgot keeps unasks forgets makes = record {
    makes = makes;
    same = ap (λ (ws : List Working). record old { store = store; works = ws })
        (forgets ∙ ap (with_work t.0 without_tables) (unasks ∙ ap (with_work t.0 unasked) keeps));
  }

  -- it was kept, and is not
  pub put_failed : (final : Core D) (store : Pool D FireLinks) (kept un gone : List Working) (count : ℕ)
      (fault : SpaceFault) (refusal : Refusal) → kept ≡ kept_each t.0 old.catalog.pointer.0 keys old.works
      → un ≡ with_work t.0 unasked kept → gone ≡ retracted t.0 count un → count ≡ length keys
      → FailsTable m old.catalog t.0 name shape old.store store fault → IsRefusal fault refusal
      → NamesLimit final.store.geometry.limit refusal
      → CountsFault fault old.damage final.damage old.shortages final.shortages
      → final ≡ record old {
        store = store;
        works = gone;
        damage = final.damage;
        shortages = final.shortages;
      } → FailsPut m old final t name shape keys refusal
  put_failed final store kept un gone count fault refusal keeps unasks retracts many fails is names counts same = not_made (record {
    fault = fault;
    fails = subst (λ (s : Pool D FireLinks). FailsTable m old.catalog t.0 name shape old.store s fault) (sym now) fails;
    is = is;
    names = names;
    counts = counts;
    same = same ∙ (ap (λ (ws : List Working). record old {
      store = store;
      works = ws;
      damage = final.damage;
      shortages = final.shortages;
    }) gone_is ∙ ap (λ (s : Pool D FireLinks). record old {
      store = s;
      works = retracted t.0 (length keys)
          (with_work t.0 unasked (kept_each t.0 old.catalog.pointer.0 keys old.works));
      damage = final.damage;
      shortages = final.shortages;
    }) (sym now));
  })
    where
      now : final.store ≡ store
      now = ap (λ (c : Core D). c.store) same

      gone_is : gone ≡ retracted t.0 (length keys)
          (with_work t.0 unasked (kept_each t.0 old.catalog.pointer.0 keys old.works))
      gone_is = retracts ∙ (ap (λ (n : ℕ). retracted t.0 n un) many
          ∙ ap (retracted t.0 (length keys)) (unasks ∙ ap (with_work t.0 unasked) keeps))

-- ---- the same transactions have works

pub kept_active : (t owner : ℕ) (keys : List Value) (works now : List Working) → KeepsSome t owner keys works now
    → (u : ℕ) → is_some (work_of now u) ≡ is_some (work_of works u)
kept_active t owner keys works now it u = ap (λ (ws : List Working). is_some (work_of ws u)) it.same
    ∙ (retracted_same t (length it.done) (kept_each t owner it.done works) u ∙ each_same t owner it.done works u)

pub done_active : (t owner : ℕ) (keys : List Value) (works kept un forgot : List Working)
    → kept ≡ kept_each t owner keys works → un ≡ with_work t unasked kept → forgot ≡ with_work t without_tables un
    → (u : ℕ) → is_some (work_of forgot u) ≡ is_some (work_of works u)
done_active t owner keys works kept un forgot keeps unasks forgets u =
    ap (λ (ws : List Working). is_some (work_of ws u))
    (forgets ∙ ap (with_work t without_tables) (unasks ∙ ap (with_work t unasked) keeps))
    ∙ made_same t owner keys works u

pub gone_active : (t owner : ℕ) (keys : List Value) (works kept un gone : List Working) (count : ℕ)
    → kept ≡ kept_each t owner keys works → un ≡ with_work t unasked kept → gone ≡ retracted t count un
    → (u : ℕ) → is_some (work_of gone u) ≡ is_some (work_of works u)
gone_active t owner keys works kept un gone count keeps unasks retracts u =
    ap (λ (ws : List Working). is_some (work_of ws u)) retracts
    ∙ (retracted_same t count un u
    ∙ (ap (λ (ws : List Working). is_some (work_of ws u)) unasks
    ∙ (with_same kept t unasked (λ w. refl) (λ w. refl) u
    ∙ (ap (λ (ws : List Working). is_some (work_of ws u)) keeps ∙ each_same t owner keys works u))))
