-- The pages of one table that stands are read.
use Rattle.std.proofs.Common.{◌≡◌, ◌≢◌, ◌⊎◌, inl, inr, ◌++◌, ◌∷◌, [], ℕ, suc, false, List, length, Err, refl, sym, subst}
use Rattle.mg_base.specs.Checks.{verdict}
use Rattle.mg_base.specs.Disk.{Meaning}
use Rattle.mg_heap.specs.Stands.{TablesAreWalked, WalksMeetNoDamage}
use Rattle.mg_heap.specs.Reading.{IsAbsence}
use Rattle.mg_heap.specs.Table.{IsPointerAt, IsPointerDamage, LinkRun, more, none, unlike}
use Rattle.mg_heap.specs.TableLaws.{table_once}
use Rattle.mg_image.specs.Tables.{EachFrom, Has, LinkChain, ended, goes}
use Rattle.mg_pointer.specs.PointerPage.{next_in, pointer_checks}
use Rattle.mg_space.specs.View.{viewed}
use Rattle.mg_no_damage_laws.specs.Standing.{LastsAreThere, StandsAreReached, StandsAreThere, StandsAreWalked}
use Rattle.mg_no_damage_laws.proofs.LaidLemmas.{listed_there, walk_whole}

-- ---- chains

-- a chain runs along its first pages to the one behind them
run_to : (next : ℕ → ℕ) (first : ℕ) (ns front : List ℕ) (n : ℕ) (later : List ℕ) → LinkChain next first ns
    → ns ≡ front ++ n ∷ later → LinkRun next first front n
run_to next first ns [] n later ended is = absurd cc
run_to next first ns [] n later (goes k ks some on) is =
    let same : k ≡ n = cc in subst (λ (j : ℕ). LinkRun next k [] j) same (none k)
run_to next first ns (f ∷ fs) n later ended is = absurd cc
run_to next first ns (f ∷ fs) n later (goes k ks some on) is =
    let same : k ≡ f = cc in
    let rest : ks ≡ fs ++ n ∷ later = cc in
    subst (λ (j : ℕ). LinkRun next k (j ∷ fs) n) same
    (more k n fs some (run_to next (next k) ks fs n later on rest))

no_header : (next : ℕ → ℕ) (first : ℕ) (ns front : List ℕ) (n : ℕ) (later : List ℕ) → LinkChain next first ns
    → ns ≡ front ++ n ∷ later → n ≢ 0
no_header next first ns [] n later ended is = absurd cc
no_header next first ns [] n later (goes k ks some on) is =
    let same : k ≡ n = cc in subst (λ (j : ℕ). j ≢ 0) same some
no_header next first ns (f ∷ fs) n later ended is = absurd cc
no_header next first ns (f ∷ fs) n later (goes k ks some on) is =
    let rest : ks ≡ fs ++ n ∷ later = cc in no_header next (next k) ks fs n later on rest

each_front : (P : ℕ → ℕ → Type 0) (at : ℕ) (front ns : List ℕ) → EachFrom P at (front ++ ns)
    → EachFrom P at front
each_front P at [] ns each = tt
each_front P at (f ∷ fs) ns each = (each.0, each_front P (suc at) fs ns each.1)

-- ---- the laws

module _ {D : Type 0} (m : Meaning D) (walks : WalksMeetNoDamage m) where
  pub stands_there : StandsAreThere m
  stands_there store image batch size stand sees n listed it refused =
      listed_there m store image batch walks sees.tells size stand sees.has n listed it refused

  pub stands_walked : StandsAreWalked m
  stands_walked store image batch size stand sees it refused =
      walk_whole m store image batch walks sees.tells size stand sees.has it refused

  pub lasts_there : LastsAreThere m
  lasts_there store image batch size stand sees front data_pages q table it refused =
      stands_walked store image batch size stand sees it (inl (record {
        pointers = front;
        page = q;
        leads = record {
          run = run_to (λ k. next_in (viewed store image batch k)) stand.table.pointer.0 (front ++ q.0 ∷ [])
              front q.0 [] table.chain refl;
          tested = each_front (IsPointerAt (viewed store image batch) stand.table.pointer.0) 0 front (q.0 ∷ [])
              table.tested;
        };
        some = no_header (λ k. next_in (viewed store image batch k)) stand.table.pointer.0 (front ++ q.0 ∷ [])
            front q.0 [] table.chain refl;
        refused = at refused;
      }))
    where
      at : IsAbsence m store batch.pages q it
          ⊎ (verdict q (pointer_checks (viewed store image batch q.0) q.0 stand.table.pointer.0 (length front))
          ≡ Err it)
          → IsAbsence m store batch.pages q it
          ⊎ IsPointerDamage (viewed store image batch) stand.table.pointer.0 front q it
      at (inl gone) = inl gone
      at (inr differs) = inr (unlike it differs)

  pub stands_reached : TablesAreWalked → StandsAreReached m
  stands_reached tables store image batch size stand sees n listed it (inl chain) =
      stands_walked store image batch size stand sees it (inl chain)
  stands_reached tables store image batch size stand sees n listed it (inr (unlisted, is)) =
      unlisted.not_there (subst (λ (ds : List ℕ). Has ds n.0)
      (sym (table_once (viewed store image batch) stand.table.pointer.0 unlisted.pointers unlisted.data_pages
      stand.pointers stand.data_pages unlisted.table
      (tables false size (viewed store image batch) stand sees.has))) listed)
