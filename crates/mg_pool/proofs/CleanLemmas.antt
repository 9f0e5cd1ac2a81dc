-- The pages of a table of clean pages after one was used, put or taken out.
use Rattle.std.proofs.Common.{◌≡◌, ◌≢◌, ◌∙◌, ◌≤◌, ◌+◌, ◌-◌, ℕ, zero, suc, Bool, true, false, inl, inr, List, [], ◌∷◌, length, take, Option, Some, None, cond, refl, sym, ap, subst, arith, nat_eq}
use Rattle.std.specs.Cmp.{nat_eq_equiv}
use Rattle.std.specs.List.{IsDistinct}
use Rattle.std.specs.Option.{option_map_or}
use Rattle.std.specs.Map.{keys_of, lookup, lookup_entry, remove_entry}
use Rattle.std.proofs.lemmas.Bool.{cases_eq, cases_lt, eq-eqb, eqb-true, ne_eqb}
use Rattle.std.proofs.lemmas.List.{length-take}
use Rattle.std.proofs.lemmas.Map.{lookup-remove_entry}
use Rattle.lru.specs.LruCache.{LruCache, lru_cache, promoted, put_entries}
use Rattle.mg_pool.specs.Clean.{CleanPages, DropsClean, KeepsClean, PutsClean}

abbrev Entries : Type 0
Entries = List (ℕ × List ℕ)

-- the table over a cache of the kit
abbrev pub table_of : LruCache ℕ (List ℕ) → CleanPages
table_of c = record { entries = c.entries; room = c.cap }

-- a cache of the kit with these pages
abbrev pub cache_with : CleanPages → LruCache ℕ (List ℕ)
cache_with t = lru_cache t.entries t.room

-- another page is not the one that is looked for
other : (k q x : ℕ) → q ≢ k → nat_eq k x ≡ true → nat_eq q x ≡ false
other k q x apart is = ne_eqb q x (λ e. apart (e ∙ sym (eqb-true k x is)))

-- the first entry of a page has its content
entry_is : (k : ℕ) (es : Entries) (e : ℕ × List ℕ) → lookup_entry (nat_eq k) es ≡ Some e
    → (nat_eq k e.0 ≡ true) × (lookup (nat_eq k) es ≡ Some e.1)
entry_is k [] e is = absurd cc
entry_is k (f ∷ fs) e is = at (nat_eq k f.0) refl is (λ later. entry_is k fs e later)
  where
    at : (b : Bool) → nat_eq k f.0 ≡ b → cond b (Some f) (lookup_entry (nat_eq k) fs) ≡ Some e
        → (lookup_entry (nat_eq k) fs ≡ Some e → (nat_eq k e.0 ≡ true) × (lookup (nat_eq k) fs ≡ Some e.1))
        → (nat_eq k e.0 ≡ true) × (cond b (Some f.1) (lookup (nat_eq k) fs) ≡ Some e.1)
    at true is found later =
        let same : f ≡ e = cc in
        (subst (λ (g : ℕ × List ℕ). nat_eq k g.0 ≡ true) same is, ap (λ (g : ℕ × List ℕ). Some g.1) same)
    at false is found later = later found

none_is : (k : ℕ) (es : Entries) → lookup_entry (nat_eq k) es ≡ None → lookup (nat_eq k) es ≡ None
none_is k [] is = refl
none_is k (f ∷ fs) is = at (nat_eq k f.0) is (λ later. none_is k fs later)
  where
    at : (b : Bool) → cond b (Some f) (lookup_entry (nat_eq k) fs) ≡ None
        → (lookup_entry (nat_eq k) fs ≡ None → lookup (nat_eq k) fs ≡ None)
        → cond b (Some f.1) (lookup (nat_eq k) fs) ≡ None
    at true found later = absurd cc
    at false found later = later found

-- without an entry of one page the others are as they were
without : (k q : ℕ) (es : Entries) → q ≢ k
    → lookup (nat_eq q) (remove_entry (nat_eq k) es) ≡ lookup (nat_eq q) es
without k q [] apart = refl
without k q (f ∷ fs) apart = at (nat_eq k f.0) refl (without k q fs apart)
  where
    at : (b : Bool) → nat_eq k f.0 ≡ b
        → lookup (nat_eq q) (remove_entry (nat_eq k) fs) ≡ lookup (nat_eq q) fs
        → lookup (nat_eq q) (cond b fs (f ∷ remove_entry (nat_eq k) fs))
        ≡ cond (nat_eq q f.0) (Some f.1) (lookup (nat_eq q) fs)
    at true is later = rw (other k q f.0 apart is) refl
    at false is later = ap (cond (nat_eq q f.0) (Some f.1)) later

shorter : (k : ℕ) (es : Entries) (e : ℕ × List ℕ) → lookup_entry (nat_eq k) es ≡ Some e
    → length (remove_entry (nat_eq k) es) + 1 ≡ length es
shorter k [] e is = absurd cc
shorter k (f ∷ fs) e is = at (nat_eq k f.0) is (λ later. shorter k fs e later)
  where
    at : (b : Bool) → cond b (Some f) (lookup_entry (nat_eq k) fs) ≡ Some e
        → (lookup_entry (nat_eq k) fs ≡ Some e → length (remove_entry (nat_eq k) fs) + 1 ≡ length fs)
        → length (cond b fs (f ∷ remove_entry (nat_eq k) fs)) + 1 ≡ length (f ∷ fs)
    at true found later = omega arith
    at false found later = let l = later found in omega arith

-- what the first entries have, all have
in_front : (q n : ℕ) (es : Entries) (b : List ℕ) → lookup (nat_eq q) (take n es) ≡ Some b
    → lookup (nat_eq q) es ≡ Some b
in_front q zero es b is = absurd cc
in_front q (suc n) [] b is = absurd cc
in_front q (suc n) (f ∷ fs) b is = at (nat_eq q f.0) is (λ later. in_front q n fs b later)
  where
    at : (h : Bool) → cond h (Some f.1) (lookup (nat_eq q) (take n fs)) ≡ Some b
        → (lookup (nat_eq q) (take n fs) ≡ Some b → lookup (nat_eq q) fs ≡ Some b)
        → cond h (Some f.1) (lookup (nat_eq q) fs) ≡ Some b
    at true found later = found
    at false found later = later found

take_all : (n : ℕ) (es : Entries) → length es ≤ n → take n es ≡ es
take_all zero [] short = refl
take_all zero (f ∷ fs) short = absurd (omega arith)
take_all (suc n) [] short = refl
take_all (suc n) (f ∷ fs) short = ap (λ (l : Entries). f ∷ l) (take_all n fs (omega arith))

-- a page was used
pub keeps_promoted : (t : CleanPages) (k : ℕ)
    → KeepsClean t (record { entries = promoted (nat_eq k) t.entries; room = t.room })
keeps_promoted t k = at (lookup_entry (nat_eq k) t.entries) refl
  where
    at : (o : Option (ℕ × List ℕ)) → lookup_entry (nat_eq k) t.entries ≡ o
        → KeepsClean t (record {
          entries = option_map_or (λ e. e ∷ remove_entry (nat_eq k) t.entries) o t.entries;
          room = t.room;
        })
    at None is = record { same = λ p. refl; full = λ full. full; room = refl }
    at (Some e) is = record {
      same = λ p. elim (cases_eq p k) [
        | inl same ↦
            let found = entry_is k t.entries e is in
            rw (same, found.0) (sym found.1)
        | inr apart ↦
            let found = entry_is k t.entries e is in
            rw (other k p e.0 apart found.0) (without k p t.entries apart)
      ];
      full = λ full. let l = shorter k t.entries e is in omega (arith, full);
      room = refl;
    }

-- a page was put
pub puts_entry : (t : CleanPages) (k : ℕ) (v : List ℕ)
    → PutsClean t (record { entries = put_entries nat_eq (cache_with t) k v; room = t.room }) k v
puts_entry t k v = at (lookup_entry (nat_eq k) t.entries) refl
  where
    at : (o : Option (ℕ × List ℕ)) → lookup_entry (nat_eq k) t.entries ≡ o
        → PutsClean t (record {
          entries = option_map_or (λ e. (e.0, v) ∷ remove_entry (nat_eq k) t.entries) o
              ((k, v) ∷ take (t.room - 1) t.entries);
          room = t.room;
        }) k v
    at None is = record {
      here = rw (eq-eqb k k refl) refl;
      others = λ p b apart there.
          in_front p (t.room - 1) t.entries b (rw (ne_eqb p k apart) at there);
      stays = λ p apart there. elim (cases_lt (length t.entries) t.room) [
        | inr full ↦ inr full
        | inl open_ ↦ inl (rw (ne_eqb p k apart, take_all (t.room - 1) t.entries (omega (arith, open_))) there)
      ];
      full = λ full. omega (arith, full, length-take (t.room - 1) t.entries);
      room = refl;
    }
    at (Some e) is =
        let found = entry_is k t.entries e is in
        record {
          here = rw found.0 refl;
          others = λ p b apart there. sym (without k p t.entries apart) ∙ (rw (other k p e.0 apart found.0) at there);
          stays = λ p apart there. inl (rw (other k p e.0 apart found.0, without k p t.entries apart) there);
          full = λ full. let l = shorter k t.entries e is in omega (arith, full);
          room = refl;
        }

-- a page was taken out
pub drops_entry : (t : CleanPages) (k : ℕ) → IsDistinct nat_eq (keys_of t.entries)
    → DropsClean t (record { entries = remove_entry (nat_eq k) t.entries; room = t.room }) k
drops_entry t k distinct = record {
  here = lookup-remove_entry nat_eq_equiv (nat_eq k) (nat_eq_equiv.congr k) k t.entries distinct
      ∙ rw (eq-eqb k k refl) refl;
  others = λ p apart. without k p t.entries apart;
  room = refl;
}

-- there was none to take out
pub drops_none : (t : CleanPages) (k : ℕ) → length t.entries ≤ 0 → DropsClean t t k
drops_none t k none = record { here = nothing t.entries none; others = λ p apart. refl; room = refl }
  where
    nothing : (es : Entries) → length es ≤ 0 → lookup (nat_eq k) es ≡ None
    nothing [] few = refl
    nothing (e ∷ es) few = absurd (omega (arith, few))
