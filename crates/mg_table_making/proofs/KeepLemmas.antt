-- What is kept of keys, one after another.
use Rattle.std.proofs.Common.{◌≡◌, ◌∙◌, ℕ, zero, suc, List, [], ◌∷◌, ◌++◌, ◌+◌, ap, length, refl, sym, arith, add-one}
use Rattle.std.specs.Prelude.{is_some}
use Rattle.mg_undo.specs.declared.changes.Was.TheVariants.{Untouched}
use Rattle.mg_value.specs.declared.value.Value.{Value}
use Rattle.mg_works.specs.Works.{Working, unasked, with_change, with_work, without_change, without_tables, work_of}
use Rattle.mg_table_making.specs.Keeping.{KeepsSome, kept_each, retracted, works_made}
use Rattle.mg_table_making.proofs.CoreLemmas.{with_same}

-- the same transactions have works
pub each_same : (t owner : ℕ) (keys : List Value) (works : List Working) (u : ℕ)
    → is_some (work_of (kept_each t owner keys works) u) ≡ is_some (work_of works u)
each_same t owner [] works u = refl
each_same t owner (key ∷ keys) works u =
    each_same t owner keys (with_work t (with_change owner key Untouched) works) u
    ∙ with_same works t (with_change owner key Untouched) (λ w. refl) (λ w. refl) u

pub retracted_same : (t count : ℕ) (works : List Working) (u : ℕ)
    → is_some (work_of (retracted t count works) u) ≡ is_some (work_of works u)
retracted_same t zero works u = refl
retracted_same t (suc count) works u = retracted_same t count (with_work t without_change works) u
    ∙ with_same works t without_change (λ w. refl) (λ w. refl) u

pub made_same : (t owner : ℕ) (keys : List Value) (works : List Working) (u : ℕ)
    → is_some (work_of (works_made t owner keys works) u) ≡ is_some (work_of works u)
made_same t owner keys works u =
    with_same (with_work t unasked (kept_each t owner keys works)) t without_tables (λ w. refl) (λ w. refl) u
    ∙ (with_same (kept_each t owner keys works) t unasked (λ w. refl) (λ w. refl) u
    ∙ each_same t owner keys works u)

pub failed_same : (t owner : ℕ) (keys : List Value) (works : List Working) (u : ℕ)
    → is_some (work_of (retracted t (length keys) (with_work t unasked (kept_each t owner keys works))) u)
    ≡ is_some (work_of works u)
failed_same t owner keys works u =
    retracted_same t (length keys) (with_work t unasked (kept_each t owner keys works)) u
    ∙ (with_same (kept_each t owner keys works) t unasked (λ w. refl) (λ w. refl) u
    ∙ each_same t owner keys works u)

-- one key more is kept behind others
pub each_more : (t owner : ℕ) (done : List Value) (key : Value) (works : List Working)
    → kept_each t owner (done ++ key ∷ []) works
    ≡ with_work t (with_change owner key Untouched) (kept_each t owner done works)
each_more t owner [] key works = refl
each_more t owner (k ∷ done) key works =
    each_more t owner done key (with_work t (with_change owner k Untouched) works)

-- one is taken back more, behind others
pub retracted_more : (t count : ℕ) (works : List Working)
    → retracted t (suc count) works ≡ with_work t without_change (retracted t count works)
retracted_more t zero works = refl
retracted_more t (suc count) works = retracted_more t count (with_work t without_change works)

pub append_one : (done later : List Value) (key : Value) → (done ++ key ∷ []) ++ later ≡ done ++ key ∷ later
append_one [] later key = refl
append_one (k ∷ done) later key = ap (λ (ks : List Value). k ∷ ks) (append_one done later key)

length_one : (done : List Value) (key : Value) → length (done ++ key ∷ []) ≡ length done + 1
length_one [] key = refl
length_one (k ∷ done) key = let e = length_one done key in omega (arith, e)

-- Some keys are kept, so many, and these are left.
pub record Kept (t owner count : ℕ) (keys rest : List Value) (old now : List Working) : Type 0 where
  pub done : List Value
  pub among : done ++ rest ≡ keys
  pub many : length done ≡ count
  pub same : now ≡ kept_each t owner done old

pub kept_none : (t owner : ℕ) (keys : List Value) (works : List Working) → Kept t owner 0 keys keys works works
kept_none t owner keys works = record { done = []; among = refl; many = refl; same = refl }

pub kept_one : (t owner count : ℕ) (keys rest later : List Value) (key : Value) (old now new : List Working)
    → Kept t owner count keys rest old now → rest ≡ key ∷ later
    → new ≡ with_work t (with_change owner key Untouched) now
    → Kept t owner (count + 1) keys later old new
kept_one t owner count keys rest later key old now new kept is keeps = record {
  done = kept.done ++ key ∷ [];
  among = append_one kept.done later key
      ∙ (ap (λ (ks : List Value). kept.done ++ ks) (sym is) ∙ kept.among);
  many = let e = length_one kept.done key in let f = kept.many in omega (arith, e, f);
  same = keeps
      ∙ (ap (with_work t (with_change owner key Untouched)) kept.same ∙ sym (each_more t owner kept.done key old));
}

pub append_none : (done : List Value) → done ++ [] ≡ done
append_none [] = refl
append_none (k ∷ done) = ap (λ (ks : List Value). k ∷ ks) (append_none done)

pub kept_all : (t owner count : ℕ) (keys rest : List Value) (old now : List Working)
    → Kept t owner count keys rest old now → rest ≡ [] → now ≡ kept_each t owner keys old
kept_all t owner count keys rest old now kept none = kept.same
    ∙ ap (λ (ks : List Value). kept_each t owner ks old)
    (sym (append_none kept.done) ∙ (ap (λ (ks : List Value). kept.done ++ ks) (sym none) ∙ kept.among))

pub kept_some : (t owner count : ℕ) (keys rest : List Value) (old now same_now new : List Working)
    → Kept t owner count keys rest old now → same_now ≡ now → new ≡ retracted t count same_now
    → KeepsSome t owner keys old new
kept_some t owner count keys rest old now same_now new kept still is = record {
  done = kept.done;
  rest = rest;
  among = kept.among;
  same = is ∙ (ap (retracted t count) (still ∙ kept.same)
      ∙ ap (λ (n : ℕ). retracted t n (kept_each t owner kept.done old)) (sym kept.many));
}

pub no_keys_left : (keys : List Value) → length keys ≡ 0 → keys ≡ []
no_keys_left [] none = refl
no_keys_left (key ∷ keys) none = absurd (omega (arith, none))

pub retracted_next : (t count : ℕ) (works : List Working)
    → retracted t (count + 1) works ≡ with_work t without_change (retracted t count works)
retracted_next t count works = rw (add-one count) (retracted_more t count works)
