-- What is gathered from places, each key of a table once.
use Rattle.std.proofs.Common.{◌≡◌, ◌⊎◌, inl, inr, ap, sym, subst, ◌∙◌, refl, ◌&&◌, ℕ, Bool, true, false, List, [], ◌∷◌, Option, None, Some, map}
use Rattle.std.specs.Cmp.Lexicographic.{same_text}
use Rattle.std.specs.Prelude.{if◌then◌else◌}
use Rattle.mg_base.specs.declared.numbers.RecId.{RecId}
use Rattle.mg_value.specs.declared.value.Value.{Value}
use Rattle.mg_model.specs.declared.change.Change.{Change}
use Rattle.mg_model.specs.Changes.{has_change, is_at, row_at, same_key, same_name}
use Rattle.mg_model.specs.Openings.{HaveOwnKeys}
use Rattle.mg_model.specs.ReadLaws.{same_name_itself}
use Rattle.mg_catalog.specs.KeyLaws.{keys_equal, same_key_self}
use Rattle.mg_image_overlay_laws.specs.records.Places.{HasPlace}

-- a thing is one of these
abbrev pub IsIn : {A : Type 0} → List A → A → Type 0
IsIn [] c = ⊥
IsIn (d ∷ ds) c = (d ≡ c) ⊎ IsIn ds c

-- ---- one key once

-- a thing that changes a key, in front of those that change others
abbrev pub kept_with : {A : Type 0} → Bool → A → List A → List A
kept_with true c cs = cs
kept_with false c cs = c ∷ cs

-- the last of each key
abbrev pub kept : {A : Type 0} → (A → Change) → List A → List A
kept as_change [] = []
kept as_change (c ∷ cs) = kept_with (has_change (map as_change (kept as_change cs))
    (as_change c).table (as_change c).key) c (kept as_change cs)

both_true : (a b : Bool) → (a && b) ≡ true → (a ≡ true) × (b ≡ true)
both_true true b is = (refl, is)
both_true false b is = absurd cc

pub at_names : (c : Change) (name : List ℕ) (key : Value) → is_at c name key ≡ true
    → (c.table ≡ name) × (c.key ≡ key)
at_names c name key is =
    let both = both_true (same_name c.table name) (same_key c.key key) is in
    (same_text c.table name (sym both.0), keys_equal c.key key both.1)

pub names_at : (c : Change) (name : List ℕ) (key : Value) → c.table ≡ name → c.key ≡ key
    → is_at c name key ≡ true
names_at c name key named keyed =
    let itself : is_at c c.table c.key ≡ true =
    rw (same_name_itself c.table) (same_key_self c.key) in
    ap (λ (n : List ℕ). is_at c n key) (sym named) ∙ (ap (is_at c c.table) (sym keyed) ∙ itself)

module _ {A : Type 0} (as_change : A → Change) where
  -- The first of these that changes a key of a table.
  pub record IsFirst (cs : List A) (name : List ℕ) (key : Value) : Type 0 where
    pub c : A
    pub there : IsIn cs c
    pub named : (as_change c).table ≡ name
    pub keyed : (as_change c).key ≡ key
    pub row_is : row_at (map as_change cs) name key ≡ (as_change c).row

  pub first_of : (cs : List A) (name : List ℕ) (key : Value)
      → has_change (map as_change cs) name key ≡ true → IsFirst cs name key
  first_of [] name key has = absurd cc
  first_of (c ∷ cs) name key has = at (is_at (as_change c) name key) refl has (first_of cs name key)
    where
      at : (b : Bool) → is_at (as_change c) name key ≡ b
          → (if b then true else has_change (map as_change cs) name key) ≡ true
          → (has_change (map as_change cs) name key ≡ true → IsFirst cs name key)
          → IsFirst (c ∷ cs) name key
      at true is has_ more = let both = at_names (as_change c) name key is in record {
        c = c;
        there = inl refl;
        named = both.0;
        keyed = both.1;
        row_is = rw is refl;
      }
      at false is has_ more = let it = more has_ in record {
        c = it.c;
        there = inr it.there;
        named = it.named;
        keyed = it.keyed;
        row_is = rw is it.row_is;
      }

  pub none_of : (cs : List A) (name : List ℕ) (key : Value)
      → has_change (map as_change cs) name key ≡ false → row_at (map as_change cs) name key ≡ None
  none_of [] name key has = refl
  none_of (c ∷ cs) name key has = at (is_at (as_change c) name key) has (none_of cs name key)
    where
      at : (b : Bool) → (if b then true else has_change (map as_change cs) name key) ≡ false
          → (has_change (map as_change cs) name key ≡ false
          → row_at (map as_change cs) name key ≡ None)
          → (if b then (as_change c).row else row_at (map as_change cs) name key) ≡ None
      at true has_ more = absurd cc
      at false has_ more = more has_

  pub has_it : (cs : List A) (c : A) (name : List ℕ) (key : Value) → IsIn cs c
      → (as_change c).table ≡ name → (as_change c).key ≡ key
      → has_change (map as_change cs) name key ≡ true
  has_it [] c name key there named keyed = absurd there
  has_it (d ∷ ds) c name key there named keyed =
      at (is_at (as_change d) name key) refl there
      (λ more. has_it ds c name key more named keyed)
    where
      at : (b : Bool) → is_at (as_change d) name key ≡ b → (d ≡ c) ⊎ IsIn ds c
          → (IsIn ds c → has_change (map as_change ds) name key ≡ true)
          → (if b then true else has_change (map as_change ds) name key) ≡ true
      at true is where_ more = refl
      at false is (inr where_) more = more where_
      at false is (inl same) more =
          let both : false ≡ true = sym is ∙ (ap (λ (x : A). is_at (as_change x) name key) same
          ∙ names_at (as_change c) name key named keyed) in absurd cc

  -- ---- those that are kept

  pub kept_apart : (cs : List A) → HaveOwnKeys (map as_change (kept as_change cs))
  kept_apart [] = tt
  kept_apart (c ∷ cs) = at (has_change (map as_change (kept as_change cs))
      (as_change c).table (as_change c).key) refl (kept_apart cs)
    where
      at : (b : Bool) → has_change (map as_change (kept as_change cs))
          (as_change c).table (as_change c).key ≡ b → HaveOwnKeys (map as_change (kept as_change cs))
          → HaveOwnKeys (map as_change (kept_with b c (kept as_change cs)))
      at true is more = more
      at false is more = (is, more)

  pub kept_in : (cs : List A) (c : A) → IsIn (kept as_change cs) c → IsIn cs c
  kept_in [] c there = there
  kept_in (d ∷ ds) c there = at (has_change (map as_change (kept as_change ds))
      (as_change d).table (as_change d).key) there (kept_in ds c)
    where
      at : (b : Bool) → IsIn (kept_with b d (kept as_change ds)) c
          → (IsIn (kept as_change ds) c → IsIn ds c) → (d ≡ c) ⊎ IsIn ds c
      at true more in_ = inr (in_ more)
      at false (inl same) in_ = inl same
      at false (inr more) in_ = inr (in_ more)

  -- where two that change one key are one, all are kept
  pub all_kept : (cs : List A)
      → ((c d : A) → IsIn cs c → IsIn cs d → (as_change c).table ≡ (as_change d).table
      → (as_change c).key ≡ (as_change d).key → c ≡ d)
      → (c : A) → IsIn cs c → IsIn (kept as_change cs) c
  all_kept [] one c there = there
  all_kept (d ∷ ds) one c there = at (has_change (map as_change (kept as_change ds))
      (as_change d).table (as_change d).key) refl there
      (all_kept ds (λ x y in_x in_y. one x y (inr in_x) (inr in_y)) c)
    where
      at : (b : Bool) → has_change (map as_change (kept as_change ds))
          (as_change d).table (as_change d).key ≡ b → (d ≡ c) ⊎ IsIn ds c
          → (IsIn ds c → IsIn (kept as_change ds) c)
          → IsIn (kept_with b d (kept as_change ds)) c
      at true is (inr more) in_ = in_ more
      at false is (inr more) in_ = inr (in_ more)
      at false is (inl same) in_ = inl same
      at true is (inl same) in_ =
          let it = first_of (kept as_change ds) (as_change d).table (as_change d).key is in
          let twin : it.c ≡ d = one it.c d (inr (kept_in ds it.c it.there)) (inl refl) it.named it.keyed in
          subst (IsIn (kept as_change ds)) (twin ∙ same) it.there

-- ---- from places

abbrev pub with_one : {A : Type 0} → Option A → List A → List A
with_one None cs = cs
with_one (Some c) cs = c ∷ cs

abbrev pub gathered : {A : Type 0} → (RecId → Option A) → List RecId → List A
gathered gives [] = []
gathered gives (p ∷ ps) = with_one (gives p) (gathered gives ps)

module _ {A : Type 0} (gives : RecId → Option A) where
  pub gathered_from : (ps : List RecId) (c : A) → IsIn (gathered gives ps) c
      → (p : RecId) × (gives p ≡ Some c)
  gathered_from [] c there = absurd there
  gathered_from (p ∷ ps) c there = at (gives p) refl there (gathered_from ps c)
    where
      at : (o : Option A) → gives p ≡ o → IsIn (with_one o (gathered gives ps)) c
          → (IsIn (gathered gives ps) c → (p : RecId) × (gives p ≡ Some c))
          → (p : RecId) × (gives p ≡ Some c)
      at None is there_ more = more there_
      at (Some d) is (inl same) more = (p, is ∙ ap Some same)
      at (Some d) is (inr there_) more = more there_

  pub gathered_there : (ps : List RecId) (p : RecId) (c : A) → HasPlace ps p → gives p ≡ Some c
      → IsIn (gathered gives ps) c
  gathered_there [] p c place is = absurd place
  gathered_there (q ∷ ps) p c place is = at (gives q) refl place
      (λ more. gathered_there ps p c more is)
    where
      at : (o : Option A) → gives q ≡ o → (q ≡ p) ⊎ HasPlace ps p
          → (HasPlace ps p → IsIn (gathered gives ps) c) → IsIn (with_one o (gathered gives ps)) c
      at None none (inl same) more =
          let both : None ≡ Some c = sym none ∙ (ap gives same ∙ is) in absurd cc
      at None none (inr place_) more = more place_
      at (Some d) here (inl same) more =
          let both : Some d ≡ Some c = sym here ∙ (ap gives same ∙ is) in
          let it : d ≡ c = cc in inl it
      at (Some d) here (inr place_) more = inr (more place_)

-- What each of some places gives, each key of a table once: where no two places give another thing
-- under one key.
pub record IsGathering {A : Type 0} (as_change : A → Change) (gives : RecId → Option A)
    (ps : List RecId) (cs : List A) : Type 0 where
  pub from : (c : A) → IsIn cs c → (p : RecId) × (gives p ≡ Some c)
  pub whole : (p : RecId) (c : A) → HasPlace ps p → gives p ≡ Some c → IsIn cs c
  pub apart : HaveOwnKeys (map as_change cs)

pub gathering : {A : Type 0} (as_change : A → Change) (gives : RecId → Option A) (ps : List RecId)
    → ((p q : RecId) (c d : A) → gives p ≡ Some c → gives q ≡ Some d
    → (as_change c).table ≡ (as_change d).table → (as_change c).key ≡ (as_change d).key → c ≡ d)
    → IsGathering as_change gives ps (kept as_change (gathered gives ps))
gathering {A} as_change gives ps one = record {
  from = λ c there. gathered_from gives ps c (kept_in as_change (gathered gives ps) c there);
  whole = λ p c place is. all_kept as_change (gathered gives ps) twins c
      (gathered_there gives ps p c place is);
  apart = kept_apart as_change (gathered gives ps);
}
  where
    twins : (c d : A) → IsIn (gathered gives ps) c → IsIn (gathered gives ps) d
        → (as_change c).table ≡ (as_change d).table → (as_change c).key ≡ (as_change d).key → c ≡ d
    twins c d in_c in_d name key =
        by (gathered_from gives ps c in_c) (gathered_from gives ps d in_d)
      where
        by : (p : RecId) × (gives p ≡ Some c) → (q : RecId) × (gives q ≡ Some d) → c ≡ d
        by (p, of_p) (q, of_q) = one p q c d of_p of_q name key
