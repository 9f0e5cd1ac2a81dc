-- Writes keep the versions of an image those of the history.
use Rattle.std.proofs.Common.{◌≡◌, ◌≢◌, ◌⊎◌, inl, inr, ◌&&◌, ℕ, Bool, true, false, List, [], ◌∷◌, Option, None, Some, refl, sym, ap, ◌∙◌, subst}
use Rattle.std.specs.Cmp.Lexicographic.{same_text}
use Rattle.std.specs.Prelude.{if◌then◌else◌, map}
use Rattle.std.proofs.lemmas.Bool.{false≢true}
use Rattle.mg_base.specs.declared.numbers.RecId.{RecId}
use Rattle.mg_base.specs.declared.transaction.TxState.{TxState}
use Rattle.mg_value.specs.declared.value.Value.{Value}
use Rattle.mg_model.specs.declared.opening.Opening.{Opening}
use Rattle.mg_model.specs.declared.table.Table.{Table}
use Rattle.mg_model.specs.Changes.{Cells, same_key, same_name}
use Rattle.mg_model.specs.History.{Effect, Entries, Entry}
use Rattle.mg_model.specs.Legal.{IsLegal, MayBegin}
use Rattle.mg_model.specs.Machine.{own}
use Rattle.mg_model.specs.ReadLaws.{same_name_itself}
use Rattle.mg_catalog.specs.KeyLaws.{keys_equal, same_key_self}
use Rattle.mg_generation_laws.specs.After.{generations_after, generations_with, key_made}
use Rattle.mg_generation_laws.specs.GarbageLaws.{erase_stand}
use Rattle.mg_generation_laws.specs.Generations.{Generation, put}
use Rattle.mg_generation_laws.specs.Kept.{IsErasedForAll, StandFor}
use Rattle.mg_image.specs.declared.entry.Entry.{Entry as Read}
use Rattle.mg_image.specs.RecordRules.{Facts, table_in}
use Rattle.mg_image.specs.Records.{Reading, record_key, writer}
use Rattle.mg_image.specs.StepLaws.{cases_place, same_place}
use Rattle.mg_image_overlay_laws.specs.records.Fronts.{is_dead, living}
use Rattle.mg_engine_step_laws.specs.standing.ChainLaws.{erased_still}
use Rattle.mg_engine_step_laws.specs.standing.StandingLaws.{IsChainOf}
use Rattle.mg_seek.specs.Histories.{told_versions}
use Rattle.mg_engine_step_laws.specs.standing.Versions.{HaveVersions, IsRecordOf, SpeaksFor, SpeaksOrSilent, told_version}
use Rattle.mg_engine_step_laws.specs.standing.VersionsLaws.{versions_follow}
use Rattle.mg_engine_step_laws.specs.standing.Writing.{ErasedMayBeSilent, Silenced, WritesFollow, WritesKey, WritesRecord}

both_true : (a b : Bool) → (a && b) ≡ true → (a ≡ true) × (b ≡ true)
both_true true b is = (refl, is)
both_true false b is = absurd (false≢true is)

-- whether a key of a table is this one
abbrev is_key : List ℕ → Value → List ℕ → Value → Bool
is_key name key n k = same_name name n && same_key key k

key_itself : (name : List ℕ) (key : Value) → is_key name key name key ≡ true
key_itself name key = rw (same_name_itself name, same_key_self key) refl

key_is : (name : List ℕ) (key : Value) (n : List ℕ) (k : Value) → is_key name key n k ≡ true
    → (name ≡ n) × (key ≡ k)
key_is name key n k is =
    let tests = both_true (same_name name n) (same_key key k) is in
    (same_text name n (sym tests.0), keys_equal key k tests.1)

-- ---- what a write makes of versions

written_here : (o : Opening) (h : Entries) (e : Entry) (t : ℕ) (name : List ℕ) (key : Value)
    (row : Option Cells) (gs : List Generation) → WritesKey o h e t name key row
    → generations_with o h e name key gs ≡ put t row gs
written_here o h e t name key row gs (inl is) =
    ap (λ (f : Effect). generations_after f (key_made o h f) (own o (e ∷ h)) name key gs) is
    ∙ rw (key_itself name key) refl
written_here o h e t name key row gs (inr (made, row_is, is, key_is_)) =
    ap (λ (f : Effect). generations_after f (key_made o h f) (own o (e ∷ h)) name key gs) is
    ∙ (ap (λ (k : Value). if same_name name name && same_key k key then put t (Some made) gs else gs) key_is_
    ∙ (rw (key_itself name key) (ap (λ (x : Option Cells). put t x gs) (sym row_is))))

written_elsewhere : (o : Opening) (h : Entries) (e : Entry) (t : ℕ) (name : List ℕ) (key : Value)
    (row : Option Cells) (n : List ℕ) (k : Value) (gs : List Generation)
    → WritesKey o h e t name key row → is_key name key n k ≡ false
    → generations_with o h e n k gs ≡ gs
written_elsewhere o h e t name key row n k gs (inl is) other =
    ap (λ (f : Effect). generations_after f (key_made o h f) (own o (e ∷ h)) n k gs) is ∙ rw other refl
written_elsewhere o h e t name key row n k gs (inr (made, row_is, is, key_is_)) other =
    ap (λ (f : Effect). generations_after f (key_made o h f) (own o (e ∷ h)) n k gs) is
    ∙ (ap (λ (x : Value). if same_name name n && same_key x k then put t (Some made) gs else gs) key_is_
    ∙ rw other refl)

living_by : (state now : ℕ → TxState) (es : List Read) → ((u : ℕ) → now u ≡ state u)
    → living now es ≡ living state es
living_by state now [] same = refl
living_by state now (e ∷ es) same = ap (λ (b : Bool). if b then es else e ∷ es)
    (ap is_dead (same (writer e)))

-- ---- one record is written

module _ (o : Opening) (h : Entries) (e : Entry) (f g : Facts) (r s : Reading) (t : ℕ)
    (name : List ℕ) (key : Value) (row : Option Cells) (p : RecId) (have : HaveVersions o h f r)
    (opening : MayBegin o) (legal : IsLegal o (e ∷ h)) (writes : WritesKey o h e t name key row)
    (written : WritesRecord f g r s have.speaker t name key row p) where
  abbrev later : List ℕ → Value → Option RecId
  later n k = if is_key name key n k then Some p else have.speaker n k

  told_other : (table : Table) (q : RecId) → q ≢ p
      → told_versions g.state table (s q) ≡ told_versions f.state table (r q)
  told_other table q ne =
      ap (λ (es : List Read). map (told_version table) es) (ap (living g.state) (written.others q ne)
      ∙ living_by f.state g.state (r q) written.state)

  cases : (q : RecId) → (q ≡ p) ⊎ (q ≢ p)
  cases q = at (cases_place q p)
    where
      at : ((q ≡ p) × (same_place q p ≡ true)) ⊎ ((q ≢ p) × (same_place q p ≡ false))
          → (q ≡ p) ⊎ (q ≢ p)
      at (inl is) = inl is.0
      at (inr is) = inr is.0

  -- who speaks for another key is another record
  other_speaker : (n : List ℕ) (k : Value) (q : RecId) → is_key name key n k ≡ false
      → have.speaker n k ≡ Some q → IsRecordOf f r n k q → q ≢ p
  other_speaker n k q other is its same = at written.spoke
    where
      key_of_it : (x : Option RecId) → have.speaker name key ≡ x → SpeaksFor o h f r name key x
      key_of_it x said = subst (SpeaksFor o h f r name key) said (have.speaks name key)

      by : IsRecordOf f r name key p → ⊥
      by here =
          let of : table_in f q ≡ Some here.table = ap (λ (x : RecId). table_in f x) same ∙ here.of_table in
          let both : Some its.table ≡ Some here.table = sym its.of_table ∙ of in
          let table : its.table ≡ here.table = cc in
          let names : name ≡ n = sym here.named ∙ (ap (λ (x : Table). x.name) (sym table) ∙ its.named) in
          let keys : key ≡ k = sym here.keyed
          ∙ (ap (λ (x : Table). record_key x (r p)) (sym table)
          ∙ (ap (λ (x : RecId). record_key its.table (r x)) (sym same) ∙ its.keyed)) in
          let is_ : is_key name key n k ≡ true =
          subst (λ (x : List ℕ). is_key name key x k ≡ true) names
          (subst (λ (x : Value). is_key name key name x ≡ true) keys (key_itself name key)) in
          false≢true (sym other ∙ is_)

      at : (have.speaker name key ≡ Some p) ⊎ ((have.speaker name key ≡ None) × (r p ≡ [])) → ⊥
      at (inl said) = by (key_of_it (Some p) said).0
      at (inr new) = its.some (ap r same ∙ new.1)

  moved : (n : List ℕ) (k : Value) (q : RecId) → q ≢ p → IsRecordOf f r n k q → IsRecordOf g s n k q
  moved n k q ne its = record {
    table = its.table;
    of_table = written.tables q ne its.some ∙ its.of_table;
    named = its.named;
    some = λ none. its.some (sym (written.others q ne) ∙ none);
    keyed = ap (record_key its.table) (written.others q ne) ∙ its.keyed;
  }

  keys_follow : (n : List ℕ) (k : Value) (chain : List Generation)
      → IsChainOf f r n k (have.speaker n k) chain
      → IsChainOf g s n k (later n k) (generations_with o h e n k chain)
  unfolding moved
  keys_follow n k chain is = at (is_key name key n k) refl
    where
      here : (name ≡ n) × (key ≡ k) → IsChainOf g s n k (Some p) (generations_with o h e n k chain)
      here same = subst (λ (x : List ℕ). IsChainOf g s x k (Some p) (generations_with o h e x k chain)) same.0
          (subst (λ (x : Value). IsChainOf g s name x (Some p) (generations_with o h e name x chain)) same.1 (
            record {
              table = written.table;
              of_table = written.of_table;
              named = written.named;
              some = written.some;
              keyed = written.keyed;
            },
            written_here o h e t name key row chain writes
                ∙ sym (written.versions chain (was same)),
          ))
        where
          was : (name ≡ n) × (key ≡ k) → IsChainOf f r name key (have.speaker name key) chain
          was eq = subst (λ (x : List ℕ). IsChainOf f r x key (have.speaker x key) chain) (sym eq.0)
              (subst (λ (x : Value). IsChainOf f r n x (have.speaker n x) chain) (sym eq.1) is)

      there : is_key name key n k ≡ false → (x : Option RecId) → have.speaker n k ≡ x
          → IsChainOf f r n k x chain → IsChainOf g s n k x (generations_with o h e n k chain)
      there other None said is_ = written_elsewhere o h e t name key row n k chain writes other ∙ is_
      there other (Some q) said (its, is_) =
          let ne : q ≢ p = other_speaker n k q other said its in (
            moved n k q ne its,
            written_elsewhere o h e t name key row n k chain writes other
                ∙ (is_ ∙ sym (told_other its.table q ne)),
          )

      at : (b : Bool) → is_key name key n k ≡ b
          → IsChainOf g s n k (if b then Some p else have.speaker n k) (generations_with o h e n k chain)
      at true same = here (key_is name key n k same)
      at false other = there other (have.speaker n k) refl is

  silent_other : (q : RecId) (table : Table) → q ≢ p → table_in f q ≡ Some table → s q ≢ []
      → SpeaksOrSilent o h f r have.speaker q table → SpeaksOrSilent o (e ∷ h) g s later q table
  silent_other q table ne of some (inl none) = inl (told_other table q ne ∙ none)
  silent_other q table ne of some (inr (inl gone)) = inr (inl (erased_still o opening h e legal
      (told_versions g.state table (s q))
      (subst (IsErasedForAll o h) (sym (told_other table q ne)) gone)))
  silent_other q table ne of some (inr (inr said)) = inr (inr (at (is_key name key table.name
      (record_key table (s q))) refl))
    where
      said_too : have.speaker table.name (record_key table (s q)) ≡ Some q
      said_too = ap (λ (es : List Read). have.speaker table.name (record_key table es)) (written.others q ne)
          ∙ said

      not_here : (name ≡ table.name) × (key ≡ record_key table (s q)) → ⊥
      not_here same = by written.spoke
        where
          its : have.speaker name key ≡ Some q
          its = ap (λ (n : List ℕ). have.speaker n key) same.0
              ∙ (ap (have.speaker table.name) same.1 ∙ said_too)

          by : (have.speaker name key ≡ Some p) ⊎ ((have.speaker name key ≡ None) × (r p ≡ [])) → ⊥
          by (inl was) =
              let both : Some q ≡ Some p = sym its ∙ was in
              let eq : q ≡ p = cc in ne eq
          by (inr new) = let both : Some q ≡ None = sym its ∙ new.0 in absurd cc

      at : (b : Bool) → is_key name key table.name (record_key table (s q)) ≡ b
          → (if b then Some p else have.speaker table.name (record_key table (s q))) ≡ Some q
      at true same = absurd (not_here (key_is name key table.name (record_key table (s q)) same))
      at false other = said_too

  others_follow : (q : RecId) (table : Table) → table_in g q ≡ Some table
      → SpeaksOrSilent o (e ∷ h) g s later q table
  others_follow q table of = at (cases q)
    where
      told_none : s q ≡ [] → told_versions g.state table (s q) ≡ []
      told_none none = ap (λ (es : List Read). told_versions g.state table es) none

      some_or_none : (es : List Read) → s q ≡ es → (s q ≡ []) ⊎ (s q ≢ [])
      some_or_none [] is = inl is
      some_or_none (x ∷ es) is = inr (λ none. let both : (x ∷ es) ≡ [] = sym is ∙ none in absurd cc)

      at : (q ≡ p) ⊎ (q ≢ p) → SpeaksOrSilent o (e ∷ h) g s later q table
      at (inl same) =
          let both : Some table ≡ Some written.table = sym of
          ∙ (ap (λ (x : RecId). table_in g x) same ∙ written.of_table) in
          let table_is : table ≡ written.table = cc in
          let names : name ≡ table.name = sym written.named ∙ ap (λ (x : Table). x.name) (sym table_is) in
          let keys : key ≡ record_key table (s q) = sym written.keyed
          ∙ (ap (λ (x : Table). record_key x (s p)) (sym table_is)
          ∙ ap (λ (x : RecId). record_key table (s x)) (sym same)) in
          let is_ : is_key name key table.name (record_key table (s q)) ≡ true =
          subst (λ (x : List ℕ). is_key name key x (record_key table (s q)) ≡ true) names
          (subst (λ (x : Value). is_key name key name x ≡ true) keys (key_itself name key)) in
          inr (inr (ap (λ (b : Bool). if b then Some p else have.speaker table.name (record_key table (s q))) is_
          ∙ ap Some (sym same)))
      at (inr ne) = by (some_or_none (s q) refl)
        where
          by : (s q ≡ []) ⊎ (s q ≢ []) → SpeaksOrSilent o (e ∷ h) g s later q table
          by (inl none) = inl (told_none none)
          by (inr some) =
              let some_then : r q ≢ [] = λ none. some (written.others q ne ∙ none) in
              let of_f : table_in f q ≡ Some table = sym (written.tables q ne some_then) ∙ of in
              silent_other q table ne of_f some (have.others q table of_f)

  pub writes_follow_by : HaveVersions o (e ∷ h) g s
  writes_follow_by = versions_follow o h e f g r s have later opening legal
      (record { keys = keys_follow; others = others_follow })

pub writes_follow : WritesFollow
writes_follow o h e f g r s t name key row p have opening legal writes written =
    writes_follow_by o h e f g r s t name key row p have opening legal writes written

-- ---- a silent record

-- where what stands for the versions of a key is erased for all, nothing stands for them too
erased_stands : (o : Opening) (h : Entries) (name : List ℕ) (key : Value) (gs : List Generation)
    → StandFor o h name key gs → IsErasedForAll o h gs → StandFor o h name key []
erased_stands o h name key [] stand gone = stand
erased_stands o h name key (d ∷ ds) stand gone = erase_stand o h name key d ds stand gone.0 gone.1

module _ (o : Opening) (h : Entries) (f : Facts) (r : Reading) (have : HaveVersions o h f r)
    (name : List ℕ) (key : Value)
    (silent : (chain : List Generation) → IsChainOf f r name key (have.speaker name key) chain
    → (chain ≡ []) ⊎ IsErasedForAll o h chain) where
  abbrev quieter : List ℕ → Value → Option RecId
  quieter n k = if is_key name key n k then None else have.speaker n k

  stands : (x : Option RecId) → SpeaksFor o h f r name key x
      → ((chain : List Generation) → IsChainOf f r name key x chain
      → (chain ≡ []) ⊎ IsErasedForAll o h chain) → StandFor o h name key []
  stands None stand goes = stand
  stands (Some p) (its, stand) goes =
      by (goes (told_versions f.state its.table (r p)) (its, refl))
    where
      by : (told_versions f.state its.table (r p) ≡ [])
          ⊎ IsErasedForAll o h (told_versions f.state its.table (r p)) → StandFor o h name key []
      by (inl none) = subst (StandFor o h name key) none stand
      by (inr gone) = erased_stands o h name key (told_versions f.state its.table (r p)) stand gone

  speaks : (n : List ℕ) (k : Value) → SpeaksFor o h f r n k (quieter n k)
  speaks n k = at (is_key name key n k) refl
    where
      at : (b : Bool) → is_key name key n k ≡ b
          → SpeaksFor o h f r n k (if b then None else have.speaker n k)
      at true same =
          let eq = key_is name key n k same in
          subst (λ (x : List ℕ). StandFor o h x k []) eq.0
          (subst (λ (x : Value). StandFor o h name x []) eq.1
          (stands (have.speaker name key) (have.speaks name key) silent))
      at false other = have.speaks n k

  -- the record that spoke for the key has no versions that count, or they are erased for all
  spoke : (p : RecId) (table : Table) → table_in f p ≡ Some table → have.speaker name key ≡ Some p
      → SpeaksOrSilent o h f r quieter p table
  spoke p table of said = by (subst (SpeaksFor o h f r name key) said (have.speaks name key)).0
    where
      turn : (a b : Table) → a ≡ b → (told_versions f.state a (r p) ≡ [])
          ⊎ IsErasedForAll o h (told_versions f.state a (r p)) → SpeaksOrSilent o h f r quieter p b
      turn a b same (inl none) =
          inl (ap (λ (x : Table). told_versions f.state x (r p)) (sym same) ∙ none)
      turn a b same (inr gone) = inr (inl
          (subst (λ (x : Table). IsErasedForAll o h (told_versions f.state x (r p))) same gone))

      by : IsRecordOf f r name key p → SpeaksOrSilent o h f r quieter p table
      by its =
          let both : Some its.table ≡ Some table = sym its.of_table ∙ of in
          let same : its.table ≡ table = cc in
          turn its.table table same (silent (told_versions f.state its.table (r p))
          (subst (λ (x : Option RecId). IsChainOf f r name key x (told_versions f.state its.table (r p)))
          (sym said) (its, refl)))

  others : (p : RecId) (table : Table) → table_in f p ≡ Some table
      → SpeaksOrSilent o h f r quieter p table
  others p table of = at (have.others p table of)
    where
      by : have.speaker table.name (record_key table (r p)) ≡ Some p → (b : Bool)
          → is_key name key table.name (record_key table (r p)) ≡ b
          → SpeaksOrSilent o h f r quieter p table
      by said true same =
          let eq = key_is name key table.name (record_key table (r p)) same in
          spoke p table of (ap (λ (n : List ℕ). have.speaker n key) eq.0
          ∙ (ap (have.speaker table.name) eq.1 ∙ said))
      by said false other = inr (inr (ap (λ (b : Bool). if b then None
          else have.speaker table.name (record_key table (r p))) other ∙ said))

      at : SpeaksOrSilent o h f r have.speaker p table → SpeaksOrSilent o h f r quieter p table
      at (inl none) = inl none
      at (inr (inl gone)) = inr (inl gone)
      at (inr (inr said)) = by said (is_key name key table.name (record_key table (r p))) refl

  pub silenced : Silenced o h f r have name key
  silenced = record {
    now = record { speaker = quieter; speaks = speaks; others = others };
    none = ap (λ (b : Bool). if b then None else have.speaker name key) (key_itself name key);
    others = λ n k other. ap (λ (b : Bool). if b then None else have.speaker n k) other;
  }

pub erased_may_be_silent : ErasedMayBeSilent
erased_may_be_silent o h f r have name key silent = silenced o h f r have name key silent
