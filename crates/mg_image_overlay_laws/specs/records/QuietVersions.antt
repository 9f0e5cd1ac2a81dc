-- Of each record the same versions count, or it goes and showed nothing: the same is shown, held,
-- changed and found.
use Rattle.mg_base.specs.declared.numbers.RecId.{RecId}
use Rattle.mg_base.specs.declared.transaction.TxState.{TxState}
use Rattle.mg_base.specs.declared.transaction.TxState.TheVariants.{Active, Committed, Dead, Limbo}
use Rattle.mg_image.specs.Catalog.{HasOwnTables, MayStandIn, committed_with}
use Rattle.mg_image.specs.Form.{Coding, Pages, Row}
use Rattle.mg_image.specs.Held.{AreChanges, Changes, Database, HasLimbo, IsChangedAt, IsHeld}
use Rattle.mg_image.specs.HeldLaws.{same_held}
use Rattle.mg_image.specs.Indexes.{IsFoundIn}
use Rattle.mg_image.specs.RecordRules.{AreRecords, Each, EachBack, Facts, committed_in, table_in}
use Rattle.mg_image.specs.Records.{Cells, Change, Reading, shown, writer}
use Rattle.mg_image.specs.Sound.{IsIndexed}
use Rattle.mg_image.specs.declared.entry.Entry.{Entry}
use Rattle.mg_image_overlay_laws.specs.records.Fronts.{is_dead, living}
use Rattle.mg_image_overlay_laws.specs.tables.TableOwners.{each_living, each_of_living, names_stay, own_tables_stay}
use Rattle.mg_model.specs.Answers.{is_committed}
use Rattle.mg_model.specs.declared.table.Table.{Table}
use Rattle.mg_value.specs.declared.value.Value.{Value}
use Rattle.std.proofs.Common.{Bool, List, None, Some, [], ap, false, inl, inr, refl, subst, sym, true, ℕ, ◌∙◌, ◌∷◌, ◌≡◌, ◌⊎◌}
use Rattle.std.specs.Prelude.{if◌then◌else◌}

-- ---- what counts is the same

living_shown : (f : Facts) (counts : ℕ → Bool) → ((u : ℕ) → f.state u ≡ Dead → counts u ≡ false)
    → (es : List Entry) → shown counts (living f.state es) ≡ shown counts es
living_shown f counts off [] = refl
living_shown f counts off (e ∷ es) = by (f.state (writer e)) refl
  where
    by : (s : TxState) → f.state (writer e) ≡ s
        → shown counts (living f.state (e ∷ es)) ≡ shown counts (e ∷ es)
    by Active is = ap (λ (b : Bool). shown counts (if b then es else e ∷ es)) (ap is_dead is)
    by Limbo is = ap (λ (b : Bool). shown counts (if b then es else e ∷ es)) (ap is_dead is)
    by Committed is = ap (λ (b : Bool). shown counts (if b then es else e ∷ es)) (ap is_dead is)
    by Dead is =
        let out : counts (writer e) ≡ false = off (writer e) is in
        let dropped : shown counts (e ∷ es) ≡ shown counts es = rw out refl in
        ap (λ (b : Bool). shown counts (if b then es else e ∷ es)) (ap is_dead is) ∙ sym dropped

-- of each record the same versions count
abbrev pub SameLiving : Facts → Reading → Reading → Type 0
SameLiving f r s = (q : RecId) → living f.state (s q) ≡ living f.state (r q)

-- A record goes that showed nothing: no version of it counts then, and those that did were committed.
pub record GoesQuietly (f : Facts) (old new : List Entry) : Type 0 where
  pub gone : living f.state new ≡ []
  pub hidden : shown (committed_in f) old ≡ None
  pub settled : Each (λ e. f.state (writer e) ≡ Committed) (living f.state old)

-- of a record the same versions count, or it goes and showed nothing
abbrev pub IsQuiet : Facts → List Entry → List Entry → Type 0
IsQuiet f old new = (living f.state new ≡ living f.state old) ⊎ GoesQuietly f old new

abbrev pub AreQuiet : Facts → Reading → Reading → Type 0
AreQuiet f r s = (q : RecId) → IsQuiet f (r q) (s q)

-- what committed versions show does not depend on who else counts
settled_shown : (f : Facts) (counts : ℕ → Bool)
    → ((u : ℕ) → f.state u ≡ Committed → counts u ≡ true) → (es : List Entry)
    → Each (λ e. f.state (writer e) ≡ Committed) es → shown counts es ≡ shown (committed_in f) es
settled_shown f counts on [] all = refl
settled_shown f counts on (e ∷ es) all =
    let counted : counts (writer e) ≡ true = on (writer e) all.0 in
    let committed : committed_in f (writer e) ≡ true = ap is_committed all.0 in
    rw (counted, committed) refl

-- the newest version is one in limbo, where the same versions count
newest_in_limbo : (f : Facts) (es : List Entry) (e : Entry) (older : List Entry)
    → EachBack (λ x. f.state (writer x) ≡ Committed) es → f.state (writer e) ≡ Limbo
    → living f.state (e ∷ older) ≡ living f.state es → es ≡ e ∷ older
newest_in_limbo f [] e older backs limbo same =
    let here : living f.state (e ∷ older) ≡ e ∷ older = rw limbo refl in
    let empty : e ∷ older ≡ [] = sym here ∙ same in absurd cc
newest_in_limbo f (d ∷ ds) e older backs limbo same = at (f.state (writer d)) refl
  where
    here : living f.state (e ∷ older) ≡ e ∷ older
    here = rw limbo refl

    list_is : (b : Bool) → is_dead (f.state (writer d)) ≡ b → (if b then ds else d ∷ ds) ≡ e ∷ older
    list_is b is = ap (λ (c : Bool). if c then ds else d ∷ ds) (sym is) ∙ (sym same ∙ here)

    at : (st : TxState) → f.state (writer d) ≡ st → d ∷ ds ≡ e ∷ older
    at Active is = list_is false (ap is_dead is)
    at Limbo is = list_is false (ap is_dead is)
    at Committed is = list_is false (ap is_dead is)
    at Dead is =
        let rest : ds ≡ e ∷ older = list_is true (ap is_dead is) in
        let committed : f.state (writer e) ≡ Committed =
        (subst (Each (λ x. f.state (writer x) ≡ Committed)) rest backs).0 in
        let both : Limbo ≡ Committed = sym limbo ∙ committed in absurd cc

module _ (coding : Coding) (f : Facts) (old new : Cells) (r s : Reading)
    (was : AreRecords coding f old r) (is : AreRecords coding f new s) (quiet : AreQuiet f r s) where
  shows_by : (counts : ℕ → Bool) → ((u : ℕ) → f.state u ≡ Dead → counts u ≡ false)
      → ((u : ℕ) → f.state u ≡ Committed → counts u ≡ true) → (q : RecId)
      → shown counts (s q) ≡ shown counts (r q)
  shows_by counts off on q = by (quiet q)
    where
      by : IsQuiet f (r q) (s q) → shown counts (s q) ≡ shown counts (r q)
      by (inl same) = sym (living_shown f counts off (s q)) ∙ (ap (shown counts) same
          ∙ living_shown f counts off (r q))
      by (inr goes) =
          let none : shown counts (s q) ≡ None = sym (living_shown f counts off (s q))
          ∙ ap (shown counts) goes.gone in
          let plain : shown (committed_in f) (living f.state (r q)) ≡ None =
          living_shown f (committed_in f) (λ u dead. ap is_committed dead) (r q) ∙ goes.hidden in
          none ∙ sym (sym (living_shown f counts off (r q))
          ∙ (settled_shown f counts on (living f.state (r q)) goes.settled ∙ plain))

  pub shows_with : (chosen : ℕ → Bool) (q : RecId)
      → shown (committed_with f chosen) (s q) ≡ shown (committed_with f chosen) (r q)
  shows_with chosen = shows_by (committed_with f chosen) (λ u dead. rw dead refl)
      (λ u committed. rw committed refl)

  pub shows_now : (q : RecId) → shown (committed_in f) (s q) ≡ shown (committed_in f) (r q)
  shows_now = shows_by (committed_in f) (λ u dead. ap is_committed dead)
      (λ u committed. ap is_committed committed)

  -- a limbo version was the newest, and is
  pub limbo_was : (q : RecId) (table : Table) (e : Entry) → HasLimbo f s q table e
      → HasLimbo f r q table e
  limbo_was q table e has = by (quiet q)
    where
      by : IsQuiet f (r q) (s q) → HasLimbo f r q table e
      by (inl same) = record {
        of_table = has.of_table;
        older = has.older;
        newest = newest_in_limbo f (r q) e has.older (was.each q table has.of_table).backs has.limbo
            (ap (living f.state) (sym has.newest) ∙ same);
        limbo = has.limbo;
      }
      by (inr goes) =
          let here : living f.state (e ∷ has.older) ≡ e ∷ has.older = rw has.limbo refl in
          let empty : e ∷ has.older ≡ [] =
          sym here ∙ (ap (living f.state) (sym has.newest) ∙ goes.gone) in absurd cc

  pub limbo_is : (q : RecId) (table : Table) (e : Entry) → HasLimbo f r q table e
      → HasLimbo f s q table e
  limbo_is q table e has = by (quiet q)
    where
      by : IsQuiet f (r q) (s q) → HasLimbo f s q table e
      by (inl same) = record {
        of_table = has.of_table;
        older = has.older;
        newest = newest_in_limbo f (s q) e has.older (is.each q table has.of_table).backs has.limbo
            (ap (living f.state) (sym has.newest) ∙ sym same);
        limbo = has.limbo;
      }
      by (inr goes) =
          let here : living f.state (r q) ≡ e ∷ has.older =
          ap (living f.state) has.newest ∙ rw has.limbo refl in
          let committed : f.state (writer e) ≡ Committed =
          (subst (Each (λ x. f.state (writer x) ≡ Committed)) here goes.settled).0 in
          let both : Limbo ≡ Committed = sym has.limbo ∙ committed in absurd cc

  -- ---- so what is held, changed and found is

  pub held_still : (db : Database) → IsHeld f (committed_in f) r db → IsHeld f (committed_in f) s db
  held_still db held = same_held f f (committed_in f) (committed_in f) r s db (record {
    tables = λ q. refl;
    rows = shows_now;
  }) held

  pub changes_still : (changes : Changes) → AreChanges f r changes → AreChanges f s changes
  changes_still changes are = record {
    there = λ q table e has. are.there q table e (limbo_was q table e has);
    whole = λ t name key change is_. moved t name key change (are.whole t name key change is_);
  }
    where
      moved : (t : ℕ) (name : List ℕ) (key : Value) (change : Change)
          → IsChangedAt f r t name key change → IsChangedAt f s t name key change
      moved t name key change it = record {
        place = it.place;
        table = it.table;
        version = it.version;
        limbo = limbo_is it.place it.table it.version it.limbo;
        its_own = it.its_own;
        named = it.named;
        keyed = it.keyed;
        told = it.told;
      }

  pub owns_still : (catalog : Table) → HasOwnTables f r catalog → HasOwnTables f s catalog
  owns_still catalog owns = own_tables_stay f f r s catalog (names_stay f f r s catalog (record {
    shows = λ q row shows. record {
      of_table = shows.of_table;
      row_shown = shows_now q ∙ shows.row_shown;
    };
    limbo = λ q e has. limbo_is q catalog e has;
    dead = λ t is_. is_;
  })) (λ q table of. each_of_living f.state (MayStandIn f r catalog table)
      (λ e dead. inr (inr (inl dead))) (s q) (still q table of (quiet q)))
    where
      still : (q : RecId) (table : Table) → table_in f q ≡ Some table → IsQuiet f (r q) (s q)
          → Each (MayStandIn f r catalog table) (living f.state (s q))
      still q table of (inl same) = subst (Each (MayStandIn f r catalog table)) (sym same)
          (each_living f.state (MayStandIn f r catalog table) (r q) (owns q table of))
      still q table of (inr goes) = subst (Each (MayStandIn f r catalog table)) (sym goes.gone) tt

  pub indexed_still : (before after : Pages)
      → ((table : Table) (q : RecId) (row : Row) → table_in f q ≡ Some table
      → IsFoundIn before table.indexes q row → IsFoundIn after table.indexes q row)
      → IsIndexed f before r → IsIndexed f after s
  indexed_still before after found indexed = record {
    committed = λ q table row shows. found table q row shows.of_table (indexed.committed q table row (record {
      of_table = shows.of_table;
      row_shown = sym (shows_now q) ∙ shows.row_shown;
    }));
    limbo = λ q table e has alive. found table q e.row has.of_table
        (indexed.limbo q table e (limbo_was q table e has) alive);
  }
