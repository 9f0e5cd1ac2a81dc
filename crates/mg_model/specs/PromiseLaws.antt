-- What a snapshot sees, and when a change of a key is answered Fine.
use Rattle.std.specs.Prelude.{◌≡◌, ◌≢◌, ◌⊎◌, ◌↔◌, ℕ, ◌<◌, ◌==◌, ◌&&◌, ◌||◌, not, is_some, Bool, true, false, List, [], ◌∷◌, ◌++◌, Option, None, Some, IsSome, cond, refl}
use Rattle.std.proofs.Common.{sym, ◌∙◌, ap, inl, inr, arith}
use Rattle.std.proofs.lemmas.Bool.{false≢true, both_ways, ne_eqb, eq-eqb}
use Rattle.std.specs.Cmp.Lexicographic.{same_text}
use Rattle.mg_base.specs.declared.transaction.TxState.{TxState}
use Rattle.mg_base.specs.declared.transaction.TxState.TheVariants.{Active, Limbo, Dead, Committed}
use Rattle.mg_value.specs.declared.value.Value.{Value}
use Rattle.mg_model.specs.declared.answer.Answer.{Answer}
use Rattle.mg_model.specs.declared.answer.Answer.TheVariants.{Fine, No, Tx}
use Rattle.mg_model.specs.declared.refusal.Refusal.{Refusal}
use Rattle.mg_model.specs.declared.refusal.Refusal.TheVariants.{DuplicateKey, NoRow, NoTable, ReadOnly}
use Rattle.mg_model.specs.declared.event.Event.TheVariants.{Begin}
use Rattle.mg_model.specs.declared.event.Mode.{Mode}
use Rattle.mg_model.specs.declared.opening.Opening.{Opening}
use Rattle.mg_model.specs.Changes.{Cells, same_name, has_change, row_at}
use Rattle.mg_model.specs.Catalog.{catalog_name, table_key}
use Rattle.mg_model.specs.History.{Entries, Effect, Begins, effect_of, entry}
use Rattle.mg_model.specs.Machine.{next_number, mode_after, mode_of, state_of, is_of, takes_base, base, database, own, view, cut_at_base}
use Rattle.mg_model.specs.Answers.{Told, told, is_committed, is_open, can_hinder, obstacle, table_obstacle, past, if_active, has_table, has_row, if_writable, number}
use Rattle.mg_model.specs.Legal.{MayBegin, IsLegal}
use Rattle.mg_model.specs.Effects.{drawn}
use Rattle.mg_model.specs.DeedLaws.{takes_base_once}
use Rattle.mg_model.specs.LegalLaws.{active_from_fine, fine_by_false, fine_by_true, lawful_is_allowed, none_from_fine, obstacle_hinders, table_obstacle_hinders}
use Rattle.mg_model.specs.NumberLaws.{next_number_grows, not_drawn_again}
use Rattle.mg_model.specs.ObstacleLaws.{no_obstacle_is, obstacle_is}
use Rattle.mg_model.specs.OverlapLaws.{saw_is_committed}
use Rattle.mg_model.specs.ReadLaws.{same_name_itself}
use Rattle.mg_model.specs.Promises.{begun, IsFree, MayWrite}

-- ---- snapshots

mode_stays : (f : Effect) (t : ℕ) (old : Mode) → is_of t (drawn f) ≡ false
    → mode_after f t old ≡ old
mode_stays (Begins u mode) t old undrawn = rw undrawn refl
mode_stays f t old undrawn = refl

-- while a transaction has begun with one snapshot, and no entry draws its number again
record Reads (o : Opening) (h now : Entries) (mode : Mode) (t : ℕ) : Type 0 where
  drawn_ : t < next_number o now
  mode_is : mode_of now t ≡ mode
  based : base o now t ≡ database o h
  cut : cut_at_base now t ≡ h

reads_since : (o : Opening) (h since : Entries) (session : ℕ) (mode : Mode) (t : ℕ)
    → mode.snapshot ≡ true → IsLegal o (since ++ begun h session mode t)
    → Reads o h (since ++ begun h session mode t) mode t
reads_since o h [] session mode t one legal =
    let is : t ≡ next_number o h =
    lawful_is_allowed o h (entry (Begin session mode) (Tx (number t))) legal.0 in
    let its : (t == t) ≡ true = eq-eqb t t refl in
    record {
      drawn_ = omega (arith, is);
      mode_is = rw its refl;
      based = rw its refl;
      cut = rw its refl;
    }
reads_since o h (e ∷ since) session mode t one legal =
    let before : Reads o h (since ++ begun h session mode t) mode t =
    reads_since o h since session mode t one legal.1 in
    let undrawn : is_of t (drawn (effect_of e)) ≡ false =
    not_drawn_again o (since ++ begun h session mode t) e legal t before.drawn_ in
    let snapshot : (mode_of (since ++ begun h session mode t) t).snapshot ≡ true =
    ap (λ (m : Mode). m.snapshot) before.mode_is ∙ one in
    let none : takes_base (effect_of e) t (mode_of (since ++ begun h session mode t) t).snapshot
    ≡ false = takes_base_once (effect_of e) t _ snapshot undrawn in
    record {
      drawn_ = omega (
        arith,
        before.drawn_,
        next_number_grows o (since ++ begun h session mode t) e,
      );
      mode_is = mode_stays (effect_of e) t (mode_of (since ++ begun h session mode t) t) undrawn
          ∙ before.mode_is;
      based = rw none before.based;
      cut = rw none before.cut;
    }

-- a snapshot sees what was committed before it began, and its own changes over it
pub snapshot_sees : (o : Opening) (h since : Entries) (session : ℕ) (mode : Mode) (t : ℕ)
    → mode.snapshot ≡ true → IsLegal o (since ++ begun h session mode t)
    → view o (since ++ begun h session mode t) t
    ≡ own o (since ++ begun h session mode t) t ++ database o h
snapshot_sees o h since session mode t one legal =
    ap (λ cs. own o (since ++ begun h session mode t) t ++ cs)
    (reads_since o h since session mode t one legal).based

pub snapshot_saw : (o : Opening) (h since : Entries) (session : ℕ) (mode : Mode) (t u : ℕ)
    → mode.snapshot ≡ true → IsLegal o (since ++ begun h session mode t)
    → (told o (since ++ begun h session mode t)).saw t u ≡ is_committed (state_of o h u)
snapshot_saw o h since session mode t u one legal =
    ap (λ (cut : Entries). is_committed (state_of o cut u))
    (reads_since o h since session mode t one legal).cut

-- ---- a key is free exactly where it has no obstacle

-- who can't be in the way, is dead or was committed
free_from_unhindered : (s then_ : TxState) (its : Bool) → its ≡ false
    → (not its && (is_open s || (is_committed s && not (is_committed then_)))) ≡ false
    → (s ≡ Dead) ⊎ (then_ ≡ Committed)
free_from_unhindered s then_ true apart free = absurd (false≢true (sym apart))
free_from_unhindered Active then_ false apart free = absurd (false≢true (sym free))
free_from_unhindered Limbo then_ false apart free = absurd (false≢true (sym free))
free_from_unhindered Dead then_ false apart free = inl refl
free_from_unhindered Committed Active false apart free = absurd (false≢true (sym free))
free_from_unhindered Committed Limbo false apart free = absurd (false≢true (sym free))
free_from_unhindered Committed Dead false apart free = absurd (false≢true (sym free))
free_from_unhindered Committed Committed false apart free = inr refl

-- who is dead, or was committed and is so, can't be in the way
dead_unhindered : (s then_ : TxState) (its : Bool) → s ≡ Dead
    → (not its && (is_open s || (is_committed s && not (is_committed then_)))) ≡ true → ⊥
dead_unhindered s then_ true dead hinders = false≢true hinders
dead_unhindered Active then_ false dead hinders = absurd cc
dead_unhindered Limbo then_ false dead hinders = absurd cc
dead_unhindered Dead then_ false dead hinders = false≢true hinders
dead_unhindered Committed then_ false dead hinders = absurd cc

seen_unhindered : (s then_ : TxState) (its : Bool) → then_ ≡ Committed → is_committed s ≡ true
    → (not its && (is_open s || (is_committed s && not (is_committed then_)))) ≡ true → ⊥
seen_unhindered s then_ true was committed hinders = false≢true hinders
seen_unhindered Active then_ false was committed hinders = false≢true committed
seen_unhindered Limbo then_ false was committed hinders = false≢true committed
seen_unhindered Dead then_ false was committed hinders = false≢true committed
seen_unhindered Committed then_ false was committed hinders =
    let saw : is_committed then_ ≡ true = ap is_committed was in
    false≢true (sym (ap not saw) ∙ hinders)

own_unhindered : (its rest : Bool) → its ≡ true → (not its && rest) ≡ true → ⊥
own_unhindered true rest is hinders = false≢true hinders
own_unhindered false rest is hinders = false≢true is

module _ (o : Opening) (h : Entries) (t : ℕ) where
  free_from_none : (table : List ℕ) (key : Value) → obstacle (told o h) t table key ≡ None
      → IsFree o h t table key
  free_from_none table key none u apart has =
      free_from_unhindered (state_of o h u) (state_of o (cut_at_base h t) u) (u == t)
      (ne_eqb u t apart) (no_obstacle_is o h t table key u none has)

  none_from_free : MayBegin o → IsLegal o h → (table : List ℕ) (key : Value)
      → IsFree o h t table key → obstacle (told o h) t table key ≡ None
  none_from_free opening legal table key free = at (obstacle (told o h) t table key) refl
    where
      way : (u : ℕ) → can_hinder (told o h) t u ≡ true
          → (state_of o h u ≡ Dead) ⊎ (state_of o (cut_at_base h t) u ≡ Committed) → ⊥
      way u hinders (inl dead) =
          dead_unhindered (state_of o h u) (state_of o (cut_at_base h t) u) (u == t) dead hinders
      way u hinders (inr was) =
          seen_unhindered (state_of o h u) (state_of o (cut_at_base h t) u) (u == t) was
          (saw_is_committed o opening h legal t u (ap is_committed was)) hinders

      found : (u : ℕ) → can_hinder (told o h) t u ≡ true
          → has_change (own o h u) table key ≡ true → ⊥
      found u hinders has = by (u == t) refl
        where
          by : (its : Bool) → (u == t) ≡ its → ⊥
          by true its = own_unhindered (u == t) _ its hinders
          by false other =
              way u hinders (free u (λ same. both_ways (u == t) other (eq-eqb u t same)) has)

      at : (who : Option ℕ) → obstacle (told o h) t table key ≡ who → who ≡ None
      at None is = refl
      at (Some u) is =
          let there = obstacle_is o h t table key u is in absurd (found u there.0 there.1)

  table_free_from_none : (table : List ℕ) → table_obstacle (told o h) t table ≡ None
      → table ≢ catalog_name → IsFree o h t catalog_name (table_key table)
  table_free_from_none table none other = at (same_name table catalog_name) refl none
    where
      at : (b : Bool) → same_name table catalog_name ≡ b
          → cond b None (obstacle (told o h) t catalog_name (table_key table)) ≡ None
          → IsFree o h t catalog_name (table_key table)
      at true same none = absurd (other (same_text table catalog_name (sym same)))
      at false apart none = free_from_none catalog_name (table_key table) none

  none_from_table_free : MayBegin o → IsLegal o h → (table : List ℕ)
      → (table ≢ catalog_name → IsFree o h t catalog_name (table_key table))
      → table_obstacle (told o h) t table ≡ None
  none_from_table_free opening legal table free = at (same_name table catalog_name) refl
    where
      at : (b : Bool) → same_name table catalog_name ≡ b
          → cond b None (obstacle (told o h) t catalog_name (table_key table)) ≡ None
      at true same = refl
      at false apart = none_from_free opening legal catalog_name (table_key table)
          (free (λ same. both_ways (same_name table catalog_name) apart
          (ap (λ (name : List ℕ). same_name name catalog_name) same
          ∙ same_name_itself catalog_name)))

-- ---- a change is answered Fine exactly where the transaction may write

false_by_fine : (b : Bool) (r : Refusal) (next : Answer) → Fine ≡ cond b (No r) next → b ≡ false
false_by_fine true r next is = absurd cc
false_by_fine false r next is = refl

true_by_fine : (b : Bool) (r : Refusal) (next : Answer) → Fine ≡ cond b next (No r) → b ≡ true
true_by_fine true r next is = refl
true_by_fine false r next is = absurd cc

none_from_false : (row : Option Cells) → is_some row ≡ false → row ≡ None
none_from_false None is = refl
none_from_false (Some row) is = absurd (false≢true (sym is))

module _ (o : Opening) (h : Entries) (t : ℕ) (table : List ℕ) where
  abbrev k : Told
  k = told o h

  -- what a write is answered, whatever is asked of its key
  abbrev written : Answer → Answer
  written next =
      if_active (k.state t) (if_writable k t table (past k t (table_obstacle k t table) next))

  -- what has to hold, apart from the key
  record Outer : Type 0 where
    active : state_of o h t ≡ Active
    writes : (mode_of h t).read_only ≡ false
    sees : has_table k t table ≡ true
    none : table_obstacle k t table ≡ None

  outer_from_fine : (next : Answer) → Fine ≡ written next → Outer × (Fine ≡ next)
  outer_from_fine next is =
      let first = active_from_fine (k.state t)
      (if_writable k t table (past k t (table_obstacle k t table) next)) is in
      let second : Fine ≡ cond (has_table k t table)
      (past k t (table_obstacle k t table) next) (No NoTable) =
      fine_by_true (k.mode t).read_only ReadOnly _ first.1 in
      let third : Fine ≡ past k t (table_obstacle k t table) next =
      fine_by_false (has_table k t table) NoTable _ second in
      let last = none_from_fine k t (table_obstacle k t table) next
      (table_obstacle_hinders k t table) third in (
        record {
          active = first.0;
          writes = false_by_fine (k.mode t).read_only ReadOnly _ first.1;
          sees = true_by_fine (has_table k t table) NoTable _ second;
          none = last.0;
        },
        last.1,
      )

  written_is : (next : Answer) → Outer → written next ≡ next
  written_is next outer = rw (outer.active, outer.writes, outer.sees, outer.none) refl

  may_write : (key : Value) → Outer → obstacle k t table key ≡ None → MayWrite o h t table key
  may_write key outer none = record {
    active = outer.active;
    writes = outer.writes;
    sees = outer.sees;
    table_free = table_free_from_none o h t table outer.none;
    key_free = free_from_none o h t table key none;
  }

  outer_from : MayBegin o → IsLegal o h → (key : Value) → MayWrite o h t table key → Outer
  outer_from opening legal key may = record {
    active = may.active;
    writes = may.writes;
    sees = may.sees;
    none = none_from_table_free o h t opening legal table may.table_free;
  }

  pub insert_is_fine : MayBegin o → IsLegal o h → (key : Value)
      → (written (cond (has_row k t table key) (No DuplicateKey)
      (past k t (obstacle k t table key) Fine)) ≡ Fine)
      ↔ (MayWrite o h t table key × (row_at (view o h t) table key ≡ None))
  insert_is_fine opening legal key = (forth, back)
    where
      inner : Answer
      inner = past k t (obstacle k t table key) Fine

      forth : written (cond (has_row k t table key) (No DuplicateKey)
          (past k t (obstacle k t table key) Fine)) ≡ Fine
          → MayWrite o h t table key × (row_at (view o h t) table key ≡ None)
      forth is =
          let parts = outer_from_fine _ (sym is) in
          let free : Fine ≡ past k t (obstacle k t table key) Fine =
          fine_by_true (has_row k t table key) DuplicateKey _ parts.1 in
          let none : obstacle k t table key ≡ None =
          (none_from_fine k t (obstacle k t table key) Fine (obstacle_hinders k t table key)
          free).0 in (
            may_write key parts.0 none,
            none_from_false (row_at (view o h t) table key)
                (false_by_fine (has_row k t table key) DuplicateKey _ parts.1),
          )

      back : MayWrite o h t table key × (row_at (view o h t) table key ≡ None)
          → written (cond (has_row k t table key) (No DuplicateKey)
          (past k t (obstacle k t table key) Fine)) ≡ Fine
      back (may, absent) =
          let none : obstacle k t table key ≡ None =
          none_from_free o h t opening legal table key may.key_free in
          let there : has_row k t table key ≡ false = ap is_some absent in
          written_is _ (outer_from opening legal key may) ∙ rw (there, none) refl

  pub give_is_fine : MayBegin o → IsLegal o h → (key : Value)
      → (written (cond (has_row k t table key)
      (past k t (obstacle k t table key) Fine) (No NoRow)) ≡ Fine)
      ↔ (MayWrite o h t table key × IsSome (row_at (view o h t) table key))
  give_is_fine opening legal key = (forth, back)
    where
      forth : written (cond (has_row k t table key)
          (past k t (obstacle k t table key) Fine) (No NoRow)) ≡ Fine
          → MayWrite o h t table key × IsSome (row_at (view o h t) table key)
      forth is =
          let parts = outer_from_fine _ (sym is) in
          let free : Fine ≡ past k t (obstacle k t table key) Fine =
          fine_by_false (has_row k t table key) NoRow _ parts.1 in
          let none : obstacle k t table key ≡ None =
          (none_from_fine k t (obstacle k t table key) Fine (obstacle_hinders k t table key)
          free).0 in (
            may_write key parts.0 none,
            true_by_fine (has_row k t table key) NoRow _ parts.1,
          )

      back : MayWrite o h t table key × IsSome (row_at (view o h t) table key)
          → written (cond (has_row k t table key)
          (past k t (obstacle k t table key) Fine) (No NoRow)) ≡ Fine
      back (may, there) =
          let none : obstacle k t table key ≡ None =
          none_from_free o h t opening legal table key may.key_free in
          let has : has_row k t table key ≡ true = there in
          written_is _ (outer_from opening legal key may) ∙ rw (has, none) refl
