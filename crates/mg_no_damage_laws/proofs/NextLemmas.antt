-- A transaction is taken back over some changes, and then comes the next one: the engine finds no page damaged.
use Rattle.std.proofs.Common.{◌≡◌, ◌⊎◌, ◌≤◌, length, arith, inl, inr, ◌==◌, ◌++◌, ap, refl, sym, subst, ◌∙◌, ℕ, Bool, true, false, ◌&&◌, ◌||◌, List, [], ◌∷◌, Option, None, Some, cond}
use Rattle.std.proofs.lemmas.Bool.{eq-eqb, eqb-true, false≢true}
use Rattle.std.proofs.lemmas.List.{append_assoc}
use Rattle.std.specs.Cmp.Lexicographic.{same_text}
use Rattle.std.specs.Prelude.{if◌then◌else◌, is_some, map}
use Rattle.mg_engine_change_laws.specs.entries.BackEntries.{KeysEnterMidway}
use Rattle.mg_engine_change_laws.specs.keys.WrittenLaws.{kept_itself}
use Rattle.mg_model.specs.declared.table.Index.{Index}
use Rattle.mg_records.specs.Room.{most_indexes}
use Rattle.mg_no_damage_laws.specs.BackTrees.{StandsBack}
use Rattle.mg_no_damage_laws.specs.EntryBacks.{trees_entered}
use Rattle.mg_base.specs.Disk.{Meaning}
use Rattle.mg_base.specs.declared.numbers.TxNo.{TxNo}
use Rattle.mg_core.specs.Cores.{IsCore}
use Rattle.mg_core.specs.Refusing.{CountsFault}
use Rattle.mg_core.specs.declared.parts.Core.{Core}
use Rattle.mg_engine_change_laws.specs.backs.BackBegun.{begun_work, goes, kept_begun, knows, midway, opening}
use Rattle.mg_engine_change_laws.specs.tables_back.EngineOverLaws.{rest_within}
use Rattle.mg_engine_change_laws.specs.backs.Events.{takes_back, undo_is}
use Rattle.mg_engine_change_laws.specs.keys.Keys.{HasTakenKeys, IsOfTable}
use Rattle.mg_engine_change_laws.specs.backs.Known.{KnownOfBacks}
use Rattle.mg_engine_change_laws.specs.backs.Outcomes.{back_event}
use Rattle.mg_engine_change_laws.specs.given_up.Stopped.{each_front}
use Rattle.mg_engine_change_laws.specs.given_up.StopsAfter.{begun_as}
use Rattle.mg_engine_change_laws.specs.backs.ToTake.{AreKeysOf, EachChange, since_if, since_point}
use Rattle.mg_engine_change_laws.specs.keys.WrittenLaws.{first_named}
use Rattle.mg_engine_meaning_laws.specs.Formers.{MayReturn, MayReturnTo}
use Rattle.mg_engine_meaning_laws.specs.KeptLaws.{has_kept}
use Rattle.mg_engine_meaning_laws.specs.Standings.{AreOfKept, AreTold, ShowsIt, StandsFor, asked_in, sessions_in, standing_of}
use Rattle.mg_engine_step_laws.specs.standing.Known.{catalog_is_shown}
use Rattle.mg_engine_step_laws.specs.standing.Standing.{Standing}
use Rattle.mg_model.specs.Answers.{catalog_of, told as told_by}
use Rattle.mg_model.specs.Changes.{has_change, is_at, same_key, same_name}
use Rattle.mg_model.specs.DeedLaws.{deeds_after, deeds_after_entry}
use Rattle.mg_model.specs.Effects.{deeds_back, deeds_left, has_deed}
use Rattle.mg_model.specs.History.{Effect, Entries, Entry, entry}
use Rattle.mg_model.specs.RowLaws.{same_from_same_key}
use Rattle.mg_model.specs.Machine.{changes_in, deeds_by, own, steps}
use Rattle.mg_model.specs.Openings.{everyone}
use Rattle.mg_model.specs.declared.answer.Answer.TheVariants.{Fine}
use Rattle.mg_model.specs.declared.change.Change.{Change}
use Rattle.mg_model.specs.declared.change.Deed.{Deed}
use Rattle.mg_model.specs.declared.change.Deed.TheVariants.{Changed, Marked, Saved}
use Rattle.mg_model.specs.declared.change.Point.{Point}
use Rattle.mg_model.specs.declared.change.Point.TheVariants.{LastMark, SavepointNamed}
use Rattle.mg_model.specs.declared.opening.Opening.{Opening}
use Rattle.mg_model.specs.declared.refusal.Refusal.{Refusal}
use Rattle.mg_model.specs.declared.table.Table.{Table}
use Rattle.mg_overlay_laws.specs.Overlays.{left_state}
use Rattle.mg_pool.specs.Pool.{shown}
use Rattle.mg_pool.specs.declared.fault.PoolFault.TheVariants as pool_faults
use Rattle.mg_space.specs.declared.fault.SpaceFault.{SpaceFault}
use Rattle.mg_space.specs.declared.fault.SpaceFault.TheVariants as faults
use Rattle.mg_taking_back.specs.Changes.{FailsChange, change_not_taken, change_of_none, table_back}
use Rattle.mg_taking_back.specs.Keys.{FailsKey}
use Rattle.mg_taking_back.specs.Taking.{HasBegun, TakesChanges}
use Rattle.mg_txlist.specs.TxList.{said}
use Rattle.mg_undo.specs.Machine.{changes_of, changes_since, given_from, was_given, was_in}
use Rattle.mg_undo.specs.declared.changes.Was.{Was}
use Rattle.mg_undo.specs.Undo.{State as Undo, TakesBack as GivesAll, ends, gives, take_back}
use Rattle.mg_undo.specs.declared.changes.Change.{Change as Kept}
use Rattle.mg_value.specs.declared.value.Value.{Value}
use Rattle.mg_works.specs.Works.{Working, unasked, with_work, written_by, written_in, written_to}
use Rattle.mg_no_damage_laws.specs.BackKeys.{KeysMeetNoDamage, KeysMissNoPage}

-- ---- lists

-- What is given is told by the first of these, and then comes one more.
pub record IsNext (f : Change → Kept) (cs : List Change) (given : List Kept) (change : Kept) : Type 0 where
  pub keys : List Change
  pub c : Change
  pub more : List Change
  pub parts : cs ≡ keys ++ (c ∷ more)
  pub told : given ≡ map f keys
  pub is_ : f c ≡ change

cons_is : (a b : Kept) (xs ys : List Kept) → a ≡ b → xs ≡ ys → a ∷ xs ≡ b ∷ ys
cons_is a b xs ys head tail = λ i. head i ∷ tail i

next_of : (f : Change → Kept) (given rest : List Kept) (change : Kept) (cs : List Change)
    → given ++ (change ∷ rest) ≡ map f cs → IsNext f cs given change
next_of f [] rest change [] is = absurd cc
next_of f [] rest change (c ∷ cs) is =
    let head : f c ≡ change = cc in
    record { keys = []; c = c; more = cs; parts = refl; told = refl; is_ = head }
next_of f (g ∷ given) rest change [] is = absurd cc
next_of f (g ∷ given) rest change (x ∷ cs) is =
    let head : g ≡ f x = cc in
    let tail : given ++ (change ∷ rest) ≡ map f cs = cc in
    let its : IsNext f cs given change = next_of f given rest change cs tail in record {
      keys = x ∷ its.keys;
      c = its.c;
      more = its.more;
      parts = ap (λ (xs : List Change). x ∷ xs) its.parts;
      told = cons_is g (f x) given (map f its.keys) head its.told;
      is_ = its.is_;
    }

each_at : (P : Change → Type 0) (keys more : List Change) (c : Change) → EachChange P (keys ++ (c ∷ more)) → P c
each_at P [] more c each = each.0
each_at P (k ∷ keys) more c each = each_at P keys more c each.1

-- the one that is given next comes first of all that would be given
pub given_next : (left end : Undo) (given : List Kept) (change : Kept) → (take_back left).given ≡ Some change
    → GivesAll left given end → (more : List Kept) × (given ≡ change ∷ more)
given_next left end given change next (ends none after) =
    let both : None ≡ Some change = sym none ∙ next in absurd cc
given_next left end given change next (gives {given = rest} c some more) =
    let both : Some c ≡ Some change = sym some ∙ next in
    let same : c ≡ change = cc in (rest, ap (λ (k : Kept). k ∷ rest) same)

-- ---- tables

-- where the catalog does not begin at a page, the table is one that the transaction keeps
kept_back : (first number : ℕ) (catalog : Table) (kept found : Option Table) → (first ≡ number → ⊥)
    → (if first == number then Some catalog else kept) ≡ found → kept ≡ found
kept_back first number catalog kept found apart is = at (first == number) refl is
  where
    at : (b : Bool) → (first == number) ≡ b → (if b then Some catalog else kept) ≡ found → kept ≡ found
    at true same is_ = absurd (apart (eqb-true first number same))
    at false off is_ = is_

both_true : (a b : Bool) → (a && b) ≡ true → (a ≡ true) × (b ≡ true)
both_true true true is = (refl, refl)
both_true true false is = absurd cc
both_true false b is = absurd cc

kept_one_of : (catalog n : ℕ) (kept : Option Table) (key : Value) (was : Was)
    → (n ≡ catalog) ⊎ MayReturnTo kept key was → (n ≡ catalog) ⊎ (is_some kept ≡ true)
kept_one_of catalog n kept key was (inl same) = inl same
kept_one_of catalog n kept key was (inr returns) = inr (has_kept kept key was returns)

-- the first change of a key since a point found what is left there
was_left : (point : Point) (deeds : List Deed) (name : List ℕ) (key : Value) → has_deed point deeds ≡ true
    → has_change (changes_since point deeds) name key ≡ false
    → was_in (changes_in deeds) name key ≡ was_in (changes_in (deeds_back point deeds)) name key
was_left point [] name key there off = absurd (false≢true there)
was_left LastMark (Changed c ∷ deeds) name key there off =
    at (is_at c name key) off (λ off_. was_left LastMark deeds name key there off_)
  where
    at : (b : Bool) → (if b then true else has_change (changes_since LastMark deeds) name key) ≡ false
        → (has_change (changes_since LastMark deeds) name key ≡ false
        → was_in (changes_in deeds) name key ≡ was_in (changes_in (deeds_back LastMark deeds)) name key)
        → (if b then was_given c.row else was_in (changes_in deeds) name key)
        ≡ was_in (changes_in (deeds_back LastMark deeds)) name key
    at true off_ later = absurd (false≢true (sym off_))
    at false off_ later = later off_
was_left LastMark (Marked ∷ deeds) name key there off = refl
was_left LastMark (Saved saved ∷ deeds) name key there off = was_left LastMark deeds name key there off
was_left (SavepointNamed its) (Changed c ∷ deeds) name key there off =
    at (is_at c name key) off (λ off_. was_left (SavepointNamed its) deeds name key there off_)
  where
    at : (b : Bool) → (if b then true else has_change (changes_since (SavepointNamed its) deeds) name key) ≡ false
        → (has_change (changes_since (SavepointNamed its) deeds) name key ≡ false
        → was_in (changes_in deeds) name key ≡ was_in (changes_in (deeds_back (SavepointNamed its) deeds)) name key)
        → (if b then was_given c.row else was_in (changes_in deeds) name key)
        ≡ was_in (changes_in (deeds_back (SavepointNamed its) deeds)) name key
    at true off_ later = absurd (false≢true (sym off_))
    at false off_ later = later off_
was_left (SavepointNamed its) (Marked ∷ deeds) name key there off = was_left (SavepointNamed its) deeds name key there off
was_left (SavepointNamed its) (Saved saved ∷ deeds) name key there off =
    at (same_name its saved) there off
    (λ there_ off_. was_left (SavepointNamed its) deeds name key there_ off_)
  where
    at : (b : Bool) → (b || has_deed (SavepointNamed its) deeds) ≡ true
        → has_change (if b then [] else changes_since (SavepointNamed its) deeds) name key ≡ false
        → (has_deed (SavepointNamed its) deeds ≡ true
        → has_change (changes_since (SavepointNamed its) deeds) name key ≡ false
        → was_in (changes_in deeds) name key
        ≡ was_in (changes_in (deeds_back (SavepointNamed its) deeds)) name key)
        → was_in (changes_in deeds) name key ≡ was_in (changes_in (cond b (Saved saved ∷ deeds)
        (deeds_back (SavepointNamed its) deeds))) name key
    at true there_ off_ later = refl
    at false there_ off_ later = later there_ off_

-- what was left of a key that was changed since a point may come back to the table that is kept
returns_since : (catalog : ℕ) (written : List Table) (number : List ℕ → ℕ) (point : Point) (deeds : List Deed)
    (name : List ℕ) (key : Value) → has_deed point deeds ≡ true
    → has_change (changes_since point deeds) name key ≡ true → AreOfKept catalog written (changes_of number deeds)
    → (number name ≡ catalog) ⊎ MayReturnTo (written_in written (number name)) key
    (was_in (changes_in (deeds_back point deeds)) name key)
returns_since catalog written number point [] name key there has_ are = absurd (false≢true has_)
returns_since catalog written number LastMark (Changed c ∷ deeds) name key there has_ are =
    on (has_change (changes_since LastMark deeds) name key) refl
    (λ later. returns_since catalog written number LastMark deeds name key there later are.1)
  where
    here : has_change (changes_since LastMark deeds) name key ≡ false → (b : Bool) → is_at c name key ≡ b
        → (if b then true else has_change (changes_since LastMark deeds) name key) ≡ true
        → (number name ≡ catalog) ⊎ MayReturnTo (written_in written (number name)) key
        (was_in (changes_in (deeds_back LastMark deeds)) name key)
    here off false is it = absurd (false≢true (sym off ∙ it))
    here off true is it =
        let parts = both_true (same_name c.table name) (same_key c.key key) is in
        subst (λ (w : Was). (number name ≡ catalog) ⊎ MayReturnTo (written_in written (number name)) key w)
        (was_left LastMark deeds name key there off)
        (subst (λ (k : Value). (number name ≡ catalog) ⊎ MayReturnTo (written_in written (number name)) k
        (was_in (changes_in deeds) name k)) (same_from_same_key c.key key parts.1)
        (subst (λ (n : List ℕ). (number n ≡ catalog) ⊎ MayReturnTo (written_in written (number n)) c.key
        (was_in (changes_in deeds) n c.key)) (same_text c.table name (sym parts.0)) are.0))

    on : (b : Bool) → has_change (changes_since LastMark deeds) name key ≡ b
        → (has_change (changes_since LastMark deeds) name key ≡ true
        → (number name ≡ catalog) ⊎ MayReturnTo (written_in written (number name)) key
        (was_in (changes_in (deeds_back LastMark deeds)) name key))
        → (number name ≡ catalog) ⊎ MayReturnTo (written_in written (number name)) key
        (was_in (changes_in (deeds_back LastMark deeds)) name key)
    on true there_ later = later there_
    on false off later = here off (is_at c name key) refl has_
returns_since catalog written number LastMark (Marked ∷ deeds) name key there has_ are = absurd (false≢true has_)
returns_since catalog written number LastMark (Saved saved ∷ deeds) name key there has_ are =
    returns_since catalog written number LastMark deeds name key there has_ are
returns_since catalog written number (SavepointNamed its) (Changed c ∷ deeds) name key there has_ are =
    on (has_change (changes_since (SavepointNamed its) deeds) name key) refl
    (λ later. returns_since catalog written number (SavepointNamed its) deeds name key there later are.1)
  where
    here : has_change (changes_since (SavepointNamed its) deeds) name key ≡ false → (b : Bool) → is_at c name key ≡ b
        → (if b then true else has_change (changes_since (SavepointNamed its) deeds) name key) ≡ true
        → (number name ≡ catalog) ⊎ MayReturnTo (written_in written (number name)) key
        (was_in (changes_in (deeds_back (SavepointNamed its) deeds)) name key)
    here off false is it = absurd (false≢true (sym off ∙ it))
    here off true is it =
        let parts = both_true (same_name c.table name) (same_key c.key key) is in
        subst (λ (w : Was). (number name ≡ catalog) ⊎ MayReturnTo (written_in written (number name)) key w)
        (was_left (SavepointNamed its) deeds name key there off)
        (subst (λ (k : Value). (number name ≡ catalog) ⊎ MayReturnTo (written_in written (number name)) k
        (was_in (changes_in deeds) name k)) (same_from_same_key c.key key parts.1)
        (subst (λ (n : List ℕ). (number n ≡ catalog) ⊎ MayReturnTo (written_in written (number n)) c.key
        (was_in (changes_in deeds) n c.key)) (same_text c.table name (sym parts.0)) are.0))

    on : (b : Bool) → has_change (changes_since (SavepointNamed its) deeds) name key ≡ b
        → (has_change (changes_since (SavepointNamed its) deeds) name key ≡ true
        → (number name ≡ catalog) ⊎ MayReturnTo (written_in written (number name)) key
        (was_in (changes_in (deeds_back (SavepointNamed its) deeds)) name key))
        → (number name ≡ catalog) ⊎ MayReturnTo (written_in written (number name)) key
        (was_in (changes_in (deeds_back (SavepointNamed its) deeds)) name key)
    on true there_ later = later there_
    on false off later = here off (is_at c name key) refl has_
returns_since catalog written number (SavepointNamed its) (Marked ∷ deeds) name key there has_ are =
    returns_since catalog written number (SavepointNamed its) deeds name key there has_ are
returns_since catalog written number (SavepointNamed its) (Saved saved ∷ deeds) name key there has_ are =
    at (same_name its saved) there has_
    (λ there_ it. returns_since catalog written number (SavepointNamed its) deeds name key there_ it are)
  where
    at : (b : Bool) → (b || has_deed (SavepointNamed its) deeds) ≡ true
        → has_change (if b then [] else changes_since (SavepointNamed its) deeds) name key ≡ true
        → (has_deed (SavepointNamed its) deeds ≡ true
        → has_change (changes_since (SavepointNamed its) deeds) name key ≡ true
        → (number name ≡ catalog) ⊎ MayReturnTo (written_in written (number name)) key
        (was_in (changes_in (deeds_back (SavepointNamed its) deeds)) name key))
        → (number name ≡ catalog) ⊎ MayReturnTo (written_in written (number name)) key (was_in (changes_in
        (cond b (Saved saved ∷ deeds) (deeds_back (SavepointNamed its) deeds))) name key)
    at true there_ it later = absurd (false≢true it)
    at false there_ it later = later there_ it

told_returns : (catalog : ℕ) (written : List Table) (number : List ℕ → ℕ) (point : Point) (deeds : List Deed)
    (name : List ℕ) (key : Value) → has_change (since_point point deeds) name key ≡ true
    → AreOfKept catalog written (changes_of number deeds)
    → (number name ≡ catalog) ⊎ MayReturnTo (written_in written (number name)) key
    (was_in (changes_in (deeds_left point deeds)) name key)
told_returns catalog written number point deeds name key has_ are = at (has_deed point deeds) refl has_
  where
    at : (b : Bool) → has_deed point deeds ≡ b → has_change (since_if b point deeds) name key ≡ true
        → (number name ≡ catalog) ⊎ MayReturnTo (written_in written (number name)) key
        (was_in (changes_in (cond b (deeds_back point deeds) deeds)) name key)
    at true there it = returns_since catalog written number point deeds name key there it are
    at false off it = absurd (false≢true it)

-- the table of a change among deeds is the catalog, or kept
told_there : (catalog : ℕ) (written : List Table) (number : List ℕ → ℕ) (deeds : List Deed) (name : List ℕ)
    (key : Value) → has_change (changes_in deeds) name key ≡ true
    → AreOfKept catalog written (changes_of number deeds)
    → (number name ≡ catalog) ⊎ (is_some (written_in written (number name)) ≡ true)
told_there catalog written number [] name key has_ are = absurd (false≢true has_)
told_there catalog written number (Changed c ∷ deeds) name key has_ are =
    at (same_name c.table name) (same_key c.key key) refl has_
    (λ more. told_there catalog written number deeds name key more are.1)
  where
    at : (a b : Bool) → same_name c.table name ≡ a
        → (if a && b then true else has_change (changes_in deeds) name key) ≡ true
        → (has_change (changes_in deeds) name key ≡ true
        → (number name ≡ catalog) ⊎ (is_some (written_in written (number name)) ≡ true))
        → (number name ≡ catalog) ⊎ (is_some (written_in written (number name)) ≡ true)
    at true true same has_it later = subst (λ (n : List ℕ). (number n ≡ catalog)
        ⊎ (is_some (written_in written (number n)) ≡ true)) (same_text c.table name (sym same)) (kept_one_of catalog (number c.table) (written_in written (number c.table)) c.key
        (was_in (changes_in deeds) c.table c.key) are.0)
    at true false same has_it later = later has_it
    at false b off has_it later = later has_it
told_there catalog written number (Marked ∷ deeds) name key has_ are =
    told_there catalog written number deeds name key has_ are
told_there catalog written number (Saved saved ∷ deeds) name key has_ are =
    told_there catalog written number deeds name key has_ are

-- ---- the next change

module _ {D P : Type 0} (m : Meaning D) (known : KnownOfBacks D P m) (law : KeysMeetNoDamage D m)
    (missing : KeysMissNoPage D m) (old begun stopped : Core D) (t : TxNo) (point : Point) (undo : Undo)
    (core : IsCore m old) (has_begun : HasBegun old begun t.0 undo) (o : Opening) (h : Entries)
    (stands : StandsFor m old o h) (shows : ShowsIt m old o h (standing_of old stands.numbers stands.tables)) where
  abbrev e : Entry
  e = entry (back_event t point) Fine

  abbrev s : Standing
  s = standing_of old stands.numbers stands.tables

  abbrev whole : List Change
  whole = since_point point (deeds_by t.0 (steps o h))

  abbrev works : List Working
  works = with_work t.0 unasked old.works

  abbrev told : Change → Kept
  told = given_from (stands.numbers t.0) (own o (entry (back_event t point) Fine ∷ h) t.0)

  module _ (at_core : Core D) (keys more : List Change) (c : Change)
      (taken : HasTakenKeys m old.store.geometry.size o h e t.0 whole whole keys (c ∷ more) s old.store old.store
      (shown old.store.dirty shows.image) shows.stands.shows shows.image
      (asked_in (with_work t.0 unasked old.works)) (sessions_in old.works) (begun_as old begun t.0) at_core)
      (of : IsOfTable o h t.0 c) where
    not_catalog : old.catalog.pointer.0 ≡ stands.numbers t.0 c.table → ⊥
    not_catalog same = of.other (sym (first_named old.store.geometry.size (left_state everyone s.state)
        (shown at_core.store.dirty taken.image) taken.midway.pages.layout taken.midway.pages.reading
        taken.midway.pages.sound c.table (stands.numbers t.0 c.table) taken.midway.pages.layout.catalog.table
        ((taken.midway.pages.tables t.0 has_begun.continues.1).changed c.table c.key of.made)
        (catalog_is_shown taken.midway.pages.layout)
        (ap (λ (x : Table). x.pointer.0) taken.midway.pages.sound.catalog ∙ (sym taken.catalog ∙ same)))
        ∙ ap (λ (x : Table). x.name) taken.midway.pages.sound.catalog)

    -- the table of the change is kept
    kept_told : AreOfKept old.catalog.pointer.0 has_begun.its.0.written
        (changes_of (stands.numbers t.0) (deeds_by t.0 (steps o h)))
    kept_told = subst (λ (u : Undo). AreOfKept old.catalog.pointer.0 has_begun.its.0.written u.changes)
        (has_begun.its.2 ∙ undo_is m old t point undo has_begun.continues has_begun.its o h stands)
        (subst (AreTold old.catalog.pointer.0) (begun_work m known old begun t point undo core has_begun o h stands shows)
        ((kept_begun m known old begun t point undo core has_begun o h stands shows).told t.0))

    its_kept : is_some (written_to works t.0 (stands.numbers t.0 c.table)) ≡ true
    its_kept = ap (λ (w : Option Working). is_some (written_by w (stands.numbers t.0 c.table)))
        (begun_work m known old begun t point undo core has_begun o h stands shows)
        ∙ at (told_there old.catalog.pointer.0 has_begun.its.0.written (stands.numbers t.0)
        (deeds_by t.0 (steps o h)) c.table c.key of.made kept_told)
      where
        at : (stands.numbers t.0 c.table ≡ old.catalog.pointer.0)
            ⊎ (is_some (written_in has_begun.its.0.written (stands.numbers t.0 c.table)) ≡ true)
            → is_some (written_in has_begun.its.0.written (stands.numbers t.0 c.table)) ≡ true
        at (inl same) = absurd (not_catalog (sym same))
        at (inr is) = is

    -- and what was may come back to it
    its_change : has_change (since_point point (deeds_by t.0 (steps o h))) c.table c.key ≡ true
    its_change = rest_within m old.store.geometry.size o h e t.0 s shows.stands.shows.versions.speaker keys whole
        taken.rest old.store at_core.store shows.image taken.image taken.steps c.table c.key taken.to_come.each.0

    its_returns : (table : Table) → written_to works t.0 (stands.numbers t.0 c.table) ≡ Some table
        → MayReturn table.shape c.key (was_in (own o (entry (back_event t point) Fine ∷ h) t.0) c.table c.key)
    its_returns table kept = subst (λ (x : Option Table). MayReturnTo x c.key
        (was_in (own o (entry (back_event t point) Fine ∷ h) t.0) c.table c.key))
        (sym (ap (λ (w : Option Working). written_by w (stands.numbers t.0 c.table))
        (begun_work m known old begun t point undo core has_begun o h stands shows)) ∙ kept)
        (at (told_returns old.catalog.pointer.0 has_begun.its.0.written (stands.numbers t.0) point
        (deeds_by t.0 (steps o h)) c.table c.key its_change kept_told))
      where
        left_is : deeds_by t.0 (steps o (entry (back_event t point) Fine ∷ h)) ≡ deeds_left point (deeds_by t.0 (steps o h))
        left_is = deeds_after_entry o h (entry (back_event t point) Fine) t.0
            ∙ (ap (λ (f : Effect). deeds_after f t.0 (catalog_of (told_by o h) t.0) (deeds_by t.0 (steps o h)))
            (takes_back t point) ∙ rw (eq-eqb t.0 t.0 refl) refl)

        at : (stands.numbers t.0 c.table ≡ old.catalog.pointer.0)
            ⊎ MayReturnTo (written_in has_begun.its.0.written (stands.numbers t.0 c.table)) c.key
            (was_in (changes_in (deeds_left point (deeds_by t.0 (steps o h)))) c.table c.key)
            → MayReturnTo (written_in has_begun.its.0.written (stands.numbers t.0 c.table)) c.key
            (was_in (own o (entry (back_event t point) Fine ∷ h) t.0) c.table c.key)
        at (inl same) = absurd (not_catalog (sym same))
        at (inr returns) = subst (λ (ds : List Deed).
            MayReturnTo (written_in has_begun.its.0.written (stands.numbers t.0 c.table)) c.key
            (was_in (changes_in ds) c.table c.key)) (sym left_is) returns

    -- so it is not taken back by a fault that is no damage
    fault_stays : (after : Core D) (fault : SpaceFault) (table : Table)
        → written_to works t.0 (stands.numbers t.0 c.table) ≡ Some table
        → FailsKey m at_core.store after.store (said old.list) old.live t.0 table c.key
        (was_in (own o (entry (back_event t point) Fine ∷ h) t.0) c.table c.key) fault → (shortages : ℕ)
        → CountsFault fault old.damage after.damage old.shortages shortages → after.damage ≡ old.damage
    fault_stays after (faults.Full limit) table kept fails shortages counts = counts.0
    fault_stays after (faults.Damaged it) table kept fails shortages counts = absurd (law old.store.geometry.size o h e
        t.0 whole taken.rest s old.store at_core.store after.store (shown old.store.dirty shows.image)
        shows.stands.shows taken.image (asked_in (with_work t.0 unasked old.works)) (sessions_in old.works)
        taken.midway point (opening m known old begun t point undo core has_begun o h stands shows) shows.stands.legal
        shows.stands.memory (goes m known old begun t point undo core has_begun o h stands shows) old.catalog.pointer.0 works
        (kept_begun m known old begun t point undo core has_begun o h stands shows) taken.knows c taken.to_come.each.0
        of.made table kept (was_in (own o (entry (back_event t point) Fine ∷ h) t.0) c.table c.key)
        (its_returns table kept) it fails)
    fault_stays after (faults.Pool (pool_faults.DiskRead n)) table kept fails shortages counts = counts.0
    fault_stays after (faults.Pool (pool_faults.DiskWrite n)) table kept fails shortages counts = counts.0
    fault_stays after (faults.Pool (pool_faults.Offline n)) table kept fails shortages counts = counts.0
    fault_stays after (faults.Pool (pool_faults.Absent n)) table kept fails shortages counts =
        absurd (missing at_core.store after.store (said old.list) old.live t.0 table c.key
        (was_in (own o (entry (back_event t point) Fine ∷ h) t.0) c.table c.key) n fails)
    fault_stays after (faults.Pool pool_faults.Memory) table kept fails shortages counts = counts.0

    -- the trees of its table stand before what was comes back, and they are few
    module _ (enter : KeysEnterMidway D m) where
      kept_of : (table : Table) → table_back old.catalog works t.0 (stands.numbers t.0 c.table) ≡ Some table
          → written_to works t.0 (stands.numbers t.0 c.table) ≡ Some table
      kept_of table found = kept_back old.catalog.pointer.0 (stands.numbers t.0 c.table) old.catalog
          (written_to works t.0 (stands.numbers t.0 c.table)) (Some table) not_catalog found

      stands_back : StandsBack m (record (begun_as old begun t.0) { store = at_core.store }) t.0
          (given_from (stands.numbers t.0) (own o (entry (back_event t point) Fine ∷ h) t.0) c)
      stands_back = record {
        few = λ table found. subst (λ (xs : List Index). length xs ≤ most_indexes)
            (sym (taken.knows.plain.each everyone taken.midway.pages.layout taken.midway.pages.reading
            taken.midway.pages.sound table (kept_itself o h s t.0 taken.midway.pages.layout old.catalog.pointer.0 works
            (taken.midway.pages.tables t.0 has_begun.continues.1)
            (kept_begun m known old begun t point undo core has_begun o h stands shows) (stands.numbers t.0 c.table) table
            (kept_of table found))).no_index) (omega arith);
        trees = λ table found rec ready same online own_at row front later store parts laid.
            trees_entered m old.store.geometry.size o h e t.0 whole taken.rest s old.store ready store
            (shown old.store.dirty shows.image) shows.stands.shows taken.image
            (asked_in (with_work t.0 unasked old.works)) (sessions_in old.works) table c.key rec front row
            (enter old.store.geometry.size o h e point t.0 whole taken.rest s old.store at_core.store ready store
            (shown old.store.dirty shows.image) shows.stands.shows taken.image
            (asked_in (with_work t.0 unasked old.works)) (sessions_in old.works)
            (opening m known old begun t point undo core has_begun o h stands shows) shows.stands.legal
            shows.stands.memory (goes m known old begun t point undo core has_begun o h stands shows)
            old.catalog.pointer.0 works (kept_begun m known old begun t point undo core has_begun o h stands shows)
            (stands.numbers t.0 c.table) table (kept_of table found) taken.midway taken.knows c.key rec
            (own_at taken.image taken.knows.tells) same online.1 front later parts row laid);
      }

    fails_stay : (refusal : Refusal)
        → FailsChange m (record (begun_as old begun t.0) { store = at_core.store }) stopped t.0
        (given_from (stands.numbers t.0) (own o (entry (back_event t point) Fine ∷ h) t.0) c) refusal
        → stopped.damage ≡ old.damage
    fails_stay refusal (change_of_none none counts) = absurd (false≢true (sym (ap is_some
        (kept_back old.catalog.pointer.0 (stands.numbers t.0 c.table) old.catalog
        (written_to works t.0 (stands.numbers t.0 c.table)) None not_catalog none)) ∙ its_kept))
    fails_stay refusal (change_not_taken table fails) = fault_stays stopped fails.fault table
        (kept_back old.catalog.pointer.0 (stands.numbers t.0 c.table) old.catalog
        (written_to works t.0 (stands.numbers t.0 c.table)) (Some table) not_catalog fails.found) fails.fails
        stopped.shortages fails.counts

  -- ---- once some of these were taken back

  module _ (cs rows : List Change) (each : EachChange (IsOfTable o h t.0) cs)
      (are : AreKeysOf (cs ++ rows) (since_point point (deeds_by t.0 (steps o h)))) (at_core : Core D)
      (given rest : List Kept) (change : Kept)
      (told_is : given ++ (change ∷ rest)
      ≡ map (given_from (stands.numbers t.0) (own o (entry (back_event t point) Fine ∷ h) t.0)) cs)
      (takes : TakesChanges m t.0 (begun_as old begun t.0) given at_core) where
    its : IsNext (given_from (stands.numbers t.0) (own o (entry (back_event t point) Fine ∷ h) t.0)) cs given change
    its = next_of told given rest change cs told_is

    left_keys : AreKeysOf (its.keys ++ (its.c ∷ (its.more ++ rows))) (since_point point (deeds_by t.0 (steps o h)))
    left_keys = subst (λ (xs : List Change). AreKeysOf xs (since_point point (deeds_by t.0 (steps o h))))
        (append_assoc its.keys (its.c ∷ its.more) rows)
        (subst (λ (xs : List Change). AreKeysOf (xs ++ rows) (since_point point (deeds_by t.0 (steps o h)))) its.parts are)

    has_taken : HasTakenKeys m old.store.geometry.size o h e t.0 whole whole its.keys (its.c ∷ (its.more ++ rows)) s
        old.store old.store (shown old.store.dirty shows.image) shows.stands.shows shows.image
        (asked_in (with_work t.0 unasked old.works)) (sessions_in old.works) (begun_as old begun t.0) at_core
    has_taken = known.takes_all (begun_as old begun t.0) (begun_as old begun t.0) at_core s old.store.geometry.size o h e
        point t.0 whole whole its.keys (its.c ∷ (its.more ++ rows)) old.store old.store
        (shown old.store.dirty shows.image) shows.stands.shows shows.image
        (asked_in (with_work t.0 unasked old.works)) (sessions_in old.works) refl refl
        (opening m known old begun t point undo core has_begun o h stands shows) shows.stands.legal shows.stands.memory
        (goes m known old begun t point undo core has_begun o h stands shows)
        (kept_begun m known old begun t point undo core has_begun o h stands shows)
        (each_front (IsOfTable o h t.0) its.keys (its.c ∷ its.more) (subst (EachChange (IsOfTable o h t.0)) its.parts each))
        left_keys refl (subst (λ (ks : List Kept). TakesChanges m t.0 (begun_as old begun t.0) ks at_core) its.told takes)
        (midway m known old begun t point undo core has_begun o h stands shows)
        (knows m known old begun t point undo core has_begun o h stands shows) shows.catalog

    pub change_stays : (refusal : Refusal) → FailsChange m at_core stopped t.0 change refusal
        → stopped.damage ≡ old.damage
    change_stays refusal fails = fails_stay at_core its.keys (its.more ++ rows) its.c has_taken
        (each_at (IsOfTable o h t.0) its.keys its.more its.c (subst (EachChange (IsOfTable o h t.0)) its.parts each))
        refusal (subst (λ (x : Kept). FailsChange m (record (begun_as old begun t.0) { store = at_core.store }) stopped
        t.0 x refusal) (sym its.is_) (subst (λ (x : Core D). FailsChange m x stopped t.0 change refusal) has_taken.same
        fails))

    pub change_stands : KeysEnterMidway D m → StandsBack m at_core t.0 change
    change_stands enter = subst (λ (x : Kept). StandsBack m at_core t.0 x) its.is_
        (subst (λ (x : Core D). StandsBack m x t.0
        (given_from (stands.numbers t.0) (own o (entry (back_event t point) Fine ∷ h) t.0) its.c)) (sym has_taken.same)
        (stands_back at_core its.keys (its.more ++ rows) its.c has_taken
        (each_at (IsOfTable o h t.0) its.keys its.more its.c (subst (EachChange (IsOfTable o h t.0)) its.parts each))
        enter))
