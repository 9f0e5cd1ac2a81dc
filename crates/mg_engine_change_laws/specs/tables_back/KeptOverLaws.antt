-- What a transaction keeps for taking back, once tables that it had made are gone: each change that is left is one of the
-- catalog, or of a table that is still kept.
use Rattle.std.proofs.Common.{◌≡◌, ◌≢◌, ◌⊎◌, inl, inr, ◌∙◌, ◌==◌, ℕ, Bool, true, false, List, [], ◌∷◌, Option, None, Some, ap, cond, not, refl, subst, sym}
use Rattle.std.specs.Prelude.{if◌then◌else◌, is_some}
use Rattle.std.specs.Cmp.Lexicographic.{same_text}
use Rattle.std.proofs.lemmas.Bool.{false≢true}
use Rattle.mg_base.specs.declared.transaction.TxState.TheVariants.{Active}
use Rattle.mg_value.specs.declared.value.Value.{Value}
use Rattle.mg_model.specs.declared.change.Change.{Change}
use Rattle.mg_model.specs.declared.change.Deed.{Deed}
use Rattle.mg_model.specs.declared.change.Deed.TheVariants.{Changed, Marked, Saved}
use Rattle.mg_model.specs.declared.change.Point.{Point}
use Rattle.mg_model.specs.declared.opening.Opening.{Opening}
use Rattle.mg_model.specs.declared.table.Table.{Table}
use Rattle.mg_model.specs.Catalog.{catalog_name, table_key}
use Rattle.mg_model.specs.Changes.{has_change, is_at, same_name}
use Rattle.mg_model.specs.History.{Entries, Entry, TakesBack, effect_of}
use Rattle.mg_model.specs.Legal.{IsLegal, MayBegin}
use Rattle.mg_model.specs.Machine.{changes_in, deeds_by, own, state_of, steps}
use Rattle.mg_model.specs.Openings.{everyone}
use Rattle.mg_model.specs.ReadLaws.{is_at_itself, same_name_itself}
use Rattle.mg_image.specs.Form.{Pages, packed_form}
use Rattle.mg_image.specs.Histories.{newest_at}
use Rattle.mg_image.specs.Records as records
use Rattle.mg_image.specs.Records.{Reading}
use Rattle.mg_image.specs.Sound.{IsSoundBy}
use Rattle.mg_image.specs.Tables.{Layout}
use Rattle.mg_image_overlay_laws.specs.tables.TableOwners.{IsOneOf}
use Rattle.mg_overlay_laws.specs.Overlays.{left_state}
use Rattle.mg_undo.specs.Machine.{changes_of, was_in}
use Rattle.mg_undo.specs.declared.changes.Was.{Was}
use Rattle.mg_undo.specs.Whole.{is_one_of}
use Rattle.mg_works.specs.Works.{Working, tables_left, work_of, written_in}
use Rattle.mg_grown_catalog_laws.specs.Grown.{CatalogGrows}
use Rattle.mg_engine_step_laws.specs.standing.Standing.{FindsTables, Standing}
use Rattle.mg_engine_meaning_laws.specs.Formers.{MayReturnTo}
use Rattle.mg_engine_meaning_laws.specs.Standings.{AreOfKept, KeepsWritten, written_kept}
use Rattle.mg_engine_step_laws.specs.backs.Again.{AreTaken}
use Rattle.mg_engine_step_laws.specs.standing.OwnChains.{change_there, none_second}
use Rattle.mg_engine_step_laws.specs.tables_back.ChangedTables.{NoneOfGone}
use Rattle.mg_engine_step_laws.specs.tables_back.Outs.{is_among}
use Rattle.mg_engine_step_laws.specs.tables_back.TablesBack.{AreRowsLeft}
use Rattle.mg_engine_change_laws.specs.keys.WrittenLaws.{first_in, first_named, one_in, one_stands}
use Rattle.mg_engine_change_laws.specs.tables_back.RowsGivenLaws.{one_test}

-- ---- tables that are left

-- one that is left was there, and its row does not go
pub left_one : (keys : List Value) (tables : List Table) (table : Table) → IsOneOf (tables_left keys tables) table
    → IsOneOf tables table × (is_one_of keys (table_key table.name) ≡ false)
left_one keys [] table one = absurd one
left_one keys (x ∷ xs) table one = at (is_one_of keys (table_key x.name)) refl one (left_one keys xs table)
  where
    at : (b : Bool) → is_one_of keys (table_key x.name) ≡ b
        → IsOneOf (cond (not b) (x ∷ tables_left keys xs) (tables_left keys xs)) table
        → (IsOneOf (tables_left keys xs) table
        → IsOneOf xs table × (is_one_of keys (table_key table.name) ≡ false))
        → IsOneOf (x ∷ xs) table × (is_one_of keys (table_key table.name) ≡ false)
    at true goes one_ more = let there = more one_ in (inr there.0, there.1)
    at false stays (inl same) more =
        (inl same, ap (λ (y : Table). is_one_of keys (table_key y.name)) (sym same) ∙ stays)
    at false stays (inr later) more = let there = more later in (inr there.0, there.1)

-- the first of a number is left if its row does not go, so it is the first of the number then
first_left : (keys : List Value) (tables : List Table) (number : ℕ) (table : Table)
    → written_in tables number ≡ Some table → is_one_of keys (table_key table.name) ≡ false
    → written_in (tables_left keys tables) number ≡ Some table
first_left keys [] number table is stays = absurd cc
first_left keys (x ∷ xs) number table is stays =
    at (x.pointer.0 == number) refl is (λ more. first_left keys xs number table more stays)
  where
    left_first : (b : Bool) → b ≡ false → (x.pointer.0 == number) ≡ true
        → written_in (cond (not b) (x ∷ tables_left keys xs) (tables_left keys xs)) number ≡ Some x
    left_first true goes on = absurd (false≢true (sym goes))
    left_first false stays_ on =
        ap (λ (c : Bool). if c then Some x else written_in (tables_left keys xs) number) on

    left_behind : (b : Bool) → (x.pointer.0 == number) ≡ false
        → written_in (tables_left keys xs) number ≡ Some table
        → written_in (cond (not b) (x ∷ tables_left keys xs) (tables_left keys xs)) number ≡ Some table
    left_behind true off there = there
    left_behind false off there =
        ap (λ (c : Bool). if c then Some x else written_in (tables_left keys xs) number) off ∙ there

    at : (c : Bool) → (x.pointer.0 == number) ≡ c → (if c then Some x else written_in xs number) ≡ Some table
        → (written_in xs number ≡ Some table → written_in (tables_left keys xs) number ≡ Some table)
        → written_in (tables_left keys (x ∷ xs)) number ≡ Some table
    at true on some more =
        let same : x ≡ table = cc in
        left_first (is_one_of keys (table_key x.name))
        (ap (λ (y : Table). is_one_of keys (table_key y.name)) same ∙ stays) on ∙ some
    at false off some more = left_behind (is_one_of keys (table_key x.name)) off (more some)

-- ---- changes that are left

-- A change of the catalog, or of a table whose row does not go where it is kept.
abbrev StaysKept : ℕ → List Table → List Value → ℕ → Type 0
StaysKept catalog written keys number = (number ≡ catalog)
    ⊎ ((x : Table) → IsOneOf written x → x.pointer.0 ≡ number → is_one_of keys (table_key x.name) ≡ false)

module _ (catalog : ℕ) (written : List Table) (keys : List Value) (number : List ℕ → ℕ) where
  one_kept : (n : ℕ) (key : Value) (was : Was) → StaysKept catalog written keys n
      → (n ≡ catalog) ⊎ MayReturnTo (written_in written n) key was
      → (n ≡ catalog) ⊎ MayReturnTo (written_in (tables_left keys written) n) key was
  one_kept n key was (inl its) kept = inl its
  one_kept n key was (inr stays) (inl its) = inl its
  one_kept n key was (inr stays) (inr may) = inr (at (written_in written n) refl may)
    where
      at : (x : Option Table) → written_in written n ≡ x → MayReturnTo x key was
          → MayReturnTo (written_in (tables_left keys written) n) key was
      at None is may_ = absurd may_
      at (Some x) is may_ = subst (λ (y : Option Table). MayReturnTo y key was) (sym (first_left keys written n x is
          (stays x (one_in written n x is) (first_in written n x is)))) may_

  kept_left : (deeds : List Deed) → AreOfKept catalog written (changes_of number deeds)
      → ((name : List ℕ) (key : Value) → has_change (changes_in deeds) name key ≡ true
      → StaysKept catalog written keys (number name))
      → AreOfKept catalog (tables_left keys written) (changes_of number deeds)
  kept_left [] are stay = tt
  kept_left (Marked ∷ deeds) are stay = kept_left deeds are stay
  kept_left (Saved name ∷ deeds) are stay = kept_left deeds are stay
  kept_left (Changed c ∷ deeds) are stay = (
    one_kept (number c.table) c.key (was_in (changes_in deeds) c.table c.key) (stay c.table c.key here) are.0,
    kept_left deeds are.1 (λ name key has_. stay name key (later name key has_)),
  )
    where
      here : has_change (c ∷ changes_in deeds) c.table c.key ≡ true
      here = rw (is_at_itself c.table c.key c.row) refl

      later : (name : List ℕ) (key : Value) → has_change (changes_in deeds) name key ≡ true
          → has_change (c ∷ changes_in deeds) name key ≡ true
      later name key has_ = on (is_at c name key)
        where
          on : (b : Bool) → (if b then true else has_change (changes_in deeds) name key) ≡ true
          on true = refl
          on false = has_

-- ---- of the transaction that takes back

module _ (none_left : NoneOfGone) (size : ℕ) (o : Opening) (h : Entries) (e : Entry) (t : ℕ) (point : Point)
    (s : Standing) (pages : Pages) (layout : Layout) (reading : Reading) (catalog : ℕ) (works : List Working)
    (whole left : List Change) (keys : List Value) (back : effect_of e ≡ TakesBack t point) (opening : MayBegin o)
    (legal : IsLegal o (e ∷ h)) (grows : CatalogGrows o h) (active : state_of o h t ≡ Active)
    (sound : IsSoundBy packed_form size (left_state everyone s.state) pages layout reading)
    (finds : FindsTables o h s layout t) (keeps : KeepsWritten catalog works s.table) (taken : AreTaken o h e t whole)
    (rows : AreRowsLeft o h e t left keys)
    (number_is : (key : Value) → has_change (own o h t) catalog_name key ≡ true → s.number t catalog_name ≡ catalog)
  where
    abbrev written : List Table
    written = written_kept (work_of works t)

    -- a change that is left was made before
    had_before : (name : List ℕ) (key : Value) → has_change (own o (e ∷ h) t) name key ≡ true
        → has_change (own o h t) name key ≡ true
    had_before name key has_ = at (newest_at (own o h t) name key) refl
      where
        at : (x : Option records.Change) → newest_at (own o h t) name key ≡ x → has_change (own o h t) name key ≡ true
        at (Some c) is = change_there (own o h t) name key ∙ ap is_some is
        at None none =
            let lost : newest_at (own o (e ∷ h) t) name key ≡ None =
            none_second whole (own o (e ∷ h) t) name key (taken name key ∙ none) in
            absurd (false≢true (sym (change_there (own o (e ∷ h) t) name key ∙ ap is_some lost) ∙ has_))

    -- a table with a change that is left does not go
    row_stays : (name : List ℕ) (key : Value) → name ≢ catalog_name → has_change (own o (e ∷ h) t) name key ≡ true
        → is_among keys (table_key name) ≡ false
    row_stays name key other has_ = at (is_among keys (table_key name)) refl
      where
        at : (b : Bool) → is_among keys (table_key name) ≡ b → is_among keys (table_key name) ≡ false
        at false off = off
        at true on =
            let gone : has_change (own o (e ∷ h) t) catalog_name (table_key name) ≡ false =
            change_there (own o (e ∷ h) t) catalog_name (table_key name) ∙ ap is_some (rows.none (table_key name) on) in
            absurd (false≢true (sym (none_left o h e t point name key back opening legal grows active other
            (rows.made (table_key name) on) gone) ∙ has_))

    stay_kept : (name : List ℕ) (key : Value) → has_change (own o (e ∷ h) t) name key ≡ true
        → StaysKept catalog (written_kept (work_of works t)) keys (s.number t name)
    stay_kept name key has_ = at (same_name name catalog_name) refl
      where
        at : (b : Bool) → same_name name catalog_name ≡ b
            → StaysKept catalog (written_kept (work_of works t)) keys (s.number t name)
        at true named =
            let its : name ≡ catalog_name = same_text name catalog_name (sym named) in
            inl (ap (s.number t) its ∙ number_is key
            (ap (λ (n : List ℕ). has_change (own o h t) n key) (sym its) ∙ had_before name key has_))
        at false off = inr (λ x one first.
            let its : x.name ≡ name = first_named size (left_state everyone s.state) pages layout reading sound name
            (s.number t name) x (finds.changed name key (had_before name key has_))
            (one_stands o h s t layout catalog works finds keeps x one) first in
            one_test keys (table_key x.name) ∙ (ap (λ (n : List ℕ). is_among keys (table_key n)) its
            ∙ row_stays name key (λ same. false≢true (sym off ∙ (ap (λ (n : List ℕ). same_name n catalog_name) same
            ∙ same_name_itself catalog_name))) has_))

    pub told_left : AreOfKept catalog (written_kept (work_of works t)) (changes_of (s.number t) (deeds_by t (steps o (e ∷ h))))
        → AreOfKept catalog (tables_left keys (written_kept (work_of works t)))
        (changes_of (s.number t) (deeds_by t (steps o (e ∷ h))))
    told_left are = kept_left catalog (written_kept (work_of works t)) keys (s.number t) (deeds_by t (steps o (e ∷ h))) are
        stay_kept
