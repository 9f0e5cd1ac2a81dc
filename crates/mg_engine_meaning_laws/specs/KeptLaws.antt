-- The tables that transactions keep for taking back, as works become others.
use Rattle.std.proofs.Common.{◌≡◌, ◌≢◌, ◌⊎◌, inl, inr, ◌==◌, ◌∙◌, ap, refl, subst, sym, ℕ, Bool, true, false, List, [], ◌∷◌, Option, None, Some}
use Rattle.std.specs.Prelude.{if◌then◌else◌, is_some, map}
use Rattle.std.proofs.lemmas.Bool.{cases_eq, eqb-true, false≢true}
use Rattle.mg_base.specs.declared.transaction.TxState.{TxState}
use Rattle.mg_image.specs.Form.{Pages, packed_form}
use Rattle.mg_image.specs.Records.{Reading}
use Rattle.mg_image.specs.Sound.{IsSoundBy}
use Rattle.mg_image.specs.Tables.{Layout}
use Rattle.mg_image_overlay_laws.specs.tables.TableOwners.{IsOneOf}
use Rattle.mg_model.specs.declared.table.Table.{Table}
use Rattle.mg_image_overlay_laws.specs.tables.OneTable.{one_table, stands_in}
use Rattle.mg_undo.specs.declared.changes.Change.{Change}
use Rattle.mg_undo.specs.declared.changes.Was.{Was}
use Rattle.mg_value.specs.declared.value.Value.{Value}
use Rattle.mg_works.specs.Works.{Working, with_work, without_work, work_of, written_in}
use Rattle.mg_works.specs.WorksLaws.{with_its, with_none, with_others, without_its, without_others}
use Rattle.mg_engine_meaning_laws.specs.Formers.{MayReturnTo}
use Rattle.mg_engine_meaning_laws.specs.Standings.{AreOfKept, AreTold, KeepsWritten, SeesIt, Tables, undo_kept, written_kept}

-- ---- tables that are one

-- tables of one name that stand on the same pages are one
pub one_there : (size : ℕ) (state : ℕ → TxState) (pages : Pages) (layout : Layout) (r : Reading)
    → IsSoundBy packed_form size state pages layout r → (x y : Table)
    → IsOneOf (map (λ stand. stand.table) layout.tables) x → IsOneOf (map (λ stand. stand.table) layout.tables) y
    → x.name ≡ y.name → x ≡ y
one_there size state pages layout r sound x y first second name = one_table packed_form size state pages layout r sound
    x y (stands_in layout x (inr first)) (stands_in layout y (inr second)) name

-- ---- one work becomes another

-- What is kept for taking back stays, and what was seen of it is.
pub record StaysKept (old new : Option Working) (was is : List ℕ → Option Table) : Type 0 where
  pub written : written_kept new ≡ written_kept old
  pub changes : (undo_kept new).changes ≡ (undo_kept old).changes
  pub seen : (table : Table) → SeesIt (was table.name) table → SeesIt (is table.name) table

-- Nothing is kept.
pub record IsBare (work : Option Working) : Type 0 where
  pub written : written_kept work ≡ []
  pub changes : (undo_kept work).changes ≡ []

pub none_bare : (work : Option Working) → work ≡ None → IsBare work
none_bare work is = record {
  written = ap written_kept is;
  changes = ap (λ (x : Option Working). (undo_kept x).changes) is;
}

module _ (catalog : ℕ) (old new : List Working) (tables now : Tables) (kept : KeepsWritten catalog old tables) where
  -- transaction by transaction
  pub kept_each : ((u : ℕ) → IsBare (work_of new u) ⊎ StaysKept (work_of old u) (work_of new u) (tables u) (now u))
      → KeepsWritten catalog new now
  kept_each each = record { seen = λ u table is. seen_by u table is (each u); told = λ u. told_by u (each u) }
    where
      seen_by : (u : ℕ) (table : Table) → IsOneOf (written_kept (work_of new u)) table
          → IsBare (work_of new u) ⊎ StaysKept (work_of old u) (work_of new u) (tables u) (now u)
          → SeesIt (now u table.name) table
      seen_by u table is (inl bare) = absurd (subst (λ (xs : List Table). IsOneOf xs table) bare.written is)
      seen_by u table is (inr stays) = stays.seen table
          (kept.seen u table (subst (λ (xs : List Table). IsOneOf xs table) stays.written is))

      told_by : (u : ℕ) → IsBare (work_of new u) ⊎ StaysKept (work_of old u) (work_of new u) (tables u) (now u)
          → AreTold catalog (work_of new u)
      told_by u (inl bare) = subst (AreOfKept catalog (written_kept (work_of new u))) (sym bare.changes) tt
      told_by u (inr stays) = subst (AreOfKept catalog (written_kept (work_of new u))) (sym stays.changes)
          (subst (λ (xs : List Table). AreOfKept catalog xs (undo_kept (work_of old u)).changes) (sym stays.written)
          (kept.told u))

-- the same work keeps the same
pub same_kept : (old new : Option Working) (its : List ℕ → Option Table) → new ≡ old → StaysKept old new its its
same_kept old new its is = record {
  written = ap written_kept is;
  changes = ap (λ (x : Option Working). (undo_kept x).changes) is;
  seen = λ table alike. alike;
}

module _ (t : ℕ) (made : Working → Working) (number : (w : Working) → (made w).number ≡ w.number)
    (session : (w : Working) → (made w).session ≡ w.session) (written : (w : Working) → (made w).written ≡ w.written)
    (changes : (w : Working) → (made w).undo.changes ≡ w.undo.changes) (works : List Working) where
  -- a work becomes one that keeps the same
  pub made_kept : (u : ℕ) (was is : List ℕ → Option Table)
      → ((table : Table) → SeesIt (was table.name) table → SeesIt (is table.name) table)
      → StaysKept (work_of works u) (work_of (with_work t made works) u) was is
  made_kept u was is seen = at (cases_eq u t) (work_of works t) refl
    where
      at : (u ≡ t) ⊎ (u ≢ t) → (found : Option Working) → work_of works t ≡ found
          → StaysKept (work_of works u) (work_of (with_work t made works) u) was is
      at (inr apart) found its =
          let same : work_of (with_work t made works) u ≡ work_of works u =
          with_others t made number session works u apart in record {
            written = ap written_kept same;
            changes = ap (λ (x : Option Working). (undo_kept x).changes) same;
            seen = seen;
          }
      at (inl e) None its =
          let same : work_of (with_work t made works) u ≡ work_of works u =
          ap (work_of (with_work t made works)) e
          ∙ (with_none t made number session works t its ∙ sym (ap (work_of works) e ∙ its)) in record {
            written = ap written_kept same;
            changes = ap (λ (x : Option Working). (undo_kept x).changes) same;
            seen = seen;
          }
      at (inl e) (Some w) its =
          let new_is : work_of (with_work t made works) u ≡ Some (made w) =
          ap (work_of (with_work t made works)) e ∙ with_its t made number session works w its in
          let old_is : work_of works u ≡ Some w = ap (work_of works) e ∙ its in record {
            written = ap written_kept new_is ∙ (written w ∙ sym (ap written_kept old_is));
            changes = ap (λ (x : Option Working). (undo_kept x).changes) new_is
                ∙ (changes w ∙ sym (ap (λ (x : Option Working). (undo_kept x).changes) old_is));
            seen = seen;
          }

  -- so what is kept stays, where the same tables are seen
  pub kept_with_work : (catalog : ℕ) (tables : Tables) → KeepsWritten catalog works tables
      → KeepsWritten catalog (with_work t made works) tables
  kept_with_work catalog tables kept = kept_each catalog works (with_work t made works) tables tables kept
      (λ u. inr (made_kept u (tables u) (tables u) (λ table alike. alike)))

-- a work goes
pub kept_without_work : (t catalog : ℕ) (works : List Working) (tables : Tables) → KeepsWritten catalog works tables
    → KeepsWritten catalog (without_work t works) tables
kept_without_work t catalog works tables kept = kept_each catalog works (without_work t works) tables tables kept
    (λ u. at u (cases_eq u t))
  where
    at : (u : ℕ) → (u ≡ t) ⊎ (u ≢ t) → IsBare (work_of (without_work t works) u)
        ⊎ StaysKept (work_of works u) (work_of (without_work t works) u) (tables u) (tables u)
    at u (inl same) = inl (none_bare (work_of (without_work t works) u)
        (ap (work_of (without_work t works)) same ∙ without_its works t))
    at u (inr apart) = inr (same_kept (work_of works u) (work_of (without_work t works) u) (tables u)
        (without_others works t u apart))

-- ---- a table is kept, and a change of it

-- what may come back to a table that is kept has one
pub has_kept : (kept : Option Table) (key : Value) (was : Was) → MayReturnTo kept key was → is_some kept ≡ true
has_kept None key was may = absurd may
has_kept (Some table) key was may = refl

-- changes are of those that are kept where one more is, of which none is kept yet
pub kept_behind : (catalog : ℕ) (x : Table) (written : List Table) (changes : List Change)
    → is_some (written_in written x.pointer.0) ≡ false → AreOfKept catalog written changes
    → AreOfKept catalog (x ∷ written) changes
kept_behind catalog x written [] none are = tt
kept_behind catalog x written (c ∷ cs) none are = (on are.0, kept_behind catalog x written cs none are.1)
  where
    at : (b : Bool) → (x.pointer.0 == c.table) ≡ b → MayReturnTo (written_in written c.table) c.key c.was
        → MayReturnTo (if b then Some x else written_in written c.table) c.key c.was
    at true is may = absurd (false≢true (sym none ∙ (ap (λ (n : ℕ). is_some (written_in written n))
        (eqb-true x.pointer.0 c.table is) ∙ has_kept (written_in written c.table) c.key c.was may)))
    at false is may = may

    on : (c.table ≡ catalog) ⊎ MayReturnTo (written_in written c.table) c.key c.was
        → (c.table ≡ catalog) ⊎ MayReturnTo (written_in (x ∷ written) c.table) c.key c.was
    on (inl is) = inl is
    on (inr may) = inr (at (x.pointer.0 == c.table) refl may)
