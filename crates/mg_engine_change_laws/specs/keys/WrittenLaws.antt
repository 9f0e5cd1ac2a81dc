-- A table that a transaction has kept is the one that stands on the pages.
use Rattle.std.proofs.Common.{◌≡◌, ◌≢◌, inl, inr, ◌==◌, ◌++◌, ap, refl, sym, subst, ◌∙◌, ℕ, Bool, true, false, List, [], ◌∷◌, Option, None, Some}
use Rattle.std.specs.Cmp.Lexicographic.{same_text}
use Rattle.std.specs.List.{flat_map}
use Rattle.std.specs.Prelude.{if◌then◌else◌}
use Rattle.std.proofs.lemmas.Bool.{eqb-true, false≢true}
use Rattle.mg_engine_meaning_laws.specs.Standings.{KeepsWritten, written_kept}
use Rattle.mg_engine_step_laws.specs.standing.Known.{IsShown, seen_is_shown}
use Rattle.mg_engine_step_laws.specs.standing.Standing.{FindsTables, HasFirstPage, Standing}
use Rattle.mg_engine_change_laws.specs.keys.Written.{KeptTablesAreNamed, KeptTablesStand}
use Rattle.mg_image.specs.Form.{Pages, packed_form}
use Rattle.mg_image.specs.Reached.{tips_of}
use Rattle.mg_image.specs.Records.{Reading}
use Rattle.mg_image.specs.Sound.{HasTablePages, IsSoundBy}
use Rattle.mg_image.specs.Tables.{Has, HasStand, IsOnce, Layout, LinkChain, Stand, ended, goes, pages_of, stands_of}
use Rattle.mg_image_overlay_laws.specs.tables.Growing.{IsTableOf}
use Rattle.mg_image_overlay_laws.specs.tables.OneTable.{stands_in}
use Rattle.mg_image_overlay_laws.specs.pages.Reach.{once_back, once_front}
use Rattle.mg_image_overlay_laws.specs.tables.TableOwners.{IsOneOf}
use Rattle.mg_model.specs.Changes.{same_name}
use Rattle.mg_model.specs.History.{Entries}
use Rattle.mg_model.specs.Openings.{everyone}
use Rattle.mg_model.specs.ReadLaws.{same_name_itself}
use Rattle.mg_model.specs.declared.opening.Opening.{Opening}
use Rattle.mg_model.specs.declared.table.Table.{Table}
use Rattle.mg_image_overlay_laws.specs.tables.Stands.{pointer_page, stand_has, stands_apart}
use Rattle.mg_overlay_laws.specs.Overlays.{left_state}
use Rattle.mg_base.specs.declared.numbers.PageNo.{PageNo}
use Rattle.mg_base.specs.declared.transaction.TxState.{TxState}
use Rattle.mg_pointer.specs.PointerPage.{next_in}
use Rattle.mg_works.specs.Works.{Working, work_of, written_by, written_in, written_to}

-- ---- what is kept under a number

-- it begins there
pub first_in : (tables : List Table) (number : ℕ) (table : Table) → written_in tables number ≡ Some table
    → table.pointer.0 ≡ number
first_in [] number table is = absurd cc
first_in (x ∷ xs) number table is = at (x.pointer.0 == number) refl is (λ more. first_in xs number table more)
  where
    at : (b : Bool) → (x.pointer.0 == number) ≡ b → (if b then Some x else written_in xs number) ≡ Some table
        → (written_in xs number ≡ Some table → table.pointer.0 ≡ number) → table.pointer.0 ≡ number
    at true on some more =
        let same : x ≡ table = cc in
        ap (λ (y : Table). y.pointer.0) (sym same) ∙ eqb-true x.pointer.0 number on
    at false off some more = more some

-- it is one of them
pub one_in : (tables : List Table) (number : ℕ) (table : Table) → written_in tables number ≡ Some table
    → IsOneOf tables table
one_in [] number table is = absurd cc
one_in (x ∷ xs) number table is = at (x.pointer.0 == number) is (one_in xs number table)
  where
    at : (b : Bool) → (if b then Some x else written_in xs number) ≡ Some table
        → (written_in xs number ≡ Some table → IsOneOf xs table) → IsOneOf (x ∷ xs) table
    at true some more = inl cc
    at false some more = inr (more some)

-- as it is kept in the work
pub in_work : (work : Option Working) (number : ℕ) → written_by work number ≡ written_in (written_kept work) number
in_work None number = refl
in_work (Some w) number = refl

module _ (works : List Working) (t number : ℕ) (table : Table) (kept : written_to works t number ≡ Some table) where
  pub kept_in : written_in (written_kept (work_of works t)) number ≡ Some table
  kept_in = sym (in_work (work_of works t) number) ∙ kept

  first_of_kept : table.pointer.0 ≡ number
  first_of_kept = first_in (written_kept (work_of works t)) number table kept_in

-- ---- where it stands

module _ (o : Opening) (h : Entries) (s : Standing) (t : ℕ) (layout : Layout) (catalog : ℕ) (works : List Working)
    (finds : FindsTables o h s layout t) (keeps : KeepsWritten catalog works s.table) where
  pub one_stands : (table : Table) → IsOneOf (written_kept (work_of works t)) table → IsShown layout table
  one_stands table one = seen_is_shown layout table (finds.seen table.name table (keeps.seen t table one))

  pub kept_stands : (number : ℕ) (table : Table) → written_to works t number ≡ Some table → IsShown layout table
  kept_stands number table kept =
      one_stands table (one_in (written_kept (work_of works t)) number table (kept_in works t number table kept))

  -- with all its indexes
  pub kept_itself : (number : ℕ) (table : Table) → written_to works t number ≡ Some table → IsTableOf layout table
  kept_itself number table kept = stands_in layout table (inr (finds.seen table.name table (keeps.seen t table
      (one_in (written_kept (work_of works t)) number table (kept_in works t number table kept)))))

pub kept_tables_stand : KeptTablesStand
kept_tables_stand o h s t layout catalog works finds keeps number table kept =
    kept_stands o h s t layout catalog works finds keeps number table kept

-- ---- tables with one first page

first_linked : (next : ℕ → ℕ) (first : ℕ) (ns : List ℕ) → LinkChain next first ns → first ≢ 0 → Has ns first
first_linked next first ns ended some = absurd (some refl)
first_linked next first ns (goes n ms other more) some = inl refl

stand_in : (before after : List Stand) (stand : Stand) → HasStand (before ++ (stand ∷ after)) stand
stand_in [] after stand = inl refl
stand_in (x ∷ before) after stand = inr (stand_in before after stand)

-- a table that stands with a first page of its own
record FirstAt (stands : List Stand) (name : List ℕ) (page : ℕ) : Type 0 where
  stand : Stand
  there : HasStand stands stand
  named : stand.table.name ≡ name
  first : stand.table.pointer.0 ≡ page

first_at : (stands : List Stand) (name : List ℕ) (page : ℕ) → HasFirstPage stands name page
    → FirstAt stands name page
first_at [] name page has = absurd has
first_at (x ∷ stands) name page (inl (named, first)) =
    record { stand = x; there = inl refl; named = named; first = first }
first_at (x ∷ stands) name page (inr more) =
    let it = first_at stands name page more in
    record { stand = it.stand; there = inr it.there; named = it.named; first = it.first }

-- one that is shown has its first page
pub first_there : (layout : Layout) (table : Table) → IsShown layout table
    → HasFirstPage (stands_of layout) table.name table.pointer.0
first_there layout table there = subst (λ (n : List ℕ). HasFirstPage (stands_of layout) n table.pointer.0) there.same.name
    (subst (λ (p : PageNo). HasFirstPage (stands_of layout) there.its.name p.0) there.same.pointer
    (subst (λ (x : Table). HasFirstPage (stands_of layout) x.name x.pointer.0) there.stands.table_is
    (subst (λ (ss : List Stand). HasFirstPage ss there.stands.stand.table.name there.stands.stand.table.pointer.0)
    (sym there.stands.is_) (within there.stands.before there.stands.after there.stands.stand))))
  where
    within : (before after : List Stand) (stand : Stand)
        → HasFirstPage (before ++ (stand ∷ after)) stand.table.name stand.table.pointer.0
    within [] after stand = inl (refl, refl)
    within (x ∷ before) after stand = inr (within before after stand)

module _ (size : ℕ) (state : ℕ → TxState) (pages : Pages) (layout : Layout) (reading : Reading)
    (sound : IsSoundBy packed_form size state pages layout reading) where
  once : IsOnce (flat_map pages_of (stands_of layout))
  once = once_back (tips_of size pages) (flat_map pages_of (stands_of layout))
      (once_front (tips_of size pages ++ flat_map pages_of (stands_of layout)) layout.sequences sound.once)

  has_first : (stand : Stand) → HasStand (stands_of layout) stand → Has (pages_of stand) stand.table.pointer.0
  has_first stand there =
      let its = stand_has (HasTablePages packed_form.in_primary size pages) (stands_of layout) stand sound.tables there in
      pointer_page stand stand.table.pointer.0 (first_linked (λ n. next_in (pages n)) stand.table.pointer.0
      stand.pointers its.chain its.first)

  -- have one name
  one_name : (a b : Stand) → HasStand (stands_of layout) a → HasStand (stands_of layout) b
      → a.table.pointer.0 ≡ b.table.pointer.0 → a.table.name ≡ b.table.name
  one_name a b here_ there same = at (same_name a.table.name b.table.name) refl
    where
      never : a.table.name ≢ b.table.name → ⊥
      never apart = stands_apart (stands_of layout) once a b a.table.pointer.0 here_ there apart (has_first a here_)
          (subst (Has (pages_of b)) (sym same) (has_first b there))

      at : (c : Bool) → same_name a.table.name b.table.name ≡ c → a.table.name ≡ b.table.name
      at true is = same_text a.table.name b.table.name (sym is)
      at false off = absurd (never (λ is. false≢true (sym off
          ∙ (ap (same_name a.table.name) (sym is) ∙ same_name_itself a.table.name))))

  pub first_named : (name : List ℕ) (page : ℕ) (table : Table) → HasFirstPage (stands_of layout) name page
      → IsShown layout table → table.pointer.0 ≡ page → table.name ≡ name
  first_named name page table has there first =
      let it = first_at (stands_of layout) name page has in
      let its_named : there.stands.stand.table.name ≡ it.stand.table.name =
      one_name there.stands.stand it.stand
      (subst (λ (ss : List Stand). HasStand ss there.stands.stand) (sym there.stands.is_)
      (stand_in there.stands.before there.stands.after there.stands.stand)) it.there
      (ap (λ (x : Table). x.pointer.0) there.stands.table_is ∙ (ap (λ (p : PageNo). p.0) there.same.pointer
      ∙ (first ∙ sym it.first))) in
      sym there.same.name ∙ (sym (ap (λ (x : Table). x.name) there.stands.table_is) ∙ (its_named ∙ it.named))

pub kept_tables_are_named : KeptTablesAreNamed
kept_tables_are_named size o h s t pages layout reading catalog works sound finds keeps name key has_ table kept =
    first_named size (left_state everyone s.state) pages layout reading sound name (s.number t name) table
    (finds.changed name key has_)
    (kept_stands o h s t layout catalog works finds keeps (s.number t name) table kept)
    (first_of_kept works t (s.number t name) table kept)
