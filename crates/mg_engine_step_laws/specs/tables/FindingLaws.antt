-- Each active transaction finds its tables after a begin, a look, an idle entry and a commit.
use Rattle.std.proofs.Common.{◌≡◌, ◌⊎◌, ◌≤◌, ◌++◌, inl, inr, refl, sym, ap, ◌∙◌, subst, arith, ℕ, Bool, true, false, List, [], ◌∷◌, Option, None, Some, cond}
use Rattle.std.specs.Prelude.{map}
use Rattle.std.proofs.Math.Path.{fun_ext}
use Rattle.std.proofs.lemmas.Bool.{eq-eqb, eqb-true, false≢true, ne_eqb}
use Rattle.mg_base.specs.declared.transaction.TxState.{TxState}
use Rattle.mg_base.specs.declared.transaction.TxState.TheVariants.{Active, Committed, Dead}
use Rattle.mg_value.specs.declared.shape.Shape.{Shape}
use Rattle.mg_model.specs.declared.change.Change.{Change}
use Rattle.mg_model.specs.declared.event.Mode.{Mode}
use Rattle.mg_model.specs.declared.opening.Opening.{Opening}
use Rattle.mg_model.specs.declared.table.Table.{Table}
use Rattle.mg_model.specs.Answers.{catalog_of, told}
use Rattle.mg_model.specs.Catalog.{catalog_name}
use Rattle.mg_model.specs.Changes.{has_change, row_at}
use Rattle.mg_model.specs.DeedLaws.{deeds_after, deeds_after_entry}
use Rattle.mg_model.specs.Effects.{doer, is_its}
use Rattle.mg_model.specs.History.{Begins, Effect, Ends, Entries, Entry, Gives, Looks, Makes, Marks, Nothing, Saves, TakesBack, effect_of}
use Rattle.mg_model.specs.Legal.{IsLegal, MayBegin}
use Rattle.mg_model.specs.LegalLaws.{IsAllowed, lawful_is_allowed}
use Rattle.mg_model.specs.Machine.{base, changes_in, database, deeds_by, is_of, mode_of, next_number, own, state_after, steps, takes_base, view}
use Rattle.mg_model.specs.NumberLaws.{undrawn_has_no_deeds, undrawn_is_dead}
use Rattle.mg_model.specs.Openings.{everyone}
use Rattle.mg_records.specs.Reading.{shape_named, shape_seen}
use Rattle.mg_image.specs.Form.{Pages, packed_form}
use Rattle.mg_image.specs.Inventory.{next_of}
use Rattle.mg_image.specs.Records.{Reading}
use Rattle.mg_image.specs.Sound.{IsSoundBy}
use Rattle.mg_image.specs.Tables.{Layout, stands_of}
use Rattle.mg_image_overlay_laws.specs.transactions.Begins.{Raises, begin_sound}
use Rattle.mg_image_overlay_laws.specs.tables.OneLayout.{StandsOneWay}
use Rattle.mg_image_overlay_laws.specs.tables.TableOwners.{IsOneOf}
use Rattle.mg_overlay_laws.specs.Overlays.{left_by, left_state}
use Rattle.mg_lasting_laws.specs.Entries.{idle_own, is_idle}
use Rattle.mg_engine_step_laws.specs.standing.Following.{FollowsEntry, KeepsTables, OthersKeepTables}
use Rattle.mg_engine_step_laws.specs.standing.QuietPages.{FindsAfter}
use Rattle.mg_engine_step_laws.specs.standing.Standing.{FindsTables, HasFirstPage, IsSeenAs, Standing}
use Rattle.mg_engine_step_laws.specs.tables.Finding.{BeginFinds, BeginHasTables, CommitFinds, IdleFinds, LookFinds, LookHasTables, TablesFor}
use Rattle.mg_engine_step_laws.specs.tables.NamedTables.{HasTableWith}
use Rattle.mg_engine_step_laws.specs.tables.SeenTables.{DatabaseTablesStand, NewlySeenTablesStand}

-- ---- tables for a view whose names stand

module _ (o : Opening) (h : Entries) (layout : Layout) (t : ℕ)
    (stand : (name : List ℕ) (shape : Shape) → shape_seen o h t name ≡ Some shape
    → HasTableWith (map (λ stand. stand.table) layout.tables) name shape) where
  abbrev given_for : (name : List ℕ) (x : Option Shape) → shape_seen o h t name ≡ x → Option Table
  given_for name None is = None
  given_for name (Some shape) is = Some (stand name shape is).table

  given_as : (name : List ℕ) (x : Option Shape) (is : shape_seen o h t name ≡ x)
      → IsSeenAs name x (given_for name x is)
  given_as name None is = tt
  given_as name (Some shape) is = ((stand name shape is).named, (stand name shape is).shaped)

  given_stands : (name : List ℕ) (x : Option Shape) (is : shape_seen o h t name ≡ x) (table : Table)
      → given_for name x is ≡ Some table → IsOneOf (map (λ stand. stand.table) layout.tables) table
  given_stands name None is table some = absurd cc
  given_stands name (Some shape) is table some =
      let same : (stand name shape is).table ≡ table = cc in
      subst (IsOneOf (map (λ stand. stand.table) layout.tables)) same (stand name shape is).stands

  tables_for : TablesFor o h layout t
  tables_for = record {
    table = λ name. given_for name (shape_seen o h t name) refl;
    seen_as = λ name. given_as name (shape_seen o h t name) refl;
    stands = λ name table some. given_stands name (shape_seen o h t name) refl table some;
  }

-- ---- new bases

module _ (o : Opening) (h : Entries) (e : Entry) (t : ℕ) where
  -- the view of one that begins is the database
  module _ (mode : Mode) (opening : MayBegin o) (legal : IsLegal o (e ∷ h))
      (is : effect_of e ≡ Begins t mode) where
    begins_number : t ≡ next_number o h
    begins_number = subst (IsAllowed o h) is (lawful_is_allowed o h e legal.0)

    nothing_done : own o (e ∷ h) t ≡ []
    nothing_done = ap changes_in (deeds_after_entry o h e t
        ∙ (ap (λ (f : Effect). deeds_after f t (catalog_of (told o h) t) (deeds_by t (steps o h))) is
        ∙ undrawn_has_no_deeds o opening h legal.1 t (let number = begins_number in omega (arith, number))))

    new_view : view o (e ∷ h) t ≡ database o h
    new_view = ap (λ (cs : List Change). cs ++ base o (e ∷ h) t) nothing_done
        ∙ (ap (λ (f : Effect). cond (takes_base f t (mode_of h t).snapshot) (database o h) (base o h t)) is
        ∙ rw (eq-eqb t t refl) refl)

  -- that of one that looks is its own changes over the database
  module _ (is : effect_of e ≡ Looks t) where
    same_own : own o (e ∷ h) t ≡ own o h t
    same_own = ap changes_in (deeds_after_entry o h e t
        ∙ ap (λ (f : Effect). deeds_after f t (catalog_of (told o h) t) (deeds_by t (steps o h))) is)

    looked_view : (mode_of h t).snapshot ≡ false → view o (e ∷ h) t ≡ own o h t ++ database o h
    looked_view fresh = ap (λ (cs : List Change). cs ++ base o (e ∷ h) t) same_own
        ∙ ap (λ (cs : List Change). own o h t ++ cs)
        (ap (λ (f : Effect). cond (takes_base f t (mode_of h t).snapshot) (database o h) (base o h t)) is
        ∙ rw (eq-eqb t t refl, fresh) refl)

pub begin_has_tables : DatabaseTablesStand → BeginHasTables
begin_has_tables stand size o h e t mode s pages knows opening legal is =
    tables_for o (e ∷ h) knows.shows.layout t (λ name shape seen. stand size o h s pages knows name shape
    (ap (λ (cs : List Change). shape_named (row_at cs catalog_name) name)
    (sym (new_view o h e t mode opening legal is)) ∙ seen))

pub look_has_tables : NewlySeenTablesStand → LookHasTables
look_has_tables stand size o h e t s pages knows opening legal is fresh =
    tables_for o (e ∷ h) knows.shows.layout t (λ name shape seen. stand size o h s pages knows t name shape
    opening legal.1 (subst (IsAllowed o h) is (lawful_is_allowed o h e legal.0))
    (ap (λ (cs : List Change). shape_named (row_at cs catalog_name) name)
    (sym (looked_view o h e t is fresh)) ∙ seen))

-- ---- finding

module _ (one_way : StandsOneWay packed_form) (others : OthersKeepTables) (size : ℕ) (o : Opening)
    (h : Entries) (e : Entry) (s new : Standing) (later : Pages) (follows : FollowsEntry o h e s new) where
  -- all find theirs, where the entry's own transaction does so under a layout that the pages have
  finds_by : (layout : Layout) (r : Reading)
      → IsSoundBy packed_form size (left_state everyone new.state) later layout r
      → ((t : ℕ) → is_its t e ≡ true → new.state t ≡ Active → FindsTables o (e ∷ h) new layout t)
      → FindsAfter packed_form size o h e s new later
  finds_by layout r sound its other q also t active = at (is_its t e) refl
    where
      at : (b : Bool) → is_its t e ≡ b → KeepsTables o h e s new t ⊎ FindsTables o (e ∷ h) new other t
      at false off = inl (others o h e s new follows t off active)
      at true on = inr (subst (λ (l : Layout). FindsTables o (e ∷ h) new l t)
          (one_way size (left_state everyone new.state) later layout other r q sound also).0
          (its t on active))

  -- all find theirs, where the entry's own transaction keeps its
  finds_kept : ((t : ℕ) → is_its t e ≡ true → new.state t ≡ Active → KeepsTables o h e s new t)
      → FindsAfter packed_form size o h e s new later
  finds_kept its layout r sound t active = at (is_its t e) refl
    where
      at : (b : Bool) → is_its t e ≡ b → KeepsTables o h e s new t ⊎ FindsTables o (e ∷ h) new layout t
      at false off = inl (others o h e s new follows t off active)
      at true on = inl (its t on active)

-- the entry's transaction is the one of its effect
only_its : (e : Entry) (f : Effect) (t u : ℕ) → effect_of e ≡ f → doer f ≡ Some t → is_its u e ≡ true → u ≡ t
only_its e f t u is does its = sym (eqb-true t u (sym (ap (λ (g : Effect). is_of u (doer g)) is
    ∙ ap (is_of u) does) ∙ its))

pub begin_finds : StandsOneWay packed_form → OthersKeepTables → BeginFinds
begin_finds one_way others size o h e t mode s new pages later knows opening legal is follows stays given sees =
    finds_by one_way others size o h e s new later follows knows.shows.layout knows.shows.reading
    (stays knows.shows.layout knows.shows.reading (begin_sound packed_form size (left_state everyone s.state)
    (left_state everyone new.state) t raises pages knows.shows.layout knows.shows.reading knows.shows.sound
    fresh)) its
  where
    number : t ≡ next_number o h
    number = begins_number o h e t mode opening legal is

    fresh : next_of pages ≤ t
    fresh = let shown = knows.shows.next in let said = knows.memory.next in omega (arith, shown, said, number)

    dead : s.state t ≡ Dead
    dead = knows.memory.state t ∙ undrawn_is_dead o opening h legal.1 t (omega (arith, number))

    active : new.state t ≡ Active
    active = follows.state t ∙ (ap (λ (f : Effect). state_after f t (s.state t)) is
        ∙ rw (eq-eqb t t refl) refl)

    raises : Raises (left_state everyone s.state) (left_state everyone new.state) t
    raises = record {
      dead = ap (left_by true) dead;
      limbo = ap (left_by true) active;
      others = λ u ne. ap (left_by true) (follows.state u
          ∙ (ap (λ (f : Effect). state_after f u (s.state u)) is
          ∙ rw (ne_eqb t u (λ same. ne (sym same))) refl));
    }

    its : (u : ℕ) → is_its u e ≡ true → new.state u ≡ Active
        → FindsTables o (e ∷ h) new knows.shows.layout u
    its u on at_work = subst (FindsTables o (e ∷ h) new knows.shows.layout)
        (sym (only_its e (Begins t mode) t u is refl on)) (record {
          seen = λ name table some. given.stands name table (sym (sees name) ∙ some);
          changed = λ name key has. absurd (false≢true (sym (ap (λ (cs : List Change). has_change cs name key)
              (nothing_done o h e t mode opening legal is)) ∙ has));
        })

pub look_finds : StandsOneWay packed_form → OthersKeepTables → LookFinds
look_finds one_way others size o h e t s new pages knows is follows given sees number =
    finds_by one_way others size o h e s new pages follows knows.shows.layout knows.shows.reading
    (subst (λ (x : ℕ → TxState). IsSoundBy packed_form size x pages knows.shows.layout knows.shows.reading)
    (fun_ext (λ u. ap (left_by true) (sym (same u)))) knows.shows.sound) its
  where
    same : (u : ℕ) → new.state u ≡ s.state u
    same u = follows.state u ∙ ap (λ (f : Effect). state_after f u (s.state u)) is

    finds : s.state t ≡ Active → FindsTables o (e ∷ h) new knows.shows.layout t
    finds active = record {
      seen = λ name table some. given.stands name table (sym (sees name) ∙ some);
      changed = λ name key has. subst (λ (n : List ℕ → ℕ). HasFirstPage (stands_of knows.shows.layout) name
          (n name)) (sym number) ((knows.shows.tables t active).changed name key
          (ap (λ (cs : List Change). has_change cs name key) (sym (same_own o h e t is)) ∙ has));
    }

    its : (u : ℕ) → is_its u e ≡ true → new.state u ≡ Active
        → FindsTables o (e ∷ h) new knows.shows.layout u
    its u on active =
        let here : u ≡ t = only_its e (Looks t) t u is refl on in
        subst (FindsTables o (e ∷ h) new knows.shows.layout) (sym here)
        (finds (subst (λ (v : ℕ). s.state v ≡ Active) here (sym (same u) ∙ active)))

idle_stays : (f : Effect) → is_idle f ≡ true → (t : ℕ) (old : TxState) → state_after f t old ≡ old
idle_stays (Begins u mode) is t old = absurd cc
idle_stays (Looks u) is t old = refl
idle_stays (Makes u table row) is t old = absurd cc
idle_stays (Gives u table key row) is t old = absurd cc
idle_stays (Marks u) is t old = refl
idle_stays (Saves u name) is t old = refl
idle_stays (TakesBack u point) is t old = absurd cc
idle_stays (Ends u end) is t old = absurd cc
idle_stays Nothing is t old = refl

pub idle_finds : StandsOneWay packed_form → OthersKeepTables → IdleFinds
idle_finds one_way others size o h e s new pages idle follows keep =
    finds_kept one_way others size o h e s new pages follows (λ t on active. record {
      active = sym (follows.state t ∙ state_stays t) ∙ active;
      own_same = idle_own o h e idle t;
      number = (keep t on active).0;
      table = (keep t on active).1;
    })
  where
    state_stays : (t : ℕ) → state_after (effect_of e) t (s.state t) ≡ s.state t
    state_stays t = idle_stays (effect_of e) idle t (s.state t)

pub commit_finds : StandsOneWay packed_form → OthersKeepTables → CommitFinds
commit_finds one_way others size o h e t s new later is follows =
    finds_kept one_way others size o h e s new later follows (λ u on active. absurd (ended u on active))
  where
    ended : (u : ℕ) → is_its u e ≡ true → new.state u ≡ Active → ⊥
    ended u on active =
        let here : u ≡ t = only_its e (Ends t Committed) t u is refl on in
        let committed : new.state t ≡ Committed = follows.state t
        ∙ (ap (λ (f : Effect). state_after f t (s.state t)) is ∙ rw (eq-eqb t t refl) refl) in
        let both : Active ≡ Committed = sym active ∙ (ap new.state here ∙ committed) in absurd cc
