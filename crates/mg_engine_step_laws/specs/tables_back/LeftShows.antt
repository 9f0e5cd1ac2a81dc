-- Pages on which all is taken back, also tables that the transaction had made, show the history that has the entry.
use Rattle.std.proofs.Common.{◌≡◌, ◌≢◌, ◌⊎◌, inl, inr, refl, sym, ap, ◌∙◌, subst, ℕ, Bool, true, false, List, ◌∷◌, Option, None, Some}
use Rattle.std.specs.Prelude.{is_some}
use Rattle.std.proofs.Math.Path.{fun_ext}
use Rattle.std.proofs.lemmas.Bool.{cases_eq, false≢true, ne_eqb}
use Rattle.mg_base.specs.declared.transaction.TxState.{TxState}
use Rattle.mg_base.specs.declared.transaction.TxState.TheVariants.{Active}
use Rattle.mg_header.specs.HeaderPage.{header_in}
use Rattle.mg_value.specs.declared.value.Value.{Value}
use Rattle.mg_engine_step_laws.specs.standing.Bare.{IsBare}
use Rattle.mg_engine_step_laws.specs.standing.BareLaws.{bare_has_found, bare_left}
use Rattle.mg_engine_step_laws.specs.standing.Following.{FollowsEntry, OthersKeepTables}
use Rattle.mg_engine_step_laws.specs.standing.ShowsLaws.{tables_kept}
use Rattle.mg_engine_step_laws.specs.standing.Standing.{FindsTables, Remembers, ShowsHistory, Standing}
use Rattle.mg_engine_step_laws.specs.standing.Versions.{HaveVersions}
use Rattle.mg_engine_step_laws.specs.backs.Again.{AreTaken}
use Rattle.mg_engine_step_laws.specs.standing.OwnChains.{change_there}
use Rattle.mg_engine_step_laws.specs.backs.Shown.{ShowsMidway}
use Rattle.mg_grown_catalog_laws.specs.Grown.{BasesAreWithin, CatalogGrows, OwnRowsAreNew, SeenIsNotMade}
use Rattle.mg_image.specs.Form.{Pages, packed_form}
use Rattle.mg_image.specs.Histories.{newest_at}
use Rattle.mg_image.specs.Inventory.{next_of}
use Rattle.mg_image.specs.ReadingLaws.{RowsAreOne}
use Rattle.mg_image.specs.Records as records
use Rattle.mg_image.specs.Sound.{IsSoundBy, facts_by}
use Rattle.mg_image_overlay_laws.specs.pages.Kinds.{HasNoSequences}
use Rattle.mg_model.specs.Catalog.{catalog_name, table_key}
use Rattle.mg_model.specs.Effects.{doer, is_its}
use Rattle.mg_model.specs.History.{Effect, Entries, Entry, TakesBack, effect_of}
use Rattle.mg_model.specs.Legal.{IsLegal, MayBegin}
use Rattle.mg_model.specs.Machine.{is_of, next_after, own, state_after}
use Rattle.mg_model.specs.Openings.{everyone}
use Rattle.mg_model.specs.declared.change.Change.{Change}
use Rattle.mg_model.specs.declared.change.Point.{Point}
use Rattle.mg_model.specs.declared.opening.Opening.{Opening}
use Rattle.mg_model.specs.declared.table.Table.{Table}
use Rattle.mg_overlay_laws.specs.Overlays.{left_by, left_state}
use Rattle.mg_engine_step_laws.specs.tables_back.ChangedTables.{ChangedAreThere, NoneOfGone}
use Rattle.mg_engine_step_laws.specs.tables_back.LeftFinds.{finds_its, finds_other, none_changed}
use Rattle.mg_engine_step_laws.specs.tables_back.LeftShown.{ShowsLeft, TakesTables}
use Rattle.mg_engine_step_laws.specs.tables_back.LeftShownLaws.{versions_left}
use Rattle.mg_engine_step_laws.specs.tables_back.Taken.{layout_left, reading_left}

module _ (one : RowsAreOne packed_form.coding) (no_pages : HasNoSequences packed_form) (keep_tables : OthersKeepTables)
    (within : BasesAreWithin) (fresh : OwnRowsAreNew) (not_seen : SeenIsNotMade) (there : ChangedAreThere)
    (none_left : NoneOfGone) (size : ℕ) (o : Opening) (h : Entries) (e : Entry) (point : Point) (t : ℕ)
    (whole left : List Change) (s new : Standing) (begun pages later : Pages)
    (first : ShowsHistory packed_form size o h s begun)
    (midway : ShowsMidway packed_form size o h e t whole left s begun first pages) (gone : Value → Bool)
    (opening : MayBegin o) (legal : IsLegal o (e ∷ h)) (grows : CatalogGrows o h)
    (back : effect_of e ≡ TakesBack t point) (memory : Remembers o h s) (active : s.state t ≡ Active)
    (taken : AreTaken o h e t whole) (follows : FollowsEntry o h e s new) (number : new.number t ≡ s.number t)
    (fewer : (name : List ℕ) (table : Table) → new.table t name ≡ Some table → s.table t name ≡ Some table)
    (it : TakesTables packed_form size o h e t left s midway.layout midway.reading pages later gone) where
  nothing : (name : List ℕ) (key : Value) → name ≢ catalog_name → gone (table_key name) ≡ true
      → newest_at (own o (e ∷ h) t) name key ≡ None
  nothing name key other lost = at (newest_at (own o (e ∷ h) t) name key) refl
    where
      at : (x : Option records.Change) → newest_at (own o (e ∷ h) t) name key ≡ x
          → newest_at (own o (e ∷ h) t) name key ≡ None
      at None is = is
      at (Some c) is = absurd (false≢true (sym (none_changed packed_form size o h e point t whole left s new
          midway.layout midway.reading pages later gone opening legal grows back memory active taken follows midway.sound
          it within fresh not_seen there none_left name key other lost)
          ∙ (change_there (own o (e ∷ h) t) name key ∙ ap is_some is)))

  states_same : (u : ℕ) → new.state u ≡ s.state u
  states_same u = follows.state u ∙ ap (λ (x : Effect). state_after x u (s.state u)) back

  state_is : left_state everyone new.state ≡ left_state everyone s.state
  state_is = fun_ext (λ u. ap (left_by true) (states_same u))

  next_is : next_of later ≡ new.next
  next_is = ap (λ (page : List ℕ). (header_in page).next.0) it.leaves.header
      ∙ (midway.next ∙ sym (follows.next ∙ ap (λ (x : Effect). next_after x s.next) back))

  tables : (u : ℕ) → new.state u ≡ Active
      → FindsTables o (e ∷ h) new (layout_left gone midway.layout it.c) u
  tables u runs = at (cases_eq u t)
    where
      at : (u ≡ t) ⊎ (u ≢ t) → FindsTables o (e ∷ h) new (layout_left gone midway.layout it.c) u
      at (inl same) = subst (FindsTables o (e ∷ h) new (layout_left gone midway.layout it.c)) (sym same)
          (finds_its packed_form size o h e point t whole left s new midway.layout midway.reading pages later gone opening
          legal grows back memory active taken follows midway.sound it within fresh not_seen there none_left number fewer
          (midway.tables t active))
      at (inr ne) =
          let off : is_its u e ≡ false = ap (λ (x : Effect). is_of u (doer x)) back
          ∙ ne_eqb t u (λ same. ne (sym same)) in
          let was : s.state u ≡ Active = sym (states_same u) ∙ runs in
          tables_kept o h e s new (layout_left gone midway.layout it.c) u (keep_tables o h e s new follows u off runs)
          (finds_other packed_form size o h e point t whole left s new midway.layout midway.reading pages later gone
          opening legal grows back memory active taken follows midway.sound it within fresh not_seen there none_left u ne
          was (midway.tables u was))

  bare_then : IsBare (layout_left gone midway.layout it.c)
  bare_then = bare_left gone midway.layout.tables midway.bare

  pub shows_left_by : ShowsHistory packed_form size o (e ∷ h) new later
  shows_left_by = record {
    layout = layout_left gone midway.layout it.c;
    reading = reading_left gone midway.layout it.c midway.reading it.rc;
    sound = subst (λ (x : ℕ → TxState). IsSoundBy packed_form size x later (layout_left gone midway.layout it.c)
        (reading_left gone midway.layout it.c midway.reading it.rc)) (sym state_is) it.sound;
    next = next_is;
    versions = subst (λ (x : ℕ → TxState). HaveVersions o (e ∷ h)
        (facts_by x later (layout_left gone midway.layout it.c))
        (reading_left gone midway.layout it.c midway.reading it.rc)) (sym state_is)
        (versions_left packed_form one no_pages size o h e point t whole left s begun pages later first midway gone opening
        legal back memory active taken it nothing);
    tables = tables;
    found = bare_has_found packed_form size (left_state everyone s.state) later (layout_left gone midway.layout it.c)
        (reading_left gone midway.layout it.c midway.reading it.rc) it.sound bare_then new.state new.live;
    bare = bare_then;
  }

pub shows_left : RowsAreOne packed_form.coding → HasNoSequences packed_form → OthersKeepTables → BasesAreWithin
    → OwnRowsAreNew → SeenIsNotMade → ChangedAreThere → NoneOfGone → ShowsLeft
shows_left one no_pages keep_tables within fresh not_seen there none_left size o h e point t whole left s new begun pages
    later first midway gone opening legal grows back memory active taken follows number fewer it = shows_left_by one
    no_pages keep_tables within fresh not_seen there none_left size o h e point t whole left s new begun pages later first
    midway gone opening legal grows back memory active taken follows number fewer it
