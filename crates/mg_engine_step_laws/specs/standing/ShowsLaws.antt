-- Pages on which no record is changed go on to show a history.
use Rattle.std.proofs.Common.{◌≡◌, ◌⊎◌, inl, inr, ◌<◌, ℕ, Bool, true, List, [], ◌∷◌, Option, None, Some, refl, sym, ap, ◌∙◌, subst}
use Rattle.std.specs.Prelude.{if◌then◌else◌}
use Rattle.mg_base.specs.declared.numbers.RecId.{RecId}
use Rattle.mg_base.specs.declared.transaction.TxState.{TxState}
use Rattle.mg_base.specs.declared.transaction.TxState.TheVariants.{Active, Limbo, Dead, Committed}
use Rattle.mg_model.specs.declared.change.Change.{Change}
use Rattle.mg_model.specs.declared.opening.Opening.{Opening}
use Rattle.mg_model.specs.declared.table.Table.{Table}
use Rattle.mg_model.specs.Changes.{has_change}
use Rattle.mg_model.specs.History.{Entries, Entry}
use Rattle.mg_model.specs.Openings.{everyone}
use Rattle.mg_image.specs.declared.entry.Entry.{Entry as Read}
use Rattle.mg_image.specs.Form.{Coding, Form}
use Rattle.mg_image.specs.RecordRules.{AreRecords, Each, Facts, IsVersion, table_in}
use Rattle.mg_image.specs.Records.{Cells, Reading, record_key, writer}
use Rattle.mg_image.specs.Sound.{IsSoundBy, facts_by}
use Rattle.mg_image.specs.Tables.{Layout, stands_of}
use Rattle.mg_image_overlay_laws.specs.records.Fronts.{is_dead, living}
use Rattle.mg_overlay_laws.specs.Overlays.{left_by, left_state}
use Rattle.mg_engine_step_laws.specs.standing.BareLaws.{bare_has_found}
use Rattle.mg_engine_step_laws.specs.standing.Following.{KeepsTables, ShowsOn}
use Rattle.mg_engine_step_laws.specs.standing.Standing.{FindsTables, HasFirstPage, Standing}
use Rattle.mg_engine_step_laws.specs.standing.VersionsLaws.{versions_stay_by}

-- the newest version of a record is of a transaction that was drawn
newest_drawn : (coding : Coding) (f : Facts) (h : Cells) (r : Reading) → AreRecords coding f h r
    → (p : RecId) (e : Read) (es : List Read) → r p ≡ e ∷ es → writer e < f.next
newest_drawn coding f h r are p e es is = at (table_in f p) refl
  where
    at : (table : Option Table) → table_in f p ≡ table → writer e < f.next
    at None none = let both : [] ≡ e ∷ es = sym (are.outside p none) ∙ is in absurd cc
    at (Some table) of =
        let each : Each (IsVersion coding f table (record_key table (e ∷ es))) (e ∷ es) =
        subst (λ (vs : List Read). Each (IsVersion coding f table (record_key table vs)) vs) is
        (are.each p table of).each in
        each.0.drawn

dead_left : (s : TxState) → is_dead (left_by true s) ≡ is_dead s
dead_left Active = refl
dead_left Limbo = refl
dead_left Dead = refl
dead_left Committed = refl

-- where the same drawn transactions are dead, the same versions count
pub same_living : (coding : Coding) (f : Facts) (h : Cells) (r : Reading) (now : ℕ → TxState)
    → AreRecords coding f h r → ((t : ℕ) → t < f.next → is_dead (now t) ≡ is_dead (f.state t))
    → (p : RecId) → living now (r p) ≡ living f.state (r p)
same_living coding f h r now are same p = at (r p) refl
  where
    at : (es : List Read) → r p ≡ es → living now es ≡ living f.state es
    at [] is = refl
    at (e ∷ es) is = ap (λ (b : Bool). if b then es else e ∷ es)
        (same (writer e) (newest_drawn coding f h r are p e es is))

-- a transaction that sees the same, and has changed the same, finds its tables
pub tables_kept : (o : Opening) (h : Entries) (e : Entry) (s new : Standing) (layout : Layout) (t : ℕ)
    → KeepsTables o h e s new t → FindsTables o h s layout t → FindsTables o (e ∷ h) new layout t
tables_kept o h e s new layout t keeps finds = record {
  seen = λ name table is. finds.seen name table (sym (keeps.table name) ∙ is);
  changed = λ name key has. subst (λ (n : List ℕ → ℕ). HasFirstPage (stands_of layout) name (n name))
      (sym keeps.number) (finds.changed name key
      (ap (λ (cs : List Change). has_change cs name key) (sym keeps.own_same) ∙ has));
}

pub shows_on : (form : Form) → ShowsOn form
shows_on form size o h e s new pages later opening legal stay shows = record {
  layout = shows.layout;
  reading = shows.reading;
  sound = sound;
  next = stay.next;
  versions = versions_stay_by o h e (facts_by (left_state everyone s.state) pages shows.layout)
      (facts_by (left_state everyone new.state) later shows.layout) shows.reading opening legal
      stay.quiet (λ n. refl) living_same shows.versions;
  tables = λ t active. at t (stay.tables shows.layout shows.reading sound t active);
  found = bare_has_found form size (left_state everyone new.state) later shows.layout shows.reading sound shows.bare
      new.state new.live;
  bare = shows.bare;
}
  where
    sound : IsSoundBy form size (left_state everyone new.state) later shows.layout shows.reading
    sound = stay.sound shows.layout shows.reading shows.sound

    living_same : (p : RecId) → living (left_state everyone new.state) (shows.reading p)
        ≡ living (left_state everyone s.state) (shows.reading p)
    living_same p = same_living form.coding (facts_by (left_state everyone s.state) pages shows.layout)
        _ shows.reading (left_state everyone new.state) shows.sound.records
        (λ t drawn. dead_left (new.state t) ∙ (stay.alive t drawn ∙ sym (dead_left (s.state t)))) p

    at : (t : ℕ) → KeepsTables o h e s new t ⊎ FindsTables o (e ∷ h) new shows.layout t
        → FindsTables o (e ∷ h) new shows.layout t
    at t (inl keeps) = tables_kept o h e s new shows.layout t keeps (shows.tables t keeps.active)
    at t (inr finds) = finds
