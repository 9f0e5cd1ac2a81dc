-- The tables that a transaction sees, by what its rows of the catalog are: those of the database, those of a view
-- whose base was taken just now, and its own laid over the database.
use Rattle.std.proofs.Common.{◌≡◌, ◌≢◌, ◌⊎◌, inl, inr, refl, sym, ap, ◌∙◌, ℕ, Bool, true, false, ◌&&◌, ◌||◌, ◌==◌, List, ◌∷◌, ◌++◌, Some}
use Rattle.std.specs.Prelude.{map}
use Rattle.std.proofs.Math.Path.{fun_ext}
use Rattle.std.proofs.lemmas.Bool.{cases_eq, eq-eqb, eqb-true, ne_eqb}
use Rattle.mg_base.specs.declared.numbers.TxNo.{TxNo}
use Rattle.mg_base.specs.declared.transaction.TxState.{TxState}
use Rattle.mg_base.specs.declared.transaction.TxState.TheVariants.{Active, Committed, Dead, Limbo}
use Rattle.mg_value.specs.declared.shape.Shape.{Shape}
use Rattle.mg_model.specs.declared.answer.Answer.TheVariants.{Fine}
use Rattle.mg_model.specs.declared.event.Event.TheVariants.{Commit}
use Rattle.mg_model.specs.declared.opening.Opening.{Opening}
use Rattle.mg_model.specs.Answers.{if_active, is_active, is_committed, number, told}
use Rattle.mg_model.specs.Catalog.{catalog_name}
use Rattle.mg_model.specs.Changes.{row_at}
use Rattle.mg_model.specs.History.{Entries, Entry, entry}
use Rattle.mg_model.specs.Legal.{IsLegal, MayBegin, is_limbo}
use Rattle.mg_model.specs.Machine.{database, own, state_of, view}
use Rattle.mg_records.specs.Reading.{shape_named, shape_seen}
use Rattle.mg_generation_laws.specs.Generations.{sees as sees_told, shown_by}
use Rattle.mg_generation_laws.specs.Laws.{ChainsShowDatabase, ChainsShowViews}
use Rattle.mg_snap.specs.Live.{State, sees}
use Rattle.mg_image.specs.Catalog.{committed_with}
use Rattle.mg_image.specs.Form.{Pages}
use Rattle.mg_image.specs.RecordRules.{Facts}
use Rattle.mg_overlay_laws.specs.Overlays.{left_by}
use Rattle.mg_engine_step_laws.specs.standing.StandingLaws.{ChainsGoOn}
use Rattle.mg_engine_step_laws.specs.standing.Standing.{Standing}
use Rattle.mg_engine_step_laws.specs.standing.Known.{KnowsPages, facts_shown}
use Rattle.mg_engine_step_laws.specs.tables.NamedTables.{HasTableWith, TellsCommitted, named_tables_stand}

-- ---- definitions

-- each table that the catalog's rows of the database name stands on the pages
abbrev pub DatabaseTablesStand : Type 0
DatabaseTablesStand = (size : ℕ) (o : Opening) (h : Entries) (s : Standing) (pages : Pages)
    (knows : KnowsPages size o h s pages) (name : List ℕ) (shape : Shape)
    → shape_named (row_at (database o h) catalog_name) name ≡ Some shape
    → HasTableWith (map (λ stand. stand.table) knows.shows.layout.tables) name shape

-- the base of a transaction sees each one that is committed: it was taken just now
abbrev pub SeesAllCommitted : Opening → Entries → State → ℕ → Type 0
SeesAllCommitted o h live t = (u : ℕ) → state_of o h u ≡ Committed → sees live t u ≡ true

-- each table that the history tells such a transaction stands on the pages
abbrev pub SeenTablesStand : Type 0
SeenTablesStand = (size : ℕ) (o : Opening) (h : Entries) (s : Standing) (pages : Pages)
    (knows : KnowsPages size o h s pages) (t : TxNo) (name : List ℕ) (shape : Shape)
    → state_of o h t.0 ≡ Active → SeesAllCommitted o h s.live t.0
    → shape_seen o h t.0 name ≡ Some shape
    → HasTableWith (map (λ stand. stand.table) knows.shows.layout.tables) name shape

-- and each that an active transaction would see with a new base
abbrev pub NewlySeenTablesStand : Type 0
NewlySeenTablesStand = (size : ℕ) (o : Opening) (h : Entries) (s : Standing) (pages : Pages)
    (knows : KnowsPages size o h s pages) (t : ℕ) (name : List ℕ) (shape : Shape) → MayBegin o
    → IsLegal o h → state_of o h t ≡ Active
    → shape_named (row_at (own o h t ++ database o h) catalog_name) name ≡ Some shape
    → HasTableWith (map (λ stand. stand.table) knows.shows.layout.tables) name shape

-- ---- who counts

module _ (size : ℕ) (o : Opening) (h : Entries) (s : Standing) (pages : Pages)
    (knows : KnowsPages size o h s pages) where
  abbrev f : Facts
  f = facts_shown size o h s pages knows

  -- nobody who has not ended is chosen: the committed ones count
  none_counts : (u : ℕ) → is_committed (state_of o h u) ≡ committed_with f (λ v. false) u
  none_counts u = ap is_committed (sym (knows.memory.state u)) ∙ at (s.state u)
    where
      at : (x : TxState) → is_committed x
          ≡ (is_committed (left_by true x) || (is_limbo (left_by true x) && false))
      at Active = refl
      at Limbo = refl
      at Dead = refl
      at Committed = refl

  pub tells_database : ChainsShowDatabase → TellsCommitted size o h s pages knows (λ v. false) (database o h)
  tells_database shows key chain stand =
      shows o h knows.shows.layout.catalog.table.name key chain stand
      ∙ ap (λ (counts : ℕ → Bool). shown_by counts chain) (fun_ext none_counts)

  -- an active one is chosen: it counts, and the committed ones
  module _ (t : ℕ) (active : state_of o h t ≡ Active) where
    its_counts : (u : ℕ) → ((u == t) || is_committed (state_of o h u)) ≡ committed_with f (λ v. v == t) u
    its_counts u = ap (λ (x : TxState). (u == t) || is_committed x) (sym (knows.memory.state u))
        ∙ by (u == t) refl (s.state u) refl
      where
        by : (b : Bool) → (u == t) ≡ b → (x : TxState) → s.state u ≡ x
            → ((u == t) || is_committed (s.state u)) ≡ committed_with f (λ v. v == t) u
        by true own x is =
            let limbo : f.state u ≡ Limbo = ap (λ (n : ℕ). left_by true (s.state n)) (eqb-true u t own)
            ∙ ap (left_by true) (knows.memory.state t ∙ active) in rw (own, limbo) refl
        by false other Active is = rw (other, is) refl
        by false other Limbo is = rw (other, is) refl
        by false other Dead is = rw (other, is) refl
        by false other Committed is = rw (other, is) refl

    pub tells_view : ChainsShowViews → SeesAllCommitted o h s.live t
        → TellsCommitted size o h s pages knows (λ v. v == t) (view o h t)
    tells_view views fresh key chain stand =
        views o h knows.shows.layout.catalog.table.name key chain t stand (ap is_active active)
        ∙ ap (λ (counts : ℕ → Bool). shown_by counts chain) (fun_ext sees_as)
      where
        sees_as : (u : ℕ) → sees_told (told o h) t u ≡ committed_with f (λ v. v == t) u
        sees_as u = ap (λ (b : Bool). (u == t) || b) (sym (knows.memory.live.base t u active)
            ∙ at (state_of o h u) refl) ∙ its_counts u
          where
            at : (x : TxState) → state_of o h u ≡ x
                → (is_committed (state_of o h u) && sees s.live t u) ≡ is_committed (state_of o h u)
            at Active is = rw is refl
            at Limbo is = rw is refl
            at Dead is = rw is refl
            at Committed is = rw (is, fresh u is) refl

    -- the database as it would be with the transaction's commit
    pub tells_with_own : MayBegin o → IsLegal o h → ChainsGoOn → ChainsShowDatabase
        → TellsCommitted size o h s pages knows (λ v. v == t) (own o h t ++ database o h)
    tells_with_own opening legal go_on shows key chain stand =
        shows o (commits ∷ h) knows.shows.layout.catalog.table.name key chain
        (go_on o h commits knows.shows.layout.catalog.table.name key chain opening (lawful, legal) stand)
        ∙ ap (λ (counts : ℕ → Bool). shown_by counts chain) (fun_ext (λ u. at u (cases_eq u t)))
      where
        commits : Entry
        commits = entry (Commit (number t)) Fine

        lawful : (Fine ≡ if_active (state_of o h t) Fine) ⊎ (false ≡ true)
        lawful = inl (sym (ap (λ (x : TxState). if_active x Fine) active))

        at : (u : ℕ) → (u ≡ t) ⊎ (u ≢ t)
            → is_committed (state_of o (commits ∷ h) u) ≡ committed_with f (λ v. v == t) u
        at u (inl same) = rw (eq-eqb t u (sym same)) (its_true ∙ its_counts u)
          where
            its_true : true ≡ ((u == t) || is_committed (state_of o h u))
            its_true = rw (eq-eqb u t same) refl
        at u (inr ne) = rw (ne_eqb t u (λ same. ne (sym same))) (its_off ∙ its_counts u)
          where
            its_off : is_committed (state_of o h u) ≡ ((u == t) || is_committed (state_of o h u))
            its_off = rw (ne_eqb u t ne) refl

-- ---- the laws

pub database_tables_stand : ChainsShowDatabase → DatabaseTablesStand
database_tables_stand shows size o h s pages knows name shape named =
    named_tables_stand size o h s pages knows (λ v. false) (database o h) name shape
    (tells_database size o h s pages knows shows) named

pub seen_tables_stand : ChainsShowViews → SeenTablesStand
seen_tables_stand views size o h s pages knows t name shape active fresh seen =
    named_tables_stand size o h s pages knows (λ v. v == t.0) (view o h t.0) name shape
    (tells_view size o h s pages knows t.0 active views fresh) seen

pub newly_seen_tables_stand : ChainsGoOn → ChainsShowDatabase → NewlySeenTablesStand
newly_seen_tables_stand go_on shows size o h s pages knows t name shape opening legal active named =
    named_tables_stand size o h s pages knows (λ v. v == t) (own o h t ++ database o h) name shape
    (tells_with_own size o h s pages knows t active opening legal go_on shows) named
