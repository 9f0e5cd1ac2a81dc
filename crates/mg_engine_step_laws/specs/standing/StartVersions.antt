-- The records of a sound image have the versions that a history begins with.
use Rattle.std.proofs.Common.{◌≡◌, ◌≢◌, ◌⊎◌, inl, inr, ℕ, Bool, true, false, List, [], ◌∷◌, Option, None, Some, refl, sym, ap, ◌∙◌, subst}
use Rattle.std.proofs.lemmas.Bool.{eq-eqb, eqb-true, false≢true}
use Rattle.std.specs.Prelude.{cond, if◌then◌else◌, is_some, map}
use Rattle.mg_base.specs.declared.numbers.RecId.{RecId}
use Rattle.mg_base.specs.declared.transaction.TxState.{TxState}
use Rattle.mg_base.specs.declared.transaction.TxState.TheVariants.{Active, Committed, Dead, Limbo}
use Rattle.mg_value.specs.declared.value.Value.{Value}
use Rattle.mg_model.specs.declared.change.Change.{Change as AnyChange}
use Rattle.mg_model.specs.declared.opening.Opening.{Opening}
use Rattle.mg_model.specs.declared.table.Table.{Table}
use Rattle.mg_model.specs.Answers.{is_committed, is_open}
use Rattle.mg_model.specs.Changes.{Cells, has_change, is_at, row_at}
use Rattle.mg_model.specs.Machine.{opening_rows, opening_state, own}
use Rattle.mg_generation_laws.specs.Generations.{AreFirst, EachGeneration, EachOlder, Generation, is_newest_by, newest_row, shown_by}
use Rattle.mg_image.specs.declared.entry.Entry.{Entry}
use Rattle.mg_image.specs.FactLaws.{shown_keyed}
use Rattle.mg_image.specs.Form.{Form, Pages, Row}
use Rattle.mg_image.specs.Held.{AreChanges, Changes, Database, HasLimbo, HasTable, IsChangedAt, IsHeld, IsHeldAt, told_change, told_row}
use Rattle.mg_image.specs.Histories.{newest_at, row_change}
use Rattle.mg_image.specs.RecordRules.{Each, EachBack, Facts, TakesKey, committed_in}
use Rattle.mg_image.specs.Records.{Change, Erases, Puts, Reading, change_in, key_of, record_key, shown, writer}
use Rattle.mg_image.specs.Sound.{IsSoundBy, facts_by}
use Rattle.mg_image.specs.Tables.{Layout}
use Rattle.mg_image_overlay_laws.specs.records.Fronts.{is_dead}
use Rattle.mg_image_overlay_laws.specs.tables.TableOwners.{one_of_name, owned}
use Rattle.mg_engine_step_laws.specs.standing.Speakers.{TakesHere, one_here}
use Rattle.mg_seek.specs.Histories.{told_given, told_versions}
use Rattle.mg_engine_step_laws.specs.standing.Versions.{told_version}

-- ---- changes as lists

newest_has : (cs : List AnyChange) (name : List ℕ) (key : Value)
    → has_change cs name key ≡ is_some (newest_at cs name key)
newest_has [] name key = refl
newest_has (c ∷ cs) name key = at (is_at c name key) (newest_has cs name key)
  where
    at : (b : Bool) → has_change cs name key ≡ is_some (newest_at cs name key)
        → cond b true (has_change cs name key)
        ≡ is_some (cond b (Some (row_change c.row)) (newest_at cs name key))
    at true more = refl
    at false more = more

newest_given : (cs : List AnyChange) (name : List ℕ) (key : Value) (c : Change)
    → newest_at cs name key ≡ Some c → row_change (row_at cs name key) ≡ c
newest_given [] name key c is = absurd cc
newest_given (d ∷ cs) name key c is = at (is_at d name key) is (newest_given cs name key c)
  where
    at : (b : Bool) → cond b (Some (row_change d.row)) (newest_at cs name key) ≡ Some c
        → (newest_at cs name key ≡ Some c → row_change (row_at cs name key) ≡ c)
        → row_change (cond b d.row (row_at cs name key)) ≡ c
    at true here more = let same : row_change d.row ≡ c = cc in same
    at false there more = more there

-- the row that a change gives is the one that the version gives which makes it
given_of : (table : Table) (e : Entry) (row : Option Cells)
    → row_change row ≡ told_change table (change_in e) → row ≡ told_given table e
given_of table e row is = at e.version.deleted row is
  where
    at : (deleted : Bool) (row : Option Cells)
        → row_change row ≡ told_change table (if deleted then Erases else Puts e.row)
        → row ≡ (if deleted then None else Some (told_row table e.row))
    at true None is_ = refl
    at true (Some x) is_ = absurd cc
    at false None is_ = absurd cc
    at false (Some x) is_ = let same : x ≡ told_row table e.row = cc in ap Some same

-- ---- versions as lists

abbrev told_shown : Table → Option Row → Option Row
told_shown table None = None
told_shown table (Some row) = Some (told_row table row)

shown_told : (counts : ℕ → Bool) (table : Table) (es : List Entry)
    → shown_by counts (map (told_version table) es) ≡ told_shown table (shown counts es)
shown_told counts table [] = refl
shown_told counts table (e ∷ es) = at (counts (writer e)) e.version.deleted (shown_told counts table es)
  where
    at : (c d : Bool) → shown_by counts (map (told_version table) es) ≡ told_shown table (shown counts es)
        → cond c (cond d None (Some (told_row table e.row))) (shown_by counts (map (told_version table) es))
        ≡ told_shown table (cond c (cond d None (Some e.row)) (shown counts es))
    at true true more = refl
    at true false more = refl
    at false d more = more

dead_is : (s : TxState) → is_dead s ≡ true → s ≡ Dead
dead_is Active is = absurd (false≢true is)
dead_is Limbo is = absurd (false≢true is)
dead_is Dead is = refl
dead_is Committed is = absurd (false≢true is)

not_dead : (s : TxState) → is_dead s ≡ false → s ≢ Dead
not_dead s is dead = false≢true (sym is ∙ ap is_dead dead)

-- what counts shows what all show
living_shown : (state : ℕ → TxState) (table : Table) (es : List Entry)
    → shown_by (λ u. is_committed (state u)) (told_versions state table es)
    ≡ shown_by (λ u. is_committed (state u)) (map (told_version table) es)
living_shown state table [] = refl
living_shown state table (e ∷ es) = at (is_dead (state (writer e))) refl
  where
    at : (b : Bool) → is_dead (state (writer e)) ≡ b
        → shown_by (λ u. is_committed (state u)) (map (told_version table) (cond b es (e ∷ es)))
        ≡ shown_by (λ u. is_committed (state u)) (map (told_version table) (e ∷ es))
    at true is =
        let not_ : is_committed (state (writer e)) ≡ false = ap is_committed (dead_is (state (writer e)) is) in
        rw not_ refl
    at false is = refl

each_committed : (state : ℕ → TxState) (table : Table) (es : List Entry)
    → Each (λ e. state (writer e) ≡ Committed) es
    → EachGeneration (λ g. state g.writer ≡ Committed) (map (told_version table) es)
each_committed state table [] each = tt
each_committed state table (e ∷ es) each = (each.0, each_committed state table es each.1)

each_alive : (state : ℕ → TxState) (table : Table) (es : List Entry)
    → Each (λ e. state (writer e) ≡ Committed) es
    → EachGeneration (λ g. state g.writer ≢ Dead) (map (told_version table) es)
each_alive state table [] each = tt
each_alive state table (e ∷ es) each = (
  λ dead. let both : Dead ≡ Committed = sym dead ∙ each.0 in absurd cc,
  each_alive state table es each.1,
)

pub alive_told : (state : ℕ → TxState) (table : Table) (es : List Entry)
    → EachBack (λ e. state (writer e) ≡ Committed) es
    → EachGeneration (λ g. state g.writer ≢ Dead) (told_versions state table es)
alive_told state table [] backs = tt
alive_told state table (e ∷ es) backs = at (is_dead (state (writer e))) refl
  where
    at : (b : Bool) → is_dead (state (writer e)) ≡ b
        → EachGeneration (λ g. state g.writer ≢ Dead) (map (told_version table) (cond b es (e ∷ es)))
    at true is = each_alive state table es backs
    at false is = (not_dead (state (writer e)) is, each_alive state table es backs)

pub backs_told : (state : ℕ → TxState) (table : Table) (es : List Entry)
    → EachBack (λ e. state (writer e) ≡ Committed) es
    → EachOlder (λ g. state g.writer ≡ Committed) (told_versions state table es)
backs_told state table [] backs = tt
backs_told state table (e ∷ es) backs = at (is_dead (state (writer e))) es backs
  where
    at : (b : Bool) (es : List Entry) → Each (λ e. state (writer e) ≡ Committed) es
        → EachOlder (λ g. state g.writer ≡ Committed) (map (told_version table) (cond b es (e ∷ es)))
    at true [] each = tt
    at true (d ∷ ds) each = each_committed state table ds each.1
    at false es each = each_committed state table es each

-- the newest that counts of a record is of a transaction in limbo only where its newest one is
pub newest_limbo : (state : ℕ → TxState) (table : Table) (t : ℕ) (es : List Entry)
    → EachBack (λ e. state (writer e) ≡ Committed) es → state t ≡ Limbo
    → is_newest_by t (told_versions state table es) ≡ true
    → (e : Entry) × (older : List Entry) × (es ≡ e ∷ older) × (writer e ≡ t)
newest_limbo state table t [] backs limbo is = absurd (false≢true is)
newest_limbo state table t (e ∷ es) backs limbo is = at (is_dead (state (writer e))) refl es backs is
  where
    at : (b : Bool) → is_dead (state (writer e)) ≡ b → (es : List Entry)
        → Each (λ e. state (writer e) ≡ Committed) es
        → is_newest_by t (map (told_version table) (cond b es (e ∷ es))) ≡ true
        → (d : Entry) × (older : List Entry) × ((e ∷ es) ≡ d ∷ older) × (writer d ≡ t)
    at true dead [] each its = absurd (false≢true its)
    at true dead (d ∷ ds) each its =
        let same : writer d ≡ t = eqb-true (writer d) t its in
        let both : Committed ≡ Limbo = sym each.0 ∙ (ap state same ∙ limbo) in absurd cc
    at false alive es each its = (e, es, refl, eqb-true (writer e) t its)

-- ---- the versions of a key

module _ (o : Opening) (idle : (t : ℕ) → opening_state o t ≢ Active) (form : Form) (size : ℕ)
    (pages : Pages) (layout : Layout) (r : Reading)
    (sound : IsSoundBy form size (opening_state o) pages layout r) (db : Database) (changes : Changes)
    (held : IsHeld (facts_by (opening_state o) pages layout)
    (committed_in (facts_by (opening_state o) pages layout)) r db)
    (changed : AreChanges (facts_by (opening_state o) pages layout) r changes)
    (rows_are : (name : List ℕ) (key : Value) → db name key ≡ row_at (opening_rows o) name key)
    (changes_are : (t : ℕ) (name : List ℕ) (key : Value)
    → changes t name key ≡ newest_at (own o [] t) name key) where
  abbrev f : Facts
  f = facts_by (opening_state o) pages layout

  abbrev state : ℕ → TxState
  state = opening_state o

  open_limbo : (t : ℕ) → is_open (state t) ≡ true → state t ≡ Limbo
  open_limbo t is = at (state t) (idle t) is
    where
      at : (s : TxState) → s ≢ Active → is_open s ≡ true → s ≡ Limbo
      at Active not_ is_ = absurd (not_ refl)
      at Limbo not_ is_ = refl
      at Dead not_ is_ = absurd (false≢true is_)
      at Committed not_ is_ = absurd (false≢true is_)

  -- a key that a transaction in limbo has changed is taken by a record
  changed_here : (t : ℕ) (name : List ℕ) (key : Value) → has_change (own o [] t) name key ≡ true
      → (c : Change) × IsChangedAt f r t name key c × (newest_at (own o [] t) name key ≡ Some c)
  changed_here t name key has = at (newest_at (own o [] t) name key) refl
    where
      at : (x : Option Change) → newest_at (own o [] t) name key ≡ x
          → (c : Change) × IsChangedAt f r t name key c × (newest_at (own o [] t) name key ≡ Some c)
      at None none = absurd (false≢true (sym (newest_has (own o [] t) name key ∙ ap is_some none) ∙ has))
      at (Some c) is = (c, changed.whole t name key c (changes_are t name key ∙ is), is)

  changed_takes : (t : ℕ) (name : List ℕ) (key : Value) (c : Change) (at_ : IsChangedAt f r t name key c)
      → TakesHere f r name key at_.place
  changed_takes t name key c at_ = record {
    table = at_.table;
    of_table = at_.limbo.of_table;
    named = at_.named;
    keyed = ap (record_key at_.table) at_.limbo.newest ∙ at_.keyed;
    takes = subst (λ (es : List Entry). TakesKey f es) (sym at_.limbo.newest) (inr at_.limbo.limbo);
  }

  shown_takes : (name : List ℕ) (key : Value) (row : Row) (at_ : IsHeldAt f (committed_in f) r name key row)
      → TakesHere f r name key at_.place
  shown_takes name key row at_ = record {
    table = at_.table;
    of_table = at_.shows.of_table;
    named = at_.named;
    keyed = sym (shown_keyed form.coding f at_.table (record_key at_.table (r at_.place)) (committed_in f)
        (r at_.place) at_.stored (sound.records.each at_.place at_.table at_.shows.of_table).each
        at_.shows.row_shown) ∙ at_.keyed;
    takes = inl (at_.stored, at_.shows.row_shown);
  }

  -- where no record takes a key, the history begins with no versions of it
  pub none_first : (name : List ℕ) (key : Value) → ((p : RecId) → TakesHere f r name key p → ⊥)
      → AreFirst o name key []
  none_first name key none = record {
    alive = tt;
    backs = tt;
    open_ = λ t is. unchanged t (has_change (own o [] t) name key) refl;
    gives = λ t is newest. absurd (false≢true newest);
    shows = sym (rows_are name key) ∙ no_row (db name key) refl;
  }
    where
      unchanged : (t : ℕ) (b : Bool) → has_change (own o [] t) name key ≡ b
          → has_change (own o [] t) name key ≡ false
      unchanged t false is = is
      unchanged t true is = absurd (by (changed_here t name key is))
        where
          by : (c : Change) × IsChangedAt f r t name key c × (newest_at (own o [] t) name key ≡ Some c) → ⊥
          by (c, at_, is_) = none at_.place (changed_takes t name key c at_)

      no_row : (x : Option Row) → db name key ≡ x → db name key ≡ None
      no_row None is = is
      no_row (Some row) is =
          absurd (none (held.whole name key row is).place (shown_takes name key row (held.whole name key row is)))

  module _ (name : List ℕ) (key : Value) (p : RecId) (here : TakesHere f r name key p) where
    abbrev gs : List Generation
    gs = told_versions state here.table (r p)

    backs : EachBack (λ e. state (writer e) ≡ Committed) (r p)
    backs = (sound.records.each p here.table here.of_table).backs

    -- whose change has the key wrote the newest version
    changed_newest : (t : ℕ) (c : Change) (at_ : IsChangedAt f r t name key c)
        → (r p ≡ at_.version ∷ at_.limbo.older) × (at_.table ≡ here.table)
    changed_newest t c at_ = (
      ap r same ∙ at_.limbo.newest,
      one_of_name form size state pages layout r sound at_.place p at_.table here.table
          at_.limbo.of_table here.of_table (at_.named ∙ sym here.named),
    )
      where
        same : p ≡ at_.place
        same = one_here form size state pages layout r sound name key p at_.place here
            (changed_takes t name key c at_)

    newest_its : (t : ℕ) (e : Entry) (older : List Entry) → r p ≡ e ∷ older → writer e ≡ t
        → state t ≡ Limbo → is_newest_by t gs ≡ true
    newest_its t e older is its limbo =
        let alive : is_dead (state (writer e)) ≡ false = ap (λ (n : ℕ). is_dead (state n)) its ∙ ap is_dead limbo in
        ap (λ (es : List Entry). is_newest_by t (told_versions state here.table es)) is
        ∙ rw alive (eq-eqb (writer e) t its)

    has_by : (t : ℕ) → state t ≡ Limbo → is_newest_by t gs ≡ true
        → has_change (own o [] t) name key ≡ true
    has_by t limbo is = by (newest_limbo state here.table t (r p) backs limbo is)
      where
        by : (e : Entry) × (older : List Entry) × (r p ≡ e ∷ older) × (writer e ≡ t)
            → has_change (own o [] t) name key ≡ true
        by (e, older, newest, its) =
            let has : HasLimbo f r p here.table e = record {
              of_table = here.of_table;
              older = older;
              newest = newest;
              limbo = ap state its ∙ limbo;
            } in
            let keyed : key_of here.table e.row ≡ key =
            sym (ap (record_key here.table) newest) ∙ here.keyed in
            let there : changes t name key ≡ Some (told_change here.table (change_in e)) =
            ap (λ (n : ℕ). changes n name key) (sym its)
            ∙ (ap (λ (n : List ℕ). changes (writer e) n key) (sym here.named)
            ∙ (ap (changes (writer e) here.table.name) (sym keyed) ∙ changed.there p here.table e has)) in
            newest_has (own o [] t) name key ∙ ap is_some (sym (changes_are t name key) ∙ there)

    open_is : (t : ℕ) → is_open (state t) ≡ true
        → has_change (own o [] t) name key ≡ is_newest_by t gs
    open_is t opened = at (has_change (own o [] t) name key) refl (is_newest_by t gs) refl
      where
        at : (a : Bool) → has_change (own o [] t) name key ≡ a → (b : Bool) → is_newest_by t gs ≡ b
            → has_change (own o [] t) name key ≡ is_newest_by t gs
        at true has true newest = has ∙ sym newest
        at false has false newest = has ∙ sym newest
        at false has true newest =
            absurd (false≢true (sym has ∙ has_by t (open_limbo t opened) newest))
        at true has false newest = by (changed_here t name key has)
          where
            by : (c : Change) × IsChangedAt f r t name key c × (newest_at (own o [] t) name key ≡ Some c)
                → has_change (own o [] t) name key ≡ is_newest_by t gs
            by (c, at_, is_) = has ∙ sym (newest_its t at_.version at_.limbo.older
                (changed_newest t c at_).0 at_.its_own (open_limbo t opened))

    gives_is : (t : ℕ) → is_open (state t) ≡ true → is_newest_by t gs ≡ true
        → row_at (own o [] t) name key ≡ newest_row gs
    gives_is t opened newest =
        by (changed_here t name key (has_by t (open_limbo t opened) newest))
      where
        by : (c : Change) × IsChangedAt f r t name key c × (newest_at (own o [] t) name key ≡ Some c)
            → row_at (own o [] t) name key ≡ newest_row gs
        by (c, at_, is_) =
            let both = changed_newest t c at_ in
            let alive : is_dead (state (writer at_.version)) ≡ false = ap is_dead at_.limbo.limbo in
            let row : newest_row gs ≡ told_given here.table at_.version =
            ap (λ (es : List Entry). newest_row (told_versions state here.table es)) both.0
            ∙ rw alive refl in
            given_of here.table at_.version (row_at (own o [] t) name key)
            (newest_given (own o [] t) name key c is_
            ∙ (sym at_.told ∙ ap (λ (x : Table). told_change x (change_in at_.version)) both.1))
            ∙ sym row

    keyed_row : (row : Row) → shown (committed_in f) (r p) ≡ Some row → key_of here.table row ≡ key
    keyed_row row shows = shown_keyed form.coding f here.table (record_key here.table (r p))
        (committed_in f) (r p) row (sound.records.each p here.table here.of_table).each shows ∙ here.keyed

    row_is : (x : Option Row) → shown (committed_in f) (r p) ≡ x → db name key ≡ told_shown here.table x
    row_is (Some row) shows = by
        ((owned form size state pages layout r sound db changes held changed).own p here.table here.of_table)
      where
        by : HasTable db here.table.name ⊎ (shown (committed_in f) (r p) ≡ None)
            → db name key ≡ Some (told_row here.table row)
        by (inr none) = let both : Some row ≡ None = sym shows ∙ none in absurd cc
        by (inl has) = ap (λ (n : List ℕ). db n key) (sym here.named)
            ∙ (ap (db here.table.name) (sym (keyed_row row shows))
            ∙ held.there p here.table row (record { of_table = here.of_table; row_shown = shows }) has)
    row_is None shows = at (db name key) refl
      where
        at : (x : Option Row) → db name key ≡ x → db name key ≡ None
        at None is = is
        at (Some row) is =
            let where_ = held.whole name key row is in
            let same : where_.place ≡ p = one_here form size state pages layout r sound name key where_.place p
            (shown_takes name key row where_) here in
            let both : Some where_.stored ≡ None = sym where_.shows.row_shown
            ∙ (ap (λ (q : RecId). shown (committed_in f) (r q)) same ∙ shows) in
            absurd cc

    pub here_first : AreFirst o name key gs
    here_first = record {
      alive = alive_told state here.table (r p) backs;
      backs = backs_told state here.table (r p) backs;
      open_ = open_is;
      gives = gives_is;
      shows = sym (rows_are name key) ∙ (row_is (shown (committed_in f) (r p)) refl
          ∙ (sym (shown_told (committed_in f) here.table (r p))
          ∙ sym (living_shown state here.table (r p))));
    }
