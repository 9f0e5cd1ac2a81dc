-- What another transaction is shown of a record whose own newest version is taken back.
use Rattle.std.proofs.Common.{◌≡◌, ◌≢◌, ◌⊎◌, inl, inr, ◌==◌, ap, refl, sym, subst, ◌∙◌, ℕ, Bool, true, false, List, [], ◌∷◌, Option, None, Some}
use Rattle.std.specs.Prelude.{if◌then◌else◌}
use Rattle.std.proofs.lemmas.Bool.{cases_eq, eqb-true, false≢true, ne_eqb}
use Rattle.mg_base.specs.declared.numbers.RecId.{RecId}
use Rattle.mg_base.specs.declared.transaction.TxState.{TxState}
use Rattle.mg_base.specs.declared.transaction.TxState.TheVariants.{Active, Committed, Dead, Limbo}
use Rattle.mg_chain.specs.Chains.{takes_version}
use Rattle.mg_engine_step_laws.specs.reads.TableAnswers.{shown_key, shown_living}
use Rattle.mg_engine_step_laws.specs.backs.Shown.{IsTakenBack, ShowsMidway}
use Rattle.mg_engine_change_laws.specs.rows.RowWalks.{row_at_record}
use Rattle.mg_generation_laws.specs.After.{generations_back}
use Rattle.mg_generation_laws.specs.Generations.{Generation, put, shown_by, without_newest_by}
use Rattle.mg_image.specs.Catalog.{IsSameTable}
use Rattle.mg_image.specs.Form.{Pages, Row, packed_coding, packed_form}
use Rattle.mg_image.specs.Held.{told_row}
use Rattle.mg_image.specs.RecordRules.{Each, Facts, IsVersion, table_in}
use Rattle.mg_image.specs.Records.{Reading, key_of, record_key, shown, writer}
use Rattle.mg_image.specs.Sound.{facts_by}
use Rattle.mg_image.specs.declared.entry.Entry.{Entry as Read}
use Rattle.mg_image_overlay_laws.specs.records.Fronts.{is_dead, living}
use Rattle.mg_model.specs.Answers.{is_committed}
use Rattle.mg_model.specs.Changes.{KeyedRows, has_change, row_at}
use Rattle.mg_model.specs.History.{Entries, Entry}
use Rattle.mg_model.specs.Machine.{own}
use Rattle.mg_model.specs.Openings.{everyone}
use Rattle.mg_model.specs.declared.change.Change.{Change}
use Rattle.mg_model.specs.declared.opening.Opening.{Opening}
use Rattle.mg_model.specs.declared.table.Table.{Table}
use Rattle.mg_overlay_laws.specs.Overlays.{left_by, left_state}
use Rattle.mg_seek.specs.Histories.{told_all, told_if, told_versions}
use Rattle.mg_seek.specs.Walks.{keyed}
use Rattle.mg_engine_step_laws.specs.standing.Standing.{ShowsHistory, Standing}
use Rattle.mg_value.specs.declared.shape.Shape.{Shape}
use Rattle.mg_value.specs.declared.value.Value.{Value}

-- ---- rows by the versions that a history tells

abbrev with_key : Value → Option Row → KeyedRows
with_key key None = []
with_key key (Some row) = (key, row) ∷ []

told_shown : (counts : ℕ → Bool) (table : Table) (es : List Read)
    → shown_by counts (told_all table es) ≡ told_if table (shown counts es)
told_shown counts table [] = refl
told_shown counts table (e ∷ es) = at (counts (writer e)) e.version.deleted (told_shown counts table es)
  where
    at : (b d : Bool) → shown_by counts (told_all table es) ≡ told_if table (shown counts es)
        → (if b then (if d then None else Some (told_row table e.row)) else shown_by counts (told_all table es))
        ≡ told_if table (if b then (if d then None else Some e.row) else shown counts es)
    at true true more = refl
    at true false more = refl
    at false d more = more

keyed_told : (f : Facts) (counts : ℕ → Bool) (table : Table) (es : List Read)
    → Each (IsVersion packed_coding f table (record_key table es)) es
    → keyed table (shown counts es) [] ≡ with_key (record_key table es) (told_if table (shown counts es))
keyed_told f counts table es each = at (shown counts es) refl
  where
    at : (x : Option Row) → shown counts es ≡ x
        → keyed table x [] ≡ with_key (record_key table es) (told_if table x)
    at None is = refl
    at (Some row) is = ap (λ (k : Value). (k, told_row table row) ∷ [])
        (shown_key f counts table (record_key table es) es row each is)

-- a table that is another one but for its indexes
pub keyed_alike : (x table : Table) → IsSameTable x table → (row : Option Row) → keyed table row [] ≡ keyed x row []
keyed_alike x table same None = refl
keyed_alike x table same (Some row) =
    ap (λ (z : Shape). (key_of (record x { shape = z }) row, told_row table row) ∷ []) (sym same.shape)
    ∙ ap (λ (n : List ℕ). (key_of x row, told_row (record table { name = n }) row) ∷ []) (sym same.name)

-- ---- who counts for another one

module _ (t : ℕ) (counts : ℕ → Bool) (unseen : counts t ≡ false) where
  without_shown : (gs : List Generation) → shown_by counts (without_newest_by t gs) ≡ shown_by counts gs
  without_shown [] = refl
  without_shown (g ∷ gs) = at (g.writer == t) refl
    where
      at : (b : Bool) → (g.writer == t) ≡ b
          → shown_by counts (if b then gs else g ∷ gs) ≡ shown_by counts (g ∷ gs)
      at true its =
          let off : counts g.writer ≡ false = ap counts (eqb-true g.writer t its) ∙ unseen in
          sym (ap (λ (b : Bool). if b then g.row else shown_by counts gs) off)
      at false other = refl

  pub back_shown : (left : List Change) (name : List ℕ) (key : Value) (gs : List Generation)
      → shown_by counts (generations_back left t name key gs) ≡ shown_by counts gs
  back_shown left name key gs = at (has_change left name key)
    where
      at : (b : Bool) → shown_by counts (if b then put t (row_at left name key) gs else without_newest_by t gs)
          ≡ shown_by counts gs
      at true = ap (λ (b : Bool). if b then row_at left name key else shown_by counts (without_newest_by t gs)) unseen
          ∙ without_shown gs
      at false = without_shown gs

-- one that is active takes no version of another active one, and none of a dead one
module _ (s : Standing) (t u : ℕ) (back : s.state t ≡ Active) (active : s.state u ≡ Active) (apart : u ≢ t) where
  abbrev counts_of : ℕ → Bool
  counts_of = takes_version s.state s.live u

  pub unseen : takes_version s.state s.live u t ≡ false
  unseen =
      let other : (t == u) ≡ false = ne_eqb t u (λ same. apart (sym same)) in
      let open_ : is_committed (s.state t) ≡ false = ap is_committed back in rw (other, open_) refl

  pub dead_uncounted : (v : ℕ) → is_dead (left_state everyone s.state v) ≡ true
      → takes_version s.state s.live u v ≡ false
  dead_uncounted v gone = at (s.state v) refl
    where
      not_dead : (x : TxState) → s.state v ≡ x → is_dead (left_by true x) ≡ false
          → takes_version s.state s.live u v ≡ false
      not_dead x is off = absurd (false≢true (sym off ∙ (ap (λ (y : TxState). is_dead (left_by true y)) (sym is) ∙ gone)))

      at : (x : TxState) → s.state v ≡ x → takes_version s.state s.live u v ≡ false
      at Active is = not_dead Active is refl
      at Limbo is = not_dead Limbo is refl
      at Committed is = not_dead Committed is refl
      at Dead is = by (cases_eq v u)
        where
          by : (v ≡ u) ⊎ (v ≢ u) → takes_version s.state s.live u v ≡ false
          by (inl same) = let both : Dead ≡ Active = sym is ∙ (ap s.state same ∙ active) in absurd cc
          by (inr ne) =
              let other : (v == u) ≡ false = ne_eqb v u ne in
              let gone_ : is_committed (s.state v) ≡ false = ap is_committed is in rw (other, gone_) refl

-- ---- records in the middle

module _ (size : ℕ) (o : Opening) (h : Entries) (e : Entry) (t u : ℕ) (whole left : List Change) (s : Standing)
    (begun pages : Pages) (first : ShowsHistory packed_form size o h s begun)
    (midway : ShowsMidway packed_form size o h e t whole left s begun first pages) (back : s.state t ≡ Active)
    (active : s.state u ≡ Active) (apart : u ≢ t) where
  abbrev state : ℕ → TxState
  state = left_state everyone s.state

  abbrev counts : ℕ → Bool
  counts = takes_version s.state s.live u

  abbrev f0 : Facts
  f0 = facts_by (left_state everyone s.state) begun first.layout

  abbrev f : Facts
  f = facts_by (left_state everyone s.state) pages midway.layout

  abbrev r0 : Reading
  r0 = first.reading

  abbrev r : Reading
  r = midway.reading

  by_told : (g : Facts) → g.state ≡ left_state everyone s.state → (x : Table) (es : List Read)
      → Each (IsVersion packed_coding g x (record_key x es)) es
      → keyed x (shown (takes_version s.state s.live u) es) []
      ≡ with_key (record_key x es) (shown_by (takes_version s.state s.live u)
      (told_versions (left_state everyone s.state) x es))
  by_told g states x es each = keyed_told g counts x es each
      ∙ ap (with_key (record_key x es)) (ap (told_if x) (shown_living f0 counts
      (dead_uncounted s t u back active apart) es)
      ∙ sym (told_shown counts x (living (left_state everyone s.state) es)))

  -- another one is shown of a record what it was shown
  pub row_same : (p : RecId) (x : Table) → table_in f0 p ≡ Some x
      → row_at_record (takes_version s.state s.live u) x r p ≡ row_at_record (takes_version s.state s.live u) x r0 p
  row_same p x of = at (midway.each_record p)
    where
      there : table_in f p ≡ Some x
      there = midway.stays p x of

      back_row : IsTakenBack o h e t f0 r0 r first.versions.speaker p
          → row_at_record (takes_version s.state s.live u) x r p ≡ row_at_record (takes_version s.state s.live u) x r0 p
      back_row it = by_told f refl x (r p) (midway.sound.records.each p x there).each
          ∙ (ap (with_key (record_key x (r p))) same_row
          ∙ (key_or_none (r p) refl
          ∙ sym (by_told f0 refl x (r0 p) (first.sound.records.each p x of).each)))
        where
          is : it.table ≡ x
          is = let both : Some it.table ≡ Some x = sym it.of ∙ of in cc

          told_is : told_versions (left_state everyone s.state) x (r p)
              ≡ generations_back (own o (e ∷ h) t) t x.name (record_key x (r0 p))
              (told_versions (left_state everyone s.state) x (r0 p))
          told_is = subst (λ (y : Table). told_versions (left_state everyone s.state) y (r p)
              ≡ generations_back (own o (e ∷ h) t) t y.name (record_key y (r0 p))
              (told_versions (left_state everyone s.state) y (r0 p))) is it.told

          same_row : shown_by (takes_version s.state s.live u) (told_versions (left_state everyone s.state) x (r p))
              ≡ shown_by (takes_version s.state s.live u) (told_versions (left_state everyone s.state) x (r0 p))
          same_row = ap (shown_by counts) told_is
              ∙ back_shown t counts (unseen s t u back active apart) (own o (e ∷ h) t) x.name (record_key x (r0 p))
              (told_versions (left_state everyone s.state) x (r0 p))

          key_or_none : (es : List Read) → r p ≡ es
              → with_key (record_key x (r p)) (shown_by (takes_version s.state s.live u)
              (told_versions (left_state everyone s.state) x (r0 p)))
              ≡ with_key (record_key x (r0 p)) (shown_by (takes_version s.state s.live u)
              (told_versions (left_state everyone s.state) x (r0 p)))
          key_or_none [] none =
              let nothing : shown_by counts (told_versions (left_state everyone s.state) x (r0 p)) ≡ None =
              sym same_row ∙ ap (λ (es : List Read). shown_by counts (told_versions (left_state everyone s.state) x es))
              none in
              ap (with_key (record_key x (r p))) nothing ∙ sym (ap (with_key (record_key x (r0 p))) nothing)
          key_or_none (d ∷ ds) some = ap (λ (k : Value). with_key k (shown_by counts
              (told_versions (left_state everyone s.state) x (r0 p))))
              (subst (λ (y : Table). record_key y (r p) ≡ record_key y (r0 p)) is
              (it.keyed (λ none. let both : d ∷ ds ≡ [] = sym some ∙ none in absurd cc)))

      at : (r p ≡ r0 p) ⊎ IsTakenBack o h e t f0 r0 r first.versions.speaker p
          → row_at_record (takes_version s.state s.live u) x r p ≡ row_at_record (takes_version s.state s.live u) x r0 p
      at (inl same) = ap (λ (es : List Read). keyed x (shown counts es) []) same
      at (inr it) = back_row it
