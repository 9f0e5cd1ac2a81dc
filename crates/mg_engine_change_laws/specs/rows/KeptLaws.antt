-- Memory follows a write: its transaction's own changes, what it has to take back, and the tables that it sees.
use Rattle.std.proofs.Common.{◌≡◌, inl, inr, ◌==◌, ◌++◌, ◌&&◌, ◌<◌, ℕ, Bool, true, false, List, [], ◌∷◌, Option, Some, refl, sym, ap, ◌∙◌, subst}
use Rattle.std.specs.Prelude.{if◌then◌else◌}
use Rattle.std.proofs.Math.Path.{fun_ext}
use Rattle.std.proofs.lemmas.Bool.{eq-eqb, eqb-true, false≢true}
use Rattle.std.specs.Cmp.Lexicographic.{same_text}
use Rattle.mg_base.specs.declared.numbers.TxNo.{TxNo}
use Rattle.mg_value.specs.declared.shape.Shape.{Shape}
use Rattle.mg_value.specs.declared.value.Value.{Value}
use Rattle.mg_model.specs.declared.change.Change.{Change}
use Rattle.mg_model.specs.declared.change.Deed.{Deed}
use Rattle.mg_model.specs.declared.change.Deed.TheVariants.{Changed, Marked, Saved}
use Rattle.mg_model.specs.declared.opening.Opening.{Opening}
use Rattle.mg_model.specs.declared.table.Table.{Table}
use Rattle.mg_model.specs.Answers.{catalog_of, told}
use Rattle.mg_model.specs.Catalog.{CatalogRows, catalog_name}
use Rattle.mg_model.specs.Changes.{has_change, is_at, row_at, same_key, same_name}
use Rattle.mg_model.specs.Effects.{is_its}
use Rattle.mg_model.specs.History.{Entries, effect_of, transaction_of}
use Rattle.mg_chain.specs.Bases.{live_after}
use Rattle.mg_engine_step_laws.specs.writes.WritesLaws.{next_stays, states_stay}
use Rattle.mg_model.specs.Machine.{base, changes_in, deeds_by, mode_of, own, steps}
use Rattle.mg_model.specs.ReadLaws.{is_at_itself, same_name_itself}
use Rattle.mg_records.specs.Reading.{shape_named, shape_seen}
use Rattle.mg_records.specs.declared.write.Write.{Write}
use Rattle.mg_records.specs.declared.write.Write.TheVariants as writes
use Rattle.mg_row_writes.specs.Storing.{written_at}
use Rattle.mg_engine_step_laws.specs.standing.Following.{FollowsEntry, Notes}
use Rattle.mg_engine_step_laws.specs.standing.Standing.{IsSeenAs, Remembers, RemembersOne, Standing}
use Rattle.mg_engine_step_laws.specs.standing.Writing.{WritesKey}
use Rattle.mg_undo.specs.Machine.{NotesDeeds, changes_of, undo_of, was_in}
use Rattle.mg_undo.specs.Undo.{State as Undo, after_keep}
use Rattle.mg_undo.specs.declared.changes.Change.{Change as Kept}
use Rattle.mg_undo.specs.declared.changes.Was.{Was}
use Rattle.mg_engine_change_laws.specs.rows.Answered.{keyed, no_catalog}
use Rattle.mg_engine_change_laws.specs.rows.Kept.{MadeWritesFollow, NotesWrite, made_by, row_given}

-- ---- what is kept names each table by its number

-- a number that tells the tables of all changes as another one does
abbrev TellsAlike : (List ℕ → ℕ) → (List ℕ → ℕ) → List Change → Type 0
TellsAlike a b cs = (name : List ℕ) (key : Value) → has_change cs name key ≡ true → a name ≡ b name

kept_alike : (a b : List ℕ → ℕ) (deeds : List Deed) → TellsAlike a b (changes_in deeds)
    → changes_of a deeds ≡ changes_of b deeds
kept_alike a b [] alike = refl
kept_alike a b (Marked ∷ deeds) alike = kept_alike a b deeds alike
kept_alike a b (Saved name ∷ deeds) alike = kept_alike a b deeds alike
kept_alike a b (Changed c ∷ deeds) alike = at (alike c.table c.key here)
    (kept_alike a b deeds (λ name key has. alike name key (later name key has)))
  where
    here : has_change (c ∷ changes_in deeds) c.table c.key ≡ true
    here = rw (is_at_itself c.table c.key c.row) refl

    later : (name : List ℕ) (key : Value) → has_change (changes_in deeds) name key ≡ true
        → has_change (c ∷ changes_in deeds) name key ≡ true
    later name key has = on (is_at c name key)
      where
        on : (b : Bool) → (if b then true else has_change (changes_in deeds) name key) ≡ true
        on true = refl
        on false = has

    at : a c.table ≡ b c.table → changes_of a deeds ≡ changes_of b deeds
        → changes_of a (Changed c ∷ deeds) ≡ changes_of b (Changed c ∷ deeds)
    at number more = ap (λ (n : ℕ).
        let k : Kept = record { table = n; key = c.key; was = was_in (changes_in deeds) c.table c.key } in
        k ∷ changes_of a deeds) number ∙ ap (λ (ks : List Kept).
        let k : Kept = record { table = b c.table; key = c.key; was = was_in (changes_in deeds) c.table c.key } in
        k ∷ ks) more

undo_alike : (a b : List ℕ → ℕ) (deeds : List Deed) → TellsAlike a b (changes_in deeds)
    → undo_of a deeds ≡ undo_of b deeds
undo_alike a b deeds alike = ap (λ (ks : List Kept). record (undo_of a deeds) { changes = ks })
    (kept_alike a b deeds alike)

-- ---- the entry

module _ (notes_deeds : NotesDeeds) (o : Opening) (h : Entries) (t : TxNo) (table : Table) (write : Write)
    (s new : Standing) (was : Was) (memory : Remembers o h s) (notes : NotesWrite o h t table write s new was) where
  abbrev key : Value
  key = written_at table write

  abbrev change : Change
  change = record { table = table.name; key = written_at table write; row = row_given write }

  one : RemembersOne o h s t.0
  one = memory.active t.0 notes.active

  other_name : same_name table.name catalog_name ≡ false
  other_name = no_catalog (catalog_of (told o h) t.0) table.name table.shape notes.seen

  writes_key : WritesKey o h (made_by t table write) t.0 table.name (written_at table write) (row_given write)
  writes_key = at write
    where
      at : (w : Write) → WritesKey o h (made_by t table w) t.0 table.name (written_at table w) (row_given w)
      at (writes.Insert row) = inr (row, refl, refl, keyed o h t table notes.active notes.seen row)
      at (writes.Change was_ row) = inl refl
      at (writes.Erase was_) = inl refl

  its_only : (u : ℕ) → is_its u (made_by t table write) ≡ (t.0 == u)
  its_only u = at write
    where
      at : (w : Write) → is_its u (made_by t table w) ≡ (t.0 == u)
      at (writes.Insert row) = refl
      at (writes.Change was_ row) = refl
      at (writes.Erase was_) = refl

  -- its deeds
  deeds_now : deeds_by t.0 (steps o (made_by t table write ∷ h)) ≡ Changed change ∷ deeds_by t.0 (steps o h)
  deeds_now = at write
    where
      at : (w : Write) → deeds_by t.0 (steps o (made_by t table w ∷ h))
          ≡ Changed (record { table = table.name; key = written_at table w; row = row_given w })
          ∷ deeds_by t.0 (steps o h)
      at (writes.Insert row) = rw (eq-eqb t.0 t.0 refl) (ap (λ (k : Value).
          Changed (record { table = table.name; key = k; row = Some row }) ∷ deeds_by t.0 (steps o h))
          (keyed o h t table notes.active notes.seen row))
      at (writes.Change was_ row) = rw (eq-eqb t.0 t.0 refl) refl
      at (writes.Erase was_) = rw (eq-eqb t.0 t.0 refl) refl

  undo_now : new.undo t.0 ≡ undo_of (new.number t.0) (deeds_by t.0 (steps o (made_by t table write ∷ h)))
  undo_now = notes.undo ∙ (ap (λ (u : Undo). after_keep u table.pointer.0 (written_at table write) was)
      (one.undo ∙ undo_alike (s.number t.0) (new.number t.0) (deeds_by t.0 (steps o h)) alike)
      ∙ (ap (λ (w : Was). after_keep (undo_of (new.number t.0) (deeds_by t.0 (steps o h))) table.pointer.0
      (written_at table write) w) notes.was_is
      ∙ (ap (λ (n : ℕ). after_keep (undo_of (new.number t.0) (deeds_by t.0 (steps o h))) n
      (written_at table write) (was_in (own o h t.0) table.name (written_at table write))) (sym notes.number)
      ∙ (sym (notes_deeds.changed (new.number t.0) change (deeds_by t.0 (steps o h)))
      ∙ ap (undo_of (new.number t.0)) (sym deeds_now)))))
    where
      alike : TellsAlike (s.number t.0) (new.number t.0) (changes_in (deeds_by t.0 (steps o h)))
      alike name k has = at (same_name name table.name) refl
        where
          at : (b : Bool) → same_name name table.name ≡ b → s.number t.0 name ≡ new.number t.0 name
          at true is =
              let same : name ≡ table.name = same_text name table.name (sym is) in
              ap (s.number t.0) same ∙ (notes.numbered k (subst (λ (n : List ℕ). has_change (own o h t.0) n k ≡ true)
              same has) ∙ (sym notes.number ∙ ap (new.number t.0) (sym same)))
          at false off = sym (notes.other_numbers name (λ same. false≢true (sym off
              ∙ (ap (λ (n : List ℕ). same_name n table.name) same ∙ same_name_itself table.name))))

  -- what it sees of the catalog
  rows_now : catalog_of (told o (made_by t table write ∷ h)) t.0 ≡ catalog_of (told o h) t.0
  rows_now = fun_ext (λ k. ap (λ (ds : List Deed).
      row_at (changes_in ds ++ base o (made_by t table write ∷ h) t.0) catalog_name k) deeds_now
      ∙ (ap (λ (b : List Change). row_at ((change ∷ own o h t.0) ++ b) catalog_name k) (base_of write) ∙ passed k))
    where
      base_of : (w : Write) → base o (made_by t table w ∷ h) t.0 ≡ base o h t.0
      base_of (writes.Insert row) = refl
      base_of (writes.Change was_ row) = refl
      base_of (writes.Erase was_) = refl

      passed : (k : Value) → row_at ((change ∷ own o h t.0) ++ base o h t.0) catalog_name k
          ≡ row_at (own o h t.0 ++ base o h t.0) catalog_name k
      passed k = let off : (same_name table.name catalog_name && same_key (written_at table write) k) ≡ false =
          ap (λ (b : Bool). b && same_key (written_at table write) k) other_name in rw off refl

  mode_same : (w : Write) → mode_of (made_by t table w ∷ h) t.0 ≡ mode_of h t.0
  mode_same (writes.Insert row) = refl
  mode_same (writes.Change was_ row) = refl
  mode_same (writes.Erase was_) = refl

  one_now : RemembersOne o (made_by t table write ∷ h) new t.0
  one_now = record {
    mode = notes.mode ∙ (one.mode ∙ sym (mode_same write));
    session = subst (λ (n : ℕ). n < 32) (sym (notes.session t.0)) one.session;
    undo = undo_now;
    table = λ name. subst (λ (x : Option Table). IsSeenAs name
        (shape_seen o (made_by t table write ∷ h) t.0 name) x) (sym (notes.tables name))
        (subst (λ (shape : Option Shape). IsSeenAs name shape (s.table t.0 name))
        (ap (λ (rows : CatalogRows). shape_named rows name) (sym rows_now)) (one.table name));
  }

  live_same : (w : Write) → s.live ≡ live_after (effect_of (made_by t table w)) (λ u. (s.mode u).snapshot) s.live
  live_same (writes.Insert row) = refl
  live_same (writes.Change was_ row) = refl
  live_same (writes.Erase was_) = refl

  waits_now : (w : Write) → Notes (transaction_of (made_by t table w).event) (made_by t table w).answer s.waits new.waits
  waits_now (writes.Insert row) = notes.waits
  waits_now (writes.Change was_ row) = notes.waits
  waits_now (writes.Erase was_) = notes.waits

  follows : FollowsEntry o h (made_by t table write) s new
  follows = record {
    limit = notes.limit;
    next = notes.next ∙ sym (next_stays o h (made_by t table write) t.0 table.name (written_at table write)
        (row_given write) writes_key s.next);
    state = λ u. notes.state u ∙ sym (states_stay o h (made_by t table write) t.0 table.name
        (written_at table write) (row_given write) writes_key u (s.state u));
    live = notes.live ∙ live_same write;
    waits = waits_now write;
    others = λ u not_ active. notes.others u (λ same. false≢true (sym not_
        ∙ (its_only u ∙ eq-eqb t.0 u (sym same))));
    its = λ u its active. subst (RemembersOne o (made_by t table write ∷ h) new)
        (eqb-true t.0 u (sym (its_only u) ∙ its)) one_now;
    apart = λ u v its not_ active also same.
        let both : u ≡ v = memory.apart u v (sym (memory.state u) ∙ (sym (notes.state u) ∙ active))
        (sym (memory.state v) ∙ (sym (notes.state v) ∙ also))
        (sym (notes.session u) ∙ (same ∙ notes.session v)) in
        false≢true (sym not_ ∙ (ap (λ (n : ℕ). is_its n (made_by t table write)) (sym both) ∙ its));
  }

  pub follow : FollowsEntry o h (made_by t table write) s new
      × WritesKey o h (made_by t table write) t.0 table.name (written_at table write) (row_given write)
  follow = (follows, writes_key)

-- memory follows a write
pub made_writes_follow : NotesDeeds → MadeWritesFollow
made_writes_follow notes_deeds o h t table write s new was memory notes =
    follow notes_deeds o h t table write s new was memory notes
