-- Memory follows the entries of several rows of the catalog.
use Rattle.std.proofs.Common.{◌≡◌, ◌≢◌, refl, sym, ap, ◌∙◌, subst, ◌==◌, ◌<◌, ℕ, Bool, true, false, List, [], ◌∷◌, Option, None, Some}
use Rattle.std.specs.Prelude.{if◌then◌else◌, map}
use Rattle.std.proofs.lemmas.Bool.{eq-eqb, eqb-true, false≢true, ne_eqb}
use Rattle.mg_base.specs.declared.numbers.TxNo.{TxNo}
use Rattle.mg_value.specs.declared.shape.Shape.{Shape}
use Rattle.mg_value.specs.declared.value.Value.{Value}
use Rattle.mg_model.specs.declared.change.Change.{Change}
use Rattle.mg_model.specs.declared.change.Deed.{Deed}
use Rattle.mg_model.specs.declared.change.Deed.TheVariants.{Changed}
use Rattle.mg_model.specs.declared.opening.Opening.{Opening}
use Rattle.mg_model.specs.declared.table.Table.{Table}
use Rattle.mg_model.specs.Answers.{is_open}
use Rattle.mg_model.specs.Catalog.{catalog_name}
use Rattle.mg_model.specs.Changes.{has_change, is_at}
use Rattle.mg_model.specs.Effects.{is_its}
use Rattle.mg_model.specs.History.{Entries, Entry as Event}
use Rattle.mg_model.specs.Legal.{IsLegal, MayBegin}
use Rattle.mg_model.specs.Machine.{deeds_by, own, steps}
use Rattle.mg_generation_laws.specs.Kept.{StandFor}
use Rattle.mg_records.specs.Reading.{shape_seen}
use Rattle.mg_undo.specs.Machine.{NotesDeeds, undo_of, was_in}
use Rattle.mg_undo.specs.Undo.{State as Undo, after_keep}
use Rattle.mg_undo.specs.declared.changes.Was.{Was}
use Rattle.mg_undo.specs.declared.changes.Was.TheVariants.{Untouched}
use Rattle.mg_waits.specs.Waits.{NowWaits}
use Rattle.mg_engine_step_laws.specs.standing.Following.{FollowsEntry, KeepsOne, MemoryFollows}
use Rattle.mg_engine_step_laws.specs.standing.Standing.{IsSeenAs, Remembers, RemembersOne, Standing}
use Rattle.mg_engine_change_laws.specs.tables.Remembering.{NotesRows, RowsAreRemembered, rows_kept}
use Rattle.mg_engine_change_laws.specs.tables.Rows.{AreLawful, AreUnwritten, MadeRow, MayMake, key_at, row_entry, row_told, with_rows}
use Rattle.mg_engine_change_laws.specs.tables.MakingRowsLaws.{key_as_told, still_may}
use Rattle.mg_engine_change_laws.specs.backs.Untouched.{TellsAlike, none_changed, undo_alike}

-- ---- one entry

-- What is noted of one row.
record NotesRow (o : Opening) (h : Entries) (t : TxNo) (pointer : ℕ) (row : MadeRow) (s new : Standing) : Type 0 where
  limit : new.limit ≡ s.limit
  next : new.next ≡ s.next
  state : (u : ℕ) → new.state u ≡ s.state u
  live : new.live ≡ s.live
  waits : NowWaits s.waits new.waits t.0 None
  others : (u : ℕ) → u ≢ t.0 → KeepsOne s new u
  mode : new.mode t.0 ≡ s.mode t.0
  session : (u : ℕ) → new.session u ≡ s.session u
  undo : new.undo t.0 ≡ after_keep (s.undo t.0) pointer (key_at row) Untouched
  number : new.number t.0 catalog_name ≡ pointer
  numbers : TellsAlike (s.number t.0) (new.number t.0) (own o h t.0)
  tables : (name : List ℕ)
      → IsSeenAs name (shape_seen o (row_entry t (row_told row) ∷ h) t.0 name) (new.table t.0 name)

-- a key that no change has is untouched
untouched : (cs : List Change) (name : List ℕ) (key : Value) → has_change cs name key ≡ false
    → was_in cs name key ≡ Untouched
untouched [] name key none = refl
untouched (c ∷ cs) name key none = at (is_at c name key) refl (untouched cs name key)
  where
    at : (b : Bool) → is_at c name key ≡ b
        → (has_change cs name key ≡ false → was_in cs name key ≡ Untouched) → was_in (c ∷ cs) name key ≡ Untouched
    at true is more =
        let yes : has_change (c ∷ cs) name key ≡ true = rw is refl in absurd (false≢true (sym none ∙ yes))
    at false off more =
        let same : has_change (c ∷ cs) name key ≡ has_change cs name key = rw off refl in
        rw off (more (sym same ∙ none))

module _ (notes_deeds : NotesDeeds) (o : Opening) (h : Entries) (t : TxNo) (pointer : ℕ) (row : MadeRow)
    (s new : Standing) (may : MayMake o h t) (memory : Remembers o h s)
    (none : StandFor o h catalog_name (key_at row) []) (notes : NotesRow o h t pointer row s new) where
  abbrev e : Event
  e = row_entry t (row_told row)

  one : RemembersOne o h s t.0
  one = memory.active t.0 may.active

  deeds : List Deed
  deeds = deeds_by t.0 (steps o h)

  -- its deeds
  deeds_now : deeds_by t.0 (steps o (e ∷ h)) ≡ Changed (record {
    table = catalog_name;
    key = key_at row;
    row = Some (row_told row);
  }) ∷ deeds_by t.0 (steps o h)
  deeds_now = rw (eq-eqb t.0 t.0 refl) (ap (λ (k : Value). Changed (record {
    table = catalog_name;
    key = k;
    row = Some (row_told row);
  }) ∷ deeds_by t.0 (steps o h)) (key_as_told row.first.row))

  was_is : was_in (own o h t.0) catalog_name (key_at row) ≡ Untouched
  was_is = untouched (own o h t.0) catalog_name (key_at row)
      (none_changed o h catalog_name (key_at row) t.0 (ap is_open may.active) none)

  undo_now : new.undo t.0 ≡ undo_of (new.number t.0) (deeds_by t.0 (steps o (e ∷ h)))
  undo_now = notes.undo ∙ (ap (λ (u : Undo). after_keep u pointer (key_at row) Untouched)
      (one.undo ∙ undo_alike (s.number t.0) (new.number t.0) (deeds_by t.0 (steps o h)) notes.numbers)
      ∙ (ap (λ (w : Was). after_keep (undo_of (new.number t.0) (deeds_by t.0 (steps o h))) pointer (key_at row) w)
      (sym was_is)
      ∙ (ap (λ (n : ℕ). after_keep (undo_of (new.number t.0) (deeds_by t.0 (steps o h))) n (key_at row)
      (was_in (own o h t.0) catalog_name (key_at row))) (sym notes.number)
      ∙ (sym (notes_deeds.changed (new.number t.0)
      (record { table = catalog_name; key = key_at row; row = Some (row_told row) }) (deeds_by t.0 (steps o h)))
      ∙ ap (undo_of (new.number t.0)) (sym deeds_now)))))

  one_now : RemembersOne o (e ∷ h) new t.0
  one_now = record {
    mode = notes.mode ∙ one.mode;
    session = subst (λ (n : ℕ). n < 32) (sym (notes.session t.0)) one.session;
    undo = undo_now;
    table = notes.tables;
  }

  row_follows : FollowsEntry o h e s new
  row_follows = record {
    limit = notes.limit;
    next = notes.next;
    state = notes.state;
    live = notes.live;
    waits = notes.waits;
    others = λ u not_ active. notes.others u (λ same. false≢true (sym not_ ∙ eq-eqb t.0 u (sym same)));
    its = λ u its active. subst (RemembersOne o (e ∷ h) new) (eqb-true t.0 u its) one_now;
    apart = λ u v its not_ active also same.
        let both : u ≡ v = memory.apart u v (sym (memory.state u) ∙ (sym (notes.state u) ∙ active))
        (sym (memory.state v) ∙ (sym (notes.state v) ∙ also))
        (sym (notes.session u) ∙ (same ∙ notes.session v)) in
        false≢true (sym not_ ∙ (ap (λ (n : ℕ). is_its n e) (sym both) ∙ its));
  }

-- ---- memory between two entries

-- a transaction's own value among those of all
abbrev with_its : {A : Type 0} → ℕ → A → (ℕ → A) → ℕ → A
with_its t its all u = if u == t then its else all u

its_own : {A : Type 0} (t : ℕ) (its : A) (all : ℕ → A) → with_its t its all t ≡ its
its_own t its all = rw (eq-eqb t t refl) refl

its_others : {A : Type 0} (t : ℕ) (its : A) (all : ℕ → A) (u : ℕ) → u ≢ t → with_its t its all u ≡ all u
its_others t its all u ne = rw (ne_eqb u t ne) refl

-- a table of a name and a shape, if there is one
abbrev table_with : List ℕ → Option Shape → Option Table
table_with name None = None
table_with name (Some shape) =
    Some (record { name = name; shape = shape; pointer = record { 0 = 0 }; indexes = [] })

seen_with : (name : List ℕ) (shape : Option Shape) → IsSeenAs name shape (table_with name shape)
seen_with name None = tt
seen_with name (Some shape) = (refl, refl)

-- memory as it is in the end, but for what its transaction has to take back and the tables that it sees
abbrev between : Opening → Entries → ℕ → Undo → Standing → Standing
between o h t undo new = record new {
  undo = with_its t undo new.undo;
  table = with_its t (λ name. table_with name (shape_seen o h t name)) new.table;
}

-- ---- all of them

module _ (notes_deeds : NotesDeeds) (follow : MemoryFollows) (o : Opening) (t : TxNo) (pointer : ℕ) (new : Standing)
    (opening : MayBegin o) where
  rows_remembered_by : (h : Entries) (row : MadeRow) (rows : List MadeRow) (s : Standing) → IsLegal o h
      → MayMake o h t → Remembers o h s → AreUnwritten o t (row ∷ rows) h
      → AreLawful o t (map row_told (row ∷ rows)) h → NotesRows o h t pointer (row ∷ rows) s new
      → Remembers o (with_rows t (map row_told (row ∷ rows)) h) new
  rows_remembered_by h row [] s legal may memory none lawful notes =
      follow o h (row_entry t (row_told row)) s new opening (lawful.0, legal) memory
      (row_follows notes_deeds o h t pointer row s new may memory none.0 (record {
        limit = notes.limit;
        next = notes.next;
        state = notes.state;
        live = notes.live;
        waits = notes.waits;
        others = notes.others;
        mode = notes.mode;
        session = notes.session;
        undo = notes.undo;
        number = notes.number;
        numbers = notes.numbers;
        tables = notes.tables;
      }))
  rows_remembered_by h row (next ∷ rows) s legal may memory none lawful notes =
      rows_remembered_by (row_entry t (row_told row) ∷ h) next rows mid (lawful.0, legal)
      (still_may o h t (row_told row) may) remembered none.1 lawful.1 (record {
        limit = refl;
        next = refl;
        state = λ u. refl;
        live = refl;
        waits = record { its = notes.waits.its; others = λ u ne. refl };
        others = λ u ne. record {
          mode = refl;
          session = refl;
          undo = sym (its_others t.0 kept new.undo u ne);
          number = refl;
          table = λ name. ap (λ (f : List ℕ → Option Table). f name) (sym (its_others t.0 seen new.table u ne));
        };
        mode = refl;
        session = λ u. refl;
        undo = notes.undo ∙ ap (rows_kept pointer (next ∷ rows)) (sym (its_own t.0 kept new.undo));
        number = notes.number;
        numbers = λ name key has. refl;
        tables = notes.tables;
      })
    where
      kept : Undo
      kept = after_keep (s.undo t.0) pointer (key_at row) Untouched

      seen : List ℕ → Option Table
      seen name = table_with name (shape_seen o (row_entry t (row_told row) ∷ h) t.0 name)

      mid : Standing
      mid = between o (row_entry t (row_told row) ∷ h) t.0 (after_keep (s.undo t.0) pointer (key_at row) Untouched) new

      remembered : Remembers o (row_entry t (row_told row) ∷ h) mid
      remembered = follow o h (row_entry t (row_told row)) s mid opening (lawful.0, legal) memory
          (row_follows notes_deeds o h t pointer row s mid may memory none.0 (record {
            limit = notes.limit;
            next = notes.next;
            state = notes.state;
            live = notes.live;
            waits = notes.waits;
            others = λ u ne. record {
              mode = (notes.others u ne).mode;
              session = (notes.others u ne).session;
              undo = its_others t.0 kept new.undo u ne ∙ (notes.others u ne).undo;
              number = (notes.others u ne).number;
              table = λ name. ap (λ (f : List ℕ → Option Table). f name) (its_others t.0 seen new.table u ne)
                  ∙ (notes.others u ne).table name;
            };
            mode = notes.mode;
            session = notes.session;
            undo = its_own t.0 kept new.undo;
            number = notes.number;
            numbers = notes.numbers;
            tables = λ name. subst (λ (f : List ℕ → Option Table). IsSeenAs name
                (shape_seen o (row_entry t (row_told row) ∷ h) t.0 name) (f name))
                (sym (its_own t.0 seen new.table))
                (seen_with name (shape_seen o (row_entry t (row_told row) ∷ h) t.0 name));
          }))

pub rows_are_remembered : NotesDeeds → MemoryFollows → RowsAreRemembered
rows_are_remembered notes_deeds follow o h t pointer row rows s new opening legal may memory none lawful notes =
    rows_remembered_by notes_deeds follow o t pointer new opening h row rows s legal may memory none lawful notes
