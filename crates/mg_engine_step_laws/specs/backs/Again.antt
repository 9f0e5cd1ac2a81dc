-- Histories after which a transaction that has taken back its changes gives some of them again. Nobody has to
-- have seen one: what an overlay has to be is told by the database and by what each transaction has changed,
-- and these histories say it of the pages while changes are taken back, one key at a time.
use Rattle.mg_engine_step_laws.specs.writes.WritesLaws.{own_more}
use Rattle.mg_image.specs.Histories.{newest_at, row_change}
use Rattle.mg_image_overlay_laws.specs.transactions.CommitLaws.{LeavesOthers}
use Rattle.mg_lasting_laws.specs.Entries.{leaves_others}
use Rattle.mg_model.specs.Answers.{catalog_of, told}
use Rattle.mg_model.specs.Changes.{Cells, is_at, row_at, same_key, same_name}
use Rattle.mg_model.specs.DeedLaws.{deeds_after, deeds_after_entry}
use Rattle.mg_model.specs.Effects.{commits, deeds_left, doer, is_its}
use Rattle.mg_model.specs.History.{Effect, Entries, Entry, Gives, effect_of, entry}
use Rattle.mg_model.specs.Machine.{changed, changes_in, database, deeds_by, is_of, own, steps}
use Rattle.mg_model.specs.RowLaws.{same_from_same_key}
use Rattle.mg_model.specs.declared.answer.Answer.TheVariants.{Fine}
use Rattle.mg_model.specs.declared.change.Change.{Change}
use Rattle.mg_model.specs.declared.change.Deed.{Deed}
use Rattle.mg_model.specs.declared.change.Deed.TheVariants.{Marked}
use Rattle.mg_model.specs.declared.change.Point.TheVariants.{LastMark}
use Rattle.mg_model.specs.declared.opening.Opening.{Opening}
use Rattle.mg_value.specs.declared.value.Value.{Value}
use Rattle.std.proofs.Common.{Bool, List, None, Option, Some, [], ap, false, if◌then◌else◌, inl, refl, sym, true, ℕ, ◌&&◌, ◌++◌, ◌==◌, ◌∙◌, ◌∷◌, ◌≡◌, ◌≢◌}
use Rattle.std.proofs.lemmas.Bool.{and_parts, eq-eqb, ne_eqb}
use Rattle.std.specs.Cmp.Lexicographic.{same_text}
use Rattle.mg_image.specs.Records as records
use Rattle.mg_model.specs.declared.event.Event.TheVariants as events

-- a transaction gives a key of a table a row, or none
abbrev pub giving : ℕ → List ℕ → Value → Option Cells → Entry
giving t name key None = entry (events.Erase (record { 0 = t }) name key) Fine
giving t name key (Some row) = entry (events.Change (record { 0 = t }) name key row) Fine

-- it gives these changes again, the newest first
abbrev pub again : ℕ → List Change → Entries → Entries
again t [] h = h
again t (c ∷ cs) h = giving t c.table c.key c.row ∷ again t cs h

-- a mark, and all that is taken back to it
abbrev pub marking : ℕ → Entry
marking t = entry (events.Mark (record { 0 = t })) Fine

abbrev pub unmarking : ℕ → Entry
unmarking t = entry (events.UndoMark (record { 0 = t })) Fine

-- the end of a transaction that goes back
abbrev pub rolling : ℕ → Entry
rolling t = entry (events.Rollback (record { 0 = t })) Fine

-- the changes that are not at a key of a table
abbrev pub without_key : List ℕ → Value → List Change → List Change
without_key name key [] = []
without_key name key (c ∷ cs) =
    if is_at c name key then without_key name key cs else c ∷ without_key name key cs

-- these changes over those that are left are all that the transaction has made
abbrev pub AreTaken : Opening → Entries → Entry → ℕ → List Change → Type 0
AreTaken o h e t left = (name : List ℕ) (key : Value)
    → newest_at (left ++ own o (e ∷ h) t) name key ≡ newest_at (own o h t) name key

-- ---- what they say

pub giving_gives : (t : ℕ) (name : List ℕ) (key : Value) (row : Option Cells)
    → effect_of (giving t name key row) ≡ Gives t name key row
giving_gives t name key None = refl
giving_gives t name key (Some row) = refl

-- what stays of the others, and of the database, where an entry is of one transaction and commits nobody
other_entry : (t u : ℕ) (e : Entry) → u ≢ t → doer (effect_of e) ≡ Some t → is_its u e ≡ false
other_entry t u e ne its = ap (is_of u) its ∙ ne_eqb t u (λ same. ne (sym same))

pub leaves_by : (o : Opening) (h : Entries) (e : Entry) (t : ℕ) → doer (effect_of e) ≡ Some t
    → commits (effect_of e) ≡ None → LeavesOthers o h e t
leaves_by o h e t its none = leaves_others o h e t (λ u ne. other_entry t u e ne its) none

pub leaves_giving : (o : Opening) (h : Entries) (t : ℕ) (name : List ℕ) (key : Value) (row : Option Cells)
    → LeavesOthers o h (giving t name key row) t
leaves_giving o h t name key row = leaves_by o h (giving t name key row) t
    (ap doer (giving_gives t name key row)) (ap commits (giving_gives t name key row))

pub own_giving : (o : Opening) (h : Entries) (t : ℕ) (name : List ℕ) (key : Value) (row : Option Cells)
    → own o (giving t name key row ∷ h) t ≡ record { table = name; key = key; row = row } ∷ own o h t
own_giving o h t name key row = own_more o h (giving t name key row) t name key row
    (inl (giving_gives t name key row))

-- the deeds of a transaction after one of these entries
itself : (t : ℕ) → (t == t) ≡ true
itself t = eq-eqb t t refl

deeds_giving : (o : Opening) (h : Entries) (t : ℕ) (name : List ℕ) (key : Value) (row : Option Cells)
    → deeds_by t (steps o (giving t name key row ∷ h)) ≡ changed name key row ∷ deeds_by t (steps o h)
deeds_giving o h t name key row = deeds_after_entry o h (giving t name key row) t
    ∙ (ap (λ (f : Effect). deeds_after f t (catalog_of (told o h) t) (deeds_by t (steps o h)))
    (giving_gives t name key row) ∙ rw (itself t) refl)

deeds_marking : (o : Opening) (h : Entries) (t : ℕ)
    → deeds_by t (steps o (marking t ∷ h)) ≡ Marked ∷ deeds_by t (steps o h)
deeds_marking o h t = deeds_after_entry o h (marking t) t ∙ rw (itself t) refl

deeds_unmarking : (o : Opening) (h : Entries) (t : ℕ)
    → deeds_by t (steps o (unmarking t ∷ h)) ≡ deeds_left LastMark (deeds_by t (steps o h))
deeds_unmarking o h t = deeds_after_entry o h (unmarking t) t ∙ rw (itself t) refl

-- a change at a mark that is taken back leaves nothing
pub own_unmarked : (o : Opening) (h : Entries) (t : ℕ) (name : List ℕ) (key : Value) (row : Option Cells)
    → own o (unmarking t ∷ giving t name key row ∷ marking t ∷ h) t ≡ own o h t
own_unmarked o h t name key row = ap changes_in (deeds_unmarking o (giving t name key row ∷ marking t ∷ h) t
    ∙ ap (deeds_left LastMark) (deeds_giving o (marking t ∷ h) t name key row
    ∙ ap (λ (ds : List Deed). changed name key row ∷ ds) (deeds_marking o h t)))

pub own_marked : (o : Opening) (h : Entries) (t : ℕ) → own o (marking t ∷ h) t ≡ own o h t
own_marked o h t = ap changes_in (deeds_marking o h t)

-- ---- the changes given again

pub own_again : (o : Opening) (h : Entries) (t : ℕ) (cs : List Change)
    → own o (again t cs h) t ≡ cs ++ own o h t
own_again o h t [] = refl
own_again o h t (c ∷ cs) = own_giving o (again t cs h) t c.table c.key c.row
    ∙ ap (λ (ds : List Change). c ∷ ds) (own_again o h t cs)

pub others_again : (o : Opening) (h : Entries) (t : ℕ) (cs : List Change) (u : ℕ) → u ≢ t
    → own o (again t cs h) u ≡ own o h u
others_again o h t [] u ne = refl
others_again o h t (c ∷ cs) u ne = (leaves_giving o (again t cs h) t c.table c.key c.row).others u ne
    ∙ others_again o h t cs u ne

pub rows_again : (o : Opening) (h : Entries) (t : ℕ) (cs : List Change) (name : List ℕ) (key : Value)
    → row_at (database o (again t cs h)) name key ≡ row_at (database o h) name key
rows_again o h t [] name key = refl
rows_again o h t (c ∷ cs) name key = (leaves_giving o (again t cs h) t c.table c.key c.row).rows name key
    ∙ rows_again o h t cs name key

-- ---- the changes without a key

newest_more : (c : Change) (xs ys : List Change) (n : List ℕ) (k : Value) → newest_at xs n k ≡ newest_at ys n k
    → newest_at (c ∷ xs) n k ≡ newest_at (c ∷ ys) n k
newest_more c xs ys n k same = ap (λ (x : Option records.Change). if is_at c n k then Some (row_change c.row) else x)
    same

pub without_here : (name : List ℕ) (key : Value) (cs rest : List Change)
    → newest_at (without_key name key cs ++ rest) name key ≡ newest_at rest name key
without_here name key [] rest = refl
without_here name key (c ∷ cs) rest = at (is_at c name key) refl (without_here name key cs rest)
  where
    at : (b : Bool) → is_at c name key ≡ b
        → newest_at (without_key name key cs ++ rest) name key ≡ newest_at rest name key
        → newest_at ((if b then without_key name key cs else c ∷ without_key name key cs) ++ rest) name key
        ≡ newest_at rest name key
    at true is more = more
    at false is more = rw is more

-- another key of another table has the change that it had
pub without_else : (name : List ℕ) (key : Value) (cs rest : List Change) (n : List ℕ) (k : Value)
    → (same_name name n && same_key key k) ≡ false
    → newest_at (without_key name key cs ++ rest) n k ≡ newest_at (cs ++ rest) n k
without_else name key [] rest n k off = refl
without_else name key (c ∷ cs) rest n k off = at (is_at c name key) refl (without_else name key cs rest n k off)
  where
    gone : is_at c name key ≡ true → is_at c n k ≡ false
    gone is =
        let parts = and_parts (same_name c.table name) (same_key c.key key) is in
        let named : c.table ≡ name = same_text c.table name (sym parts.0) in
        let keyed : c.key ≡ key = same_from_same_key c.key key parts.1 in
        ap (λ (m : List ℕ). same_name m n && same_key c.key k) named
        ∙ (ap (λ (j : Value). same_name name n && same_key j k) keyed ∙ off)

    at : (b : Bool) → is_at c name key ≡ b
        → newest_at (without_key name key cs ++ rest) n k ≡ newest_at (cs ++ rest) n k
        → newest_at ((if b then without_key name key cs else c ∷ without_key name key cs) ++ rest) n k
        ≡ newest_at (c ∷ (cs ++ rest)) n k
    at true is more = more ∙ sym (rw (gone is) refl)
    at false is more = newest_more c (without_key name key cs ++ rest) (cs ++ rest) n k more
