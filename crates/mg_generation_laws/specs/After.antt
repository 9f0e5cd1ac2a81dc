-- What an entry of a history makes of the versions of a key.
use Rattle.std.specs.Prelude.{◌≡◌, ℕ, Bool, true, false, ◌&&◌, List, [], ◌∷◌, Some, if◌then◌else◌}
use Rattle.mg_base.specs.declared.transaction.TxState.{TxState}
use Rattle.mg_base.specs.declared.transaction.TxState.TheVariants.{Active, Limbo, Dead, Committed}
use Rattle.mg_value.specs.declared.value.Value.{Value}
use Rattle.mg_value.specs.declared.value.Value.TheVariants.{Null}
use Rattle.mg_model.specs.declared.change.Change.{Change}
use Rattle.mg_model.specs.declared.change.Point.TheVariants.{LastMark}
use Rattle.mg_model.specs.declared.opening.Opening.{Opening}
use Rattle.mg_model.specs.Answers.{catalog_of, told}
use Rattle.mg_model.specs.Changes.{same_name, same_key, has_change, row_at}
use Rattle.mg_model.specs.Catalog.{key_in}
use Rattle.mg_model.specs.History.{Entry, Entries, Effect, Begins, Looks, Makes, Gives, Marks, Saves, TakesBack, Ends, Nothing, effect_of}
use Rattle.mg_model.specs.Machine.{own}
use Rattle.mg_generation_laws.specs.Generations.{Generation, without_newest_by, put}

-- the key that an effect makes a row with, if it makes one
abbrev pub key_made : Opening → Entries → Effect → Value
key_made o h (Makes t table row) = key_in (catalog_of (told o h) t) table row
key_made o h (Begins t mode) = Null
key_made o h (Looks t) = Null
key_made o h (Gives t table key row) = Null
key_made o h (Marks t) = Null
key_made o h (Saves t name) = Null
key_made o h (TakesBack t point) = Null
key_made o h (Ends t end) = Null
key_made o h Nothing = Null

-- the versions of a key after the end of a transaction: those of a dead one don't count
abbrev pub after_end : ℕ → TxState → List Generation → List Generation
after_end t Active gs = gs
after_end t Limbo gs = gs
after_end t Dead gs = without_newest_by t gs
after_end t Committed gs = gs

-- the versions of a key after a transaction takes back some of its changes; `left` are the own
-- changes that it has left
abbrev pub generations_back : List Change → ℕ → List ℕ → Value → List Generation → List Generation
generations_back left t table key gs =
    if has_change left table key then put t (row_at left table key) gs
    else without_newest_by t gs

-- the versions of a key of a table after an effect; `made` is the key that it makes a row with, and
-- `own` the own changes of each transaction after it
abbrev pub generations_after : Effect → Value → (ℕ → List Change) → List ℕ → Value
    → List Generation → List Generation
generations_after (Makes t named row) made own table key gs =
    if same_name named table && same_key made key then put t (Some row) gs else gs
generations_after (Gives t named given row) made own table key gs =
    if same_name named table && same_key given key then put t row gs else gs
generations_after (TakesBack t point) made own table key gs =
    generations_back (own t) t table key gs
generations_after (Ends t end) made own table key gs = after_end t end gs
generations_after (Begins t mode) made own table key gs = gs
generations_after (Looks t) made own table key gs = gs
generations_after (Marks t) made own table key gs = gs
generations_after (Saves t name) made own table key gs = gs
generations_after Nothing made own table key gs = gs

-- the versions of a key of a table after an entry
abbrev pub generations_with : Opening → Entries → Entry → List ℕ → Value → List Generation
    → List Generation
generations_with o h e table key gs =
    generations_after (effect_of e) (key_made o h (effect_of e)) (own o (e ∷ h)) table key gs

-- the versions of a key of a table after a history that begins with these
abbrev pub generations_of : Opening → List Generation → Entries → List ℕ → Value → List Generation
generations_of o first [] table key = first
generations_of o first (e ∷ h) table key =
    generations_with o h e table key (generations_of o first h table key)

-- a transaction that comes to this state takes none of its versions along
abbrev pub is_survived : TxState → Bool
is_survived Active = true
is_survived Limbo = true
is_survived Dead = false
is_survived Committed = true

-- an effect writes nothing, lets no transaction die and takes nothing back
abbrev pub leaves_versions : Effect → Bool
leaves_versions (Makes t table row) = false
leaves_versions (Gives t table key row) = false
leaves_versions (TakesBack t point) = false
leaves_versions (Ends t end) = is_survived end
leaves_versions (Begins t mode) = true
leaves_versions (Looks t) = true
leaves_versions (Marks t) = true
leaves_versions (Saves t name) = true
leaves_versions Nothing = true

-- ---- a mark that is taken back with nothing done since

-- entries that do nothing
abbrev pub DoNothing : Entries → Type 0
DoNothing [] = Unit {0}
DoNothing (e ∷ since) = (effect_of e ≡ Nothing) × DoNothing since

-- a transaction sets a mark, then come entries that do nothing, and then it is taken back to it
pub record IsUndone (t : ℕ) (sets : Entry) (since : Entries) (undoes : Entry) : Type 0 where
  pub sets_it : effect_of sets ≡ Marks t
  pub idle : DoNothing since
  pub undoes_it : effect_of undoes ≡ TakesBack t LastMark
