-- What becomes of the versions of a key, by the kind of entry.
use Rattle.std.specs.Prelude.{◌≡◌, ℕ, ◌&&◌, true, false, List, ◌∷◌, Option, Some, refl}
use Rattle.std.proofs.Common.{subst}
use Rattle.std.proofs.lemmas.Bool.{false≢true}
use Rattle.mg_base.specs.declared.transaction.TxState.TheVariants.{Active, Limbo, Dead, Committed}
use Rattle.mg_value.specs.declared.value.Value.{Value}
use Rattle.mg_model.specs.declared.change.Change.{Change}
use Rattle.mg_model.specs.declared.opening.Opening.{Opening}
use Rattle.mg_model.specs.Catalog.{key_in}
use Rattle.mg_model.specs.Changes.{Cells, same_name, same_key}
use Rattle.mg_model.specs.History.{Entry, Entries, Effect, Makes, Gives, TakesBack, Ends, effect_of}
use Rattle.mg_model.specs.Machine.{own}
use Rattle.mg_model.specs.Answers.{told, catalog_of}
use Rattle.mg_model.specs.Legal.{MayBegin, IsLegal}
use Rattle.mg_model.specs.ReadLaws.{is_at_itself}
use Rattle.mg_generation_laws.specs.Generations.{Generation, without_newest_by, put, AreGenerations}
use Rattle.mg_generation_laws.specs.After.{key_made, generations_after, leaves_versions}
use Rattle.mg_generation_laws.specs.AfterLaws.{generations_go_on}

left_as_before : (f : Effect) (made : Value) (own : ℕ → List Change) (table : List ℕ) (key : Value)
    (gs : List Generation) → leaves_versions f ≡ true
    → generations_after f made own table key gs ≡ gs
left_as_before (TakesBack t point) made own table key gs leaves = absurd (false≢true leaves)
left_as_before (Makes t named row) made own table key gs leaves = absurd (false≢true leaves)
left_as_before (Gives t named given row) made own table key gs leaves = absurd (false≢true leaves)
left_as_before (Ends t Active) made own table key gs leaves = refl
left_as_before (Ends t Limbo) made own table key gs leaves = refl
left_as_before (Ends t Dead) made own table key gs leaves = absurd (false≢true leaves)
left_as_before (Ends t Committed) made own table key gs leaves = refl
left_as_before f made own table key gs leaves = refl

module _ (o : Opening) (opening : MayBegin o) (h : Entries) (e : Entry) (legal : IsLegal o (e ∷ h))
    (table : List ℕ) (key : Value) (gs : List Generation) (it : AreGenerations o h table key gs)
  where
    -- the versions after an entry, where its effect and what that makes of them are known
    as_effect : (f : Effect) (now : List Generation) → effect_of e ≡ f
        → generations_after f (key_made o h f) (own o (e ∷ h)) table key gs ≡ now
        → AreGenerations o (e ∷ h) table key now
    as_effect f now is same =
        let P : Effect → Type 0 = λ f. AreGenerations o (e ∷ h) table key
        (generations_after f (key_made o h f) (own o (e ∷ h)) table key gs) in
        let Q : List Generation → Type 0 = λ gs. AreGenerations o (e ∷ h) table key gs in
        subst Q same (subst P is
        (generations_go_on o opening h e legal table key gs it))

    -- an entry that writes nothing, lets nobody die and takes nothing back leaves them
    pub generations_left : leaves_versions (effect_of e) ≡ true
        → AreGenerations o (e ∷ h) table key gs
    generations_left leaves =
        as_effect (effect_of e) gs refl
        (left_as_before (effect_of e) (key_made o h (effect_of e)) (own o (e ∷ h)) table key gs
        leaves)

    -- the key is given another row, or none
    pub generations_given : (t : ℕ) (row : Option Cells) → effect_of e ≡ Gives t table key row
        → AreGenerations o (e ∷ h) table key (put t row gs)
    generations_given t row is =
        let here : (same_name table table && same_key key key) ≡ true =
        is_at_itself table key row in
        as_effect (Gives t table key row) (put t row gs) is (rw here refl)

    -- a row with the key is made
    pub generations_made : (t : ℕ) (row : Cells) → effect_of e ≡ Makes t table row
        → key_in (catalog_of (told o h) t) table row ≡ key
        → AreGenerations o (e ∷ h) table key (put t (Some row) gs)
    generations_made t row is made =
        let here : (same_name table table && same_key key key) ≡ true =
        is_at_itself table key (Some row) in
        as_effect (Makes t table row) (put t (Some row) gs) is (rw made (rw here refl))

    -- another key is given a row, or none
    pub generations_given_elsewhere : (t : ℕ) (named : List ℕ) (given : Value) (row : Option Cells)
        → effect_of e ≡ Gives t named given row
        → (same_name named table && same_key given key) ≡ false
        → AreGenerations o (e ∷ h) table key gs
    generations_given_elsewhere t named given row is other =
        as_effect (Gives t named given row) gs is (rw other refl)

    -- a row with another key is made
    pub generations_made_elsewhere : (t : ℕ) (named : List ℕ) (row : Cells)
        → effect_of e ≡ Makes t named row
        → (same_name named table && same_key (key_in (catalog_of (told o h) t) named row) key)
        ≡ false
        → AreGenerations o (e ∷ h) table key gs
    generations_made_elsewhere t named row is other =
        as_effect (Makes t named row) gs is (rw other refl)

    -- a transaction comes to be dead
    pub generations_dead : (t : ℕ) → effect_of e ≡ Ends t Dead
        → AreGenerations o (e ∷ h) table key (without_newest_by t gs)
    generations_dead t is = as_effect (Ends t Dead) (without_newest_by t gs) is refl
