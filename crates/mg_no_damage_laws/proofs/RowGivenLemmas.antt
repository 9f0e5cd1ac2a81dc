-- The keys of the rows of the catalog that are taken back, one after another: each is of a change of the catalog, and none comes
-- twice.
use Rattle.std.proofs.Common.{◌≡◌, ◌∙◌, ◌++◌, ◌&&◌, ◌||◌, ap, refl, sym, ℕ, Bool, true, false, List, [], ◌∷◌}
use Rattle.std.specs.Prelude.{if◌then◌else◌, map}
use Rattle.std.specs.Cmp.Lexicographic.{same_text}
use Rattle.std.proofs.lemmas.Bool.{false≢true}
use Rattle.mg_engine_change_laws.specs.tables_back.RowsGiven.{of_catalog}
use Rattle.mg_engine_change_laws.specs.backs.ToTake.{AreOfOtherKeys, EachChange}
use Rattle.mg_engine_step_laws.specs.tables_back.Outs.{is_among}
use Rattle.mg_engine_step_laws.specs.tables_back.OutsThereLaws.{same_itself}
use Rattle.mg_model.specs.Catalog.{catalog_name}
use Rattle.mg_model.specs.Changes.{is_at, same_key, same_name}
use Rattle.mg_model.specs.ReadLaws.{same_name_itself}
use Rattle.mg_model.specs.RowLaws.{same_from_same_key}
use Rattle.mg_model.specs.declared.change.Change.{Change}
use Rattle.mg_undo.specs.Machine.{has_same}
use Rattle.mg_value.specs.declared.value.Value.{Value}

-- ---- changes of the catalog

-- what each has, those of the catalog have
pub each_of_catalog : (P : Change → Type 0) (cs : List Change) → EachChange P cs → EachChange P (of_catalog cs)
each_of_catalog P [] each = tt
each_of_catalog P (c ∷ cs) each = at (same_name c.table catalog_name) (each_of_catalog P cs each.1)
  where
    at : (b : Bool) → EachChange P (of_catalog cs) → EachChange P (if b then c ∷ of_catalog cs else of_catalog cs)
    at true more = (each.0, more)
    at false more = more

-- and they are of it
pub each_named : (cs : List Change) → EachChange (λ c. c.table ≡ catalog_name) (of_catalog cs)
each_named [] = tt
each_named (c ∷ cs) = at (same_name c.table catalog_name) refl (each_named cs)
  where
    at : (b : Bool) → same_name c.table catalog_name ≡ b → EachChange (λ x. x.table ≡ catalog_name) (of_catalog cs)
        → EachChange (λ x. x.table ≡ catalog_name) (if b then c ∷ of_catalog cs else of_catalog cs)
    at true named more = (same_text c.table catalog_name (sym named), more)
    at false other more = more

pub each_both : (P Q : Change → Type 0) (cs : List Change) → EachChange P cs → EachChange Q cs
    → EachChange (λ c. P c × Q c) cs
each_both P Q [] first second = tt
each_both P Q (c ∷ cs) first second = ((first.0, second.0), each_both P Q cs first.1 second.1)

-- ---- keys in turn

-- a key among them is that of a change
pub key_there : (P : Change → Type 0) (cs : List Change) (done more : List Value) (key : Value) → EachChange P cs
    → map (λ c. c.key) cs ≡ done ++ (key ∷ more) → (c : Change) × P c × (c.key ≡ key)
key_there P [] [] more key each is = absurd cc
key_there P [] (d ∷ done) more key each is = absurd cc
key_there P (c ∷ cs) [] more key each is = let same : c.key ≡ key = cc in (c, each.0, same)
key_there P (c ∷ cs) (d ∷ done) more key each is =
    let rest : map (λ x. x.key) cs ≡ done ++ (key ∷ more) = cc in key_there P cs done more key each.1 rest

neither : (a b : Bool) → (a || b) ≡ false → (a ≡ false) × (b ≡ false)
neither true b is = absurd (false≢true (sym is))
neither false b is = (refl, is)

-- none of these is of the key of another one
each_other : (c : Change) (cs : List Change) → has_same c cs ≡ false
    → EachChange (λ x. is_at x c.table c.key ≡ false) cs
each_other c [] none = tt
each_other c (x ∷ cs) none = let parts = neither (is_at x c.table c.key) (has_same c cs) none in
    (parts.0, each_other c cs parts.1)

-- so a key that comes has not come before
pub not_before : (cs : List Change) (done more : List Value) (key : Value)
    → EachChange (λ c. c.table ≡ catalog_name) cs → AreOfOtherKeys cs → map (λ c. c.key) cs ≡ done ++ (key ∷ more)
    → is_among done key ≡ false
not_before cs [] more key named apart is = refl
not_before [] (d ∷ done) more key named apart is = absurd cc
not_before (c ∷ cs) (d ∷ done) more key named apart is =
    let first : c.key ≡ d = cc in
    let rest : map (λ x. x.key) cs ≡ done ++ (key ∷ more) = cc in
    rw (
      other first (key_there (λ x. (x.table ≡ catalog_name) × (is_at x c.table c.key ≡ false)) cs done more key
          (each_both (λ x. x.table ≡ catalog_name) (λ x. is_at x c.table c.key ≡ false) cs named.1
          (each_other c cs apart.0)) rest),
      not_before cs done more key named.1 apart.1 rest,
    ) refl
  where
    other : c.key ≡ d → (x : Change) × ((x.table ≡ catalog_name) × (is_at x c.table c.key ≡ false)) × (x.key ≡ key)
        → same_key d key ≡ false
    other first (x, (of, not_it), keyed) = at (same_key d key) refl
      where
        at : (b : Bool) → same_key d key ≡ b → same_key d key ≡ false
        at false no_ = no_
        at true same =
            let one_key : c.key ≡ x.key = first ∙ (same_from_same_key d key same ∙ sym keyed) in
            let one_table : c.table ≡ x.table = named.0 ∙ sym of in
            let here : is_at x x.table x.key ≡ true = rw (same_name_itself x.table, same_itself x.key) refl in
            let there : is_at x c.table c.key ≡ true = ap (λ (n : List ℕ). is_at x n c.key) one_table
            ∙ (ap (is_at x x.table) one_key ∙ here) in absurd (false≢true (sym not_it ∙ there))
