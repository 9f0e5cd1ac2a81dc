-- The numbers and texts that a file or a user sees, written out.
use Rattle.std.specs.Prelude.{◌≡◌, pos, [], ◌∷◌, codes}
use Rattle.mg_value.specs.declared.value.Value.TheVariants.{Int, Null, Text}
use Rattle.mg_model.specs.NewDatabase.{new_catalog}

-- the rows of the catalog of a new database, in which page 5 is KV's first pointer page
abbrev pub NewRows : Type 0
NewRows = new_catalog 5
    ≡ (Text (codes "CKV.00") ∷ Text (codes "K")
    ∷ Int (pos 0) ∷ Int (pos 3) ∷ Int (pos 1) ∷ Int (pos 0) ∷ [])
    ∷ (Text (codes "CKV.01") ∷ Text (codes "V")
    ∷ Int (pos 0) ∷ Int (pos 0) ∷ Int (pos 1) ∷ Int (pos 1) ∷ [])
    ∷ (Text (codes "TKV") ∷ Null ∷ Int (pos 5) ∷ Int (pos 2) ∷ Int (pos 0) ∷ Int (pos 0) ∷ [])
    ∷ []
