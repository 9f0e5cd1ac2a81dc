-- The catalogs of bases stay lawful from entry to entry.
use Rattle.std.proofs.Common.{◌≡◌, ◌++◌, refl, sym, ap, ◌∙◌, subst, cond, ℕ, Bool, true, false, List, [], ◌∷◌}
use Rattle.std.proofs.lemmas.Bool.{false≢true}
use Rattle.mg_model.specs.declared.change.Change.{Change}
use Rattle.mg_model.specs.declared.opening.LimboChange.{LimboChange}
use Rattle.mg_model.specs.declared.opening.Opening.{Opening}
use Rattle.mg_model.specs.Catalog.{catalog_name}
use Rattle.mg_model.specs.Changes.{row_at}
use Rattle.mg_model.specs.History.{Effect, Entries, Entry, Nothing, TakesBack, effect_of}
use Rattle.mg_model.specs.Machine.{base, database, mode_of, opening_rows, takes_base}
use Rattle.mg_model.specs.Openings.{IsOpening, IsToldCatalog, chosen_changes}
use Rattle.mg_engine_meaning_laws.specs.LawfulBases.{BasesAreLawful}

none_chosen : (cs : List LimboChange) → chosen_changes (λ u. false) cs ≡ []
none_chosen [] = refl
none_chosen (c ∷ cs) = none_chosen cs

-- they are so at first
pub first_bases : (o : Opening) → IsOpening o → BasesAreLawful o []
first_bases o is t = subst (λ (cs : List Change). IsToldCatalog (row_at (cs ++ opening_rows o) catalog_name))
    (none_chosen o.limbo) (is.lawful (λ u. false))

-- where an entry takes a base, the database has to be so
pub bases_after : (o : Opening) (h : Entries) (e : Entry) → BasesAreLawful o h
    → ((t : ℕ) → takes_base (effect_of e) t (mode_of h t).snapshot ≡ true
    → IsToldCatalog (row_at (database o h) catalog_name))
    → BasesAreLawful o (e ∷ h)
bases_after o h e bases new t = at (takes_base (effect_of e) t (mode_of h t).snapshot) refl
  where
    at : (b : Bool) → takes_base (effect_of e) t (mode_of h t).snapshot ≡ b
        → IsToldCatalog (row_at (cond b (database o h) (base o h t)) catalog_name)
    at true is = new t is
    at false not_ = bases t

-- where it takes none, they stay so
pub bases_stay : (o : Opening) (h : Entries) (e : Entry)
    → ((t : ℕ) (snapshot : Bool) → takes_base (effect_of e) t snapshot ≡ false) → BasesAreLawful o h
    → BasesAreLawful o (e ∷ h)
bases_stay o h e none bases = bases_after o h e bases
    (λ t is. absurd (false≢true (sym (none t (mode_of h t).snapshot) ∙ is)))

-- an entry of which nothing comes
pub bases_over_nothing : (o : Opening) (h : Entries) (e : Entry) → effect_of e ≡ Nothing → BasesAreLawful o h
    → BasesAreLawful o (e ∷ h)
bases_over_nothing o h e is = bases_stay o h e (λ t snapshot. ap (λ (f : Effect). takes_base f t snapshot) is)
