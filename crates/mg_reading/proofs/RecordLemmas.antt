-- Lemmas on records as they are read.
use Rattle.std.proofs.Common.{◌≡◌, ◌≢◌, ◌⊎◌, inl, inr, refl, sym, ◌∙◌, ℕ, true, false, List, [], ◌∷◌, Option, None, Some}
use Rattle.mg_version.specs.declared.cell.Link.{Link}
use Rattle.std.proofs.Common.{◌+◌, ◌<◌, ◌++◌, length, take, get_or}
use Rattle.std.proofs.lemmas.List.{take_more}
use Rattle.mg_base.specs.declared.numbers.RecId.{RecId}
use Rattle.mg_image.specs.declared.entry.Entry.{Entry}
use Rattle.mg_image.specs.RecordRules.{Each}
use Rattle.mg_image.specs.Records.{Stands}
use Rattle.mg_reading.specs.RunLaws.{each_version_push}
use Rattle.mg_image.specs.StepLaws.{cases_place, same_place}
use Rattle.mg_image.specs.Tables.{has}

-- a link that leads nowhere
pub none_of : (link : Option Link) → ((l : Link) → link ≡ Some l → ⊥) → link ≡ None
none_of None none = refl
none_of (Some l) none = absurd (none l refl)

pub stands_push : (es : List Entry) (e : Entry) (x : RecId) → Stands (es ++ e ∷ []) x
    → Stands es x ⊎ (e.at ≡ x)
stands_push [] e x (inl is) = inr is
stands_push [] e x (inr none) = absurd none
stands_push (d ∷ es) e x (inl is) = inl (inl is)
stands_push (d ∷ es) e x (inr later) = at (stands_push es e x later)
  where
    at : Stands es x ⊎ (e.at ≡ x) → Stands (d ∷ es) x ⊎ (e.at ≡ x)
    at (inl there) = inl (inr there)
    at (inr is) = inr is

-- a cell that is none of the first versions, nor the next one
pub stands_more : (es : List Entry) (i : ℕ) (e : Entry) (x : RecId) → i < length es
    → e ≡ get_or es i e → (Stands (take i es) x → ⊥) → (e.at ≡ x → ⊥)
    → Stands (take (i + 1) es) x → ⊥
stands_more es i e x below is none other has =
    at (stands_push (take i es) e x (rw (sym is) at (rw (take_more es i e below) at has)))
  where
    at : Stands (take i es) x ⊎ (e.at ≡ x) → ⊥
    at (inl there) = none there
    at (inr same) = other same

-- one version more of a list has a property
pub each_version_take : (P : Entry → Type 0) (es : List Entry) (i : ℕ) (e : Entry) → i < length es
    → e ≡ get_or es i e → Each P (take i es) → P e → Each P (take (i + 1) es)
each_version_take P es i e below is each here =
    rw (take_more es i e below) (each_version_push P (take i es) (get_or es i e) each (rw (sym is) here))

-- two places that differ in a test
pub places_differ : (a b : RecId) → false ≡ same_place a b → a ≡ b → ⊥
places_differ a b differ same = at (cases_place a b)
  where
    at : ((a ≡ b) × (same_place a b ≡ true)) ⊎ ((a ≢ b) × (same_place a b ≡ false)) → ⊥
    at (inl (e, is)) = let no_ = differ ∙ is in cc
    at (inr (n, is)) = n same
