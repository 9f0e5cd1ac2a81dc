-- The keys of the changes in the order of their pushes, and where each was pushed before.
use Rattle.std.specs.Prelude.{◌≡◌, ℕ, zero, suc, ◌-◌, ◌<◌, ◌==◌, ◌&&◌, nat_eq, nat_le, Bool, false, List, [], ◌∷◌, length, take, Option, Some, None, if◌then◌else◌}
use Rattle.std.specs.Cmp.Lexicographic.{pointwise}
use Rattle.indexmap.specs.Layout.{set_value_at}
use Rattle.mg_undo.specs.declared.places.Place.{Place}
use Rattle.mg_undo.specs.declared.places.Push.{Push}

-- a place, as the number of a table and the bytes of a key
abbrev pub spot_of : Place → ℕ × List ℕ
spot_of place = (place.table, place.key.items)

-- two places are the same
abbrev pub is_same_spot : ℕ × List ℕ → ℕ × List ℕ → Bool
is_same_spot a b = a.0 == b.0 && pointwise nat_eq a.1 b.1

-- how many pushes came before the last one of a place, the newest push first
abbrev pub last_at : ℕ × List ℕ → List (ℕ × List ℕ) → Option ℕ
last_at spot [] = None
last_at spot (s ∷ ss) = if is_same_spot spot s then Some (length ss) else last_at spot ss

-- a push is one after the first so many
abbrev pub is_past : ℕ → Option ℕ → Bool
is_past floor None = false
is_past floor (Some at) = nat_le floor at

-- the newest push is of a place that was pushed before, after the first so many pushes
abbrev pub repeats_spot : ℕ → List (ℕ × List ℕ) → Bool
repeats_spot floor [] = false
repeats_spot floor (s ∷ ss) = is_past floor (last_at s ss)

-- ---- how the places are kept

-- what is kept of the last push of a place
abbrev pub value_of : ℕ × List ℕ → List (Place × ℕ) → Option ℕ
value_of spot [] = None
value_of spot (e ∷ es) = if is_same_spot spot (spot_of e.0) then Some e.1 else value_of spot es

-- the place of an entry
abbrev pub spot_at : ℕ → List (Place × ℕ) → ℕ × List ℕ
spot_at entry [] = (0, [])
spot_at zero (e ∷ es) = spot_of e.0
spot_at (suc entry) (e ∷ es) = spot_at entry es

-- an entry is as before the last push of its place
abbrev pub set_back : ℕ → Option ℕ → List (Place × ℕ) → List (Place × ℕ)
set_back entry None entries = take (length entries - 1) entries
set_back entry (Some at) entries = set_value_at entries entry at

-- the entries as they were before the last push
abbrev pub undone : Push → List (Place × ℕ) → List (Place × ℕ)
undone push entries = set_back push.entry push.earlier entries

-- the last push is of this place, after so many others
pub record IsPushed (push : Push) (entries : List (Place × ℕ)) (spot : ℕ × List ℕ) (at : ℕ)
    : Type 0 where
  pub within : push.entry < length entries
  pub place : spot_at push.entry entries ≡ spot
  pub last : value_of spot entries ≡ Some at
  pub earlier : value_of spot (undone push entries) ≡ push.earlier
  pub others : (other : ℕ × List ℕ) → is_same_spot other spot ≡ false
      → value_of other entries ≡ value_of other (undone push entries)

-- the places that were pushed, the newest first
abbrev pub spots_of : List Push → List (Place × ℕ) → List (ℕ × List ℕ)
spots_of [] entries = []
spots_of (p ∷ ps) entries = spot_at p.entry entries ∷ spots_of ps (undone p entries)

-- the entries are what these pushes leave, the newest first
abbrev pub AreLinked : List Push → List (Place × ℕ) → Type 0
AreLinked [] entries = entries ≡ []
AreLinked (p ∷ ps) entries =
    IsPushed p entries (spot_at p.entry entries) (length ps) × AreLinked ps (undone p entries)
