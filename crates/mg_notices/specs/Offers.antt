-- What was offered, by whom, and what was taken.
use Rattle.std.specs.Prelude.{◌≡◌, ◌≢◌, ◌==◌, if◌then◌else◌, ℕ, ◌<◌, ◌≤◌, List, [], ◌∷◌, ◌++◌, length}
use mathlib.Core.Option.{some}
use lib.ListN.{get_elem?}
use Rattle.mg_notices.specs.declared.rule.Known.{Known}

-- the name is none of these
abbrev pub IsNew : ℕ → List ℕ → Type 0
IsNew name [] = Unit {0}
IsNew name (other ∷ others) = (name ≢ other) × IsNew name others

module _ {T : Type 0} where
  -- what the offerer of this name offered, in its order, of a list of what was offered and by whom
  abbrev pub offered_by : ℕ → List (ℕ × T) → List T
  offered_by name [] = []
  offered_by name (e ∷ es) = if e.0 == name then (e.1 ∷ offered_by name es) else (offered_by name es)

  -- the notices of such a list
  abbrev pub noticed : List (ℕ × T) → List T
  noticed [] = []
  noticed (e ∷ es) = e.1 ∷ noticed es

  -- the taker of an empty queue
  abbrev pub taker : Known T
  taker = record { offers = 0; takes = 1; put = []; got = []; gathered = [] }

  -- an offerer that has offered nothing
  abbrev pub offerer : Known T
  offerer = record { offers = 1; takes = 0; put = []; got = []; gathered = [] }

  -- an offerer that was gathered
  abbrev pub gone : Known T
  gone = record { offers = 0; takes = 0; put = []; got = []; gathered = [] }

  -- it has offered a notice more
  abbrev pub offered : Known T → T → Known T
  offered v x = record v { put = v.put ++ x ∷ [] }

  -- it has taken a notice more
  abbrev pub taken : Known T → T → Known T
  taken v x = record v { got = v.got ++ x ∷ [] }

  -- it has gathered an offerer
  abbrev pub with_gathered : Known T → Known T → Known T
  with_gathered v w = record v { gathered = w.put ∷ v.gathered }

  -- an offerer puts a notice into the queue
  abbrev pub Offers : Known T → T → Known T → Type 0
  Offers v x w = w ≡ offered v x

  -- the taker takes a notice
  abbrev pub Takes : Known T → T → Known T → Type 0
  Takes v x w = w ≡ taken v x

  -- each of these lists is all that one of these names offered, and no name stands twice
  abbrev pub AreOffered : List (ℕ × T) → List (List T) → List ℕ → Type 0
  AreOffered all [] [] = Unit {0}
  AreOffered all [] (name ∷ names) = ⊥
  AreOffered all (put ∷ puts) [] = ⊥
  AreOffered all (put ∷ puts) (name ∷ names) = (offered_by name all ≡ put) × IsNew name names × AreOffered all puts names

  -- What the taker is told: there is one list of what was offered and by whom. What was taken and then
  -- what the queue holds are its notices, and it has all that each gathered offerer offered.
  pub record Tells (v : Known T) (items : List T) : Type 0 where
    pub all : List (ℕ × T)
    pub names : List ℕ
    pub one : noticed all ≡ v.got ++ items
    pub theirs : AreOffered all v.gathered names

  -- these are all offers of an offerer that was gathered, whose name is its number
  pub record IsGathered (all : List (ℕ × T)) (views : List (Known T)) (put : List T) (name : ℕ) : Type 0 where
    pub there : name < length views
    pub spent : (u : Known T) → get_elem? views name ≡ some u → (u.offers ≡ 0) × (u.takes ≡ 0)
    pub own : offered_by name all ≡ put

  -- each of these lists is that of a gathered offerer of one of these names, and no name stands twice
  abbrev pub AreGathered : List (ℕ × T) → List (Known T) → List (List T) → List ℕ → Type 0
  AreGathered all views [] [] = Unit {0}
  AreGathered all views [] (name ∷ names) = ⊥
  AreGathered all views (put ∷ puts) [] = ⊥
  AreGathered all views (put ∷ puts) (name ∷ names) = IsGathered all views put name × IsNew name names × AreGathered all views puts names

  -- what one of them knows is so
  pub record Fits (all : List (ℕ × T)) (got : List T) (views : List (Known T)) (reader j : ℕ) (v : Known T) : Type 0 where
    pub takes : 0 < v.takes → (j ≡ reader) × (v.got ≡ got) × (v.offers ≡ 0)
    pub offers : 0 < v.offers → offered_by j all ≡ v.put
    pub names : List ℕ
    pub gathered : AreGathered all views v.gathered names

  -- the rule: one list of what was offered stands behind the queue and all that is known
  pub record Kept (items : List T) (views : List (Known T)) : Type 0 where
    pub all : List (ℕ × T)
    pub got : List T
    pub reader : ℕ
    pub one : noticed all ≡ got ++ items
    pub fits : (j : ℕ) (v : Known T) → get_elem? views j ≡ some v → Fits all got views reader j v
    -- who isn't there has offered nothing
    pub strangers : (j : ℕ) → length views ≤ j → offered_by j all ≡ []
