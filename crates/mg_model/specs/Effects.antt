-- Whose an effect is, and what one deed of a transaction takes back of its deeds.
use Rattle.std.specs.Prelude.{◌≡◌, ℕ, ◌==◌, Bool, true, false, not, ◌||◌, List, [], ◌∷◌, Option, Some, None, cond}
use Rattle.mg_base.specs.declared.transaction.TxState.{TxState}
use Rattle.mg_base.specs.declared.transaction.TxState.TheVariants.{Active, Limbo, Dead, Committed}
use Rattle.mg_model.specs.declared.change.Change.{Change}
use Rattle.mg_model.specs.declared.change.Deed.{Deed}
use Rattle.mg_model.specs.declared.change.Deed.TheVariants.{Marked, Saved}
use Rattle.mg_model.specs.History.{Entry, Entries, Point, LastMark, SavepointNamed, Effect, Begins, Looks, Makes, Gives, Marks, Saves, TakesBack, Ends, Nothing, effect_of}
use Rattle.mg_model.specs.Machine.{is_point, is_of}

-- the transaction whose effect it is, if it is one's
abbrev pub doer : Effect → Option ℕ
doer (Begins t mode) = Some t
doer (Looks t) = Some t
doer (Makes t table row) = Some t
doer (Gives t table key row) = Some t
doer (Marks t) = Some t
doer (Saves t name) = Some t
doer (TakesBack t point) = Some t
doer (Ends t end) = Some t
doer Nothing = None

-- the number that an effect draws
abbrev pub drawn : Effect → Option ℕ
drawn (Begins t mode) = Some t
drawn (Looks t) = None
drawn (Makes t table row) = None
drawn (Gives t table key row) = None
drawn (Marks t) = None
drawn (Saves t name) = None
drawn (TakesBack t point) = None
drawn (Ends t end) = None
drawn Nothing = None

-- the transaction, if it comes to be committed
abbrev pub if_committed : TxState → ℕ → Option ℕ
if_committed Active t = None
if_committed Limbo t = None
if_committed Dead t = None
if_committed Committed t = Some t

-- the transaction that an effect commits
abbrev pub commits : Effect → Option ℕ
commits (Begins t mode) = None
commits (Looks t) = None
commits (Makes t table row) = None
commits (Gives t table key row) = None
commits (Marks t) = None
commits (Saves t name) = None
commits (TakesBack t point) = None
commits (Ends t end) = if_committed end t
commits Nothing = None

-- the changes of a transaction, none where there is none
abbrev pub changes_of : Option ℕ → (ℕ → List Change) → List Change
changes_of None own = []
changes_of (Some t) own = own t

-- an entry is this transaction's: it does something of it, or draws its number
abbrev pub is_its : ℕ → Entry → Bool
is_its t e = is_of t (doer (effect_of e))

-- ---- deeds of one transaction, and what is taken back of them

abbrev pub has_deed : Point → List Deed → Bool
has_deed point [] = false
has_deed point (d ∷ deeds) = is_point point d || has_deed point deeds

-- the deeds from the point on: a mark ends, and a savepoint stays
abbrev pub from_point : Point → Deed → List Deed → List Deed
from_point LastMark d deeds = deeds
from_point (SavepointNamed name) d deeds = d ∷ deeds

-- the deeds without those since the point
abbrev pub deeds_back : Point → List Deed → List Deed
deeds_back point [] = []
deeds_back point (d ∷ deeds) =
    cond (is_point point d) (from_point point d deeds) (deeds_back point deeds)

-- what stands of the deeds once they are taken back to a point; all, where there is no such point
abbrev pub deeds_left : Point → List Deed → List Deed
deeds_left point deeds = cond (has_deed point deeds) (deeds_back point deeds) deeds

-- the points that stand of those that a transaction set, after one more effect
abbrev pub points_after : ℕ → Effect → List Deed → List Deed
points_after t (Begins u mode) old = old
points_after t (Looks u) old = old
points_after t (Makes u table row) old = old
points_after t (Gives u table key row) old = old
points_after t (Marks u) old = cond (u == t) (Marked ∷ old) old
points_after t (Saves u name) old = cond (u == t) (Saved name ∷ old) old
points_after t (TakesBack u point) old = cond (u == t) (deeds_back point old) old
points_after t (Ends u end) old = old
points_after t Nothing old = old

-- the points that a transaction set in some entries and that stand after them
abbrev pub points_since : ℕ → Entries → List Deed
points_since t [] = []
points_since t (e ∷ since) = points_after t (effect_of e) (points_since t since)

-- an effect takes a transaction back, if it does, to one of these points; nor does it begin it
abbrev pub goes_within : ℕ → Effect → List Deed → Bool
goes_within t (Begins u mode) points = not (u == t)
goes_within t (Looks u) points = true
goes_within t (Makes u table row) points = true
goes_within t (Gives u table key row) points = true
goes_within t (Marks u) points = true
goes_within t (Saves u name) points = true
goes_within t (TakesBack u point) points = not (u == t) || has_deed point points
goes_within t (Ends u end) points = true
goes_within t Nothing points = true

-- in these entries a transaction is taken back only to points that it set in them
abbrev pub StaysWithin : ℕ → Entries → Type 0
StaysWithin t [] = Unit {0}
StaysWithin t (e ∷ since) =
    (goes_within t (effect_of e) (points_since t since) ≡ true) × StaysWithin t since

-- the effect that sets a point
abbrev pub setting : ℕ → Point → Effect
setting t LastMark = Marks t
setting t (SavepointNamed name) = Saves t name
