-- The changes since a point are those that are taken back, key by key.
use Rattle.std.proofs.Common.{◌≡◌, ◌||◌, ◌&&◌, ◌++◌, ◌∙◌, Bool, true, false, List, [], ◌∷◌, Option, None, Some, ap, refl, sym, cond, ℕ}
use Rattle.std.specs.Prelude.{if◌then◌else◌}
use Rattle.std.proofs.lemmas.Bool.{and_parts, eq-eqb, false≢true}
use Rattle.std.specs.Cmp.Lexicographic.{same_text}
use Rattle.mg_engine_step_laws.specs.backs.Again.{without_key}
use Rattle.mg_engine_change_laws.specs.backs.ToTake.{AreKeysOf, AreOfOtherKeys, EachChange, KeysAreTaken, SinceAreTaken, since_if, since_point, was_of}
use Rattle.mg_image.specs.Histories.{newest_at, row_change}
use Rattle.mg_model.specs.Answers.{catalog_of, told}
use Rattle.mg_model.specs.Changes.{Cells, has_change, is_at, same_key, same_name}
use Rattle.mg_model.specs.DeedLaws.{deeds_after, deeds_after_entry}
use Rattle.mg_model.specs.Effects.{deeds_back, deeds_left, has_deed}
use Rattle.mg_model.specs.History.{Effect}
use Rattle.mg_model.specs.Machine.{changes_in, deeds_by, own, steps}
use Rattle.mg_model.specs.ReadLaws.{is_at_itself}
use Rattle.mg_model.specs.RowLaws.{same_from_same_key}
use Rattle.mg_model.specs.declared.change.Change.{Change}
use Rattle.mg_model.specs.declared.change.Deed.{Deed}
use Rattle.mg_model.specs.declared.change.Deed.TheVariants.{Changed, Marked, Saved}
use Rattle.mg_model.specs.declared.change.Point.{Point}
use Rattle.mg_model.specs.declared.change.Point.TheVariants.{LastMark, SavepointNamed}
use Rattle.mg_undo.specs.Machine.{changes_since, first_of, has_same, was_given, was_in}
use Rattle.mg_value.specs.declared.value.Value.{Value}

-- ---- since a point

changes_split : (point : Point) (deeds : List Deed) → has_deed point deeds ≡ true
    → changes_in deeds ≡ changes_since point deeds ++ changes_in (deeds_back point deeds)
changes_split point [] has = absurd (false≢true has)
changes_split LastMark (Changed c ∷ deeds) has = ap (λ (cs : List Change). c ∷ cs) (changes_split LastMark deeds has)
changes_split LastMark (Marked ∷ deeds) has = refl
changes_split LastMark (Saved name ∷ deeds) has = changes_split LastMark deeds has
changes_split (SavepointNamed own_name) (Changed c ∷ deeds) has =
    ap (λ (cs : List Change). c ∷ cs) (changes_split (SavepointNamed own_name) deeds has)
changes_split (SavepointNamed own_name) (Marked ∷ deeds) has = changes_split (SavepointNamed own_name) deeds has
changes_split (SavepointNamed own_name) (Saved name ∷ deeds) has =
    at (same_name own_name name) has (changes_split (SavepointNamed own_name) deeds)
  where
    at : (b : Bool) → (b || has_deed (SavepointNamed own_name) deeds) ≡ true
        → (has_deed (SavepointNamed own_name) deeds ≡ true
        → changes_in deeds
        ≡ changes_since (SavepointNamed own_name) deeds ++ changes_in (deeds_back (SavepointNamed own_name) deeds))
        → changes_in deeds
        ≡ (if b then [] else changes_since (SavepointNamed own_name) deeds)
        ++ changes_in (cond b (Saved name ∷ deeds) (deeds_back (SavepointNamed own_name) deeds))
    at true has_ more = refl
    at false has_ more = more has_

pub since_are_taken : SinceAreTaken
since_are_taken o h e t point is name key = ap (λ (cs : List Change). newest_at cs name key) whole
  where
    left_deeds : deeds_by t (steps o (e ∷ h)) ≡ deeds_left point (deeds_by t (steps o h))
    left_deeds = deeds_after_entry o h e t
        ∙ (ap (λ (f : Effect). deeds_after f t (catalog_of (told o h) t) (deeds_by t (steps o h))) is
        ∙ rw (eq-eqb t t refl) refl)

    left_is : own o (e ∷ h) t ≡ changes_in (deeds_left point (deeds_by t (steps o h)))
    left_is = ap changes_in left_deeds

    at : (b : Bool) → has_deed point (deeds_by t (steps o h)) ≡ b
        → since_if b point (deeds_by t (steps o h))
        ++ changes_in (cond b (deeds_back point (deeds_by t (steps o h))) (deeds_by t (steps o h)))
        ≡ changes_in (deeds_by t (steps o h))
    at true has = sym (changes_split point (deeds_by t (steps o h)) has)
    at false none = refl

    whole : since_point point (deeds_by t (steps o h)) ++ own o (e ∷ h) t ≡ own o h t
    whole = ap (λ (cs : List Change). since_point point (deeds_by t (steps o h)) ++ cs) left_is
        ∙ at (has_deed point (deeds_by t (steps o h))) refl

-- ---- what was at a key

pub was_there : (cs : List Change) (name : List ℕ) (key : Value)
    → was_in cs name key ≡ was_of (newest_at cs name key)
was_there [] name key = refl
was_there (c ∷ cs) name key = at (is_at c name key) (was_there cs name key)
  where
    given : (row : Option Cells) → was_given row ≡ was_of (Some (row_change row))
    given None = refl
    given (Some row) = refl

    at : (b : Bool) → was_in cs name key ≡ was_of (newest_at cs name key)
        → (if b then was_given c.row else was_in cs name key)
        ≡ was_of (if b then Some (row_change c.row) else newest_at cs name key)
    at true more = given c.row
    at false more = more

-- ---- keys

-- two keys that are the same are so either way round
flipped : (c d : Change) → is_at d c.table c.key ≡ false → is_at c d.table d.key ≡ false
flipped c d off = at (is_at c d.table d.key) refl
  where
    at : (b : Bool) → is_at c d.table d.key ≡ b → is_at c d.table d.key ≡ false
    at false is = is
    at true is =
        let parts = and_parts (same_name c.table d.table) (same_key c.key d.key) is in
        let named : c.table ≡ d.table = same_text c.table d.table (sym parts.0) in
        let keyed : c.key ≡ d.key = same_from_same_key c.key d.key parts.1 in
        absurd (false≢true (sym off ∙ (ap (λ (n : List ℕ). is_at d n c.key) named
        ∙ (ap (is_at d d.table) keyed ∙ is_at_itself d.table d.key d.row))))

-- who is at the key of a change is at each key at which that is
same_place : (c d : Change) (name : List ℕ) (key : Value) → is_at c name key ≡ true → is_at d c.table c.key ≡ true
    → is_at d name key ≡ true
same_place c d name key is also =
    let parts = and_parts (same_name c.table name) (same_key c.key key) is in
    let named : c.table ≡ name = same_text c.table name (sym parts.0) in
    let keyed : c.key ≡ key = same_from_same_key c.key key parts.1 in
    ap (λ (n : List ℕ). is_at d n key) (sym named) ∙ (ap (is_at d c.table) (sym keyed) ∙ also)

same_has : (c : Change) (ds : List Change) (name : List ℕ) (key : Value) → is_at c name key ≡ true
    → has_same c ds ≡ true → has_change ds name key ≡ true
same_has c [] name key is has = absurd (false≢true has)
same_has c (d ∷ ds) name key is has = at (is_at d c.table c.key) refl has (same_has c ds name key is)
  where
    or_has : (b : Bool) → has_change ds name key ≡ true → (if b then true else has_change ds name key) ≡ true
    or_has true more = refl
    or_has false more = more

    at : (b : Bool) → is_at d c.table c.key ≡ b → (b || has_same c ds) ≡ true
        → (has_same c ds ≡ true → has_change ds name key ≡ true)
        → (if is_at d name key then true else has_change ds name key) ≡ true
    at true here has_ more = rw (same_place c d name key is here) refl
    at false off has_ more = or_has (is_at d name key) (more has_)

has_here : (cs : List Change) (name : List ℕ) (key : Value)
    → has_change (without_key name key cs) name key ≡ false
has_here [] name key = refl
has_here (c ∷ cs) name key = at (is_at c name key) refl (has_here cs name key)
  where
    at : (b : Bool) → is_at c name key ≡ b → has_change (without_key name key cs) name key ≡ false
        → has_change (if b then without_key name key cs else c ∷ without_key name key cs) name key ≡ false
    at true is more = more
    at false off more = rw off more

has_else : (name : List ℕ) (key : Value) (cs : List Change) (n : List ℕ) (k : Value)
    → (same_name name n && same_key key k) ≡ false
    → has_change (without_key name key cs) n k ≡ has_change cs n k
has_else name key [] n k off = refl
has_else name key (c ∷ cs) n k off = at (is_at c name key) refl (has_else name key cs n k off)
  where
    gone : is_at c name key ≡ true → is_at c n k ≡ false
    gone is =
        let parts = and_parts (same_name c.table name) (same_key c.key key) is in
        let named : c.table ≡ name = same_text c.table name (sym parts.0) in
        let keyed : c.key ≡ key = same_from_same_key c.key key parts.1 in
        ap (λ (m : List ℕ). same_name m n && same_key c.key k) named
        ∙ (ap (λ (j : Value). same_name name n && same_key j k) keyed ∙ off)

    at : (b : Bool) → is_at c name key ≡ b → has_change (without_key name key cs) n k ≡ has_change cs n k
        → has_change (if b then without_key name key cs else c ∷ without_key name key cs) n k
        ≡ has_change (c ∷ cs) n k
    at true is more = more ∙ sym (rw (gone is) refl)
    at false is more = ap (λ (x : Bool). if is_at c n k then true else x) more

-- ---- the first change of each key

not_same : (c d : Change) (ds : List Change) → has_same c (d ∷ ds) ≡ false
    → (is_at d c.table c.key ≡ false) × (has_same c ds ≡ false)
not_same c d ds none = at (is_at d c.table c.key) refl none
  where
    at : (b : Bool) → is_at d c.table c.key ≡ b → (b || has_same c ds) ≡ false
        → (is_at d c.table c.key ≡ false) × (has_same c ds ≡ false)
    at true is off = absurd cc
    at false is off = (is, off)

still_none : (c : Change) (ds : List Change) → has_same c ds ≡ false → has_same c (first_of ds) ≡ false
still_none c [] none = refl
still_none c (d ∷ ds) none = at (has_same d ds) (still_none c ds (not_same c d ds none).1)
  where
    at : (b : Bool) → has_same c (first_of ds) ≡ false
        → has_same c (if b then first_of ds else d ∷ first_of ds) ≡ false
    at true more = more
    at false more = rw ((not_same c d ds none).0) more

first_apart : (cs : List Change) → AreOfOtherKeys (first_of cs)
first_apart [] = tt
first_apart (c ∷ cs) = at (has_same c cs) refl (first_apart cs)
  where
    at : (b : Bool) → has_same c cs ≡ b → AreOfOtherKeys (first_of cs)
        → AreOfOtherKeys (if b then first_of cs else c ∷ first_of cs)
    at true is more = more
    at false none more = (still_none c cs none, more)

or_true : (b x : Bool) → x ≡ true → (if b then true else x) ≡ true
or_true true x is = refl
or_true false x is = is

wider : (c : Change) (cs keys : List Change)
    → EachChange (λ d. has_change cs d.table d.key ≡ true) keys
    → EachChange (λ d. has_change (c ∷ cs) d.table d.key ≡ true) keys
wider c cs [] each = tt
wider c cs (d ∷ keys) each = (
  or_true (is_at c d.table d.key) (has_change cs d.table d.key) each.0,
  wider c cs keys each.1,
)

first_each : (cs : List Change) → EachChange (λ d. has_change cs d.table d.key ≡ true) (first_of cs)
first_each [] = tt
first_each (c ∷ cs) = at (has_same c cs) (wider c cs (first_of cs) (first_each cs))
  where
    here : (if is_at c c.table c.key then true else has_change cs c.table c.key) ≡ true
    here = rw (is_at_itself c.table c.key c.row) refl

    at : (b : Bool) → EachChange (λ d. has_change (c ∷ cs) d.table d.key ≡ true) (first_of cs)
        → EachChange (λ d. has_change (c ∷ cs) d.table d.key ≡ true)
        (if b then first_of cs else c ∷ first_of cs)
    at true more = more
    at false more = (here, more)

first_whole : (cs : List Change) (name : List ℕ) (key : Value) → has_change cs name key ≡ true
    → has_change (first_of cs) name key ≡ true
first_whole [] name key has = has
first_whole (c ∷ cs) name key has =
    at (has_same c cs) refl (is_at c name key) refl has (first_whole cs name key)
  where
    at : (s : Bool) → has_same c cs ≡ s → (b : Bool) → is_at c name key ≡ b
        → (if b then true else has_change cs name key) ≡ true
        → (has_change cs name key ≡ true → has_change (first_of cs) name key ≡ true)
        → has_change (if s then first_of cs else c ∷ first_of cs) name key ≡ true
    at true same true is has_ more = more (same_has c cs name key is same)
    at true same false off has_ more = more has_
    at false none true is has_ more = rw is refl
    at false none false off has_ more = rw off (more has_)

-- ---- one key after another

others_left : (c : Change) (keys left : List Change) → has_same c keys ≡ false
    → EachChange (λ d. has_change left d.table d.key ≡ true) keys
    → EachChange (λ d. has_change (without_key c.table c.key left) d.table d.key ≡ true) keys
others_left c [] left none each = tt
others_left c (d ∷ keys) left none each =
    let parts = not_same c d keys none in (
      has_else c.table c.key left d.table d.key (flipped c d parts.0) ∙ each.0,
      others_left c keys left parts.1 each.1,
    )

whole_left : (c : Change) (keys left : List Change)
    → ((n : List ℕ) (k : Value) → has_change left n k ≡ true → has_change (c ∷ keys) n k ≡ true)
    → (n : List ℕ) (k : Value) → has_change (without_key c.table c.key left) n k ≡ true
    → has_change keys n k ≡ true
whole_left c keys left whole n k has = at (is_at c n k) refl
  where
    at : (b : Bool) → is_at c n k ≡ b → has_change keys n k ≡ true
    at true is =
        let parts = and_parts (same_name c.table n) (same_key c.key k) is in
        let named : c.table ≡ n = same_text c.table n (sym parts.0) in
        let keyed : c.key ≡ k = same_from_same_key c.key k parts.1 in
        absurd (false≢true (sym (has_here left c.table c.key)
        ∙ (ap (λ (m : List ℕ). has_change (without_key c.table c.key left) m c.key) named
        ∙ (ap (has_change (without_key c.table c.key left) n) keyed ∙ has))))
    at false off =
        let was : has_change left n k ≡ true = sym (has_else c.table c.key left n k off) ∙ has in
        let more : has_change (c ∷ keys) n k ≡ true = whole n k was in
        ap (λ (b : Bool). if b then true else has_change keys n k) (sym off) ∙ more

none_left : (left : List Change) → AreKeysOf [] left → left ≡ []
none_left [] are = refl
none_left (c ∷ cs) are =
    let here : has_change (c ∷ cs) c.table c.key ≡ true = rw (is_at_itself c.table c.key c.row) refl in
    absurd (false≢true (are.whole c.table c.key here))

pub keys_are_taken : KeysAreTaken
keys_are_taken = record {
  first = λ cs. record {
    each = first_each cs;
    apart = first_apart cs;
    whole = first_whole cs;
  };
  next = λ c keys left are. record {
    each = others_left c keys left are.apart.0 are.each.1;
    apart = are.apart.1;
    whole = whole_left c keys left are.whole;
  };
  end = none_left;
}
