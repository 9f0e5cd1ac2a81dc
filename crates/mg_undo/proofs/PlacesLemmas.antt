-- Places that were pushed, and the entries that they leave.
use Rattle.std.specs.Prelude.{◌≡◌, ℕ, suc, ◌+◌, ◌-◌, ◌<◌, ◌==◌, ◌&&◌, nat_eq, Bool, true, false, List, [], ◌∷◌, length, take, slice_index_or, Option, Some, None, cond, refl}
use Rattle.std.proofs.Common.{sym, ◌∙◌, ap, arith}
use Rattle.std.proofs.lemmas.Bool.{false≢true, eqb-true, eq-eqb}
use Rattle.std.specs.List.{position_or_len}
use Rattle.std.specs.Map.{keys_of, lookup}
use Rattle.std.specs.Cmp.Lexicographic.{pointwise, bytes_decides}
use Rattle.indexmap.specs.IndexMap.{insert_entry}
use Rattle.mg_undo.specs.declared.places.Place.{Place}
use Rattle.mg_undo.specs.declared.places.Push.{Push}
use Rattle.mg_undo.specs.Places.{spot_of, is_same_spot, last_at, is_past, repeats_spot, value_of, spot_at, set_back, undone, IsPushed, spots_of, AreLinked}

-- ---- equal places

pub same_from_is : (a b : ℕ × List ℕ) → is_same_spot a b ≡ true → a ≡ b
same_from_is a b is =
    by (a.0 == b.0) refl is
  where
    by : (first : Bool) → (a.0 == b.0) ≡ first → (first && pointwise nat_eq a.1 b.1) ≡ true → a ≡ b
    by true first second =
        let one : a.0 ≡ b.0 = eqb-true a.0 b.0 first in
        let two : a.1 ≡ b.1 = (bytes_decides a.1 b.1).0 second in
        λ i. (one i, two i)
    by false first second = absurd (false≢true second)

pub is_itself : (a : ℕ × List ℕ) → is_same_spot a a ≡ true
is_itself a =
    let one : (a.0 == a.0) ≡ true = eq-eqb a.0 a.0 refl in
    rw one ((bytes_decides a.1 a.1).1 refl)

-- ---- the entries after a push

module _ (eq : Place → Place → Bool)
    (tells : (p q : Place) → eq p q ≡ is_same_spot (spot_of p) (spot_of q)) where
  some_longer : (es : List (Place × ℕ)) (place : Place) (at : ℕ)
      → length (insert_entry eq es place at) ≡ suc (length (insert_entry eq es place at) - 1)
  some_longer [] place at = refl
  some_longer (e ∷ es) place at = by (eq place e.0)
    where
      by : (b : Bool)
          → length (cond b ((e.0, at) ∷ es) (e ∷ insert_entry eq es place at))
          ≡ suc (length (cond b ((e.0, at) ∷ es) (e ∷ insert_entry eq es place at)) - 1)
      by true = ap suc (let less : length es ≡ suc (length es) - 1 = omega arith in less)
      by false =
          let n : ℕ = length (insert_entry eq es place at) in
          ap suc (let less : n ≡ suc n - 1 = omega arith in less)

  set_back_behind : (e : Place × ℕ) (es : List (Place × ℕ)) (entry : ℕ) (old : Option ℕ)
      → length es ≡ suc (length es - 1)
      → set_back (suc entry) old (e ∷ es) ≡ e ∷ set_back entry old es
  set_back_behind e es entry None some =
      let less : suc (length es) - 1 ≡ suc (length es - 1) = omega (arith, some) in
      ap (λ n. take n (e ∷ es)) less
  set_back_behind e es entry (Some at) some = refl

  -- the entries before are found again
  pub undone_again : (es : List (Place × ℕ)) (place : Place) (at : ℕ)
      → set_back (position_or_len (eq place) (keys_of es)) (lookup (eq place) es)
      (insert_entry eq es place at) ≡ es
  undone_again [] place at = refl
  undone_again (e ∷ es) place at = by (eq place e.0) refl (undone_again es place at)
    where
      by : (b : Bool) → eq place e.0 ≡ b
          → set_back (position_or_len (eq place) (keys_of es)) (lookup (eq place) es)
          (insert_entry eq es place at) ≡ es
          → set_back (position_or_len (eq place) (keys_of (e ∷ es))) (lookup (eq place) (e ∷ es))
          (insert_entry eq (e ∷ es) place at) ≡ e ∷ es
      by true is more = rw is refl
      by false is more =
          let entry : ℕ = position_or_len (eq place) (keys_of es) in
          let next : 1 + entry ≡ suc entry = omega arith in
          rw is (ap (λ n. set_back n (lookup (eq place) es) (e ∷ insert_entry eq es place at)) next
          ∙ set_back_behind e (insert_entry eq es place at) entry (lookup (eq place) es)
          (some_longer es place at) ∙ ap (λ (x : List (Place × ℕ)). e ∷ x) more)

  -- the place stands at its entry
  pub spot_again : (es : List (Place × ℕ)) (place : Place) (at : ℕ)
      → spot_at (position_or_len (eq place) (keys_of es)) (insert_entry eq es place at)
      ≡ spot_of place
  spot_again [] place at = refl
  spot_again (e ∷ es) place at = by (eq place e.0) refl (spot_again es place at)
    where
      by : (b : Bool) → eq place e.0 ≡ b
          → spot_at (position_or_len (eq place) (keys_of es)) (insert_entry eq es place at)
          ≡ spot_of place
          → spot_at (position_or_len (eq place) (keys_of (e ∷ es))) (insert_entry eq (e ∷ es) place at)
          ≡ spot_of place
      by true is more =
          rw is (sym (same_from_is (spot_of place) (spot_of e.0) (sym (tells place e.0) ∙ is)))
      by false is more =
          let entry : ℕ = position_or_len (eq place) (keys_of es) in
          let next : 1 + entry ≡ suc entry = omega arith in
          rw is (ap (λ n. spot_at n (e ∷ insert_entry eq es place at)) next ∙ more)

  -- and has the number of the push
  pub value_again : (es : List (Place × ℕ)) (place : Place) (at : ℕ)
      → value_of (spot_of place) (insert_entry eq es place at) ≡ Some at
  value_again [] place at = rw (is_itself (spot_of place)) refl
  value_again (e ∷ es) place at = by (eq place e.0) refl (value_again es place at)
    where
      by : (b : Bool) → eq place e.0 ≡ b
          → value_of (spot_of place) (insert_entry eq es place at) ≡ Some at
          → value_of (spot_of place) (insert_entry eq (e ∷ es) place at) ≡ Some at
      by true is more =
          let found : is_same_spot (spot_of place) (spot_of e.0) ≡ true = sym (tells place e.0) ∙ is in
          rw is (rw found refl)
      by false is more =
          let found : is_same_spot (spot_of place) (spot_of e.0) ≡ false = sym (tells place e.0) ∙ is in
          rw is (rw found more)

  -- each other place has the number that it had
  pub others_again : (es : List (Place × ℕ)) (place : Place) (at : ℕ) (other : ℕ × List ℕ)
      → is_same_spot other (spot_of place) ≡ false
      → value_of other (insert_entry eq es place at) ≡ value_of other es
  others_again [] place at other apart = rw apart refl
  others_again (e ∷ es) place at other apart =
      by (eq place e.0) refl (others_again es place at other apart)
    where
      by : (b : Bool) → eq place e.0 ≡ b
          → value_of other (insert_entry eq es place at) ≡ value_of other es
          → value_of other (insert_entry eq (e ∷ es) place at) ≡ value_of other (e ∷ es)
      by true is more =
          let same : spot_of place ≡ spot_of e.0 =
          same_from_is (spot_of place) (spot_of e.0) (sym (tells place e.0) ∙ is) in
          let off : is_same_spot other (spot_of e.0) ≡ false =
          ap (λ s. is_same_spot other s) (sym same) ∙ apart in
          rw is (rw off refl)
      by false is more =
          rw is (ap (λ v. cond (is_same_spot other (spot_of e.0)) (Some e.1) v) more)

  value_is_lookup : (es : List (Place × ℕ)) (place : Place)
      → value_of (spot_of place) es ≡ lookup (eq place) es
  value_is_lookup [] place = refl
  value_is_lookup (e ∷ es) place =
      rw (tells place e.0) (ap (λ v. cond (is_same_spot (spot_of place) (spot_of e.0)) (Some e.1) v)
      (value_is_lookup es place))

  -- what is noted of a push
  pub noted : (old new : List (Place × ℕ)) (place : Place) (at entry : ℕ) (earlier : Option ℕ)
      → entry ≡ position_or_len (eq place) (keys_of old) → earlier ≡ lookup (eq place) old
      → new ≡ insert_entry eq old place at → entry < length new
      → IsPushed record { entry = entry; earlier = earlier } new (spot_of place) at
      × (set_back entry earlier new ≡ old)
  noted old new place at entry earlier is_entry is_earlier is_new within =
      let again : set_back entry earlier new ≡ old =
      (λ i. set_back (is_entry i) (is_earlier i) (is_new i)) ∙ undone_again old place at in (
        record {
          within = within;
          place = (λ i. spot_at (is_entry i) (is_new i)) ∙ spot_again old place at;
          last = ap (value_of (spot_of place)) is_new ∙ value_again old place at;
          earlier = ap (value_of (spot_of place)) again ∙ value_is_lookup old place ∙ sym is_earlier;
          others = λ other apart. ap (value_of other) is_new ∙ others_again old place at other apart
              ∙ ap (value_of other) (sym again);
        },
        again,
      )

-- ---- what is told of the newest push

spots_long : (pushes : List Push) (entries : List (Place × ℕ))
    → length (spots_of pushes entries) ≡ length pushes
spots_long [] entries = refl
spots_long (p ∷ ps) entries = ap suc (spots_long ps (undone p entries))

-- the entries have for each place how many pushes came before its last one
last_told : (pushes : List Push) (entries : List (Place × ℕ)) (spot : ℕ × List ℕ)
    → AreLinked pushes entries → value_of spot entries ≡ last_at spot (spots_of pushes entries)
last_told [] entries spot linked = ap (value_of spot) linked
last_told (p ∷ ps) entries spot linked =
    by (is_same_spot spot (spot_at p.entry entries)) refl
    (last_told ps (undone p entries) spot linked.1)
  where
    by : (b : Bool) → is_same_spot spot (spot_at p.entry entries) ≡ b
        → value_of spot (undone p entries) ≡ last_at spot (spots_of ps (undone p entries))
        → value_of spot entries ≡ last_at spot (spots_of (p ∷ ps) entries)
    by true is more =
        let same : spot ≡ spot_at p.entry entries = same_from_is spot (spot_at p.entry entries) is in
        rw is (ap (λ s. value_of s entries) same ∙ linked.0.last
        ∙ ap (λ n. Some n) (sym (spots_long ps (undone p entries))))
    by false is more = rw is (linked.0.others spot is ∙ more)

repeats_told : (floor : ℕ) (p : Push) (ps : List Push) (entries : List (Place × ℕ))
    → AreLinked (p ∷ ps) entries
    → is_past floor p.earlier ≡ repeats_spot floor (spots_of (p ∷ ps) entries)
repeats_told floor p ps entries linked =
    ap (is_past floor) (sym linked.0.earlier
    ∙ last_told ps (undone p entries) (spot_at p.entry entries) linked.1)

-- the same of the newest push, as it is read
pub repeats_told_at : (floor : ℕ) (p : Push) (pushes : List Push) (entries : List (Place × ℕ))
    → 0 < length pushes → p ≡ slice_index_or pushes 0 p → AreLinked pushes entries
    → is_past floor p.earlier ≡ repeats_spot floor (spots_of pushes entries)
repeats_told_at floor p [] entries some is linked = absurd (omega arith)
repeats_told_at floor p (q ∷ ps) entries some is linked =
    ap (λ (x : Push). is_past floor x.earlier) is ∙ repeats_told floor q ps entries linked
