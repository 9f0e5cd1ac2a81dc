-- What holds of runs, of lists of them, and of the texts that they make.
use Rattle.std.proofs.Common.{◌≡◌, ℕ, ◌+◌, ◌-◌, ◌<◌, ◌≤◌, Bool, true, false, List, [], ◌∷◌, ◌++◌, length, replicate, get_or, refl, sym, ap, subst, ◌∙◌, append_assoc, arith, ◌⊎◌, inl, inr}
use Rattle.std.specs.List.{flat_map}
use Rattle.std.proofs.lemmas.Bool.{cases_lt, false≢true}
use Rattle.std.proofs.lemmas.List.{append-nil, length-append, length-replicate, get_or-replicate, get_or_append_left, get_or-append-add, get_or_past}
use Rattle.std.proofs.lemmas.List.Concat.{flat_map-append}
use Rattle.mg_rle.specs.Runs.{Run, Literal, Repeat, TripleAt, IsSized, AreInOrder, IsAccepted, StandsFor, BreaksAt, bytes_of_run, plain_of_run, marks_of_run, packed_text, plain_text, literal_marks}

-- ---- lists

-- two lists with parts in front of one length
pub append_parts : (a b x y : List ℕ) → length a ≡ length b → a ++ x ≡ b ++ y → (a ≡ b) × (x ≡ y)
append_parts [] [] x y len e = (refl, e)
append_parts [] (b ∷ bs) x y len e = absurd (omega arith)
append_parts (a ∷ as_) [] x y len e = absurd (omega arith)
append_parts (a ∷ as_) (b ∷ bs) x y len e =
    let len' : length as_ ≡ length bs = omega arith in
    let tail : as_ ++ x ≡ bs ++ y = cc in
    let head : a ≡ b = cc in
    let t = append_parts as_ bs x y len' tail in
    let t0 : as_ ≡ bs = t.0 in
    (cc, t.1)

pub flat_map_snoc : {X A : Type 0} (f : X → List A) (xs : List X) (x : X) → flat_map f (xs ++ x ∷ []) ≡ flat_map f xs ++ f x
flat_map_snoc f xs x = flat_map-append f xs (x ∷ []) ∙ ap (λ t. flat_map f xs ++ t) (append-nil (f x))

pub at_right : {A : Type 0} (xs ys : List A) (at n : ℕ) (d : A) → n ≡ length xs + at → get_or (xs ++ ys) n d ≡ get_or ys at d
at_right xs ys at n d e = rw e (get_or-append-add xs ys at d)

-- ---- three equal bytes

pub triple_from_left : (xs ys : List ℕ) (at : ℕ) → at + 2 < length xs → TripleAt (xs ++ ys) at → TripleAt xs at
triple_from_left xs ys at lt t = record {
  inside = lt;
  second = sym (get_or_append_left xs ys 0 (at + 1) (omega arith)) ∙ t.second ∙ get_or_append_left xs ys 0 at (omega arith);
  third = sym (get_or_append_left xs ys 0 (at + 2) (omega arith)) ∙ t.third ∙ get_or_append_left xs ys 0 at (omega arith);
}

pub triple_to_left : (xs ys : List ℕ) (at : ℕ) → TripleAt xs at → TripleAt (xs ++ ys) at
triple_to_left xs ys at t =
    let inside : at + 2 < length xs = t.inside in
    record {
      inside = omega (arith, length-append xs ys);
      second = get_or_append_left xs ys 0 (at + 1) (omega arith) ∙ t.second ∙ sym (get_or_append_left xs ys 0 at (omega arith));
      third = get_or_append_left xs ys 0 (at + 2) (omega arith) ∙ t.third ∙ sym (get_or_append_left xs ys 0 at (omega arith));
    }

pub triple_from_right : (xs ys : List ℕ) (at n : ℕ) → n ≡ length xs + at → TripleAt (xs ++ ys) n → TripleAt ys at
triple_from_right xs ys at n e t =
    let inside : n + 2 < length (xs ++ ys) = t.inside in
    record {
      inside = omega (arith, length-append xs ys);
      second = sym (at_right xs ys (at + 1) (n + 1) 0 (omega arith)) ∙ t.second ∙ at_right xs ys at n 0 e;
      third = sym (at_right xs ys (at + 2) (n + 2) 0 (omega arith)) ∙ t.third ∙ at_right xs ys at n 0 e;
    }

pub triple_to_right : (xs ys : List ℕ) (at n : ℕ) → n ≡ length xs + at → TripleAt ys at → TripleAt (xs ++ ys) n
triple_to_right xs ys at n e t =
    let inside : at + 2 < length ys = t.inside in
    record {
      inside = omega (arith, length-append xs ys);
      second = at_right xs ys (at + 1) (n + 1) 0 (omega arith) ∙ t.second ∙ sym (at_right xs ys at n 0 e);
      third = at_right xs ys (at + 2) (n + 2) 0 (omega arith) ∙ t.third ∙ sym (at_right xs ys at n 0 e);
    }

-- a repeat of three or more begins with three equal bytes
pub triple_in_repeat : (count same : ℕ) (rest : List ℕ) → 3 ≤ count → TripleAt (replicate count same ++ rest) 0
triple_in_repeat count same rest le =
    let len : length (replicate count same) ≡ count = length-replicate count same in
    triple_to_left (replicate count same) rest 0 (record {
      inside = omega arith;
      second = get_or-replicate count (0 + 1) same 0 (omega arith) ∙ sym (get_or-replicate count 0 same 0 (omega arith));
      third = get_or-replicate count (0 + 2) same 0 (omega arith) ∙ sym (get_or-replicate count 0 same 0 (omega arith));
    })

-- ---- lengths

pub length-marks_of_run : (run : Run) → length (marks_of_run run) ≡ length (plain_of_run run)
length-marks_of_run (Literal bytes) = length-replicate (length bytes) true
length-marks_of_run (Repeat count same) = length-replicate count false ∙ sym (length-replicate count same)

pub length-literal_marks : (runs : List Run) → length (literal_marks runs) ≡ length (plain_text runs)
length-literal_marks [] = refl
length-literal_marks (run ∷ later) =
    let a : length (marks_of_run run ++ literal_marks later) ≡ length (marks_of_run run) + length (literal_marks later) = length-append (marks_of_run run) (literal_marks later) in
    let b : length (plain_of_run run ++ plain_text later) ≡ length (plain_of_run run) + length (plain_text later) = length-append (plain_of_run run) (plain_text later) in
    let c : length (marks_of_run run) ≡ length (plain_of_run run) = length-marks_of_run run in
    let d : length (literal_marks later) ≡ length (plain_text later) = length-literal_marks later in
    omega arith

pub some_plain : (run : Run) → IsSized run → 0 < length (plain_of_run run)
some_plain (Literal bytes) sized = sized.0
some_plain (Repeat count same) sized =
    let least : 3 ≤ count = sized.0 in
    omega (arith, length-replicate count same)

pub some_bytes : (run : Run) → 0 < length (bytes_of_run run)
some_bytes (Literal bytes) = omega arith
some_bytes (Repeat count same) = omega arith

-- ---- marks

pub mark_inside : (marks : List Bool) (at : ℕ) → get_or marks at false ≡ true → at < length marks
mark_inside marks at e =
    elim (cases_lt at (length marks)) [
      | inl lt ↦ lt
      | inr le ↦ absurd (false≢true (sym (get_or_past marks at false le) ∙ e))
    ]

-- ---- the front of an accepted list of runs, and what is left of it

in_order_front : (a b : List Run) → AreInOrder (a ++ b) → AreInOrder a
in_order_front [] b h = tt
in_order_front (run ∷ []) b h = (h.0, tt, tt)
in_order_front (run ∷ next ∷ later) b h = (h.0, h.1, in_order_front (next ∷ later) b h.2)

pub accepted_front : (a b : List Run) → IsAccepted (a ++ b) → IsAccepted a
accepted_front a b h = record {
  in_order = in_order_front a b h.in_order;
  no_triple = λ at mark triple.
      let marks : literal_marks (a ++ b) ≡ literal_marks a ++ literal_marks b = flat_map-append marks_of_run a b in
      let text : plain_text (a ++ b) ≡ plain_text a ++ plain_text b = flat_map-append plain_of_run a b in
      let mark' : get_or (literal_marks a ++ literal_marks b) at false ≡ true = get_or_append_left (literal_marks a) (literal_marks b) false at (mark_inside (literal_marks a) at mark) ∙ mark in
      h.no_triple at (ap (λ (m : List Bool). get_or m at false) marks ∙ mark') (subst (λ (t : List ℕ). TripleAt t at) (sym text) (triple_to_left (plain_text a) (plain_text b) at triple));
}

pub accepted_rest : (run : Run) (later : List Run) → IsAccepted (run ∷ later) → IsAccepted later
accepted_rest run later h = record {
  in_order = h.in_order.2;
  no_triple = λ at mark triple.
      let len : length (marks_of_run run) ≡ length (plain_of_run run) = length-marks_of_run run in
      h.no_triple (length (plain_of_run run) + at)
      (at_right (marks_of_run run) (literal_marks later) at (length (plain_of_run run) + at) false (omega arith) ∙ mark)
      (triple_to_right (plain_of_run run) (plain_text later) at (length (plain_of_run run) + at) refl triple);
}

-- at no byte of a literal three equal bytes begin
pub literal_free : (bytes : List ℕ) (later : List Run) (at : ℕ) → IsAccepted (Literal bytes ∷ later) → at < length bytes → TripleAt (bytes ++ plain_text later) at → ⊥
literal_free bytes later at h lt triple =
    let len : length (replicate (length bytes) true) ≡ length bytes = length-replicate (length bytes) true in
    h.no_triple at (get_or_append_left (replicate (length bytes) true) (literal_marks later) false at (omega arith) ∙ get_or-replicate (length bytes) at true false lt) triple

-- ---- no run begins another

pub one_run : (r s : Run) (x y : List ℕ) → IsSized r → IsSized s → bytes_of_run r ++ x ≡ bytes_of_run s ++ y → (r ≡ s) × (x ≡ y)
one_run (Literal bytes) (Literal others) x y h k e =
    let len : length bytes ≡ length others = cc in
    let tail : bytes ++ x ≡ others ++ y = cc in
    let parts = append_parts bytes others x y len tail in
    (ap (λ b. Literal b) parts.0, parts.1)
one_run (Literal bytes) (Repeat count same) x y h k e =
    let head : length bytes ≡ 256 - count = cc in
    absurd (omega (arith, h.1, k.1))
one_run (Repeat count same) (Literal bytes) x y h k e =
    let head : 256 - count ≡ length bytes = cc in
    absurd (omega (arith, h.1, k.1))
one_run (Repeat count same) (Repeat other last) x y h k e =
    let head : 256 - count ≡ 256 - other = cc in
    let counts : count ≡ other = omega (arith, h.1, k.1) in
    let bytes : same ≡ last = cc in
    (cc, cc)

-- of two lists of runs that begin one text, one is the front of the other
pub one_goes_on : (a b : List Run) (x y : List ℕ) → AreInOrder a → AreInOrder b → packed_text a ++ x ≡ packed_text b ++ y
    → ((c : List Run) × (b ≡ a ++ c) × (x ≡ packed_text c ++ y)) ⊎ ((c : List Run) × (a ≡ b ++ c) × (y ≡ packed_text c ++ x))
one_goes_on [] b x y h k e = inl (b, refl, e)
one_goes_on (r ∷ a) [] x y h k e = inr (r ∷ a, refl, sym e)
one_goes_on (r ∷ a) (s ∷ b) x y h k e =
    let grouped : bytes_of_run r ++ (packed_text a ++ x) ≡ bytes_of_run s ++ (packed_text b ++ y) = sym (append_assoc (bytes_of_run r) (packed_text a) x) ∙ e ∙ append_assoc (bytes_of_run s) (packed_text b) y in
    let one = one_run r s (packed_text a ++ x) (packed_text b ++ y) h.0 k.0 grouped in
    let same : r ≡ s = one.0 in
    elim (one_goes_on a b x y h.2 k.2 one.1) [
      | inl found ↦ (let is : b ≡ a ++ found.0 = found.1 in inl (found.0, cc, found.2))
      | inr found ↦ (let is : a ≡ b ++ found.0 = found.1 in inr (found.0, cc, found.2))
    ]

nothing_left : (c : List Run) (y : List ℕ) → [] ≡ packed_text c ++ y → c ≡ []
nothing_left [] y e = refl
nothing_left (Literal bytes ∷ c) y e = absurd cc
nothing_left (Repeat count same ∷ c) y e = absurd cc

nothing_behind : (x y : List ℕ) → [] ≡ x ++ y → y ≡ []
nothing_behind [] y e = sym e
nothing_behind (a ∷ x) y e = absurd cc

pub same_runs : (a b : List Run) → AreInOrder a → AreInOrder b → packed_text a ≡ packed_text b → a ≡ b
same_runs a b h k e =
    elim (one_goes_on a b [] [] h k (append-nil (packed_text a) ∙ e ∙ sym (append-nil (packed_text b)))) [
      | inl found ↦ sym (found.1 ∙ ap (λ c. a ++ c) (nothing_left found.0 [] found.2) ∙ append-nil a)
      | inr found ↦ found.1 ∙ ap (λ c. b ++ c) (nothing_left found.0 [] found.2) ∙ append-nil b
    ]

-- ---- the laws of reading

pub plain_texts_same : (packed first second : List ℕ) → StandsFor packed first → StandsFor packed second → first ≡ second
plain_texts_same packed first second a b =
    let same : a.runs ≡ b.runs = same_runs a.runs b.runs a.accepted.in_order b.accepted.in_order (sym a.spelled ∙ b.spelled) in
    a.means ∙ ap plain_text same ∙ sym b.means

-- no accepted list of runs goes past the place where the first run breaks the rule
goes_past : (packed : List ℕ) (at : ℕ) (b : BreaksAt packed at) (c : List Run) (y : List ℕ) → b.rest ≡ packed_text c ++ y → IsAccepted (b.before ++ c) → c ≡ []
goes_past packed at b [] y e h = refl
goes_past packed at b (run ∷ c) y e h =
    let grouped : b.before ++ run ∷ c ≡ (b.before ++ run ∷ []) ++ c = sym (append_assoc b.before (run ∷ []) c) in
    absurd (b.breaks run (packed_text c ++ y) (e ∙ append_assoc (bytes_of_run run) (packed_text c) y) (accepted_front (b.before ++ run ∷ []) c (subst IsAccepted grouped h)))

pub accepted_breaks_nowhere : (packed plain : List ℕ) (at : ℕ) → StandsFor packed plain → BreaksAt packed at → ⊥
accepted_breaks_nowhere packed plain at s b =
    let some : 0 < length b.rest = b.some in
    elim (one_goes_on b.before s.runs b.rest [] b.accepted.in_order s.accepted.in_order (sym b.parts ∙ s.spelled ∙ sym (append-nil (packed_text s.runs)))) [
      | inl found ↦ (let none : found.0 ≡ [] = goes_past packed at b found.0 [] found.2 (subst IsAccepted found.1 s.accepted) in
          let rest : b.rest ≡ [] = found.2 ∙ ap (λ c. packed_text c ++ []) none in
          absurd (omega (arith, ap length rest)))
      | inr found ↦ (let rest : b.rest ≡ [] = nothing_behind (packed_text found.0) b.rest found.2 in absurd (omega (arith, ap length rest)))
    ]

pub one_place_breaks : (packed : List ℕ) (first second : ℕ) → BreaksAt packed first → BreaksAt packed second → first ≡ second
one_place_breaks packed first second a b =
    let same_place : (c : List Run) (x y : List Run) → c ≡ [] → y ≡ x ++ c → length (packed_text y) ≡ length (packed_text x) = λ c x y none e. ap (λ (r : List Run). length (packed_text r)) (e ∙ ap (λ r. x ++ r) none ∙ append-nil x) in
    elim (one_goes_on a.before b.before a.rest b.rest a.accepted.in_order b.accepted.in_order (sym a.parts ∙ b.parts)) [
      | inl found ↦ a.place ∙ sym (same_place found.0 a.before b.before (goes_past packed first a found.0 b.rest found.2 (subst IsAccepted found.1 b.accepted)) found.1) ∙ sym b.place
      | inr found ↦ a.place ∙ same_place found.0 b.before a.before (goes_past packed second b found.0 a.rest found.2 (subst IsAccepted found.1 a.accepted)) found.1 ∙ sym b.place
    ]
