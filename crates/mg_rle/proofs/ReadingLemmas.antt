-- One more run is read, or the first one that breaks the rule is met.
use Rattle.std.proofs.Common.{◌≡◌, ℕ, ◌+◌, ◌-◌, ◌<◌, ◌≤◌, ◌≢◌, max, Bool, true, false, List, [], ◌∷◌, ◌++◌, length, take, drop, replicate, get_or, refl, sym, ap, subst, ◌∙◌, append_assoc, arith, inl, inr, cond, eqb}
use Rattle.std.proofs.lemmas.Bool.{cases_lt, false≢true, eqb-true, eq-eqb}
use Rattle.std.proofs.lemmas.List.{append-nil, length-append, length-replicate, length-take-le, length-drop, get_or-replicate, get_or_append_left, get_or_past, drop_at, take_at, take_all, take-take, length-take}
use Rattle.mg_base.specs.Fields.{byte}
use Rattle.mg_rle.specs.declared.reading.Control.{Control}
use Rattle.mg_rle.specs.declared.reading.Control.TheVariants as controls
use Rattle.mg_rle.specs.declared.reading.Next.TheVariants as nexts
use Rattle.mg_rle.specs.declared.reading.Reader.{Reader}
use Rattle.mg_rle.specs.Runs.{Run, Literal, Repeat, TripleAt, IsSized, MayPrecede, AreInOrder, IsAccepted, BreaksAt, bytes_of_run, plain_of_run, marks_of_run, packed_text, plain_text, literal_marks}
use Rattle.mg_rle.specs.Writing.{KeepsFront}
use Rattle.mg_rle.specs.Reading.{AppendsPlain, Allows, Announces, BeginsWithNone, IsWhole, HasRead, NoTriple, SomeTriple, run_in, next_after, next_of, reader_after, end_of_new}
use Rattle.mg_rle.proofs.RunLemmas.{flat_map_snoc, at_right, triple_from_left, triple_from_right, triple_to_right, length-literal_marks, one_run}
use Rattle.mg_rle.proofs.WritingLemmas.{nothing_accepted}

-- ---- which run may come next

if_any : (b : Bool) (bytes : List ℕ) → Allows (cond b nexts.Any nexts.Repeated) (Literal bytes) → b ≡ true
if_any true bytes h = refl
if_any false bytes h = absurd h

if_like : (b : Bool) (same : ℕ) (next : Run) → Allows (cond b nexts.Any (nexts.Unlike same)) next → b ≡ false → byte (plain_of_run next) 0 ≢ same
if_like true same next h e = absurd cc
if_like false same next h e = h

allows_like : (b : Bool) (same : ℕ) (next : Run) → (b ≡ false → byte (plain_of_run next) 0 ≢ same) → Allows (cond b nexts.Any (nexts.Unlike same)) next
allows_like true same next h = tt
allows_like false same next h = h refl

allows_repeat : (b : Bool) (count same : ℕ) → Allows (cond b nexts.Any nexts.Repeated) (Repeat count same)
allows_repeat true count same = tt
allows_repeat false count same = tt

allows_any : (b : Bool) (next : Run) → b ≡ true → Allows (cond b nexts.Any nexts.Repeated) next
allows_any true next e = tt
allows_any false next e = absurd cc

eqb-false' : (a b : ℕ) (t : Bool) → eqb a b ≡ t → (a ≡ b → ⊥) → t ≡ false
eqb-false' a b true e h = absurd (h (eqb-true a b e))
eqb-false' a b false e h = refl

may_precede_allowed : (run next : Run) → Allows (next_after run) next → MayPrecede run next
may_precede_allowed (Literal bytes) (Literal others) h = eqb-true (length bytes) 127 (if_any (eqb (length bytes) 127) others h)
may_precede_allowed (Literal bytes) (Repeat count same) h = tt
may_precede_allowed (Repeat count same) next h = λ lt. if_like (eqb count 128) same next h (eqb-false' count 128 (eqb count 128) refl (λ e. omega arith))

allowed_may_precede : (run next : Run) → IsSized run → MayPrecede run next → Allows (next_after run) next
allowed_may_precede (Literal bytes) (Literal others) sized h = allows_any (eqb (length bytes) 127) (Literal others) (eq-eqb (length bytes) 127 h)
allowed_may_precede (Literal bytes) (Repeat count same) sized h = allows_repeat (eqb (length bytes) 127) count same
allowed_may_precede (Repeat count same) next sized h =
    allows_like (eqb count 128) same next (λ e. h (below count sized.1 e))
  where
    below : (count : ℕ) → count ≤ 128 → eqb count 128 ≡ false → count < 128
    below count most e =
        let not : count ≡ 128 → ⊥ = λ is. false≢true (sym e ∙ eq-eqb count 128 is) in
        grind arith

next_of-snoc : (runs : List Run) (run : Run) → next_of (runs ++ run ∷ []) ≡ next_after run
next_of-snoc [] run = refl
next_of-snoc (first ∷ []) run = refl
next_of-snoc (first ∷ second ∷ later) run = next_of-snoc (second ∷ later) run

in_order_more : (runs : List Run) (run : Run) → AreInOrder runs → IsSized run → Allows (next_of runs) run → AreInOrder (runs ++ run ∷ [])
in_order_more [] run h sized allowed = (sized, tt, tt)
in_order_more (first ∷ []) run h sized allowed = (h.0, may_precede_allowed first run allowed, (sized, tt, tt))
in_order_more (first ∷ second ∷ later) run h sized allowed = (h.0, h.1, in_order_more (second ∷ later) run h.2 sized allowed)

order_of_last : (runs : List Run) (run : Run) → AreInOrder (runs ++ run ∷ []) → IsSized run × Allows (next_of runs) run
order_of_last [] run h = (h.0, tt)
order_of_last (first ∷ []) run h = (h.2.0, allowed_may_precede first run h.0 h.1)
order_of_last (first ∷ second ∷ later) run h = order_of_last (second ∷ later) run h.2

-- ---- the end of what is new

-- where three equal bytes can have come up with a run
abbrev end_of : Run → ℕ → ℕ
end_of (Literal bytes) len = len + length bytes
end_of (Repeat count same) len = len + 2

end_of_new_is : (control : Control) (rest : List ℕ) (len : ℕ) → IsWhole control rest → end_of_new control len ≡ end_of (run_in control rest) len
end_of_new_is (controls.Literal count) rest len whole =
    let fits : count ≤ length (drop 1 rest) = omega (arith, length-drop 1 rest) in
    omega (arith, length-take-le count (drop 1 rest) fits)
end_of_new_is (controls.Repeat count) rest len whole = refl

unmarked : (count at : ℕ) → get_or (replicate count false) at false ≡ true → ⊥
unmarked count at e =
    elim (cases_lt at count) [
      | inl lt ↦ false≢true (sym (get_or-replicate count at false false lt) ∙ e)
      | inr le ↦ false≢true (sym (get_or_past (replicate count false) at false (omega (arith, length-replicate count false))) ∙ e)
    ]

-- three bytes that begin before the run end before the end of what is new
covers_old : (run : Run) (start len at total : ℕ) → total ≡ start + len → at < len → at + 2 < len + length (plain_of_run run) → start + at + 2 < end_of run total
covers_old (Literal bytes) start len at total e lt inside = omega arith
covers_old (Repeat count same) start len at total e lt inside = omega arith

-- so do three bytes that begin in it, if it is a literal
covers_new : (run : Run) (start len at k total : ℕ) → total ≡ start + len → at ≡ len + k → get_or (marks_of_run run) k false ≡ true → at + 2 < len + length (plain_of_run run) → start + at + 2 < end_of run total
covers_new (Literal bytes) start len at k total e is mark inside = omega arith
covers_new (Repeat count same) start len at k total e is mark inside = absurd (unmarked count k mark)

-- ---- one more run

-- the unpacked bytes are as many as were there before, and the plain text
length_read : (packed : List ℕ) (reader : Reader) (out : List ℕ) (h : HasRead packed reader out) → length out ≡ reader.start + length (plain_text h.runs)
length_read packed reader out h = omega (arith, ap length h.unpacked, length-append h.front (plain_text h.runs), h.start)

still_free : (packed : List ℕ) (reader : Reader) (out : List ℕ) (run : Run) (h : HasRead packed reader out) → NoTriple (out ++ plain_of_run run) (max reader.literals (length out - 2)) (end_of run (length out))
    → (at : ℕ) → get_or (literal_marks h.runs ++ marks_of_run run) at false ≡ true → TripleAt (plain_text h.runs ++ plain_of_run run) at → ⊥
still_free packed reader out run h none at mark triple =
    let text : List ℕ = plain_text h.runs in
    let plain : List ℕ = plain_of_run run in
    let marks : length (literal_marks h.runs) ≡ length text = length-literal_marks h.runs in
    let total : length out ≡ reader.start + length text = length_read packed reader out h in
    let start : reader.start ≡ length h.front = h.start in
    let high : reader.literals ≤ length out = h.high in
    let both : length (text ++ plain) ≡ length text + length plain = length-append text plain in
    let inside : at + 2 < length (text ++ plain) = triple.inside in
    let grouped : h.front ++ (text ++ plain) ≡ out ++ plain = sym (append_assoc h.front text plain) ∙ ap (λ (t : List ℕ). t ++ plain) (sym h.unpacked) in
    let moved : TripleAt (out ++ plain) (reader.start + at) = subst (λ (t : List ℕ). TripleAt t (reader.start + at)) grouped (triple_to_right h.front (text ++ plain) at (reader.start + at) (omega arith) triple) in
    elim (cases_lt at (length text)) [
      | inl lt ↦ (
          let mark' : get_or (literal_marks h.runs) at false ≡ true = sym (get_or_append_left (literal_marks h.runs) (marks_of_run run) false at (omega arith)) ∙ mark in
          elim (cases_lt (at + 2) (length text)) [
            | inl whole ↦ h.accepted.no_triple at mark' (triple_from_left text plain at whole triple)
            | inr near ↦ (let from : reader.literals ≤ reader.start + at = h.no_others at lt near mark' in
                none (reader.start + at) (omega arith) (covers_old run reader.start (length text) at (length out) total lt (omega arith)) moved)
          ])
      | inr le ↦ (
          let k : ℕ = at - length text in
          let is : at ≡ length text + k = omega arith in
          let is' : at ≡ length (literal_marks h.runs) + k = omega arith in
          let mark' : get_or (marks_of_run run) k false ≡ true = sym (at_right (literal_marks h.runs) (marks_of_run run) k at false is') ∙ mark in
          none (reader.start + at) (omega arith) (covers_new run reader.start (length text) at k (length out) total is mark' (omega arith)) moved)
    ]

at-reader_after : (reader : Reader) (run : Run) (len : ℕ) → (reader_after reader run len).at ≡ reader.at + length (bytes_of_run run)
at-reader_after reader (Literal bytes) len = omega arith
at-reader_after reader (Repeat count same) len = omega arith

start-reader_after : (reader : Reader) (run : Run) (len : ℕ) → (reader_after reader run len).start ≡ reader.start
start-reader_after reader (Literal bytes) len = refl
start-reader_after reader (Repeat count same) len = refl

next-reader_after : (reader : Reader) (run : Run) (len : ℕ) → (reader_after reader run len).next ≡ next_after run
next-reader_after reader (Literal bytes) len = refl
next-reader_after reader (Repeat count same) len = refl

-- which of the last bytes are bytes of literals, one run further
record KnowsLiterals (marks : List Bool) (start total literals : ℕ) : Type 0 where
  low : start ≤ literals
  high : literals ≤ start + total
  are_literals : (at : ℕ) → at < total → total ≤ at + 2 → literals ≤ start + at → get_or marks at false ≡ true
  no_others : (at : ℕ) → at < total → total ≤ at + 2 → get_or marks at false ≡ true → literals ≤ start + at

knows_more : (marks : List Bool) (start total : ℕ) (reader : Reader) (run : Run) (len : ℕ) → IsSized run → length marks ≡ total → len ≡ start + total
    → KnowsLiterals marks start total reader.literals → KnowsLiterals (marks ++ marks_of_run run) start (total + length (plain_of_run run)) ((reader_after reader run len).literals)
knows_more marks start total reader (Literal bytes) len sized size is h =
    let some : 0 < length bytes = sized.0 in
    let low : start ≤ reader.literals = h.low in
    let high : reader.literals ≤ start + total = h.high in
    record {
      low = low;
      high = omega arith;
      are_literals = λ at inside near from.
          elim (cases_lt at total) [
            | inl lt ↦ get_or_append_left marks (replicate (length bytes) true) false at (omega arith) ∙ h.are_literals at lt (omega arith) from
            | inr le ↦ at_right marks (replicate (length bytes) true) (at - total) at false (omega arith) ∙ get_or-replicate (length bytes) (at - total) true false (omega arith)
          ];
      no_others = λ at inside near mark.
          elim (cases_lt at total) [
            | inl lt ↦ h.no_others at lt (omega arith) (sym (get_or_append_left marks (replicate (length bytes) true) false at (omega arith)) ∙ mark)
            | inr le ↦ (omega arith)
          ];
    }
knows_more marks start total reader (Repeat count same) len sized size is h =
    let some : 3 ≤ count = sized.0 in
    let plain : length (replicate count same) ≡ count = length-replicate count same in
    record {
      low = omega arith;
      high = omega arith;
      are_literals = λ at inside near from. absurd (omega arith);
      no_others = λ at inside near mark. absurd (unmarked count (at - total) (sym (at_right marks (replicate count false) (at - total) at false (omega arith)) ∙ mark));
    }

pub reads_more : (packed : List ℕ) (reader : Reader) (out : List ℕ) (run : Run) (more : List ℕ) (h : HasRead packed reader out) → h.rest ≡ bytes_of_run run ++ more → IsSized run → Allows reader.next run
    → NoTriple (out ++ plain_of_run run) (max reader.literals (length out - 2)) (end_of run (length out)) → HasRead packed (reader_after reader run (length out)) (out ++ plain_of_run run)
reads_more packed reader out run more h e sized allowed none =
    let bytes : packed_text (h.runs ++ run ∷ []) ≡ packed_text h.runs ++ bytes_of_run run = flat_map_snoc bytes_of_run h.runs run in
    let text : plain_text (h.runs ++ run ∷ []) ≡ plain_text h.runs ++ plain_of_run run = flat_map_snoc plain_of_run h.runs run in
    let marks : literal_marks (h.runs ++ run ∷ []) ≡ literal_marks h.runs ++ marks_of_run run = flat_map_snoc marks_of_run h.runs run in
    let len : length (plain_text (h.runs ++ run ∷ [])) ≡ length (plain_text h.runs) + length (plain_of_run run) = ap length text ∙ length-append (plain_text h.runs) (plain_of_run run) in
    let total : length out ≡ reader.start + length (plain_text h.runs) = length_read packed reader out h in
    let start : (reader_after reader run (length out)).start ≡ reader.start = start-reader_after reader run (length out) in
    let size : length (out ++ plain_of_run run) ≡ length out + length (plain_of_run run) = length-append out (plain_of_run run) in
    let high : reader.literals ≤ length out = h.high in
    let knows = knows_more (literal_marks h.runs) reader.start (length (plain_text h.runs)) reader run (length out) sized (length-literal_marks h.runs) total
    (record { low = h.low; high = omega arith; are_literals = h.are_literals; no_others = h.no_others }) in
    let low' : reader.start ≤ (reader_after reader run (length out)).literals = knows.low in
    let high' : (reader_after reader run (length out)).literals ≤ reader.start + (length (plain_text h.runs) + length (plain_of_run run)) = knows.high in
    record {
      runs = h.runs ++ run ∷ [];
      rest = more;
      front = h.front;
      parts = h.parts ∙ ap (λ (t : List ℕ). packed_text h.runs ++ t) e ∙ sym (append_assoc (packed_text h.runs) (bytes_of_run run) more) ∙ ap (λ (t : List ℕ). t ++ more) (sym bytes);
      place = omega (arith, at-reader_after reader run (length out), h.place, ap length bytes, length-append (packed_text h.runs) (bytes_of_run run));
      accepted = record {
        in_order = in_order_more h.runs run h.accepted.in_order sized (subst (λ n. Allows n run) h.next allowed);
        no_triple = λ at mark triple. still_free packed reader out run h none at (ap (λ (m : List Bool). get_or m at false) (sym marks) ∙ mark) (subst (λ (t : List ℕ). TripleAt t at) text triple);
      };
      unpacked = ap (λ (t : List ℕ). t ++ plain_of_run run) h.unpacked ∙ append_assoc h.front (plain_text h.runs) (plain_of_run run) ∙ ap (λ (t : List ℕ). h.front ++ t) (sym text);
      start = start ∙ h.start;
      next = next-reader_after reader run (length out) ∙ sym (next_of-snoc h.runs run);
      low = omega arith;
      high = omega arith;
      are_literals = λ at inside near from. ap (λ (m : List Bool). get_or m at false) marks ∙ knows.are_literals at (omega arith) (omega arith) (omega arith);
      no_others = λ at inside near mark.
          let from : (reader_after reader run (length out)).literals ≤ reader.start + at = knows.no_others at (omega arith) (omega arith) (ap (λ (m : List Bool). get_or m at false) (sym marks) ∙ mark) in
          omega arith;
    }

-- ---- a run that breaks the rule

-- what is left is what stands behind the runs that were read
rest_is : (packed : List ℕ) (reader : Reader) (out rest : List ℕ) (h : HasRead packed reader out) → rest ≡ drop reader.at packed → rest ≡ h.rest
rest_is packed reader out rest h e = e ∙ ap (drop reader.at) h.parts ∙ drop_at (packed_text h.runs) h.rest reader.at (sym h.place)

some_rest : (packed : List ℕ) (reader : Reader) (out : List ℕ) (h : HasRead packed reader out) → reader.at < length packed → 0 < length h.rest
some_rest packed reader out h lt = omega (arith, h.place, ap length h.parts, length-append (packed_text h.runs) h.rest)

breaks_here : (packed : List ℕ) (reader : Reader) (out : List ℕ) (h : HasRead packed reader out) → reader.at < length packed
    → ((run : Run) (more : List ℕ) → h.rest ≡ bytes_of_run run ++ more → IsAccepted (h.runs ++ run ∷ []) → ⊥) → BreaksAt packed reader.at
breaks_here packed reader out h lt breaks = record { before = h.runs; rest = h.rest; parts = h.parts; place = h.place; accepted = h.accepted; some = some_rest packed reader out h lt; breaks = breaks }

pub breaks_as_none : (packed : List ℕ) (reader : Reader) (out rest : List ℕ) → HasRead packed reader out → reader.at < length packed → rest ≡ drop reader.at packed → BeginsWithNone rest → BreaksAt packed reader.at
breaks_as_none packed reader out rest h lt e none =
    breaks_here packed reader out h lt (λ run more is accepted. none run more (order_of_last h.runs run accepted.in_order).0 (rest_is packed reader out rest h e ∙ is))

-- the run that is announced is the only one there
the_run : (packed : List ℕ) (reader : Reader) (out rest : List ℕ) (control : Control) (h : HasRead packed reader out) → rest ≡ drop reader.at packed → Announces control rest
    → (run : Run) (more : List ℕ) → h.rest ≡ bytes_of_run run ++ more → IsAccepted (h.runs ++ run ∷ []) → run ≡ run_in control rest
the_run packed reader out rest control h e a run more is accepted =
    (one_run run (run_in control rest) more (drop (length (bytes_of_run (run_in control rest))) rest) (order_of_last h.runs run accepted.in_order).0 a.begins.sized (sym is ∙ sym (rest_is packed reader out rest h e) ∙ a.begins.front)).0

pub breaks_as_next : (packed : List ℕ) (reader : Reader) (out rest : List ℕ) (control : Control) → HasRead packed reader out → reader.at < length packed → rest ≡ drop reader.at packed → Announces control rest
    → (Allows reader.next (run_in control rest) → ⊥) → BreaksAt packed reader.at
breaks_as_next packed reader out rest control h lt e a refused =
    breaks_here packed reader out h lt (λ run more is accepted.
    let allowed : Allows (next_of h.runs) run = (order_of_last h.runs run accepted.in_order).1 in
    refused (subst (λ n. Allows n (run_in control rest)) (sym h.next) (subst (Allows (next_of h.runs)) (the_run packed reader out rest control h e a run more is accepted) allowed)))

-- where three equal bytes came up, a byte of a literal is the first
marked : (packed : List ℕ) (reader : Reader) (out : List ℕ) (run : Run) (h : HasRead packed reader out) (at : ℕ) → IsSized run → reader.literals ≤ reader.start + at → length out - 2 ≤ reader.start + at
    → reader.start + at + 2 < end_of run (length out) → get_or (literal_marks h.runs ++ marks_of_run run) at false ≡ true
marked packed reader out (Literal bytes) h at sized from near inside =
    let marks : length (literal_marks h.runs) ≡ length (plain_text h.runs) = length-literal_marks h.runs in
    let total : length out ≡ reader.start + length (plain_text h.runs) = length_read packed reader out h in
    elim (cases_lt at (length (plain_text h.runs))) [
      | inl lt ↦ get_or_append_left (literal_marks h.runs) (replicate (length bytes) true) false at (omega arith) ∙ h.are_literals at lt (omega arith) from
      | inr le ↦ at_right (literal_marks h.runs) (replicate (length bytes) true) (at - length (plain_text h.runs)) at false (omega arith) ∙ get_or-replicate (length bytes) (at - length (plain_text h.runs)) true false (omega arith)
    ]
marked packed reader out (Repeat count same) h at sized from near inside =
    let marks : length (literal_marks h.runs) ≡ length (plain_text h.runs) = length-literal_marks h.runs in
    let total : length out ≡ reader.start + length (plain_text h.runs) = length_read packed reader out h in
    let lt : at < length (plain_text h.runs) = omega arith in
    get_or_append_left (literal_marks h.runs) (replicate count false) false at (omega arith) ∙ h.are_literals at lt (omega arith) from

breaks_as_new_triple : (packed : List ℕ) (reader : Reader) (out rest : List ℕ) (control : Control) → HasRead packed reader out → reader.at < length packed → rest ≡ drop reader.at packed → Announces control rest
    → SomeTriple (out ++ plain_of_run (run_in control rest)) (max reader.literals (length out - 2)) (end_of_new control (length out)) → BreaksAt packed reader.at
breaks_as_new_triple packed reader out rest control h lt e a some =
    breaks_here packed reader out h lt (λ run more is accepted.
    let same : run ≡ run_in control rest = the_run packed reader out rest control h e a run more is accepted in
    let plain : List ℕ = plain_of_run (run_in control rest) in
    let low : max reader.literals (length out - 2) ≤ some.at = some.low in
    let high : some.at + 2 < end_of_new control (length out) = some.high in
    let end : end_of_new control (length out) ≡ end_of (run_in control rest) (length out) = end_of_new_is control rest (length out) a.whole in
    let start : reader.start ≤ reader.literals = h.low in
    let front : reader.start ≡ length h.front = h.start in
    let at : ℕ = some.at - reader.start in
    let place : some.at ≡ reader.start + at = omega arith in
    let place' : some.at ≡ length h.front + at = omega arith in
    let grouped : out ++ plain ≡ h.front ++ (plain_text h.runs ++ plain) = ap (λ (t : List ℕ). t ++ plain) h.unpacked ∙ append_assoc h.front (plain_text h.runs) plain in
    let triple : TripleAt (plain_text h.runs ++ plain) at = triple_from_right h.front (plain_text h.runs ++ plain) at some.at place' (subst (λ (t : List ℕ). TripleAt t some.at) grouped some.triple) in
    let mark : get_or (literal_marks h.runs ++ marks_of_run (run_in control rest)) at false ≡ true = marked packed reader out (run_in control rest) h at a.begins.sized (omega arith) (omega arith) (omega arith) in
    let all : IsAccepted (h.runs ++ run_in control rest ∷ []) = subst (λ r. IsAccepted (h.runs ++ r ∷ [])) same accepted in
    all.no_triple at (ap (λ (m : List Bool). get_or m at false) (flat_map_snoc marks_of_run h.runs (run_in control rest)) ∙ mark) (subst (λ (t : List ℕ). TripleAt t at) (sym (flat_map_snoc plain_of_run h.runs (run_in control rest))) triple))

-- ---- the loop

pub breaks_as_triple : (packed : List ℕ) (reader : Reader) (out rest : List ℕ) (control : Control) (new : List ℕ) (len : ℕ) → HasRead packed reader out → reader.at < length packed → rest ≡ drop reader.at packed → Announces control rest
    → new ≡ out ++ plain_of_run (run_in control rest) → len ≡ length out → SomeTriple new (max reader.literals (len - 2)) (end_of_new control len) → BreaksAt packed reader.at
breaks_as_triple packed reader out rest control new len h lt e a new_is len_is some =
    breaks_as_new_triple packed reader out rest control h lt e a
    (subst (λ (n : ℕ). SomeTriple (out ++ plain_of_run (run_in control rest)) (max reader.literals (n - 2)) (end_of_new control n)) len_is
    (subst (λ (t : List ℕ). SomeTriple t (max reader.literals (len - 2)) (end_of_new control len)) new_is some))

reads_the_run : (packed : List ℕ) (reader : Reader) (out rest : List ℕ) (control : Control) → HasRead packed reader out → rest ≡ drop reader.at packed → Announces control rest → Allows reader.next (run_in control rest)
    → NoTriple (out ++ plain_of_run (run_in control rest)) (max reader.literals (length out - 2)) (end_of_new control (length out)) → HasRead packed (reader_after reader (run_in control rest) (length out)) (out ++ plain_of_run (run_in control rest))
reads_the_run packed reader out rest control h e a allowed none =
    reads_more packed reader out (run_in control rest) (drop (length (bytes_of_run (run_in control rest))) rest) h (sym (rest_is packed reader out rest h e) ∙ a.begins.front) a.begins.sized allowed
    (subst (λ (n : ℕ). NoTriple (out ++ plain_of_run (run_in control rest)) (max reader.literals (length out - 2)) n) (end_of_new_is control rest (length out) a.whole) none)

pub reads_run : (packed : List ℕ) (reader : Reader) (out rest : List ℕ) (control : Control) (new : List ℕ) (len : ℕ) (after : Reader) → HasRead packed reader out → rest ≡ drop reader.at packed → Announces control rest → Allows reader.next (run_in control rest)
    → new ≡ out ++ plain_of_run (run_in control rest) → len ≡ length out → NoTriple new (max reader.literals (len - 2)) (end_of_new control len) → after ≡ reader_after reader (run_in control rest) len → HasRead packed after new
reads_run packed reader out rest control new len after h e a allowed new_is len_is none after_is =
    let none' : NoTriple (out ++ plain_of_run (run_in control rest)) (max reader.literals (length out - 2)) (end_of_new control (length out)) =
    subst (λ (n : ℕ). NoTriple (out ++ plain_of_run (run_in control rest)) (max reader.literals (n - 2)) (end_of_new control n)) len_is
    (subst (λ (t : List ℕ). NoTriple t (max reader.literals (len - 2)) (end_of_new control len)) new_is none) in
    let read : HasRead packed (reader_after reader (run_in control rest) (length out)) (out ++ plain_of_run (run_in control rest)) = reads_the_run packed reader out rest control h e a allowed none' in
    subst (λ (t : List ℕ). HasRead packed after t) (sym new_is)
    (subst (λ (r : Reader). HasRead packed r (out ++ plain_of_run (run_in control rest))) (ap (reader_after reader (run_in control rest)) (sym len_is) ∙ sym after_is) read)

pub reads_nothing : (packed out : List ℕ) (len : ℕ) → len ≡ length out → HasRead packed (record { at = 0; start = len; literals = len; next = nexts.Any }) out
reads_nothing packed out len e = record {
  runs = [];
  rest = packed;
  front = out;
  parts = refl;
  place = refl;
  accepted = nothing_accepted;
  unpacked = sym (append-nil out);
  start = e;
  next = refl;
  low = omega arith;
  high = omega arith;
  are_literals = λ at inside near from. absurd (omega arith);
  no_others = λ at inside near mark. absurd (omega arith);
}

pub keeps_front_twice : (a b c : List ℕ) → KeepsFront a b → KeepsFront b c → KeepsFront a c
keeps_front_twice a b c h k =
    let shorter : length a ≤ length b = omega (arith, ap length h, length-take (length a) b) in
    sym (take-take (length a) (length b) c shorter) ∙ ap (take (length a)) k ∙ h

pub kept_front : (old new : List ℕ) → new ≡ old → KeepsFront old new
kept_front old new is = subst (λ (t : List ℕ). KeepsFront old t) (sym is) (take_all (length old) old (omega arith))

pub longer_keeps_front : (old new more : List ℕ) → new ≡ old ++ more → KeepsFront old new
longer_keeps_front old new more is = ap (λ (t : List ℕ). take (length old) t) is ∙ take_at old more (length old) refl

pub reads_further : (reader after : Reader) (run : Run) (len : ℕ) → after ≡ reader_after reader run len → reader.at < after.at
reads_further reader after run len is = subst (λ (r : Reader). reader.at < r.at) (sym is) (further run)
  where
    further : (run : Run) → reader.at < (reader_after reader run len).at
    further (Literal bytes) = omega arith
    further (Repeat count same) = omega arith

pub reads_from_start : (reader after : Reader) (run : Run) (len : ℕ) → after ≡ reader_after reader run len → after.start ≡ reader.start
reads_from_start reader after run len is = ap (λ (r : Reader). r.start) is ∙ start-reader_after reader run len

pub has_read_all : (packed : List ℕ) (reader : Reader) (out initial : List ℕ) → HasRead packed reader out → length packed ≤ reader.at → reader.start ≡ length initial → KeepsFront initial out → AppendsPlain initial out packed
has_read_all packed reader out initial h le start keeps =
    let none : length h.rest ≡ 0 = omega (arith, h.place, ap length h.parts, length-append (packed_text h.runs) h.rest) in
    let rest : h.rest ≡ [] = nil h.rest none in
    let front : h.front ≡ initial = sym (take_at h.front (plain_text h.runs) (length initial) (sym h.start ∙ start)) ∙ ap (take (length initial)) (sym h.unpacked) ∙ keeps in
    record {
      plain = plain_text h.runs;
      stands = record { runs = h.runs; accepted = h.accepted; spelled = h.parts ∙ ap (λ (t : List ℕ). packed_text h.runs ++ t) rest ∙ append-nil (packed_text h.runs); means = refl };
      appended = h.unpacked ∙ ap (λ (t : List ℕ). t ++ plain_text h.runs) front;
    }
  where
    nil : (xs : List ℕ) → length xs ≡ 0 → xs ≡ []
    nil [] e = refl
    nil (x ∷ xs) e = absurd (omega arith)
