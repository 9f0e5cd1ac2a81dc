-- The writer's runs are accepted, and accepted runs are the writer's.
use Rattle.std.proofs.Common.{◌≡◌, ℕ, ◌+◌, ◌-◌, ◌<◌, ◌≤◌, true, false, List, [], ◌∷◌, ◌++◌, length, take, drop, replicate, get_or, refl, sym, ap, subst, ◌∙◌, append_assoc, arith, inl, inr}
use Rattle.std.proofs.lemmas.Bool.{cases_lt, cases_order, false≢true}
use Rattle.std.proofs.lemmas.List.{append-nil, length-append, length-replicate, length-take-le, length-drop, get_or-replicate, get_or_append_left, get_or-take, take-append-drop, ext_get_or}
use Rattle.mg_base.specs.Fields.{byte}
use Rattle.mg_rle.specs.Runs.{Run, Literal, Repeat, TripleAt, MayPrecedeAll, IsAccepted, StandsFor, bytes_of_run, plain_of_run, marks_of_run, packed_text, plain_text, literal_marks}
use Rattle.mg_rle.specs.Writing.{AppendsPacked, IsFirstRun, IsFrontRepeat, IsFrontLiteral, PutsRun}
use Rattle.mg_rle.proofs.RunLemmas.{append_parts, at_right, triple_from_right, triple_to_right, triple_in_repeat, length-marks_of_run, some_plain, literal_free, accepted_rest}

-- ---- what the writer writes is accepted

-- no triple begins in a literal's bytes, nor in those of the accepted runs behind a first run
no_triple_behind : (run : Run) (tail : List Run) → IsAccepted tail → ((at : ℕ) → at < length (plain_of_run run) → get_or (marks_of_run run) at false ≡ true → TripleAt (plain_of_run run ++ plain_text tail) at → ⊥)
    → (at : ℕ) → get_or (marks_of_run run ++ literal_marks tail) at false ≡ true → TripleAt (plain_of_run run ++ plain_text tail) at → ⊥
no_triple_behind run tail h free at mark triple =
    let len : length (marks_of_run run) ≡ length (plain_of_run run) = length-marks_of_run run in
    elim (cases_lt at (length (plain_of_run run))) [
      | inl lt ↦ free at lt (sym (get_or_append_left (marks_of_run run) (literal_marks tail) false at (omega arith)) ∙ mark) triple
      | inr le ↦ (let k : ℕ = at - length (plain_of_run run) in
          let is : at ≡ length (plain_of_run run) + k = omega arith in
          let is' : at ≡ length (marks_of_run run) + k = omega arith in
          h.no_triple k (sym (at_right (marks_of_run run) (literal_marks tail) k at false is') ∙ mark) (triple_from_right (plain_of_run run) (plain_text tail) k at is triple))
    ]

may_precede : (run : Run) (tail : List Run) → IsAccepted tail → IsFirstRun run (plain_text tail) → MayPrecedeAll run tail
may_precede run [] h first = tt
may_precede (Literal bytes) (Literal others ∷ later) h first =
    let some : 0 < length others = h.in_order.0.0 in
    let most : length bytes ≤ 127 = first.1 in
    let whole : length (others ++ plain_text later) ≡ length others + length (plain_text later) = length-append others (plain_text later) in
    elim (cases_lt (length bytes) 127) [
      | inl lt ↦ absurd (literal_free others later 0 h some (first.3 lt (omega arith)))
      | inr le ↦ (omega arith)
    ]
may_precede (Literal bytes) (Repeat count same ∷ later) h first = tt
may_precede (Repeat count same) (next ∷ later) h first = λ lt.
    let some : 0 < length (plain_of_run next) = some_plain next h.in_order.0 in
    let whole : length (plain_of_run next ++ plain_text later) ≡ length (plain_of_run next) + length (plain_text later) = length-append (plain_of_run next) (plain_text later) in
    λ e. first.2 lt (omega arith) (get_or_append_left (plain_of_run next) (plain_text later) 0 0 some ∙ e)

pub accepted_first : (run : Run) (tail : List Run) → IsAccepted tail → IsFirstRun run (plain_text tail) → IsAccepted (run ∷ tail)
accepted_first (Literal bytes) tail h first = record {
  in_order = ((first.0, first.1), may_precede (Literal bytes) tail h first, h.in_order);
  no_triple = no_triple_behind (Literal bytes) tail h (λ at lt mark triple. first.2 at lt triple);
}
accepted_first (Repeat count same) tail h first = record {
  in_order = ((first.0, first.1), may_precede (Repeat count same) tail h first, h.in_order);
  no_triple = no_triple_behind (Repeat count same) tail h (λ at lt mark triple.
      let lt' : at < count = omega (arith, length-replicate count same) in
      absurd (false≢true (sym (get_or-replicate count at false false lt') ∙ mark)));
}

-- ---- what is accepted is what the writer writes

pub first_accepted : (run : Run) (tail : List Run) → IsAccepted (run ∷ tail) → IsFirstRun run (plain_text tail)
first_accepted (Literal bytes) [] h = (h.in_order.0.0, h.in_order.0.1, λ at lt triple. literal_free bytes [] at h lt triple, λ lt some. absurd (omega arith))
first_accepted (Literal bytes) (Literal others ∷ later) h =
    let whole : length bytes ≡ 127 = h.in_order.1 in
    (h.in_order.0.0, h.in_order.0.1, λ at lt triple. literal_free bytes (Literal others ∷ later) at h lt triple, λ lt some. absurd (omega arith))
first_accepted (Literal bytes) (Repeat count same ∷ later) h =
    (h.in_order.0.0, h.in_order.0.1, λ at lt triple. literal_free bytes (Repeat count same ∷ later) at h lt triple, λ lt some. triple_in_repeat count same (plain_text later) h.in_order.2.0.0)
first_accepted (Repeat count same) [] h = (h.in_order.0.0, h.in_order.0.1, λ lt some. absurd (omega arith))
first_accepted (Repeat count same) (next ∷ later) h =
    let some : 0 < length (plain_of_run next) = some_plain next h.in_order.2.0 in
    (h.in_order.0.0, h.in_order.0.1, λ lt _ e. h.in_order.1 lt (sym (get_or_append_left (plain_of_run next) (plain_text later) 0 0 some) ∙ e))

-- a literal doesn't stop before another one does
no_shorter_literal : (bytes others x y : List ℕ) → IsFirstRun (Literal bytes) x → IsFirstRun (Literal others) y → bytes ++ x ≡ others ++ y → length bytes < length others → ⊥
no_shorter_literal bytes others x y h k e lt =
    let most : length others ≤ 127 = k.1 in
    let left : length (bytes ++ x) ≡ length bytes + length x = length-append bytes x in
    let right : length (others ++ y) ≡ length others + length y = length-append others y in
    let both : length (bytes ++ x) ≡ length (others ++ y) = ap length e in
    let triple : TripleAt (bytes ++ x) (length bytes) = triple_to_right bytes x 0 (length bytes) (omega arith) (h.3 (omega arith) (omega arith)) in
    k.2 (length bytes) lt (subst (λ (t : List ℕ). TripleAt t (length bytes)) e triple)

-- a repeat doesn't stop before another one does
no_shorter_repeat : (count other same last : ℕ) (x y : List ℕ) → IsFirstRun (Repeat count same) x → IsFirstRun (Repeat other last) y → replicate count same ++ x ≡ replicate other last ++ y → same ≡ last → count < other → ⊥
no_shorter_repeat count other same last x y h k e bytes lt =
    let most : other ≤ 128 = k.1 in
    let len : length (replicate count same) ≡ count = length-replicate count same in
    let len' : length (replicate other last) ≡ other = length-replicate other last in
    let left : length (replicate count same ++ x) ≡ length (replicate count same) + length x = length-append (replicate count same) x in
    let right : length (replicate other last ++ y) ≡ length (replicate other last) + length y = length-append (replicate other last) y in
    let both : length (replicate count same ++ x) ≡ length (replicate other last ++ y) = ap length e in
    let next : byte x 0 ≡ same =
    sym (at_right (replicate count same) x 0 count 0 (omega arith))
    ∙ ap (λ (t : List ℕ). get_or t count 0) e
    ∙ get_or_append_left (replicate other last) y 0 count (omega arith)
    ∙ get_or-replicate other count last 0 lt
    ∙ sym bytes in
    h.2 (omega arith) (omega arith) next

-- a plain text has one first run
pub one_first_run : (r s : Run) (x y : List ℕ) → IsFirstRun r x → IsFirstRun s y → plain_of_run r ++ x ≡ plain_of_run s ++ y → (r ≡ s) × (x ≡ y)
one_first_run (Literal bytes) (Literal others) x y h k e =
    elim (cases_order (length bytes) (length others)) [
      | inl len ↦ (let parts = append_parts bytes others x y len e in (ap (λ b. Literal b) parts.0, parts.1))
      | inr (inl lt) ↦ absurd (no_shorter_literal bytes others x y h k e lt)
      | inr (inr lt) ↦ absurd (no_shorter_literal others bytes y x k h (sym e) lt)
    ]
one_first_run (Literal bytes) (Repeat count same) x y h k e =
    absurd (h.2 0 h.0 (subst (λ (t : List ℕ). TripleAt t 0) (sym e) (triple_in_repeat count same y k.0)))
one_first_run (Repeat count same) (Literal bytes) x y h k e =
    absurd (k.2 0 k.0 (subst (λ (t : List ℕ). TripleAt t 0) e (triple_in_repeat count same x h.0)))
one_first_run (Repeat count same) (Repeat other last) x y h k e =
    let least : 3 ≤ count = h.0 in
    let least' : 3 ≤ other = k.0 in
    let len : length (replicate count same) ≡ count = length-replicate count same in
    let len' : length (replicate other last) ≡ other = length-replicate other last in
    let bytes : same ≡ last =
    sym (get_or-replicate count 0 same 0 (omega arith))
    ∙ sym (get_or_append_left (replicate count same) x 0 0 (omega arith))
    ∙ ap (λ (t : List ℕ). get_or t 0 0) e
    ∙ get_or_append_left (replicate other last) y 0 0 (omega arith)
    ∙ get_or-replicate other 0 last 0 (omega arith) in
    elim (cases_order count other) [
      | inl counts ↦ (let parts = append_parts (replicate count same) (replicate other last) x y (omega arith) e in (cc, parts.1))
      | inr (inl lt) ↦ absurd (no_shorter_repeat count other same last x y h k e bytes lt)
      | inr (inr lt) ↦ absurd (no_shorter_repeat other count last same y x k h (sym e) (sym bytes) lt)
    ]

same_from_plain : (a b : List Run) → IsAccepted a → IsAccepted b → plain_text a ≡ plain_text b → a ≡ b
same_from_plain [] [] h k e = refl
same_from_plain [] (s ∷ b) h k e =
    let some : 0 < length (plain_of_run s) = some_plain s k.in_order.0 in
    absurd (omega (arith, ap length e, length-append (plain_of_run s) (plain_text b)))
same_from_plain (r ∷ a) [] h k e =
    let some : 0 < length (plain_of_run r) = some_plain r h.in_order.0 in
    absurd (omega (arith, ap length e, length-append (plain_of_run r) (plain_text a)))
same_from_plain (r ∷ a) (s ∷ b) h k e =
    let one = one_first_run r s (plain_text a) (plain_text b) (first_accepted r a h) (first_accepted s b k) e in
    let run : r ≡ s = one.0 in
    let later : a ≡ b = same_from_plain a b (accepted_rest r a h) (accepted_rest s b k) one.1 in
    cc

pub packed_texts_same : (plain first second : List ℕ) → StandsFor first plain → StandsFor second plain → first ≡ second
packed_texts_same plain first second a b =
    let same : a.runs ≡ b.runs = same_from_plain a.runs b.runs a.accepted b.accepted (sym a.means ∙ b.means) in
    a.spelled ∙ ap packed_text same ∙ sym b.spelled

-- ---- the first run that is put

pub puts_repeat : (old mid new plain : List ℕ) (count : ℕ) → TripleAt plain 0 → IsFrontRepeat plain count → mid ≡ old ++ (256 - count) ∷ [] → new ≡ mid ++ byte plain 0 ∷ [] → PutsRun old new plain count
puts_repeat old mid new plain count triple front first second =
    let inside : count ≤ length plain = front.inside in
    let long : 0 + 2 < length plain = triple.inside in
    let most : count ≤ 128 = front.most in
    let some : 0 < count = front.some in
    let not_one : count ≡ 1 → ⊥ = λ e. front.ended (omega arith) (omega arith) (ap (byte plain) e ∙ triple.second) in
    let not_two : count ≡ 2 → ⊥ = λ e. front.ended (omega arith) (omega arith) (ap (byte plain) e ∙ triple.third) in
    let least : 3 ≤ count = grind arith in
    let len : length (take count plain) ≡ count = length-take-le count plain inside in
    let len' : length (replicate count (byte plain 0)) ≡ count = length-replicate count (byte plain 0) in
    let equal : take count plain ≡ replicate count (byte plain 0) = ext_get_or 0 (take count plain) (replicate count (byte plain 0)) (omega arith) (λ i lt.
    let below : i < count = omega arith in
    get_or-take count plain i 0 below ∙ front.same i below ∙ sym (get_or-replicate count i (byte plain 0) 0 below)) in
    record {
      run = Repeat count (byte plain 0);
      some = some;
      inside = inside;
      front = sym (take-append-drop count plain) ∙ ap (λ (t : List ℕ). t ++ drop count plain) equal;
      first = (
        least,
        most,
        λ lt more e.
            let more' : 0 < length plain - count = omega (arith, length-drop count plain) in
            let next : byte plain count ≡ byte (drop count plain) 0 = ap (λ (t : List ℕ). get_or t count 0) (sym (take-append-drop count plain)) ∙ at_right (take count plain) (drop count plain) 0 count 0 (omega arith) in
            front.ended lt (omega arith) (next ∙ e),
      );
      appended = second ∙ ap (λ (t : List ℕ). t ++ byte plain 0 ∷ []) first ∙ append_assoc old ((256 - count) ∷ []) (byte plain 0 ∷ []);
    }

pub puts_literal : (old mid new plain : List ℕ) (count : ℕ) → 0 < length plain → (TripleAt plain 0 → ⊥) → IsFrontLiteral plain count → mid ≡ old ++ count ∷ [] → new ≡ mid ++ take count plain → PutsRun old new plain count
puts_literal old mid new plain count more no_triple front first second =
    let inside : count ≤ length plain = front.inside in
    let most : count ≤ 127 = front.most in
    let not_none : count ≡ 0 → ⊥ = λ e. no_triple (subst (TripleAt plain) e (front.ended (omega arith) (omega arith))) in
    let some : 0 < count = grind arith in
    let len : length (take count plain) ≡ count = length-take-le count plain inside in
    let whole : take count plain ++ drop count plain ≡ plain = take-append-drop count plain in
    record {
      run = Literal (take count plain);
      some = some;
      inside = inside;
      front = sym whole;
      first = (
        omega arith,
        omega arith,
        λ at lt triple. front.no_triple at (omega arith) (subst (λ (t : List ℕ). TripleAt t at) whole triple),
        λ lt rest.
            let rest' : 0 < length plain - count = omega (arith, length-drop count plain) in
            triple_from_right (take count plain) (drop count plain) 0 count (omega arith) (subst (λ (t : List ℕ). TripleAt t count) (sym whole) (front.ended (omega arith) (omega arith))),
      );
      appended = second ∙ ap (λ (t : List ℕ). t ++ take count plain) first ∙ append_assoc old (count ∷ []) (take count plain) ∙ ap (λ (n : ℕ). old ++ n ∷ take count plain) (sym len);
    }

-- ---- the loop

-- one run more is put, and what completed the text completes it still
pub completes_more : (old now next plain rest : List ℕ) (count : ℕ) → PutsRun now next rest count
    → ((tail : List Run) → IsAccepted tail → plain_text tail ≡ rest → AppendsPacked old (now ++ packed_text tail) plain)
    → (tail : List Run) → IsAccepted tail → plain_text tail ≡ drop count rest → AppendsPacked old (next ++ packed_text tail) plain
completes_more old now next plain rest count puts so_far tail h e =
    let first : IsFirstRun puts.run (plain_text tail) = subst (IsFirstRun puts.run) (sym e) puts.first in
    let means : plain_of_run puts.run ++ plain_text tail ≡ rest = ap (λ (t : List ℕ). plain_of_run puts.run ++ t) e ∙ sym puts.front in
    let grouped : now ++ (bytes_of_run puts.run ++ packed_text tail) ≡ next ++ packed_text tail = sym (append_assoc now (bytes_of_run puts.run) (packed_text tail)) ∙ ap (λ (t : List ℕ). t ++ packed_text tail) (sym puts.appended) in
    subst (λ (t : List ℕ). AppendsPacked old t plain) grouped (so_far (puts.run ∷ tail) (accepted_first puts.run tail h first) means)

pub nothing_accepted : IsAccepted []
nothing_accepted = record { in_order = tt; no_triple = λ at mark triple. absurd (false≢true mark) }

pub completes_at_start : (old plain : List ℕ) (tail : List Run) → IsAccepted tail → plain_text tail ≡ plain → AppendsPacked old (old ++ packed_text tail) plain
completes_at_start old plain tail h e = record { packed = packed_text tail; stands = record { runs = tail; accepted = h; spelled = refl; means = sym e }; appended = refl }

pub completes_at_end : (old now plain rest : List ℕ) → rest ≡ [] → ((tail : List Run) → IsAccepted tail → plain_text tail ≡ rest → AppendsPacked old (now ++ packed_text tail) plain) → AppendsPacked old now plain
completes_at_end old now plain rest none so_far = subst (λ (t : List ℕ). AppendsPacked old t plain) (append-nil now) (so_far [] nothing_accepted (sym none))
