-- Chains of nodes: a step along one, and a node more.
use Rattle.std.proofs.Common.{◌≡◌, ◌≢◌, ◌≤◌, ◌<◌, ◌⊎◌, inl, inr, ◌∙◌, ◌↔◌, ◌++◌, ◌+◌, ◌-◌, ◌%◌, ◌==◌, ℕ, zero, suc, Bool, true, false, List, [], ◌∷◌, append_assoc, arith, ap, get_or, length, map, refl, replicate, reverse, set, subst, sym}
use Rattle.std.proofs.lemmas.Bool.{cases_eq, eq-eqb, ne_eqb}
use Rattle.std.proofs.lemmas.List.{append-nil, get_or-reverse, get_or_default, length_push, length-replicate, get_or-set_other, get_or-set_same, length-reverse, length-set, reverse-append}
use Rattle.mg_base.specs.declared.numbers.RecId.{RecId}
use Rattle.mg_directory.specs.Candidates.{IsCandidate, recs_with, room_of, with_its}
use Rattle.mg_directory.specs.Chains.{IsHashed, LinksBack, Steps, chained, head_of, note_of}
use Rattle.mg_directory.specs.declared.TheConstants.{MOST_NOTED}
use Rattle.mg_directory.specs.declared.node.Node.{Node}

-- a link behind all nodes is passed
pub chained_past : (node : Node) (older : List Node) (hash link : ℕ) → link ≤ length older
    → chained (node ∷ older) hash link ≡ chained older hash link
chained_past node older hash link low = rw (ne_eqb link (length older + 1) (λ e. omega (arith, low, e))) refl

-- nowhere nothing is found
pub chained_nowhere : (nodes : List Node) (hash : ℕ) → chained nodes hash 0 ≡ []
chained_nowhere [] hash = refl
chained_nowhere (node ∷ older) hash =
    chained_past node older hash 0 (omega arith) ∙ chained_nowhere older hash

-- the newest node is at the greatest link
chained_last : (node : Node) (older : List Node) (hash link : ℕ) → link ≡ length older + 1
    → chained (node ∷ older) hash link ≡ with_its hash node.hash node.rec (chained older hash node.next)
chained_last node older hash link last = rw (eq-eqb link (length older + 1) last) refl

steps_in : (nodes : List Node) (hash link place : ℕ) (node : Node) → 0 < link → link + place ≡ length nodes
    → get_or nodes place node ≡ node → LinksBack nodes → Steps nodes hash link node
steps_in [] hash link place node some there is back = absurd (omega (arith, some, there))
steps_in (newest ∷ older) hash link zero node some there is back =
    let last : link ≡ length older + 1 = omega (arith, there) in
    let same : newest ≡ node = is in
    record {
      here = chained_last newest older hash link last
          ∙ (ap (with_its hash newest.hash newest.rec) (sym (chained_past newest older hash newest.next back.0))
          ∙ ap (λ (n : Node). with_its hash n.hash n.rec (chained (newest ∷ older) hash n.next)) same);
      earlier = subst (λ (n : Node). n.next < link) same (let low = back.0 in omega (arith, low, last));
    }
steps_in (newest ∷ older) hash link (suc place) node some there is back =
    let within : link + place ≡ length older = omega (arith, there) in
    let step : Steps older hash link node = steps_in older hash link place node some within is back.1 in
    let low : node.next < link = step.earlier in
    record {
      here = chained_past newest older hash link (omega (arith, within))
          ∙ (step.here ∙ ap (with_its hash node.hash node.rec)
          (sym (chained_past newest older hash node.next (omega (arith, within, low)))));
      earlier = low;
    }

-- the node at a link is the next one of its chain
pub steps_at : (nodes : List Node) (hash link : ℕ) (d : Node) → 0 < link → link ≤ length nodes
    → LinksBack (reverse nodes) → Steps (reverse nodes) hash link (get_or nodes (link - 1) d)
steps_at nodes hash link d some low back =
    let count : length (reverse nodes) ≡ length nodes = length-reverse nodes in
    let place : length nodes - 1 - (length nodes - link) ≡ link - 1 = omega (arith, some, low) in
    let node : Node = get_or nodes (link - 1) d in
    steps_in (reverse nodes) hash link (length nodes - link) node some (omega (arith, low, count))
    (get_or-reverse nodes (length nodes - link) node (omega (arith, some, low))
    ∙ (ap (λ (k : ℕ). get_or nodes k node) place
    ∙ get_or_default nodes (link - 1) node d (omega (arith, some, low)))) back

-- of a chain what was found, and the rest, one step on
pub found_more : (nodes : List Node) (hash link : ℕ) (node : Node) (found more all_ : List RecId)
    → Steps nodes hash link node → found ++ chained nodes hash link ≡ all_
    → more ≡ found ++ with_its hash node.hash node.rec [] → more ++ chained nodes hash node.next ≡ all_
found_more nodes hash link node found more all_ step is with_ =
    ap (λ (recs : List RecId). recs ++ chained nodes hash node.next) with_
    ∙ (joined (node.hash == hash) refl
    ∙ (ap (λ (recs : List RecId). found ++ recs) (sym step.here) ∙ is))
  where
    joined : (b : Bool) → (node.hash == hash) ≡ b
        → (found ++ with_its hash node.hash node.rec []) ++ chained nodes hash node.next
        ≡ found ++ with_its hash node.hash node.rec (chained nodes hash node.next)
    joined true it = rw it (append_assoc found (node.rec ∷ []) (chained nodes hash node.next))
    joined false it = rw it (ap (λ (recs : List RecId). recs ++ chained nodes hash node.next) (append-nil found))

-- nowhere all was found
pub all_found : (nodes : List Node) (hash link : ℕ) (found all_ : List RecId) → link ≤ 0
    → found ++ chained nodes hash link ≡ all_ → found ≡ all_
all_found nodes hash link found all_ end is =
    let none : link ≡ 0 = omega (arith, end) in
    sym (append-nil found)
    ∙ (ap (λ (recs : List RecId). found ++ recs)
    (sym (ap (chained nodes hash) none ∙ chained_nowhere nodes hash)) ∙ is)

pub none_left : (nodes : List Node) (hash link : ℕ) (rec : RecId) → link ≤ 0
    → IsCandidate (chained nodes hash link) rec → ⊥
none_left nodes hash link rec end there =
    let none : link ≡ 0 = omega (arith, end) in
    subst (λ (recs : List RecId). IsCandidate recs rec)
    (ap (chained nodes hash) none ∙ chained_nowhere nodes hash) there

found_none : (hash its : ℕ) (rec : RecId) (rest : List RecId) → its ≢ hash → with_its hash its rec rest ≡ rest
found_none hash its rec rest off = rw (ne_eqb its hash off) refl

-- a record is the node's
pub candidate_here : (nodes : List Node) (hash link : ℕ) (node : Node) (rec : RecId)
    → Steps nodes hash link node → (node.hash ≡ hash) × (node.rec ≡ rec)
    → IsCandidate (chained nodes hash link) rec
candidate_here nodes hash link node rec step is =
    subst (λ (recs : List RecId). IsCandidate recs rec) (sym step.here) (at (node.hash == hash) refl)
  where
    at : (b : Bool) → (node.hash == hash) ≡ b
        → IsCandidate (with_its hash node.hash node.rec (chained nodes hash node.next)) rec
    at true it = rw it (inl is.1)
    at false it = let no : false ≡ true = sym it ∙ eq-eqb node.hash hash is.0 in absurd cc

-- or it is among the rest
pub candidate_on : (nodes : List Node) (hash link : ℕ) (node : Node) (rec : RecId)
    → Steps nodes hash link node → ((node.hash ≡ hash) × (node.rec ≡ rec) → ⊥)
    → IsCandidate (chained nodes hash link) rec ↔ IsCandidate (chained nodes hash node.next) rec
candidate_on nodes hash link node rec step other =
    subst (λ (recs : List RecId). IsCandidate recs rec ↔ IsCandidate (chained nodes hash node.next) rec)
    (sym step.here) (at (cases_eq node.hash hash))
  where
    at : (node.hash ≡ hash) ⊎ (node.hash ≢ hash)
        → IsCandidate (with_its hash node.hash node.rec (chained nodes hash node.next)) rec
        ↔ IsCandidate (chained nodes hash node.next) rec
    at (inl same) = rw (eq-eqb node.hash hash same) (out, λ later. inr later)
      where
        out : (node.rec ≡ rec) ⊎ IsCandidate (chained nodes hash node.next) rec
            → IsCandidate (chained nodes hash node.next) rec
        out (inl is) = absurd (other (same, is))
        out (inr later) = later
    at (inr off) = rw (ne_eqb node.hash hash off) ((λ there. there), (λ there. there))

-- ---- one node more

pub reverse_push : (nodes : List Node) (node : Node) → reverse (nodes ++ node ∷ []) ≡ node ∷ reverse nodes
reverse_push nodes node = reverse-append nodes (node ∷ [])

-- the chain of its own hashes begins with it, and those of others are as they were
pub chained_more : (heads : List ℕ) (nodes : List Node) (node : Node) (hash : ℕ)
    → IsHashed heads nodes → node.next ≡ head_of heads node.hash
    → chained (node ∷ reverse nodes) hash (head_of (set heads (node.hash % length heads) (length nodes + 1)) hash)
    ≡ recs_with hash (note_of node ∷ map note_of (reverse nodes))
chained_more heads nodes node hash is next = at (cases_eq (hash % length heads) (node.hash % length heads))
  where
    count : length (reverse nodes) ≡ length nodes
    count = length-reverse nodes

    place : head_of (set heads (node.hash % length heads) (length nodes + 1)) hash
        ≡ get_or (set heads (node.hash % length heads) (length nodes + 1)) (hash % length heads) 0
    place = ap (λ (n : ℕ). get_or (set heads (node.hash % length heads) (length nodes + 1)) (hash % n) 0)
        (length-set heads (node.hash % length heads) (length nodes + 1))

    at : (hash % length heads ≡ node.hash % length heads) ⊎ (hash % length heads ≢ node.hash % length heads)
        → chained (node ∷ reverse nodes) hash
        (head_of (set heads (node.hash % length heads) (length nodes + 1)) hash)
        ≡ recs_with hash (note_of node ∷ map note_of (reverse nodes))
    at (inl same) =
        let some : 0 < length heads = is.some in
        let here : head_of (set heads (node.hash % length heads) (length nodes + 1)) hash
        ≡ length (reverse nodes) + 1 = place
        ∙ (ap (λ (k : ℕ). get_or (set heads (node.hash % length heads) (length nodes + 1)) k 0) same
        ∙ (get_or-set_same heads (node.hash % length heads) (length nodes + 1) 0 (below some)
        ∙ ap (λ (n : ℕ). n + 1) (sym count))) in
        rw (eq-eqb (head_of (set heads (node.hash % length heads) (length nodes + 1)) hash)
        (length (reverse nodes) + 1) here)
        (ap (with_its hash node.hash node.rec)
        (ap (chained (reverse nodes) hash) (next ∙ ap (λ (k : ℕ). get_or heads k 0) (sym same))
        ∙ is.all_ hash))
      where
        below : 0 < length heads → node.hash % length heads < length heads
        below some = omega (arith, some)
    at (inr off) =
        let other : head_of (set heads (node.hash % length heads) (length nodes + 1)) hash
        ≡ head_of heads hash = place
        ∙ get_or-set_other heads (node.hash % length heads) (hash % length heads) (length nodes + 1) 0 off in
        let low : head_of heads hash ≤ length nodes = is.begins (hash % length heads) in
        ap (chained (node ∷ reverse nodes) hash) other
        ∙ (chained_past node (reverse nodes) hash (head_of heads hash) (omega (arith, low, count))
        ∙ (is.all_ hash
        ∙ sym (found_none hash node.hash node.rec (recs_with hash (map note_of (reverse nodes)))
        (λ same. off (ap (λ (k : ℕ). k % length heads) (sym same))))))

-- so chains are right still
pub hashed_more : (heads : List ℕ) (nodes : List Node) (node : Node) → IsHashed heads nodes
    → node.next ≡ head_of heads node.hash → length nodes < room_of (length heads)
    → IsHashed (set heads (node.hash % length heads) (length nodes + 1)) (nodes ++ node ∷ [])
hashed_more heads nodes node is next room =
    let count : length (reverse nodes) ≡ length nodes = length-reverse nodes in
    let low : head_of heads node.hash ≤ length nodes = is.begins (node.hash % length heads) in
    let same : length (set heads (node.hash % length heads) (length nodes + 1)) ≡ length heads =
    length-set heads (node.hash % length heads) (length nodes + 1) in
    let more : length (nodes ++ node ∷ []) ≡ length nodes + 1 = length_push nodes node in
    record {
      some = subst (λ (n : ℕ). 0 < n) (sym same) is.some;
      few = subst (λ (n : ℕ). n ≤ MOST_NOTED) (sym same) is.few;
      room = subst (λ (n : ℕ). length (nodes ++ node ∷ []) ≤ room_of n) (sym same)
          (subst (λ (n : ℕ). n ≤ room_of (length heads)) (sym more) (omega (arith, room)));
      begins = λ place. begins place (cases_eq place (node.hash % length heads)) more;
      back = subst LinksBack (sym (reverse_push nodes node))
          (subst (λ (n : ℕ). n ≤ length (reverse nodes)) (sym next) (omega (arith, low, count)), is.back);
      all_ = λ hash. subst
          (λ (rs : List Node). chained rs hash (head_of (set heads (node.hash % length heads) (length nodes + 1)) hash)
          ≡ recs_with hash (map note_of rs)) (sym (reverse_push nodes node))
          (chained_more heads nodes node hash is next);
    }
  where
    begins : (place : ℕ) → (place ≡ node.hash % length heads) ⊎ (place ≢ node.hash % length heads)
        → length (nodes ++ node ∷ []) ≡ length nodes + 1
        → get_or (set heads (node.hash % length heads) (length nodes + 1)) place 0 ≤ length (nodes ++ node ∷ [])
    begins place (inl same) more =
        let some : 0 < length heads = is.some in
        let here : get_or (set heads (node.hash % length heads) (length nodes + 1)) place 0 ≡ length nodes + 1 =
        ap (λ (k : ℕ). get_or (set heads (node.hash % length heads) (length nodes + 1)) k 0) same
        ∙ get_or-set_same heads (node.hash % length heads) (length nodes + 1) 0 (omega (arith, some)) in
        omega (arith, here, more)
    begins place (inr off) more =
        let here : get_or (set heads (node.hash % length heads) (length nodes + 1)) place 0 ≡ get_or heads place 0 =
        get_or-set_other heads (node.hash % length heads) place (length nodes + 1) 0 off in
        let low : get_or heads place 0 ≤ length nodes = is.begins place in
        omega (arith, here, more, low)

-- a directory without nodes
pub hashed_none : (count : ℕ) → 0 < count → count ≤ MOST_NOTED → IsHashed (replicate count 0) []
hashed_none count some few =
    let is : length (replicate {A = ℕ} count 0) ≡ count = length-replicate {A = ℕ} count 0 in
    record {
      some = subst (λ (n : ℕ). 0 < n) (sym is) some;
      few = subst (λ (n : ℕ). n ≤ MOST_NOTED) (sym is) few;
      room = omega arith;
      begins = λ place. zeros count place;
      back = tt;
      all_ = λ hash. refl;
    }
  where
    zeros : (n place : ℕ) → get_or (replicate n 0) place 0 ≤ 0
    zeros zero place = omega arith
    zeros (suc n) zero = omega arith
    zeros (suc n) (suc place) = zeros n place
