-- Places and answers of sessions.
use Rattle.std.proofs.Common.{◌≡◌, ◌<◌, ℕ, zero, suc, List, [], ◌∷◌, ◌++◌, get_or, length, replicate, set, sym, ap, ◌∙◌, arith}
use Rattle.std.proofs.lemmas.List.{get_or-map, map-set}
use Rattle.std.specs.declared.vec.Vec.{Vec}
use Rattle.std.specs.declared.alloc.Global.{Global}
use Rattle.mg_interleavings.specs.declared.answered.Answered.{Answered}
use Rattle.mg_floor.specs.Boards.{lists}

-- one more session that was not answered
pub none_more : (vs : List (Vec Answered Global)) (v : Vec Answered Global) → v.items ≡ []
    → lists vs ≡ replicate (length vs) [] → lists (vs ++ v ∷ []) ≡ replicate (length (vs ++ v ∷ [])) []
none_more [] v none all = ap (λ (xs : List Answered). xs ∷ []) none
none_more (w ∷ vs) v none all =
    let first : w.items ≡ [] = cc all in
    let rest : lists vs ≡ replicate (length vs) [] = cc all in
    let more = none_more vs v none rest in
    ap (λ (x : List Answered × List (List Answered)). x.0 ∷ x.1) (λ i. (first i, more i))

-- the answers of a session with one more
pub put_lists : (vs : List (Vec Answered Global)) (s : ℕ) (d v : Vec Answered Global) (answer : Answered) → s < length vs
    → v.items ≡ (get_or vs s d).items ++ answer ∷ []
    → lists (set vs s v) ≡ set (lists vs) s (get_or (lists vs) s [] ++ answer ∷ [])
put_lists vs s d v answer inside is =
    map-set (λ (w : Vec Answered Global). w.items) vs s v
    ∙ ap (λ (xs : List Answered). set (lists vs) s xs)
    (is ∙ ap (λ (xs : List Answered). xs ++ answer ∷ [])
    (sym (get_or-map (λ (w : Vec Answered Global). w.items) vs s d [] inside)))

-- the answers are the same where one vector has the same
pub same_lists : (vs : List (Vec Answered Global)) (s : ℕ) (d v : Vec Answered Global) → s < length vs
    → v.items ≡ (get_or vs s d).items → lists (set vs s v) ≡ lists vs
same_lists [] s d v inside is = absurd (omega (arith, inside))
same_lists (w ∷ vs) zero d v inside is = ap (λ (xs : List Answered). xs ∷ lists vs) is
same_lists (w ∷ vs) (suc s) d v inside is =
    ap (λ (xss : List (List Answered)). w.items ∷ xss) (same_lists vs s d v (omega (arith, inside)) is)

-- the same for a vector that was read at its place
pub put_read : (vs : List (Vec Answered Global)) (s : ℕ) (d v : Vec Answered Global) (answer : Answered) → s < length vs
    → d ≡ get_or vs s d → v.items ≡ d.items ++ answer ∷ []
    → lists (set vs s v) ≡ set (lists vs) s (get_or (lists vs) s [] ++ answer ∷ [])
put_read vs s d v answer inside read is =
    put_lists vs s d v answer inside (is ∙ ap (λ (w : Vec Answered Global). w.items ++ answer ∷ []) read)

pub same_read : (vs : List (Vec Answered Global)) (s : ℕ) (d v : Vec Answered Global) → s < length vs → d ≡ get_or vs s d
    → v.items ≡ d.items → lists (set vs s v) ≡ lists vs
same_read vs s d v inside read is =
    same_lists vs s d v inside (is ∙ ap (λ (w : Vec Answered Global). w.items) read)
