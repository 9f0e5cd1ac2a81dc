-- Scripts that are cut by sessions have lines of their sessions alone.
use Rattle.std.proofs.Common.{◌≡◌, ◌==◌, ◌+◌, ℕ, zero, suc, true, false, Bool, List, [], ◌∷◌, Option, Some, None, length, refl, sym, ap, subst, arith, if◌then◌else◌}
use Rattle.std.specs.List.{slice_get}
use Rattle.std.proofs.lemmas.Bool.{eqb-true}
use Rattle.mg_script.specs.declared.line.Line.{Line}
use Rattle.mg_script.specs.declared.line.LineKind.{LineKind}
use Rattle.mg_script.specs.declared.line.LineKind.TheVariants as kinds
use Rattle.mg_interleavings.specs.Standings.{script_of}
use Rattle.mg_floor.specs.Scripts.{AreOwnLines, IsOwnLine, before, cut_from, own_by, own_line, own_of}

-- a line that is taken is one of the session
taken_own : (s : ℕ) (kind : LineKind) (line x : Line) → own_by s kind line ≡ Some x → line.kind ≡ kind
    → IsOwnLine s x.kind
taken_own s (kinds.Sql session text) line x is kind_is = at (session.0 == s) refl is
  where
    at : (b : Bool) → (session.0 == s) ≡ b → (if b then Some line else None) ≡ Some x → IsOwnLine s x.kind
    at true same is =
        let line_is : line ≡ x = cc is in
        subst (λ (l : Line). IsOwnLine s l.kind) line_is
        (subst (λ (k : LineKind). IsOwnLine s k) (sym kind_is) (eqb-true session.0 s same))
    at false same is = absurd cc
taken_own s kind line x is kind_is = absurd cc

own_all : (s : ℕ) (lines : List Line) (place : ℕ) (x : Line) → slice_get (own_of s lines) place ≡ Some x
    → IsOwnLine s x.kind
own_all s [] place x is = absurd cc
own_all s (line ∷ lines) place x is = at (own_line s line) refl (λ k later. own_all s lines k x later) place is
  where
    at : (o : Option Line) → own_line s line ≡ o
        → ((k : ℕ) → slice_get (own_of s lines) k ≡ Some x → IsOwnLine s x.kind) → (place : ℕ)
        → slice_get (before o (own_of s lines)) place ≡ Some x → IsOwnLine s x.kind
    at None none rest place is = rest place is
    at (Some first) taken rest zero is =
        let same : first ≡ x = cc is in
        subst (λ (l : Line). IsOwnLine s l.kind) same (taken_own s line.kind line first taken refl)
    at (Some first) taken rest (suc place) is = rest place is

cut_own : (n from : ℕ) (lines : List Line) (s place : ℕ) (x : Line)
    → slice_get (script_of (cut_from n from lines) s) place ≡ Some x → IsOwnLine (from + s) x.kind
cut_own zero from lines s place x is = absurd cc
cut_own (suc n) from lines zero place x is =
    subst (λ (k : ℕ). IsOwnLine k x.kind) (none from) (own_all from lines place x is)
  where
    none : (a : ℕ) → a ≡ a + 0
    none a = omega arith
cut_own (suc n) from lines (suc s) place x is =
    subst (λ (k : ℕ). IsOwnLine k x.kind) (next from s) (cut_own n (from + 1) lines s place x is)
  where
    next : (a b : ℕ) → (a + 1) + b ≡ a + suc b
    next a b = omega arith

pub cut_are_own : (n : ℕ) (lines : List Line) → AreOwnLines (cut_from n 0 lines)
cut_are_own n lines s place x is =
    subst (λ (k : ℕ). IsOwnLine k x.kind) (none s) (cut_own n 0 lines s place x is)
  where
    none : (a : ℕ) → 0 + a ≡ a
    none a = omega arith

pub length_cut : (n from : ℕ) (lines : List Line) → length (cut_from n from lines) ≡ n
length_cut zero from lines = refl
length_cut (suc n) from lines = ap suc (length_cut n (from + 1) lines)
