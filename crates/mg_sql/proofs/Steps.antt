-- What the parser's steps say of its state.
use Rattle.std.proofs.Common.{◌≡◌, ℕ, zero, suc, ◌<◌, ◌≤◌, ◌-◌, Bool, true, false, List, [], ◌∷◌, length, Option, Some, None, Result, Ok, Err, refl, sym, ◌∙◌, ap, subst, arith}
use Rattle.std.proofs.Common.{ℤ, pos, w64}
use Rattle.std.proofs.lemmas.Int.{to_z-of_z}
use mir.Val.{to_z, of_z}
use Rattle.mg_expr.specs.declared.expr.Sign.{Sign}
use Rattle.mg_sql.specs.declared.token.Kind.{Kind}
use Rattle.mg_sql.specs.declared.token.Kind.TheVariants as kinds
use Rattle.mg_statements.specs.declared.fault.SqlFault.{SqlFault}
use Rattle.mg_statements.specs.declared.fault.SqlFault.TheVariants as faults
use Rattle.mg_sql.specs.declared.parser.Parser.{Parser}
use Rattle.mg_sql.specs.Spelling.{IsSpelled}
use Rattle.mg_sql.specs.Tokens.{Token, token}
use Rattle.mg_sql.specs.Lexing.{Lexes, none, one, Stands, spelled, ended, past, stray, between}
use Rattle.mg_sql.specs.Grammar.{Limits, sign_of, adds, multiplies}
use Rattle.mg_sql.specs.Ends.{binds, Ends, opens}
use Rattle.mg_sql.specs.Reading.{Reads, Refuses, Told, One, Keeps, IsReady, IsOpening, ahead, bounded}
use Rattle.mg_sql.proofs.Refusing.{reads_one, fails}
use Rattle.mg_sql.proofs.ExprParts.{test_read, test_refused}
use Rattle.mg_sql.specs.Grammar.{Test, Neg}
use Rattle.mg_expr.specs.declared.expr.Expr.{Expr}
use Rattle.mg_expr.specs.Trees.{tree_of}

pub kept_on : (a b c : Parser) → Keeps a b → Keeps b c → Keeps a c
kept_on a b c k l = record { text = l.text ∙ k.text; ready = l.ready; forward = omega arith }

pub one_read : {k : Kind} (old mid : Parser) (n : ℕ) → old.kind ≡ k → Lexes old.text.now old.at (ahead old ∷ []) mid.at → Reads (One k) n tt old.text.now old.at mid.at
one_read old mid n h l = reads_one n (subst (λ k. Lexes old.text.now old.at (token k (between old.text.now old.at old.end) ∷ []) mid.at) h l)

pub moved_reads : {T : Type 0} {R : Limits → ℕ → T → List Token → List Token → Type 0} {n : ℕ} {t : T} {from to : ℕ} (old mid : Parser)
    → Keeps old mid → Reads R n t mid.text.now from to → Reads R n t old.text.now from to
moved_reads {R = R} {n = n} {t = t} {from = from} {to = to} old mid k r = subst (λ s. Reads R n t s from to) k.text r

pub moved_refuses : {T : Type 0} {R : Limits → ℕ → T → List Token → List Token → Type 0} {level n : ℕ} {always : Bool} {x : Token} {from to : ℕ} (old mid : Parser)
    → Keeps old mid → Refuses R level n always x mid.text.now from to → Refuses R level n always x old.text.now from to
moved_refuses {R = R} {level = level} {n = n} {always = always} {x = x} {from = from} {to = to} old mid k r = subst (λ s. Refuses R level n always x s from to) k.text r

moves : {text : List ℕ} {at to : ℕ} {k : Kind} → Stands text at to k → 0 < binds k → at < to
moves (spelled p a b c d) h = a
moves (ended p e) h = absurd (omega arith)
moves (past p) h = absurd (omega arith)
moves (stray p a b c) h = absurd (omega arith)

pub nearer : (q m new : Parser) → 0 < binds q.kind → IsReady q → q.end ≤ m.at → Keeps q m → Keeps m new
    → length new.text.now - new.at < length q.text.now - q.at
nearer q m new h ready behind k l =
    let a = moves ready.stands h in let b : length new.text.now ≡ length q.text.now = ap length (l.text ∙ k.text) in
    let c = l.ready.inside in let d = l.forward in omega arith

-- the refusal of the next token
pub syntax_told : {A T : Type 0} (u : A → T) (R : Limits → ℕ → T → List Token → List Token → Type 0) (level n : ℕ) (old new : Parser) (e : SqlFault)
    → e ≡ faults.Syntax (bounded new.at) → Refuses R level n true (ahead new) old.text.now old.at new.at → Told u R level n old new (Err e)
syntax_told u R level n old new e is r = rw is (refl, r)

pub deep_told : {A T : Type 0} (u : A → T) (R : Limits → ℕ → T → List Token → List Token → Type 0) (level n : ℕ) (old : Parser) (e : SqlFault)
    → e ≡ faults.TooDeep (bounded old.at) → IsOpening old.kind → Refuses R level n false (ahead old) old.text.now old.at old.at → Told u R level n old old (Err e)
deep_told u R level n old e is o r = rw is (refl, o, r)

pub large_told : {A T : Type 0} (u : A → T) (R : Limits → ℕ → T → List Token → List Token → Type 0) (level n : ℕ) (old : Parser) (e : SqlFault)
    → e ≡ faults.NumberTooLarge (bounded old.at) → old.kind ≡ kinds.Integer → Refuses R level n false (ahead old) old.text.now old.at old.at → Told u R level n old old (Err e)
large_told u R level n old e is o r = rw is (refl, o, r)

pub long_told : {A T : Type 0} (u : A → T) (R : Limits → ℕ → T → List Token → List Token → Type 0) (level n : ℕ) (old : Parser) (e : SqlFault)
    → e ≡ faults.NameTooLong (bounded old.at) → old.kind ≡ kinds.Name → Refuses R level n false (ahead old) old.text.now old.at old.at → Told u R level n old old (Err e)
long_told u R level n old e is o r = rw is (refl, o, r)

-- the token that stands next is of this kind
pub ahead_is : {k : Kind} (P : Token → Type 0) (p : Parser) → p.kind ≡ k → P (token k (between p.text.now p.at p.end)) → P (ahead p)
ahead_is P p h x = subst (λ k. P (token k (between p.text.now p.at p.end))) (sym h) x

-- how tightly a token binds that isn't of a kind

pub binds_six : (k : Kind) → binds k < 6
binds_six kinds.Or = omega arith
binds_six _ = omega arith

pub not_times : (k : Kind) → multiplies k ≡ None → binds k < 5
not_times kinds.Star h = absurd cc
not_times kinds.Slash h = absurd cc
not_times _ h = omega arith

pub not_adds : (k : Kind) → adds k ≡ None → binds k < 5 → binds k < 4
not_adds kinds.Plus h l = absurd cc
not_adds kinds.Minus h l = absurd cc
not_adds _ h l = omega arith

pub not_tested : (k : Kind) → sign_of k ≡ None → (k ≡ kinds.Is → ⊥) → binds k < 4 → binds k < 3
not_tested kinds.Is h i l = absurd (i refl)
not_tested kinds.Equal h i l = absurd cc
not_tested kinds.Unequal h i l = absurd cc
not_tested kinds.Less h i l = absurd cc
not_tested kinds.AtMost h i l = absurd cc
not_tested kinds.Greater h i l = absurd cc
not_tested kinds.AtLeast h i l = absurd cc
not_tested _ h i l = omega arith

pub not_and : (k : Kind) → (k ≡ kinds.And → ⊥) → binds k < 3 → binds k < 2
not_and kinds.And h l = absurd (h refl)
not_and _ h l = omega arith

pub not_or : (k : Kind) → (k ≡ kinds.Or → ⊥) → binds k < 2 → binds k < 1
not_or kinds.Or h l = absurd (h refl)
not_or _ h l = omega arith

pub not_opening : (k : Kind) → (k ≡ kinds.Minus → ⊥) → (k ≡ kinds.Open → ⊥) → (k ≡ kinds.Integer → ⊥) → (k ≡ kinds.Text → ⊥) → (k ≡ kinds.Name → ⊥) → (k ≡ kinds.Null → ⊥) → opens k ≡ false
not_opening kinds.Minus a b c d e f = absurd (a refl)
not_opening kinds.Open a b c d e f = absurd (b refl)
not_opening kinds.Integer a b c d e f = absurd (c refl)
not_opening kinds.Text a b c d e f = absurd (d refl)
not_opening kinds.Name a b c d e f = absurd (e refl)
not_opening kinds.Null a b c d e f = absurd (f refl)
not_opening _ a b c d e f = refl

pub level_of : (n : ℕ) → (n ≡ 0 → ⊥) → suc (n - 1) ≡ n
level_of n h = omega arith

pub none_of : {A : Type 0} (o : Option A) → ((a : A) → o ≡ Some a → ⊥) → o ≡ None
none_of None h = refl
none_of (Some a) h = absurd (h a refl)

pub lexes_kind : {k : Kind} (old mid : Parser) → old.kind ≡ k → Lexes old.text.now old.at (ahead old ∷ []) mid.at → Lexes old.text.now old.at (token k (between old.text.now old.at old.end) ∷ []) mid.at
lexes_kind old mid h l = subst (λ k. Lexes old.text.now old.at (token k (between old.text.now old.at old.end) ∷ []) mid.at) h l

-- a test is read or refused where NOT doesn't stand in front
pub neg_told : (n : ℕ) (old new : Parser) → (old.kind ≡ kinds.Not → ⊥) → Stands old.text.now old.at old.end old.kind → Stands new.text.now new.at new.end new.kind → new.text.now ≡ old.text.now
    → (result : Result Expr SqlFault) → Told tree_of Test 3 n old new result → Told tree_of Neg 3 n old new result
neg_told n old new other a b same (Ok e) told = (test_read told.0, told.1)
neg_told n old new other a b same (Err e) told =
    fails tree_of tree_of Test Neg 3 3 n n old old new (λ always r.
    subst (λ s. Refuses Neg 3 n always (token new.kind (between s new.at new.end)) old.text.now old.at new.at) (sym same)
    (test_refused other a (subst (λ s. Stands s new.at new.end new.kind) same b)
    (subst (λ s. Refuses Test 3 n always (token new.kind (between s new.at new.end)) old.text.now old.at new.at) same r))) e told

-- a signed number written and read back
pub number_again : (z : ℤ) (n : ℕ) → z ≡ pos n → n ≤ 9223372036854775807 → to_z w64 (of_z w64 z) ≡ pos n
number_again z n e h = subst (λ x. to_z w64 (of_z w64 x) ≡ pos n) (sym e) (to_z-of_z w64 (pos n) (omega arith))

-- the token at the end of a text is its last
pub ended_token : (p : Parser) → IsReady p → p.kind ≡ kinds.End → Lexes p.text.now p.at (ahead p ∷ []) p.at
ended_token p ready e = at p.kind ready.stands e where
  at : {to : ℕ} (k : Kind) → Stands p.text.now p.at to k → k ≡ kinds.End → Lexes p.text.now p.at (token k (between p.text.now p.at to) ∷ []) p.at
  at {to = to} k (spelled early a b c d) e = absurd (subst (λ k. IsSpelled k (between p.text.now p.at to)) e c)
  at k (ended early i) e = one (ended early i) (record { order = omega arith; inside = omega arith; each = λ at low high. absurd (omega arith) }) none
  at k (past p) e = absurd cc
  at k (stray p a b c) e = absurd cc

-- a refusal of a part, told of the whole: which token stands next is known
pub fails_at : {A B U T : Type 0} (u : A → U) (t : B → T) (Q : Limits → ℕ → U → List Token → List Token → Type 0) (R : Limits → ℕ → T → List Token → List Token → Type 0)
    (lq lr n : ℕ) (old mid new : Parser) → Keeps old mid → Keeps mid new
    → ((always : Bool) → Stands old.text.now new.at new.end new.kind → Refuses Q lq n always (token new.kind (between old.text.now new.at new.end)) old.text.now mid.at new.at
    → Refuses R lr n always (token new.kind (between old.text.now new.at new.end)) old.text.now old.at new.at)
    → (e : SqlFault) → Told u Q lq n mid new (Err e) → Told t R lr n old new (Err e)
fails_at u t Q R lq lr n old mid new k l err e told =
    let same = l.text ∙ k.text in
    fails u t Q R lq lr n n old mid new (λ always r.
    subst (λ s. Refuses R lr n always (token new.kind (between s new.at new.end)) old.text.now old.at new.at) (sym same)
    (err always (subst (λ s. Stands s new.at new.end new.kind) same l.ready.stands)
    (subst (λ s. Refuses Q lq n always (token new.kind (between s new.at new.end)) old.text.now mid.at new.at) same (moved_refuses old mid k r)))) e told

-- what a tail call tells, told of the whole
pub told_at : {A U T : Type 0} (u : A → U) (t : A → T) (Q : Limits → ℕ → U → List Token → List Token → Type 0) (R : Limits → ℕ → T → List Token → List Token → Type 0)
    (lq lr n : ℕ) (old mid new : Parser) → Keeps old mid → Keeps mid new
    → ((a : A) → (Reads Q n (u a) old.text.now mid.at new.at × (binds new.kind < lq)) → Reads R n (t a) old.text.now old.at new.at × (binds new.kind < lr))
    → ((always : Bool) → Stands old.text.now new.at new.end new.kind → Refuses Q lq n always (token new.kind (between old.text.now new.at new.end)) old.text.now mid.at new.at
    → Refuses R lr n always (token new.kind (between old.text.now new.at new.end)) old.text.now old.at new.at)
    → (result : Result A SqlFault) → Told u Q lq n mid new result → Told t R lr n old new result
told_at u t Q R lq lr n old mid new k l ok err (Ok a) told = ok a (moved_reads old mid k told.0, told.1)
told_at u t Q R lq lr n old mid new k l ok err (Err e) told = fails_at u t Q R lq lr n old mid new k l err e told

pub kept : (p : Parser) → IsReady p → Keeps p p
kept p ready = record { text = refl; ready = ready; forward = omega arith }
