-- How the parts of a statement that were read or refused make up the statement.
use Rattle.std.proofs.Common.{◌≡◌, ◌≢◌, ℕ, zero, suc, ◌+◌, ◌<◌, ◌≤◌, Bool, true, false, ◌&&◌, List, [], ◌∷◌, ◌++◌, ◌-◌, length, map, get_or, Option, Some, None, Result, Ok, Err, refl, sym, ◌∙◌, ap, subst, arith, append_assoc, append-nil}
use Rattle.std.proofs.lemmas.Bool.{and_parts}
use Rattle.mg_expr.specs.Trees.{Tree, Null}
use Rattle.mg_statements.specs.declared.fault.SqlFault.{SqlFault}
use Rattle.mg_statements.specs.declared.fault.SqlFault.TheVariants as faults
use Rattle.mg_sql.specs.declared.token.Kind.{Kind}
use Rattle.mg_sql.specs.declared.token.Kind.TheVariants as kinds
use Rattle.mg_sql.specs.declared.parser.Parser.{Parser}
use Rattle.mg_sql.specs.declared.parts.TheConstants.{LEVELS}
use Rattle.mg_statements.specs.declared.statement.TheConstants.{MOST_SIZE}
use Rattle.mg_sql.specs.Tokens.{Token, token, Takes}
use Rattle.mg_sql.specs.Spelling.{spelling, capitals, number}
use Rattle.mg_sql.specs.Lexing.{Lexes, none, one, Stands, spelled, ended, past, stray, between}
use Rattle.mg_sql.specs.Ends.{Ends, kind_in, binds, front_binds, opens, front_opens}
use Rattle.mg_sql.specs.Grammar.{Limits, Expr}
use Rattle.mg_sql.specs.Grammar as e
use Rattle.mg_value.specs.declared.shape.Kind.TheVariants as types
use Rattle.mg_statements.specs.Plain.{Plain, Total, Count, SetTransaction}
use Rattle.mg_sql.specs.Statements as g
use Rattle.mg_sql.specs.Statements.{Rest, Item, Of, Spells, shift, item, behind, def, keyed, unnullable, kind_of_column}
use Rattle.mg_sql.specs.Reading.{the_limits, Allows, Reads, Completes, CompletesBeyond, Refuses, Keeps, IsReady, Fails, Told, Expects, Takes_, TellsName, TellsSize, IsSize, ahead, bounded}
use Rattle.mg_sql.specs.Going.{Spelled, Derives, Goes, Never, begins_in, all_in, expression_opens, item_opens, behind_item, behind_list}
use Rattle.mg_sql.proofs.Refusing.{lexes_append, refuses_here, refuses_over, same_limits, unshift, allows_trans, fails}
use Rattle.mg_sql.proofs.Lexemes.{stands_one}
use Rattle.mg_sql.proofs.Steps.{kept_on, kept, syntax_told, long_told}
use Rattle.mg_sql.proofs.Unique.{same_kind, same_bytes, same_tail, expr_one, Same, test_opens}

-- taking a rest apart

pub record Words (most : Limits) (n : ℕ) (k : Kind) (r : Rest) (s : Plain) (ts vs : List Token) : Type 0 where
  pub bytes : List ℕ
  pub mid : List Token
  pub takes : Takes k bytes ts mid
  pub spells : Spells most n r s mid vs

pub words : {most : Limits} {n : ℕ} {k : Kind} {r : Rest} {s : Plain} {ts vs : List Token} → Spells most n (g.word k r) s ts vs → Words most n k r s ts vs
words (g.took {b = b} {us = us} t r) = record { bytes = b; mid = us; takes = t; spells = r }

pub record Names_ (most : Limits) (n : ℕ) (then_ : List ℕ → Rest) (s : Plain) (ts vs : List Token) : Type 0 where
  pub bytes : List ℕ
  pub mid : List Token
  pub takes : Takes kinds.Name bytes ts mid
  pub short : length bytes ≤ most.name
  pub spells : Spells most n (then_ (capitals bytes)) s mid vs

pub name_parts : {most : Limits} {n : ℕ} {then_ : List ℕ → Rest} {s : Plain} {ts vs : List Token} → Spells most n (g.name then_) s ts vs → Names_ most n then_ s ts vs
name_parts (g.named {b = b} {us = us} t short r) = record { bytes = b; mid = us; takes = t; short = short; spells = r }

pub record Sizes (most : Limits) (n : ℕ) (then_ : ℕ → Rest) (s : Plain) (ts vs : List Token) : Type 0 where
  pub bytes : List ℕ
  pub mid : List Token
  pub takes : Takes kinds.Integer bytes ts mid
  pub some : 1 ≤ number bytes
  pub most_ : number bytes ≤ MOST_SIZE
  pub spells : Spells most n (then_ (number bytes)) s mid vs

pub size_parts : {most : Limits} {n : ℕ} {then_ : ℕ → Rest} {s : Plain} {ts vs : List Token} → Spells most n (g.size then_) s ts vs → Sizes most n then_ s ts vs
size_parts (g.sized {b = b} {us = us} t low high r) = record { bytes = b; mid = us; takes = t; some = low; most_ = high; spells = r }

pub record Values_ (most : Limits) (n : ℕ) (within : Bool) (then_ : Tree → Rest) (s : Plain) (ts vs : List Token) : Type 0 where
  pub levels : ℕ
  pub tree : Tree
  pub mid : List Token
  pub same : n ≡ shift within levels
  pub reads : Expr most levels tree ts mid
  pub spells : Spells most n (then_ tree) s mid vs

pub value_parts : {most : Limits} {n : ℕ} {within : Bool} {then_ : Tree → Rest} {s : Plain} {ts vs : List Token} → Spells most n (g.expression within then_) s ts vs → Values_ most n within then_ s ts vs
value_parts (g.expressed m e us same x r) = record { levels = m; tree = e; mid = us; same = same; reads = x; spells = r }

pub list_parts : {most : Limits} {n : ℕ} {i : Item} {then_ : List (Of i) → Rest} {s : Plain} {ts vs : List Token} → Spells most n (g.list i then_) s ts vs → Spells most n (item i (λ x. behind i then_ (x ∷ []))) s ts vs
list_parts (g.listed r) = r

-- which rest a token of a kind turns a rest to

pub record Turns (r q : Rest) (k : Kind) : Type 0 where
  pub into : (most : Limits) (n : ℕ) (s : Plain) (ts us : List Token) → Spells most n q s ts us → Spells most n r s ts us
  pub outof : (most : Limits) (n : ℕ) (s : Plain) (ts us : List Token) → kind_in ts ≡ k → Spells most n r s ts us → Spells most n q s ts us

pub turn_none : {r : Rest} {k : Kind} → Turns r r k
turn_none = record { into = λ most n s ts us r. r; outof = λ most n s ts us e r. r }

pub turn_on : {r q p : Rest} {k : Kind} → Turns r q k → Turns q p k → Turns r p k
turn_on a b = record {
  into = λ most n s ts us r. a.into most n s ts us (b.into most n s ts us r);
  outof = λ most n s ts us e r. b.outof most n s ts us e (a.outof most n s ts us e r);
}

left_of : {most : Limits} {n : ℕ} {r q : Rest} {s : Plain} {ts us : List Token} → Spells most n (g.either r q) s ts us → (Spells most n q s ts us → ⊥) → Spells most n r s ts us
left_of (g.left x) never = x
left_of (g.right x) never = absurd (never x)

right_of : {most : Limits} {n : ℕ} {r q : Rest} {s : Plain} {ts us : List Token} → Spells most n (g.either r q) s ts us → (Spells most n r s ts us → ⊥) → Spells most n q s ts us
right_of (g.left x) never = absurd (never x)
right_of (g.right x) never = x

pub turn_left : {r q : Rest} {k : Kind} → Never q k → Turns (g.either r q) r k
turn_left never = record { into = λ most n s ts us r. g.left r; outof = λ most n s ts us e x. left_of x (λ y. never most n s ts us y e) }

pub turn_right : {r q : Rest} {k : Kind} → Never r k → Turns (g.either r q) q k
turn_right never = record { into = λ most n s ts us r. g.right r; outof = λ most n s ts us e x. right_of x (λ y. never most n s ts us y e) }

-- both may begin so
pub turn_both : {r q : Rest} {j k : Kind} → Turns (g.either (g.word j r) (g.word j q)) (g.word j (g.either r q)) k
turn_both = record { into = λ most n s ts us x. joined (words x); outof = λ most n s ts us e x. parted x } where
  joined : {r q : Rest} {j : Kind} {most : Limits} {n : ℕ} {s : Plain} {ts us : List Token} → Words most n j (g.either r q) s ts us → Spells most n (g.either (g.word j r) (g.word j q)) s ts us
  joined w = by w.takes w.spells where
    by : {r q : Rest} {j : Kind} {most : Limits} {n : ℕ} {s : Plain} {b : List ℕ} {ts us vs : List Token} → Takes j b ts us → Spells most n (g.either r q) s us vs → Spells most n (g.either (g.word j r) (g.word j q)) s ts vs
    by t (g.left x) = g.left (g.took t x)
    by t (g.right x) = g.right (g.took t x)

  parted : {r q : Rest} {j : Kind} {most : Limits} {n : ℕ} {s : Plain} {ts us : List Token} → Spells most n (g.either (g.word j r) (g.word j q)) s ts us → Spells most n (g.word j (g.either r q)) s ts us
  parted (g.left x) = let w = words x in g.took w.takes (g.left w.spells)
  parted (g.right x) = let w = words x in g.took w.takes (g.right w.spells)

pub turn_in_left : {r q p : Rest} {k : Kind} → Turns r q k → Turns (g.either r p) (g.either q p) k
turn_in_left t = record { into = λ most n s ts us x. in_ t x; outof = λ most n s ts us e x. out t e x } where
  in_ : {r q p : Rest} {k : Kind} {most : Limits} {n : ℕ} {s : Plain} {ts us : List Token} → Turns r q k → Spells most n (g.either q p) s ts us → Spells most n (g.either r p) s ts us
  in_ t (g.left x) = g.left (t.into _ _ _ _ _ x)
  in_ t (g.right x) = g.right x

  out : {r q p : Rest} {k : Kind} {most : Limits} {n : ℕ} {s : Plain} {ts us : List Token} → Turns r q k → kind_in ts ≡ k → Spells most n (g.either r p) s ts us → Spells most n (g.either q p) s ts us
  out t e (g.left x) = g.left (t.outof _ _ _ _ _ e x)
  out t e (g.right x) = g.right x

pub turn_in_right : {r q p : Rest} {k : Kind} → Turns r q k → Turns (g.either p r) (g.either p q) k
turn_in_right t = record { into = λ most n s ts us x. in_ t x; outof = λ most n s ts us e x. out t e x } where
  in_ : {r q p : Rest} {k : Kind} {most : Limits} {n : ℕ} {s : Plain} {ts us : List Token} → Turns r q k → Spells most n (g.either p q) s ts us → Spells most n (g.either p r) s ts us
  in_ t (g.left x) = g.left x
  in_ t (g.right x) = g.right (t.into _ _ _ _ _ x)

  out : {r q p : Rest} {k : Kind} {most : Limits} {n : ℕ} {s : Plain} {ts us : List Token} → Turns r q k → kind_in ts ≡ k → Spells most n (g.either p r) s ts us → Spells most n (g.either p q) s ts us
  out t e (g.left x) = g.left x
  out t e (g.right x) = g.right (t.outof _ _ _ _ _ e x)

pub turn_list : {i : Item} {then_ : List (Of i) → Rest} {k : Kind} → Turns (g.list i then_) (item i (λ x. behind i then_ (x ∷ []))) k
turn_list = record { into = λ most n s ts us x. g.listed x; outof = λ most n s ts us e x. list_parts x }

-- with which tokens a rest never begins

pub never_word : {j k : Kind} {r : Rest} → k ≢ j → Never (g.word j r) k
never_word other most n s ts us x e = let w = words x in other (sym e ∙ ap kind_in w.takes)

pub never_either : {r q : Rest} {k : Kind} → Never r k → Never q k → Never (g.either r q) k
never_either a b most n s ts us (g.left x) e = a most n s ts us x e
never_either a b most n s ts us (g.right x) e = b most n s ts us x e

pub never_name : {then_ : List ℕ → Rest} {k : Kind} → k ≢ kinds.Name → Never (g.name then_) k
never_name other most n s ts us x e = let w = name_parts x in other (sym e ∙ ap kind_in w.takes)

pub never_size : {then_ : ℕ → Rest} {k : Kind} → k ≢ kinds.Integer → Never (g.size then_) k
never_size other most n s ts us x e = let w = size_parts x in other (sym e ∙ ap kind_in w.takes)

pub never_finish : {s : Plain} {k : Kind} → k ≢ kinds.Semicolon → k ≢ kinds.End → Never (g.finish s) k
never_finish a b most n s ts us (g.finished t) e = b (sym e ∙ ap kind_in t)
never_finish a b most n s ts us (g.closed t u) e = a (sym e ∙ ap kind_in t)

-- the first of some tokens is the one that stands where they begin
front_kind : {text : List ℕ} {from to e f : ℕ} {j k : Kind} {front : List Token} (us : List Token)
    → Lexes text from front to → Stands text from e j → Stands text to f k → kind_in us ≡ k → kind_in (front ++ us) ≡ j
front_kind us none a b e = e ∙ stands_one b a
front_kind us (one c g l) a b e = stands_one c a

-- from one place to another

pub derives_on : {r q p : Rest} {a b c : Parser} → Derives r q a b → Derives q p b c → Derives r p a c
derives_on {a = a} {b = b} {c = c} x y =
    let stands = subst (λ s. Stands s c.at c.end c.kind) y.keeps.text y.keeps.ready.stands in record {
      keeps = kept_on a b c x.keeps y.keeps;
      front = x.front ++ y.front;
      lexes = lexes_append x.lexes (subst (λ s. Lexes s b.at y.front c.at) x.keeps.text y.lexes);
      into = λ most n s us vs allows high d. rw append_assoc (x.into most n s (y.front ++ us) vs allows high (y.into most n s us vs allows high d));
      outof = λ most n s us vs e d. y.outof most n s us vs e
          (x.outof most n s (y.front ++ us) vs (front_kind us y.lexes x.keeps.ready.stands stands e) (rw append_assoc at d));
    }

refuses_on : {r q : Rest} {a b c : Parser} {always : Bool} → Derives r q a b → Keeps b c
    → Refuses (Spelled q) 6 LEVELS always (ahead c) b.text.now b.at c.at → Refuses (Spelled r) 6 LEVELS always (ahead c) a.text.now a.at c.at
refuses_on {a = a} {b = b} {c = c} x keeps f =
    let stands = subst (λ s. Stands s c.at c.end c.kind) keeps.text keeps.ready.stands in record {
      front = x.front ++ f.front;
      lexes = lexes_append x.lexes (subst (λ s. Lexes s b.at f.front c.at) x.keeps.text f.lexes);
      viable = record {
        tree = f.viable.tree;
        more = f.viable.more;
        reads = λ most m rest allows high. rw append_assoc (x.into most m f.viable.tree (f.front ++ (f.viable.more ++ rest)) rest allows high (f.viable.reads most m rest allows high));
      };
      blocked = λ most m t more rest within ends d. f.blocked most m t more rest within ends
          (x.outof most m t (f.front ++ ahead c ∷ more) rest (front_kind (ahead c ∷ more) f.lexes x.keeps.ready.stands stands refl) (rw append_assoc at d));
      allowed = λ h. let beyond = f.allowed h in record {
        least = beyond.least;
        levels = beyond.levels;
        allows = beyond.allows;
        deeper = beyond.deeper;
        completes = record {
          tree = beyond.completes.tree;
          more = beyond.completes.more;
          reads = λ most m rest allows high. rw append_assoc (rw append_assoc (x.into most m beyond.completes.tree _ rest
              (allows_trans most beyond.least the_limits allows beyond.allows) (omega (arith, beyond.deeper, high))
              (rw append_assoc at (beyond.completes.reads most m rest allows high))));
        };
      };
    }

pub fails_on : {r q : Rest} {a b c : Parser} → Derives r q a b → Keeps b c → (e : SqlFault) → Fails (Spelled q) 6 LEVELS b c e → Fails (Spelled r) 6 LEVELS a c e
fails_on x keeps (faults.Syntax at) f = (f.0, refuses_on x keeps f.1)
fails_on x keeps (faults.NameTooLong at) f = (f.0, f.1, refuses_on x keeps f.2)
fails_on x keeps (faults.NumberTooLarge at) f = (f.0, f.1, refuses_on x keeps f.2)
fails_on x keeps (faults.TooDeep at) f = (f.0, f.1, refuses_on x keeps f.2)
fails_on x keeps faults.Memory f = tt

-- what a tail call tells
pub goes_on : {A X : Type 0} (view : A → X) {r q : Rest} (then_ : X → Rest) {a b c : Parser} → Derives r q a b → Keeps b c
    → (result : Result A SqlFault) → Goes view q then_ b c result → Goes view r then_ a c result
goes_on view then_ x keeps (Ok y) d = derives_on x d
goes_on view then_ x keeps (Err e) f = fails_on x keeps e f

pub turned : {r q : Rest} {p : Parser} → IsReady p → Turns r q p.kind → Derives r q p p
turned {p = p} ready t = record {
  keeps = kept p ready;
  front = [];
  lexes = none;
  into = λ most n s us vs allows high d. t.into most n s us vs d;
  outof = λ most n s us vs e d. t.outof most n s us vs e d;
}

-- one token was read

abbrev rest_of : List Token → List Token
rest_of [] = []
rest_of (t ∷ ts) = ts

abbrev bytes_of : List Token → List ℕ
bytes_of [] = []
bytes_of (t ∷ ts) = t.bytes

pub tails : {x y : Token} {us vs : List Token} → x ∷ us ≡ y ∷ vs → us ≡ vs
tails e = ap rest_of e

heads : {x y : Token} {us vs : List Token} → x ∷ us ≡ y ∷ vs → x.bytes ≡ y.bytes
heads e = ap bytes_of e

pub is_token : {k : Kind} (p : Parser) (us : List Token) → p.kind ≡ k → Takes k (ahead p).bytes (ahead p ∷ us) us
is_token p us same = λ i. token (same i) (ahead p).bytes ∷ us

pub word_read : {k : Kind} {r : Rest} (old mid : Parser) → Keeps old mid → old.kind ≡ k → Lexes old.text.now old.at (ahead old ∷ []) mid.at → Derives (g.word k r) r old mid
word_read {r = r} old mid keeps same lexes = record {
  keeps = keeps;
  front = ahead old ∷ [];
  lexes = lexes;
  into = λ most n s us vs allows high d. g.took (is_token old us same) d;
  outof = λ most n s us vs e x. let w = words x in subst (λ ts. Spells most n r s ts vs) (sym (tails w.takes)) w.spells;
}

pub name_read : {then_ : List ℕ → Rest} (old mid : Parser) (name : List ℕ) → Keeps old mid → old.kind ≡ kinds.Name
    → name ≡ capitals (ahead old).bytes → length (ahead old).bytes ≤ 31 → Lexes old.text.now old.at (ahead old ∷ []) mid.at → Derives (g.name then_) (then_ name) old mid
name_read {then_ = then_} old mid name keeps same is short lexes = record {
  keeps = keeps;
  front = ahead old ∷ [];
  lexes = lexes;
  into = λ most n s us vs allows high d. g.named (is_token old us same) (omega (arith, allows.name)) (subst (λ w. Spells most n (then_ w) s us vs) is d);
  outof = λ most n s us vs e x. let w_ = name_parts x in
      subst (λ ts. Spells most n (then_ name) s ts vs) (sym (tails w_.takes))
      (subst (λ w. Spells most n (then_ w) s w_.mid vs) (ap capitals (sym (heads w_.takes)) ∙ sym is) w_.spells);
}

pub size_read : {then_ : ℕ → Rest} (old mid : Parser) (size : ℕ) → Keeps old mid → old.kind ≡ kinds.Integer
    → size ≡ number (ahead old).bytes → IsSize size → Lexes old.text.now old.at (ahead old ∷ []) mid.at → Derives (g.size then_) (then_ size) old mid
size_read {then_ = then_} old mid size keeps same is fits lexes = record {
  keeps = keeps;
  front = ahead old ∷ [];
  lexes = lexes;
  into = λ most n s us vs allows high d. g.sized (is_token old us same) (omega (arith, is, fits.0)) (omega (arith, is, fits.1)) (subst (λ w. Spells most n (then_ w) s us vs) is d);
  outof = λ most n s us vs e x. let w_ = size_parts x in
      subst (λ ts. Spells most n (then_ size) s ts vs) (sym (tails w_.takes))
      (subst (λ w. Spells most n (then_ w) s w_.mid vs) (ap number (sym (heads w_.takes)) ∙ sym is) w_.spells);
}

-- each rest can be gone on with

abbrev Open : Rest → Type 0
Open r = Completes (Spelled r) the_limits LEVELS []

open_word : {k : Kind} {r : Rest} → Open r → Open (g.word k r)
open_word {k = k} c = record { tree = c.tree; more = token k (spelling k) ∷ c.more; reads = λ most m rest allows high. g.took refl (c.reads most m rest allows high) }

open_left : {r q : Rest} → Open r → Open (g.either r q)
open_left c = record { tree = c.tree; more = c.more; reads = λ most m rest allows high. g.left (c.reads most m rest allows high) }

open_right : {r q : Rest} → Open q → Open (g.either r q)
open_right c = record { tree = c.tree; more = c.more; reads = λ most m rest allows high. g.right (c.reads most m rest allows high) }

open_name : {then_ : List ℕ → Rest} → ((w : List ℕ) → Open (then_ w)) → Open (g.name then_)
open_name h = let c = h (capitals (65 ∷ [])) in
    record { tree = c.tree; more = token kinds.Name (65 ∷ []) ∷ c.more; reads = λ most m rest allows high. g.named refl (omega (arith, allows.name)) (c.reads most m rest allows high) }

open_size : {then_ : ℕ → Rest} → ((w : ℕ) → Open (then_ w)) → Open (g.size then_)
open_size h = let c = h (number (49 ∷ [])) in
    record { tree = c.tree; more = token kinds.Integer (49 ∷ []) ∷ c.more; reads = λ most m rest allows high. g.sized refl (omega arith) (omega arith) (c.reads most m rest allows high) }

low_shift : (within : Bool) → shift within 31 ≤ 32
low_shift false = omega arith
low_shift true = omega arith

null_expr : {most : Limits} {n : ℕ} {b : List ℕ} {us : List Token} → Expr most n Null (token kinds.Null b ∷ us) us
null_expr = e.expr (e.conj (e.test (e.test_ (e.sum (e.term (e.null refl) e.no_time) e.no_add) e.alone)) e.no_and) e.no_or

open_expression : {within : Bool} {then_ : Tree → Rest} → ((t : Tree) → Open (then_ t)) → Open (g.expression within then_)
open_expression {within = within} h = let c = h Null in
    record {
      tree = c.tree;
      more = token kinds.Null (spelling kinds.Null) ∷ c.more;
      reads = λ most m rest allows high.
          let u = unshift within 31 m (omega (arith, low_shift within, high)) in
          g.expressed u.levels Null (c.more ++ rest) u.same null_expr (c.reads most m rest allows high);
    }

open_item : (i : Item) (then_ : Of i → Rest) → ((x : Of i) → Open (then_ x)) → Open (item i then_)
open_item g.names then_ h = open_name h
open_item (g.expressions within) then_ h = open_expression h
open_item g.assignments then_ h = open_name (λ column. open_word (open_expression (λ v. h (column, v))))
open_item g.definitions then_ h = open_name (λ column. open_left (open_word (open_right (open_right (h (def column types.Int false false))))))
open_item g.totals then_ h = open_left (open_word (open_word (open_word (open_word (h Count)))))

open_list : {i : Item} {then_ : List (Of i) → Rest} → Open (item i (λ x. behind i then_ (x ∷ []))) → Open (g.list i then_)
open_list c = record { tree = c.tree; more = c.more; reads = λ most m rest allows high. g.listed (c.reads most m rest allows high) }

pub open_ : (r : Rest) → Open r
open_ (g.finish s) = record { tree = s; more = token kinds.End [] ∷ []; reads = λ most m rest allows high. g.finished refl }
open_ (g.word k r) = open_word (open_ r)
open_ (g.either r q) = open_left (open_ r)
open_ (g.name then_) = open_name (λ w. open_ (then_ w))
open_ (g.size then_) = open_size (λ w. open_ (then_ w))
open_ (g.expression within then_) = open_expression (λ t. open_ (then_ t))
open_ (g.list i then_) = open_list (open_item i _ (λ x. open_right (open_ (then_ (x ∷ [])))))

-- an expression was read or refused

pub ends_by : (us : List Token) {k : Kind} → kind_in us ≡ k → binds k < 1 → Ends 1 us
ends_by [] e h = omega arith
ends_by (t ∷ us) e h = subst (λ k. binds k < 1) (sym e) h

pub weak : (k : Kind) → behind_item k ≡ true → binds k < 1
weak kinds.Or h = absurd cc
weak kinds.And h = absurd cc
weak kinds.Is h = absurd cc
weak kinds.Equal h = absurd cc
weak kinds.Unequal h = absurd cc
weak kinds.Less h = absurd cc
weak kinds.AtMost h = absurd cc
weak kinds.Greater h = absurd cc
weak kinds.AtLeast h = absurd cc
weak kinds.Plus h = absurd cc
weak kinds.Minus h = absurd cc
weak kinds.Star h = absurd cc
weak kinds.Slash h = absurd cc
weak _ h = omega arith

among : (test : Kind → Bool) (ks : List Kind) (i : ℕ) → all_in test ks ≡ true → i < length ks → test (get_or ks i kinds.End) ≡ true
among test [] i all low = absurd (omega arith)
among test (k ∷ ks) zero all low = (and_parts (test k) (all_in test ks) all).0
among test (k ∷ ks) (suc i) all low = among test ks i (and_parts (test k) (all_in test ks) all).1 (omega arith)

opening : (test : Kind → Bool) → all_in test expression_opens ≡ true → (k : Kind) → opens k ≡ true → test k ≡ true
opening test all kinds.Minus h = among test expression_opens 1 all (omega arith)
opening test all kinds.Open h = among test expression_opens 2 all (omega arith)
opening test all kinds.Integer h = among test expression_opens 3 all (omega arith)
opening test all kinds.Text h = among test expression_opens 4 all (omega arith)
opening test all kinds.Null h = among test expression_opens 5 all (omega arith)
opening test all kinds.Name h = among test expression_opens 6 all (omega arith)
opening test all _ h = absurd cc

first_opens : (ts : List Token) → front_opens ts ≡ true → opens (kind_in ts) ≡ true
first_opens [] h = absurd cc
first_opens (t ∷ ts) h = h

-- with which tokens an expression begins
expr_opens : {most : Limits} {n : ℕ} {t : Tree} {ts us : List Token} (test : Kind → Bool) → all_in test expression_opens ≡ true → Expr most n t ts us → test (kind_in ts) ≡ true
expr_opens test all (e.expr (e.conj (e.not i f) more) others) = ap (λ ts. test (kind_in ts)) i ∙ among test expression_opens 0 all (omega arith)
expr_opens test all (e.expr (e.conj (e.test f) more) others) = opening test all _ (first_opens _ (test_opens f))

taken : (test : Kind → Bool) {k : Kind} {b : List ℕ} {ts us : List Token} → Takes k b ts us → test k ≡ true → test (kind_in ts) ≡ true
taken test t h = ap (λ ts. test (kind_in ts)) t ∙ h

-- a rest begins with one of the tokens that pass the test
pub begins : (test : Kind → Bool) (r : Rest) {most : Limits} {n : ℕ} {s : Plain} {ts us : List Token} → begins_in test r ≡ true → Spells most n r s ts us → test (kind_in ts) ≡ true
begins test (g.finish s) all (g.finished t) = taken test t (among test (kinds.Semicolon ∷ kinds.End ∷ []) 1 all (omega arith))
begins test (g.finish s) all (g.closed t u) = taken test t (among test (kinds.Semicolon ∷ kinds.End ∷ []) 0 all (omega arith))
begins test (g.word k r) all x = taken test (words x).takes all
begins test (g.either r q) all (g.left x) = begins test r (and_parts (begins_in test r) (begins_in test q) all).0 x
begins test (g.either r q) all (g.right x) = begins test q (and_parts (begins_in test r) (begins_in test q) all).1 x
begins test (g.name then_) all x = taken test (name_parts x).takes all
begins test (g.size then_) all x = taken test (size_parts x).takes all
begins test (g.expression within then_) all x = expr_opens test all (value_parts x).reads
begins test (g.list g.names then_) all x = taken test (name_parts (list_parts x)).takes (among test (kinds.Name ∷ []) 0 all (omega arith))
begins test (g.list (g.expressions within) then_) all x = expr_opens test all (value_parts (list_parts x)).reads
begins test (g.list g.assignments then_) all x = taken test (name_parts (list_parts x)).takes (among test (kinds.Name ∷ []) 0 all (omega arith))
begins test (g.list g.definitions then_) all x = taken test (name_parts (list_parts x)).takes (among test (kinds.Name ∷ []) 0 all (omega arith))
begins test (g.list g.totals then_) all x = of_total (list_parts x) where
  of_total : {r q : Rest} {most : Limits} {n : ℕ} {s : Plain} {ts us : List Token} → Spells most n (g.either (g.word kinds.Count r) (g.word kinds.Sum q)) s ts us → test (kind_in ts) ≡ true
  of_total (g.left x) = taken test (words x).takes (among test (kinds.Count ∷ kinds.Sum ∷ []) 0 all (omega arith))
  of_total (g.right x) = taken test (words x).takes (among test (kinds.Count ∷ kinds.Sum ∷ []) 1 all (omega arith))

-- and so with no other one
pub never_by : (test : Kind → Bool) {k : Kind} (r : Rest) → begins_in test r ≡ true → test k ≡ false → Never r k
never_by test r all not_k most n s ts us x e = let h = begins test r all x in let l = sym (ap test e) ∙ h in let m = sym l ∙ not_k in absurd cc

all_more : (test other : Kind → Bool) → ((k : Kind) → test k ≡ true → other k ≡ true) → (ks : List Kind) → all_in test ks ≡ true → all_in other ks ≡ true
all_more test other more [] all = refl
all_more test other more (k ∷ ks) all = let p = and_parts (test k) (all_in test ks) all in rw (more k p.0, all_more test other more ks p.1) refl

begins_more : (test other : Kind → Bool) → ((k : Kind) → test k ≡ true → other k ≡ true) → (r : Rest) → begins_in test r ≡ true → begins_in other r ≡ true
begins_more test other more (g.finish s) all = all_more test other more (kinds.Semicolon ∷ kinds.End ∷ []) all
begins_more test other more (g.word k r) all = more k all
begins_more test other more (g.either r q) all = let p = and_parts (begins_in test r) (begins_in test q) all in
    rw (begins_more test other more r p.0, begins_more test other more q p.1) refl
begins_more test other more (g.name then_) all = more kinds.Name all
begins_more test other more (g.size then_) all = more kinds.Integer all
begins_more test other more (g.expression within then_) all = all_more test other more expression_opens all
begins_more test other more (g.list i then_) all = all_more test other more (item_opens i) all

item_more : (k : Kind) → behind_list k ≡ true → behind_item k ≡ true
item_more kinds.Comma h = refl
item_more _ h = h

pub behind_more : (r : Rest) → begins_in behind_list r ≡ true → begins_in behind_item r ≡ true
behind_more r all = begins_more behind_list behind_item item_more r all

pub expression_read : {within : Bool} (then_ : Tree → Rest) (levels : ℕ) (old new : Parser) (t : Tree) → ((t : Tree) → begins_in behind_item (then_ t) ≡ true) → shift within levels ≡ LEVELS → Keeps old new
    → Reads Expr levels t old.text.now old.at new.at → Ends 1 (ahead new ∷ []) → Derives (g.expression within then_) (then_ t) old new
expression_read {within = within} then_ levels old new t closes enough keeps reads ends = record {
  keeps = keeps;
  front = reads.front;
  lexes = reads.lexes;
  into = λ most n s us vs allows high d. let u = unshift within levels n (omega (arith, enough, high)) in
      g.expressed u.levels t us u.same (reads.reads most u.levels us allows u.enough) d;
  outof = λ most n s us vs e x. let w = value_parts x in
      let same = expr_one (reads.reads the_limits levels us same_limits (omega arith)) w.reads refl (ends_by us e ends)
      (ends_by w.mid refl (weak (kind_in w.mid) (begins behind_item (then_ w.tree) (closes w.tree) w.spells))) in
      subst (λ z. Spells most n (then_ z) s us vs) (sym same.one) (subst (λ ts. Spells most n (then_ w.tree) s ts vs) (sym same.rest) w.spells);
}

refuses_expression : {within : Bool} (then_ : Tree → Rest) (levels : ℕ) {text : List ℕ} {from to : ℕ} {always : Bool} {x : Token} → ((t : Tree) → begins_in behind_item (then_ t) ≡ true) → shift within levels ≡ LEVELS
    → Refuses Expr 1 levels always x text from to → Refuses (Spelled (g.expression within then_)) 6 LEVELS always x text from to
refuses_expression {within = within} then_ levels {x = x} closes enough f = record {
  front = f.front;
  lexes = f.lexes;
  viable = record {
    tree = (open_ (then_ f.viable.tree)).tree;
    more = f.viable.more ++ (open_ (then_ f.viable.tree)).more;
    reads = λ most m rest allows high. let u = unshift within levels m (omega (arith, enough, high)) in
        let c = open_ (then_ f.viable.tree) in
        g.expressed u.levels f.viable.tree (c.more ++ rest) u.same
        (rw append_assoc (f.viable.reads most u.levels (c.more ++ rest) allows u.enough)) (c.reads most m rest allows high);
  };
  blocked = λ most m t more rest within_ ends d. let w = value_parts d in
      f.blocked most w.levels w.tree more w.mid (λ h. let l = within_ h in (l.0, narrower within w.levels levels (omega (arith, ap (λ n. n) w.same, enough, l.1))))
      (ends_by w.mid refl (weak (kind_in w.mid) (begins behind_item (then_ w.tree) (closes w.tree) w.spells))) w.reads;
  allowed = λ h. let b = f.allowed h in let c = open_ (then_ b.completes.tree) in record {
    least = b.least;
    levels = shift within b.levels;
    allows = b.allows;
    deeper = omega (arith, enough, wider within levels b.levels b.deeper);
    completes = record {
      tree = c.tree;
      more = b.completes.more ++ c.more;
      reads = λ most m rest allows high. let u = unshift within b.levels m high in
          g.expressed u.levels b.completes.tree (c.more ++ rest) u.same
          (subst (λ z. Expr most u.levels b.completes.tree ((f.front ++ x ∷ []) ++ z) (c.more ++ rest)) (sym (append_assoc b.completes.more c.more rest))
          (b.completes.reads most u.levels (c.more ++ rest) allows u.enough))
          (c.reads most m rest (allows_trans most b.least the_limits allows b.allows) (omega (arith, high, enough, wider within levels b.levels b.deeper)));
    };
  };
} where
  wider : (within : Bool) (n m : ℕ) → n ≤ m → shift within n ≤ shift within m
  wider false n m h = h
  wider true n m h = omega arith

  narrower : (within : Bool) (n m : ℕ) → shift within n ≤ shift within m → n ≤ m
  narrower false n m h = h
  narrower true n m h = omega arith

pub expression_fails : (within : Bool) (then_ : Tree → Rest) (levels : ℕ) (old new : Parser) → ((t : Tree) → begins_in behind_item (then_ t) ≡ true) → shift within levels ≡ LEVELS
    → (e : SqlFault) → Fails Expr 1 levels old new e → Fails (Spelled (g.expression within then_)) 6 LEVELS old new e
expression_fails within then_ levels old new closes enough e f =
    fails (λ (t : Tree). t) (λ (s : Plain). s) Expr (Spelled (g.expression within then_)) 1 6 levels LEVELS old old new (λ always r. refuses_expression then_ levels closes enough r) e f

-- a token was refused

pub wrong : {r : Rest} (p : Parser) (e : SqlFault) → Never r p.kind → e ≡ faults.Syntax (bounded p.at) → Fails (Spelled r) 6 LEVELS p p e
wrong {r = r} p e never is = syntax_told (λ (s : Plain). s) (Spelled r) 6 LEVELS p p e is
    (refuses_here (Spelled r) 6 LEVELS (open_ r) (λ most m t more rest ends x. never most m t (ahead p ∷ more) rest x refl))

pub word_wrong : {k : Kind} (r : Rest) (old new : Parser) (e : SqlFault) → Expects k old new (Err e) → Fails (Spelled (g.word k r)) 6 LEVELS old new e
word_wrong {k = k} r old new e told = subst (λ p. Fails (Spelled (g.word k r)) 6 LEVELS old p e) (sym told.2) (wrong old e (never_word told.1) told.0)

pub name_long : (then_ : List ℕ → Rest) (old new : Parser) (e : SqlFault) → old.kind ≡ kinds.Name → TellsName old new (Err e) → Fails (Spelled (g.name then_)) 6 LEVELS old new e
name_long then_ old new e same told = subst (λ p. Fails (Spelled (g.name then_)) 6 LEVELS old p e) (sym told.2)
    (long_told (λ (s : Plain). s) (Spelled (g.name then_)) 6 LEVELS old e told.0 same (refuses_over (Spelled (g.name then_)) 6 LEVELS (open_ (g.name then_))
    (λ most m t more rest a high ends d. let w = name_parts d in omega (arith, ap length (heads w.takes), a.name, w.short, told.1))
    (let c = open_ (then_ (capitals (ahead old).bytes)) in record {
      least = record { name = length (ahead old).bytes; number = 9223372036854775807 };
      levels = LEVELS;
      allows = record { name = omega (arith, told.1); number = omega arith };
      deeper = omega arith;
      completes = record {
        tree = c.tree;
        more = c.more;
        reads = λ most m rest allows high.
            g.named (is_token old _ same) allows.name
            (c.reads most m rest (record { name = omega (arith, told.1, allows.name); number = allows.number }) high);
      };
    })))

pub size_wrong : (then_ : ℕ → Rest) (old new : Parser) (e : SqlFault) → TellsSize old new (Err e) → Fails (Spelled (g.size then_)) 6 LEVELS old new e
size_wrong then_ old new e told = subst (λ p. Fails (Spelled (g.size then_)) 6 LEVELS old p e) (sym told.2)
    (syntax_told (λ (s : Plain). s) (Spelled (g.size then_)) 6 LEVELS old old e told.0
    (refuses_here (Spelled (g.size then_)) 6 LEVELS (open_ (g.size then_)) (λ most m t more rest ends d. let w = size_parts d in
    told.1 (subst (λ b. IsSize (number b)) (sym (heads w.takes)) (w.some, w.most_)))))

-- words that were asked for, or that may be absent

pub expected : {k : Kind} {r : Rest} (old new : Parser) → Keeps old new → Expects k old new (Ok tt) → Derives (g.word k r) r old new
expected old new keeps told = word_read old new keeps told.0 told.1

pub taken_word : {k : Kind} {r : Rest} (old new : Parser) → Keeps old new → Takes_ k old new true → Derives (g.word k r) r old new
taken_word old new keeps told = word_read old new keeps told.0 told.1

-- the word stood there, and the other way does not begin so
pub took_left : {k : Kind} {r q : Rest} (old new : Parser) → IsReady old → Keeps old new → Takes_ k old new true → Never q k → Derives (g.either (g.word k r) q) r old new
took_left {k = k} {r = r} {q = q} old new ready keeps told never = derives_on (turned ready (turn_left (subst (λ j. Never q j) (sym told.0) never))) (taken_word old new keeps told)

-- it did not stand there
pub passed : {k : Kind} {r q : Rest} (old new : Parser) → IsReady old → Takes_ k old new false → Derives (g.either (g.word k r) q) q old new
passed {k = k} {r = r} {q = q} old new ready told = subst (λ p. Derives (g.either (g.word k r) q) q old p) (sym told.1) (turned ready (turn_right (never_word told.0)))

pub optional_read : {k : Kind} {r : Rest} (old new : Parser) → IsReady old → Keeps old new → Never r k → (b : Bool) → Takes_ k old new b → Derives (g.optional k r) r old new
optional_read old new ready keeps never true told = took_left old new ready keeps told never
optional_read old new ready keeps never false told = passed old new ready told

pub passed_ready : {k : Kind} (old new : Parser) → IsReady old → Takes_ k old new false → IsReady new
passed_ready old new ready told = subst (λ p. IsReady p) (sym told.1) ready

-- the word of the second way did not stand there
pub passed_right : {k : Kind} {r q : Rest} (old new : Parser) → IsReady old → Takes_ k old new false → Derives (g.either r (g.word k q)) r old new
passed_right {k = k} {r = r} {q = q} old new ready told = subst (λ p. Derives (g.either r (g.word k q)) r old p) (sym told.1) (turned ready (turn_left (never_word told.0)))

pub desc_read : (then_ : Bool → Rest) (old new : Parser) → IsReady old → Keeps old new → Never (then_ false) kinds.Desc → (b : Bool) → Takes_ kinds.Desc old new b
    → Derives (g.either (g.word kinds.Desc (then_ true)) (then_ false)) (then_ b) old new
desc_read then_ old new ready keeps never true told = took_left old new ready keeps told never
desc_read then_ old new ready keeps never false told = passed old new ready told

-- where READ stands, and no access was given, it begins the isolation
pub modes_at_read : Turns (g.modes false) (g.word kinds.Read (g.word kinds.Committed (g.finish (SetTransaction false true false)))) kinds.Read
modes_at_read =
    turn_on (turn_right (never_word (λ e. absurd cc))) (turn_on (turn_right (never_word (λ e. absurd cc)))
    (turn_on (turn_right (never_word (λ e. absurd cc))) (turn_on (turn_left (never_finish (λ e. absurd cc) (λ e. absurd cc)))
    (turn_right (never_word (λ e. absurd cc))))))

-- READ stood behind SET TRANSACTION: what follows may end the access, or the isolation
pub read_taken : (old new : Parser) → IsReady old → Keeps old new → Takes_ kinds.Read old new true → Derives (g.access g.modes) g.behind_read old new
read_taken old new ready keeps told = derives_on (turned ready (turn_on (turn_in_right at_read) turn_both)) (taken_word old new keeps told) where
  at_read : Turns (g.modes false) (g.word kinds.Read (g.word kinds.Committed (g.finish (SetTransaction false true false)))) old.kind
  at_read = subst (λ k. Turns (g.modes false) (g.word kinds.Read (g.word kinds.Committed (g.finish (SetTransaction false true false)))) k) (sym told.0) modes_at_read

abbrev pub no_star : Kind → Bool
no_star kinds.Star = false
no_star _ = true

-- what begins no list of totals but may begin other results
abbrev pub no_totals : Kind → Bool
no_totals kinds.Count = false
no_totals kinds.Sum = false
no_totals _ = true

abbrev pub of_totals : Kind → Bool
of_totals kinds.Count = true
of_totals kinds.Sum = true
of_totals _ = false

other_total : (k : Kind) → k ≢ kinds.Count → k ≢ kinds.Sum → of_totals k ≡ false
other_total kinds.Count a b = absurd (a refl)
other_total kinds.Sum a b = absurd (b refl)
other_total _ a b = refl

pub never_totals : (then_ : List Total → Rest) (k : Kind) → k ≢ kinds.Count → k ≢ kinds.Sum → Never (g.list g.totals then_) k
never_totals then_ k a b = never_by of_totals (g.list g.totals then_) refl (other_total k a b)

-- lists

pub list_first : (i : Item) (then_ : List (Of i) → Rest) (x : Of i) (old new : Parser) → IsReady old
    → Derives (item i (λ x. behind i then_ (x ∷ []))) (behind i then_ (x ∷ [])) old new → Derives (g.list i then_) (behind i then_ (x ∷ [])) old new
list_first i then_ x old new ready d = derives_on (turned ready turn_list) d

pub first_fails : (i : Item) (then_ : List (Of i) → Rest) (old new : Parser) → IsReady old → Keeps old new → (e : SqlFault)
    → Fails (Spelled (item i (λ x. behind i then_ (x ∷ [])))) 6 LEVELS old new e → Fails (Spelled (g.list i then_)) 6 LEVELS old new e
first_fails i then_ old new ready keeps e f = fails_on (turned ready turn_list) keeps e f

-- behind an item stands a comma or what follows the list
pub item_closes : (i : Item) (then_ : List (Of i) → Rest) (xs : List (Of i)) → begins_in behind_list (then_ xs) ≡ true → begins_in behind_item (behind i then_ xs) ≡ true
item_closes i then_ xs closes = rw (behind_more (then_ xs) closes) refl

-- a further item is to come behind a comma
pub list_comma : (i : Item) (then_ : List (Of i) → Rest) (xs : List (Of i)) (start old new : Parser) → Keeps old new → Takes_ kinds.Comma old new true
    → begins_in behind_list (then_ xs) ≡ true → Derives (g.list i then_) (behind i then_ xs) start old
    → Derives (g.list i then_) (item i (λ x. behind i (λ ys. then_ (xs ++ ys)) (x ∷ []))) start new
list_comma i then_ xs start old new keeps told closes d =
    derives_on (derives_on d (took_left old new d.keeps.ready keeps told (never_by behind_list (then_ xs) closes refl))) (turned keeps.ready turn_list)

pub list_next : (i : Item) (then_ : List (Of i) → Rest) (xs : List (Of i)) (x : Of i) (start mid new : Parser)
    → Derives (g.list i then_) (item i (λ x. behind i (λ ys. then_ (xs ++ ys)) (x ∷ []))) start mid
    → Derives (item i (λ x. behind i (λ ys. then_ (xs ++ ys)) (x ∷ []))) (behind i (λ ys. then_ (xs ++ ys)) (x ∷ [])) mid new
    → Derives (g.list i then_) (behind i then_ (xs ++ x ∷ [])) start new
list_next i then_ xs x start mid new a b =
    subst (λ r. Derives (g.list i then_) r start new)
    (λ j. g.either (g.word kinds.Comma (g.list i (λ more. then_ (sym (append_assoc xs (x ∷ []) more) j)))) (then_ (xs ++ x ∷ [])))
    (derives_on a b)

pub list_done : (i : Item) (then_ : List (Of i) → Rest) (xs : List (Of i)) (start old new : Parser) → Takes_ kinds.Comma old new false
    → Derives (g.list i then_) (behind i then_ xs) start old → Derives (g.list i then_) (then_ xs) start new
list_done i then_ xs start old new told d = derives_on d (passed old new d.keeps.ready told)

map_snoc : {A B : Type 0} (f : A → B) (xs : List A) (x : A) → map f (xs ++ x ∷ []) ≡ map f xs ++ f x ∷ []
map_snoc f [] x = refl
map_snoc f (y ∷ xs) x = ap (λ zs. f y ∷ zs) (map_snoc f xs x)

pub map_first : {A B : Type 0} (f : A → B) (xs ys : List A) (x : A) → ys ≡ xs ++ x ∷ [] → xs ≡ [] → f x ∷ [] ≡ map f ys
map_first f xs ys x is empty = sym (ap (map f) is ∙ ap (λ zs. map f (zs ++ x ∷ [])) empty)

pub snoc_first : {A : Type 0} (xs ys : List A) (x : A) → ys ≡ xs ++ x ∷ [] → xs ≡ [] → x ∷ [] ≡ ys
snoc_first xs ys x is empty = sym (is ∙ ap (λ zs. zs ++ x ∷ []) empty)

comma_moves : {text : List ℕ} {at to : ℕ} {k : Kind} → Stands text at to k → k ≡ kinds.Comma → at < to
comma_moves (spelled p a b c d) e = a
comma_moves (ended p i) e = absurd cc
comma_moves (past p) e = absurd cc
comma_moves (stray p a b c) e = absurd cc

-- a comma was read, and more: less of the text is left
pub behind_comma : (old mid new : Parser) → IsReady old → Keeps old mid → Takes_ kinds.Comma old mid true → Keeps mid new
    → length new.text.now - new.at < length old.text.now - old.at
behind_comma old mid new ready keeps told further =
    let a = comma_moves ready.stands told.0 in let b : length new.text.now ≡ length old.text.now = ap length (further.text ∙ keeps.text) in
    let c = further.ready.inside in let d = further.forward in omega (arith, told.2)

pub map_more : {A B : Type 0} (f : A → B) (xs ys : List A) (x : A) → ys ≡ xs ++ x ∷ [] → map f xs ++ f x ∷ [] ≡ map f ys
map_more f xs ys x is = sym (ap (map f) is ∙ map_snoc f xs x)
