-- How what is read and refused of parts makes up what is read and refused of the whole.
use Rattle.std.proofs.Common.{◌≡◌, ℕ, zero, suc, ◌<◌, ◌≤◌, Bool, true, false, List, [], ◌∷◌, ◌++◌, Result, Ok, Err, refl, sym, ◌∙◌, ap, subst, arith, append_assoc}
use Rattle.mg_statements.specs.declared.fault.SqlFault.{SqlFault}
use Rattle.mg_statements.specs.declared.fault.SqlFault.TheVariants as faults
use Rattle.mg_sql.specs.declared.token.Kind.{Kind}
use Rattle.mg_sql.specs.declared.parser.Parser.{Parser}
use Rattle.mg_sql.specs.Tokens.{Token, token, Takes}
use Rattle.mg_sql.specs.Lexing.{Lexes, none, one, between, Stands}
use Rattle.mg_sql.specs.declared.token.Kind.TheVariants as kinds
use Rattle.mg_sql.proofs.Lexemes.{stands_one}
use Rattle.mg_sql.specs.Grammar.{Limits}
use Rattle.mg_sql.specs.Ends.{Ends, front_binds, binds, kind_in}
use Rattle.mg_sql.specs.Statements.{shift}
use Rattle.mg_sql.specs.Reading.{the_limits, Allows, Reads, Completes, CompletesBeyond, Refuses, Told, One, ahead}

pub lexes_append : {text : List ℕ} {from mid to : ℕ} {ts us : List Token} → Lexes text from ts mid → Lexes text mid us to → Lexes text from (ts ++ us) to
lexes_append none more = more
lexes_append (one s b l) more = one s b (lexes_append l more)

pub record Unshifted (deep : Bool) (n m : ℕ) : Type 0 where
  pub levels : ℕ
  pub same : m ≡ shift deep levels
  pub enough : n ≤ levels

pub unshift : (deep : Bool) (n m : ℕ) → shift deep n ≤ m → Unshifted deep n m
unshift false n m h = record { levels = m; same = refl; enough = h }
unshift true n zero h = absurd (omega arith)
unshift true n (suc m) h = record { levels = m; same = refl; enough = omega arith }

shift_le : (deep : Bool) (n m : ℕ) → n ≤ m → shift deep n ≤ shift deep m
shift_le false n m h = h
shift_le true n m h = omega arith

le_shift : (deep : Bool) (n m : ℕ) → shift deep n ≤ shift deep m → n ≤ m
le_shift false n m h = h
le_shift true n m h = omega arith

pub same_limits : Allows the_limits the_limits
same_limits = record { name = omega arith; number = omega arith }

-- a first part was read, then a second
pub reads_two : {A B T : Type 0} (P : Limits → ℕ → A → List Token → List Token → Type 0) (Q : Limits → ℕ → B → List Token → List Token → Type 0) (R : Limits → ℕ → T → List Token → List Token → Type 0)
    (deep : Bool) {n : ℕ} {a : A} {b : B} {t : T} {text : List ℕ} {from mid to : ℕ}
    → ((most : Limits) (m : ℕ) (ts us vs : List Token) → P most m a ts us → Q most m b us vs → R most (shift deep m) t ts vs)
    → Reads P n a text from mid → Reads Q n b text mid to → Reads R (shift deep n) t text from to
reads_two P Q R deep {n = n} {t = t} join p q = record {
  front = p.front ++ q.front;
  lexes = lexes_append p.lexes q.lexes;
  reads = λ most m more allows enough. let u = unshift deep n m enough in
      rw (u.same, append_assoc) (join most u.levels _ _ _ (p.reads most u.levels (q.front ++ more) allows u.enough) (q.reads most u.levels more allows u.enough));
}

-- a part is the whole
pub reads_as : {A T : Type 0} (P : Limits → ℕ → A → List Token → List Token → Type 0) (R : Limits → ℕ → T → List Token → List Token → Type 0)
    (deep : Bool) {n : ℕ} {a : A} {t : T} {text : List ℕ} {from to : ℕ}
    → ((most : Limits) (m : ℕ) (ts us : List Token) → Allows most the_limits → P most m a ts us → R most (shift deep m) t ts us)
    → Reads P n a text from to → Reads R (shift deep n) t text from to
reads_as P R deep {n = n} join p = record {
  front = p.front;
  lexes = p.lexes;
  reads = λ most m more allows enough. let u = unshift deep n m enough in
      rw u.same (join most u.levels _ _ allows (p.reads most u.levels more allows u.enough));
}

-- one token was read
pub reads_one : {kind : Kind} {bytes : List ℕ} {text : List ℕ} {from to : ℕ} (n : ℕ) → Lexes text from (token kind bytes ∷ []) to → Reads (One kind) n tt text from to
reads_one {bytes = bytes} n l = record { front = _; lexes = l; reads = λ most m more allows enough. record { bytes = bytes; takes = refl } }

-- a part of the whole that begins where the first part ends
pub record Inner {B : Type 0} (Q : Limits → ℕ → B → List Token → List Token → Type 0) (deep : Bool) (level : ℕ) (most : Limits) (m : ℕ) (us : List Token) : Type 0 where
  pub levels : ℕ
  pub same : m ≡ shift deep levels
  pub tree : B
  pub rest : List Token
  pub ends : Ends level rest
  pub reads : Q most levels tree us rest

-- the whole that a second part makes, with the tokens that close it
pub record Closes {A B T : Type 0} (P : Limits → ℕ → A → List Token → List Token → Type 0) (Q : Limits → ℕ → B → List Token → List Token → Type 0) (R : Limits → ℕ → T → List Token → List Token → Type 0) (deep : Bool) (a : A) (b : B) : Type 0 where
  pub tree : T
  pub close : List Token
  pub closes : (most : Limits) (m : ℕ) (ts us vs : List Token) → P most m a ts us → Q most m b us (close ++ vs) → R most (shift deep m) tree ts vs

regroup : (a b c d e : List Token) → (a ++ b) ++ ((c ++ d) ++ e) ≡ a ++ (b ++ (c ++ (d ++ e)))
regroup a b c d e = simp append_assoc

pub allows_trans : (a b c : Limits) → Allows a b → Allows b c → Allows a c
allows_trans a b c x y = record { name = omega arith; number = omega arith }

second_completes : {A B T : Type 0} (P : Limits → ℕ → A → List Token → List Token → Type 0) (Q : Limits → ℕ → B → List Token → List Token → Type 0) (R : Limits → ℕ → T → List Token → List Token → Type 0)
    (deep : Bool) {n : ℕ} {a : A} {text : List ℕ} {from mid : ℕ} (least : Limits) (k : ℕ) (ts : List Token)
    → ((b : B) → Closes P Q R deep a b) → (p : Reads P n a text from mid) → Allows least the_limits → n ≤ k
    → Completes Q least k ts → Completes R least (shift deep k) (p.front ++ ts)
second_completes P Q R deep {n = n} least k ts closes p allows enough c = record {
  tree = (closes c.tree).tree;
  more = c.more ++ (closes c.tree).close;
  reads = λ most m rest more_allowed high. let u = unshift deep k m high in
      rw (u.same, regroup p.front ts c.more (closes c.tree).close rest)
      ((closes c.tree).closes most u.levels _ _ rest
      (p.reads most u.levels _ (allows_trans most least the_limits more_allowed allows) (omega (arith, u.enough)))
      (c.reads most u.levels ((closes c.tree).close ++ rest) more_allowed u.enough));
}

-- a first part was read, and the second is refused: so is the whole
pub refuses_second : {A B T : Type 0} (P : Limits → ℕ → A → List Token → List Token → Type 0) (Q : Limits → ℕ → B → List Token → List Token → Type 0) (R : Limits → ℕ → T → List Token → List Token → Type 0)
    (deep : Bool) (level_q level_r : ℕ) {n : ℕ} {a : A} {always : Bool} {x : Token} {text : List ℕ} {from mid to : ℕ}
    → ((b : B) → Closes P Q R deep a b)
    → ((most : Limits) (m : ℕ) (t : T) (ts us rest : List Token) → P the_limits n a ts us → R most m t ts rest → Ends level_r rest → Inner Q deep level_q most m us)
    → Reads P n a text from mid → Refuses Q level_q n always x text mid to
    → Refuses R level_r (shift deep n) always x text from to
refuses_second P Q R deep level_q level_r {n = n} {x = x} closes inner p q = record {
  front = p.front ++ q.front;
  lexes = lexes_append p.lexes q.lexes;
  viable = second_completes P Q R deep the_limits n q.front closes p same_limits (omega arith) q.viable;
  blocked = λ most m t more rest within ends reads.
      let i = inner most m t (p.front ++ (q.front ++ x ∷ more)) (q.front ++ x ∷ more) rest
      (p.reads the_limits n _ same_limits (omega arith)) (rw append_assoc at reads) ends in
      q.blocked most i.levels i.tree more i.rest
      (λ h. let w = within h in (w.0, le_shift deep i.levels n (subst (λ k. k ≤ shift deep n) i.same w.1))) i.ends i.reads;
  allowed = λ h. let b = q.allowed h in record {
    least = b.least;
    levels = shift deep b.levels;
    allows = b.allows;
    deeper = shift_le deep n b.levels b.deeper;
    completes = rw append_assoc (second_completes P Q R deep b.least b.levels (q.front ++ x ∷ []) closes p b.allows b.deeper b.completes);
  };
}

-- the whole that a first part makes, with the tokens that close it
pub record ClosesFirst {B T : Type 0} (Q : Limits → ℕ → B → List Token → List Token → Type 0) (R : Limits → ℕ → T → List Token → List Token → Type 0) (b : B) : Type 0 where
  pub tree : T
  pub close : List Token
  pub closes : (most : Limits) (m : ℕ) (ts vs : List Token) → Q most m b ts (close ++ vs) → R most m tree ts vs

pub first_completes : {B T : Type 0} (Q : Limits → ℕ → B → List Token → List Token → Type 0) (R : Limits → ℕ → T → List Token → List Token → Type 0)
    (least : Limits) (k : ℕ) (ts : List Token) → ((b : B) → ClosesFirst Q R b) → Completes Q least k ts → Completes R least k ts
first_completes Q R least k ts closes c = record {
  tree = (closes c.tree).tree;
  more = c.more ++ (closes c.tree).close;
  reads = λ most m rest allows high. rw append_assoc ((closes c.tree).closes most m _ rest (c.reads most m ((closes c.tree).close ++ rest) allows high));
}

-- the first part is refused: so is the whole
pub refuses_first : {B T : Type 0} (Q : Limits → ℕ → B → List Token → List Token → Type 0) (R : Limits → ℕ → T → List Token → List Token → Type 0)
    (level_q level_r : ℕ) {n : ℕ} {always : Bool} {x : Token} {text : List ℕ} {from to : ℕ}
    → ((b : B) → ClosesFirst Q R b)
    → ((most : Limits) (m : ℕ) (t : T) (ts rest : List Token) → R most m t ts rest → Ends level_r rest → Inner Q false level_q most m ts)
    → Refuses Q level_q n always x text from to → Refuses R level_r n always x text from to
refuses_first Q R level_q level_r {n = n} {x = x} closes inner q = record {
  front = q.front;
  lexes = q.lexes;
  viable = first_completes Q R the_limits n q.front closes q.viable;
  blocked = λ most m t more rest within ends reads.
      let i = inner most m t (q.front ++ x ∷ more) rest reads ends in
      q.blocked most i.levels i.tree more i.rest (λ h. let w = within h in (w.0, subst (λ k. k ≤ n) i.same w.1)) i.ends i.reads;
  allowed = λ h. let b = q.allowed h in record {
    least = b.least;
    levels = b.levels;
    allows = b.allows;
    deeper = b.deeper;
    completes = first_completes Q R b.least b.levels (q.front ++ x ∷ []) closes b.completes;
  };
}

-- the whole that tokens make behind what was read
pub record ClosesBehind {A T : Type 0} (P : Limits → ℕ → A → List Token → List Token → Type 0) (R : Limits → ℕ → T → List Token → List Token → Type 0) (deep : Bool) (a : A) : Type 0 where
  pub tree : T
  pub close : List Token
  pub closes : (most : Limits) (m : ℕ) (ts vs : List Token) → Allows most the_limits → P most m a ts (close ++ vs) → R most (shift deep m) tree ts vs

-- a first part was read, and the next token can't stand behind it
pub refuses_behind : {A T : Type 0} (P : Limits → ℕ → A → List Token → List Token → Type 0) (R : Limits → ℕ → T → List Token → List Token → Type 0)
    (deep : Bool) (level : ℕ) {n : ℕ} {a : A} {x : Token} {text : List ℕ} {from to : ℕ}
    → ClosesBehind P R deep a
    → ((most : Limits) (m : ℕ) (t : T) (ts more rest : List Token) → P the_limits n a ts (x ∷ more) → R most m t ts rest → Ends level rest → ⊥)
    → Reads P n a text from to → Refuses R level (shift deep n) true x text from to
refuses_behind P R deep level {n = n} {x = x} closes never p = record {
  front = p.front;
  lexes = p.lexes;
  viable = record {
    tree = closes.tree;
    more = closes.close;
    reads = λ most m rest allows high. let u = unshift deep n m high in
        rw u.same (closes.closes most u.levels _ rest allows (p.reads most u.levels (closes.close ++ rest) allows u.enough));
  };
  blocked = λ most m t more rest within ends reads.
      never most m t (p.front ++ x ∷ more) more rest (p.reads the_limits n (x ∷ more) same_limits (omega arith)) reads ends;
  allowed = λ h. absurd cc;
}

-- the next token can't stand here
pub refuses_here : {T : Type 0} (R : Limits → ℕ → T → List Token → List Token → Type 0) (level n : ℕ) {x : Token} {text : List ℕ} {at : ℕ}
    → Completes R the_limits n [] → ((most : Limits) (m : ℕ) (t : T) (more rest : List Token) → Ends level rest → R most m t (x ∷ more) rest → ⊥)
    → Refuses R level n true x text at at
refuses_here R level n completes never = record {
  front = [];
  lexes = none;
  viable = completes;
  blocked = λ most m t more rest within ends reads. never most m t more rest ends reads;
  allowed = λ h. absurd cc;
}

-- the next token can stand here under other limits alone
pub refuses_over : {T : Type 0} (R : Limits → ℕ → T → List Token → List Token → Type 0) (level n : ℕ) {x : Token} {text : List ℕ} {at : ℕ}
    → Completes R the_limits n []
    → ((most : Limits) (m : ℕ) (t : T) (more rest : List Token) → Allows the_limits most → m ≤ n → Ends level rest → R most m t (x ∷ more) rest → ⊥)
    → CompletesBeyond R n (x ∷ [])
    → Refuses R level n false x text at at
refuses_over R level n completes never beyond = record {
  front = [];
  lexes = none;
  viable = completes;
  blocked = λ most m t more rest within ends reads. let w = within refl in never most m t more rest w.0 w.1 ends reads;
  allowed = λ h. beyond;
}

-- a refusal of a part is one of the whole
pub fails : {A B U T : Type 0} (u : A → U) (t : B → T) (Q : Limits → ℕ → U → List Token → List Token → Type 0) (R : Limits → ℕ → T → List Token → List Token → Type 0)
    (level_q level_r n k : ℕ) (old mid new : Parser)
    → ((always : Bool) → Refuses Q level_q n always (ahead new) mid.text.now mid.at new.at → Refuses R level_r k always (ahead new) old.text.now old.at new.at)
    → (e : SqlFault) → Told u Q level_q n mid new (Err e) → Told t R level_r k old new (Err e)
fails u t Q R level_q level_r n k old mid new f (faults.Syntax at) told = (told.0, f true told.1)
fails u t Q R level_q level_r n k old mid new f (faults.NameTooLong at) told = (told.0, told.1, f false told.2)
fails u t Q R level_q level_r n k old mid new f (faults.NumberTooLarge at) told = (told.0, told.1, f false told.2)
fails u t Q R level_q level_r n k old mid new f (faults.TooDeep at) told = (told.0, told.1, f false told.2)
fails u t Q R level_q level_r n k old mid new f faults.Memory told = tt

-- the first of the tokens from a place on is the one that stands there
pub first_kind : {text : List ℕ} {from to e f : ℕ} {j k : Kind} {front : List Token} (more : List Token)
    → Lexes text from front to → Stands text from e j → Stands text to f k → kind_in (front ++ token k (between text to f) ∷ more) ≡ j
first_kind more none a b = stands_one b a
first_kind more (one c g l) a b = stands_one c a

-- the first part is refused, and which token stands in front of it is known
pub refuses_first_at : {B T : Type 0} (Q : Limits → ℕ → B → List Token → List Token → Type 0) (R : Limits → ℕ → T → List Token → List Token → Type 0)
    (level_q level_r : ℕ) {n : ℕ} {always : Bool} {text : List ℕ} {from to e f : ℕ} {j k : Kind}
    → Stands text from e j → Stands text to f k
    → ((b : B) → ClosesFirst Q R b)
    → ((most : Limits) (m : ℕ) (t : T) (ts rest : List Token) → kind_in ts ≡ j → R most m t ts rest → Ends level_r rest → Inner Q false level_q most m ts)
    → Refuses Q level_q n always (token k (between text to f)) text from to → Refuses R level_r n always (token k (between text to f)) text from to
refuses_first_at Q R level_q level_r {n = n} {text = text} {to = to} {f = f} {k = k} a b closes inner q = record {
  front = q.front;
  lexes = q.lexes;
  viable = first_completes Q R the_limits n q.front closes q.viable;
  blocked = λ most m t more rest within ends reads.
      let i = inner most m t (q.front ++ token k (between text to f) ∷ more) rest (first_kind more q.lexes a b) reads ends in
      q.blocked most i.levels i.tree more i.rest (λ h. let w = within h in (w.0, subst (λ k. k ≤ n) i.same w.1)) i.ends i.reads;
  allowed = λ h. let c = q.allowed h in record {
    least = c.least;
    levels = c.levels;
    allows = c.allows;
    deeper = c.deeper;
    completes = first_completes Q R c.least c.levels (q.front ++ token k (between text to f) ∷ []) closes c.completes;
  };
}

-- the second part is refused, and which token stands in front of it is known
pub refuses_second_at : {A B T : Type 0} (P : Limits → ℕ → A → List Token → List Token → Type 0) (Q : Limits → ℕ → B → List Token → List Token → Type 0) (R : Limits → ℕ → T → List Token → List Token → Type 0)
    (deep : Bool) (level_q level_r : ℕ) {n : ℕ} {a : A} {always : Bool} {text : List ℕ} {from mid to e f : ℕ} {j k : Kind}
    → Stands text mid e j → Stands text to f k
    → ((b : B) → Closes P Q R deep a b)
    → ((most : Limits) (m : ℕ) (t : T) (ts us rest : List Token) → kind_in us ≡ j → P the_limits n a ts us → R most m t ts rest → Ends level_r rest → Inner Q deep level_q most m us)
    → Reads P n a text from mid → Refuses Q level_q n always (token k (between text to f)) text mid to
    → Refuses R level_r (shift deep n) always (token k (between text to f)) text from to
refuses_second_at P Q R deep level_q level_r {n = n} {text = text} {to = to} {f = f} {k = k} s1 s2 closes inner p q =
    let x = token k (between text to f) in record {
      front = p.front ++ q.front;
      lexes = lexes_append p.lexes q.lexes;
      viable = second_completes P Q R deep the_limits n q.front closes p same_limits (omega arith) q.viable;
      blocked = λ most m t more rest within ends reads.
          let i = inner most m t (p.front ++ (q.front ++ token k (between text to f) ∷ more)) (q.front ++ token k (between text to f) ∷ more) rest
          (first_kind more q.lexes s1 s2) (p.reads the_limits n _ same_limits (omega arith)) (rw append_assoc at reads) ends in
          q.blocked most i.levels i.tree more i.rest
          (λ h. let w = within h in (w.0, le_shift deep i.levels n (subst (λ k. k ≤ shift deep n) i.same w.1))) i.ends i.reads;
      allowed = λ h. let b = q.allowed h in record {
        least = b.least;
        levels = shift deep b.levels;
        allows = b.allows;
        deeper = shift_le deep n b.levels b.deeper;
        completes = rw append_assoc (second_completes P Q R deep b.least b.levels (q.front ++ token k (between text to f) ∷ []) closes p b.allows b.deeper b.completes);
      };
    }
