-- What is told of the whole text.
use Rattle.std.proofs.Common.{◌≡◌, ℕ, ◌≤◌, Bool, true, false, List, [], ◌∷◌, ◌++◌, Result, Ok, Err, refl, sym, ◌∙◌, ap, subst, arith, append_assoc, append-nil}
use Rattle.mg_statements.specs.declared.fault.SqlFault.{SqlFault}
use Rattle.mg_statements.specs.declared.fault.SqlFault.TheVariants as faults
use Rattle.mg_statements.specs.declared.statement.Statement.{Statement}
use Rattle.mg_sql.specs.declared.parser.Parser.{Parser}
use Rattle.mg_sql.specs.declared.token.Kind.{Kind}
use Rattle.mg_sql.specs.Tokens.{Token, token}
use Rattle.mg_sql.specs.Lexing.{AreBlank, Lexes, Stands, between}
use Rattle.mg_sql.specs.Grammar.{Limits}
use Rattle.mg_statements.specs.Plain.{Plain, plain_of}
use Rattle.mg_sql.specs.Statements as g
use Rattle.mg_sql.specs.Statements.{Rest, Spells, statement}
use Rattle.mg_sql.specs.Going.{Spelled, Derives}
use Rattle.mg_sql.specs.Reading.{the_limits, Allows, Refuses, Reads, Completes, CompletesBeyond, Told, Keeps, ahead}
use Rattle.mg_sql.specs.Answers.{Front, Parses, Begins, GoesOn, Stops, NeverBegins, CouldBegin, Explains, FaultIn, Answers}
use Rattle.mg_sql.specs.declared.parts.TheConstants.{LEVELS}
use Rattle.mg_sql.specs.declared.token.Kind.TheVariants as kinds
use Rattle.mg_sql.specs.Reading.{IsReady, Fails, Takes_, bounded}
use Rattle.mg_sql.specs.Tokens.{Takes}
use Rattle.mg_sql.specs.Ends.{kind_in}
use Rattle.mg_sql.proofs.Refusing.{same_limits, lexes_append}
use Rattle.mg_sql.proofs.Steps.{ended_token, syntax_told, binds_six}
use Rattle.mg_sql.proofs.Moves.{wrong, never_finish, is_token, tails}

begins : (most : Limits) (n : ℕ) (ts : List Token) → Completes (Spelled statement) most n ts → Begins most n ts
begins most n ts c = record { makes = c.tree; more = c.more; is = subst (λ us. (Spelled statement) most n c.tree (ts ++ us) []) (append-nil c.more) (c.reads most n [] (record { name = omega arith; number = omega arith }) (omega arith)) }

-- a statement goes on behind the tokens before a refused one: with none behind it would be complete, and the refused one could follow
goes : {text : List ℕ} {from to : ℕ} {always : Bool} {x : Token} (r : Refuses (Spelled statement) 6 32 always x text from to) → GoesOn the_limits LEVELS r.front
goes {x = x} r = by r.viable.more refl where
  by : (more : List Token) → r.viable.more ≡ more → GoesOn the_limits LEVELS r.front
  by [] e = absurd (r.blocked the_limits 32 r.viable.tree [] (x ∷ []) (λ h. (same_limits, omega arith)) (binds_six x.kind)
      (subst (λ us. Spells the_limits LEVELS statement r.viable.tree (r.front ++ (us ++ x ∷ [])) (x ∷ [])) e
      (r.viable.reads the_limits 32 (x ∷ []) same_limits (omega arith))))
  by (y ∷ ys) e = record {
    makes = r.viable.tree;
    next = y;
    more = ys;
    is = subst (λ us. Spells the_limits LEVELS statement r.viable.tree (r.front ++ us) []) (append-nil r.viable.more ∙ e)
        (r.viable.reads the_limits 32 [] same_limits (omega arith));
  }

front_of : {text : List ℕ} {from : ℕ} {always : Bool} {x : Token} {to : ℕ} → AreBlank text 0 from → (r : Refuses (Spelled statement) 6 32 always x text from to) → Front text r.front to
front_of {from = from} blanks r = record { from = from; blanks = blanks; lexes = r.lexes }

never_within : {text : List ℕ} {from to : ℕ} {always : Bool} {x : Token} (r : Refuses (Spelled statement) 6 32 always x text from to) (most : Limits) (n : ℕ)
    → (always ≡ false → Allows the_limits most × (n ≤ 32)) → Begins most n (r.front ++ x ∷ []) → ⊥
never_within r most n within b = r.blocked most n b.makes b.more [] within (omega arith) (rw append_assoc at b.is)

fault_in : (text : List ℕ) (from : ℕ) (new : Parser) (always : Bool) (fault : SqlFault) → AreBlank text 0 from → new.text.now ≡ text → Stands text new.at new.end new.kind
    → (r : Refuses (Spelled statement) 6 32 always (token new.kind (between text new.at new.end)) text from new.at)
    → Explains fault new.at new.kind (r.front ++ token new.kind (between text new.at new.end) ∷ []) → FaultIn text fault
fault_in text from new always fault blanks same stands r explains = record {
  at = new.at;
  kind = new.kind;
  front = r.front;
  x = token new.kind (between text new.at new.end);
  stops = record {
    end = new.end;
    before = front_of blanks r;
    stands = stands;
    token_ = refl;
    viable = goes r;
    never = never_within r the_limits 32 (λ h. (same_limits, omega arith));
  };
  explains = explains;
}

could : {text : List ℕ} {from to : ℕ} {x : Token} (r : Refuses (Spelled statement) 6 32 false x text from to) → CouldBegin (r.front ++ x ∷ [])
could r = let c = r.allowed refl in record { most = c.least; levels = c.levels; is = begins c.least c.levels _ c.completes }

moved : (text : List ℕ) (from : ℕ) (new : Parser) (always : Bool) → new.text.now ≡ text
    → Refuses (Spelled statement) 6 32 always (ahead new) text from new.at → Refuses (Spelled statement) 6 32 always (token new.kind (between text new.at new.end)) text from new.at
moved text from new always same r = subst (λ s. Refuses (Spelled statement) 6 32 always (token new.kind (between s new.at new.end)) text from new.at) same r

-- a first part was read, and then the rest
pub reads_on : {r q : Rest} {a b : Parser} {s : Plain} (c : Parser) → Derives r q a b → Reads (Spelled q) LEVELS s b.text.now b.at c.at → Reads (Spelled r) LEVELS s a.text.now a.at c.at
reads_on {a = a} {b = b} {s = s} c d r = record {
  front = d.front ++ r.front;
  lexes = lexes_append d.lexes (subst (λ t. Lexes t b.at r.front c.at) d.keeps.text r.lexes);
  reads = λ most m more allows high. rw append_assoc (d.into most m s (r.front ++ more) more allows high (r.reads most m more allows high));
}

-- the end of a statement

data Ended (ts vs : List Token) : Type 0 where
  here : {b : List ℕ} → Takes kinds.End b ts vs → Ended ts vs
  behind_it : {b c : List ℕ} {us : List Token} → Takes kinds.Semicolon b ts us → Takes kinds.End c us vs → Ended ts vs

ended_of : {most : Limits} {n : ℕ} {s t : Plain} {ts vs : List Token} → Spells most n (g.finish s) t ts vs → Ended ts vs
ended_of (g.finished t) = here t
ended_of (g.closed t u) = behind_it t u

no_end : {ts vs : List Token} (b : List ℕ) (x : Token) (us : List Token) → Ended ts vs → ts ≡ token kinds.Semicolon b ∷ x ∷ us → (x.kind ≡ kinds.End → ⊥) → ⊥
no_end b x us (here t) e other = let h = ap kind_in (sym e ∙ t) in absurd cc
no_end b x us (behind_it t u) e other = other (ap kind_in (tails (sym e ∙ t) ∙ u))

pub end_read : (s : Plain) (old mid : Parser) → IsReady old → Keeps old mid → (b : Bool) → Takes_ kinds.Semicolon old mid b → mid.kind ≡ kinds.End → Reads (Spelled (g.finish s)) LEVELS s old.text.now old.at mid.at
end_read s old mid ready keeps true told is = record {
  front = ahead old ∷ ahead mid ∷ [];
  lexes = lexes_append told.1 (subst (λ t. Lexes t mid.at (ahead mid ∷ []) mid.at) keeps.text (ended_token mid keeps.ready is));
  reads = λ most m more allows high. g.closed (is_token old (ahead mid ∷ more) told.0) (is_token mid more is);
}
end_read s old mid ready keeps false told is = let here : old.kind ≡ kinds.End = subst (λ p. p.kind ≡ kinds.End) told.1 is in
    subst (λ p. Reads (Spelled (g.finish s)) LEVELS s old.text.now old.at p.at) (sym told.1) (record {
      front = ahead old ∷ [];
      lexes = ended_token old ready here;
      reads = λ most m more allows high. g.finished (is_token old more here);
    })

pub end_wrong : (s : Plain) (old mid : Parser) → IsReady old → Keeps old mid → (b : Bool) → Takes_ kinds.Semicolon old mid b → (mid.kind ≡ kinds.End → ⊥) → (e : SqlFault) → e ≡ faults.Syntax (bounded mid.at) → Fails (Spelled (g.finish s)) 6 LEVELS old mid e
end_wrong s old mid ready keeps true told other e is = syntax_told (λ (s : Plain). s) (Spelled (g.finish s)) 6 LEVELS old mid e is (record {
  front = ahead old ∷ [];
  lexes = told.1;
  viable = record { tree = s; more = token kinds.End [] ∷ []; reads = λ most m rest allows high. g.closed (is_token old (token kinds.End [] ∷ rest) told.0) refl };
  blocked = λ most m t more rest within ends d. no_end (ahead old).bytes (ahead mid) more (ended_of d) (is_token old (ahead mid ∷ more) told.0) other;
  allowed = λ h. absurd cc;
})
end_wrong s old mid ready keeps false told other e is =
    subst (λ p. Fails (Spelled (g.finish s)) 6 LEVELS old p e) (sym told.1)
    (wrong old e (never_finish told.0 (subst (λ (p : Parser). p.kind ≡ kinds.End → ⊥) told.1 other)) (subst (λ p. e ≡ faults.Syntax (bounded p.at)) told.1 is))

pub answers : (old new : Parser) → AreBlank old.text.now 0 old.at → Keeps old new → (result : Result Statement SqlFault)
    → Told plain_of (Spelled statement) 6 32 old new result → Answers old.text.now result
answers old new blanks k (Ok s) told = record {
  tokens = told.0.front;
  end = new.at;
  front = record { from = old.at; blanks = blanks; lexes = told.0.lexes };
  is = subst (λ ts. (Spelled statement) the_limits LEVELS (plain_of s) ts []) (append-nil told.0.front) (told.0.reads the_limits 32 [] same_limits (omega arith));
}
answers old new blanks k (Err faults.Memory) told = tt
answers old new blanks k (Err (faults.Syntax at)) told =
    let stands = subst (λ s. Stands s new.at new.end new.kind) k.text k.ready.stands in
    let r = moved old.text.now old.at new true k.text told.1 in
    fault_in old.text.now old.at new true (faults.Syntax at) blanks k.text stands r (told.0, λ most n b. never_within r most n (λ h. absurd cc) b)
answers old new blanks k (Err (faults.NameTooLong at)) told =
    let stands = subst (λ s. Stands s new.at new.end new.kind) k.text k.ready.stands in
    let r = moved old.text.now old.at new false k.text told.2 in
    fault_in old.text.now old.at new false (faults.NameTooLong at) blanks k.text stands r (told.0, told.1, could r)
answers old new blanks k (Err (faults.NumberTooLarge at)) told =
    let stands = subst (λ s. Stands s new.at new.end new.kind) k.text k.ready.stands in
    let r = moved old.text.now old.at new false k.text told.2 in
    fault_in old.text.now old.at new false (faults.NumberTooLarge at) blanks k.text stands r (told.0, told.1, could r)
answers old new blanks k (Err (faults.TooDeep at)) told =
    let stands = subst (λ s. Stands s new.at new.end new.kind) k.text k.ready.stands in
    let r = moved old.text.now old.at new false k.text told.2 in
    fault_in old.text.now old.at new false (faults.TooDeep at) blanks k.text stands r (told.0, told.1, could r)
