-- A text that is a statement has no fault.
use Rattle.std.proofs.Common.{◌≡◌, ◌≢◌, ℕ, ◌<◌, ◌≤◌, Bool, true, false, List, [], ◌∷◌, ◌++◌, length, refl, sym, ◌∙◌, ap, subst, arith, append_assoc, append-nil}
use Rattle.mg_statements.specs.declared.fault.SqlFault.{SqlFault}
use Rattle.mg_sql.specs.declared.parts.TheConstants.{LEVELS}
use Rattle.mg_sql.specs.declared.token.Kind.{Kind}
use Rattle.mg_sql.specs.declared.token.Kind.TheVariants as kinds
use Rattle.mg_sql.specs.Tokens.{Token, token}
use Rattle.mg_sql.specs.Lexing.{Stands, spelled, ended, past, stray, Lexes, none, one, AreBlank, between}
use Rattle.mg_statements.specs.Plain.{Plain}
use Rattle.mg_sql.specs.Statements.{Spells, statement}
use Rattle.mg_sql.specs.Reading.{the_limits}
use Rattle.mg_sql.specs.Answers.{Front, Parses, Begins, Stops, FaultIn}
use Rattle.mg_sql.proofs.Refusing.{lexes_append}
use Rattle.mg_sql.proofs.Once.{is_last, has_last, Once, once, statement_words}
use Rattle.mg_sql.proofs.Agreeing.{Read, Agree, shorter, longer, agree}

pub all_read : (front : List Token) (last : Token) → has_last front ≡ false → last.kind ≡ kinds.End → Read (front ++ last ∷ [])
all_read [] last clear end = ((λ h. let k = sym end ∙ h in absurd cc), tt)
all_read (t ∷ ts) last clear end = by (is_last t.kind) refl (λ h. all_read ts last h end) where
  read_kind : (k : Kind) → is_last k ≡ false → k ≢ kinds.Stray
  read_kind k plain h = let l = sym plain ∙ ap is_last h in absurd cc

  by : (b : Bool) → is_last t.kind ≡ b → (has_last ts ≡ false → Read (ts ++ last ∷ [])) → Read (t ∷ (ts ++ last ∷ []))
  by true b more = let h = rw b at clear in absurd cc
  by false b more = (read_kind t.kind b, more (rw b at clear))

inside : {text : List ℕ} (p from : ℕ) {to : ℕ} {ts : List Token} → AreBlank text p from → Lexes text from ts to → to ≤ length text
inside p from b none = b.inside
inside p from b (one {behind = e} {next = next} s c l) = inside e next c l

end_inside : {text : List ℕ} {at to : ℕ} {k : Kind} → at ≤ length text → Stands text at to k → to ≤ length text
end_inside low (spelled p a b c d) = b
end_inside low (ended p i) = low
end_inside low (past p) = low
end_inside low (stray p a b c) = low

heads : {x y : Token} {xs ys : List Token} → x ∷ xs ≡ y ∷ ys → x ≡ y
heads {x = x} e = ap first e where
  first : List Token → Token
  first [] = x
  first (t ∷ ts) = t

abbrev rest_of : List Token → List Token
rest_of [] = []
rest_of (t ∷ ts) = ts

record Split (front tokens : List Token) : Type 0 where
  pub rest : List Token
  pub is : front ≡ tokens ++ rest

split : (front tokens : List Token) (x m : Token) (ms : List Token) → front ++ x ∷ [] ≡ tokens ++ m ∷ ms → Split front tokens
split front [] x m ms e = record { rest = front; is = refl }
split [] (t ∷ []) x m ms e = let h = ap rest_of e in absurd cc
split [] (t ∷ u ∷ ts) x m ms e = let h = ap rest_of e in absurd cc
split (f ∷ fs) (t ∷ ts) x m ms e = let s = split fs ts x m ms (ap rest_of e) in record { rest = s.rest; is = λ i. heads e i ∷ s.is i }

-- the end of the text is not among tokens behind which others come
pub twice : (pre other : List Token) (a z y : Token) (tail : List Token) → is_last a.kind ≡ true → has_last other ≡ false → pre ++ a ∷ y ∷ tail ≡ other ++ z ∷ [] → ⊥
twice [] [] a z y tail last free e = let h = ap rest_of e in absurd cc
twice [] (c ∷ cs) a z y tail last free e = let h : is_last c.kind ≡ true = ap (λ (t : Token). is_last t.kind) (sym (heads e)) ∙ last in let k = rw h at free in absurd cc
twice (p ∷ []) [] a z y tail last free e = let h = ap rest_of e in absurd cc
twice (p ∷ q ∷ ps) [] a z y tail last free e = let h = ap rest_of e in absurd cc
twice (p ∷ ps) (c ∷ cs) a z y tail last free e = by (is_last c.kind) refl (λ h. twice ps cs a z y tail last h (ap rest_of e)) where
  by : (b : Bool) → is_last c.kind ≡ b → (has_last cs ≡ false → ⊥) → ⊥
  by true b more = let k = rw b at free in absurd cc
  by false b more = more (rw b at free)

pub no_fault : (text : List ℕ) (s : Plain) (fault : SqlFault) → Parses text s → FaultIn text fault → ⊥
no_fault text s fault is f = by (agree 0 is.front.from stops.before.from is.front.blanks stops.before.blanks is.front.lexes with_x (subst Read (sym o.is) (all_read o.front o.last o.none o.end))) where
  stops : Stops text f.at f.kind f.front f.x
  stops = f.stops

  o : Once is.tokens []
  o = once is.is statement_words

  low : f.at ≤ length text
  low = inside 0 stops.before.from stops.before.blanks stops.before.lexes

  stop : AreBlank text stops.end stops.end
  stop = record { order = omega arith; inside = end_inside low stops.stands; each = λ at a b. absurd (omega arith) }

  with_x : Lexes text stops.before.from (f.front ++ f.x ∷ []) stops.end
  with_x = lexes_append stops.before.lexes (subst (λ x. Lexes text f.at (x ∷ []) stops.end) (sym stops.token_) (one stops.stands stop none))

  by : Agree is.tokens (f.front ++ f.x ∷ []) → ⊥
  by (longer next more e) = stops.never (record { makes = s; more = next ∷ more; is = subst (λ z. Spells the_limits LEVELS statement s z []) e is.is })
  by (shorter [] e) = stops.never (record { makes = s; more = []; is = subst (λ z. Spells the_limits LEVELS statement s z []) (sym (append-nil (f.front ++ f.x ∷ []) ∙ e ∙ append-nil is.tokens)) is.is })
  by (shorter (m ∷ ms) e) = let sp = split f.front is.tokens f.x m ms e in
      let g = stops.viable in let other : Once (f.front ++ g.next ∷ g.more) [] = once g.is statement_words in
      let whole : f.front ++ g.next ∷ g.more ≡ o.front ++ o.last ∷ (sp.rest ++ g.next ∷ g.more) =
      ap (λ z. z ++ g.next ∷ g.more) (sp.is ∙ ap (λ z. z ++ sp.rest) o.is)
      ∙ append_assoc (o.front ++ o.last ∷ []) sp.rest (g.next ∷ g.more) ∙ append_assoc o.front (o.last ∷ []) (sp.rest ++ g.next ∷ g.more) in
      some sp.rest other.front other.last g.next g.more (sym whole ∙ other.is) other.none where
        some : (rest others : List Token) (z y : Token) (tail : List Token) → o.front ++ o.last ∷ (rest ++ y ∷ tail) ≡ others ++ z ∷ [] → has_last others ≡ false → ⊥
        some [] others z y tail e free = twice o.front others o.last z y tail (ap is_last o.end) free e
        some (r ∷ rest) others z y tail e free = twice o.front others o.last z r (rest ++ y ∷ tail) (ap is_last o.end) free e
