use Rattle.std.proofs.Common.{◌≡◌, ◌≢◌, ◌<◌, ℕ, Bool, List, [], ◌∷◌, map, ◌+◌, ◌-◌, ◌*◌, ◌≤◌, length}
use Rattle.mg_expr.specs.Trees.{Tree, tree_of, part_tree}
use Rattle.mg_sql.specs.Reading.{IsReady, Keeps, Reads, ahead}
use Rattle.mg_sql.specs.declared.token.Kind.TheVariants as kinds
use Rattle.mg_sql.specs.Ends.{Ends}
use Rattle.mg_sql.proofs.ExprParts.{TermSoFar, SumsSoFar, ConjSoFar, ExprSoFar}
use Rattle.mg_sql.proofs.expr.+expression.Given as goal

-- a level has nine rules: each calls the next, and the last opens a level
abbrev pub decreases-negated : goal.decreases-negated
decreases-negated l = 16 * l.levels + 0

abbrev pub decreases-enclosed : goal.decreases-enclosed
decreases-enclosed l = 16 * l.levels + 0

abbrev pub decreases-factor : goal.decreases-factor
decreases-factor l = 16 * l.levels + 1

abbrev pub decreases-term : goal.decreases-term
decreases-term l = 16 * l.levels + 2

abbrev pub decreases-sum : goal.decreases-sum
decreases-sum l = 16 * l.levels + 3

abbrev pub decreases-second_sum : goal.decreases-second_sum
decreases-second_sum l = 16 * l.levels + 4

abbrev pub decreases-test : goal.decreases-test
decreases-test l = 16 * l.levels + 5

abbrev pub decreases-neg : goal.decreases-neg
decreases-neg l = 16 * l.levels + 6

abbrev pub decreases-conj : goal.decreases-conj
decreases-conj l = 16 * l.levels + 7

abbrev pub decreases-expr : goal.decreases-expr
decreases-expr l = 16 * l.levels + 8

-- the parts so far were read, and a part ends here
abbrev pub invariant-term-loop-inverse : goal.invariant-term-loop-inverse
invariant-term-loop-inverse l = record {
  keeps : Keeps l.fn.p l.p;
  read : Reads TermSoFar l.levels (tree_of l.first, map part_tree l.parts.items) l.fn.p.text.now l.fn.p.at l.p.at;
  ends : Ends 6 (ahead l.p ∷ []);
}

abbrev pub decreases-term-loop-inverse : goal.decreases-term-loop-inverse
decreases-term-loop-inverse l = length l.p.text.now - l.p.at

-- the parts so far were read, and a part ends here
abbrev pub invariant-sum-loop-inverse : goal.invariant-sum-loop-inverse
invariant-sum-loop-inverse l = record {
  keeps : Keeps l.fn.p l.p;
  read : Reads SumsSoFar l.levels (tree_of l.first, map part_tree l.parts.items) l.fn.p.text.now l.fn.p.at l.p.at;
  ends : Ends 5 (ahead l.p ∷ []);
}

abbrev pub decreases-sum-loop-inverse : goal.decreases-sum-loop-inverse
decreases-sum-loop-inverse l = length l.p.text.now - l.p.at

abbrev pub invariant-conj-loop-p : goal.invariant-conj-loop-p
invariant-conj-loop-p l = record {
  keeps : Keeps l.fn.p l.p;
  first : Tree;
  more : List Tree;
  parts : map tree_of l.parts.items ≡ first ∷ more;
  read : Reads ConjSoFar l.levels (first, more) l.fn.p.text.now l.fn.p.at l.p.at;
  some : more ≡ [] → l.p.kind ≡ kinds.And;
  ends : Ends 3 (ahead l.p ∷ []);
}

abbrev pub decreases-conj-loop-p : goal.decreases-conj-loop-p
decreases-conj-loop-p l = length l.p.text.now - l.p.at

abbrev pub invariant-expr-loop-p : goal.invariant-expr-loop-p
invariant-expr-loop-p l = record {
  keeps : Keeps l.fn.p l.p;
  first : Tree;
  more : List Tree;
  parts : map tree_of l.parts.items ≡ first ∷ more;
  read : Reads ExprSoFar l.levels (first, more) l.fn.p.text.now l.fn.p.at l.p.at;
  some : more ≡ [] → l.p.kind ≡ kinds.Or;
  ends : Ends 2 (ahead l.p ∷ []);
}

abbrev pub decreases-expr-loop-p : goal.decreases-expr-loop-p
decreases-expr-loop-p l = length l.p.text.now - l.p.at
