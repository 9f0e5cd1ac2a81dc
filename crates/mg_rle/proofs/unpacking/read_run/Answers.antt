use Rattle.std.proofs.Common.{◌≡◌, ◌∙◌, rules, length, subst, sym, refl, List, ℕ}
use Rattle.std.proofs.lemmas.Bool.{both_ways}
use Rattle.mg_rle.specs.Runs.{TripleAt}
use Rattle.mg_rle.proofs.ReadingLemmas.{breaks_as_none, breaks_as_next, breaks_as_triple, reads_run, kept_front, longer_keeps_front, reads_further, reads_from_start}
use Rattle.mg_rle.proofs.unpacking.read_run.Goals as goal

pub returns-in_default-clause-err : goal.returns-in_default-clause-err
returns-in_default-clause-err c = breaks_as_none _ _ _ _ c.requires.read c.requires.more c.split_at.ensures.back c.in_default.ensures.none

pub returns-then-not-allows-clause-err : goal.returns-then-not-allows-clause-err
returns-then-not-allows-clause-err c = breaks_as_next _ _ _ _ _ c.requires.read c.requires.more c.split_at.ensures.back c.in-Some.ensures.some (λ allowed. both_ways _ c.if-not-allows.true (c.allows.ensures.1 allowed))

pub returns-then-breaks_literal-clause-err : goal.returns-then-breaks_literal-clause-err
returns-then-breaks_literal-clause-err c =
    let len_is : c.len-len.result ≡ length c.args.out.now.items = search rules in
    breaks_as_triple _ _ c.args.out.now.items _ _ _ c.len-len.result c.requires.read c.requires.more c.split_at.ensures.back c.in-Some.ensures.some
    (c.deref.ensures.value ∙ c.in_ok-append_run.ensures.ok) len_is c.if-breaks_literal.ensures.yes

pub returns-clause-ok : goal.returns-clause-ok
returns-clause-ok c =
    let len_is : c.len-len.result ≡ length c.args.out.now.items = search rules in
    reads_run _ _ c.args.out.now.items _ _ _ c.len-len.result _ c.requires.read c.split_at.ensures.back c.in-Some.ensures.some (c.allows.ensures.0 c.if-not-allows.false)
    c.in_ok-append_run.ensures.ok len_is (λ at low high triple. c.if-breaks_literal.ensures.no at low high (subst (λ (t : List ℕ). TripleAt t at) (sym c.deref.ensures.value) triple)) c.pass_run.ensures

pub returns-in_default-clause-front : goal.returns-in_default-clause-front
returns-in_default-clause-front c = kept_front _ _ refl

pub returns-then-not-allows-clause-front : goal.returns-then-not-allows-clause-front
returns-then-not-allows-clause-front c = kept_front _ _ refl

pub returns-then-breaks_literal-clause-front : goal.returns-then-breaks_literal-clause-front
returns-then-breaks_literal-clause-front c = longer_keeps_front _ _ _ c.in_ok-append_run.ensures.ok

pub returns-in_err-append_run-clause-front : goal.returns-in_err-append_run-clause-front
returns-in_err-append_run-clause-front c = kept_front _ _ c.in_err-append_run.ensures.err

pub returns-clause-front : goal.returns-clause-front
returns-clause-front c = longer_keeps_front _ _ _ c.in_ok-append_run.ensures.ok

pub returns-clause-further : goal.returns-clause-further
returns-clause-further c = reads_further c.args.reader.now c.pass_run.result _ _ c.pass_run.ensures

pub returns-clause-start : goal.returns-clause-start
returns-clause-start c = reads_from_start c.args.reader.now c.pass_run.result _ _ c.pass_run.ensures
