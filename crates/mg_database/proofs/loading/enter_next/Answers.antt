use Rattle.std.proofs.Common.{◌+◌, arith, subst, sym, ap, ◌∙◌}
use Rattle.mg_snap.specs.Live.{State as Bases, after_limbo}
use Rattle.mg_database.specs.Loading.{AreUndecidedBelow}
use Rattle.mg_database.proofs.LoadingLemmas.{first_is_next, undecided_more, undecided_to}
use Rattle.mg_database.proofs.loading.enter_next.Goals as goal

pub returns-then-found-next-clause-so_far : goal.returns-then-found-next-clause-so_far
returns-then-found-next-clause-so_far c = undecided_to c.args.list.now c.args.live.now c.args.from.0
    c.next_limbo-found.result.0 c.requires.undrawn c.next_limbo-found.ensures.least
    c.next_limbo-found.ensures.before c.requires.so_far

pub returns-clause-so_far : goal.returns-clause-so_far
returns-clause-so_far c =
    let list = c.args.list.now in
    let found = c.next_limbo-found.result.0 in
    let first = first_is_next list c.requires.undrawn in
    let next = c.next.ensures in
    let apart = c.if-found-next.false in
    let most = c.next_limbo-found.ensures.most in
    let least = c.next_limbo-found.ensures.least in
    subst (AreUndecidedBelow list (found + 1))
    (sym (c.limbo.ensures ∙ ap (λ (s : Bases). after_limbo s found) c.in-Ok.ensures.ok))
    (undecided_more list found c.args.live.now (undecided_to list c.args.live.now c.args.from.0 found
    c.requires.undrawn least c.next_limbo-found.ensures.before c.requires.so_far)
    (omega (arith, apart, next, most, first))
    (c.next_limbo-found.ensures.limbo (λ e. apart (omega (arith, e, first, next)))))
