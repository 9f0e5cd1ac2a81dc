use Rattle.std.proofs.Common.{◌∙◌, ◌++◌, [], ◌∷◌, ap, refl, length, length-append, List, ℕ, arith, rules}
use Rattle.mg_pointer.specs.PointerPage.{entries_of, next_in}
use Rattle.mg_reading.specs.ChainLaws.{run_ends}
use Rattle.mg_reading.specs.ImageView.{pages_in}
use Rattle.mg_reading.proofs.WantedLemmas.{followed_more, no_pointers}
use Rattle.std.proofs.lemmas.Result.{IfOk-from_err}
use Rattle.mg_reading.specs.declared.point.ReadFault.TheVariants.{Memory}
use Rattle.mg_reading.specs.Readable.{HasPointers}
use Rattle.mg_reading.proofs.RefusalLemmas.{memory_on}
use Rattle.mg_reading.proofs.chain.table_pages.Goals as goal

pub loop-n-preserved : goal.loop-n-preserved
loop-n-preserved c = followed_more c.args.image.now.size (pages_in c.args.image.now) c.args.owner
    c.loop-n.pointers.items c.loop-n.data_pages.items _ _ c.loop-n.n c.len.result _
    c.loop-n.invariant (omega arith) (search rules) (c.if-not-is_pointer.ensures.wanted.0 refl)
    (c.in_ok-add_entries.ensures ∙ ap (λ (page : List ℕ). c.loop-n.data_pages.items ++ entries_of page)
    c.page.ensures.page) c.in_ok-push.ensures.items
    (c.next_of-n.ensures ∙ ap next_in c.page-in-loop-n.ensures.page)

pub returns-clause-chain : goal.returns-clause-chain
returns-clause-chain c = run_ends (λ k. next_in (pages_in c.args.image.now k)) c.args.owner
    c.loop-n.pointers.items c.loop-n.n c.loop-n.invariant.0 c.loop-n-test.false

pub loop-n-smaller : goal.loop-n-smaller
loop-n-smaller c = omega (
  arith,
  c.if-not-is_pointer.ensures.small refl,
  c.len.ensures,
  ap length c.in_ok-push.ensures.items,
  length-append c.loop-n.pointers.items (c.loop-n.n ∷ []),
)

pub returns-then-not-is_pointer-clause-broken : goal.returns-then-not-is_pointer-clause-broken
returns-then-not-is_pointer-clause-broken c = no_pointers c.args.image.now.size
    (pages_in c.args.image.now) c.args.owner c.loop-n.pointers.items c.loop-n.n
    c.len.result c.loop-n.invariant.0 (omega arith) (search rules)
    (λ is. absurd (let passed = c.if-not-is_pointer.ensures.wanted.1 is in cc))

pub returns-in_err-add_entries-clause-chain : goal.returns-in_err-add_entries-clause-chain
returns-in_err-add_entries-clause-chain c = IfOk-from_err c.from_residual.result _ c.from_residual.ensures.0

pub returns-in_err-add_entries-clause-wanted : goal.returns-in_err-add_entries-clause-wanted
returns-in_err-add_entries-clause-wanted c = IfOk-from_err c.from_residual.result _ c.from_residual.ensures.0

pub returns-in_err-add_entries-clause-entries : goal.returns-in_err-add_entries-clause-entries
returns-in_err-add_entries-clause-entries c = IfOk-from_err c.from_residual.result _ c.from_residual.ensures.0

pub returns-in_err-push-clause-chain : goal.returns-in_err-push-clause-chain
returns-in_err-push-clause-chain c = IfOk-from_err c.from_residual-in_err-push.result _ c.from_residual-in_err-push.ensures.0

pub returns-in_err-push-clause-wanted : goal.returns-in_err-push-clause-wanted
returns-in_err-push-clause-wanted c = IfOk-from_err c.from_residual-in_err-push.result _ c.from_residual-in_err-push.ensures.0

pub returns-in_err-push-clause-entries : goal.returns-in_err-push-clause-entries
returns-in_err-push-clause-entries c = IfOk-from_err c.from_residual-in_err-push.result _ c.from_residual-in_err-push.ensures.0

pub returns-in_err-add_entries-clause-broken : goal.returns-in_err-add_entries-clause-broken
returns-in_err-add_entries-clause-broken c = memory_on
    (HasPointers c.args.image.now.size (pages_in c.args.image.now) c.args.owner)
    c.from_residual.result Memory c.from_residual.ensures.1 refl

pub returns-in_err-push-clause-broken : goal.returns-in_err-push-clause-broken
returns-in_err-push-clause-broken c = memory_on
    (HasPointers c.args.image.now.size (pages_in c.args.image.now) c.args.owner)
    c.from_residual-in_err-push.result Memory c.from_residual-in_err-push.ensures.1 refl

pub returns-then-not-is_pointer-clause-chain : goal.returns-then-not-is_pointer-clause-chain
returns-then-not-is_pointer-clause-chain c = tt

pub returns-then-not-is_pointer-clause-wanted : goal.returns-then-not-is_pointer-clause-wanted
returns-then-not-is_pointer-clause-wanted c = tt

pub returns-then-not-is_pointer-clause-entries : goal.returns-then-not-is_pointer-clause-entries
returns-then-not-is_pointer-clause-entries c = tt

pub returns-clause-wanted : goal.returns-clause-wanted
returns-clause-wanted c = c.loop-n.invariant.1

pub returns-clause-entries : goal.returns-clause-entries
returns-clause-entries c = c.loop-n.invariant.2

pub returns-clause-broken : goal.returns-clause-broken
returns-clause-broken c = tt
