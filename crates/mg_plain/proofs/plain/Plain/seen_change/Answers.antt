-- A change among the transaction's own decides, and else one of its base.
use Rattle.std.proofs.Common.{sym, ◌∙◌, ap, refl, ◌≡◌, length, List, vec_len}
use Rattle.mg_model.specs.declared.change.Change.{Change}
use Rattle.mg_model.specs.declared.change.Step.{Step}
use Rattle.mg_model.specs.Machine.{changes_by}
use Rattle.mg_plain.specs.Kept.{kept}
use Rattle.mg_plain.specs.Keeping.{base_in}
use Rattle.mg_plain.specs.Lookups.{change_at}
use Rattle.mg_plain.proofs.LookupLemmas.{change_in_front, change_behind}
use Rattle.mg_plain.proofs.plain.Plain.seen_change.Goals as goal

pub returns-in-Some : goal.returns-in-Some
returns-in-Some c =
    sym (change_in_front (changes_by c.args.t c.args.self.now.steps.items) (base_in (kept c.args.self.now) c.args.t) c.args.table.now c.args.key.now c.in-Some.change.now (ap (λ (s : List Step). change_at (changes_by c.args.t s) c.args.table.now c.args.key.now) (sym c.deref.ensures.value) ∙ sym c.in-Some.ensures))

pub returns : goal.returns
returns c =
    let behind = change_behind (changes_by c.args.t c.args.self.now.steps.items) (base_in (kept c.args.self.now) c.args.t) c.args.table.now c.args.key.now (ap (λ (s : List Step). change_at (changes_by c.args.t s) c.args.table.now c.args.key.now) (sym c.deref.ensures.value) ∙ sym c.in_default.ensures) in
    let counted : vec_len c.args.self.now.database ≡ length c.args.self.now.database.items =
    sym c.deref-2.ensures.len ∙ ap length c.deref-2.ensures.value in
    let older : c.split_at.result.1.now ≡ base_in (kept c.args.self.now) c.args.t =
    rw (c.split_at.ensures.back, c.deref-2.ensures.value, c.saturating_sub-newer.ensures, c.len.ensures, c.known.ensures, counted) refl in
    c.newest_change.ensures ∙ (ap (λ (cs : List Change). change_at cs c.args.table.now c.args.key.now) older ∙ sym behind)
