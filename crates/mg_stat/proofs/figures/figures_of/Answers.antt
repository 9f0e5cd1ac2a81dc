use Rattle.std.proofs.Common.{◌+◌, ◌-◌, ◌/◌, ◌∙◌, List, ap, arith, refl, ℕ}
use Rattle.mg_base.specs.Fields.{u16_at, u32_at}
use Rattle.mg_base.specs.Image.{page_at}
use Rattle.mg_header.specs.declared.header.TheConstants.{INTERVAL_AT, MINOR_AT, NEXT_AT, OAT_AT, OIT_AT, OST_AT}
use Rattle.mg_stat.proofs.FigureLemmas.{due_is, header_is, header_long}
use Rattle.mg_tip.specs.TipPage.{places}
use Rattle.mg_stat.proofs.figures.figures_of.Goals as goal

pub get_u32-next-requires : goal.get_u32-next-requires
get_u32-next-requires c =
    let at = header_is c.args.size c.args.pages.now c.index-pages-0.result
    c.as_slice-header.result.now c.requires.some c.index-pages-0.is c.as_slice-header.ensures in
    let long = header_long c.args.size c.args.pages.now c.as_slice-header.result.now
    c.requires.image at in omega (arith, long)

pub get_u32-oit-requires : goal.get_u32-oit-requires
get_u32-oit-requires c =
    let at = header_is c.args.size c.args.pages.now c.index-pages-0.result
    c.as_slice-header.result.now c.requires.some c.index-pages-0.is c.as_slice-header.ensures in
    let long = header_long c.args.size c.args.pages.now c.as_slice-header.result.now
    c.requires.image at in omega (arith, long)

pub get_u32-interval-requires : goal.get_u32-interval-requires
get_u32-interval-requires c =
    let at = header_is c.args.size c.args.pages.now c.index-pages-0.result
    c.as_slice-header.result.now c.requires.some c.index-pages-0.is c.as_slice-header.ensures in
    let long = header_long c.args.size c.args.pages.now c.as_slice-header.result.now
    c.requires.image at in omega (arith, long)

pub get_u16-requires : goal.get_u16-requires
get_u16-requires c =
    let at = header_is c.args.size c.args.pages.now c.index-pages-0.result
    c.as_slice-header.result.now c.requires.some c.index-pages-0.is c.as_slice-header.ensures in
    let long = header_long c.args.size c.args.pages.now c.as_slice-header.result.now
    c.requires.image at in omega (arith, long)

pub get_u32-requires : goal.get_u32-requires
get_u32-requires c =
    let at = header_is c.args.size c.args.pages.now c.index-pages-0.result
    c.as_slice-header.result.now c.requires.some c.index-pages-0.is c.as_slice-header.ensures in
    let long = header_long c.args.size c.args.pages.now c.as_slice-header.result.now
    c.requires.image at in omega (arith, long)

pub returns : goal.returns
returns c =
    let at = header_is c.args.size c.args.pages.now c.index-pages-0.result
    c.as_slice-header.result.now c.requires.some c.index-pages-0.is c.as_slice-header.ensures in
    let next = c.get_u32-next.ensures ∙ ap (λ (b : List ℕ). u32_at b NEXT_AT) at in
    let oit = c.get_u32-oit.ensures ∙ ap (λ (b : List ℕ). u32_at b OIT_AT) at in
    let ost = c.get_u32-ost.ensures ∙ ap (λ (b : List ℕ). u32_at b OST_AT) at in
    let interval = c.get_u32-interval.ensures ∙ ap (λ (b : List ℕ). u32_at b INTERVAL_AT) at in
    record {
      sized = refl;
      minor = c.get_u16.ensures ∙ ap (λ (b : List ℕ). u16_at b MINOR_AT) at;
      next = next;
      oit = oit;
      oat = c.get_u32.ensures ∙ ap (λ (b : List ℕ). u32_at b OAT_AT) at;
      ost = ost;
      interval = interval;
      due = due_is c.get_u32-interval.result c.get_u32-ost.result c.get_u32-oit.result
          c.saturating_sub.result (u32_at (page_at c.args.size c.args.pages.now 0) INTERVAL_AT)
          (u32_at (page_at c.args.size c.args.pages.now 0) OST_AT)
          (u32_at (page_at c.args.size c.args.pages.now 0) OIT_AT) interval ost oit
          c.saturating_sub.ensures;
      used = c.used_pages-used.ensures;
      tips = c.tips_of.ensures ∙ ap (λ (n : ℕ). (n - 1) / places c.args.size + 1) next;
    }
