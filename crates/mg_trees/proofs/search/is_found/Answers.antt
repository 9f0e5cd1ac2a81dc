use Rattle.std.proofs.Common.{◌≡◌, ◌↔◌, ◌∙◌, ap, subst, rules, ℕ, IsTrue}
use Rattle.std.specs.Prelude.{IfOk}
use Rattle.mg_image.specs.Indexes.{Finds}
use Rattle.mg_reading.specs.ImageView.{pages_in}
use Rattle.mg_trees.specs.Searches.{first_page}
use Rattle.mg_trees.proofs.SearchLemmas.{root_first, searched_root}
use Rattle.mg_trees.proofs.search.is_found.Goals as goal

pub is_found_from-requires : goal.is_found_from-requires
is_found_from-requires c = rw c.as_slice-2.ensures (searched_root c.args.image.now.size
    (pages_in c.args.image.now) c.args.entry.now c.args.index.now.root.0 c.args.tree.now
    c.in-Some.top.now c.in-Some.below.now c.requires.tree (search rules))

pub returns : goal.returns
returns c =
    let first : first_page c.as_slice-2.result.now ≡ c.args.index.now.root.0 =
    ap first_page c.as_slice-2.ensures ∙ root_first c.args.image.now.size
    (pages_in c.args.image.now) c.args.index.now.root.0 c.args.tree.now c.in-Some.top.now
    c.in-Some.below.now c.requires.tree (search rules) in
    subst (λ (n : ℕ). IfOk c.is_found_from.result (λ found. IsTrue found
    ↔ Finds (pages_in c.args.image.now) c.args.entry.now n)) first c.is_found_from.ensures
