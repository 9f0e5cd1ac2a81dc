use Rattle.mg_release.proofs.ReleaseLemmas.{released_at}
use Rattle.mg_release.proofs.releasing.release_page.Goals as goal

pub returns : goal.returns
returns c = released_at c.args.size c.args.pages.now c.args.n c.bit_page-at.result c.bits_of.result
    c.clear_bit.new.page c.index-pages-at.result c.bit_page-at.ensures c.bits_of.ensures.bits
    c.requires.there c.clear_bit.ensures
