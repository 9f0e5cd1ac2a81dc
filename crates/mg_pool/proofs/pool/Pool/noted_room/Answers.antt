use Rattle.std.proofs.Common.{◌∙◌, sym}
use Rattle.mg_pool.proofs.RoomsLemmas.{each_noted}
use Rattle.mg_pool.proofs.pool.Pool.noted_room.Goals as goal

pub returns : goal.returns
returns g c = λ told image held. each_noted c.get.result _ (λ n is. c.requires.noted told image held
    c.args.page.0 n (sym c.get.ensures ∙ is))
