use Rattle.mg_reading.specs.ImageView.{pages_in}
use Rattle.mg_reading.proofs.WantedLemmas.{wanted_where_ok}
use Rattle.mg_reading.proofs.image.Image.is_as_wanted.Goals as goal

pub returns-then-is_taken : goal.returns-then-is_taken
returns-then-is_taken c = λ checks is.
    rw c.is_ok.ensures.value
    (wanted_where_ok c.args.self.now.size (pages_in c.args.self.now) c.args.n
    (record { 0 = c.args.n }) checks c.args.test is (c.is_taken.ensures.below c.if-is_taken.true)
    (c.is_taken.ensures.used c.if-is_taken.true))
