use Rattle.std.proofs.Common.{◌≡◌, ◌∙◌, sym, ap, subst, true, ℕ}
use Rattle.std.specs.Prelude.{unwrap_or}
use Rattle.mg_base.specs.Geometry.{is_page_size}
use Rattle.mg_words.specs.declared.reading.TheConstants.{USUAL_PAGE}
use Rattle.mg_words.specs.Words.{texts}
use Rattle.mg_words.specs.declared.asked.Asked.{Asked as AnyAsked}
use Rattle.mg_words.proofs.WordsLemmas.{run_once, size_is}
use Rattle.mg_words.proofs.reading.wanted_page.Goals as goal

pub returns-clause-wanted : goal.returns-clause-wanted
returns-clause-wanted c = record {
  asked = λ asked run. c.unwrap_or.ensures ∙ ap (λ (a : AnyAsked). unwrap_or a.page USUAL_PAGE)
      (run_once (texts c.args.words.now) c.in-Some.asked asked c.in-Some.ensures run);
  none = λ no. absurd (no c.in-Some.asked c.in-Some.ensures);
}

pub returns-clause-size : goal.returns-clause-size
returns-clause-size c = subst (λ (n : ℕ). is_page_size n ≡ true) (sym c.unwrap_or.ensures)
    (size_is (texts c.args.words.now) c.in-Some.asked c.in-Some.ensures)
