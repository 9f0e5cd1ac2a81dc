-- What is true of every engine as a keeper of records.
use Rattle.std.proofs.Common.{◌≡◌, ◌∙◌, Some, ap, sym}
use Rattle.mg_base.specs.Disk.{Meaning}
use Rattle.mg_engine_meaning_laws.specs.LawfulLaws.{walks_are_whole}
use Rattle.mg_engine_meaning_laws.specs.Meaning.{Places, means}
use Rattle.mg_engine_step_laws.specs.reads.WalkAnswers.{walks_begin}
use Rattle.mg_generation_laws.specs.KeptShowLaws.{chain_shows_view}
use Rattle.mg_records.specs.Reading.{WalksAreWhole}
use Rattle.mg_records.specs.Sessions.{SessionsAreOne}
use Rattle.mg_seek.specs.ViewLaws.{walks_show_views}

-- the walks that begin come to all rows of the view
pub walks_come_to_all : {D P : Type 0} (m : Meaning D) (places : Places P) → WalksAreWhole (means m places)
walks_come_to_all m places = walks_are_whole m places (walks_begin (walks_show_views
    (λ o h table key chain t stand runs. chain_shows_view o h table key chain stand t runs)))

inside : {A : Type 0} (a b : A) → Some a ≡ Some b → a ≡ b
inside a b same = cc

-- a transaction was begun by one session
pub sessions_are_one : {D P : Type 0} (m : Meaning D) (places : Places P) → SessionsAreOne (means m places)
sessions_are_one m places core t n k first second = sym first.by
    ∙ (ap (λ work. work.session) (inside first.work second.work (sym first.its ∙ second.its)) ∙ second.by)
