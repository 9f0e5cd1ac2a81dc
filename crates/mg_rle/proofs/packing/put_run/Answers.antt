use Rattle.std.proofs.lemmas.Bool.{both_ways}
use Rattle.mg_rle.proofs.WritingLemmas.{puts_repeat, puts_literal}
use Rattle.mg_rle.proofs.ReadingLemmas.{kept_front, longer_keeps_front, keeps_front_twice}
use Rattle.mg_rle.proofs.packing.put_run.Goals as goal

pub returns-in_ok-push-2-clause-ok : goal.returns-in_ok-push-2-clause-ok
returns-in_ok-push-2-clause-ok c =
    puts_repeat c.args.out.now.items c.push.new.self.items _ _ _ (c.triple_begins.ensures.0 c.if-triple_begins.true) c.repeat_len-count.ensures c.in_ok-push.ensures.items c.in_ok-push-2.ensures.items

pub returns-in_ok-extend_from_slice-clause-ok : goal.returns-in_ok-extend_from_slice-clause-ok
returns-in_ok-extend_from_slice-clause-ok c =
    puts_literal c.args.out.now.items c.push-else-triple_begins.new.self.items _ _ _ c.requires (λ triple. both_ways _ c.if-triple_begins.false (c.triple_begins.ensures.1 triple)) c.literal_len-count.ensures c.in_ok-push-3.ensures.items c.in_ok-extend_from_slice.ensures.items

pub returns-in_ok-push-2-clause-front : goal.returns-in_ok-push-2-clause-front
returns-in_ok-push-2-clause-front c = keeps_front_twice _ _ _ (longer_keeps_front _ _ _ c.in_ok-push.ensures.items) (longer_keeps_front _ _ _ c.in_ok-push-2.ensures.items)

pub returns-in_ok-extend_from_slice-clause-front : goal.returns-in_ok-extend_from_slice-clause-front
returns-in_ok-extend_from_slice-clause-front c = keeps_front_twice _ _ _ (longer_keeps_front _ _ _ c.in_ok-push-3.ensures.items) (longer_keeps_front _ _ _ c.in_ok-extend_from_slice.ensures.items)

pub returns-in_err-push-clause-front : goal.returns-in_err-push-clause-front
returns-in_err-push-clause-front c = kept_front _ _ c.in_err-push.ensures.items

pub returns-in_err-push-2-clause-front : goal.returns-in_err-push-2-clause-front
returns-in_err-push-2-clause-front c = keeps_front_twice _ _ _ (longer_keeps_front _ _ _ c.in_ok-push.ensures.items) (kept_front _ _ c.in_err-push-2.ensures.items)

pub returns-in_err-push-3-clause-front : goal.returns-in_err-push-3-clause-front
returns-in_err-push-3-clause-front c = kept_front _ _ c.in_err-push-3.ensures.items

pub returns-in_err-extend_from_slice-clause-front : goal.returns-in_err-extend_from_slice-clause-front
returns-in_err-extend_from_slice-clause-front c = keeps_front_twice _ _ _ (longer_keeps_front _ _ _ c.in_ok-push-3.ensures.items) (kept_front _ _ c.in_err-extend_from_slice.ensures.items)
