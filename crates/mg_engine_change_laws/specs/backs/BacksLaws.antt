-- A transaction is taken back to a point, or given up.
use Rattle.std.proofs.Common.{◌≡◌, sym, subst, ◌∙◌, ℕ, false, List, [], ◌∷◌, Option, Some}
use Rattle.mg_base.specs.Disk.{Meaning}
use Rattle.mg_base.specs.Image.{Image}
use Rattle.mg_base.specs.declared.numbers.RecId.{RecId}
use Rattle.mg_engine_meaning_laws.specs.PlainTables.{HasPlainTables}
use Rattle.mg_engine_step_laws.specs.backs.Again.{AreTaken, rolling, without_key}
use Rattle.mg_engine_step_laws.specs.backs.Midway.{EnginesGoBack, IsMidway, MidwaysBegin}
use Rattle.mg_engine_step_laws.specs.backs.Shown.{ShowsFirst, ShowsMidway}
use Rattle.mg_engine_step_laws.specs.commits.PageWrites.{KeepAsking}
use Rattle.mg_engine_change_laws.specs.given_up.GivenUp.{EnginesGiveUp, GivesUp}
use Rattle.mg_engine_step_laws.specs.writes.GoesOn.{HasGoneOn}
use Rattle.mg_engine_change_laws.specs.backs.BackFinds.{BackFinds}
use Rattle.mg_engine_change_laws.specs.backs.Backs.{BacksAreGivenUp, BacksGoOn, BeginsBack, EndsOver}
use Rattle.mg_engine_change_laws.specs.backs.Memory.{BacksFollow, IsBackInMemory}
use Rattle.mg_engine_change_laws.specs.keys.TakingSteps.{KeysGoOn, StandsMidway, TakesKeysOf, no_keys, one_entry, one_key, some_read}
use Rattle.mg_engine_change_laws.specs.backs.ToTake.{AreKeysOf, KeysAreTaken, SinceAreTaken, since_point}
use Rattle.mg_grown_catalog_laws.specs.Grown.{CatalogGrows}
use Rattle.mg_image.specs.Form.{packed_form}
use Rattle.mg_lasting_laws.specs.Crashes.{HoldsAcknowledged, LeavesSince, may_last}
use Rattle.mg_lasting_laws.specs.Lasting.{LastsOn}
use Rattle.mg_model.specs.History.{Entries, Entry}
use Rattle.mg_model.specs.Laws.{OpeningsBegin}
use Rattle.mg_model.specs.Legal.{IsLawful, is_durable}
use Rattle.mg_model.specs.Machine.{deeds_by, steps}
use Rattle.mg_model.specs.declared.change.Change.{Change}
use Rattle.mg_model.specs.declared.change.Point.{Point}
use Rattle.mg_model.specs.declared.opening.Opening.{Opening}
use Rattle.mg_pool.specs.Pool.{shown}
use Rattle.mg_pool.specs.declared.pool.Pool.{Pool}
use Rattle.mg_pool_overlay_laws.specs.Needs.{Asked, Sessions}
use Rattle.mg_engine_step_laws.specs.standing.Following.{FollowsEntry}
use Rattle.mg_engine_step_laws.specs.standing.QuietPages.{FindsAfter}
use Rattle.mg_engine_step_laws.specs.standing.Standing.{ShowsHistory, Standing, Stands}
use Rattle.mg_undo.specs.Machine.{first_of}
use Rattle.mg_undo.specs.declared.changes.Change.{Change as Kept}
use Rattle.mg_value.specs.declared.value.Value.{Value}

-- where the keys are those of the changes, none is left at the end
none_left : {D L : Type 0} (m : Meaning D) (size : ℕ) (o : Opening) (h : Entries) (e : Entry) (t : ℕ) (s : Standing)
    (speaker : List ℕ → Value → Option RecId) → KeysAreTaken → (all left rest : List Change)
    (before after : Pool D L) (i j : Image) → TakesKeysOf m size o h e t s speaker all left rest before after i j
    → AreKeysOf all left → rest ≡ []
none_left m size o h e t s speaker law all left rest before after i j no_keys are = law.end left are
none_left m size o h e t s speaker law all left rest before after i j (one_key {keys = keys} c mid k taken more) are =
    none_left m size o h e t s speaker law keys (without_key c.table c.key left) rest mid after k j more
    (law.next c keys left are)
none_left m size o h e t s speaker law all left rest before after i j (some_read mid keeps tells page_size more) are =
    none_left m size o h e t s speaker law all left rest mid after i j more are
none_left m size o h e t s speaker law all left rest before after i j (one_entry mid k laid more) are =
    none_left m size o h e t s speaker law all left rest mid after k j more are

module _ {D L : Type 0} (m : Meaning D) (since : SinceAreTaken) (begin : MidwaysBegin packed_form D L m)
    (first_shows : ShowsFirst packed_form) (go_on : KeysGoOn D L m) (openings : OpeningsBegin) (o : Opening)
    (h : Entries) (e : Entry) (point : Point) (t : ℕ) (s : Standing) (start : Pool D L) (k : Image) (asked : Asked)
    (session : Sessions) (begins : BeginsBack m o h e point t s start k asked session) where
  abbrev whole : List Change
  whole = since_point point (deeds_by t (steps o h))

  abbrev first : ShowsHistory packed_form start.geometry.size o h s (shown start.dirty k)
  first = begins.stands.shows

  taken : AreTaken o h e t (since_point point (deeds_by t (steps o h)))
  taken = since o h e t point begins.goes.back

  midway_first : StandsMidway m start.geometry.size o h e t whole whole s start start (shown start.dirty k) first k
      asked session
  midway_first = record {
    cache = begin o h e point s start k asked session t (since_point point (deeds_by t (steps o h))) begins.stands
        begins.lasts begins.pool begins.held begins.tells begins.goes taken;
    pages = first_shows start.geometry.size o h e t (since_point point (deeds_by t (steps o h))) s
        (shown start.dirty k) begins.stands.shows;
  }

  midway_last : (keys rest : List Change) (after : Pool D L) (j : Image)
      → TakesKeysOf m start.geometry.size o h e t s begins.stands.shows.versions.speaker keys whole rest start after k j
      → StandsMidway m start.geometry.size o h e t whole rest s start after (shown start.dirty k) first j asked session
  midway_last keys rest after j takes = go_on start.geometry.size o h e point s start start after (shown start.dirty k)
      begins.stands.shows k j asked session t whole whole rest keys (openings o begins.stands.opening)
      begins.stands.legal begins.stands.memory begins.goes takes midway_first

  module _ (find : BackFinds) (law : KeysAreTaken) (go_back : EnginesGoBack packed_form D L m) (given : List Kept)
      (new : Standing) (after : Pool D L) (j : Image) (rest : List Change) (lawful : IsLawful o h e)
      (follows : FollowsEntry o h e s new) (memory : IsBackInMemory t point given s new)
      (takes : TakesKeysOf m start.geometry.size o h e t s begins.stands.shows.versions.speaker (first_of whole) whole
      rest start after k j) (ends : EndsOver m start after j) where
    none : rest ≡ []
    none = none_left m start.geometry.size o h e t s begins.stands.shows.versions.speaker law (first_of whole) whole
        rest start after k j takes (law.first whole)

    at_end : StandsMidway m start.geometry.size o h e t whole [] s start after (shown start.dirty k) first j asked
        session
    at_end = subst (λ (cs : List Change). StandsMidway m start.geometry.size o h e t whole cs s start after
        (shown start.dirty k) first j asked session) none (midway_last (first_of whole) rest after j takes)

    pub has_gone_on : HasGoneOn m packed_form start.geometry.size o h e new start after j asked session
    has_gone_on = subst (λ (n : ℕ). (stands : Stands packed_form n o h s (Some (shown start.dirty k)))
        → start.dirty.size ≡ n → FindsAfter packed_form n o h e s new (shown after.dirty j)
        → IsMidway m packed_form n o h e t [] s start after j asked session
        → ShowsMidway packed_form n o h e t whole [] s (shown start.dirty k) stands.shows (shown after.dirty j)
        → HasGoneOn m packed_form n o h e new start after j asked session) ends.size
        (λ stands size_is finds cache pages. go_back o h e point s new start after k j asked session t whole stands
        size_is ends.pool ends.held begins.goes taken lawful follows finds cache pages)
        begins.stands begins.pool.page_size
        (find start.geometry.size o h e point t whole s new (shown start.dirty k) (shown after.dirty j)
        begins.stands.shows begins.goes.back begins.goes.active taken follows memory.number
        (λ name table some. sym (memory.table name) ∙ some) at_end.pages)
        at_end.cache at_end.pages

  module _ (give_up : EnginesGiveUp D L m) (refused : Entry) (mid new : Standing) (after : Pool D L) (j : Image)
      (now_asked : Asked) (now_session : Sessions) (keys rest : List Change) (grows : CatalogGrows o h)
      (lawful : IsLawful o h refused) (ends_lawful : IsLawful o (refused ∷ h) (rolling t))
      (passing : is_durable refused ≡ false) (no_failure : may_last refused ≡ false)
      (gives : GivesUp o h refused (rolling t) t s mid new)
      (keep_asking : KeepAsking o (rolling t ∷ refused ∷ h) asked now_asked session now_session)
      (takes : TakesKeysOf m start.geometry.size o h e t s begins.stands.shows.versions.speaker keys whole rest start
      after k j) (ends : EndsOver m start after j)
      (plain : HasPlainTables start.geometry.size s.state (shown after.dirty j)) where
    in_the_middle : StandsMidway m start.geometry.size o h e t whole rest s start after (shown start.dirty k) first j
        asked session
    in_the_middle = midway_last keys rest after j takes

    pub is_given_up : Stands packed_form start.geometry.size o (rolling t ∷ refused ∷ h) new
        (Some (shown after.dirty j))
        × LastsOn m packed_form o (rolling t ∷ refused ∷ h) after now_asked now_session
        × LeavesSince m start.disk after.disk (HoldsAcknowledged packed_form start.geometry.size o h)
    is_given_up = subst (λ (n : ℕ). (stands : Stands packed_form n o h s (Some (shown start.dirty k)))
        → IsMidway m packed_form n o h e t rest s start after j asked session
        → ShowsMidway packed_form n o h e t whole rest s (shown start.dirty k) stands.shows (shown after.dirty j)
        → HasPlainTables n s.state (shown after.dirty j)
        → Stands packed_form n o (rolling t ∷ refused ∷ h) new (Some (shown after.dirty j))
        × LastsOn m packed_form o (rolling t ∷ refused ∷ h) after now_asked now_session
        × LeavesSince m start.disk after.disk (HoldsAcknowledged packed_form n o h)) ends.size
        (λ stands cache pages same. give_up o h e refused t whole rest s mid new start after k j asked now_asked session
        now_session stands ends.pool ends.held grows same taken lawful ends_lawful passing no_failure gives keep_asking cache
        pages)
        begins.stands in_the_middle.cache in_the_middle.pages plain

pub backs_go_on : (D L : Type 0) (m : Meaning D) → SinceAreTaken → KeysAreTaken → MidwaysBegin packed_form D L m
    → ShowsFirst packed_form → KeysGoOn D L m → OpeningsBegin → BackFinds → BacksFollow
    → EnginesGoBack packed_form D L m → BacksGoOn D L m
backs_go_on D L m since law begin first_shows go_on openings find follow go_back o h e point t given s new start after k
    j asked session rest begins lawful whose answered may leaves memory takes ends = has_gone_on m since begin
    first_shows go_on openings o h e point t s start k asked session begins find law go_back given new after j rest
    lawful (follow o h e point t given s new begins.goes.back whose answered begins.stands.memory begins.goes.active may
    leaves memory) memory takes ends

pub backs_are_given_up : (D L : Type 0) (m : Meaning D) → SinceAreTaken → MidwaysBegin packed_form D L m
    → ShowsFirst packed_form → KeysGoOn D L m → OpeningsBegin → EnginesGiveUp D L m → BacksAreGivenUp D L m
backs_are_given_up D L m since begin first_shows go_on openings give_up o h e refused point t s mid new start after k j
    asked now_asked session now_session keys rest begins grows lawful ends_lawful passing no_failure gives keep_asking
    takes ends plain = is_given_up m since begin first_shows go_on openings o h e point t s start k asked session begins
    give_up refused mid new after j now_asked now_session keys rest grows lawful ends_lawful passing no_failure gives
    keep_asking takes ends plain
