use Rattle.std.proofs.Common.{◌≡◌, ◌++◌, ◌∷◌, ◌≤◌, ◌-◌, ◌⊎◌, [], List, ℕ, length, take, None, refl, sym, ap, subst, ◌∙◌, ◌+◌, inl, arith, append_assoc}
use Rattle.std.proofs.lemmas.Bool.{MatchBool-at_false}
use Rattle.std.proofs.lemmas.List.{length-take-le, take-take}
use Rattle.cg_value.specs.declared.profile.Profile.{Profile}
use Rattle.cg_snap.specs.Course.{HasProgressed, PieceDid}
use Rattle.cg_snap.specs.GoingOn.{AreToldBy, told_by}
use Rattle.cg_snap.specs.GoingOnEntry.{BeginsBlock, EndsBlock, found_entry}
use Rattle.cg_snap.specs.GoingOnState.{HasFound, HasTold, IsPassingOver, IsReading, going_stream}
use Rattle.cg_snap.specs.Streams.{snap_stream}
use Rattle.cg_snap.specs.declared.event.Event.TheVariants as events
use Rattle.cg_snap.specs.declared.going_on.Found.{Found}
use Rattle.cg_snap.specs.declared.going_on_records.GoingOnRecords.{GoingOnRecords}
use Rattle.cg_snap.proofs.GoingOnGiven.{block_begun, block_ended}
use Rattle.cg_snap.proofs.GoingOnPulls.{block_none, did_none, none_left, piece_along, ran_on, some_none, taken_on}
use Rattle.cg_snap.proofs.GoingOnTakes.{found_given, found_more, given_before, given_reading}
use Rattle.cg_snap.proofs.States.{at_false}
use Rattle.cg_snap.proofs.going_on_records.GoingOnRecords.pull_entry.Goals as goal

pub returns-in-Given-clause-pulled : goal.returns-in-Given-clause-pulled
returns-in-Given-clause-pulled c form p es h =
    let s = c.args.self.now in
    let profile = form.0 in
    let limits = form.1 in
    let piece : List ℕ = c.args.piece.now in
    let front : List ℕ = c.split_at.result.0.now in
    let used : ℕ = c.pull-progress.result.used in
    let inner = c.pull-progress.new.meter in
    let t : GoingOnRecords = record { limits = s.limits; block = c.pull-progress.new.records; meter = c.begin_at_record.new.self; left_out = s.left_out; is_passing = s.is_passing } in
    let old : HasFound s form p es = h.state in
    let r : IsReading s profile limits p (told_by es) = MatchBool-at_false _ _ c.if-self.false old.told.state in
    let e = c.in-Given.field-0 in
    let a : PieceDid (snap_stream profile) t.block inner r.block [] front used (events.Given e) = rw c.in-Given.is at (c.pull-progress.ensures.pulled profile r.block [] r.along) in
    let within : used ≤ length front = c.pull-progress.ensures.used in
    let one : (s.left_out ≡ None) ⊎ (length front ≤ 1) = inl (none_left s.left_out (sym c.is_some.ensures ∙ c.if-is_some.false)) in
    let f : Found = found_entry e in
    let same = c.begin_at_record.ensures.limits in
    let offset = c.begin_at_record.ensures.offset in
    let len = c.begin_at_record.ensures.record in
    let limits_is = c.pull-progress.ensures.limits ∙ old.told.meter_is in
    let before = given_before profile limits s p (told_by es) r front t inner used e a.0 within a.1 a.2 limits_is same offset len refl one in
    let reading = given_reading profile limits s p (told_by es) r front t inner used e a.0 within a.1 a.2 limits_is same offset len refl one in
    let took : (n : ℕ) → n ≤ used → p ++ take n front ≡ p ++ take n piece =
    λ n le. ap (λ (u : List ℕ). p ++ u) (ap (λ (u : List ℕ). take n u) c.split_at.ensures.front ∙ take-take n c.room.result piece (omega (arith, le, within, c.split_at.ensures.front_len))) in
    let here : p ++ take used front ≡ p ++ take used piece = took used (omega arith) in
    let told : HasTold t profile limits (p ++ take used front) (told_by es ++ inl e ∷ []) = record {
      profile_is = c.pull-progress.ensures.form ∙ old.told.profile_is;
      limits_is = old.told.limits_is;
      meter_is = same ∙ limits_is;
      state = at_false (IsPassingOver t profile limits (p ++ take used front) (told_by es ++ inl e ∷ [])) (IsReading t profile limits (p ++ take used front) (told_by es ++ inl e ∷ [])) s.is_passing c.if-self.false reading;
    } in
    let state : HasFound t form (p ++ take used piece) (es ++ f ∷ []) = found_given form s t p es old piece (λ i. omega (arith, c.type_inv.piece i)) used f (subst (λ (u : List ℕ). HasTold t profile limits u (told_by es ++ inl e ∷ [])) here told) tt in
    let size : length (take used piece) ≡ used = length-take-le used piece (omega (arith, within, c.split_at.ensures.front_len, c.room.ensures.bytes)) in
    let along : HasProgressed (going_stream form) t c.count_to.new.self (p ++ take used piece) (es ++ f ∷ []) = taken_on form s t c.args.meter.now c.count_to.new.self t.meter p (take used piece) es (es ++ f ∷ []) h reading.front reading.block (sym here ∙ reading.split) reading.ended reading.along.counted
    (c.count_to.ensures.offset ∙ ap (λ (n : ℕ). c.args.meter.now.offset + n) (sym size)) (c.count_to.ensures.record ∙ sym len) c.count_to.ensures.limits
    (omega (arith, size, within, c.room.ensures.stream, c.split_at.ensures.front_len)) (omega (arith, size, within, c.room.ensures.record, c.split_at.ensures.front_len)) state in
    let whole : r.front ++ (r.block ++ take used front) ≡ p ++ take used piece = sym (append_assoc r.front r.block (take used front)) ∙ ap (λ (u : List ℕ). u ++ take used front) (sym r.split) ∙ here in
    rw c.in-Given.is (a.0, subst (λ (u : List ℕ). AreToldBy profile limits u (told_by es)) (took (used - 1) (omega arith)) before, along, subst (BeginsBlock profile t) whole (block_begun profile t inner r.block front used e a.0 within a.1 a.2 same offset len r.front r.ended))

pub returns-in-Given-clause-block : goal.returns-in-Given-clause-block
returns-in-Given-clause-block c profile block along =
    let s = c.args.self.now in
    let piece : List ℕ = c.args.piece.now in
    let front : List ℕ = c.split_at.result.0.now in
    let used : ℕ = c.pull-progress.result.used in
    let inner = c.pull-progress.new.meter in
    let t : GoingOnRecords = record { limits = s.limits; block = c.pull-progress.new.records; meter = c.begin_at_record.new.self; left_out = s.left_out; is_passing = s.is_passing } in
    let e = c.in-Given.field-0 in
    let a : PieceDid (snap_stream profile) t.block inner block [] front used (events.Given e) = rw c.in-Given.is at (c.pull-progress.ensures.pulled profile block [] along) in
    let within : used ≤ length front = c.pull-progress.ensures.used in
    let here : take used front ≡ take used piece = ap (λ (u : List ℕ). take used u) c.split_at.ensures.front ∙ take-take used c.room.result piece (omega (arith, within, c.split_at.ensures.front_len)) in
    rw c.in-Given.is (subst (λ (u : List ℕ). EndsBlock profile t (block ++ u) e) here (block_ended profile t inner block front used e a.0 within a.1 a.2 c.begin_at_record.ensures.limits c.begin_at_record.ensures.offset c.begin_at_record.ensures.record))

pub returns-in-Given-clause-some : goal.returns-in-Given-clause-some
returns-in-Given-clause-some c = rw c.in-Given.is (rw c.in-Given.is at c.pull-progress.ensures.progress)

pub returns-in_default : goal.returns-in_default
returns-in_default c = record {
  pulled = λ form p es h.
      let s = c.args.self.now in
      let profile = form.0 in
      let limits = form.1 in
      let piece : List ℕ = c.args.piece.now in
      let front : List ℕ = c.split_at.result.0.now in
      let used : ℕ = c.pull-progress.result.used in
      let what = c.pull-progress.result.what in
      let t : GoingOnRecords = record { limits = s.limits; block = c.pull-progress.new.records; meter = c.pull-progress.new.meter; left_out = s.left_out; is_passing = s.is_passing } in
      let old : HasFound s form p es = h.state in
      let r : IsReading s profile limits p (told_by es) = MatchBool-at_false _ _ c.if-self.false old.told.state in
      let within : used ≤ length front = c.pull-progress.ensures.used in
      let along = piece_along profile t.block t.meter r.block front used what c.in_default.not-Given (c.pull-progress.ensures.pulled profile r.block [] r.along) in
      let none : s.left_out ≡ None = none_left s.left_out (sym c.is_some.ensures ∙ c.if-is_some.false) in
      let reading : IsReading t profile limits (p ++ take used front) (told_by es) = ran_on profile limits s p (told_by es) r front t used none refl along in
      let here : p ++ take used front ≡ p ++ take used piece = ap (λ (u : List ℕ). p ++ u) (ap (λ (u : List ℕ). take used u) c.split_at.ensures.front ∙ take-take used c.room.result piece (omega (arith, within, c.split_at.ensures.front_len))) in
      let told : HasTold t profile limits (p ++ take used front) (told_by es) = record {
        profile_is = c.pull-progress.ensures.form ∙ old.told.profile_is;
        limits_is = old.told.limits_is;
        meter_is = c.pull-progress.ensures.limits ∙ old.told.meter_is;
        state = at_false (IsPassingOver t profile limits (p ++ take used front) (told_by es)) (IsReading t profile limits (p ++ take used front) (told_by es)) s.is_passing c.if-self.false reading;
      } in
      let state : HasFound t form (p ++ take used piece) es = found_more form s t p es old piece (λ i. omega (arith, c.type_inv.piece i)) used (subst (λ (u : List ℕ). HasTold t profile limits u (told_by es)) here told) in
      let size : length (take used piece) ≡ used = length-take-le used piece (omega (arith, within, c.split_at.ensures.front_len, c.room.ensures.bytes)) in
      did_none form t c.count_to.new.self p es piece used what c.in_default.not-Given (
      taken_on form s t c.args.meter.now c.count_to.new.self t.meter p (take used piece) es es h reading.front reading.block (sym here ∙ reading.split) reading.ended reading.along.counted
      (c.count_to.ensures.offset ∙ ap (λ (n : ℕ). c.args.meter.now.offset + n) (sym size)) c.count_to.ensures.record c.count_to.ensures.limits
      (omega (arith, size, within, c.room.ensures.stream, c.split_at.ensures.front_len)) (omega (arith, size, within, c.room.ensures.record, c.split_at.ensures.front_len)) state
      );
  block = λ profile block along. block_none profile _ _ c.pull-progress.result.what c.in_default.not-Given;
  used = omega (arith, c.pull-progress.ensures.used, c.split_at.ensures.front_len, c.room.ensures.bytes);
  some = some_none c.pull-progress.result.used c.pull-progress.result.what c.in_default.not-Given;
  form = ap (λ (p : Profile). (p, c.args.self.now.limits)) c.pull-progress.ensures.form;
  limits = c.count_to.ensures.limits;
}
