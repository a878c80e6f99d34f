use Rattle.std.proofs.Common.{◌≡◌, ◌≢◌, ℕ, ◌+◌, ◌-◌, ◌<◌, ◌≤◌, ◌⊎◌, List, [], ◌∷◌, ◌++◌, length, take, get_or, refl, sym, ap, subst, ◌∙◌, append-nil, arith, Some, None, inl, inr}
use Rattle.std.proofs.lemmas.Bool.{MatchBool-at_false, eqb-false}
use Rattle.std.proofs.lemmas.List.{get_or-take, length-append, take-take}
use Rattle.cg_value.specs.Entry.{EntryData}
use Rattle.cg_snap.specs.Course.{Advances, AreOfRecord, HasProgressed}
use Rattle.cg_snap.specs.GoingOn.{AreToldBy, block_limits, told_by}
use Rattle.cg_snap.specs.GoingOnState.{HasTold, IsPassingOver, IsReading}
use Rattle.cg_snap.specs.Streams.{snap_stream}
use Rattle.cg_snap.specs.SnapStop.{IsSnapUnstopped, SnapStopOf}
use Rattle.cg_snap.specs.declared.event.Event.TheVariants as events
use Rattle.cg_snap.specs.declared.going_on_records.GoingOnRecords.{GoingOnRecords}
use Rattle.cg_snap.specs.declared.limits.Limits.{Limits}
use Rattle.cg_snap.specs.declared.stop.Stop.{Stop}
use Rattle.cg_snap.proofs.GoingOnStates.{along_unstopped}
use Rattle.cg_snap.proofs.GoingOnTakes.{fault_found, few_none, few_of_record, found_given, found_more, given_before, given_reading, never_whole, next_lines, on_along, on_first, on_other, same_reading}
use Rattle.cg_snap.proofs.States.{at_false}
use Rattle.cg_snap.proofs.going_on_records.GoingOnRecordsRecords.take.Goals as goal
use Rattle.cg_snap.proofs.going_on_records.GoingOnRecordsRecords.take.Goals.{in_default-via-in-Stopped+else-used-eq0, in_default-via-in-OutOfMemory+else-used-eq0-2, in_default-via-in_default}

stopped_given : (stop : Stop) (e : EntryData) → events.Stopped stop ≡ events.Given e → ⊥
stopped_given stop e z = absurd (cc)

starved_given : (e : EntryData) → events.OutOfMemory ≡ events.Given e → ⊥
starved_given e z = absurd (cc)

pub returns-then-self-clause-few : goal.returns-then-self-clause-few
returns-then-self-clause-few c form p es h = few_none c.args._max_lines p _

pub returns-in-Given-clause-few : goal.returns-in-Given-clause-few
returns-in-Given-clause-few c form p es h = few_none c.args._max_lines p _

pub returns-in_default-clause-few : goal.returns-in_default-clause-few
returns-in_default-clause-few c form p es h = few_none c.args._max_lines p _

pub returns-then-self-clause-left : goal.returns-then-self-clause-left
returns-then-self-clause-left c form p es h at =
    found_more form c.args.self.now c.pass.new.self p es h c.args.bytes.now (λ i. omega (arith, c.type_inv.bytes i)) c.pass.result
    (c.pass.ensures.passed (form.0) (form.1) p (told_by es) h.told c.if-self.true)

pub returns-in-Given-clause-left : goal.returns-in-Given-clause-left
returns-in-Given-clause-left c form p es old at =
    let s = c.args.self.now in
    let profile = form.0 in
    let limits = form.1 in
    let bytes : List ℕ = c.args.bytes.now in
    let front : List ℕ = c.split_at.result.0.now in
    let used : ℕ = c.advance-used.result.used in
    let t : GoingOnRecords = record { limits = s.limits; block = c.advance-used.new.records; meter = c.begin_at_record.new.self; left_out = s.left_out; is_passing = s.is_passing } in
    let h : IsReading s profile limits p (told_by es) = MatchBool-at_false _ _ c.if-self.false old.told.state in
    let a : Advances (snap_stream profile) c.advance-used.new.records c.advance-used.new.meter h.block [] front used (events.Given c.in-Given.entry) = rw c.in-Given.is at (c.advance-used.ensures.advances profile h.block [] h.along) in
    let within : used ≤ length front = c.advance-used.ensures.used in
    let took : (n : ℕ) → n ≤ used → p ++ take n front ≡ p ++ take n bytes =
    λ n le. ap (λ (u : List ℕ). p ++ u) (ap (λ (u : List ℕ). take n u) c.split_at.ensures.front ∙ take-take n c.stride.result bytes (omega (arith, le, within, c.split_at.ensures.front_len))) in
    let one : (s.left_out ≡ None) ⊎ (length front ≤ 1) = elim c.stride.ensures.one [ inl z ↦ inl z | inr le ↦ inr (omega (arith, le, c.split_at.ensures.front_len)) ] in
    let e = c.in-Given.entry in
    let limits_is = c.advance-used.ensures.limits ∙ old.told.meter_is in
    let before = given_before profile limits s p (told_by es) h front t c.advance-used.new.meter used e a.0 within a.1 a.2 limits_is c.begin_at_record.ensures.limits c.begin_at_record.ensures.offset c.begin_at_record.ensures.record refl one in
    let reading = given_reading profile limits s p (told_by es) h front t c.advance-used.new.meter used e a.0 within a.1 a.2 limits_is c.begin_at_record.ensures.limits c.begin_at_record.ensures.offset c.begin_at_record.ensures.record refl one in
    let told : HasTold t profile limits (p ++ take used front) (told_by es ++ inl e ∷ []) = record {
      profile_is = c.advance-used.ensures.form ∙ old.told.profile_is;
      limits_is = old.told.limits_is;
      meter_is = c.begin_at_record.ensures.limits ∙ limits_is;
      state = at_false (IsPassingOver t profile limits (p ++ take used front) (told_by es ++ inl e ∷ [])) (IsReading t profile limits (p ++ take used front) (told_by es ++ inl e ∷ [])) s.is_passing c.if-self.false reading;
    } in (
      a.0,
      subst (λ (u : List ℕ). AreToldBy profile limits u (told_by es)) (took (used - 1) (omega arith)) before,
      found_given form s t p es old bytes (λ i. omega (arith, c.type_inv.bytes i)) used (record { entry = Some e; left_out = None; fault = None }) (subst (λ (u : List ℕ). HasTold t profile limits u (told_by es ++ inl e ∷ [])) (took used (omega arith)) told) tt,
    )

pub returns-in-Stopped-clause-left : goal.returns-in-Stopped-clause-left
returns-in-Stopped-clause-left c form p es old at =
    let s = c.args.self.now in
    let profile = form.0 in
    let limits = form.1 in
    let bytes : List ℕ = c.args.bytes.now in
    let front : List ℕ = c.split_at.result.0.now in
    let used : ℕ = c.advance-used.result.used in
    let t : GoingOnRecords = record { limits = s.limits; block = c.advance-used.new.records; meter = c.advance-used.new.meter; left_out = s.left_out; is_passing = s.is_passing } in
    let h : IsReading s profile limits p (told_by es) = MatchBool-at_false _ _ c.if-self.false old.told.state in
    let a : Advances (snap_stream profile) t.block t.meter h.block [] front used (events.Stopped c.in-Stopped.stop) = rw c.in-Stopped.is at (c.advance-used.ensures.advances profile h.block [] h.along) in
    let zero_used : used ≡ 0 = c.if-used-eq0.true in
    let none : h.block ++ take used front ≡ h.block = ap (λ (n : ℕ). h.block ++ take n front) zero_used ∙ append-nil h.block in
    let along : HasProgressed (snap_stream profile) t.block t.meter h.block [] = subst (λ (u : List ℕ). HasProgressed (snap_stream profile) t.block t.meter u []) none a.2 in
    let limits_is = c.advance-used.ensures.limits ∙ old.told.meter_is in
    let reading : IsReading t profile limits p (told_by es) = same_reading profile limits s p (told_by es) h front t refl along in
    let some : 0 < length bytes = omega (arith, c.if-is_empty.ensures) in
    let first : get_or front used 0 ≡ get_or bytes 0 0 = ap (λ (n : ℕ). get_or front n 0) zero_used ∙ (ap (λ (u : List ℕ). get_or u 0 0) c.split_at.ensures.front ∙ get_or-take c.stride.result bytes 0 0 (c.stride.ensures.some some)) in
    let stops : SnapStopOf profile (block_limits limits) (h.block ++ get_or bytes 0 0 ∷ []) c.in-Stopped.stop =
    subst (λ (l : Limits). SnapStopOf profile l (h.block ++ get_or bytes 0 0 ∷ []) c.in-Stopped.stop) limits_is (rw (sym none, sym first) a.1) in
    let told : HasTold t profile limits p (told_by es) = record {
      profile_is = c.advance-used.ensures.form ∙ old.told.profile_is;
      limits_is = old.told.limits_is;
      meter_is = limits_is;
      state = at_false (IsPassingOver t profile limits p (told_by es)) (IsReading t profile limits p (told_by es)) s.is_passing c.if-self.false reading;
    } in
    let unstopped : IsSnapUnstopped profile (block_limits limits) h.block = along_unstopped profile limits t h.block [] limits_is along in
    let size : length p ≡ length h.front + length h.block = ap length h.split ∙ length-append h.front h.block in
    let small : length h.block < 18446744073709551615 = omega (arith, c.requires.place, at, some, size) in
    fault_found form s t c.take_fault.new.self p es old bytes (λ i. omega (arith, c.type_inv.bytes i)) some c.args._max_lines c.in-Stopped.stop
    (never_whole profile limits h.block (get_or bytes 0 0) c.in-Stopped.stop unstopped small stops) told c.take_fault.result.used c.take_fault.result.what
    (c.take_fault.ensures.left profile limits p (told_by es) told.profile_is limits_is told.limits_is reading stops at)

pub returns-in-Stopped-clause-of_record : goal.returns-in-Stopped-clause-of_record
returns-in-Stopped-clause-of_record c form p es h = few_of_record c.args.bytes.now c.take_fault.result.used c.take_fault.ensures.within

pub returns-in-OutOfMemory-clause-left : goal.returns-in-OutOfMemory-clause-left
returns-in-OutOfMemory-clause-left c form p es old at =
    let s = c.args.self.now in
    let profile = form.0 in
    let limits = form.1 in
    let bytes : List ℕ = c.args.bytes.now in
    let front : List ℕ = c.split_at.result.0.now in
    let used : ℕ = c.advance-used.result.used in
    let t : GoingOnRecords = record { limits = s.limits; block = c.advance-used.new.records; meter = c.advance-used.new.meter; left_out = s.left_out; is_passing = s.is_passing } in
    let h : IsReading s profile limits p (told_by es) = MatchBool-at_false _ _ c.if-self.false old.told.state in
    let a : Advances (snap_stream profile) t.block t.meter h.block [] front used events.OutOfMemory = rw c.in-OutOfMemory.is at (c.advance-used.ensures.advances profile h.block [] h.along) in
    let zero_used : used ≡ 0 = c.if-used-eq0-2.true in
    let none : h.block ++ take used front ≡ h.block = ap (λ (n : ℕ). h.block ++ take n front) zero_used ∙ append-nil h.block in
    let along : HasProgressed (snap_stream profile) t.block t.meter h.block [] = subst (λ (u : List ℕ). HasProgressed (snap_stream profile) t.block t.meter u []) none a.2 in
    let some : 0 < length bytes = omega (arith, c.if-is_empty.ensures) in
    let here : p ≡ p ++ take used bytes = sym (ap (λ (n : ℕ). p ++ take n bytes) zero_used ∙ append-nil p) in
    let told : HasTold t profile limits p (told_by es) = record {
      profile_is = c.advance-used.ensures.form ∙ old.told.profile_is;
      limits_is = old.told.limits_is;
      meter_is = c.advance-used.ensures.limits ∙ old.told.meter_is;
      state = at_false (IsPassingOver t profile limits p (told_by es)) (IsReading t profile limits p (told_by es)) s.is_passing c.if-self.false (same_reading profile limits s p (told_by es) h front t refl along);
    } in (
      omega (arith, zero_used, some),
      found_more form s t p es old bytes (λ i. omega (arith, c.type_inv.bytes i)) used (subst (λ (u : List ℕ). HasTold t profile limits u (told_by es)) here told),
      next_lines form s t p es old bytes (λ i. omega (arith, c.type_inv.bytes i)) used,
      λ z. z,
    )

pub returns-in_default-clause-of_record : goal.returns-in_default-clause-of_record
returns-in_default-clause-of_record c form p es old =
    let used : ℕ = c.advance-used.result.used in
    let h : IsReading c.args.self.now (form.0) (form.1) p (told_by es) = MatchBool-at_false _ _ c.if-self.false old.told.state in
    subst AreOfRecord (ap (λ (u : List ℕ). take used u) c.split_at.ensures.front ∙ take-take used c.stride.result c.args.bytes.now (omega (arith, c.advance-used.ensures.used, c.split_at.ensures.front_len)))
    (c.advance-used.ensures.of_record (form.0) h.block [] h.along)

pub returns-in_default-clause-left : goal.returns-in_default-clause-left
returns-in_default-clause-left c form p es old at =
    let s = c.args.self.now in
    let profile = form.0 in
    let limits = form.1 in
    let bytes : List ℕ = c.args.bytes.now in
    let front : List ℕ = c.split_at.result.0.now in
    let used : ℕ = c.advance-used.result.used in
    let what = c.advance-used.result.what in
    let t : GoingOnRecords = record { limits = s.limits; block = c.advance-used.new.records; meter = c.advance-used.new.meter; left_out = s.left_out; is_passing = s.is_passing } in
    let h : IsReading s profile limits p (told_by es) = MatchBool-at_false _ _ c.if-self.false old.told.state in
    let filled : length bytes ≢ 0 = eqb-false _ _ (sym c.is_empty.ensures ∙ c.if-is_empty.false) in
    let length_some : 0 < length bytes = omega (arith, filled) in
    let front_some : 0 < length front = omega (arith, c.stride.ensures.some length_some, c.split_at.ensures.front_len) in
    let within : used ≤ length front = c.advance-used.ensures.used in
    let not_given : (e : EntryData) → what ≡ events.Given e → ⊥ = elim c.in_default.branch [
      | in_default-via-in-Stopped+else-used-eq0 w ↦ λ e z. stopped_given w.in-Stopped.stop e (sym w.in-Stopped.is ∙ z)
      | in_default-via-in-OutOfMemory+else-used-eq0-2 w ↦ λ e z. starved_given e (sym w.in-OutOfMemory.is ∙ z)
      | in_default-via-in_default w ↦ w.in_default.not-Given
    ] in
    let some : 0 < used = elim c.in_default.branch [
      | in_default-via-in-Stopped+else-used-eq0 w ↦ let n : used ≢ 0 = w.if-used-eq0.false in omega (arith, n)
      | in_default-via-in-OutOfMemory+else-used-eq0-2 w ↦ let n : used ≢ 0 = w.if-used-eq0-2.false in omega (arith, n)
      | in_default-via-in_default w ↦
          let forward : 0 < length front → 0 < used = rw w.in_default.is at c.advance-used.ensures.forward in
          forward front_some
    ] in
    let along = on_along profile limits s p (told_by es) h front t.block t.meter used what not_given (c.advance-used.ensures.advances profile h.block [] h.along) in
    let text : p ++ take used front ≡ p ++ take used bytes =
    ap (λ (u : List ℕ). p ++ u) (ap (λ (u : List ℕ). take used u) c.split_at.ensures.front ∙ take-take used c.stride.result bytes (omega (arith, within, c.split_at.ensures.front_len))) in
    let one : (s.left_out ≡ None) ⊎ (length front ≤ 1) = elim c.stride.ensures.one [ inl z ↦ inl z | inr le ↦ inr (omega (arith, le, c.split_at.ensures.front_len)) ] in
    let profile_is = c.advance-used.ensures.form ∙ old.told.profile_is in
    let limits_is = c.advance-used.ensures.limits ∙ old.told.meter_is in
    let told : HasTold c.settle.new.self profile limits (p ++ take used front) (told_by es) = elim h.state [
      | inl f ↦ c.settle.ensures.settled profile limits (p ++ take used front) (told_by es) profile_is limits_is old.told.limits_is c.if-self.false (on_first profile limits s p (told_by es) h front t used refl along f some one within)
      | inr o ↦
          subst (λ (r : GoingOnRecords). HasTold r profile limits (p ++ take used front) (told_by es)) (sym (c.settle.ensures.other o.none)) (record {
            profile_is = profile_is;
            limits_is = old.told.limits_is;
            meter_is = limits_is;
            state = at_false (IsPassingOver t profile limits (p ++ take used front) (told_by es)) (IsReading t profile limits (p ++ take used front) (told_by es)) s.is_passing c.if-self.false (on_other profile limits s p (told_by es) h front t used refl along o);
          })
    ] in
    found_more form s c.settle.new.self p es old bytes (λ i. omega (arith, c.type_inv.bytes i)) used (subst (λ (u : List ℕ). HasTold c.settle.new.self profile limits u (told_by es)) text told)
