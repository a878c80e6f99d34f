-- What a decoder's first answer says of the bytes.
use Rattle.std.proofs.Common.{◌≡◌, ◌≢◌, ℕ, ◌+◌, ◌-◌, ◌<◌, ◌≤◌, Bool, true, false, List, [], ◌∷◌, ◌++◌, length, take, drop, None, Result, Ok, Err, inl, inr, refl, sym, ap, subst, ◌∙◌, append_assoc, arith}
use Rattle.std.proofs.lemmas.List.{append-nil, take-append-drop}
use Rattle.std.proofs.Math.Seq.{take-length}
use Rattle.cg_value.specs.Entry.{EntryData}
use Rattle.cg_value.specs.Print.{print_lines}
use Rattle.cg_value.specs.Records.{records}
use Rattle.cg_value.specs.declared.profile.Profile.{Profile}
use Rattle.cg_snap.specs.Closed.{Closed}
use Rattle.cg_snap.specs.Decoder.{SnapshotDecoder, PulledIsClosed, Stands, WhatIs, limits_of, profile_of, stop_of}
use Rattle.cg_snap.specs.Laws.{SnapIsPrint}
use Rattle.cg_snap.specs.Pulled.{StandsFor}
use Rattle.cg_snap.specs.SnapStop.{IsSnapUnstopped, SnapStopOf}
use Rattle.cg_snap.specs.Streams.{snap_stream}
use Rattle.cg_snap.specs.declared.decode.StreamFault.{StreamFault}
use Rattle.cg_snap.specs.declared.decode.StreamFault.TheVariants.{Stopped, OutOfMemory}
use Rattle.cg_snap.specs.declared.event.Event.{Event}
use Rattle.cg_snap.specs.declared.event.Event.TheVariants as events
use Rattle.cg_snap.specs.declared.limits.Limits.{Limits}
use Rattle.cg_snap.specs.declared.stop.Stop.{Stop}
use Rattle.cg_snap.specs.declared.stop.Stop.TheVariants.{Refused, TooLong, TooMany, TooMuch, Cut}
use Rattle.cg_first.specs.First.{IsCounted, IsFirstEntry, IsFirstFault, IsFirstTold, IsLast}
use Rattle.cg_first.specs.declared.first.First.{First}
use Rattle.cg_first.specs.declared.first.First.TheVariants.{Entry, More, End}

some_entry : (e : EntryData) → e ∷ [] ≢ []
some_entry e z = absurd (cc)

module _ (profile : Profile) (limits : Limits) (bytes : List ℕ) (is_end : Bool) where
  -- An entry that is closed by the first bytes, with the length of its records.
  first_closed : (used : ℕ) (e : EntryData) (taken : ℕ) → SnapIsPrint → Closed profile (take used bytes) (e ∷ []) →
      taken ≡ length (records e.path (print_lines e.value)) → IsFirstEntry profile bytes is_end e taken
  first_closed used e taken print c is =
      let b = c.begun (some_entry e) in
      let printed : c.given ≡ records e.path (print_lines e.value) = print profile (e ∷ []) c.given c.entries ∙ append-nil (records e.path (print_lines e.value)) in
      record {
        given = c.given;
        rest = c.present ++ drop used bytes;
        split = sym (take-append-drop used bytes) ∙ ap (λ (t : List ℕ). t ++ drop used bytes) c.split ∙ append_assoc c.given c.present (drop used bytes);
        taken_is = is ∙ ap (λ (t : List ℕ). length t) (sym printed);
        text = c.entries;
        behind = inr (c.path, b.0 ++ drop used bytes, c.good, ap (λ (t : List ℕ). t ++ drop used bytes) b.1 ∙ append_assoc c.path (0 ∷ b.0) (drop used bytes), c.other);
      }

  of_counted : (used : ℕ) (e : EntryData) (r : Result First StreamFault) → SnapIsPrint → Closed profile (take used bytes) (e ∷ []) → 0 < used → used ≤ length bytes →
      IsSnapUnstopped profile limits (take used bytes) → IsCounted e r → IsFirstTold profile limits bytes is_end r
  of_counted used e (Ok (Entry f taken)) print c some within free h =
      subst (λ (g : EntryData). IsFirstEntry profile bytes is_end g taken) (sym h.0) (first_closed used e taken print c h.1)
  of_counted used e (Ok More) print c some within free h = absurd h
  of_counted used e (Ok End) print c some within free h = absurd h
  of_counted used e (Err (Stopped stop)) print c some within free h = absurd h
  of_counted used e (Err OutOfMemory) print c some within free h =
      let last : used - 1 + 1 ≡ used = omega (arith, some) in
      (inl (used - 1, omega (arith, some, within), subst (λ (n : ℕ). IsSnapUnstopped profile limits (take n bytes)) (sym last) free), tt)

  of_stop : (stop : Stop) → SnapStopOf profile limits bytes stop → IsFirstFault profile limits bytes is_end (Stopped stop)
  of_stop (Refused at why) h = (h, tt)
  of_stop (TooLong at) h = (h, tt)
  of_stop (TooMany at) h = (h, tt)
  of_stop (TooMuch at) h = (h, tt)
  of_stop (Cut at) h = absurd h.stops

of_last : (profile : Profile) (limits : Limits) (bytes : List ℕ) (r : Result First StreamFault) → IsSnapUnstopped profile limits bytes → IsLast profile bytes r →
    IsFirstTold profile limits bytes true r
of_last profile limits bytes (Ok (Entry e taken)) free h =
    record { given = bytes; rest = []; split = sym (append-nil bytes); taken_is = h.0; text = h.1; behind = inl (refl, refl) }
of_last profile limits bytes (Ok More) free h = absurd h
of_last profile limits bytes (Ok End) free h = (refl, h)
of_last profile limits bytes (Err (Stopped (Cut at))) free h = (record { at_end = h.0; unstopped = free; not_whole = h.1 }, refl)
of_last profile limits bytes (Err (Stopped (Refused at why))) free h = absurd h
of_last profile limits bytes (Err (Stopped (TooLong at))) free h = absurd h
of_last profile limits bytes (Err (Stopped (TooMany at))) free h = absurd h
of_last profile limits bytes (Err (Stopped (TooMuch at))) free h = absurd h
of_last profile limits bytes (Err OutOfMemory) free h = absurd h

-- A new decoder of a profile consumed nothing.
pub at_start : (d : SnapshotDecoder) (profile : Profile) → profile_of d ≡ profile → StandsFor (snap_stream profile) d [] [] → Stands d [] []
at_start d profile same stands = subst (λ (p : Profile). StandsFor (snap_stream p) d [] []) (sym same) stands

module _ (d : SnapshotDecoder) (profile : Profile) (limits : Limits) (bytes : List ℕ) (used : ℕ) (what : Event EntryData) (law : PulledIsClosed) (same : profile_of d ≡ profile) (same' : limits_of d ≡ limits)
    (h : WhatIs d [] [] bytes used what) where
  -- What is told in the decoder's profile and within its limits.
  told : (is_end : Bool) (r : Result First StreamFault) → IsFirstTold (profile_of d) (limits_of d) bytes is_end r → IsFirstTold profile limits bytes is_end r
  told is_end r t = subst (λ (p : Profile). IsFirstTold p limits bytes is_end r) same (subst (λ (l : Limits). IsFirstTold (profile_of d) l bytes is_end r) same' t)

  -- Where nothing came, all bytes were consumed.
  needed : what ≡ events.NeedMore → (stop_of d ≡ None) × Stands d bytes []
  needed e =
      let w : WhatIs d [] [] bytes used events.NeedMore = subst (λ (x : Event EntryData). WhatIs d [] [] bytes used x) e h in
      (w.0, subst (λ (p : List ℕ). Stands d p []) (ap (λ (k : ℕ). take k bytes) w.1 ∙ take-length bytes) w.2)

  pub more_first : what ≡ events.NeedMore → (is_end : Bool) → is_end ≡ false → IsFirstTold profile limits bytes is_end (Ok More)
  more_first e is_end not_end =
      let c = law d bytes [] (needed e).1 in
      told is_end (Ok More) (not_end, c.0, c.2)

  pub last_first : what ≡ events.NeedMore → (is_end : Bool) → is_end ≡ true → (r : Result First StreamFault) →
      ((p : List ℕ) → stop_of d ≡ None → Stands d p [] → length bytes ≡ length p → IsLast (profile_of d) p r) → IsFirstTold profile limits bytes is_end r
  last_first e is_end at_end r last =
      let n = needed e in
      let t : IsFirstTold (profile_of d) (limits_of d) bytes true r = of_last (profile_of d) (limits_of d) bytes r (law d bytes [] n.1).2 (last bytes n.0 n.1 refl) in
      told is_end r (subst (λ (b : Bool). IsFirstTold (profile_of d) (limits_of d) bytes b r) (sym at_end) t)

  pub entry_first : SnapIsPrint → used ≤ length bytes → (is_end : Bool) (e : EntryData) (r : Result First StreamFault) → what ≡ events.Given e → IsCounted e r → IsFirstTold profile limits bytes is_end r
  entry_first print within is_end e r is counted =
      let w : WhatIs d [] [] bytes used (events.Given e) = subst (λ (x : Event EntryData). WhatIs d [] [] bytes used x) is h in
      let c = law d (take used bytes) (e ∷ []) w.3 in
      told is_end r (of_counted (profile_of d) (limits_of d) bytes is_end used e r print c.0 w.1 within c.2 counted)

  pub stop_first : (is_end : Bool) (stop : Stop) → what ≡ events.Stopped stop → IsFirstTold profile limits bytes is_end (Err (Stopped stop))
  stop_first is_end stop is =
      let w : WhatIs d [] [] bytes used (events.Stopped stop) = subst (λ (x : Event EntryData). WhatIs d [] [] bytes used x) is h in
      told is_end (Err (Stopped stop)) (of_stop (profile_of d) (limits_of d) bytes is_end stop w.2)

  pub starved_first : (is_end : Bool) → what ≡ events.OutOfMemory → IsFirstTold profile limits bytes is_end (Err OutOfMemory)
  starved_first is_end is =
      let w : WhatIs d [] [] bytes used events.OutOfMemory = subst (λ (x : Event EntryData). WhatIs d [] [] bytes used x) is h in
      told is_end (Err OutOfMemory) (inl (used, w.1, w.2), tt)
