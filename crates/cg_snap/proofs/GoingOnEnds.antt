-- What the end of a stream makes of records that go on, and how much they hold.
use Rattle.std.proofs.Common.{◌≡◌, ◌≢◌, ℕ, ◌+◌, ◌≤◌, List, [], ◌∷◌, ◌++◌, length, refl, sym, ap, subst, ◌∙◌, append-nil, arith, Option, Some, None, Result, Ok, Err, inl, inr, ◌⊎◌, option_to_list}
use Rattle.cg_text.specs.ListFacts.{not_nil}
use Rattle.cg_text.specs.Texts.{Lacks}
use Rattle.cg_text.specs.TextsLaws.{lacks_inside}
use Rattle.cg_value.specs.Entry.{EntryData}
use Rattle.cg_value.specs.EntryLaws.{entry_path}
use Rattle.cg_value.specs.PathLaws.{path_lacks_nul}
use Rattle.cg_value.specs.Records.{records}
use Rattle.cg_value.specs.declared.profile.Profile.{Profile}
use Rattle.cg_line.specs.SplitLaws.{cut}
use Rattle.cg_snap.specs.Begun.{IsBegun, IsRecordEnd}
use Rattle.cg_snap.specs.ClosedLaws.{begun_once}
use Rattle.cg_snap.specs.Closed.{IsHeldFor}
use Rattle.cg_snap.specs.Decoder.{FinishIs, held_by_records}
use Rattle.cg_snap.specs.DecoderState.{HasConsumed, HasConsumedInLine, HasConsumedInPath, HasTakenRecords}
use Rattle.cg_snap.specs.GoingOn.{AreAllTold, AreTold, Follows, Told, block_limits, stream_limits, told_by, told_entry}
use Rattle.cg_snap.specs.GoingOn.AreTold.{more}
use Rattle.cg_snap.specs.GoingOnDecoder.{GoingFinishIs, GoingOnDecoder, IsGoingFault, IsGoneOn, IsHeldOn, held_by_path}
use Rattle.cg_snap.specs.GoingOnState.{AreLines, HasTold, HaveFaults, IsPassingOver, IsReading, IsFirst, HasOther, breaks_none, form_of, going_stream, many_of_none}
use Rattle.cg_snap.specs.Pulled.{HasPulled}
use Rattle.cg_snap.specs.Snap.{Snap, SnapText}
use Rattle.cg_snap.specs.SnapLaws.{lines_plain}
use Rattle.cg_snap.specs.SnapStop.{IsSnapUnstopped}
use Rattle.cg_snap.specs.StreamStop.{IsStreamUnstopped}
use Rattle.cg_snap.specs.declared.decode.StreamFault.TheVariants.{Stopped}
use Rattle.cg_snap.specs.declared.going_on.Found.{Found}
use Rattle.cg_snap.specs.declared.going_on_records.GoingOnRecords.{GoingOnRecords}
use Rattle.cg_snap.specs.declared.limits.Limits.{Limits}
use Rattle.cg_snap.specs.declared.present.CurrentEntry.{CurrentEntry}
use Rattle.cg_snap.specs.declared.stop.Stop.{Stop}
use Rattle.cg_snap.specs.declared.stop.Stop.TheVariants as stops
use Rattle.cg_snap.proofs.Closes.{line_begun, path_begun, records_end, snap_end}
use Rattle.cg_snap.proofs.GoingOnLines.{ends_in_line}
use Rattle.cg_snap.proofs.GoingOnMoves.{record_end_both, record_end_right}
use Rattle.cg_snap.proofs.GoingOnStates.{along_unstopped, own_room, passing_blocks, passing_left}
use Rattle.cg_snap.proofs.GoingOnTakes.{faults_entry, told_by_push}
use Rattle.cg_snap.proofs.Piecewise.{unstopped_of}
use Rattle.cg_snap.proofs.Refusals.{records_start}
use Rattle.cg_snap.proofs.States.{by_flag}
use Rattle.cg_snap.proofs.Steps.{bytes_no_newline, present_entry}

begun_nothing : (bytes begun : List ℕ) → IsBegun bytes begun → IsRecordEnd bytes → begun ≡ []
begun_nothing bytes begun h e = begun_once bytes begun [] h (record { front = bytes; split = sym (append-nil bytes); ended = e; plain = tt })

module _ (profile : Profile) where
  -- Whole lines that are read as one block are a snapshot of one entry, or of none.
  abbrev Ended : List ℕ → Type 0
  Ended w = (last : Option EntryData) × SnapText profile (option_to_list last) w

  line_ended : (begun : List ℕ) (x : CurrentEntry) (w : List ℕ) → IsRecordEnd w → HasConsumedInLine profile begun x w [] → Ended w
  line_ended begun x w e h = let z = begun_nothing w (x.path.items ++ 0 ∷ h.line) (line_begun profile begun x w [] h) e in absurd (not_nil x.path.items 0 h.line (sym z))

  path_ended : (begun : List ℕ) (x : CurrentEntry) (w : List ℕ) → IsRecordEnd w → HasConsumedInPath profile begun x w [] → Ended w
  path_ended begun x w e h =
      let path = x.path.items in
      let none : begun ≡ [] = begun_nothing w begun (path_begun profile begun x w [] h) e in
      let d = present_entry profile begun x w [] h in
      let split : w ≡ records path h.lines = h.split ∙ (ap (λ (u : List ℕ). u ++ (records path h.lines ++ begun)) h.entries ∙ (ap (λ (u : List ℕ). records path h.lines ++ u) none ∙ append-nil (records path h.lines))) in
      (Some d.0, (h.lines, [], d.2, tt, split ∙ (ap (λ (q : List ℕ). records q h.lines) (sym d.1) ∙ sym (append-nil (records d.0.path h.lines))), refl))

  ended_last : (begun : List ℕ) (o : Option CurrentEntry) (w : List ℕ) → HasConsumed profile begun o w [] → IsRecordEnd w → Ended w
  ended_last begun None w h (inl e) = (None, e)
  ended_last begun None w h (inr s) = absurd (lacks_inside 10 s.0 [] (subst (Lacks 10) (sym h.bytes ∙ s.1) (bytes_no_newline begun h.begun_path)))
  ended_last begun (Some x) w h e = by_flag (HasConsumedInLine profile begun x w []) (HasConsumedInPath profile begun x w []) (Ended w) x.in_line h (line_ended begun x w e) (path_ended begun x w e)

module _ (profile : Profile) (limits : Limits) (s : GoingOnRecords) (p : List ℕ) (told : List Told) where
  -- ---- Where the rest of a line is passed over

  pub passing_cut : IsPassingOver s profile limits p told → IsRecordEnd p → ⊥
  passing_cut h e =
      let some = ends_in_line limits.max_record h.block.path h.block.bytes h.follows.is_block h.in_line in
      some.1 (record_end_right h.front h.block.bytes some.0 (subst IsRecordEnd h.split e))

  -- ---- Where a block is read

  reading_ended : (h : IsReading s profile limits p told) → IsRecordEnd p → Ended profile h.block
  reading_ended h e = ended_last profile s.block.begun.items s.block.present h.block h.along.state.at (by e)
    where
      nil : (b : List ℕ) → (b ≡ []) ⊎ (b ≢ [])
      nil [] = inl refl
      nil (x ∷ b) = inr (λ z. absurd (cc))

      by : IsRecordEnd p → IsRecordEnd h.block
      by e = elim (nil h.block) [ inl z ↦ inl z | inr some ↦ record_end_right h.front h.block some (subst IsRecordEnd h.split e) ]

  pub reading_snap : (h : IsReading s profile limits p told) → IsRecordEnd p → Snap profile h.block
  reading_snap h e = let l = reading_ended h e in (option_to_list l.0, l.1)

  pub reading_cut : (h : IsReading s profile limits p told) → (Snap profile h.block → ⊥) → IsRecordEnd p → ⊥
  reading_cut h n e = n (reading_snap h e)

  -- No line of the block came.
  pub reading_none : (h : IsReading s profile limits p told) → SnapText profile [] h.block → AreAllTold profile limits p (told ++ told_entry None)
  reading_none h e =
      let same : p ≡ h.front = h.split ∙ (ap (λ (u : List ℕ). h.front ++ u) e ∙ append-nil h.front) in
      (subst IsRecordEnd (sym same) h.ended, (h.path, subst (λ (u : List ℕ). AreTold profile limits u h.path (told ++ [])) (sym same) (subst (AreTold profile limits h.front h.path) (sym (append-nil told)) h.blocks)))

  -- The lines of the block are an entry.
  pub reading_some : (h : IsReading s profile limits p told) (e : EntryData) → s.meter.limits ≡ block_limits limits → SnapText profile (e ∷ []) h.block → AreAllTold profile limits p (told ++ told_entry (Some e))
  reading_some h e m t = by h.state
    where
      lines : List (List ℕ)
      lines = t.0

      split : h.block ≡ records e.path t.0
      split = t.4 ∙ (ap (λ (u : List ℕ). records e.path t.0 ++ u) t.5 ∙ append-nil (records e.path t.0))

      start : (y : List ℕ) × (records e.path t.0 ++ [] ≡ e.path ++ 0 ∷ y)
      start = records_start e.path t.0 [] t.2.some

      starts : h.block ≡ e.path ++ 0 ∷ start.0
      starts = split ∙ (sym (append-nil (records e.path t.0)) ∙ start.1)

      unstopped : IsSnapUnstopped profile (block_limits limits) h.block
      unstopped = along_unstopped profile limits s h.block [] m h.along

      ended : IsRecordEnd p
      ended = subst IsRecordEnd (sym h.split) (record_end_both h.front h.block h.ended (subst IsRecordEnd (sym split) (records_end e.path [] t.0 (inl refl))))

      follows : ((r : List ℕ) → h.path ≡ Some r → Some e.path ≡ Some r → ⊥) → Follows limits.max_record h.front h.path (record { path = Some e.path; bytes = h.block })
      follows n = record {
        ended = h.ended;
        is_block = (
          entry_path e,
          own_room profile limits e.path start.0 (entry_path e) (subst (IsSnapUnstopped profile (block_limits limits)) starts unstopped),
          record { lines = t.0; begun = []; split = split ∙ sym (append-nil (records e.path t.0)); plain = lines_plain profile e t.0 t.2; last = inl (refl, t.2.some) },
        );
        other = n;
      }

      by : IsFirst s profile limits p told h.path h.block ⊎ HasOther s profile limits p told h.path h.block → AreAllTold profile limits p (told ++ told_entry (Some e))
      by (inl f) = absurd (lacks_inside 0 e.path start.0 (subst (Lacks 0) starts f.no_nul))
      by (inr o) =
          let same : o.own ≡ e.path = (cut 0 o.own e.path o.rest start.0 (path_lacks_nul o.own o.good) (path_lacks_nul e.path (entry_path e)) (sym o.split ∙ starts)).0 in
          (ended, (Some e.path, more h.front h.path told (record { path = Some e.path; bytes = h.block }) (inl e) h.blocks (follows (λ r a b. o.other (a ∙ (sym b ∙ ap Some (sym same))))) (record { whole = t; unstopped = unstopped }) h.split refl refl))

  -- ---- What is held

  pub passing_held : IsPassingOver s profile limits p told → (n : ℕ) → n ≡ held_by_records s.block + held_by_path s.left_out → IsHeldFor profile [] [] (held_by_records s.block) → IsHeldOn profile limits p n
  passing_held h n e f = record {
    front = p;
    block = [];
    path = s.left_out;
    split = sym (append-nil p);
    of_block = held_by_records s.block;
    for_block = f;
    most = omega (arith, e);
    left_out = inr (told, subst (λ (o : Option (List ℕ)). AreTold profile limits p o told) (sym h.kept) (passing_blocks profile limits s p told h), passing_left profile limits s p told h);
  }

  pub reading_held : (h : IsReading s profile limits p told) (n : ℕ) → n ≡ held_by_records s.block + held_by_path s.left_out → IsHeldFor profile h.block [] (held_by_records s.block) → IsHeldOn profile limits p n
  reading_held h n e f = record {
    front = h.front;
    block = h.block;
    path = s.left_out;
    split = h.split;
    of_block = held_by_records s.block;
    for_block = f;
    most = omega (arith, e);
    left_out = elim h.state [
      | inl x ↦ inr (told, subst (λ (o : Option (List ℕ)). AreTold profile limits h.front o told) (sym x.kept) h.blocks, x.left_out)
      | inr o ↦ inl o.none
    ];
  }

module _ (profile : Profile) (limits : Limits) (s : GoingOnRecords) (p : List ℕ) (told : List Told) where
  -- The end of the block that is read.
  pub reading_last : (h : IsReading s profile limits p told) → s.meter.limits ≡ block_limits limits → (last : Option EntryData) → FinishIs profile h.block [] (Ok last) → AreAllTold profile limits p (told ++ told_entry last)
  reading_last h m None f = reading_none profile limits s p told h f
  reading_last h m (Some e) f = reading_some profile limits s p told h e m f

  pub reading_all : (h : IsReading s profile limits p told) → s.meter.limits ≡ block_limits limits → Snap profile h.block → (last : Option EntryData) × AreAllTold profile limits p (told ++ told_entry last)
  reading_all h m x =
      let ended : IsRecordEnd p = subst IsRecordEnd (sym h.split) (record_end_both h.front h.block h.ended (snap_end profile x.0 [] h.block (inl refl) x.1)) in
      let l = reading_ended profile limits s p told h ended in
      (l.0, reading_last h m l.0 l.1)

  pub reading_err : (h : IsReading s profile limits p told) (stop : Stop) → FinishIs profile h.block [] (Err stop) → IsRecordEnd p → ⊥
  reading_err h (stops.Refused at why) f = absurd f
  reading_err h (stops.TooLong at) f = absurd f
  reading_err h (stops.TooMany at) f = absurd f
  reading_err h (stops.TooMuch at) f = absurd f
  reading_err h (stops.Cut at) f = reading_cut profile limits s p told h f.1

  pub told_held : HasTold s profile limits p told → ((q : List ℕ) (es : List EntryData) → HasTakenRecords s.block profile q es → IsHeldFor profile q es (held_by_records s.block)) → (n : ℕ) → n ≡ held_by_records s.block + held_by_path s.left_out →
      IsHeldOn profile limits p n
  told_held h f n e =
      by_flag (IsPassingOver s profile limits p told) (IsReading s profile limits p told) (IsHeldOn profile limits p n) s.is_passing h.state
      (λ x. passing_held profile limits s p told x n e (f [] [] x.along.state)) (λ x. reading_held profile limits s p told x n e (f x.block [] x.along.state))

-- ---- The end of a whole stream

module _ (profile : Profile) (limits : Limits) (d : GoingOnDecoder) (bytes : List ℕ) (found : List Found) (h : HasPulled going_stream form_of d (profile, limits) (stream_limits limits) bytes found) where
  pub going_unstopped : IsStreamUnstopped AreLines breaks_none many_of_none (stream_limits limits) bytes
  going_unstopped = unstopped_of going_stream form_of (profile, limits) (stream_limits limits) d bytes found h

  here : (r : Result (Option EntryData) Stop) → GoingFinishIs (d.records.block.profile) (d.records.limits) bytes found r → GoingFinishIs profile limits bytes found r
  here r f = subst (λ (q : Profile × Limits). GoingFinishIs (q.0) (q.1) bytes found r) h.form_is f

  short : length bytes ≤ limits.max_stream
  short = omega (arith, h.stands.counted.within, ap (λ (l : Limits). l.max_stream) h.limits_is)

  faults : HaveFaults profile limits bytes [] found
  faults = subst (λ (q : Profile × Limits). HaveFaults (q.0) (q.1) bytes [] found) h.form_is h.stands.state.faults

  pub going_none : GoingFinishIs (d.records.block.profile) (d.records.limits) bytes found (Ok None) → IsGoneOn profile limits bytes found
  going_none f = record { all = subst (AreAllTold profile limits bytes) (append-nil (told_by found)) (here (Ok None) f); faults = faults; short = short }

  pub going_some : (e : EntryData) → GoingFinishIs (d.records.block.profile) (d.records.limits) bytes found (Ok (Some e)) → IsGoneOn profile limits bytes (found ++ record { entry = Some e; left_out = None; fault = None } ∷ [])
  going_some e f = record {
    all = subst (AreAllTold profile limits bytes) (sym (told_by_push found (record { entry = Some e; left_out = None; fault = None }))) (here (Ok (Some e)) f);
    faults = faults_entry profile limits bytes found e faults;
    short = short;
  }

  pub going_err : (stop : Stop) → GoingFinishIs (d.records.block.profile) (d.records.limits) bytes found (Err stop) → IsGoingFault limits bytes (Stopped stop)
  going_err (stops.Refused at why) f = absurd f
  going_err (stops.TooLong at) f = absurd f
  going_err (stops.TooMany at) f = absurd f
  going_err (stops.TooMuch at) f = absurd f
  going_err (stops.Cut at) f = record { at_end = f.0; unstopped = going_unstopped; not_whole = λ x. f.1 x.0 }
