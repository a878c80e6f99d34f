-- What is right for a run over a stream.
use Rattle.std.proofs.Common.{◌≡◌, ◌≢◌, ℕ, ◌+◌, ◌<◌, ◌≤◌, ◌⊎◌, Bool, true, false, List, [], ◌∷◌, ◌++◌, length, take, drop, get_or, Option, Some, None, refl, sym, ap, subst, ◌∙◌, append_assoc, append-nil, arith, inl, inr}
use Rattle.std.proofs.Common.{length-append, length-drop, length-take, take-append-drop}
use Rattle.std.proofs.lemmas.List.{get_or-append-add}
use Rattle.std.proofs.Math.Seq.{take-add, take-append-add, take-length}
use Rattle.std.specs.Prelude.{nat_eq, if◌then◌else◌}
use Rattle.std.specs.Io.KnownBytes.{IsAtEnd}
use Rattle.cg_snap.specs.Stop.{place_of}
use Rattle.cg_snap.specs.declared.event.Event.{Event}
use Rattle.cg_snap.specs.declared.event.Event.TheVariants as events
use Rattle.cg_snap.specs.declared.stop.Stop.{Stop}
use Rattle.cg_snap.specs.declared.stop.Stop.TheVariants as stops
use Rattle.cg_outcome.specs.Explain.{Tells, TellsSpot, TellsStop}
use Rattle.cg_outcome.specs.Input.{Reading}
use Rattle.cg_outcome.specs.Outcome.{gone_on, last_line}
use Rattle.cg_run.specs.Output.{Holds}
use Rattle.cg_outcome.specs.Wrote.{FailsIn, Wrote, joined}
use Rattle.cg_run.specs.Stream.{IsEarlyRight, IsStreamRight, IsStreamStarved, IsStreamStop}
use Rattle.cg_run.specs.Streaming.{EndsSo, FoundIs, HasWhole, IsByteStop, IsCutAt, LeadsTo, WantsMemory}
use Rattle.cg_outcome.specs.declared.outcome.Outcome.{Outcome}
use Rattle.cg_outcome.specs.declared.outcome.Outcome.TheVariants as out
use Rattle.cg_run.specs.declared.output.Output.{Output}
use Rattle.cg_run.proofs.Written.{holds_more}

-- A part of a piece, and then a part of what is left of it.
pub text_on : (read piece rest : List ℕ) (at n : ℕ) → rest ≡ drop at piece → (read ++ take at piece) ++ take n rest ≡ read ++ take (at + n) piece
text_on read piece rest at n e =
    ap (λ (r : List ℕ). (read ++ take at piece) ++ take n r) e ∙ append_assoc read (take at piece) (take n (drop at piece)) ∙ ap (λ (t : List ℕ). read ++ t) (sym (take-add at n piece))

pub text_all : (read piece rest : List ℕ) (at : ℕ) → rest ≡ drop at piece → (read ++ take at piece) ++ rest ≡ read ++ piece
text_all read piece rest at e = ap (λ (r : List ℕ). (read ++ take at piece) ++ r) e ∙ append_assoc read (take at piece) (drop at piece) ∙ ap (λ (t : List ℕ). read ++ t) (take-append-drop at piece)

some_more : (parts more : List (List ℕ)) → more ≢ [] → parts ++ more ≢ []
some_more [] more some = some
some_more (first ∷ parts) more some = λ e. cc

-- A limit isn't explained.
module _ (Line : List ℕ → Option ℕ → List ℕ → Type 0) (p : List ℕ) (what : Option ℕ) (place : ℕ) (more : List ℕ) where
  long_tells : (explain : Bool) → TellsSpot Line explain p what (stops.TooLong place) more → more ≡ []
  long_tells true t = t
  long_tells false t = t

  many_tells : (explain : Bool) → TellsSpot Line explain p what (stops.TooMany place) more → more ≡ []
  many_tells true t = t
  many_tells false t = t

  much_tells : (explain : Bool) → TellsSpot Line explain p what (stops.TooMuch place) more → more ≡ []
  much_tells true t = t
  much_tells false t = t

-- A whole stream isn't cut.
pub never_cut : (Whole : List ℕ → List (List ℕ) → Outcome → Type 0) (p : List ℕ) (s : Stop) → HasWhole Whole p → IsCutAt Whole p s → ⊥
never_cut Whole p (stops.Refused at why) x h = h
never_cut Whole p (stops.TooLong at) x h = h
never_cut Whole p (stops.TooMany at) x h = h
never_cut Whole p (stops.TooMuch at) x h = h
never_cut Whole p (stops.Cut at) x h = h.1 (x.0) (x.1) x.2

module _ (Took : List ℕ → List (List ℕ) → Type 0) (Whole : List ℕ → List (List ℕ) → Outcome → Type 0) (Closes : List ℕ → List (List ℕ) → Type 0) (Unstopped : List ℕ → Type 0) (StopsBy : List ℕ → Stop → Type 0) where
  abbrev Early : Reading → Outcome → List (List ℕ) → Type 0
  Early = IsEarlyRight Whole Closes Unstopped StopsBy

  abbrev Right : Reading → Outcome → List (List ℕ) → Type 0
  Right = IsStreamRight Whole Closes Unstopped StopsBy

  -- What is right before the end is right.
  pub early_right : (r : Reading) (o : Outcome) (parts : List (List ℕ)) → Early r o parts → Right r o parts
  early_right r out.Done parts h = absurd h
  early_right r (out.Findings n) parts h = absurd h
  early_right r (out.LeftOut n) parts h = absurd h
  early_right r (out.Stopped s) parts h = h
  early_right r out.NotReadable parts h = absurd h
  early_right r out.NotWritable parts h = absurd h
  early_right r out.ReadFault parts h = h
  early_right r (out.WriteFault n) parts h = absurd h
  early_right r out.OutOfMemory parts h = h

  -- What a call came to that consumed n bytes of the rest of a piece, of which at were consumed before.
  pub leads_on : (read piece rest : List ℕ) (at n : ℕ) (all : List (List ℕ)) → rest ≡ drop at piece → at ≤ length piece → (found : Event (Unit {0})) →
      LeadsTo Closes Unstopped Took StopsBy (read ++ take at piece) all rest n found → LeadsTo Closes Unstopped Took StopsBy read all piece (at + n) found
  leads_on read piece rest at n all e less events.NeedMore h = subst (λ (t : List ℕ). Took t all) (text_on read piece rest at n e) h
  leads_on read piece rest at n all e less (events.Given u) h = subst (λ (t : List ℕ). Took t all) (text_on read piece rest at n e) h
  leads_on read piece rest at n all e less (events.Stopped s) h = (
    h.0,
    subst (λ (t : List ℕ). StopsBy t s) (text_all read piece rest at e) h.1,
    omega (arith, h.2, less, length-append read (take at piece), length-take at piece),
    subst (λ (t : List ℕ). Closes t all) (text_on read piece rest at n e) h.3,
  )
  leads_on read piece rest at n all e less events.OutOfMemory (inl h) =
      let next : at + (n + 1) ≡ (at + n) + 1 = omega arith in
      inl (
        omega (arith, h.0, less, ap length e, length-drop at piece),
        subst Unstopped (text_on read piece rest at n e) h.1,
        subst (λ (m : ℕ). Unstopped (read ++ take m piece)) next (subst Unstopped (text_on read piece rest at (n + 1) e) h.2),
        subst (λ (t : List ℕ). Closes t all) (text_on read piece rest at n e) h.3,
      )
  leads_on read piece rest at n all e less events.OutOfMemory (inr h) = inr (
    h.0,
    h.1,
    subst Unstopped (text_on read piece rest at n e) h.2,
    subst (λ (t : List ℕ). Closes t (all ++ h.0)) (text_on read piece rest at n e) h.3,
  )

  -- A call of next within a piece: what it came to with all parts that were given, whose text was written or is held.
  pub next_on : (first now : Option (List ℕ)) (output new : Output) (read piece rest : List ℕ) (at n : ℕ) (what found : Event (Unit {0})) (parts : List (List ℕ)) →
      rest ≡ drop at piece → at ≤ length piece → what ≡ found → Holds first now parts output →
      FoundIs Closes Unstopped Took StopsBy (read ++ take at piece) parts rest n output.text.items new.text.items what → new.written ≡ output.written →
      (all : List (List ℕ)) × LeadsTo Closes Unstopped Took StopsBy read all piece (at + n) found × Holds first now all new
  next_on first now output new read piece rest at n what found parts e less is h f same =
      let all = parts ++ f.more in (
        all,
        leads_on read piece rest at n all e less found (subst (LeadsTo Closes Unstopped Took StopsBy (read ++ take at piece) all rest n) is f.leads),
        holds_more first now parts output h f.more new f.out_is same,
      )

  -- Nothing ends the stream.
  pub goes_on : (read piece : List ℕ) (used : ℕ) (all : List (List ℕ)) (what : Event (Unit {0})) → (what ≡ events.NeedMore) ⊎ ((u : Unit {0}) × (what ≡ events.Given u)) →
      LeadsTo Closes Unstopped Took StopsBy read all piece used what → Took (read ++ take used piece) all
  goes_on read piece used all what (inl e) h = subst (LeadsTo Closes Unstopped Took StopsBy read all piece used) e h
  goes_on read piece used all what (inr e) h = subst (LeadsTo Closes Unstopped Took StopsBy read all piece used) e.1 h

  -- ---- A piece, of which so many bytes were consumed.

  module _ (explain : Bool) (Line : List ℕ → Option ℕ → List ℕ → Type 0) (read piece : List ℕ) (used : ℕ) (within : used ≤ length piece) (left : Option (List ℕ)) (failed : Bool) (first now : Option (List ℕ)) (write_failed : Bool) (parts : List (List ℕ)) (o : Outcome) where
    abbrev r : Reading
    r = record { bytes = read ++ piece; left = left; failed = failed }

    abbrev Ends : Type 0
    Ends = EndsSo Early (Tells Line explain) (read ++ piece) left failed first now write_failed o

    front : (m : ℕ) → take (length read + m) (read ++ piece) ≡ read ++ take m piece
    front m = take-append-add read piece m

    -- Memory was refused after these bytes, for the next or for a part.
    starved : (more : List (List ℕ)) → Unstopped (read ++ take used piece) → Closes (read ++ take used piece) (parts ++ more) →
        (((length read + used) < length (read ++ piece)) × Unstopped (take (length read + used + 1) (read ++ piece))) ⊎ (parts ++ more ≢ []) →
        IsStreamStarved Whole Closes Unstopped StopsBy r parts
    starved more u c w = record {
      at = length read + used;
      within = omega (arith, within, length-append read piece);
      unstopped = rw (front used) u;
      more = more;
      has = inl (rw (front used) c);
      wants = w;
    }

    -- The writer failed in some of these parts.
    pub fault_ends : parts ≢ [] → Unstopped (read ++ take used piece) → Closes (read ++ take used piece) parts →
        FailsIn first now write_failed parts o → Ends
    fault_ends some u c w = record {
      wanted = out.OutOfMemory;
      parts = parts;
      right = starved [] u (rw (append-nil parts) c) (inr (rw (append-nil parts) some));
      more = [];
      tells = refl;
      wrote = w (last_line out.OutOfMemory) out.OutOfMemory;
    }

    stop_right : (s : Stop) → IsByteStop s → StopsBy (read ++ piece) s → Closes (take (place_of s) (read ++ piece)) parts → IsStreamStop Whole Closes Unstopped StopsBy r s parts
    stop_right (stops.Refused place why) b x c = record { stops = x; closed = c }
    stop_right (stops.TooLong place) b x c = record { stops = x; closed = c }
    stop_right (stops.TooMany place) b x c = record { stops = x; closed = c }
    stop_right (stops.TooMuch place) b x c = record { stops = x; closed = c }
    stop_right (stops.Cut place) b x c = absurd b

    -- The byte of the piece behind those that were consumed.
    next_byte : get_or (read ++ piece) (length read + used) 0 ≡ get_or piece used 0
    next_byte = get_or-append-add read piece used 0

    -- What is told of a stop there is told of it in all bytes.
    stop_tells : (s : Stop) (what : Option ℕ) (more : List ℕ) → IsByteStop s → place_of s ≡ length read + used → what ≡ Some (get_or piece used 0) → used < length piece →
        TellsSpot Line explain (read ++ take used piece) what s more → TellsStop Line explain (read ++ piece) s more
    stop_tells (stops.Refused place why) what more b e k some t =
        let same : take place (read ++ piece) ≡ read ++ take used piece = ap (λ (n : ℕ). take n (read ++ piece)) e ∙ front used in
        let byte : get_or (read ++ piece) place 0 ≡ get_or piece used 0 = ap (λ (n : ℕ). get_or (read ++ piece) n 0) e ∙ next_byte in
        rw (same, byte, ← k) t
    stop_tells (stops.TooLong place) what more b e k some t = long_tells Line (read ++ take used piece) what place more explain t
    stop_tells (stops.TooMany place) what more b e k some t = many_tells Line (read ++ take used piece) what place more explain t
    stop_tells (stops.TooMuch place) what more b e k some t = much_tells Line (read ++ take used piece) what place more explain t
    stop_tells (stops.Cut place) what more b e k some t = absurd b

    pub stop_ends : (s : Stop) (what : Option ℕ) (more : List ℕ) → LeadsTo Closes Unstopped Took StopsBy read parts piece used (events.Stopped s) →
        what ≡ Some (get_or piece used 0) → used < length piece → TellsSpot Line explain (read ++ take used piece) what s more →
        Wrote first now write_failed (joined parts ++ (last_line (out.Stopped s) ++ more)) (out.Stopped s) o → Ends
    stop_ends s what more h k some t w = record {
      wanted = out.Stopped s;
      parts = parts;
      right = stop_right s h.0 h.1 (rw (h.2, front used) h.3);
      more = more;
      tells = stop_tells s what more h.0 h.2 k some t;
      wrote = w;
    }

    memory_right : WantsMemory Closes Unstopped read parts piece used → IsStreamStarved Whole Closes Unstopped StopsBy r parts
    memory_right (inl h) =
        let next : length read + used + 1 ≡ length read + (used + 1) = omega arith in
        starved [] h.1 (rw (append-nil parts) h.3) (inl (omega (arith, h.0, length-append read piece), rw (next, front (used + 1)) h.2))
    memory_right (inr h) = starved (h.0) h.2 h.3 (inr (some_more parts (h.0) h.1))

    pub memory_ends : WantsMemory Closes Unstopped read parts piece used → Wrote first now write_failed (joined parts ++ last_line out.OutOfMemory) out.OutOfMemory o → Ends
    memory_ends h w = record { wanted = out.OutOfMemory; parts = parts; right = memory_right h; more = []; tells = refl; wrote = w }

  -- ---- The end of the input

  module _ (explain : Bool) (Line : List ℕ → Option ℕ → List ℕ → Type 0) (read : List ℕ) (left : Option (List ℕ)) (failed : Bool) (first now : Option (List ℕ)) (write_failed : Bool) (parts : List (List ℕ)) (unstopped : Unstopped read) (closed : Closes read parts) where
    pub read_fault_ends : (o : Outcome) → failed ≡ true → Wrote first now write_failed (joined parts ++ last_line out.ReadFault) out.ReadFault o → EndsSo Early (Tells Line explain) read left failed first now write_failed o
    read_fault_ends o f w = record { wanted = out.ReadFault; parts = parts; right = record { unstopped = unstopped; failed = f; closed = closed }; more = []; tells = refl; wrote = w }

    module _ (ended : IsAtEnd left) (works : failed ≡ false) where
      abbrev Ended : Outcome → Type 0
      Ended = EndsSo Right (Tells Line explain) read left failed first now write_failed

      -- The stream is whole, and has these parts.
      done_so : (all : List (List ℕ)) (n : ℕ) (is_none : Bool) (o : Outcome) → Whole read all (if is_none then out.Done else out.LeftOut n) →
          Wrote first now write_failed (joined all ++ (last_line (if is_none then out.Done else out.LeftOut n) ++ [])) (if is_none then out.Done else out.LeftOut n) o → Ended o
      done_so all n true o whole w = record { wanted = out.Done; parts = all; right = record { ended = (ended, works); unstopped = unstopped; whole = whole }; more = []; tells = refl; wrote = w }
      done_so all n false o whole w = record { wanted = out.LeftOut n; parts = all; right = record { ended = (ended, works); unstopped = unstopped; whole = whole }; more = []; tells = refl; wrote = w }

      pub done_ends : (all : List (List ℕ)) (left_out : ℕ) (o : Outcome) → Whole read all (gone_on left_out) → Wrote first now write_failed (joined all ++ last_line (gone_on left_out)) (gone_on left_out) o → Ended o
      done_ends all left_out o whole w =
          done_so all left_out (nat_eq left_out 0) o whole (subst (λ (t : List ℕ). Wrote first now write_failed (joined all ++ t) (gone_on left_out) o) (sym (append-nil (last_line (gone_on left_out)))) w)

      cut_right : (s : Stop) → IsCutAt Whole read s → IsStreamStop Whole Closes Unstopped StopsBy (record { bytes = read; left = left; failed = failed }) s parts
      cut_right (stops.Refused place why) h = absurd h
      cut_right (stops.TooLong place) h = absurd h
      cut_right (stops.TooMany place) h = absurd h
      cut_right (stops.TooMuch place) h = absurd h
      cut_right (stops.Cut place) h = record { ended = (ended, works); unstopped = unstopped; not_whole = h.1; at_end = h.0; closed = closed }

      pub cut_ends : (at : ℕ) (o : Outcome) (more : List ℕ) → IsCutAt Whole read (stops.Cut at) → TellsSpot Line explain read None (stops.Cut at) more →
          Wrote first now write_failed (joined parts ++ (last_line (out.Stopped (stops.Cut at)) ++ more)) (out.Stopped (stops.Cut at)) o → Ended o
      cut_ends at o more h t w =
          let all : take at read ≡ read = ap (λ (n : ℕ). take n read) h.0 ∙ take-length read in
          record { wanted = out.Stopped (stops.Cut at); parts = parts; right = cut_right (stops.Cut at) h; more = more; tells = rw all t; wrote = w }

      pub last_memory_ends : (more : List (List ℕ)) (all : Outcome) (o : Outcome) → more ≢ [] → Whole read (parts ++ more) all →
          Wrote first now write_failed (joined parts ++ last_line out.OutOfMemory) out.OutOfMemory o → Ended o
      last_memory_ends more all o some whole w = record {
        wanted = out.OutOfMemory;
        parts = parts;
        right = record {
          at = length read;
          within = omega arith;
          unstopped = rw (take-length read) unstopped;
          more = more;
          has = inr (all, record { ended = (ended, works); unstopped = unstopped; whole = whole });
          wants = inr (some_more parts more some);
        };
        more = [];
        tells = refl;
        wrote = w;
      }
