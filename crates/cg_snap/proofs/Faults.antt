-- What comes of bytes of a line.
use Rattle.std.proofs.Common.{◌≡◌, ◌+◌, ◌≤◌, ◌++◌, [], ℕ, List, Option, Some, None, true, take, get_or, length, subst, arith}
use Rattle.std.proofs.lemmas.List.{length-append, length-take-le}
use Rattle.cg_file.specs.Front.{IsLineFront}
use Rattle.cg_text.specs.Texts.{Lacks}
use Rattle.cg_text.specs.TextsLaws.{lacks_inside}
use Rattle.cg_line.specs.Reads.{Reads}
use Rattle.cg_line.specs.Runs.{StopsAt}
use Rattle.cg_line.specs.declared.push.PushFault.{PushFault}
use Rattle.cg_line.specs.declared.push.PushFault.TheVariants.{OutOfMemory, Refused}
use Rattle.cg_value.specs.Entry.{EntryData}
use Rattle.cg_value.specs.Files.{KindFile}
use Rattle.cg_value.specs.Lines.{unlines}
use Rattle.cg_value.specs.declared.kind.ReadForm.{ReadForm}
use Rattle.cg_value.specs.declared.profile.Profile.{Profile}
use Rattle.cg_snap.specs.Course.{IsLineEvent, Leaves}
use Rattle.cg_snap.specs.DecoderState.{HasConsumed}
use Rattle.cg_snap.specs.Streams.{snap_stream}
use Rattle.cg_snap.specs.declared.event.Event.{Event}
use Rattle.cg_snap.specs.declared.event.Event.TheVariants as events
use Rattle.cg_snap.specs.declared.present.CurrentEntry.{CurrentEntry}
use Rattle.cg_snap.proofs.Allowed.{line_next_on, line_refused_on}
use Rattle.cg_snap.proofs.Runs.{line_byte_few}
use Rattle.cg_snap.proofs.States.{line_state, line_taken}

module _ (profile : Profile) (begun : List ℕ) (x x' : CurrentEntry) (p : List ℕ) (es : List EntryData) (bytes : List ℕ) (used max at : ℕ) (h : HasConsumed profile begun (Some x) p es) (t : x.in_line ≡ true)
    (within : used ≤ length bytes) (e : x'.path.items ≡ x.path.items) (c : x'.lines ≡ x.lines) (i : x'.in_line ≡ true)
    (reads : (k : ReadForm) (s : List ℕ) → Reads x.reader k s → Reads x'.reader k (s ++ take used bytes)) where
  -- They don't end the line.
  pub part_leaves : (fault : Option PushFault) (what : Event EntryData) → at ≡ length p → Lacks 10 (take used bytes) → ((k : ReadForm) (s : List ℕ) → Reads x.reader k s → StopsAt (KindFile k) s bytes used fault) →
      IsLineEvent fault (at + used) what → Leaves (snap_stream profile) (HasConsumed profile begun (Some x')) max p es bytes used what
  part_leaves None what place plain stops is = rw is (line_taken profile begun x x' p es (take used bytes) t h plain e c i reads)
  part_leaves (Some Refused) what place plain stops is =
      let l = line_state profile begun x p es t h in
      let s = stops l.kind (unlines l.lines ++ l.line) l.reads in
      let why = line_refused_on profile begun x x' p es (take used bytes) (get_or bytes used 0) l plain e c (reads l.kind (unlines l.lines ++ l.line) l.reads) s.2 in
      let here : at + used ≡ length (p ++ take used bytes) = omega (arith, place, length-append p (take used bytes), length-take-le used bytes within) in
      rw is (s.0, line_taken profile begun x x' p es (take used bytes) t h plain e c i reads, (here, why))
  part_leaves (Some OutOfMemory) what place plain stops is =
      let l = line_state profile begun x p es t h in
      let s = stops l.kind (unlines l.lines ++ l.line) l.reads in
      let next = line_next_on profile begun x x' p es (take used bytes) (get_or bytes used 0) l plain e c (reads l.kind (unlines l.lines ++ l.line) l.reads) s.2 in
      let state = line_taken profile begun x x' p es (take used bytes) t h plain e c i reads in
      rw is (s.0, state, next, line_byte_few profile max begun x' (p ++ take used bytes) es (get_or bytes used 0) state i)

-- Where they end it, there is no fault.
pub ended_event : {Part : Type 0} → (L : List ℕ → Type 0) (taken bytes : List ℕ) (used at : ℕ) (fault : Option PushFault) (what : Event Part) → IsLineFront bytes used → StopsAt L taken bytes used fault → IsLineEvent fault at what →
    what ≡ events.NeedMore
ended_event L taken bytes used at None what f s is = is
ended_event L taken bytes used at (Some Refused) what f s is = absurd (lacks_inside 10 f.0 [] (subst (Lacks 10) f.1 s.1))
ended_event L taken bytes used at (Some OutOfMemory) what f s is = absurd (lacks_inside 10 f.0 [] (subst (Lacks 10) f.1 s.1))
