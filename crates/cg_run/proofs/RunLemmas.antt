-- What is right for a run.
use Rattle.std.proofs.Common.{◌≡◌, ℕ, Bool, false, inr, List, [], Option, refl, append-nil, sym, subst}
use Rattle.std.specs.Io.KnownBytes.{IsAtEnd}
use Rattle.cg_text.specs.Texts.{TextOf}
use Rattle.cg_snap.specs.Stop.{IsTextUnstopped, TextStopOf}
use Rattle.cg_snap.specs.declared.stop.Stop.{Stop}
use Rattle.cg_snap.specs.declared.stop.Stop.TheVariants as stop
use Rattle.cg_outcome.specs.Explain.{Tells}
use Rattle.cg_outcome.specs.Outcome.{last_line}
use Rattle.cg_outcome.specs.Input.{Reading}
use Rattle.cg_run.specs.Run.{IsTextStop, IsTextRight, DidRunWith}
use Rattle.cg_outcome.specs.Wrote.{Wrote}
use Rattle.cg_run.specs.Ended.{IsEndRight}
use Rattle.cg_outcome.specs.declared.outcome.Outcome.{Outcome}
use Rattle.cg_outcome.specs.declared.outcome.Outcome.TheVariants as out
use Rattle.cg_source.proofs.Took.{Consumes-nil}

module _ {V : Type 0} (Text : List ℕ → V → Type 0) (print : V → List ℕ) (max : ℕ) (r : Reading) where
  -- A stop by a byte of the input.
  pub byte_stop : (s : Stop) → TextStopOf (TextOf Text) max r.bytes s → IsTextStop Text print max r s
  byte_stop (stop.Refused at why) h = h
  byte_stop (stop.TooLong at) h = h
  byte_stop (stop.TooMany at) h = h
  byte_stop (stop.TooMuch at) h = h
  byte_stop (stop.Cut at) h = absurd h.stops

  -- The end of the input.
  pub end_right : IsAtEnd r.left → r.failed ≡ false → IsTextUnstopped (TextOf Text) max r.bytes →
      (o : Outcome) (parts : List (List ℕ)) → IsEndRight Text print r.bytes o parts → IsTextRight Text print max r o parts
  end_right ended works unstopped out.Done parts h = (print h.0, record { ended = (ended, works); unstopped = unstopped; value = h.0; spelled = h.1; part_is = refl }, h.2)
  end_right ended works unstopped (out.Findings n) parts h = absurd h
  end_right ended works unstopped (out.LeftOut n) parts h = absurd h
  end_right ended works unstopped (out.Stopped (stop.Refused at why)) parts h = absurd h
  end_right ended works unstopped (out.Stopped (stop.TooLong at)) parts h = absurd h
  end_right ended works unstopped (out.Stopped (stop.TooMany at)) parts h = absurd h
  end_right ended works unstopped (out.Stopped (stop.TooMuch at)) parts h = absurd h
  end_right ended works unstopped (out.Stopped (stop.Cut at)) parts h = (record { ended = (ended, works); unstopped = unstopped; not_whole = h.0; at_end = h.1 }, h.2)
  end_right ended works unstopped out.NotReadable parts h = absurd h
  end_right ended works unstopped out.NotWritable parts h = absurd h
  end_right ended works unstopped out.ReadFault parts h = absurd h
  end_right ended works unstopped (out.WriteFault n) parts h = absurd h
  end_right ended works unstopped out.OutOfMemory parts h = (rw h.2 tt, inr (print h.0, record { ended = (ended, works); unstopped = unstopped; value = h.0; spelled = h.1; part_is = refl }))

-- Nothing was read, and the last line alone was written.
pub idle_ran : (Right : Reading → Outcome → List (List ℕ) → Type 0) (Tells : Reading → Outcome → List ℕ → Type 0) (coming : Option (List ℕ)) (read_failed : Bool) (taken now : Option (List ℕ)) (write_failed : Bool) (wanted o : Outcome) →
    Right (record { bytes = []; left = coming; failed = read_failed }) wanted [] → Tells (record { bytes = []; left = coming; failed = read_failed }) wanted [] → Wrote taken now write_failed (last_line wanted) wanted o →
    DidRunWith Right Tells coming coming read_failed taken now write_failed o
idle_ran Right Tells coming read_failed taken now write_failed wanted o right tells wrote =
    record { read = []; consumed = Consumes-nil coming; wanted = wanted; parts = []; right = right; more = []; tells = tells; wrote = subst (λ (t : List ℕ). Wrote taken now write_failed t wanted o) (sym (append-nil (last_line wanted))) wrote }
