use Rattle.cg_snap.specs.Decoder.{Stands}
use Rattle.cg_run.proofs.Streams.{text_on}
use Rattle.std.proofs.Common.{◌≡◌, ◌++◌, ◌∙◌, ℕ, List, length, take, drop, ap, subst, arith, length-drop}
use Rattle.cg_snap.specs.declared.event.Event.TheVariants as events
use Rattle.cg_run.proofs.Decoding.{decoded_entry, decoded_none, left_none, left_starved, left_stopped}
use Rattle.cg_run.proofs.Pulled.{pulled_is}
use Rattle.cg_run.proofs.shown.decode.Goals as goal
use Rattle.cg_run.proofs.shown.decode.Goals.{in-NeedMore, in-Stopped, in-OutOfMemory}

pub entries-init : goal.entries-init
entries-init c = record {
  within = omega arith;
  closed = omega arith;
  decoded = λ profile limits p es h. decoded_none profile limits p es c.args.piece.now c.args.decoder.now h;
}

pub entries-preserved : goal.entries-preserved
entries-preserved c =
    let piece = c.args.piece.now in
    let rest = c.split_at.result.1.now in
    let at = c.entries.used in
    let n = c.next-pulled.result.used in
    let was = c.entries.decoder in
    let now = c.next-pulled.new.self in
    let left : length rest ≡ length (drop at piece) = ap length c.split_at.ensures.back in
    record {
      within = omega (arith, c.next-pulled.ensures.used, left, length-drop at piece, c.entries.invariant.within);
      closed = omega arith;
      decoded = λ profile limits p es h.
          let b = c.entries.invariant.decoded profile limits p es h in
          let what = rw c.in-Given.is at (c.next-pulled.ensures.pulled (p ++ take at piece) (es ++ b.more) b.taken.stop b.taken.stands) in
          let pulled = pulled_is was now profile limits (p ++ take at piece) (es ++ b.more) rest n b.taken c.next-pulled.ensures.form c.next-pulled.ensures.limits (events.Given c.in-Given.field-0) what in
          decoded_entry profile limits p es piece was now rest at n c.entries.closed c.split_at.ensures.back c.entries.invariant.within c.next-pulled.ensures.used b
          c.next-pulled.ensures.form c.next-pulled.ensures.limits c.in-Given.field-0 pulled;
    }

pub returns-in-entries-clause-decoded : goal.returns-in-entries-clause-decoded
returns-in-entries-clause-decoded c profile limits p es h =
    let piece = c.args.piece.now in
    let rest = c.split_at.result.1.now in
    let at = c.entries.used in
    let n = c.next-pulled.result.used in
    let was = c.entries.decoder in
    let now = c.next-pulled.new.self in
    let b = c.entries.invariant.decoded profile limits p es h in
    let front = p ++ take at piece in
    let all = es ++ b.more in
    let back = c.split_at.ensures.back in
    let inside = c.entries.invariant.within in
    let within = c.next-pulled.ensures.used in
    let same_profile = c.next-pulled.ensures.form in
    let same_limits = c.next-pulled.ensures.limits in
    let seen = c.next-pulled.ensures.pulled front all b.taken.stop b.taken.stands in
    record {
      more = b.more;
      close = b.close;
      left = elim c.match-pulled.branch [
        | in-NeedMore w ↦
            let what = rw w.in-NeedMore.is at seen in
            let pulled = pulled_is was now profile limits front all rest n b.taken same_profile same_limits events.NeedMore what in
            rw w.what-is (left_none profile limits p es piece was now rest at n c.entries.closed back inside within b same_profile same_limits pulled (omega (arith, what.1)))
        | in-Stopped w ↦
            let what = rw w.in-Stopped.is at seen in
            let pulled = pulled_is was now profile limits front all rest n b.taken same_profile same_limits (events.Stopped w.in-Stopped.stop) what in
            rw w.what-is (left_stopped profile limits p es piece was now rest at n c.entries.closed back inside within b same_profile same_limits w.in-Stopped.stop pulled)
        | in-OutOfMemory w ↦
            let what = rw w.in-OutOfMemory.is at seen in
            let pulled = pulled_is was now profile limits front all rest n b.taken same_profile same_limits events.OutOfMemory what in
            rw w.what-is (left_starved profile limits p es piece was now rest at n c.entries.closed back inside within b same_profile same_limits pulled)
      ];
    }

pub returns-in-entries-clause-stood : goal.returns-in-entries-clause-stood
returns-in-entries-clause-stood c profile limits p es h =
    let piece = c.args.piece.now in
    let rest = c.split_at.result.1.now in
    let at = c.entries.used in
    let n = c.next-pulled.result.used in
    let b = c.entries.invariant.decoded profile limits p es h in
    let front = p ++ take at piece in
    let back = c.split_at.ensures.back in
    let seen = c.next-pulled.ensures.pulled front (es ++ b.more) b.taken.stop b.taken.stands in
    elim c.match-pulled.branch [
      | in-NeedMore w ↦ rw w.what-is tt
      | in-Stopped w ↦
          let what = rw w.in-Stopped.is at seen in
          let left : length rest ≡ length (drop at piece) = ap length back in
          rw w.what-is (
            omega (arith, what.1, left, length-drop at piece, c.entries.invariant.within),
            record {
              parts = es ++ b.more;
              stands = subst (λ (t : List ℕ). Stands c.next-pulled.new.self t (es ++ b.more)) (text_on p piece rest at n back) what.3;
              form_is = c.next-pulled.ensures.form ∙ b.taken.form_is;
              limits_is = c.next-pulled.ensures.limits ∙ b.taken.limits_is;
            },
          )
      | in-OutOfMemory w ↦ rw w.what-is tt
    ]
