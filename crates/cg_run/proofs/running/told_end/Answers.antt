use Rattle.std.proofs.Common.{◌≡◌, ◌≤◌, ◌++◌, [], ◌∷◌, ◌∙◌, sym, ap, refl, take, length, subst, true≢false, append-nil, arith, List, ℕ, None}
use Rattle.std.specs.Prelude.{is_some}
use Rattle.std.proofs.Math.Seq.{take-length}
use Rattle.cg_text.specs.Texts.{TextOf}
use Rattle.cg_outcome.specs.Explain.{ExplainsNext, IsInText, TellsSpot}
use Rattle.cg_outcome.specs.Spot.{more_words}
use Rattle.cg_outcome.specs.declared.outcome.Outcome.TheVariants as out
use Rattle.cg_snap.specs.declared.stop.Stop.TheVariants as stop
use Rattle.cg_source.proofs.Took.{nothing_written}
use Rattle.cg_run.proofs.running.told_end.Goals as goal

pub returns-in-Ok-Some-clause-ended : goal.returns-in-Ok-Some-clause-ended
returns-in-Ok-Some-clause-ended g c form bytes h e lines =
    let found = rw c.in-Ok-Some.field-0-is at c.in-Ok-Some.ensures form bytes h in
    let part = g.T.TextReader.printed found.0 in
    let same : c.as_slice.result.now ≡ (part ++ []) ++ [] = c.as_slice.ensures.value ∙ found.2 ∙ sym (append-nil part) ∙ sym (append-nil (part ++ [])) in
    record {
      wanted = out.Done;
      parts = part ∷ [];
      right = (found.0, found.1, refl);
      more = [];
      tells = λ r same. refl;
      wrote = rw same at c.told.ensures;
    }

pub returns-in-Ok-None-clause-ended : goal.returns-in-Ok-None-clause-ended
returns-in-Ok-None-clause-ended g c form bytes h e lines =
    let none = rw c.in-Ok-None.field-0-is at c.in-Ok-None.ensures form bytes h in
    absurd (none ((c.can_finish.ensures form bytes h).0 c.if-not-can_finish.false))

pub returns-in-Err-clause-ended : goal.returns-in-Err-clause-ended
returns-in-Err-clause-ended g c form bytes h e lines =
    let found = c.in-Err.ensures form bytes h in
    record { wanted = out.OutOfMemory; parts = []; right = (found.0, found.1, refl); more = []; tells = λ r same. refl; wrote = c.told_line-in-Err.ensures }

pub returns-then-not-can_finish-clause-ended : goal.returns-then-not-can_finish-clause-ended
returns-then-not-can_finish-clause-ended g c form bytes h e lines =
    let few : length bytes ≤ 18446744073709551615 = omega (arith, e, c.ranges.at.fits) in
    let L = TextOf (g.T.TextReader.text form) in
    let more = more_words c.text_spot.result in
    let told = c.text_spot.ensures form bytes h few lines in
    record {
      wanted = out.Stopped (stop.Cut c.args.at);
      parts = [];
      right = (λ t. true≢false (sym ((c.can_finish.ensures form bytes h).1 t) ∙ c.if-not-can_finish.true), e, refl);
      more = more;
      tells = λ r same.
          let all : take c.args.at r.bytes ≡ bytes = ap (λ (t : List ℕ). take c.args.at t) same ∙ ap (λ n. take n bytes) e ∙ take-length bytes in
          subst (λ (t : List ℕ). TellsSpot (ExplainsNext L (IsInText c.args.name.now)) (is_some c.args.lines) t None (stop.Cut c.args.at) more) (sym all) told;
      wrote = c.write_stop.ensures.wrote (g.W.Sink.taken c.args.writer.now) [] (nothing_written (g.W.Sink.taken c.args.writer.now));
    }
