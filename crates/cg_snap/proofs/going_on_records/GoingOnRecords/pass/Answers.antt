use Rattle.std.proofs.Common.{◌≡◌, ◌++◌, ◌∷◌, ℕ, List, [], length, take, ◌+◌, ◌<◌, refl, sym, ap, subst, ◌∙◌, append_assoc, arith, false}
use Rattle.std.proofs.lemmas.Bool.{MatchBool-at_true}
use Rattle.std.proofs.lemmas.List.{take_more}
use Rattle.cg_snap.specs.GoingOnState.{IsPassingOver, IsReading}
use Rattle.cg_snap.specs.declared.going_on_records.GoingOnRecords.{GoingOnRecords}
use Rattle.cg_snap.proofs.GoingOnMoves.{pass_newline, pass_on}
use Rattle.cg_snap.proofs.States.{at_false, at_true}
use Rattle.cg_snap.proofs.going_on_records.GoingOnRecords.pass.Goals as goal

pub returns-then-used-bytes-clause-passed : goal.returns-then-used-bytes-clause-passed
returns-then-used-bytes-clause-passed c profile limits p told h f =
    let s = c.args.self.now in
    let used : ℕ = c.line_length-used.result in
    let over = MatchBool-at_true _ _ f h.state in
    record {
      profile_is = h.profile_is;
      limits_is = h.limits_is;
      meter_is = h.meter_is;
      state = at_true (IsPassingOver s profile limits (p ++ take used c.args.bytes.now) told) (IsReading s profile limits (p ++ take used c.args.bytes.now) told) s.is_passing f
          (pass_on profile limits s s p told refl over.along (take used c.args.bytes.now) c.line_length-used.ensures.plain over);
    }

pub returns-clause-passed : goal.returns-clause-passed
returns-clause-passed c profile limits p told h f =
    let s = c.args.self.now in
    let bytes : List ℕ = c.args.bytes.now in
    let used : ℕ = c.line_length-used.result in
    let line = c.line_length-used.ensures in
    let over = MatchBool-at_true _ _ f h.state in
    let t : GoingOnRecords = record { limits = s.limits; block = s.block; meter = s.meter; left_out = s.left_out; is_passing = false } in
    let on = pass_on profile limits s s p told refl over.along (take used bytes) line.plain over in
    let newline = pass_newline profile limits s t (p ++ take used bytes) told refl over.along on in
    let low : used < length bytes = omega (arith, line.within, c.if-used-bytes.false) in
    let front : take (used + 1) bytes ≡ take used bytes ++ 10 ∷ [] = take_more bytes used 0 low ∙ ap (λ (b : ℕ). take used bytes ++ b ∷ []) (line.ends low) in
    let text : (p ++ take used bytes) ++ 10 ∷ [] ≡ p ++ take (used + 1) bytes = append_assoc p (take used bytes) (10 ∷ []) ∙ ap (λ (t : List ℕ). p ++ t) (sym front) in
    record {
      profile_is = h.profile_is;
      limits_is = h.limits_is;
      meter_is = h.meter_is;
      state = at_false (IsPassingOver t profile limits (p ++ take (used + 1) bytes) told) (IsReading t profile limits (p ++ take (used + 1) bytes) told) false refl (subst (λ (q : List ℕ). IsReading t profile limits q told) text newline);
    }
