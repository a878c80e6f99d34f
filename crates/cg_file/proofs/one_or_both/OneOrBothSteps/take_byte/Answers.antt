use Rattle.std.proofs.Common.{◌≡◌, true, false, [], refl, Some, None, sym, ◌∙◌}
use Rattle.cg_text.specs.TokenLaws.{if_err_as}
use Rattle.cg_join.specs.SequenceLaws.{apart_after}
use Rattle.cg_file.specs.OneOrBothLaws.{first_taken, second_alone, second_after, start_refused, first_refused, start_goes, first_goes, later_goes}
use Rattle.cg_file.specs.declared.one_or_both.PartsTaken.TheVariants.{First}
use Rattle.cg_file.proofs.one_or_both.OneOrBothSteps.take_byte.Goals as goal

pub invariant_of-self : goal.invariant_of-self
invariant_of-self g c =
    let taken = rw c.in-Ok-true.field-0-test at c.in-Ok-true.ensures.taken in
    let old = c.args.self.now in
    record {
      apart = λ e. apart_after g.A.Token.means g.B.Token.means old.first c.step.new.self old.second c.args.byte taken (old.apart (rw c.in-Start.is refl));
      filled = λ e. old.filled (rw c.in-Start.is refl);
      differ = λ e. absurd (let f : false ≡ true = e in cc);
      ended = λ e. absurd (let f : false ≡ true = e in cc);
    }

pub invariant_of-self-in-Ok-true-step-2 : goal.invariant_of-self-in-Ok-true-step-2
invariant_of-self-in-Ok-true-step-2 g c =
    let taken = rw c.in-Ok-true-step-2.field-0-test at c.in-Ok-true-step-2.ensures.taken in
    let old = c.args.self.now in
    record {
      apart = λ e. apart_after g.A.Token.means g.B.Token.means old.first c.step-in-First.new.self old.second c.args.byte taken (old.apart (rw c.in-First.is refl));
      filled = λ e. old.filled (rw c.in-First.is refl);
      differ = λ e. absurd (let f : false ≡ true = rw c.in-First.is at e in cc);
      ended = λ e. absurd (let f : false ≡ true = rw c.in-First.is at e in cc);
    }

pub returns-in-Ok-true-clause-taken : goal.returns-in-Ok-true-clause-taken
returns-in-Ok-true-clause-taken g c =
    let taken = rw c.in-Ok-true.field-0-test at c.in-Ok-true.ensures.taken in
    let old = c.args.self.now in
    λ rest v. first_taken g.A.Token.means g.B.Token.means old.place old.first c.step.new.self old.second c.args.byte
    (rw c.in-Start.is refl) old.differ (old.apart (rw c.in-Start.is refl))
    (g.A.Token.completes c.step.new.self) taken rest (v.0) (v.1)

pub returns-in-Ok-true-step-clause-taken : goal.returns-in-Ok-true-step-clause-taken
returns-in-Ok-true-step-clause-taken g c =
    let none = rw c.in-Ok-false.field-0-test at c.in-Ok-false.ensures.refused in
    let taken = rw c.in-Ok-true-step.field-0-test at c.in-Ok-true-step.ensures.taken in
    let old = c.args.self.now in
    rw c.in-Start.is (λ rest v. second_alone g.A.Token.means g.B.Token.means old.first c.step.new.self old.second c.step-in-Ok-false.new.self c.args.byte (old.differ (rw c.in-Start.is refl)) none taken rest (v.0) (v.1))

pub returns-in-Ok-false-step-clause-refused : goal.returns-in-Ok-false-step-clause-refused
returns-in-Ok-false-step-clause-refused g c =
    let none = rw c.in-Ok-false.field-0-test at c.in-Ok-false.ensures.refused in
    let none' = rw c.in-Ok-false-step.field-0-test at c.in-Ok-false-step.ensures.refused in
    let old = c.args.self.now in
    rw c.in-Start.is (λ rest v. start_refused g.A.Token.means g.B.Token.means old.first old.second c.args.byte (old.differ (rw c.in-Start.is refl)) none none' rest (v.0) (v.1))

pub returns-in-Ok-true-step-2-clause-taken : goal.returns-in-Ok-true-step-2-clause-taken
returns-in-Ok-true-step-2-clause-taken g c =
    let taken = rw c.in-Ok-true-step-2.field-0-test at c.in-Ok-true-step-2.ensures.taken in
    let old = c.args.self.now in
    rw c.in-First.is (λ rest v. first_taken g.A.Token.means g.B.Token.means First old.first c.step-in-First.new.self
    old.second c.args.byte refl (λ e. absurd (let f : false ≡ true = e in cc))
    (old.apart (rw c.in-First.is refl)) (g.A.Token.completes c.step-in-First.new.self) taken rest (v.0) (v.1))

pub returns-then-not-can_end-clause-refused : goal.returns-then-not-can_end-clause-refused
returns-then-not-can_end-clause-refused g c =
    let none = rw c.in-Ok-false-step-2.field-0-test at c.in-Ok-false-step-2.ensures.refused in
    let same = rw c.in-Ok-false-step-2.field-0-test at c.in-Ok-false-step-2.ensures.same in
    let old = c.args.self.now in
    rw c.in-First.is (λ rest v. first_refused g.A.Token.means g.B.Token.means old.first old.second c.args.byte none
    (λ u h. absurd (let t : g.A.Token.ends c.step-in-First.new.self ≡ true = (g.A.Token.ends_is c.step-in-First.new.self).1 (u, (same [] u).1 h) in let f = c.if-not-can_end.true in let e = c.can_end.ensures in cc))
    rest (v.0) (v.1))

pub returns-in-Ok-true-step-3-clause-taken : goal.returns-in-Ok-true-step-3-clause-taken
returns-in-Ok-true-step-3-clause-taken g c =
    let none = rw c.in-Ok-false-step-2.field-0-test at c.in-Ok-false-step-2.ensures.refused in
    let same = rw c.in-Ok-false-step-2.field-0-test at c.in-Ok-false-step-2.ensures.same in
    let taken = rw c.in-Ok-true-step-3.field-0-test at c.in-Ok-true-step-3.ensures.taken in
    let old = c.args.self.now in
    rw c.in-First.is (λ rest v. second_after g.A.Token.means g.B.Token.means old.first c.step-in-First.new.self old.second c.step-in-Ok-false-step-2.new.self c.args.byte same none taken rest (v.0) (v.1))

pub returns-in-Ok-false-step-3-clause-refused : goal.returns-in-Ok-false-step-3-clause-refused
returns-in-Ok-false-step-3-clause-refused g c =
    let none = rw c.in-Ok-false-step-2.field-0-test at c.in-Ok-false-step-2.ensures.refused in
    let none' = rw c.in-Ok-false-step-3.field-0-test at c.in-Ok-false-step-3.ensures.refused in
    let old = c.args.self.now in
    rw c.in-First.is (λ rest v. first_refused g.A.Token.means g.B.Token.means old.first old.second c.args.byte none (λ u h. none') rest (v.0) (v.1))

pub returns-in-Err-clause-last : goal.returns-in-Err-clause-last
returns-in-Err-clause-last g c =
    let old = c.args.self.now in
    rw c.in-Start.is (start_goes g.A.Token.means g.B.Token.means old.first old.second c.args.byte c.in-Err.ensures.last)

pub returns-in-Err-step-clause-last : goal.returns-in-Err-step-clause-last
returns-in-Err-step-clause-last g c =
    let b = c.in-Err-step.ensures.last in
    rw c.in-Start.is (b.0, (None, Some b.1), (refl, b.2))

pub returns-in-Err-step-2-clause-last : goal.returns-in-Err-step-2-clause-last
returns-in-Err-step-2-clause-last g c =
    let old = c.args.self.now in
    rw c.in-First.is (first_goes g.A.Token.means g.B.Token.means old.first old.second c.args.byte c.in-Err-step-2.ensures.last)

pub returns-in-Err-step-3-clause-last : goal.returns-in-Err-step-3-clause-last
returns-in-Err-step-3-clause-last g c =
    let old = c.args.self.now in
    let same = rw c.in-Ok-false-step-2.field-0-test at c.in-Ok-false-step-2.ensures.same in
    let ended = (g.A.Token.ends_is c.step-in-First.new.self).0 (sym c.can_end.ensures ∙ c.if-not-can_end.false) in
    rw c.in-First.is (later_goes g.A.Token.means g.B.Token.means old.first old.second c.args.byte (ended.0, (same [] ended.0).0 ended.1) c.in-Err-step-3.ensures.last)

pub returns-in-Second-clause-last : goal.returns-in-Second-clause-last
returns-in-Second-clause-last g c =
    rw c.in-Second.is (if_err_as c.step-in-Second.result (λ b. (b.0, (None, Some b.1), (refl, b.2))) c.step-in-Second.ensures.last)

pub returns-in-Both-clause-last : goal.returns-in-Both-clause-last
returns-in-Both-clause-last g c =
    let old = c.args.self.now in
    let e = (g.A.Token.ends_is old.first).0 (old.ended (rw c.in-Both.is refl)) in
    rw c.in-Both.is (if_err_as c.step-in-Both.result (λ b. (b.0, (Some e.0, Some b.1), (refl, (e.1, b.2)))) c.step-in-Both.ensures.last)
