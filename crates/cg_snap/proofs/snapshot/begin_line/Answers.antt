use Rattle.std.proofs.Common.{refl, sym, ◌∙◌, ◌≡◌}
use Rattle.std.proofs.lemmas.Bool.{both_ways}
use Rattle.std.proofs.lemmas.Slice.Eq.{slice_eq-Decides}
use Rattle.std.proofs.lemmas.Bool.Decides.{Decides-eqb}
use Rattle.cg_snap.proofs.Refusals.{same_nul}
use Rattle.cg_snap.proofs.States.{at_some, at_none, at_true, named_path, next_given}
use Rattle.cg_snap.proofs.Steps.{start_path, same_path}
use Rattle.cg_snap.proofs.snapshot.begin_line.Goals as goal

pub returns-in-None-clause-begun : goal.returns-in-None-clause-begun
returns-in-None-clause-begun c = λ profile p es h i k v.
    let s = at_none profile c.args.begun.now.items c.args.present.now p es c.in-None.is h in
    at_true _ _ c.begin.result.in_line c.begin.ensures.in_line
    (start_path profile c.args.begun.now.items c.begin.new.begun.items p c.begin.result es 0 c.args.kind refl
    c.begin.ensures.begun c.begin.ensures.path c.begin.ensures.lines
    (named_path c.args.begun.now.items s.begun_path k.0) k.1 c.begin.ensures.reads s)

pub returns-then-eq-clause-begun : goal.returns-then-eq-clause-begun
returns-then-eq-clause-begun c = λ profile p es h i k v.
    let s = at_some profile c.args.begun.now.items c.args.present.now c.in-Some.x p es c.in-Some.is h i in
    let same = (slice_eq-Decides Decides-eqb _ _ _ c.eq.ensures).0 c.if-eq.true in
    let paths : c.args.begun.now.items ≡ c.in-Some.x.path.items = sym c.as_slice-in-Some.ensures.value ∙ (sym same ∙ c.as_slice.ensures.value) in
    same_path profile c.args.begun.now.items c.clear.new.self.items c.in-Some.x _ p es 0 s.0 refl
    c.clear.ensures.items paths refl refl s.0.reads
    (same_nul profile c.args.begun.now.items c.in-Some.x p es s.0 paths v)

pub returns-else-eq-clause-begun : goal.returns-else-eq-clause-begun
returns-else-eq-clause-begun c = λ profile p es h i k v.
    let s = at_some profile c.args.begun.now.items c.args.present.now c.in-Some.x p es c.in-Some.is h i in
    let differ = λ (e : c.in-Some.x.path.items ≡ c.args.begun.now.items). both_ways c.eq.result c.if-eq.false ((slice_eq-Decides Decides-eqb _ _ _ c.eq.ensures).1 (c.as_slice.ensures.value ∙ (e ∙ sym c.as_slice-in-Some.ensures.value))) in
    let ends = rw c.replace-before.ensures.value at c.ended.ensures in
    rw c.replace-before.ensures.after
    (next_given profile c.args.begun.now.items c.begin-in-Some.new.begun.items c.in-Some.x c.begin-in-Some.result p es c.args.kind c.ended.result s.0
    c.begin-in-Some.ensures.begun differ c.begin-in-Some.ensures.path c.begin-in-Some.ensures.lines c.begin-in-Some.ensures.in_line k c.begin-in-Some.ensures.reads
    (ends profile c.args.begun.now.items p es s.0))

pub returns-in-None-clause-path : goal.returns-in-None-clause-path
returns-in-None-clause-path c = rw c.begin.ensures.begun tt

pub returns-then-eq-clause-path : goal.returns-then-eq-clause-path
returns-then-eq-clause-path c = rw c.clear.ensures.items tt

pub returns-else-eq-clause-path : goal.returns-else-eq-clause-path
returns-else-eq-clause-path c = rw c.begin-in-Some.ensures.begun tt
