use Rattle.std.proofs.Common.{◌≡◌, ◌∙◌, [], ◌∷◌, ◌++◌, sym, ap, subst, arith}
use Rattle.std.specs.Box.{with_value}
use Rattle.cg_line.specs.Reads.{Reads, held_by}
use Rattle.cg_line.specs.ReadsLaws.{fault_leaves, held_is, leaves_on, reads_on, state_of}
use Rattle.cg_line.specs.OpenReads.{OpenReads, open_held}
use Rattle.cg_line.specs.declared.open_reader.OpenReader.{OpenReader}
use Rattle.cg_line.specs.declared.reader.State.TheVariants as state
use Rattle.cg_line.specs.declared.reader.ValueReader.{ValueReader}
use Rattle.cg_line.proofs.reader.ValueReader.push.Goals as goal

pub returns-in-Ok-clause-pushed : goal.returns-in-Ok-clause-pushed
returns-in-Ok-clause-pushed c kind taken h =
    let new = state_of c.args.self.now _ kind taken c.in-New.is h in
    reads_on c.args.self.now _ kind taken (taken ++ c.args.byte ∷ []) h (rw (new.1, ← new.0) c.in-Ok.ensures.begun.0)

pub returns-in-Ok-clause-held : goal.returns-in-Ok-clause-held
unfolding held_by
returns-in-Ok-clause-held c = omega (arith, c.in-Ok.ensures.begun.1)

pub returns-in-Err-clause-pushed : goal.returns-in-Err-clause-pushed
returns-in-Err-clause-pushed c kind taken h =
    let new = state_of c.args.self.now _ kind taken c.in-New.is h in
    let left : ValueReader = record { state = state.New c.in-New.alloc c.in-New.kind } in
    fault_leaves (Reads left kind) kind taken c.args.byte c.in-Err.fault (reads_on c.args.self.now left kind taken taken h new) (rw (new.1, ← new.0) c.in-Err.ensures.fault)

pub returns-in-Whole-clause-pushed : goal.returns-in-Whole-clause-pushed
returns-in-Whole-clause-pushed c kind taken h = (h, (state_of c.args.self.now _ kind taken c.in-Whole.is h).last c.args.byte)

pub returns-in-Open-clause-pushed : goal.returns-in-Open-clause-pushed
returns-in-Open-clause-pushed c kind taken h =
    let took = subst (λ (o : OpenReader). OpenReads o kind taken) (sym c.deref_mut.ensures.value) (state_of c.args.self.now _ kind taken c.in-Open.is h) in
    let left : ValueReader = record { state = state.Open (with_value c.in-Open.reader c.push.new.self) } in
    leaves_on (OpenReads c.push.new.self kind) (Reads left kind) kind taken c.args.byte c.push.result (λ now t. reads_on c.args.self.now left kind taken now h t) (c.push.ensures.pushed kind taken took)

pub returns-in-Open-clause-held : goal.returns-in-Open-clause-held
unfolding held_by
returns-in-Open-clause-held c =
    let old : held_by c.args.self.now ≡ open_held c.deref_mut.result.now = held_is c.args.self.now _ c.in-Open.is ∙ ap open_held (sym c.deref_mut.ensures.value) in
    rw old c.push.ensures.held

pub returns-in-Open-clause-same_held : goal.returns-in-Open-clause-same_held
unfolding held_by
returns-in-Open-clause-same_held c =
    let old : held_by c.args.self.now ≡ open_held c.deref_mut.result.now = held_is c.args.self.now _ c.in-Open.is ∙ ap open_held (sym c.deref_mut.ensures.value) in
    rw old c.push.ensures.same_held
