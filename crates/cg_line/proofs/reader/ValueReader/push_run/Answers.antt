use Rattle.std.proofs.Common.{◌≡◌, ◌∙◌, ◌++◌, refl, sym, ap, subst, take, append-nil}
use Rattle.cg_line.specs.Reads.{held_by}
use Rattle.cg_line.specs.ReadsLaws.{held_is, reads_on, state_of}
use Rattle.cg_line.specs.OpenReads.{OpenReads, open_held}
use Rattle.cg_line.specs.declared.open_reader.OpenReader.{OpenReader}
use Rattle.cg_line.proofs.reader.ValueReader.push_run.Goals as goal

pub returns-in-New-clause-pushed : goal.returns-in-New-clause-pushed
returns-in-New-clause-pushed c kind taken h =
    let new = state_of c.args.self.now _ kind taken c.in-New.is h in
    record {
      reads = reads_on c.args.self.now _ kind taken (taken ++ take c.begin.result.used c.args.bytes.now) h (rw (new.1, ← new.0) (c.begin.ensures.state (refl, refl)));
      stops = rw (new.1, ← new.0) c.begin.ensures.stops;
    }

pub returns-in-New-clause-held : goal.returns-in-New-clause-held
unfolding held_by
returns-in-New-clause-held c = let none : held_by c.args.self.now ≡ 0 = held_is c.args.self.now _ c.in-New.is in rw none c.begin.ensures.held

pub returns-in-New-clause-same_held : goal.returns-in-New-clause-same_held
unfolding held_by
returns-in-New-clause-same_held c e = let none : held_by c.args.self.now ≡ 0 = held_is c.args.self.now _ c.in-New.is in rw none (c.begin.ensures.same_held e)

pub returns-in-Whole-clause-pushed : goal.returns-in-Whole-clause-pushed
returns-in-Whole-clause-pushed c kind taken h =
    let whole = state_of c.args.self.now _ kind taken c.in-Whole.is h in
    record { reads = rw (c.refuse.ensures.used, append-nil taken) h; stops = c.refuse.ensures.stops kind taken whole.last }

pub returns-in-Open-clause-pushed : goal.returns-in-Open-clause-pushed
returns-in-Open-clause-pushed c kind taken h =
    let took = subst (λ (o : OpenReader). OpenReads o kind taken) (sym c.deref_mut.ensures.value) (state_of c.args.self.now _ kind taken c.in-Open.is h) in
    let run = c.push_run.ensures.pushed kind taken took in
    record { reads = reads_on c.args.self.now _ kind taken (taken ++ take c.push_run.result.used c.args.bytes.now) h run.reads; stops = run.stops }

pub returns-in-Open-clause-held : goal.returns-in-Open-clause-held
unfolding held_by
returns-in-Open-clause-held c =
    let old : held_by c.args.self.now ≡ open_held c.deref_mut.result.now = held_is c.args.self.now _ c.in-Open.is ∙ ap open_held (sym c.deref_mut.ensures.value) in
    rw old c.push_run.ensures.held

pub returns-in-Open-clause-same_held : goal.returns-in-Open-clause-same_held
unfolding held_by
returns-in-Open-clause-same_held c none =
    let old : held_by c.args.self.now ≡ open_held c.deref_mut.result.now = held_is c.args.self.now _ c.in-Open.is ∙ ap open_held (sym c.deref_mut.ensures.value) in
    rw old (c.push_run.ensures.same_held none)
