use Rattle.std.proofs.Common.{ap, ◌∙◌}
use Rattle.cg_value.specs.Flat.{Building}
use Rattle.cg_value.specs.FlatLaws.{number_of_keys}
use Rattle.cg_value.proofs.flat.FlatBuilder.push.Goals as goal
use Rattle.cg_value.proofs.flat.FlatBuilder.push.Goals.{in-Ok, in-Err-Repeated, in-Err-OutOfMemory}

pub returns-clause-repeated : goal.returns-clause-repeated
returns-clause-repeated c =
    let pairs_is = ap (λ (b : Building). b.pairs) c.self.view_is in
    let told = c.add.ensures.repeated ∙ number_of_keys c.args.key c.self.inside.built.items in
    rw (← pairs_is) (elim c.match-add.branch [
      | in-Ok w ↦ rw w.result-is (rw w.in-Ok.is at told)
      | in-Err-Repeated w ↦ rw w.result-is (rw (w.in-Err-Repeated.is, w.in-Err-Repeated.field-0-is) at told)
      | in-Err-OutOfMemory w ↦ rw w.result-is (rw (w.in-Err-OutOfMemory.is, w.in-Err-OutOfMemory.field-0-is) at told)
    ])
