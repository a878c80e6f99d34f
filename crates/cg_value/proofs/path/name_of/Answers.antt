use Rattle.std.proofs.Common.{get_or, eqb-true}
use Rattle.cg_value.specs.PathLaws.{name_alone, name_behind}
use Rattle.cg_value.proofs.path.name_of.Goals as goal
use Rattle.cg_value.proofs.path.name_of.Goals.{in-Some, in-None}

pub returns : goal.returns
returns c =
    let path = c.args.path.now in
    elim c.match-memrchr.branch [
      | in-Some w ↦ rw (c.split_at.ensures.back, w.start-is) (name_behind path w.in-Some.place w.in-Some.ensures.0.high (eqb-true (get_or path w.in-Some.place 0) 47 w.in-Some.ensures.1) w.in-Some.ensures.0.after)
      | in-None w ↦ rw (c.split_at.ensures.back, w.start-is) (name_alone path w.in-None.ensures)
    ]
