use Rattle.std.proofs.Common.{ap, ◌∙◌, codes, arith, take_all}
use Rattle.std.specs.List.{flat_map}
use Rattle.cg_tree.specs.Files.{named}
use Rattle.cg_tree.specs.Find.{find_at}
use Rattle.cg_tree.specs.FindLaws.{looked_up, looked_up_is, flat_map_same}
use Rattle.cg_tree.proofs.find.findings.Goals as goal

pub returns : goal.returns
returns c =
    let es = c.args.entries.now in
    let h = c.in_ok-hierarchy.hierarchy in
    let controls = c.deref-control-items.result.now in
    c.loop-control.invariant
    ∙ ap (flat_map (looked_up h)) (take_all c.loop-control.control-index controls (omega arith) ∙ c.deref-control-items.ensures.value ∙ c.in_ok-controls.ensures)
    ∙ flat_map_same (looked_up h) (find_at es) (looked_up_is es h c.in_ok-hierarchy.ensures) (named (codes "cgroup.subtree_control") es)
