use Rattle.std.proofs.Common.{◌∙◌, ap}
use Rattle.cg_value.specs.EntryLaws.{same_entry}
use Rattle.cg_value.proofs.entry.Entry.copy.Goals as goal

pub invariant_of-result : goal.invariant_of-result
invariant_of-result c = (rw (c.in_ok-path.ensures.items, c.as_slice.ensures.value, c.in_ok-value.ensures) c.self.inside.fits, tt)

pub returns : goal.returns
returns c =
    same_entry _ c.args.self.now
    (c.in_ok-path.ensures.items ∙ c.as_slice.ensures.value ∙ ap (λ e. e.path) c.self.view_is)
    (c.in_ok-value.ensures ∙ ap (λ e. e.value) c.self.view_is)
