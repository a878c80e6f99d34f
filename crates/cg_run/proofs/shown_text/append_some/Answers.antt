use Rattle.std.proofs.Common.{◌++◌, ◌∙◌, length, get_or, ap, sym, eqb-true, arith}
use Rattle.std.proofs.lemmas.List.{take_all}
use Rattle.cg_run.specs.ShownBytes.{shown_bytes}
use Rattle.cg_value.specs.PathLaws.{lacks_all}
use Rattle.cg_run.proofs.ShowsBytes.{all_plain, path_ended}
use Rattle.cg_run.proofs.shown_text.append_some.Goals as goal

pub returns-in_ok-extend_from_slice-in-Some-2 : goal.returns-in_ok-extend_from_slice-in-Some-2
returns-in_ok-extend_from_slice-in-Some-2 c =
    let old = c.args.text.now.items in
    let bytes = c.args.bytes.now in
    let place = c.in-Some.place in (
      omega arith,
      omega (arith, c.in-Some.ensures.0.high),
      path_ended old bytes c.extend_from_slice.new.self.items c.extend_from_slice-in-Some.new.self.items place c.in-Some.ensures.0.high
          (eqb-true (get_or bytes place 0) 0 c.in-Some.ensures.1) c.in-Some.ensures.0.before
          (c.in_ok-extend_from_slice-in-Some.ensures.items ∙ ap (λ t. old ++ t) c.split_at.ensures.front) c.in_ok-extend_from_slice-in-Some-2.ensures.items,
    )

pub returns-in_ok-extend_from_slice-in-None : goal.returns-in_ok-extend_from_slice-in-None
returns-in_ok-extend_from_slice-in-None c =
    let old = c.args.text.now.items in
    let bytes = c.args.bytes.now in (
      c.requires,
      omega arith,
      c.in_ok-extend_from_slice-in-None.ensures.items
          ∙ ap (λ t. old ++ t) (sym (all_plain bytes (lacks_all 0 bytes c.in-None.ensures)) ∙ ap (λ t. shown_bytes t) (sym (take_all (length bytes) bytes (omega arith)))),
    )
