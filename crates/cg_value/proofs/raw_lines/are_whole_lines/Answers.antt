use Rattle.std.proofs.Common.{◌≡◌, ◌-◌, nat_eq, length, get_or, sym, ◌∙◌, ap}
use Rattle.std.proofs.lemmas.Option.{get_or_from_slice_get}
use Rattle.cg_value.specs.LinesOfLaws.{ended_whole, last_tells}
use Rattle.cg_value.specs.RawLines.{is_ended}
use Rattle.cg_value.proofs.raw_lines.are_whole_lines.Goals as goal

pub returns-in-Some-clause-test : goal.returns-in-Some-clause-test
returns-in-Some-clause-test c =
    let text = c.args.text.now in
    let last : get_or text (length text - 1) 10 ≡ c.in-Some.byte.now = get_or_from_slice_get text (length text - 1) c.in-Some.byte.now 10 (sym c.in-Some.ensures.value) in
    sym (last_tells text ∙ ap (λ b. nat_eq b 10) last)

pub returns-in-Some-clause-whole : goal.returns-in-Some-clause-whole
returns-in-Some-clause-whole c =
    let text = c.args.text.now in
    let last : get_or text (length text - 1) 10 ≡ c.in-Some.byte.now = get_or_from_slice_get text (length text - 1) c.in-Some.byte.now 10 (sym c.in-Some.ensures.value) in
    let test : is_ended text ≡ nat_eq c.in-Some.byte.now 10 = last_tells text ∙ ap (λ b. nat_eq b 10) last in
    let whole = ended_whole text in
    (λ e. whole.0 (test ∙ e), λ h. sym test ∙ whole.1 h)
