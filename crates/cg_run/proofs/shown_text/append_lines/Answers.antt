use Rattle.std.proofs.Common.{◌≡◌, ◌+◌, ◌++◌, ℕ, List, length, take, drop, sym, ap, subst, ◌∙◌, arith}
use Rattle.cg_run.specs.ShownBytes.{IsCut, shown_bytes}
use Rattle.cg_run.proofs.ShowsBytes.{moved_back, moved_front, moved_text}
use Rattle.cg_run.proofs.shown_text.append_lines.Goals as goal

pub returns : goal.returns
returns c =
    let out = c.args.out.now.items in
    let text = c.args.text.now.items in
    let shown = shown_bytes c.args.bytes.now in
    let all = c.append_shown.new.text.items in
    let start = c.len-start.result in
    let end = c.lines_end.result in
    let moved = c.in_ok-append_text.ensures.moved in
    let all_is : all ≡ (out ++ text) ++ shown = c.in_ok-append_shown.ensures ∙ ap (λ (t : List ℕ). t ++ shown) moved.0 in
    let start_is : start ≡ length out = omega (arith, c.len-start.ensures, c.args.out.now.ok.0) in
    let end_is : start + end ≡ length out + end = omega (arith, start_is) in
    let text_is : c.split_at.result.1.now ≡ text ++ shown =
    c.split_at.ensures.back ∙ ap (λ (n : ℕ). drop n c.as_slice.result.now) start_is ∙ ap (λ (t : List ℕ). drop (length out) t) c.as_slice.ensures.value ∙ moved_text out text shown all all_is in
    let rest_is : c.split_at-2.result.1.now ≡ drop end (text ++ shown) =
    c.split_at-2.ensures.back ∙ ap (λ (n : ℕ). drop n c.as_slice-2.result.now) end_is ∙ ap (λ (t : List ℕ). drop (length out + end) t) c.as_slice-2.ensures.value ∙ moved_back out text shown all end all_is in
    let kept_is : c.extend_from_slice.new.self.items ≡ drop end (text ++ shown) =
    c.in_ok-extend_from_slice.ensures.items ∙ ap (λ (t : List ℕ). t ++ c.split_at-2.result.1.now) moved.1 ∙ rest_is in
    let cut = subst (λ (t : List ℕ). IsCut t (take end t) (drop end t)) text_is c.lines_end.ensures.cut in (
      take end (text ++ shown),
      c.truncate.ensures.items ∙ ap (λ (n : ℕ). take n all) end_is ∙ moved_front out text shown all end all_is,
      subst (IsCut (text ++ shown) (take end (text ++ shown))) (sym kept_is) cut,
    )
