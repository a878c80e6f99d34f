use Rattle.std.proofs.Common.{◌≡◌, sym, ◌∙◌, length, ap, not, true≢false, arith}
use Rattle.std.proofs.lemmas.Bool.{eqb-false}
use Rattle.cg_snap.proofs.Finishes.{items_cut}
use Rattle.cg_snap.proofs.decoder.finish_items.Goals as goal
use Rattle.cg_snap.proofs.decoder.finish_items.Goals.{else-is_none-via-then-is_none+else-is_empty, else-is_none-via-else-is_none}

pub returns-else-is_none : goal.returns-else-is_none
returns-else-is_none c = λ profile p items h e.
    let s = c.args.records.now in
    elim c.else-is_none.branch [
      | else-is_none-via-then-is_none+else-is_empty w ↦
          (e, items_cut profile s.begun.items s.present p items (λ none n. let z : length s.begun.items ≡ 0 = ap length n in eqb-false _ _ (sym w.is_empty.ensures ∙ w.if-is_empty.false) (omega (arith, z, s.begun.ok.0))) h.at)
      | else-is_none-via-else-is_none w ↦
          (e, items_cut profile s.begun.items s.present p items (λ none. absurd (true≢false (sym (c.is_none.ensures ∙ ap not w.if-is_none.false) ∙ none))) h.at)
    ]
