-- Where the bytes end: which are a whole snapshot, and which no plan.
use Rattle.std.proofs.Common.{◌≡◌, ◌≢◌, ℕ, Bool, true, false, List, [], ◌∷◌, ◌++◌, Option, Some, None, is_some, refl, sym, subst, ◌∙◌}
use Rattle.std.specs.Bool.{MatchBool}
use Rattle.std.proofs.lemmas.List.{append-nil}
use Rattle.std.proofs.lemmas.Bool.{MatchBool-at_true, MatchBool-at_false}
use Rattle.cg_text.specs.Texts.{Lacks}
use Rattle.cg_text.specs.TextsLaws.{lacks_inside}
use Rattle.cg_value.specs.Entry.{EntryData, IsPath, ItemData}
use Rattle.cg_value.specs.PathLaws.{path_lacks_nul}
use Rattle.cg_value.specs.Records.{records}
use Rattle.cg_value.specs.declared.profile.Profile.{Profile}
use Rattle.cg_snap.specs.DecoderState.{HasConsumed, HasConsumedInLine, HasConsumedInPath, HasConsumedAPath}
use Rattle.cg_snap.specs.PathBytes.{ArePathBytes}
use Rattle.cg_snap.specs.Plan.{Plan}
use Rattle.cg_snap.specs.PlanState.{HasConsumedItems}
use Rattle.cg_snap.specs.Snap.{AreEntryLines, Snap, SnapText, StartsOther}
use Rattle.cg_snap.specs.SnapLaws.{cut, not_of, record_then}
use Rattle.cg_snap.specs.declared.plan.CurrentItem.{CurrentItem}
use Rattle.cg_snap.specs.declared.present.CurrentEntry.{CurrentEntry}
use Rattle.cg_snap.proofs.Joins.{push_at}
use Rattle.cg_snap.proofs.PlanStates.{item_line_cut, item_path_cut}
use Rattle.cg_snap.proofs.Refusals.{Head, inner_head, line_inner, path_inner, snap_head}
use Rattle.cg_snap.proofs.Steps.{bytes_no_nul}

end_text : (p g r b : List ℕ) → p ≡ g ++ (r ++ b) → b ≡ [] → g ++ r ≡ p
end_text p g r b e n = rw (e, n, append-nil) refl

module _ (profile : Profile) where
  begun_head : (begun : List ℕ) → ArePathBytes begun → Head profile begun → ⊥
  begun_head begun p h = lacks_inside 0 h.path h.rest (subst (Lacks 0) h.text_is (bytes_no_nul begun p))

  start_cut : (begun p : List ℕ) (es fs : List EntryData) → HasConsumedAPath begun p es → begun ≢ [] → SnapText profile fs p → ⊥
  start_cut begun p es fs h n s = begun_head begun h.begun_path (subst (Head profile) h.bytes (snap_head profile fs p s (λ e. n (sym h.bytes ∙ e))))

  path_cut : (begun : List ℕ) (x : CurrentEntry) (p : List ℕ) (es fs : List EntryData) → HasConsumedInPath profile begun x p es → begun ≢ [] → SnapText profile fs p → ⊥
  path_cut begun x p es fs h n s =
      let i = path_inner profile begun x p es fs [] h (subst (SnapText profile fs) (sym (append-nil p)) s) in
      begun_head begun h.begun_path (subst (Head profile) (append-nil begun) (inner_head profile es fs x.path.items h.kind h.lines (begun ++ []) h.good h.reads_at i (λ e. n (sym (append-nil begun) ∙ e))))

  line_cut_in : (q : List ℕ) (ms : List (List ℕ)) (gs : List EntryData) (w line : List ℕ) → IsPath q → StartsOther q gs → SnapText profile gs w → Lacks 10 line → q ++ 0 ∷ (line ++ []) ≡ records q ms ++ w → ⊥
  line_cut_in q [] gs w line p o h l e = not_of profile q gs w p o h (line ++ []) (sym e)
  line_cut_in q (m ∷ ms) gs w line p o h l e =
      let nul = path_lacks_nul q p in
      let c = cut 0 q q (line ++ []) (m ++ 10 ∷ (records q ms ++ w)) nul nul (e ∙ record_then q m (records q ms) w) in
      lacks_inside 10 m (records q ms ++ w) (subst (Lacks 10) (sym (append-nil line) ∙ c.1) l)

  line_cut : (begun : List ℕ) (x : CurrentEntry) (p : List ℕ) (es fs : List EntryData) → HasConsumedInLine profile begun x p es → SnapText profile fs p → ⊥
  line_cut begun x p es fs h s =
      let i = line_inner profile begun x p es fs [] h (subst (SnapText profile fs) (sym (append-nil p)) s) in
      line_cut_in x.path.items i.more i.others i.rest h.line h.good i.other i.snap h.plain_line i.text

  begun_flag : (begun : List ℕ) (x : CurrentEntry) (p : List ℕ) (es fs : List EntryData) (b : Bool) → MatchBool b (HasConsumedInLine profile begun x p es) (HasConsumedInPath profile begun x p es) → begun ≢ [] → SnapText profile fs p → ⊥
  begun_flag begun x p es fs true h n s = n h.nothing_begun
  begun_flag begun x p es fs false h n s = path_cut begun x p es fs h n s

  -- A path is begun.
  pub begun_cut : (begun : List ℕ) (o : Option CurrentEntry) (p : List ℕ) (es : List EntryData) → HasConsumed profile begun o p es → begun ≢ [] → Snap profile p → ⊥
  begun_cut begun None p es h n s = start_cut begun p es s.0 h n s.1
  begun_cut begun (Some x) p es h n s = begun_flag begun x p es s.0 x.in_line h n s.1

  -- A line is begun.
  pub in_line_cut : (begun : List ℕ) (o : Option CurrentEntry) (x : CurrentEntry) (p : List ℕ) (es : List EntryData) → o ≡ Some x → x.in_line ≡ true → HasConsumed profile begun o p es → Snap profile p → ⊥
  in_line_cut begun o x p es e t h s = line_cut begun x p es s.0 (MatchBool-at_true _ _ t (subst (λ (q : Option CurrentEntry). HasConsumed profile begun q p es) e h)) s.1

  pub between_path : (begun : List ℕ) (o : Option CurrentEntry) (x : CurrentEntry) (p : List ℕ) (es : List EntryData) → o ≡ Some x → x.in_line ≡ false → HasConsumed profile begun o p es → HasConsumedInPath profile begun x p es
  between_path begun o x p es e t h = MatchBool-at_false _ _ t (subst (λ (q : Option CurrentEntry). HasConsumed profile begun q p es) e h)

  -- The present entry is the last.
  pub last_entry : (begun : List ℕ) (x : CurrentEntry) (p : List ℕ) (es : List EntryData) (e : EntryData)
      (h : HasConsumedInPath profile begun x p es) → begun ≡ [] → e.path ≡ x.path.items → AreEntryLines profile e h.lines →
      SnapText profile (es ++ e ∷ []) p
  last_entry begun x p es e h n q a = subst (SnapText profile (es ++ e ∷ [])) (end_text p h.given (records x.path.items h.lines) begun h.split n) (push_at profile es h.given x.path.items e h.lines q h.entries a h.other)

  -- A record of a plan is begun.
  pub items_cut : (begun : List ℕ) (o : Option CurrentItem) (p : List ℕ) (items : List ItemData) → (is_some o ≡ false → begun ≢ []) → HasConsumedItems profile begun o p items → Plan profile p → ⊥
  items_cut begun None p items n h = item_path_cut profile begun p items h (n refl)
  items_cut begun (Some x) p items n h = item_line_cut profile begun x p items h
