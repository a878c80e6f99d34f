-- The present entry ends.
use Rattle.std.proofs.Common.{◌≡◌, ◌↔◌, ℕ, Some, List, [], ◌∷◌, length, refl, sym, ap, subst, ◌∙◌, arith}
use Rattle.std.proofs.lemmas.List.{length-append, nil_from_length}
use Rattle.cg_value.specs.Entry.{EntryData, ReadsAt}
use Rattle.cg_value.specs.Files.{KindFile, KindText, ReadLines}
use Rattle.cg_value.specs.Lines.{unlines}
use Rattle.cg_value.specs.Print.{print_lines}
use Rattle.cg_value.specs.declared.profile.Profile.{Profile}
use Rattle.cg_value.specs.declared.value.Value.{Value}
use Rattle.cg_line.specs.MadeLaws.{printed_some}
use Rattle.cg_line.specs.SplitLaws.{lines_spell}
use Rattle.cg_snap.specs.DecoderState.{HasConsumedInPath}
use Rattle.cg_snap.specs.Snap.{AreEntryLines}
use Rattle.cg_snap.specs.declared.present.CurrentEntry.{CurrentEntry}
use Rattle.cg_snap.proofs.Steps.{path_ends}

-- A text of lines is empty where there is none.
text_empty : (lines : List (List ℕ)) → length (unlines lines) ≡ 0 → length lines ≡ 0
text_empty [] h = refl
text_empty (l ∷ ls) h = absurd (omega (arith, h, length-append l (10 ∷ unlines ls)))

empty_text : (lines : List (List ℕ)) → length lines ≡ 0 → length (unlines lines) ≡ 0
empty_text [] h = refl
empty_text (l ∷ ls) h = absurd (omega (arith, h))

pub empty_lines : (lines : List (List ℕ)) (text : List ℕ) → text ≡ unlines lines → length text ≡ 0 ↔ length lines ≡ 0
empty_lines lines text e = (λ h. text_empty lines (ap length (sym e) ∙ h), λ h. ap length e ∙ empty_text lines h)

module _ (profile : Profile) (begun : List ℕ) (x : CurrentEntry) (p : List ℕ) (es : List EntryData) (h : HasConsumedInPath profile begun x p es) where
  pub ends_as : (e : EntryData) (v : Value) → e.path ≡ x.path.items → e.value ≡ v → KindText h.kind v (unlines h.lines) → (e.path ≡ x.path.items) × AreEntryLines profile e h.lines
  ends_as e v q w t = (
    q,
    record {
      kind = h.kind;
      reads = subst (λ path. ReadsAt profile path (Some h.kind)) (sym q) h.reads_at;
      some = h.some;
      spelled = subst (λ u. ReadLines h.kind u h.lines) (sym w) (lines_spell h.kind v h.lines h.plain t);
    },
  )

  pub never_empty : (v : Value) (count : ℕ) → count ≡ length (print_lines v) → count ≡ 0 → KindText h.kind v (unlines h.lines) → ⊥
  never_empty v count counts none t = printed_some profile x.path.items h.kind v h.lines h.reads_at h.some (lines_spell h.kind v h.lines h.plain t) (nil_from_length (print_lines v) (sym counts ∙ none))

  pub never_cut : (KindFile h.kind (unlines h.lines) → ⊥) → ⊥
  never_cut n = let v = path_ends profile begun x p es h in n (v.0, record { lines = h.lines; spelled = v.1; text_is = refl })
