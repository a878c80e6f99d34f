-- What comes of taking the first entry again and again.
use Rattle.std.proofs.Common.{◌≡◌, ℕ, Bool, true, List, [], ◌∷◌, ◌++◌, length, drop, inl, inr, refl, sym, ap, subst, ◌∙◌, append_assoc}
use Rattle.std.proofs.Math.Seq.{drop-append_seam}
use Rattle.std.proofs.lemmas.List.{append-nil}
use Rattle.cg_value.specs.Entry.{EntryData, IsPath}
use Rattle.cg_value.specs.EntryLaws.{entry_path}
use Rattle.cg_value.specs.PathLaws.{path_lacks_nul}
use Rattle.cg_value.specs.Records.{records}
use Rattle.cg_value.specs.declared.profile.Profile.{Profile}
use Rattle.cg_file.specs.WeightFileLaws.{not_empty}
use Rattle.cg_snap.specs.Snap.{AreEntryLines, Snap, SnapText, StartsOther}
use Rattle.cg_snap.specs.SnapLaws.{NotOf, cut, entry_starts, heads, not_of}
use Rattle.cg_first.specs.Again.{AreTold, IsTold}
use Rattle.cg_first.specs.First.{IsBehind}

-- Behind an entry that was told comes no record of its path, whatever came later.
behind_not_of : (q rest later : List ℕ) (is_end : Bool) → IsPath q → (is_end ≡ true → later ≡ []) → IsBehind q is_end rest → NotOf q (rest ++ later)
behind_not_of q rest later is_end p all (inl b) back e = not_empty q back 0 (sym e ∙ (ap (λ (r : List ℕ). r ++ later) b.1 ∙ all b.0))
behind_not_of q rest later is_end p all (inr b) back e =
    let c = cut 0 b.0 q (b.1 ++ later) back (path_lacks_nul b.0 b.2) (path_lacks_nul q p) (sym (ap (λ (r : List ℕ). r ++ later) b.3 ∙ append_assoc b.0 (0 ∷ b.1) later) ∙ e) in
    b.4 (sym c.0)

module _ (profile : Profile) where
  -- An entry that was told, and what it left.
  record IsStep (stream : List ℕ) (e : EntryData) (left : List ℕ) : Type 0 where
    lines : List (List ℕ)
    are : AreEntryLines profile e lines
    whole : stream ≡ records e.path lines ++ left
    other : NotOf e.path left

  stream_of : (stream : List ℕ) (e : EntryData) (taken : ℕ) (t : IsTold profile stream e taken) → stream ≡ t.first.given ++ (t.first.rest ++ t.later)
  stream_of stream e taken t =
      t.split ∙ ap (λ (s : List ℕ). s ++ t.later) t.first.split ∙ append_assoc t.first.given t.first.rest t.later

  left_of : (stream : List ℕ) (e : EntryData) (taken : ℕ) (t : IsTold profile stream e taken) → drop taken stream ≡ t.first.rest ++ t.later
  left_of stream e taken t =
      ap (λ (n : ℕ). drop n stream) t.first.taken_is ∙ ap (λ (s : List ℕ). drop (length t.first.given) s) (stream_of stream e taken t)
      ∙ drop-append_seam t.first.given (t.first.rest ++ t.later)

  step : (stream : List ℕ) (e : EntryData) (taken : ℕ) → IsTold profile stream e taken → IsStep stream e (drop taken stream)
  step stream e taken t =
      let text = t.first.text in
      let left = left_of stream e taken t in
      let given : t.first.given ≡ records e.path text.0 = text.4 ∙ ap (λ (r : List ℕ). records e.path text.0 ++ r) text.5 ∙ append-nil (records e.path text.0) in
      record {
        lines = text.0;
        are = text.2;
        whole = stream_of stream e taken t ∙ ap (λ (g : List ℕ). g ++ (t.first.rest ++ t.later)) given ∙ ap (λ (r : List ℕ). records e.path text.0 ++ r) (sym left);
        other = subst (λ (r : List ℕ). NotOf e.path r) (sym left) (behind_not_of e.path t.first.rest t.later t.is_end (entry_path e) t.all t.first.behind);
      }

  starts_other : (q : List ℕ) (es : List EntryData) (left : List ℕ) → NotOf q left → SnapText profile es left → StartsOther q es
  starts_other q [] left n s = tt
  starts_other q (f ∷ fs) left n s =
      let r = entry_starts f.path s.0 s.1 s.2.some in
      λ same. n r.0 (s.4 ∙ r.1 ∙ ap (λ (p : List ℕ). p ++ 0 ∷ r.0) same)

  pub told_are_all : (es : List EntryData) (stream : List ℕ) → AreTold profile es stream [] → SnapText profile es stream
  told_are_all [] stream t = t
  told_are_all (e ∷ es) stream t =
      let s = step stream e t.0 t.1 in
      let later = told_are_all es (drop t.0 stream) t.2 in
      (s.lines, drop t.0 stream, s.are, starts_other e.path es (drop t.0 stream) s.other later, s.whole, later)

  both_same : (e f : EntryData) (es fs : List EntryData) → e ≡ f → es ≡ fs → e ∷ es ≡ f ∷ fs
  both_same e f es fs p q = cc

  pub told_are_first : (es fs : List EntryData) (stream left : List ℕ) → AreTold profile es stream left → SnapText profile fs stream →
      (gs : List EntryData) × (fs ≡ es ++ gs) × SnapText profile gs left
  told_are_first [] fs stream left t h = (fs, refl, subst (λ (s : List ℕ). SnapText profile fs s) t h)
  told_are_first (e ∷ es) [] stream left t h =
      let s = step stream e t.0 t.1 in
      let r = entry_starts e.path s.lines (drop t.0 stream) s.are.some in
      absurd (not_empty e.path r.0 0 (sym r.1 ∙ (sym s.whole ∙ h)))
  told_are_first (e ∷ es) (f ∷ fs) stream left t h =
      let s = step stream e t.0 t.1 in
      let same = heads profile e f s.lines h.0 (drop t.0 stream) h.1 s.are h.2 s.other (not_of profile f.path fs h.1 (entry_path f) h.3 h.5) (sym s.whole ∙ h.4) in
      let r = told_are_first es fs (drop t.0 stream) left t.2 (subst (λ (x : List ℕ). SnapText profile fs x) (sym same.1) h.5) in
      (r.0, both_same f e fs (es ++ r.0) (sym same.0) r.1, r.2)

  pub none_left : (es : List EntryData) (stream left : List ℕ) → AreTold profile es stream left → (Snap profile left → ⊥) → Snap profile stream → ⊥
  none_left es stream left t none h =
      let r = told_are_first es h.0 stream left t h.1 in
      none (r.0, r.2)
