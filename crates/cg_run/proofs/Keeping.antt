-- What a decoder of snapshots finds, as a reader that keeps entries tells it.
use Rattle.std.proofs.Common.{◌≡◌, ℕ, ◌+◌, ◌-◌, ◌<◌, ◌≤◌, List, [], ◌∷◌, ◌++◌, length, take, drop, refl, sym, ap, subst, ◌∙◌, append_assoc, arith, inl, Err}
use Rattle.std.proofs.Common.{length-append}
use Rattle.std.proofs.lemmas.List.{take-append-le}
use Rattle.std.proofs.Math.Seq.{take-add}
use Rattle.std.proofs.lemmas.List.Elements.{filter-append}
use Rattle.cg_text.specs.Texts.{Viable}
use Rattle.cg_value.specs.Entry.{EntryData}
use Rattle.cg_value.specs.declared.profile.Profile.{Profile}
use Rattle.cg_snap.specs.Decode.{HasTaken}
use Rattle.cg_snap.specs.Snap.{Snap, SnapText}
use Rattle.cg_snap.specs.SnapStop.{IsSnapUnstopped}
use Rattle.cg_snap.specs.Stop.{IsUnstopped}
use Rattle.cg_snap.specs.Decoder.{FinishIs, SnapshotDecoder, profile_of}
use Rattle.cg_snap.specs.declared.decode.StreamFault.TheVariants as faults
use Rattle.cg_snap.specs.declared.limits.Limits.{Limits}
use Rattle.cg_snap.specs.declared.stop.Stop.{Stop}
use Rattle.cg_snap.specs.declared.stop.Stop.TheVariants as stops
use Rattle.cg_snap.specs.declared.stop.Why.{Why}
use Rattle.cg_tree.specs.Directory.{name_of}
use Rattle.cg_tree.specs.Ruled.{is_ruled, ruled}
use Rattle.cg_run.specs.Check.{HasNoParts, finding_lines, found_outcome}
use Rattle.cg_run.specs.Checked.{IsKept}
use Rattle.cg_outcome.specs.Outcome.{checked}
use Rattle.cg_run.specs.Stream.{WholeOf}
use Rattle.cg_run.specs.Streaming.{IsEndFault, WantsMemory}
use Rattle.cg_run.specs.Taken.{taken_unstopped}
use Rattle.cg_run.specs.declared.kept.Kept.{Kept}
use Rattle.cg_outcome.specs.declared.outcome.Outcome.{Outcome}
use Rattle.cg_run.proofs.Checking.{lines_of_ruled}

-- The first bytes of a stream that nothing stops.
pub unstopped_front : (L : List ℕ → Type 0) (IsWhy : List ℕ → ℕ → Why → Type 0) (IsLong IsMany : List ℕ → ℕ → Type 0) (max : ℕ) (x y : List ℕ) →
    IsUnstopped L IsWhy IsLong IsMany max (x ++ y) → IsUnstopped L IsWhy IsLong IsMany max x
unstopped_front L IsWhy IsLong IsMany max x y u k within =
    let e : take (k + 1) (x ++ y) ≡ take (k + 1) x = take-append-le {A = ℕ} (k + 1) x y (omega (arith, within)) in
    let h = u k (omega (arith, within, length-append x y)) in
    record {
      viable = subst (Viable L) e h.viable;
      short = λ g. h.short (subst (λ (t : List ℕ). IsLong t k) (sym e) g);
      few = λ g. h.few (subst (λ (t : List ℕ). IsMany t k) (sym e) g);
      before = h.before;
    }

-- One entry more, and of those that the rules speak of one or none.
pub kept_more : (was now given : List EntryData) (entry : EntryData) → was ≡ ruled given → now ≡ was ++ ruled (entry ∷ []) → now ≡ ruled (given ++ entry ∷ [])
kept_more was now given entry h k = k ∙ ap (λ es. es ++ ruled (entry ∷ [])) h ∙ sym (filter-append (λ e. is_ruled (name_of e.path)) given (entry ∷ []))

-- One byte more of a piece.
one_more : (p piece : List ℕ) (n : ℕ) → p ++ take (n + 1) piece ≡ (p ++ take n piece) ++ take 1 (drop n piece)
one_more p piece n = ap (λ t. p ++ t) (take-add n 1 piece) ∙ sym (append_assoc p (take n piece) (take 1 (drop n piece)))

-- No memory was left for what a byte gave: that byte wanted it. Fronts says that nothing stops the first bytes of a stream that
-- nothing stops.
pub given_starved : (Closes : List ℕ → List (List ℕ) → Type 0) (Unstopped : List ℕ → Type 0) → ((x y : List ℕ) → Unstopped (x ++ y) → Unstopped x) → (p piece : List ℕ) (used : ℕ) (parts : List (List ℕ)) →
    0 < used → used ≤ length piece → Unstopped (p ++ take used piece) → Closes (p ++ take (used - 1) piece) parts → WantsMemory Closes Unstopped p parts piece (used - 1)
given_starved Closes Unstopped fronts p piece used parts some within all closed =
    let back : used ≡ (used - 1) + 1 = omega (arith, some) in
    let all_is : Unstopped (p ++ take ((used - 1) + 1) piece) = subst (λ (n : ℕ). Unstopped (p ++ take n piece)) back all in
    let split : Unstopped ((p ++ take (used - 1) piece) ++ take 1 (drop (used - 1) piece)) = subst Unstopped (one_more p piece (used - 1)) all_is in
    inl (omega (arith, some, within), fronts (p ++ take (used - 1) piece) (take 1 (drop (used - 1) piece)) split, all_is, closed)

-- ... to keep an entry.
pub keep_starved : (d : SnapshotDecoder) (profile : Profile) (limits : Limits) (p piece : List ℕ) (used : ℕ) (es : List EntryData) (parts : List (List ℕ)) → 0 < used → used ≤ length piece →
    HasTaken d profile limits (p ++ take used piece) es → parts ≡ [] → WantsMemory HasNoParts (IsSnapUnstopped profile limits) p parts piece (used - 1)
keep_starved d profile limits p piece used es parts some within t none =
    given_starved HasNoParts (IsSnapUnstopped profile limits) (λ x y u. unstopped_front _ _ _ _ _ x y u) p piece used parts some within (taken_unstopped d profile limits (p ++ take used piece) es t) none

-- ---- The end of a snapshot

abbrev Whole : Profile → List ℕ → List (List ℕ) → Outcome → Type 0
Whole profile = WholeOf finding_lines found_outcome (λ bytes es. SnapText profile es bytes)

module _ (d : SnapshotDecoder) (profile : Profile) (limits : Limits) (p : List ℕ) (es : List EntryData) (h : HasTaken d profile limits p es) (parts : List (List ℕ)) (none : parts ≡ []) where
  pub kept_text : (fs gs : List EntryData) → fs ≡ gs → SnapText (profile_of d) fs p → SnapText profile gs p
  kept_text fs gs e x = subst (λ (q : Profile). SnapText q gs p) h.form_is (subst (λ (ks : List EntryData). SnapText (profile_of d) ks p) e x)

  -- What the kept entries break is what all break.
  pub kept_whole : (fs : List EntryData) (kept : Kept) → kept.entries.items ≡ ruled fs → kept.left_out ≡ 0 → SnapText profile fs p → IsKept (Whole profile) p parts kept
  kept_whole fs kept k n t =
      let lines : finding_lines kept.entries.items ≡ finding_lines fs = ap (λ (x : List EntryData). finding_lines x) k ∙ lines_of_ruled fs in (
        fs,
        t,
        ap (λ (ps : List (List ℕ)). ps ++ finding_lines kept.entries.items) none ∙ lines,
        ap (λ (ls : List (List ℕ)). checked (length ls) kept.left_out) lines ∙ ap (λ (m : ℕ). checked (length (finding_lines fs)) m) n,
      )

  pub kept_starved : (fs : List EntryData) → SnapText profile fs p → IsEndFault (Whole profile) p parts faults.OutOfMemory
  kept_starved fs t = (finding_lines fs, found_outcome fs, (fs, t, ap (λ (ps : List (List ℕ)). ps ++ finding_lines fs) none, refl))

  pub kept_cut : (stop : Stop) → FinishIs (profile_of d) p es (Err stop) → IsEndFault (Whole profile) p parts (faults.Stopped stop)
  kept_cut (stops.Refused at why) f = absurd f
  kept_cut (stops.TooLong at) f = absurd f
  kept_cut (stops.TooMany at) f = absurd f
  kept_cut (stops.TooMuch at) f = absurd f
  kept_cut (stops.Cut at) f = (f.0, λ all o x. f.1 (subst (λ (q : Profile). Snap q p) (sym h.form_is) (x.0, x.1)))
