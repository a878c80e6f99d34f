-- The parts of the entries, or items, that a decoder gave.
use Rattle.std.specs.Prelude.{Ok, option_to_list}
use Rattle.std.proofs.Common.{◌≡◌, ℕ, List, [], ◌∷◌, ◌++◌, map, Option, Some, None, Err, refl, sym, ap, subst, ◌∙◌, append-nil}
use Rattle.std.proofs.lemmas.List.{map-append}
use Rattle.cg_value.specs.Entry.{EntryData}
use Rattle.cg_value.specs.declared.profile.Profile.{Profile}
use Rattle.cg_snap.specs.Decode.{HasTaken}
use Rattle.cg_snap.specs.Decoder.{FinishIs, SnapshotDecoder, profile_of}
use Rattle.cg_snap.specs.Snap.{Snap, SnapText}
use Rattle.cg_snap.specs.declared.decode.StreamFault.TheVariants as faults
use Rattle.cg_snap.specs.declared.limits.Limits.{Limits}
use Rattle.cg_snap.specs.declared.stop.Stop.{Stop}
use Rattle.cg_snap.specs.declared.stop.Stop.TheVariants as stops
use Rattle.cg_run.specs.Stream.{DoneOf}
use Rattle.cg_run.specs.Streaming.{EndIs}
use Rattle.cg_outcome.specs.declared.outcome.Outcome.{Outcome}
use Rattle.cg_outcome.specs.declared.outcome.Outcome.TheVariants as out
use Rattle.cg_run.proofs.Written.{joined_one}

-- One part more.
pub push_part : {E : Type 0} (part : E → List ℕ) (es : List E) (e : E) (parts : List (List ℕ)) → parts ≡ map part es → parts ++ part e ∷ [] ≡ map part (es ++ e ∷ [])
push_part part es e parts h = ap (λ ts. ts ++ part e ∷ []) h ∙ sym (map-append part es (e ∷ []))

-- ---- The end of a snapshot

module _ (part : EntryData → List ℕ) (d : SnapshotDecoder) (profile : Profile) (limits : Limits) (p : List ℕ) (es : List EntryData) (parts : List (List ℕ)) (parts_are : parts ≡ map part es)
    (t : HasTaken d profile limits p es) where
  abbrev Whole : List ℕ → List (List ℕ) → Outcome → Type 0
  Whole = DoneOf part (λ bytes fs. SnapText profile fs bytes)

  pub snap_text : (fs gs : List EntryData) → fs ≡ gs → SnapText (profile_of d) fs p → SnapText profile gs p
  snap_text fs gs e x = subst (λ (q : Profile). SnapText q gs p) t.form_is (subst (λ (ks : List EntryData). SnapText (profile_of d) ks p) e x)

  pub ended_none : (last : Option EntryData) → last ≡ None → SnapText (profile_of d) (es ++ option_to_list last) p → (old : List ℕ) → EndIs Whole p parts old old (Ok 0)
  ended_none last e x old = (
    [],
    subst (λ (all : List (List ℕ)). Whole p all out.Done) (sym (append-nil parts)) (es, snap_text (es ++ option_to_list last) es (ap (λ o. es ++ option_to_list o) e ∙ append-nil es) x, parts_are, refl),
    sym (append-nil old),
  )

  pub whole_some : (last : Option EntryData) (entry : EntryData) → last ≡ Some entry → SnapText (profile_of d) (es ++ option_to_list last) p → Whole p (parts ++ part entry ∷ []) out.Done
  whole_some last entry e x = (
    es ++ entry ∷ [],
    snap_text (es ++ option_to_list last) (es ++ entry ∷ []) (ap (λ o. es ++ option_to_list o) e) x,
    push_part part es entry parts parts_are,
    refl,
  )

  pub ended_some : (last : Option EntryData) (entry : EntryData) → last ≡ Some entry → SnapText (profile_of d) (es ++ option_to_list last) p → (old new : List ℕ) → new ≡ old ++ part entry →
      EndIs Whole p parts old new (Ok 0)
  ended_some last entry e x old new same = (part entry ∷ [], whole_some last entry e x, same ∙ ap (λ t. old ++ t) (joined_one (part entry)))

  pub ended_cut : (stop : Stop) → FinishIs (profile_of d) p es (Err stop) → (old : List ℕ) → EndIs Whole p parts old old (Err (faults.Stopped stop))
  ended_cut (stops.Refused at why) f old = absurd f
  ended_cut (stops.TooLong at) f old = absurd f
  ended_cut (stops.TooMany at) f old = absurd f
  ended_cut (stops.TooMuch at) f old = absurd f
  ended_cut (stops.Cut at) f old = ((f.0, λ all o x. f.1 (subst (λ (q : Profile). Snap q p) (sym t.form_is) (x.0, x.1))), refl)
