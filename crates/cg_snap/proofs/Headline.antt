-- What the headline gathers.
use Rattle.std.proofs.Common.{◌≡◌, ◌⊎◌, inl, inr, ℕ, ◌+◌, ◌≤◌, List, [], ◌∷◌, ◌++◌, length, Option, Some, None, refl, sym, ap, subst, ◌∙◌, append_assoc, arith}
use Rattle.std.specs.Prelude.{option_to_list}
use Rattle.std.proofs.lemmas.List.{append-nil}
use Rattle.cg_value.specs.Entry.{EntryData, ItemData}
use Rattle.cg_value.specs.EntryLaws.{entry_path}
use Rattle.cg_value.specs.Records.{records}
use Rattle.cg_value.specs.declared.profile.Profile.{Profile}
use Rattle.cg_line.specs.ReaderHeldLaws.{reads_few, reads_most, takes_few}
use Rattle.cg_line.specs.Reads as reader
use Rattle.cg_line.specs.SettingReads.{held_of}
use Rattle.cg_snap.specs.Begun.{IsBegun}
use Rattle.cg_snap.specs.Closed.{Closed, EndsOther, IsHeldFor}
use Rattle.cg_snap.specs.ClosedLaws.{closed_once}
use Rattle.cg_snap.specs.Decoder.{SnapshotDecoder, Stands, held_in, profile_of}
use Rattle.cg_snap.specs.DecoderState.{HasConsumed}
use Rattle.cg_snap.specs.Headline.{GaveTheEntries, GaveTheItems}
use Rattle.cg_snap.specs.Plan.{ClosedPlan, PlanText}
use Rattle.cg_snap.specs.PlanDecoder.{PlanDecoder, StandsForPlan, held_in_line, plan_profile_of}
use Rattle.cg_snap.specs.PlanLaws.{closed_plan_once}
use Rattle.cg_snap.specs.PlanState.{HasConsumedItems}
use Rattle.cg_snap.specs.Snap.{AreEntryLines, SnapText, StartsOther}
use Rattle.cg_snap.specs.SnapLaws.{entry_starts, lines_plain}
use Rattle.cg_snap.specs.declared.plan.CurrentItem.{CurrentItem}
use Rattle.cg_snap.specs.declared.present.CurrentEntry.{CurrentEntry}
use Rattle.cg_snap.proofs.Closes.{start_closed}
use Rattle.cg_snap.proofs.Holds.{none_held, some_held}
use Rattle.cg_snap.proofs.PlanStates.{closed_begun, item_line_held, items_closed_by}

-- Entries are none, or have a last.
record HasLast (fs : List EntryData) : Type 0 where
  front : List EntryData
  last : EntryData
  is : fs ≡ front ++ last ∷ []

last_of : (fs : List EntryData) → (fs ≡ []) ⊎ HasLast fs
last_of [] = inl refl
last_of (f ∷ fs) = elim (last_of fs) [
  | inl e ↦ inr (record { front = []; last = f; is = ap (λ (t : List EntryData). f ∷ t) e })
  | inr h ↦ inr (record { front = f ∷ h.front; last = h.last; is = ap (λ (t : List EntryData). f ∷ t) h.is })
]

-- The text of a last entry stands behind that of the others.
record HasLastText (profile : Profile) (es : List EntryData) (e : EntryData) (text : List ℕ) : Type 0 where
  given : List ℕ
  lines : List (List ℕ)
  before : SnapText profile es given
  spelled : AreEntryLines profile e lines
  other : EndsOther es e.path
  text_is : text ≡ given ++ records e.path lines

starts_before : (path : List ℕ) (es : List EntryData) (e : EntryData) → StartsOther path (es ++ e ∷ []) → StartsOther path es
starts_before path [] e h = tt
starts_before path (f ∷ es) e h = h

ends_on : (f : EntryData) (es : List EntryData) (e : EntryData) → StartsOther f.path (es ++ e ∷ []) → EndsOther es e.path → EndsOther (f ∷ es) e.path
ends_on f [] e s h = λ z. s (sym z)
ends_on f (g ∷ es) e s h = h

module _ (profile : Profile) where
  last_text : (es : List EntryData) (e : EntryData) (text : List ℕ) → SnapText profile (es ++ e ∷ []) text → HasLastText profile es e text
  last_text [] e text s = record {
    given = [];
    lines = s.0;
    before = refl;
    spelled = s.2;
    other = tt;
    text_is = s.4 ∙ (ap (λ (t : List ℕ). records e.path s.0 ++ t) s.5 ∙ append-nil (records e.path s.0));
  }
  last_text (f ∷ es) e text s =
      let r = last_text es e s.1 s.5 in
      record {
        given = records f.path s.0 ++ r.given;
        lines = r.lines;
        before = (s.0, r.given, s.2, starts_before f.path es e s.3, refl, r.before);
        spelled = r.spelled;
        other = ends_on f es e s.3 r.other;
        text_is = s.4 ∙ (ap (λ (t : List ℕ). records f.path s.0 ++ t) r.text_is ∙ sym (append_assoc (records f.path s.0) r.given (records e.path r.lines)));
      }

  -- A snapshot closes all of its entries but the last.
  closed_front : (es : List EntryData) (e : EntryData) (text : List ℕ) → SnapText profile (es ++ e ∷ []) text → Closed profile text es
  closed_front es e text s =
      let r = last_text es e text s in
      let b = entry_starts e.path r.lines [] r.spelled.some in
      let all : records e.path r.lines ≡ records e.path r.lines ++ [] = sym (append-nil (records e.path r.lines)) in
      record {
        given = r.given;
        present = records e.path r.lines;
        path = e.path;
        split = r.text_is;
        entries = r.before;
        good = entry_path e;
        of_path = record { lines = r.lines; begun = []; split = all; plain = lines_plain profile e r.lines r.spelled; last = inl (tt, tt) };
        begun = λ n. (b.0, all ∙ b.1);
        other = r.other;
      }

  none_closed : Closed profile [] []
  none_closed = start_closed profile [] [] [] (record { none = refl; bytes = refl; begun_path = tt })

  whole_is : (p : List ℕ) (es fs : List EntryData) → Closed profile p es → SnapText profile fs p → (last : Option EntryData) × (fs ≡ es ++ option_to_list last)
  whole_is p es fs c s = elim (last_of fs) [
    | inl none ↦
        let empty : p ≡ [] = subst (λ (t : List EntryData). SnapText profile t p) none s in
        let given : es ≡ [] = closed_once profile p es [] c (subst (λ (t : List ℕ). Closed profile t []) (sym empty) none_closed) in
        (None, none ∙ sym (append-nil es ∙ given))
    | inr h ↦
        let front : es ≡ h.front = closed_once profile p es h.front c (closed_front h.front h.last p (subst (λ (t : List EntryData). SnapText profile t p) h.is s)) in
        (Some h.last, h.is ∙ ap (λ (t : List EntryData). t ++ h.last ∷ []) (sym front))
  ]

  held_at : (begun : List ℕ) (o : Option CurrentEntry) (p : List ℕ) (es : List EntryData) → HasConsumed profile begun o p es → IsHeldFor profile p es (length begun + held_in o)
  held_at begun None p es h = none_held profile begun None p es (length begun + held_in None) refl h (omega arith)
  held_at begun (Some x) p es h =
      some_held profile begun (Some x) x p es (length begun + held_in (Some x)) (reader.held_by x.reader) refl h
      (record { few = λ k t r. reads_few x.reader k t r; most = λ k lines line v r plain spelled. reads_most x.reader k lines line v r plain spelled }) (omega arith)

  plan_held_at : (begun : List ℕ) (o : Option CurrentItem) (p : List ℕ) (items : List ItemData) → HasConsumedItems profile begun o p items → (r : List ℕ) × IsBegun p r × (length begun + held_in_line o ≤ length r)
  plan_held_at begun None p items h = (begun, closed_begun profile p items (items_closed_by profile begun None p items h), omega arith)
  plan_held_at begun (Some x) p items h =
      item_line_held profile begun (Some x) x p items (length begun + held_in_line (Some x)) (held_of x.reader) refl h (λ k t r. takes_few x.reader k t r) (omega arith)

  plan_whole_is : (p : List ℕ) (items xs : List ItemData) → ClosedPlan profile p items → PlanText profile xs p → xs ≡ items
  plan_whole_is p items xs c s = closed_plan_once profile p xs items (record { given = p; begun = []; split = sym (append-nil p); whole = s; plain = tt }) c

pub entries_of_the_bytes : (d : SnapshotDecoder) (p : List ℕ) (es : List EntryData) → Stands d p es → GaveTheEntries d p es
entries_of_the_bytes d p es h = record {
  closed = h.closed;
  no_others = λ fs c. closed_once (profile_of d) p fs es c h.closed;
  goes_on = h.state.goes_on;
  unstopped = h.unstopped;
  whole = λ fs s. whole_is (profile_of d) p es fs h.closed s;
  held = held_at (profile_of d) d.records.begun.items d.records.present p es h.state.at;
}

pub items_of_the_bytes : (d : PlanDecoder) (p : List ℕ) (items : List ItemData) → StandsForPlan d p items → GaveTheItems d p items
items_of_the_bytes d p items h = record {
  closed = h.closed;
  no_others = λ xs c. closed_plan_once (plan_profile_of d) p xs items c h.closed;
  goes_on = h.state.goes_on;
  unstopped = h.unstopped;
  whole = λ xs s. plan_whole_is (plan_profile_of d) p items xs h.closed s;
  held = plan_held_at (plan_profile_of d) d.records.begun.items d.records.present p items h.state.at;
}
