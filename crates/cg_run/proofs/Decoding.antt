-- How a decoder comes on in a piece, entry by entry.
use Rattle.std.proofs.Common.{◌≡◌, ◌≢◌, ℕ, ◌+◌, ◌≤◌, List, [], ◌∷◌, ◌++◌, length, take, drop, map, refl, sym, ap, subst, ◌∙◌, append_assoc, append-nil, inl, inr, arith}
use Rattle.std.proofs.Common.{length-append, length-drop, length-take}
use Rattle.std.proofs.lemmas.List.{take_all}
use Rattle.std.specs.List.{AllByRecursion}
use Rattle.cg_text.specs.Texts.{Lacks}
use Rattle.cg_value.specs.Entry.{EntryData}
use Rattle.cg_value.specs.Print.{print_lines}
use Rattle.cg_value.specs.Records.{records}
use Rattle.cg_value.specs.declared.profile.Profile.{Profile}
use Rattle.cg_snap.specs.Closed.{Closed}
use Rattle.cg_snap.specs.Decode.{HasTaken}
use Rattle.cg_snap.specs.Decoder.{SnapshotDecoder, limits_of, profile_of}
use Rattle.cg_snap.specs.Laws.{print_entries}
use Rattle.cg_snap.specs.SnapStop.{IsSnapUnstopped, SnapStopOf}
use Rattle.cg_snap.specs.declared.event.Event.{Event}
use Rattle.cg_snap.specs.declared.event.Event.TheVariants as events
use Rattle.cg_snap.specs.declared.limits.Limits.{Limits}
use Rattle.cg_snap.specs.declared.stop.Stop.{Stop}
use Rattle.cg_run.specs.Decoded.{ArePlain, CloseMore, HasDecoded, LeftBy}
use Rattle.cg_run.specs.Taken.{taken_closed, taken_unstopped}
use Rattle.cg_run.specs.Stream.{PartsOf, shown_part}
use Rattle.cg_run.specs.Streaming.{LeadsTo}
use Rattle.cg_run.proofs.Pulled.{PulledIs}
use Rattle.cg_run.proofs.Showing.{closed_end, entries_append}
use Rattle.cg_run.proofs.SnapEnds.{entries_push}
use Rattle.cg_run.proofs.Streams.{text_all, text_on}

pub some_push : (es : List EntryData) (e : EntryData) → es ++ e ∷ [] ≢ []
some_push [] e = λ z. cc
some_push (f ∷ es) e = λ z. cc

pub plain_push : (es : List EntryData) (e : EntryData) → ArePlain es → AllByRecursion (Lacks 0) (print_lines e.value) → ArePlain (es ++ e ∷ [])
plain_push [] e h last = (last, tt)
plain_push (f ∷ es) e h last = (h.0, plain_push es e h.1 last)

module _ (profile : Profile) (limits : Limits) (p : List ℕ) (es : List EntryData) (piece : List ℕ) where
  more_plain : (closed : ℕ) (more : List EntryData) → CloseMore profile limits p es piece closed more → ArePlain more
  more_plain closed more (inl none) = subst ArePlain (sym none.1) tt
  more_plain closed more (inr some) = some.1.followed.plain

  -- Nothing was consumed.
  pub decoded_none : (d : SnapshotDecoder) → HasTaken d profile limits p es → HasDecoded d profile limits p es piece 0 0
  decoded_none d h = record {
    more = [];
    close = inl (refl, refl);
    taken = subst (λ (q : List ℕ). HasTaken d profile limits q (es ++ [])) (sym (append-nil p)) (subst (λ (fs : List EntryData). HasTaken d profile limits p fs) (sym (append-nil es)) h);
  }

  module _ (was now : SnapshotDecoder) (rest : List ℕ) (at n closed : ℕ) (rest_is : rest ≡ drop at piece) (less : at ≤ length piece) (within : n ≤ length rest)
      (h : HasDecoded was profile limits p es piece at closed) (same_profile : profile_of now ≡ profile_of was) (same_limits : limits_of now ≡ limits_of was) where
    abbrev front : List ℕ
    front = p ++ take at piece

    abbrev all : List EntryData
    all = es ++ h.more

    on : (m : ℕ) → front ++ take m rest ≡ p ++ take (at + m) piece
    on m = text_on p piece rest at m rest_is

    left_length : length piece ≡ at + length rest
    left_length = omega (arith, less, ap length rest_is, length-drop at piece)

    -- One more entry is closed.
    pub decoded_entry : (e : EntryData) → PulledIs was now profile limits front all rest n h.taken same_profile same_limits (events.Given e) →
        HasDecoded now profile limits p es piece (at + n) (at + n)
    decoded_entry e w =
        let list : all ++ e ∷ [] ≡ es ++ (h.more ++ e ∷ []) = append_assoc es h.more (e ∷ []) in
        let taken : HasTaken now profile limits (p ++ take (at + n) piece) (es ++ (h.more ++ e ∷ [])) =
        subst (λ (q : List ℕ). HasTaken now profile limits q (es ++ (h.more ++ e ∷ []))) (on n) (subst (λ (fs : List EntryData). HasTaken now profile limits (front ++ take n rest) fs) list w.1) in
        let end = closed_end now profile limits front rest n all e w.0 within w.2 w.1 in
        let entry = records e.path (print_lines e.value) in
        let next = end.next ++ 0 ∷ [] in
        let split : p ++ take (at + n) piece ≡ print_entries es ++ (print_entries (h.more ++ e ∷ []) ++ next) =
        sym (on n) ∙ end.split ∙ ap (λ t. t ++ (entry ++ next)) (entries_append es h.more) ∙ append_assoc (print_entries es) (print_entries h.more) (entry ++ next)
        ∙ ap (λ t. print_entries es ++ t) (sym (append_assoc (print_entries h.more) entry next) ∙ ap (λ t. t ++ next) (sym (entries_push h.more e))) in
        record {
          more = h.more ++ e ∷ [];
          close = inr (
            omega (arith, w.0),
            record {
              unstopped = taken_unstopped now profile limits (p ++ take (at + n) piece) (es ++ (h.more ++ e ∷ [])) taken;
              closed = taken_closed now profile limits (p ++ take (at + n) piece) (es ++ (h.more ++ e ∷ [])) taken;
              some = some_push h.more e;
              followed = record { plain = plain_push h.more e (more_plain closed h.more h.close) end.plain; next = end.next; good = end.good; split = split };
            },
          );
          taken = taken;
        }

    -- The piece came to its end, a byte stops the stream, or memory was refused.
    pub left_none : PulledIs was now profile limits front all rest n h.taken same_profile same_limits events.NeedMore → n ≡ length rest →
        LeftBy now profile limits p all piece (at + n) events.NeedMore
    left_none w e =
        let whole : front ++ take n rest ≡ p ++ piece = ap (λ (t : List ℕ). front ++ t) (take_all n rest (omega (arith, e))) ∙ text_all p piece rest at rest_is in (
          subst (λ (q : List ℕ). HasTaken now profile limits q all) whole w,
          omega (arith, e, left_length),
        )

    pub left_stopped : (s : Stop) → PulledIs was now profile limits front all rest n h.taken same_profile same_limits (events.Stopped s) → LeftBy now profile limits p all piece (at + n) (events.Stopped s)
    left_stopped s w = (
      w.0,
      subst (λ (q : List ℕ). SnapStopOf profile limits q s) (text_all p piece rest at rest_is) w.1,
      omega (arith, w.2, less, length-append p (take at piece), length-take at piece),
      subst (λ (q : List ℕ). Closed profile q all) (on n) w.3,
    )

    pub left_starved : PulledIs was now profile limits front all rest n h.taken same_profile same_limits events.OutOfMemory → LeftBy now profile limits p all piece (at + n) events.OutOfMemory
    left_starved w =
        let next : at + (n + 1) ≡ (at + n) + 1 = omega arith in (
          omega (arith, w.0, left_length),
          subst (IsSnapUnstopped profile limits) (on n) w.1,
          subst (λ (m : ℕ). IsSnapUnstopped profile limits (p ++ take m piece)) next (subst (IsSnapUnstopped profile limits) (on (n + 1)) w.2),
          subst (λ (q : List ℕ). Closed profile q all) (on n) w.3,
        )

-- ---- What a reader that shows entries came to

module _ (profile : Profile) (limits : Limits) (p piece : List ℕ) (es : List EntryData) (all : List (List ℕ)) (all_are : all ≡ map shown_part es) (d : SnapshotDecoder)
    (Took : List ℕ → List (List ℕ) → Type 0) where
  -- A byte stops the stream, or memory was refused.
  pub left_leads : (what : Event (Unit {0})) (used : ℕ) → (what ≡ events.NeedMore → ⊥) → LeftBy d profile limits p es piece used what →
      LeadsTo (PartsOf shown_part (λ bytes fs. Closed profile bytes fs)) (IsSnapUnstopped profile limits) Took (SnapStopOf profile limits) p all piece used what
  left_leads events.NeedMore used not h = absurd (not refl)
  left_leads (events.Given u) used not h = absurd h
  left_leads (events.Stopped s) used not h = (h.0, h.1, h.2, (es, h.3, all_are))
  left_leads events.OutOfMemory used not h = inl (h.0, h.1, h.2, (es, h.3, all_are))
