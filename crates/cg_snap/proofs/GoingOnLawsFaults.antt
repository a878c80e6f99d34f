-- The first block that is left out is at fault at the byte that stops plain reading.
use Rattle.std.proofs.Common.{◌≡◌, ◌≢◌, ℕ, suc, ◌+◌, ◌<◌, ◌≤◌, inl, inr, All, List, [], ◌∷◌, ◌++◌, length, take, drop, get_or, Option, Some, None, refl, sym, ap, subst, ◌∙◌, append_assoc, arith}
use Rattle.std.specs.Prelude.{option_to_list}
use Rattle.std.proofs.lemmas.Bool.{cases_eq, cases_lt}
use Rattle.std.proofs.lemmas.List.{append-nil, length-append, length-take-le, length_push, take-append-drop, take_more}
use Rattle.std.specs.List.{AllByRecursion}
use Rattle.cg_text.specs.ListFacts.{push_one}
use Rattle.cg_text.specs.Texts.{Lacks, Next, Viable}
use Rattle.cg_text.specs.TextsLaws.{lacks_both, lacks_inside}
use Rattle.cg_value.specs.Entry.{EntryData, IsPath, IsPathByte, ReadsAt}
use Rattle.cg_value.specs.PathLaws.{path_lacks_nul}
use Rattle.cg_value.specs.Records.{records}
use Rattle.cg_value.specs.declared.kind.ReadForm.{ReadForm}
use Rattle.cg_value.specs.declared.profile.Profile.{Profile}
use Rattle.cg_file.specs.WeightFileLaws.{not_empty}
use Rattle.cg_snap.specs.Begun.{IsBegun, IsLongRecord}
use Rattle.cg_snap.specs.Closed.{Closed, EndsOther}
use Rattle.cg_snap.specs.ClosedLaws.{begun_once}
use Rattle.cg_snap.specs.DecoderState.{HasConsumedAPath, IsWhyAfter}
use Rattle.cg_snap.specs.GoingOn.{AreOfOnePath, AreToldBy, IsBlockOf, IsCause, IsWithoutPath, Told, block_limits, more}
use Rattle.cg_snap.specs.GoingOnLaws.{AreToldOf, EndsEntry, IsFirstFault, only}
use Rattle.cg_snap.specs.PathBytes.{ArePathBytes}
use Rattle.cg_snap.specs.Snap.{Snap, SnapText}
use Rattle.cg_snap.specs.SnapLaws.{cut}
use Rattle.cg_snap.specs.SnapStop.{IsManyRecords, IsRecordWhy, SnapStopOf}
use Rattle.cg_snap.specs.Stop.{place_of}
use Rattle.cg_snap.specs.StreamStop.{IsLastWhy}
use Rattle.cg_snap.specs.declared.going_on.Cause.{Cause}
use Rattle.cg_snap.specs.declared.going_on.Cause.TheVariants as causes
use Rattle.cg_snap.specs.declared.going_on.LeftOut.{LeftOut}
use Rattle.cg_snap.specs.declared.limits.Limits.{Limits}
use Rattle.cg_snap.specs.declared.stop.Stop.{Stop}
use Rattle.cg_snap.specs.declared.stop.Stop.TheVariants as stops
use Rattle.cg_snap.specs.declared.stop.Why.{Why}
use Rattle.cg_snap.specs.declared.stop.Why.TheVariants as whys
use Rattle.cg_snap.proofs.Begins.{is_long, not_long}
use Rattle.cg_snap.proofs.Closes.{snap_end}
use Rattle.cg_snap.proofs.GoingOnLawsBlocks.{HasLast, append_empty, IsSnapStopAt, cut_within, lacks_front, last_in, push_some}
use Rattle.cg_snap.proofs.GoingOnLawsCarry.{IsPlace, begun_alone, begun_behind, free_short, long_behind, many_alone, none_unstopped, unstopped_alone, unstopped_at, unstopped_by, unstopped_front, unstopped_viable, unstopped_within, viable_alone, viable_behind, viable_part}
use Rattle.cg_snap.proofs.GoingOnLawsCloses.{EndsOfPath, viable_closes}
use Rattle.cg_snap.proofs.GoingOnLawsKept.{told_stays}
use Rattle.cg_snap.proofs.GoingOnLawsTold.{Unstopped, going_on_behind, ends_path, last_path, last_push, one_places, path_ends, path_room, snap_told}
use Rattle.cg_snap.proofs.Joins.{push_at, records-append}
use Rattle.cg_snap.proofs.Places.{HasBefore, few_many, is_many, not_many}
use Rattle.cg_snap.proofs.Refusals.{Head, head_byte, head_nul, line_start, records_start, snap_head}
use Rattle.cg_snap.proofs.States.{named_path, newline_refused, no_name_refused, not_readable_refused, path_named}
use Rattle.cg_snap.proofs.Steps.{all_push, lacks_right, one_record, same_or_other, start_viable}
use Rattle.cg_snap.proofs.Stops.{stop_long, stop_many, stop_refused}

module _ (profile : Profile) (limits : Limits) where
  -- What is wrong with the byte after p.
  abbrev pub IsWrong : List ℕ → ℕ → Cause → Type 0
  IsWrong p b (causes.Refused why) = (Next (Snap profile) p b → ⊥) × IsWhyAfter profile p b why
  IsWrong p b causes.TooLong = Next (Snap profile) p b × ((r : List ℕ) × IsBegun p r × (limits.max_record ≤ length r))
  IsWrong p b causes.TooMany = Next (Snap profile) p b × (IsLongRecord limits.max_record (p ++ b ∷ []) (length p) → ⊥) × IsManyRecords profile limits.max_lines (p ++ b ∷ []) (length p)

  why_after : (p text : List ℕ) (b k : ℕ) (why : Why) → text ≡ p ++ b ∷ [] → IsLastWhy (IsRecordWhy profile) text k why → IsWhyAfter profile p b why
  why_after p text b k why e w =
      let s = push_one w.2.front p w.1 b (sym w.2.whole ∙ e) in
      (w.0, subst (λ (t : List ℕ). IsBegun t w.0) s.0 w.2.begins, subst (λ (c : ℕ). IsRecordWhy profile w.0 c why) s.1 w.3)

  long_after : (p text : List ℕ) (b k : ℕ) → text ≡ p ++ b ∷ [] → IsLongRecord limits.max_record text k →
      (r : List ℕ) × IsBegun p r × (limits.max_record ≤ length r)
  long_after p text b k e l =
      let s = push_one l.2.front p l.1 b (sym l.2.whole ∙ e) in
      (l.0, subst (λ (t : List ℕ). IsBegun t l.0) s.0 l.2.begins, l.3)

  -- So it is with a byte that stops a text.
  wrong_of : (text p : List ℕ) (b k : ℕ) (stop : Stop) (cause : Cause) → take (k + 1) text ≡ p ++ b ∷ [] → k ≡ length p → IsCause cause stop →
      IsSnapStopAt profile (block_limits limits) text k stop → (place_of stop ≡ k) × IsWrong p b cause
  wrong_of text p b k stop (causes.Refused why) e n c s =
      let h = subst (λ (x : Stop). IsSnapStopAt profile (block_limits limits) text k x) c.1 s in
      (ap place_of c.1 ∙ h.0, ((λ v. h.1 (subst (Viable (Snap profile)) (sym e) v)), why_after p (take (k + 1) text) b k why e h.2))
  wrong_of text p b k stop causes.TooLong e n c s =
      let h = subst (λ (x : Stop). IsSnapStopAt profile (block_limits limits) text k x) c.1 s in
      (ap place_of c.1 ∙ h.0, (subst (Viable (Snap profile)) e h.1, long_after p (take (k + 1) text) b k e h.2))
  wrong_of text p b k stop causes.TooMany e n c s =
      let h = subst (λ (x : Stop). IsSnapStopAt profile (block_limits limits) text k x) c.1 s in (
        ap place_of c.1 ∙ h.0,
        (
          subst (Viable (Snap profile)) e h.1,
          (λ l. h.2 (subst (λ (t : List ℕ). IsLongRecord limits.max_record t k) (sym e) (subst (λ (m : ℕ). IsLongRecord limits.max_record (p ++ b ∷ []) m) (sym n) l))),
          subst (λ (m : ℕ). IsManyRecords profile limits.max_lines (p ++ b ∷ []) m) n (subst (λ (t : List ℕ). IsManyRecords profile limits.max_lines t k) e h.3),
        ),
      )

  -- Such a byte stops the text.
  record IsStopped (w : List ℕ) (b : ℕ) (cause : Cause) : Type 0 where
    stop : Stop
    stops : SnapStopOf profile (block_limits limits) (w ++ b ∷ []) stop
    at : place_of stop ≡ length w
    is_cause : IsCause cause stop

  stopped_by : (w : List ℕ) (b : ℕ) (cause : Cause) → Unstopped profile limits w → IsWrong w b cause → IsStopped w b cause
  stopped_by w b (causes.Refused why) u h = record {
    stop = stops.Refused (length w) why;
    stops = stop_refused (Snap profile) (IsRecordWhy profile) (IsManyRecords profile) (block_limits limits) w b (length w) why refl u h.0 h.1;
    at = refl;
    is_cause = (length w, refl);
  }
  stopped_by w b causes.TooLong u h = record {
    stop = stops.TooLong (length w);
    stops = stop_long (Snap profile) (IsRecordWhy profile) (IsManyRecords profile) (block_limits limits) w b (length w) refl u (is_long w h.1.0 b limits.max_record (length w) h.1.1 h.1.2) h.0;
    at = refl;
    is_cause = (length w, refl);
  }
  stopped_by w b causes.TooMany u h = record {
    stop = stops.TooMany (length w);
    stops = stop_many (Snap profile) (IsRecordWhy profile) (IsManyRecords profile) (block_limits limits) w b (length w) refl u h.1 h.2 h.0;
    at = refl;
    is_cause = (length w, refl);
  }

  -- What is told of bytes of which the last is at fault: entries, and that a block is left out.
  pub record IsToldLast (p : List ℕ) (b : ℕ) (es : List EntryData) (cause : Cause) : Type 0 where
    pub out : LeftOut
    pub told : AreToldBy profile limits (p ++ b ∷ []) (only es ++ inr out ∷ [])
    pub at : out.at ≡ length p
    pub cause_is : out.cause ≡ cause

  -- The byte is of a block behind entries.
  told_last : (es : List EntryData) (front w : List ℕ) (b : ℕ) (cause : Cause) (path : Option (List ℕ)) → SnapText profile es front →
      Unstopped profile limits front → IsBlockOf limits.max_record path (w ++ b ∷ []) →
      ((r : List ℕ) → last_path es ≡ Some r → path ≡ Some r → ⊥) → Unstopped profile limits w → IsWrong w b cause → IsToldLast (front ++ w) b es cause
  told_last es front w b cause path h u block other v x =
      let s = stopped_by w b cause v x in
      let out : LeftOut = record { at = length front + length w; path = path; cause = cause } in
      let text : (front ++ w) ++ b ∷ [] ≡ front ++ (w ++ b ∷ []) = append_assoc front w (b ∷ []) in
      record {
        out = out;
        told = inl (record {
          front = front ++ (w ++ b ∷ []);
          path = path;
          blocks = more front (last_path es) (only es) (record { path = path; bytes = w ++ b ∷ [] }) (inr out) (snap_told profile limits es front h u)
              (record { ended = snap_end profile es [] front (inl refl) h; is_block = block; other = other })
              (record { stop = s.stop; stops = s.stops; at = ap (λ (n : ℕ). length front + n) (sym s.at); path = refl; cause = s.is_cause })
              refl refl refl;
          left_out = inr (only es, out, refl);
          tail = [];
          split = text ∙ sym (append-nil (front ++ (w ++ b ∷ [])));
          is_open = record { no_nul = tt; plain = tt; short = omega arith };
          ended = inl refl;
        });
        at = sym (length-append front w);
        cause_is = refl;
      }

  -- ---- A byte of the present block

  module _ (es : List EntryData) (given q : List ℕ) (h : SnapText profile es given) (o : EndsOther es q) (g : IsPath q) where
    same_begun : (w r : List ℕ) (b : ℕ) → IsPlace q w b → IsBegun (given ++ w) r → IsBegun w r
    same_begun w r b p s = subst (λ (t : List ℕ). IsBegun w t) (begun_once (given ++ w) p.begun r (begun_behind profile es given q h o g w b p) s) (begun_alone profile es given q h o g w b p)

    wrong_alone : (w y : List ℕ) (b : ℕ) (cause : Cause) → w ++ b ∷ [] ≡ q ++ 0 ∷ y → IsPlace q w b → IsWrong (given ++ w) b cause → IsWrong w b cause
    wrong_alone w y b (causes.Refused why) e p x = (
      λ v. x.0 (subst (Viable (Snap profile)) (sym (append_assoc given w (b ∷ []))) (viable_behind profile es given q h o g (w ++ b ∷ []) y e v)),
      (x.1.0, same_begun w x.1.0 b p x.1.1, x.1.2),
    )
    wrong_alone w y b causes.TooLong e p x = (
      viable_alone profile es given q h o g (w ++ b ∷ []) y e (subst (Viable (Snap profile)) (append_assoc given w (b ∷ [])) x.0),
      (x.1.0, same_begun w x.1.0 b p x.1.1, x.1.2),
    )
    wrong_alone w y b causes.TooMany e p x = (
      viable_alone profile es given q h o g (w ++ b ∷ []) y e (subst (Viable (Snap profile)) (append_assoc given w (b ∷ [])) x.0),
      (λ l. x.1 (long_behind profile es given q h o g w b limits.max_record (length (given ++ w)) (length w) p l)),
      many_alone profile es given q h o g w b limits.max_lines (length (given ++ w)) (length w) p x.2,
    )

    same_told : (w y : List ℕ) (b : ℕ) (cause : Cause) → AreOfOnePath q (w ++ b ∷ []) → w ≡ q ++ 0 ∷ y → Unstopped profile limits (given ++ w) →
        IsWrong (given ++ w) b cause → IsToldLast (given ++ w) b es cause
    same_told w y b cause a e u x =
        let places = one_places profile limits q (w ++ b ∷ []) a in
        let alone = unstopped_alone profile es given q h o g (block_limits limits) w y e (λ c d z s. places c d (z ++ b ∷ []) (ap (λ (t : List ℕ). t ++ b ∷ []) s ∙ append_assoc c (d ∷ z) (b ∷ []))) u in
        told_last es given w b cause (Some q) h (unstopped_front profile (block_limits limits) given w u)
        (g, path_room profile limits es given q y h g (subst (λ (t : List ℕ). Unstopped profile limits (given ++ t)) e u), a)
        (λ r s t. ends_path es q o (s ∙ sym t)) alone
        (wrong_alone w (y ++ b ∷ []) b cause (ap (λ (t : List ℕ). t ++ b ∷ []) e ∙ append_assoc q (0 ∷ y) (b ∷ [])) (places w b [] refl) x)

  -- ---- A byte of a line whose path wasn't known

  prefix_bytes : (begun path rest back : List ℕ) → Lacks 0 begun → begun ++ rest ≡ path ++ 0 ∷ back → All IsPathByte path → ArePathBytes begun
  prefix_bytes [] path rest back n e a = tt
  prefix_bytes (c ∷ begun) [] rest back n e a = let z : c ≡ 0 = cc in absurd (n.0 z)
  prefix_bytes (c ∷ begun) (d ∷ path) rest back n e a =
      let t : begun ++ rest ≡ path ++ 0 ∷ back = cc in
      let s : d ≡ c = cc in
      (subst IsPathByte s (a 0 0 (omega arith)), prefix_bytes begun path rest back n.1 t (λ k x l. a (suc k) x (omega (arith, l))))

  -- Behind entries came the front of a path, perhaps none of it, and what goes on begins with a path that can be read. If the
  -- byte is a NUL, the path isn't that of the last entry.
  module _ (es : List EntryData) (front begun : List ℕ) (b : ℕ) (h : SnapText profile es front) (no_nul : Lacks 0 begun) (plain : Lacks 10 begun) (u : Unstopped profile limits (front ++ begun))
      (heads : (tail : List ℕ) → tail ≢ [] → Viable (Snap profile) (front ++ tail) → (rest : List ℕ) × Head profile (tail ++ rest)) (apart : b ≡ 0 → last_path es ≡ Some begun → ⊥) where
    bytes : ArePathBytes begun
    bytes = elim (last_in begun) [
      | inl e ↦ subst ArePathBytes (sym e) tt
      | inr w ↦
          let r = heads begun (λ z. not_empty w.0 [] w.1 (sym w.2 ∙ z)) (unstopped_viable profile (block_limits limits) (front ++ begun) u) in
          prefix_bytes begun r.1.path r.0 r.1.rest no_nul r.1.text_is r.1.good.bytes
    ]

    start : HasConsumedAPath begun begun []
    start = record { none = refl; bytes = refl; begun_path = bytes }

    behind : IsBegun (front ++ begun) begun
    behind = record { front = front; split = refl; ended = snap_end profile es [] front (inl refl) h; plain = plain }

    alone : IsBegun begun begun
    alone = record { front = []; split = refl; ended = inl refl; plain = plain }

    begun_unstopped : Unstopped profile limits begun
    begun_unstopped =
        let m : length (front ++ begun) ≤ 18446744073709551615 = unstopped_within profile (block_limits limits) (front ++ begun) u in
        unstopped_by profile (block_limits limits) [] begun (none_unstopped profile (block_limits limits)) (λ c d x e.
        let f = (unstopped_at profile (block_limits limits) (front ++ begun) (front ++ c) d x (ap (λ (t : List ℕ). front ++ t) e ∙ sym (append_assoc front c (d ∷ x))) u).1 in
        let p : Lacks 10 c = lacks_front 10 c (d ∷ x) (subst (Lacks 10) e plain) in
        let k : Lacks 0 (d ∷ x) = lacks_right 0 c (d ∷ x) (subst (Lacks 0) e no_nul) in
        let room = free_short profile (block_limits limits) (front ++ c) c d (record { front = front; split = refl; ended = snap_end profile es [] front (inl refl) h; plain = p }) f in
        let one : IsBegun c c = record { front = []; split = refl; ended = inl refl; plain = p } in (
          viable_part (Snap profile) (c ++ d ∷ []) x (subst (Viable (Snap profile)) (e ∙ sym (append_assoc c (d ∷ []) x)) (start_viable profile begun begun [] start)),
          record {
            short = not_long c c d limits.max_record (length c) one room;
            few = not_many profile c c d limits.max_lines (length c) one k.0;
            before = λ z. absurd (omega (arith, z, m, length-append front begun, ap length e, length-append c (d ∷ x)));
          },
        ))

    -- The byte goes on from the line alone.
    record GoesAlone : Type 0 where
      next : Next (Snap profile) begun b
      plain_byte : b ≢ 10
      readable : b ≡ 0 → IsPath begun

    readable_next : (k : ReadForm) → IsPath begun → ReadsAt profile begun (Some k) → Next (Snap profile) begun 0
    readable_next k g r =
        let o = one_record profile begun k g r in
        record { rest = o.0; whole = (o.1 ∷ [], subst (SnapText profile (o.1 ∷ [])) (sym (append_assoc begun (0 ∷ []) o.0)) o.3) }

    next_alone : Next (Snap profile) (front ++ begun) b → GoesAlone
    next_alone v =
        let r = heads (begun ++ b ∷ []) (λ z. push_some begun b z) (subst (Viable (Snap profile)) (append_assoc front begun (b ∷ [])) v) in
        let head : Head profile (begun ++ b ∷ r.0) = subst (Head profile) (append_assoc begun (b ∷ []) r.0) r.1 in
        elim (head_byte profile begun r.0 b bytes head) [
          | inl z ↦
              let n = head_nul profile begun r.0 bytes (subst (λ (c : ℕ). Head profile (begun ++ c ∷ r.0)) z head) in
              record {
                next = subst (λ (c : ℕ). Next (Snap profile) begun c) (sym z) (readable_next n.1.0 n.0 n.1.1);
                plain_byte = λ t. absurd (omega (arith, z, t));
                readable = λ t. n.0;
              }
          | inr p ↦ record {
            next = start_viable profile (begun ++ b ∷ []) (begun ++ b ∷ []) [] (record { none = refl; bytes = refl; begun_path = all_push IsPathByte begun b bytes p });
            plain_byte = p.2;
            readable = λ t. absurd (omega (arith, p.0, t));
          }
        ]

    -- The line alone is a block, which the byte stops.
    record IsNew (cause : Cause) : Type 0 where
      path : Option (List ℕ)
      is_block : IsBlockOf limits.max_record path (begun ++ b ∷ [])
      other : (r : List ℕ) → last_path es ≡ Some r → path ≡ Some r → ⊥
      wrong : IsWrong begun b cause

    none_other : (r : List ℕ) → last_path es ≡ Some r → None ≡ Some r → ⊥
    none_other r s t = absurd (cc)

    with_path : (cause : Cause) → b ≡ 0 → IsPath begun → length begun < limits.max_record → IsWrong begun b cause → IsNew cause
    with_path cause z g lt x = record {
      path = Some begun;
      is_block = (g, lt, record { lines = []; begun = begun ++ b ∷ []; split = refl; plain = tt; last = inr ([], tt, ap (λ (c : ℕ). begun ++ c ∷ []) z) });
      other = λ r s t. apart z (s ∙ sym t);
      wrong = x;
    }

    -- A line that has a NUL, behind what isn't a path or what has no room for it.
    nul_none : b ≡ 0 → (IsPath begun → length begun < limits.max_record → ⊥) → IsWithoutPath limits.max_record (begun ++ b ∷ [])
    nul_none z n = record {
      line = begun ++ b ∷ [];
      plain = lacks_both 10 begun (b ∷ []) plain ((λ t. absurd (omega (arith, z, t))), tt);
      split = inl refl;
      known = λ o. lacks_inside 0 begun [] (subst (λ (c : ℕ). Lacks 0 (begun ++ c ∷ [])) z o.no_nul);
      none = λ path p.
          let same : begun ≡ path = (cut 0 begun path [] p.back no_nul (path_lacks_nul path p.good) (subst (λ (c : ℕ). begun ++ c ∷ [] ≡ path ++ 0 ∷ p.back) z p.split)).0 in
          n (subst IsPath (sym same) p.good) (subst (λ (t : List ℕ). length t < limits.max_record) (sym same) p.within);
    }

    newline_none : b ≡ 10 → IsWithoutPath limits.max_record (begun ++ b ∷ [])
    newline_none z = record {
      line = begun;
      plain = plain;
      split = inr (ap (λ (c : ℕ). begun ++ c ∷ []) z);
      known = λ o. lacks_inside 10 begun [] (subst (λ (c : ℕ). Lacks 10 (begun ++ c ∷ [])) z o.plain);
      none = λ path p. lacks_inside 0 path p.back (subst (Lacks 0) p.split (lacks_both 0 begun (b ∷ []) no_nul ((λ t. absurd (omega (arith, z, t))), tt)));
    }

    long_none : b ≢ 10 → limits.max_record ≤ length begun → IsWithoutPath limits.max_record (begun ++ b ∷ [])
    long_none n l = record {
      line = begun ++ b ∷ [];
      plain = lacks_both 10 begun (b ∷ []) plain (n, tt);
      split = inl refl;
      known = λ o. absurd (omega (arith, o.short, l, length_push begun b));
      none = λ path p. elim (cut_within path 0 p.back begun b [] (sym p.split)) [
        | inl d ↦ absurd (omega (arith, ap length d.1, length-append begun (b ∷ d.0), p.within, l))
        | inr (inl d) ↦ absurd (omega (arith, ap length d.0, p.within, l))
        | inr (inr d) ↦ lacks_inside 0 path d.0 (subst (Lacks 0) d.1 no_nul)
      ];
    }

    refused_new : (why : Why) → (Next (Snap profile) (front ++ begun) b → ⊥) → IsRecordWhy profile begun b why → IsNew (causes.Refused why)
    refused_new whys.PathByte n y = record {
      path = None;
      is_block = newline_none y.1;
      other = none_other;
      wrong = newline_refused profile begun None begun [] b y.1 tt start;
    }
    refused_new whys.NoName n y = record {
      path = None;
      is_block = nul_none y.1 (λ g lt. path_named begun g y.2);
      other = none_other;
      wrong = subst (λ (c : ℕ). IsWrong begun c (causes.Refused whys.NoName)) (sym y.1) (no_name_refused profile begun None begun [] y.2 tt start);
    }
    refused_new whys.NotReadable n y =
        let x : IsWrong begun b (causes.Refused whys.NotReadable) = subst (λ (c : ℕ). IsWrong begun c (causes.Refused whys.NotReadable)) (sym y.1) (not_readable_refused profile begun None begun [] y.2 y.3 tt start) in
        elim (cases_lt (length begun) limits.max_record) [
          | inl lt ↦ with_path (causes.Refused whys.NotReadable) y.1 (named_path begun bytes y.2) lt x
          | inr ge ↦ record { path = None; is_block = nul_none y.1 (λ g lt. absurd (omega (arith, lt, ge))); other = none_other; wrong = x }
        ]
    refused_new whys.NotWritable n y = absurd y
    refused_new whys.NoMoreLines n y =
        let g = named_path begun bytes y.2 in
        let v = viable_behind profile es front begun h (path_ends es begun (apart y.1)) g (begun ++ 0 ∷ []) [] refl (readable_next y.3.0 g y.3.1) in
        absurd (n (subst (Viable (Snap profile)) (sym (append_assoc front begun (b ∷ []))) (subst (λ (c : ℕ). Viable (Snap profile) (front ++ (begun ++ c ∷ []))) (sym y.1) v)))
    refused_new whys.Line n y = absurd (lacks_inside 0 y.0 y.1 (subst (Lacks 0) y.2 no_nul))

    new_of : (cause : Cause) → IsWrong (front ++ begun) b cause → IsNew cause
    new_of (causes.Refused why) x =
        refused_new why x.0 (subst (λ (t : List ℕ). IsRecordWhy profile t b why) (begun_once (front ++ begun) x.1.0 begun x.1.1 behind) x.1.2)
    new_of causes.TooLong x =
        let n = next_alone x.0 in
        let l : limits.max_record ≤ length begun = subst (λ (t : List ℕ). limits.max_record ≤ length t) (begun_once (front ++ begun) x.1.0 begun x.1.1 behind) x.1.2 in
        record { path = None; is_block = long_none n.plain_byte l; other = none_other; wrong = (n.next, (begun, alone, l)) }
    new_of causes.TooMany x =
        let n = next_alone x.0 in
        elim (cases_eq b 0) [
          | inr z ↦ absurd (not_many profile (front ++ begun) begun b limits.max_lines (length (front ++ begun)) behind z x.2)
          | inl z ↦
              let g = n.readable z in
              elim (cases_lt (length begun) limits.max_record) [
                | inr ge ↦ absurd (x.1 (is_long (front ++ begun) begun b limits.max_record (length (front ++ begun)) behind ge))
                | inl lt ↦ elim (cases_lt 0 limits.max_lines) [
                  | inl some ↦ absurd (few_many profile (front ++ begun) begun 0 limits.max_lines (length (front ++ begun))
                      (record { es = es; given = front; lines = []; whole = append_assoc front begun (0 ∷ []); entries = h; good = g; other = path_ends es begun (apart z); plain = tt; count = refl }) some
                      (subst (λ (c : ℕ). IsManyRecords profile limits.max_lines ((front ++ begun) ++ c ∷ []) (length (front ++ begun))) z x.2))
                  | inr few ↦
                      let before : HasBefore profile begun begun 0 = record { es = []; given = []; lines = []; whole = refl; entries = refl; good = g; other = tt; plain = tt; count = refl } in
                      let m : IsManyRecords profile limits.max_lines (begun ++ b ∷ []) (length begun) =
                      subst (λ (c : ℕ). IsManyRecords profile limits.max_lines (begun ++ c ∷ []) (length begun)) (sym z) (is_many profile begun begun 0 limits.max_lines (length begun) before few) in
                      with_path causes.TooMany z g lt (n.next, not_long begun begun b limits.max_record (length begun) alone lt, m)
                ]
              ]
        ]

    new_told : (cause : Cause) → IsWrong (front ++ begun) b cause → IsToldLast (front ++ begun) b es cause
    new_told cause x =
        let n = new_of cause x in
        told_last es front begun b cause n.path h (unstopped_front profile (block_limits limits) front begun u) n.is_block n.other begun_unstopped n.wrong

  -- ---- Any byte

  pub record IsFault (p : List ℕ) (b : ℕ) (es : List EntryData) (cause : Cause) : Type 0 where
    pub last : Option EntryData
    pub one_more : (e : EntryData) → last ≡ Some e → EndsEntry profile p es e
    pub told : IsToldLast p b (es ++ option_to_list last) cause

  no_entry : (p t : List ℕ) (b : ℕ) (es : List EntryData) (cause : Cause) → p ≡ t → IsToldLast t b es cause → IsFault p b es cause
  no_entry p t b es cause e f = record { last = None; one_more = λ f z. absurd (cc); told = subst (λ (x : List EntryData). IsToldLast p b x cause) (sym (append-nil es)) (subst (λ (x : List ℕ). IsToldLast x b es cause) (sym e) f) }

  one_entry : (p t r : List ℕ) (b : ℕ) (es : List EntryData) (e : EntryData) (cause : Cause) → p ≡ t ++ r → SnapText profile (es ++ e ∷ []) t → Lacks 10 r →
      IsToldLast (t ++ r) b (es ++ e ∷ []) cause → IsFault p b es cause
  one_entry p t r b es e cause s h n f = record {
    last = Some e;
    one_more = λ d z.
        let same : e ≡ d = cc in
        subst (λ (x : EntryData). EndsEntry profile p es x) same (record { whole = t; begun = r; split = s; entries = h; plain = n });
    told = subst (λ (x : List ℕ). IsToldLast x b (es ++ e ∷ []) cause) (sym s) f;
  }

  line_one : (q l : List ℕ) (lines : List (List ℕ)) (b : ℕ) → AllByRecursion (Lacks 10) lines → Lacks 10 l →
      AreOfOnePath q ((records q lines ++ (q ++ 0 ∷ l)) ++ b ∷ [])
  line_one q l lines b a n = elim (cases_eq b 10) [
    | inl e ↦ record {
      lines = lines ++ l ∷ [];
      begun = [];
      split = rw (e, records-append) (simp (append_assoc, append-nil));
      plain = all_push (Lacks 10) lines l a n;
      last = inl (refl, λ z. push_some lines l z);
    }
    | inr m ↦ record {
      lines = lines;
      begun = q ++ 0 ∷ (l ++ b ∷ []);
      split = simp append_assoc;
      plain = a;
      last = inr (l ++ b ∷ [], lacks_both 10 l (b ∷ []) n (m, tt), refl);
    }
  ]

  snap_heads : (tail : List ℕ) → tail ≢ [] → Viable (Snap profile) tail → (rest : List ℕ) × Head profile (tail ++ rest)
  snap_heads tail n v = (v.rest, snap_head profile v.whole.0 (tail ++ v.rest) v.whole.1 (λ z. n (append_empty tail v.rest z).0))

  module _ (p : List ℕ) (b : ℕ) (es : List EntryData) (cause : Cause) (c : Closed profile p es) (u : Unstopped profile limits p) (x : IsWrong p b cause) where
    -- No record has ended.
    at_start : es ≡ [] → c.of_path.lines ≡ [] → Lacks 0 c.of_path.begun → Lacks 10 c.of_path.begun → IsFault p b es cause
    at_start e z m n =
        let given : c.given ≡ [] = subst (λ (t : List EntryData). SnapText profile t c.given) e c.entries in
        let s : p ≡ c.of_path.begun = c.split ∙ (ap (λ (t : List ℕ). t ++ c.present) given ∙ (c.of_path.split ∙ ap (λ (t : List (List ℕ)). records c.path t ++ c.of_path.begun) z)) in
        no_entry p c.of_path.begun b es cause s
        (subst (λ (t : List EntryData). IsToldLast c.of_path.begun b t cause) (sym e)
        (new_told [] [] c.of_path.begun b refl m n (subst (Unstopped profile limits) s u) snap_heads (λ y t. absurd (cc)) cause (subst (λ (t : List ℕ). IsWrong t b cause) s x)))

    -- Whole records of a path came, and then the front of a path.
    at_path : c.of_path.lines ≢ [] → Lacks 0 c.of_path.begun → Lacks 10 c.of_path.begun → (b ≡ 0 → c.of_path.begun ≡ c.path → ⊥) → IsFault p b es cause
    at_path some m n apart =
        let begun = c.of_path.begun in
        let starts = λ (tail : List ℕ). records_start c.path c.of_path.lines tail some in
        let goes = λ (tail : List ℕ) (v : Viable (Snap profile) (c.given ++ (records c.path c.of_path.lines ++ tail))).
        going_on_behind profile es c.given c.path c.of_path.lines tail (starts tail).0 c.entries c.other c.good c.of_path.plain (starts tail).1 v in
        let text : p ≡ (c.given ++ records c.path c.of_path.lines) ++ c.of_path.begun = c.split ∙ (ap (λ (t : List ℕ). c.given ++ t) c.of_path.split ∙ sym (append_assoc c.given (records c.path c.of_path.lines) c.of_path.begun)) in
        let there : Viable (Snap profile) (c.given ++ (records c.path c.of_path.lines ++ c.of_path.begun)) = subst (Viable (Snap profile)) (text ∙ append_assoc c.given (records c.path c.of_path.lines) c.of_path.begun) (unstopped_viable profile (block_limits limits) p u) in
        let e = (goes c.of_path.begun there).entry some in
        let whole = push_at profile es c.given c.path e.0 c.of_path.lines e.1 c.entries e.2 c.other in
        one_entry p (c.given ++ records c.path c.of_path.lines) c.of_path.begun b es e.0 cause text whole n
        (new_told (es ++ e.0 ∷ []) (c.given ++ records c.path c.of_path.lines) c.of_path.begun b whole m n (subst (Unstopped profile limits) text u)
        (λ tail k v.
        let w = goes tail (subst (Viable (Snap profile)) (append_assoc c.given (records c.path c.of_path.lines) tail) v) in
        (w.rest, w.head k))
        (λ z s. apart z (path_same e.0.path c.path c.of_path.begun e.1 (sym (last_push es e.0) ∙ s)))
        cause (subst (λ (t : List ℕ). IsWrong t b cause) text x))
      where
        path_same : (a q r : List ℕ) → a ≡ q → Some a ≡ Some r → r ≡ q
        path_same a q r s t = cc

    -- The byte is of the present block.
    at_block : (w y : List ℕ) → c.present ≡ w → AreOfOnePath c.path (w ++ b ∷ []) → w ≡ c.path ++ 0 ∷ y → IsFault p b es cause
    at_block w y e a s =
        let text : p ≡ c.given ++ w = c.split ∙ ap (λ (t : List ℕ). c.given ++ t) e in
        no_entry p (c.given ++ w) b es cause text
        (same_told es c.given c.path c.entries c.other c.good w y b cause a s (subst (Unstopped profile limits) text u) (subst (λ (t : List ℕ). IsWrong t b cause) text x))

    fault_of : EndsOfPath c.path c.of_path.begun →
        HasLast c.of_path.lines →
        HasLast es → IsFault p b es cause
    fault_of (inr l) m n =
        let s = line_start c.path c.of_path.lines l.0 in
        at_block (records c.path c.of_path.lines ++ (c.path ++ 0 ∷ l.0)) s.0 (c.of_path.split ∙ ap (λ (t : List ℕ). records c.path c.of_path.lines ++ t) l.2) (line_one c.path l.0 c.of_path.lines b c.of_path.plain l.1) s.1
    fault_of (inl k) (inl z) (inl e) = at_start e z k.0 k.1
    fault_of (inl k) (inl z) (inr n) =
        let d = c.begun (λ e. push_some n.0 n.1 (sym n.2 ∙ e)) in
        let s : c.of_path.begun ≡ c.path ++ 0 ∷ d.0 = ap (λ (t : List (List ℕ)). records c.path t ++ c.of_path.begun) (sym z) ∙ (sym c.of_path.split ∙ d.1) in
        absurd (lacks_inside 0 c.path d.0 (subst (Lacks 0) s k.0))
    fault_of (inl k) (inr m) n =
        let some : c.of_path.lines ≢ [] = λ z. push_some m.0 m.1 (sym m.2 ∙ z) in
        elim (cases_eq b 0) [
          | inr z ↦ at_path some k.0 k.1 (λ t s. z t)
          | inl z ↦ elim (same_or_other c.of_path.begun c.path) [
            | inr o ↦ at_path some k.0 k.1 (λ t s. o s)
            | inl e ↦
                let s = records_start c.path c.of_path.lines c.path some in
                at_block (records c.path c.of_path.lines ++ c.path) s.0 (c.of_path.split ∙ ap (λ (t : List ℕ). records c.path c.of_path.lines ++ t) e)
                (record {
                  lines = c.of_path.lines;
                  begun = c.path ++ b ∷ [];
                  split = append_assoc (records c.path c.of_path.lines) c.path (b ∷ []);
                  plain = c.of_path.plain;
                  last = inr ([], tt, ap (λ (d : ℕ). c.path ++ d ∷ []) z);
                }) s.1
          ]
        ]

    pub fault : IsFault p b es cause
    fault = fault_of c.of_path.last (last_in c.of_path.lines) (last_in es)

  push_first : (s t : List Told) (out : LeftOut) → (rest : List Told) × (t ≡ (s ++ inr out ∷ []) ++ rest) → (rest : List Told) × (t ≡ s ++ inr out ∷ rest)
  push_first s t out r = (r.0, r.1 ∙ append_assoc s (inr out ∷ []) r.0)

  pub first_fault : (bytes : List ℕ) (stop : Stop) (cause : Cause) → SnapStopOf profile (block_limits limits) bytes stop → IsCause cause stop →
      IsFirstFault profile limits bytes stop cause
  first_fault bytes stop cause h k =
      let within : h.place < length bytes = h.within in
      let front = take_more bytes h.place 0 within in
      let count : h.place ≡ length (take h.place bytes) = sym (length-take-le h.place bytes (omega (arith, within))) in
      let w = wrong_of bytes (take h.place bytes) (get_or bytes h.place 0) h.place stop cause front count k h.stops in
      let c = viable_closes profile (take h.place bytes) (unstopped_viable profile (block_limits limits) (take h.place bytes) h.unstopped) in
      let f = fault (take h.place bytes) (get_or bytes h.place 0) c.0 cause c.1 h.unstopped w.1 in
      let told : AreToldBy profile limits (take (place_of stop + 1) bytes) (only (c.0 ++ option_to_list f.last) ++ inr f.told.out ∷ []) =
      subst (λ (t : List ℕ). AreToldBy profile limits t (only (c.0 ++ option_to_list f.last) ++ inr f.told.out ∷ [])) (sym front ∙ ap (λ (n : ℕ). take (n + 1) bytes) (sym w.0)) f.told.told in
      let all : bytes ≡ take (place_of stop + 1) bytes ++ drop (place_of stop + 1) bytes = sym (take-append-drop (place_of stop + 1) bytes) in
      record {
        es = c.0;
        closed = subst (λ (n : ℕ). Closed profile (take n bytes) c.0) (sym w.0) c.1;
        last = f.last;
        one_more = λ e z. subst (λ (n : ℕ). EndsEntry profile (take n bytes) c.0 e) (sym w.0) (f.one_more e z);
        out = f.told.out;
        at = f.told.at ∙ (sym count ∙ sym w.0);
        cause_is = f.told.cause_is;
        told = told;
        first = λ t g. push_first (only (c.0 ++ option_to_list f.last)) t f.told.out
            (told_stays profile limits (take (place_of stop + 1) bytes) (drop (place_of stop + 1) bytes) (only (c.0 ++ option_to_list f.last) ++ inr f.told.out ∷ []) t told (subst (λ (x : List ℕ). AreToldOf profile limits x t) all g));
      }
