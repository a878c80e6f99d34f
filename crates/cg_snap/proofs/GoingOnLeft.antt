-- What a byte at fault leaves of records that go on.
use Rattle.std.proofs.Common.{◌≡◌, ◌≢◌, ℕ, zero, suc, ◌+◌, ◌<◌, ◌≤◌, List, [], ◌∷◌, ◌++◌, length, refl, sym, ap, subst, ◌∙◌, append_assoc, arith, Bool, true, false, Option, Some, None, inl, inr, ◌⊎◌}
use Rattle.std.specs.Bool.{MatchBool}
use Rattle.std.proofs.lemmas.Bool.{MatchBool-at_false, MatchBool-at_true, cases_lt}
use Rattle.std.proofs.lemmas.List.{append-nil, length-append}
use Rattle.cg_text.specs.Texts.{Lacks, Next}
use Rattle.cg_text.specs.TextsLaws.{lacks_inside, lacks_push}
use Rattle.cg_value.specs.Entry.{EntryData, IsPath}
use Rattle.cg_value.specs.PathLaws.{path_lacks_nul}
use Rattle.cg_value.specs.Records.{records}
use Rattle.cg_value.specs.declared.profile.Profile.{Profile}
use Rattle.cg_line.specs.SplitLaws.{cut}
use Rattle.cg_snap.specs.Begun.{IsBegun, IsRecordEnd}
use Rattle.cg_snap.specs.ClosedLaws.{begun_once}
use Rattle.cg_snap.specs.Course.{HasProgressed}
use Rattle.cg_snap.specs.DecoderState.{HasConsumed, HasConsumedInLine, HasConsumedInPath, HasTakenRecords}
use Rattle.cg_snap.specs.GoingOn.{AreTold, Block, Follows, HasPath, IsAtFault, IsBlockOf, IsCause, IsLeftOut, IsOpen, IsWithoutPath, Told, block_limits, block_with, told_entry}
use Rattle.cg_snap.specs.GoingOn.AreTold.{more}
use Rattle.cg_snap.specs.GoingOnState.{EndsInLine, HasTold, IsEnded, IsFirst, HasOther, IsOfPresent, IsPassingOver, IsPathAt, IsPathBegun, IsReading}
use Rattle.cg_snap.specs.PathBytes.{ArePathBytes}
use Rattle.cg_snap.specs.Snap.{AreEntryLines, Snap, SnapText}
use Rattle.cg_snap.specs.SnapStop.{IsManyRecords, IsNameless, IsRecordWhy, IsSnapUnstopped, SnapStopOf}
use Rattle.cg_snap.specs.Stop.{place_of}
use Rattle.cg_snap.specs.Streams.{snap_stream}
use Rattle.cg_snap.specs.declared.going_on.Cause.{Cause}
use Rattle.cg_snap.specs.declared.going_on.Cause.TheVariants as causes
use Rattle.cg_snap.specs.declared.going_on.LeftOut.{LeftOut}
use Rattle.cg_snap.specs.declared.going_on_records.GoingOnRecords.{GoingOnRecords}
use Rattle.cg_snap.specs.declared.limits.Limits.{Limits}
use Rattle.cg_snap.specs.declared.present.CurrentEntry.{CurrentEntry}
use Rattle.cg_snap.specs.declared.snapshot_records.SnapshotRecords.{SnapshotRecords}
use Rattle.cg_snap.specs.declared.stop.Stop.{Stop}
use Rattle.cg_snap.proofs.Begins.{long_is}
use Rattle.cg_snap.proofs.Closes.{records_end, start_begun}
use Rattle.cg_snap.proofs.GoingOnFaults.{start_of, start_unstopped, begun_room, stops_alone, stops_here}
use Rattle.cg_snap.proofs.GoingOnLines.{block_more, block_newline}
use Rattle.cg_snap.proofs.GoingOnMoves.{again_passing, fault_left, none_some, record_end_both, some_inj}
use Rattle.cg_snap.proofs.GoingOnStates.{IsOf, along_unstopped, front_unstopped, no_nul, own_room, present_of, same_own}
use Rattle.cg_snap.proofs.Places.{not_many}
use Rattle.cg_snap.proofs.States.{at_true, named_path, path_byte_allowed, path_named, paths_begun}
use Rattle.cg_snap.proofs.Steps.{bytes_no_newline, bytes_no_nul}
use Rattle.cg_snap.proofs.Stops.{all_of, stop_place}
use Rattle.cg_snap.proofs.Taken.{taken_records}

pub some_none : (x : CurrentEntry) → Some x ≡ None → ⊥
some_none x e = absurd (cc)

is_zero : (b : ℕ) → (b ≡ 0) ⊎ (b ≢ 0)
is_zero zero = inl refl
is_zero (suc b) = inr (λ e. absurd (cc))

-- The records of which only this part of a path came.
pub begun_alone : (r : SnapshotRecords) (profile : Profile) (begun : List ℕ) → r.profile ≡ profile → r.begun.items ≡ begun → r.present ≡ None → ArePathBytes begun → HasTakenRecords r profile begun []
begun_alone r profile begun e b n a =
    taken_records r profile begun [] e (subst (λ (o : Option CurrentEntry). HasConsumed profile r.begun.items o begun []) (sym n) (record { none = refl; bytes = sym b; begun_path = subst ArePathBytes (sym b) a }))

module _ (profile : Profile) (limits : Limits) where
  -- ---- A line of another path, at whose byte something is at fault

  module _ (begun : List ℕ) (a : ArePathBytes begun) (b : ℕ) (small : b < 256) (room : Bool) (has_room : MatchBool room (length begun < limits.max_record) (limits.max_record ≤ length begun))
      (stop : Stop) (cause : Cause) (stops : SnapStopOf profile (block_limits limits) (begun ++ b ∷ []) stop) (is : IsCause cause stop) (u : IsSnapUnstopped profile (block_limits limits) begun) where
    begins : IsBegun begun begun
    begins = start_begun begun begun [] (start_of begun a)

    long_byte : b ≢ 0 → b ≢ 10 → limits.max_record ≤ length begun
    long_byte z n = by cause is
      where
        next : Next (Snap profile) begun b
        next = path_byte_allowed profile begun None begun [] b z n small tt (start_of begun a)

        by : (cause : Cause) → IsCause cause stop → limits.max_record ≤ length begun
        by (causes.Refused why) c =
            let st = stops_here profile (block_limits limits) begun b _ u (subst (SnapStopOf profile (block_limits limits) (begun ++ b ∷ [])) c.1 stops) in
            absurd ((rw (all_of (Snap profile) (IsRecordWhy profile) (IsManyRecords profile) begun b) at st.1) next)
        by causes.TooLong c =
            let st = stops_here profile (block_limits limits) begun b _ u (subst (SnapStopOf profile (block_limits limits) (begun ++ b ∷ [])) c.1 stops) in
            long_is begun begun b limits.max_record (length begun) begins (rw (all_of (Snap profile) (IsRecordWhy profile) (IsManyRecords profile) begun b) at st.2)
        by causes.TooMany c =
            let st = stops_here profile (block_limits limits) begun b _ u (subst (SnapStopOf profile (block_limits limits) (begun ++ b ∷ [])) c.1 stops) in
            absurd (not_many profile begun begun b limits.max_lines (length begun) begins z (rw (all_of (Snap profile) (IsRecordWhy profile) (IsManyRecords profile) begun b) at st.3))

    ten : (b ≡ 10) ⊎ (b ≢ 10)
    ten = elim (cases_lt b 10) [
      | inl lt ↦ inr (λ e. absurd (omega (arith, e, lt)))
      | inr ge ↦ elim (cases_lt 10 b) [ inl lt ↦ inr (λ e. absurd (omega (arith, e, lt))) | inr le ↦ inl (omega (arith, le, ge)) ]
    ]

    not_open : IsOpen limits.max_record (begun ++ b ∷ []) → ⊥
    not_open o =
        elim (is_zero b) [
          | inl z ↦ lacks_inside 0 begun [] (subst (λ (c : ℕ). Lacks 0 (begun ++ c ∷ [])) z o.no_nul)
          | inr z ↦ elim ten [
            | inl t ↦ lacks_inside 10 begun [] (subst (λ (c : ℕ). Lacks 10 (begun ++ c ∷ [])) t o.plain)
            | inr t ↦ absurd (omega (arith, long_byte z t, o.short, length-append begun (b ∷ [])))
          ]
        ]

    no_path : IsPathBegun begun b room None → (path : List ℕ) → HasPath limits.max_record (begun ++ b ∷ []) path → ⊥
    no_path none path h =
        elim (is_zero b) [
          | inr z ↦ lacks_inside 0 path h.back (subst (Lacks 0) h.split (lacks_push 0 begun b (bytes_no_nul begun a) z))
          | inl z ↦
              let same = cut 0 begun path [] h.back (bytes_no_nul begun a) (path_lacks_nul path h.good) (ap (λ (c : ℕ). begun ++ c ∷ []) (sym z) ∙ h.split) in
              none z (is_room room has_room (omega (arith, ap length same.0, h.within))) (λ n. path_named path h.good (subst IsNameless same.0 n))
        ]
      where
        is_room : (r : Bool) → MatchBool r (length begun < limits.max_record) (limits.max_record ≤ length begun) → length begun < limits.max_record → r ≡ true
        is_room true m lt = refl
        is_room false m lt = absurd (omega (arith, m, lt))

    line_split : (b ≡ 10) ⊎ (b ≢ 10) → IsPathBegun begun b room None → IsWithoutPath limits.max_record (begun ++ b ∷ [])
    line_split (inl t) none = record { line = begun; plain = bytes_no_newline begun a; split = inr (ap (λ (c : ℕ). begun ++ c ∷ []) t); known = not_open; none = no_path none }
    line_split (inr t) none = record { line = begun ++ b ∷ []; plain = lacks_push 10 begun b (bytes_no_newline begun a) t; split = inl refl; known = not_open; none = no_path none }

    pub line_block : (path : Option (List ℕ)) → IsPathBegun begun b room path → IsBlockOf limits.max_record path (begun ++ b ∷ [])
    line_block None h = line_split ten h
    line_block (Some path) h =
        let good : IsPath begun = named_path begun a h.3 in
        let text : begun ++ b ∷ [] ≡ begun ++ 0 ∷ [] = ap (λ (c : ℕ). begun ++ c ∷ []) h.1 in
        subst (λ (q : List ℕ). IsBlockOf limits.max_record (Some q) (begun ++ b ∷ [])) (sym h.0)
        (good, in_room room has_room h.2, record { lines = []; begun = begun ++ 0 ∷ []; split = text; plain = tt; last = inr ([], tt, refl) })
      where
        in_room : (r : Bool) → MatchBool r (length begun < limits.max_record) (limits.max_record ≤ length begun) → r ≡ true → length begun < limits.max_record
        in_room true m e = m
        in_room false m e = absurd (cc)

    pub line_passing : (path : Option (List ℕ)) → IsPathBegun begun b room path → b ≢ 10 → EndsInLine path (begun ++ b ∷ [])
    line_passing None h n = lacks_push 10 begun b (bytes_no_newline begun a) n
    line_passing (Some path) h n = ([], [], tt, tt, ap (λ (c : ℕ). begun ++ c ∷ []) h.1 ∙ ap (λ (q : List ℕ). q ++ 0 ∷ []) (sym h.0))

  -- ---- A line of the present path

  -- What a byte of the present entry makes of its block.
  pub record OwnLine (path bytes : List ℕ) (flag : Bool) : Type 0 where
    pub is_block : IsBlockOf limits.max_record (Some path) bytes
    pub passing : flag ≡ true → EndsInLine (Some path) bytes
    pub ended : flag ≡ false → IsRecordEnd bytes

  module _ (begun : List ℕ) (x : CurrentEntry) (w : List ℕ) (b : ℕ) (flag : Bool) (yes : flag ≡ true → b ≢ 10) (no : flag ≡ false → b ≡ 10) (good : IsPath x.path.items) (room : length x.path.items < limits.max_record) where
    in_line : HasConsumedInLine profile begun x w [] → OwnLine x.path.items (w ++ b ∷ []) flag
    in_line h = by flag refl
      where
        split : w ≡ records x.path.items h.lines ++ (x.path.items ++ 0 ∷ h.line)
        split = h.split ∙ ap (λ (t : List ℕ). t ++ (records x.path.items h.lines ++ (x.path.items ++ 0 ∷ h.line))) h.entries

        ends : EndsInLine (Some x.path.items) w
        ends = (h.lines, h.line, h.plain, h.plain_line, split)

        block : IsBlockOf limits.max_record (Some x.path.items) w
        block = (good, room, record { lines = h.lines; begun = x.path.items ++ 0 ∷ h.line; split = split; plain = h.plain; last = inr (h.line, h.plain_line, refl) })

        by : (f : Bool) → flag ≡ f → OwnLine x.path.items (w ++ b ∷ []) flag
        by true e =
            let m = block_more limits.max_record (Some x.path.items) w (b ∷ []) (yes e, tt) ends block in
            record { is_block = m.0; passing = λ _. m.1; ended = λ z. absurd (cc) }
        by false e =
            let text : w ++ 10 ∷ [] ≡ w ++ b ∷ [] = ap (λ (c : ℕ). w ++ c ∷ []) (sym (no e)) in
            record {
              is_block = subst (IsBlockOf limits.max_record (Some x.path.items)) text (block_newline limits.max_record (Some x.path.items) w ends block);
              passing = λ z. absurd (cc);
              ended = λ z. inr (w, sym text);
            }

    at_nul : b ≡ 0 → x.path.items ≡ begun → HasConsumedInPath profile begun x w [] → OwnLine x.path.items (w ++ b ∷ []) flag
    at_nul z same h =
        let path = x.path.items in
        let split : w ++ b ∷ [] ≡ records path h.lines ++ (path ++ 0 ∷ []) = rw (h.split, h.entries, z, same) (append_assoc (records begun h.lines) begun (0 ∷ [])) in
        record {
          is_block = (good, room, record { lines = h.lines; begun = path ++ 0 ∷ []; split = split; plain = h.plain; last = inr ([], tt, refl) });
          passing = λ _. (h.lines, [], h.plain, tt, split);
          ended = λ e. absurd (omega (arith, no e, z));
        }

    pub own_line : (f : Bool) → x.in_line ≡ f → HasConsumed profile begun (Some x) w [] → IsOfPresent begun b (Some x) → OwnLine x.path.items (w ++ b ∷ []) flag
    own_line true e h o = in_line (MatchBool-at_true _ _ e h)
    own_line false e h (inl t) = absurd (cc)
    own_line false e h (inr n) = at_nul n.0 n.1 (MatchBool-at_false _ _ e h)

  -- ---- The byte at fault

  module _ (s t : GoingOnRecords) (p : List ℕ) (told : List Told) (h : IsReading s profile limits p told) (meter_is : s.meter.limits ≡ block_limits limits) (b : ℕ) (small : b < 256) (flag : Bool) (yes : flag ≡ true → b ≢ 10) (no : flag ≡ false → b ≡ 10)
      (is_passing : t.is_passing ≡ flag) (same_profile : t.block.profile ≡ profile) (same_limits : t.limits ≡ limits) (new_meter : t.meter.limits ≡ block_limits limits) (along : HasProgressed (snap_stream profile) t.block t.meter [] []) where
    abbrev begun_of : List ℕ
    begun_of = s.block.begun.items

    at : HasConsumed profile begun_of s.block.present h.block []
    at = h.along.state.at

    unstopped : IsSnapUnstopped profile (block_limits limits) h.block
    unstopped = along_unstopped profile limits s h.block [] meter_is h.along

    text : h.front ++ (h.block ++ b ∷ []) ≡ p ++ b ∷ []
    text = sym (ap (λ (u : List ℕ). u ++ b ∷ []) h.split ∙ append_assoc h.front h.block (b ∷ []))

    -- It is a line of the block that was left out before.
    pub left_again : (q : List ℕ) (path : Option (List ℕ)) (room of : Bool) → t.left_out ≡ s.left_out → s.left_out ≡ Some q → path ≡ Some q → IsPathAt begun_of b room s.block.present of path → HasTold t profile limits (p ++ b ∷ []) told
    left_again q path room of kept l e i = by h.state
      where
        is_true : (f : Bool) → (f ≡ false → ⊥) → f ≡ true
        is_true true n = refl
        is_true false n = absurd (n refl)

        first : IsFirst s profile limits p told h.path h.block → HasTold t profile limits (p ++ b ∷ []) told
        first f =
            let n = no_nul profile begun_of s.block.present h.block [] f.no_nul at in
            let j : IsPathBegun begun_of b room path = subst (λ (o : Option CurrentEntry). IsPathAt begun_of b room o of path) n.none i in
            let k : IsPathBegun begun_of b room (Some q) = subst (IsPathBegun begun_of b room) e j in
            let whole : h.front ++ (q ++ 0 ∷ []) ≡ p ++ b ∷ [] = rw (k.0, sym k.1) (ap (λ (u : List ℕ). h.front ++ (u ++ b ∷ [])) (sym n.bytes_are) ∙ text) in
            let over = again_passing profile limits t h.front h.path told q h.blocks h.ended f.left_out (sym f.kept ∙ l) (kept ∙ f.kept) along in
            let on : flag ≡ true = is_true flag (λ z. absurd (omega (arith, no z, k.1))) in
            record {
              profile_is = same_profile;
              limits_is = same_limits;
              meter_is = new_meter;
              state = at_true (IsPassingOver t profile limits (p ++ b ∷ []) told) (IsReading t profile limits (p ++ b ∷ []) told) t.is_passing (is_passing ∙ on) (subst (λ (u : List ℕ). IsPassingOver t profile limits u told) whole over);
            }

        by : IsFirst s profile limits p told h.path h.block ⊎ HasOther s profile limits p told h.path h.block → HasTold t profile limits (p ++ b ∷ []) told
        by (inl f) = first f
        by (inr o) = absurd (none_some q (sym o.none ∙ l))

    module _ (stop : Stop) (cause : Cause) (stops : SnapStopOf profile (block_limits limits) (h.block ++ b ∷ []) stop) (is : IsCause cause stop) (out : LeftOut) (out_at : out.at ≡ length p) (out_cause : out.cause ≡ cause)
        (kept : t.left_out ≡ out.path) where
      -- What is left out is the block with this path that begins behind other blocks.
      at_fault : (front : List ℕ) (block : Block) (alone : Stop) → SnapStopOf profile (block_limits limits) block.bytes alone → length p ≡ length front + place_of alone → IsCause cause alone → out.path ≡ block.path → IsLeftOut profile limits (length front) block out
      at_fault front block alone s e c q = record { stop = alone; stops = s; at = out_at ∙ e; path = q; cause = subst (λ (k : Cause). IsCause k alone) (sym out_cause) c }

      -- What came of it before the byte at fault.
      fault_behind : (front block : List ℕ) (last : Option (List ℕ)) (before : List Told) → AreTold profile limits front last before → Follows limits.max_record front last (block_with out.path block b) → IsLeftOut profile limits (length front) (block_with out.path block b) out →
          length p ≡ length front + length block → front ++ (block ++ b ∷ []) ≡ p ++ b ∷ [] → IsAtFault profile limits (p ++ b ∷ []) before out block b
      fault_behind front block last before blocks follows left size whole =
          record { front = front; path = last; blocks = blocks; follows = follows; left_out = left; at = out_at ∙ size; rest = []; split = sym whole }

      place : place_of stop ≡ length h.block
      place = stop_place (Snap profile) (IsRecordWhy profile) (IsManyRecords profile) (block_limits limits) h.block b stop unstopped stops

      size : length p ≡ length h.front + length h.block
      size = ap length h.split ∙ length-append h.front h.block

      -- It is of the present entry.
      abbrev Own : Type 0
      Own = HasTold t profile limits (p ++ b ∷ []) (told ++ inr out ∷ []) × IsAtFault profile limits (p ++ b ∷ []) told out h.block b

      own : (x : CurrentEntry) → s.block.present ≡ Some x → out.path ≡ Some x.path.items → IsOfPresent begun_of b (Some x) → Own
      own x e q i = by h.state
        where
          at_x : HasConsumed profile begun_of (Some x) h.block []
          at_x = subst (λ (o : Option CurrentEntry). HasConsumed profile begun_of o h.block []) e at

          starts : IsOf profile x h.block
          starts = present_of profile begun_of x h.block at_x

          line : OwnLine x.path.items (h.block ++ b ∷ []) flag
          line = own_line begun_of x h.block b flag yes no starts.good (own_room profile limits x.path.items starts.rest starts.good (subst (IsSnapUnstopped profile (block_limits limits)) starts.starts unstopped)) x.in_line refl at_x i

          by : IsFirst s profile limits p told h.path h.block ⊎ HasOther s profile limits p told h.path h.block → Own
          by (inl f) = absurd (some_none x (sym e ∙ (no_nul profile begun_of s.block.present h.block [] f.no_nul at).none))
          by (inr o) =
              let same : x.path.items ≡ o.own = same_own profile begun_of x h.block o.own o.rest at_x o.good o.split in
              let block : Block = block_with (Some x.path.items) h.block b in
              let follows : Follows limits.max_record h.front h.path block = record { ended = h.ended; is_block = line.is_block; other = λ r a c. o.other (a ∙ sym c ∙ ap Some same) } in (
                subst (λ (u : List ℕ). HasTold t profile limits u (told ++ inr out ∷ [])) text
                    (fault_left profile limits t h.front h.path told h.blocks block follows
                    out (at_fault h.front block stop stops (omega (arith, size, place)) is q) (kept ∙ q) along flag is_passing line.passing line.ended same_profile same_limits new_meter),
                fault_behind h.front h.block h.path told h.blocks (subst (λ (r : Option (List ℕ)). Follows limits.max_record h.front h.path (block_with r h.block b)) (sym q) follows)
                    (at_fault h.front (block_with out.path h.block b) stop stops (omega (arith, size, place)) is refl) size text,
              )

      -- It is of a line that begins a block of its own behind these.
      abbrev Alone : (before all : List Told) → Type 0
      Alone before all = HasTold t profile limits (p ++ b ∷ []) all × IsAtFault profile limits (p ++ b ∷ []) before out begun_of b × ArePathBytes begun_of

      line : (front : List ℕ) (last : Option (List ℕ)) (before : List Told) (blocks : AreTold profile limits front last before) (room : Bool) (alone : Stop) → IsRecordEnd front → (a : ArePathBytes begun_of) → p ≡ front ++ begun_of →
          MatchBool room (length begun_of < limits.max_record) (limits.max_record ≤ length begun_of) → IsPathBegun begun_of b room out.path → ((r : List ℕ) → last ≡ Some r → out.path ≡ Some r → ⊥) →
          IsSnapUnstopped profile (block_limits limits) begun_of → SnapStopOf profile (block_limits limits) (begun_of ++ b ∷ []) alone → place_of alone ≡ length begun_of → IsCause cause alone → Alone before (before ++ inr out ∷ [])
      line front last before blocks room alone ended a split m path other u s e c =
          let block : Block = block_with out.path begun_of b in
          let whole : front ++ (begun_of ++ b ∷ []) ≡ p ++ b ∷ [] = sym (ap (λ (w : List ℕ). w ++ b ∷ []) split ∙ append_assoc front begun_of (b ∷ [])) in
          let follows : Follows limits.max_record front last block = record { ended = ended; is_block = line_block begun_of a b small room m alone cause s c u out.path path; other = other } in
          let left : IsLeftOut profile limits (length front) block out = at_fault front block alone s (omega (arith, ap length split, length-append front begun_of, e)) c refl in (
            subst (λ (w : List ℕ). HasTold t profile limits w (before ++ inr out ∷ [])) whole
                (fault_left profile limits t front last before blocks block follows out left kept along flag is_passing
                (λ f. line_passing begun_of a b small room m alone cause s c u out.path path (yes f))
                (λ f. inr (begun_of, ap (λ (z : ℕ). begun_of ++ z ∷ []) (no f)))
                same_profile same_limits new_meter),
            fault_behind front begun_of last before blocks follows left (ap length split ∙ length-append front begun_of) whole,
            a,
          )

      -- No line came before it in its block.
      first : (room : Bool) → s.block.present ≡ None → MatchBool room (length begun_of < limits.max_record) (limits.max_record ≤ length begun_of) → IsPathBegun begun_of b room out.path → ((r : List ℕ) → s.left_out ≡ Some r → out.path ≡ Some r → ⊥) → Alone told (told ++ inr out ∷ [])
      first room e m path other = by h.state
        where
          at_none : HasConsumed profile begun_of None h.block []
          at_none = subst (λ (o : Option CurrentEntry). HasConsumed profile begun_of o h.block []) e at

          by : IsFirst s profile limits p told h.path h.block ⊎ HasOther s profile limits p told h.path h.block → Alone told (told ++ inr out ∷ [])
          by (inl f) =
              let same : h.block ≡ begun_of = at_none.bytes in
              line h.front h.path told h.blocks room stop h.ended at_none.begun_path (h.split ∙ ap (λ (u : List ℕ). h.front ++ u) same) m path (λ r a c. other r (f.kept ∙ a) c)
              (subst (IsSnapUnstopped profile (block_limits limits)) same unstopped) (subst (λ (u : List ℕ). SnapStopOf profile (block_limits limits) (u ++ b ∷ []) stop) same stops) (place ∙ ap length same) is
          by (inr o) = absurd (lacks_inside 0 o.own o.rest (subst (Lacks 0) (sym at_none.bytes ∙ o.split) (bytes_no_nul begun_of at_none.begun_path)))

      -- Lines of another path came before it.
      next : (x : CurrentEntry) (room : Bool) (e : EntryData) → s.block.present ≡ Some x → (IsOfPresent begun_of b (Some x) → ⊥) → MatchBool room (length begun_of < limits.max_record) (limits.max_record ≤ length begun_of) → IsPathBegun begun_of b room out.path →
          ((begun q : List ℕ) (es : List EntryData) (a : HasConsumedInPath profile begun x q es) → (e.path ≡ x.path.items) × AreEntryLines profile e a.lines) → Alone (told ++ inl e ∷ []) (told ++ (inl e ∷ inr out ∷ []))
      next x room e is_x not m path ends = by x.in_line refl
        where
          own_path : List ℕ
          own_path = x.path.items

          at_x : HasConsumed profile begun_of (Some x) h.block []
          at_x = subst (λ (o : Option CurrentEntry). HasConsumed profile begun_of o h.block []) is_x at

          starts : IsOf profile x h.block
          starts = present_of profile begun_of x h.block at_x

          other_nul : b ≡ 0 → own_path ≡ begun_of → ⊥
          other_nul z q = not (inr (z, q))

          result : Type 0
          result = Alone (told ++ inl e ∷ []) (told ++ (inl e ∷ inr out ∷ []))

          with_path : HasConsumedInPath profile begun_of x h.block [] → HasOther s profile limits p told h.path h.block → result
          with_path d o =
              let whole : List ℕ = records own_path d.lines in
              let split : h.block ≡ whole ++ begun_of = d.split ∙ ap (λ (u : List ℕ). u ++ (whole ++ begun_of)) d.entries in
              let ends_e = ends begun_of h.block [] d in
              let same : own_path ≡ o.own = same_own profile begun_of x h.block o.own o.rest at_x o.good o.split in
              let snap : SnapText profile (e ∷ []) whole = (d.lines, [], ends_e.1, tt, ap (λ (q : List ℕ). records q d.lines) (sym ends_e.0) ∙ sym (append-nil (records e.path d.lines)), refl) in
              let room_own = own_room profile limits own_path starts.rest starts.good (subst (IsSnapUnstopped profile (block_limits limits)) starts.starts unstopped) in
              let entry : Block = record { path = Some own_path; bytes = whole } in
              let follows : Follows limits.max_record h.front h.path entry = record {
                ended = h.ended;
                is_block = (starts.good, room_own, record { lines = d.lines; begun = []; split = sym (append-nil whole); plain = d.plain; last = inl (refl, d.some) });
                other = λ r a c. o.other (a ∙ sym c ∙ ap Some same);
              } in
              let blocks = more h.front h.path told entry (inl e) h.blocks follows (record { whole = snap; unstopped = front_unstopped profile limits whole begun_of (subst (IsSnapUnstopped profile (block_limits limits)) split unstopped) }) refl refl refl in
              let ended : IsRecordEnd (h.front ++ whole) = record_end_both h.front whole h.ended (records_end own_path [] d.lines (inl refl)) in
              let far : length h.block ≤ (block_limits limits).max_stream = omega (arith, h.along.counted.within, ap (λ (l : Limits). l.max_stream) meter_is) in
              let alone = stops_alone profile (block_limits limits) begun_of x h.block [] b d other_nul unstopped far stop cause stops is in
              let begins = paths_begun profile begun_of (Some x) h.block [] d in
              let short = begun_room profile (block_limits limits) h.block begun_of begins.0 unstopped in
              let size : length begun_of ≤ length h.block = omega (arith, ap length split, length-append whole begun_of) in
              let u = start_unstopped profile (block_limits limits) begun_of d.begun_path short (omega (arith, far, size)) in
              let l = line (h.front ++ whole) (Some own_path) (told ++ inl e ∷ []) blocks room alone.0 ended d.begun_path (h.split ∙ ap (λ (v : List ℕ). h.front ++ v) split ∙ sym (append_assoc h.front whole begun_of)) m path
              (λ r a c. same_line r a c out.path refl) u alone.1 alone.2 alone.3 in
              (subst (λ (xs : List Told). HasTold t profile limits (p ++ b ∷ []) xs) (append_assoc told (inl e ∷ []) (inr out ∷ [])) l.0, l.1, l.2)
            where
              same_line : (r : List ℕ) → Some own_path ≡ Some r → out.path ≡ Some r → (o : Option (List ℕ)) → out.path ≡ o → ⊥
              same_line r a c None z = none_some r (sym z ∙ c)
              same_line r a c (Some q) z =
                  let i : IsPathBegun begun_of b room (Some q) = subst (IsPathBegun begun_of b room) z path in
                  other_nul i.1 (some_inj own_path r a ∙ some_inj r q (sym c ∙ z) ∙ i.0)

          by_state : HasConsumedInPath profile begun_of x h.block [] → IsFirst s profile limits p told h.path h.block ⊎ HasOther s profile limits p told h.path h.block → result
          by_state d (inl f) = absurd (some_none x (sym is_x ∙ (no_nul profile begun_of s.block.present h.block [] f.no_nul at).none))
          by_state d (inr o) = with_path d o

          by : (f : Bool) → x.in_line ≡ f → result
          by true i = absurd (not (inl i))
          by false i = by_state (MatchBool-at_false _ _ i at_x) h.state

      begun_is : (o : Option CurrentEntry) → (IsOfPresent begun_of b o → ⊥) → HasConsumed profile begun_of o h.block [] → IsBegun h.block begun_of
      begun_is None n a = start_begun begun_of h.block [] a
      begun_is (Some x) n a = by x.in_line refl
        where
          by : (f : Bool) → x.in_line ≡ f → IsBegun h.block begun_of
          by true e = absurd (n (inl e))
          by false e = (paths_begun profile begun_of (Some x) h.block [] (MatchBool-at_false _ _ e a)).0

      -- How much room the record had, by what was counted.
      pub room_is : (o : Option CurrentEntry) (room : Bool) → s.block.present ≡ o → (IsOfPresent begun_of b o → ⊥) → MatchBool room (s.meter.record_len < s.meter.limits.max_record) (s.meter.limits.max_record ≤ s.meter.record_len) →
          MatchBool room (length begun_of < limits.max_record) (limits.max_record ≤ length begun_of)
      room_is o room e n m =
          let a = subst (λ (q : Option CurrentEntry). HasConsumed profile begun_of q h.block []) e at in
          let same : s.meter.record_len ≡ length begun_of = h.along.counted.length_is ∙ ap length (begun_once h.block h.along.counted.begun begun_of h.along.counted.begins (begun_is o n a)) in
          let max : s.meter.limits.max_record ≡ limits.max_record = ap (λ (l : Limits). l.max_record) meter_is in
          by room m same max
        where
          by : (r : Bool) → MatchBool r (s.meter.record_len < s.meter.limits.max_record) (s.meter.limits.max_record ≤ s.meter.record_len) → s.meter.record_len ≡ length begun_of → s.meter.limits.max_record ≡ limits.max_record →
              MatchBool r (length begun_of < limits.max_record) (limits.max_record ≤ length begun_of)
          by true m x y = omega (arith, m, x, y)
          by false m x y = omega (arith, m, x, y)

      pub left_own : (o : Option CurrentEntry) → s.block.present ≡ o → (room : Bool) → IsOfPresent begun_of b o → IsPathAt begun_of b room o true out.path → Own
      left_own None e room i path = absurd i
      left_own (Some x) e room i path = own x e path i

      pub left_other : (o : Option CurrentEntry) (entry : Option EntryData) → s.block.present ≡ o → (room : Bool) → (IsOfPresent begun_of b o → ⊥) → MatchBool room (length begun_of < limits.max_record) (limits.max_record ≤ length begun_of) →
          IsPathAt begun_of b room o false out.path → ((r : List ℕ) → s.left_out ≡ Some r → out.path ≡ Some r → ⊥) → IsEnded o entry → Alone (told ++ told_entry entry) (told ++ (told_entry entry ++ inr out ∷ []))
      left_other None entry e room n m path other i =
          let l = first room e m path other in
          subst (λ (d : Option EntryData). Alone (told ++ told_entry d) (told ++ (told_entry d ++ inr out ∷ []))) (sym i)
          (l.0, subst (λ (u : List Told). IsAtFault profile limits (p ++ b ∷ []) u out begun_of b) (sym (append-nil told)) l.1, l.2)
      left_other (Some x) None e room n m path other i = absurd (no_entry x.in_line refl)
        where
          at_x : HasConsumed profile begun_of (Some x) h.block []
          at_x = subst (λ (o : Option CurrentEntry). HasConsumed profile begun_of o h.block []) e at

          no_entry : (f : Bool) → x.in_line ≡ f → ⊥
          no_entry true z = n (inl z)
          no_entry false z = i profile begun_of h.block [] (MatchBool-at_false _ _ z at_x)
      left_other (Some x) (Some d) e room n m path other i = next x room d e n m path (λ begun q es a. i profile begun q es a)
