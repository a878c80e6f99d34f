-- What more bytes leave of records that go on.
use Rattle.std.proofs.Common.{◌≡◌, ◌≢◌, ℕ, List, [], ◌∷◌, ◌++◌, length, refl, sym, ap, subst, ◌∙◌, append_assoc, Bool, true, false, Option, Some, None, inl, inr, ◌⊎◌}
use Rattle.std.proofs.lemmas.List.{append-nil}
use Rattle.cg_text.specs.ListFacts.{not_nil, push_one}
use Rattle.cg_text.specs.Texts.{Lacks}
use Rattle.cg_text.specs.TextsLaws.{lacks_inside}
use Rattle.cg_value.specs.Entry.{EntryData}
use Rattle.cg_value.specs.Records.{records}
use Rattle.cg_value.specs.declared.profile.Profile.{Profile}
use Rattle.cg_snap.specs.Begun.{IsRecordEnd}
use Rattle.cg_snap.specs.Course.{HasProgressed}
use Rattle.cg_snap.specs.DecoderState.{HasConsumed}
use Rattle.cg_snap.specs.GoingOn.{AreTold, Block, EndsLeftOut, Follows, IsBlockOf, IsLeftOut, Told, block_limits}
use Rattle.cg_snap.specs.GoingOn.AreTold.{more, none}
use Rattle.cg_snap.specs.GoingOnState.{EndsInLine, HasTold, IsPassingOver, IsReading, IsUnsettled}
use Rattle.cg_snap.specs.Snap.{Snap}
use Rattle.cg_snap.specs.SnapStop.{IsManyRecords, IsRecordWhy}
use Rattle.cg_snap.specs.Streams.{snap_stream}
use Rattle.cg_snap.specs.declared.going_on.LeftOut.{LeftOut}
use Rattle.cg_snap.specs.declared.going_on_records.GoingOnRecords.{GoingOnRecords}
use Rattle.cg_snap.specs.declared.limits.Limits.{Limits}
use Rattle.cg_snap.specs.declared.meter.Meter.{Meter}
use Rattle.cg_snap.specs.declared.present.CurrentEntry.{CurrentEntry}
use Rattle.cg_snap.specs.declared.snapshot_records.SnapshotRecords.{SnapshotRecords}
use Rattle.cg_snap.proofs.GoingOnFaults.{snoc}
use Rattle.cg_snap.proofs.GoingOnLines.{block_again, block_more, block_newline}
use Rattle.cg_snap.proofs.GoingOnStates.{passing_left, present_of}
use Rattle.cg_snap.proofs.States.{at_false, at_true}
use Rattle.cg_snap.proofs.Steps.{bytes_no_nul}
use Rattle.cg_snap.proofs.Stops.{stop_longer}

told_push : (xs ys : List Told) (a b : Told) → xs ++ a ∷ [] ≡ ys ++ b ∷ [] → a ≡ b
told_push [] [] a b e = absurd_or e
  where
    head : Told → List Told → Told
    head d [] = d
    head d (x ∷ xs) = x

    absurd_or : a ∷ [] ≡ b ∷ [] → a ≡ b
    absurd_or e = ap (head a) e
told_push [] (y ∷ []) a b e = absurd (cc)
told_push [] (y ∷ z ∷ ys) a b e = absurd (cc)
told_push (x ∷ []) [] a b e = absurd (cc)
told_push (x ∷ z ∷ xs) [] a b e = absurd (cc)
told_push (x ∷ xs) (y ∷ ys) a b e = told_push xs ys a b (ap (tail_of xs) e)
  where
    tail_of : List Told → List Told → List Told
    tail_of d [] = d
    tail_of d (x ∷ xs) = xs

-- The end of a text that ends with a newline.
pub record_end_right : (a b : List ℕ) → b ≢ [] → IsRecordEnd (a ++ b) → IsRecordEnd b
record_end_right a b n (inl e) = inl (last_nil a b e)
  where
    last_nil : (a b : List ℕ) → a ++ b ≡ [] → b ≡ []
    last_nil [] b e = e
    last_nil (x ∷ a) b e = absurd (cc)
record_end_right a b n (inr s) =
    elim (snoc b) [
      | inl e ↦ inl e
      | inr t ↦
          let same = push_one (a ++ t.0) s.0 t.1 10 (append_assoc a t.0 (t.1 ∷ []) ∙ ap (λ (u : List ℕ). a ++ u) (sym t.2) ∙ s.1) in
          inr (t.0, t.2 ∙ ap (λ (z : ℕ). t.0 ++ z ∷ []) same.1)
    ]

pub record_end_both : (a b : List ℕ) → IsRecordEnd a → IsRecordEnd b → IsRecordEnd (a ++ b)
record_end_both a b x (inl e) = subst IsRecordEnd (sym (append-nil a) ∙ ap (λ (t : List ℕ). a ++ t) (sym e)) x
record_end_both a b x (inr s) = inr (a ++ s.0, ap (λ (t : List ℕ). a ++ t) s.1 ∙ sym (append_assoc a s.0 (10 ∷ [])))

pub none_some : (q : List ℕ) → None ≡ Some q → ⊥
none_some q e = absurd (cc)

pub some_inj : (p q : List ℕ) → Some p ≡ Some q → p ≡ q
some_inj p q e = ap (or_nil p) e
  where
    or_nil : List ℕ → Option (List ℕ) → List ℕ
    or_nil d None = d
    or_nil d (Some x) = x

module _ (profile : Profile) (limits : Limits) where
  -- ---- The last block, where it is left out

  pub record LastOut (bytes : List ℕ) (path : Option (List ℕ)) (told : List Told) : Type 0 where
    pub front : List ℕ
    pub last : Option (List ℕ)
    pub before : List Told
    pub blocks : AreTold profile limits front last before
    pub block : Block
    pub follows : Follows limits.max_record front last block
    pub out : LeftOut
    pub at_fault : IsLeftOut profile limits (length front) block out
    pub split : bytes ≡ front ++ block.bytes
    pub path_is : path ≡ block.path
    pub told_is : told ≡ before ++ inr out ∷ []

  last_out : (bytes : List ℕ) (path : Option (List ℕ)) (told : List Told) (q : List ℕ) → path ≡ Some q → EndsLeftOut profile limits told → AreTold profile limits bytes path told → LastOut bytes path told
  last_out bytes path told q s e (none b p t) = absurd (none_some q (sym p ∙ s))
  last_out bytes path told q s (inl z) (more front last before block one a f t b p m) = absurd (absurd_push before one (sym m ∙ z))
    where
      absurd_push : (xs : List Told) (x : Told) → xs ++ x ∷ [] ≡ [] → ⊥
      absurd_push [] x e = absurd (cc)
      absurd_push (y ∷ xs) x e = absurd (cc)
  last_out bytes path told q s (inr z) (more front last before block (inl e) a f t b p m) = absurd (entry_out (told_push before z.0 (inl e) (inr z.1) (sym m ∙ z.2)))
    where
      entry_out : {x : EntryData} {y : LeftOut} → inl x ≡ inr y → ⊥
      entry_out e = absurd (cc)
  last_out bytes path told q s (inr z) (more front last before block (inr out) a f t b p m) =
      record { front = front; last = last; before = before; blocks = a; block = block; follows = f; out = out; at_fault = t; split = b; path_is = p; told_is = m }

  -- ---- A block at fault, with more bytes

  fault_more : (start : ℕ) (block : Block) (bytes : List ℕ) (out : LeftOut) → IsLeftOut profile limits start block out → IsLeftOut profile limits start (record { path = block.path; bytes = block.bytes ++ bytes }) out
  fault_more start block bytes out h = record {
    stop = h.stop;
    stops = stop_longer (Snap profile) (IsRecordWhy profile) (IsManyRecords profile) (block_limits limits) block.bytes bytes h.stop h.stops;
    at = h.at;
    path = h.path;
    cause = h.cause;
  }

  -- ---- The rest of a line is passed over

  module _ (s t : GoingOnRecords) (p : List ℕ) (told : List Told) (kept : t.left_out ≡ s.left_out) (along : HasProgressed (snap_stream profile) t.block t.meter [] []) where
    pub pass_on : (bytes : List ℕ) → Lacks 10 bytes → IsPassingOver s profile limits p told → IsPassingOver t profile limits (p ++ bytes) told
    pass_on bytes n h =
        let m = block_more limits.max_record h.block.path h.block.bytes bytes n h.in_line h.follows.is_block in
        record {
          front = h.front;
          last = h.last;
          before = h.before;
          blocks = h.blocks;
          block = record { path = h.block.path; bytes = h.block.bytes ++ bytes };
          follows = record { ended = h.follows.ended; is_block = m.0; other = h.follows.other };
          out = h.out;
          at_fault = fault_more (length h.front) h.block bytes h.out h.at_fault;
          split = ap (λ (u : List ℕ). u ++ bytes) h.split ∙ append_assoc h.front h.block.bytes bytes;
          told_is = h.told_is;
          in_line = m.1;
          kept = kept ∙ h.kept;
          along = along;
        }

    pub pass_newline : IsPassingOver s profile limits p told → IsReading t profile limits (p ++ 10 ∷ []) told
    pass_newline h =
        let m = block_newline limits.max_record h.block.path h.block.bytes h.in_line h.follows.is_block in
        let whole : p ++ 10 ∷ [] ≡ h.front ++ (h.block.bytes ++ 10 ∷ []) = ap (λ (u : List ℕ). u ++ 10 ∷ []) h.split ∙ append_assoc h.front h.block.bytes (10 ∷ []) in
        record {
          front = p ++ 10 ∷ [];
          path = h.block.path;
          blocks = more h.front h.last h.before (record { path = h.block.path; bytes = h.block.bytes ++ 10 ∷ [] }) (inr h.out) h.blocks (record { ended = h.follows.ended; is_block = m; other = h.follows.other })
              (fault_more (length h.front) h.block (10 ∷ []) h.out h.at_fault) whole refl h.told_is;
          ended = inr (p, refl);
          block = [];
          split = sym (append-nil (p ++ 10 ∷ []));
          along = along;
          state = inl (record { no_nul = tt; left_out = passing_left profile limits s p told h; kept = kept ∙ h.kept });
        }

  -- ---- Behind a byte at fault

  -- A block at fault has come so far: what is left of its line is passed over, or a line begins.
  module _ (t : GoingOnRecords) (front : List ℕ) (last : Option (List ℕ)) (before : List Told) (blocks : AreTold profile limits front last before) (block : Block) (follows : Follows limits.max_record front last block) (out : LeftOut)
      (at_fault : IsLeftOut profile limits (length front) block out) (kept : t.left_out ≡ block.path) (along : HasProgressed (snap_stream profile) t.block t.meter [] []) where
    fault_passing : EndsInLine block.path block.bytes → IsPassingOver t profile limits (front ++ block.bytes) (before ++ inr out ∷ [])
    fault_passing e = record {
      front = front;
      last = last;
      before = before;
      blocks = blocks;
      block = block;
      follows = follows;
      out = out;
      at_fault = at_fault;
      split = refl;
      told_is = refl;
      in_line = e;
      kept = kept;
      along = along;
    }

    fault_ended : IsRecordEnd block.bytes → IsReading t profile limits (front ++ block.bytes) (before ++ inr out ∷ [])
    fault_ended e = record {
      front = front ++ block.bytes;
      path = block.path;
      blocks = more front last before block (inr out) blocks follows at_fault refl refl refl;
      ended = record_end_both front block.bytes follows.ended e;
      block = [];
      split = sym (append-nil (front ++ block.bytes));
      along = along;
      state = inl (record { no_nul = tt; left_out = inr (before, out, refl); kept = kept });
    }

    pub fault_left : (flag : Bool) → t.is_passing ≡ flag → (flag ≡ true → EndsInLine block.path block.bytes) → (flag ≡ false → IsRecordEnd block.bytes) → t.block.profile ≡ profile → t.limits ≡ limits → t.meter.limits ≡ block_limits limits →
        HasTold t profile limits (front ++ block.bytes) (before ++ inr out ∷ [])
    fault_left true e a b x y z = record { profile_is = x; limits_is = y; meter_is = z; state = at_true (IsPassingOver t profile limits (front ++ block.bytes) (before ++ inr out ∷ [])) (IsReading t profile limits (front ++ block.bytes) (before ++ inr out ∷ [])) t.is_passing e (fault_passing (a refl)) }
    fault_left false e a b x y z = record { profile_is = x; limits_is = y; meter_is = z; state = at_false (IsPassingOver t profile limits (front ++ block.bytes) (before ++ inr out ∷ [])) (IsReading t profile limits (front ++ block.bytes) (before ++ inr out ∷ [])) t.is_passing e (fault_ended (b refl)) }

  -- ---- One more line of the block that was left out

  again_block : (path bytes : List ℕ) → IsBlockOf limits.max_record (Some path) bytes → bytes ≢ []
  again_block path bytes h e = by h.2.last
    where
      empty : records path h.2.lines ++ h.2.begun ≡ []
      empty = sym h.2.split ∙ e

      nil_left : (a b : List ℕ) → a ++ b ≡ [] → a ≡ []
      nil_left [] b e = refl
      nil_left (x ∷ a) b e = absurd (cc)

      no_lines : (lines : List (List ℕ)) → records path lines ≡ [] → lines ≡ []
      no_lines [] e = refl
      no_lines (l ∷ ls) e = absurd (not_nil path 0 (l ++ 10 ∷ records path ls) (sym e))

      by : ((h.2.begun ≡ []) × (h.2.lines ≢ [])) ⊎ ((line : List ℕ) × Lacks 10 line × (h.2.begun ≡ path ++ 0 ∷ line)) → ⊥
      by (inl x) = x.1 (no_lines h.2.lines (nil_left (records path h.2.lines) h.2.begun empty))
      by (inr l) = not_nil (records path h.2.lines ++ path) 0 l.0 (sym (append_assoc (records path h.2.lines) path (0 ∷ l.0) ∙ ap (λ (u : List ℕ). records path h.2.lines ++ u) (sym l.2) ∙ empty))

  -- The path and the NUL of such a line.
  module _ (t : GoingOnRecords) (front : List ℕ) (path : Option (List ℕ)) (told : List Told) (q : List ℕ) (blocks : AreTold profile limits front path told) (ended : IsRecordEnd front) (left : EndsLeftOut profile limits told)
      (is : path ≡ Some q) (kept : t.left_out ≡ path) (along : HasProgressed (snap_stream profile) t.block t.meter [] []) where
    pub again_passing : IsPassingOver t profile limits (front ++ (q ++ 0 ∷ [])) told
    again_passing =
        let o = last_out front path told q is left blocks in
        let same : o.block.path ≡ Some q = sym o.path_is ∙ is in
        let is_block : IsBlockOf limits.max_record (Some q) o.block.bytes = subst (λ (x : Option (List ℕ)). IsBlockOf limits.max_record x o.block.bytes) same o.follows.is_block in
        let some = again_block q o.block.bytes is_block in
        let m = block_again limits.max_record q o.block.bytes some (record_end_right o.front o.block.bytes some (subst IsRecordEnd o.split ended)) is_block in
        let fault = fault_more (length o.front) o.block (q ++ 0 ∷ []) o.out o.at_fault in
        record {
          front = o.front;
          last = o.last;
          before = o.before;
          blocks = o.blocks;
          block = record { path = Some q; bytes = o.block.bytes ++ (q ++ 0 ∷ []) };
          follows = record { ended = o.follows.ended; is_block = m.0; other = λ r a b. o.follows.other r a (same ∙ b) };
          out = o.out;
          at_fault = record { stop = fault.stop; stops = fault.stops; at = fault.at; path = fault.path ∙ same; cause = fault.cause };
          split = ap (λ (u : List ℕ). u ++ (q ++ 0 ∷ [])) o.split ∙ append_assoc o.front o.block.bytes (q ++ 0 ∷ []);
          told_is = o.told_is;
          in_line = m.1;
          kept = kept ∙ is;
          along = along;
        }

  -- ---- Whose line it is that a NUL begins

  -- A NUL came as the last of these bytes, and no other.
  nul_last : (own rest begun : List ℕ) (last : ℕ) → Lacks 0 begun → begun ++ last ∷ [] ≡ own ++ 0 ∷ rest → begun ++ last ∷ [] ≡ own ++ 0 ∷ []
  nul_last own rest begun last n e =
      elim (snoc rest) [
        | inl z ↦ e ∙ ap (λ (u : List ℕ). own ++ 0 ∷ u) z
        | inr t ↦
            let text : begun ++ last ∷ [] ≡ (own ++ 0 ∷ t.0) ++ t.1 ∷ [] = e ∙ ap (λ (u : List ℕ). own ++ 0 ∷ u) t.2 ∙ sym (append_assoc own (0 ∷ t.0) (t.1 ∷ [])) in
            let same = push_one begun (own ++ 0 ∷ t.0) last t.1 text in
            absurd (lacks_inside 0 own t.0 (subst (Lacks 0) same.0 n))
      ]

  module _ (s : GoingOnRecords) (p : List ℕ) (told : List Told) (h : IsUnsettled s profile limits p told) where
    -- No NUL came.
    settle_first : s.block.present ≡ None → IsReading s profile limits p told
    settle_first e =
        let at = subst (λ (o : Option CurrentEntry). HasConsumed profile s.block.begun.items o h.block []) e h.along.state.at in
        record {
          front = h.front;
          path = h.path;
          blocks = h.blocks;
          ended = h.ended;
          block = h.block;
          split = h.split;
          along = h.along;
          state = inl (record { no_nul = subst (Lacks 0) (sym at.bytes) (bytes_no_nul s.block.begun.items at.begun_path); left_out = h.left_out; kept = h.kept });
        }

    -- The line has another path.
    pub settle_other : (t : GoingOnRecords) (x : CurrentEntry) → s.block.present ≡ Some x → (h.path ≡ Some x.path.items → ⊥) → t.block ≡ s.block → t.meter ≡ s.meter → t.left_out ≡ None → IsReading t profile limits p told
    settle_other t x e n b m l =
        let at = subst (λ (o : Option CurrentEntry). HasConsumed profile s.block.begun.items o h.block []) e h.along.state.at in
        let o = present_of profile s.block.begun.items x h.block at in
        record {
          front = h.front;
          path = h.path;
          blocks = h.blocks;
          ended = h.ended;
          block = h.block;
          split = h.split;
          along = subst (λ (r : SnapshotRecords). HasProgressed (snap_stream profile) r t.meter h.block []) (sym b) (subst (λ (k : Meter). HasProgressed (snap_stream profile) s.block k h.block []) (sym m) h.along);
          state = inr (record { own = x.path.items; good = o.good; rest = o.rest; split = o.starts; other = n; none = l });
        }

    -- Nothing is left out that may go on.
    pub settle_none : s.left_out ≡ None → (o : Option CurrentEntry) → s.block.present ≡ o → IsReading s profile limits p told
    settle_none l None e = settle_first e
    settle_none l (Some x) e = settle_other s x e (λ z. none_some x.path.items (sym l ∙ (h.kept ∙ z))) refl refl l

    pub settle_same : (s.left_out ≡ None) ⊎ (s.block.present ≡ None) → IsReading s profile limits p told
    settle_same (inl l) = settle_none l s.block.present refl
    settle_same (inr e) = settle_first e

    -- The line is one more of the block that was left out.
    pub settle_again : (t : GoingOnRecords) (q : List ℕ) (x : CurrentEntry) → s.left_out ≡ Some q → s.block.present ≡ Some x → q ≡ x.path.items → t.left_out ≡ s.left_out → HasProgressed (snap_stream profile) t.block t.meter [] [] → IsPassingOver t profile limits p told
    settle_again t q x l e same kept along = by h.byte
      where
        at : HasConsumed profile s.block.begun.items (Some x) h.block []
        at = subst (λ (o : Option CurrentEntry). HasConsumed profile s.block.begun.items o h.block []) e h.along.state.at

        path_is : h.path ≡ Some q
        path_is = sym h.kept ∙ l

        passing : h.block ≡ q ++ 0 ∷ [] → IsPassingOver t profile limits p told
        passing b = subst (λ (r : List ℕ). IsPassingOver t profile limits r told) (sym (h.split ∙ ap (λ (u : List ℕ). h.front ++ u) b))
            (again_passing t h.front h.path told q h.blocks h.ended h.left_out path_is (kept ∙ h.kept) along)

        by : (h.path ≡ None) ⊎ ((begun : List ℕ) × (last : ℕ) × Lacks 0 begun × (h.block ≡ begun ++ last ∷ [])) → IsPassingOver t profile limits p told
        by (inl z) = absurd (none_some q (sym z ∙ path_is))
        by (inr b) =
            let o = present_of profile s.block.begun.items x h.block at in
            passing (b.3 ∙ nul_last x.path.items o.rest b.0 b.1 b.2 (sym b.3 ∙ o.starts) ∙ ap (λ (u : List ℕ). u ++ 0 ∷ []) (sym same))
