-- What a decoder holds.
use Rattle.std.proofs.Common.{◌≡◌, ◌≢◌, ℕ, ◌+◌, ◌≤◌, Bool, true, false, List, [], ◌∷◌, ◌++◌, length, Option, Some, None, refl, ap, subst, arith}
use Rattle.std.specs.Bool.{MatchBool}
use Rattle.std.proofs.lemmas.List.{append-nil, length-append}
use Rattle.cg_text.specs.Texts.{Lacks}
use Rattle.cg_value.specs.Entry.{EntryData, ReadsAt}
use Rattle.cg_value.specs.Files.{ReadLines}
use Rattle.cg_value.specs.Held.{held_of_lines}
use Rattle.cg_value.specs.Lines.{unlines}
use Rattle.cg_value.specs.declared.kind.ReadForm.{ReadForm}
use Rattle.cg_value.specs.declared.profile.Profile.{Profile}
use Rattle.cg_value.specs.declared.value.Value.{Value}
use Rattle.cg_line.specs.Reads.{Reads}
use Rattle.cg_snap.specs.Closed.{IsHeldFor, MayHold}
use Rattle.cg_snap.specs.DecoderState.{HasConsumed, HasConsumedInLine, HasConsumedInPath, HasConsumedAPath}
use Rattle.cg_snap.specs.declared.present.CurrentEntry.{CurrentEntry}
use Rattle.cg_snap.proofs.Closes.{line_begun, line_closed, path_begun, path_closed, start_begun, start_closed}
use Rattle.cg_snap.proofs.Steps.{line_can_end, path_ends}

-- A reader holds no more than its bytes, and no more than its lines may.
pub record HoldsFew (x : CurrentEntry) (m : ℕ) : Type 0 where
  pub few : (k : ReadForm) (t : List ℕ) → Reads x.reader k t → m ≤ length t
  pub most : (k : ReadForm) (lines : List (List ℕ)) (line : List ℕ) (v : Value) → Reads x.reader k (unlines lines ++ line) → Lacks 10 line → ReadLines k v lines → m ≤ held_of_lines v lines + length line

module _ (profile : Profile) where
  pub start_held : (begun p : List ℕ) (es : List EntryData) (n : ℕ) → HasConsumedAPath begun p es → n ≤ length begun → IsHeldFor profile p es n
  start_held begun p es n h le = (start_closed profile begun p es h, begun, 0, start_begun begun p es h, refl, omega (arith, le))

  some_may : (path : List ℕ) (lines : List (List ℕ)) (kind : ReadForm) (v : Value) → lines ≢ [] → ReadsAt profile path (Some kind) → ReadLines kind v lines → MayHold profile path lines (length path + held_of_lines v lines)
  some_may path [] kind v some r s = absurd (some refl)
  some_may path (l ∷ lines) kind v some r s = (kind, v, r, s, refl)

  path_held : (begun : List ℕ) (x : CurrentEntry) (p : List ℕ) (es : List EntryData) (n m : ℕ) → HasConsumedInPath profile begun x p es → HoldsFew x m → n ≤ length begun + (length x.path.items + m) → IsHeldFor profile p es n
  path_held begun x p es n m h b le =
      let v = path_ends profile begun x p es h in
      let c = b.most h.kind h.lines [] v.0 (rw append-nil h.reads) tt v.1 in (
        path_closed profile begun x p es h,
        begun,
        length x.path.items + held_of_lines v.0 h.lines,
        path_begun profile begun x p es h,
        some_may x.path.items h.lines h.kind v.0 h.some h.reads_at v.1,
        omega (arith, c, le),
      )

  line_may : (x : CurrentEntry) (k : ReadForm) (path : List ℕ) (lines : List (List ℕ)) (line : List ℕ) (m : ℕ) →
      ReadsAt profile path (Some k) → Reads x.reader k (unlines lines ++ line) → Lacks 10 line →
      (lines ≢ [] → (v : Value) × ReadLines k v lines) → HoldsFew x m →
      (whole : ℕ) × MayHold profile path lines whole × (length path + m ≤ length (path ++ 0 ∷ line) + whole)
  line_may x k path [] line m r t n e b = (0, refl, let c = b.few k line t in omega (arith, c, length-append path (0 ∷ line)))
  line_may x k path (l ∷ lines) line m r t n e b =
      let v = e (λ z. absurd (cc)) in
      let c = b.most k (l ∷ lines) line v.0 t n v.1 in
      (length path + held_of_lines v.0 (l ∷ lines), (k, v.0, r, v.1, refl), omega (arith, c, length-append path (0 ∷ line)))

  line_held : (begun : List ℕ) (x : CurrentEntry) (p : List ℕ) (es : List EntryData) (n m : ℕ) → HasConsumedInLine profile begun x p es → HoldsFew x m → n ≤ length begun + (length x.path.items + m) → IsHeldFor profile p es n
  line_held begun x p es n m h b le =
      let w = line_may x h.kind x.path.items h.lines h.line m h.reads_at h.reads h.plain_line (λ some. line_can_end profile begun x p es h some) b in
      (line_closed profile begun x p es h, x.path.items ++ 0 ∷ h.line, w.0, line_begun profile begun x p es h, w.1, omega (arith, w.2, le, ap length h.nothing_begun))

  by_flag : (begun : List ℕ) (x : CurrentEntry) (p : List ℕ) (es : List EntryData) (n m : ℕ) (b : Bool) →
      MatchBool b (HasConsumedInLine profile begun x p es) (HasConsumedInPath profile begun x p es) → HoldsFew x m →
      n ≤ length begun + (length x.path.items + m) → IsHeldFor profile p es n
  by_flag begun x p es n m true h b le = line_held begun x p es n m h b le
  by_flag begun x p es n m false h b le = path_held begun x p es n m h b le

  pub some_held : (begun : List ℕ) (o : Option CurrentEntry) (x : CurrentEntry) (p : List ℕ) (es : List EntryData) (n m : ℕ) →
      o ≡ Some x → HasConsumed profile begun o p es → HoldsFew x m → n ≤ length begun + (length x.path.items + m) →
      IsHeldFor profile p es n
  some_held begun o x p es n m e h b le = by_flag begun x p es n m x.in_line (subst (λ (q : Option CurrentEntry). HasConsumed profile begun q p es) e h) b le

  pub none_held : (begun : List ℕ) (o : Option CurrentEntry) (p : List ℕ) (es : List EntryData) (n : ℕ) → o ≡ None → HasConsumed profile begun o p es → n ≤ length begun → IsHeldFor profile p es n
  none_held begun o p es n e h le = start_held begun p es n (subst (λ (q : Option CurrentEntry). HasConsumed profile begun q p es) e h) le
