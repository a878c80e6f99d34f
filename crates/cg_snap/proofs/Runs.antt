-- Runs of bytes.
use Rattle.std.proofs.Common.{◌≡◌, ℕ, suc, zero, ◌+◌, ◌-◌, ◌<◌, ◌≤◌, List, [], ◌∷◌, ◌++◌, take, length, get_or, refl, sym, ap, subst, ◌∙◌, append_assoc, arith, inl, inr, ◌⊎◌, Option, Some, None, true}
use Rattle.std.proofs.lemmas.List.{append-nil, get_or-take, length-append, length-take, length-take-le, take-take}
use Rattle.cg_text.specs.Texts.{Lacks}
use Rattle.cg_file.specs.Front.{IsLineFront}
use Rattle.cg_line.specs.Reads.{Reads}
use Rattle.cg_line.specs.Runs.{IsPushedRun, StopsAt}
use Rattle.cg_line.specs.declared.push.PushFault.{PushFault}
use Rattle.cg_line.specs.declared.push.PushFault.TheVariants.{Refused, OutOfMemory}
use Rattle.cg_line.specs.declared.reader.PushedRun.{PushedRun}
use Rattle.cg_line.specs.declared.reader.ValueReader.{ValueReader}
use Rattle.cg_value.specs.Files.{KindFile}
use Rattle.cg_value.specs.Lines.{unlines}
use Rattle.cg_value.specs.declared.kind.ReadForm.{ReadForm}
use Rattle.cg_value.specs.Entry.{EntryData}
use Rattle.cg_value.specs.declared.profile.Profile.{Profile}
use Rattle.cg_snap.specs.Begun.{IsBegun}
use Rattle.cg_snap.specs.DecoderState.{HasConsumed, IsBetween}
use Rattle.cg_snap.specs.PathBytes.{ArePathBytes}
use Rattle.cg_snap.specs.declared.present.CurrentEntry.{CurrentEntry}
use Rattle.cg_snap.specs.Course.{AreFew, AreOfRecord}
use Rattle.cg_snap.specs.Meter.{IsCounted}
use Rattle.cg_snap.specs.SnapStop.{IsManyRecords}
use Rattle.cg_snap.specs.declared.meter.Meter.{Meter}
use Rattle.cg_snap.proofs.Begins.{begun_push, begun_run, counted_line, counted_run}
use Rattle.cg_snap.proofs.Closes.{line_begun}
use Rattle.cg_snap.proofs.Places.{not_many, not_many_line}
use Rattle.cg_snap.proofs.States.{between, line_state, paths_begun}
use Rattle.cg_snap.proofs.Steps.{bytes_no_newline, bytes_no_nul}

pub lacks_take : (n : ℕ) (bytes : List ℕ) → Lacks 10 bytes → Lacks 10 (take n bytes)
lacks_take zero bytes h = tt
lacks_take (suc n) [] h = tt
lacks_take (suc n) (b ∷ bytes) h = (h.0, lacks_take n bytes h.1)

pub take_front : (used n : ℕ) (piece front : List ℕ) → front ≡ take n piece → used ≤ length front → (take used front ≡ take used piece) × (take used (take n piece) ≡ take used piece)
take_front used n piece front e le =
    let short : used ≤ n = omega (arith, le, ap length e, length-take n piece) in
    let same : take used (take n piece) ≡ take used piece = take-take used n piece short in
    (ap (λ (t : List ℕ). take used t) e ∙ same, same)

-- ---- What comes of a line, with its newline or without

lacks_at : (bytes : List ℕ) (i : ℕ) → i < length bytes → Lacks 10 bytes → get_or bytes i 0 ≡ 10 → ⊥
lacks_at [] i low h e = absurd (omega (arith, low))
lacks_at (b ∷ bytes) zero low h e = h.0 e
lacks_at (b ∷ bytes) (suc i) low h e = lacks_at bytes i (omega (arith, low)) h.1 e

at_end : (line : List ℕ) (b : ℕ) → get_or (line ++ b ∷ []) (length line) 0 ≡ b
at_end [] b = refl
at_end (c ∷ line) b = at_end line b

-- Why bytes end where a reader took no more of them.
pub run_cut : (L : List ℕ → Type 0) (taken bytes : List ℕ) (used : ℕ) (fault : Option PushFault) → StopsAt L taken bytes used fault → AreOfRecord (take used bytes)
run_cut L taken bytes used None h = elim h [ inl w ↦ inl (lacks_take used bytes w.1) | inr w ↦ inr w ]
run_cut L taken bytes used (Some Refused) h = inl h.1
run_cut L taken bytes used (Some OutOfMemory) h = inl h.1

-- Whether their last byte is a newline.
pub cut_ended : (bytes : List ℕ) (used : ℕ) → used ≤ length bytes → AreOfRecord (take used bytes) → (0 < used) × (get_or bytes (used - 1) 0 ≡ 10) → IsLineFront bytes used
cut_ended bytes used fits cut last = elim cut [
  | inl w ↦ (let inside : used - 1 < length (take used bytes) = omega (arith, last.0, length-take-le used bytes fits) in
      absurd (lacks_at (take used bytes) (used - 1) inside w (get_or-take used bytes (used - 1) 0 (omega (arith, last.0)) ∙ last.1)))
  | inr f ↦ f
]

pub cut_plain : (bytes : List ℕ) (used : ℕ) → used ≤ length bytes → AreOfRecord (take used bytes) → ((0 < used) × (get_or bytes (used - 1) 0 ≡ 10) → ⊥) → Lacks 10 (take used bytes)
cut_plain bytes used fits cut other = elim cut [
  | inl w ↦ w
  | inr f ↦ (let size : used ≡ length f.0 + 1 = omega (arith, length-take-le used bytes fits, ap length f.1, length-append f.0 (10 ∷ [])) in
      let last : used - 1 ≡ length f.0 = omega (arith, size) in
      let here : get_or bytes (length f.0) 0 ≡ 10 = sym (get_or-take used bytes (length f.0) 0 (omega (arith, size))) ∙ (ap (λ (t : List ℕ). get_or t (length f.0) 0) f.1 ∙ at_end f.0 10) in
      absurd (other (omega (arith, size), ap (λ (i : ℕ). get_or bytes i 0) last ∙ here)))
]

-- ---- Records too many

-- With one byte more.
pub few_push : (Many : List ℕ → ℕ → Type 0) (p q : List ℕ) (b : ℕ) → AreFew Many p q → (Many ((p ++ q) ++ b ∷ []) (length (p ++ q)) → ⊥) → AreFew Many p (q ++ b ∷ [])
few_push Many p [] b few last = (subst (λ (t : List ℕ). Many (t ++ b ∷ []) (length t) → ⊥) (append-nil p) last, tt)
few_push Many p (c ∷ q) b few last = (
  few.0,
  few_push Many (p ++ c ∷ []) q b few.1 (subst (λ (t : List ℕ). Many (t ++ b ∷ []) (length t) → ⊥) (sym (append_assoc p (c ∷ []) q)) last),
)

-- Why a run has no NUL that ends a path.
abbrev RunWhy : List ℕ → List ℕ → Type 0
RunWhy r q = Lacks 10 q × (Lacks 0 q ⊎ ((path : List ℕ) × (line : List ℕ) × (r ≡ path ++ 0 ∷ line)))

longer_line : (r path line : List ℕ) (b : ℕ) → r ≡ path ++ 0 ∷ line → r ++ b ∷ [] ≡ path ++ 0 ∷ (line ++ b ∷ [])
longer_line r path line b e = ap (λ (t : List ℕ). t ++ b ∷ []) e ∙ append_assoc path (0 ∷ line) (b ∷ [])

module _ (profile : Profile) where
  few_run : (max : ℕ) (p r q : List ℕ) → IsBegun p r → RunWhy r q → AreFew (IsManyRecords profile max) p q
  few_run max p r [] h why = tt
  few_run max p r (b ∷ q) h why = (
    elim why.1 [ inl w ↦ not_many profile p r b max (length p) h w.0 | inr w ↦ not_many_line profile p r w.0 w.1 b max (length p) h w.2 ],
    few_run max (p ++ b ∷ []) (r ++ b ∷ []) q (begun_push p r b why.0.0 h) (why.0.1, elim why.1 [ inl w ↦ inl w.1 | inr w ↦ inr (w.0, w.1 ++ b ∷ [], longer_line r w.0 w.1 b w.2) ]),
  )

  -- Bytes of a path.
  pub path_few : (max : ℕ) (begun : List ℕ) (o : Option CurrentEntry) (p q : List ℕ) (es : List EntryData) → HasConsumed profile begun o p es → IsBetween o → ArePathBytes q → AreFew (IsManyRecords profile max) p q
  path_few max begun o p q es h i n =
      let r = paths_begun profile begun o p es (between profile begun o p es i h) in
      few_run max p begun q r.0 (bytes_no_newline q n, inl (bytes_no_nul q n))

  -- What comes of a line, with its newline or without.
  pub line_few : (max : ℕ) (begun : List ℕ) (x : CurrentEntry) (p q : List ℕ) (es : List EntryData) → HasConsumed profile begun (Some x) p es → x.in_line ≡ true → AreOfRecord q → AreFew (IsManyRecords profile max) p q
  line_few max begun x p q es h i n =
      let l = line_state profile begun x p es i h in
      let g = line_begun profile begun x p es l in
      let plain : (s : List ℕ) → Lacks 10 s → AreFew (IsManyRecords profile max) p s = λ s m. few_run max p (x.path.items ++ 0 ∷ l.line) s g (m, inr (x.path.items, l.line, refl)) in
      elim n [
        | inl m ↦ plain q m
        | inr m ↦ (let last : IsManyRecords profile max ((p ++ m.0) ++ 10 ∷ []) (length (p ++ m.0)) → ⊥ =
            not_many_line profile (p ++ m.0) ((x.path.items ++ 0 ∷ l.line) ++ m.0) x.path.items (l.line ++ m.0) 10 max (length (p ++ m.0)) (begun_run p (x.path.items ++ 0 ∷ l.line) m.0 m.2 g) (append_assoc x.path.items (0 ∷ l.line) m.0) in
            rw m.1 (few_push (IsManyRecords profile max) p m.0 10 (plain m.0 m.2) last))
      ]

  -- So has one byte of a line.
  pub line_byte_few : (max : ℕ) (begun : List ℕ) (x : CurrentEntry) (p : List ℕ) (es : List EntryData) (b : ℕ) → HasConsumed profile begun (Some x) p es → x.in_line ≡ true → IsManyRecords profile max (p ++ b ∷ []) (length p) → ⊥
  line_byte_few max begun x p es b h i =
      let l = line_state profile begun x p es i h in
      not_many_line profile p (x.path.items ++ 0 ∷ l.line) x.path.items l.line b max (length p) (line_begun profile begun x p es l) refl

  -- What a reader took of the line that is begun.
  pub line_part : (begun : List ℕ) (x : CurrentEntry) (p : List ℕ) (es : List EntryData) (new : ValueReader) (bytes : List ℕ) (run : PushedRun) → HasConsumed profile begun (Some x) p es → x.in_line ≡ true →
      ((k : ReadForm) (s : List ℕ) → Reads x.reader k s → IsPushedRun new k s bytes run) → AreOfRecord (take run.used bytes)
  line_part begun x p es new bytes run h t pushed =
      let l = line_state profile begun x p es t h in
      run_cut (KindFile l.kind) (unlines l.lines ++ l.line) bytes run.used run.fault (pushed l.kind (unlines l.lines ++ l.line) l.reads).stops

-- ---- What a meter counted

-- After bytes of a record, by whether their last is a newline.
pub counted_bytes : (old new : Meter) (p bytes : List ℕ) (n : ℕ) → IsCounted old p → new.limits ≡ old.limits → AreOfRecord bytes → n ≡ length bytes → n ≤ old.limits.max_stream - old.offset → new.offset ≡ old.offset + n →
    ((((0 < n) × (get_or bytes (n - 1) 0 ≡ 10)) × (new.record_len ≡ 0)) ⊎ (((0 < n) × (get_or bytes (n - 1) 0 ≡ 10) → ⊥) × (new.record_len ≡ old.record_len + n))) → IsCounted new (p ++ bytes)
counted_bytes old new p bytes n h li (inl plain) e far o (inl w) = absurd (lacks_at bytes (n - 1) (omega (arith, w.0.0, e)) plain w.0.1)
counted_bytes old new p bytes n h li (inl plain) e far o (inr w) = counted_run old new p bytes n h li plain e far o w.1
counted_bytes old new p bytes n h li (inr l) e far o (inl w) =
    let size : n ≡ length l.0 + 1 = omega (arith, e, ap length l.1, length-append l.0 (10 ∷ [])) in
    rw l.1 (counted_line old new p l.0 n h li size far o w.1)
counted_bytes old new p bytes n h li (inr l) e far o (inr w) =
    let size : n ≡ length l.0 + 1 = omega (arith, e, ap length l.1, length-append l.0 (10 ∷ [])) in
    let last : n - 1 ≡ length l.0 = omega (arith, size) in
    absurd (w.0 (omega (arith, size), ap (λ (i : ℕ). get_or bytes i 0) last ∙ (ap (λ (t : List ℕ). get_or t (length l.0) 0) l.1 ∙ at_end l.0 10)))
