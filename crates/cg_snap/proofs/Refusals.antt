-- No snapshot goes on with a byte that is refused.
use Rattle.std.proofs.Common.{◌≡◌, ◌≢◌, ℕ, suc, All, Some, List, [], ◌∷◌, ◌++◌, refl, sym, ap, subst, ◌∙◌, append_assoc, arith, inl, inr, ◌⊎◌}
use Rattle.std.proofs.lemmas.Bool.{cases_eq}
use Rattle.std.specs.List.{AllByRecursion}
use Rattle.cg_text.specs.Texts.{Lacks, Viable, Next}
use Rattle.cg_value.specs.Entry.{EntryData, IsPath, IsPathByte, ReadsAt}
use Rattle.cg_value.specs.EntryLaws.{entry_path}
use Rattle.cg_value.specs.Files.{KindFile, ReadLines}
use Rattle.cg_value.specs.Lines.{unlines}
use Rattle.cg_value.specs.PathLaws.{path_lacks_nul}
use Rattle.cg_value.specs.Records.{records}
use Rattle.cg_value.specs.declared.kind.ReadForm.{ReadForm}
use Rattle.cg_value.specs.declared.profile.Profile.{Profile}
use Rattle.cg_value.specs.declared.value.Value.{Value}
use Rattle.cg_file.specs.WeightFileLaws.{not_empty}
use Rattle.cg_snap.specs.DecoderState.{HasConsumedInLine, HasConsumedInPath, HasConsumedAPath, CanEndLine}
use Rattle.cg_snap.specs.PathBytes.{ArePathBytes}
use Rattle.cg_snap.specs.Snap.{Snap, SnapText, StartsOther}
use Rattle.cg_snap.specs.SnapLaws.{cut, entry_starts, not_of, record_then}
use Rattle.cg_snap.specs.declared.present.CurrentEntry.{CurrentEntry}
use Rattle.cg_snap.proofs.Joins.{ContinuesEntry, inner, unlines-append}
use Rattle.cg_snap.proofs.Steps.{before, bytes_no_nul}

-- The text begins with a path that can be read, and its NUL.
pub record Head (profile : Profile) (text : List ℕ) : Type 0 where
  pub path : List ℕ
  pub kind : ReadForm
  pub rest : List ℕ
  pub good : IsPath path
  pub reads_at : ReadsAt profile path (Some kind)
  pub text_is : text ≡ path ++ 0 ∷ rest

pub records_start : (q : List ℕ) (ls : List (List ℕ)) (w : List ℕ) → ls ≢ [] → (y : List ℕ) × (records q ls ++ w ≡ q ++ 0 ∷ y)
records_start q [] w some = absurd (some refl)
records_start q (l ∷ ls) w some = (l ++ 10 ∷ (records q ls ++ w), record_then q l (records q ls) w)

pub line_start : (q : List ℕ) (ls : List (List ℕ)) (w : List ℕ) → (y : List ℕ) × (records q ls ++ (q ++ 0 ∷ w) ≡ q ++ 0 ∷ y)
line_start q [] w = (w, refl)
line_start q (l ∷ ls) w = (l ++ 10 ∷ (records q ls ++ (q ++ 0 ∷ w)), record_then q l (records q ls) (q ++ 0 ∷ w))

head_text : (p begun rest : List ℕ) (b : ℕ) → p ≡ begun → p ++ b ∷ rest ≡ begun ++ b ∷ rest
head_text p begun rest b e = rw e refl

-- ---- Lines after whole lines

more_text : (u m y t : List ℕ) → t ≡ m ++ 10 ∷ y → u ++ t ≡ (u ++ (m ++ 10 ∷ [])) ++ y
more_text u m y t e = rw e (simp append_assoc)

ends_text : (u line m y : List ℕ) (b : ℕ) → b ≡ 10 → line ≡ m → u ++ (m ++ 10 ∷ y) ≡ ((u ++ line) ++ b ∷ []) ++ y
ends_text u line m y b t e = rw (t, e) (simp append_assoc)

goes_text : (u line m y d : List ℕ) (b : ℕ) → m ≡ line ++ b ∷ d → u ++ (m ++ 10 ∷ y) ≡ ((u ++ line) ++ b ∷ []) ++ (d ++ 10 ∷ y)
goes_text u line m y d b e = rw e (simp append_assoc)

file_of : (kind : ReadForm) (v : Value) (ls : List (List ℕ)) → ReadLines kind v ls → KindFile kind (unlines ls)
file_of kind v ls s = (v, record { lines = ls; spelled = s; text_is = refl })

-- The byte goes on from a line.
pub byte_in : (L : List ℕ → Type 0) (u line m y rest : List ℕ) (b : ℕ) (z : List ℕ) → Lacks 10 line → Lacks 10 m → L (u ++ (m ++ 10 ∷ y)) → line ++ b ∷ rest ≡ m ++ 10 ∷ z → Viable L ((u ++ line) ++ b ∷ [])
byte_in L u line m y rest b z p q f e =
    elim (cases_eq b 10) [
      | inl t ↦
          let c = cut 10 line m rest z p q (subst (λ (d : ℕ). line ++ d ∷ rest ≡ m ++ 10 ∷ z) t e) in
          record { rest = y; whole = subst L (ends_text u line m y b t c.0) f }
      | inr n ↦
          let d = before 10 line m rest z b p n e in
          record { rest = d.0 ++ 10 ∷ y; whole = subst L (goes_text u line m y d.0 b d.1) f }
    ]

byte_inside : (xs : List ℕ) (b : ℕ) (ys : List ℕ) → All IsPathByte (xs ++ b ∷ ys) → IsPathByte b
byte_inside [] b ys all = all 0 0 (omega arith)
byte_inside (x ∷ xs) b ys all = byte_inside xs b ys (λ k d h. all (suc k) d (omega (arith, h)))

-- After the front of a path comes a byte of the path, or the NUL.
pub path_byte_in : (path begun rest more : List ℕ) (b : ℕ) → IsPath path → ArePathBytes begun → begun ++ b ∷ rest ≡ path ++ 0 ∷ more → (b ≡ 0) ⊎ IsPathByte b
path_byte_in path begun rest more b good p e =
    elim (cases_eq b 0) [
      | inl z ↦ inl z
      | inr n ↦
          let d = before 0 begun path rest more b (bytes_no_nul begun p) n e in
          inr (byte_inside begun b d.0 (subst (λ (q : List ℕ). All IsPathByte q) d.1 good.bytes))
    ]

-- Where it is a NUL, the path is whole.
pub path_nul_in : (path begun rest more : List ℕ) → IsPath path → ArePathBytes begun → begun ++ 0 ∷ rest ≡ path ++ 0 ∷ more → begun ≡ path
path_nul_in path begun rest more good p e = (cut 0 begun path rest more (bytes_no_nul begun p) (path_lacks_nul path good) e).0

module _ (profile : Profile) where
  pub snap_head : (fs : List EntryData) (t : List ℕ) → SnapText profile fs t → t ≢ [] → Head profile t
  snap_head [] t h n = absurd (n h)
  snap_head (f ∷ fs) t h n =
      let r = entry_starts f.path h.0 h.1 h.2.some in
      record { path = f.path; kind = h.2.kind; rest = r.0; good = entry_path f; reads_at = h.2.reads; text_is = h.4 ∙ r.1 }

  inner_head_in : (q : List ℕ) (k : ReadForm) (ms : List (List ℕ)) (gs : List EntryData) (w t : List ℕ) → IsPath q → ReadsAt profile q (Some k) → t ≡ records q ms ++ w → SnapText profile gs w → t ≢ [] → Head profile t
  inner_head_in q k [] gs w t p c e h n = rw e (snap_head gs w h (λ z. n (e ∙ z)))
  inner_head_in q k (m ∷ ms) gs w t p c e h n = record { path = q; kind = k; rest = m ++ 10 ∷ (records q ms ++ w); good = p; reads_at = c; text_is = e ∙ record_then q m (records q ms) w }

  pub inner_head : (es fs : List EntryData) (q : List ℕ) (k : ReadForm) (ls : List (List ℕ)) (t : List ℕ) → IsPath q → ReadsAt profile q (Some k) → ContinuesEntry profile es fs q k ls t → t ≢ [] → Head profile t
  inner_head es fs q k ls t p c i n = inner_head_in q k i.more i.others i.rest t p c i.text i.snap n

  -- After the front of a path comes a byte of a path, or the NUL.
  pub head_byte : (begun rest : List ℕ) (b : ℕ) → ArePathBytes begun → Head profile (begun ++ b ∷ rest) → (b ≡ 0) ⊎ IsPathByte b
  head_byte begun rest b p h = path_byte_in h.path begun rest h.rest b h.good p h.text_is

  -- Where it is a NUL, the path can be read.
  pub head_nul : (begun rest : List ℕ) → ArePathBytes begun → Head profile (begun ++ 0 ∷ rest) → IsPath begun × ((k : ReadForm) × ReadsAt profile begun (Some k))
  head_nul begun rest p h =
      let same : begun ≡ h.path = path_nul_in h.path begun rest h.rest h.good p h.text_is in
      (subst IsPath (sym same) h.good, (h.kind, subst (λ (path : List ℕ). ReadsAt profile path (Some h.kind)) (sym same) h.reads_at))

  pub path_inner : (begun : List ℕ) (x : CurrentEntry) (p : List ℕ) (es fs : List EntryData) (rest : List ℕ) (h : HasConsumedInPath profile begun x p es) → SnapText profile fs (p ++ rest) → ContinuesEntry profile es fs x.path.items h.kind h.lines (begun ++ rest)
  path_inner begun x p es fs rest h g =
      let r = records_start x.path.items h.lines (begun ++ rest) h.some in
      inner profile es fs h.given x.path.items h.kind h.lines (begun ++ rest) r.0 h.good h.reads_at h.plain h.entries h.other r.1 (subst (SnapText profile fs) (ap (λ (t : List ℕ). t ++ rest) h.split ∙ simp append_assoc) g)

  pub line_inner : (begun : List ℕ) (x : CurrentEntry) (p : List ℕ) (es fs : List EntryData) (rest : List ℕ)
      (h : HasConsumedInLine profile begun x p es) → SnapText profile fs (p ++ rest) →
      ContinuesEntry profile es fs x.path.items h.kind h.lines (x.path.items ++ 0 ∷ (h.line ++ rest))
  line_inner begun x p es fs rest h g =
      let r = line_start x.path.items h.lines (h.line ++ rest) in
      inner profile es fs h.given x.path.items h.kind h.lines
      (x.path.items ++ 0 ∷ (h.line ++ rest)) r.0 h.good h.reads_at h.plain h.entries h.other r.1
      (subst (SnapText profile fs) (ap (λ (t : List ℕ). t ++ rest) h.split ∙ simp append_assoc) g)

  -- ---- The refusals

  -- What goes on with a byte goes on from the bytes before it.
  pub go_on : (p : List ℕ) (b : ℕ) → Next (Snap profile) p b → (rest : List ℕ) × (fs : List EntryData) × SnapText profile fs (p ++ b ∷ rest)
  go_on p b v = (v.rest, v.whole.0, rw (append_assoc p (b ∷ []) v.rest) at v.whole.1)

  pub start_head : (begun p : List ℕ) (es : List EntryData) (b : ℕ) → HasConsumedAPath begun p es → Next (Snap profile) p b → (rest : List ℕ) × Head profile (begun ++ b ∷ rest)
  start_head begun p es b h v =
      let g = go_on p b v in
      (g.0, subst (Head profile) (head_text p begun g.0 b h.bytes) (snap_head g.1 (p ++ b ∷ g.0) g.2 (λ e. not_empty p g.0 b e)))

  pub path_head : (begun : List ℕ) (x : CurrentEntry) (p : List ℕ) (es : List EntryData) (b : ℕ) → HasConsumedInPath profile begun x p es → Next (Snap profile) p b → (rest : List ℕ) × Head profile (begun ++ b ∷ rest)
  path_head begun x p es b h v =
      let g = go_on p b v in
      let i = path_inner begun x p es g.1 (b ∷ g.0) h g.2 in
      (g.0, inner_head es g.1 x.path.items h.kind h.lines (begun ++ b ∷ g.0) h.good h.reads_at i (λ e. not_empty begun g.0 b e))

  same_in : (q : List ℕ) (k : ReadForm) (ls ms : List (List ℕ)) (gs : List EntryData) (w : List ℕ) (v : Value)
      (rest : List ℕ) → IsPath q → StartsOther q gs → SnapText profile gs w → AllByRecursion (Lacks 10) ms →
      ReadLines k v (ls ++ ms) → q ++ 0 ∷ rest ≡ records q ms ++ w → CanEndLine k ls []
  same_in q k ls [] gs w v rest p o h a f e = absurd (not_of profile q gs w p o h rest (sym e))
  same_in q k ls (m ∷ ms) gs w v rest p o h a f e =
      (m, a.0, record { rest = unlines ms; whole = subst (KindFile k) (unlines-append ls (m ∷ ms) ∙ more_text (unlines ls) m (unlines ms) (unlines (m ∷ ms)) refl) (file_of k v (ls ++ m ∷ ms) f) })

  -- Another line of the present entry may come, where a NUL of its path may.
  pub same_nul : (begun : List ℕ) (x : CurrentEntry) (p : List ℕ) (es : List EntryData) (h : HasConsumedInPath profile begun x p es) → begun ≡ x.path.items → Next (Snap profile) p 0 → CanEndLine h.kind h.lines []
  same_nul begun x p es h s v =
      let g = go_on p 0 v in
      let i = path_inner begun x p es g.1 (0 ∷ g.0) h g.2 in
      same_in x.path.items h.kind h.lines i.more i.others i.rest i.entry.value g.0 h.good i.other i.snap i.plain i.file (subst (λ (c : List ℕ). c ++ 0 ∷ g.0 ≡ records x.path.items i.more ++ i.rest) s i.text)

  line_in : (q : List ℕ) (k : ReadForm) (ls ms : List (List ℕ)) (gs : List EntryData) (w : List ℕ) (v : Value)
      (line rest : List ℕ) (b : ℕ) → IsPath q → StartsOther q gs → SnapText profile gs w → Lacks 10 line →
      AllByRecursion (Lacks 10) ms → ReadLines k v (ls ++ ms) →
      q ++ 0 ∷ (line ++ b ∷ rest) ≡ records q ms ++ w → Viable (KindFile k) ((unlines ls ++ line) ++ b ∷ [])
  line_in q k ls [] gs w v line rest b p o h l a f e = absurd (not_of profile q gs w p o h (line ++ b ∷ rest) (sym e))
  line_in q k ls (m ∷ ms) gs w v line rest b p o h l a f e =
      let nul = path_lacks_nul q p in
      let c = cut 0 q q (line ++ b ∷ rest) (m ++ 10 ∷ (records q ms ++ w)) nul nul (e ∙ record_then q m (records q ms) w) in
      byte_in (KindFile k) (unlines ls) line m (unlines ms) rest b (records q ms ++ w) l a.0 (subst (KindFile k) (unlines-append ls (m ∷ ms)) (file_of k v (ls ++ m ∷ ms) f)) c.1

  -- Where a byte of a line goes on, a file of the kind does.
  pub line_takes : (begun : List ℕ) (x : CurrentEntry) (p : List ℕ) (es : List EntryData) (b : ℕ) (h : HasConsumedInLine profile begun x p es) → Next (Snap profile) p b → Next (KindFile h.kind) (unlines h.lines ++ h.line) b
  line_takes begun x p es b h v =
      let g = go_on p b v in
      let i = line_inner begun x p es g.1 (b ∷ g.0) h g.2 in
      line_in x.path.items h.kind h.lines i.more i.others i.rest i.entry.value h.line g.0 b h.good i.other i.snap h.plain_line i.plain i.file i.text
