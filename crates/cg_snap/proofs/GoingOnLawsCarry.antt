-- A block is stopped alone as it is behind entries of which the last has another path.
use Rattle.std.proofs.Common.{◌≡◌, ◌≢◌, ℕ, ◌+◌, ◌<◌, ◌≤◌, ◌⊎◌, inl, inr, List, [], ◌∷◌, ◌++◌, length, take, refl, sym, ap, subst, ◌∙◌, append_assoc, arith}
use Rattle.std.proofs.lemmas.Bool.{cases_lt}
use Rattle.std.proofs.lemmas.List.{append-nil, length-append, length_push, take-append-le, take_all}
use Rattle.std.specs.List.{AllByRecursion}
use Rattle.cg_text.specs.Texts.{Lacks, Next, Viable}
use Rattle.cg_text.specs.TextsLaws.{lacks_inside}
use Rattle.cg_value.specs.Entry.{EntryData, IsPath}
use Rattle.cg_value.specs.EntryLaws.{entry_path}
use Rattle.cg_value.specs.PathLaws.{path_lacks_newline, path_lacks_nul}
use Rattle.cg_value.specs.Records.{records}
use Rattle.cg_value.specs.declared.profile.Profile.{Profile}
use Rattle.cg_file.specs.WeightFileLaws.{not_empty}
use Rattle.cg_snap.specs.Begun.{IsBegun, IsLongRecord}
use Rattle.cg_snap.specs.Closed.{EndsOther}
use Rattle.cg_snap.specs.Snap.{Snap, SnapText}
use Rattle.cg_snap.specs.SnapLaws.{first_path, record_then}
use Rattle.cg_snap.specs.SnapStop.{IsManyRecords, IsRecordWhy, IsSnapUnstopped}
use Rattle.cg_snap.specs.StreamStop.{IsFree}
use Rattle.cg_snap.specs.declared.limits.Limits.{Limits}
use Rattle.cg_snap.proofs.Begins.{is_long, not_long}
use Rattle.cg_snap.proofs.Closes.{begun_after, nul_plain}
use Rattle.cg_snap.proofs.GoingOnLawsBlocks.{IsLineBegun, IsSnapPassed, cut_within, lacks_front, last_in}
use Rattle.cg_snap.proofs.Joins.{Joins, snap_append, strip}
use Rattle.cg_snap.proofs.Places.{HasBefore, few_many, is_many, not_many, not_many_line}
use Rattle.cg_snap.proofs.Steps.{start_viable}
use Rattle.cg_snap.proofs.Stops as stops
use Rattle.cg_snap.proofs.Stops.{unstopped_push}

pub front_at : (p : List ℕ) (b : ℕ) (x : List ℕ) → take (length p + 1) (p ++ b ∷ x) ≡ p ++ b ∷ []
front_at p b x =
    ap (λ (t : List ℕ). take (length p + 1) t) (sym (append_assoc p (b ∷ []) x)) ∙
    (take-append-le {A = ℕ} (length p + 1) (p ++ b ∷ []) x (omega (arith, length_push p b)) ∙ take_all (length p + 1) (p ++ b ∷ []) (omega (arith, length_push p b)))

pub viable_part : (L : List ℕ → Type 0) (p x : List ℕ) → Viable L (p ++ x) → Viable L p
viable_part L p x v = record { rest = x ++ v.rest; whole = subst L (append_assoc p x v.rest) v.whole }

-- ---- Bytes that nothing stops

module _ (profile : Profile) (limits : Limits) where
  abbrev pub IsSnapFree : List ℕ → ℕ → Type 0
  IsSnapFree p b = IsFree (Snap profile) (IsRecordWhy profile) (IsManyRecords profile) limits p b

  pub none_unstopped : IsSnapUnstopped profile limits []
  none_unstopped k h = absurd (omega (arith, h))

  pub none_viable : Viable (Snap profile) []
  none_viable = start_viable profile [] [] [] (record { none = refl; bytes = refl; begun_path = tt })

  pub unstopped_at : (text p : List ℕ) (b : ℕ) (x : List ℕ) → text ≡ p ++ b ∷ x → IsSnapUnstopped profile limits text → Next (Snap profile) p b × IsSnapFree p b
  unstopped_at text p b x e u =
      let passed : IsSnapPassed profile limits text (length p) = u (length p) (omega (arith, ap length e, length-append p (b ∷ x))) in
      let front : take (length p + 1) text ≡ p ++ b ∷ [] = ap (λ (t : List ℕ). take (length p + 1) t) e ∙ front_at p b x in (
        subst (Viable (Snap profile)) front passed.viable,
        record {
          short = subst (λ (t : List ℕ). IsLongRecord limits.max_record t (length p) → ⊥) front passed.short;
          few = subst (λ (t : List ℕ). IsManyRecords profile limits.max_lines t (length p) → ⊥) front passed.few;
          before = passed.before;
        },
      )

  pub unstopped_front : (p x : List ℕ) → IsSnapUnstopped profile limits (p ++ x) → IsSnapUnstopped profile limits p
  unstopped_front p x u = stops.unstopped_front (Snap profile) (IsRecordWhy profile) (IsManyRecords profile) limits p x u

  -- Bytes of which each goes on and passes no limit.
  pub unstopped_by : (p w : List ℕ) → IsSnapUnstopped profile limits p →
      ((c : List ℕ) (b : ℕ) (x : List ℕ) → w ≡ c ++ b ∷ x → Next (Snap profile) (p ++ c) b × IsSnapFree (p ++ c) b) → IsSnapUnstopped profile limits (p ++ w)
  unstopped_by p [] u f = subst (IsSnapUnstopped profile limits) (sym (append-nil p)) u
  unstopped_by p (b ∷ w) u f =
      let first : Next (Snap profile) p b × IsSnapFree p b = subst (λ (t : List ℕ). Next (Snap profile) t b × IsSnapFree t b) (append-nil p) (f [] b w refl) in
      let next = unstopped_push (Snap profile) (IsRecordWhy profile) (IsManyRecords profile) limits p b u first.0 first.1 in
      subst (IsSnapUnstopped profile limits) (append_assoc p (b ∷ []) w)
      (unstopped_by (p ++ b ∷ []) w next (λ c d x e.
      subst (λ (t : List ℕ). Next (Snap profile) t d × IsSnapFree t d) (sym (append_assoc p (b ∷ []) c)) (f (b ∷ c) d x (ap (λ (t : List ℕ). b ∷ t) e))))

  pub unstopped_within : (text : List ℕ) → IsSnapUnstopped profile limits text → length text ≤ limits.max_stream
  unstopped_within text u = elim (cases_lt limits.max_stream (length text)) [
    | inl lt ↦ absurd ((u limits.max_stream lt).before refl)
    | inr ge ↦ ge
  ]

  pub unstopped_viable : (text : List ℕ) → IsSnapUnstopped profile limits text → Viable (Snap profile) text
  unstopped_viable text u = elim (last_in text) [
    | inl e ↦ subst (Viable (Snap profile)) (sym e) none_viable
    | inr w ↦ subst (Viable (Snap profile)) (sym w.2) (unstopped_at text w.0 w.1 [] w.2 u).0
  ]

  -- What is begun of a record before a byte that passes no limit is shorter than the limit.
  pub free_short : (p r : List ℕ) (b : ℕ) → IsBegun p r → IsSnapFree p b → length r < limits.max_record
  free_short p r b h f = elim (cases_lt (length r) limits.max_record) [
    | inl lt ↦ lt
    | inr ge ↦ absurd (f.short (is_long p r b limits.max_record (length p) h ge))
  ]

-- ---- Where a byte of a block stands

-- Behind what is begun of a record comes a byte of the path, its NUL, or a byte of the line.
abbrev pub IsAt : List ℕ → List ℕ → ℕ → Type 0
IsAt q begun b = ((d : List ℕ) × (q ≡ begun ++ b ∷ d)) ⊎ ((begun ≡ q) × (b ≡ 0)) ⊎ ((l : List ℕ) × Lacks 10 l × (begun ≡ q ++ 0 ∷ l))

-- After whole lines of the path and some bytes that are begun comes a byte of the path, its NUL, or a byte behind it.
pub record IsPlace (q p : List ℕ) (b : ℕ) : Type 0 where
  pub lines : List (List ℕ)
  pub begun : List ℕ
  pub split : p ≡ records q lines ++ begun
  pub plain : AllByRecursion (Lacks 10) lines
  pub at : IsAt q begun b

pub place_plain : (q p : List ℕ) (b : ℕ) → IsPath q → (w : IsPlace q p b) → Lacks 10 w.begun
place_plain q p b g w = of w.at
  where
    of : IsAt q w.begun b → Lacks 10 w.begun
    of (inl d) = lacks_front 10 w.begun (b ∷ d.0) (subst (Lacks 10) d.1 (path_lacks_newline q g))
    of (inr (inl s)) = subst (Lacks 10) (sym s.0) (path_lacks_newline q g)
    of (inr (inr l)) = subst (Lacks 10) (sym l.2) (nul_plain q l.0 g l.1)

place_more : (q l : List ℕ) (p r : List ℕ) (b : ℕ) → Lacks 10 l → p ≡ q ++ 0 ∷ (l ++ 10 ∷ r) → IsPlace q r b → IsPlace q p b
place_more q l p r b n e w = record {
  lines = l ∷ w.lines;
  begun = w.begun;
  split = e ∙ (ap (λ (t : List ℕ). q ++ 0 ∷ (l ++ 10 ∷ t)) w.split ∙ sym (record_then q l (records q w.lines) w.begun));
  plain = (n, w.plain);
  at = w.at;
}

-- In what came of a line.
place_line : (q l p : List ℕ) (b : ℕ) → Lacks 10 l → p ≡ q ++ 0 ∷ l → IsPlace q p b
place_line q l p b n e = record { lines = []; begun = p; split = refl; plain = tt; at = inr (inr (l, n, e)) }

pub place_in : (q : List ℕ) (lines : List (List ℕ)) (begun p : List ℕ) (b : ℕ) (x : List ℕ) → AllByRecursion (Lacks 10) lines →
    IsLineBegun q begun → records q lines ++ begun ≡ p ++ b ∷ x → IsPlace q p b
place_in q [] begun p b x a (inl z) e = absurd (not_empty p x b (sym e ∙ z))
place_in q [] begun p b x a (inr l) e = elim (cut_within q 0 l.0 p b x (sym l.2 ∙ e)) [
  | inl d ↦ record { lines = []; begun = p; split = refl; plain = tt; at = inl d }
  | inr (inl s) ↦ record { lines = []; begun = p; split = refl; plain = tt; at = inr (inl (s.0, s.1)) }
  | inr (inr d) ↦ place_line q d.0 p b (lacks_front 10 d.0 (b ∷ x) (subst (Lacks 10) d.2 l.1)) d.1
]
place_in q (k ∷ lines) begun p b x a l e = elim (cut_within q 0 (k ++ 10 ∷ (records q lines ++ begun)) p b x (sym (record_then q k (records q lines) begun) ∙ e)) [
  | inl d ↦ record { lines = []; begun = p; split = refl; plain = tt; at = inl d }
  | inr (inl s) ↦ record { lines = []; begun = p; split = refl; plain = tt; at = inr (inl (s.0, s.1)) }
  | inr (inr d) ↦ elim (cut_within k 10 (records q lines ++ begun) d.0 b x d.2) [
    | inl f ↦ place_line q d.0 p b (lacks_front 10 d.0 (b ∷ f.0) (subst (Lacks 10) f.1 a.0)) d.1
    | inr (inl s) ↦ place_line q d.0 p b (subst (Lacks 10) (sym s.0) a.0) d.1
    | inr (inr f) ↦ place_more q k p f.0 b a.0 (d.1 ∙ ap (λ (t : List ℕ). q ++ 0 ∷ t) f.1) (place_in q lines begun f.0 b x a.1 l f.2)
  ]
]

-- ---- Alone, and behind entries

module _ (profile : Profile) where
  before_of : (es : List EntryData) (given q p : List ℕ) (lines : List (List ℕ)) → SnapText profile es given → EndsOther es q → IsPath q →
      AllByRecursion (Lacks 10) lines →
      p ≡ given ++ (records q lines ++ q) → HasBefore profile p q (length lines)
  before_of es given q p lines h o g a e = record {
    es = es;
    given = given;
    lines = lines;
    whole = ap (λ (t : List ℕ). t ++ 0 ∷ []) e ∙ simp append_assoc;
    entries = h;
    good = g;
    other = o;
    plain = a;
    count = refl;
  }

  pub first_joins : (es fs : List EntryData) (q t y : List ℕ) → IsPath q → EndsOther es q → SnapText profile fs t → t ≡ q ++ 0 ∷ y → Joins es fs
  first_joins es [] q t y g o h e = tt
  first_joins es (f ∷ fs) q t y g o h e = subst (EndsOther es) (sym (first_path q f.path h.0 h.1 y g (entry_path f) h.2.some (sym h.4 ∙ e))) o

  module _ (es : List EntryData) (given q : List ℕ) (h : SnapText profile es given) (o : EndsOther es q) (g : IsPath q) where
    -- What begins with the path goes on to a snapshot alone where it does behind the entries.
    pub viable_alone : (w y : List ℕ) → w ≡ q ++ 0 ∷ y → Viable (Snap profile) (given ++ w) → Viable (Snap profile) w
    viable_alone w y e v =
        let c = strip profile es v.whole.0 given (w ++ v.rest) q (y ++ v.rest) g h o (ap (λ (t : List ℕ). t ++ v.rest) e ∙ append_assoc q (0 ∷ y) v.rest)
        (subst (SnapText profile v.whole.0) (append_assoc given w v.rest) v.whole.1) in
        record { rest = v.rest; whole = (c.0, c.2) }

    pub viable_behind : (w y : List ℕ) → w ≡ q ++ 0 ∷ y → Viable (Snap profile) w → Viable (Snap profile) (given ++ w)
    viable_behind w y e v =
        let joins = first_joins es v.whole.0 q (w ++ v.rest) (y ++ v.rest) g o v.whole.1 (ap (λ (t : List ℕ). t ++ v.rest) e ∙ append_assoc q (0 ∷ y) v.rest) in
        let whole = snap_append profile es v.whole.0 given (w ++ v.rest) h v.whole.1 joins in
        record { rest = v.rest; whole = (es ++ v.whole.0, subst (SnapText profile (es ++ v.whole.0)) (sym (append_assoc given w v.rest)) whole) }

    pub begun_behind : (p : List ℕ) (b : ℕ) (w : IsPlace q p b) → IsBegun (given ++ p) w.begun
    begun_behind p b w = begun_after profile es given q w.lines (given ++ p) w.begun h (ap (λ (t : List ℕ). given ++ t) w.split) (place_plain q p b g w)

    pub begun_alone : (p : List ℕ) (b : ℕ) (w : IsPlace q p b) → IsBegun p w.begun
    begun_alone p b w = begun_after profile [] [] q w.lines p w.begun refl w.split (place_plain q p b g w)

    pub long_alone : (p : List ℕ) (b max x y : ℕ) → IsPlace q p b → IsLongRecord max ((given ++ p) ++ b ∷ []) x → IsLongRecord max (p ++ b ∷ []) y
    long_alone p b max x y w l = elim (cases_lt (length w.begun) max) [
      | inl lt ↦ absurd (not_long (given ++ p) w.begun b max x (begun_behind p b w) lt l)
      | inr ge ↦ is_long p w.begun b max y (begun_alone p b w) ge
    ]

    pub long_behind : (p : List ℕ) (b max x y : ℕ) → IsPlace q p b → IsLongRecord max (p ++ b ∷ []) y → IsLongRecord max ((given ++ p) ++ b ∷ []) x
    long_behind p b max x y w l = elim (cases_lt (length w.begun) max) [
      | inl lt ↦ absurd (not_long p w.begun b max y (begun_alone p b w) lt l)
      | inr ge ↦ is_long (given ++ p) w.begun b max x (begun_behind p b w) ge
    ]

    before_behind : (p : List ℕ) (b : ℕ) (w : IsPlace q p b) → w.begun ≡ q → HasBefore profile (given ++ p) q (length w.lines)
    before_behind p b w e = before_of es given q (given ++ p) w.lines h o g w.plain (ap (λ (t : List ℕ). given ++ t) (w.split ∙ ap (λ (t : List ℕ). records q w.lines ++ t) e))

    before_alone : (p : List ℕ) (b : ℕ) (w : IsPlace q p b) → w.begun ≡ q → HasBefore profile p q (length w.lines)
    before_alone p b w e = before_of [] [] q p w.lines refl tt g w.plain (w.split ∙ ap (λ (t : List ℕ). records q w.lines ++ t) e)

    path_byte : (r : List ℕ) (b : ℕ) (d : List ℕ) → q ≡ r ++ b ∷ d → b ≢ 0
    path_byte r b d e z = lacks_inside 0 r d (subst (Lacks 0) (e ∙ ap (λ (c : ℕ). r ++ c ∷ d) z) (path_lacks_nul q g))

    pub many_alone : (p : List ℕ) (b max x y : ℕ) → IsPlace q p b → IsManyRecords profile max ((given ++ p) ++ b ∷ []) x →
        IsManyRecords profile max (p ++ b ∷ []) y
    many_alone p b max x y w m = of w.at
      where
        of : IsAt q w.begun b → IsManyRecords profile max (p ++ b ∷ []) y
        of (inl d) = absurd (not_many profile (given ++ p) w.begun b max x (begun_behind p b w) (path_byte w.begun b d.0 d.1) m)
        of (inr (inl s)) = elim (cases_lt (length w.lines) max) [
          | inl lt ↦ absurd (few_many profile (given ++ p) q (length w.lines) max x (before_behind p b w s.0) lt (subst (λ (c : ℕ). IsManyRecords profile max ((given ++ p) ++ c ∷ []) x) s.1 m))
          | inr ge ↦ subst (λ (c : ℕ). IsManyRecords profile max (p ++ c ∷ []) y) (sym s.1) (is_many profile p q (length w.lines) max y (before_alone p b w s.0) ge)
        ]
        of (inr (inr l)) = absurd (not_many_line profile (given ++ p) w.begun q l.0 b max x (begun_behind p b w) l.2 m)

    pub many_behind : (p : List ℕ) (b max x y : ℕ) → IsPlace q p b → IsManyRecords profile max (p ++ b ∷ []) y →
        IsManyRecords profile max ((given ++ p) ++ b ∷ []) x
    many_behind p b max x y w m = of w.at
      where
        of : IsAt q w.begun b → IsManyRecords profile max ((given ++ p) ++ b ∷ []) x
        of (inl d) = absurd (not_many profile p w.begun b max y (begun_alone p b w) (path_byte w.begun b d.0 d.1) m)
        of (inr (inl s)) = elim (cases_lt (length w.lines) max) [
          | inl lt ↦ absurd (few_many profile p q (length w.lines) max y (before_alone p b w s.0) lt (subst (λ (c : ℕ). IsManyRecords profile max (p ++ c ∷ []) y) s.1 m))
          | inr ge ↦ subst (λ (c : ℕ). IsManyRecords profile max ((given ++ p) ++ c ∷ []) x) (sym s.1) (is_many profile (given ++ p) q (length w.lines) max x (before_behind p b w s.0) ge)
        ]
        of (inr (inr l)) = absurd (not_many_line profile p w.begun q l.0 b max y (begun_alone p b w) l.2 m)

    module _ (limits : Limits) where
      -- The block is stopped by nothing alone where it isn't behind the entries, and the other way.
      pub unstopped_alone : (w y : List ℕ) → w ≡ q ++ 0 ∷ y → ((p : List ℕ) (b : ℕ) (x : List ℕ) → w ≡ p ++ b ∷ x → IsPlace q p b) →
          IsSnapUnstopped profile limits (given ++ w) → IsSnapUnstopped profile limits w
      unstopped_alone w y e places u =
          let v : Viable (Snap profile) w = viable_alone w y e (unstopped_viable profile limits (given ++ w) u) in
          unstopped_by profile limits [] w (none_unstopped profile limits) (λ c b x s.
          let f = (unstopped_at profile limits (given ++ w) (given ++ c) b x (ap (λ (t : List ℕ). given ++ t) s ∙ sym (append_assoc given c (b ∷ x))) u).1 in
          let m : length (given ++ w) ≤ limits.max_stream = unstopped_within profile limits (given ++ w) u in (
            viable_part (Snap profile) (c ++ b ∷ []) x (subst (Viable (Snap profile)) (s ∙ sym (append_assoc c (b ∷ []) x)) v),
            record {
              short = λ l. f.short (long_behind c b limits.max_record (length (given ++ c)) (length c) (places c b x s) l);
              few = λ l. f.few (many_behind c b limits.max_lines (length (given ++ c)) (length c) (places c b x s) l);
              before = λ z. absurd (omega (arith, z, m, length-append given w, ap length s, length-append c (b ∷ x)));
            },
          ))

      pub unstopped_behind : (w y : List ℕ) → w ≡ q ++ 0 ∷ y → ((p : List ℕ) (b : ℕ) (x : List ℕ) → w ≡ p ++ b ∷ x → IsPlace q p b) →
          length (given ++ w) ≤ limits.max_stream →
          IsSnapUnstopped profile limits given → IsSnapUnstopped profile limits w → IsSnapUnstopped profile limits (given ++ w)
      unstopped_behind w y e places m a u =
          let v : Viable (Snap profile) (given ++ w) = viable_behind w y e (unstopped_viable profile limits w u) in
          unstopped_by profile limits given w a (λ c b x s.
          let f = (unstopped_at profile limits w c b x s u).1 in
          let same : given ++ w ≡ ((given ++ c) ++ b ∷ []) ++ x = ap (λ (t : List ℕ). given ++ t) s ∙ simp append_assoc in (
            viable_part (Snap profile) ((given ++ c) ++ b ∷ []) x (subst (Viable (Snap profile)) same v),
            record {
              short = λ l. f.short (long_alone c b limits.max_record (length (given ++ c)) (length c) (places c b x s) l);
              few = λ l. f.few (many_alone c b limits.max_lines (length (given ++ c)) (length c) (places c b x s) l);
              before = λ z. absurd (omega (arith, z, m, length-append given w, length-append given c, ap length s, length-append c (b ∷ x)));
            },
          ))
