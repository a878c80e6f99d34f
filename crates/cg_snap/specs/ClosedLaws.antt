-- What holds of the entries that bytes close: they are one list.
use Rattle.std.proofs.Common.{◌≡◌, ◌≢◌, ℕ, List, [], ◌∷◌, ◌++◌, inl, inr, ◌⊎◌, refl, sym, ap, subst, ◌∙◌, append_assoc}
use Rattle.std.proofs.lemmas.List.{append-nil, append_cancel_left}
use Rattle.std.specs.List.{AllByRecursion}
use Rattle.cg_text.specs.Texts.{Lacks}
use Rattle.cg_text.specs.TextsLaws.{lacks_both, lacks_inside}
use Rattle.cg_value.specs.Entry.{EntryData, IsPath}
use Rattle.cg_value.specs.EntryLaws.{entry_path}
use Rattle.cg_value.specs.PathLaws.{path_lacks_newline, path_lacks_nul}
use Rattle.cg_value.specs.Records.{records}
use Rattle.cg_value.specs.declared.profile.Profile.{Profile}
use Rattle.cg_snap.specs.Closed.{AreOfPath, Closed, EndsOther}
use Rattle.cg_snap.specs.Begun.{IsBegun}
use Rattle.cg_snap.specs.Laws.{AreOneClosing}
use Rattle.cg_snap.specs.Snap.{SnapText}
use Rattle.cg_snap.specs.SnapLaws.{NotOf, cut, entry_starts, heads_lines, lines_plain, one_back, one_list, record_then, rest_not_of}

-- The bytes begin with the path and its NUL.
abbrev BeginsWith : List ℕ → List ℕ → Type 0
BeginsWith path bytes = (back : List ℕ) × (bytes ≡ path ++ 0 ∷ back)

-- What came of a record of the path.
abbrev IsBegunOf : List ℕ → List ℕ → Type 0
IsBegunOf path bytes = (Lacks 0 bytes × Lacks 10 bytes) ⊎ ((line : List ℕ) × Lacks 10 line × (bytes ≡ path ++ 0 ∷ line))

last_other : (e : EntryData) (q r : List ℕ) → IsPath q → BeginsWith q r → EndsOther (e ∷ []) q → NotOf e.path r
last_other e q r b s o y t = o (cut 0 e.path q y s.0 (path_lacks_nul e.path (entry_path e)) (path_lacks_nul q b) (sym t ∙ s.1)).0

-- What came of a record has no second path.
begun_one : (q f : List ℕ) (t x : List ℕ) → IsPath q → IsPath f → IsBegunOf q t → t ≡ f ++ 0 ∷ x → (f ≡ q) × Lacks 10 x
begun_one q f t x a b (inl n) e = absurd (lacks_inside 0 f x (subst (Lacks 0) e n.0))
begun_one q f t x a b (inr l) e = let c = cut 0 q f l.0 x (path_lacks_nul q a) (path_lacks_nul f b) (sym l.2 ∙ e) in (sym c.0, subst (Lacks 10) c.1 l.1)

one_path_start : (q f g : List ℕ) (ls : List (List ℕ)) (t w : List ℕ) → IsPath q → IsPath g → f ≢ g → q ≡ f → IsBegunOf q t → BeginsWith g w → records q ls ++ t ≡ w → ⊥
one_path_start q f g [] t w a b n c l s e = let u = begun_one q g t s.0 a b l (e ∙ s.1) in n (sym c ∙ sym u.0)
one_path_start q f g (k ∷ ls) t w a b n c l s e =
    n (sym c ∙ (cut 0 q g (k ++ 10 ∷ (records q ls ++ t)) s.0 (path_lacks_nul q a) (path_lacks_nul g b) (sym (record_then q k (records q ls) t) ∙ (e ∙ s.1))).0)

-- Bytes of one path are no whole records of a path and then bytes of another.
one_path : (q f g : List ℕ) (ls ms : List (List ℕ)) (t w : List ℕ) → IsPath q → IsPath f → IsPath g → f ≢ g → ms ≢ [] → AllByRecursion (Lacks 10) ls → AllByRecursion (Lacks 10) ms →
    IsBegunOf q t → BeginsWith g w → records q ls ++ t ≡ records f ms ++ w → ⊥
one_path q f g ls [] t w a b d n some p r l s e = some refl
one_path q f g [] (m ∷ ms) t w a b d n some p r l s e =
    let u = begun_one q f t (m ++ 10 ∷ (records f ms ++ w)) a b l (e ∙ record_then f m (records f ms) w) in
    lacks_inside 10 m (records f ms ++ w) u.1
one_path q f g (k ∷ ls) (m ∷ []) t w a b d n some p r l s e =
    let c = cut 0 q f (k ++ 10 ∷ (records q ls ++ t)) (m ++ 10 ∷ w) (path_lacks_nul q a) (path_lacks_nul f b) (sym (record_then q k (records q ls) t) ∙ (e ∙ record_then f m [] w)) in
    let v = cut 10 k m (records q ls ++ t) w p.0 r.0 c.1 in
    one_path_start q f g ls t w a d n c.0 l s v.1
one_path q f g (k ∷ ls) (m ∷ o ∷ ms) t w a b d n some p r l s e =
    let c = cut 0 q f (k ++ 10 ∷ (records q ls ++ t)) (m ++ 10 ∷ (records f (o ∷ ms) ++ w)) (path_lacks_nul q a) (path_lacks_nul f b) (sym (record_then q k (records q ls) t) ∙ (e ∙ record_then f m (records f (o ∷ ms)) w)) in
    let v = cut 10 k m (records q ls ++ t) (records f (o ∷ ms) ++ w) p.0 r.0 c.1 in
    one_path q f g ls (o ∷ ms) t w a b d n (λ z. absurd (cc)) p.1 r.1 l s v.1

-- ---- The one list

end_nil : (r s : List ℕ) → s ≡ [] → r ++ s ≡ r
end_nil r s e = ap (λ t. r ++ t) e ∙ append-nil r

ends_rest : (e : EntryData) (es : List EntryData) (q : List ℕ) → EndsOther (e ∷ es) q → EndsOther es q
ends_rest e [] q o = tt
ends_rest e (f ∷ es) q o = o

ends_one : (e : EntryData) (es : List EntryData) (q : List ℕ) → es ≡ [] → EndsOther (e ∷ es) q → EndsOther (e ∷ []) q
ends_one e [] q z o = o
ends_one e (f ∷ es) q z o = absurd (cc)

module _ (profile : Profile) where
  -- Bytes of one path hold no whole entry before another path.
  many : (f : EntryData) (fs : List EntryData) (q r g h u : List ℕ) → IsPath q → IsPath r → AreOfPath q u → SnapText profile (f ∷ fs) g → EndsOther (f ∷ fs) r → BeginsWith r h → u ≡ g ++ h → ⊥
  many f [] q r g h u a b p s o v e =
      one_path q f.path r p.lines s.0 p.begun h a (entry_path f) b o s.2.some p.plain (lines_plain profile f s.0 s.2) p.last v
      (sym p.split ∙ (e ∙ (ap (λ (x : List ℕ). x ++ h) (s.4 ∙ end_nil (records f.path s.0) s.1 s.5))))
  many f (k ∷ fs) q r g h u a b p s o v e =
      let n = entry_starts k.path s.5.0 (s.5.1 ++ h) s.5.2.some in
      one_path q f.path k.path p.lines s.0 p.begun (s.1 ++ h) a (entry_path f) (entry_path k) (λ z. s.3 (sym z)) s.2.some p.plain (lines_plain profile f s.0 s.2) p.last
      (n.0, (ap (λ (x : List ℕ). x ++ h) s.5.4 ∙ append_assoc (records k.path s.5.0) s.5.1 h) ∙ n.1)
      (sym p.split ∙ (e ∙ (ap (λ (x : List ℕ). x ++ h) s.4 ∙ append_assoc (records f.path s.0) s.1 h)))

some_entry : (k : EntryData) (es : List EntryData) → k ∷ es ≢ []
some_entry k es z = absurd (cc)

same_records : (p q : List ℕ) (ls ms : List (List ℕ)) (s t : List ℕ) → p ≡ q → ls ≡ ms → s ≡ t → records p ls ++ s ≡ records q ms ++ t
same_records p q ls ms s t a b c = cc

module _ (from to : Profile) where
  same : (es fs : List EntryData) (q r g h u v : List ℕ) → IsPath q → IsPath r → AreOfPath q u → AreOfPath r v → SnapText from es g → SnapText to fs h → EndsOther es q → EndsOther fs r →
      (es ≢ [] → BeginsWith q u) → (fs ≢ [] → BeginsWith r v) → g ++ u ≡ h ++ v → g ≡ h
  same [] [] q r g h u v a b p n s t o m x y e = s ∙ sym t
  same [] (f ∷ fs) q r g h u v a b p n s t o m x y e =
      absurd (many to f fs q r h v u a b p t m (y (some_entry f fs)) (ap (λ (w : List ℕ). w ++ u) (sym s) ∙ e))
  same (k ∷ es) [] q r g h u v a b p n s t o m x y e =
      absurd (many from k es r q g u v b a n s o (x (some_entry k es)) (ap (λ (w : List ℕ). w ++ v) (sym t) ∙ sym e))
  same (k ∷ es) (f ∷ fs) q r g h u v a b p n s t o m x y e =
      let i = x (some_entry k es) in
      let j = y (some_entry f fs) in
      let c = heads_lines k f s.0 t.0 (s.1 ++ u) (t.1 ++ v) (lines_plain from k s.0 s.2) (lines_plain to f t.0 t.2) s.2.some t.2.some
      (rest_not_of from k.path es s.1 u (entry_path k) s.3 s.5 (λ z. last_other k q u a i (ends_one k es q z o)))
      (rest_not_of to f.path fs t.1 v (entry_path f) t.3 t.5 (λ z. last_other f r v b j (ends_one f fs r z m)))
      (sym (append_assoc (records k.path s.0) s.1 u) ∙ (ap (λ (w : List ℕ). w ++ u) (sym s.4) ∙ (e ∙ (ap (λ (w : List ℕ). w ++ v) t.4 ∙ append_assoc (records f.path t.0) t.1 v)))) in
      let rest = same es fs q r s.1 t.1 u v a b p n s.5 t.5 (ends_rest k es q o) (ends_rest f fs r m) (λ z. i) (λ z. j) c.2 in
      s.4 ∙ same_records k.path f.path s.0 t.0 s.1 t.1 c.0 c.1 rest ∙ sym t.4

  -- The bytes of the closed entries are one, whatever the profile.
  pub given_once : (bytes : List ℕ) (es fs : List EntryData) (c : Closed from bytes es) (d : Closed to bytes fs) → c.given ≡ d.given
  given_once bytes es fs c d =
      same es fs c.path d.path c.given d.given c.present d.present c.good d.good c.of_path d.of_path c.entries d.entries c.other d.other c.begun d.begun (sym c.split ∙ d.split)

-- The bytes close one list of entries.
pub closed_once : (profile : Profile) (bytes : List ℕ) (es fs : List EntryData) → Closed profile bytes es → Closed profile bytes fs → es ≡ fs
closed_once profile bytes es fs c d = one_list profile es fs d.given (subst (SnapText profile es) (given_once profile profile bytes es fs c d) c.entries) d.entries

-- ---- What is begun, and the present entry

-- One record is begun.
pub begun_once : (bytes r s : List ℕ) → IsBegun bytes r → IsBegun bytes s → r ≡ s
begun_once bytes r s a b = one_back 10 a.front b.front r s a.ended b.ended a.plain b.plain (sym a.split ∙ b.split)

begun_plain : (q t : List ℕ) → IsPath q → IsBegunOf q t → Lacks 10 t
begun_plain q t a (inl n) = n.1
begun_plain q t a (inr l) = subst (Lacks 10) (sym l.2) (lacks_both 10 q (0 ∷ l.0) (path_lacks_newline q a) ((λ e. absurd (cc)), l.1))

newline_inside : (q l back t : List ℕ) → Lacks 10 t → t ≡ q ++ 0 ∷ (l ++ 10 ∷ back) → ⊥
newline_inside q l back t n e = lacks_inside 10 (q ++ 0 ∷ l) back (subst (Lacks 10) (e ∙ sym (append_assoc q (0 ∷ l) (10 ∷ back))) n)

some_line : (l : List ℕ) (ls : List (List ℕ)) → l ∷ ls ≢ []
some_line l ls e = absurd (cc)

lines_once : (q r : List ℕ) (ls ms : List (List ℕ)) (t s : List ℕ) → IsPath q → IsPath r → AllByRecursion (Lacks 10) ls → AllByRecursion (Lacks 10) ms → Lacks 10 t → Lacks 10 s →
    records q ls ++ t ≡ records r ms ++ s → (ls ≡ ms) × (ls ≢ [] → q ≡ r) × (t ≡ s)
lines_once q r [] [] t s a b p o n m e = (refl, (λ h. absurd (h refl)), e)
lines_once q r [] (k ∷ ms) t s a b p o n m e = absurd (newline_inside r k (records r ms ++ s) t n (e ∙ record_then r k (records r ms) s))
lines_once q r (l ∷ ls) [] t s a b p o n m e = absurd (newline_inside q l (records q ls ++ t) s m (sym e ∙ record_then q l (records q ls) t))
lines_once q r (l ∷ ls) (k ∷ ms) t s a b p o n m e =
    let c = cut 0 q r (l ++ 10 ∷ (records q ls ++ t)) (k ++ 10 ∷ (records r ms ++ s)) (path_lacks_nul q a) (path_lacks_nul r b) (sym (record_then q l (records q ls) t) ∙ (e ∙ record_then r k (records r ms) s)) in
    let d = cut 10 l k (records q ls ++ t) (records r ms ++ s) p.0 o.0 c.1 in
    let i = lines_once q r ls ms t s a b p.1 o.1 n m d.1 in
    let line = d.0 in
    let lines = i.0 in
    (cc, (λ h. c.0), i.2)

-- The bytes of the closed entries, the lines of the present one, and what is begun after them, are one; and its path is, where
-- it has a line.
pub one_closing : (profile : Profile) (bytes : List ℕ) (es : List EntryData) (c d : Closed profile bytes es) → AreOneClosing c d
one_closing profile bytes es c d =
    let given = given_once profile profile bytes es es c d in
    let present : c.present ≡ d.present = append_cancel_left d.given c.present d.present (subst (λ g. g ++ c.present ≡ d.given ++ d.present) given (sym c.split ∙ d.split)) in
    let lines = lines_once c.path d.path c.of_path.lines d.of_path.lines c.of_path.begun d.of_path.begun c.good d.good c.of_path.plain d.of_path.plain
    (begun_plain c.path c.of_path.begun c.good c.of_path.last) (begun_plain d.path d.of_path.begun d.good d.of_path.last) (sym c.of_path.split ∙ present ∙ d.of_path.split) in
    record { given = given; lines = lines.0; path = lines.1; begun = lines.2 }
