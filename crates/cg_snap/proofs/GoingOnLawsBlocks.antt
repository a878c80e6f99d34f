-- Bytes are blocks in one way, so one list is told of them.
use Rattle.std.proofs.Common.{◌≡◌, ◌≢◌, ℕ, ◌+◌, ◌<◌, ◌⊎◌, inl, inr, List, [], ◌∷◌, ◌++◌, length, Option, Some, None, refl, sym, ap, subst, ◌∙◌, append_assoc, arith}
use Rattle.std.proofs.lemmas.List.{append-nil, append_cancel_left, append_cancel_right}
use Rattle.std.specs.List.{AllByRecursion}
use Rattle.cg_text.specs.ListFacts.{push_one}
use Rattle.cg_text.specs.Texts.{Lacks}
use Rattle.cg_text.specs.TextsLaws.{lacks_inside, only_at_end}
use Rattle.cg_value.specs.Entry.{EntryData, IsPath}
use Rattle.cg_value.specs.PathLaws.{path_lacks_nul}
use Rattle.cg_value.specs.Records.{records}
use Rattle.cg_value.specs.declared.profile.Profile.{Profile}
use Rattle.cg_file.specs.WeightFileLaws.{not_empty}
use Rattle.cg_snap.specs.Begun.{IsLongRecord, IsRecordEnd}
use Rattle.cg_snap.specs.GoingOn.{AreOfOnePath, AreTold, AreToldBy, AreAllTold, Block, EndsLeftOut, Follows, HasPath, IsBehind, IsBlockOf, IsCause, IsLeftOut, IsOpen, IsWithin, IsWithoutPath, Tells, Told, block_limits, more, none}
use Rattle.cg_snap.specs.SnapLaws.{cut, one_back, one_list, record_then}
use Rattle.cg_snap.specs.Snap.{Snap}
use Rattle.cg_snap.specs.SnapStop.{IsManyRecords, IsRecordWhy, IsSnapUnstopped, SnapStopOf}
use Rattle.cg_snap.specs.Stop.{IsPassed, StopsAt, place_of}
use Rattle.cg_snap.specs.StreamStop.{IsLastWhy}
use Rattle.cg_snap.specs.declared.going_on.Cause.{Cause}
use Rattle.cg_snap.specs.declared.going_on.Cause.TheVariants as causes
use Rattle.cg_snap.specs.declared.going_on.LeftOut.{LeftOut}
use Rattle.cg_snap.specs.declared.limits.Limits.{Limits}
use Rattle.cg_snap.specs.declared.stop.Stop.{Stop}
use Rattle.cg_snap.specs.declared.stop.Stop.TheVariants as stops
use Rattle.cg_snap.proofs.Closes.{nul_plain, records_end}
use Rattle.cg_snap.proofs.Joins.{records-append}
use Rattle.cg_snap.proofs.OneStops.{one_stop}
use Rattle.cg_snap.proofs.Steps.{all_right}

-- ---- Lists

-- Where a byte stands in one text, it stands in another that is the same: before a mark of that, at it, or behind it.
pub cut_within : (a : List ℕ) (z : ℕ) (r p : List ℕ) (b : ℕ) (x : List ℕ) → a ++ z ∷ r ≡ p ++ b ∷ x →
    ((d : List ℕ) × (a ≡ p ++ b ∷ d)) ⊎ ((p ≡ a) × (b ≡ z) × (x ≡ r)) ⊎ ((d : List ℕ) × (p ≡ a ++ z ∷ d) × (r ≡ d ++ b ∷ x))
cut_within [] z r [] b x e = inr (inl (refl, cc, cc))
cut_within [] z r (c ∷ p) b x e = let h : z ≡ c = cc in inr (inr (p, cc, cc))
cut_within (y ∷ a) z r [] b x e = inl (a, cc)
cut_within (y ∷ a) z r (c ∷ p) b x e =
    let t : a ++ z ∷ r ≡ p ++ b ∷ x = cc in
    let h : y ≡ c = cc in
    elim (cut_within a z r p b x t) [
      | inl w ↦ let s = w.1 in inl (w.0, cc)
      | inr (inl w) ↦ let s = w.0 in inr (inl (cc, w.1, w.2))
      | inr (inr w) ↦ let s = w.1 in inr (inr (w.0, cc, w.2))
    ]

-- Two ways to cut a text: one front goes on to the other.
pub cut_twice : (f a g b : List ℕ) → f ++ a ≡ g ++ b → ((m : List ℕ) × (g ≡ f ++ m) × (a ≡ m ++ b)) ⊎ ((m : List ℕ) × (f ≡ g ++ m) × (b ≡ m ++ a))
cut_twice [] a g b e = inl (g, refl, e)
cut_twice (x ∷ f) a [] b e = inr (x ∷ f, refl, sym e)
cut_twice (x ∷ f) a (y ∷ g) b e =
    let t : f ++ a ≡ g ++ b = cc in
    let h : x ≡ y = cc in
    elim (cut_twice f a g b t) [
      | inl w ↦ let s = w.1 in inl (w.0, cc, w.2)
      | inr w ↦ let s = w.1 in inr (w.0, cc, w.2)
    ]

-- A text is empty where both of its parts are.
pub append_empty : (x y : List ℕ) → x ++ y ≡ [] → (x ≡ []) × (y ≡ [])
append_empty [] y e = (refl, e)
append_empty (c ∷ x) y e = absurd (cc)

-- A list is empty or has a last.
abbrev pub HasLast : {X : Type 0} → List X → Type 0
HasLast {X} xs = (xs ≡ []) ⊎ ((front : List X) × (last : X) × (xs ≡ front ++ last ∷ []))

pub last_in : {X : Type 0} (xs : List X) → HasLast xs
last_in [] = inl refl
last_in {X} (x ∷ xs) = elim (last_in xs) [
  | inl e ↦ inr ([], x, ap (λ (t : List X). x ∷ t) e)
  | inr w ↦ inr (x ∷ w.0, w.1, ap (λ (t : List X). x ∷ t) w.2)
]

pub push_both : {X : Type 0} (xs ys : List X) (a b : X) → xs ++ a ∷ [] ≡ ys ++ b ∷ [] → (xs ≡ ys) × (a ≡ b)
push_both [] [] a b e = (refl, cc)
push_both [] (y ∷ []) a b e = absurd (cc)
push_both [] (y ∷ z ∷ ys) a b e = absurd (cc)
push_both (x ∷ []) [] a b e = absurd (cc)
push_both (x ∷ z ∷ xs) [] a b e = absurd (cc)
push_both {X} (x ∷ xs) (y ∷ ys) a b e =
    let t : xs ++ a ∷ [] ≡ ys ++ b ∷ [] = cc in
    let h : x ≡ y = cc in
    let r = push_both xs ys a b t in
    let s = r.0 in
    (cc, r.1)

pub push_some : {X : Type 0} (xs : List X) (x : X) → xs ++ x ∷ [] ≡ [] → ⊥
push_some [] x e = cc
push_some (y ∷ xs) x e = cc

pub lacks_front : (b : ℕ) (xs ys : List ℕ) → Lacks b (xs ++ ys) → Lacks b xs
lacks_front b [] ys p = tt
lacks_front b (x ∷ xs) ys p = (p.0, lacks_front b xs ys p.1)

-- ---- The ends of records

pub ends_both : (f g : List ℕ) → IsRecordEnd f → IsRecordEnd g → IsRecordEnd (f ++ g)
ends_both f g a (inl e) = rw (e, append-nil) a
ends_both f g a (inr w) = inr (f ++ w.0, ap (λ (t : List ℕ). f ++ t) w.1 ∙ sym (append_assoc f w.0 (10 ∷ [])))

-- Where bytes come behind others and end a record, they end with a newline.
pub end_behind : (f m : List ℕ) → m ≢ [] → IsRecordEnd (f ++ m) → (x : List ℕ) × (m ≡ x ++ 10 ∷ [])
end_behind f m n a = elim (last_in m) [
  | inl e ↦ absurd (n e)
  | inr w ↦
      let same : f ++ m ≡ (f ++ w.0) ++ w.1 ∷ [] = ap (λ (t : List ℕ). f ++ t) w.2 ∙ sym (append_assoc f w.0 (w.1 ∷ [])) in
      elim a [
        | inl e ↦ absurd (not_empty (f ++ w.0) [] w.1 (sym same ∙ e))
        | inr g ↦ let s = push_one (f ++ w.0) g.0 w.1 10 (sym same ∙ g.1) in (w.0, w.2 ∙ ap (λ (c : ℕ). w.0 ++ c ∷ []) s.1)
      ]
]

-- ---- Lines

-- No newline but at the end.
abbrev pub IsOneLine : List ℕ → Type 0
IsOneLine line = Lacks 10 line ⊎ ((front : List ℕ) × Lacks 10 front × (line ≡ front ++ 10 ∷ []))

-- And at least one byte.
pub record IsLine (line : List ℕ) : Type 0 where
  pub some : line ≢ []
  pub plain : IsOneLine line

push_plain : (line f g : List ℕ) → line ≢ [] → Lacks 10 line → f ++ line ≡ g ++ 10 ∷ [] → ⊥
push_plain line f g n p e = let w = end_behind f line n (inr (g, e)) in lacks_inside 10 w.0 [] (subst (Lacks 10) w.1 p)

-- A text has one last line.
pub line_once : (f g a b : List ℕ) → IsRecordEnd f → IsRecordEnd g → IsLine a → IsLine b → f ++ a ≡ g ++ b → (f ≡ g) × (a ≡ b)
line_once f g a b e h l m t = both (of l.plain m.plain)
  where
    both : a ≡ b → (f ≡ g) × (a ≡ b)
    both s = (append_cancel_right f g a (t ∙ ap (λ (x : List ℕ). g ++ x) (sym s)), s)

    of : (IsOneLine a) → (IsOneLine b) → a ≡ b
    of (inl p) (inl q) = one_back 10 f g a b e h p q t
    of (inl p) (inr q) = absurd (push_plain a f (g ++ q.0) l.some p (t ∙ (ap (λ (x : List ℕ). g ++ x) q.2 ∙ sym (append_assoc g q.0 (10 ∷ [])))))
    of (inr p) (inl q) = absurd (push_plain b g (f ++ p.0) m.some q (sym t ∙ (ap (λ (x : List ℕ). f ++ x) p.2 ∙ sym (append_assoc f p.0 (10 ∷ [])))))
    of (inr p) (inr q) =
        let s : (f ++ p.0) ++ 10 ∷ [] ≡ (g ++ q.0) ++ 10 ∷ [] = append_assoc f p.0 (10 ∷ []) ∙ (ap (λ (x : List ℕ). f ++ x) (sym p.2) ∙ (t ∙ (ap (λ (x : List ℕ). g ++ x) q.2 ∙ sym (append_assoc g q.0 (10 ∷ []))))) in
        let u = push_one (f ++ p.0) (g ++ q.0) 10 10 s in
        p.2 ∙ (ap (λ (x : List ℕ). x ++ 10 ∷ []) (one_back 10 f g p.0 q.0 e h p.1 q.1 u.0) ∙ sym q.2)

-- The line has this path, if it has one.
abbrev pub IsPathOf : ℕ → List ℕ → Option (List ℕ) → Type 0
IsPathOf max line None = (path : List ℕ) → HasPath max line path → ⊥
IsPathOf max line (Some path) = HasPath max line path

one_path : (max : ℕ) (line p q : List ℕ) → HasPath max line p → HasPath max line q → p ≡ q
one_path max line p q h g = (cut 0 p q h.back g.back (path_lacks_nul p h.good) (path_lacks_nul q g.good) (sym h.split ∙ g.split)).0

pub path_once : (max : ℕ) (line : List ℕ) (p q : Option (List ℕ)) → IsPathOf max line p → IsPathOf max line q → p ≡ q
path_once max line None None h g = refl
path_once max line None (Some q) h g = absurd (h q g)
path_once max line (Some p) None h g = absurd (g p h)
path_once max line (Some p) (Some q) h g = ap (λ (t : List ℕ). Some t) (one_path max line p q h g)

-- The last line of some bytes, which has this path.
pub record LastLine (max : ℕ) (path : Option (List ℕ)) (bytes : List ℕ) : Type 0 where
  pub front : List ℕ
  pub line : List ℕ
  pub split : bytes ≡ front ++ line
  pub ended : IsRecordEnd front
  pub is_line : IsLine line
  pub path_is : IsPathOf max line path
  pub known : IsOpen max line → ⊥

-- What came of a line of the path behind whole ones, if anything; and how a block of it ends.
abbrev pub IsLineBegun : List ℕ → List ℕ → Type 0
IsLineBegun path begun = (begun ≡ []) ⊎ ((line : List ℕ) × Lacks 10 line × (begun ≡ path ++ 0 ∷ line))

abbrev pub EndsBlock : List ℕ → List (List ℕ) → List ℕ → Type 0
EndsBlock path lines begun = ((begun ≡ []) × (lines ≢ [])) ⊎ ((line : List ℕ) × Lacks 10 line × (begun ≡ path ++ 0 ∷ line))

nul_known : (max : ℕ) (path line : List ℕ) → IsOpen max (path ++ 0 ∷ line) → ⊥
nul_known max path line o = lacks_inside 0 path line o.no_nul

nul_has : (max : ℕ) (path line : List ℕ) → IsPath path → length path < max → HasPath max (path ++ 0 ∷ line) path
nul_has max path line g lt = record { good = g; within = lt; back = line; split = refl }

empty_open : (max : ℕ) → IsOpen max []
empty_open max = record { no_nul = tt; plain = tt; short = omega arith }

pub begun_end : (path begun : List ℕ) (lines : List (List ℕ)) → EndsBlock path lines begun → IsLineBegun path begun
begun_end path begun lines (inl w) = inl w.0
begun_end path begun lines (inr l) = inr l

-- A block of a path begins with it.
pub block_begins : (path bytes : List ℕ) → AreOfOnePath path bytes → (back : List ℕ) × (bytes ≡ path ++ 0 ∷ back)
block_begins path bytes a = of a.lines a.last a.split
  where
    of : (lines : List (List ℕ)) → EndsBlock path lines a.begun → bytes ≡ records path lines ++ a.begun → (back : List ℕ) × (bytes ≡ path ++ 0 ∷ back)
    of [] (inl w) e = absurd (w.1 refl)
    of [] (inr l) e = (l.0, e ∙ l.2)
    of (k ∷ lines) w e = (k ++ 10 ∷ (records path lines ++ a.begun), e ∙ record_then path k (records path lines) a.begun)

pub begun_plain : (path begun : List ℕ) → IsPath path → IsLineBegun path begun → Lacks 10 begun
begun_plain path begun g (inl z) = subst (Lacks 10) (sym z) tt
begun_plain path begun g (inr l) = subst (Lacks 10) (sym l.2) (nul_plain path l.0 g l.1)

module _ (max : ℕ) where
  path_last : (path bytes : List ℕ) → IsPath path → length path < max → AreOfOnePath path bytes → LastLine max (Some path) bytes
  path_last path bytes g lt a = of a.last
    where
      of : EndsBlock path a.lines a.begun → LastLine max (Some path) bytes
      of (inr l) = record {
        front = records path a.lines;
        line = path ++ 0 ∷ l.0;
        split = a.split ∙ ap (λ (t : List ℕ). records path a.lines ++ t) l.2;
        ended = records_end path [] a.lines (inl refl);
        is_line = record { some = not_empty path l.0 0; plain = inl (nul_plain path l.0 g l.1) };
        path_is = nul_has max path l.0 g lt;
        known = nul_known max path l.0;
      }
      of (inl w) = elim (last_in a.lines) [
        | inl e ↦ absurd (w.1 e)
        | inr l ↦
            let plain : AllByRecursion (Lacks 10) (l.0 ++ l.1 ∷ []) = subst (AllByRecursion (Lacks 10)) l.2 a.plain in
            let last = all_right (Lacks 10) l.0 (l.1 ∷ []) plain in
            record {
              front = records path l.0;
              line = path ++ 0 ∷ (l.1 ++ 10 ∷ []);
              split = a.split ∙ (ap (λ (t : List ℕ). records path a.lines ++ t) w.0 ∙ (append-nil (records path a.lines) ∙ (ap (λ (t : List (List ℕ)). records path t) l.2 ∙ records-append path l.0 (l.1 ∷ []))));
              ended = records_end path [] l.0 (inl refl);
              is_line = record { some = not_empty path (l.1 ++ 10 ∷ []) 0; plain = inr (path ++ 0 ∷ l.1, nul_plain path l.1 g last.0, sym (append_assoc path (0 ∷ l.1) (10 ∷ []))) };
              path_is = nul_has max path (l.1 ++ 10 ∷ []) g lt;
              known = nul_known max path (l.1 ++ 10 ∷ []);
            }
      ]

  none_last : (bytes : List ℕ) → IsWithoutPath max bytes → LastLine max None bytes
  none_last bytes w = record {
    front = [];
    line = bytes;
    split = refl;
    ended = inl refl;
    is_line = record {
      some = λ e. w.known (subst (IsOpen max) (sym e) (empty_open max));
      plain = elim w.split [ inl e ↦ inl (subst (Lacks 10) (sym e) w.plain) | inr e ↦ inr (w.line, w.plain, e) ];
    };
    path_is = w.none;
    known = w.known;
  }

  pub last_line : (path : Option (List ℕ)) (bytes : List ℕ) → IsBlockOf max path bytes → LastLine max path bytes
  last_line None bytes b = none_last bytes b
  last_line (Some path) bytes b = path_last path bytes b.0 b.1 b.2

  -- A block has bytes.
  pub block_some : (path : Option (List ℕ)) (bytes : List ℕ) → IsBlockOf max path bytes → bytes ≢ []
  block_some path bytes b e = let l = last_line path bytes b in l.is_line.some (append_empty l.front l.line (sym l.split ∙ e)).1

  -- The last line of a block behind others.
  pub line_behind : (front bytes : List ℕ) (path : Option (List ℕ)) → IsRecordEnd front → IsBlockOf max path bytes → LastLine max path (front ++ bytes)
  line_behind front bytes path e b =
      let l = last_line path bytes b in
      record {
        front = front ++ l.front;
        line = l.line;
        split = ap (λ (t : List ℕ). front ++ t) l.split ∙ sym (append_assoc front l.front l.line);
        ended = ends_both front l.front e l.ended;
        is_line = l.is_line;
        path_is = l.path_is;
        known = l.known;
      }

  -- Bytes whose last line has a path have no other.
  pub last_once : (bytes : List ℕ) (p q : Option (List ℕ)) → LastLine max p bytes → LastLine max q bytes → p ≡ q
  last_once bytes p q a b =
      let s = line_once a.front b.front a.line b.line a.ended b.ended a.is_line b.is_line (sym a.split ∙ b.split) in
      path_once max b.line p q (subst (λ (t : List ℕ). IsPathOf max t p) s.1 a.path_is) b.path_is

  -- ---- A block isn't the front of another

  records_cut : (path : List ℕ) (lines : List (List ℕ)) (begun x w : List ℕ) → IsPath path → AllByRecursion (Lacks 10) lines → Lacks 10 begun →
      records path lines ++ begun ≡ x ++ 10 ∷ w →
      (ls : List (List ℕ)) × (l : List ℕ) × (ms : List (List ℕ)) × Lacks 10 l × AllByRecursion (Lacks 10) ms × (x ≡ records path ls ++ (path ++ 0 ∷ l)) × (w ≡ records path ms ++ begun)
  records_cut path [] begun x w g p n e = absurd (lacks_inside 10 x w (subst (Lacks 10) e n))
  records_cut path (k ∷ lines) begun x w g p n e =
      let t : (path ++ 0 ∷ k) ++ 10 ∷ (records path lines ++ begun) ≡ x ++ 10 ∷ w = append_assoc path (0 ∷ k) (10 ∷ (records path lines ++ begun)) ∙ (sym (record_then path k (records path lines) begun) ∙ e) in
      elim (cut_within (path ++ 0 ∷ k) 10 (records path lines ++ begun) x 10 w t) [
        | inl u ↦ absurd (lacks_inside 10 x u.0 (subst (Lacks 10) u.1 (nul_plain path k g p.0)))
        | inr (inl u) ↦ ([], k, lines, p.0, p.1, u.0, u.2)
        | inr (inr u) ↦
            let r = records_cut path lines begun u.0 w g p.1 n u.2 in
            let same : x ≡ (path ++ 0 ∷ k) ++ 10 ∷ (records path r.0 ++ (path ++ 0 ∷ r.1)) = u.1 ∙ ap (λ (y : List ℕ). (path ++ 0 ∷ k) ++ 10 ∷ y) r.5 in
            (k ∷ r.0, r.1, r.2, r.3, r.4, same ∙ (append_assoc path (0 ∷ k) (10 ∷ (records path r.0 ++ (path ++ 0 ∷ r.1))) ∙ sym (record_then path k (records path r.0) (path ++ 0 ∷ r.1))), r.6)
      ]

  -- What begins with a path and its NUL is a block of this path, if it is one.
  pub begins_of : (p : Option (List ℕ)) (q bytes back : List ℕ) → IsBlockOf max p bytes → IsPath q → length q < max → bytes ≡ q ++ 0 ∷ back → p ≡ Some q
  begins_of None q bytes back b g lt e = absurd (b.none q (record { good = g; within = lt; back = back; split = e }))
  begins_of (Some p) q bytes back b g lt e =
      let s = block_begins p bytes b.2 in
      ap (λ (t : List ℕ). Some t) (cut 0 p q s.0 back (path_lacks_nul p b.0) (path_lacks_nul q g) (sym s.1 ∙ e)).0

  -- The bytes, at least one, begin a block of this path where they begin with a path and its NUL.
  abbrev pub Begins : Option (List ℕ) → List ℕ → Type 0
  Begins p bytes = (bytes ≢ []) × ((q back : List ℕ) → IsPath q → length q < max → bytes ≡ q ++ 0 ∷ back → p ≡ Some q)

  pub block_starts : (p : Option (List ℕ)) (bytes : List ℕ) → IsBlockOf max p bytes → Begins p bytes
  block_starts p bytes b = (block_some p bytes b, λ q back g lt e. begins_of p q bytes back b g lt e)

  rest_begins : (path : List ℕ) (ms : List (List ℕ)) (begun w : List ℕ) → w ≢ [] → w ≡ records path ms ++ begun → IsLineBegun path begun →
      (back : List ℕ) × (w ≡ path ++ 0 ∷ back)
  rest_begins path [] begun w n e (inl z) = absurd (n (e ∙ z))
  rest_begins path [] begun w n e (inr l) = (l.0, e ∙ l.2)
  rest_begins path (m ∷ ms) begun w n e l = (m ++ 10 ∷ (records path ms ++ begun), e ∙ record_then path m (records path ms) begun)

  line_text : (f x r p l : List ℕ) → x ≡ r ++ (p ++ 0 ∷ l) → f ++ (x ++ 10 ∷ []) ≡ (f ++ r) ++ (p ++ 0 ∷ (l ++ 10 ∷ []))
  line_text f x r p l e = rw e (simp append_assoc)

  no_part : (front m b x : List ℕ) (p q r : Option (List ℕ)) → IsRecordEnd front → IsBlockOf max p (m ++ b) → Begins q b → LastLine max r (front ++ m) →
      m ≡ x ++ 10 ∷ [] → ((t : List ℕ) → r ≡ Some t → q ≡ Some t → ⊥) → ⊥
  no_part front m b x None q r e w v l s o =
      let same : m ++ b ≡ x ++ 10 ∷ b = ap (λ (t : List ℕ). t ++ b) s ∙ append_assoc x (10 ∷ []) b in
      elim w.split [
        | inl z ↦ lacks_inside 10 x b (subst (Lacks 10) (sym z ∙ same) w.plain)
        | inr z ↦ v.0 (only_at_end 10 w.line x b w.plain (sym z ∙ same))
      ]
  no_part front m b x (Some p) q r e w v l s o =
      let a = w.2 in
      let same : m ++ b ≡ x ++ 10 ∷ b = ap (λ (t : List ℕ). t ++ b) s ∙ append_assoc x (10 ∷ []) b in
      let last = begun_end p a.begun a.lines a.last in
      let c = records_cut p a.lines a.begun x b w.0 a.plain (begun_plain p a.begun w.0 last) (sym a.split ∙ same) in
      let begins = rest_begins p c.2 a.begun b v.0 c.6 last in
      let whole : front ++ m ≡ (front ++ records p c.0) ++ (p ++ 0 ∷ (c.1 ++ 10 ∷ [])) = ap (λ (t : List ℕ). front ++ t) s ∙ line_text front x (records p c.0) p c.1 c.5 in
      let mine : LastLine max (Some p) (front ++ m) = record {
        front = front ++ records p c.0;
        line = p ++ 0 ∷ (c.1 ++ 10 ∷ []);
        split = whole;
        ended = records_end p front c.0 e;
        is_line = record { some = not_empty p (c.1 ++ 10 ∷ []) 0; plain = inr (p ++ 0 ∷ c.1, nul_plain p c.1 w.0 c.3, sym (append_assoc p (0 ∷ c.1) (10 ∷ []))) };
        path_is = nul_has max p (c.1 ++ 10 ∷ []) w.0 w.1;
        known = nul_known max p (c.1 ++ 10 ∷ []);
      } in
      o p (last_once (front ++ m) r (Some p) l mine) (v.1 p begins.0 w.0 w.1 begins.1)

-- ---- One list

abbrev pub IsSnapPassed : Profile → Limits → List ℕ → ℕ → Type 0
IsSnapPassed profile limits bytes k = IsPassed (Snap profile) (IsLastWhy (IsRecordWhy profile)) (IsLongRecord limits.max_record) (IsManyRecords profile limits.max_lines) limits.max_stream bytes k

abbrev pub IsSnapStopAt : Profile → Limits → List ℕ → ℕ → Stop → Type 0
IsSnapStopAt profile limits bytes k stop = StopsAt (Snap profile) (IsLastWhy (IsRecordWhy profile)) (IsLongRecord limits.max_record) (IsManyRecords profile limits.max_lines) limits.max_stream bytes k stop

abbrev made_block : Option (List ℕ) → List ℕ → Block
made_block path bytes = record { path = path; bytes = bytes }

abbrev made_out : ℕ → Option (List ℕ) → Cause → LeftOut
made_out at path cause = record { at = at; path = path; cause = cause }

pub entry_not_out : (x : EntryData) (y : LeftOut) → let a : Told = inl x in let b : Told = inr y in a ≡ b → ⊥
entry_not_out x y e = cc

module _ (profile : Profile) (limits : Limits) where
  -- What was told of bytes, if any came, ends with a line of the last path.
  pub told_line : (bytes : List ℕ) (path : Option (List ℕ)) (told : List Told) → AreTold profile limits bytes path told →
      (bytes ≡ []) ⊎ LastLine limits.max_record path bytes
  told_line bytes path told (none b p t) = inl b
  told_line bytes path told (more front last before block one rest follows tells b p t) =
      inr (subst (λ (s : List ℕ). LastLine limits.max_record path s) (sym b)
      (subst (λ (q : Option (List ℕ)). LastLine limits.max_record q (front ++ block.bytes)) (sym p) (line_behind limits.max_record front block.bytes block.path follows.ended follows.is_block)))

  block_of : (p q : Option (List ℕ)) (x y : List ℕ) → p ≡ q → x ≡ y → made_block p x ≡ made_block q y
  block_of p q x y e f = rw (e, f) refl

  same_block : (a b : Block) → a.path ≡ b.path → a.bytes ≡ b.bytes → a ≡ b
  same_block a b p e = block_of a.path b.path a.bytes b.bytes p e

  pub not_both : (front m : List ℕ) (path : Option (List ℕ)) (told : List Told) (p q : Option (List ℕ)) (b : List ℕ) → m ≢ [] → IsRecordEnd front →
      IsRecordEnd (front ++ m) →
      AreTold profile limits (front ++ m) path told → IsBlockOf limits.max_record p (m ++ b) → Begins limits.max_record q b →
      ((t : List ℕ) → path ≡ Some t → q ≡ Some t → ⊥) → ⊥
  not_both front m path told p q b n e f t v w o =
      let x = end_behind front m n f in
      elim (told_line (front ++ m) path told t) [
        | inl z ↦ absurd (n (append_empty front m z).1)
        | inr l ↦ no_part limits.max_record front m b x.0 p q path e v w l x.1 o
      ]

  -- Where two blocks follow blocks and all is the same bytes, they are one, behind the same bytes.
  module _ (f g : List ℕ) (p q : Option (List ℕ)) (s t : List Told) (a b : Block) (h : AreTold profile limits f p s) (k : AreTold profile limits g q t)
      (v : Follows limits.max_record f p a) (w : Follows limits.max_record g q b) (e : f ++ a.bytes ≡ g ++ b.bytes) where
    front_once : f ≡ g
    front_once = elim (cut_twice f a.bytes g b.bytes e) [
      | inl m ↦ elim (last_in m.0) [
        | inl z ↦ sym (m.1 ∙ (ap (λ (x : List ℕ). f ++ x) z ∙ append-nil f))
        | inr l ↦ absurd (not_both f m.0 q t a.path b.path b.bytes (λ z. not_empty l.0 [] l.1 (sym l.2 ∙ z)) v.ended (subst IsRecordEnd m.1 w.ended)
            (subst (λ (x : List ℕ). AreTold profile limits x q t) m.1 k) (subst (λ (x : List ℕ). IsBlockOf limits.max_record a.path x) m.2 v.is_block) (block_starts limits.max_record b.path b.bytes w.is_block) w.other)
      ]
      | inr m ↦ elim (last_in m.0) [
        | inl z ↦ m.1 ∙ (ap (λ (x : List ℕ). g ++ x) z ∙ append-nil g)
        | inr l ↦ absurd (not_both g m.0 p s b.path a.path a.bytes (λ z. not_empty l.0 [] l.1 (sym l.2 ∙ z)) w.ended (subst IsRecordEnd m.1 v.ended)
            (subst (λ (x : List ℕ). AreTold profile limits x p s) m.1 h) (subst (λ (x : List ℕ). IsBlockOf limits.max_record b.path x) m.2 w.is_block) (block_starts limits.max_record a.path a.bytes v.is_block) v.other)
      ]
    ]

    block_once : a ≡ b
    block_once =
        let bytes : a.bytes ≡ b.bytes = append_cancel_left g a.bytes b.bytes (subst (λ (x : List ℕ). x ++ a.bytes ≡ g ++ b.bytes) front_once e) in
        let path : a.path ≡ b.path =
        last_once limits.max_record b.bytes a.path b.path (subst (λ (x : List ℕ). LastLine limits.max_record a.path x) bytes (last_line limits.max_record a.path a.bytes v.is_block)) (last_line limits.max_record b.path b.bytes w.is_block) in
        same_block a b path bytes

  -- ---- What is told of a block

  cause_once : (c d : Cause) (stop : Stop) → IsCause c stop → IsCause d stop → c ≡ d
  cause_once (causes.Refused v) (causes.Refused w) stop h g = let e : stops.Refused h.0 v ≡ stops.Refused g.0 w = sym h.1 ∙ g.1 in cc
  cause_once (causes.Refused v) causes.TooLong stop h g = let e : stops.Refused h.0 v ≡ stops.TooLong g.0 = sym h.1 ∙ g.1 in absurd (cc)
  cause_once (causes.Refused v) causes.TooMany stop h g = let e : stops.Refused h.0 v ≡ stops.TooMany g.0 = sym h.1 ∙ g.1 in absurd (cc)
  cause_once causes.TooLong (causes.Refused w) stop h g = let e : stops.TooLong h.0 ≡ stops.Refused g.0 w = sym h.1 ∙ g.1 in absurd (cc)
  cause_once causes.TooLong causes.TooLong stop h g = refl
  cause_once causes.TooLong causes.TooMany stop h g = let e : stops.TooLong h.0 ≡ stops.TooMany g.0 = sym h.1 ∙ g.1 in absurd (cc)
  cause_once causes.TooMany (causes.Refused w) stop h g = let e : stops.TooMany h.0 ≡ stops.Refused g.0 w = sym h.1 ∙ g.1 in absurd (cc)
  cause_once causes.TooMany causes.TooLong stop h g = let e : stops.TooMany h.0 ≡ stops.TooLong g.0 = sym h.1 ∙ g.1 in absurd (cc)
  cause_once causes.TooMany causes.TooMany stop h g = refl

  out_of : (n m : ℕ) (p q : Option (List ℕ)) (c d : Cause) → n ≡ m → p ≡ q → c ≡ d → made_out n p c ≡ made_out m q d
  out_of n m p q c d e f g = rw (e, f, g) refl

  same_out : (x y : LeftOut) → x.at ≡ y.at → x.path ≡ y.path → x.cause ≡ y.cause → x ≡ y
  same_out x y a p c = out_of x.at y.at x.path y.path x.cause y.cause a p c

  pub stopped_not : (bytes : List ℕ) (stop : Stop) → IsSnapUnstopped profile (block_limits limits) bytes →
      SnapStopOf profile (block_limits limits) bytes stop → ⊥
  stopped_not bytes stop u h = stops_none h.place stop (u h.place h.within) h.stops
    where
      stops_none : (k : ℕ) (stop : Stop) → IsSnapPassed profile (block_limits limits) bytes k → IsSnapStopAt profile (block_limits limits) bytes k stop → ⊥
      stops_none k (stops.Refused at why) p h = h.1 p.viable
      stops_none k (stops.TooLong at) p h = p.short h.2
      stops_none k (stops.TooMany at) p h = p.few h.3
      stops_none k (stops.TooMuch at) p h = p.before h.4
      stops_none k (stops.Cut at) p h = h

  pub out_once : (start : ℕ) (block : Block) (x y : LeftOut) → IsLeftOut profile limits start block x → IsLeftOut profile limits start block y → x ≡ y
  out_once start block x y h g =
      let same : h.stop ≡ g.stop = one_stop profile (block_limits limits) block.bytes h.stop g.stop h.stops g.stops in
      same_out x y (h.at ∙ (ap (λ (s : Stop). start + place_of s) same ∙ sym g.at)) (h.path ∙ sym g.path) (cause_once x.cause y.cause g.stop (subst (λ (s : Stop). IsCause x.cause s) same h.cause) g.cause)

  tells_once : (start : ℕ) (block : Block) (x y : Told) → Tells profile limits start block x → Tells profile limits start block y → x ≡ y
  tells_once start block (inl d) (inl e) h g = ap (λ (t : EntryData). inl t) (first (one_list profile (d ∷ []) (e ∷ []) block.bytes h.whole g.whole))
    where
      first : d ∷ [] ≡ e ∷ [] → d ≡ e
      first s = cc
  tells_once start block (inl d) (inr y) h g = absurd (stopped_not block.bytes g.stop h.unstopped g.stops)
  tells_once start block (inr x) (inl e) h g = absurd (stopped_not block.bytes h.stop g.unstopped h.stops)
  tells_once start block (inr x) (inr y) h g = ap (λ (t : LeftOut). inr t) (out_once start block x y h g)

  -- ---- Blocks of which all is told

  pub no_more : (front : List ℕ) (last : Option (List ℕ)) (block : Block) (bytes : List ℕ) → Follows limits.max_record front last block → bytes ≡ [] →
      bytes ≡ front ++ block.bytes → ⊥
  no_more front last block bytes f z e = block_some limits.max_record block.path block.bytes f.is_block (append_empty front block.bytes (sym e ∙ z)).1

  pub told_once : (bytes : List ℕ) (p q : Option (List ℕ)) (s t : List Told) → AreTold profile limits bytes p s → AreTold profile limits bytes q t →
      (p ≡ q) × (s ≡ t)
  told_once bytes p q s t (none b c d) (none e f g) = (c ∙ sym f, d ∙ sym g)
  told_once bytes p q s t (none b c d) (more front last before block one rest follows tells e f g) = absurd (no_more front last block bytes follows b e)
  told_once bytes p q s t (more front last before block one rest follows tells b c d) (none e f g) = absurd (no_more front last block bytes follows e b)
  told_once bytes p q s t (more front last before block one rest follows tells b c d) (more front' last' before' block' one' rest' follows' tells' e f g) =
      let front_is : front ≡ front' = front_once front front' last last' before before' block block' rest rest' follows follows' (sym b ∙ e) in
      let block_is : block ≡ block' = block_once front front' last last' before before' block block' rest rest' follows follows' (sym b ∙ e) in
      let r = told_once front last last' before before' rest (subst (λ (x : List ℕ). AreTold profile limits x last' before') (sym front_is) rest') in
      let tells_too : Tells profile limits (length front) block one' =
      subst (λ (x : Block). Tells profile limits (length front) x one') (sym block_is) (subst (λ (x : List ℕ). Tells profile limits (length x) block' one') (sym front_is) tells') in
      let one_is : one ≡ one' = tells_once (length front) block one one' tells tells_too in
      (c ∙ (ap (λ (x : Block). x.path) block_is ∙ sym f), d ∙ (ap (λ (x : List Told). x ++ one ∷ []) r.1 ∙ (ap (λ (x : Told). before' ++ x ∷ []) one_is ∙ sym g)))

  -- ---- With what came of a line whose path isn't known

  -- Bytes that end with a line whose path is known, or are none; and then what came of one whose path isn't.
  pub record HasOpen (bytes front tail : List ℕ) : Type 0 where
    pub split : bytes ≡ front ++ tail
    pub is_open : IsOpen limits.max_record tail
    pub ended : (tail ≡ []) ⊎ IsRecordEnd front
    pub last : (front ≡ []) ⊎ ((path : Option (List ℕ)) × LastLine limits.max_record path front)

  -- No line whose path is known is what came of one whose path isn't.
  open_none : (bytes f g a b : List ℕ) → HasOpen bytes f a → HasOpen bytes g b → a ≡ [] → b ≡ []
  open_none bytes f g a b h k z = elim (last_in b) [
    | inl e ↦ e
    | inr w ↦
        let some : b ≢ [] = λ e. not_empty w.0 [] w.1 (sym w.2 ∙ e) in
        let same : f ≡ g ++ b = sym (append-nil f) ∙ (ap (λ (x : List ℕ). f ++ x) (sym z) ∙ (sym h.split ∙ k.split)) in
        let ended : IsRecordEnd g = elim k.ended [ inl e ↦ absurd (some e) | inr e ↦ e ] in
        elim h.last [
          | inl e ↦ absurd (some (append_empty g b (sym same ∙ e)).1)
          | inr l ↦
              let m = l.1 in
              let s = line_once m.front g m.line b m.ended ended m.is_line (record { some = some; plain = inl k.is_open.plain }) (sym m.split ∙ same) in
              absurd (m.known (subst (IsOpen limits.max_record) (sym s.1) k.is_open))
        ]
  ]

  open_once : (bytes f g a b : List ℕ) → HasOpen bytes f a → HasOpen bytes g b → f ≡ g
  open_once bytes f g a b h k = fronts (elim h.ended [
    | inl e ↦ e ∙ sym (open_none bytes f g a b h k e)
    | inr d ↦ elim k.ended [
      | inl e ↦ open_none bytes g f b a k h e ∙ sym e
      | inr e ↦ one_back 10 f g a b d e h.is_open.plain k.is_open.plain (sym h.split ∙ k.split)
    ]
  ])
    where
      fronts : a ≡ b → f ≡ g
      fronts s = append_cancel_right f g a (sym h.split ∙ (k.split ∙ ap (λ (x : List ℕ). g ++ x) (sym s)))

  pub behind_open : (bytes : List ℕ) (told : List Told) (h : IsBehind profile limits bytes told) → HasOpen bytes h.front h.tail
  behind_open bytes told h = record {
    split = h.split;
    is_open = h.is_open;
    ended = h.ended;
    last = elim (told_line h.front h.path told h.blocks) [ inl e ↦ inl e | inr l ↦ inr (h.path, l) ];
  }

  pub within_open : (bytes : List ℕ) (told : List Told) (h : IsWithin profile limits bytes told) → HasOpen bytes (h.front ++ h.block.bytes) h.tail
  within_open bytes told h = record {
    split = h.split ∙ sym (append_assoc h.front h.block.bytes h.tail);
    is_open = h.is_open;
    ended = elim h.ended [ inl e ↦ inl e | inr e ↦ inr (ends_both h.front h.block.bytes h.follows.ended e) ];
    last = inr (h.block.path, line_behind limits.max_record h.front h.block.bytes h.block.path h.follows.ended h.follows.is_block);
  }

  -- Where the last block of some is left out, it isn't one at which nothing is at fault.
  left_out_not : (bytes f : List ℕ) (p q : Option (List ℕ)) (told s : List Told) (block : Block) → AreTold profile limits bytes p told →
      EndsLeftOut profile limits told →
      AreTold profile limits f q s → Follows limits.max_record f q block → IsSnapUnstopped profile (block_limits limits) block.bytes →
      bytes ≡ f ++ block.bytes → ⊥
  left_out_not bytes f p q told s block (none b c d) l h w u e = no_more f q block bytes w b e
  left_out_not bytes f p q told s block (more front last before blk one rest follows tells b c d) l h w u e =
      let same : blk ≡ block = block_once front f last q before s blk block rest h follows w (sym b ∙ e) in
      of one (subst (λ (x : Block). Tells profile limits (length front) x one) same tells) d l
    where
      of : (one : Told) → Tells profile limits (length front) block one → told ≡ before ++ one ∷ [] → EndsLeftOut profile limits told → ⊥
      of (inl x) t d l = entry x d l
        where
          entry : (x : EntryData) → told ≡ before ++ inl x ∷ [] → EndsLeftOut profile limits told → ⊥
          entry x d (inl z) = push_some before (inl x) (sym d ∙ z)
          entry x d (inr m) = entry_not_out x m.1 (push_both before m.0 (inl x) (inr m.1) (sym d ∙ m.2)).1
      of (inr x) t d l = stopped_not block.bytes t.stop u t.stops

  pub told_by_once : (bytes : List ℕ) (s t : List Told) → AreToldBy profile limits bytes s → AreToldBy profile limits bytes t → s ≡ t
  told_by_once bytes s t (inl h) (inl k) =
      let same : h.front ≡ k.front = open_once bytes h.front k.front h.tail k.tail (behind_open bytes s h) (behind_open bytes t k) in
      (told_once h.front h.path k.path s t h.blocks (subst (λ (x : List ℕ). AreTold profile limits x k.path t) (sym same) k.blocks)).1
  told_by_once bytes s t (inl h) (inr k) =
      let same : h.front ≡ k.front ++ k.block.bytes = open_once bytes h.front (k.front ++ k.block.bytes) h.tail k.tail (behind_open bytes s h) (within_open bytes t k) in
      absurd (left_out_not h.front k.front h.path k.path s t k.block h.blocks h.left_out k.blocks k.follows k.unstopped same)
  told_by_once bytes s t (inr h) (inl k) =
      let same : k.front ≡ h.front ++ h.block.bytes = open_once bytes k.front (h.front ++ h.block.bytes) k.tail h.tail (behind_open bytes t k) (within_open bytes s h) in
      absurd (left_out_not k.front h.front k.path h.path t s h.block k.blocks k.left_out h.blocks h.follows h.unstopped same)
  told_by_once bytes s t (inr h) (inr k) =
      let same : h.front ++ h.block.bytes ≡ k.front ++ k.block.bytes = open_once bytes (h.front ++ h.block.bytes) (k.front ++ k.block.bytes) h.tail k.tail (within_open bytes s h) (within_open bytes t k) in
      let front : h.front ≡ k.front = front_once h.front k.front h.path k.path s t h.block k.block h.blocks k.blocks h.follows k.follows same in
      (told_once h.front h.path k.path s t h.blocks (subst (λ (x : List ℕ). AreTold profile limits x k.path t) (sym front) k.blocks)).1

  pub all_told_once : (bytes : List ℕ) (s t : List Told) → AreAllTold profile limits bytes s → AreAllTold profile limits bytes t → s ≡ t
  all_told_once bytes s t h k = (told_once bytes h.1.0 k.1.0 s t h.1.1 k.1.1).1
