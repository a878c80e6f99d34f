-- How texts are split: at their first separator, after their last one, and into lines.
use Rattle.std.proofs.Common.{◌≡◌, ℕ, List, [], ◌∷◌, ◌++◌, inl, inr, ◌⊎◌, refl, sym, ap, subst, ◌∙◌, append_assoc}
use Rattle.std.specs.List.{AllByRecursion}
use Rattle.cg_text.specs.Texts.{Lacks}
use Rattle.cg_text.specs.TextsLaws.{lacks_inside}
use Rattle.cg_value.specs.Files.{KindText, ReadLines}
use Rattle.cg_value.specs.LineLaws.{plain_lines}
use Rattle.cg_value.specs.Lines.{unlines}
use Rattle.cg_value.specs.declared.kind.ReadForm.{ReadForm}
use Rattle.cg_value.specs.declared.value.Value.{Value}
use Rattle.cg_file.specs.OneValueLaws.{lines_one}

-- ---- At the first separator

-- A text has one first separator.
pub cut : (c : ℕ) (xs ys v w : List ℕ) → Lacks c xs → Lacks c ys → xs ++ c ∷ v ≡ ys ++ c ∷ w → (xs ≡ ys) × (v ≡ w)
cut c [] [] v w p q e = (refl, cc)
cut c [] (y ∷ ys) v w p q e = let h : y ≡ c = cc in absurd (q.0 h)
cut c (x ∷ xs) [] v w p q e = let h : x ≡ c = cc in absurd (p.0 h)
cut c (x ∷ xs) (y ∷ ys) v w p q e =
    let t : xs ++ c ∷ v ≡ ys ++ c ∷ w = cc in
    let h : x ≡ y = cc in
    let r = cut c xs ys v w p.1 q.1 t in
    let same = r.0 in
    (cc, r.1)

-- ---- After the last separator

-- The text is empty or ends with the separator.
abbrev pub EndsBy : ℕ → List ℕ → Type 0
EndsBy c text = (text ≡ []) ⊎ ((front : List ℕ) × (text ≡ front ++ c ∷ []))

ends_after : (c b : ℕ) (text : List ℕ) → EndsBy c (b ∷ text) → EndsBy c text
ends_after c b text (inl e) = absurd (cc)
ends_after c b text (inr ([], e)) = inl (cc)
ends_after c b text (inr (d ∷ front, e)) = inr (front, cc)

none_inside : (c b : ℕ) (text back other : List ℕ) → EndsBy c (b ∷ text) → Lacks c back → back ≡ (b ∷ text) ++ other → ⊥
none_inside c b text back other (inl e) n f = absurd (cc)
none_inside c b text back other (inr h) n f =
    let whole : back ≡ h.0 ++ c ∷ other = f ∙ ap (λ t. t ++ other) h.1 ∙ append_assoc h.0 (c ∷ []) other in
    lacks_inside c h.0 other (subst (Lacks c) whole n)

-- A text has one rest after its last separator.
pub one_back : (c : ℕ) (d e n m : List ℕ) → EndsBy c d → EndsBy c e → Lacks c n → Lacks c m → d ++ n ≡ e ++ m → n ≡ m
one_back c [] [] n m g h p q t = t
one_back c [] (b ∷ e) n m g h p q t = absurd (none_inside c b e n m h p t)
one_back c (b ∷ d) [] n m g h p q t = absurd (none_inside c b d m n g q (sym t))
one_back c (a ∷ d) (b ∷ e) n m g h p q t = let rest : d ++ n ≡ e ++ m = cc in one_back c d e n m (ends_after c a d g) (ends_after c b e h) p q rest

-- ---- Into lines

pub unlines-append : (ls ms : List (List ℕ)) → unlines (ls ++ ms) ≡ unlines ls ++ unlines ms
unlines-append [] ms = refl
unlines-append (l ∷ ls) ms = ap (λ (t : List ℕ). l ++ 10 ∷ t) (unlines-append ls ms) ∙ sym (append_assoc l (10 ∷ unlines ls) (unlines ms))

pub unlines-push : (ls : List (List ℕ)) (l : List ℕ) → unlines (ls ++ l ∷ []) ≡ unlines ls ++ (l ++ 10 ∷ [])
unlines-push [] l = refl
unlines-push (m ∷ ls) l = ap (λ (t : List ℕ). m ++ 10 ∷ t) (unlines-push ls l) ∙ sym (append_assoc m (10 ∷ unlines ls) (l ++ 10 ∷ []))

line_is_some : (front more : List ℕ) → front ++ 10 ∷ more ≡ [] → ⊥
line_is_some [] more e = cc
line_is_some (c ∷ front) more e = cc

-- Whole lines at the front of a text of lines are its first lines.
pub lines_first : (ks ls : List (List ℕ)) (x : List ℕ) → AllByRecursion (Lacks 10) ks → AllByRecursion (Lacks 10) ls → unlines ks ++ x ≡ unlines ls → (ms : List (List ℕ)) × (ls ≡ ks ++ ms) × (x ≡ unlines ms)
lines_first [] ls x p q e = (ls, refl, e)
lines_first (k ∷ ks) [] x p q e = absurd (line_is_some k (unlines ks ++ x) (sym (append_assoc k (10 ∷ unlines ks) x) ∙ e))
lines_first (k ∷ ks) (l ∷ ls) x p q e =
    let c = cut 10 k l (unlines ks ++ x) (unlines ls) p.0 q.0 (sym (append_assoc k (10 ∷ unlines ks) x) ∙ e) in
    let r = lines_first ks ls x p.1 q.1 c.1 in
    let line = c.0 in
    let lines = r.1 in
    (r.0, cc, r.2)

-- The lines of a text of lines spell what the text spells.
pub lines_spell : (kind : ReadForm) (v : Value) (lines : List (List ℕ)) → AllByRecursion (Lacks 10) lines → KindText kind v (unlines lines) → ReadLines kind v lines
lines_spell kind v lines plain t = subst (ReadLines kind v) (sym (lines_one lines t.lines plain (plain_lines kind v t.lines t.spelled) t.text_is)) t.spelled
