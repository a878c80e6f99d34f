-- Blocks, and what more bytes of their lines leave.
use Rattle.std.proofs.Common.{◌≡◌, ◌≢◌, ℕ, ◌≤◌, List, [], ◌∷◌, ◌++◌, length, refl, sym, ap, subst, ◌∙◌, append_assoc, arith, Option, Some, None, inl, inr, ◌⊎◌}
use Rattle.std.proofs.lemmas.Bool.{cases_lt}
use Rattle.std.proofs.lemmas.List.{append-nil, length-append}
use Rattle.cg_text.specs.ListFacts.{heads, not_nil, tails}
use Rattle.cg_text.specs.Texts.{Lacks}
use Rattle.cg_text.specs.TextsLaws.{lacks_both, lacks_inside}
use Rattle.cg_value.specs.Records.{records}
use Rattle.cg_value.specs.declared.profile.Profile.TheVariants.{One}
use Rattle.cg_snap.specs.Begun.{IsBegun, IsRecordEnd}
use Rattle.cg_snap.specs.ClosedLaws.{begun_once}
use Rattle.cg_snap.specs.GoingOn.{HasPath, IsBlockOf, IsOpen, IsWithoutPath}
use Rattle.cg_snap.specs.GoingOnState.{EndsInLine}
use Rattle.cg_value.specs.PathLaws.{path_lacks_nul}
use Rattle.cg_snap.proofs.Closes.{begun_after, nul_plain}
use Rattle.cg_snap.proofs.Joins.{records-append}
use Rattle.cg_snap.proofs.Steps.{all_push, some_push}

pub lacks_left : (b : ℕ) (xs ys : List ℕ) → Lacks b (xs ++ ys) → Lacks b xs
lacks_left b [] ys h = tt
lacks_left b (x ∷ xs) ys h = (h.0, lacks_left b xs ys h.1)

-- Of two ways to split a text the first parts begin alike.
pub split_longer : (a b c d : List ℕ) → a ++ b ≡ c ++ d → length a ≤ length c → (r : List ℕ) × (c ≡ a ++ r) × (b ≡ r ++ d)
split_longer [] b c d e le = (c, refl, e)
split_longer (x ∷ a) b [] d e le = absurd (omega (arith, le))
split_longer (x ∷ a) b (y ∷ c) d e le =
    let s = split_longer a b c d (tails x y (a ++ b) (c ++ d) e) (omega (arith, le)) in
    (s.0, ap (λ (t : List ℕ). y ∷ t) s.1 ∙ ap (λ (z : ℕ). z ∷ (a ++ s.0)) (sym (heads x y (a ++ b) (c ++ d) e)), s.2)

-- A line without a path keeps none, whatever comes.
no_path_more : (max : ℕ) (bytes more path : List ℕ) → Lacks 10 bytes → (IsOpen max bytes → ⊥) → ((q : List ℕ) → HasPath max bytes q → ⊥) → HasPath max (bytes ++ more) path → ⊥
no_path_more max bytes more path plain known none h =
    elim (cases_lt (length path) (length bytes)) [
      | inl lt ↦
          let s = split_longer path (0 ∷ h.back) bytes more (sym h.split) (omega (arith, lt)) in
          inside s.0 s.1 s.2
      | inr ge ↦
          let s = split_longer bytes more path (0 ∷ h.back) h.split ge in
          known (record { no_nul = lacks_left 0 bytes s.0 (subst (Lacks 0) s.1 (path_lacks_nul path h.good)); plain = plain; short = omega (arith, ge, h.within) })
    ]
  where
    inside : (r : List ℕ) → bytes ≡ path ++ r → 0 ∷ h.back ≡ r ++ more → ⊥
    inside [] e f = known (record { no_nul = rw (e, append-nil path) (path_lacks_nul path h.good); plain = plain; short = omega (arith, h.within, ap length e, ap length (append-nil path)) })
    inside (c ∷ r) e f = none path (record { good = h.good; within = h.within; back = r; split = e ∙ ap (λ (z : ℕ). path ++ z ∷ r) (sym (heads 0 c h.back (r ++ more) f)) })

pathless_more : (max : ℕ) (bytes more : List ℕ) → Lacks 10 bytes → Lacks 10 more → IsWithoutPath max bytes → IsWithoutPath max (bytes ++ more)
pathless_more max bytes more n m h = record {
  line = bytes ++ more;
  plain = lacks_both 10 bytes more n m;
  split = inl refl;
  known = λ o. h.known (record { no_nul = lacks_left 0 bytes more o.no_nul; plain = n; short = omega (arith, o.short, length-append bytes more) });
  none = λ path p. no_path_more max bytes more path n h.known h.none p;
}

pathless_newline : (max : ℕ) (bytes : List ℕ) → Lacks 10 bytes → IsWithoutPath max bytes → IsWithoutPath max (bytes ++ 10 ∷ [])
pathless_newline max bytes n h = record {
  line = bytes;
  plain = n;
  split = inr refl;
  known = λ o. lacks_inside 10 bytes [] o.plain;
  none = λ path p. no_path_more max bytes (10 ∷ []) path n h.known h.none p;
}

-- More bytes of the line with which a block ends.
pub block_more : (max : ℕ) (path : Option (List ℕ)) (bytes more : List ℕ) → Lacks 10 more → EndsInLine path bytes → IsBlockOf max path bytes → IsBlockOf max path (bytes ++ more) × EndsInLine path (bytes ++ more)
block_more max None bytes more m e h = (pathless_more max bytes more e m h, lacks_both 10 bytes more e m)
block_more max (Some path) bytes more m e h =
    let plain = lacks_both 10 e.1 more e.3 m in
    let split : bytes ++ more ≡ records path e.0 ++ (path ++ 0 ∷ (e.1 ++ more)) = rw e.4 (simp append_assoc) in
    ((h.0, h.1, record { lines = e.0; begun = path ++ 0 ∷ (e.1 ++ more); split = split; plain = e.2; last = inr (e.1 ++ more, plain, refl) }), (e.0, e.1 ++ more, e.2, plain, split))

-- The newline of that line.
pub block_newline : (max : ℕ) (path : Option (List ℕ)) (bytes : List ℕ) → EndsInLine path bytes → IsBlockOf max path bytes → IsBlockOf max path (bytes ++ 10 ∷ [])
block_newline max None bytes e h = pathless_newline max bytes e h
block_newline max (Some path) bytes e h =
    let split : bytes ++ 10 ∷ [] ≡ records path (e.0 ++ e.1 ∷ []) ++ [] = rw (e.4, records-append path e.0 (e.1 ∷ []), append-nil (records path e.0 ++ records path (e.1 ∷ []))) (simp append_assoc) in
    (h.0, h.1, record { lines = e.0 ++ e.1 ∷ []; begun = []; split = split; plain = all_push (Lacks 10) e.0 e.1 e.2 e.3; last = inl (refl, some_push e.0 e.1) })

-- The path and the NUL of one more line of a block that has ended.
pub block_again : (max : ℕ) (path bytes : List ℕ) → bytes ≢ [] → IsRecordEnd bytes → IsBlockOf max (Some path) bytes →
    IsBlockOf max (Some path) (bytes ++ (path ++ 0 ∷ [])) × EndsInLine (Some path) (bytes ++ (path ++ 0 ∷ []))
block_again max path bytes some ended h = by h.2.last
  where
    with_lines : h.2.begun ≡ [] → IsBlockOf max (Some path) (bytes ++ (path ++ 0 ∷ [])) × EndsInLine (Some path) (bytes ++ (path ++ 0 ∷ []))
    with_lines e =
        let split : bytes ++ (path ++ 0 ∷ []) ≡ records path h.2.lines ++ (path ++ 0 ∷ []) = ap (λ (t : List ℕ). t ++ (path ++ 0 ∷ [])) (h.2.split ∙ ap (λ (t : List ℕ). records path h.2.lines ++ t) e ∙ append-nil (records path h.2.lines)) in
        ((h.0, h.1, record { lines = h.2.lines; begun = path ++ 0 ∷ []; split = split; plain = h.2.plain; last = inr ([], tt, refl) }), (h.2.lines, [], h.2.plain, tt, split))

    ends : (line : List ℕ) → Lacks 10 line → h.2.begun ≡ path ++ 0 ∷ line → IsBegun bytes (path ++ 0 ∷ line)
    ends line n e = begun_after One [] [] path h.2.lines bytes (path ++ 0 ∷ line) refl (h.2.split ∙ ap (λ (t : List ℕ). records path h.2.lines ++ t) e) (nul_plain path line h.0 n)

    by : ((h.2.begun ≡ []) × (h.2.lines ≢ [])) ⊎ ((line : List ℕ) × Lacks 10 line × (h.2.begun ≡ path ++ 0 ∷ line)) → IsBlockOf max (Some path) (bytes ++ (path ++ 0 ∷ [])) × EndsInLine (Some path) (bytes ++ (path ++ 0 ∷ []))
    by (inl e) = with_lines e.0
    by (inr l) =
        let none : path ++ 0 ∷ l.0 ≡ [] = begun_once bytes (path ++ 0 ∷ l.0) [] (ends l.0 l.1 l.2) (record { front = bytes; split = sym (append-nil bytes); ended = ended; plain = tt }) in
        absurd (not_nil path 0 l.0 (sym none))

-- A block that ends within a line doesn't end with a newline.
pub ends_in_line : (max : ℕ) (path : Option (List ℕ)) (bytes : List ℕ) → IsBlockOf max path bytes → EndsInLine path bytes → (bytes ≢ []) × (IsRecordEnd bytes → ⊥)
ends_in_line max None bytes h e = (some, by)
  where
    some : bytes ≢ []
    some z = h.known (record { no_nul = rw z tt; plain = e; short = omega (arith, ap length z) })

    by : IsRecordEnd bytes → ⊥
    by (inl z) = some z
    by (inr s) = lacks_inside 10 s.0 [] (subst (Lacks 10) s.1 e)
ends_in_line max (Some path) bytes h e = (λ z. not_nil (records path e.0 ++ path) 0 e.1 (sym z ∙ (e.4 ∙ sym (append_assoc (records path e.0) path (0 ∷ e.1)))), by)
  where
    begins : IsBegun bytes (path ++ 0 ∷ e.1)
    begins = begun_after One [] [] path e.0 bytes (path ++ 0 ∷ e.1) refl e.4 (nul_plain path e.1 h.0 e.3)

    by : IsRecordEnd bytes → ⊥
    by r = not_nil path 0 e.1 (sym (begun_once bytes (path ++ 0 ∷ e.1) [] begins (record { front = bytes; split = sym (append-nil bytes); ended = r; plain = tt })))
