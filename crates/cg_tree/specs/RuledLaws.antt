-- The entries that the rules speak of break what all entries do: only the places of the entries differ.
use Rattle.std.proofs.Common.{◌≡◌, ℕ, zero, suc, ◌+◌, Bool, true, false, not, Option, Some, List, [], ◌∷◌, ◌++◌, codes, cond, length, map, take, refl, sym, ap, subst, ◌∙◌, arith, true≢false}
use Rattle.std.proofs.lemmas.List.{map-append}
use Rattle.std.proofs.lemmas.List.Elements.{filter_agree}
use Rattle.std.proofs.lemmas.Slice.Eq.{bytes_eq-Decides}
use Rattle.std.specs.Prelude.{slice_get, if◌then◌else◌}
use Rattle.std.specs.List.{AllZip, enumerate_from, filter, flat_map, list_any}
use Rattle.std.specs.Str.{bytes_eq}
use Rattle.cg_value.specs.Entry.{EntryData}
use Rattle.cg_tree.specs.Directory.{directory_of, name_of}
use Rattle.cg_tree.specs.File.{FileData}
use Rattle.cg_tree.specs.Files.{above, file_of, named, within}
use Rattle.cg_tree.specs.Find.{allows, find, find_at, finding, is_domain, is_domain_value, lacking, words_of}
use Rattle.cg_tree.specs.Ruled.{is_ruled, ruled}
use Rattle.cg_tree.specs.declared.finding.Finding.{Finding}
use Rattle.cg_tree.specs.declared.finding.Rule.{Rule}
use Rattle.cg_tree.specs.declared.finding.Rule.TheVariants.{C1, C2, C3}

-- ---- Lists that go together

module _ {X Y : Type 0} (R : X → Y → Type 0) where
  filter_zip : (p : X → Bool) (q : Y → Bool) → ((x : X) (y : Y) → R x y → p x ≡ q y) → (xs : List X) (ys : List Y) → AllZip R xs ys → AllZip R (filter p xs) (filter q ys)
  filter_zip p q same [] [] h = tt
  filter_zip p q same [] (y ∷ ys) h = absurd h
  filter_zip p q same (x ∷ xs) [] h = absurd h
  filter_zip p q same (x ∷ xs) (y ∷ ys) h =
      let after = filter_zip p q same xs ys h.1 in
      rw (same x y h.0)
      (elim (q y) as (λ b. AllZip R (cond b (x ∷ filter p xs) (filter p xs)) (cond b (y ∷ filter q ys) (filter q ys))) [
        | true ↦ (h.0, after)
        | false ↦ after
      ])

  any_zip : (p : X → Bool) (q : Y → Bool) → ((x : X) (y : Y) → R x y → p x ≡ q y) → (xs : List X) (ys : List Y) → AllZip R xs ys → list_any p xs ≡ list_any q ys
  any_zip p q same [] [] h = refl
  any_zip p q same [] (y ∷ ys) h = absurd h
  any_zip p q same (x ∷ xs) [] h = absurd h
  any_zip p q same (x ∷ xs) (y ∷ ys) h = rw (same x y h.0, any_zip p q same xs ys h.1) refl

append_same : {A B Z : Type 0} (s : A → Z) (t : B → Z) (a b : List A) (c d : List B) → map s a ≡ map t c → map s b ≡ map t d → map s (a ++ b) ≡ map t (c ++ d)
append_same s t a b c d front back = map-append s a b ∙ ap (λ l. l ++ map s b) front ∙ ap (λ l. map t c ++ l) back ∙ sym (map-append t c d)

flat_map_zip : {X Y A B Z : Type 0} (R : X → Y → Type 0) (s : A → Z) (t : B → Z) (f : X → List A) (g : Y → List B) → ((x : X) (y : Y) → R x y → map s (f x) ≡ map t (g y)) →
    (xs : List X) (ys : List Y) → AllZip R xs ys → map s (flat_map f xs) ≡ map t (flat_map g ys)
flat_map_zip R s t f g same [] [] h = refl
flat_map_zip R s t f g same [] (y ∷ ys) h = absurd h
flat_map_zip R s t f g same (x ∷ xs) [] h = absurd h
flat_map_zip R s t f g same (x ∷ xs) (y ∷ ys) h = append_same s t (f x) (flat_map f xs) (g y) (flat_map g ys) (same x y h.0) (flat_map_zip R s t f g same xs ys h.1)

if_same : {A B Z : Type 0} (s : A → Z) (t : B → Z) (a : List A) (c : List B) (x y : Bool) → x ≡ y → map s a ≡ map t c → map s (if x then a else []) ≡ map t (if y then c else [])
if_same s t a c x y e h = rw e (elim y as (λ b. map s (if b then a else []) ≡ map t (if b then c else [])) [ true ↦ h | false ↦ refl ])

-- ---- Files that go together

-- One file among some entries, and one among others: the same entry stands at their places.
pub record IsSameFile (es fs : List EntryData) (f g : FileData) : Type 0 where
  pub entry : slice_get es f.place ≡ slice_get fs g.place
  pub directory : f.directory ≡ g.directory
  pub value : f.value ≡ g.value

abbrev pub AreSame : List EntryData → List EntryData → List FileData → List FileData → Type 0
AreSame es fs = AllZip (IsSameFile es fs)

-- From the place n on the entries go on so.
abbrev GoesOn : List EntryData → ℕ → List EntryData → Type 0
GoesOn all n es = (i : ℕ) → slice_get all (n + i) ≡ slice_get es i

here : (all : List EntryData) (n : ℕ) (e : EntryData) (es : List EntryData) → GoesOn all n (e ∷ es) → slice_get all n ≡ Some e
here all n e es h = ap (slice_get all) (omega arith) ∙ h zero

onward : (all : List EntryData) (n : ℕ) (e : EntryData) (es : List EntryData) → GoesOn all n (e ∷ es) → GoesOn all (n + 1) es
onward all n e es h i = ap (slice_get all) (omega arith) ∙ h (suc i)

module _ (es fs : List EntryData) (name : List ℕ) (good : is_ruled name ≡ true) where
  abbrev is_named : ℕ × EntryData → Bool
  is_named p = bytes_eq (name_of p.1.path) name

  -- The files of the name among entries that are numbered from n on.
  abbrev named_from : ℕ → List EntryData → List FileData
  named_from n xs = map file_of (filter is_named (enumerate_from n xs))

  both : (n m : ℕ) (e : EntryData) (xs ys : List EntryData) → slice_get es n ≡ Some e → slice_get fs m ≡ Some e → AreSame es fs (named_from (n + 1) xs) (named_from (m + 1) ys) →
      AreSame es fs (named_from n (e ∷ xs)) (named_from m (e ∷ ys))
  both n m e xs ys a b after =
      elim (is_named (n, e)) as (λ t. AreSame es fs (map file_of (cond t ((n, e) ∷ filter is_named (enumerate_from (n + 1) xs)) (filter is_named (enumerate_from (n + 1) xs))))
      (map file_of (cond t ((m, e) ∷ filter is_named (enumerate_from (m + 1) ys)) (filter is_named (enumerate_from (m + 1) ys))))) [
        | true ↦ (record { entry = a ∙ sym b; directory = refl; value = refl }, after)
        | false ↦ after
      ]

  -- An entry without the name adds no file.
  passed : (n : ℕ) (e : EntryData) (xs : List EntryData) → (is_named (n, e) ≡ true → false ≡ true) → named_from n (e ∷ xs) ≡ named_from (n + 1) xs
  passed n e xs other =
      elim (is_named (n, e)) as (λ t. (t ≡ true → false ≡ true) →
      map file_of (cond t ((n, e) ∷ filter is_named (enumerate_from (n + 1) xs)) (filter is_named (enumerate_from (n + 1) xs))) ≡ named_from (n + 1) xs) [
        | true ↦ λ h. absurd (true≢false (sym (h refl)))
        | false ↦ λ h. refl
      ] other

  of_the_name : (n : ℕ) (e : EntryData) → is_named (n, e) ≡ true → is_ruled (name_of e.path) ≡ true
  of_the_name n e h = ap is_ruled ((bytes_eq-Decides (name_of e.path) name).0 h) ∙ good

  named_same : (n m : ℕ) (xs : List EntryData) → GoesOn es n xs → GoesOn fs m (ruled xs) → AreSame es fs (named_from n xs) (named_from m (ruled xs))
  named_same n m [] h k = tt
  named_same n m (e ∷ xs) h k =
      let next = onward es n e xs h in
      elim (is_ruled (name_of e.path)) as (λ b. (is_named (n, e) ≡ true → b ≡ true) → GoesOn fs m (cond b (e ∷ ruled xs) (ruled xs)) →
      AreSame es fs (named_from n (e ∷ xs)) (named_from m (cond b (e ∷ ruled xs) (ruled xs)))) [
        | true ↦ λ some go. both n m e xs (ruled xs) (here es n e xs h) (here fs m e (ruled xs) go) (named_same (n + 1) (m + 1) xs next (onward fs m e (ruled xs) go))
        | false ↦ λ some go. subst (λ (gs : List FileData). AreSame es fs gs (named_from m (ruled xs))) (sym (passed n e xs some)) (named_same (n + 1) m xs next go)
      ] (of_the_name n e) k

-- ---- Findings that go together

-- Something that is told of a finding, by its rule, the entry at its place and the place of the word.
abbrev pub told_of : {Z : Type 0} → (Rule → Option EntryData → ℕ → Z) → List EntryData → Finding → Z
told_of tell es f = tell f.rule (slice_get es f.at) f.word

allows_same : (rule : Rule) (f g : FileData) → f.value ≡ g.value → (word : List ℕ) → allows rule f word ≡ allows rule g word
allows_same C1 f g e word = rw e refl
allows_same C2 f g e word = rw e refl
allows_same C3 f g e word = refl

module _ {Z : Type 0} (tell : Rule → Option EntryData → ℕ → Z) (es fs : List EntryData) where
  findings_same : (rule : Rule) (c d f g : FileData) → slice_get es c.place ≡ slice_get fs d.place → (ps : List (ℕ × List ℕ)) →
      map (told_of tell es) (map (finding rule c f) ps) ≡ map (told_of tell fs) (map (finding rule d g) ps)
  findings_same rule c d f g e [] = refl
  findings_same rule c d f g e (p ∷ ps) =
      ap (λ o. tell rule o (p.0) ∷ map (told_of tell es) (map (finding rule c f) ps)) e ∙ ap (λ l. tell rule (slice_get fs d.place) (p.0) ∷ l) (findings_same rule c d f g e ps)

  lacking_same : (rule : Rule) (c d : FileData) → IsSameFile es fs c d → (f g : FileData) → IsSameFile es fs f g →
      map (told_of tell es) (lacking rule c f) ≡ map (told_of tell fs) (lacking rule d g)
  lacking_same rule c d cd f g fg =
      let fails : FileData → ℕ × List ℕ → Bool = λ x p. not (allows rule x (p.1)) in
      let words = enumerate_from 0 (words_of c.value) in
      findings_same rule c d f g cd.entry (filter (fails f) words)
      ∙ ap (λ ps. map (told_of tell fs) (map (finding rule d g) ps)) (filter_agree (fails f) (fails g) (λ p. ap not (allows_same rule f g fg.value (p.1))) words)
      ∙ ap (λ v. map (told_of tell fs) (map (finding rule d g) (filter (fails g) (enumerate_from 0 (words_of v))))) cd.value

  within_same : (d e : List ℕ) → d ≡ e → (xs ys : List FileData) → AreSame es fs xs ys → AreSame es fs (within d xs) (within e ys)
  within_same d e same xs ys h =
      filter_zip (IsSameFile es fs) (λ f. bytes_eq f.directory d) (λ g. bytes_eq g.directory e) (λ f g x. ap (λ a. bytes_eq a d) x.directory ∙ ap (bytes_eq g.directory) same) xs ys h

  above_one : (d : List ℕ) (xs ys : List FileData) → AreSame es fs xs ys → AreSame es fs (above d xs) (above d ys)
  above_one [] xs ys h = tt
  above_one (b ∷ bs) xs ys h = within_same (directory_of (take (length bs) (b ∷ bs))) (directory_of (take (length bs) (b ∷ bs))) refl xs ys h

  above_same : (d e : List ℕ) → d ≡ e → (xs ys : List FileData) → AreSame es fs xs ys → AreSame es fs (above d xs) (above e ys)
  above_same d e same xs ys h = subst (λ (a : List ℕ). AreSame es fs (above d xs) (above a ys)) same (above_one d xs ys h)

  has_domain_same : (xs ys : List FileData) → AreSame es fs xs ys → list_any is_domain xs ≡ list_any is_domain ys
  has_domain_same xs ys h = any_zip (IsSameFile es fs) is_domain is_domain (λ f g x. ap is_domain_value x.value) xs ys h

  all_lacking : (rule : Rule) (c d : FileData) → IsSameFile es fs c d → (xs ys : List FileData) → AreSame es fs xs ys →
      map (told_of tell es) (flat_map (lacking rule c) xs) ≡ map (told_of tell fs) (flat_map (lacking rule d) ys)
  all_lacking rule c d cd xs ys h =
      flat_map_zip (IsSameFile es fs) (told_of tell es) (told_of tell fs) (lacking rule c) (lacking rule d) (lacking_same rule c d cd) xs ys h

  -- The files of each name that the rules speak of go together.
  abbrev EachSame : Type 0
  EachSame = (name : List ℕ) → is_ruled name ≡ true → AreSame es fs (named name es) (named name fs)

  find_at_same : EachSame → (c d : FileData) → IsSameFile es fs c d → map (told_of tell es) (find_at es c) ≡ map (told_of tell fs) (find_at fs d)
  find_at_same each c d cd =
      let beside : (name : List ℕ) → is_ruled name ≡ true → AreSame es fs (within c.directory (named name es)) (within d.directory (named name fs)) =
      λ name good. within_same c.directory d.directory cd.directory (named name es) (named name fs) (each name good) in
      append_same (told_of tell es) (told_of tell fs) _ _ _ _
      (append_same (told_of tell es) (told_of tell fs) _ _ _ _ (all_lacking C1 c d cd _ _ (beside (codes "cgroup.controllers") refl))
      (all_lacking C2 c d cd _ _ (above_same c.directory d.directory cd.directory _ _ (each (codes "cgroup.subtree_control") refl))))
      (if_same (told_of tell es) (told_of tell fs) _ _ _ _ (has_domain_same _ _ (beside (codes "cgroup.type") refl))
      (all_lacking C3 c d cd _ _ (beside (codes "cgroup.procs") refl)))

  find_same : EachSame → map (told_of tell es) (find es) ≡ map (told_of tell fs) (find fs)
  find_same each =
      flat_map_zip (IsSameFile es fs) (told_of tell es) (told_of tell fs) (find_at es) (find_at fs) (find_at_same each) _ _ (each (codes "cgroup.subtree_control") refl)

-- Whatever is told so of the findings, the entries that the rules speak of tell it as all entries do.
pub told_of_ruled : {Z : Type 0} (tell : Rule → Option EntryData → ℕ → Z) (es : List EntryData) → map (told_of tell (ruled es)) (find (ruled es)) ≡ map (told_of tell es) (find es)
told_of_ruled tell es =
    let at_zero : (xs : List EntryData) → GoesOn xs 0 xs = λ xs i. ap (slice_get xs) (omega arith) in
    sym (find_same tell es (ruled es) (λ name good. named_same es (ruled es) name good 0 0 es (at_zero es) (at_zero (ruled es))))
