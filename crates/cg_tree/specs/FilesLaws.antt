-- Files in the order of their directories: those in one directory stand together.
use Rattle.std.proofs.Common.{◌≡◌, ℕ, zero, suc, ◌≤◌, Bool, true, false, not, ◌&&◌, List, [], ◌∷◌, take, drop, length, Ordering, Less, Equal, Greater, refl, sym, ap, ◌∙◌, inl, inr, arith, true≢false}
use Rattle.std.proofs.lemmas.Bool.{cases_lt}
use Rattle.std.proofs.Math.Seq.{take-nil, drop-nil}
use Rattle.std.proofs.lemmas.Cmp.{nat_list_cmp_total}
use Rattle.std.proofs.lemmas.List.Elements.{filter_agree}
use Rattle.std.proofs.lemmas.List.Sorted.{ranks_by, searchable_from_sorted}
use Rattle.std.proofs.lemmas.Map.Text.{is_eq-slice_cmp}
use Rattle.std.specs.Cmp.{IsStrictWeakOrder}
use Rattle.std.specs.Cmp.Lexicographic.{slice_cmp}
use Rattle.std.specs.List.{AllWithin, filter}
use Rattle.std.specs.List.Sorted.{IsSortedBy, IsStableBy, IsPartitionedBy, IsPartitionPoint, ties}
use Rattle.std.specs.Ordering.{is_lt, is_le, is_eq, nat_cmp, ordering_index, ordering_reverse}
use Rattle.std.specs.Str.{bytes_eq}
use Rattle.cg_value.specs.declared.value.Value.TheVariants.{Number}
use Rattle.cg_tree.specs.File.{FileData}
use Rattle.cg_tree.specs.Files.{within}

abbrev pub is_before : FileData → FileData → Bool
is_before f g = is_lt (slice_cmp nat_cmp f.directory g.directory)

abbrev pub AreInOrder : List FileData → Type 0
AreInOrder fs = IsSortedBy is_before fs

pub before_is_order : IsStrictWeakOrder is_before
before_is_order = ranks_by nat_list_cmp_total (λ (f : FileData). f.directory)

-- Some file in the directory.
abbrev file_in : List ℕ → FileData
file_in d = record { place = 0; directory = d; value = Number 0 }

tie_cases : (r s : Ordering) → s ≡ ordering_reverse r → is_eq r ≡ (not (is_lt s) && not (is_lt r))
tie_cases Less s e = rw e refl
tie_cases Equal s e = rw e refl
tie_cases Greater s e = rw e refl

tie : (d e : List ℕ) → bytes_eq e d ≡ (not (is_lt (slice_cmp nat_cmp d e)) && not (is_lt (slice_cmp nat_cmp e d)))
tie d e = sym (is_eq-slice_cmp e d) ∙ tie_cases (slice_cmp nat_cmp e d) (slice_cmp nat_cmp d e) (nat_list_cmp_total.antisymm d e)

-- A stable sort keeps the files of each directory as they are.
pub within_sorted : (fs gs : List FileData) → IsStableBy is_before fs gs → (d : List ℕ) → within d gs ≡ within d fs
within_sorted fs gs stable d =
    let agree : (f : FileData) → bytes_eq f.directory d ≡ ties is_before (file_in d) f = λ f. tie d f.directory in
    filter_agree (λ f. bytes_eq f.directory d) (ties is_before (file_in d)) agree gs ∙ stable (file_in d) ∙ sym (filter_agree (λ f. bytes_eq f.directory d) (ties is_before (file_in d)) agree fs)

-- The file's directory comes before d, or is not after it.
abbrev pub before : List ℕ → FileData → Bool
before d f = is_lt (slice_cmp nat_cmp f.directory d)

abbrev pub upto : List ℕ → FileData → Bool
upto d f = is_le (slice_cmp nat_cmp f.directory d)

lt_back : (o q : Ordering) → ordering_index o ≤ ordering_index q → is_lt q ≡ true → is_lt o ≡ true
lt_back Less q h e = refl
lt_back Equal Less h e = absurd (omega (arith, h))
lt_back Greater Less h e = absurd (omega (arith, h))
lt_back o Equal h e = absurd (true≢false (sym e))
lt_back o Greater h e = absurd (true≢false (sym e))

le_back : (o q : Ordering) → ordering_index o ≤ ordering_index q → is_le q ≡ true → is_le o ≡ true
le_back Less q h e = refl
le_back Equal q h e = refl
le_back Greater Less h e = absurd (omega (arith, h))
le_back Greater Equal h e = absurd (omega (arith, h))
le_back Greater Greater h e = e

pub before_parted : (d : List ℕ) (fs : List FileData) → AreInOrder fs → IsPartitionedBy (before d) fs
before_parted d fs order i j x h k e = lt_back _ _ (searchable_from_sorted nat_list_cmp_total (λ (f : FileData). f.directory) fs d order i j x h k) e

pub upto_parted : (d : List ℕ) (fs : List FileData) → AreInOrder fs → IsPartitionedBy (upto d) fs
upto_parted d fs order i j x h k e = le_back _ _ (searchable_from_sorted nat_list_cmp_total (λ (f : FileData). f.directory) fs d order i j x h k) e

lt_le : (o : Ordering) → is_lt o ≡ true → is_le o ≡ true
lt_le Less e = refl
lt_le Equal e = absurd (true≢false (sym e))
lt_le Greater e = absurd (true≢false (sym e))

-- The files before d end where those that are not after it end, or sooner.
pub ends_later : (d : List ℕ) (fs : List FileData) (s e : ℕ) → s ≤ length fs → AllWithin (λ f. before d f ≡ true) fs 0 s → AllWithin (λ f. upto d f ≡ false) fs e (length fs) → s ≤ e
ends_later d fs s e inside front back =
    elim (cases_lt e s) [
      | inl h ↦ absurd (true≢false (sym (lt_le _ (front e (file_in d) (omega arith) h)) ∙ back e (file_in d) (omega arith) (omega (arith, h, inside))))
      | inr h ↦ h
    ]

-- What passes a test stands together.
span : {X : Type 0} (p : X → Bool) (xs : List X) (s e : ℕ) → s ≤ e → e ≤ length xs → AllWithin (λ x. p x ≡ false) xs 0 s → AllWithin (λ x. p x ≡ true) xs s e → AllWithin (λ x. p x ≡ false) xs e (length xs) → drop s (take e xs) ≡ filter p xs
span p [] s e h k front mid back = ap (drop s) (take-nil e) ∙ drop-nil s
span p (x ∷ xs) zero zero h k front mid back =
    rw (back 0 x (omega arith) (omega arith))
    (span p xs zero zero (omega arith) (omega arith) (λ i d a b. absurd (omega (arith, b)))
    (λ i d a b. absurd (omega (arith, b))) (λ i d a b. back (suc i) d (omega arith) (omega (arith, b))))
span p (x ∷ xs) zero (suc e) h k front mid back =
    rw (mid 0 x (omega arith) (omega arith))
    (ap (λ t. x ∷ t) (span p xs zero e (omega arith) (omega (arith, k)) (λ i d a b. absurd (omega (arith, b)))
    (λ i d a b. mid (suc i) d (omega arith) (omega (arith, b)))
    (λ i d a b. back (suc i) d (omega (arith, a)) (omega (arith, b)))))
span p (x ∷ xs) (suc s) zero h k front mid back = absurd (omega (arith, h))
span p (x ∷ xs) (suc s) (suc e) h k front mid back =
    rw (front 0 x (omega arith) (omega arith))
    (span p xs s e (omega (arith, h)) (omega (arith, k))
    (λ i d a b. front (suc i) d (omega arith) (omega (arith, b)))
    (λ i d a b. mid (suc i) d (omega (arith, a)) (omega (arith, b)))
    (λ i d a b. back (suc i) d (omega (arith, a)) (omega (arith, b))))

same_front : (o : Ordering) → is_lt o ≡ true → is_eq o ≡ false
same_front Less e = refl
same_front Equal e = absurd (true≢false (sym e))
same_front Greater e = refl

same_mid : (o : Ordering) → is_lt o ≡ false → is_le o ≡ true → is_eq o ≡ true
same_mid Less e f = absurd (true≢false e)
same_mid Equal e f = refl
same_mid Greater e f = absurd (true≢false (sym f))

same_back : (o : Ordering) → is_le o ≡ false → is_eq o ≡ false
same_back Less e = absurd (true≢false e)
same_back Equal e = absurd (true≢false e)
same_back Greater e = refl

-- The files of a directory are those between the ends.
pub within_found : (d : List ℕ) (fs : List FileData) (s e : ℕ) → s ≤ length fs → e ≤ length fs →
    IsPartitionPoint (λ f. before d f ≡ true) (λ f. before d f ≡ false) fs s →
    IsPartitionPoint (λ f. upto d f ≡ true) (λ f. upto d f ≡ false) fs e → drop s (take e fs) ≡ within d fs
within_found d fs s e h k first last =
    span (λ f. bytes_eq f.directory d) fs s e (ends_later d fs s e h first.0 last.1) k
    (λ i x a b. sym (is_eq-slice_cmp _ d) ∙ same_front _ (first.0 i x a b))
    (λ i x a b. sym (is_eq-slice_cmp _ d) ∙ same_mid _ (first.1 i x a (omega (arith, b, k))) (last.0 i x (omega arith) b))
    (λ i x a b. sym (is_eq-slice_cmp _ d) ∙ same_back _ (last.1 i x a b))
