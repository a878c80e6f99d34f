-- What follows of tries, and how they grow by a key.
use Rattle.std.proofs.Common.{◌≡◌, ◌≢◌, ℕ, zero, suc, ◌+◌, ◌/◌, ◌%◌, ◌<◌, inl, inr, List, [], ◌∷◌, ◌++◌, length, get_or, set}
use Rattle.std.proofs.Common.{refl, sym, ap, ◌∙◌, subst, arith}
use Rattle.std.proofs.Math.ListN.{length-set}
use Rattle.std.proofs.Math.Seq.{get_or-append_seam}
use Rattle.std.proofs.lemmas.Bool.{cases_lt, cases_order}
use Rattle.std.proofs.lemmas.List.{get_or_append_left, length_push, get_or-set_other, get_or-set_same}
use Rattle.cg_text.specs.Hash.{hash_of}
use Rattle.cg_index.specs.Tree.{key_at}
use Rattle.cg_index.specs.Trie.{next, places_at, HasHash, Ends, met, vacant, on, IsEnd, IsTrie, linked}
use Rattle.cg_index.specs.declared.trie.End.{End}
use Rattle.cg_index.specs.declared.trie.End.TheVariants as end
use Rattle.cg_index.specs.declared.trie.Opening.{Opening}

-- A walk has one end.
pub one_end : {trie keys : List (List ℕ)} {hash rest p : ℕ} {e f : End} → Ends trie keys hash rest p e → Ends trie keys hash rest p f → e ≡ f
one_end (met has e_is) (met has2 f_is) = e_is ∙ sym f_is
one_end (met has e_is) (vacant lacks none f_is) = absurd (lacks has)
one_end (met has e_is) (on lacks some w) = absurd (lacks has)
one_end (vacant lacks none e_is) (met has f_is) = absurd (lacks has)
one_end (vacant lacks none e_is) (vacant lacks2 none2 f_is) = e_is ∙ sym f_is
one_end (vacant lacks none e_is) (on lacks2 some w) = absurd (omega (arith, none, some))
one_end (on lacks some v) (met has f_is) = absurd (lacks has)
one_end (on lacks some v) (vacant lacks2 none f_is) = absurd (omega (arith, none, some))
one_end (on lacks some v) (on lacks2 some2 w) = one_end v w

same_opening : {at : Opening} {p digit : ℕ} → end.Open at ≡ end.Open (record { place = p; digit = digit }) → (at.place ≡ p) × (at.digit ≡ digit)
same_opening {at} {p} {digit} e = let same : at ≡ record { place = p; digit = digit } = cc in (ap (λ (o : Opening). o.place) same, ap (λ (o : Opening). o.digit) same)

-- What a walk meets has the hash.
pub met_has : {trie keys : List (List ℕ)} {hash rest p k : ℕ} {e : End} → Ends trie keys hash rest p e → e ≡ end.Met k → HasHash keys hash k
met_has {keys} {hash} {k} (met {p} has e_is) is =
    let same : p ≡ k = cc in
    subst (HasHash keys hash) same has
met_has (vacant lacks none e_is) is = absurd (cc)
met_has (on lacks some w) is = met_has w is

-- An opening leads nowhere.
pub open_is : {trie keys : List (List ℕ)} {hash rest p : ℕ} {at : Opening} {e : End} → Ends trie keys hash rest p e → e ≡ end.Open at → (next trie at.place at.digit ≡ 0) × (at.digit < 4)
open_is (met has e_is) is = absurd (cc)
open_is {trie} {rest} {at} (vacant {p} lacks none e_is) is =
    let same = same_opening (sym is ∙ e_is) in
    rw (same.0, same.1) (none, omega arith)
open_is (on lacks some w) is = open_is w is

-- A key whose hash a walk doesn't meet is new.
pub opening_new : {trie keys : List (List ℕ)} {at : Opening} (key : List ℕ) → IsTrie trie keys → IsEnd trie keys (hash_of key) (end.Open at) → (j : ℕ) → j < length keys → key_at keys j ≡ key → ⊥
opening_new {trie} {keys} {at} key is ends j h e =
    let here : IsEnd trie keys (hash_of key) (end.Met j) = rw e at (is.met j (omega (arith, h, is.count))) in
    let same : end.Open at ≡ end.Met j = one_end ends here in
    cc

-- The place that a walk meets is that of the only key that can be the one that is sought.
pub met_only : {trie keys : List (List ℕ)} (key : List ℕ) (k j : ℕ) → IsTrie trie keys → IsEnd trie keys (hash_of key) (end.Met k) → j < length keys → key_at keys j ≡ key → k ≡ j
met_only {trie} {keys} key k j is ends h e =
    let here : IsEnd trie keys (hash_of key) (end.Met j) = rw e at (is.met j (omega (arith, h, is.count))) in
    let same : end.Met k ≡ end.Met j = one_end ends here in
    cc

none_leads : (digit : ℕ) → get_or {A = ℕ} (0 ∷ 0 ∷ 0 ∷ 0 ∷ []) digit 0 ≡ 0
none_leads zero = refl
none_leads (suc zero) = refl
none_leads (suc (suc zero)) = refl
none_leads (suc (suc (suc zero))) = refl
none_leads (suc (suc (suc (suc d)))) = refl

module _ {trie keys : List (List ℕ)} (is : IsTrie trie keys) (key : List ℕ) (at : Opening) (ends : IsEnd trie keys (hash_of key) (end.Open at)) where
  abbrev n : ℕ
  n = length trie

  abbrev new : List (List ℕ)
  new = linked trie at

  abbrev turned : List (List ℕ)
  turned = set trie at.place (set (places_at trie at.place) at.digit n)

  turned_length : length turned ≡ n
  turned_length = length-set trie at.place (set (places_at trie at.place) at.digit n)

  new_places : (p : ℕ) → p < n → places_at new p ≡ places_at turned p
  new_places p h = get_or_append_left turned ((0 ∷ 0 ∷ 0 ∷ 0 ∷ []) ∷ []) [] p (omega (arith, h, turned_length))

  last_places : places_at new n ≡ 0 ∷ 0 ∷ 0 ∷ 0 ∷ []
  last_places = subst (λ (m : ℕ). get_or (turned ++ (0 ∷ 0 ∷ 0 ∷ 0 ∷ []) ∷ []) m [] ≡ 0 ∷ 0 ∷ 0 ∷ 0 ∷ []) turned_length (get_or-append_seam turned (0 ∷ 0 ∷ 0 ∷ 0 ∷ []) [] [])

  else_places : (p : ℕ) → p < n → p ≢ at.place → places_at new p ≡ places_at trie p
  else_places p h apart = new_places p h ∙ get_or-set_other trie at.place p (set (places_at trie at.place) at.digit n) [] apart

  here_places : at.place < n → places_at new at.place ≡ set (places_at trie at.place) at.digit n
  here_places h = new_places at.place h ∙ get_or-set_same trie at.place (set (places_at trie at.place) at.digit n) [] h

  here_next : at.place < n → next new at.place at.digit ≡ n
  unfolding next
  here_next h =
      ap (λ (x : List ℕ). get_or x at.digit 0) (here_places h)
      ∙ get_or-set_same (places_at trie at.place) at.digit n 0 (omega (arith, is.four at.place h, (open_is ends refl).1))

  -- All other links stay.
  else_next : (p digit : ℕ) → p < n → ((p ≡ at.place) → (digit ≡ at.digit) → ⊥) → next new p digit ≡ next trie p digit
  unfolding next
  else_next p digit h apart = elim (cases_order p at.place) [
    | inl same ↦ rw same (
        ap (λ (x : List ℕ). get_or x digit 0) (here_places (rw same at h))
        ∙ get_or-set_other (places_at trie at.place) at.digit digit n 0 (apart same))
    | inr (inl less) ↦ ap (λ (x : List ℕ). get_or x digit 0) (else_places p h (omega arith))
    | inr (inr more) ↦ ap (λ (x : List ℕ). get_or x digit 0) (else_places p h (omega arith))
  ]

  kept_next : (p digit : ℕ) → p < n → 0 < next trie p digit → next new p digit ≡ next trie p digit
  kept_next p digit h some = else_next p digit h (λ e f.
      let none : next trie p digit ≡ 0 = rw (e, f) ((open_is ends refl).0) in
      omega (arith, none, some))

  old_key : (p : ℕ) → p < n → key_at (keys ++ key ∷ []) p ≡ key_at keys p
  old_key p h = get_or_append_left keys (key ∷ []) [] p (omega (arith, h, is.count))

  new_key : key_at (keys ++ key ∷ []) n ≡ key
  new_key = rw (is.count) (get_or-append_seam keys key [] [])

  new_has : HasHash (keys ++ key ∷ []) (hash_of key) n
  new_has = (omega (arith, is.count, length_push keys key), ap hash_of new_key)

  has_kept : (hash p : ℕ) → HasHash keys hash p → HasHash (keys ++ key ∷ []) hash p
  has_kept hash p has = (omega (arith, has.0, length_push keys key), ap hash_of (old_key p (omega (arith, has.0, is.count))) ∙ has.1)

  lacks_kept : (hash p : ℕ) → p < n → (HasHash keys hash p → ⊥) → HasHash (keys ++ key ∷ []) hash p → ⊥
  lacks_kept hash p h lacks has = lacks (omega (arith, h, is.count), ap hash_of (sym (old_key p h)) ∙ has.1)

  goes_on : {hash rest p : ℕ} {e : End} → p < n → (HasHash keys hash p → ⊥) → 0 < next trie p (rest % 4) → Ends new (keys ++ key ∷ []) hash (rest / 4) (next trie p (rest % 4)) e →
      Ends new (keys ++ key ∷ []) hash rest p e
  goes_on {hash} {rest} {p} {e} h lacks some w =
      let same = kept_next p (rest % 4) h some in
      on (lacks_kept hash p h lacks) (omega (arith, same, some)) (rw same w)

  -- What was met is met.
  still_met : {hash rest p k : ℕ} {e : End} → p < n → Ends trie keys hash rest p e → e ≡ end.Met k → Ends new (keys ++ key ∷ []) hash rest p (end.Met k)
  still_met {hash} {p} h (met has e_is) is_met = met (has_kept hash p has) (sym is_met ∙ e_is)
  still_met h (vacant lacks none e_is) is_met = absurd (cc)
  still_met {rest} {p} h (on lacks some w) is_met = goes_on h lacks some (still_met ((is.rising p (rest % 4) h some).1) w is_met)

  -- Where the walk of the new hash ended, it meets the new key.
  now_met : {rest p : ℕ} {e : End} → p < n → Ends trie keys (hash_of key) rest p e → e ≡ end.Open at → Ends new (keys ++ key ∷ []) (hash_of key) rest p (end.Met n)
  now_met h (met has e_is) is_open = absurd (cc)
  now_met {rest} {p} h (vacant lacks none e_is) is_open =
      let same = same_opening (sym is_open ∙ e_is) in
      let goes : next new p (rest % 4) ≡ n = rw (← same.0, ← same.1) (here_next (rw same.0 h)) in
      on (lacks_kept (hash_of key) p h lacks) (omega (arith, goes, h)) (rw goes (met new_has refl))
  now_met {rest} {p} h (on lacks some w) is_open = goes_on h lacks some (now_met ((is.rising p (rest % 4) h some).1) w is_open)

  new_length : length new ≡ n + 1
  new_length = length_push turned (0 ∷ 0 ∷ 0 ∷ 0 ∷ []) ∙ ap (λ (x : ℕ). x + 1) turned_length

  last_next : (digit : ℕ) → next new n digit ≡ 0
  unfolding next
  last_next digit = ap (λ (x : List ℕ). get_or x digit 0) last_places ∙ none_leads digit

  new_four : (p : ℕ) → p < n + 1 → length (places_at new p) ≡ 4
  new_four p h = elim (cases_order p at.place) [
    | inl same ↦ elim (cases_lt p n) [
      | inl less ↦ rw same (ap length (here_places (rw same at less)) ∙ length-set (places_at trie at.place) at.digit n ∙ is.four at.place (rw same at less))
      | inr more ↦ let last : p ≡ n = omega (arith, h, more) in rw last (ap length last_places)
    ]
    | inr other ↦ elim (cases_lt p n) [
      | inl less ↦ ap length (else_places p less (elim other [ inl a ↦ omega arith | inr b ↦ omega arith ])) ∙ is.four p less
      | inr more ↦ let last : p ≡ n = omega (arith, h, more) in rw last (ap length last_places)
    ]
  ]

  new_rising : (p digit : ℕ) → p < n + 1 → 0 < next new p digit → (p < next new p digit) × (next new p digit < n + 1)
  new_rising p digit h some = elim (cases_lt p n) [
    | inr more ↦
        let last : p ≡ n = omega (arith, h, more) in
        let none : next new p digit ≡ 0 = rw last (last_next digit) in
        absurd (omega (arith, none, some))
    | inl less ↦ elim (cases_lt 0 (next trie p digit)) [
      | inl old ↦
          let same = kept_next p digit less old in
          let rises = is.rising p digit less old in
          (omega (arith, same, rises.0), omega (arith, same, rises.1))
      | inr none ↦ elim (cases_order p at.place) [
        | inl here ↦ elim (cases_order digit at.digit) [
          | inl this ↦ let goes : next new p digit ≡ n = rw (here, this) (here_next (rw here at less)) in (omega (arith, goes, less), omega (arith, goes))
          | inr apart ↦ let same = else_next p digit less (λ e f. elim apart [ inl a ↦ omega arith | inr b ↦ omega arith ]) in absurd (omega (arith, same, none, some))
        ]
        | inr apart ↦ let same = else_next p digit less (λ e f. elim apart [ inl a ↦ omega arith | inr b ↦ omega arith ]) in absurd (omega (arith, same, none, some))
      ]
    ]
  ]

  first_met : (k : ℕ) → k ≡ n → Ends new (keys ++ key ∷ []) (hash_of key) (hash_of key) 0 (end.Met k)
  first_met k last = rw last (elim (cases_lt 0 n) [
    | inl some ↦ now_met some ends refl
    | inr none ↦ let zero_is : n ≡ 0 = omega (arith, none) in met (rw zero_is at new_has) (ap end.Met zero_is)
  ])

  new_met : (k : ℕ) → k < n + 1 → IsEnd new (keys ++ key ∷ []) (hash_of (key_at (keys ++ key ∷ []) k)) (end.Met k)
  new_met k h = elim (cases_lt k n) [
    | inl less ↦ rw (old_key k less) (still_met (omega (arith, less)) (is.met k less) refl)
    | inr more ↦
        let last : k ≡ n = omega (arith, h, more) in
        let key_is : key_at (keys ++ key ∷ []) k ≡ key = rw last new_key in
        rw key_is (first_met k last)
  ]

  -- The trie where the key has come in at the opening.
  pub IsTrie-linked : IsTrie (linked trie at) (keys ++ key ∷ [])
  IsTrie-linked = record {
    count = new_length ∙ ap (λ (x : ℕ). x + 1) (is.count) ∙ sym (length_push keys key);
    four = λ p h. new_four p (omega (arith, h, new_length));
    rising = λ p digit h some. let r = new_rising p digit (omega (arith, h, new_length)) some in (r.0, omega (arith, r.1, new_length));
    met = λ k h. new_met k (omega (arith, h, new_length));
  }
