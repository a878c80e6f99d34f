-- The record that is begun after a byte, and after a run of bytes.
use Rattle.std.proofs.Common.{◌≡◌, ◌≢◌, ℕ, ◌+◌, ◌-◌, ◌<◌, ◌≤◌, List, [], ◌∷◌, ◌++◌, length, refl, sym, ap, subst, ◌∙◌, append_assoc, arith, inl, inr}
use Rattle.std.proofs.lemmas.List.{append-nil, length-append, length_push}
use Rattle.cg_text.specs.ListFacts.{push_one}
use Rattle.cg_text.specs.Texts.{Lacks}
use Rattle.cg_text.specs.TextsLaws.{lacks_both}
use Rattle.cg_snap.specs.Begun.{IsBegun, IsLongRecord}
use Rattle.cg_snap.specs.ClosedLaws.{begun_once}
use Rattle.cg_snap.specs.Course.{AreOfRecord}
use Rattle.cg_snap.specs.Meter.{IsCounted}
use Rattle.cg_snap.specs.declared.meter.Meter.{Meter}

-- ---- The record that is begun

pub begun_push : (p r : List ℕ) (b : ℕ) → b ≢ 10 → IsBegun p r → IsBegun (p ++ b ∷ []) (r ++ b ∷ [])
begun_push p r b n h = record {
  front = h.front;
  split = ap (λ (t : List ℕ). t ++ b ∷ []) h.split ∙ append_assoc h.front r (b ∷ []);
  ended = h.ended;
  plain = lacks_both 10 r (b ∷ []) h.plain (n, tt);
}

pub begun_run : (p r q : List ℕ) → Lacks 10 q → IsBegun p r → IsBegun (p ++ q) (r ++ q)
begun_run p r q n h = record {
  front = h.front;
  split = ap (λ (t : List ℕ). t ++ q) h.split ∙ append_assoc h.front r q;
  ended = h.ended;
  plain = lacks_both 10 r q h.plain n;
}

pub begun_newline : (p : List ℕ) (b : ℕ) → b ≡ 10 → IsBegun (p ++ b ∷ []) []
begun_newline p b e = record { front = p ++ b ∷ []; split = sym (append-nil (p ++ b ∷ [])); ended = inr (p, ap (λ (c : ℕ). p ++ c ∷ []) e); plain = tt }

-- ---- Long records

-- The byte after p ends a record of which so much was begun.
pub long_is : (p r : List ℕ) (b max place : ℕ) → IsBegun p r → IsLongRecord max (p ++ b ∷ []) place → max ≤ length r
long_is p r b max place h l =
    let s = push_one p l.2.front b l.1 l.2.whole in
    let same : r ≡ l.0 = begun_once p r l.0 h (subst (λ (t : List ℕ). IsBegun t l.0) (sym s.0) l.2.begins) in
    omega (arith, l.3, ap length same)

pub is_long : (p r : List ℕ) (b max place : ℕ) → IsBegun p r → max ≤ length r → IsLongRecord max (p ++ b ∷ []) place
is_long p r b max place h l = (r, b, record { front = p; whole = refl; begins = h }, l)

pub not_long : (p r : List ℕ) (b max place : ℕ) → IsBegun p r → length r < max → IsLongRecord max (p ++ b ∷ []) place → ⊥
not_long p r b max place h lt l = absurd (omega (arith, lt, long_is p r b max place h l))

-- ---- What a meter counted

-- After what comes of a line, with its newline.
pub counted_line : (old new : Meter) (p line : List ℕ) (n : ℕ) → IsCounted old p → new.limits ≡ old.limits → n ≡ length line + 1 → n ≤ old.limits.max_stream - old.offset → new.offset ≡ old.offset + n → new.record_len ≡ 0 →
    IsCounted new (p ++ (line ++ 10 ∷ []))
counted_line old new p line n h li e far o r = record {
  offset = omega (arith, o, e, h.offset, length-append p (line ++ 10 ∷ []), length_push line 10);
  within = rw li (omega (arith, e, far, h.within, h.offset, length-append p (line ++ 10 ∷ []), length_push line 10));
  begun = [];
  begins = subst (λ (t : List ℕ). IsBegun t []) (append_assoc p line (10 ∷ [])) (begun_newline (p ++ line) 10 refl);
  length_is = r;
}

-- After a run without a newline.
pub counted_run : (old new : Meter) (p q : List ℕ) (n : ℕ) → IsCounted old p → new.limits ≡ old.limits →
    Lacks 10 q → n ≡ length q → n ≤ old.limits.max_stream - old.offset → new.offset ≡ old.offset + n →
    new.record_len ≡ old.record_len + n →
    IsCounted new (p ++ q)
counted_run old new p q n h li plain e far o r = record {
  offset = omega (arith, o, e, h.offset, length-append p q);
  within = rw li (omega (arith, e, far, h.within, h.offset, length-append p q));
  begun = h.begun ++ q;
  begins = begun_run p h.begun q plain h.begins;
  length_is = omega (arith, r, e, h.length_is, length-append h.begun q);
}

-- How much of a record is begun after bytes of one.
begun_part : (p r q : List ℕ) → IsBegun p r → AreOfRecord q → (s : List ℕ) × IsBegun (p ++ q) s × (length s ≤ length r + length q)
begun_part p r q h (inl plain) = (r ++ q, begun_run p r q plain h, omega (arith, length-append r q))
begun_part p r q h (inr l) =
    let whole : (p ++ l.0) ++ 10 ∷ [] ≡ p ++ q = append_assoc p l.0 (10 ∷ []) ∙ ap (λ (t : List ℕ). p ++ t) (sym l.1) in
    ([], subst (λ (t : List ℕ). IsBegun t []) whole (begun_newline (p ++ l.0) 10 refl), omega arith)

pub counted_most : (old new : Meter) (p q : List ℕ) → IsCounted old p → IsCounted new (p ++ q) → AreOfRecord q → new.record_len ≤ old.record_len + length q
counted_most old new p q h n part =
    let s = begun_part p h.begun q h.begins part in
    let same : n.begun ≡ s.0 = begun_once (p ++ q) n.begun s.0 n.begins s.1 in
    omega (arith, n.length_is, ap length same, s.2, h.length_is)
