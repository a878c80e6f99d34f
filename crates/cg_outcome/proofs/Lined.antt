-- Lines, counted byte by byte.
use Rattle.std.proofs.Common.{◌≡◌, ◌≢◌, ℕ, ◌+◌, ◌≤◌, List, [], ◌∷◌, ◌++◌, length, inr, refl, sym, append_assoc, append-nil, arith, length-append}
use Rattle.std.proofs.Common.{min}
use Rattle.cg_text.specs.TextsLaws.{lacks_push}
use Rattle.cg_outcome.specs.Explain.{newlines}
use Rattle.cg_outcome.specs.Lines.{AreCounted}
use Rattle.cg_outcome.specs.declared.lines.Lines.{Lines}

newlines_both : (p q : List ℕ) → newlines (p ++ q) ≡ newlines p + newlines q
newlines_both [] q = omega arith
newlines_both (b ∷ p) q = grind (arith, newlines_both p q)

pub newlines_few : (p : List ℕ) → newlines p ≤ length p
newlines_few [] = omega arith
newlines_few (b ∷ p) = grind (arith, newlines_few p)

one_newline : (b : ℕ) → b ≡ 10 → newlines (b ∷ []) ≡ 1
one_newline b e = rw e refl

no_newline : (b : ℕ) → b ≢ 10 → newlines (b ∷ []) ≡ 0
no_newline b n = grind arith

module _ (lines new : Lines) (p : List ℕ) (b : ℕ) (h : AreCounted lines p) where
  -- A line ends.
  pub line_counted : b ≡ 10 → new.ended ≡ min (lines.ended + 1) 18446744073709551615 → new.begun ≡ 0 → AreCounted new (p ++ b ∷ [])
  line_counted e more none = record {
    begun = [];
    begins = record { front = p ++ b ∷ []; split = sym (append-nil (p ++ b ∷ [])); ended = rw e (inr (p, refl)); plain = tt };
    ended_is = omega (arith, more, h.ended_is, newlines_both p (b ∷ []), one_newline b e);
    begun_is = omega (arith, none);
  }

  -- It goes on.
  pub byte_counted : b ≢ 10 → new.ended ≡ lines.ended → new.begun ≡ min (lines.begun + 1) 18446744073709551615 → AreCounted new (p ++ b ∷ [])
  byte_counted n same more = record {
    begun = h.begun ++ b ∷ [];
    begins = record {
      front = h.begins.front;
      split = rw h.begins.split (append_assoc h.begins.front h.begun (b ∷ []));
      ended = h.begins.ended;
      plain = lacks_push 10 h.begun b h.begins.plain n;
    };
    ended_is = omega (arith, same, h.ended_is, newlines_both p (b ∷ []), no_newline b n);
    begun_is = omega (arith, more, h.begun_is, length-append h.begun (b ∷ []));
  }
