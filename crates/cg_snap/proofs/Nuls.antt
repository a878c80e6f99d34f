-- How many records came before the NUL of a path.
use Rattle.std.proofs.Common.{◌≡◌, ◌≢◌, ℕ, ◌<◌, ◌≤◌, List, [], ◌∷◌, ◌++◌, length, refl, sym, ap, subst, ◌∙◌, append_assoc, arith, inl, inr, Some, None, Bool, true, false, Option}
use Rattle.cg_text.specs.Token.{saturated}
use Rattle.cg_value.specs.Entry.{EntryData, IsPath}
use Rattle.cg_value.specs.Records.{records}
use Rattle.cg_value.specs.declared.profile.Profile.{Profile}
use Rattle.cg_snap.specs.Course.{FullIs}
use Rattle.cg_snap.specs.DecoderState.{HasConsumed, HasConsumedInPath, HasConsumedBetween, HasConsumedAPath, IsBetween, IsLineCount, IsLineFlag}
use Rattle.cg_snap.specs.Snap.{Snap}
use Rattle.cg_snap.specs.SnapStop.{IsManyRecords}
use Rattle.cg_snap.specs.declared.present.CurrentEntry.{CurrentEntry}
use Rattle.cg_snap.proofs.Closes.{line_begun}
use Rattle.cg_snap.proofs.Joins.{ends_push, push_at}
use Rattle.cg_snap.proofs.Places.{HasBefore, few_many, is_many, many_path, not_many_line}
use Rattle.cg_snap.proofs.States.{between, line_state, paths_begun, paths_nul}
use Rattle.cg_snap.proofs.Steps.{present_entry, same_or_other}

same_whole : (p g r b : List ℕ) → p ≡ g ++ (r ++ b) → p ++ 0 ∷ [] ≡ g ++ (r ++ (b ++ 0 ∷ []))
same_whole p g r b e = rw e (simp append_assoc)

next_whole : (p g r b : List ℕ) → p ≡ g ++ (r ++ b) → p ++ 0 ∷ [] ≡ (g ++ r) ++ (b ++ 0 ∷ [])
next_whole p g r b e = rw e (simp append_assoc)

-- Counted so far as a u64 goes, and compared with a u64.
told_most : (n m max : ℕ) → m ≡ saturated n → max ≤ m → max ≤ n
told_most n m max e h = omega (arith, e, h)

told_less : (n m max : ℕ) → m ≡ saturated n → max ≤ 18446744073709551615 → m < max → n < max
told_less n m max e b h = omega (arith, e, b, h)

-- There is one count of the records that have ended.
pub count_some : (begun : List ℕ) (o : Option CurrentEntry) → (n : ℕ) × IsLineCount begun o n
count_some begun None = (0, refl)
count_some begun (Some x) = elim (same_or_other x.path.items begun) [ inl e ↦ (x.lines, (λ z. refl, λ n. absurd (n e))) | inr n ↦ (0, (λ e. absurd (n e), λ z. refl)) ]

module _ (profile : Profile) where
  start_before : (begun p : List ℕ) (es : List EntryData) → HasConsumedAPath begun p es → IsPath begun → HasBefore profile p begun 0
  start_before begun p es h g = record { es = []; given = []; lines = []; whole = ap (λ (t : List ℕ). t ++ 0 ∷ []) h.bytes; entries = refl; good = g; other = tt; plain = tt; count = refl }

  same_before : (begun : List ℕ) (x : CurrentEntry) (p : List ℕ) (es : List EntryData) (h : HasConsumedInPath profile begun x p es) → x.path.items ≡ begun → IsPath begun → HasBefore profile p begun (length h.lines)
  same_before begun x p es h e g = record {
    es = es;
    given = h.given;
    lines = h.lines;
    whole = subst (λ (q : List ℕ). p ++ 0 ∷ [] ≡ h.given ++ (records q h.lines ++ (begun ++ 0 ∷ []))) e (same_whole p h.given (records x.path.items h.lines) begun h.split);
    entries = h.entries;
    good = g;
    other = rw (sym e) h.other;
    plain = h.plain;
    count = refl;
  }

  next_before : (begun : List ℕ) (x : CurrentEntry) (p : List ℕ) (es : List EntryData) (h : HasConsumedInPath profile begun x p es) → x.path.items ≢ begun → IsPath begun → HasBefore profile p begun 0
  next_before begun x p es h n g =
      let e = present_entry profile begun x p es h in
      record {
        es = es ++ e.0 ∷ [];
        given = h.given ++ records x.path.items h.lines;
        lines = [];
        whole = next_whole p h.given (records x.path.items h.lines) begun h.split;
        entries = push_at profile es h.given x.path.items e.0 h.lines e.1 h.entries e.2 h.other;
        good = g;
        other = ends_push es e.0 begun (λ z. n (sym e.1 ∙ z));
        plain = tt;
        count = refl;
      }

  pub before_nul : (begun : List ℕ) (o : Option CurrentEntry) (p : List ℕ) (es : List EntryData) (m : ℕ) → HasConsumedBetween profile begun o p es → IsLineCount begun o m → IsPath begun → (n : ℕ) × HasBefore profile p begun n × (m ≡ saturated n)
  before_nul begun None p es m h c g = (0, start_before begun p es h g, c)
  before_nul begun (Some x) p es m h c g =
      elim (same_or_other x.path.items begun) [
        | inl e ↦ (length h.lines, same_before begun x p es h e g, c.0 e ∙ h.count)
        | inr n ↦ (0, next_before begun x p es h n g, c.1 n)
      ]

  -- A NUL that ends a path, by the count.
  pub full_is : (begun : List ℕ) (o : Option CurrentEntry) (p : List ℕ) (es : List EntryData) (m max : ℕ) (b : Bool) →
      max ≤ 18446744073709551615 → IsBetween o → HasConsumed profile begun o p es → IsLineCount begun o m →
      (b ≡ true → max ≤ m) → (b ≡ false → m < max) → FullIs (Snap profile) (IsManyRecords profile) max p 0 b
  full_is begun o p es m max true u i h c s f = λ v.
      let a = between profile begun o p es i h in
      let n = before_nul begun o p es m a c (paths_nul profile begun o p es a v).0 in
      is_many profile p begun n.0 max (length p) n.1 (told_most n.0 m max n.2 (s refl))
  full_is begun o p es m max false u i h c s f = λ many.
      let a = between profile begun o p es i h in
      let n = before_nul begun o p es m a c (many_path profile p begun max (length p) (paths_begun profile begun o p es a).0 many) in
      few_many profile p begun n.0 max (length p) n.1 (told_less n.0 m max n.2 u (f refl)) many

  -- A NUL within a line.
  pub line_few : (begun : List ℕ) (o : Option CurrentEntry) (p : List ℕ) (es : List EntryData) (max : ℕ) → (flag : Bool) → IsLineFlag o flag → flag ≡ true → HasConsumed profile begun o p es → IsManyRecords profile max (p ++ 0 ∷ []) (length p) → ⊥
  line_few begun None p es max flag f e h many = absurd (cc)
  line_few begun (Some x) p es max flag f e h many =
      let l = line_state profile begun x p es (sym f ∙ e) h in
      not_many_line profile p (x.path.items ++ 0 ∷ l.line) x.path.items l.line 0 max (length p) (line_begun profile begun x p es l) refl many
