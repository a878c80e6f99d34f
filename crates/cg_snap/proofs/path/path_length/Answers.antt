use Rattle.std.proofs.Common.{◌≡◌, ◌<◌, ◌≤◌, ◌∙◌, ℕ, List, get_or, length, inl, inr, ap, sym, arith}
use Rattle.std.proofs.lemmas.Bool.{cases_lt, eqb-true}
use Rattle.std.proofs.lemmas.List.{get_or-take}
use Rattle.memchr.specs.Find.{Nowhere, Passes, is_byte}
use Rattle.cg_snap.specs.PathBytes.{EndsPath}
use Rattle.cg_snap.proofs.PathRuns.{path_searched}
use Rattle.cg_snap.proofs.path.path_length.Goals as goal
use Rattle.cg_snap.proofs.path.path_length.Goals.{in-Some, in-None}

pub returns : goal.returns
returns c =
    let bytes = c.args.bytes.now in
    let front = c.split_at.result.0.now in
    let nul = c.match-memchr.nul in
    let used = c.line_length.result in
    let line = c.line_length.ensures in
    let no_nul : Nowhere (Passes (is_byte 0) bytes) 0 nul = elim c.match-memchr.branch [
      | in-Some w ↦ rw w.nul-is w.in-Some.ensures.0.before
      | in-None w ↦ rw w.nul-is w.in-None.ensures
    ] in
    let inside : nul ≤ length bytes = elim c.match-memchr.branch [
      | in-Some w ↦ omega (arith, w.nul-is, w.in-Some.ensures.0.high)
      | in-None w ↦ omega (arith, w.nul-is)
    ] in
    let size : length front ≡ nul = omega (arith, c.split_at.ensures.front_len, inside) in
    let less : used ≤ nul = omega (arith, line.within, size) in
    let ends : used < length bytes → EndsPath (get_or bytes used 0) = λ lt. (elim (cases_lt used nul) [
      | inl low ↦ inr (sym (ap (λ (t : List ℕ). get_or t used 0) c.split_at.ensures.front ∙ get_or-take nul bytes used 0 low) ∙ line.ends (omega (arith, low, size)))
      | inr high ↦
          let same : used ≡ nul = omega (arith, high, less) in
          elim c.match-memchr.branch [
            | in-Some w ↦ inl (ap (λ (i : ℕ). get_or bytes i 0) (same ∙ w.nul-is) ∙ eqb-true _ _ w.in-Some.ensures.1)
            | in-None w ↦ absurd (omega (arith, lt, same, w.nul-is))
          ]
    ]) in
    record {
      within = omega (arith, less, inside);
      plain = path_searched bytes front nul used (λ i. omega (arith, c.type_inv.bytes i)) no_nul c.split_at.ensures.front line.plain less line.within;
      ends = ends;
    }
