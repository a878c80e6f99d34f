-- Which bytes begin a record too many.
use Rattle.std.proofs.Common.{◌≡◌, ◌≢◌, ℕ, ◌<◌, ◌≤◌, List, [], ◌∷◌, ◌++◌, length, ap, subst, ◌∙◌, append_assoc, arith}
use Rattle.std.specs.List.{AllByRecursion}
use Rattle.cg_text.specs.ListFacts.{push_one}
use Rattle.cg_text.specs.Texts.{Lacks}
use Rattle.cg_text.specs.TextsLaws.{lacks_inside}
use Rattle.cg_value.specs.Entry.{EntryData, IsPath}
use Rattle.cg_value.specs.PathLaws.{path_lacks_newline, path_lacks_nul}
use Rattle.cg_value.specs.Records.{records}
use Rattle.cg_value.specs.declared.profile.Profile.{Profile}
use Rattle.cg_snap.specs.Begun.{IsBegun}
use Rattle.cg_snap.specs.Closed.{Closed, EndsOther}
use Rattle.cg_snap.specs.ClosedLaws.{begun_once, closed_once, one_closing}
use Rattle.cg_snap.specs.Snap.{SnapText}
use Rattle.cg_snap.specs.SnapStop.{IsManyRecords}
use Rattle.cg_snap.proofs.Closes.{begun_after, nul_closed}

many_text : (p given recs path : List ℕ) (b : ℕ) → p ++ b ∷ [] ≡ given ++ (recs ++ (path ++ 0 ∷ [])) → p ++ b ∷ [] ≡ (given ++ (recs ++ path)) ++ 0 ∷ []
many_text p given recs path b e = e ∙ simp append_assoc

module _ (profile : Profile) where
  -- ---- Many records

  -- The byte is a NUL, and its record has this path.
  many_ends : (p r : List ℕ) (b max place : ℕ) → IsBegun p r → (m : IsManyRecords profile max (p ++ b ∷ []) place) → (b ≡ 0) × (m.path ≡ r)
  many_ends p r b max place h m =
      let s = push_one p (m.given ++ (records m.path m.lines ++ m.path)) b 0 (many_text p m.given (records m.path m.lines) m.path b m.whole) in
      let begun : IsBegun p m.path = begun_after profile m.es m.given m.path m.lines p m.path m.entries s.0 (path_lacks_newline m.path m.good) in
      (s.1, begun_once p m.path r begun h)

  pub not_many : (p r : List ℕ) (b max place : ℕ) → IsBegun p r → b ≢ 0 → IsManyRecords profile max (p ++ b ∷ []) place → ⊥
  not_many p r b max place h n m = n (many_ends p r b max place h m).0

  pub not_many_line : (p r path line : List ℕ) (b max place : ℕ) → IsBegun p r → r ≡ path ++ 0 ∷ line → IsManyRecords profile max (p ++ b ∷ []) place → ⊥
  not_many_line p r path line b max place h e m =
      lacks_inside 0 path line (subst (Lacks 0) ((many_ends p r b max place h m).1 ∙ e) (path_lacks_nul m.path m.good))

  -- So many records of the path came before its NUL.
  pub record HasBefore (p path : List ℕ) (n : ℕ) : Type 0 where
    pub es : List EntryData
    pub given : List ℕ
    pub lines : List (List ℕ)
    pub whole : p ++ 0 ∷ [] ≡ given ++ (records path lines ++ (path ++ 0 ∷ []))
    pub entries : SnapText profile es given
    pub good : IsPath path
    pub other : EndsOther es path
    pub plain : AllByRecursion (Lacks 10) lines
    pub count : n ≡ length lines

  pub is_many : (p path : List ℕ) (n max place : ℕ) → HasBefore p path n → max ≤ n → IsManyRecords profile max (p ++ 0 ∷ []) place
  is_many p path n max place h le = record { es = h.es; given = h.given; path = path; lines = h.lines; whole = h.whole; entries = h.entries; good = h.good; other = h.other; plain = h.plain; many = omega (arith, h.count) }

  same_lines : (t : List ℕ) (es fs : List EntryData) → es ≡ fs → (c : Closed profile t es) (d : Closed profile t fs) → c.of_path.lines ≡ d.of_path.lines
  same_lines t es fs e = subst (λ (gs : List EntryData). (c : Closed profile t es) (d : Closed profile t gs) → c.of_path.lines ≡ d.of_path.lines) e (λ c d. (one_closing profile t es c d).lines)

  pub few_many : (p path : List ℕ) (n max place : ℕ) → HasBefore p path n → n < max → IsManyRecords profile max (p ++ 0 ∷ []) place → ⊥
  few_many p path n max place h lt m =
      let c : Closed profile (p ++ 0 ∷ []) h.es = nul_closed profile h.es h.given path h.lines [] (p ++ 0 ∷ []) h.entries h.other h.good h.plain tt h.whole in
      let d : Closed profile (p ++ 0 ∷ []) m.es = nul_closed profile m.es m.given m.path m.lines [] (p ++ 0 ∷ []) m.entries m.other m.good m.plain tt m.whole in
      let same : h.lines ≡ m.lines = same_lines (p ++ 0 ∷ []) h.es m.es (closed_once profile (p ++ 0 ∷ []) h.es m.es c d) c d in
      absurd (omega (arith, lt, h.count, m.many, ap length same))

  -- The path of such a record is that which is begun.
  pub many_path : (p r : List ℕ) (max place : ℕ) → IsBegun p r → IsManyRecords profile max (p ++ 0 ∷ []) place → IsPath r
  many_path p r max place h m = subst IsPath (many_ends p r 0 max place h m).1 m.good
