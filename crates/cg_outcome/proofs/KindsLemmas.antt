-- How the list of the kinds grows by a line.
use Rattle.std.proofs.Common.{◌≡◌, ℕ, None, ◌+◌, ◌<◌, ◌≤◌, List, [], ◌∷◌, ◌++◌, take, length, get_or, drop, drop-cons, take-append-drop, suc, refl, sym, ap, ◌∙◌, append_assoc, append-nil, arith, length-append}
use Rattle.std.proofs.lemmas.List.{get_or-map, length-map, take_more, take_all, take-append-le}
use Rattle.std.proofs.Math.Seq.{take-append-add}
use Rattle.cg_value.specs.Table.{row, rows}
use Rattle.cg_value.specs.TableRows.{row_at}
use Rattle.cg_value.specs.declared.profile.Profile.{Profile}
use Rattle.cg_value.specs.declared.profile.Profile.TheVariants.{One, Two, Kernel}
use Rattle.cg_outcome.specs.Kinds.{kinds_line, kinds_lines}
use Rattle.cg_outcome.specs.Wrote.{joined}

-- No profile has more rows than these.
pub few_rows : (profile : Profile) → length (rows profile) ≤ 86
few_rows One = omega arith
few_rows Two = omega arith
few_rows Kernel = omega arith

pub lines_count : (profile : Profile) → length (kinds_lines profile) ≡ length (rows profile)
unfolding kinds_lines
lines_count profile = length-map (rows profile) kinds_line

line_at : (profile : Profile) (place : ℕ) → place < length (rows profile) → get_or (kinds_lines profile) place [] ≡ kinds_line (row_at profile place)
unfolding kinds_lines
line_at profile place within = get_or-map kinds_line (rows profile) place (row [] None None) [] within

joined_more : (xs : List (List ℕ)) (last : List ℕ) → joined (xs ++ last ∷ []) ≡ joined xs ++ last
joined_more [] last = append-nil last
joined_more (x ∷ xs) last = ap (λ t. x ++ t) (joined_more xs last) ∙ sym (append_assoc x (joined xs) last)

joined_append : (xs ys : List (List ℕ)) → joined (xs ++ ys) ≡ joined xs ++ joined ys
joined_append [] ys = refl
joined_append (x ∷ xs) ys = ap (λ t. x ++ t) (joined_append xs ys) ∙ sym (append_assoc x (joined xs) (joined ys))

module _ (profile : Profile) (place : ℕ) where
  -- The lines before the place, and one more.
  pub lines_more : place < length (rows profile) → joined (take (place + 1) (kinds_lines profile)) ≡ joined (take place (kinds_lines profile)) ++ kinds_line (row_at profile place)
  lines_more within =
      ap joined (take_more (kinds_lines profile) place [] (omega (arith, within, lines_count profile)))
      ∙ joined_more (take place (kinds_lines profile)) (get_or (kinds_lines profile) place [])
      ∙ ap (λ t. joined (take place (kinds_lines profile)) ++ t) (line_at profile place within)

  -- After the last place they are all.
  pub lines_all : length (rows profile) ≤ place → joined (take place (kinds_lines profile)) ≡ joined (kinds_lines profile)
  lines_all done = ap joined (take_all place (kinds_lines profile) (omega (arith, done, lines_count profile)))

  lines_split : place < length (rows profile) → joined (kinds_lines profile) ≡ joined (take place (kinds_lines profile)) ++ (kinds_line (row_at profile place) ++ joined (drop (suc place) (kinds_lines profile)))
  lines_split within =
      let ls = kinds_lines profile in
      let next : drop place ls ≡ kinds_line (row_at profile place) ∷ drop (suc place) ls = drop-cons ls place [] (omega (arith, within, lines_count profile)) ∙ ap (λ t. t ∷ drop (suc place) ls) (line_at profile place within) in
      ap joined (sym (take-append-drop place ls)) ∙ joined_append (take place ls) (drop place ls) ∙ ap (λ t. joined (take place ls) ++ joined t) next

  -- The lines before the place, and the first bytes of its own, are the first bytes of all.
  module _ (n : ℕ) (within : place < length (rows profile)) (part : n ≤ length (kinds_line (row_at profile place))) where
    pub first_bytes : take (length (joined (take place (kinds_lines profile))) + n) (joined (kinds_lines profile)) ≡ joined (take place (kinds_lines profile)) ++ take n (kinds_line (row_at profile place))
    first_bytes =
        let front = joined (take place (kinds_lines profile)) in
        let line = kinds_line (row_at profile place) in
        let rest = joined (drop (suc place) (kinds_lines profile)) in
        ap (λ t. take (length front + n) t) (lines_split within) ∙ take-append-add front (line ++ rest) n ∙ ap (λ t. front ++ t) (take-append-le n line rest part)

    pub within_all : length (joined (take place (kinds_lines profile))) + n ≤ length (joined (kinds_lines profile))
    within_all =
        let front = joined (take place (kinds_lines profile)) in
        let line = kinds_line (row_at profile place) in
        let rest = joined (drop (suc place) (kinds_lines profile)) in
        omega (arith, part, ap length (lines_split within), length-append front (line ++ rest), length-append line rest)
