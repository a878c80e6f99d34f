-- What holds of files of raw lines.
use Rattle.std.proofs.Common.{◌≡◌, ℕ, ◌+◌, ◌<◌, ◌≤◌, ◌↔◌, List, [], ◌∷◌, ◌++◌, length, IsTrue, refl, sym, ◌∙◌, ap, subst, append_assoc, length-append, arith}
use Rattle.std.proofs.lemmas.List.{append-nil}
use Rattle.std.proofs.lemmas.List.Sums.{sum_by-cons}
use Rattle.std.specs.List.{AllZip, sum_by}
use Rattle.cg_text.specs.Token.{AreBytes}
use Rattle.cg_value.specs.Files.{KindText}
use Rattle.cg_value.specs.Lines.{unlines}
use Rattle.cg_value.specs.LinesOfLaws.{ended_whole, lines_plain, lines_unlines, newline_bytes, no_nul_bytes, nul_after, nul_append, raw_lines_of, raw_lines_bytes, raw_lines_plain, raw_same, whole_unlines}
use Rattle.cg_value.specs.RawLines.{AreWholeLines, HasNoNul, is_ended, lines_of}
use Rattle.cg_value.specs.ReadLine.{IsRaw}
use Rattle.cg_value.specs.declared.kind.ReadForm.TheVariants.{Raw as RawForm}
use Rattle.cg_value.specs.declared.value.Value.{Value}
use Rattle.cg_value.specs.declared.value.Value.TheVariants.{Raw}
use Rattle.cg_file.specs.RawFile.{IsRawFileRest}

-- ---- What a new token means

raw_to : (rest : List ℕ) (v : Value) → IsRawFileRest [] rest v → KindText RawForm v rest
raw_to rest v h = record {
  lines = lines_of rest;
  spelled = record { xs = lines_of rest; value = h.value; spelled = raw_lines_of (lines_of rest) (subst HasNoNul (sym h.whole.whole) h.bytes) (lines_plain rest) };
  text_is = sym h.whole.whole;
}

raw_text : (xs : List (List ℕ)) (lines : List (List ℕ)) → AllZip IsRaw xs lines → IsRawFileRest [] (unlines xs) (Raw xs)
raw_text xs lines h =
    let plain = raw_lines_plain xs lines h in
    record { value = ap (λ ls. Raw ls) (sym (lines_unlines xs plain)); whole = whole_unlines xs plain; bytes = raw_lines_bytes xs lines h }

raw_from : (rest : List ℕ) (v : Value) → KindText RawForm v rest → IsRawFileRest [] rest v
raw_from rest v h =
    let all = h.spelled in
    let text : unlines all.xs ≡ rest = ap (λ ls. unlines ls) (raw_same all.xs h.lines all.spelled) ∙ sym h.text_is in
    subst (λ w. IsRawFileRest [] rest w) (sym all.value) (subst (λ t. IsRawFileRest [] t (Raw all.xs)) text (raw_text all.xs h.lines all.spelled))

pub raw_is : (rest : List ℕ) (v : Value) → IsRawFileRest [] rest v ↔ KindText RawForm v rest
raw_is rest v = (raw_to rest v, raw_from rest v)

-- ---- The laws of the token

ended_newline : (taken : List ℕ) → AreWholeLines (taken ++ 10 ∷ [])
ended_newline taken = (ended_whole (taken ++ 10 ∷ [])).0 (ends taken)
  where
    ends : (xs : List ℕ) → IsTrue (is_ended (xs ++ 10 ∷ []))
    ends [] = refl
    ends (c ∷ []) = refl
    ends (c ∷ d ∷ ds) = ends (d ∷ ds)

pub raw_file_completes : (taken : List ℕ) → (rest : List ℕ) × (v : Value) × IsRawFileRest taken rest v
raw_file_completes taken = (10 ∷ [], Raw (lines_of (taken ++ 10 ∷ [])), record { value = refl; whole = ended_newline taken; bytes = newline_bytes })

pub raw_file_one : (taken rest : List ℕ) (v w : Value) → IsRawFileRest taken rest v → IsRawFileRest taken rest w → v ≡ w
raw_file_one taken rest v w h k = h.value ∙ sym k.value

pub raw_file_ends : (taken : List ℕ) → IsTrue (is_ended taken) ↔ ((v : Value) × IsRawFileRest taken [] v)
raw_file_ends taken = (
  λ e. (Raw (lines_of (taken ++ [])), record { value = refl; whole = subst AreWholeLines (sym (append-nil taken)) ((ended_whole taken).0 e); bytes = tt }),
  λ r. (ended_whole taken).1 (subst AreWholeLines (append-nil taken) r.1.whole),
)

pub raw_file_bytes : (taken rest : List ℕ) (v : Value) → IsRawFileRest taken rest v → AreBytes rest
raw_file_bytes taken rest v h = no_nul_bytes rest h.bytes

-- What is left after a run of bytes.
pub raw_file_run : (taken run rest : List ℕ) (v : Value) → HasNoNul run → IsRawFileRest (taken ++ run) rest v ↔ IsRawFileRest taken (run ++ rest) v
raw_file_run taken run rest v r =
    let same : (taken ++ run) ++ rest ≡ taken ++ (run ++ rest) = append_assoc taken run rest in (
      λ h. record { value = h.value ∙ ap (λ t. Raw (lines_of t)) same; whole = subst AreWholeLines same h.whole; bytes = nul_append run rest r h.bytes },
      λ h. record { value = h.value ∙ ap (λ t. Raw (lines_of t)) (sym same); whole = subst AreWholeLines (sym same) h.whole; bytes = nul_after run rest h.bytes },
    )

-- A byte that isn't NUL goes on.
pub raw_file_begins : (taken : List ℕ) (byte : ℕ) → 0 < byte → byte < 256 → (rest : List ℕ) × (v : Value) × IsRawFileRest taken (byte ∷ rest) v
raw_file_begins taken byte some small =
    let k = raw_file_completes (taken ++ byte ∷ []) in
    (k.0, k.1, (raw_file_run taken (byte ∷ []) k.0 k.1 (some, small, tt)).0 k.2)

-- ---- What is held: the lines, each with its newline.

unlines_length : (ls : List (List ℕ)) → length (unlines ls) ≡ length ls + sum_by length ls
unlines_length [] = refl
unlines_length (l ∷ ls) =
    let cut : length (l ++ 10 ∷ unlines ls) ≡ length l + length (10 ∷ unlines ls) = length-append l (10 ∷ unlines ls) in
    let more = unlines_length ls in
    let sum : sum_by length (l ∷ ls) ≡ length l + sum_by length ls = sum_by-cons length l ls in
    omega (arith, cut, more, sum)

pub raw_file_held : (taken : List ℕ) → AreWholeLines (taken ++ []) → length taken ≤ length (lines_of (taken ++ [])) + sum_by length (lines_of (taken ++ []))
raw_file_held taken h =
    let ls = lines_of (taken ++ []) in
    let all : unlines ls ≡ taken = h.whole ∙ append-nil taken in
    let n = unlines_length ls in
    let m : length (unlines ls) ≡ length taken = ap length all in
    omega (arith, n, m)
