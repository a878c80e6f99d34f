-- What is right for a run that checks a snapshot.
use Rattle.std.proofs.Common.{◌≡◌, ℕ, Bool, false, List, [], ◌∷◌, ◌++◌, length, map, Option, append-nil, append_assoc, inl, inr, refl, sym, ap, subst, ◌∙◌, take, drop, ◌+◌, ◌<◌, take-append-drop, get_or}
use Rattle.std.proofs.lemmas.List.{map_more, map-append}
use Rattle.std.specs.Io.KnownBytes.{IsAtEnd}
use Rattle.cg_value.specs.Entry.{EntryData}
use Rattle.cg_snap.specs.declared.stop.Stop.{Stop}
use Rattle.cg_tree.specs.Find.{find}
use Rattle.cg_tree.specs.Finding.{rule_word}
use Rattle.cg_tree.specs.Ruled.{ruled}
use Rattle.cg_tree.specs.RuledLaws.{told_of_ruled}
use Rattle.cg_tree.specs.declared.finding.Finding.{Finding}
use Rattle.cg_run.specs.Check.{IsCheckRight, control_text, finding_line, finding_lines}
use Rattle.cg_run.specs.Checked.{AreAllLines, AreLinesRight, HasWrittenLines, IsKept}
use Rattle.cg_outcome.specs.Explain.{Tells}
use Rattle.cg_outcome.specs.Input.{Reading}
use Rattle.cg_outcome.specs.Outcome.{checked, last_line}
use Rattle.cg_outcome.specs.Wrote.{Wrote, joined}
use Rattle.cg_run.specs.Stream.{IsStreamDone, IsStreamRight}
use Rattle.cg_run.specs.Streaming.{EndsSo}
use Rattle.cg_run.specs.declared.kept.Kept.{Kept}
use Rattle.cg_outcome.specs.declared.outcome.Outcome.{Outcome}
use Rattle.cg_outcome.specs.declared.outcome.Outcome.TheVariants as out

module _ (Whole : List ℕ → List (List ℕ) → Outcome → Type 0) (Closes : List ℕ → List (List ℕ) → Type 0) (Unstopped : List ℕ → Type 0) (StopsBy : List ℕ → Stop → Type 0) (r : Reading) where
  -- What is right for a stream is right for one that is checked.
  pub stream_checked : (o : Outcome) (parts : List (List ℕ)) → IsStreamRight Whole Closes Unstopped StopsBy r o parts → IsCheckRight Whole Closes Unstopped StopsBy r o parts
  stream_checked out.Done parts h = h
  stream_checked (out.Findings n) parts h = h
  stream_checked (out.LeftOut n) parts h = h
  stream_checked (out.Stopped s) parts h = h
  stream_checked out.NotReadable parts h = h
  stream_checked out.NotWritable parts h = h
  stream_checked out.ReadFault parts h = h
  stream_checked (out.WriteFault n) parts h = h
  stream_checked out.OutOfMemory parts h = inl h

  abbrev Done : Outcome → List (List ℕ) → Type 0
  Done = IsStreamDone Whole Closes Unstopped StopsBy r

  -- The lines of a whole stream, behind the parts that were given before.
  module _ (before lines : List (List ℕ)) (left_out : ℕ) (d : Done (checked (length lines) left_out) (before ++ lines)) where
    all_checked : (o : Outcome) (parts : List (List ℕ)) → AreAllLines before lines left_out o parts → Done o parts
    all_checked o parts h = subst (λ (p : Outcome). Done p parts) (sym h.1) (subst (λ (ps : List (List ℕ)). Done (checked (length lines) left_out) ps) (sym h.0) d)

    pub lines_checked : (o : Outcome) (parts : List (List ℕ)) → AreLinesRight before lines left_out o parts → IsCheckRight Whole Closes Unstopped StopsBy r o parts
    lines_checked out.Done parts h = all_checked out.Done parts h
    lines_checked (out.Findings n) parts h = all_checked (out.Findings n) parts h
    lines_checked (out.LeftOut n) parts h = all_checked (out.LeftOut n) parts h
    lines_checked (out.Stopped s) parts h = absurd h
    lines_checked out.NotReadable parts h = absurd h
    lines_checked out.NotWritable parts h = absurd h
    lines_checked out.ReadFault parts h = absurd h
    lines_checked (out.WriteFault n) parts h = absurd h
    lines_checked out.OutOfMemory parts h = inr (h.0, checked (length lines) left_out, subst (λ (ps : List (List ℕ)). Done (checked (length lines) left_out) ps) (sym h.1) d)

-- ---- The lines

-- The entries that the rules speak of have the lines of all entries.
pub lines_of_ruled : (es : List EntryData) → finding_lines (ruled es) ≡ finding_lines es
lines_of_ruled es = told_of_ruled (λ rule entry word. rule_word rule ++ 32 ∷ (control_text entry word ++ 10 ∷ [])) es

-- All lines but those that were written.
pub lines_left : {X : Type 0} (f : X → List ℕ) (xs : List X) (i : ℕ) → map f (take i xs) ++ map f (drop i xs) ≡ map f xs
lines_left f xs i = sym (map-append f (take i xs) (drop i xs)) ∙ ap (map f) (take-append-drop i xs)

-- ... and one more.
pub lines_after : {X : Type 0} (f : X → List ℕ) (xs : List X) (i : ℕ) (d : X) (line : List ℕ) → i < length xs → line ≡ f (get_or xs i d) →
    (map f (take i xs) ++ line ∷ []) ++ map f (drop (i + 1) xs) ≡ map f xs
lines_after f xs i d line within e =
    ap (λ (l : List ℕ). (map f (take i xs) ++ l ∷ []) ++ map f (drop (i + 1) xs)) e
    ∙ ap (λ (ls : List (List ℕ)). ls ++ map f (drop (i + 1) xs)) (sym (map_more f xs i d within))
    ∙ lines_left f xs (i + 1)

-- Behind parts.
pub left_behind : (before all : List (List ℕ)) (a b : List (List ℕ)) → a ++ b ≡ all → (before ++ a) ++ b ≡ before ++ all
left_behind before all a b e = append_assoc before a b ∙ ap (λ (ls : List (List ℕ)). before ++ ls) e

-- ---- The end of the input

-- Lines that were written are no stop.
lines_tell : (explain : Bool) (Line : List ℕ → Option ℕ → List ℕ → Type 0) (r : Reading) (before lines : List (List ℕ)) (left_out : ℕ) (o : Outcome) (parts : List (List ℕ)) → AreLinesRight before lines left_out o parts → Tells Line explain r o []
lines_tell explain Line r before lines left_out out.Done parts h = refl
lines_tell explain Line r before lines left_out (out.Findings n) parts h = refl
lines_tell explain Line r before lines left_out (out.LeftOut n) parts h = refl
lines_tell explain Line r before lines left_out (out.Stopped s) parts h = absurd h
lines_tell explain Line r before lines left_out out.NotReadable parts h = refl
lines_tell explain Line r before lines left_out out.NotWritable parts h = refl
lines_tell explain Line r before lines left_out out.ReadFault parts h = refl
lines_tell explain Line r before lines left_out (out.WriteFault n) parts h = refl
lines_tell explain Line r before lines left_out out.OutOfMemory parts h = refl

module _ (Whole : List ℕ → List (List ℕ) → Outcome → Type 0) (Closes : List ℕ → List (List ℕ) → Type 0) (Unstopped : List ℕ → Type 0) (StopsBy : List ℕ → Stop → Type 0)
    (explain : Bool) (Line : List ℕ → Option ℕ → List ℕ → Type 0) (read : List ℕ) (left : Option (List ℕ)) (failed : Bool) (first now : Option (List ℕ)) (write_failed : Bool)
    (parts : List (List ℕ)) (unstopped : Unstopped read) (closed : Closes read parts) (ended : IsAtEnd left) (works : failed ≡ false) where
  abbrev r : Reading
  r = record { bytes = read; left = left; failed = failed }

  abbrev Ended : Outcome → Type 0
  Ended = EndsSo (IsCheckRight Whole Closes Unstopped StopsBy) (Tells Line explain) read left failed first now write_failed

  done : (all : List (List ℕ)) (o : Outcome) → Whole read all o → IsStreamDone Whole Closes Unstopped StopsBy r o all
  done all o h = record { ended = (ended, works); unstopped = unstopped; whole = h }

  -- The lines of the findings were written.
  pub lines_end : (kept : Kept) (seen shown : List EntryData) (found told : List Finding) (left_out : ℕ) (o : Outcome) → IsKept Whole read parts kept → seen ≡ kept.entries.items → shown ≡ kept.entries.items →
      found ≡ find seen → told ≡ found → left_out ≡ kept.left_out → HasWrittenLines parts (map (finding_line shown) told) left_out first now write_failed o → Ended o
  lines_end kept seen shown found told left_out o t e f g k n h =
      let es = kept.entries.items in
      let all : map (finding_line shown) told ≡ finding_lines es = ap (map (finding_line shown)) (k ∙ g) ∙ ap (λ xs. map (finding_line xs) (find seen)) f ∙ ap (λ xs. map (finding_line es) (find xs)) e in
      let w = subst (λ (m : ℕ). HasWrittenLines parts (finding_lines es) m first now write_failed o) n (subst (λ (lines : List (List ℕ)). HasWrittenLines parts lines left_out first now write_failed o) all h) in
      record {
        wanted = w.wanted;
        parts = w.parts;
        right = lines_checked Whole Closes Unstopped StopsBy r parts (finding_lines es) kept.left_out (done (parts ++ finding_lines es) (checked (length (finding_lines es)) kept.left_out) t) w.wanted w.parts w.right;
        more = [];
        tells = lines_tell explain Line r parts (finding_lines es) kept.left_out w.wanted w.parts w.right;
        wrote = subst (λ (t : List ℕ). Wrote first now write_failed (joined w.parts ++ t) w.wanted o) (sym (append-nil (last_line w.wanted))) w.wrote;
      }

  -- No memory was left for the entries of a snapshot, or for what they break.
  pub memory_end : (more : List (List ℕ)) (all : Outcome) (o : Outcome) → Whole read (parts ++ more) all → Wrote first now write_failed (joined parts ++ last_line out.OutOfMemory) out.OutOfMemory o → Ended o
  memory_end more all o t w = record { wanted = out.OutOfMemory; parts = parts; right = inr (more, all, done (parts ++ more) all t); more = []; tells = refl; wrote = w }

  -- A run that ends as is right for a stream.
  pub ends_checked : (o : Outcome) → EndsSo (IsStreamRight Whole Closes Unstopped StopsBy) (Tells Line explain) read left failed first now write_failed o → Ended o
  ends_checked o e = record { wanted = e.wanted; parts = e.parts; right = stream_checked Whole Closes Unstopped StopsBy r e.wanted e.parts e.right; more = e.more; tells = e.tells; wrote = e.wrote }
