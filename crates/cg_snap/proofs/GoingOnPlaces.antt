-- Where the record stands that comes of a snapshot that is gone on with, and which bytes may come.
use Rattle.std.proofs.Common.{◌≡◌, ℕ, ◌<◌, ◌↔◌, Bool, true, false, List, [], ◌∷◌, ◌++◌, refl, sym, ap, subst, ◌∙◌, append_assoc, Option, Some, inl, inr}
use Rattle.cg_text.specs.Bytes.{HasByte}
use Rattle.cg_text.specs.Texts.{Next}
use Rattle.cg_text.specs.TextsLaws.{lacks_both}
use Rattle.cg_value.specs.PathLaws.{path_lacks_newline, path_lacks_nul}
use Rattle.cg_value.specs.Records.{records}
use Rattle.cg_value.specs.declared.profile.Profile.{Profile}
use Rattle.cg_snap.specs.Begun.{IsBegun, IsRecordEnd}
use Rattle.cg_snap.specs.GoingOn.{IsBlockOf, IsPassed, IsWanted, Told, block_limits}
use Rattle.cg_snap.specs.GoingOnState.{EndsInLine, IsPassingOver, IsReading}
use Rattle.cg_snap.specs.RecordPlace.{IsRecordPlace}
use Rattle.cg_snap.specs.Snap.{Snap}
use Rattle.cg_snap.specs.declared.going_on_records.GoingOnRecords.{GoingOnRecords}
use Rattle.cg_snap.specs.declared.limits.Limits.{Limits}
use Rattle.cg_snap.proofs.Closes.{records_end}
use Rattle.cg_snap.proofs.GoingOnEnds.{passing_cut}
use Rattle.cg_snap.proofs.GoingOnMoves.{record_end_both}
use Rattle.cg_snap.proofs.GoingOnStates.{passing_blocks, passing_left, reading_present}

-- A record behind whole lines.
begun_behind : (front block begun : List ℕ) → IsRecordEnd front → IsBegun block begun → IsBegun (front ++ block) begun
begun_behind front block begun e h = record {
  front = front ++ h.front;
  split = ap (λ (t : List ℕ). front ++ t) h.split ∙ sym (append_assoc front h.front begun);
  ended = record_end_both front h.front e h.ended;
  plain = h.plain;
}

pub place_behind : (front block path : List ℕ) (in_line : Bool) → IsRecordEnd front → IsRecordPlace block path in_line → IsRecordPlace (front ++ block) path in_line
place_behind front block path true e h = (h.0, h.1, begun_behind front block (path ++ 0 ∷ h.0) e h.2)
place_behind front block path false e h = (h.0, begun_behind front block path e h.1)

module _ (profile : Profile) (limits : Limits) (s : GoingOnRecords) (p : List ℕ) (told : List Told) where
  -- In the rest of a line that is passed over.
  pub passing_is : (h : IsPassingOver s profile limits p told) → IsPassed profile limits p s.left_out
  passing_is h = subst (IsPassed profile limits p) (sym h.kept)
      (record { told = told; blocks = passing_blocks profile limits s p told h; left_out = passing_left profile limits s p told h; in_line = passing_cut profile limits s p told h })

  pub passing_place : IsPassingOver s profile limits p told → (path : List ℕ) → s.left_out ≡ Some path → IsRecordPlace p path true
  passing_place h path e =
      let same : h.block.path ≡ Some path = sym h.kept ∙ e in
      let i : EndsInLine (Some path) h.block.bytes = subst (λ (o : Option (List ℕ)). EndsInLine o h.block.bytes) same h.in_line in
      let b : IsBlockOf limits.max_record (Some path) h.block.bytes = subst (λ (o : Option (List ℕ)). IsBlockOf limits.max_record o h.block.bytes) same h.follows.is_block in
      let begun : IsBegun h.block.bytes (path ++ 0 ∷ i.1) = record {
        front = records path i.0;
        split = i.4;
        ended = records_end path [] i.0 (inl refl);
        plain = lacks_both 10 path (0 ∷ i.1) (path_lacks_newline path b.0) ((λ z. absurd (cc)), i.3);
      } in
      (i.1, path_lacks_nul path b.0, subst (λ (t : List ℕ). IsBegun t (path ++ 0 ∷ i.1)) (sym h.split) (begun_behind h.front h.block.bytes (path ++ 0 ∷ i.1) h.follows.ended begun))

  -- In a block that is read.
  pub reading_place : (h : IsReading s profile limits p told) (path : List ℕ) (in_line : Bool) → IsRecordPlace h.block path in_line → IsRecordPlace p path in_line
  reading_place h path in_line x = subst (λ (t : List ℕ). IsRecordPlace t path in_line) (sym h.split) (place_behind h.front h.block path in_line h.ended x)

  pub passing_wanted : IsPassingOver s profile limits p told → (set : List Bool) → ((byte : ℕ) → HasByte set byte ↔ (byte < 256)) → IsWanted profile limits p set
  passing_wanted h set w = inl ((s.left_out, passing_is h), w)

  pub reading_wanted : (h : IsReading s profile limits p told) → s.meter.limits ≡ block_limits limits → (set : List Bool) → ((byte : ℕ) → HasByte set byte ↔ Next (Snap profile) h.block byte) → IsWanted profile limits p set
  reading_wanted h m set w = inr (h.block, reading_present profile limits s p told m h, w)
