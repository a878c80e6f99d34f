-- Texts of one value, by their parts.
use Rattle.std.proofs.Common.{ℕ, ◌↔◌, List, Some, None, refl, sym, ◌∙◌, ap, false}
use Rattle.cg_text.specs.Token.{HasOneText}
use Rattle.cg_join.specs.Maybe.{IsMaybe}
use Rattle.cg_join.specs.SequenceLaws.{sequence_one, both_same}
use Rattle.cg_join.specs.Spelling.{IsConcat, IsEither, IsMappedText, Apart, Disjoint}
use Rattle.cg_join.specs.TextBytes.{IsFixed, Filled}
use Rattle.cg_join.specs.declared.choice.Either.TheVariants.{Left, Right}

pub one_as : {V : Type 0} {P R : List ℕ → V → Type 0} → ((text : List ℕ) (v : V) → P text v ↔ R text v) → HasOneText P → HasOneText R
one_as e one text v w h k = one text v w ((e text v).1 h) ((e text w).1 k)

pub fixed_one : (fixed : List ℕ) → HasOneText (IsFixed fixed)
fixed_one fixed text v w h k = refl

pub mapped_text_one : {V W : Type 0} {R : List ℕ → V → Type 0} (f : V → W) → HasOneText R → HasOneText (IsMappedText R f)
mapped_text_one f one text v w h k = sym h.2 ∙ ap f (one text h.0 k.0 h.1 k.1) ∙ k.2

module _ {V W : Type 0} {R : List ℕ → V → Type 0} {Q : List ℕ → W → Type 0} where
  pub concat_one : Apart R Q → HasOneText R → HasOneText Q → HasOneText (IsConcat R Q)
  concat_one apart one two text v w h k = both_same (sequence_one (λ (u : Unit {0}). R) (λ (u : Unit {0}). Q) false tt tt (λ e. apart) one two text v.0 w.0 v.1 w.1
      (record { front = h.front; back = h.back; whole = h.whole; begins = h.begins; ends = h.ends })
      (record { front = k.front; back = k.back; whole = k.whole; begins = k.begins; ends = k.ends }))

  pub either_one : Disjoint R Q → HasOneText R → HasOneText Q → HasOneText (IsEither R Q)
  either_one none one two text (Left v) (Left w) h k = ap Left (one text v w h k)
  either_one none one two text (Left v) (Right w) h k = absurd (none text v w h k)
  either_one none one two text (Right v) (Left w) h k = absurd (none text w v k h)
  either_one none one two text (Right v) (Right w) h k = ap Right (two text v w h k)

pub maybe_one : {V : Type 0} {R : List ℕ → V → Type 0} → Filled R → HasOneText R → HasOneText (IsMaybe R)
maybe_one filled one text None None h k = refl
maybe_one filled one text None (Some w) h k = absurd (filled.is w (rw h at k))
maybe_one filled one text (Some v) None h k = absurd (filled.is v (rw k at h))
maybe_one filled one text (Some v) (Some w) h k = ap Some (one text v w h k)
