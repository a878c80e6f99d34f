-- What holds of the lines of devices.
use Rattle.std.proofs.Common.{ℕ, ◌↔◌, List, refl, subst}
use Rattle.cg_join.specs.CutLaws.{parts_is}
use Rattle.cg_join.specs.Spelling.{IsConcat, IsMappedText}
use Rattle.cg_join.specs.TextBytes.{IsFixed}
use Rattle.cg_value.specs.Lines.{HasParts}
use Rattle.cg_write.specs.Mapped.{both_of}

-- Two texts and a mark, turned into their values.
pub parts_are : {V W : Type 0} (P : V → List ℕ → Type 0) (mark : List ℕ) (Q : W → List ℕ → Type 0) (text : List ℕ) (x : V × W) →
    IsMappedText (IsConcat (λ t v. P v t) (IsConcat (IsFixed mark) (λ t w. Q w t))) both_of text x ↔ HasParts P mark Q (x.0) (x.1) text
parts_are {V} {W} P mark Q text x = (
  λ h. (let k = (parts_is mark (λ t w. Q w t) (λ t v. P v t) text h.0).0 h.1 in
      subst (λ (y : V × W). HasParts P mark Q (y.0) (y.1) text) h.2 record { front = k.0; back = k.1; text_is = k.2; front_is = k.3; back_is = k.4 }),
  λ h. ((x.0, (tt, x.1)), (parts_is mark (λ t w. Q w t) (λ t v. P v t) text (x.0, (tt, x.1))).1 (h.front, h.back, h.text_is, h.front_is, h.back_is), refl),
)
