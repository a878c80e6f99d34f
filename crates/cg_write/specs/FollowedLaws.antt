-- What holds of the lines of a value that another may follow.
use Rattle.std.proofs.Common.{ℕ, ◌↔◌, List, Option, Some, None, refl, subst}
use Rattle.cg_join.specs.CutLaws.{alone_is, followed_is, parts_is}
use Rattle.cg_join.specs.Maybe.{IsMaybe}
use Rattle.cg_join.specs.Spelling.{IsConcat, IsMappedText}
use Rattle.cg_join.specs.TextBytes.{IsFixed}
use Rattle.cg_value.specs.Lines.{HasParts}
use Rattle.cg_write.specs.Mapped.{perhaps_both, second_of}

module _ {V W : Type 0} (P : V → List ℕ → Type 0) (mark : List ℕ) (Q : W → List ℕ → Type 0) where
  -- A text, and perhaps the mark and another text.
  abbrev pub Followed : List ℕ → V × Option (Unit {0} × W) → Type 0
  Followed text v = IsConcat (λ t v. P v t) (IsMaybe (IsConcat (IsFixed mark) (λ t w. Q w t))) text v

  -- The same, with the values alone.
  module _ (F : V → Option W → List ℕ → Type 0) (alone : (v : V) (text : List ℕ) → P v text ↔ F v None text) (both : (v : V) (w : W) (text : List ℕ) → HasParts P mark Q v w text ↔ F v (Some w) text) where
    followed_to : (text : List ℕ) (v : V) (w : Option (Unit {0} × W)) → Followed text (v, w) → F v (second_of w) text
    followed_to text v None h = (alone v text).0 ((alone_is (λ t v. P v t) (IsConcat (IsFixed mark) (λ t w. Q w t)) text v).0 h)
    followed_to text v (Some w) h =
        let k = (parts_is mark (λ t w. Q w t) (λ t v. P v t) text (v, w)).0 ((followed_is (λ t v. P v t) (IsConcat (IsFixed mark) (λ t w. Q w t)) text v w).0 h) in
        (both v w.1 text).0 record { front = k.0; back = k.1; text_is = k.2; front_is = k.3; back_is = k.4 }

    followed_from : (text : List ℕ) (v : V) (w : Option W) → F v w text → IsMappedText Followed perhaps_both text (v, w)
    followed_from text v None h = ((v, None), (alone_is (λ t v. P v t) (IsConcat (IsFixed mark) (λ t w. Q w t)) text v).1 ((alone v text).1 h), refl)
    followed_from text v (Some w) h =
        let k = (both v w text).1 h in (
          (v, Some (tt, w)),
          (followed_is (λ t v. P v t) (IsConcat (IsFixed mark) (λ t w. Q w t)) text v
              (tt, w)).1 ((parts_is mark (λ t w. Q w t) (λ t v. P v t) text (v, (tt, w))).1
              (k.front, k.back, k.text_is, k.front_is, k.back_is)),
          refl,
        )

    pub perhaps_is : (text : List ℕ) (x : V × Option W) → IsMappedText Followed perhaps_both text x ↔ F (x.0) (x.1) text
    perhaps_is text x = (λ h. subst (λ y. F (y.0) (y.1) text) h.2 (followed_to text h.0.0 h.0.1 h.1), λ h. followed_from text x.0 x.1 h)
