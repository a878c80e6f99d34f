-- Texts of which a repetition can be made, by their parts.
use Rattle.std.proofs.Common.{◌≡◌, ℕ, ◌≤◌, ◌↔◌, false, List, [], ◌∷◌, ◌++◌, refl, sym, ◌∙◌, ap, arith}
use Rattle.cg_text.specs.Keyword.{text_of}
use Rattle.cg_text.specs.KeywordLaws.{keyword_bytes}
use Rattle.cg_text.specs.Token.{AreBytes}
use Rattle.cg_text.specs.declared.keyword.Keyword.{Keyword}
use Rattle.cg_text.specs.declared.keyword.Keyword.TheVariants as keyword
use Rattle.cg_join.specs.ApartLaws.{label_apart, fixed_apart}
use Rattle.cg_join.specs.ByteLaws.{sequence_bytes}
use Rattle.cg_join.specs.Composites.{IsADevice, IsLimitIn, IsAnyNumber, IsNumberIn, IsDeviceTarget}
use Rattle.cg_join.specs.DeviceLaws.{IsMajor, IsColon, IsMinor, colon_apart, major_apart, device_is, device_of}
use Rattle.cg_join.specs.DeviceState.{numbers_of}
use Rattle.cg_join.specs.Join.{IsPair}
use Rattle.cg_join.specs.LackingLaws.{device_lacking}
use Rattle.cg_join.specs.LimitLaws.{limit_is}
use Rattle.cg_join.specs.LimitState.{limit_of}
use Rattle.cg_join.specs.MaxLaws.{max_not_decimal}
use Rattle.cg_join.specs.Proper.{IsProper}
use Rattle.cg_join.specs.SequenceLaws.{sequence_one, both_same}
use Rattle.cg_join.specs.Spelling.{IsConcat, IsEither, IsMappedText, Apart, Disjoint}
use Rattle.cg_join.specs.StartLaws.{some_decimal, one_decimal, decimal_bytes}
use Rattle.cg_join.specs.TextBytes.{IsFixed}
use Rattle.cg_join.specs.declared.choice.Either.{Either}
use Rattle.cg_join.specs.declared.choice.Either.TheVariants.{Left, Right}

pub decimal_proper : (lo hi : ℕ) → lo ≤ hi → IsProper (IsNumberIn lo hi)
decimal_proper lo hi le = record { some_text = some_decimal lo hi le; one_text = one_decimal lo hi; text_bytes = decimal_bytes lo hi }

pub fixed_proper : (fixed : List ℕ) → AreBytes fixed → IsProper (IsFixed fixed)
fixed_proper fixed bytes = record { some_text = (fixed, tt, refl); one_text = λ text v w h k. refl; text_bytes = λ text v h. rw h bytes }

pub keyword_proper : (keyword : Keyword) → IsProper (IsFixed (text_of keyword))
keyword_proper keyword = fixed_proper (text_of keyword) (keyword_bytes keyword)

pub space_proper : IsProper (IsFixed (32 ∷ []))
space_proper = fixed_proper (32 ∷ []) (omega arith, tt)

-- Texts by a relation that holds alike.
pub proper_as : {V : Type 0} {R Q : List ℕ → V → Type 0} → ((text : List ℕ) (v : V) → R text v ↔ Q text v) → IsProper R → IsProper Q
proper_as e r = record {
  some_text = (let s = r.some_text in (s.0, s.1, (e s.0 s.1).0 s.2));
  one_text = λ text v w h k. r.one_text text v w ((e text v).1 h) ((e text w).1 k);
  text_bytes = λ text v h. r.text_bytes text v ((e text v).1 h);
}

module _ {V W : Type 0} {R : List ℕ → V → Type 0} {Q : List ℕ → W → Type 0} where
  pair_of : (text : List ℕ) (v : V × W) → IsConcat R Q text v → IsPair (λ (u : Unit {0}). R) (λ (u : Unit {0}). Q) tt tt text v.0 v.1
  pair_of text v h = record { front = h.front; back = h.back; whole = h.whole; begins = h.begins; ends = h.ends }

  pub concat_proper : IsProper R → IsProper Q → Apart R Q → IsProper (IsConcat R Q)
  concat_proper r q apart = record {
    some_text = (let s = r.some_text in let t = q.some_text in (s.0 ++ t.0, (s.1, t.1), record { front = s.0; back = t.0; whole = refl; begins = s.2; ends = t.2 }));
    one_text = λ text v w h k. both_same (sequence_one (λ (u : Unit {0}). R) (λ (u : Unit {0}). Q) false tt tt (λ e. apart) r.one_text q.one_text text v.0 w.0 v.1 w.1 (pair_of text v h) (pair_of text w k));
    text_bytes = λ text v h. sequence_bytes (λ (u : Unit {0}). R) (λ (u : Unit {0}). Q) false tt tt r.text_bytes q.text_bytes text v.0 v.1 (pair_of text v h);
  }

  either_one : IsProper R → IsProper Q → Disjoint R Q → (text : List ℕ) (v w : Either V W) → IsEither R Q text v → IsEither R Q text w → v ≡ w
  either_one r q none text (Left v) (Left w) h k = ap Left (r.one_text text v w h k)
  either_one r q none text (Left v) (Right w) h k = absurd (none text v w h k)
  either_one r q none text (Right v) (Left w) h k = absurd (none text w v k h)
  either_one r q none text (Right v) (Right w) h k = ap Right (q.one_text text v w h k)

  either_bytes : IsProper R → IsProper Q → (text : List ℕ) (v : Either V W) → IsEither R Q text v → AreBytes text
  either_bytes r q text (Left v) h = r.text_bytes text v h
  either_bytes r q text (Right w) h = q.text_bytes text w h

  pub either_proper : IsProper R → IsProper Q → Disjoint R Q → IsProper (IsEither R Q)
  either_proper r q none = record {
    some_text = (let s = r.some_text in (s.0, Left s.1, s.2));
    one_text = either_one r q none;
    text_bytes = either_bytes r q;
  }

-- A text after a fixed one.
pub label_proper : {W : Type 0} {Q : List ℕ → W → Type 0} {fixed : List ℕ} → IsProper (IsFixed fixed) → IsProper Q → IsProper (IsConcat (IsFixed fixed) Q)
label_proper {Q = Q} {fixed = fixed} f q = concat_proper f q (fixed_apart fixed Q)

module _ {V : Type 0} {R : List ℕ → V → Type 0} where
  pub mapped_text_proper : {W : Type 0} (f : V → W) → IsProper R → IsProper (IsMappedText R f)
  mapped_text_proper f r = record {
    some_text = (let s = r.some_text in (s.0, f s.1, (s.1, s.2, refl)));
    one_text = λ text v w h k. sym h.2 ∙ ap f (r.one_text text h.0 k.0 h.1 k.1) ∙ k.2;
    text_bytes = λ text w h. r.text_bytes text h.0 h.1;
  }

pub limit_proper : (lo hi : ℕ) → lo ≤ hi → IsProper (IsLimitIn lo hi)
limit_proper lo hi le =
    proper_as (limit_is lo hi) (mapped_text_proper limit_of (either_proper (decimal_proper lo hi le) (keyword_proper keyword.Max) (λ text n u h k. max_not_decimal lo hi n text k h)))

numbers_proper : IsProper (IsConcat IsMajor (IsConcat IsColon IsMinor))
numbers_proper = concat_proper (decimal_proper 0 4095 (omega arith)) (concat_proper (fixed_proper (58 ∷ []) (omega arith, tt)) (decimal_proper 0 1048575 (omega arith)) colon_apart) major_apart

pub device_proper : IsProper IsADevice
device_proper = record {
  some_text = (let s = numbers_proper.some_text in (s.0, device_of s.1, (device_is s.0 (device_of s.1)).0 s.2));
  one_text = λ text v w h k. ap device_of (numbers_proper.one_text text (numbers_of v) (numbers_of w) ((device_is text v).1 h) ((device_is text w).1 k));
  text_bytes = λ text v h. numbers_proper.text_bytes text (numbers_of v) ((device_is text v).1 h);
}

any_number_proper : IsProper IsAnyNumber
any_number_proper = decimal_proper 0 18446744073709551615 (omega arith)

pub device_target_proper : IsProper IsDeviceTarget
device_target_proper = concat_proper device_proper (label_proper (keyword_proper keyword.Target) any_number_proper) (label_apart (device_lacking 32 (omega arith)))
