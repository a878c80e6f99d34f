-- What the tokens of a repetition ask of the texts of one, by their parts.
use Rattle.std.proofs.Common.{◌≡◌, ◌≤◌, ℕ, ◌↔◌, Bool, true, false, List, [], ◌∷◌, refl, sym, ◌∙◌, ap, arith, codes}
use Rattle.cg_text.specs.Amount.{IsAmount}
use Rattle.cg_text.specs.Decimal.{IsDecimal}
use Rattle.cg_text.specs.Device.{IsDevice, IsDeviceName}
use Rattle.cg_text.specs.Hundredths.{IsHundredths}
use Rattle.cg_text.specs.HundredthsLaws.{hundredths_new, hundredths_completes, hundredths_one, hundredths_bytes}
use Rattle.cg_text.specs.HundredthsState.{WholePart}
use Rattle.cg_text.specs.KeywordLaws.{keyword_bytes}
use Rattle.cg_text.specs.Limit.{IsLimit}
use Rattle.cg_text.specs.Name.{IsNameValue}
use Rattle.cg_text.specs.Param.{IsParam}
use Rattle.cg_text.specs.Token.{AreBytes, HasOneText}
use Rattle.cg_text.specs.WordLaws.{words_bytes}
use Rattle.cg_text.specs.declared.decimal.Progress.TheVariants.{Start}
use Rattle.cg_text.specs.declared.hundredths.Spelling.TheVariants.{Read}
use Rattle.cg_text.specs.declared.hundredths.Part.TheVariants.{Whole}
use Rattle.cg_text.specs.declared.keyword.Keyword.TheVariants.{Max, Unknown}
use Rattle.cg_join.specs.AmountLaws.{whole_not_fraction, whole_apart, fraction_not_max, negated_apart, amount_is}
use Rattle.cg_join.specs.AmountState.{amount_of}
use Rattle.cg_join.specs.ApartLaws.{fixed_apart}
use Rattle.cg_join.specs.ByteLaws.{sequence_bytes}
use Rattle.cg_join.specs.DeviceLaws.{colon_apart, major_apart, device_is, device_of}
use Rattle.cg_join.specs.DeviceNameLaws.{device_not_gone, device_name_is}
use Rattle.cg_join.specs.DeviceNameState.{device_named}
use Rattle.cg_join.specs.DeviceState.{numbers_of}
use Rattle.cg_join.specs.Join.{IsPair}
use Rattle.cg_join.specs.LimitLaws.{limit_is}
use Rattle.cg_join.specs.LimitState.{limit_of}
use Rattle.cg_join.specs.MaxLaws.{max_not_decimal}
use Rattle.cg_join.specs.ParamLaws.{IsName, name_not_number, param_is}
use Rattle.cg_join.specs.ParamState.{param_of}
use Rattle.cg_join.specs.SequenceLaws.{sequence_completes, sequence_one, both_same}
use Rattle.cg_join.specs.Spelling.{IsAllowed, IsConcat, IsEither, IsMappedText, Apart, Disjoint}
use Rattle.cg_join.specs.StartLaws.{some_decimal, one_decimal, decimal_bytes}
use Rattle.cg_join.specs.TextBytes.{IsFixed}
use Rattle.cg_join.specs.declared.choice.Either.{Either}
use Rattle.cg_join.specs.declared.choice.Either.TheVariants.{Left, Right}

-- There is a text, a text has one value, and a text holds bytes.
pub record Startable {V : Type 0} (R : List ℕ → V → Type 0) : Type 0 where
  pub some : (text : List ℕ) × (v : V) × R text v
  pub one : HasOneText R
  pub bytes : (text : List ℕ) (v : V) → R text v → AreBytes text

-- The same of texts by a relation that holds alike.
pub startable_as : {V : Type 0} {P R : List ℕ → V → Type 0} → ((text : List ℕ) (v : V) → P text v ↔ R text v) → Startable P → Startable R
startable_as e a = record {
  some = (let s = a.some in (s.0, s.1, (e s.0 s.1).0 s.2));
  one = λ text v w h k. a.one text v w ((e text v).1 h) ((e text w).1 k);
  bytes = λ text v h. a.bytes text v ((e text v).1 h);
}

pub mapped_text_startable : {V W : Type 0} {R : List ℕ → V → Type 0} (f : V → W) → Startable R → Startable (IsMappedText R f)
mapped_text_startable f a = record {
  some = (let s = a.some in (s.0, f s.1, (s.1, s.2, refl)));
  one = λ text v w h k. sym h.2 ∙ ap f (a.one text h.0 k.0 h.1 k.1) ∙ k.2;
  bytes = λ text w h. a.bytes text h.0 h.1;
}

-- The relation as what is left of a state.
abbrev state : {V : Type 0} → (List ℕ → V → Type 0) → Unit {0} → List ℕ → V → Type 0
state R _ text v = R text v

module _ {V W : Type 0} {R : List ℕ → V → Type 0} {Q : List ℕ → W → Type 0} where
  pair_of : (text : List ℕ) (v : V × W) → IsConcat R Q text v → IsPair (state R) (state Q) tt tt text v.0 v.1
  pair_of text v h = record { front = h.front; back = h.back; whole = h.whole; begins = h.begins; ends = h.ends }

  pub concat_startable : Apart R Q → Startable R → Startable Q → Startable (IsConcat R Q)
  concat_startable apart a b = record {
    some = (let s = sequence_completes (state R) (state Q) false tt tt (λ e. absurd (let f : false ≡ true = e in cc)) a.some b.some in
        (s.0, s.1, record { front = s.2.front; back = s.2.back; whole = s.2.whole; begins = s.2.begins; ends = s.2.ends }));
    one = λ text v w h k. both_same (sequence_one (state R) (state Q) false tt tt (λ _. apart) a.one b.one text v.0 w.0 v.1 w.1 (pair_of text v h) (pair_of text w k));
    bytes = λ text v h. sequence_bytes (state R) (state Q) false tt tt a.bytes b.bytes text v.0 v.1 (pair_of text v h);
  }

  pub either_startable : Disjoint R Q → Startable R → Startable Q → Startable (IsEither R Q)
  either_startable none a b = record {
    some = (let s = a.some in (s.0, Left s.1, s.2));
    one = one_either;
    bytes = either_bytes;
  }
    where
      one_either : (text : List ℕ) (v w : Either V W) → IsEither R Q text v → IsEither R Q text w → v ≡ w
      one_either text (Left v) (Left w) h k = ap Left (a.one text v w h k)
      one_either text (Left v) (Right w) h k = absurd (none text v w h k)
      one_either text (Right v) (Left w) h k = absurd (none text w v k h)
      one_either text (Right v) (Right w) h k = ap Right (b.one text v w h k)

      either_bytes : (text : List ℕ) (v : Either V W) → IsEither R Q text v → AreBytes text
      either_bytes text (Left v) h = a.bytes text v h
      either_bytes text (Right w) h = b.bytes text w h

  -- Where the other is allowed, or not.
  pub conditional_startable : (allowed : Bool) → Disjoint R Q → Startable R → Startable Q → Startable (IsEither R (IsAllowed allowed Q))
  conditional_startable allowed none a b =
      let either = either_startable none a b in
      record {
        some = (let s = a.some in (s.0, Left s.1, s.2));
        one = λ text v w h k. either.one text v w (as_allowed text v h) (as_allowed text w k);
        bytes = λ text v h. either.bytes text v (as_allowed text v h);
      }
    where
      as_allowed : (text : List ℕ) (v : Either V W) → IsEither R (IsAllowed allowed Q) text v → IsEither R Q text v
      as_allowed text (Left v) h = h
      as_allowed text (Right w) h = h.1

pub fixed_startable : (fixed : List ℕ) → AreBytes fixed → Startable (IsFixed fixed)
fixed_startable fixed bytes = record {
  some = (fixed, tt, refl);
  one = λ text v w h k. refl;
  bytes = λ text v h. rw h bytes;
}

pub decimal_startable : {lo hi : ℕ} → lo ≤ hi → Startable (λ text n. IsDecimal lo hi n text)
decimal_startable {lo} {hi} le = record { some = some_decimal lo hi le; one = one_decimal lo hi; bytes = decimal_bytes lo hi }

pub limit_startable : (lo hi : ℕ) → lo ≤ hi → Startable (λ text v. IsLimit lo hi v text)
limit_startable lo hi le =
    startable_as (limit_is lo hi) (mapped_text_startable limit_of (either_startable (λ text n u h k. max_not_decimal lo hi n text k h) (decimal_startable le) (fixed_startable (codes "max") (keyword_bytes Max))))

pub hundredths_startable : (most : ℕ) → Startable (λ text h. IsHundredths Read most h text)
hundredths_startable most = startable_as (hundredths_new Read most (WholePart most Start) (λ x n. (λ h. h, λ h. h)))
    record {
      some = hundredths_completes Read most (Whole Start) refl;
      one = hundredths_one Read most (Whole Start);
      bytes = hundredths_bytes Read most (Whole Start);
    }

pub amount_startable : (signed : Bool) → Startable (λ text v. IsAmount signed v text)
amount_startable signed = startable_as (amount_is signed) (mapped_text_startable amount_of (conditional_startable signed negated_apart
    (either_startable whole_apart (decimal_startable (omega arith)) (either_startable fraction_not_max (hundredths_startable 99999999999) (fixed_startable (codes "max") (keyword_bytes Max))))
    (concat_startable (fixed_apart (45 ∷ []) (λ text n. IsDecimal 1 2147483648 n text)) (fixed_startable (45 ∷ []) (omega arith, tt)) (decimal_startable (omega arith)))))

pub device_startable : Startable (λ text device. IsDevice device text)
device_startable =
    let a = concat_startable major_apart (decimal_startable (omega arith)) (concat_startable colon_apart (fixed_startable (58 ∷ []) (omega arith, tt)) (decimal_startable (omega arith))) in
    startable_as device_is record {
      some = (let s = a.some in (s.0, device_of s.1, s.2));
      one = λ text v w h k. ap device_of (a.one text (numbers_of v) (numbers_of w) h k);
      bytes = λ text v h. a.bytes text (numbers_of v) h;
    }

pub device_name_startable : (unknown : Bool) → Startable (λ text device. IsDeviceName unknown device text)
device_name_startable unknown =
    startable_as (device_name_is unknown) (mapped_text_startable device_named (conditional_startable unknown device_not_gone device_startable (fixed_startable (codes "(unknown)") (keyword_bytes Unknown))))

name_bytes : (text : List ℕ) → IsNameValue text → AreBytes text
name_bytes [] h = absurd h
name_bytes (c ∷ cs) h = words_bytes (c ∷ cs) h.1.1

name_startable : Startable IsName
name_startable = record {
  some = (97 ∷ [], 97 ∷ [], (refl, ((omega arith, omega arith), (omega arith, ((omega arith, omega arith, (λ e. omega (arith, e))), tt)))));
  one = λ text v w h k. h.0 ∙ sym k.0;
  bytes = λ text name h. name_bytes text h.1;
}

pub param_startable : Startable (λ text v. IsParam v text)
param_startable = startable_as param_is (mapped_text_startable param_of (either_startable name_not_number name_startable
    (either_startable whole_not_fraction (decimal_startable (omega arith)) (hundredths_startable 99999999999))))
