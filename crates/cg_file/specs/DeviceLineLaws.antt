-- What holds of the lines of devices.
use Rattle.std.proofs.Common.{◌≡◌, ℕ, ◌≤◌, ◌↔◌, Bool, Option, List, [], ◌∷◌, ◌++◌, refl, ◌∙◌, append_assoc, arith, codes}
use Rattle.cg_text.specs.Decimal.{IsDecimal}
use Rattle.cg_text.specs.Device.{IsDeviceName}
use Rattle.cg_text.specs.Keyword.{text_of}
use Rattle.cg_text.specs.KeywordLaws.{keyword_bytes}
use Rattle.cg_text.specs.Limit.{IsLimit}
use Rattle.cg_text.specs.declared.keyword.Keyword.{Keyword}
use Rattle.cg_text.specs.declared.keyword.Keyword.TheVariants.{Rbps, Wbps, Riops, Wiops, Target}
use Rattle.cg_text.specs.declared.values.Device.{Device}
use Rattle.cg_text.specs.declared.values.Limit.{Limit}
use Rattle.cg_join.specs.ApartLaws.{label_apart, fixed_apart}
use Rattle.cg_join.specs.CutLaws.{parts_is}
use Rattle.cg_join.specs.LackingLaws.{device_name_lacking, decimal_lacking, fixed_lacking, limit_lacking, concat_lacking, mapped_text_lacking, keyword_lacking}
use Rattle.cg_join.specs.Line.{LacksByte}
use Rattle.cg_join.specs.Spelling.{IsConcat, IsMappedText, Apart}
use Rattle.cg_join.specs.TextBytes.{IsFixed, Lacking}
use Rattle.cg_value.specs.Kind.{any_u64}
use Rattle.cg_value.specs.Lines.{HasParts}
use Rattle.cg_value.specs.ReadLine.{IsTargetLine, IsLimitLine, IsWeightLine}
use Rattle.cg_value.specs.declared.value.LimitLine.{LimitLine}
use Rattle.cg_value.specs.declared.value.TargetLine.{TargetLine}
use Rattle.cg_value.specs.declared.value.WeightLine.{WeightLine}
use Rattle.cg_value.specs.declared.value.Value.{Value}
use Rattle.cg_value.specs.declared.value.Value.TheVariants.{DeviceLimits, DeviceTargets}
use Rattle.cg_file.specs.FourLaws.{AreTwo, AreThree, AreFour, IsLabelled, first_apart, second_apart, third_apart, four_to, four_from, four_startable, before_apart}
use Rattle.cg_file.specs.StartableLaws.{Startable, startable_as, mapped_text_startable, concat_startable, fixed_startable, decimal_startable, limit_startable, device_name_startable}

-- The texts of names of devices, and of numbers.
abbrev pub DeviceNameText : Bool → List ℕ → Option Device → Type 0
DeviceNameText kernel text device = IsDeviceName kernel device text

abbrev pub NumberText : ℕ → ℕ → List ℕ → ℕ → Type 0
NumberText lo hi text n = IsDecimal lo hi n text

-- Two texts with a mark between, turned into a value whose parts are theirs.
pub parts_mapped : {V W X : Type 0} (P : V → List ℕ → Type 0) (mark : List ℕ) (Q : W → List ℕ → Type 0) (make : V × (Unit {0} × W) → X) (first : X → V) (second : X → W) →
    ((v : V) (w : W) → first (make (v, (tt, w))) ≡ v) → ((v : V) (w : W) → second (make (v, (tt, w))) ≡ w) → ((x : X) → make (first x, (tt, second x)) ≡ x) →
    (text : List ℕ) (x : X) → IsMappedText (IsConcat (λ t v. P v t) (IsConcat (IsFixed mark) (λ t w. Q w t))) make text x ↔ HasParts P mark Q (first x) (second x) text
parts_mapped P mark Q make first second e f g text x = (
  λ h. (let k = (parts_is mark (λ t w. Q w t) (λ t v. P v t) text h.0).0 h.1 in
      rw (← h.2) record { front = k.0; back = k.1; text_is = k.2; front_is = rw (e (h.0.0) (h.0.1.1)) k.3; back_is = rw (f (h.0.0) (h.0.1.1)) k.4 }),
  λ h. ((first x, (tt, second x)), (parts_is mark (λ t w. Q w t) (λ t v. P v t) text (first x, (tt, second x))).1 (h.front, h.back, h.text_is, h.front_is, h.back_is), g x),
)

-- Texts by a relation that holds alike lack the same bytes.
pub lacking_as : {V : Type 0} {P R : List ℕ → V → Type 0} {b : ℕ} → ((text : List ℕ) (v : V) → P text v ↔ R text v) → Lacking P b → Lacking R b
lacking_as {b = b} e f = record { is = λ front more v h. f.is front more v ((e (front ++ b ∷ more) v).1 h) }

-- ---- Targets

abbrev pub target_line : Option Device × (Unit {0} × ℕ) → TargetLine
target_line v = record { device = v.0; target = v.1.1 }

abbrev pub targets_value : List TargetLine → Value
targets_value lines = DeviceTargets lines

module _ (kernel : Bool) where
  abbrev pub TargetParts : List ℕ → Option Device × (Unit {0} × ℕ) → Type 0
  TargetParts = IsConcat (DeviceNameText kernel) (IsConcat (IsFixed (text_of Target)) (NumberText 0 any_u64))

  pub target_is : (text : List ℕ) (line : TargetLine) → IsMappedText TargetParts target_line text line ↔ IsTargetLine kernel line text
  target_is = parts_mapped (IsDeviceName kernel) (codes " target=") (IsDecimal 0 any_u64) target_line (λ x. x.device) (λ x. x.target) (λ v w. refl) (λ v w. refl) (λ x. refl)

  pub target_apart : Apart (DeviceNameText kernel) (IsConcat (IsFixed (text_of Target)) (NumberText 0 any_u64))
  target_apart = label_apart (device_name_lacking 32 kernel (omega arith))

  pub target_startable : Startable (λ text line. IsTargetLine kernel line text)
  target_startable = startable_as target_is (mapped_text_startable target_line (concat_startable target_apart (device_name_startable kernel)
      (concat_startable (fixed_apart (text_of Target) (NumberText 0 any_u64)) (fixed_startable (text_of Target) (keyword_bytes Target)) (decimal_startable (omega arith)))))

  pub target_lacks : LacksByte (λ text line. IsTargetLine kernel line text) 10
  target_lacks = (lacking_as target_is (mapped_text_lacking (concat_lacking (device_name_lacking 10 kernel (omega arith)) (concat_lacking (keyword_lacking Target) (decimal_lacking 10 0 any_u64 (omega arith)))))).is

-- ---- Limits

abbrev pub FourLimits : Type 0
FourLimits = (Unit {0} × Limit) × ((Unit {0} × Limit) × ((Unit {0} × Limit) × (Unit {0} × Limit)))

abbrev pub limit_line : Option Device × FourLimits → LimitLine
limit_line v = record { device = v.0; rbps = v.1.0.1; wbps = v.1.1.0.1; riops = v.1.1.1.0.1; wiops = v.1.1.1.1.1 }

abbrev pub limits_value : List LimitLine → Value
limits_value lines = DeviceLimits lines

abbrev pub AnyLimit : List ℕ → Limit → Type 0
AnyLimit text v = IsLimit 0 any_u64 v text

abbrev pub LimitTexts : List ℕ → FourLimits → Type 0
LimitTexts = AreFour AnyLimit AnyLimit AnyLimit AnyLimit (codes "rbps=") (codes "wbps=") (codes "riops=") (codes "wiops=")

-- A text before four others.
before_row : (t p q r s a b c d text four : List ℕ) → text ≡ t ++ four → four ≡ p ++ a ++ q ++ b ++ r ++ c ++ s ++ d → text ≡ t ++ p ++ a ++ q ++ b ++ r ++ c ++ s ++ d
before_row t p q r s a b c d text four e f = e ∙ rw f (simp append_assoc)

after_row : (t p q r s a b c d : List ℕ) → t ++ p ++ a ++ q ++ b ++ r ++ c ++ s ++ d ≡ t ++ (p ++ a ++ q ++ b ++ r ++ c ++ s ++ d)
after_row t p q r s a b c d = simp append_assoc

spaceless : Lacking AnyLimit 32
spaceless = limit_lacking 32 0 any_u64 (omega arith)

pub limits_third : Apart (IsLabelled (codes " riops=") AnyLimit) (IsLabelled (codes " wiops=") AnyLimit)
limits_third = third_apart AnyLimit AnyLimit AnyLimit AnyLimit (codes "rbps=") (codes "wbps=") (codes "riops=") (codes "wiops=") spaceless

pub limits_second : Apart (IsLabelled (codes " wbps=") AnyLimit) (AreTwo AnyLimit AnyLimit AnyLimit AnyLimit (codes "rbps=") (codes "wbps=") (codes "riops=") (codes "wiops="))
limits_second = second_apart AnyLimit AnyLimit AnyLimit AnyLimit (codes "rbps=") (codes "wbps=") (codes "riops=") (codes "wiops=") spaceless

pub limits_first : Apart (IsLabelled (codes " rbps=") AnyLimit) (AreThree AnyLimit AnyLimit AnyLimit AnyLimit (codes "rbps=") (codes "wbps=") (codes "riops=") (codes "wiops="))
limits_first = first_apart AnyLimit AnyLimit AnyLimit AnyLimit (codes "rbps=") (codes "wbps=") (codes "riops=") (codes "wiops=") spaceless

any_startable : Startable AnyLimit
any_startable = limit_startable 0 any_u64 (omega arith)

labelled_limit : (label : Keyword) → Lacking (IsLabelled (text_of label) AnyLimit) 10
labelled_limit label = concat_lacking (keyword_lacking label) (limit_lacking 10 0 any_u64 (omega arith))

module _ (kernel : Bool) where
  limits_to : (text : List ℕ) (v : Option Device × FourLimits) → IsConcat (DeviceNameText kernel) LimitTexts text v → IsLimitLine kernel (limit_line v) text
  limits_to text v h =
      let k = four_to AnyLimit AnyLimit AnyLimit AnyLimit (codes "rbps=") (codes "wbps=") (codes "riops=") (codes "wiops=") h.back (v.1) h.ends in
      record {
        device = h.front;
        rbps = k.first;
        wbps = k.second;
        riops = k.third;
        wiops = k.fourth;
        line_is = before_row h.front (codes " rbps=") (codes " wbps=") (codes " riops=") (codes " wiops=") k.first k.second k.third k.fourth text h.back h.whole k.text_is;
        device_is = h.begins;
        rbps_is = k.first_is;
        wbps_is = k.second_is;
        riops_is = k.third_is;
        wiops_is = k.fourth_is;
      }

  limits_from : (text : List ℕ) (l : LimitLine) → IsLimitLine kernel l text → IsConcat (DeviceNameText kernel) LimitTexts text (l.device, ((tt, l.rbps), ((tt, l.wbps), ((tt, l.riops), (tt, l.wiops)))))
  limits_from text l h =
      let four = codes " rbps=" ++ h.rbps ++ codes " wbps=" ++ h.wbps ++ codes " riops=" ++ h.riops ++ codes " wiops=" ++ h.wiops in
      record {
        front = h.device;
        back = four;
        whole = h.line_is ∙ after_row h.device (codes " rbps=") (codes " wbps=") (codes " riops=") (codes " wiops=") h.rbps h.wbps h.riops h.wiops;
        begins = h.device_is;
        ends = four_from AnyLimit AnyLimit AnyLimit AnyLimit (codes "rbps=") (codes "wbps=") (codes "riops=") (codes "wiops=") four l.rbps l.wbps l.riops l.wiops record {
          first = h.rbps;
          second = h.wbps;
          third = h.riops;
          fourth = h.wiops;
          text_is = refl;
          first_is = h.rbps_is;
          second_is = h.wbps_is;
          third_is = h.riops_is;
          fourth_is = h.wiops_is;
        };
      }

  pub limits_is : (text : List ℕ) (line : LimitLine) → IsMappedText (IsConcat (DeviceNameText kernel) LimitTexts) limit_line text line ↔ IsLimitLine kernel line text
  limits_is text line = (
    λ h. rw (← h.2) (limits_to text h.0 h.1),
    λ h. ((line.device, ((tt, line.rbps), ((tt, line.wbps), ((tt, line.riops), (tt, line.wiops))))), limits_from text line h, refl),
  )

  pub device_before_limits : Apart (DeviceNameText kernel) LimitTexts
  device_before_limits = before_apart AnyLimit AnyLimit AnyLimit AnyLimit (codes "rbps=") (codes "wbps=") (codes "riops=") (codes "wiops=") (device_name_lacking 32 kernel (omega arith))

  pub limits_startable : Startable (λ text line. IsLimitLine kernel line text)
  limits_startable = startable_as limits_is (mapped_text_startable limit_line (concat_startable device_before_limits (device_name_startable kernel)
      (four_startable AnyLimit AnyLimit AnyLimit AnyLimit (codes "rbps=") (codes "wbps=") (codes "riops=") (codes "wiops=") (keyword_bytes Rbps).1 (keyword_bytes Wbps).1 (keyword_bytes Riops).1 (keyword_bytes Wiops).1
      spaceless spaceless spaceless any_startable any_startable any_startable any_startable)))

  pub limits_lack : LacksByte (λ text line. IsLimitLine kernel line text) 10
  limits_lack = (lacking_as limits_is (mapped_text_lacking (concat_lacking (device_name_lacking 10 kernel (omega arith))
      (concat_lacking (labelled_limit Rbps) (concat_lacking (labelled_limit Wbps) (concat_lacking (labelled_limit Riops) (labelled_limit Wiops))))))).is

-- ---- Weights

abbrev pub weight_line : Option Device × (Unit {0} × ℕ) → WeightLine
weight_line v = record { device = v.0; weight = v.1.1 }

module _ (most : ℕ) (kernel : Bool) where
  abbrev pub WeightParts : List ℕ → Option Device × (Unit {0} × ℕ) → Type 0
  WeightParts = IsConcat (DeviceNameText kernel) (IsConcat (IsFixed (32 ∷ [])) (NumberText 1 most))

  pub weight_is : (text : List ℕ) (line : WeightLine) → IsMappedText WeightParts weight_line text line ↔ IsWeightLine most kernel line text
  weight_is = parts_mapped (IsDeviceName kernel) (codes " ") (IsDecimal 1 most) weight_line (λ x. x.device) (λ x. x.weight) (λ v w. refl) (λ v w. refl) (λ x. refl)

  pub weight_apart : Apart (DeviceNameText kernel) (IsConcat (IsFixed (32 ∷ [])) (NumberText 1 most))
  weight_apart = label_apart (device_name_lacking 32 kernel (omega arith))

  pub weight_startable : 1 ≤ most → Startable (λ text line. IsWeightLine most kernel line text)
  weight_startable b = startable_as weight_is (mapped_text_startable weight_line (concat_startable weight_apart (device_name_startable kernel)
      (concat_startable (fixed_apart (32 ∷ []) (NumberText 1 most)) (fixed_startable (32 ∷ []) (omega arith, tt)) (decimal_startable b))))

  pub weight_lacks : LacksByte (λ text line. IsWeightLine most kernel line text) 10
  weight_lacks = (lacking_as weight_is (mapped_text_lacking (concat_lacking (device_name_lacking 10 kernel (omega arith)) (concat_lacking (fixed_lacking 10 (32 ∷ []) refl) (decimal_lacking 10 1 most (omega arith)))))).is
