-- What holds of the lines of weights.
use Rattle.std.proofs.Common.{◌≡◌, ℕ, ◌↔◌, List, [], ◌∷◌, ◌++◌, Option, Some, None, refl, sym, ◌∙◌, append_assoc, codes, arith}
use Rattle.cg_text.specs.Device.{IsDevice}
use Rattle.cg_text.specs.Keyword.{text_of}
use Rattle.cg_text.specs.declared.keyword.Keyword.TheVariants as word
use Rattle.cg_text.specs.declared.values.Device.{Device}
use Rattle.cg_join.specs.ApartLaws.{label_apart}
use Rattle.cg_join.specs.CutLaws.{parts_is}
use Rattle.cg_join.specs.DisjointLaws.{device_has, first_has, lacking_disjoint}
use Rattle.cg_join.specs.LackingLaws.{concat_lacking, device_lacking, either_lacking, fixed_lacking}
use Rattle.cg_join.specs.Spelling.{Apart, Disjoint, IsConcat}
use Rattle.cg_join.specs.TextBytes.{IsFixed, Lacking}
use Rattle.cg_join.specs.declared.choice.Either.{Either}
use Rattle.cg_join.specs.declared.choice.Either.TheVariants.{Left, Right}
use Rattle.cg_value.specs.Lines.{IsLineOf}
use Rattle.cg_value.specs.WriteLine.{IsWeightSetting}
use Rattle.cg_value.specs.declared.setting.Setting.{Setting}
use Rattle.cg_value.specs.declared.setting.Setting.TheVariants as setting
use Rattle.cg_write.specs.Texts.{IsAnyWeight, IsChosen, IsDefault, IsDeviceAndWeight}
use Rattle.cg_write.specs.Mapped.{weight_of}
use Rattle.cg_write.specs.ChosenWeightLaws.{chosen_lacking}
use Rattle.cg_write.specs.DefaultWeightLaws.{default_lacking}

weight_from : (most : ℕ) (text : List ℕ) (v : Either ℕ (Device × (Unit {0} × Option ℕ))) → IsAnyWeight most text v → IsWeightSetting most (weight_of v) text
weight_from most text (Left n) h = h
weight_from most text (Right v) h = device_from most text v.0 v.1.1 ((parts_is (codes " ") (IsChosen most) (λ t d. IsDevice d t) text v).0 h)
  where
    device_from : (most : ℕ) (text : List ℕ) (device : Device) (w : Option ℕ) → (front : List ℕ) × (back : List ℕ) × (text ≡ front ++ codes " " ++ back) × IsDevice device front × IsChosen most back w → IsWeightSetting most (setting.DeviceWeight device w) text
    device_from most text device None k = (k.0, (rw k.4 at k.2) ∙ append_assoc k.0 (codes " ") (codes "default"), k.3)
    device_from most text device (Some n) k = record { front = k.0; back = k.1; text_is = k.2; front_is = k.3; back_is = k.4 }

weight_to : (most : ℕ) (s : Setting) (text : List ℕ) → IsWeightSetting most s text → IsLineOf (λ v l. IsAnyWeight most l v) weight_of s text
weight_to most (setting.DefaultWeight n) text h = record { x = Left n; value = refl; spelled = h }
weight_to most (setting.DeviceWeight device None) text h = record {
  x = Right (device, (tt, None));
  value = refl;
  spelled = (parts_is (codes " ") (IsChosen most) (λ t d. IsDevice d t) text (device, (tt, None))).1 (h.0, codes "default", h.1 ∙ sym (append_assoc h.0 (codes " ") (codes "default")), h.2, refl);
}
weight_to most (setting.DeviceWeight device (Some n)) text h = record {
  x = Right (device, (tt, Some n));
  value = refl;
  spelled = (parts_is (codes " ") (IsChosen most) (λ t d. IsDevice d t) text (device, (tt, Some n))).1 (h.front, h.back, h.text_is, h.front_is, h.back_is);
}
weight_to most _ text h = absurd h

-- The lines, turned into settings.
pub weight_is : (most : ℕ) (s : Setting) (line : List ℕ) → IsWeightSetting most s line ↔ IsLineOf (λ v l. IsAnyWeight most l v) weight_of s line
weight_is most s line = (λ h. weight_to most s line h, λ h. rw h.value (weight_from most line h.x h.spelled))

-- ---- The side conditions

pub device_apart : (most : ℕ) → Apart (λ t d. IsDevice d t) (IsConcat (IsFixed (32 ∷ [])) (IsChosen most))
device_apart most = label_apart (device_lacking 32 (omega arith))

-- A device has a colon, and the default weight's lines have none.
pub default_no_device : (most : ℕ) → Disjoint (IsDefault most) (IsDeviceAndWeight most)
default_no_device most = lacking_disjoint (default_lacking most 58 (λ h k. omega (arith, h, k)) (fixed_lacking 58 (text_of word.Default) refl) (fixed_lacking 58 (32 ∷ []) refl)) (first_has device_has)

pub weight_lacking : (most : ℕ) → Lacking (IsAnyWeight most) 10
weight_lacking most = either_lacking
    (default_lacking most 10 (λ h k. omega (arith, h, k)) (fixed_lacking 10 (text_of word.Default) refl) (fixed_lacking 10 (32 ∷ []) refl))
    (concat_lacking (device_lacking 10 (omega arith)) (concat_lacking (fixed_lacking 10 (32 ∷ []) refl) (chosen_lacking most)))
